-- Ids that are given to what the slots of a stage hold are in order.
use Rattle.std.proofs.Common.{◌≡◌, ℕ, ◌-◌, ◌<◌, ◌≤◌, true, Option, Some, None, List, ◌++◌, filter, length, get_or, IsTrue, Contains, inl, inr, refl, sym, ◌∙◌, subst, ap, arith}
use Rattle.std.specs.Prelude.{All, AllPairs}
use Rattle.std.proofs.lemmas.Bool.{cases_order, false_from_ne_true}
use Rattle.std.proofs.lemmas.List.{get_or_default}
use Rattle.std.proofs.lemmas.List.Elements.{Contains-append_cases}
use Rattle.std.proofs.lemmas.List.Kept.{AllPairs-filter}
use Rattle.slot_order.specs.Order.{slot}
use Rattle.slot_order.proofs.Lists.{in_filter, filter_in}
use Rattle.slot_pool.specs.Arrangement.{Slots}
use Rattle.rule_model.proofs.CommonKeys.{pieces_meet-is}
use Rattle.rule_model.proofs.Pairs.{pairs_append}
use Rattle.rule_model.specs.declared.Rule.{Rule}
use Rattle.rule_model.specs.declared.Piece.{Piece}
use Rattle.rule_model.specs.Piece.{pieces_meet}
use Rattle.rule_model.specs.Rule.{AreConditions}
use Rattle.rule_store.specs.declared.Mode.{Mode}
use Rattle.rule_store.specs.declared.Command.{Command}
use Rattle.rule_store.specs.Batch.{additions}
use Rattle.rule_model.specs.declared.words.Entry.{Entry}
use Rattle.rule_model.specs.Entry.{RankedPiece, entry_for, same_match}
use Rattle.placement.specs.declared.LivePiece.{LivePiece}
use Rattle.placement.specs.Live.{is_above}
use Rattle.placement.proofs.Above.{above_is, live_is}
use Rattle.tcam_device.specs.State.{State, state_after, on_device}
use Rattle.tcam_device.proofs.One.{same_match-same}
use Rattle.tcam_device.proofs.Wider.{slot-padded}
use Rattle.commit_writes.specs.Bits.{FieldBits, bits_with}
use Rattle.commit_writes.specs.Planned.{IdEntries, AreArranged, AreEntriesOf, entry_at, held_entry}
use Rattle.commit_writes.specs.Serving.{AreServing}
use Rattle.commit_writes.specs.Shape.{rewritten_pieces, fresh_writes}
use Rattle.commit_writes.proofs.BatchPieces.{inserted_once, rewritten_once}
use Rattle.commit_writes.proofs.BatchRules.{IsSoundChange}
use Rattle.commit_writes.proofs.Filters.{all_from}
use Rattle.commit_writes.proofs.ServedTables.{tables_serve}
use Rattle.commit_writes.proofs.SetPieces.{pieces_once}
use Rattle.readback.specs.Tasks.{CommitPieces, Task, commit_pieces, known_pieces, changes_result, is_told_in, IsTold}
use Rattle.readback.specs.Stage.{IsCommitAt}
use Rattle.readback.specs.Going.{twin_writes}
use Rattle.readback.proofs.Begun.{begun, change_of}
use Rattle.readback.proofs.Facts.{ArePieces, IsSame}
use Rattle.readback.proofs.Pieces.{pieces_are, served}
use Rattle.readback.proofs.Rest.{untwinned_by}
use Rattle.readback.proofs.Rewriting.{HasNoTwin}
use Rattle.readback.proofs.Tests.{told_is, told_from}
use Rattle.readback.specs.Standing.{AreReadIds, HaveStandingIds, StagesHaveStandingIds}
use Rattle.readback.proofs.PlannedRests.{slot_contents}
use Rattle.readback.proofs.Same.{stage_on, twin_on}
use Rattle.readback.proofs.StandingIds.{same_match_of}

-- a slot that holds an entry has an id with that entry
id_there : (entries : IdEntries) (slots : Slots) (at : ℕ) (entry : Entry) (id : Option ℕ) → slot slots at ≡ id → held_entry entries id ≡ Some entry → (own : ℕ) × (slot slots at ≡ Some own) × (entry_at entries own ≡ Some entry)
id_there entries slots at entry None is none = absurd (cc)
id_there entries slots at entry (Some own) is has = (own, is, has)

module _ (mode : Mode) (bits : FieldBits) (rules : List Rule) (batch : List Command) (change : IsSoundChange rules batch) (behind : State) (serving : AreServing mode (bits_with mode rules batch bits) (rules ++ additions batch) behind)
    (size : ℕ) (state : State) (done left : List Task) (stage : IsCommitAt size mode bits rules batch state done left) (alone : HasNoTwin state)
    (live : List LivePiece) (slots : Slots) (entries : IdEntries) (ids : AreReadIds (commit_pieces mode bits rules batch) state.slots live slots entries) where
  abbrev p : CommitPieces
  p = commit_pieces mode bits rules batch

  abbrev during : FieldBits
  during = bits_with mode rules batch bits

  facts : ArePieces p
  facts = pieces_are mode bits rules batch change behind serving

  abbrev Apart : RankedPiece → RankedPiece → Type 0
  Apart a b = a.rank ≡ b.rank → a.piece ≡ b.piece → ⊥

  -- one piece stands in one slot
  one_slot : (i j : ℕ) (a b : Entry) → slot state.slots i ≡ Some a → slot state.slots j ≡ Some b → IsTrue (same_match a b) → IsTrue (same_match b a) → i ≡ j
  one_slot i j a b here there same mirrored = elim (cases_order i j) [
    | inl is ↦ is
    | inr other ↦ absurd (elim other [
      | inl less ↦ alone j (i, record { less = less; first = a; second = b; here = here; there = there; same = same })
      | inr more ↦ alone i (j, record { less = more; first = b; second = a; here = there; there = here; same = mirrored })
    ])
  ]

  -- so with one result
  one_result : (a b : RankedPiece) → IsTold state a → IsTold state b → IsSame a b → a.result ≡ b.result
  one_result a b (i, here) (j, there) same =
      let is = one_slot i j (entry_for a) (entry_for b) here there (same_match_of a b same) (same_match_of b a (sym same.0, sym same.1)) in
      let z : Some (entry_for a) ≡ Some (entry_for b) = sym here ∙ (ap (slot state.slots) is ∙ there) in
      ap (λ (e : Entry). e.result) (let w : entry_for a ≡ entry_for b = cc in w)

  -- the pieces that stand
  abbrev standing : List RankedPiece
  standing = filter (λ x. is_told_in state.slots x) (known_pieces p)

  known : (x : RankedPiece) → Contains standing x → Contains (known_pieces p) x × IsTold state x
  known x member = let w = in_filter (λ y. is_told_in state.slots y) (known_pieces p) x member in (w.0, told_is state x w.1)

  is_standing : (x : RankedPiece) → Contains (known_pieces p) x → IsTold state x → Contains standing x
  is_standing x member is = filter_in (λ y. is_told_in state.slots y) (known_pieces p) x member (told_from state x is)

  -- no two of them are one piece of one rank
  abbrev ApartTold : RankedPiece → RankedPiece → Type 0
  ApartTold a b = IsTold state a → IsTold state b → Apart a b

  known_apart : AllPairs ApartTold (known_pieces p)
  known_apart =
      pairs_append ApartTold p.old (p.inserted ++ p.rewritten) (λ i j d less inside told_a told_b. pieces_once mode during rules change.is_set i j d less inside)
      (pairs_append ApartTold p.inserted p.rewritten (λ i j d less inside told_a told_b. inserted_once mode during rules batch change i j d less inside)
      (AllPairs-filter ApartTold (changes_result rules) (rewritten_pieces mode during rules batch) (λ i j d less inside told_a told_b. rewritten_once mode during rules batch change i j d less inside))
      (all_from (λ a. All (λ b. ApartTold a b) p.rewritten) p.inserted (λ a put. all_from (λ b. ApartTold a b) p.rewritten (λ b told told_a told_b rank piece.
      let was = facts.was b told in facts.new_apart was.0 a was.1 put (was.2.0 ∙ sym piece, was.2.1 ∙ sym rank)))))
      (all_from (λ a. All (λ b. ApartTold a b) (p.inserted ++ p.rewritten)) p.old (λ a old. all_from (λ b. ApartTold a b) (p.inserted ++ p.rewritten) (λ b new told_a told_b rank piece.
      elim (Contains-append_cases p.inserted p.rewritten b new) [
        | inl put ↦ facts.new_apart a b old put (piece, rank)
        | inr told ↦
            let was = facts.was b told in
            let own : a ≡ was.0 = facts.old_once a was.0 old was.1 (piece ∙ sym was.2.0, rank ∙ sym was.2.1) in
            was.3 (ap (λ (x : RankedPiece). x.result) (sym own) ∙ one_result a b told_a told_b (piece, rank))
      ])))

  standing_apart : AllPairs Apart standing
  standing_apart i j d less inside =
      let told : (k : ℕ) → k < length standing → IsTold state (get_or standing k d) = λ k within. (known (get_or standing k d) (k, within, get_or_default standing k (get_or standing k d) d within)).1 in
      AllPairs-filter ApartTold (λ x. is_told_in state.slots x) (known_pieces p) known_apart i j d less inside (told i (omega arith)) (told j inside)

  held_at : (at : ℕ) → slot state.slots at ≡ held_entry entries (slot slots at)
  held_at at = ap (λ held. slot held at) ids.mirrors ∙ slot_contents entries slots at

  -- what a live id's slot holds
  own_entry : (at : ℕ) (one : LivePiece) (ranked : RankedPiece) → slot slots at ≡ Some one.id → entry_at entries one.id ≡ Some (entry_for ranked) → slot state.slots at ≡ Some (entry_for ranked)
  own_entry at one ranked is has = held_at at ∙ (ap (held_entry entries) is ∙ has)

  -- the live piece of an id that has a piece's entry is that piece's
  found_at : (x : RankedPiece) (at id : ℕ) → Contains (known_pieces p) x → slot slots at ≡ Some id → entry_at entries id ≡ Some (entry_for x)
      → (one : LivePiece) × Contains live one × (x.piece ≡ one.piece) × (x.rank ≡ one.rank) × (entry_at entries one.id ≡ Some (entry_for x))
  found_at x at id is_known is has_entry =
      let w = live_is live id (ids.within at id is) in
      let has : entry_at entries w.0.id ≡ Some (entry_for x) = ap (entry_at entries) w.2 ∙ has_entry in
      let own = ids.of_known w.0 w.1 in
      let same : entry_for x ≡ entry_for own.0 = (let z : Some (entry_for x) ≡ Some (entry_for own.0) = sym has ∙ own.4 in cc) in
      let one = facts.apart x own.0 is_known own.1 (subst (λ e. IsTrue (same_match (entry_for x) e)) same (same_match-same (entry_for x))) in
      (w.0, w.1, one.0 ∙ own.2, one.1 ∙ own.3, has)

  found : (x : RankedPiece) → Contains standing x → (one : LivePiece) × Contains live one × (x.piece ≡ one.piece) × (x.rank ≡ one.rank) × (entry_at entries one.id ≡ Some (entry_for x))
  found x member =
      let k = known x member in
      let at = id_there entries slots k.1.0 (entry_for x) (slot slots k.1.0) refl (sym (held_at k.1.0) ∙ k.1.1) in
      found_at x k.1.0 at.0 k.0 at.1 at.2

  -- two live ids of one piece are one
  one_id : (a b : LivePiece) → Contains live a → Contains live b → a.rank ≡ b.rank → a.piece ≡ b.piece → a.id ≡ b.id
  one_id a b in_a in_b rank piece =
      let i = ids.stands a in_a in
      let j = ids.stands b in_b in
      let x = ids.of_known a in_a in
      let y = ids.of_known b in_b in
      let same : IsSame x.0 y.0 = (x.2 ∙ (piece ∙ sym y.2), x.3 ∙ (rank ∙ sym y.3)) in
      let at = one_slot i.0 j.0 (entry_for x.0) (entry_for y.0) (own_entry i.0 a x.0 i.1 x.4) (own_entry j.0 b y.0 j.1 y.4) (same_match_of x.0 y.0 same) (same_match_of y.0 x.0 (sym same.0, sym same.1)) in
      let z : Some a.id ≡ Some b.id = sym i.1 ∙ (ap (slot slots) at ∙ j.1) in cc

  entries_are : AreEntriesOf standing live entries
  entries_are = record {
    of_piece = λ one member.
        let at = ids.stands one member in
        let own = ids.of_known one member in
        (own.0, is_standing own.0 own.1 (at.0, own_entry at.0 one own.0 at.1 own.4), own.2, own.3, own.4);
    has_id = found;
    once = one_id;
  }

  -- an id stands in one slot
  stand_once : (i j id : ℕ) → slot slots i ≡ Some id → slot slots j ≡ Some id → i ≡ j
  stand_once i j id here there =
      let w = live_is live id (ids.within i id here) in
      let own = ids.of_known w.0 w.1 in
      let same = same_match-same (entry_for own.0) in
      one_slot i j (entry_for own.0) (entry_for own.0) (own_entry i w.0 own.0 (here ∙ ap Some (sym w.2)) own.4) (own_entry j w.0 own.0 (there ∙ ap Some (sym w.2)) own.4) same same

  right : (x : RankedPiece) → Contains (known_pieces p) x → AreConditions x.piece.src x.piece.dst x.piece.proto x.piece.sport x.piece.dport
  right x member = (served mode bits rules batch change behind serving x member).right

  -- and none behind one that it is above
  not_above : (i j first second : ℕ) → i < j → slot slots i ≡ Some first → slot slots j ≡ Some second → is_above live second first ≡ true → ⊥
  not_above i j first second less here there above =
      let w = above_is live second first above in
      let x = ids.of_known w.lower w.has_lower in
      let y = ids.of_known w.upper w.has_upper in
      let meet : IsTrue (pieces_meet y.0.piece x.0.piece) = subst (λ (q : Piece). IsTrue (pieces_meet y.0.piece q)) (sym x.2) (subst (λ (q : Piece). IsTrue (pieces_meet q w.lower.piece)) (sym y.2) w.meet) in
      let over = (pieces_meet-is y.0.piece x.0.piece (right y.0 y.1) (right x.0 x.1)).0 meet in
      let low : y.0.rank ≤ x.0.rank = stage.order i j x.0 y.0 less x.1 y.1
      (own_entry i w.lower x.0 (here ∙ ap Some (sym w.lower_id)) x.4) (own_entry j w.upper y.0 (there ∙ ap Some (sym w.upper_id)) y.4) (over.0, over.1, over.3, over.2) in
      let more = w.less in
      let upper = y.3 in
      let lower = x.3 in
      absurd (omega arith)

  arranged : AreArranged live slots
  arranged = record {
    few = ids.few;
    apart = ids.apart;
    standing = record {
      within = ids.within;
      placed = λ id is. let w = live_is live id is in let at = ids.stands w.0 w.1 in (at.0, at.1 ∙ ap Some w.2);
      once = stand_once;
    };
    order = λ i j first second less here there. false_from_ne_true (is_above live second first) (λ above. not_above i j first second less here there above);
  }

  have_ids : HaveStandingIds (commit_pieces mode bits rules batch) live slots entries
  have_ids = record { standing = standing; known = λ x member. (known x member).0; once = standing_apart; arranged = arranged; entries_are = entries_are }

pub stages_have_ids : StagesHaveStandingIds
stages_have_ids device_slots mode bits rules batch state done left twin live slots entries can is stage is_twin ids =
    let wide = on_device device_slots state in
    let same : (at : ℕ) → slot state.slots at ≡ slot wide.slots at = λ at. sym (slot-padded state.slots (device_slots - length state.slots) at) in
    let narrow = stage_on wide state same (length slots) bits (bits_with mode rules batch bits) (commit_pieces mode bits rules batch) done left refl refl stage in
    let from = untwinned_by (length slots) bits (bits_with mode rules batch bits) (commit_pieces mode bits rules batch) state done left narrow twin (twin_on wide state same twin is_twin) in
    let start = begun mode bits rules batch (length state.slots) state can is narrow.old_words in
    have_ids mode bits rules batch (change_of mode bits rules batch can) (state_after state (fresh_writes mode bits rules batch state)) (tables_serve mode bits rules batch state start)
    (length slots) (state_after state (twin_writes twin)) done left from.0 from.1 live slots entries ids
