-- Each state that a segment passes is a stage.
use Rattle.std.proofs.Common.{◌≡◌, ℕ, ◌+◌, ◌-◌, ◌≤◌, set, Option, None, Some, List, [], ◌∷◌, ◌++◌, length, take, drop, map, zero, suc, Contains, inl, inr, refl, sym, ◌∙◌, subst, ap, arith, le_refl}
use Rattle.std.specs.Prelude.{flat_map, IsTrue}
use Rattle.std.specs.List.{AllZip, AllByRecursion}
use Rattle.std.proofs.lemmas.Bool.{cases_lt}
use Rattle.std.proofs.lemmas.List.{take-append-le, take-append-drop, take_all}
use Rattle.std.proofs.lemmas.List.Elements.{Contains-append_left, Contains-append_right, Contains-append_cases}
use Rattle.std.proofs.Math.Seq.{take-append-add}
use Rattle.slot_order.specs.Order.{slot}
use Rattle.slot_order.proofs.Lists.{contains_head, contains_take}
use Rattle.slot_order.proofs.Writes.{slot_other}
use Rattle.rule_model.specs.declared.Rule.{Rule}
use Rattle.rule_model.specs.declared.Field.TheVariants.{Src, Dst}
use Rattle.rule_store.specs.declared.Mode.{Mode}
use Rattle.rule_store.specs.declared.Command.{Command}
use Rattle.rule_store.specs.Batch.{additions}
use Rattle.rule_model.specs.declared.words.Entry.{Entry}
use Rattle.rule_model.specs.Entry.{RankedPiece, entry_for, same_match}
use Rattle.tcam_device.specs.declared.Write.{Write}
use Rattle.tcam_device.specs.declared.Write.TheVariants.{Slot, Table}
use Rattle.tcam_device.specs.State.{State, IsInUse, apply, state_after}
use Rattle.tcam_device.specs.Order.{StandsAt, IsOrdered, StandsOnce, HasOneTwin}
use Rattle.tcam_device.specs.Insertion.{Insertion, insertions, table_writes}
use Rattle.tcam_device.proofs.One.{same_match-same}
use Rattle.tcam_device.proofs.Spans.{state_after-append}
use Rattle.tcam_device.proofs.Wider.{all_take}
use Rattle.commit_writes.specs.Bits.{FieldBits, bits_with, new_bits}
use Rattle.commit_writes.specs.InFlight.{ArePartOf}
use Rattle.commit_writes.specs.Shape.{rewritten_pieces, erased_pieces, Stands, Rewrites, Erases, fresh_writes}
use Rattle.commit_writes.specs.Commit.{IsSegment, insertion_writes}
use Rattle.commit_writes.specs.Segments.{MayBegin}
use Rattle.commit_writes.specs.Serving.{AreServing, AreTranslated}
use Rattle.commit_writes.proofs.BatchPieces.{row_pieces, row_once}
use Rattle.commit_writes.proofs.BatchRules.{IsSoundChange}
use Rattle.commit_writes.proofs.Front.{front_insertions}
use Rattle.commit_writes.proofs.KeptBits.{pieces_same}
use Rattle.commit_writes.proofs.LiveRanges.{live_meanwhile}
use Rattle.commit_writes.proofs.OnTheWay.{once_one}
use Rattle.commit_writes.proofs.ServedLive.{change_begun, bits_begun, early, late}
use Rattle.commit_writes.proofs.ServedTables.{IsBitsStart, tables_serve}
use Rattle.commit_writes.proofs.SlotsBehind.{cut_at_slots}
use Rattle.commit_writes.proofs.TableWords.{words_taken}
use Rattle.readback.specs.Tasks.{CommitPieces, commit_pieces, known_pieces, changes_result, Insert, Rewrite, Erase, IsStanding}
use Rattle.readback.specs.Stage.{IsStageAt, IsStage}
use Rattle.readback.proofs.Facts.{ArePieces, IsSame, same_sym, old_known, inserted_known}
use Rattle.readback.proofs.First.{first_insertions}
use Rattle.readback.proofs.Rewriting.{HasNoTwin, stands_back}
use Rattle.readback.proofs.Inserting.{first_inserts, other_tasks, inserting, insert_left}
use Rattle.readback.proofs.Finishing.{IsReached, rewrites_later, some_told}
use Rattle.readback.proofs.Pieces.{pieces_are, pieces_lead, unchanged_told}

-- writes of slots in use leave the others as they were
pub others_kept : (slots : ℕ) (writes : List Write) (state : State) (at : ℕ) → AllByRecursion (IsInUse slots) writes → slots ≤ at
    → slot (state_after state writes).slots at ≡ slot state.slots at
others_kept slots [] state at all past = refl
others_kept slots (Slot t e ∷ writes) state at all past =
    others_kept slots writes (apply state (Slot t e)) at all.1 past
    ∙ slot_other state.slots t e at (λ same. let inside = all.0 in omega arith)
others_kept slots (Table Src port word ∷ writes) state at all past = others_kept slots writes (apply state (Table Src port word)) at all.1 past
others_kept slots (Table Dst port word ∷ writes) state at all past = others_kept slots writes (apply state (Table Dst port word)) at all.1 past

-- new results and erases bring no piece in
told_none : (rs : List RankedPiece) (ws : List Write) (state : State) (x : RankedPiece) → AllZip (Rewrites state) rs ws → IsStanding (state_after state ws) x → IsStanding state x
told_none [] [] state x zip stands = stands
told_none [] (w ∷ ws) state x zip stands = absurd zip
told_none (r ∷ rs) [] state x zip stands = absurd zip
told_none (r ∷ rs) (w ∷ ws) state x zip stands =
    let at = zip.0.0 in
    let s = told_none rs ws (apply state (Slot at (Some (entry_for r)))) x (rewrites_later state at r rs ws zip.0.1 zip.1)
    (subst (λ write. IsStanding (state_after (apply state write) ws) x) zip.0.2 stands) in
    (s.0, stands_back state at r zip.0.1 x s.0 s.1)

-- a slot that was erased holds nothing more than before
unset : (d : List (Option Entry)) (at i : ℕ) (e : Entry) → slot (set d at None) i ≡ Some e → slot d i ≡ Some e
unset [] at i e s = s
unset (x ∷ d) zero zero e s = absurd (cc)
unset (x ∷ d) zero (suc i) e s = s
unset (x ∷ d) (suc at) zero e s = s
unset (x ∷ d) (suc at) (suc i) e s = unset d at i e s

-- an erase is of a slot that is taken
erased_none : (es : List RankedPiece) (vs : List Write) (state now : State) (x : RankedPiece) → AllZip (Erases state) es vs
    → ((i : ℕ) → Stands now i x → Stands state i x) → IsStanding (state_after now vs) x → IsStanding state x
erased_none [] [] state now x zip up (i, s) = (i, up i s)
erased_none [] (v ∷ vs) state now x zip up stands = absurd zip
erased_none (e ∷ es) [] state now x zip up stands = absurd zip
erased_none (e ∷ es) (v ∷ vs) state now x zip up stands =
    let at = zip.0.0 in
    erased_none es vs state (apply now (Slot at None)) x zip.1 (λ i s. up i (back at i s)) (subst (λ write. IsStanding (state_after (apply now write) vs) x) zip.0.2 stands)
  where
    back : (at i : ℕ) → Stands (apply now (Slot at None)) i x → Stands now i x
    back at i s = (s.0, unset now.slots at i s.0 s.1, s.2)

-- The writes behind the table words, from a state on whose tables serve old and new rules:
module _ (slots : ℕ) (mode : Mode) (bits : FieldBits) (rules : List Rule) (batch : List Command) (change : IsSoundChange rules batch) (facts : ArePieces (commit_pieces mode bits rules batch))
    (start : State) (inserted rewritten erased : List Write)
    (results : AllZip (Rewrites (state_after start inserted)) (rewritten_pieces mode (bits_with mode rules batch bits) rules batch) rewritten)
    (erases : AllZip (Erases (state_after (state_after start inserted) rewritten)) (erased_pieces mode (bits_with mode rules batch bits) rules batch) erased) where
  abbrev during : FieldBits
  during = bits_with mode rules batch bits

  abbrev p : CommitPieces
  p = commit_pieces mode bits rules batch

  abbrev base : State
  base = state_after start inserted

  -- What is asked of their states: while pieces are inserted order, empty slots past those in use, one twin at most and
  -- tables that serve all bits; no twin where the last is in; and all inserted pieces in the end.
  pub record KeepsInvariant : Type 0 where
    pub in_order : (n : ℕ) → n ≤ length inserted → (k : ℕ) × IsOrdered (state_after start (take n inserted)) (Contains (p.old ++ take k p.inserted))
    pub unused : (n at : ℕ) → n ≤ length inserted → slots ≤ at → slot (state_after start (take n inserted)).slots at ≡ None
    pub twins : (n : ℕ) → n ≤ length inserted → HasOneTwin (state_after start (take n inserted)).slots
    pub old_words : (n : ℕ) → n ≤ length inserted → AreTranslated (state_after start (take n inserted)) bits
    pub new_words : (n : ℕ) → n ≤ length inserted → AreTranslated (state_after start (take n inserted)) during
    pub once : HasNoTwin base
    pub arrive : (x : RankedPiece) → Contains p.inserted x → IsStanding (state_after start (inserted ++ (rewritten ++ erased))) x

  unfolds : state_after start (inserted ++ (rewritten ++ erased)) ≡ state_after (state_after base rewritten) erased
  unfolds = state_after-append start inserted (rewritten ++ erased) ∙ state_after-append base rewritten erased

  at_base : state_after start (take (length inserted) inserted) ≡ base
  at_base = ap (state_after start) (take_all (length inserted) inserted (le_refl (length inserted)))

  module _ (keeps : KeepsInvariant) where
    -- while pieces are inserted
    inserting_stage : (n k : ℕ) → n ≤ length inserted → IsOrdered (state_after start (take n inserted)) (Contains (p.old ++ take k p.inserted))
        → IsStageAt slots bits during p (state_after start (take n inserted)) (first_inserts p k) (other_tasks p k)
    inserting_stage n k short ordered =
        inserting slots bits during p facts (state_after start (take n inserted)) k (λ at. keeps.unused n at short) (keeps.old_words n short)
        (λ x member stands. keeps.new_words n short) (keeps.twins n short) ordered

    abbrev last : ℕ
    last = length inserted

    -- where the last is in, all are
    all_in : (k : ℕ) → IsOrdered (state_after start (take last inserted)) (Contains (p.old ++ take k p.inserted)) → drop k p.inserted ≡ []
    all_in k ordered = go (drop k p.inserted) (λ x member. insert_left slots bits during p facts (state_after start (take last inserted)) k
        (λ at. keeps.unused last at (le_refl last)) (keeps.old_words last (le_refl last)) (λ y is stands. keeps.new_words last (le_refl last)) (keeps.twins last (le_refl last)) ordered x member
        (subst (λ s. IsStanding s x) (sym at_base) (stands x (subst (λ some. Contains some x) (take-append-drop k p.inserted) (Contains-append_right (take k p.inserted) (drop k p.inserted) x member)))))
      where
        go : (some : List RankedPiece) → ((x : RankedPiece) → Contains some x → ⊥) → some ≡ []
        go [] none = refl
        go (x ∷ some) none = absurd (none x (contains_head x some))

        stands : (x : RankedPiece) → Contains p.inserted x → IsStanding base x
        stands x member = told_none (rewritten_pieces mode during rules batch) rewritten base x results
            (erased_none (erased_pieces mode during rules batch) erased (state_after base rewritten) (state_after base rewritten) x erases (λ i s. s)
            (subst (λ s. IsStanding s x) unfolds (keeps.arrive x member)))

    -- so the stage there has the other tasks left
    base_stage : (k : ℕ) → IsOrdered (state_after start (take last inserted)) (Contains (p.old ++ take k p.inserted))
        → IsStageAt slots bits during p base (first_inserts p k) (map Rewrite p.rewritten ++ map Erase p.erased)
    base_stage k ordered =
        subst (λ s. IsStageAt slots bits during p s (first_inserts p k) (map Rewrite p.rewritten ++ map Erase p.erased)) at_base
        (subst (λ some. IsStageAt slots bits during p (state_after start (take last inserted)) (first_inserts p k) (map Insert some ++ (map Rewrite p.rewritten ++ map Erase p.erased))) (all_in k ordered)
        (inserting_stage last k (le_refl last) ordered))

    finishing : (n : ℕ) → IsReached slots bits during p facts (state_after base (take n (rewritten ++ erased)))
    finishing n = let w = keeps.in_order last (le_refl last) in
        some_told slots bits during p facts (changes_result rules) n (rewritten_pieces mode during rules batch) rewritten (erased_pieces mode during rules batch) erased
        base (first_inserts p w.0) (base_stage w.0 w.1) keeps.once (unchanged_told mode bits rules batch change) results erases

    behind_base : (n : ℕ) → last ≤ n → state_after start (take n (inserted ++ (rewritten ++ erased))) ≡ state_after base (take (n - last) (rewritten ++ erased))
    behind_base n long =
        ap (λ m. state_after start (take m (inserted ++ (rewritten ++ erased)))) (let e : n ≡ last + (n - last) = omega arith in e)
        ∙ (ap (state_after start) (take-append-add inserted (rewritten ++ erased) (n - last)) ∙ state_after-append start inserted (take (n - last) (rewritten ++ erased)))

    pub slot_stages : (n : ℕ) → IsStage slots mode bits rules batch (state_after start (take n (inserted ++ (rewritten ++ erased))))
    slot_stages n = elim (cases_lt n last) [
      | inl short ↦ let w = keeps.in_order n (omega arith) in
          subst (λ writes. IsStage slots mode bits rules batch (state_after start writes)) (sym (take-append-le n inserted (rewritten ++ erased) (omega arith)))
          (first_inserts p w.0, other_tasks p w.0, inserting_stage n w.0 (omega arith) w.1)
      | inr long ↦ let reached = finishing (n - last) in
          subst (IsStage slots mode bits rules batch) (sym (behind_base n long)) (reached.done, reached.left, reached.stage)
    ]

-- pieces that stand once, in order, have no twin where no two of them are one piece
pub once_alone : (state : State) (some standing : List RankedPiece) → IsOrdered state (Contains some) → IsOrdered state (Contains standing) → StandsOnce state (Contains standing)
    → ((a b : RankedPiece) → Contains some a → Contains some b → IsTrue (same_match (entry_for a) (entry_for b)) → a ≡ b) → HasNoTwin state
once_alone state some standing ordered also once apart at (lesser, w) =
    let a = ordered.known lesser w.first w.here in
    let b = ordered.known at w.second w.there in
    let same : a.0 ≡ b.0 = apart a.0 b.0 a.1 b.1 (subst (λ e. IsTrue (same_match e (entry_for b.0))) (sym a.2) (subst (λ e. IsTrue (same_match w.first e)) (sym b.2) w.same)) in
    let equal : w.second ≡ w.first = sym b.2 ∙ (ap entry_for (sym same) ∙ a.2) in
    let x = also.known lesser w.first w.here in
    let here : StandsAt state lesser x.0 = w.here ∙ ap Some (sym x.2) in
    let there : StandsAt state at x.0 = w.there ∙ (ap Some equal ∙ ap Some (sym x.2)) in
    let one = once x.0 x.1 in
    let first = one.2 lesser here in let second = one.2 at there in let less = w.less in omega arith

module _ (slots : ℕ) (mode : Mode) (bits : FieldBits) (rules : List Rule) (batch : List Command) (state : State) (made : List Write)
    (begin : MayBegin mode bits rules batch state) (segment : IsSegment mode bits rules batch state made)
    (empty : (at : ℕ) → slots ≤ at → slot state.slots at ≡ None) (in_use : AllByRecursion (IsInUse slots) made) where
  abbrev meanwhile : FieldBits
  meanwhile = bits_with mode rules batch bits

  abbrev q : CommitPieces
  q = commit_pieces mode bits rules batch

  abbrev tables : List Write
  tables = fresh_writes mode bits rules batch state

  abbrev behind : State
  behind = state_after state tables

  abbrev slot_part : List Write
  slot_part = segment.shape.inserted ++ (segment.shape.rewritten ++ segment.shape.erased)

  abbrev now : ℕ → State
  now n = state_after state (take n made)

  change : IsSoundChange rules batch
  change = change_begun mode bits rules batch state begin

  begun : IsBitsStart mode bits rules batch state
  begun = bits_begun mode bits rules batch state begin

  serving : AreServing mode (bits_with mode rules batch bits) (rules ++ additions batch) behind
  serving = tables_serve mode bits rules batch state begun

  facts_of : ArePieces (commit_pieces mode bits rules batch)
  facts_of = pieces_are mode bits rules batch change behind serving

  made_are : made ≡ tables ++ slot_part
  made_are = segment.shape.parts

  results_are : AllZip (Rewrites (state_after behind segment.shape.inserted)) (rewritten_pieces mode meanwhile rules batch) segment.shape.rewritten
  results_are = subst (λ (s : State). AllZip (Rewrites s) (rewritten_pieces mode meanwhile rules batch) segment.shape.rewritten)
      (state_after-append state tables segment.shape.inserted) segment.shape.results

  erases_are : AllZip (Erases (state_after (state_after behind segment.shape.inserted) segment.shape.rewritten)) (erased_pieces mode meanwhile rules batch) segment.shape.erased
  erases_are = subst (λ (s : State). AllZip (Erases s) (erased_pieces mode meanwhile rules batch) segment.shape.erased)
      (state_after-append state (tables ++ segment.shape.inserted) segment.shape.rewritten
      ∙ ap (λ s. state_after s segment.shape.rewritten) (state_after-append state tables segment.shape.inserted)) segment.shape.erases

  whole : flat_map (λ (one : Insertion). one.writes) (insertions behind segment.shape.inserted) ≡ segment.shape.inserted
  whole = segment.shape.whole

  first : insertion_writes state made ≡ length tables + length segment.shape.inserted
  first =
      let same : insertions state made ≡ insertions behind segment.shape.inserted =
      ap (insertions state) made_are ∙ (front_insertions mode bits rules batch state slot_part
      ∙ first_insertions behind segment.shape.inserted segment.shape.rewritten segment.shape.erased _ _ results_are erases_are) in
      let size : length (flat_map (λ (one : Insertion). one.writes) (insertions state made)) ≡ length segment.shape.inserted =
      ap (λ (all : List Insertion). length (flat_map (λ (one : Insertion). one.writes) all)) same ∙ ap length whole in
      let count = (cut_at_slots mode bits rules batch state made segment.shape).count in
      omega arith

  words_first : table_writes made ≡ length tables
  words_first = (cut_at_slots mode bits rules batch state made segment.shape).count

  unused : (n at : ℕ) → slots ≤ at → slot (now n).slots at ≡ None
  unused n at past = others_kept slots (take n made) state at (all_take (IsInUse slots) n made in_use) past ∙ empty at past

  -- the first writes are those of the tables,
  front : (n : ℕ) → n ≤ length tables → now n ≡ state_after state (take n tables)
  front n short = ap (state_after state) (ap (take n) made_are ∙ take-append-le n tables slot_part short)

  -- and the others come behind all of them
  seam : (n : ℕ) → length tables ≤ n → now n ≡ state_after behind (take (n - length tables) slot_part)
  seam n long =
      ap now (let e : n ≡ length tables + (n - length tables) = omega arith in e)
      ∙ (ap (λ (writes : List Write). state_after state (take (length tables + (n - length tables)) writes)) made_are
      ∙ (ap (state_after state) (take-append-add tables slot_part (n - length tables)) ∙ state_after-append state tables (take (n - length tables) slot_part)))

  -- which is where insertions are
  amid : (n : ℕ) → n ≤ length segment.shape.inserted → now (length tables + n) ≡ state_after behind (take n segment.shape.inserted)
  amid n short =
      seam (length tables + n) (omega arith)
      ∙ (ap (λ m. state_after behind (take m slot_part)) (let e : length tables + n - length tables ≡ n = omega arith in e)
      ∙ ap (state_after behind) (take-append-le n segment.shape.inserted (segment.shape.rewritten ++ segment.shape.erased) short))

  -- the tables serve the old bits all the while, and all bits from their last word on
  all_words : (n : ℕ) → length tables ≤ n → AreTranslated (now n) meanwhile
  all_words n long = let w = late mode bits rules batch state made begin segment n (let e = words_first in omega arith) in record { src = w.src_right; dst = w.dst_right }

  bits_stay : ArePartOf bits meanwhile
  bits_stay = live_meanwhile mode bits rules batch state begun

  old_from : (n : ℕ) → AreTranslated (now n) meanwhile → AreTranslated (now n) bits
  old_from n right = record {
    src = λ bit range held. right.src bit range (bits_stay.src bit range held);
    dst = λ bit range held. right.dst bit range (bits_stay.dst bit range held);
  }

  early_words : (n : ℕ) → n ≤ length tables → AreTranslated (now n) bits
  early_words n short = let w = early mode bits rules batch state made begin segment n (let e = words_first in omega arith) in record { src = w.src_right; dst = w.dst_right }

  -- while table words are written no inserted piece stands
  none_put : (n : ℕ) → n ≤ length tables → (x : RankedPiece) → Contains q.inserted x → IsStanding (now n) x → ⊥
  none_put n short x member (i, s) =
      let same : slot (now n).slots i ≡ slot state.slots i = ap (λ (at : State). slot at.slots i) (front n short) ∙ ap (λ held. slot held i) (words_taken state (new_bits bits meanwhile) n).slots in
      let w = begin.at_rest.ordered.known i s.0 (sym same ∙ s.1) in
      let old : Contains q.old w.0 = subst (λ pieces. Contains pieces w.0) (sym (pieces_same mode bits rules batch state begun)) w.1 in
      facts_of.new_apart w.0 x old member
      (same_sym x w.0 (facts_of.apart x w.0 (inserted_known q x member) (old_known q w.0 old) (subst (λ e. IsTrue (same_match (entry_for x) e)) (sym w.2) s.2)))

  early_stage : (n : ℕ) → n ≤ length tables → IsStage slots mode bits rules batch (now n)
  early_stage n short =
      let w = segment.order.inserting n (let e = first in omega arith) in (
        first_inserts q w.0,
        other_tasks q w.0,
        inserting slots bits meanwhile q facts_of (now n) w.0 (unused n) (early_words n short) (λ x member stands. absurd (none_put n short x member stands))
            (segment.order.copies n (let e = first in omega arith)) w.1.ordered,
      )

  -- pieces of the old set and inserted ones are told apart
  up : (k : ℕ) (x : RankedPiece) → Contains (q.old ++ take k q.inserted) x → Contains (q.old ++ q.inserted) x
  up k x member = elim (Contains-append_cases q.old (take k q.inserted) x member) [
    | inl old ↦ Contains-append_left q.old q.inserted x old
    | inr put ↦ let c = contains_take k q.inserted x put in Contains-append_right q.old q.inserted x (c.0, c.2, c.3)
  ]

  row_known : (x : RankedPiece) → Contains (q.old ++ q.inserted) x → Contains (known_pieces q) x
  row_known x member = elim (Contains-append_cases q.old q.inserted x member) [ inl old ↦ old_known q x old | inr put ↦ inserted_known q x put ]

  apart : (k : ℕ) (a b : RankedPiece) → Contains (q.old ++ take k q.inserted) a → Contains (q.old ++ take k q.inserted) b → IsTrue (same_match (entry_for a) (entry_for b)) → a ≡ b
  apart k a b in_a in_b match =
      let same : IsSame a b = facts_of.apart a b (row_known a (up k a in_a)) (row_known b (up k b in_b)) match in
      once_one (row_pieces mode meanwhile rules batch) a b (row_once mode meanwhile rules batch change) (up k a in_a) (up k b in_b) same.1 same.0

  alone : HasNoTwin (state_after behind segment.shape.inserted)
  alone =
      let last : ℕ = length tables + length segment.shape.inserted in
      let w = segment.order.inserting last (let e = first in omega arith) in
      let v = segment.order.finishing last (let e = first in omega arith) in
      subst HasNoTwin (amid (length segment.shape.inserted) (le_refl (length segment.shape.inserted)) ∙ ap (state_after behind) (take_all (length segment.shape.inserted) segment.shape.inserted (le_refl (length segment.shape.inserted))))
      (once_alone (now last) (q.old ++ take w.0 q.inserted) v.0 w.1.ordered v.2.ordered v.3 (apart w.0))

  keeps_on : KeepsInvariant slots mode bits rules batch change facts_of behind segment.shape.inserted segment.shape.rewritten segment.shape.erased results_are erases_are
  keeps_on = record {
    in_order = λ n short. let w = segment.order.inserting (length tables + n) (let e = first in omega arith) in
        (w.0, subst (λ s. IsOrdered s (Contains (q.old ++ take w.0 q.inserted))) (amid n short) w.1.ordered);
    unused = λ n at short past. subst (λ (s : State). slot s.slots at ≡ None) (amid n short) (unused (length tables + n) at past);
    twins = λ n short. subst (λ (s : State). HasOneTwin s.slots) (amid n short) (segment.order.copies (length tables + n) (let e = first in omega arith));
    old_words = λ n short. subst (λ s. AreTranslated s bits) (amid n short) (old_from (length tables + n) (all_words (length tables + n) (omega arith)));
    new_words = λ n short. subst (λ s. AreTranslated s meanwhile) (amid n short) (all_words (length tables + n) (omega arith));
    once = alone;
    arrive = λ x member.
        let w = segment.order.after.ordered.complete x ((pieces_lead mode bits rules batch change).inserted_new x member) in
        let reached : state_after state made ≡ state_after behind slot_part = ap (state_after state) made_are ∙ state_after-append state tables slot_part in
        subst (λ s. IsStanding s x) reached (w.0, (entry_for x, w.1, same_match-same (entry_for x)));
  }

  pub segment_stages : (n : ℕ) → IsStage slots mode bits rules batch (state_after state (take n made))
  segment_stages n = elim (cases_lt n (length tables)) [
    | inl short ↦ early_stage n (omega arith)
    | inr long ↦ subst (IsStage slots mode bits rules batch) (sym (seam n long))
        (slot_stages slots mode bits rules batch change facts_of behind segment.shape.inserted segment.shape.rewritten segment.shape.erased results_are erases_are keeps_on (n - length tables))
  ]
