-- The writes of a planned rest: which insertions, results and erases they are, what they keep, and their bounds and numbers.
use Rattle.std.proofs.Common.{◌≡◌, ℕ, zero, suc, ◌+◌, ◌*◌, ◌≤◌, None, Some, List, [], ◌∷◌, ◌++◌, length, length-append, map, fold, max, take, Contains, inl, inr, refl, sym, ◌∙◌, subst, ap, arith, true}
use Rattle.std.specs.Prelude.{◌↔◌}
use Rattle.std.specs.List.{AllByRecursion, AllZip, filter_map}
use Rattle.std.proofs.lemmas.List.{get_or_past, length-map}
use Rattle.std.proofs.lemmas.List.Elements.{Contains-append_left, Contains-append_right, Contains-append_cases}
use Rattle.std.proofs.Math.Seq.{take-append-add}
use Rattle.slot_order.specs.Order.{slot}
use Rattle.slot_order.proofs.Images.{entries, slot_entries, stands_for}
use Rattle.slot_order.proofs.Lists.{all_append}
use Rattle.slot_moves.proofs.Once.{AllOnce}
use Rattle.slot_order.proofs.Writes.{slot_inside}
use Rattle.slot_pool.specs.Arrangement.{Slots}
use Rattle.rule_model.specs.declared.IpVersion.{IpVersion}
use Rattle.rule_model.specs.RuleSet.{BoundsChains}
use Rattle.rule_store.specs.Batch.{additions}
use Rattle.rule_model.specs.Entry.{RankedPiece, entry_for, same_match}
use Rattle.placement.proofs.Above.{is_live_from}
use Rattle.placement.proofs.Chain.{AllKnown}
use Rattle.placement.specs.Insertion.{IsLive}
use Rattle.tcam_device.specs.declared.Write.{Write}
use Rattle.tcam_device.specs.declared.Write.TheVariants.{Slot}
use Rattle.tcam_device.specs.State.{State, IsInUse, apply, state_after}
use Rattle.tcam_device.specs.Order.{IsOrdered}
use Rattle.tcam_device.specs.Insertion.{Insertion, insertions, longest_insertion, IsGreatestSpan, IsUncrossed, IsWithinTightBound}
use Rattle.tcam_device.proofs.Wider.{slots-after}
use Rattle.commit_writes.specs.Planned.{IdEntries, entry_at, held_entry, contents, with_slots, planned_writes, live_after, slots_after, longest_planned, greatest_planned, AreNested, BoundsPieceChains}
use Rattle.commit_writes.specs.PlannedBatch.{IsIdOf, IsRewriteOf, home_slot, rewrite_write, erase_write}
use Rattle.commit_writes.specs.Routes.{IsRoute, prefix_lengths}
use Rattle.commit_writes.specs.Shape.{Stands, Rewrites, Erases}
use Rattle.commit_writes.proofs.InUse.{planned_in_use}
use Rattle.commit_writes.proofs.Members.{of_row}
use Rattle.commit_writes.proofs.Mirror.{MatchApart, entry_by, IsOrdered_same}
use Rattle.commit_writes.proofs.Ordered.{planned_ordered, planned_state}
use Rattle.commit_writes.proofs.Rewrites.{home_is}
use Rattle.commit_writes.proofs.Routes.{row_chains, row_nested, row_short}
use Rattle.commit_writes.proofs.Row.{AreDone, whole_insertions}
use Rattle.commit_writes.proofs.Segment.{planned_whole, planned_pieces, planned_tight, planned_uncrossed, planned_few, planned_longest, planned_span}
use Rattle.commit_writes.proofs.Start.{commit_piece, commit_readable, commit_done}
use Rattle.readback.specs.Tasks.{CommitPieces, Insert, IsStanding}
use Rattle.readback.specs.Going.{rewritten_by, erased_by}
use Rattle.readback.specs.Laws.{HasUnused, KeepsRest}
use Rattle.readback.proofs.Facts.{IsSame}
use Rattle.readback.proofs.Finishing.{rewrites_later}
use Rattle.readback.proofs.First.{first_insertions}
use Rattle.readback.proofs.Parted.{no_inserts}
use Rattle.readback.proofs.Rest.{AreRest}
use Rattle.readback.proofs.Rewriting.{HasNoTwin, stands_forth}
use Rattle.readback.proofs.Shows.{any_insert}
use Rattle.readback.proofs.BegunRests.{Begun, during_of, pieces, came, coming}
use Rattle.readback.proofs.StandingIds.{same_match_of, all_come, coming_in, came_in, row, came_stands, to_old, from_old}

-- a device that mirrors ids, each of which stands once, has no twin
mirrors_alone : (piece : ℕ → RankedPiece) (Known : ℕ → Type 0) (d : Slots) (state : State) → MatchApart piece Known → AllKnown Known d → state.slots ≡ entries (entry_by piece) d → AllOnce d → HasNoTwin state
mirrors_alone piece Known d state apart all same once at (lesser, w) =
    let a = stands_for (entry_by piece) (slot d lesser) w.first (sym (slot_entries (entry_by piece) d lesser) ∙ (ap (λ xs. slot xs lesser) (sym same) ∙ w.here)) in
    let b = stands_for (entry_by piece) (slot d at) w.second (sym (slot_entries (entry_by piece) d at) ∙ (ap (λ xs. slot xs at) (sym same) ∙ w.there)) in
    let one : a.id ≡ b.id = apart a.id b.id (all lesser a.id a.is) (all at b.id b.is) (subst (λ e. same_match e (entry_by piece b.id) ≡ true) (sym a.same) (subst (λ e. same_match w.first e ≡ true) (sym b.same) w.same)) in
    let e : lesser ≡ at = once lesser at b.id (a.is ∙ ap Some one) b.is in
    let less = w.less in
    absurd (omega arith)

-- what a slot of an arrangement holds
pub slot_contents : (held : IdEntries) (slots : Slots) (at : ℕ) → slot (contents held slots) at ≡ held_entry held (slot slots at)
slot_contents held [] at = refl
slot_contents held (first ∷ slots) zero = refl
slot_contents held (first ∷ slots) (suc at) = slot_contents held slots at

-- new results leave each piece where it stands
told_on : (rs : List RankedPiece) (ws : List Write) (state : State) (x : RankedPiece) (i : ℕ) → AllZip (Rewrites state) rs ws → Stands state i x → Stands (state_after state ws) i x
told_on [] [] state x i zip s = s
told_on [] (w ∷ ws) state x i zip s = absurd zip
told_on (r ∷ rs) [] state x i zip s = absurd zip
told_on (r ∷ rs) (w ∷ ws) state x i zip s =
    subst (λ write. Stands (state_after (apply state write) ws) i x) (sym zip.0.2)
    (told_on rs ws (apply state (Slot zip.0.0 (Some (entry_for r)))) x i (rewrites_later state zip.0.0 r rs ws zip.0.1 zip.1) (stands_forth state zip.0.0 r zip.0.1 x i s))

-- they write slots that there are, and so do erases
results_inside : (state : State) (rs : List RankedPiece) (ws : List Write) → AllZip (Rewrites state) rs ws → AllByRecursion (IsInUse (length state.slots)) ws
results_inside state [] [] zip = tt
results_inside state [] (w ∷ ws) zip = absurd zip
results_inside state (r ∷ rs) [] zip = absurd zip
results_inside state (r ∷ rs) (w ∷ ws) zip =
    (subst (IsInUse (length state.slots)) (sym zip.0.2) (slot_inside state.slots zip.0.0 zip.0.1.0 zip.0.1.1), results_inside state rs ws zip.1)

erases_inside : (state : State) (es : List RankedPiece) (vs : List Write) → AllZip (Erases state) es vs → AllByRecursion (IsInUse (length state.slots)) vs
erases_inside state [] [] zip = tt
erases_inside state [] (v ∷ vs) zip = absurd zip
erases_inside state (e ∷ es) [] zip = absurd zip
erases_inside state (e ∷ es) (v ∷ vs) zip =
    (subst (IsInUse (length state.slots)) (sym zip.0.2) (slot_inside state.slots zip.0.0 zip.0.1.0 zip.0.1.1), erases_inside state es vs zip.1)

zip_map : {X Y Z : Type 0} (R : X → Y → Type 0) (P : X → Z → Type 0) (g : Y → Z) (xs : List X) (ys : List Y) → ((x : X) (y : Y) → R x y → P x (g y)) → AllZip R xs ys → AllZip P xs (map g ys)
zip_map R P g [] [] each zip = tt
zip_map R P g [] (y ∷ ys) each zip = absurd zip
zip_map R P g (x ∷ xs) [] each zip = absurd zip
zip_map R P g (x ∷ xs) (y ∷ ys) each zip = (each x y zip.0, zip_map R P g xs ys each zip.1)

-- the writes of a planned rest, part by part
abbrev pub inserting : Begun → List Write
inserting b = planned_writes b.entries b.planned

abbrev pub telling : Begun → List Write
telling b = map (rewrite_write (slots_after b.slots b.planned)) b.rewrites

abbrev pub erasing : Begun → List Write
erasing b = map (erase_write (slots_after b.slots b.planned)) b.erased

module _ (b : Begun) where
  abbrev p : CommitPieces
  p = pieces b

  abbrev base : State
  base = state_after b.start (inserting b)

  abbrev after : Slots
  after = slots_after b.slots b.planned

  pub made : AreDone b.entries (commit_piece b.live b.entries b.planned) (live_after b.live b.planned) b.live b.slots b.start b.planned
  made = commit_done b.start b.plan.stands.standing (coming b) b.live b.slots b.entries b.planned (row b)

  base_is : base ≡ with_slots b.start (contents b.entries after)
  base_is = planned_state b.start b.plan.stands.standing (coming b) b.live b.slots b.entries b.planned (row b)

  -- a piece with a live id stands at its home
  at_home : (x z : RankedPiece) (id : ℕ) → IsLive (live_after b.live b.planned) id → entry_at b.entries id ≡ Some (entry_for z) → IsSame x z → Stands base (home_slot after id) x
  at_home x z id is has same =
      let w = made.placed id is in
      let at : slot after (home_slot after id) ≡ Some id = ap (slot after) (home_is after id w.0 made.alone w.1) ∙ w.1 in (
        entry_for z,
        ap (λ (s : State). slot s.slots (home_slot after id)) base_is ∙ (slot_contents b.entries after (home_slot after id) ∙ (ap (held_entry b.entries) at ∙ has)),
        same_match_of x z same,
      )

  live_id : (x : RankedPiece) (id : ℕ) → IsIdOf b.live x id → Stands base (home_slot after id) x
  live_id x id is =
      let w = b.plan.stands.entries_are.of_piece (record { id = id; piece = x.piece; rank = x.rank }) is in
      at_home x w.0 id (is_live_from (live_after b.live b.planned) (record { id = id; piece = x.piece; rank = x.rank })
      (Contains-append_left b.live (map (λ insertion. insertion.one) b.planned) (record { id = id; piece = x.piece; rank = x.rank }) is)) w.4 (sym w.2, sym w.3)

  results : AllZip (Rewrites base) (filter_map rewritten_by b.left) (telling b)
  results = zip_map (IsRewriteOf b.live) (Rewrites base) (rewrite_write after) (filter_map rewritten_by b.left) b.rewrites
      (λ x rewrite is. (home_slot after rewrite.id, live_id x rewrite.id is.0, ap (λ e. Slot (home_slot after rewrite.id) (Some e)) is.1)) b.plan.rewrites_are

  erases : AllZip (Erases (state_after base (telling b))) (filter_map erased_by b.left) (erasing b)
  erases = zip_map (IsIdOf b.live) (Erases (state_after base (telling b))) (erase_write after) (filter_map erased_by b.left) b.erased
      (λ x id is. (home_slot after id, told_on (filter_map rewritten_by b.left) (telling b) base x (home_slot after id) results (live_id x id is), refl)) b.plan.erased_are

  -- they are the insertions of the pieces that are to come, and then the results and erases that are left
  pub rest : AreRest (pieces b) b.start b.left (inserting b) (telling b) (erasing b)
  rest = record {
    whole = planned_whole b.start b.plan.stands.standing (coming b) b.live b.slots b.entries b.planned (row b);
    entries = planned_pieces b.start b.plan.stands.standing (coming b) b.live b.slots b.entries b.planned (row b);
    results = results;
    erases = erases;
  }

  size : length b.start.slots ≡ length b.slots
  size = ap length b.plan.mirrors ∙ length-map b.slots (held_entry b.entries)

  base_size : length base.slots ≡ length b.start.slots
  base_size = slots-after b.start (inserting b)

  -- they write slots of the arrangement only
  pub in_use : AllByRecursion (IsInUse (length b.start.slots)) (inserting b ++ (telling b ++ erasing b))
  in_use =
      all_append (IsInUse (length b.start.slots)) (inserting b) (telling b ++ erasing b)
      (subst (λ n. AllByRecursion (IsInUse n) (inserting b)) (sym size) (planned_in_use b.live b.slots b.entries b.planned b.plan.are_planned))
      (all_append (IsInUse (length b.start.slots)) (telling b) (erasing b)
      (subst (λ n. AllByRecursion (IsInUse n) (telling b)) base_size (results_inside base (filter_map rewritten_by b.left) (telling b) results))
      (subst (λ n. AllByRecursion (IsInUse n) (erasing b)) (slots-after base (telling b) ∙ base_size)
      (erases_inside (state_after base (telling b)) (filter_map erased_by b.left) (erasing b) erases)))

  -- and are few
  pub few : length (inserting b ++ (telling b ++ erasing b)) ≤ length b.slots * (1 + length b.slots) * length b.planned + length b.rewrites + length b.erased
  few =
      let first = planned_few b.start b.plan.stands.standing (coming b) b.live b.slots b.entries b.planned (row b) in
      let all = length-append (inserting b) (telling b ++ erasing b) in
      let later = length-append (telling b) (erasing b) in
      let changes = length-map b.rewrites (rewrite_write after) in
      let goes = length-map b.erased (erase_write after) in
      omega (arith, first, all, later, changes, goes)

  -- each inserted piece stands in the end
  arrives : (x : RankedPiece) → Contains p.inserted x → IsStanding base x
  arrives x member = elim (Contains-append_cases (came b) (coming b) x (subst (λ some. Contains some x) (all_come b) member)) [
    | inl early ↦ let f = came_stands b x early in up f.0 (Contains-append_left b.plan.stands.standing (coming b) f.0 f.1) x (sym f.2.0, sym f.2.1)
    | inr late ↦ up x (Contains-append_right b.plan.stands.standing (coming b) x late) x (refl, refl)
  ]
    where
      up : (z : RankedPiece) → Contains (b.plan.stands.standing ++ coming b) z → (y : RankedPiece) → IsSame y z → IsStanding base y
      up z is y same =
          let w = (of_row b.start b.plan.stands.standing (coming b) b.live b.slots b.entries b.planned (row b)).entries_are.has_id z is in
          (home_slot after w.0.id, at_home y z w.0.id (is_live_from (live_after b.live b.planned) w.0 w.1) w.4 same)

  alone_then : HasNoTwin base
  alone_then =
      let readable = commit_readable b.start b.plan.stands.standing (coming b) b.live b.slots b.entries b.planned (row b) in
      mirrors_alone (commit_piece b.live b.entries b.planned) (IsLive (live_after b.live b.planned)) after base readable.apart made.within made.changed.slots made.alone

  unused : (n : ℕ) → HasUnused (length b.slots) (state_after b.start (take n (inserting b)))
  unused n at past =
      let now = slots-after b.start (take n (inserting b)) in
      let start = size in
      get_or_past (state_after b.start (take n (inserting b))).slots at None (omega arith)

  -- with an insertion left the old pieces and the first of the inserted ones are in order
  in_order : (x : RankedPiece) → Contains b.left (Insert x) → (n : ℕ) → (k : ℕ) × IsOrdered (state_after b.start (take n (inserting b))) (Contains (p.old ++ take k p.inserted))
  in_order x member n =
      let count = whole_insertions b.planned n in (
        length (came b) + count,
        subst (λ (some : List RankedPiece). IsOrdered (state_after b.start (take n (inserting b))) (Contains (p.old ++ some)))
            (sym (ap (take (length (came b) + count)) (all_come b) ∙ take-append-add (came b) (coming b) count))
            (IsOrdered_same (state_after b.start (take n (inserting b))) (Contains (b.plan.stands.standing ++ take count (coming b))) (Contains (p.old ++ (came b ++ take count (coming b)))) (same count)
            (planned_ordered b.start b.plan.stands.standing (coming b) b.live b.slots b.entries b.planned n (row b))),
      )
    where
      to : (k : ℕ) (z : RankedPiece) → Contains (b.plan.stands.standing ++ take k (coming b)) z → Contains (p.old ++ (came b ++ take k (coming b))) z
      to k z is = elim (Contains-append_cases b.plan.stands.standing (take k (coming b)) z is) [
        | inl here ↦ elim (Contains-append_cases p.old (came b) z (to_old b x member z here)) [
          | inl old ↦ Contains-append_left p.old (came b ++ take k (coming b)) z old
          | inr early ↦ Contains-append_right p.old (came b ++ take k (coming b)) z (Contains-append_left (came b) (take k (coming b)) z early)
        ]
        | inr late ↦ Contains-append_right p.old (came b ++ take k (coming b)) z (Contains-append_right (came b) (take k (coming b)) z late)
      ]

      from : (k : ℕ) (z : RankedPiece) → Contains (p.old ++ (came b ++ take k (coming b))) z → Contains (b.plan.stands.standing ++ take k (coming b)) z
      from k z is = elim (Contains-append_cases p.old (came b ++ take k (coming b)) z is) [
        | inl old ↦ Contains-append_left b.plan.stands.standing (take k (coming b)) z (from_old b x member z (Contains-append_left p.old (came b) z old))
        | inr rest ↦ elim (Contains-append_cases (came b) (take k (coming b)) z rest) [
          | inl early ↦ Contains-append_left b.plan.stands.standing (take k (coming b)) z (from_old b x member z (Contains-append_right p.old (came b) z early))
          | inr late ↦ Contains-append_right b.plan.stands.standing (take k (coming b)) z late
        ]
      ]

      same : (k : ℕ) (z : RankedPiece) → Contains (b.plan.stands.standing ++ take k (coming b)) z ↔ Contains (p.old ++ (came b ++ take k (coming b))) z
      same k z = (to k z, from k z)

  pub keeps : KeepsRest (length b.slots) (pieces b) b.start b.left (inserting b)
  keeps = record {
    unused = λ n short. unused n;
    twins = λ n short. made.copies n;
    in_order = λ x member n short. in_order x member n;
    arrive = arrives;
    once = alone_then;
  }

  -- all insertions are those of the pieces that are to come,
  makes : insertions b.start (inserting b ++ (telling b ++ erasing b)) ≡ insertions b.start (inserting b)
  makes = first_insertions b.start (inserting b) (telling b) (erasing b) (filter_map rewritten_by b.left) (filter_map erased_by b.left) results erases

  -- which with those that stand are old or inserted ones
  within : (first : RankedPiece) → Contains b.left (Insert first) → (z : RankedPiece) → Contains (b.plan.stands.standing ++ coming b) z → Contains (p.old ++ p.inserted) z
  within first member z is = elim (Contains-append_cases b.plan.stands.standing (coming b) z is) [
    | inl here ↦ elim (Contains-append_cases p.old (came b) z (to_old b first member z here)) [
      | inl old ↦ Contains-append_left p.old p.inserted z old
      | inr early ↦ Contains-append_right p.old p.inserted z (came_in b z early)
    ]
    | inr late ↦ Contains-append_right p.old p.inserted z (coming_in b z late)
  ]

  none_made : ((x : RankedPiece) → Contains b.left (Insert x) → ⊥) → insertions b.start (inserting b) ≡ []
  none_made none = empty (insertions b.start (inserting b)) (rest.entries ∙ ap (map entry_for) (no_inserts b.left none))
    where
      empty : (some : List Insertion) → map (λ (one : Insertion). one.entry) some ≡ [] → some ≡ []
      empty [] same = refl
      empty (one ∷ some) same = absurd (cc)

  chains_within : (first : RankedPiece) → Contains b.left (Insert first) → (bound : ℕ) → BoundsPieceChains (p.old ++ p.inserted) bound → BoundsPieceChains (b.plan.stands.standing ++ coming b) bound
  chains_within first member bound bounds some members is = bounds some (λ z in_some. within first member z (members z in_some)) is

  -- so they are within the tight bound,
  pub tight : (chain : ℕ) → BoundsChains (b.rules ++ additions b.batch) chain → IsWithinTightBound chain (insertions b.start (inserting b ++ (telling b ++ erasing b)))
  tight chain bounds = subst (IsWithinTightBound chain) (sym makes) (elim (any_insert b.left) [
    | inl found ↦ planned_tight b.start b.plan.stands.standing (coming b) b.live b.slots b.entries b.planned chain (row b)
        (chains_within found.0 found.1 chain (row_chains b.mode (during_of b) b.rules b.batch b.change chain bounds))
    | inr none ↦ subst (IsWithinTightBound chain) (sym (none_made none)) tt
  ])

  -- cross nothing where all rules are routes,
  pub uncrossed : (version : IpVersion) → AllByRecursion (IsRoute version) b.rules → AllByRecursion (IsRoute version) (additions b.batch)
      → IsUncrossed (prefix_lengths version) (insertions b.start (inserting b ++ (telling b ++ erasing b)))
  uncrossed version routes added = subst (IsUncrossed (prefix_lengths version)) (sym makes) (elim (any_insert b.left) [
    | inl found ↦ planned_uncrossed (prefix_lengths version) b.start b.plan.stands.standing (coming b) b.live b.slots b.entries b.planned (row b) (nested found.0 found.1)
        (chains_within found.0 found.1 (prefix_lengths version) (row_short b.mode (during_of b) b.rules b.batch version b.change routes added))
    | inr none ↦ subst (IsUncrossed (prefix_lengths version)) (sym (none_made none)) tt
  ])
    where
      nested : (first : RankedPiece) → Contains b.left (Insert first) → AreNested (b.plan.stands.standing ++ coming b)
      nested first member upper one lower in_upper in_one in_lower =
          row_nested b.mode (during_of b) b.rules b.batch version b.change routes added upper one lower
          (within first member upper in_upper) (within first member one in_one) (within first member lower in_lower)

  -- and have the numbers of their plan
  pub longest : longest_insertion b.start (inserting b ++ (telling b ++ erasing b)) ≡ longest_planned b.planned
  longest =
      ap (λ (all : List Insertion). fold max 0 (map (λ (insertion : Insertion). length insertion.writes) all)) makes
      ∙ planned_longest b.start b.plan.stands.standing (coming b) b.live b.slots b.entries b.planned (row b)

  pub greatest : IsGreatestSpan (insertions b.start (inserting b ++ (telling b ++ erasing b))) (greatest_planned b.planned)
  greatest = subst (λ (all : List Insertion). IsGreatestSpan all (greatest_planned b.planned)) (sym makes)
      (planned_span b.start b.plan.stands.standing (coming b) b.live b.slots b.entries b.planned (row b))
