-- Where the writes of a planned rest lead: the ids that are left are those of the new set's pieces, each with its entry.
use Rattle.std.proofs.Common.{◌≡◌, ℕ, false, ◌<◌, length, Some, None, Option, List, [], ◌∷◌, ◌++◌, map, IsTrue, Contains, inl, inr, refl, sym, ◌∙◌, subst, ap}
use Rattle.std.specs.Prelude.{AllPairs, nat_eq}
use Rattle.std.specs.List.{AllByRecursion, AllZip, IsDistinct, filter_map}
use Rattle.std.proofs.lemmas.Bool.{eqb-true, false_from_ne_true}
use Rattle.std.proofs.lemmas.List.Elements.{All-contains, Contains-append_left, Contains-append_cases, filter_map-append}
use Rattle.slot_order.specs.Order.{slot, Ordered}
use Rattle.slot_order.proofs.Lists.{contains_head, contains_tail, in_filter, filter_in, contains_cases, contains_none}
use Rattle.slot_moves.proofs.Once.{AllOnce}
use Rattle.slot_order.proofs.Writes.{slot_inside}
use Rattle.slot_pool.specs.Arrangement.{Slots}
use Rattle.rule_model.proofs.Pairs.{pairs_head, pairs_tail}
use Rattle.rule_model.specs.declared.words.Entry.{Entry}
use Rattle.rule_model.specs.Entry.{RankedPiece, entry_for, same_match}
use Rattle.placement.specs.declared.LivePiece.{LivePiece}
use Rattle.placement.proofs.Above.{live_is, is_live_from}
use Rattle.placement.specs.Insertion.{IsLive}
use Rattle.tcam_device.specs.State.{State, state_after}
use Rattle.tcam_device.proofs.One.{same_match-same}
use Rattle.tcam_device.proofs.Spans.{state_after-append}
use Rattle.commit_writes.specs.declared.Rewrite.{Rewrite as Rewritten}
use Rattle.commit_writes.specs.Planned.{IdEntries, AreEntriesOf, entry_at, held_entry, contents, with_slots, live_after, slots_after}
use Rattle.commit_writes.specs.PlannedBatch.{IsIdOf, IsRewriteOf, rewritten_entries, erased_slots, erased_live}
use Rattle.commit_writes.proofs.BatchIds.{IsTold, AreRewrites, one_live, told}
use Rattle.commit_writes.proofs.BatchPieces.{erased_once}
use Rattle.commit_writes.proofs.Erases.{CanErase, in_erased, erased_state, erased_ordered}
use Rattle.commit_writes.proofs.Ids.{AreOfPieces}
use Rattle.commit_writes.proofs.Members.{of_row, pairs_behind}
use Rattle.commit_writes.proofs.Mirror.{entry_by, over, rank, ordered_ids}
use Rattle.commit_writes.proofs.Ordered.{planned_state}
use Rattle.commit_writes.proofs.Rewrites.{rewritten_state}
use Rattle.commit_writes.proofs.Row.{AreReadable}
use Rattle.commit_writes.proofs.Start.{commit_piece, commit_readable}
use Rattle.commit_writes.proofs.Zips.{zip_right}
use Rattle.readback.specs.Tasks.{CommitPieces, Task, Rewrite, known_pieces, is_told_in, IsTold as StandsTold}
use Rattle.readback.specs.Stage.{IsCommitAt}
use Rattle.readback.specs.Going.{rewritten_by, erased_by}
use Rattle.readback.proofs.Facts.{IsSame, inserted_known, rewritten_known, rewrite_in, left_in}
use Rattle.readback.proofs.Parted.{all_erases}
use Rattle.readback.proofs.Shows.{arrived}
use Rattle.readback.proofs.Tests.{told_is, told_from}
use Rattle.readback.proofs.BegunRests.{Begun, during_of, pieces, coming, new_of, facts, leads}
use Rattle.readback.proofs.PlannedRests.{inserting, telling, erasing, made, slot_contents}
use Rattle.readback.proofs.StandingIds.{coming_in, row}

abbrev Apart : RankedPiece → RankedPiece → Type 0
Apart a b = a.rank ≡ b.rank → a.piece ≡ b.piece → ⊥

-- what gets a result by a task of a list
told_by : (tasks : List Task) (x : RankedPiece) → Contains (filter_map rewritten_by tasks) x → Contains tasks (Rewrite x)
told_by [] x member = absurd (contains_none x member)
told_by (Rewrite y ∷ tasks) x member = elim (contains_cases y x (filter_map rewritten_by tasks) member) [
  | inl same ↦ subst (λ z. Contains (Rewrite y ∷ tasks) (Rewrite z)) same (contains_head (Rewrite y) tasks)
  | inr later ↦ contains_tail (Rewrite y) (Rewrite x) tasks (told_by tasks x later)
]
told_by (first ∷ tasks) x member = contains_tail first (Rewrite x) tasks (told_by tasks x member)

module _ (b : Begun) where
  abbrev p : CommitPieces
  p = pieces b

  abbrev all : List LivePiece
  all = live_after b.live b.planned

  abbrev after : Slots
  after = slots_after b.slots b.planned

  abbrev held : IdEntries
  held = rewritten_entries b.entries b.rewrites

  abbrev piece : ℕ → RankedPiece
  piece = commit_piece b.live b.entries b.planned

  abbrev goes : List RankedPiece
  goes = filter_map erased_by b.left

  of : AreOfPieces b.start (b.plan.stands.standing ++ coming b) all b.entries
  of = of_row b.start b.plan.stands.standing (coming b) b.live b.slots b.entries b.planned (row b)

  readable : AreReadable b.entries piece all
  readable = commit_readable b.start b.plan.stands.standing (coming b) b.live b.slots b.entries b.planned (row b)

  before_it : (one : LivePiece) → Contains b.live one → Contains all one
  before_it one member = Contains-append_left b.live (map (λ insertion. insertion.one) b.planned) one member

  id_live : (x : RankedPiece) (id : ℕ) → IsIdOf b.live x id → IsLive all id
  id_live x id is = is_live_from all (record { id = id; piece = x.piece; rank = x.rank }) (before_it (record { id = id; piece = x.piece; rank = x.rank }) is)

  -- the pieces that go are distinct, and so are their ids
  goes_once : AllPairs Apart goes
  goes_once = pairs_behind Apart (filter_map erased_by b.done) goes
      (subst (AllPairs Apart) (sym (all_erases p) ∙ (ap (filter_map erased_by) b.stage.parts ∙ filter_map-append erased_by b.done b.left))
      (erased_once b.mode (during_of b) b.rules b.batch b.change))

  other_id : (x y : RankedPiece) (i j : ℕ) → IsIdOf b.live x i → IsIdOf b.live y j → Apart x y → i ≡ j → ⊥
  other_id x y i j is_x is_y apart same =
      let one = one_live b.start (b.plan.stands.standing ++ coming b) all b.entries (record { id = i; piece = x.piece; rank = x.rank }) (record { id = j; piece = y.piece; rank = y.rank }) of
      (before_it (record { id = i; piece = x.piece; rank = x.rank }) is_x) (before_it (record { id = j; piece = y.piece; rank = y.rank }) is_y) same in
      apart (ap (λ (l : LivePiece). l.rank) one) (ap (λ (l : LivePiece). l.piece) one)

  all_other : (x : RankedPiece) (i : ℕ) (some : List RankedPiece) (ids : List ℕ) → IsIdOf b.live x i → AllZip (IsIdOf b.live) some ids → ((y : RankedPiece) → Contains some y → Apart x y)
      → AllByRecursion (λ other. nat_eq i other ≡ false) ids
  all_other x i [] [] is zip apart = tt
  all_other x i [] (j ∷ ids) is zip apart = absurd zip
  all_other x i (y ∷ some) [] is zip apart = absurd zip
  all_other x i (y ∷ some) (j ∷ ids) is zip apart = (
    false_from_ne_true (nat_eq i j) (λ same. other_id x y i j is zip.0 (apart y (contains_head y some)) (eqb-true i j same)),
    all_other x i some ids is zip.1 (λ z member. apart z (contains_tail y z some member)),
  )

  ids_distinct : (some : List RankedPiece) (ids : List ℕ) → AllPairs Apart some → AllZip (IsIdOf b.live) some ids → IsDistinct nat_eq ids
  unfolding IsDistinct
  ids_distinct [] [] once zip = tt
  ids_distinct [] (i ∷ ids) once zip = absurd zip
  ids_distinct (x ∷ some) [] once zip = absurd zip
  ids_distinct (x ∷ some) (i ∷ ids) once zip =
      (all_other x i some ids zip.0 zip.1 (λ y member. All-contains (Apart x) some y (pairs_head Apart x some once) member), ids_distinct some ids (pairs_tail Apart x some once) zip.1)

  -- so they can be erased
  can_erase : CanErase after b.erased
  can_erase = record {
    once = (made b).alone;
    placed = λ id member. let w = zip_right (IsIdOf b.live) goes b.erased id b.plan.erased_are member in (made b).placed id (id_live w.0 id w.2);
    distinct = ids_distinct goes b.erased goes_once b.plan.erased_are;
  }

  -- the ids that are left stand in order
  ending : Ordered (over piece) (rank piece) (IsLive (erased_live all b.erased)) (erased_slots after b.erased) × AllOnce (erased_slots after b.erased)
  ending = erased_ordered (over piece) (rank piece) all after b.erased can_erase
      (ordered_ids piece (IsLive all) after (state_after b.start (inserting b)) readable.apart (made b).within (made b).changed.slots (made b).last)

  given : AreRewrites (filter_map rewritten_by b.left) b.live b.rewrites
  given rewrite member = zip_right (IsRewriteOf b.live) (filter_map rewritten_by b.left) b.rewrites rewrite b.plan.rewrites_are member

  stand : (rewrite : Rewritten) → Contains b.rewrites rewrite → (rewrite.id < length b.entries) × ((at : ℕ) × (slot after at ≡ Some rewrite.id))
  stand rewrite member =
      let w = given rewrite member in
      let is = id_live w.0 rewrite.id w.2.0 in
      (slot_inside b.entries rewrite.id (entry_by piece rewrite.id) (readable.have rewrite.id is), (made b).placed rewrite.id is)

  -- the state after all of the writes
  pub rest_state : state_after b.start (inserting b ++ (telling b ++ erasing b))
      ≡ with_slots b.start (contents (rewritten_entries b.entries b.rewrites) (erased_slots (slots_after b.slots b.planned) b.erased))
  rest_state =
      state_after-append b.start (inserting b) (telling b ++ erasing b)
      ∙ (ap (λ (s : State). state_after s (telling b ++ erasing b)) (planned_state b.start b.plan.stands.standing (coming b) b.live b.slots b.entries b.planned (row b))
      ∙ (state_after-append (with_slots b.start (contents b.entries after)) (telling b) (erasing b)
      ∙ (ap (λ (s : State). state_after s (erasing b)) (rewritten_state b.start b.entries after b.rewrites (made b).alone stand)
      ∙ erased_state b.start held after b.erased can_erase)))

  -- Where it is a stage with no task left:
  module _ (done : List Task) (ended : IsCommitAt (length b.slots) b.mode b.bits b.rules b.batch (state_after b.start (inserting b ++ (telling b ++ erasing b))) done []) where
    abbrev end : State
    end = state_after b.start (inserting b ++ (telling b ++ erasing b))

    abbrev left : List LivePiece
    left = erased_live all b.erased

    abbrev Told : LivePiece → Type 0
    Told one = IsTold (b.plan.stands.standing ++ coming b) (filter_map rewritten_by b.left) all held b.rewrites one

    was_live : (one : LivePiece) → Contains left one → Contains all one
    was_live one member = (in_erased all b.erased one member).0

    shows : (one : LivePiece) → Contains all one → Told one
    shows one member = told b.start (b.plan.stands.standing ++ coming b) (filter_map rewritten_by b.left) b.live all b.entries b.rewrites one of before_it given member

    -- what an id shows is one of the commit's pieces
    shows_known : (one : LivePiece) (t : Told one) → Contains (known_pieces p) t.now
    shows_known one t = elim t.which [
      | inl same ↦ subst (Contains (known_pieces p)) (sym same.0) (elim (Contains-append_cases b.plan.stands.standing (coming b) t.was t.member) [
        | inl stood ↦ b.plan.stands.known t.was stood
        | inr came ↦ inserted_known p t.was (coming_in b t.was came)
      ])
      | inr new ↦ rewritten_known p t.now (rewrite_in p t.now (left_in p b.done b.left (Rewrite t.now) b.stage.parts (told_by b.left t.now new.1)))
    ]

    held_at : (at : ℕ) → slot end.slots at ≡ held_entry held (slot (erased_slots after b.erased) at)
    held_at at = ap (λ (s : State). slot s.slots at) rest_state ∙ slot_contents held (erased_slots after b.erased) at

    -- what stands then are the new set's pieces
    new_is : (x : RankedPiece) → Contains (known_pieces p) x → StandsTold end x → Contains (new_of b) x
    new_is x known is =
        (arrived (length b.slots) b.bits (during_of b) p (new_of b) (facts b) (leads b) end done [] ended refl x).0
        (filter_in (λ y. is_told_in end.slots y) (known_pieces p) x known (told_from end x is))

    new_stands : (x : RankedPiece) → Contains (new_of b) x → Contains (known_pieces p) x × StandsTold end x
    new_stands x member =
        let w = in_filter (λ y. is_told_in end.slots y) (known_pieces p) x
        ((arrived (length b.slots) b.bits (during_of b) p (new_of b) (facts b) (leads b) end done [] ended refl x).1 member) in
        (w.0, told_is end x w.1)

    shows_new : (one : LivePiece) → Contains left one → (t : Told one) → Contains (new_of b) t.now
    shows_new one member t =
        let w = ending.0.placed one.id (is_live_from left one member) in
        new_is t.now (shows_known one t) (w.0, held_at w.0 ∙ (ap (held_entry held) w.1 ∙ t.has))

    -- an id that stands where an entry does is live, and has the entry
    found : (at : ℕ) (entry : Entry) (id : Option ℕ) → slot (erased_slots after b.erased) at ≡ id → held_entry held id ≡ Some entry
        → (one : LivePiece) × Contains left one × (entry_at held one.id ≡ Some entry)
    found at entry None is none = absurd (cc)
    found at entry (Some id) is has = let w = live_is left id (ending.0.within at id is) in (w.0, w.1, ap (entry_at held) w.2 ∙ has)

    has_id : (x : RankedPiece) → Contains (new_of b) x → (one : LivePiece) × Contains left one × (x.piece ≡ one.piece) × (x.rank ≡ one.rank) × (entry_at held one.id ≡ Some (entry_for x))
    has_id x member =
        let s = new_stands x member in
        let f = found s.1.0 (entry_for x) (slot (erased_slots after b.erased) s.1.0) refl (sym (held_at s.1.0) ∙ s.1.1) in
        let t = shows f.0 (was_live f.0 f.1) in
        let same : entry_for x ≡ entry_for t.now = (let e : Some (entry_for x) ≡ Some (entry_for t.now) = sym f.2 ∙ t.has in cc) in
        let one : IsSame x t.now = (facts b).apart x t.now s.0 (shows_known f.0 t) (subst (λ e. IsTrue (same_match (entry_for x) e)) same (same_match-same (entry_for x))) in
        (f.0, f.1, one.0 ∙ t.now_piece, one.1 ∙ t.now_rank, f.2)

    pub rest_entries : AreEntriesOf (new_of b) (erased_live (live_after b.live b.planned) b.erased) (rewritten_entries b.entries b.rewrites)
    rest_entries = record {
      of_piece = λ one member. let t = shows one (was_live one member) in (t.now, shows_new one member t, t.now_piece, t.now_rank, t.has);
      has_id = has_id;
      once = λ x y in_x in_y rank piece. of.entries_are.once x y (was_live x in_x) (was_live y in_y) rank piece;
    }
