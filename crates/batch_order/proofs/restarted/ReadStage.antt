-- A stopped device once its twin is erased: the stage that it shows, and which ids stand at it.
use Rattle.std.proofs.Common.{◌≡◌, ℕ, zero, suc, ◌+◌, ◌-◌, Option, Some, None, List, [], ◌∷◌, ◌++◌, Contains, IsTrue, drop, length, map, inl, inr, ◌⊎◌, refl, sym, ◌∙◌, subst, ap, ap₂, arith}
use Rattle.std.specs.Prelude.{AllPairs, All}
use Rattle.std.specs.List.{filter_map}
use Rattle.std.proofs.lemmas.List.{length-map, length-append, drop-map}
use Rattle.std.proofs.lemmas.List.Kept.{AllPairs-cons}
use Rattle.std.proofs.lemmas.List.Elements.{All-contains, Contains-append_left, Contains-append_right, Contains-append_cases, filter_map-append}
use Rattle.slot_order.specs.Order.{slot}
use Rattle.slot_order.proofs.Lists.{AllByRecursion-member, contains_head, contains_tail, map_in}
use Rattle.slot_pool.specs.Arrangement.{Slots}
use Rattle.rule_model.specs.declared.Rule.{Rule}
use Rattle.rule_model.proofs.Pairs.{pairs_append, pairs_head, pairs_none, pairs_tail}
use Rattle.rule_store.specs.declared.Mode.{Mode}
use Rattle.rule_store.specs.declared.Command.{Command}
use Rattle.rule_store.specs.Batch.{set_after}
use Rattle.rule_store.specs.Verdict.{entries_of}
use Rattle.rule_model.specs.declared.words.Entry.{Entry}
use Rattle.rule_model.specs.Entry.{RankedPiece, entry_for, same_match}
use Rattle.placement.specs.Live.{AreApart}
use Rattle.tcam_device.specs.State.{State, IsState, on_device}
use Rattle.tcam_device.proofs.One.{same_match-same}
use Rattle.commit_writes.specs.Bits.{FieldBits, bits_with}
use Rattle.commit_writes.specs.Shape.{set_pieces}
use Rattle.commit_writes.specs.Planned.{AreEntriesOf, held_entry, entry_at}
use Rattle.commit_writes.proofs.BatchPieces.{inserted_once}
use Rattle.commit_writes.proofs.Filters.{all_from}
use Rattle.commit_writes.proofs.Members.{pairs_across}
use Rattle.commit_writes.proofs.PieceCounts.{entries_pieces}
use Rattle.commit_writes.proofs.SetPieces.{AreOnce, pieces_once}
use Rattle.readback.specs.declared.staging.Shown.{Shown}
use Rattle.readback.specs.Going.{inserted_by}
use Rattle.readback.specs.Stage.{IsCommitAt, IsTwinSlot}
use Rattle.readback.specs.Tasks.{CommitPieces, Task, Insert, Rewrite, Erase, IsDone, IsLeft, IsStanding, IsTold, commit_pieces, known_pieces, tasks_of}
use Rattle.readback.proofs.Begun.{change_of}
use Rattle.readback.proofs.Facts.{ArePieces, IsSame, erase_in, inserted_known, known_cases, left_in, old_known, same_sym}
use Rattle.readback.proofs.Parted.{all_inserts, put_by}
use Rattle.readback.proofs.Pieces.{pieces_lead}
use Rattle.readback.proofs.Rest.{untwinned_by}
use Rattle.readback.proofs.Shows.{InOrder, LeadTo}
use Rattle.readback.specs.Standing.{HaveStandingIds}
use Rattle.readback.proofs.Narrow.{stages_narrow}
use Rattle.readback.proofs.ReadIds.{stages_have_ids}
use Rattle.readback.proofs.Same.{stage_on, twin_on}
use Rattle.batch_order.specs.Entries.{Entries, HasId}
use Rattle.batch_order.specs.Restart.{in_use}
use Rattle.batch_order.specs.Standing.{AreStanding, StandsFor, without_twin}
use Rattle.batch_order.specs.Stopped.{IsStopped}
use Rattle.batch_order.proofs.ids.Numbered.{as_many}
use Rattle.batch_order.proofs.restarted.ReadSlots.{cleared_by, facts, ids_read, mirror_at, narrow, of_one}
use Rattle.batch_order.proofs.restarted.Twinned.{of_all}

-- what lies past so many of two lists
pub drop_append : {X : Type 0} (n : ℕ) (xs ys : List X) → drop n (xs ++ ys) ≡ drop n xs ++ drop (n - length xs) ys
drop_append zero xs ys = ap (λ (k : ℕ). xs ++ drop k ys) (let k : 0 ≡ 0 - length xs = omega arith in k)
drop_append (suc n) [] ys = ap (λ (k : ℕ). drop k ys) (let k : suc n ≡ suc n - 0 = omega arith in k)
drop_append (suc n) (x ∷ xs) ys = drop_append n xs ys ∙ ap (λ (k : ℕ). drop n xs ++ drop k ys) (let k : n - length xs ≡ suc n - length (x ∷ xs) = omega arith in k)

pub past_seam : {X : Type 0} (xs ys : List X) → drop (length xs) (xs ++ ys) ≡ ys
past_seam [] ys = refl
past_seam (x ∷ xs) ys = past_seam xs ys

-- what holds of each two of a list holds of each two of its beginning
pairs_front : {X : Type 0} (R : X → X → Type 0) (xs ys : List X) → AllPairs R (xs ++ ys) → AllPairs R xs
pairs_front R [] ys all = pairs_none R
pairs_front R (x ∷ xs) ys all =
    AllPairs-cons R x xs (all_from (R x) xs (λ y member. All-contains (R x) (xs ++ ys) y (pairs_head R x (xs ++ ys) all) (Contains-append_left xs ys y member)))
    (pairs_front R xs ys (pairs_tail R x (xs ++ ys) all))

-- tasks without new results and erases are as many insertions
all_put : (tasks : List Task) → ((x : RankedPiece) → Contains tasks (Rewrite x) → ⊥) → ((x : RankedPiece) → Contains tasks (Erase x) → ⊥) → length (filter_map inserted_by tasks) ≡ length tasks
all_put [] told gone = refl
all_put (Insert x ∷ tasks) told gone = ap suc (all_put tasks (λ y member. told y (contains_tail (Insert x) (Rewrite y) tasks member)) (λ y member. gone y (contains_tail (Insert x) (Erase y) tasks member)))
all_put (Rewrite x ∷ tasks) told gone = absurd (told x (contains_head (Rewrite x) tasks))
all_put (Erase x ∷ tasks) told gone = absurd (gone x (contains_head (Erase x) tasks))

module _ (mode : Mode) (bits : FieldBits) (rules : List Rule) (batch : List Command) (state : State) (shown : Shown) (kept : Entries) (arranged : Slots)
    (is : IsStopped (length arranged) mode bits rules batch state shown) (again : AreStanding (length arranged) (without_twin shown.stage.twin shown.places.items) kept arranged)
    (apart : AreApart (length arranged) kept.live) where
  abbrev p : CommitPieces
  p = commit_pieces mode bits rules batch

  abbrev during : FieldBits
  during = bits_with mode rules batch bits

  abbrev before : State
  before = in_use (length arranged) state

  abbrev cleared : State
  cleared = cleared_by (length arranged) state shown

  abbrev done : List Task
  done = is.found.done

  abbrev left : List Task
  left = is.found.left

  are : ArePieces p
  are = facts mode bits rules batch state shown kept arranged is again

  leads : LeadTo p (set_pieces mode during (set_after rules batch))
  leads = pieces_lead mode bits rules batch (change_of mode bits rules batch is.can)

  same : (at : ℕ) → slot before.slots at ≡ slot state.slots at
  same = narrow mode bits rules batch state shown kept arranged is again

  -- the slots in use show the stage, also without the twin
  stage : IsCommitAt (length arranged) mode bits rules batch cleared done left
  stage = (untwinned_by (length arranged) bits during p before done left
      (stage_on state before same (length arranged) bits during p done left refl refl is.found.stage)
      shown.stage.twin (twin_on state before same shown.stage.twin is.found.twin)).0

  before_is : IsState (length before.slots) before
  before_is = record { size = refl; src_size = is.is_state.src_size; dst_size = is.is_state.dst_size; src_words = is.is_state.src_words; dst_words = is.is_state.dst_words }

  on : state ≡ on_device (length state.slots) before
  on = sym (stages_narrow (length arranged) mode bits rules batch state done left is.wide is.found.stage)

  -- and the ids are those of what stands, in order
  pub ids : HaveStandingIds (commit_pieces mode bits rules batch) kept.live arranged kept.entries
  ids = stages_have_ids (length state.slots) mode bits rules batch before done left shown.stage.twin kept.live arranged kept.entries is.can before_is
      (subst (λ (s : State). IsCommitAt (length arranged) mode bits rules batch s done left) on is.found.stage)
      (subst (λ (s : State). IsTwinSlot s.slots shown.stage.twin) on is.found.twin)
      (ids_read mode bits rules batch state shown kept arranged is again apart)

  -- what a slot holds is told under a live id
  found : (at : ℕ) (entry : Entry) → slot cleared.slots at ≡ Some entry → (y : RankedPiece) × Contains (known_pieces p) y × (entry_for y ≡ entry) × ((id : ℕ) × StandsFor kept id y)
  found at entry held = go (slot arranged at) refl
    where
      go : (o : Option ℕ) → slot arranged at ≡ o → (y : RankedPiece) × Contains (known_pieces p) y × (entry_for y ≡ entry) × ((id : ℕ) × StandsFor kept id y)
      go None none = absurd (let clash : None ≡ Some entry = sym (mirror_at mode bits rules batch state shown kept arranged is again at ∙ ap (held_entry kept.entries) none) ∙ held in cc)
      go (Some id) here =
          let s = again.stands at id here in
          let holds : Some (entry_for s.1) ≡ Some entry = sym (s.3).entry ∙ (sym (mirror_at mode bits rules batch state shown kept arranged is again at ∙ ap (held_entry kept.entries) here) ∙ held) in
          (s.1, (is.is_shown.places.known at s.1 (of_all shown.stage.twin shown.places.items at s.1 s.2)).0, (let e : entry_for s.1 ≡ entry = cc in e), (id, s.3))

  -- so is a piece that stands, perhaps with another result
  standing : (x : RankedPiece) → Contains (known_pieces p) x → IsStanding cleared x → (y : RankedPiece) × Contains (known_pieces p) y × IsSame x y × IsTold cleared y × ((id : ℕ) × StandsFor kept id y)
  standing x known (at, s) =
      let f = found at s.0 s.1 in
      let own : IsSame x f.0 = are.apart x f.0 known f.1 (subst (λ e. IsTrue (same_match (entry_for x) e)) (sym f.2) s.2) in
      (f.0, f.1, own, (at, s.1 ∙ ap (λ (e : Entry). Some e) (sym f.2)), f.3)

  has_id : (x : RankedPiece) → Contains (known_pieces p) x → IsStanding cleared x → HasId kept.live x
  has_id x known stands = let w = standing x known stands in let s = w.4.1 in (s.one, s.live, s.piece ∙ sym w.2.0, s.rank ∙ sym w.2.1)

  -- what gets a new result stands, since it doesn't go,
  pub rewritten_id : (x : RankedPiece) → Contains (commit_pieces mode bits rules batch).rewritten x → HasId kept.live x
  rewritten_id x member =
      let was = are.was x member in
      let old = has_id was.0 (old_known p was.0 was.1) (stage.stays was.0 was.1 (λ gone. leads.kept x was.0 member gone was.2)) in
      (old.0, old.1, old.2 ∙ was.2.0, old.3 ∙ was.2.1)

  -- and so does what is left to go
  in_left : (task : Task) → Contains left task → IsLeft cleared task
  in_left task member = AllByRecursion-member (IsLeft cleared) left task stage.are_left member

  past_done : (task : Task) → Contains (drop (length done) (tasks_of p)) task → Contains left task
  past_done task member = subst (λ some. Contains some task) (ap (drop (length done)) stage.parts ∙ past_seam done left) member

  pub erased_id : (x : RankedPiece) → Contains (drop (length is.found.done - length (commit_pieces mode bits rules batch).inserted - length (commit_pieces mode bits rules batch).rewritten) (commit_pieces mode bits rules batch).erased) x → HasId kept.live x
  erased_id x member =
      let n = length done in
      let last : Contains (drop (n - length (map Insert p.inserted) - length (map Rewrite p.rewritten)) (map Erase p.erased)) (Erase x) =
      subst (λ some. Contains some (Erase x))
      (sym (drop-map Erase (n - length p.inserted - length p.rewritten) p.erased)
      ∙ ap₂ (λ (a b : ℕ). drop (n - a - b) (map Erase p.erased)) (sym (length-map p.inserted Insert)) (sym (length-map p.rewritten Rewrite)))
      (map_in Erase (drop (n - length p.inserted - length p.rewritten) p.erased) x member) in
      let behind : Contains (drop (n - length (map Insert p.inserted)) (map Rewrite p.rewritten ++ map Erase p.erased)) (Erase x) =
      subst (λ some. Contains some (Erase x)) (sym (drop_append (n - length (map Insert p.inserted)) (map Rewrite p.rewritten) (map Erase p.erased)))
      (Contains-append_right (drop (n - length (map Insert p.inserted)) (map Rewrite p.rewritten)) _ (Erase x) last) in
      let all : Contains (drop n (tasks_of p)) (Erase x) =
      subst (λ some. Contains some (Erase x)) (sym (drop_append n (map Insert p.inserted) (map Rewrite p.rewritten ++ map Erase p.erased)))
      (Contains-append_right (drop n (map Insert p.inserted)) _ (Erase x) behind) in
      let member_left = past_done (Erase x) all in
      has_id x (old_known p x (are.goes x (erase_in p x (left_in p done left (Erase x) stage.parts member_left)))) (in_left (Erase x) member_left)

  pub insert_left : (x : RankedPiece) → Contains (drop (length is.found.done) (commit_pieces mode bits rules batch).inserted) x → Contains is.found.left (Insert x)
  insert_left x member =
      let n = length done in
      past_done (Insert x) (subst (λ some. Contains some (Insert x)) (sym (drop_append n (map Insert p.inserted) (map Rewrite p.rewritten ++ map Erase p.erased)))
      (Contains-append_left (drop n (map Insert p.inserted)) _ (Insert x)
      (subst (λ some. Contains some (Insert x)) (sym (drop-map Insert n p.inserted)) (map_in Insert (drop n p.inserted) x member))))

  -- With an insertion left what stands are the old pieces and those that have come.
  module _ (first : RankedPiece) (member : Contains is.found.left (Insert first)) where
    ordered : AllPairs InOrder (done ++ left)
    ordered = subst (AllPairs InOrder) stage.parts leads.in_order

    never_told : (x : RankedPiece) → Contains done (Rewrite x) → ⊥
    never_told x early = pairs_across InOrder done left (Rewrite x) (Insert first) ordered early member

    never_gone : (x : RankedPiece) → Contains done (Erase x) → ⊥
    never_gone x early = pairs_across InOrder done left (Erase x) (Insert first) ordered early member

    abbrev came : List RankedPiece
    came = filter_map inserted_by done

    abbrev coming : List RankedPiece
    coming = filter_map inserted_by left

    all_come : p.inserted ≡ came ++ coming
    all_come = sym (all_inserts p) ∙ (ap (filter_map inserted_by) stage.parts ∙ filter_map-append inserted_by done left)

    came_in : (x : RankedPiece) → Contains came x → Contains p.inserted x
    came_in x early = subst (λ some. Contains some x) (sym all_come) (Contains-append_left came coming x early)

    of_tasks : (task : Task) → Contains (tasks_of p) task → Contains done task ⊎ Contains left task
    of_tasks task is_task = Contains-append_cases done left task (subst (λ tasks. Contains tasks task) stage.parts is_task)

    rewrite_left : (x : RankedPiece) → Contains p.rewritten x → Contains left (Rewrite x)
    rewrite_left x told = elim (of_tasks (Rewrite x) (Contains-append_right (map Insert p.inserted) _ (Rewrite x) (Contains-append_left (map Rewrite p.rewritten) (map Erase p.erased) (Rewrite x) (map_in Rewrite p.rewritten x told)))) [
      | inl early ↦ absurd (never_told x early)
      | inr late ↦ late
    ]

    erase_left : (x : RankedPiece) → Contains p.erased x → Contains left (Erase x)
    erase_left x goes = elim (of_tasks (Erase x) (Contains-append_right (map Insert p.inserted) _ (Erase x) (Contains-append_right (map Rewrite p.rewritten) (map Erase p.erased) (Erase x) (map_in Erase p.erased x goes)))) [
      | inl early ↦ absurd (never_gone x early)
      | inr late ↦ late
    ]

    old_stands : (y : RankedPiece) → Contains p.old y → IsStanding cleared y
    old_stands y old = elim (leads.old_cases y old) [ inl goes ↦ in_left (Erase y) (erase_left y goes) | inr stays ↦ stage.stays y old stays.0 ]

    came_stands : (y : RankedPiece) → Contains came y → IsStanding cleared y
    came_stands y early = AllByRecursion-member (IsDone cleared) done (Insert y) stage.are_done (put_by done y early)

    -- what is told is one of these
    to_old : (x : RankedPiece) → Contains (known_pieces p) x → IsTold cleared x → Contains (p.old ++ came) x
    to_old x known told = elim (known_cases p x known) [
      | inl old ↦ Contains-append_left p.old came x old
      | inr new ↦ elim new [
        | inr changed ↦ absurd (in_left (Rewrite x) (rewrite_left x changed) told)
        | inl put ↦ elim (Contains-append_cases came coming x (subst (λ some. Contains some x) all_come put)) [
          | inl early ↦ Contains-append_right p.old came x early
          | inr late ↦ absurd (in_left (Insert x) (put_by left x late) (told.0, (entry_for x, told.1, same_match-same (entry_for x))))
        ]
      ]
    ]

    -- and each of these is told
    told_itself : (x y : RankedPiece) → Contains (p.old ++ came) x → Contains (p.old ++ came) y → IsSame x y → x ≡ y
    told_itself x y in_x in_y like = elim (Contains-append_cases p.old came x in_x) [
      | inl old ↦ elim (Contains-append_cases p.old came y in_y) [
        | inl other ↦ are.old_once x y old other like
        | inr put ↦ absurd (are.new_apart x y old (came_in y put) like)
      ]
      | inr early ↦ elim (Contains-append_cases p.old came y in_y) [
        | inl other ↦ absurd (are.new_apart y x other (came_in x early) (same_sym x y like))
        | inr put ↦ leads.new_once x y (leads.inserted_new x (came_in x early)) (leads.inserted_new y (came_in y put)) like
      ]
    ]

    stood : (x : RankedPiece) → Contains (p.old ++ came) x → (y : RankedPiece) × Contains (known_pieces p) y × IsSame x y × IsTold cleared y × ((id : ℕ) × StandsFor kept id y)
    stood x in_x = elim (Contains-append_cases p.old came x in_x) [
      | inl old ↦ standing x (old_known p x old) (old_stands x old)
      | inr early ↦ standing x (inserted_known p x (came_in x early)) (came_stands x early)
    ]

    own_id : (x : RankedPiece) → Contains (p.old ++ came) x → (id : ℕ) × StandsFor kept id x
    own_id x in_x =
        let w = stood x in_x in
        let one : x ≡ w.0 = told_itself x w.0 in_x (to_old w.0 w.1 w.3) w.2 in
        subst (λ (y : RankedPiece). (id : ℕ) × StandsFor kept id y) (sym one) w.4

    entries_are : AreEntriesOf (p.old ++ came) kept.live kept.entries
    entries_are = record {
      of_piece = λ one has.
          let w = of_one mode bits rules batch state shown kept arranged is again apart one has in
          let told : IsTold cleared w.1 = (w.0, mirror_at mode bits rules batch state shown kept arranged is again w.0 ∙ (ap (held_entry kept.entries) w.2 ∙ w.6)) in
          (w.1, to_old w.1 w.3 told, w.4, w.5, w.6);
      has_id = λ x in_x.
          let w = own_id x in_x in
          let s = w.1 in
          (s.one, s.live, sym s.piece, sym s.rank, subst (λ (n : ℕ). entry_at kept.entries n ≡ Some (entry_for x)) (sym s.id_is) s.entry);
      once = ids.entries_are.once;
    }

    abbrev Apart : RankedPiece → RankedPiece → Type 0
    Apart a b = a.rank ≡ b.rank → a.piece ≡ b.piece → ⊥

    once : AreOnce (p.old ++ came)
    once = pairs_append Apart p.old came (pieces_once mode during rules is.can.is_set)
        (pairs_front Apart came coming (subst (AllPairs Apart) all_come (inserted_once mode during rules batch (change_of mode bits rules batch is.can))))
        (all_from (λ a. All (λ b. Apart a b) came) p.old (λ a old. all_from (λ b. Apart a b) came (λ b put rank piece. are.new_apart a b old (came_in b put) (piece, rank))))

    pub standing_number : length kept.live ≡ entries_of mode rules + length is.found.done
    standing_number =
        let number = as_many (p.old ++ came) (length arranged) kept.live kept.entries once apart entries_are in
        let two : length (p.old ++ came) ≡ length p.old + length came = length-append p.old came in
        let old : entries_of mode rules ≡ length p.old = entries_pieces mode during rules in
        let put : length came ≡ length done = all_put done never_told never_gone in
        omega arith
