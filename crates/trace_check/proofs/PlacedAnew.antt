-- The tasks that a write doesn't touch are done behind it where they are among those that were done.
use Rattle.std.proofs.Common.{◌≡◌, ℕ, ◌+◌, ◌-◌, ◌<◌, length-append, Bool, true, false, ◌||◌, Option, Some, None, List, ◌++◌, length, map, get_or, Contains, IsTrue, inl, inr, refl, sym, ◌∙◌, ap, subst, arith}
use Rattle.std.specs.Prelude.{nat_lt, option_map, slice_set}
use Rattle.std.proofs.lemmas.Bool.{cases_Bool, cases_lt, lt-ltb, le-ltb}
use Rattle.std.proofs.lemmas.List.{get_or_append_left, get_or-append_right, get_or-append-add, get_or-map, length-map}
use Rattle.slot_order.specs.Order.{slot}
use Rattle.slot_order.proofs.Lists.{AllByRecursion-member}
use Rattle.slot_order.proofs.Writes.{slot_same}
use Rattle.rule_model.specs.declared.words.Entry.{Entry}
use Rattle.rule_model.specs.Entry.{RankedPiece, entry_for, same_match}
use Rattle.tcam_device.specs.declared.Write.TheVariants.{Slot}
use Rattle.tcam_device.specs.State.{State, apply}
use Rattle.commit_writes.specs.Bits.{FieldBits}
use Rattle.commit_writes.specs.Shape.{Stands}
use Rattle.readback.specs.Tasks.{CommitPieces, Task, Insert, Rewrite, Erase, tasks_of, piece_of, IsDone, IsLeft, is_done}
use Rattle.readback.specs.Stage.{IsStageAt}
use Rattle.readback.proofs.Faults.{done_or_left}
use Rattle.readback.proofs.Tests.{done_is, left_is}
use Rattle.trace_check.specs.declared.tasks.TaskKind.TheVariants as kind
use Rattle.trace_check.specs.Behind.{entries_in, is_of, touches, ArePlacedTasks}
use Rattle.trace_check.specs.Local.{HoldsPiece, IsTouched}
use Rattle.trace_check.proofs.Local.{done_on, left_on}
use Rattle.trace_check.proofs.PlacedEntries.{entry_in}

-- a task of two lists is one of the first where it stands there, else of the second
first_of : (xs ys : List Task) (k : ℕ) (task : Task) → k < length xs → get_or (xs ++ ys) k task ≡ task → Contains xs task
first_of xs ys k task less read = (k, less, sym (get_or_append_left xs ys task k less) ∙ read)

second_of : (xs ys : List Task) (k : ℕ) (task : Task) → (k < length xs → ⊥) → k < length xs + length ys → get_or (xs ++ ys) k task ≡ task → Contains ys task
second_of xs ys k task past inside read = elim (cases_lt k (length xs)) [
  | inl less ↦ absurd (past less)
  | inr least ↦ (k - length xs, (let i = inside in omega arith), sym (get_or-append_right xs ys (length xs) k task refl least) ∙ read)
]

-- the test of a task, by what it is
true_of : (state : State) (task : Task) → IsDone state task → is_done state.slots task ≡ true
true_of state task is = elim (cases_Bool (is_done state.slots task)) [
  | inl done ↦ done
  | inr left ↦ absurd (done_or_left state task is (left_is state task left))
]

false_of : (state : State) (task : Task) → IsLeft state task → is_done state.slots task ≡ false
false_of state task is = elim (cases_Bool (is_done state.slots task)) [
  | inl done ↦ absurd (done_or_left state task (done_is state task done) is)
  | inr left ↦ left
]

-- a test of a slot that fails
or_left : (a b : Bool) → (a || b) ≡ false → a ≡ false
or_left true b none = absurd (let bad : true ≡ false = none in cc)
or_left false b none = refl

or_right : (a b : Bool) → (a || b) ≡ false → b ≡ false
or_right true b none = absurd (let bad : true ≡ false = none in cc)
or_right false b none = none

not_of : (x : RankedPiece) (place : Option RankedPiece) (content : Option Entry) → option_map entry_for place ≡ content → is_of x place ≡ false → HoldsPiece content x → ⊥
not_of x None content is none h = let bad : None ≡ Some h.0 = is ∙ h.1 in cc
not_of x (Some y) content is none h =
    let one : entry_for y ≡ h.0 = (let k : Some (entry_for y) ≡ Some h.0 = is ∙ h.1 in cc) in
    let match : same_match (entry_for x) (entry_for y) ≡ true = subst (λ (e : Entry). IsTrue (same_match (entry_for x) e)) (sym one) h.2 in
    let bad : true ≡ false = sym match ∙ none in cc

module _ (slots : ℕ) (before during : FieldBits) (p : CommitPieces) (state : State) (done left : List Task) (stage : IsStageAt slots before during p state done left)
    (places : List (Option RankedPiece)) (same : state.slots ≡ entries_in places) (at : ℕ) (content : Option RankedPiece) (entry : Option Entry) (is : option_map entry_for content ≡ entry)
    (room : at < length state.slots) (inside : at < length places) (written : entries_in (slice_set places at content) ≡ slice_set state.slots at entry) where
  abbrev after : State
  after = apply state (Slot at entry)

  untouched : (x : RankedPiece) (task : Task) → piece_of task ≡ x → touches (slice_set places at content) at (slot places at) x ≡ false → IsTouched state at entry task → ⊥
  untouched x task of none touched = elim touched [
    | inl stood ↦ not_of x (slot places at) (slot state.slots at) (sym (entry_in places at) ∙ ap (λ held. slot held at) (sym same)) (or_left (is_of x (slot places at)) (is_of x (slot (slice_set places at content) at)) none)
        (subst (Stands state at) of stood)
    | inr comes ↦ not_of x content entry is
        (ap (is_of x) (sym (slot_same places at content inside)) ∙ or_right (is_of x (slot places at)) (is_of x (slot (slice_set places at content) at)) none)
        (subst (HoldsPiece entry) of comes)
  ]

  -- the test of an untouched task
  test : (k : ℕ) (task : Task) (x : RankedPiece) → piece_of task ≡ x → k < length (tasks_of p) → get_or (tasks_of p) k task ≡ task
      → touches (slice_set places at content) at (slot places at) x ≡ false → nat_lt k (length done) ≡ is_done (entries_in (slice_set places at content)) task
  test k task x of within read none =
      let apart = untouched x task of none in
      let here : get_or (done ++ left) k task ≡ task = subst (λ all. get_or all k task ≡ task) stage.parts read in
      let size : k < length done + length left = subst (λ n. k < n) (ap length stage.parts ∙ length-append done left) within in
      elim (cases_lt k (length done)) [
        | inl less ↦
            let was = AllByRecursion-member (IsDone state) done task stage.are_done (first_of done left k task less here) in
            lt-ltb k (length done) less ∙ (sym (true_of after task (done_on state at entry room task apart was)) ∙ ap (λ held. is_done held task) (sym written))
        | inr least ↦
            let was = AllByRecursion-member (IsLeft state) left task stage.are_left (second_of done left k task (λ less. omega arith) size here) in
            le-ltb k (length done) least ∙ (sym (false_of after task (left_on state at entry room task apart was)) ∙ ap (λ held. is_done held task) (sym written))
      ]

  -- so the tasks of each kind are placed
  pub inserts_placed : ArePlacedTasks (slice_set places at content) at (slot places at) kind.Insert p.inserted 0 (length done)
  inserts_placed i x within read none =
      let size = length-map p.inserted Insert in
      let all = length-append (map Insert p.inserted) (map Rewrite p.rewritten ++ map Erase p.erased) in
      subst (λ k. nat_lt k (length done) ≡ is_done (entries_in (slice_set places at content)) (Insert x)) (let same : i ≡ 0 + i = omega arith in same) (test i (Insert x) x refl (omega arith)
      (get_or_append_left (map Insert p.inserted) (map Rewrite p.rewritten ++ map Erase p.erased) (Insert x) i (omega arith) ∙ (get_or-map Insert p.inserted i x (Insert x) within ∙ ap Insert read)) none)

  pub rewrites_placed : ArePlacedTasks (slice_set places at content) at (slot places at) kind.Rewrite p.rewritten (length p.inserted) (length done)
  rewrites_placed i x within read none =
      let first = length-map p.inserted Insert in
      let size = length-map p.rewritten Rewrite in
      let all = length-append (map Insert p.inserted) (map Rewrite p.rewritten ++ map Erase p.erased) in
      let rest = length-append (map Rewrite p.rewritten) (map Erase p.erased) in
      test (length p.inserted + i) (Rewrite x) x refl (omega arith)
      (ap (λ n. get_or (tasks_of p) (n + i) (Rewrite x)) (sym first) ∙ (get_or-append-add (map Insert p.inserted) (map Rewrite p.rewritten ++ map Erase p.erased) i (Rewrite x)
      ∙ (get_or_append_left (map Rewrite p.rewritten) (map Erase p.erased) (Rewrite x) i (omega arith) ∙ (get_or-map Rewrite p.rewritten i x (Rewrite x) within ∙ ap Rewrite read)))) none

  pub erases_placed : ArePlacedTasks (slice_set places at content) at (slot places at) kind.Erase p.erased (length p.inserted + length p.rewritten) (length done)
  erases_placed i x within read none =
      let first = length-map p.inserted Insert in
      let second = length-map p.rewritten Rewrite in
      let size = length-map p.erased Erase in
      let all = length-append (map Insert p.inserted) (map Rewrite p.rewritten ++ map Erase p.erased) in
      let rest = length-append (map Rewrite p.rewritten) (map Erase p.erased) in
      let place : length p.inserted + length p.rewritten + i ≡ length (map Insert p.inserted) + (length (map Rewrite p.rewritten) + i) = omega arith in
      test (length p.inserted + length p.rewritten + i) (Erase x) x refl (omega arith)
      (ap (λ n. get_or (tasks_of p) n (Erase x)) place ∙ (get_or-append-add (map Insert p.inserted) (map Rewrite p.rewritten ++ map Erase p.erased) (length (map Rewrite p.rewritten) + i) (Erase x)
      ∙ (get_or-append-add (map Rewrite p.rewritten) (map Erase p.erased) i (Erase x) ∙ (get_or-map Erase p.erased i x (Erase x) within ∙ ap Erase read)))) none
