-- Tasks that are counted behind a write, one by one.
use Rattle.std.proofs.Common.{◌≡◌, ℕ, ◌+◌, ◌<◌, Bool, true, false, IsTrue, IsFalse, Option, List, [], ◌∷◌, ◌++◌, ◌||◌, length, map, take, drop, get_or, refl, sym, ap, ap₂, subst}
use Rattle.std.specs.Prelude.{nat_lt, if◌then◌else◌}
use Rattle.slot_order.specs.Order.{slot}
use Rattle.rule_model.specs.declared.words.Entry.{Entry}
use Rattle.rule_model.specs.Entry.{RankedPiece}
use Rattle.readback.specs.Progress.{AreParted, IsOutOfTurn}
use Rattle.readback.specs.Tasks.{Task, Insert, Rewrite, Erase, piece_of, is_done}
use Rattle.readback.proofs.Counted.{one_done, one_left, out_of_turn, next_tasks, tasks_behind}
use Rattle.trace_check.specs.declared.tasks.TaskKind.{TaskKind}
use Rattle.trace_check.specs.declared.tasks.TaskKind.TheVariants as kind
use Rattle.trace_check.specs.Behind.{entries_in, task_by_kind, is_of, touches, done_behind, ArePlacedTasks}

choose : (touched is was : Bool) → (touched ≡ false → was ≡ is) → (if touched then is else was) ≡ is
choose true is was placed = refl
choose false is was placed = placed refl

-- a task that isn't touched is done where it is among those that were
pub status : (places : List (Option RankedPiece)) (at : ℕ) (before : Option RankedPiece) (some : TaskKind) (pieces : List RankedPiece) (first were_done i : ℕ) (x : RankedPiece)
    → ArePlacedTasks places at before some pieces first were_done → i < length pieces → get_or pieces i x ≡ x
    → done_behind places at before (nat_lt (first + i) were_done) (task_by_kind some x) ≡ is_done (entries_in places) (task_by_kind some x)
status places at before kind.Insert pieces first were_done i x placed inside read =
    choose (touches places at before x) (is_done (entries_in places) (Insert x)) (nat_lt (first + i) were_done) (placed i x inside read)
status places at before kind.Rewrite pieces first were_done i x placed inside read =
    choose (touches places at before x) (is_done (entries_in places) (Rewrite x)) (nat_lt (first + i) were_done) (placed i x inside read)
status places at before kind.Erase pieces first were_done i x placed inside read =
    choose (touches places at before x) (is_done (entries_in places) (Erase x)) (nat_lt (first + i) were_done) (placed i x inside read)

pick : (touched is was : Bool) → touched ≡ true → is ≡ (if touched then is else was)
pick true is was touched = refl
pick false is was touched = absurd (let bad : false ≡ true = touched in cc)

keep : (touched is was : Bool) → touched ≡ false → was ≡ (if touched then is else was)
keep true is was untouched = absurd (let bad : true ≡ false = untouched in cc)
keep false is was untouched = refl

either : (a b : Bool) → b ≡ true → (a || b) ≡ true
either true b is = refl
either false b is = is

-- what is found of a task
pub untouched_is : (places : List (Option RankedPiece)) (at : ℕ) (before : Option RankedPiece) (some : TaskKind) (x : RankedPiece) (was : Bool) → is_of x before ≡ false → is_of x (slot places at) ≡ false
    → was ≡ done_behind places at before was (task_by_kind some x)
untouched_is places at before kind.Insert x was a b = keep (touches places at before x) (is_done (entries_in places) (Insert x)) was (ap₂ (λ (a b : Bool). a || b) a b)
untouched_is places at before kind.Rewrite x was a b = keep (touches places at before x) (is_done (entries_in places) (Rewrite x)) was (ap₂ (λ (a b : Bool). a || b) a b)
untouched_is places at before kind.Erase x was a b = keep (touches places at before x) (is_done (entries_in places) (Erase x)) was (ap₂ (λ (a b : Bool). a || b) a b)

pub touched_is : (places : List (Option RankedPiece)) (at : ℕ) (before : Option RankedPiece) (some : TaskKind) (x : RankedPiece) (was : Bool) → touches places at before x ≡ true
    → is_done (entries_in places) (task_by_kind some x) ≡ done_behind places at before was (task_by_kind some x)
touched_is places at before kind.Insert x was touched = pick (touches places at before x) (is_done (entries_in places) (Insert x)) was touched
touched_is places at before kind.Rewrite x was touched = pick (touches places at before x) (is_done (entries_in places) (Rewrite x)) was touched
touched_is places at before kind.Erase x was touched = pick (touches places at before x) (is_done (entries_in places) (Erase x)) was touched

pub stood_here : (places : List (Option RankedPiece)) (at : ℕ) (before : Option RankedPiece) (x : RankedPiece) → is_of x before ≡ true → touches places at before x ≡ true
stood_here places at before x is = ap (λ (a : Bool). a || is_of x (slot places at)) is

pub stands_here : (places : List (Option RankedPiece)) (at : ℕ) (before : Option RankedPiece) (x : RankedPiece) → is_of x (slot places at) ≡ true → touches places at before x ≡ true
stands_here places at before x is = either (is_of x before) (is_of x (slot places at)) is

-- one more is done, or left, or is done out of its turn
module _ (held : List (Option Entry)) (some : TaskKind) (before : List Task) (pieces : List RankedPiece) (place : ℕ) (x : RankedPiece) (done left : ℕ) (inside : place < length pieces) (read : x ≡ get_or pieces place x)
    (parted : AreParted held (before ++ map (task_by_kind some) (take place pieces)) done left) where
  pub done_next : left ≡ 0 → IsTrue (is_done held (task_by_kind some x)) → AreParted held (before ++ map (task_by_kind some) (take (place + 1) pieces)) (done + 1) left
  done_next none is =
      subst (λ tasks. AreParted held tasks (done + 1) left) (sym (next_tasks (task_by_kind some) before pieces place x inside (sym read)))
      (subst (AreParted held ((before ++ map (task_by_kind some) (take place pieces)) ++ task_by_kind some x ∷ []) (done + 1)) (sym none)
      (one_done held (before ++ map (task_by_kind some) (take place pieces)) (task_by_kind some x) done (subst (AreParted held (before ++ map (task_by_kind some) (take place pieces)) done) none parted) is))

  pub left_next : IsFalse (is_done held (task_by_kind some x)) → AreParted held (before ++ map (task_by_kind some) (take (place + 1) pieces)) done (left + 1)
  left_next fails =
      subst (λ tasks. AreParted held tasks done (left + 1)) (sym (next_tasks (task_by_kind some) before pieces place x inside (sym read)))
      (one_left held (before ++ map (task_by_kind some) (take place pieces)) (task_by_kind some x) done left parted fails)

  pub early_next : (later : List Task) → 0 < left → IsTrue (is_done held (task_by_kind some x)) → IsOutOfTurn held (before ++ (map (task_by_kind some) pieces ++ later)) (piece_of (task_by_kind some x)).rank
  early_next later more is =
      subst (λ tasks. IsOutOfTurn held tasks (piece_of (task_by_kind some x)).rank) (sym (tasks_behind (task_by_kind some) before later pieces place x inside (sym read)))
      (out_of_turn held (before ++ map (task_by_kind some) (take place pieces)) (task_by_kind some x) (map (task_by_kind some) (drop (place + 1) pieces) ++ later) done left parted more is)
