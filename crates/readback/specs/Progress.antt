-- How far a commit came, by tests of its tasks.
use Rattle.std.specs.Prelude.{◌≡◌, ℕ, IsTrue, IsFalse, Option, List, ◌∷◌, ◌++◌, length}
use Rattle.std.specs.List.{AllByRecursion}
use Rattle.rule_model.specs.declared.words.Entry.{Entry}
use Rattle.rule_model.specs.Entry.{RankedPiece}
use Rattle.readback.specs.declared.progress.Kind.{Kind}
use Rattle.readback.specs.declared.progress.Kind.TheVariants as kind
use Rattle.readback.specs.Tasks.{Task, Insert, Rewrite, Erase, piece_of, is_done}

-- what is done to a piece
abbrev pub task_of : Kind → RankedPiece → Task
task_of kind.Insert ranked = Insert ranked
task_of kind.Rewrite ranked = Rewrite ranked
task_of kind.Erase ranked = Erase ranked

-- so many of some tasks are done, and so many behind them are left
pub record AreParted (held : List (Option Entry)) (tasks : List Task) (done left : ℕ) : Type 0 where
  pub front : List Task
  pub back : List Task
  pub parts : tasks ≡ front ++ back
  pub are_done : AllByRecursion (λ task. IsTrue (is_done held task)) front
  pub are_left : AllByRecursion (λ task. IsFalse (is_done held task)) back
  pub done_number : done ≡ length front
  pub left_number : left ≡ length back

-- a task of the rule is done behind one that isn't
pub record IsOutOfTurn (held : List (Option Entry)) (tasks : List Task) (priority : ℕ) : Type 0 where
  pub front : List Task
  pub first : Task
  pub between : List Task
  pub second : Task
  pub back : List Task
  pub parts : tasks ≡ front ++ first ∷ (between ++ second ∷ back)
  pub not_done : IsFalse (is_done held first)
  pub done : IsTrue (is_done held second)
  pub rank : (piece_of second).rank ≡ priority
