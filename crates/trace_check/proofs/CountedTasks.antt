-- The tasks of a commit, counted list by list behind a write.
use Rattle.std.proofs.Common.{◌≡◌, ℕ, ◌+◌, Option, List, [], ◌++◌, map, refl, sym, ◌∙◌, subst, ap, append_assoc, append-nil, length, length-append, arith}
use Rattle.std.proofs.lemmas.List.{length-map}
use Rattle.rule_model.specs.declared.words.Entry.{Entry}
use Rattle.rule_model.specs.Entry.{RankedPiece}
use Rattle.readback.specs.Progress.{AreParted, IsOutOfTurn}
use Rattle.readback.specs.Tasks.{Task, Insert, Rewrite, Erase}
use Rattle.trace_check.specs.declared.tasks.TaskKind.{TaskKind}
use Rattle.trace_check.specs.declared.tasks.TaskKind.TheVariants as kind
use Rattle.trace_check.specs.Behind.{task_by_kind, ArePlacedTasks}

-- no task is counted yet
none_parted : (held : List (Option Entry)) → AreParted held [] 0 0
none_parted held = record { front = []; back = []; parts = refl; are_done = tt; are_left = tt; done_number = refl; left_number = refl }

-- what a walk over the pieces of one kind counts behind earlier tasks,
abbrev pub CountsOn : List (Option Entry) → TaskKind → List RankedPiece → ℕ → ℕ → ℕ → ℕ → Type 0
CountsOn held some pieces earlier_done earlier_left done left =
    (first : List Task) → AreParted held first earlier_done earlier_left → AreParted held (first ++ map (task_by_kind some) pieces) done left

-- and where it finds a task out of its turn
abbrev pub StopsEarly : List (Option Entry) → TaskKind → List RankedPiece → ℕ → ℕ → Type 0
StopsEarly held some pieces earlier_done earlier_left =
    (first later : List Task) → AreParted held first earlier_done earlier_left
    → (priority : ℕ) × IsOutOfTurn held (first ++ (map (task_by_kind some) pieces ++ later)) priority

module _ (held : List (Option Entry)) (inserted rewritten erased : List RankedPiece) where
  pub first_early : StopsEarly held kind.Insert inserted 0 0 → (priority : ℕ) × IsOutOfTurn held (map Insert inserted ++ (map Rewrite rewritten ++ map Erase erased)) priority
  first_early early = early [] (map Rewrite rewritten ++ map Erase erased) (none_parted held)

  pub second_early : (done left : ℕ) → CountsOn held kind.Insert inserted 0 0 done left → StopsEarly held kind.Rewrite rewritten done left
      → (priority : ℕ) × IsOutOfTurn held (map Insert inserted ++ (map Rewrite rewritten ++ map Erase erased)) priority
  second_early done left first early = early (map Insert inserted) (map Erase erased) (first [] (none_parted held))

  pub third_early : (done left done' left' : ℕ) → CountsOn held kind.Insert inserted 0 0 done left → CountsOn held kind.Rewrite rewritten done left done' left'
      → StopsEarly held kind.Erase erased done' left' → (priority : ℕ) × IsOutOfTurn held (map Insert inserted ++ (map Rewrite rewritten ++ map Erase erased)) priority
  third_early done left done' left' first second early =
      let w = early (map Insert inserted ++ map Rewrite rewritten) [] (second (map Insert inserted) (first [] (none_parted held))) in (
        w.0,
        subst (λ tasks. IsOutOfTurn held tasks w.0)
            (append_assoc (map Insert inserted) (map Rewrite rewritten) (map Erase erased ++ []) ∙ ap (λ some. map Insert inserted ++ (map Rewrite rewritten ++ some)) (append-nil (map Erase erased)))
            w.1,
      )

  pub all_counted : (done left done' left' last rest : ℕ) → CountsOn held kind.Insert inserted 0 0 done left → CountsOn held kind.Rewrite rewritten done left done' left'
      → CountsOn held kind.Erase erased done' left' last rest → AreParted held (map Insert inserted ++ (map Rewrite rewritten ++ map Erase erased)) last rest
  all_counted done left done' left' last rest first second third =
      subst (λ tasks. AreParted held tasks last rest) (append_assoc (map Insert inserted) (map Rewrite rewritten) (map Erase erased))
      (third (map Insert inserted ++ map Rewrite rewritten) (second (map Insert inserted) (first [] (none_parted held))))

-- the number of earlier tasks, as it was counted
pub placed_behind : (places : List (Option RankedPiece)) (at : ℕ) (before : Option RankedPiece) (some : TaskKind) (pieces : List RankedPiece) (first n were_done : ℕ) → n ≡ first
    → ArePlacedTasks places at before some pieces first were_done → ArePlacedTasks places at before some pieces n were_done
placed_behind places at before some pieces first n were_done same placed = subst (λ m. ArePlacedTasks places at before some pieces m were_done) (sym same) placed

-- how many there are
pub tasks_size : (inserted rewritten erased : List RankedPiece) → length (map Insert inserted ++ (map Rewrite rewritten ++ map Erase erased)) ≡ length inserted + length rewritten + length erased
tasks_size inserted rewritten erased =
    let all = length-append (map Insert inserted) (map Rewrite rewritten ++ map Erase erased) in
    let rest = length-append (map Rewrite rewritten) (map Erase erased) in
    let a = length-map inserted Insert in
    let b = length-map rewritten Rewrite in
    let c = length-map erased Erase in
    omega arith
