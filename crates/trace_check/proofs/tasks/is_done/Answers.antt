use Rattle.std.proofs.Common.{◌≡◌, true, not, sym, ◌∙◌, ap, subst}
use Rattle.trace_check.specs.declared.tasks.TaskKind.{TaskKind}
use Rattle.trace_check.specs.declared.tasks.TaskKind.TheVariants as kind
use Rattle.trace_check.specs.Behind.{task_by_kind, is_of, touches, done_behind}
use Rattle.trace_check.proofs.PlacedTasks.{untouched_is, touched_is, stood_here, stands_here}
use Rattle.trace_check.proofs.tasks.is_done.Goals as goal
use Rattle.trace_check.proofs.tasks.is_done.Goals.{else-not-is_of-via-then-not-is_of+else-not-is_of-2, else-not-is_of-via-else-not-is_of}

pub returns-then-not-is_of-2 : goal.returns-then-not-is_of-2
returns-then-not-is_of-2 c =
    untouched_is c.args.places.now c.args.at c.args.before.now c.args.kind c.args.piece.now c.args.was_done (sym c.is_of.ensures ∙ c.if-not-is_of.true)
    (ap (is_of c.args.piece.now) (sym c.at.ensures) ∙ (sym c.is_of-then-not-is_of.ensures ∙ c.if-not-is_of-2.true))

pub returns-in-Insert : goal.returns-in-Insert
returns-in-Insert c =
    subst (λ (k : TaskKind). c.stands.result ≡ done_behind c.args.places.now c.args.at c.args.before.now c.args.was_done (task_by_kind k c.args.piece.now)) (sym c.in-Insert.is)
    (c.stands.ensures ∙ touched_is c.args.places.now c.args.at c.args.before.now kind.Insert c.args.piece.now c.args.was_done touched)
  where
    touched : touches c.args.places.now c.args.at c.args.before.now c.args.piece.now ≡ true
    touched = elim c.else-not-is_of.branch [
      | else-not-is_of-via-then-not-is_of+else-not-is_of-2 w ↦ stands_here c.args.places.now c.args.at c.args.before.now c.args.piece.now
          (ap (is_of c.args.piece.now) (sym w.at.ensures) ∙ (sym w.is_of-then-not-is_of.ensures ∙ w.if-not-is_of-2.false))
      | else-not-is_of-via-else-not-is_of w ↦ stood_here c.args.places.now c.args.at c.args.before.now c.args.piece.now (sym c.is_of.ensures ∙ w.if-not-is_of.false)
    ]

pub returns-in-Rewrite : goal.returns-in-Rewrite
returns-in-Rewrite c =
    subst (λ (k : TaskKind). c.is_told.result ≡ done_behind c.args.places.now c.args.at c.args.before.now c.args.was_done (task_by_kind k c.args.piece.now)) (sym c.in-Rewrite.is)
    (c.is_told.ensures ∙ touched_is c.args.places.now c.args.at c.args.before.now kind.Rewrite c.args.piece.now c.args.was_done touched)
  where
    touched : touches c.args.places.now c.args.at c.args.before.now c.args.piece.now ≡ true
    touched = elim c.else-not-is_of.branch [
      | else-not-is_of-via-then-not-is_of+else-not-is_of-2 w ↦ stands_here c.args.places.now c.args.at c.args.before.now c.args.piece.now
          (ap (is_of c.args.piece.now) (sym w.at.ensures) ∙ (sym w.is_of-then-not-is_of.ensures ∙ w.if-not-is_of-2.false))
      | else-not-is_of-via-else-not-is_of w ↦ stood_here c.args.places.now c.args.at c.args.before.now c.args.piece.now (sym c.is_of.ensures ∙ w.if-not-is_of.false)
    ]

pub returns-in-Erase : goal.returns-in-Erase
returns-in-Erase c =
    subst (λ (k : TaskKind). not c.stands-in-Erase.result ≡ done_behind c.args.places.now c.args.at c.args.before.now c.args.was_done (task_by_kind k c.args.piece.now)) (sym c.in-Erase.is)
    (ap not c.stands-in-Erase.ensures ∙ touched_is c.args.places.now c.args.at c.args.before.now kind.Erase c.args.piece.now c.args.was_done touched)
  where
    touched : touches c.args.places.now c.args.at c.args.before.now c.args.piece.now ≡ true
    touched = elim c.else-not-is_of.branch [
      | else-not-is_of-via-then-not-is_of+else-not-is_of-2 w ↦ stands_here c.args.places.now c.args.at c.args.before.now c.args.piece.now
          (ap (is_of c.args.piece.now) (sym w.at.ensures) ∙ (sym w.is_of-then-not-is_of.ensures ∙ w.if-not-is_of-2.false))
      | else-not-is_of-via-else-not-is_of w ↦ stood_here c.args.places.now c.args.at c.args.before.now c.args.piece.now (sym c.is_of.ensures ∙ w.if-not-is_of.false)
    ]
