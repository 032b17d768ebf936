-- A batch that is parted, and one that has no room even so.
use Rattle.std.proofs.Common.{◌≡◌, None, rules}
use Rattle.rule_store.specs.Batch.{batch_fault}
use Rattle.removals_first.specs.Early.{late_batch, spared_rules}
use Rattle.replay.proofs.parting.Parts.{in-two, never-taken, some-early, some-left}
use Rattle.replay.proofs.early.parts_of.Goals as goal

pub returns-then-branch : goal.returns-then-branch
returns-then-branch c =
    let none : batch_fault c.args.rules.now.rules c.args.batch.now ≡ None = search rules in
    let early = spared_rules c.args.rules.now.rules c.args.batch.now in (
      in-two c.args.slots c.args.mode c.args.rules.now.rules c.args.batch.now c.right_rules.ensures.is_set c.right_rules.ensures.right c.changes_rules.ensures none
          c.in_ok-first.first c.in_ok-first.rest c.in_ok-first.ensures.early c.in_ok-first.ensures.late c.in_ok-are_taken.field-0 c.in_ok-are_taken.ensures c.if-branch.true
          (some-early early c.in_ok-first.first c.in_ok-first.ensures.early (λ e. let yes = c.is_empty.ensures.1 e in let no = c.if-is_empty.false in cc))
          (some-left (late_batch early c.args.batch.now) c.in_ok-first.rest c.in_ok-first.ensures.late (λ e. let yes = c.is_empty-else-is_empty.ensures.1 e in let no = c.if-is_empty-2.false in cc)),
      c.in_ok-first.ensures.early,
      c.in_ok-first.ensures.late,
    )

pub returns-else-branch : goal.returns-else-branch
returns-else-branch c =
    let none : batch_fault c.args.rules.now.rules c.args.batch.now ≡ None = search rules in
    never-taken c.args.slots c.args.mode c.args.rules.now.rules c.args.batch.now c.right_rules.ensures.is_set c.right_rules.ensures.right c.changes_rules.ensures none
    c.in_ok-first.first c.in_ok-first.rest c.in_ok-first.ensures.early c.in_ok-first.ensures.late c.in_ok-are_taken.field-0 c.in_ok-are_taken.ensures c.if-branch.false
