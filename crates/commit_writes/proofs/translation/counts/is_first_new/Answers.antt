use Rattle.std.proofs.Common.{◌≡◌, take, None, false, true, Bool, ◌&&◌, not, ap, sym, ◌∙◌, arith}
use Rattle.std.specs.List.{list_any}
use Rattle.std.proofs.lemmas.Grind.{common_steps}
use Rattle.rule_model.specs.PortRange.{same_range}
use Rattle.rule_store.specs.Batch.{additions}
use Rattle.rule_store.specs.Verdict.{coded_ranges}
use Rattle.commit_writes.specs.Needed.{coded_range}
use Rattle.commit_writes.proofs.Coded.{none_more, some_more}
use Rattle.commit_writes.proofs.translation.counts.is_first_new.Goals as goal

pub returns-in_default : goal.returns-in_default
returns-in_default c =
    let none : coded_range c.args.field c.at.result ≡ None = grind (arith, common_steps) in
    none_more (λ range. not (list_any (same_range range) (coded_ranges c.args.field c.args.rules.now.rules))) c.args.field c.args.batch.now c.args.place c.at.result c.at.ensures none

pub returns-then-not-has_range : goal.returns-then-not-has_range
returns-then-not-has_range c =
    let free : not (list_any (same_range c.in-Some.range) (coded_ranges c.args.field c.args.rules.now.rules)) ≡ true =
    ap not (sym c.has_range.ensures) ∙ ap not c.if-not-has_range.true in
    let before = list_any (same_range c.in-Some.range) (coded_ranges c.args.field (additions (take c.args.place c.args.batch.now))) in
    some_more (λ range. not (list_any (same_range range) (coded_ranges c.args.field c.args.rules.now.rules))) c.args.field c.args.batch.now c.args.place c.at.result c.in-Some.range (not c.is_added_before.result) c.at.ensures (sym c.in-Some.ensures)
    (ap not c.is_added_before.ensures ∙ sym (ap (λ (t : Bool). t && not before) free))

pub returns-else-not-has_range : goal.returns-else-not-has_range
returns-else-not-has_range c =
    let live : not (list_any (same_range c.in-Some.range) (coded_ranges c.args.field c.args.rules.now.rules)) ≡ false =
    ap not (sym c.has_range.ensures) ∙ ap not c.if-not-has_range.false in
    let before = list_any (same_range c.in-Some.range) (coded_ranges c.args.field (additions (take c.args.place c.args.batch.now))) in
    some_more (λ range. not (list_any (same_range range) (coded_ranges c.args.field c.args.rules.now.rules))) c.args.field c.args.batch.now c.args.place c.at.result c.in-Some.range (not c.has_range.result) c.at.ensures (sym c.in-Some.ensures)
    (ap not c.if-not-has_range.false ∙ sym (ap (λ (t : Bool). t && not before) live))
