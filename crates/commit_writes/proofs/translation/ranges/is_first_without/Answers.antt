use Rattle.std.proofs.Common.{◌≡◌, take, None, false, true, Bool, ◌&&◌, not, is_none, ap, sym, ◌∙◌, arith}
use Rattle.std.specs.List.{list_any}
use Rattle.std.proofs.lemmas.Grind.{common_steps}
use Rattle.rule_model.specs.PortRange.{same_range}
use Rattle.rule_store.specs.Batch.{additions}
use Rattle.rule_store.specs.Verdict.{coded_ranges}
use Rattle.range_bits.specs.LiveRanges.{bit_of}
use Rattle.commit_writes.specs.Needed.{coded_range}
use Rattle.commit_writes.proofs.Coded.{none_more, some_more}
use Rattle.commit_writes.proofs.translation.ranges.is_first_without.Goals as goal

pub returns-in_default : goal.returns-in_default
returns-in_default c =
    let none : coded_range c.args.field c.at.result ≡ None = grind (arith, common_steps) in
    none_more (λ range. is_none (bit_of c.args.live.now range)) c.args.field c.args.batch.now c.args.place c.at.result c.at.ensures none

pub returns-then-is_none : goal.returns-then-is_none
returns-then-is_none c =
    let free : is_none (bit_of c.args.live.now c.in-Some.range) ≡ true = ap is_none (sym c.bit_of.ensures.bit) ∙ ap not c.is_none.ensures ∙ ap (λ (t : Bool). not (not t)) c.if-is_none.true in
    let before = list_any (same_range c.in-Some.range) (coded_ranges c.args.field (additions (take c.args.place c.args.batch.now))) in
    some_more (λ range. is_none (bit_of c.args.live.now range)) c.args.field c.args.batch.now c.args.place c.at.result c.in-Some.range (not c.is_added_before.result) c.at.ensures (sym c.in-Some.ensures)
    (ap not c.is_added_before.ensures ∙ sym (ap (λ (t : Bool). t && not before) free))

pub returns-else-is_none : goal.returns-else-is_none
returns-else-is_none c =
    let live : is_none (bit_of c.args.live.now c.in-Some.range) ≡ false = ap is_none (sym c.bit_of.ensures.bit) ∙ ap not c.is_none.ensures ∙ ap (λ (t : Bool). not (not t)) c.if-is_none.false in
    let before = list_any (same_range c.in-Some.range) (coded_ranges c.args.field (additions (take c.args.place c.args.batch.now))) in
    some_more (λ range. is_none (bit_of c.args.live.now range)) c.args.field c.args.batch.now c.args.place c.at.result c.in-Some.range c.is_none.result c.at.ensures (sym c.in-Some.ensures)
    (c.if-is_none.false ∙ sym (ap (λ (t : Bool). t && not before) live))
