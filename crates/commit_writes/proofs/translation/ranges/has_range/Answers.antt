use Rattle.std.proofs.Common.{◌≡◌, ◌≢◌, Bool, ◌||◌, true, false, sym, ap, ◌∙◌, get_or, arith}
use Rattle.std.proofs.lemmas.Grind.{common_steps}
use Rattle.std.proofs.lemmas.List.{take_all}
use Rattle.std.proofs.lemmas.List.Folds.{list_any_at, list_any_more}
use Rattle.std.specs.List.{list_any}
use Rattle.rule_model.specs.PortRange.{PortRange, same_range}
use Rattle.range_bits.proofs.FieldMaps.{same_range-is, same_range-self}
use Rattle.std.proofs.lemmas.Bool.{false_from_ne_true}
use Rattle.rule_model.specs.Rule.{range_of}
use Rattle.rule_store.proofs.Sums.{slice_get-read}
use Rattle.commit_writes.proofs.Coded.{any-coded_block, any-coded}
use Rattle.commit_writes.proofs.translation.ranges.has_range.Goals as goal

pub returns-then-block : goal.returns-then-block
returns-then-block c = sym (any-coded_block c.args.field c.args.rules.now.rules c.args.range cc)

pub returns-then-eq : goal.returns-then-eq
returns-then-eq c =
    let rule = slice_get-read c.args.rules.now.rules c.loop-place.place c.at.result.now c.at.ensures in
    let is : c.range_of.result ≡ c.args.range = grind (arith, common_steps) in
    let same : same_range c.args.range (range_of c.args.field (get_or c.args.rules.now.rules c.loop-place.place c.at.result.now)) ≡ true =
    ap (λ (r : PortRange). same_range c.args.range r) (ap (range_of c.args.field) rule ∙ sym c.range_of.ensures ∙ is) ∙ same_range-self c.args.range in
    sym (any-coded c.args.field c.args.rules.now.rules c.args.range (cc)
    ∙ list_any_at (λ rule. same_range c.args.range (range_of c.args.field rule)) c.args.rules.now.rules c.loop-place.place c.at.result.now (omega arith) same)

pub loop-place-preserved : goal.loop-place-preserved
loop-place-preserved c =
    let rule = slice_get-read c.args.rules.now.rules c.loop-place.place c.at.result.now c.at.ensures in
    let apart : c.range_of.result ≢ c.args.range = λ is. grind (arith, common_steps) in
    let other : same_range c.args.range (range_of c.args.field (get_or c.args.rules.now.rules c.loop-place.place c.at.result.now)) ≡ false =
    ap (λ (r : PortRange). same_range c.args.range r) (ap (range_of c.args.field) rule ∙ sym c.range_of.ensures)
    ∙ false_from_ne_true (same_range c.args.range c.range_of.result) (λ same. apart (sym (same_range-is c.args.range c.range_of.result same))) in
    list_any_more (λ rule. same_range c.args.range (range_of c.args.field rule)) c.args.rules.now.rules c.loop-place.place c.at.result.now (omega arith)
    ∙ ap (λ (t : Bool). t || same_range c.args.range (range_of c.args.field (get_or c.args.rules.now.rules c.loop-place.place c.at.result.now))) c.loop-place.invariant ∙ other

pub returns : goal.returns
returns c =
    sym (any-coded c.args.field c.args.rules.now.rules c.args.range (cc)
    ∙ ap (list_any (λ rule. same_range c.args.range (range_of c.args.field rule))) (sym (take_all c.loop-place.place c.args.rules.now.rules (omega arith)))
    ∙ c.loop-place.invariant)
