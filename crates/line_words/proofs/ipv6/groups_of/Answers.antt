use Rattle.std.proofs.Common.{◌≡◌, ◌<◌, length, Some, arith, sym, ap, ◌∙◌}
use Rattle.std.proofs.lemmas.Grind.{common_steps}
use Rattle.std.specs.Prelude.{option_and_then}
use Rattle.line_words.specs.Ipv6.{few_groups, group_value}
use Rattle.line_words.proofs.Groups.{group-room, group-fits, reading-more, reading-done, reading-many, groups_of-some}
use Rattle.line_words.proofs.ipv6.groups_of.Goals as goal

pub overflow_mul-value : goal.overflow_mul-value
overflow_mul-value c =
    let room = group-room c.loop-count.count c.loop-count.value 0 c.loop-count-test.true c.loop-count.invariant.fits (omega arith) in
    record { fits = omega arith }

pub overflow_mul-value-in-Some : goal.overflow_mul-value-in-Some
overflow_mul-value-in-Some c =
    let room = group-room c.loop-count.count c.loop-count.value 0 c.loop-count-test.true c.loop-count.invariant.fits (omega arith) in
    record { fits = omega arith }

pub overflow_add-value : goal.overflow_add-value
overflow_add-value c =
    let small = c.in_ok-group_value-in-None.ensures.small in
    let same = c.from.ensures in
    let room = group-room c.loop-count.count c.loop-count.value c.from.result c.loop-count-test.true c.loop-count.invariant.fits (omega arith) in
    record { fits = omega arith }

pub overflow_add-value-in-Some : goal.overflow_add-value-in-Some
overflow_add-value-in-Some c =
    let small = c.in_ok-group_value-in-Some.ensures.small in
    let same = c.from-in-Some.ensures in
    let room = group-room c.loop-count.count c.loop-count.value c.from-in-Some.result c.loop-count-test.true c.loop-count.invariant.fits (omega arith) in
    record { fits = omega arith }

pub returns-in-None-clause-fits : goal.returns-in-None-clause-fits
returns-in-None-clause-fits c =
    let small = c.in_ok-group_value-in-None.ensures.small in
    let same = c.from.ensures in
    group-fits c.loop-count.count c.loop-count.value c.from.result c.loop-count.invariant.fits (omega arith)

pub returns-in-None-clause-value : goal.returns-in-None-clause-value
returns-in-None-clause-value c =
    let some : 0 < length c.args.text.now = grind (arith, common_steps) in
    let number : group_value c.loop-count.rest.now ≡ Some c.from.result = sym c.in_ok-group_value-in-None.ensures.value ∙ ap Some (sym c.from.ensures) in
    let done = reading-done c.args.text.now c.loop-count.rest.now c.loop-count.count c.loop-count.value c.from.result c.loop-count.invariant c.loop-count-test.true c.in-None.ensures number in
    sym (ap (option_and_then few_groups) (groups_of-some c.args.text.now some) ∙ done)

pub loop-count-preserved : goal.loop-count-preserved
loop-count-preserved c =
    let small = c.in_ok-group_value-in-Some.ensures.small in
    let same = c.from-in-Some.ensures in
    let number : group_value c.in-Some.group.now ≡ Some c.from-in-Some.result = sym c.in_ok-group_value-in-Some.ensures.value ∙ ap Some (sym c.from-in-Some.ensures) in
    reading-more c.args.text.now c.loop-count.rest.now c.in-Some.group.now c.in-Some.behind.now c.loop-count.count c.loop-count.value c.from-in-Some.result c.loop-count.invariant c.in-Some.ensures number (omega arith)

pub returns-clause-value : goal.returns-clause-value
returns-clause-value c =
    let some : 0 < length c.args.text.now = grind (arith, common_steps) in
    sym (ap (option_and_then few_groups) (groups_of-some c.args.text.now some) ∙ reading-many c.args.text.now c.loop-count.rest.now c.loop-count.count c.loop-count.value c.loop-count.invariant c.loop-count-test.false)
