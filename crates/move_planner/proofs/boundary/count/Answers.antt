use Rattle.std.proofs.Common.{◌≡◌, ◌+◌, Bool, false, length, take, arith, ap}
use Rattle.std.specs.Prelude.{cond, slice_index_or}
use Rattle.std.proofs.lemmas.List.{take_all}
use Rattle.std.proofs.lemmas.List.Sums.{sum_by_more}
use Rattle.move_planner.specs.Boundary.{one, count_marks}
use Rattle.move_planner.proofs.Unmarked.{count_on}
use Rattle.move_planner.proofs.boundary.count.Goals as goal

pub loop-at-preserved : goal.loop-at-preserved
loop-at-preserved c =
    let marks = c.args.marks.now in
    let at = c.in-Some.at in
    let many = c.places.ensures.number in
    let low = c.in-Some.ensures.0 in let high = c.in-Some.ensures.1 in
    let so_far = c.loop-at.invariant.is in let few = c.loop-at.invariant.few in
    let same = count_on Bool (λ mark. mark) marks false c.loop-at.from at low (omega arith) c.in-Some.ensures.3 in
    let more : count_marks (take (at + 1) marks) ≡ count_marks (take at marks) + one (slice_index_or marks at false) = sum_by_more (λ (mark : Bool). cond mark 1 0) marks at false (omega arith) in
    let marked : one (slice_index_or marks at false) ≡ 1 = ap one c.in-Some.ensures.2 in
    record { is = omega arith; few = omega arith; inside = omega arith }

pub returns : goal.returns
returns c =
    let marks = c.args.marks.now in
    let many = c.places.ensures.number in
    let so_far = c.loop-at.invariant.is in let inside = c.loop-at.invariant.inside in
    let same = count_on Bool (λ mark. mark) marks false c.loop-at.from (length marks) inside (omega arith) (λ at a b. c.in_default.ensures at a (omega arith)) in
    let all : count_marks (take (length marks) marks) ≡ count_marks marks = ap count_marks (take_all (length marks) marks (omega arith)) in
    omega arith
