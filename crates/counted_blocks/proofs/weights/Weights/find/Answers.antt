use Rattle.std.proofs.Common.{◌*◌, arith}
use Rattle.std.proofs.lemmas.List.{length-take}
use Rattle.std.proofs.Common.{drop}
use Rattle.counted_blocks.proofs.Groups.{all-fit, found-joined, groups-all, part-fits}
use Rattle.counted_blocks.proofs.weights.Weights.find.Goals as goal

pub find-group-requires-clause-fits : goal.find-group-requires-clause-fits
find-group-requires-clause-fits c =
    rw c.deref.ensures.value (all-fit c.self.inside.weights.items c.self.inside.groups.items c.self.invariant.few c.self.invariant.light c.self.invariant.grouped)

pub find-group-requires-clause-place : goal.find-group-requires-clause-place
find-group-requires-clause-place c =
    let place = rw (← c.self.view_is) at c.requires.place in
    let all = groups-all c.self.inside.weights.items c.self.inside.groups.items c.self.invariant.grouped in
    let is = c.from.ensures in
    rw c.deref.ensures.value (omega arith)

pub find-block-requires-clause-fits : goal.find-block-requires-clause-fits
find-block-requires-clause-fits c =
    rw (c.group_of.ensures, c.deref-2.ensures.value) (part-fits c.self.inside.weights.items c.self.invariant.few c.self.invariant.light (32 * c.find-group.result.0) 32)

pub find-block-requires-clause-few : goal.find-block-requires-clause-few
find-block-requires-clause-few c =
    let count = length-take 32 (drop (32 * c.find-group.result.0) c.deref-2.result.now) in
    rw c.group_of.ensures (omega arith)

pub overflow_add-result : goal.overflow_add-result
overflow_add-result c =
    let top = rw c.deref.ensures.value at c.find-group.ensures in
    let inner = rw (c.group_of.ensures, c.deref-2.ensures.value) at c.find-block.ensures in
    let count = length-take 32 (drop (32 * c.find-group.result.0) c.self.inside.weights.items) in
    let most = c.self.invariant.grouped.most in
    let few = c.self.invariant.few in
    let within = top.within in
    let inside = inner.within in
    omega arith

pub returns : goal.returns
returns c =
    let top = rw (c.deref.ensures.value, c.from.ensures) at c.find-group.ensures in
    let inner = rw (c.group_of.ensures, c.deref-2.ensures.value, c.from-2.ensures) at c.find-block.ensures in
    rw (← c.self.view_is)
    (found-joined c.self.inside.weights.items c.self.inside.groups.items c.self.invariant.grouped c.args.place c.find-group.result.0 c.find-group.result.1 c.find-block.result.0 c.find-block.result.1 top inner)
