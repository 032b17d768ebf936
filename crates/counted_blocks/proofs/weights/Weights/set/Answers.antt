use Rattle.std.proofs.Common.{◌*◌, ◌/◌, ◌∙◌, ap, set, List, arith}
use Rattle.std.proofs.lemmas.List.{length-set}
use Rattle.std.proofs.lemmas.List.Elements.{All-set}
use Rattle.counted_blocks.specs.declared.weights.Weight.{Weight}
use Rattle.counted_blocks.specs.Finding.{IsLight, group_at, weight_sum}
use Rattle.counted_blocks.proofs.Groups.{grouped-set, part-fits}
use Rattle.counted_blocks.proofs.weights.Weights.set.Goals as goal

pub sum-requires : goal.sum-requires
sum-requires c =
    let weights = c.self.inside.weights.items in
    let few = c.self.invariant.few in
    let same = length-set weights c.args.block c.args.weight in
    rw (c.group_of.ensures, c.deref.ensures.value)
    (part-fits (set weights c.args.block c.args.weight) (omega arith) (All-set IsLight weights c.args.block c.args.weight c.requires.light c.self.invariant.light) (32 * (c.args.block / 32)) 32)

pub invariant_of-self : goal.invariant_of-self
invariant_of-self c =
    let weights = c.self.inside.weights.items in
    let few = c.self.invariant.few in
    let same = length-set weights c.args.block c.args.weight in
    let within = rw (← c.self.view_is) at c.requires.block in
    record {
      few = omega arith;
      light = All-set IsLight weights c.args.block c.args.weight c.requires.light c.self.invariant.light;
      grouped =
          grouped-set weights c.self.inside.groups.items c.self.invariant.grouped c.args.block c.args.weight c.sum.result within
          (c.sum.ensures ∙ ap weight_sum (c.group_of.ensures ∙ ap (λ (all : List Weight). group_at all (c.args.block / 32)) c.deref.ensures.value));
    }
