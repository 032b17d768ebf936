use Rattle.std.proofs.Common.{◌≡◌, None, true, false, replicate, length, arith, sym, ap, ◌∙◌}
use Rattle.std.proofs.lemmas.List.{length-replicate}
use Rattle.std.proofs.lemmas.Grind.{common_steps}
use Rattle.slot_pool.proofs.FreeSlots.{free_marks, all_free}
use Rattle.slot_pool.proofs.LeastSlots.{homes_none}
use Rattle.slot_pool.proofs.SlotSums.{sums_none}
use Rattle.slot_pool.proofs.Arrangement.new.Goals as goal

pub invariant_of-result : goal.invariant_of-result
invariant_of-result c =
    let few = c.requires.most in
    let slots : c.in_ok-slots.slots.items ≡ replicate c.args.slots None = grind (arith, common_steps) in
    let homes : c.in_ok-homes.homes.items ≡ replicate c.args.slots None = grind (arith, common_steps) in
    let sums : c.in_ok-sums.sums.items ≡ replicate c.args.slots 0 = grind (arith, common_steps) in
    let len : length c.in_ok-slots.slots.items ≡ c.args.slots = ap length slots ∙ length-replicate c.args.slots None in (
      omega arith,
      omega arith,
      rw (slots, homes) (homes_none c.args.slots),
      c.fill.ensures ∙ (ap (λ marks. replicate (length marks) true) c.in_ok-free.ensures ∙ (ap (λ size. replicate size true) (length-replicate c.args.slots false)
          ∙ (sym (all_free c.args.slots) ∙ sym (ap free_marks slots)))),
      rw (slots, sums) (sums_none c.args.slots),
    )
