use Rattle.std.proofs.Common.{◌∙◌, sym, ap, arith}
use Rattle.tcam_device.specs.State.{told}
use Rattle.leak_search.proofs.Finding.{no_slot_left}
use Rattle.leak_search.proofs.TakenIn.{slot_last, slot_on}
use Rattle.leak_search.proofs.narrowing.narrowed_slots.Goals as goal

pub returns-then-last : goal.returns-then-last
returns-then-last c = λ word is_word within.
    sym (ap told (c.loop-slot.invariant word is_word within
    ∙ slot_last c.args.cube.now c.args.slots.now c.loop-slot.slot-index (omega arith) c.loop-slot.some.items c.take_slot_in.new.some.items word is_word within
    c.slot-item.result c.slot-item.is c.in_ok-last.last c.if-last.true c.in_ok-last.ensures))

pub loop-slot-preserved : goal.loop-slot-preserved
loop-slot-preserved c = λ word is_word within.
    c.loop-slot.invariant word is_word within
    ∙ slot_on c.args.cube.now c.args.slots.now c.loop-slot.slot-index (omega arith) c.loop-slot.some.items c.take_slot_in.new.some.items word is_word within
    c.slot-item.result c.slot-item.is c.in_ok-last.last c.if-last.false c.in_ok-last.ensures

pub returns : goal.returns
returns c = λ word is_word within.
    sym (ap told (c.loop-slot.invariant word is_word within ∙ no_slot_left word c.loop-slot.some.items c.args.slots.now c.loop-slot.slot-index (omega arith)))
