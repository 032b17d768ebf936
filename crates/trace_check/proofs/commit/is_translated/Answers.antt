use Rattle.trace_check.specs.Kept.{device_state}
use Rattle.trace_check.proofs.TablesFound.{served_is, both_served, first_unserved}
use Rattle.trace_check.proofs.commit.is_translated.Goals as goal

pub returns-then-not-is_right_table : goal.returns-then-not-is_right_table
returns-then-not-is_right_table c =
    first_unserved (device_state c.args.device.now) c.args.during.now c.is_right_table.result
    (served_is c.args.during.now.src c.of.result.now c.args.device.now.src.items c.deref.result.now c.is_right_table.result c.of.ensures c.deref.ensures.value c.is_right_table.ensures) c.if-not-is_right_table.true

pub returns : goal.returns
returns c =
    both_served (device_state c.args.device.now) c.args.during.now c.is_right_table.result c.is_right_table-2.result
    (served_is c.args.during.now.src c.of.result.now c.args.device.now.src.items c.deref.result.now c.is_right_table.result c.of.ensures c.deref.ensures.value c.is_right_table.ensures) c.if-not-is_right_table.false
    (served_is c.args.during.now.dst c.of-2.result.now c.args.device.now.dst.items c.deref-2.result.now c.is_right_table-2.result c.of-2.ensures c.deref-2.ensures.value c.is_right_table-2.ensures)
