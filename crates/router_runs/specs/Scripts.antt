-- What a router's script is: its acts as a reading says, and the changes of each table that are pending, counted by themselves.
use Rattle.std.specs.Prelude.{◌+◌}
use Rattle.script_runs.specs.Script.{Reading, ScriptKind}
use Rattle.report_lines.specs.declared.sizes.Sizes.{Sizes}
use Rattle.router.specs.declared.Side.TheVariants as side
use Rattle.router.specs.declared.RouterAct.{RouterAct}
use Rattle.router.specs.declared.RouterAct.TheVariants.{Change, Packet, Commit}
use Rattle.router.specs.Script.{Pending, limit_fault}

-- no change is pending
abbrev pub none_pending : Pending
none_pending = record { listed = 0; routed = 0 }

-- the changes that are pending after an act
abbrev pub both_pending_after : RouterAct → Pending → Pending
both_pending_after (Change side.List command) pending = record { listed = pending.listed + 1; routed = pending.routed }
both_pending_after (Change side.Routes command) pending = record { listed = pending.listed; routed = pending.routed + 1 }
both_pending_after (Packet key) pending = pending
both_pending_after Commit pending = none_pending

-- the scripts of a router, of these sizes, whose lines are read so
abbrev pub router_scripts : Sizes → Reading RouterAct → ScriptKind RouterAct Pending
router_scripts sizes reading =
    record {
      bytes = sizes.bytes;
      reading = reading;
      none_counted = none_pending;
      counted_after = λ act pending. both_pending_after act pending;
      limit_fault = λ act pending. limit_fault sizes.commands act pending;
    }
