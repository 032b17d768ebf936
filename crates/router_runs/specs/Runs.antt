-- The runs of a router over two devices, of which script_runs says how they end.
use Rattle.std.specs.Prelude.{◌≡◌, ℕ, List, [], ◌++◌, length}
use Rattle.script_runs.specs.Script.{Reading, ScriptEnd, Whole, FaultAt}
use Rattle.script_runs.specs.Outcomes.{RunKind}
use Rattle.split_device.specs.declared.SplitWrite.{SplitWrite}
use Rattle.split_device.specs.declared.SplitAction.TheVariants.{Written}
use Rattle.report_lines.specs.Sizes.{sizes_by}
use Rattle.report_lines.specs.Text.{fault_line}
use Rattle.router.specs.declared.Side.{Side}
use Rattle.router.specs.declared.RouterAct.{RouterAct}
use Rattle.router.specs.Script.{Pending}
use Rattle.router.specs.Run.{DeviceSlots, Effect, HasEffects, IsCutStep, Makes, Prints, Progress, Setting, TakesMemory, ending, made_of_list, made_of_routes, printed, start}
use Rattle.router.specs.Taken.{MadeOfBoth, made_on}
use Rattle.router_runs.specs.Scripts.{router_scripts}

-- how many changes of each table are pending where a run stands
abbrev pub pending_at : Progress → Pending
pending_at progress = record { listed = length progress.listed.batch; routed = length progress.routed.batch }

-- what some effects make of both devices
abbrev pub made_of_both : List Effect → MadeOfBoth
made_of_both effects = made_on (made_of_list effects) (made_of_routes effects)

-- what was made of both devices, and then more
abbrev pub made_then : MadeOfBoth → MadeOfBoth → MadeOfBoth
made_then first second = made_on (first.list ++ second.list) (first.routes ++ second.routes)

-- The last line that a script's end gives: the end line, or the line that names the fault.
abbrev pub router_closing_line : Progress → ScriptEnd → List ℕ
router_closing_line progress Whole = ending progress
router_closing_line progress (FaultAt line text) = fault_line line text

-- The runs of a setting over devices of so many slots, whose scripts are read so. A write is a part of one table's device.
abbrev pub router_kind : Reading RouterAct → Setting → DeviceSlots → RunKind RouterAct Pending Progress Effect (Side × SplitWrite) MadeOfBoth
router_kind reading setting slots =
    record {
      scripts = router_scripts (sizes_by setting.large) reading;
      counted = pending_at;
      start = start;
      Step = HasEffects setting slots;
      IsCutStep = IsCutStep setting slots;
      TakesMemory = λ before act effects. TakesMemory setting before act × (effects ≡ []);
      closing_line = router_closing_line;
      refused = λ progress. progress.refused;
      line = Prints;
      write = λ write. Makes write.0 (Written write.1);
      printed = printed;
      events_in = made_of_both;
      joined = made_then;
    }
