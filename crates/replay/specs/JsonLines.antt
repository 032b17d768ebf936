-- Which lines of a trace file a report in JSON has.
use Rattle.std.specs.Prelude.{ℕ, Bool, true, false, Option, Some, None, List, [], ◌++◌}
use Rattle.rule_model.specs.declared.IpVersion.TheVariants.{V4}
use Rattle.rule_store.specs.declared.Mode.{Mode}
use Rattle.rule_store.specs.declared.Mode.TheVariants.{Cover, Bits}
use Rattle.rule_store.specs.declared.Command.{Command as Change}
use Rattle.rule_store.specs.declared.Command.TheVariants.{Add as Adds, Set as Sets, Del as Dels}
use Rattle.tcam_device.specs.declared.Write.{Write}
use Rattle.tcam_device.specs.declared.Write.TheVariants.{Slot, Table}
use Rattle.trace_file.specs.declared.TraceLine.{TraceLine}
use Rattle.trace_file.specs.declared.TraceLine.TheVariants as line
use Rattle.json_text.specs.JsonText.{json_line}
use Rattle.report_lines.specs.declared.Family.{Family}
use Rattle.report_lines.specs.declared.Family.TheVariants.{Route, Acl, Route6, Acl6}
use Rattle.report_lines.specs.Text.{family_version}

-- whether the rules are those of an access list
abbrev pub is_list : Family → Bool
is_list Route = false
is_list Acl = true
is_list Route6 = false
is_list Acl6 = true

-- whether port ranges are tested by bits
abbrev pub is_by_bits : Mode → Bool
is_by_bits Cover = false
is_by_bits Bits = true

-- the head, which is the first line
abbrev pub head_line : Family → Mode → ℕ → TraceLine
head_line family mode slots = line.Head (family_version family) (is_list family) (is_by_bits mode) slots

-- a command
abbrev pub change_line : Change → TraceLine
change_line (Adds rule) = line.Add rule
change_line (Sets priority answer) = line.Set priority answer
change_line (Dels priority) = line.Del priority

-- a device write
abbrev pub journal_line : Write → TraceLine
journal_line (Slot slot (Some entry)) = line.Put slot entry
journal_line (Slot slot None) = line.Erase slot
journal_line (Table field port word) = line.Table field port word

-- a line without a rank, which both versions of IP have alike; that of a fault has this text of it
abbrev pub shared_line : List ℕ → TraceLine → List ℕ
shared_line fault one = json_line V4 fault one

-- a line, behind the head where there is one
abbrev pub behind : Option TraceLine → List ℕ → List ℕ
behind None text = text
behind (Some head) text = shared_line [] head ++ text
