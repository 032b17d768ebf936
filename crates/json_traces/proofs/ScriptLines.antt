-- A line of a script whose report is in JSON gives an act of a trace.
use Rattle.std.proofs.Common.{◌≡◌, Bool, true, false, ℕ, List, Some, Ok, refl, subst}
use Rattle.rule_model.specs.declared.IpVersion.{IpVersion}
use Rattle.replay.specs.declared.Act.{Act}
use Rattle.replay.specs.declared.Act.TheVariants.{Command, Ask, All, Probe, Packet, Commit, Trial, Crash}
use Rattle.settled_changes.specs.Requested.{strict_form}
use Rattle.replay.specs.Effects.{Setting}
use Rattle.replay.specs.Running.{IsToldIn}
use Rattle.report_lines.specs.Text.{family_version}
use Rattle.tcam_cli.proofs.ToldLines.{told-line}
use Rattle.tcam_cli.specs.Readings.{reading_by}
use Rattle.json_traces.proofs.TraceRules.{IsTraceChange}

-- an act that a report in JSON tells of
abbrev pub IsTraceAct : IpVersion → Act → Type 0
IsTraceAct version (Command change) = IsTraceChange version change
IsTraceAct version (Ask request) = IsTraceChange version (strict_form request)
IsTraceAct version All = Unit {0}
IsTraceAct version (Probe key) = Unit {0}
IsTraceAct version (Packet key) = Unit {0}
IsTraceAct version Commit = Unit {0}
IsTraceAct version (Trial most) = ⊥
IsTraceAct version (Crash after) = ⊥

told_is : (version : IpVersion) (act : Act) → IsToldIn true version act → IsTraceAct version act
told_is version (Command change) told = told refl
told_is version (Ask request) told = told refl
told_is version All told = tt
told_is version (Probe key) told = tt
told_is version (Packet key) told = tt
told_is version Commit told = tt
told_is version (Trial most) told = absurd (let wrong : true ≡ false = told in cc)
told_is version (Crash after) told = absurd (let wrong : true ≡ false = told in cc)

pub reads_traces : (setting : Setting) → setting.json ≡ true → (line : List ℕ) (act : Act) → reading_by setting line ≡ Ok (Some act) → IsTraceAct (family_version setting.family) act
reads_traces setting json line act is =
    told_is (family_version setting.family) act (subst (λ (told : Bool). IsToldIn told (family_version setting.family) act) json (told-line setting line (Some act) is))
