-- What a line that was read is in a report in JSON: a command of a trace, or a fault whose text stands as it is.
use Rattle.std.proofs.Common.{◌≡◌, Bool, true, false, ℕ, List, codes, Option, Some, None, IfSome, Result, Ok, Err, IfOk, IfErr, refl, subst}
use Rattle.rule_model.specs.declared.IpVersion.{IpVersion}
use Rattle.rule_model.specs.declared.IpVersion.TheVariants.{V4, V6}
use Rattle.packet_keys.specs.declared.FrameFault.TheVariants as frame
use Rattle.line_words.specs.declared.WordFault.{WordFault}
use Rattle.line_words.specs.declared.WordFault.TheVariants as word
use Rattle.line_words.specs.declared.commands.CommonCommand.{CommonCommand}
use Rattle.line_words.specs.declared.commands.CommonCommand.TheVariants as common
use Rattle.line_words.specs.Notations.{notation_for}
use Rattle.line_words.specs.Texts.{word_fault_text}
use Rattle.route_reader.specs.declared.RouteCommand.{RouteCommand}
use Rattle.route_reader.specs.declared.RouteCommand.TheVariants as route
use Rattle.route_reader.specs.Grammar.{route_line}
use Rattle.acl_reader.specs.declared.AclCommand.{AclCommand}
use Rattle.acl_reader.specs.declared.AclCommand.TheVariants as acl
use Rattle.acl_reader.specs.Grammar.{acl_line}
use Rattle.trace_file.specs.Forms.{IsTraceLineOf}
use Rattle.json_text.specs.JsonText.{IsPlainText}
use Rattle.replay.specs.declared.Act.{Act}
use Rattle.replay.specs.declared.Act.TheVariants.{Command, Ask, All, Probe, Packet, Commit, Trial, Crash}
use Rattle.report_lines.specs.declared.Family.{Family}
use Rattle.report_lines.specs.declared.Family.TheVariants.{Route, Acl, Route6, Acl6}
use Rattle.replay.specs.Effects.{Setting}
use Rattle.report_lines.specs.Text.{family_version}
use Rattle.settled_changes.specs.Requested.{strict_form}
use Rattle.replay.specs.JsonLines.{change_line}
use Rattle.replay.specs.Running.{IsToldIn}
use Rattle.tcam_cli.specs.Readings.{acl_act, acl_reading, common_act, line_told_by, reading, reading_by, reading_of, route_act, route_reading, told_by}
use Rattle.tcam_cli.proofs.TracedLines.{IsListWithin, IsRouteWithin, list-line, route-line}

-- ---- commands

-- a command whose line is one of a trace of this version, or a request for the same; of an act of another kind nothing is said
abbrev pub IsTraced : IpVersion → Act → Type 0
IsTraced version (Command change) = IsTraceLineOf version (change_line change)
IsTraced version (Ask request) = IsTraceLineOf version (change_line (strict_form request))
IsTraced version All = Unit {0}
IsTraced version (Probe key) = Unit {0}
IsTraced version (Packet key) = Unit {0}
IsTraced version Commit = Unit {0}
IsTraced version (Trial most) = Unit {0}
IsTraced version (Crash after) = Unit {0}

common-traced : (version : IpVersion) (command : CommonCommand) → IsTraced version (common_act command)
common-traced version (common.Probe key) = tt
common-traced version (common.Packet key) = tt
common-traced version common.Commit = tt
common-traced version (common.Trial most) = tt
common-traced version (common.Crash after) = tt

route-traced : (version : IpVersion) (command : RouteCommand) → IsRouteWithin version command → IsTraced version (route_act version command)
route-traced version (route.Add block answer) within = within
route-traced version (route.Set block answer) within = within
route-traced version (route.Del block) within = within
route-traced version (route.Put block answer) within = within
route-traced version (route.Drop block) within = within
route-traced version route.All within = tt
route-traced version (route.Common command) within = common-traced version command

list-traced : (version : IpVersion) (command : AclCommand) → IsListWithin version command → IsTraced version (acl_act command)
list-traced version (acl.Add rule) within = within
list-traced version (acl.Set sequence answer) within = within
list-traced version (acl.Del sequence) within = within
list-traced version (acl.Put rule) within = within
list-traced version (acl.Drop sequence) within = within
list-traced version acl.All within = tt
list-traced version (acl.Common command) within = common-traced version command

-- what a reader's command is
traced-by : {C : Type 0} (version : IpVersion) (act_of : C → Act) (Within : C → Type 0) (line : Result (Option C) WordFault) (act : Act)
    → ((command : C) → Within command → IsTraced version (act_of command)) → ((command : C) → line ≡ Ok (Some command) → Within command) → reading_of act_of line ≡ Ok (Some act) → IsTraced version act
traced-by version act_of Within (Ok (Some command)) act traced right is =
    let same : act_of command ≡ act = cc in
    subst (IsTraced version) same (traced command (right command refl))
traced-by version act_of Within (Ok None) act traced right is = absurd (cc)
traced-by version act_of Within (Err fault) act traced right is = absurd (cc)

route-read : (version : IpVersion) (text : List ℕ) (act : Act) → route_reading version text ≡ Ok (Some act) → IsTraced version act
route-read version text act is =
    traced-by version (route_act version) (IsRouteWithin version) (route_line (notation_for version) text) act (route-traced version) (route-line version text) is

list-read : (version : IpVersion) (text : List ℕ) (act : Act) → acl_reading version text ≡ Ok (Some act) → IsTraced version act
list-read version text act is =
    traced-by version acl_act (IsListWithin version) (acl_line (notation_for version) text) act (list-traced version) (list-line version text) is

pub traced : (family : Family) (text : List ℕ) (act : Act) → reading family text ≡ Ok (Some act) → IsTraced (family_version family) act
traced Route text act is = route-read V4 text act is
traced Acl text act is = list-read V4 text act is
traced Route6 text act is = route-read V6 text act is
traced Acl6 text act is = list-read V6 text act is

-- ---- by the report

abbrev Either : Bool → Result (Option Act) (List ℕ) → Result (Option Act) (List ℕ) → Result (Option Act) (List ℕ)
Either json told else_told = elim json [ true ↦ told | false ↦ else_told ]

-- a trial or a crash
only-in-words : (json : Bool) (version : IpVersion) (act : Act) (found : Option Act) → (json ≡ false → IsToldIn json version act) → Either json (Err (codes "not with json")) (Ok (Some act)) ≡ Ok found → IfSome found (IsToldIn json version)
only-in-words true version act found told is = absurd (cc)
only-in-words false version act found told is =
    let same : Some act ≡ found = cc in
    subst (λ (one : Option Act). IfSome one (IsToldIn false version)) same (told refl)

told-act : (json : Bool) (version : IpVersion) (act : Act) (found : Option Act) → (json ≡ true → IsTraced version act) → told_by json act ≡ Ok found → IfSome found (IsToldIn json version)
told-act json version (Command change) found line is =
    let same : Some (Command change) ≡ found = cc in
    subst (λ (one : Option Act). IfSome one (IsToldIn json version)) same line
told-act json version (Ask request) found line is =
    let same : Some (Ask request) ≡ found = cc in
    subst (λ (one : Option Act). IfSome one (IsToldIn json version)) same line
told-act json version All found line is =
    let same : Some All ≡ found = cc in
    subst (λ (one : Option Act). IfSome one (IsToldIn json version)) same tt
told-act json version (Probe key) found line is =
    let same : Some (Probe key) ≡ found = cc in
    subst (λ (one : Option Act). IfSome one (IsToldIn json version)) same tt
told-act json version (Packet key) found line is =
    let same : Some (Packet key) ≡ found = cc in
    subst (λ (one : Option Act). IfSome one (IsToldIn json version)) same tt
told-act json version Commit found line is =
    let same : Some Commit ≡ found = cc in
    subst (λ (one : Option Act). IfSome one (IsToldIn json version)) same tt
told-act json version (Trial most) found line is = only-in-words json version (Trial most) found (λ words. words) is
told-act json version (Crash after) found line is = only-in-words json version (Crash after) found (λ words. words) is

told-read : (setting : Setting) (text : List ℕ) (read : Result (Option Act) (List ℕ)) (found : Option Act) → reading setting.family text ≡ read
    → line_told_by setting.json read ≡ Ok found → IfSome found (IsToldIn setting.json (family_version setting.family))
told-read setting text (Ok (Some act)) found same is = told-act setting.json (family_version setting.family) act found (λ json. traced setting.family text act same) is
told-read setting text (Ok None) found same is =
    let none : ◌≡◌ {A = Option Act} None found = cc in
    subst (λ (one : Option Act). IfSome one (IsToldIn setting.json (family_version setting.family))) none tt
told-read setting text (Err fault) found same is = absurd (cc)

-- A report of the setting can tell the act of a line.
pub told-line : (setting : Setting) (text : List ℕ) (found : Option Act) → reading_by setting text ≡ Ok found → IfSome found (IsToldIn setting.json (family_version setting.family))
told-line setting text found is = told-read setting text (reading setting.family text) found refl is

pub told-result : {T : Type 0} (setting : Setting) (text : List ℕ) (result : Result (Option Act) T)
    → IfOk result (λ found. reading_by setting text ≡ Ok found) → IfOk result (λ found. IfSome found (IsToldIn setting.json (family_version setting.family)))
told-result setting text (Ok found) is = told-line setting text found is
told-result setting text (Err fault) is = tt

-- ---- the texts of faults

word-plain : (fault : WordFault) → IsPlainText (word_fault_text fault)
word-plain word.UnknownCommand = refl
word-plain word.WordCount = refl
word-plain word.BadPrefix = refl
word-plain word.HostBits = refl
word-plain word.BadResult = refl
word-plain word.BadSequence = refl
word-plain word.BadCount = refl
word-plain word.BadAction = refl
word-plain word.BadProtocol = refl
word-plain word.BadPorts = refl
word-plain word.BadAddress = refl
word-plain word.BadHex = refl
word-plain (word.Frame frame.Empty) = refl
word-plain (word.Frame frame.Version) = refl
word-plain (word.Frame frame.HeaderLength) = refl
word-plain (word.Frame frame.Short) = refl

plain-by : {C : Type 0} (act_of : C → Act) (line : Result (Option C) WordFault) (text : List ℕ) → reading_of act_of line ≡ Err text → IsPlainText text
plain-by act_of (Ok found) text is = absurd (cc)
plain-by act_of (Err fault) text is =
    let same : word_fault_text fault ≡ text = cc in
    subst IsPlainText same (word-plain fault)

pub plain-read : (family : Family) (line text : List ℕ) → reading family line ≡ Err text → IsPlainText text
plain-read Route line text is = plain-by (route_act V4) (route_line (notation_for V4) line) text is
plain-read Acl line text is = plain-by acl_act (acl_line (notation_for V4) line) text is
plain-read Route6 line text is = plain-by (route_act V6) _ text is
plain-read Acl6 line text is = plain-by acl_act _ text is

plain-words : (json : Bool) (act : Act) (text : List ℕ) → Either json (Err (codes "not with json")) (Ok (Some act)) ≡ Err text → IsPlainText text
plain-words true act text is =
    let same : codes "not with json" ≡ text = cc in
    subst IsPlainText same refl
plain-words false act text is = absurd (cc)

plain-told : (json : Bool) (act : Act) (text : List ℕ) → told_by json act ≡ Err text → IsPlainText text
plain-told json (Command change) text is = absurd (cc)
plain-told json (Ask request) text is = absurd (cc)
plain-told json All text is = absurd (cc)
plain-told json (Probe key) text is = absurd (cc)
plain-told json (Packet key) text is = absurd (cc)
plain-told json Commit text is = absurd (cc)
plain-told json (Trial most) text is = plain-words json (Trial most) text is
plain-told json (Crash after) text is = plain-words json (Crash after) text is

plain-line : (setting : Setting) (line : List ℕ) (read : Result (Option Act) (List ℕ)) (text : List ℕ) → reading setting.family line ≡ read → line_told_by setting.json read ≡ Err text → IsPlainText text
plain-line setting line (Ok (Some act)) text same is = plain-told setting.json act text is
plain-line setting line (Ok None) text same is = absurd (cc)
plain-line setting line (Err fault) text same is =
    let here : fault ≡ text = cc in
    subst IsPlainText here (plain-read setting.family line fault same)

-- The text of a line's fault stands in JSON as it is.
pub plain-fault : (setting : Setting) (line text : List ℕ) → reading_by setting line ≡ Err text → IsPlainText text
plain-fault setting line text is = plain-line setting line (reading setting.family line) text refl is

pub plain-result : {T : Type 0} (now : T → List ℕ) (setting : Setting) (line : List ℕ) (result : Result (Option Act) T)
    → IfErr result (λ text. reading_by setting line ≡ Err (now text)) → IfErr result (λ text. IsPlainText (now text))
plain-result now setting line (Ok found) is = tt
plain-result now setting line (Err text) is = plain-fault setting line (now text) is
