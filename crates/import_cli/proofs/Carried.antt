-- What a command line comes to, by what its calls answer.
use Rattle.std.proofs.Common.{◌≡◌, ◌≢◌, ◌⊎◌, ◌==◌, true, false, length, Bool, ℕ, inl, inr, Option, Some, None, Result, Ok, Err, List, [], ◌∷◌, refl, sym, ap, ◌∙◌, subst, arith}
use Rattle.std.proofs.lemmas.Bool.{eqb-true}
use Rattle.std.specs.Prelude.{◌&&◌, codes, not}
use Rattle.std.proofs.KnownBytes.{Appends-nil}
use Rattle.call_history.specs.Cause.{IsCounted}
use Rattle.rule_model.specs.declared.IpVersion.{IpVersion}
use Rattle.script_lines.specs.Lines.{text_lines}
use Rattle.script_runs.specs.declared.Status.{Status}
use Rattle.script_runs.specs.declared.Status.TheVariants as status
use Rattle.import_lines.specs.Import.{Telling, telling}
use Rattle.import_lines.specs.Imported.{ImportsBy}
use Rattle.import_lines.specs.Writes.{ClosesBy, LastBy}
use Rattle.kept_numbers.specs.declared.words.OlderLine.{OlderLine}
use Rattle.kept_numbers.specs.Older.{older_lines}
use Rattle.ip_routes.specs.Telling as routes
use Rattle.ip_monitor.specs.Telling as events
use Rattle.json_routes.specs.Texts.{JsonBy, Untold}
use Rattle.cisco_lists.specs.Lines as lists
use Rattle.fpm_frames.specs.Imported as frames
use Rattle.fpm_routes.specs.Telling as messages
use Rattle.iptables.specs.Telling as chains
use Rattle.iptables.specs.declared.lines.Hook.{Hook}
use Rattle.nft_rulesets.specs.declared.asked.Asked.{Asked as ChainAsked}
use Rattle.nft_rulesets.specs.Texts as rulesets
use Rattle.import_cli.specs.declared.chain_name.ChainName.{ChainName}
use Rattle.import_cli.specs.declared.asked.Asked.{Asked}
use Rattle.import_cli.specs.declared.asked.Asked.TheVariants as asked
use Rattle.import_cli.specs.declared.asked.Format.{Format}
use Rattle.import_cli.specs.declared.asked.Format.TheVariants.{IpRoutes, IpMonitor, IpJson, Cisco, Fpm, Iptables, Nft}
use Rattle.import_cli.specs.CommandLine.{ImportJob, NoJob, Tells, Imports, asked_by}
use Rattle.import_cli.specs.OwnTexts.{import_help}
use Rattle.import_cli.specs.Jobs.{AsksFor, CarriesOut, SinceBy, no_events, no_lines, no_messages, no_routes, older_fault}

-- a format is imported
pub carries-routes : (format : Format) (version : IpVersion) (leave_out : Bool) (known : routes.Known) (older : List ℕ) (pieces : List (List ℕ)) (answer : Status) (o n : Option (List ℕ)) → format ≡ IpRoutes → known ≡ no_routes version
    → ImportsBy (telling routes.route_told routes.route_after routes.route_closed) leave_out known pieces answer o n → CarriesOut (Imports format version leave_out) older pieces answer o n
carries-routes format version leave_out known older pieces answer o n named is by =
    subst (λ f. CarriesOut (Imports f version leave_out) older pieces answer o n) (sym named)
    (subst (λ k. ImportsBy (telling routes.route_told routes.route_after routes.route_closed) leave_out k pieces answer o n) is by)

pub carries-events : (format : Format) (version : IpVersion) (leave_out : Bool) (known : events.Known) (older : List ℕ) (pieces : List (List ℕ)) (answer : Status) (o n : Option (List ℕ)) → format ≡ IpMonitor → known ≡ no_events version
    → ImportsBy (telling events.monitor_told events.monitor_after events.monitor_closing) leave_out known pieces answer o n → CarriesOut (Imports format version leave_out) older pieces answer o n
carries-events format version leave_out known older pieces answer o n named is by =
    subst (λ f. CarriesOut (Imports f version leave_out) older pieces answer o n) (sym named)
    (subst (λ k. ImportsBy (telling events.monitor_told events.monitor_after events.monitor_closing) leave_out k pieces answer o n) is by)

-- a text is told, and nothing is read
pub told-unread : (result last : Status) (faults : ℕ) → (result ≡ last) ⊎ (result ≡ status.WriteFault) → last ≢ status.ReadFault → IsCounted (result ≡ status.ReadFault) faults faults
told-unread result last faults (inl is) other =
    record { later = omega arith; once = omega arith; failed = λ same. absurd (other (sym is ∙ same)); stayed = λ _. refl }
told-unread result last faults (inr is) other =
    record { later = omega arith; once = omega arith; failed = λ same. absurd (let bad : status.WriteFault ≡ status.ReadFault = sym is ∙ same in cc); stayed = λ _. refl }

pub last-unread : (result last : Status) → (result ≡ last) ⊎ (result ≡ status.WriteFault) → last ≢ status.ReadFault → result ≢ status.ReadFault
last-unread result last (inl is) other = λ same. other (sym is ∙ same)
last-unread result last (inr is) other = λ same. absurd (let bad : status.WriteFault ≡ status.ReadFault = sym is ∙ same in cc)

-- nothing is read, and that isn't the answer
pub unread : (result : Status) (faults : ℕ) → result ≢ status.ReadFault → IsCounted (result ≡ status.ReadFault) faults faults
unread result faults other = record { later = omega arith; once = omega arith; failed = λ same. absurd (other same); stayed = λ _. refl }

pub carries-json : (format : Format) (version : IpVersion) (leave_out : Bool) (older : List ℕ) (pieces : List (List ℕ)) (answer : Status) (o n : Option (List ℕ)) → format ≡ IpJson
    → JsonBy leave_out (no_routes version) pieces answer o n → CarriesOut (Imports format version leave_out) older pieces answer o n
carries-json format version leave_out older pieces answer o n named by = subst (λ f. CarriesOut (Imports f version leave_out) older pieces answer o n) (sym named) by

pub carries-list : (format : Format) (name : List ℕ) (version : IpVersion) (leave_out : Bool) (older : List ℕ) (pieces : List (List ℕ)) (answer : Status) (o n : Option (List ℕ)) → format ≡ Cisco name
    → ImportsBy (telling lists.cisco_told lists.cisco_after lists.cisco_closing) leave_out (no_lines name leave_out) pieces answer o n → CarriesOut (Imports format version leave_out) older pieces answer o n
carries-list format name version leave_out older pieces answer o n named by = subst (λ f. CarriesOut (Imports f version leave_out) older pieces answer o n) (sym named) by

pub carries-entries : (name : List ℕ) (leave_out : Bool) (known : lists.Known) (pieces : List (List ℕ)) (answer : Status) (o n : Option (List ℕ)) → known ≡ no_lines name leave_out
    → ImportsBy (telling lists.cisco_told lists.cisco_after lists.cisco_closing) leave_out known pieces answer o n
    → ImportsBy (telling lists.cisco_told lists.cisco_after lists.cisco_closing) leave_out (no_lines name leave_out) pieces answer o n
carries-entries name leave_out known pieces answer o n is by =
    subst (λ k. ImportsBy (telling lists.cisco_told lists.cisco_after lists.cisco_closing) leave_out k pieces answer o n) is by

-- the list that is asked for
pub any-list : (name bytes : List ℕ) (leave_out : Bool) (known : lists.Known) → bytes ≡ name → (length bytes == 0) ≡ true → known ≡ lists.first_known None (not leave_out) → known ≡ no_lines name leave_out
any-list [] bytes leave_out known same none is = is
any-list (byte ∷ name) bytes leave_out known same none is =
    let none_now : (length (byte ∷ name) == 0) ≡ true = ap (λ (l : List ℕ). length l == 0) (sym same) ∙ none in
    let empty : length (byte ∷ name) ≡ 0 = eqb-true (length (byte ∷ name)) 0 none_now in
    absurd (omega (arith, empty))

pub this-list : (name bytes items : List ℕ) (leave_out : Bool) (known : lists.Known) → bytes ≡ name → (length bytes == 0) ≡ false → items ≡ bytes → known ≡ lists.first_known (Some items) false → known ≡ no_lines name leave_out
this-list [] bytes items leave_out known same some put is =
    let some_now : (length {A = ℕ} [] == 0) ≡ false = ap (λ (l : List ℕ). length l == 0) (sym same) ∙ some in
    absurd (cc)
this-list (byte ∷ name) bytes items leave_out known same some put is =
    let some_now : (length (byte ∷ name) == 0) ≡ false = ap (λ (l : List ℕ). length l == 0) (sym same) ∙ some in
    is ∙ ap (λ n. lists.first_known (Some n) false) (put ∙ same)
    ∙ ap (λ b. lists.first_known (Some (byte ∷ name)) (b && not leave_out)) (sym some_now)

pub carries-frames : (format : Format) (version : IpVersion) (leave_out : Bool) (known : messages.Known) (older : List ℕ) (pieces : List (List ℕ)) (answer : Status) (o n : Option (List ℕ)) → format ≡ Fpm → known ≡ no_messages version
    → frames.ImportsBy (frames.telling messages.fpm_told messages.fpm_after) (frames.first_standing leave_out known) pieces answer o n → CarriesOut (Imports format version leave_out) older pieces answer o n
carries-frames format version leave_out known older pieces answer o n named is by =
    subst (λ f. CarriesOut (Imports f version leave_out) older pieces answer o n) (sym named)
    (subst (λ k. frames.ImportsBy (frames.telling messages.fpm_told messages.fpm_after) (frames.first_standing leave_out k) pieces answer o n) is by)

-- the lines of an older list are known, or its script has another line
pub carries-chains : (version : IpVersion) (hook : Hook) (face : List ℕ) (leave_out : Bool) (older : List ℕ) (lines : List OlderLine) (known : chains.Known) (pieces : List (List ℕ)) (answer : Status) (o n : Option (List ℕ)) → older_lines older ≡ Ok lines
    → known ≡ chains.nothing_known version hook face lines → ImportsBy (telling chains.line_told chains.line_after chains.save_closing) leave_out known pieces answer o n
    → CarriesOut (Imports (Iptables hook face) version leave_out) older pieces answer o n
carries-chains version hook face leave_out older lines known pieces answer o n found is by =
    subst (λ r. SinceBy r (λ l. ImportsBy (telling chains.line_told chains.line_after chains.save_closing) leave_out (chains.nothing_known version hook face l) pieces answer o n) pieces answer o n) (sym found)
    (subst (λ k. ImportsBy (telling chains.line_told chains.line_after chains.save_closing) leave_out k pieces answer o n) is by)

pub carries-listed : (version : IpVersion) (chain : ChainName) (leave_out : Bool) (older : List ℕ) (lines : List OlderLine) (asked : ChainAsked) (pieces : List (List ℕ)) (answer : Status) (o n : Option (List ℕ)) → older_lines older ≡ Ok lines
    → AsksFor asked chain version lines → rulesets.RulesetBy asked leave_out pieces answer o n → CarriesOut (Imports (Nft chain) version leave_out) older pieces answer o n
carries-listed version chain leave_out older lines asked pieces answer o n found asks by =
    subst (λ r. SinceBy r (λ l. (a : ChainAsked) × AsksFor a chain version l × rulesets.RulesetBy a leave_out pieces answer o n) pieces answer o n) (sym found) (asked, asks, by)

pub since-refused : (found : Result (List OlderLine) ℕ) (By : List OlderLine → Type 0) (number : ℕ) (answer : Status) (o n : Option (List ℕ)) → found ≡ Err number → LastBy (older_fault number) status.Script answer o n → SinceBy found By [] answer o n
since-refused found By number answer o n is last = subst (λ r. SinceBy r By [] answer o n) (sym is) (refl, last)

-- the line of an older script is named
pub named-older : (number : ℕ) (text bytes : List ℕ) (answer : Status) (o n : Option (List ℕ)) → text ≡ older_fault number → bytes ≡ text → ClosesBy bytes status.Script answer o n → LastBy (older_fault number) status.Script answer o n
named-older number text bytes answer o n is same closes = inl (subst (λ t. ClosesBy t status.Script answer o n) (same ∙ is) closes)

since-wanting : (found : Result (List OlderLine) ℕ) (By : List OlderLine → Type 0) (o : Option (List ℕ)) → ((lines : List OlderLine) → By lines) → SinceBy found By [] status.Memory o o
since-wanting (Ok lines) By o all = all lines
since-wanting (Err number) By o all = (refl, inr (refl, Appends-nil o))

pub carries-save : (format : Format) (hook : Hook) (face : List ℕ) (version : IpVersion) (leave_out : Bool) (older : List ℕ) (pieces : List (List ℕ)) (answer : Status) (o n : Option (List ℕ)) → format ≡ Iptables hook face
    → CarriesOut (Imports (Iptables hook face) version leave_out) older pieces answer o n → CarriesOut (Imports format version leave_out) older pieces answer o n
carries-save format hook face version leave_out older pieces answer o n named by = subst (λ f. CarriesOut (Imports f version leave_out) older pieces answer o n) (sym named) by

pub carries-ruleset : (format : Format) (chain given : ChainName) (version : IpVersion) (leave_out : Bool) (older : List ℕ) (pieces : List (List ℕ)) (answer : Status) (o n : Option (List ℕ)) → format ≡ Nft chain → given ≡ chain
    → CarriesOut (Imports (Nft given) version leave_out) older pieces answer o n → CarriesOut (Imports format version leave_out) older pieces answer o n
carries-ruleset format chain given version leave_out older pieces answer o n named is by =
    subst (λ f. CarriesOut (Imports f version leave_out) older pieces answer o n) (sym named)
    (subst (λ (c : ChainName). CarriesOut (Imports (Nft c) version leave_out) older pieces answer o n) is by)

-- what an answer asks for
pub carried-as : (a b : Asked) (older : List ℕ) (pieces : List (List ℕ)) (answer : Status) (o n : Option (List ℕ)) → a ≡ b → CarriesOut (asked_by b) older pieces answer o n → CarriesOut (asked_by a) older pieces answer o n
carried-as a b older pieces answer o n is carries = subst (λ x. CarriesOut (asked_by x) older pieces answer o n) (sym is) carries

-- the help, and words that are no command line
pub helped : (a : Asked) (text older : List ℕ) (answer : Status) (o n : Option (List ℕ)) → a ≡ asked.Help → text ≡ import_help → ClosesBy text status.Done answer o n → CarriesOut (asked_by a) older [] answer o n
helped a text older answer o n is same closes =
    carried-as a asked.Help older [] answer o n is (refl, inl (subst (λ t. ClosesBy t status.Done answer o n) same closes))

pub misused : (job : ImportJob) (text older : List ℕ) (answer : Status) (o n : Option (List ℕ)) → job ≡ NoJob → text ≡ codes "usage\n" → ClosesBy text status.Usage answer o n → CarriesOut job older [] answer o n
misused job text older answer o n is same closes =
    subst (λ j. CarriesOut j older [] answer o n) (sym is) (refl, inl (subst (λ t. ClosesBy t status.Usage answer o n) same closes))

-- memory was wanting before anything was read or written
pub none-told : {Known : Type 0} → (telling : Telling Known) (leave_out : Bool) (known : Known) (o : Option (List ℕ)) → ImportsBy telling leave_out known [] status.Memory o o
none-told telling leave_out known o = record {
  written = [];
  appends = Appends-nil o;
  right = λ text after may. record {
    fates = [];
    rest = (text_lines text).lines;
    tail = [];
    have = record { are = tt; lines_are = refl };
    written_is = refl;
    ends = refl;
  };
  came = λ same. absurd (cc);
}

pub wanting : (job : ImportJob) (older : List ℕ) (o : Option (List ℕ)) → CarriesOut job older [] status.Memory o o
wanting NoJob older o = (refl, inr (refl, Appends-nil o))
wanting (Tells text) older o = (refl, inr (refl, Appends-nil o))
wanting (Imports IpRoutes version leave_out) older o = none-told (telling routes.route_told routes.route_after routes.route_closed) leave_out (no_routes version) o
wanting (Imports IpMonitor version leave_out) older o = none-told (telling events.monitor_told events.monitor_after events.monitor_closing) leave_out (no_events version) o
wanting (Imports IpJson version leave_out) older o = Untold (inr refl) (Appends-nil o)
wanting (Imports (Cisco name) version leave_out) older o = none-told (telling lists.cisco_told lists.cisco_after lists.cisco_closing) leave_out (no_lines name leave_out) o
wanting (Imports Fpm version leave_out) older o =
    record { fates = []; part = []; tail = []; are = tt; came = refl; appends = Appends-nil o; ends = refl }
wanting (Imports (Iptables hook face) version leave_out) older o =
    since-wanting (older_lines older) (λ lines. ImportsBy (telling chains.line_told chains.line_after chains.save_closing) leave_out (chains.nothing_known version hook face lines) [] status.Memory o o) o
    (λ lines. none-told (telling chains.line_told chains.line_after chains.save_closing) leave_out (chains.nothing_known version hook face lines) o)
wanting (Imports (Nft chain) version leave_out) older o =
    since-wanting (older_lines older) (λ lines. (asked : ChainAsked) × AsksFor asked chain version lines × rulesets.RulesetBy asked leave_out [] status.Memory o o) o
    (λ lines. (
      record {
        version = version;
        family = record { ref_ptr = (0, 0); now = chain.family };
        table = record { ref_ptr = (0, 0); now = chain.table };
        chain = record { ref_ptr = (0, 0); now = chain.name };
        older = record { ref_ptr = (0, 0); now = lines };
      },
      (refl, refl, refl, refl, refl),
      rulesets.Untold (inr refl) (Appends-nil o),
    ))
