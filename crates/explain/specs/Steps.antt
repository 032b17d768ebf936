-- What one line more does to an explanation.
use Rattle.std.specs.Prelude.{ℕ, ◌+◌, Bool, true, false, if◌then◌else◌, Result, Ok, Err, Option, Some, None, List, [], ◌∷◌}
use Rattle.rule_store.specs.declared.Command.{Command as Change}
use Rattle.rule_store.specs.Batch.{set_after}
use Rattle.rule_store.specs.Verdict.{Verdict, Accepted, Unsound, OutOfBits, OutOfSlots}
use Rattle.settled_changes.specs.declared.requested.Requested.TheVariants.{Nothing, Whole}
use Rattle.settled_changes.specs.Requested.{asked_behind, asked_with, batch_behind, batch_with, changes_in, settled_batch, settled_verdict}
use Rattle.replay.specs.declared.Act.{Act}
use Rattle.replay.specs.declared.Act.TheVariants.{Command, Ask, All, Probe, Packet, Commit, Trial, Crash}
use Rattle.replay.specs.Early.{commit_verdict}
use Rattle.report_lines.specs.Sizes.{sizes_by}
use Rattle.replay.specs.Script.{limit_fault}
use Rattle.explain.specs.declared.explainer.Foretold.{Foretold}
use Rattle.explain.specs.declared.explainer.Foretold.TheVariants as foretold
use Rattle.explain.specs.Explained.{setting_for}
use Rattle.explain.specs.Rounds.{Explained}

-- how far refusals are foretold behind a line at fault: the first one stays the first
abbrev pub behind_fault : ℕ → Foretold → Foretold
behind_fault number foretold.Known = foretold.BehindFault number
behind_fault number (foretold.BehindTrial line) = foretold.BehindFault number
behind_fault number (foretold.BehindFault line) = foretold.BehindFault line

-- behind a line at fault
abbrev pub faulted : ℕ → Foretold → Explained → Explained
faulted number by now = record now { foretold = behind_fault number by; wrong = true }

-- behind a refused commit
abbrev pub refused : Explained → Explained
refused now = record now { batch = []; asked = Nothing; wrong = true }

-- the strict commands that what is pending comes to over the set
abbrev pub changes_of : Explained → List Change
changes_of now = settled_batch now.rules now.batch now.asked

-- where they are what is pending
abbrev pub settled_to : Explained → Explained
settled_to now = record now { batch = changes_of now; asked = Nothing }

-- behind a commit or a crash over a known set, by the verdict
abbrev pub committed : Verdict → Explained → Explained
committed Accepted now = record now { rules = set_after now.rules (changes_of now); batch = []; asked = Nothing }
committed (Unsound fault) now = refused now
committed (OutOfBits field needed free) now = refused now
committed (OutOfSlots needed free) now = refused now

-- behind a trial that comes to these changes over a known set, by the verdict: one of none is a commit
abbrev pub tried : ℕ → List Change → Verdict → Explained → Explained
tried number [] v now = committed v now
tried number (change ∷ changes) Accepted now = record now { batch = []; asked = Nothing; foretold = foretold.BehindTrial number }
tried number (change ∷ changes) (Unsound fault) now = refused now
tried number (change ∷ changes) (OutOfBits field needed free) now = refused now
tried number (change ∷ changes) (OutOfSlots needed free) now = refused now

-- whether the rule lists tell the set
abbrev pub is_known : Foretold → Bool
is_known foretold.Known = true
is_known (foretold.BehindTrial line) = false
is_known (foretold.BehindFault line) = false

-- whether a line is at fault
abbrev pub is_behind_fault : Foretold → Bool
is_behind_fault foretold.Known = false
is_behind_fault (foretold.BehindTrial line) = false
is_behind_fault (foretold.BehindFault line) = true

-- what is judged over a known set alone; over another one what is pending goes, and no more is known
abbrev pub judged : Foretold → Explained → Explained → Explained
judged by now after = if is_known by then after else record now { batch = []; asked = Nothing }

-- what the rule lists say of what is pending
abbrev pub verdict_in : Explained → Verdict
verdict_in now = settled_verdict now.wanted.slots now.wanted.mode now.rules now.batch now.asked

-- and of a commit of it, which may be made in two parts
abbrev pub commit_verdict_in : Explained → Verdict
commit_verdict_in now = commit_verdict (setting_for now.wanted) now.rules now.batch now.asked

-- behind an act for which there is room
abbrev pub behind_room : Foretold → ℕ → Act → Explained → Explained
behind_room by number (Command change) now = record now { batch = batch_with now.batch now.asked change; asked = asked_with now.asked change }
behind_room by number (Ask request) now = record now { batch = batch_behind now.batch now.asked; asked = asked_behind now.batch now.asked request }
behind_room by number All now = record now { batch = []; asked = Whole [] }
behind_room by number (Probe key) now = record now { probes = now.probes + 1 }
behind_room by number (Packet key) now = now
behind_room by number Commit now = judged by now (committed (commit_verdict_in now) now)
behind_room by number (Trial most) now = judged by now (tried number (changes_of now) (verdict_in now) now)
behind_room by number (Crash after) now = judged by now (committed (verdict_in now) now)

-- behind an act, by the fault of one for which there is no room
abbrev pub behind_act : Foretold → ℕ → Act → Option (List ℕ) → Explained → Explained
behind_act by number act (Some text) now = faulted number by now
behind_act by number act None now = behind_room by number act now

-- behind an act, where no line before it is at fault
abbrev pub behind_act_in : Foretold → ℕ → Act → Explained → Explained
behind_act_in by number act now = behind_act by number act (limit_fault (sizes_by now.wanted.large).commands act (changes_in now.batch now.asked) now.probes) now

-- behind a line, by what it reads as; once a line is at fault acts do nothing
abbrev pub behind_line_by : Foretold → ℕ → Result (Option Act) (List ℕ) → Explained → Explained
behind_line_by by number (Err text) now = faulted number by now
behind_line_by by number (Ok None) now = now
behind_line_by foretold.Known number (Ok (Some act)) now = behind_act_in foretold.Known number act now
behind_line_by (foretold.BehindTrial line) number (Ok (Some act)) now = behind_act_in (foretold.BehindTrial line) number act now
behind_line_by (foretold.BehindFault line) number (Ok (Some act)) now = now

-- Behind a line of this number, by what it reads as.
abbrev pub behind_line : ℕ → Result (Option Act) (List ℕ) → Explained → Explained
behind_line number read now = behind_line_by now.foretold number read now
