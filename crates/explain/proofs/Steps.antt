-- A line more of a script that is explained.
use Rattle.std.proofs.Common.{◌≡◌, ◌≢◌, ℕ, ◌+◌, Bool, true, false, ◌||◌, Option, Some, None, Result, Ok, Err, List, [], ◌∷◌, ◌++◌, map, refl, ap, sym, ◌∙◌, subst, append_assoc, length-append}
use Rattle.std.proofs.lemmas.List.{length-map}
use Rattle.rule_store.specs.declared.Command.{Command as Change}
use Rattle.rule_store.specs.Batch.{set_after}
use Rattle.rule_store.specs.Verdict.{Verdict, Accepted, Unsound, OutOfBits, OutOfSlots}
use Rattle.settled_changes.specs.declared.Request.{Request}
use Rattle.settled_changes.specs.declared.Request.TheVariants.{Strict}
use Rattle.settled_changes.specs.declared.requested.Requested.{Requested}
use Rattle.settled_changes.specs.declared.requested.Requested.TheVariants.{Nothing, Changes, Whole as WholeSet}
use Rattle.settled_changes.specs.Requested.{asked_behind, asked_with, batch_behind, batch_with, changes_in}
use Rattle.script_lines.specs.declared.Line.{Line}
use Rattle.script_lines.specs.declared.LineFault.{LineFault}
use Rattle.script_lines.specs.declared.Over.{Over}
use Rattle.script_lines.specs.declared.Over.TheVariants as over
use Rattle.script_lines.specs.Lines.{NumberedLine, ScriptLines}
use Rattle.script_lines.specs.Reader.{HeldBytes, Again}
use Rattle.script_runs.specs.Script.{ScriptKind, NumberedAct, Whole, FaultAt, stops_at}
use Rattle.script_runs.specs.Rounds.{IsGoing, IsReadSoFar, acts_next, acts_only, onto_all}
use Rattle.script_runs.proofs.NextLines.{HandsOne, line-none, line-fault, line-full, line-act, next-line, line-here, onto-more, only-more}
use Rattle.replay.specs.declared.Act.{Act}
use Rattle.replay.specs.declared.Act.TheVariants.{Command, Ask, All, Probe, Packet, Commit, Trial, Crash}
use Rattle.report_lines.specs.Sizes.{sizes_by}
use Rattle.replay.specs.Script.{Script, limit_fault, pending_after, probes_after, script_kind}
use Rattle.tcam_cli.specs.Readings.{reading_by}
use Rattle.explain.specs.declared.explainer.Wanted.{Wanted}
use Rattle.explain.specs.declared.explainer.Foretold.{Foretold}
use Rattle.explain.specs.declared.explainer.Foretold.TheVariants as foretold
use Rattle.explain.specs.Explained.{foretells, is_refusal_foretold, judged_by, script_for, setting_for, tried_by}
use Rattle.explain.specs.Rounds.{Explained, ForetellsBy, HasFault, IsFaultless, IsStandingBy, IsStanding}
use Rattle.explain.specs.Steps.{behind_act, behind_room, changes_of, commit_verdict_in, committed, faulted, judged, behind_line_by, behind_line, refused, tried, verdict_in}

-- ---- words

-- the kind of scripts that is explained
abbrev pub kind_for : Wanted → ScriptKind Act (ℕ × ℕ)
kind_for wanted = script_kind (sizes_by wanted.large) (reading_by (setting_for wanted))

-- what is counted of the acts so far
abbrev counts : Explained → ℕ × ℕ
counts now = (changes_in now.batch now.asked, now.probes)

or-true : (b : Bool) → (b || true) ≡ true
or-true true = refl
or-true false = refl

or-false : (b : Bool) → (b || false) ≡ b
or-false true = refl
or-false false = refl

-- where something else than the end came, the lines went on
pub still-going : {A C : Type 0} (o : Over) (kind : ScriptKind A C) (bytes : List ℕ) (old : HeldBytes) (left : List ℕ) (acts : List (NumberedAct A)) (c : C) (r : Result (Option Line) LineFault)
    → r ≢ Ok None → Again o r → IsReadSoFar o kind bytes old left acts c → (o ≡ over.Going) × IsGoing kind bytes old left acts c
still-going over.Going kind bytes old left acts c r other again read = (refl, read)
still-going over.Ended kind bytes old left acts c r other again read = absurd (other again)
still-going (over.Stopped stopped) kind bytes old left acts c r other again read = absurd read

-- ---- a line at fault

module _ (bytes : List ℕ) (old : HeldBytes) (left : List ℕ) (line : NumberedLine) (new : HeldBytes) (after : List ℕ) (now : Explained) (acts : List (NumberedAct Act))
    (going : IsGoing (kind_for now.wanted) bytes old left acts (counts now)) (hands : HandsOne old left line new after) where
  stopped : (rest : ScriptLines) (text : List ℕ) → script_for now.wanted bytes ≡ onto_all acts (stops_at line.number text) → (script_for now.wanted bytes).last ≢ Whole
  stopped rest text is = λ whole.
      let bad : FaultAt line.number text ≡ Whole = sym (ap (λ (s : Script). s.last) is) ∙ whole in
      cc

  pub fault-here : (text : List ℕ) → reading_by (setting_for now.wanted) line.text ≡ Err text → (script_for now.wanted bytes).last ≢ Whole
  fault-here text bad =
      let (rest, e) = line-here (kind_for now.wanted) bytes old left line new after acts (counts now) going hands in
      stopped rest text (e ∙ ap (onto_all acts) (line-fault (kind_for now.wanted) (counts now) line rest text bad))

  pub full-here : (act : Act) (text : List ℕ) → reading_by (setting_for now.wanted) line.text ≡ Ok (Some act) → limit_fault (sizes_by now.wanted.large).commands act (changes_in now.batch now.asked) now.probes ≡ Some text
      → (script_for now.wanted bytes).last ≢ Whole
  full-here act text is full =
      let (rest, e) = line-here (kind_for now.wanted) bytes old left line new after acts (counts now) going hands in
      stopped rest text (e ∙ ap (onto_all acts) (line-full (kind_for now.wanted) (counts now) line rest act text is full))

  -- a line that is skipped
  pub none-here : reading_by (setting_for now.wanted) line.text ≡ Ok None → IsReadSoFar new.over (kind_for now.wanted) bytes new after acts (counts now)
  none-here is =
      next-line (kind_for now.wanted) bytes old left line new after acts acts (counts now) (counts now) going hands
      (λ rest. ap (onto_all acts) (line-none (kind_for now.wanted) (counts now) line rest is))

  -- an act for which there is room
  pub act-here : (act : Act) → reading_by (setting_for now.wanted) line.text ≡ Ok (Some act) → limit_fault (sizes_by now.wanted.large).commands act (changes_in now.batch now.asked) now.probes ≡ None
      → IsReadSoFar new.over (kind_for now.wanted) bytes new after (acts ++ record { line = line.number; act = act } ∷ []) (pending_after act (changes_in now.batch now.asked), probes_after act now.probes)
  act-here act is room =
      let kind = kind_for now.wanted in
      let next : ℕ × ℕ = (pending_after act (changes_in now.batch now.asked), probes_after act now.probes) in
      next-line kind bytes old left line new after acts (acts ++ record { line = line.number; act = act } ∷ []) (counts now) next going hands
      (λ rest. ap (onto_all acts) (line-act kind (counts now) line rest act is room) ∙ onto-more acts line.number act (acts_next kind next rest))

-- ---- what is counted behind an act

committed-counts : (v : Verdict) (now : Explained) → (0, now.probes) ≡ counts (committed v now)
committed-counts Accepted now = refl
committed-counts (Unsound fault) now = refl
committed-counts (OutOfBits field needed free) now = refl
committed-counts (OutOfSlots needed free) now = refl

tried-counts : (number : ℕ) (batch : List Change) (v : Verdict) (now : Explained) → (0, now.probes) ≡ counts (tried number batch v now)
tried-counts number [] v now = committed-counts v now
tried-counts number (change ∷ changes) Accepted now = refl
tried-counts number (change ∷ changes) (Unsound fault) now = refl
tried-counts number (change ∷ changes) (OutOfBits field needed free) now = refl
tried-counts number (change ∷ changes) (OutOfSlots needed free) now = refl

judged-counts : (by : Foretold) (now after : Explained) → (0, now.probes) ≡ counts after → (0, now.probes) ≡ counts (judged by now after)
judged-counts foretold.Known now after is = is
judged-counts (foretold.BehindTrial line) now after is = refl
judged-counts (foretold.BehindFault line) now after is = refl

-- a change more
pub more_with : (batch : List Change) (asked : Requested) (change : Change) → changes_in (batch_with batch asked change) (asked_with asked change) ≡ changes_in batch asked + 1
more_with batch Nothing change = length-append batch (change ∷ [])
more_with batch (Changes requests) change = length-append requests (Strict change ∷ [])
more_with batch (WholeSet requests) change = length-append requests (Strict change ∷ [])

pub more_behind : (batch : List Change) (asked : Requested) (request : Request) → changes_in (batch_behind batch asked) (asked_behind batch asked request) ≡ changes_in batch asked + 1
more_behind batch Nothing request = length-append (map Strict batch) (request ∷ []) ∙ ap (λ n. n + 1) (length-map batch Strict)
more_behind batch (Changes requests) request = length-append requests (request ∷ [])
more_behind batch (WholeSet requests) request = length-append requests (request ∷ [])

carried-counts : (by : Foretold) (number : ℕ) (act : Act) (now : Explained) → (pending_after act (changes_in now.batch now.asked), probes_after act now.probes) ≡ counts (behind_room by number act now)
carried-counts by number (Command change) now = ap (λ n. (n, now.probes)) (sym (more_with now.batch now.asked change))
carried-counts by number (Ask request) now = ap (λ n. (n, now.probes)) (sym (more_behind now.batch now.asked request))
carried-counts by number All now = refl
carried-counts by number (Probe key) now = refl
carried-counts by number (Packet key) now = refl
carried-counts by number Commit now = judged-counts by now (committed (commit_verdict_in now) now) (committed-counts (commit_verdict_in now) now)
carried-counts by number (Trial most) now = judged-counts by now (tried number (changes_of now) (verdict_in now) now) (tried-counts number (changes_of now) (verdict_in now) now)
carried-counts by number (Crash after) now = judged-counts by now (committed (verdict_in now) now) (committed-counts (verdict_in now) now)

-- what is wanted stays
committed-wanted : (v : Verdict) (now : Explained) → (committed v now).wanted ≡ now.wanted
committed-wanted Accepted now = refl
committed-wanted (Unsound fault) now = refl
committed-wanted (OutOfBits field needed free) now = refl
committed-wanted (OutOfSlots needed free) now = refl

tried-wanted : (number : ℕ) (batch : List Change) (v : Verdict) (now : Explained) → (tried number batch v now).wanted ≡ now.wanted
tried-wanted number [] v now = committed-wanted v now
tried-wanted number (change ∷ changes) Accepted now = refl
tried-wanted number (change ∷ changes) (Unsound fault) now = refl
tried-wanted number (change ∷ changes) (OutOfBits field needed free) now = refl
tried-wanted number (change ∷ changes) (OutOfSlots needed free) now = refl

judged-wanted : (by : Foretold) (now after : Explained) → after.wanted ≡ now.wanted → (judged by now after).wanted ≡ now.wanted
judged-wanted foretold.Known now after is = is
judged-wanted (foretold.BehindTrial line) now after is = refl
judged-wanted (foretold.BehindFault line) now after is = refl

pub carried-wanted : (by : Foretold) (number : ℕ) (act : Act) (now : Explained) → (behind_room by number act now).wanted ≡ now.wanted
carried-wanted by number (Command change) now = refl
carried-wanted by number (Ask request) now = refl
carried-wanted by number All now = refl
carried-wanted by number (Probe key) now = refl
carried-wanted by number (Packet key) now = refl
carried-wanted by number Commit now = judged-wanted by now (committed (commit_verdict_in now) now) (committed-wanted (commit_verdict_in now) now)
carried-wanted by number (Trial most) now = judged-wanted by now (tried number (changes_of now) (verdict_in now) now) (tried-wanted number (changes_of now) (verdict_in now) now)
carried-wanted by number (Crash after) now = judged-wanted by now (committed (verdict_in now) now) (committed-wanted (verdict_in now) now)

acted-wanted : (by : Foretold) (number : ℕ) (act : Act) (limit : Option (List ℕ)) (now : Explained) → (behind_act by number act limit now).wanted ≡ now.wanted
acted-wanted by number act (Some text) now = refl
acted-wanted by number act None now = carried-wanted by number act now

next-by-wanted : (by : Foretold) (number : ℕ) (read : Result (Option Act) (List ℕ)) (now : Explained) → (behind_line_by by number read now).wanted ≡ now.wanted
next-by-wanted by number (Err text) now = refl
next-by-wanted by number (Ok None) now = refl
next-by-wanted foretold.Known number (Ok (Some act)) now = acted-wanted foretold.Known number act (limit_fault (sizes_by now.wanted.large).commands act (changes_in now.batch now.asked) now.probes) now
next-by-wanted (foretold.BehindTrial line) number (Ok (Some act)) now = acted-wanted (foretold.BehindTrial line) number act (limit_fault (sizes_by now.wanted.large).commands act (changes_in now.batch now.asked) now.probes) now
next-by-wanted (foretold.BehindFault line) number (Ok (Some act)) now = refl

pub next-wanted : (number : ℕ) (read : Result (Option Act) (List ℕ)) (now : Explained) → (behind_line number read now).wanted ≡ now.wanted
next-wanted number read now = next-by-wanted now.foretold number read now

-- ---- what is foretold behind an act

shift-acts : (acts : List (NumberedAct Act)) (number : ℕ) (act : Act) (more : List Act)
    → acts_only (acts ++ record { line = number; act = act } ∷ []) ++ more ≡ acts_only acts ++ act ∷ more
shift-acts acts number act more = ap (λ a. a ++ more) (sym (only-more acts number act)) ∙ append_assoc (acts_only acts) (act ∷ []) more

abbrev foretold-from : Explained → List Act → Bool
foretold-from now more = now.wrong || foretells (setting_for now.wanted) now.rules now.batch now.asked more

committed-foretells : (v : Verdict) (now : Explained) (more : List Act)
    → (now.wrong || judged_by v (foretells (setting_for now.wanted) (set_after now.rules (changes_of now)) [] Nothing more)) ≡ foretold-from (committed v now) more
committed-foretells Accepted now more = refl
committed-foretells (Unsound fault) now more = or-true now.wrong
committed-foretells (OutOfBits field needed free) now more = or-true now.wrong
committed-foretells (OutOfSlots needed free) now more = or-true now.wrong

committed-foretold : (v : Verdict) (now : Explained) → (committed v now).foretold ≡ now.foretold
committed-foretold Accepted now = refl
committed-foretold (Unsound fault) now = refl
committed-foretold (OutOfBits field needed free) now = refl
committed-foretold (OutOfSlots needed free) now = refl

-- ---- where an explanation stands behind a line

module _ (bytes : List ℕ) (new : HeldBytes) (after : List ℕ) where
  abbrev IsRead : Explained → List (NumberedAct Act) → Type 0
  IsRead now acts = IsReadSoFar new.over (kind_for now.wanted) bytes new after acts (counts now)

  known-stands : (now : Explained) (acts : List (NumberedAct Act)) → now.foretold ≡ foretold.Known → IsRead now acts → ForetellsBy foretold.Known now (acts_only acts) → IsStanding bytes new after now
  known-stands now acts is read tells =
      let at : IsFaultless foretold.Known bytes new after now = record { acts = acts; read = read; tells = tells } in
      subst (λ f. IsStandingBy f bytes new after now) (sym is) at

  trial-stands : (line : ℕ) (now : Explained) (acts : List (NumberedAct Act)) → now.foretold ≡ foretold.BehindTrial line → IsRead now acts → ForetellsBy (foretold.BehindTrial line) now (acts_only acts) → IsStanding bytes new after now
  trial-stands line now acts is read tells =
      let at : IsFaultless (foretold.BehindTrial line) bytes new after now = record { acts = acts; read = read; tells = tells } in
      subst (λ f. IsStandingBy f bytes new after now) (sym is) at

  fault-stands : (line : ℕ) (now : Explained) → now.foretold ≡ foretold.BehindFault line → HasFault bytes now → IsStanding bytes new after now
  fault-stands line now is at = subst (λ f. IsStandingBy f bytes new after now) (sym is) at

  -- a commit over a known set, by its verdict
  known-committed : (v : Verdict) (now : Explained) (acts : List (NumberedAct Act)) → now.foretold ≡ foretold.Known → IsRead (committed v now) acts
      → ((more : List Act) → is_refusal_foretold now.wanted (acts_only acts ++ more)
      ≡ (now.wrong || judged_by v (foretells (setting_for now.wanted) (set_after now.rules (changes_of now)) [] Nothing more)))
      → IsStanding bytes new after (committed v now)
  known-committed v now acts is read tells =
      let next = committed v now in
      known-stands next acts (committed-foretold v now ∙ is) read
      (λ more.
      subst (λ (w : Wanted). is_refusal_foretold w (acts_only acts ++ more) ≡ foretold-from next more) (sym (committed-wanted v now))
      (tells more ∙ committed-foretells v now more))

  -- and a trial, by its changes too
  known-tried : (number : ℕ) (changes : List Change) (v : Verdict) (now : Explained) (acts : List (NumberedAct Act)) → now.foretold ≡ foretold.Known → IsRead (tried number changes v now) acts
      → ((more : List Act) → is_refusal_foretold now.wanted (acts_only acts ++ more)
      ≡ (now.wrong || tried_by changes v (foretells (setting_for now.wanted) (set_after now.rules (changes_of now)) [] Nothing more)))
      → IsStanding bytes new after (tried number changes v now)
  known-tried number [] v now acts is read tells = known-committed v now acts is read tells
  known-tried number (change ∷ changes) Accepted now acts is read tells =
      trial-stands number (record now { batch = []; asked = Nothing; foretold = foretold.BehindTrial number }) acts refl read (λ more. tells more ∙ or-false now.wrong)
  known-tried number (change ∷ changes) (Unsound fault) now acts is read tells = known-stands (refused now) acts is read (λ more. tells more ∙ or-true now.wrong)
  known-tried number (change ∷ changes) (OutOfBits field needed free) now acts is read tells = known-stands (refused now) acts is read (λ more. tells more ∙ or-true now.wrong)
  known-tried number (change ∷ changes) (OutOfSlots needed free) now acts is read tells = known-stands (refused now) acts is read (λ more. tells more ∙ or-true now.wrong)

  -- an act that is carried out over a known set
  known-carried : (number : ℕ) (act : Act) (now : Explained) (acts : List (NumberedAct Act)) → now.foretold ≡ foretold.Known → IsRead (behind_room foretold.Known number act now) acts
      → ((more : List Act) → is_refusal_foretold now.wanted (acts_only acts ++ more) ≡ foretold-from now (act ∷ more))
      → IsStanding bytes new after (behind_room foretold.Known number act now)
  known-carried number (Command change) now acts is read tells = known-stands (behind_room foretold.Known number (Command change) now) acts is read tells
  known-carried number (Ask request) now acts is read tells = known-stands (behind_room foretold.Known number (Ask request) now) acts is read tells
  known-carried number All now acts is read tells = known-stands (behind_room foretold.Known number All now) acts is read tells
  known-carried number (Probe key) now acts is read tells = known-stands (behind_room foretold.Known number (Probe key) now) acts is read tells
  known-carried number (Packet key) now acts is read tells = known-stands now acts is read tells
  known-carried number Commit now acts is read tells = known-committed (commit_verdict_in now) now acts is read tells
  known-carried number (Trial most) now acts is read tells = known-tried number (changes_of now) (verdict_in now) now acts is read tells
  known-carried number (Crash limit) now acts is read tells = known-committed (verdict_in now) now acts is read tells

  -- and behind a trial
  trial-carried : (line number : ℕ) (act : Act) (now : Explained) (acts : List (NumberedAct Act)) → now.foretold ≡ foretold.BehindTrial line → IsRead (behind_room (foretold.BehindTrial line) number act now) acts
      → ((more : List Act) → is_refusal_foretold now.wanted (acts_only acts ++ more) ≡ now.wrong)
      → IsStanding bytes new after (behind_room (foretold.BehindTrial line) number act now)
  trial-carried line number (Command change) now acts is read tells = trial-stands line (behind_room (foretold.BehindTrial line) number (Command change) now) acts is read tells
  trial-carried line number (Ask request) now acts is read tells = trial-stands line (behind_room (foretold.BehindTrial line) number (Ask request) now) acts is read tells
  trial-carried line number All now acts is read tells = trial-stands line (behind_room (foretold.BehindTrial line) number All now) acts is read tells
  trial-carried line number (Probe key) now acts is read tells = trial-stands line (behind_room (foretold.BehindTrial line) number (Probe key) now) acts is read tells
  trial-carried line number (Packet key) now acts is read tells = trial-stands line now acts is read tells
  trial-carried line number Commit now acts is read tells = trial-stands line (record now { batch = []; asked = Nothing }) acts is read tells
  trial-carried line number (Trial most) now acts is read tells = trial-stands line (record now { batch = []; asked = Nothing }) acts is read tells
  trial-carried line number (Crash limit) now acts is read tells = trial-stands line (record now { batch = []; asked = Nothing }) acts is read tells

-- ---- one line more

module _ (bytes : List ℕ) (old : HeldBytes) (left : List ℕ) (line : NumberedLine) (new : HeldBytes) (after : List ℕ) (now : Explained)
    (hands : old.over ≡ over.Going → HandsOne old left line new after) where
  -- what is read behind an act
  read-behind : (by : Foretold) (act : Act) (acts : List (NumberedAct Act)) → IsGoing (kind_for now.wanted) bytes old left acts (counts now) → HandsOne old left line new after
      → reading_by (setting_for now.wanted) line.text ≡ Ok (Some act) → limit_fault (sizes_by now.wanted.large).commands act (changes_in now.batch now.asked) now.probes ≡ None
      → IsReadSoFar new.over (kind_for (behind_room by line.number act now).wanted) bytes new after (acts ++ record { line = line.number; act = act } ∷ []) (counts (behind_room by line.number act now))
  read-behind by act acts going one is room =
      let next = acts ++ record { line = line.number; act = act } ∷ [] in
      subst (λ (w : Wanted). IsReadSoFar new.over (kind_for w) bytes new after next (counts (behind_room by line.number act now))) (sym (carried-wanted by line.number act now))
      (subst (λ (c : ℕ × ℕ). IsReadSoFar new.over (kind_for now.wanted) bytes new after next c) (carried-counts by line.number act now)
      (act-here bytes old left line new after now acts going one act is room))

  known-acted : (act : Act) (limit : Option (List ℕ)) → now.foretold ≡ foretold.Known → (s : IsFaultless foretold.Known bytes old left now) → IsGoing (kind_for now.wanted) bytes old left s.acts (counts now)
      → HandsOne old left line new after → reading_by (setting_for now.wanted) line.text ≡ Ok (Some act) → limit_fault (sizes_by now.wanted.large).commands act (changes_in now.batch now.asked) now.probes ≡ limit
      → IsStanding bytes new after (behind_act foretold.Known line.number act limit now)
  known-acted act (Some text) is s going one read full =
      let at : HasFault bytes (faulted line.number foretold.Known now) = record { wrong = refl; fault = full-here bytes old left line new after now s.acts going one act text read full } in
      at
  known-acted act None is s going one read room =
      known-carried bytes new after line.number act now (s.acts ++ record { line = line.number; act = act } ∷ []) is (read-behind foretold.Known act s.acts going one read room)
      (λ more. ap (is_refusal_foretold now.wanted) (shift-acts s.acts line.number act more) ∙ s.tells (act ∷ more))

  trial-acted : (at_line : ℕ) (act : Act) (limit : Option (List ℕ)) → now.foretold ≡ foretold.BehindTrial at_line → (s : IsFaultless (foretold.BehindTrial at_line) bytes old left now)
      → IsGoing (kind_for now.wanted) bytes old left s.acts (counts now)
      → HandsOne old left line new after → reading_by (setting_for now.wanted) line.text ≡ Ok (Some act) → limit_fault (sizes_by now.wanted.large).commands act (changes_in now.batch now.asked) now.probes ≡ limit
      → IsStanding bytes new after (behind_act (foretold.BehindTrial at_line) line.number act limit now)
  trial-acted at_line act (Some text) is s going one read full =
      let at : HasFault bytes (faulted line.number (foretold.BehindTrial at_line) now) = record { wrong = refl; fault = full-here bytes old left line new after now s.acts going one act text read full } in
      at
  trial-acted at_line act None is s going one read room =
      trial-carried bytes new after at_line line.number act now (s.acts ++ record { line = line.number; act = act } ∷ []) is (read-behind (foretold.BehindTrial at_line) act s.acts going one read room)
      (λ more. ap (is_refusal_foretold now.wanted) (shift-acts s.acts line.number act more) ∙ s.tells (act ∷ more))

  -- where an explanation stands behind the line
  pub stands-by : (by : Foretold) (found : Line) (r : Result (Option Act) (List ℕ)) → now.foretold ≡ by → IsStandingBy by bytes old left now → Again old.over (Ok (Some found))
      → reading_by (setting_for now.wanted) line.text ≡ r → IsStanding bytes new after (behind_line_by by line.number r now)
  stands-by foretold.Known found (Err text) is s again read =
      let going = still-going old.over (kind_for now.wanted) bytes old left s.acts (counts now) (Ok (Some found)) (λ e. cc) again s.read in
      let at : HasFault bytes (faulted line.number foretold.Known now) = record { wrong = refl; fault = fault-here bytes old left line new after now s.acts going.1 (hands going.0) text read } in
      at
  stands-by foretold.Known found (Ok None) is s again read =
      let going = still-going old.over (kind_for now.wanted) bytes old left s.acts (counts now) (Ok (Some found)) (λ e. cc) again s.read in
      known-stands bytes new after now s.acts is (none-here bytes old left line new after now s.acts going.1 (hands going.0) read) s.tells
  stands-by foretold.Known found (Ok (Some act)) is s again read =
      let going = still-going old.over (kind_for now.wanted) bytes old left s.acts (counts now) (Ok (Some found)) (λ e. cc) again s.read in
      known-acted act (limit_fault (sizes_by now.wanted.large).commands act (changes_in now.batch now.asked) now.probes) is s going.1 (hands going.0) read refl
  stands-by (foretold.BehindTrial at_line) found (Err text) is s again read =
      let going = still-going old.over (kind_for now.wanted) bytes old left s.acts (counts now) (Ok (Some found)) (λ e. cc) again s.read in
      let at : HasFault bytes (faulted line.number (foretold.BehindTrial at_line) now) = record { wrong = refl; fault = fault-here bytes old left line new after now s.acts going.1 (hands going.0) text read } in
      at
  stands-by (foretold.BehindTrial at_line) found (Ok None) is s again read =
      let going = still-going old.over (kind_for now.wanted) bytes old left s.acts (counts now) (Ok (Some found)) (λ e. cc) again s.read in
      trial-stands bytes new after at_line now s.acts is (none-here bytes old left line new after now s.acts going.1 (hands going.0) read) s.tells
  stands-by (foretold.BehindTrial at_line) found (Ok (Some act)) is s again read =
      let going = still-going old.over (kind_for now.wanted) bytes old left s.acts (counts now) (Ok (Some found)) (λ e. cc) again s.read in
      trial-acted at_line act (limit_fault (sizes_by now.wanted.large).commands act (changes_in now.batch now.asked) now.probes) is s going.1 (hands going.0) read refl
  stands-by (foretold.BehindFault at_line) found (Err text) is s again read =
      let at : HasFault bytes (faulted line.number (foretold.BehindFault at_line) now) = record { wrong = refl; fault = s.fault } in
      at
  stands-by (foretold.BehindFault at_line) found (Ok None) is s again read = fault-stands bytes new after at_line now is s
  stands-by (foretold.BehindFault at_line) found (Ok (Some act)) is s again read = fault-stands bytes new after at_line now is s
