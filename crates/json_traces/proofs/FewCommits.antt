-- A run makes two commits at most for each act.
use Rattle.std.proofs.Common.{◌≡◌, Bool, true, false, ℕ, ◌+◌, ◌≤◌, List, [], ◌∷◌, length, ap, arith}
use Rattle.rule_store.specs.Verdict.{Verdict, Accepted, Unsound, OutOfBits, OutOfSlots}
use Rattle.replay.specs.declared.Act.{Act}
use Rattle.replay.specs.declared.Act.TheVariants.{Command, Ask, All, Probe, Packet, Commit, Trial, Crash}
use Rattle.replay.specs.Effects.{Setting, Effect}
use Rattle.replay.specs.Run.{Progress, Commits, Judged, pending_verdict, settled_at}
use Rattle.replay.specs.Early.{at_first, at_rest, parts_at}
use Rattle.report_lines.specs.Text.{family_version}
use Rattle.tcam_cli.specs.InTwo.{CommitsBy, RunBy}
use Rattle.json_traces.specs.Traces.{AreTraceActs}

-- ---- there are no more commits than acts

judged_commits : (asked : Setting) (old : Progress) (is : Verdict) (front : List Effect) (mid : Progress) → Judged Commits asked old is front mid → mid.commits ≡ old.commits + 1
judged_commits asked old Accepted front mid step = ap (λ (p : Progress). p.commits) step.after
judged_commits asked old (Unsound why) front mid step = ap (λ (p : Progress). p.commits) step.1
judged_commits asked old (OutOfBits field needed free) front mid step = ap (λ (p : Progress). p.commits) step.1
judged_commits asked old (OutOfSlots needed free) front mid step = ap (λ (p : Progress). p.commits) step.1

-- one or two for each
committed_few : (asked : Setting) (in_two : Bool) (old : Progress) (front : List Effect) (mid : Progress) → CommitsBy in_two asked old front mid → mid.commits ≤ old.commits + 2
committed_few asked false old front mid step = let same = judged_commits asked (settled_at old) (pending_verdict asked old) front mid step in omega arith
committed_few asked true old front mid two =
    let one = judged_commits asked (settled_at (at_first old)) (pending_verdict asked (at_first old)) two.first two.middle two.early in
    let last = at_rest old two.middle in
    let other = judged_commits asked (settled_at last) (pending_verdict asked last) two.second mid two.rest in
    omega (arith, one, other)

pub few_commits : (asked : Setting) (acts : List Act) (pending : ℕ) (old : Progress) (effects : List Effect) (new : Progress) → AreTraceActs (family_version asked.family) pending acts → RunBy asked old acts effects new → new.commits ≤ old.commits + (length acts + length acts)
few_commits asked [] pending old effects new told run = let same = ap (λ (p : Progress). p.commits) run.1 in omega arith
few_commits asked (Command change ∷ acts) pending old effects new told (front, mid, back, step, run, are) =
    let same = ap (λ (p : Progress). p.commits) step.1 in let later = few_commits asked acts (pending + 1) mid back new told.2 run in omega arith
few_commits asked (Ask request ∷ acts) pending old effects new told (front, mid, back, step, run, are) =
    let same = ap (λ (p : Progress). p.commits) step.1 in let later = few_commits asked acts (pending + 1) mid back new told.2 run in omega arith
few_commits asked (All ∷ acts) pending old effects new told (front, mid, back, step, run, are) =
    let same = ap (λ (p : Progress). p.commits) step.1 in let later = few_commits asked acts 0 mid back new told run in omega arith
few_commits asked (Probe key ∷ acts) pending old effects new told (front, mid, back, step, run, are) =
    let same = ap (λ (p : Progress). p.commits) step.1 in let later = few_commits asked acts pending mid back new told run in omega arith
few_commits asked (Packet key ∷ acts) pending old effects new told (front, mid, back, step, run, are) =
    let same = ap (λ (p : Progress). p.commits) step.1 in let later = few_commits asked acts pending mid back new told run in omega arith
few_commits asked (Commit ∷ acts) pending old effects new told (front, mid, back, step, run, are) =
    let same = committed_few asked (parts_at asked old) old front mid step in let later = few_commits asked acts 0 mid back new told run in omega arith
few_commits asked (Trial most ∷ acts) pending old effects new told run = absurd told
few_commits asked (Crash after ∷ acts) pending old effects new told run = absurd told
