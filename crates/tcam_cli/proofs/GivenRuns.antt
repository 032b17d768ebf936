-- A run by what its source gave.
use Rattle.std.proofs.Common.{◌≡◌, ◌≢◌, inl, inr, ℕ, Option, Some, Result, List, [], ◌++◌, refl, ap, sym, append-nil, subst}
use Rattle.std.specs.List.{concat}
use Rattle.script_lines.specs.declared.Line.{Line}
use Rattle.script_lines.specs.declared.LineFault.{LineFault}
use Rattle.script_lines.specs.Given.{MayGive, GivesPieces}
use Rattle.script_lines.specs.Reader.{HeldBytes, HandsByGiven}
use Rattle.script_runs.specs.declared.Status.{Status}
use Rattle.script_runs.specs.declared.Status.TheVariants.{Done, Memory, Usage}
use Rattle.script_runs.specs.Rounds.{SoFar, EndsRun, Closes, RoundsBy, WantsNext, Grows, outputs}
use Rattle.script_runs.proofs.Rounds.{EndsGiven, ends-told, rounds-some}
use Rattle.tcam_device.specs.declared.Action.{Action}
use Rattle.replay.specs.declared.RunFault.{RunFault}
use Rattle.replay.specs.declared.RunFault.TheVariants as run_fault
use Rattle.replay.specs.Effects.{Setting}
use Rattle.replay.specs.Run.{Progress}
use Rattle.tcam_cli.specs.Headline.{Job, NoJob, Tells, Reads, IsCarriedOut, MayEnd, run_kind}
use Rattle.tcam_cli.specs.OwnTexts.{OwnText}
use Rattle.tcam_cli.specs.Rounds.{status_of_fault}
use Rattle.tcam_cli.specs.Given.{IsPromisedByGiven}
use Rattle.tcam_cli.proofs.WholeRun.{carried, may-end}
use Rattle.tcam_cli.proofs.HitlessRuns.{hitless-job}

-- a round that ends the run at an act
pub rounds-stopped : (setting : Setting) (slots : ℕ) (old : HeldBytes) (before : Progress) (pieces : List (List ℕ)) (answer : Result (Option Line) LineFault) (held : HeldBytes) (why : RunFault) (new : HeldBytes) (after : Progress) (events_old events_new : List Action) (taken_old taken_new : Option (List ℕ))
    → HandsByGiven old pieces answer held
    → ((bytes left now : List ℕ) (start : Option (List ℕ)) → MayGive left pieces now → SoFar (run_kind setting slots) bytes old left before events_old start taken_old → Grows (λ first second. first ++ second) events_old events_new taken_old taken_new)
    → ((bytes taken left now : List ℕ) (start : Option (List ℕ)) → MayGive left pieces now → bytes ≡ taken ++ now → SoFar (run_kind setting slots) bytes old left before events_old start taken_old → EndsRun (run_kind setting slots) bytes taken now (status_of_fault why) events_new start taken_new)
    → (why ≡ run_fault.Memory → (bytes left now : List ℕ) (start : Option (List ℕ)) → MayGive left pieces now → (s : SoFar (run_kind setting slots) bytes old left before events_old start taken_old) → WantsNext (run_kind setting slots) s.acts bytes before events_old events_new taken_old taken_new)
    → RoundsBy (run_kind setting slots) old before pieces (Some (status_of_fault why)) new after (outputs events_old taken_old) (outputs events_new taken_new)
rounds-stopped setting slots old before pieces answer held why new after events_old events_new taken_old taken_new by grows ends wants =
    rounds-some (run_kind setting slots) old before pieces answer held (status_of_fault why) new after events_old events_new taken_old taken_new by grows ends (λ e. wants (is-memory why e))
  where
    is-memory : (why : RunFault) → Some (status_of_fault why) ≡ Some Memory → why ≡ run_fault.Memory
    is-memory run_fault.Memory e = refl
    is-memory run_fault.Sink e = absurd (cc)
    is-memory run_fault.Device e = absurd (cc)

-- the promise of a script by what was given
pub promised : (setting : Setting) (slots : ℕ) (status : Status) (given0 given1 : List (List ℕ)) (a b : Option (List ℕ)) (pieces : List (List ℕ)) (events : List Action) (taken_old taken_new : Option (List ℕ))
    → status ≢ Usage → GivesPieces given0 given1 a b pieces → EndsGiven (run_kind setting slots) status pieces events taken_old taken_new
    → IsPromisedByGiven (Reads setting) slots status given0 given1 taken_old taken_new events
promised setting slots status given0 given1 a b pieces events taken_old taken_new other is ends = (
  pieces,
  is.given,
  λ left now may.
      let gp : GivesPieces [] pieces (Some left) (Some now) pieces = record { given = refl; taken = may.bytes; end = may.end } in
      let told = ends-told (run_kind setting slots) status [] pieces (Some left) (Some now) pieces events taken_old taken_new gp ends in
      let carries = carried setting slots status (Some left) (Some now) events taken_old taken_new (concat pieces, may.bytes) told in
      record {
        carried_out = carries;
        hitless = hitless-job (Reads setting) slots status (Some left) (Some now) taken_old taken_new events carries;
        ends = may-end setting slots status (Some left) (Some now) events taken_old taken_new (concat pieces, may.bytes) other told;
      },
)

-- ---- a job that reads nothing

may-none : (left now : List ℕ) → MayGive left [] now → Some left ≡ Some now
may-none left now may = ap Some may.bytes

pub promised-none : (job : Job) (slots : ℕ) (status : Status) (given : List (List ℕ)) (taken_old taken_new : Option (List ℕ)) (events : List Action)
    → ((left : Option (List ℕ)) → IsCarriedOut job slots status left left taken_old taken_new events) → ((left : Option (List ℕ)) → MayEnd status job left)
    → IsPromisedByGiven job slots status given given taken_old taken_new events
promised-none job slots status given taken_old taken_new events carries ends = (
  [],
  sym (append-nil given),
  λ left now may.
      let same = may-none left now may in
      let here = subst (λ n. IsCarriedOut job slots status (Some left) n taken_old taken_new events) same (carries (Some left)) in
      record { carried_out = here; hitless = hitless-job job slots status (Some left) (Some now) taken_old taken_new events here; ends = ends (Some left) },
)

pub may-tell : (own : OwnText) (line : List ℕ) (result : Status) (before after : Option (List ℕ)) (left : Option (List ℕ)) → Closes line Done result before after → MayEnd result (Tells own) left
may-tell own line result before after left (inl (e, whole)) = subst (λ s. MayEnd s (Tells own) left) (sym e) ([], refl)
may-tell own line result before after left (inr (e, part)) = subst (λ s. MayEnd s (Tells own) left) (sym e) tt

pub may-usage : (line : List ℕ) (result : Status) (before after : Option (List ℕ)) (left : Option (List ℕ)) → Closes line Usage result before after → MayEnd result NoJob left
may-usage line result before after left (inl (e, whole)) = subst (λ s. MayEnd s NoJob left) (sym e) refl
may-usage line result before after left (inr (e, part)) = subst (λ s. MayEnd s NoJob left) (sym e) tt
