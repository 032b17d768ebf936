-- What words ask for, by what clap made of them.
use Rattle.std.proofs.Common.{◌≡◌, ◌∙◌, refl, sym, ap, subst, true, List, [], ◌∷◌, Option, inl, inr}
use Rattle.std.specs.Prelude.{IfOk, Ok, Err, Result}
use Rattle.clap.specs.Walk.{Row, Text, nothing_held}
use Rattle.clap.specs.Simple.{App, argument_words, built, is_simple, subcommand_of, subcommand_rows_of}
use Rattle.clap.specs.Faults.{fault_of, is_simple_and_free}
use Rattle.clap.specs.Kinds.{Kinds, IsAmong}
use Rattle.clap.specs.declared.error.kind.ErrorKind.{ErrorKind}
use Rattle.clap.specs.declared.parser.matches.ArgMatches.{ArgMatches}
use Rattle.clap.proofs.OnLiterals.{clap_on_literals}
use Rattle.option_words.specs.declared.WordsFault.{WordsFault}
use Rattle.option_words.specs.Options.{large_flag, placement_option, ranges_option, slots_option, trace_flag}
use Rattle.option_words.proofs.ClearFaults.{Clear, built-clear}
use Rattle.router_cli.specs.declared.command_line.RouterAsked.{RouterAsked}
use Rattle.router_cli.specs.CommandLine.{RouterJob, router_job_by_faults, router_job_of, router_job_of_fault, router_app, router_job, router_line, router_top}
use Rattle.router_cli.specs.Asked.{router_asked_by}

pub simple_and_free : is_simple_and_free router_line ≡ true
unfolding clap_on_literals router_line router_top router_app slots_option ranges_option placement_option trace_flag large_flag
simple_and_free = refl

pub simple : is_simple router_line ≡ true
unfolding clap_on_literals router_line router_top router_app slots_option ranges_option placement_option trace_flag large_flag
simple = refl

-- the job by such kinds is that of the kind that came
fault_job : (ks : Kinds) (sub : Option (Text × List Row)) (k : ErrorKind) → Clear ks → IsAmong k ks → router_job_by_faults ks sub ≡ router_job_of_fault k
fault_job [] sub k clear among = absurd among
fault_job (a ∷ []) sub k clear (inl e) = ap router_job_of_fault (sym e)
fault_job (a ∷ []) sub k clear (inr none) = absurd none
fault_job (a ∷ b ∷ ks) sub k clear (inl e) = sym (ap router_job_of_fault (e ∙ clear.0))
fault_job (a ∷ b ∷ ks) sub k clear (inr (inl e)) = sym (ap router_job_of_fault (e ∙ clear.1))
fault_job (a ∷ b ∷ ks) sub k clear (inr (inr more)) = absurd (subst (IsAmong k) clear.2 more)

line-clear : (words : List Text) → Clear (fault_of router_line words)
unfolding router_line router_top router_app slots_option ranges_option placement_option trace_flag large_flag
line-clear words = built-clear (built router_line) nothing_held (argument_words router_line words) refl (refl, (refl, tt))

pub taken : (a : App) (words : List Text) (m : ArgMatches) → a ≡ router_line → fault_of a words ≡ [] → subcommand_rows_of m ≡ subcommand_of a words
    → router_job words ≡ router_job_of (subcommand_rows_of m)
taken a words m is none rows =
    let free = ap (λ (x : App). fault_of x words) (sym is) ∙ none in
    ap (λ ks. router_job_by_faults ks (subcommand_of router_line words)) free
    ∙ ap router_job_of (ap (λ (x : App). subcommand_of x words) (sym is) ∙ sym rows)

pub refused : (a : App) (words : List Text) (k : ErrorKind) → a ≡ router_line → IsAmong k (fault_of a words) → router_job words ≡ router_job_of_fault k
refused a words k is among =
    fault_job (fault_of router_line words) (subcommand_of router_line words) k (line-clear words) (subst (λ (x : App). IsAmong k (fault_of x words)) is among)

-- an answer that names a job
pub then_asked : (r : Result RouterAsked WordsFault) (x y : RouterJob) → y ≡ x → IfOk r (λ job. x ≡ router_asked_by job) → IfOk r (λ job. y ≡ router_asked_by job)
then_asked (Ok job) x y is h = is ∙ h
then_asked (Err e) x y is h = tt
