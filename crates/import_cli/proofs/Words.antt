-- What words ask for, by what clap made of them.
use Rattle.std.proofs.Common.{◌≡◌, ◌∙◌, refl, sym, ap, subst, true, List, [], ◌∷◌, Option, inl, inr}
use Rattle.std.specs.Prelude.{IfOk, Ok, Err, Result}
use Rattle.clap.specs.Walk.{Row, Text, nothing_held}
use Rattle.clap.specs.Simple.{App, argument_words, built, is_simple, subcommand_of, subcommand_rows_of}
use Rattle.clap.specs.Faults.{fault_of, is_simple_and_free}
use Rattle.clap.specs.Kinds.{Kinds, IsAmong}
use Rattle.clap.specs.declared.error.kind.ErrorKind.{ErrorKind}
use Rattle.clap.specs.declared.parser.matches.ArgMatches.{ArgMatches}
use Rattle.clap.proofs.OnLiterals.{clap_on_literals}
use Rattle.option_words.specs.declared.WordsFault.{WordsFault}
use Rattle.option_words.proofs.ClearFaults.{Clear, built-clear}
use Rattle.import_cli.specs.declared.asked.Asked.{Asked}
use Rattle.import_cli.specs.CommandLine.{ImportJob, asked_by, chain_option, format_position, import_app, import_job, import_job_by_faults, import_job_of, import_job_of_fault, import_line, import_top, in_option, leave_out_flag, list_option, since_option, version_option}

pub simple_and_free : is_simple_and_free import_line ≡ true
unfolding clap_on_literals import_line import_top import_app format_position version_option leave_out_flag list_option chain_option in_option since_option
simple_and_free = refl

pub simple : is_simple import_line ≡ true
unfolding clap_on_literals import_line import_top import_app format_position version_option leave_out_flag list_option chain_option in_option since_option
simple = refl

-- the job by such kinds is that of the kind that came
fault_job : (ks : Kinds) (sub : Option (Text × List Row)) (k : ErrorKind) → Clear ks → IsAmong k ks → import_job_by_faults ks sub ≡ import_job_of_fault k
fault_job [] sub k clear among = absurd among
fault_job (a ∷ []) sub k clear (inl e) = ap import_job_of_fault (sym e)
fault_job (a ∷ []) sub k clear (inr none) = absurd none
fault_job (a ∷ b ∷ ks) sub k clear (inl e) = sym (ap import_job_of_fault (e ∙ clear.0))
fault_job (a ∷ b ∷ ks) sub k clear (inr (inl e)) = sym (ap import_job_of_fault (e ∙ clear.1))
fault_job (a ∷ b ∷ ks) sub k clear (inr (inr more)) = absurd (subst (IsAmong k) clear.2 more)

line-clear : (words : List Text) → Clear (fault_of import_line words)
unfolding import_line import_top import_app format_position version_option leave_out_flag list_option chain_option in_option since_option
line-clear words = built-clear (built import_line) nothing_held (argument_words import_line words) refl (refl, tt)

pub taken : (a : App) (words : List Text) (m : ArgMatches) → a ≡ import_line → fault_of a words ≡ [] → subcommand_rows_of m ≡ subcommand_of a words
    → import_job words ≡ import_job_of (subcommand_rows_of m)
taken a words m is none rows =
    let free = ap (λ (x : App). fault_of x words) (sym is) ∙ none in
    ap (λ ks. import_job_by_faults ks (subcommand_of import_line words)) free
    ∙ ap import_job_of (ap (λ (x : App). subcommand_of x words) (sym is) ∙ sym rows)

pub refused : (a : App) (words : List Text) (k : ErrorKind) → a ≡ import_line → IsAmong k (fault_of a words) → import_job words ≡ import_job_of_fault k
refused a words k is among =
    fault_job (fault_of import_line words) (subcommand_of import_line words) k (line-clear words) (subst (λ (x : App). IsAmong k (fault_of x words)) is among)

-- an answer that names a job
pub then_asked : (r : Result Asked WordsFault) (x y : ImportJob) → y ≡ x → IfOk r (λ job. x ≡ asked_by job) → IfOk r (λ job. y ≡ asked_by job)
then_asked (Ok job) x y is h = is ∙ h
then_asked (Err e) x y is h = tt
