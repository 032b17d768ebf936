-- What words ask for, by what clap made of them.
use Rattle.std.proofs.Common.{◌≡◌, ◌∙◌, refl, sym, ap, subst, true, List, [], ◌∷◌, Option, inl, inr}
use Rattle.std.specs.Prelude.{IfOk, Ok, Err, Result}
use Rattle.clap.specs.Walk.{Row, Text, nothing_held}
use Rattle.clap.specs.Simple.{App, argument_words, built, is_simple, subcommand_of, subcommand_rows_of}
use Rattle.clap.specs.Faults.{fault_of, is_simple_and_free}
use Rattle.clap.specs.Kinds.{Kinds, IsAmong}
use Rattle.clap.specs.declared.error.kind.ErrorKind.{ErrorKind}
use Rattle.clap.specs.declared.parser.matches.ArgMatches.{ArgMatches}
use Rattle.clap.proofs.OnLiterals.{clap_on_literals}
use Rattle.tcam_cli.specs.declared.own_texts.Topic.{Topic}
use Rattle.tcam_cli.specs.declared.command_line.Asked.{Asked}
use Rattle.option_words.specs.declared.WordsFault.{WordsFault}
use Rattle.option_words.specs.Options.{large_flag, number_position, placement_option, ranges_option, slots_option, trace_flag}
use Rattle.tcam_cli.specs.CommandLine.{job_by_faults, job_of, job_of_fault, acl_app, depth_option, gen_app, route_app, tcam_app, tcam_top, json_flag, names_flag, removals_option, verify_app, topic_in}
use Rattle.tcam_cli.specs.Asked.{asked_by, tested_job}
use Rattle.tcam_cli.specs.Headline.{Job}
use Rattle.tcam_cli.proofs.NumbersTaken.{tested}
use Rattle.option_words.proofs.ClearFaults.{Clear, built-clear}

pub simple_and_free : is_simple_and_free tcam_app ≡ true
unfolding clap_on_literals tcam_app tcam_top route_app acl_app gen_app slots_option ranges_option placement_option trace_flag large_flag json_flag names_flag removals_option depth_option number_position verify_app
simple_and_free = refl

pub simple : is_simple tcam_app ≡ true
unfolding clap_on_literals tcam_app tcam_top route_app acl_app gen_app slots_option ranges_option placement_option trace_flag large_flag json_flag names_flag removals_option depth_option number_position verify_app
simple = refl

-- the job by such kinds is that of the kind that came
fault_job : (topic : Option Topic) (ks : Kinds) (sub : Option (Text × List Row)) (k : ErrorKind) → Clear ks → IsAmong k ks
    → job_by_faults topic ks sub ≡ job_of_fault topic k
fault_job topic [] sub k clear among = absurd among
fault_job topic (a ∷ []) sub k clear (inl e) = ap (job_of_fault topic) (sym e)
fault_job topic (a ∷ []) sub k clear (inr none) = absurd none
fault_job topic (a ∷ b ∷ ks) sub k clear (inl e) = sym (ap (job_of_fault topic) (e ∙ clear.0))
fault_job topic (a ∷ b ∷ ks) sub k clear (inr (inl e)) = sym (ap (job_of_fault topic) (e ∙ clear.1))
fault_job topic (a ∷ b ∷ ks) sub k clear (inr (inr more)) = absurd (subst (IsAmong k) clear.2 more)

tcam-clear : (words : List Text) → Clear (fault_of tcam_app words)
unfolding tcam_app tcam_top route_app acl_app gen_app slots_option ranges_option placement_option trace_flag large_flag json_flag names_flag removals_option depth_option number_position verify_app
tcam-clear words = built-clear (built tcam_app) nothing_held (argument_words tcam_app words) refl (refl, (refl, (refl, (refl, (refl, (refl, tt))))))

pub taken : (a : App) (words : List Text) (m : ArgMatches) → a ≡ tcam_app → fault_of a words ≡ [] → subcommand_rows_of m ≡ subcommand_of a words
    → job_of words ≡ tested_job (subcommand_rows_of m)
taken a words m is none rows =
    let free = ap (λ (x : App). fault_of x words) (sym is) ∙ none in
    ap (λ ks. job_by_faults (topic_in words) ks (subcommand_of tcam_app words)) free ∙ tested words free (subcommand_of tcam_app words) refl
    ∙ ap tested_job (ap (λ (x : App). subcommand_of x words) (sym is) ∙ sym rows)

pub refused : (a : App) (words : List Text) (topic : Option Topic) (k : ErrorKind) → a ≡ tcam_app → topic ≡ topic_in words → IsAmong k (fault_of a words)
    → job_of words ≡ job_of_fault topic k
refused a words topic k is whose among =
    fault_job (topic_in words) (fault_of tcam_app words) (subcommand_of tcam_app words) k (tcam-clear words) (subst (λ (x : App). IsAmong k (fault_of x words)) is among)
    ∙ ap (λ t. job_of_fault t k) (sym whose)

-- an answer that names a job
pub then_asked : (r : Result Asked WordsFault) (x y : Job) → y ≡ x → IfOk r (λ job. x ≡ asked_by job) → IfOk r (λ job. y ≡ asked_by job)
then_asked (Ok job) x y is h = is ∙ h
then_asked (Err e) x y is h = tt
