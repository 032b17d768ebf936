-- What some command lines ask for, by computation.
use Rattle.std.proofs.Common.{◌≡◌, [], ◌∷◌, refl}
use Rattle.std.specs.Prelude.{⊤, codes}
use Rattle.clap.proofs.OnLiterals.{clap_on_literals}
use Rattle.driver_trace.specs.declared.Compared.TheVariants.{Answers, Results}
use Rattle.judge_cli.specs.CommandLine.{NoJob, Tells, Judges, judge_app, judge_job, judge_line, judge_top, results_flag}
use Rattle.judge_cli.specs.OwnTexts.{judge_help}

-- what a proof unfolds to compute what words ask for
unfoldable the_declaration : ⊤
unfolding clap_on_literals judge_line judge_top judge_app results_flag
the_declaration = tt

plain : judge_job (codes "tcam" ∷ codes "judge" ∷ []) ≡ Judges Answers
unfolding the_declaration
plain = refl

by-result : judge_job (codes "tcam" ∷ codes "judge" ∷ codes "--results" ∷ []) ≡ Judges Results
unfolding the_declaration
by-result = refl

twice : judge_job (codes "tcam" ∷ codes "judge" ∷ codes "--results" ∷ codes "--results" ∷ []) ≡ NoJob
unfolding the_declaration
twice = refl

a-file : judge_job (codes "tcam" ∷ codes "judge" ∷ codes "driver.trace" ∷ []) ≡ NoJob
unfolding the_declaration
a-file = refl

help : judge_job (codes "tcam" ∷ codes "judge" ∷ codes "--help" ∷ []) ≡ Tells judge_help
unfolding the_declaration
help = refl

another : judge_job (codes "tcam" ∷ codes "verify" ∷ []) ≡ NoJob
unfolding the_declaration
another = refl
