use Rattle.std.proofs.Common.{◌∙◌, ap, inl, inr, refl, map, string_bytes}
use Rattle.clap.specs.Simple.{is_simple}
use Rattle.clap.specs.Faults.{is_simple_and_free}
use Rattle.judge_cli.proofs.Words.{refused, simple, simple_and_free, taken, then_asked}
use Rattle.judge_cli.proofs.asked.read_words.Goals as goal

pub returns-in-Some-clause-asked : goal.returns-in-Some-clause-asked
returns-in-Some-clause-asked c =
    let is = c.in-Ok.ensures in
    let none = c.in-Ok-try_get_matches_from.ensures.kinds (ap is_simple_and_free is ∙ simple_and_free) in
    let rows = (c.in-Ok-try_get_matches_from.ensures.matches (ap is_simple is ∙ simple)).1 in
    taken _ (map string_bytes c.args.words.now) _ is none rows ∙ c.in-Some.ensures.asked

pub returns-in-Ok-try_get_matches_from-clause-usage : goal.returns-in-Ok-try_get_matches_from-clause-usage
returns-in-Ok-try_get_matches_from-clause-usage c = λ _.
    let is = c.in-Ok.ensures in
    let none = c.in-Ok-try_get_matches_from.ensures.kinds (ap is_simple_and_free is ∙ simple_and_free) in
    let rows = (c.in-Ok-try_get_matches_from.ensures.matches (ap is_simple is ∙ simple)).1 in
    taken _ (map string_bytes c.args.words.now) _ is none rows ∙ c.in-None.ensures.none refl

pub returns-clause-asked : goal.returns-clause-asked
returns-clause-asked c =
    let is = c.in-Ok.ensures in
    elim (c.in-Err-try_get_matches_from.ensures.kinds (ap is_simple_and_free is ∙ simple_and_free)) [
      | inl memory ↦ rw (c.job_of_error.ensures.memory memory) tt
      | inr among ↦ then_asked c.job_of_error.result _ _ (refused _ (map string_bytes c.args.words.now) _ is among) c.job_of_error.ensures.asked
    ]

pub returns-clause-usage : goal.returns-clause-usage
returns-clause-usage c =
    let is = c.in-Ok.ensures in
    λ e. elim (c.in-Err-try_get_matches_from.ensures.kinds (ap is_simple_and_free is ∙ simple_and_free)) [
      | inl memory ↦
          let bad = rw (c.job_of_error.ensures.memory memory) at e in
          cc
      | inr among ↦ refused _ (map string_bytes c.args.words.now) _ is among ∙ c.job_of_error.ensures.usage e
    ]
