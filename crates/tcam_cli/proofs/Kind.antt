-- The runs of a setting as a kind of runs: what the lemmas of script_runs ask of them.
use Rattle.std.proofs.Common.{ℕ, Option, List, ◌++◌, refl, append_assoc, append-nil}
use Rattle.script_runs.specs.Rounds as rounds
use Rattle.script_runs.specs.Rounds.{Grows}
use Rattle.script_runs.proofs.Joined.{AreJoined, does-grows}
use Rattle.tcam_device.specs.declared.Action.{Action}
use Rattle.replay.specs.Effects.{Setting, Effect, Prints, events_in, printed}
use Rattle.replay.specs.Carried.{Does}
use Rattle.replay.proofs.lines.Effects.{events-append, printed-append}
use Rattle.tcam_cli.specs.Headline.{run_kind}

pub joins : AreJoined Prints printed events_in (λ first second. first ++ second)
joins = record {
  assoc = λ first second third. append_assoc first second third;
  none = λ events. append-nil events;
  events_append = events-append;
  events_line = λ text. refl;
  printed_append = printed-append;
  printed_line = λ text. append-nil text;
}

module _ (setting : Setting) (slots : ℕ) (effects : List Effect) (partial : List ℕ) (events_old events_new : List Action) (taken_old taken_new : Option (List ℕ))
    (does : Does effects partial events_old events_new taken_old taken_new) where
  pub does-of : rounds.Does (run_kind setting slots) effects partial events_old events_new taken_old taken_new
  does-of = record { events = does.events; report = does.report }

  pub grows-of : Grows (λ first second. first ++ second) events_old events_new taken_old taken_new
  grows-of = does-grows (run_kind setting slots) joins effects partial events_old events_new taken_old taken_new does-of
