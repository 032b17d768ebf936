-- The check of a trace by what its source gave.
use Rattle.std.proofs.Common.{◌≡◌, ℕ, Option, Some, List, [], refl}
use Rattle.script_lines.specs.Given.{GivesPieces}
use Rattle.tcam_device.specs.declared.Action.{Action}
use Rattle.script_runs.specs.declared.Status.{Status}
use Rattle.tcam_cli.specs.Headline.{Verifies}
use Rattle.tcam_cli.specs.Given.{IsPromisedByGiven}
use Rattle.tcam_cli.proofs.Checks.{ShownAlways, checked-carried, checked-ends}
use Rattle.tcam_cli.proofs.HitlessRuns.{hitless-job}

pub checked-promised : (slots : ℕ) (status : Status) (given0 given1 : List (List ℕ)) (a b : Option (List ℕ)) (pieces : List (List ℕ)) (before now : Option (List ℕ)) (events : List Action) → events ≡ []
    → GivesPieces given0 given1 a b pieces → ShownAlways status pieces before now → IsPromisedByGiven Verifies slots status given0 given1 before now events
checked-promised slots status given0 given1 a b pieces before now events blank is shows = (
  pieces,
  is.given,
  λ left after may.
      let gp : GivesPieces [] pieces (Some left) (Some after) pieces = record { given = refl; taken = may.bytes; end = may.end } in
      let carries = checked-carried slots status [] pieces (Some left) (Some after) pieces before now events blank gp shows in
      record {
        carried_out = carries;
        hitless = hitless-job Verifies slots status (Some left) (Some after) before now events carries;
        ends = checked-ends status [] pieces (Some left) (Some after) pieces before now gp shows;
      },
)
