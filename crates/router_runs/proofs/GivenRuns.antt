-- A run by what its source gave.
use Rattle.std.proofs.Common.{◌≢◌, ℕ, Option, Some, List, [], refl}
use Rattle.std.specs.List.{concat}
use Rattle.script_lines.specs.Given.{GivesPieces}
use Rattle.script_runs.specs.declared.Status.{Status}
use Rattle.script_runs.specs.declared.Status.TheVariants.{Usage}
use Rattle.script_runs.specs.Script.{Reading}
use Rattle.script_runs.proofs.Rounds.{EndsGiven, ends-told}
use Rattle.router.specs.declared.RouterAct.{RouterAct}
use Rattle.router.specs.Run.{DeviceSlots, Setting}
use Rattle.router.specs.Taken.{MadeOfBoth}
use Rattle.router_runs.specs.Runs.{router_kind}
use Rattle.router_runs.specs.Promise.{IsRouterPromisedByGiven}
use Rattle.router_runs.proofs.WholeRun.{carried, may-end}
use Rattle.router_runs.proofs.HitlessRuns.{hitless-run}

pub promised : (reading : Reading RouterAct) (setting : Setting) (slots : DeviceSlots) (status : Status) (given0 given1 : List (List ℕ)) (a b : Option (List ℕ)) (pieces : List (List ℕ)) (events : MadeOfBoth) (taken_old taken_new : Option (List ℕ))
    → status ≢ Usage → GivesPieces given0 given1 a b pieces → EndsGiven (router_kind reading setting slots) status pieces events taken_old taken_new
    → IsRouterPromisedByGiven reading setting slots status given0 given1 taken_old taken_new events
promised reading setting slots status given0 given1 a b pieces events taken_old taken_new other is ends = (
  pieces,
  is.given,
  λ left now may.
      let gp : GivesPieces [] pieces (Some left) (Some now) pieces = record { given = refl; taken = may.bytes; end = may.end } in
      let told = ends-told (router_kind reading setting slots) status [] pieces (Some left) (Some now) pieces events taken_old taken_new gp ends in
      let carries = carried reading setting slots status (Some left) (Some now) events taken_old taken_new (concat pieces, may.bytes) told in
      record {
        carried_out = carries;
        hitless = hitless-run reading setting slots status (Some left) (Some now) taken_old taken_new events carries;
        ends = may-end reading setting slots status (Some left) (Some now) events taken_old taken_new (concat pieces, may.bytes) other told;
      },
)
