-- What the answers of the routes are that stand.
use Rattle.std.specs.Prelude.{◌≡◌, ◌≤◌, Bool, false, Option, Some, None, List, [], All, Contains}
use Rattle.rule_model.specs.AddressBlock.{AddressBlock, same_block}
use Rattle.ip_routes.specs.Reading.{RouteReading}
use Rattle.ip_monitor.specs.declared.ranks.Ranked.{Ranked}
use Rattle.ip_monitor.specs.Ranks.{least_of}
use Rattle.ip_monitor.specs.Standings.{ranks_of}
use Rattle.ip_monitor.specs.Telling.{Known, known_after, ranks_after}

-- what a prefix is answered: its route of least metric
abbrev pub answer_of : Known → AddressBlock → Option Ranked
answer_of known block = least_of (ranks_of block known.standings)

-- a route is among these, and none of them has a lesser metric; or there is none
abbrev pub IsLeast : List Ranked → Option Ranked → Type 0
IsLeast ranks None = ranks ≡ []
IsLeast ranks (Some least) = Contains ranks least × All (λ rank. least.metric ≤ rank.metric) ranks

-- The law: each prefix is answered its route of least metric, if it has one; behind an event its own prefix is answered what the
-- event writes, and every other prefix what it was before.
pub record LeastCounts : Type 0 where
  pub least : (known : Known) (block : AddressBlock) → IsLeast (ranks_of block known.standings) (answer_of known block)
  pub written : (known : Known) (gone : Bool) (route : RouteReading) → answer_of (known_after known gone route) route.block ≡ least_of (ranks_after known gone route)
  pub kept : (known : Known) (gone : Bool) (route : RouteReading) (other : AddressBlock) → same_block other route.block ≡ false
      → answer_of (known_after known gone route) other ≡ answer_of known other
