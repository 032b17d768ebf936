-- The routes of one prefix, by their metrics.
use Rattle.std.specs.Prelude.{ℕ, Bool, not, ◌==◌, nat_lt, Option, Some, None, List, [], ◌∷◌, filter, fold, if◌then◌else◌}
use Rattle.ip_monitor.specs.declared.ranks.Ranked.{Ranked}

-- the number of the route of this metric
abbrev pub number_at : ℕ → List Ranked → Option ℕ
number_at metric [] = None
number_at metric (rank ∷ ranks) = if rank.metric == metric then Some rank.number else number_at metric ranks

-- the routes of other metrics
abbrev pub differs : ℕ → Ranked → Bool
differs metric rank = not (rank.metric == metric)

abbrev pub others : ℕ → List Ranked → List Ranked
others metric ranks = filter (differs metric) ranks

-- the one of least metric, the first of equals
abbrev pub lesser : Ranked → Ranked → Ranked
lesser first second = if nat_lt second.metric first.metric then second else first

abbrev pub least_of : List Ranked → Option Ranked
least_of [] = None
least_of (rank ∷ ranks) = Some (fold lesser rank ranks)
