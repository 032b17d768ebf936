-- The pairs (upper, lower) of an overlap graph, each in a place of its own.
use Rattle.std.specs.Prelude.{◌≡◌, ◌≢◌, ◌<◌, ◌≤◌, ◌+◌, ℕ, Bool, ◌==◌, ◌||◌, ◌⊎◌, if◌then◌else◌, List, Option, Some, None, Contains, length, is_none, is_some, count_by, slice_index_or, slice_set}
use Rattle.slot_order.specs.Order.{most_slots}
use Rattle.order_chains.specs.declared.node.Node.{Node}
use Rattle.order_chains.specs.declared.chains.Side.TheVariants.{Below, Above}
use Rattle.order_chains.specs.Nodes.{node_at}
use Rattle.order_chains.specs.Chains.{next_at, back_at}
use Rattle.order_chains.specs.Lists.{AreLists}

abbrev pub Pair : Type 0
Pair = ℕ × ℕ

-- the number that ids are below, and what each place holds: a pair or nothing
pub record Pairs : Type 0 where
  pub ids : ℕ
  pub places : List (Option Pair)

abbrev pub held : Pairs → ℕ → Option Pair
held e k = slice_index_or e.places k None

-- the pair of the two is there
abbrev pub HasPair : Pairs → ℕ → ℕ → Type 0
HasPair e upper lower = Contains e.places (Some (upper, lower))

-- how many pairs are there, and how many more have room
abbrev pub pairs_of : Pairs → ℕ
pairs_of e = count_by is_some e.places

abbrev pub spare_of : Pairs → ℕ
spare_of e = count_by is_none e.places

-- pairs of two different ids, and no pair twice
pub record AreDistinct (ids : ℕ) (places : List (Option Pair)) : Type 0 where
  pub ends : (k upper lower : ℕ) → slice_index_or places k None ≡ Some (upper, lower) → (upper < ids) × (lower < ids) × (upper ≢ lower)
  pub once : (j k : ℕ) (pair : Pair) → slice_index_or places j None ≡ Some pair → slice_index_or places k None ≡ Some pair → j ≡ k

-- one place that was empty holds the pair, and all else is as before
abbrev pub IsLinked : List (Option Pair) → List (Option Pair) → Pair → Type 0
IsLinked old new pair = (k : ℕ) × (k < length old) × (slice_index_or old k None ≡ None) × (new ≡ slice_set old k (Some pair))

-- the pair has this end
abbrev pub has_end : ℕ → Pair → Bool
has_end id pair = pair.0 == id || pair.1 == id

-- what a place holds once the pairs with this end are gone
abbrev pub without : ℕ → Option Pair → Option Pair
without id None = None
without id (Some pair) = if has_end id pair then None else Some pair

-- the ends of the node at a place; that of an empty one are the number of ids
abbrev pub upper_at : List Node → ℕ → ℕ
upper_at ns p = (node_at ns p).upper

abbrev pub lower_at : List Node → ℕ → ℕ
lower_at ns p = (node_at ns p).lower

-- the node at a place gets other ends
abbrev pub with_ends : List Node → ℕ → ℕ → ℕ → List Node
with_ends ns p upper lower = slice_set ns p (record { upper = upper; lower = lower; below = (node_at ns p).below; above = (node_at ns p).above })

-- the pair of a node, if its place isn't empty
abbrev pub pair_of : ℕ → Node → Option Pair
pair_of ids n = if n.upper == ids then None else Some (n.upper, n.lower)

-- the ends of a free node, or two different ids
abbrev pub AreEnds : ℕ → ℕ → ℕ → Type 0
AreEnds ids upper lower = ((upper ≡ ids) × (lower ≡ ids)) ⊎ ((upper < ids) × (lower < ids) × (upper ≢ lower))

-- The nodes are members of the lists of their ends, and free ones of the below list of the number of ids; of the
-- below lists those below `len` are.
pub record AreChains (ids : ℕ) (ns : List Node) (below above : List ℕ) (len : ℕ) : Type 0 where
  pub size : (1 ≤ ids) × (ids ≤ most_slots) × (length ns < 4294967296)
  pub heads : (length below ≡ ids + 1) × (length above ≡ ids)
  pub downs : AreLists (next_at Below ns) (back_at Below ns) (upper_at ns) below len
  pub ups : AreLists (next_at Above ns) (back_at Above ns) (lower_at ns) above (length ns)
  pub ends : (p : ℕ) → p < length ns → AreEnds ids (upper_at ns p) (lower_at ns p)
  pub once : (p q : ℕ) → p < length ns → q < length ns → upper_at ns p < ids → upper_at ns p ≡ upper_at ns q → lower_at ns p ≡ lower_at ns q → p ≡ q
