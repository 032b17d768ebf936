-- The links of a list of nodes.
use Rattle.std.specs.Prelude.{ℕ, List, ◌==◌, if◌then◌else◌, slice_set}
use Rattle.order_chains.specs.declared.node.Link.{Link}
use Rattle.order_chains.specs.declared.node.Node.{Node}
use Rattle.order_chains.specs.declared.chains.Side.{Side}
use Rattle.order_chains.specs.declared.chains.Side.TheVariants.{Below, Above}
use Rattle.order_chains.specs.Nodes.{node_at}

-- no place
abbrev pub nil : ℕ
nil = 4294967295

abbrev pub link_of : Side → Node → Link
link_of Below n = n.below
link_of Above n = n.above

abbrev pub with_link : Side → Node → Link → Node
with_link Below n l = record { upper = n.upper; lower = n.lower; below = l; above = n.above }
with_link Above n l = record { upper = n.upper; lower = n.lower; below = n.below; above = l }

-- the places after and before one
abbrev pub next_at : Side → List Node → ℕ → ℕ
next_at side ns p = (link_of side (node_at ns p)).next

abbrev pub back_at : Side → List Node → ℕ → ℕ
back_at side ns p = (link_of side (node_at ns p)).back

-- at no place nothing is written
abbrev pub with_next : Side → List Node → ℕ → ℕ → List Node
with_next side ns p v = if p == nil then ns else slice_set ns p (with_link side (node_at ns p) (record { next = v; back = back_at side ns p }))

abbrev pub with_back : Side → List Node → ℕ → ℕ → List Node
with_back side ns p v = if p == nil then ns else slice_set ns p (with_link side (node_at ns p) (record { next = next_at side ns p; back = v }))

-- the node at p is put before the one at `first`
abbrev pub pushed : Side → List Node → ℕ → ℕ → List Node
pushed side ns p first = with_back side (slice_set ns p (with_link side (node_at ns p) (record { next = first; back = nil }))) first p

-- the neighbours of the node at p are linked to each other
abbrev pub unlinked : Side → List Node → ℕ → List Node
unlinked side ns p = with_back side (with_next side ns (back_at side ns p) (next_at side ns p)) (next_at side ns p) (back_at side ns p)

-- where it was the first of the list of an id, the one after it is
abbrev pub heads_unlinked : Side → List Node → List ℕ → ℕ → ℕ → List ℕ
heads_unlinked side ns heads id p = if back_at side ns p == nil then slice_set heads id (next_at side ns p) else heads
