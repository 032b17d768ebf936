-- A list of nodes, read by places.
use Rattle.std.specs.Prelude.{ℕ, List, slice_index_or}
use Rattle.order_chains.specs.declared.node.Node.{Node}

-- what is read where no node is
abbrev pub no_node : Node
no_node = record { upper = 0; lower = 0; below = record { next = 0; back = 0 }; above = record { next = 0; back = 0 } }

abbrev pub node_at : List Node → ℕ → Node
node_at ns p = slice_index_or ns p no_node
