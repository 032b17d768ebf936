-- A node in 48 bytes, or none: a length past every address's is the mark of none.
use Rattle.std.specs.Prelude.{◌≢◌, ℕ, ◌==◌, Bool, true, false, Option, Some, None}
use Rattle.rule_model.specs.AddressBlock.{IsAddressBlock}
use Rattle.prefix_trie.specs.declared.node.Node.{Node}

abbrev pub node_if : Bool → Node → Option Node
node_if true node = None
node_if false node = Some node

-- what stands in a cell of this length
abbrev pub held_in : ℕ → Node → Option Node
held_in len node = node_if (len == 255) node

-- its block is one, where it holds a node
abbrev pub IsCell : ℕ → ℕ → Type 0
IsCell addr len = (len ≢ 255) → IsAddressBlock (record { addr = addr; len = len })
