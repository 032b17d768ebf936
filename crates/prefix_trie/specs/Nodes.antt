-- The nodes of a trie, read by their places.
use Rattle.std.specs.Prelude.{ℕ, ◌+◌, Bool, true, false, List, Option, Some, None, slice_index_or, slice_set}
use Rattle.prefix_trie.specs.declared.node.Node.{Node}

abbrev pub node_at : List (Option Node) → ℕ → Option Node
node_at nodes at = slice_index_or nodes at None

-- the child on one side
abbrev pub child_of : Node → Bool → Option ℕ
child_of node false = node.zero
child_of node true = node.one

-- the greatest slot of a child, none where there is none
abbrev pub top_of : Option Node → Option ℕ
top_of None = None
top_of (Some node) = node.top

abbrev pub top_at : List (Option Node) → Option ℕ → Option ℕ
top_at nodes None = None
top_at nodes (Some child) = top_of (node_at nodes child)

-- the length of the prefix of a node
abbrev pub len_of : Option Node → ℕ
len_of None = 0
len_of (Some node) = node.prefix.len

abbrev pub len_at : List (Option Node) → ℕ → ℕ
len_at nodes at = len_of (node_at nodes at)

-- a node with another greatest slot
abbrev pub with_top : Node → Option ℕ → Node
with_top node top = record { prefix = node.prefix; parent = node.parent; zero = node.zero; one = node.one; id = node.id; slot = node.slot; top = top }

-- a node with another id and another slot
abbrev pub with_entry : Node → Option ℕ → Option ℕ → Node
with_entry node id slot = record { prefix = node.prefix; parent = node.parent; zero = node.zero; one = node.one; id = id; slot = slot; top = node.top }

-- a node with another child on one side
abbrev pub turned : Node → Bool → Option ℕ → Node
turned node false child = record { prefix = node.prefix; parent = node.parent; zero = child; one = node.one; id = node.id; slot = node.slot; top = node.top }
turned node true child = record { prefix = node.prefix; parent = node.parent; zero = node.zero; one = child; id = node.id; slot = node.slot; top = node.top }

-- a node with another parent
abbrev pub with_parent : Node → Option ℕ → Node
with_parent node parent = record { prefix = node.prefix; parent = parent; zero = node.zero; one = node.one; id = node.id; slot = node.slot; top = node.top }

abbrev pub under : Option Node → ℕ → Option Node
under None parent = None
under (Some node) parent = Some (with_parent node (Some parent))

-- a child gets another parent, where there is a child
abbrev pub adopted : List (Option Node) → Option ℕ → ℕ → List (Option Node)
adopted nodes None parent = nodes
adopted nodes (Some child) parent = slice_set nodes child (under (node_at nodes child) parent)

-- a node as it is
abbrev pub whole : Node → Node
whole node = node

-- what routes have of a node: its prefix, its id and its slot
abbrev pub entry : Node → Node
entry node = record { prefix = node.prefix; parent = None; zero = None; one = None; id = node.id; slot = node.slot; top = None }

-- a node without its greatest slot, and without its entry too
abbrev pub bare : Node → Node
bare node = with_top node None

abbrev pub links : Node → Node
links node = with_top (with_entry node None None) None

-- how many nodes are left on the way up, at most
abbrev pub left_up : List (Option Node) → Option ℕ → ℕ
left_up nodes None = 0
left_up nodes (Some at) = len_at nodes at + 1
