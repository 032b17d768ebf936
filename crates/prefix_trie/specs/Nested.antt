-- Blocks of which one covers the other, in the order of their addresses, the shorter of two first.
use Rattle.std.specs.Prelude.{◌≡◌, ℕ, ◌+◌, ◌*◌, ◌<◌, ◌≤◌, ◌⊎◌, ◌↔◌, ◌∷◌, [], ◌++◌, List, Option, Some, None, MatchOption, Contains, nat_eq}
use Rattle.std.specs.List.{IsDistinct}
use Rattle.rule_model.specs.AddressBlock.{AddressBlock}
use Rattle.prefix_trie.specs.declared.node.Node.{Node}
use Rattle.prefix_trie.specs.Blocks.{Covers}
use Rattle.prefix_trie.specs.Nodes.{node_at}
use Rattle.prefix_trie.specs.Routes.{Route, Routes, route_of}

-- one of two blocks covers the other
abbrev pub AreNested : AddressBlock → AddressBlock → Type 0
AreNested a b = Covers a b ⊎ Covers b a

-- the id of a prefix that covers the block or lies in it
pub record HasNested (routes : Routes) (block : AddressBlock) (id : ℕ) : Type 0 where
  pub route : Route
  pub has : route_of routes id ≡ Some route
  pub nested : AreNested block route.block

-- these are all of them, each once
pub record AreAllNested (routes : Routes) (block : AddressBlock) (ids : List ℕ) : Type 0 where
  pub exact : (id : ℕ) → Contains ids id ↔ HasNested routes block id
  pub once : IsDistinct nat_eq ids

-- where a block comes in that order
abbrev pub order_of : AddressBlock → ℕ
order_of block = block.addr * 256 + block.len

-- a node that covers the block or lies in it
pub record IsNestedAt (nodes : List (Option Node)) (block : AddressBlock) (at : ℕ) : Type 0 where
  pub node : Node
  pub is : node_at nodes at ≡ Some node
  pub nested : AreNested block node.prefix

-- of those the first behind a block
pub record IsNextNested (nodes : List (Option Node)) (block from : AddressBlock) (next : ℕ) : Type 0 where
  pub node : Node
  pub is : node_at nodes next ≡ Some node
  pub nested : AreNested block node.prefix
  pub later : order_of from < order_of node.prefix
  pub least : (other : ℕ) (held : Node) → node_at nodes other ≡ Some held → AreNested block held.prefix → order_of from < order_of held.prefix → order_of node.prefix ≤ order_of held.prefix

abbrev pub IsNextTo : List (Option Node) → AddressBlock → AddressBlock → Option ℕ → Type 0
IsNextTo nodes block from next =
    MatchOption next ((other : ℕ) (held : Node) → node_at nodes other ≡ Some held → AreNested block held.prefix → order_of from < order_of held.prefix → ⊥)
    (IsNextNested nodes block from)

-- on the way up from a node: none of those that the node reached covers comes behind the first
pub record IsPassed (nodes : List (Option Node)) (block : AddressBlock) (from at : ℕ) : Type 0 where
  pub start : Node
  pub node : Node
  pub start_is : node_at nodes from ≡ Some start
  pub is : node_at nodes at ≡ Some node
  pub inside : Covers block node.prefix
  pub covers : Covers node.prefix start.prefix
  pub passed : (other : ℕ) (held : Node) → node_at nodes other ≡ Some held → Covers node.prefix held.prefix → order_of start.prefix < order_of held.prefix → ⊥

-- no two nodes have one id
abbrev pub HaveOnce : List (Option Node) → Type 0
HaveOnce nodes = (a b id : ℕ) (one other : Node) → node_at nodes a ≡ Some one → node_at nodes b ≡ Some other → one.id ≡ Some id → other.id ≡ Some id → a ≡ b

-- one id more, where there is one
abbrev pub with_id : List ℕ → Option ℕ → List ℕ
with_id ids None = ids
with_id ids (Some id) = ids ++ id ∷ []

-- an id of a node that covers the block or lies in it, and comes before a place in the order
pub record IsFoundBefore (nodes : List (Option Node)) (block : AddressBlock) (before id : ℕ) : Type 0 where
  pub at : ℕ
  pub node : Node
  pub is : node_at nodes at ≡ Some node
  pub has : node.id ≡ Some id
  pub nested : AreNested block node.prefix
  pub earlier : order_of node.prefix < before

-- the ids of those before a place in the order
pub record AreFoundBefore (nodes : List (Option Node)) (block : AddressBlock) (before : ℕ) (ids : List ℕ) : Type 0 where
  pub exact : (id : ℕ) → Contains ids id ↔ IsFoundBefore nodes block before id
  pub once : IsDistinct nat_eq ids

-- so far: the ids of those before the node that is reached
pub record IsWalked (nodes : List (Option Node)) (block : AddressBlock) (at : ℕ) (ids : List ℕ) : Type 0 where
  pub node : Node
  pub is : node_at nodes at ≡ Some node
  pub nested : AreNested block node.prefix
  pub found : AreFoundBefore nodes block (order_of node.prefix) ids
