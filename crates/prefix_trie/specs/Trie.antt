-- What holds of the nodes of a trie.
use Rattle.std.specs.Prelude.{◌≡◌, ◌≢◌, ℕ, ◌<◌, ◌≤◌, Bool, List, Option, Some, None, MatchOption, IsTrue, length, slice_index_or, ◌^◌}
use Rattle.rule_model.specs.AddressBlock.{AddressBlock, IsAddressBlock, any_address, block_holds}
use Rattle.prefix_trie.specs.declared.node.Node.{Node}
use Rattle.prefix_trie.specs.Blocks.{Covers, InHalf, IsInside, bit_at}
use Rattle.prefix_trie.specs.Nodes.{node_at, child_of, bare, entry, turned, with_parent}
use Rattle.prefix_trie.specs.Routes.{Routes, route_of}

-- a place holds a node that is the child of another on one side
pub record IsChild (nodes : List (Option Node)) (at : ℕ) (block : AddressBlock) (bit : Bool) (child : ℕ) : Type 0 where
  pub node : Node
  pub is : node_at nodes child ≡ Some node
  pub half : InHalf block bit node.prefix
  pub back : node.parent ≡ Some at

-- a place holds a node of which another is a child
pub record IsParent (nodes : List (Option Node)) (block : AddressBlock) (at parent : ℕ) : Type 0 where
  pub node : Node
  pub bit : Bool
  pub is : node_at nodes parent ≡ Some node
  pub half : InHalf node.prefix bit block
  pub link : child_of node bit ≡ Some at

-- on one side of a node is a child that covers a block
pub record LeadsTo (nodes : List (Option Node)) (node : Node) (bit : Bool) (block : AddressBlock) : Type 0 where
  pub child : ℕ
  pub below : Node
  pub link : child_of node bit ≡ Some child
  pub is : node_at nodes child ≡ Some below
  pub covers : Covers below.prefix block

-- the first node is that of every address, no prefix has two nodes, and from each node a child leads to each node inside
pub record IsTrie (nodes : List (Option Node)) : Type 0 where
  pub first : Node
  pub root : node_at nodes 0 ≡ Some first
  pub whole : first.prefix ≡ any_address
  pub blocks : (at : ℕ) (node : Node) → node_at nodes at ≡ Some node → IsAddressBlock node.prefix
  pub once : (a b : ℕ) (one other : Node) → node_at nodes a ≡ Some one → node_at nodes b ≡ Some other → one.prefix ≡ other.prefix → a ≡ b
  pub children : (at child : ℕ) (bit : Bool) (node : Node) → node_at nodes at ≡ Some node → child_of node bit ≡ Some child → IsChild nodes at node.prefix bit child
  pub parents : (at parent : ℕ) (node : Node) → node_at nodes at ≡ Some node → node.parent ≡ Some parent → IsParent nodes node.prefix at parent
  pub tops : (at : ℕ) (node : Node) → node_at nodes at ≡ Some node → node.parent ≡ None → at ≡ 0
  pub leads : (at other : ℕ) (bit : Bool) (node held : Node) → node_at nodes at ≡ Some node → node_at nodes other ≡ Some held
      → InHalf node.prefix bit held.prefix → LeadsTo nodes node bit held.prefix

-- a node that stands in a slot is covered by a block
pub record HasSlot (nodes : List (Option Node)) (block : AddressBlock) (slot : ℕ) : Type 0 where
  pub at : ℕ
  pub node : Node
  pub is : node_at nodes at ≡ Some node
  pub covers : Covers block node.prefix
  pub stands : node.slot ≡ Some slot

-- the greatest of the slots of a kind
abbrev pub IsMost : (ℕ → Type 0) → Option ℕ → Type 0
IsMost Slot found = MatchOption found ((slot : ℕ) → Slot slot → ⊥) (λ last. Slot last × ((slot : ℕ) → Slot slot → slot ≤ last))

-- the greatest slot of the nodes that a block covers
abbrev pub IsTop : List (Option Node) → AddressBlock → Option ℕ → Type 0
IsTop nodes block = IsMost (HasSlot nodes block)

-- each node has the greatest slot inside it
abbrev pub HaveTops : List (Option Node) → Type 0
HaveTops nodes = (at : ℕ) (node : Node) → node_at nodes at ≡ Some node → IsTop nodes node.prefix node.top

-- so have all but those that cover a block
abbrev pub HaveTopsBut : AddressBlock → List (Option Node) → Type 0
HaveTopsBut block nodes = (at : ℕ) (node : Node) → node_at nodes at ≡ Some node → (Covers node.prefix block → ⊥) → IsTop nodes node.prefix node.top

-- the deepest node that covers a block
pub record IsDeepest (nodes : List (Option Node)) (block : AddressBlock) (at : ℕ) : Type 0 where
  pub node : Node
  pub is : node_at nodes at ≡ Some node
  pub covers : Covers node.prefix block
  pub deepest : (other : ℕ) (held : Node) → node_at nodes other ≡ Some held → Covers held.prefix block → Covers held.prefix node.prefix

-- a child of a node that covers a block, or none does
pub record IsStep (nodes : List (Option Node)) (node : Node) (block : AddressBlock) (next : ℕ) : Type 0 where
  pub below : Node
  pub is : node_at nodes next ≡ Some below
  pub longer : node.prefix.len < below.prefix.len
  pub covers : Covers below.prefix block

abbrev pub IsStepTo : List (Option Node) → Node → AddressBlock → Option ℕ → Type 0
IsStepTo nodes node block next = MatchOption next ((other : ℕ) (held : Node) → node_at nodes other ≡ Some held → Covers held.prefix block → Covers held.prefix node.prefix) (IsStep nodes node block)

-- a node that covers a block
pub record IsOver (nodes : List (Option Node)) (block : AddressBlock) (at : ℕ) : Type 0 where
  pub node : Node
  pub is : node_at nodes at ≡ Some node
  pub covers : Covers node.prefix block

-- a node that stands in a slot is inside a block
pub record HasSlotInside (nodes : List (Option Node)) (block : AddressBlock) (slot : ℕ) : Type 0 where
  pub at : ℕ
  pub node : Node
  pub is : node_at nodes at ≡ Some node
  pub inside : IsInside block node.prefix
  pub stands : node.slot ≡ Some slot

-- the greatest slot of the nodes inside a block
abbrev pub IsTopInside : List (Option Node) → AddressBlock → Option ℕ → Type 0
IsTopInside nodes block = IsMost (HasSlotInside nodes block)

-- a node that stands in a slot is in one half of a block
pub record HasSlotHalf (nodes : List (Option Node)) (block : AddressBlock) (bit : Bool) (slot : ℕ) : Type 0 where
  pub at : ℕ
  pub node : Node
  pub is : node_at nodes at ≡ Some node
  pub half : InHalf block bit node.prefix
  pub stands : node.slot ≡ Some slot

-- a node that has this part has a shorter prefix that covers a block
pub record HasAround (part : Node → Option ℕ) (nodes : List (Option Node)) (block : AddressBlock) (len found : ℕ) : Type 0 where
  pub at : ℕ
  pub node : Node
  pub is : node_at nodes at ≡ Some node
  pub around : IsInside node.prefix block
  pub len_is : node.prefix.len ≡ len
  pub has : part node ≡ Some found

-- of those the part of the longest
abbrev pub IsNextAround : (Node → Option ℕ) → List (Option Node) → AddressBlock → Option ℕ → Type 0
IsNextAround part nodes block found =
    MatchOption found ((len of : ℕ) → HasAround part nodes block len of → ⊥)
    (λ near. (most : ℕ) × HasAround part nodes block most near × ((len of : ℕ) → HasAround part nodes block len of → len ≤ most))

-- a node with an id holds an address
pub record HasHolder (nodes : List (Option Node)) (address len id : ℕ) : Type 0 where
  pub at : ℕ
  pub node : Node
  pub is : node_at nodes at ≡ Some node
  pub holds : IsTrue (block_holds node.prefix address)
  pub len_is : node.prefix.len ≡ len
  pub has : node.id ≡ Some id

-- of those the id of the longest
abbrev pub IsHolder : List (Option Node) → ℕ → Option ℕ → Type 0
IsHolder nodes address found =
    MatchOption found ((len id : ℕ) → HasHolder nodes address len id → ⊥)
    (λ best. (most : ℕ) × HasHolder nodes address most best × ((len id : ℕ) → HasHolder nodes address len id → len ≤ most))

-- on the way up from a node: those that have this part around it and weren't passed are around the node reached
pub record IsWayUp (part : Node → Option ℕ) (nodes : List (Option Node)) (from at : ℕ) : Type 0 where
  pub start : Node
  pub node : Node
  pub start_is : node_at nodes from ≡ Some start
  pub is : node_at nodes at ≡ Some node
  pub covers : Covers node.prefix start.prefix
  pub left : (len of : ℕ) → HasAround part nodes start.prefix len of → HasAround part nodes node.prefix len of

-- at a place is a node of which this part is the same
pub record HasLike (part : Node → Node) (nodes : List (Option Node)) (at : ℕ) (node : Node) : Type 0 where
  pub found : Node
  pub is : node_at nodes at ≡ Some found
  pub like : part found ≡ part node

-- of each node this part stays the same
pub record AreLike (part : Node → Node) (old new : List (Option Node)) : Type 0 where
  pub to : (at : ℕ) (node : Node) → node_at old at ≡ Some node → HasLike part new at node
  pub from : (at : ℕ) (node : Node) → node_at new at ≡ Some node → HasLike part old at node

-- all nodes but those that cover a node have the greatest slots inside them, and those have what was the greatest before
-- only slots inside this node changed
pub record HaveTopsPast (nodes : List (Option Node)) (at : ℕ) : Type 0 where
  pub node : Node
  pub is : node_at nodes at ≡ Some node
  pub but : HaveTopsBut node.prefix nodes
  pub was : List (Option Node)
  pub above : (other : ℕ) (held : Node) → node_at nodes other ≡ Some held → Covers held.prefix node.prefix → IsTop was held.prefix held.top
  pub to : (other : ℕ) (held : Node) → node_at was other ≡ Some held → (Covers node.prefix held.prefix → ⊥) → HasLike bare nodes other held
  pub from : (other : ℕ) (held : Node) → node_at nodes other ≡ Some held → (Covers node.prefix held.prefix → ⊥) → HasLike bare was other held

-- so far on the way up
abbrev pub IsClimb : List (Option Node) → Option ℕ → Type 0
IsClimb nodes next = MatchOption next (HaveTops nodes) (HaveTopsPast nodes)

-- the nodes hold these routes, each at the place of its id
pub record AreHeld (routes : Routes) (places : List (Option ℕ)) (nodes : List (Option Node)) : Type 0 where
  pub many : length places ≡ length routes
  pub none : (id : ℕ) → slice_index_or places id None ≡ None → route_of routes id ≡ None
  pub some : (id at : ℕ) → slice_index_or places id None ≡ Some at
      → (node : Node) × (node_at nodes at ≡ Some node) × (node.id ≡ Some id) × (route_of routes id ≡ Some (record { block = node.prefix; slot = node.slot }))
  pub ids : (at id : ℕ) (node : Node) → node_at nodes at ≡ Some node → node.id ≡ Some id → slice_index_or places id None ≡ Some at
  pub bare : (at : ℕ) (node : Node) → node_at nodes at ≡ Some node → node.id ≡ None → node.slot ≡ None

-- the parts of a trie
pub record AreParts (routes : Routes) (places : List (Option ℕ)) (nodes : List (Option Node)) : Type 0 where
  pub few : length nodes < 2 ^ 32
  pub ids_few : length places < 2 ^ 32
  pub trie : IsTrie nodes
  pub tops : HaveTops nodes
  pub held : AreHeld routes places nodes

-- on one side of a node is room for a block: what is there lies inside the block
pub record HasGap (nodes : List (Option Node)) (at : ℕ) (bit : Bool) (block : AddressBlock) : Type 0 where
  pub node : Node
  pub is : node_at nodes at ≡ Some node
  pub half : InHalf node.prefix bit block
  pub inner : (child : ℕ) (below : Node) → child_of node bit ≡ Some child → node_at nodes child ≡ Some below → IsInside block below.prefix

-- what becomes of a node that was there before: the child comes below the new place, and that is on one side of its parent
pub record IsKept (old : List (Option Node)) (at place : ℕ) (bit : Bool) (child : Option ℕ) (here : ℕ) (now : Node) : Type 0 where
  pub node : Node
  pub is : node_at old here ≡ Some node
  pub prefix : now.prefix ≡ node.prefix
  pub id_is : now.id ≡ node.id
  pub slot_is : now.slot ≡ node.slot
  pub top_is : now.top ≡ node.top
  pub moved : child ≡ Some here → now.parent ≡ Some place
  pub stays : (child ≡ Some here → ⊥) → now.parent ≡ node.parent
  pub on_side : here ≡ at → child_of now bit ≡ Some place
  pub elsewhere : (side : Bool) → ((here ≡ at) × (side ≡ bit) → ⊥) → child_of now side ≡ child_of node side

-- a place of the new nodes holds what was there
pub record HasKept (old new : List (Option Node)) (at place : ℕ) (bit : Bool) (child : Option ℕ) (here : ℕ) (node : Node) : Type 0 where
  pub now : Node
  pub is : node_at new here ≡ Some now
  pub old_place : here ≢ place
  pub kept : IsKept old at place bit child here now
  pub same : kept.node ≡ node

-- a new node stands on one side of another, above what was there
pub record IsAttached (old new : List (Option Node)) (at place : ℕ) (bit : Bool) (block : AddressBlock) (here : Node) : Type 0 where
  pub fresh : Node
  pub fresh_is : node_at new place ≡ Some fresh
  pub block_is : fresh.prefix ≡ block
  pub no_id : fresh.id ≡ None
  pub no_slot : fresh.slot ≡ None
  pub up : fresh.parent ≡ Some at
  pub down : (side : Bool) (child : ℕ) → child_of fresh side ≡ Some child → child_of here bit ≡ Some child
  pub sides : (side : Bool) (child : ℕ) (below : Node) → child_of fresh side ≡ Some child → node_at old child ≡ Some below → bit_at below.prefix.addr block.len ≡ side
  pub has_down : (child : ℕ) (below : Node) → child_of here bit ≡ Some child → node_at old child ≡ Some below → child_of fresh (bit_at below.prefix.addr block.len) ≡ Some child
  pub to : (other : ℕ) (node : Node) → node_at old other ≡ Some node → HasKept old new at place bit (child_of here bit) other node
  pub from : (other : ℕ) (now : Node) → node_at new other ≡ Some now → other ≢ place → IsKept old at place bit (child_of here bit) other now

-- a new node of a block, with the child that there was on the side on which that lies
pub record IsFresh (nodes : List (Option Node)) (block : AddressBlock) (at : ℕ) (child : Option ℕ) (fresh : Node) : Type 0 where
  pub block_is : fresh.prefix ≡ block
  pub up : fresh.parent ≡ Some at
  pub no_id : fresh.id ≡ None
  pub no_slot : fresh.slot ≡ None
  pub down : (side : Bool) (place : ℕ) → child_of fresh side ≡ Some place → child ≡ Some place
  pub sides : (side : Bool) (place : ℕ) (below : Node) → child_of fresh side ≡ Some place → node_at nodes place ≡ Some below → bit_at below.prefix.addr block.len ≡ side
  pub has_down : (place : ℕ) (below : Node) → child ≡ Some place → node_at nodes place ≡ Some below → child_of fresh (bit_at below.prefix.addr block.len) ≡ Some place

-- of two lists the second has one node more, between one and its child, and is the same elsewhere
pub record IsBetween (fewer more : List (Option Node)) (at place : ℕ) (bit : Bool) (here fresh : Node) : Type 0 where
  pub none : node_at fewer place ≡ None
  pub here_is : node_at fewer at ≡ Some here
  pub fresh_is : node_at more place ≡ Some fresh
  pub now_is : node_at more at ≡ Some (turned here bit (Some place))
  pub off : (child : ℕ) → child_of here bit ≡ Some child → child ≢ at
  pub below : (child : ℕ) → child_of here bit ≡ Some child → (node : Node) × (node_at fewer child ≡ Some node) × (node.parent ≡ Some at) × (node_at more child ≡ Some (with_parent node (Some place)))
  pub same : (other : ℕ) → other ≢ place → other ≢ at → (child_of here bit ≡ Some other → ⊥) → node_at more other ≡ node_at fewer other

-- a node without an id stands in no slot
abbrev pub HaveBare : List (Option Node) → Type 0
HaveBare nodes = (at : ℕ) (node : Node) → node_at nodes at ≡ Some node → node.id ≡ None → node.slot ≡ None

-- what has an id stays where it is, with its prefix and its slot
pub record AreEntries (old new : List (Option Node)) : Type 0 where
  pub to : (at id : ℕ) (node : Node) → node_at old at ≡ Some node → node.id ≡ Some id → HasLike entry new at node
  pub from : (at id : ℕ) (node : Node) → node_at new at ≡ Some node → node.id ≡ Some id → HasLike entry old at node
  pub bare : HaveBare old → HaveBare new

-- a place holds the node of a block
pub record IsMade (nodes : List (Option Node)) (block : AddressBlock) (at : ℕ) : Type 0 where
  pub node : Node
  pub is : node_at nodes at ≡ Some node
  pub block_is : node.prefix ≡ block

-- a place that holds no node, other than one that is kept free
pub record IsRoom (nodes : List (Option Node)) (but place : ℕ) : Type 0 where
  pub fits : place < length nodes
  pub none : node_at nodes place ≡ None
  pub other : place ≢ but

-- a node has no id, and this child and no other
pub record HasOnly (node : Node) (child : Option ℕ) : Type 0 where
  pub no_id : node.id ≡ None
  pub down : (side : Bool) (place : ℕ) → child_of node side ≡ Some place → child ≡ Some place
  pub on : (place : ℕ) → child ≡ Some place → (side : Bool) × (child_of node side ≡ Some place)

-- the node of a block, with an id
pub record HasNamed (nodes : List (Option Node)) (block : AddressBlock) (id : ℕ) : Type 0 where
  pub at : ℕ
  pub node : Node
  pub is : node_at nodes at ≡ Some node
  pub block_is : node.prefix ≡ block
  pub has : node.id ≡ Some id

-- the id of the node of a block
abbrev pub IsIdOf : List (Option Node) → AddressBlock → Option ℕ → Type 0
IsIdOf nodes block found = MatchOption found ((id : ℕ) → HasNamed nodes block id → ⊥) (HasNamed nodes block)
