-- The ids that a list of nodes names, from a place of it on.
use Rattle.std.specs.Prelude.{ℕ, zero, suc, ◌≤◌, ◌<◌, ◌==◌, if◌then◌else◌, List, [], ◌∷◌, Contains, length}
use Rattle.order_chains.specs.declared.node.Node.{Node}
use Rattle.order_chains.specs.declared.chains.Side.{Side}
use Rattle.order_chains.specs.declared.chains.Side.TheVariants.{Below, Above}
use Rattle.order_chains.specs.Nodes.{node_at}
use Rattle.order_chains.specs.Chains.{nil, next_at, back_at}
use Rattle.order_chains.specs.Lists.{Seg}

-- the end of a node that isn't the owner of its list
abbrev pub other_end : Side → Node → ℕ
other_end Below n = n.lower
other_end Above n = n.upper

-- the other ends of at most n nodes, from the place p on
abbrev pub along : Side → List Node → ℕ → ℕ → List ℕ
along side ns zero p = []
along side ns (suc n) p = if p == nil then [] else other_end side (node_at ns p) ∷ along side ns n (next_at side ns p)

-- a list that ends goes on from the place p, and it has no more members than there are nodes
pub record IsOnList (side : Side) (ns : List Node) (p : ℕ) : Type 0 where
  pub places : List ℕ
  pub before : ℕ
  pub linked : Seg (next_at side ns) (back_at side ns) before p places
  pub inside : (q : ℕ) → Contains places q → q < length ns
  pub few : length places ≤ length ns
