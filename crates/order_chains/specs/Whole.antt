-- What holds of the parts of a block.
use Rattle.std.specs.Prelude.{◌≡◌, ℕ, ◌^◌, ◌<◌, List, [], ◌∷◌, Option, Some, None, map, length}
use Rattle.std.specs.Global.{Global}
use Rattle.order_chains.specs.declared.raw.Places.{Places}
use Rattle.order_chains.specs.declared.raw.Deed.{Deed}

-- what is there
abbrev pub somes : {X : Type 0} → List (Option X) → List X
somes [] = []
somes (None ∷ cs) = somes cs
somes (Some x ∷ cs) = x ∷ somes cs

-- every place holds a node, and the deed is that of these places
pub record IsWhole (places : Places) (deed : Deed Global) (alloc : Global) (len : ℕ) : Type 0 where
  pub right : (deed.alloc ≡ alloc) × (deed.start ≡ places.at) × (deed.len ≡ len)
  pub size : (length places.nodes ≡ len) × (len < 2 ^ 32)
  pub full : places.nodes ≡ map Some (somes places.nodes)
