-- A set of routes: of each id the prefix that it has, and the slot in which it stands.
use Rattle.std.specs.Prelude.{◌≡◌, ℕ, ◌≤◌, List, Option, Some, None, MatchOption, IsTrue, slice_index_or}
use Rattle.rule_model.specs.AddressBlock.{AddressBlock, block_holds}
use Rattle.prefix_trie.specs.Blocks.{IsInside}

-- a prefix, and the slot in which its entry stands, if it does
pub record Route : Type 0 where
  pub block : AddressBlock
  pub slot : Option ℕ

-- what each id has
abbrev pub Routes : Type 0
Routes = List (Option Route)

abbrev pub route_of : Routes → ℕ → Option Route
route_of routes id = slice_index_or routes id None

-- no two ids have one prefix
abbrev pub AreApart : Routes → Type 0
AreApart routes = (a b : ℕ) (one other : Route) → route_of routes a ≡ Some one → route_of routes b ≡ Some other → one.block ≡ other.block → a ≡ b

-- no id has this prefix
abbrev pub IsNew : Routes → AddressBlock → Type 0
IsNew routes block = (id : ℕ) (route : Route) → route_of routes id ≡ Some route → route.block ≡ block → ⊥

-- an id has this prefix
pub record HasPrefix (routes : Routes) (block : AddressBlock) (id : ℕ) : Type 0 where
  pub route : Route
  pub has : route_of routes id ≡ Some route
  pub same : route.block ≡ block

-- an id has a prefix inside the block, and stands in a slot
pub record StandsInside (routes : Routes) (block : AddressBlock) (slot : ℕ) : Type 0 where
  pub id : ℕ
  pub route : Route
  pub has : route_of routes id ≡ Some route
  pub inside : IsInside block route.block
  pub stands : route.slot ≡ Some slot

-- the greatest slot of those that stand inside the block
abbrev pub IsLastInside : Routes → AddressBlock → Option ℕ → Type 0
IsLastInside routes block found =
    MatchOption found ((slot : ℕ) → StandsInside routes block slot → ⊥)
    (λ last. StandsInside routes block last × ((slot : ℕ) → StandsInside routes block slot → slot ≤ last))

-- an id stands in a slot, and its prefix is shorter and covers the block
pub record StandsAround (routes : Routes) (block : AddressBlock) (len slot : ℕ) : Type 0 where
  pub id : ℕ
  pub route : Route
  pub has : route_of routes id ≡ Some route
  pub around : IsInside route.block block
  pub len_is : route.block.len ≡ len
  pub stands : route.slot ≡ Some slot

-- of those that stand and cover the block the slot of the longest
abbrev pub IsNearestAround : Routes → AddressBlock → Option ℕ → Type 0
IsNearestAround routes block found =
    MatchOption found ((len slot : ℕ) → StandsAround routes block len slot → ⊥)
    (λ near. (most : ℕ) × StandsAround routes block most near × ((len slot : ℕ) → StandsAround routes block len slot → len ≤ most))

-- the id of the longest prefix that holds an address
pub record IsBest (routes : Routes) (address id : ℕ) : Type 0 where
  pub route : Route
  pub has : route_of routes id ≡ Some route
  pub holds : IsTrue (block_holds route.block address)
  pub longest : (other : ℕ) (held : Route) → route_of routes other ≡ Some held → IsTrue (block_holds held.block address) → held.block.len ≤ route.block.len

abbrev pub IsAnswer : Routes → ℕ → Option ℕ → Type 0
IsAnswer routes address found =
    MatchOption found ((id : ℕ) (route : Route) → route_of routes id ≡ Some route → IsTrue (block_holds route.block address) → ⊥)
    (IsBest routes address)
