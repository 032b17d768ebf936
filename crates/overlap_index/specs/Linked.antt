-- The live ids that overlap, linked.
use Rattle.std.specs.Prelude.{◌≡◌, ℕ, ◌<◌, ◌↔◌, ◌⊎◌, List, Option, Some, IsTrue, Contains, length, slice_index, slice_index_or}
use Rattle.order_chains.specs.Pairs.{Pairs, HasPair}
use Rattle.prefix_trie.specs.Routes.{Route, Routes, route_of}
use Rattle.placement.specs.declared.LivePiece.{LivePiece}
use Rattle.placement.specs.Live.{is_above}

-- of two live ids one is linked as the upper one of the other exactly where it is above it
pub record AreLinked (edges : Pairs) (live : List LivePiece) : Type 0 where
  pub linked : (upper lower : ℕ) → HasPair edges upper lower ↔ IsTrue (is_above live upper lower)

-- the same pieces stand in some order, and the place of each at its id
pub record ArePlaced (slots : ℕ) (live pieces : List LivePiece) (places : List ℕ) : Type 0 where
  pub same : (one : LivePiece) → Contains pieces one ↔ Contains live one
  pub many : length places ≡ slots
  pub placed : (k : ℕ) (one : LivePiece) → k < length pieces → slice_index_or pieces k one ≡ one → slice_index places one.id ≡ k

-- each live id has its destination, and no other id has one
pub record AreDestinations (slots : ℕ) (live : List LivePiece) (routes : Routes) : Type 0 where
  pub many : length routes ≡ slots
  pub from : (id : ℕ) (route : Route) → route_of routes id ≡ Some route → (one : LivePiece) × Contains live one × (one.id ≡ id) × (route.block ≡ one.piece.dst)
  pub to : (one : LivePiece) → Contains live one → (route : Route) × (route_of routes one.id ≡ Some route) × (route.block ≡ one.piece.dst)

-- where they are known
abbrev pub AreIfKnown : ℕ → List LivePiece → Option Routes → Type 0
AreIfKnown slots live known = (routes : Routes) → known ≡ Some routes → AreDestinations slots live routes

-- these pairs are there beside those before, and no others
abbrev pub HaveMore : Pairs → Pairs → (ℕ → ℕ → Type 0) → Type 0
HaveMore old new Added = (upper lower : ℕ) → HasPair new upper lower ↔ (HasPair old upper lower ⊎ Added upper lower)
