-- What an index keeps of overlaps: where routes are told to stand, or the pairs of pieces that overlap.
use Rattle.std.specs.Prelude.{◌≡◌, ℕ, ◌<◌, ◌≤◌, List, length, Option, None, Some, Contains, IsTrue, IsFalse, slice_set}
use Rattle.slot_order.specs.Order.{most_slots}
use Rattle.prefix_trie.specs.Changes.{with_slot}
use Rattle.prefix_trie.specs.Routes.{Routes}
use Rattle.placement.specs.declared.LivePiece.{LivePiece}
use Rattle.placement.specs.Live.{AreApart, Homes, is_live}
use Rattle.overlap_index.specs.Buckets.{Links, AreBuckets}
use Rattle.overlap_index.specs.Linked.{AreDestinations, AreIfKnown, AreLinked, ArePlaced}
use Rattle.overlap_index.specs.Near.{columns_of}
use Rattle.overlap_index.specs.Routed.{IsRoute, homes_of}
use Rattle.overlap_index.specs.declared.ties.Ties.{Ties}
use Rattle.overlap_index.specs.declared.ties.Ties.TheVariants as ties
use Rattle.overlap_index.specs.declared.pairs.Linked.{Linked}

-- the live pieces are routes, each id with its destination
pub record AreTold (slots : ℕ) (live : List LivePiece) (routes : Routes) : Type 0 where
  pub known : AreDestinations slots live routes
  pub are : (one : LivePiece) → Contains live one → IsRoute one

-- the columns beside the pieces, the destinations, and a link for each pair that overlaps
pub record ArePaired (slots : ℕ) (live pieces : List LivePiece) (linked : Linked) : Type 0 where
  pub beside : linked.columns ≡ columns_of pieces
  pub known : AreIfKnown slots live linked.destinations
  pub nodes : linked.edges.ids ≡ slots
  pub links : AreLinked linked.edges live

abbrev pub AreTied : ℕ → List LivePiece → List LivePiece → Ties → Type 0
AreTied slots live pieces (ties.Told routes) = AreTold slots live routes
AreTied slots live pieces (ties.Linked linked) = ArePaired slots live pieces linked

-- a piece comes to those that are live, each of which stands at the place of its id
pub record IsComing (slots : ℕ) (live pieces : List LivePiece) (places : List ℕ) (one : LivePiece) : Type 0 where
  pub most : slots ≤ most_slots
  pub small : one.id < slots
  pub absent : IsFalse (is_live live one.id)
  pub apart : AreApart slots live
  pub table : ArePlaced slots live pieces places

-- a live id goes, whose piece stands at a place
pub record IsGoing (slots : ℕ) (live pieces : List LivePiece) (id place : ℕ) : Type 0 where
  pub apart : AreApart slots live
  pub present : IsTrue (is_live live id)
  pub inside : place < length pieces

-- a route is one of those that are told
pub record IsEntered (was : Ties) (one : LivePiece) (now : Ties) : Type 0 where
  pub before : Routes
  pub was_is : was ≡ ties.Told before
  pub is : IsRoute one
  pub now_is : now ≡ ties.Told (slice_set before one.id (Some (record { block = one.piece.dst; slot = None })))

-- an id stands in a slot, or in none, where that is told
abbrev pub stood_in : Ties → ℕ → Option ℕ → Ties
stood_in (ties.Told routes) id slot = ties.Told (with_slot routes id slot)
stood_in (ties.Linked linked) id slot = ties.Linked linked

-- where the ids are told to stand
abbrev pub told_of : Ties → Option Homes
told_of (ties.Told routes) = Some (homes_of routes)
told_of (ties.Linked linked) = None

-- the parts of an index: what is live in the order of its coming, the same in any order, the place of each id, the ids in
-- buckets, and what is kept of overlaps
pub record AreParts (slots : ℕ) (live pieces : List LivePiece) (places : List ℕ) (buckets : Links) (kept : Ties) : Type 0 where
  pub most : slots ≤ most_slots
  pub apart : AreApart slots live
  pub table : ArePlaced slots live pieces places
  pub found : AreBuckets slots live buckets
  pub tied : AreTied slots live pieces kept
