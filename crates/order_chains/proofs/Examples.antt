-- Which pairs aren't there yet, as a test links some.
use Rattle.std.proofs.Common.{◌≡◌, ◌≢◌, ℕ, ◌≤◌, [], ◌++◌, Some, None, replicate, subst, inl, inr, Contains, arith}
use Rattle.slot_order.proofs.Lists.{contains_none}
use Rattle.order_chains.specs.Pairs.{Pair, Pairs, IsLinked, spare_of}
use Rattle.order_chains.proofs.Seen.{linked_pairs, linked_room, roomy_pairs}

abbrev pub Lacks : Pairs → Pair → Type 0
Lacks edges pair = Contains edges.places (Some pair) → ⊥

pub lacks_all : (edges : Pairs) (pair : Pair) → edges.places ≡ [] → Lacks edges pair
lacks_all edges pair none c = contains_none (Some pair) (subst (λ places. Contains places (Some pair)) none c)

pub lacks_roomy : (old new : Pairs) (pair : Pair) → (more : ℕ) × (new.places ≡ old.places ++ replicate more None) → Lacks old pair → Lacks new pair
lacks_roomy old new pair same lacks c = lacks ((roomy_pairs old.places same.0 pair).0 (subst (λ places. Contains places (Some pair)) same.1 c))

pub lacks_linked : (old new : Pairs) (pair other : Pair) → IsLinked old.places new.places pair → other ≢ pair → Lacks old other → Lacks new other
lacks_linked old new pair other is n lacks c = elim ((linked_pairs old.places new.places pair other is).0 c) [ inl h ↦ lacks h | inr e ↦ n e ]

-- of three places that are empty one is left
pub one_left : (old mid new : Pairs) (first second : Pair) → 3 ≤ spare_of old → IsLinked old.places mid.places first → IsLinked mid.places new.places second → 1 ≤ spare_of new
one_left old mid new first second room a b =
    let x = linked_room old mid first a in
    let y = linked_room mid new second b in
    omega arith
