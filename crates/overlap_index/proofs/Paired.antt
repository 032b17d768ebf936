-- The pairs of live pieces, with one piece more and with one less, and those of the first of some pieces.
use Rattle.std.proofs.Common.{◌≡◌, ℕ, ◌+◌, ◌<◌, List, [], ◌∷◌, ◌++◌, length, map, set, take, get_or, replicate, Some, None, Contains, arith, sym, ◌∙◌, ap, subst}
use Rattle.std.specs.Prelude.{◌↔◌}
use Rattle.std.specs.List.{swap_remove}
use Rattle.std.proofs.lemmas.Bool.{false_from_ne_true}
use Rattle.std.proofs.lemmas.List.{get_or-take, length-take-le, take_more}
use Rattle.slot_order.proofs.Lists.{AllByRecursion-member, contains_none, contains_take}
use Rattle.order_chains.specs.Pairs.{Pairs, without}
use Rattle.prefix_trie.specs.Routes.{Routes}
use Rattle.placement.specs.declared.LivePiece.{LivePiece}
use Rattle.placement.specs.Live.{is_live, without_id}
use Rattle.placement.proofs.Above.{live_is}
use Rattle.overlap_index.specs.declared.pairs.Linked.{Linked}
use Rattle.overlap_index.specs.declared.scan.Side.TheVariants.{Above, Below}
use Rattle.overlap_index.specs.Linked.{AreDestinations, HaveMore}
use Rattle.overlap_index.specs.Near.{columns_of, with_row, without_row}
use Rattle.overlap_index.specs.Sides.{AreOn}
use Rattle.overlap_index.specs.Tied.{ArePaired, AreTold, IsComing, IsGoing}
use Rattle.overlap_index.proofs.Known.{route_to, destinations_none, destinations_same, known_none, known_more, known_less}
use Rattle.overlap_index.proofs.Linked.{have_as, linked_more, linked_none, linked_roomy, linked_same, linked_without, live_small}
use Rattle.overlap_index.proofs.Placed.{apart_standing}
use Rattle.overlap_index.proofs.Rows.{row_more, row_less}

-- nothing is live
pub paired_none : (slots : ℕ) (linked : Linked) → linked.columns ≡ columns_of [] → ((routes : Routes) → linked.destinations ≡ Some routes → routes ≡ replicate slots None) → linked.edges.ids ≡ slots
    → linked.edges.places ≡ [] → ArePaired slots [] [] linked
paired_none slots linked beside known nodes none = record { beside = beside; known = known_none slots linked.destinations known; nodes = nodes; links = linked_none linked.edges none }

pub told_none : (slots : ℕ) (routes : Routes) → routes ≡ replicate slots None → AreTold slots [] routes
told_none slots routes none = subst (AreTold slots []) (sym none) (record { known = destinations_none slots; are = λ one c. absurd (contains_none one c) })

-- the same pieces in another order
pub paired_same : (slots : ℕ) (live other pieces : List LivePiece) (linked : Linked) → ((one : LivePiece) → Contains live one ↔ Contains other one) → ArePaired slots live pieces linked → ArePaired slots other pieces linked
paired_same slots live other pieces linked same paired = record {
  beside = paired.beside;
  known = λ routes is. destinations_same slots live other routes same (paired.known routes is);
  nodes = paired.nodes;
  links = linked_same linked.edges live other same paired.links;
}

-- more room for links
pub paired_roomy : (slots : ℕ) (live pieces : List LivePiece) (old : Linked) (roomy : Pairs) → ((more : ℕ) × (roomy.places ≡ old.edges.places ++ replicate more None)) → roomy.ids ≡ old.edges.ids
    → ArePaired slots live pieces old → ArePaired slots live pieces (record { columns = old.columns; destinations = old.destinations; edges = roomy })
paired_roomy slots live pieces old roomy room same paired =
    record { beside = paired.beside; known = paired.known; nodes = same ∙ paired.nodes; links = linked_roomy old.edges roomy live room.0 room.1 paired.links }

-- a new piece is linked to all that it overlaps
pub paired_more : (slots : ℕ) (live pieces : List LivePiece) (places : List ℕ) (old new : Linked) (roomy mid : Pairs) (one : LivePiece) (above below : List ℕ) → IsComing slots live pieces places one
    → AreOn Above one live above → AreOn Below one live below → new.columns ≡ with_row old.columns one.piece → ((more : ℕ) × (roomy.places ≡ old.edges.places ++ replicate more None)) → roomy.ids ≡ old.edges.ids
    → HaveMore roomy mid (λ upper lower. Contains above upper × (lower ≡ one.id)) → HaveMore mid new.edges (λ upper lower. (upper ≡ one.id) × Contains below lower) → new.edges.ids ≡ roomy.ids
    → ((routes : Routes) → new.destinations ≡ Some routes → (before : Routes) × (old.destinations ≡ Some before) × (routes ≡ set before one.id (Some (route_to one)))) → ArePaired slots live pieces old
    → ArePaired slots (live ++ one ∷ []) (pieces ++ one ∷ []) new
paired_more slots live pieces places old new roomy mid one above below coming on_above on_below rows room ids aboves belows same noted paired = record {
  beside = rows ∙ (ap (λ c. with_row c one.piece) paired.beside ∙ row_more pieces one);
  known = λ routes is.
      let past = noted routes is in
      subst (AreDestinations slots (live ++ one ∷ [])) (sym past.2) (known_more slots live past.0 one coming.small coming.absent (paired.known past.0 past.1));
  nodes = same ∙ (ids ∙ paired.nodes);
  links = linked_more one live roomy mid new.edges (linked_roomy old.edges roomy live room.0 room.1 paired.links)
      (have_as roomy mid _ _ (λ upper lower. (λ p. ((on_above.exact upper).0 p.0, p.1), λ p. ((on_above.exact upper).1 p.0, p.1))) aboves)
      (have_as mid new.edges _ _ (λ upper lower. (λ p. (p.0, (on_below.exact lower).0 p.1), λ p. (p.0, (on_below.exact lower).1 p.1))) belows);
}

-- an id goes with its links, and the last piece takes the place of its own
pub paired_less : (slots id place : ℕ) (live pieces : List LivePiece) (d : LivePiece) (old new : Linked) → IsGoing slots live pieces id place → new.columns ≡ without_row old.columns place
    → new.edges.places ≡ map (without id) old.edges.places → new.edges.ids ≡ old.edges.ids
    → ((routes : Routes) → new.destinations ≡ Some routes → (past : Routes) × (old.destinations ≡ Some past) × (routes ≡ set past id None)) → ArePaired slots live pieces old
    → ArePaired slots (without_id live id) (swap_remove pieces place d) new
paired_less slots id place live pieces d old new going rows gone same noted paired = record {
  beside = rows ∙ (ap (λ c. without_row c place) paired.beside ∙ row_less pieces place d going.inside);
  known = λ routes is.
      let past = noted routes is in
      subst (AreDestinations slots (without_id live id)) (sym past.2) (known_less slots live past.0 id (live_small slots live id going.apart going.present) (paired.known past.0 past.1));
  nodes = same ∙ paired.nodes;
  links = linked_without old.edges new.edges live id gone paired.links;
}

-- each of some pieces comes to those before it
module _ (slots : ℕ) (live pieces : List LivePiece) (places : List ℕ) (one : LivePiece) (coming : IsComing slots live pieces places one) (k : ℕ) (at : LivePiece) (inside : k < length pieces) (here : get_or pieces k at ≡ at) where
  abbrev front : List LivePiece
  front = take k pieces

  front_size : length front ≡ k
  front_size = length-take-le k pieces (omega arith)

  front_in : (x : LivePiece) → Contains front x → Contains pieces x
  front_in x c = let w = contains_take k pieces x c in (w.0, w.2, w.3)

  front_at : (j : ℕ) (x : LivePiece) → j < length front → get_or front j x ≡ x → get_or places x.id 0 ≡ j
  front_at j x less is =
      let size = front_size in
      coming.table.placed j x (omega arith) (sym (get_or-take k pieces j x (omega arith)) ∙ is)

  pub front_coming : IsComing slots front front places at
  front_coming = record {
    most = coming.most;
    small = AllByRecursion-member (λ (x : LivePiece). x.id < slots) live at coming.apart.small ((coming.table.same at).0 (k, inside, here));
    absent = false_from_ne_true (is_live front at.id) (λ is.
        let w = live_is front at.id is in
        let early = contains_take k pieces w.0 w.1 in
        let first = coming.table.placed early.0 w.0 early.2 early.3 in
        let second = coming.table.placed k at inside here in
        let same : early.0 ≡ k = sym first ∙ (ap (λ id. get_or places id 0) w.2 ∙ second) in
        let less = early.1 in
        absurd (omega arith));
    apart = apart_standing slots live front places coming.apart (λ x c. (coming.table.same x).0 (front_in x c)) front_at;
    table = record { same = λ x. (λ c. c, λ c. c); many = coming.table.many; placed = front_at };
  }

  pub front_more : take (k + 1) pieces ≡ front ++ at ∷ []
  front_more = take_more pieces k at inside ∙ ap (λ x. front ++ x ∷ []) here
