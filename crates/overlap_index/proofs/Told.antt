-- Where routes are told to stand, and what a trie's two answers say of that.
use Rattle.std.proofs.Common.{◌≡◌, ◌≢◌, ℕ, ◌<◌, ◌≤◌, ◌⊎◌, true, Option, None, Some, List, [], ◌∷◌, ◌++◌, length, Contains, arith, inl, inr, refl, sym, ◌∙◌, ap, subst}
use Rattle.std.specs.Prelude.{option_map, is_some, slice_set}
use Rattle.std.proofs.lemmas.Bool.{and_from, cases_eq, cases_lt, lt-ltb}
use Rattle.std.proofs.lemmas.List.{map-set, get_or-map, get_or_past, get_or-set_same, get_or-set_other, length-map, length-set}
use Rattle.std.proofs.lemmas.List.Elements.{Contains-push_cases}
use Rattle.slot_order.proofs.Lists.{in_filter}
use Rattle.rule_model.specs.AddressBlock.{AddressBlock}
use Rattle.prefix_trie.specs.Blocks.{IsInside}
use Rattle.prefix_trie.specs.Changes.{moved, with_slot}
use Rattle.prefix_trie.specs.Routes.{Route, Routes, AreApart as HaveOwn, IsLastInside, IsNearestAround, StandsAround, StandsInside, route_of}
use Rattle.prefix_trie.proofs.Halves.{covers-laminar, covers-one}
use Rattle.placement.specs.declared.LivePiece.{LivePiece}
use Rattle.placement.specs.Live.{Homes, AreApart, IsLastTold, IsNextTold, IsToldAt, MayTell, StandsBy, home_in, is_above, is_over, without_id}
use Rattle.placement.proofs.Above.{IsOver, above_is, is_above_from, same_one}
use Rattle.overlap_index.specs.Linked.{AreDestinations}
use Rattle.overlap_index.specs.Routed.{IsRoute, homes_of, slot_of}
use Rattle.overlap_index.specs.Tied.{AreTied, AreTold, IsComing, IsEntered, IsGoing, stood_in, told_of}
use Rattle.overlap_index.specs.declared.pairs.Linked.{Linked}
use Rattle.overlap_index.specs.declared.ties.Ties.{Ties}
use Rattle.overlap_index.specs.declared.ties.Ties.TheVariants as ties
use Rattle.overlap_index.proofs.Known.{route_to, known_less, known_more}
use Rattle.overlap_index.proofs.Linked.{live_small}
use Rattle.overlap_index.proofs.Routed.{inside_over, inside-trans, over_inside}

-- what is told of an id is the slot of its route
pub home_is : (routes : Routes) (id : ℕ) → home_in (homes_of routes) id ≡ slot_of (route_of routes id)
home_is routes id = elim (cases_lt id (length routes)) [
  | inl inside ↦ get_or-map slot_of routes id None None inside
  | inr past ↦
      let size = length-map routes slot_of in
      get_or_past (homes_of routes) id None (omega arith) ∙ sym (ap slot_of (get_or_past routes id None past))
]

-- an id comes, and stands nowhere
pub told_entered : (was now : Ties) (one : LivePiece) → IsEntered was one now → MayTell (told_of was) one.id (told_of now)
told_entered was now one entered = inr (
  homes_of entered.before,
  ap told_of entered.was_is,
  ap told_of entered.now_is ∙ ap Some (map-set slot_of entered.before one.id (Some (record { block = one.piece.dst; slot = None }))),
)

-- or goes
pub told_gone : (routes : Routes) (id : ℕ) → MayTell (Some (homes_of routes)) id (Some (homes_of (slice_set routes id None)))
told_gone routes id = inr (homes_of routes, refl, ap Some (map-set slot_of routes id None))

-- an id stands somewhere else
pub told_stood : (was : Ties) (id : ℕ) (slot : Option ℕ) → ((routes : Routes) → was ≡ ties.Told routes → is_some (route_of routes id) ≡ true)
    → told_of (stood_in was id slot) ≡ option_map (λ (homes : Homes). slice_set homes id slot) (told_of was)
told_stood (ties.Linked linked) id slot some = refl
told_stood (ties.Told routes) id slot some = by (route_of routes id) refl (some routes refl)
  where
    by : (found : Option Route) → route_of routes id ≡ found → is_some found ≡ true → Some (homes_of (with_slot routes id slot)) ≡ Some (slice_set (homes_of routes) id slot)
    by None is none = absurd (cc)
    by (Some route) is has = ap Some (ap (λ f. homes_of (moved routes id slot f)) is ∙ map-set slot_of routes id (Some (record { block = route.block; slot = slot })))

pub destinations_stood : (slots : ℕ) (live : List LivePiece) (before : Routes) (id : ℕ) (slot : Option ℕ) → AreDestinations slots live before → AreDestinations slots live (with_slot before id slot)
destinations_stood slots live before id slot are = stood (route_of before id) refl
  where
    stood : (found : Option Route) → route_of before id ≡ found → AreDestinations slots live (with_slot before id slot)
    stood None none = subst (λ f. AreDestinations slots live (moved before id slot f)) (sym none) are
    stood (Some route) has = subst (λ f. AreDestinations slots live (moved before id slot f)) (sym has) (record {
      many = length-set before id (Some new) ∙ are.many;
      from = λ other found there. from other found there (cases_eq other id);
      to = λ one c. to one c (cases_eq one.id id);
    })
      where
        new : Route
        new = record { block = route.block; slot = slot }

        inside : id < length before
        inside = elim (cases_lt id (length before)) [ inl less ↦ less | inr past ↦ absurd (cc (has, get_or_past before id None past)) ]

        here : route_of (slice_set before id (Some new)) id ≡ Some new
        here = get_or-set_same before id (Some new) None inside

        from : (other : ℕ) (found : Route) → route_of (slice_set before id (Some new)) other ≡ Some found → (other ≡ id) ⊎ (other ≢ id)
            → (one : LivePiece) × Contains live one × (one.id ≡ other) × (found.block ≡ one.piece.dst)
        from other found there (inl same) =
            let new_is : new ≡ found = cc (here, sym (ap (route_of (slice_set before id (Some new))) same) ∙ there) in
            let one = are.from id route has in
            (one.0, one.1, one.2 ∙ sym same, sym (ap (λ (r : Route). r.block) new_is) ∙ one.3)
        from other found there (inr off) = are.from other found (sym (get_or-set_other before id other (Some new) None off) ∙ there)

        to : (one : LivePiece) → Contains live one → (one.id ≡ id) ⊎ (one.id ≢ id)
            → (found : Route) × (route_of (slice_set before id (Some new)) one.id ≡ Some found) × (found.block ≡ one.piece.dst)
        to one c (inl same) =
            let was = are.to one c in
            let route_is : route ≡ was.0 = cc (has, sym (ap (route_of before) same) ∙ was.1) in
            (new, ap (route_of (slice_set before id (Some new))) same ∙ here, ap (λ (r : Route). r.block) route_is ∙ was.2)
        to one c (inr off) =
            let was = are.to one c in
            (was.0, get_or-set_other before id one.id (Some new) None off ∙ was.1, was.2)

pub tied_stood : (slots : ℕ) (live pieces : List LivePiece) (was : Ties) (id : ℕ) (slot : Option ℕ) → AreTied slots live pieces was → AreTied slots live pieces (stood_in was id slot)
tied_stood slots live pieces (ties.Told routes) id slot tied = record { known = destinations_stood slots live routes id slot tied.known; are = tied.are }
tied_stood slots live pieces (ties.Linked linked) id slot tied = tied

-- a route comes to those that are told, or one of them goes
pub tied_entered : (slots : ℕ) (live pieces : List LivePiece) (places : List ℕ) (was now : Ties) (one : LivePiece) → IsEntered was one now → IsComing slots live pieces places one → AreTied slots live pieces was
    → AreTied slots (live ++ one ∷ []) (pieces ++ one ∷ []) now
tied_entered slots live pieces places was now one entered coming tied =
    let told : AreTold slots live entered.before = subst (AreTied slots live pieces) entered.was_is tied in
    let more : AreTold slots (live ++ one ∷ []) (slice_set entered.before one.id (Some (route_to one))) = record {
      known = known_more slots live entered.before one coming.small coming.absent told.known;
      are = λ other c. elim (Contains-push_cases live one other c) [ inl old ↦ told.are other old | inr same ↦ subst IsRoute same entered.is ];
    } in
    subst (AreTied slots (live ++ one ∷ []) (pieces ++ one ∷ [])) (sym entered.now_is) more

pub told_less : (slots id place : ℕ) (live pieces : List LivePiece) (routes now : Routes) → now ≡ slice_set routes id None → IsGoing slots live pieces id place → AreTold slots live routes → AreTold slots (without_id live id) now
told_less slots id place live pieces routes now is going told = subst (AreTold slots (without_id live id)) (sym is) (record {
  known = known_less slots live routes id (live_small slots live id going.apart going.present) told.known;
  are = λ one c. told.are one (in_filter _ live one c).0;
})

-- the routes of live pieces, no two with one destination
pub record AreNestable (slots : ℕ) (live : List LivePiece) (routes : Routes) : Type 0 where
  pub apart : AreApart slots live
  pub known : AreDestinations slots live routes
  pub own : HaveOwn routes
  pub are : (one : LivePiece) → Contains live one → IsRoute one

-- the same, id by id
pub told_set : (was now : Option Homes) (id : ℕ) (slot : Option ℕ) → now ≡ option_map (λ (homes : Homes). slice_set homes id slot) was → ((before : Homes) → was ≡ Some before → id < length before) → IsToldAt was id slot now
told_set None now id slot same inside homes is = absurd (cc (same, is))
told_set (Some before) now id slot same inside homes is =
    let set : slice_set before id slot ≡ homes = cc (same, is) in (
      before,
      refl,
      subst (λ h. home_in h id ≡ slot) set (get_or-set_same before id slot None (inside before refl)),
      λ other off. subst (λ h. home_in h other ≡ home_in before other) set (get_or-set_other before id other slot None off),
    )

pub some_set : (was : Option Homes) (id : ℕ) (slot : Option ℕ) → is_some (option_map (λ (homes : Homes). slice_set homes id slot) was) ≡ is_some was
some_set None id slot = refl
some_set (Some homes) id slot = refl

-- what is told is told of a trie's routes
pub told_is : (kept : Ties) (homes : Homes) → told_of kept ≡ Some homes → (routes : Routes) × (kept ≡ ties.Told routes) × (homes ≡ homes_of routes)
told_is (ties.Linked linked) homes is = absurd (cc)
told_is (ties.Told routes) homes is = (routes, refl, cc (is))

pub homes_told : (kept : Ties) (routes : Routes) (homes : Homes) → kept ≡ ties.Told routes → told_of kept ≡ Some homes → homes_of routes ≡ homes
homes_told kept routes homes is told = let some : Some (homes_of routes) ≡ Some homes = sym (ap told_of is) ∙ told in cc

pub none_told : (kept : Ties) (linked : Linked) (homes : Homes) → kept ≡ ties.Linked linked → told_of kept ≡ Some homes → ⊥
none_told kept linked homes is told = absurd (let none : ◌≡◌ {A = Option Homes} None (Some homes) = sym (ap told_of is) ∙ told in cc)

pub nestable : (slots : ℕ) (live pieces : List LivePiece) (kept : Ties) (routes : Routes) → kept ≡ ties.Told routes → AreApart slots live → AreTied slots live pieces kept → HaveOwn routes → AreNestable slots live routes
nestable slots live pieces kept routes is apart tied own =
    let told : AreTold slots live routes = subst (AreTied slots live pieces) is tied in
    record { apart = apart; known = told.known; own = own; are = told.are }

module _ (slots : ℕ) (live : List LivePiece) (routes : Routes) (all : AreNestable slots live routes) where
  -- two pieces with one destination are one
  one_block : (a b : LivePiece) → Contains live a → Contains live b → a.piece.dst ≡ b.piece.dst → a.id ≡ b.id
  one_block a b in_a in_b same =
      let x = all.known.to a in_a in
      let y = all.known.to b in_b in
      all.own a.id b.id x.0 y.0 x.1 y.1 (x.2 ∙ (same ∙ sym y.2))

  -- one that is above another lies inside it,
  pub above_inside : (upper lower : ℕ) → is_above live upper lower ≡ true
      → (a : LivePiece) × (b : LivePiece) × Contains live a × Contains live b × (a.id ≡ upper) × (b.id ≡ lower) × IsInside b.piece.dst a.piece.dst
  above_inside upper lower e =
      let over = above_is live upper lower e in
      let less = over.less in
      let apart : over.upper.piece.dst ≡ over.lower.piece.dst → ⊥ = (λ same.
      let one = same_one live over.upper over.lower all.apart.once over.has_upper over.has_lower (one_block over.upper over.lower over.has_upper over.has_lower same) in
      let rank = ap (λ (x : LivePiece). x.rank) one in
      absurd (omega arith)) in
      (over.upper, over.lower, over.has_upper, over.has_lower, over.upper_id, over.lower_id, over_inside over.upper over.lower (all.are over.upper over.has_upper) (all.are over.lower over.has_lower) apart (over_of over))
    where
      over_of : (o : IsOver live upper lower) → is_over o.upper o.lower ≡ true
      over_of o = and_from _ _ o.meet (lt-ltb _ _ o.less)

  -- and back
  pub inside_above : (a b : LivePiece) → Contains live a → Contains live b → IsInside b.piece.dst a.piece.dst → is_above live a.id b.id ≡ true
  inside_above a b in_a in_b inside = is_above_from live a b in_a in_b (inside_over a b (all.are a in_a) (all.are b in_b) inside)

  -- so above is transitive
  pub above-trans : (upper middle lower : ℕ) → is_above live upper middle ≡ true → is_above live middle lower ≡ true → is_above live upper lower ≡ true
  above-trans upper middle lower first second =
      let (a, b, in_a, in_b, is_a, is_b, ab) = above_inside upper middle first in
      let (c, d, in_c, in_d, is_c, is_d, cd) = above_inside middle lower second in
      let same : b ≡ c = same_one live b c all.apart.once in_b in_c (is_b ∙ sym is_c) in
      let bd : IsInside d.piece.dst b.piece.dst = subst (λ (x : LivePiece). IsInside d.piece.dst x.piece.dst) (sym same) cd in
      subst (λ k. is_above live k lower ≡ true) is_a (subst (λ k. is_above live a.id k ≡ true) is_d (inside_above a d in_a in_d (inside-trans d.piece.dst b.piece.dst a.piece.dst bd ab)))

  -- the route of a live piece
  route_for : (one : LivePiece) → Contains live one → (route : Route) × (route_of routes one.id ≡ Some route) × (route.block ≡ one.piece.dst)
  route_for one c = all.known.to one c

  told_at : (id at : ℕ) (route : Route) → route_of routes id ≡ Some route → route.slot ≡ Some at → home_in (homes_of routes) id ≡ Some at
  told_at id at route has stands = home_is routes id ∙ (ap slot_of has ∙ stands)

  told_from : (id at : ℕ) (route : Route) → route_of routes id ≡ Some route → home_in (homes_of routes) id ≡ Some at → route.slot ≡ Some at
  told_from id at route has home = sym (ap slot_of has) ∙ (sym (home_is routes id) ∙ home)

  -- what stands inside a live route is above it
  stands_above : (one : LivePiece) → Contains live one → (at : ℕ) → StandsInside routes one.piece.dst at → StandsBy (λ other. is_above live other one.id) (homes_of routes) at
  stands_above one c at has =
      let (other, there, is, block) = all.known.from has.id has.route has.has in
      let inside : IsInside one.piece.dst other.piece.dst = subst (IsInside one.piece.dst) block has.inside in
      (has.id, subst (λ k. is_above live k one.id ≡ true) is (inside_above other one there c inside), told_at has.id at has.route has.has has.stands)

  above_stands : (one : LivePiece) → Contains live one → (at : ℕ) → StandsBy (λ other. is_above live other one.id) (homes_of routes) at → StandsInside routes one.piece.dst at
  above_stands one c at (id, above, home) =
      let (a, b, in_a, in_b, is_a, is_b, inside) = above_inside id one.id above in
      let same : b ≡ one = same_one live b one all.apart.once in_b c is_b in
      let (route, has, block) = route_for a in_a in
      let has_id : route_of routes id ≡ Some route = sym (ap (route_of routes) is_a) ∙ has in
      record {
        id = id;
        route = route;
        has = has_id;
        inside = subst (IsInside one.piece.dst) (sym block) (subst (λ (x : LivePiece). IsInside x.piece.dst a.piece.dst) same inside);
        stands = told_from id at route has_id home;
      }

  pub last_told : (one : LivePiece) → Contains live one → (found : Option ℕ) → IsLastInside routes one.piece.dst found → IsLastTold (λ other. is_above live other one.id) (homes_of routes) found
  last_told one c None none = λ at by. none at (above_stands one c at by)
  last_told one c (Some last) (stands, most) = (stands_above one c last stands, λ at by. most at (above_stands one c at by))

  -- what is below a live route and stands covers it
  record LowerAt (one : LivePiece) (id at : ℕ) : Type 0 where
    lower : LivePiece
    there : Contains live lower
    is : lower.id ≡ id
    inside : IsInside lower.piece.dst one.piece.dst
    stands : StandsAround routes one.piece.dst lower.piece.dst.len at

  lower_at : (one : LivePiece) → Contains live one → (id at : ℕ) → is_above live one.id id ≡ true → home_in (homes_of routes) id ≡ Some at → LowerAt one id at
  lower_at one c id at above home =
      let (a, b, in_a, in_b, is_a, is_b, inside) = above_inside one.id id above in
      let same : a ≡ one = same_one live a one all.apart.once in_a c is_a in
      let around : IsInside b.piece.dst one.piece.dst = subst (λ (x : LivePiece). IsInside b.piece.dst x.piece.dst) same inside in
      let (route, has, block) = route_for b in_b in
      let has_id : route_of routes id ≡ Some route = sym (ap (route_of routes) is_b) ∙ has in
      record {
        lower = b;
        there = in_b;
        is = is_b;
        inside = around;
        stands = record { id = id; route = route; has = has_id; around = subst (λ k. IsInside k one.piece.dst) (sym block) around; len_is = ap (λ (k : AddressBlock). k.len) block; stands = told_from id at route has_id home };
      }

  -- of two that cover it the longer is above the shorter, or they are one
  two_around : (a b : LivePiece) → Contains live a → Contains live b → (block : AddressBlock) → IsInside a.piece.dst block → IsInside b.piece.dst block → b.piece.dst.len ≤ a.piece.dst.len
      → (b.id ≡ a.id) ⊎ (is_above live a.id b.id ≡ true)
  two_around a b in_a in_b block around_a around_b le =
      let covers = covers-laminar b.piece.dst a.piece.dst block around_b.covers around_a.covers le in
      elim (cases_lt b.piece.dst.len a.piece.dst.len) [
        | inl less ↦ inr (inside_above a b in_a in_b (record { covers = covers; longer = less }))
        | inr same ↦ inl (one_block b a in_b in_a (covers-one b.piece.dst a.piece.dst (all.are b in_b).right (all.are a in_a).right covers same))
      ]

  pub next_told : (one : LivePiece) → Contains live one → (found : Option ℕ) → IsNearestAround routes one.piece.dst found → IsNextTold (is_above live) (homes_of routes) one.id found
  next_told one c None none = λ at by. none _ at (lower_at one c by.0 at by.1 by.2).stands
  next_told one c (Some near) (most, has, longest) =
      let (next, there, is, block) = all.known.from has.id has.route has.has in
      let around : IsInside next.piece.dst one.piece.dst = subst (λ k. IsInside k one.piece.dst) block has.around in
      let size : next.piece.dst.len ≡ most = sym (ap (λ (k : AddressBlock). k.len) block) ∙ has.len_is in
      record {
        next = has.id;
        below = subst (λ k. is_above live one.id k ≡ true) is (inside_above one next c there around);
        stands = told_at has.id near has.route has.has has.stands;
        first = λ other place above home.
            let l = lower_at one c other place above home in
            let le = longest l.lower.piece.dst.len place l.stands in
            elim (two_around next l.lower there l.there one.piece.dst around l.inside (omega arith)) [
              | inl same ↦ inl (sym l.is ∙ (same ∙ is))
              | inr over ↦ inr (subst (λ k. is_above live k other ≡ true) is (subst (λ k. is_above live next.id k ≡ true) l.is over))
            ];
      }
