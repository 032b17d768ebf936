-- What the nodes say of the routes that they hold.
use Rattle.std.proofs.Common.{true, take, drop, ◌++◌, ◌≡◌, ◌≢◌, ℕ, ◌<◌, List, Option, Some, None, length, ◌⊎◌, inl, inr, refl, arith, sym, ◌∙◌, ap, subst}
use Rattle.std.specs.Prelude.{slice_set, slice_index_or, is_some, IsTrue}
use Rattle.std.proofs.lemmas.Bool.{cases_lt, cases_eq}
use Rattle.std.proofs.lemmas.Grind.{common_steps}
use Rattle.std.proofs.lemmas.List.{get_or_past, get_or_default, get_or-set_same, get_or-set_other, length-set}
use Rattle.rule_model.specs.AddressBlock.{AddressBlock, block_holds}
use Rattle.prefix_trie.specs.declared.node.Node.{Node}
use Rattle.prefix_trie.specs.Blocks.{IsInside}
use Rattle.prefix_trie.specs.Routes.{AreApart, Route, Routes, route_of, StandsInside, IsLastInside, StandsAround, IsNearestAround, IsAnswer}
use Rattle.prefix_trie.specs.Nodes.{node_at, bare, with_entry}
use Rattle.prefix_trie.specs.Changes.{with_slot, moved}
use Rattle.prefix_trie.proofs.Likes.{set_here, set_other}
use Rattle.prefix_trie.specs.Trie.{AreParts, AreHeld, IsTrie, HaveTops, AreLike, IsTopInside, HasSlotInside, IsNextAround, HasAround, HasHolder, IsHolder}
use Rattle.prefix_trie.proofs.Ways.{one_node}
use Rattle.prefix_trie.proofs.Tops.{most-same}

abbrev pub route_in : Node → Route
route_in node = record { block = node.prefix; slot = node.slot }

-- the id of a node that stands
pub record IsNamed (routes : Routes) (node : Node) : Type 0 where
  pub id : ℕ
  pub has : route_of routes id ≡ Some (route_in node)

-- the node of a route
pub record IsPlaced (places : List (Option ℕ)) (nodes : List (Option Node)) (id : ℕ) (route : Route) : Type 0 where
  pub at : ℕ
  pub node : Node
  pub place : slice_index_or places id None ≡ Some at
  pub is : node_at nodes at ≡ Some node
  pub id_is : node.id ≡ Some id
  pub same : route ≡ route_in node

pub named : (routes : Routes) (places : List (Option ℕ)) (nodes : List (Option Node)) → AreHeld routes places nodes → (at : ℕ) (node : Node) (slot : ℕ) → node_at nodes at ≡ Some node → node.slot ≡ Some slot → IsNamed routes node
named routes places nodes held at node slot is stands = by node.id refl
  where
    by : (id : Option ℕ) → node.id ≡ id → IsNamed routes node
    by None none = absurd (cc (held.bare at node is none, stands))
    by (Some id) some =
        let there = held.some id at (held.ids at id node is some) in
        let same = one_node nodes at there.0 node there.1 is in
        record { id = id; has = there.3 ∙ ap (λ (n : Node). Some (route_in n)) same }

pub placed : (routes : Routes) (places : List (Option ℕ)) (nodes : List (Option Node)) → AreHeld routes places nodes → (id : ℕ) (route : Route) → route_of routes id ≡ Some route → IsPlaced places nodes id route
placed routes places nodes held id route has = by (slice_index_or places id None) refl
  where
    by : (place : Option ℕ) → slice_index_or places id None ≡ place → IsPlaced places nodes id route
    by None none = absurd (cc (held.none id none, has))
    by (Some at) some =
        let there = held.some id at some in
        record { at = at; node = there.0; place = some; is = there.1; id_is = there.2; same = cc (there.3, has) }

pub last-routes : (routes : Routes) (places : List (Option ℕ)) (nodes : List (Option Node)) → AreHeld routes places nodes → (block : AddressBlock) (found : Option ℕ) → IsTopInside nodes block found → IsLastInside routes block found
last-routes routes places nodes held block found =
    most-same (HasSlotInside nodes block) (StandsInside routes block) found
    (λ slot has.
    let name = named routes places nodes held has.at has.node slot has.is has.stands in
    record { id = name.id; route = route_in has.node; has = name.has; inside = has.inside; stands = has.stands })
    (λ slot has.
    let there = placed routes places nodes held has.id has.route has.has in
    record {
      at = there.at;
      node = there.node;
      is = there.is;
      inside = subst (λ (r : Route). IsInside block r.block) there.same has.inside;
      stands = sym (ap (λ (r : Route). r.slot) there.same) ∙ has.stands;
    })

around-to : (routes : Routes) (places : List (Option ℕ)) (nodes : List (Option Node)) → AreHeld routes places nodes → (block : AddressBlock) (len slot : ℕ) → HasAround (λ (n : Node). n.slot) nodes block len slot → StandsAround routes block len slot
around-to routes places nodes held block len slot has =
    let name = named routes places nodes held has.at has.node slot has.is has.has in
    record { id = name.id; route = route_in has.node; has = name.has; around = has.around; len_is = has.len_is; stands = has.has }

around-from : (routes : Routes) (places : List (Option ℕ)) (nodes : List (Option Node)) → AreHeld routes places nodes → (block : AddressBlock) (len slot : ℕ) → StandsAround routes block len slot → HasAround (λ (n : Node). n.slot) nodes block len slot
around-from routes places nodes held block len slot has =
    let there = placed routes places nodes held has.id has.route has.has in
    record {
      at = there.at;
      node = there.node;
      is = there.is;
      around = subst (λ (r : Route). IsInside r.block block) there.same has.around;
      len_is = sym (ap (λ (r : Route). r.block.len) there.same) ∙ has.len_is;
      has = sym (ap (λ (r : Route). r.slot) there.same) ∙ has.stands;
    }

pub near-routes : (routes : Routes) (places : List (Option ℕ)) (nodes : List (Option Node)) → AreHeld routes places nodes → (block : AddressBlock) (found : Option ℕ) → IsNextAround (λ (n : Node). n.slot) nodes block found → IsNearestAround routes block found
near-routes routes places nodes held block None is = λ len slot has. is len slot (around-from routes places nodes held block len slot has)
near-routes routes places nodes held block (Some near) is =
    (is.0, around-to routes places nodes held block is.0 near is.1, λ len slot has. is.2 len slot (around-from routes places nodes held block len slot has))

-- a route that holds an address has a node that does
holder : (routes : Routes) (places : List (Option ℕ)) (nodes : List (Option Node)) → AreHeld routes places nodes → (address id : ℕ) (route : Route) → route_of routes id ≡ Some route → IsTrue (block_holds route.block address) → HasHolder nodes address route.block.len id
holder routes places nodes held address id route has holds =
    let there = placed routes places nodes held id route has in
    record {
      at = there.at;
      node = there.node;
      is = there.is;
      holds = subst (λ (r : Route). IsTrue (block_holds r.block address)) there.same holds;
      len_is = ap (λ (r : Route). r.block.len) (sym there.same);
      has = there.id_is;
    }

pub best-routes : (routes : Routes) (places : List (Option ℕ)) (nodes : List (Option Node)) → AreHeld routes places nodes → (address : ℕ) (found : Option ℕ) → IsHolder nodes address found → IsAnswer routes address found
best-routes routes places nodes held address None is = λ id route has holds. is route.block.len id (holder routes places nodes held address id route has holds)
best-routes routes places nodes held address (Some id) is =
    let one = is.1 in
    let there = held.some id one.at (held.ids one.at id one.node one.is one.has) in
    let same = one_node nodes one.at there.0 one.node there.1 one.is in
    let len_is = one.len_is in
    record {
      route = route_in one.node;
      has = there.3 ∙ ap (λ (n : Node). Some (route_in n)) same;
      holds = one.holds;
      longest = λ other route has holds.
          let most = is.2 route.block.len other (holder routes places nodes held address other route has holds) in
          omega arith;
    }

pub some_in : {X : Type 0} (xs : List (Option X)) (i : ℕ) (x : X) → slice_index_or xs i None ≡ Some x → i < length xs
some_in xs i x is = elim (cases_lt i (length xs)) [
  | inl lt ↦ lt
  | inr le ↦ absurd (cc (get_or_past xs i None le, is))
]

-- the node of an id whose slot changes, with what the nodes hold then
abbrev HoldsAt : Routes → List (Option Node) → ℕ → ℕ → Type 0
HoldsAt routes nodes id at = (node : Node) × (node_at nodes at ≡ Some node) × (node.id ≡ Some id) × (route_of routes id ≡ Some (route_in node))

pub held-stood : (routes : Routes) (places : List (Option ℕ)) (nodes new : List (Option Node)) → AreHeld routes places nodes → (id at : ℕ) (node : Node) (slot : Option ℕ) → slice_index_or places id None ≡ Some at
    → node_at nodes at ≡ Some node → node.id ≡ Some id → AreLike bare (slice_set nodes at (Some (with_entry node (Some id) slot))) new
    → AreHeld (slice_set routes id (Some (record { block = node.prefix; slot = slot }))) places new
held-stood routes places nodes new held id at node slot place is id_is like = record {
  many = held.many ∙ sym (length-set routes id (Some (record { block = node.prefix; slot = slot })));
  none = λ other none.
      let ne : other ≢ id = (λ (same : other ≡ id). absurd (cc (sym (ap (λ (i : ℕ). slice_index_or places i None) same) ∙ none, place))) in
      get_or-set_other routes id other (Some (record { block = node.prefix; slot = slot })) None ne ∙ held.none other none;
  some = λ other there put. some other there put (cases_eq other id);
  ids = λ there other one one_is one_id. ids there other one one_is one_id (cases_eq there at);
  bare = λ there one one_is none. bares there one one_is none (cases_eq there at);
}
  where
    entry_here : node_at (slice_set nodes at (Some (with_entry node (Some id) slot))) at ≡ Some (with_entry node (Some id) slot)
    entry_here = set_here nodes at node (Some (with_entry node (Some id) slot)) is

    here : HoldsAt (slice_set routes id (Some (record { block = node.prefix; slot = slot }))) new id at
    here =
        let now = like.to at (with_entry node (Some id) slot) entry_here in
        let size = some_in places id at place in
        let many = held.many in
        let route = get_or-set_same routes id (Some (record { block = node.prefix; slot = slot })) None (omega arith) in
        (now.found, now.is, ap (λ (n : Node). n.id) now.like, route ∙ ap (λ (n : Node). Some (route_in n)) (sym now.like))

    some : (other there : ℕ) → slice_index_or places other None ≡ Some there → (other ≡ id) ⊎ (other ≢ id) → HoldsAt (slice_set routes id (Some (record { block = node.prefix; slot = slot }))) new other there
    some other there put (inl same) =
        let moved : slice_index_or places id None ≡ Some there = sym (ap (λ (i : ℕ). slice_index_or places i None) same) ∙ put in
        let at_same : there ≡ at = cc (moved, place) in
        subst (λ (i : ℕ). HoldsAt (slice_set routes id (Some (record { block = node.prefix; slot = slot }))) new i there) (sym same)
        (subst (HoldsAt (slice_set routes id (Some (record { block = node.prefix; slot = slot }))) new id) (sym at_same) here)
    some other there put (inr ne) =
        let old = held.some other there put in
        let off : there ≢ at = (λ (same : there ≡ at).
        let at_at : node_at nodes at ≡ Some old.0 = sym (ap (node_at nodes) same) ∙ old.1 in
        let one = one_node nodes at old.0 node at_at is in
        let id_same : other ≡ id = cc (old.2, ap (λ (n : Node). n.id) one, id_is) in
        ne id_same) in
        let now = like.to there old.0 (set_other nodes at there (Some (with_entry node (Some id) slot)) off ∙ old.1) in (
          now.found,
          now.is,
          ap (λ (n : Node). n.id) now.like ∙ old.2,
          get_or-set_other routes id other (Some (record { block = node.prefix; slot = slot })) None ne ∙ (old.3 ∙ ap (λ (n : Node). Some (route_in n)) (sym now.like)),
        )

    ids : (there other : ℕ) (one : Node) → node_at new there ≡ Some one → one.id ≡ Some other → (there ≡ at) ⊎ (there ≢ at) → slice_index_or places other None ≡ Some there
    ids there other one one_is one_id (inl same) =
        let was = like.from there one one_is in
        let was_here : node_at (slice_set nodes at (Some (with_entry node (Some id) slot))) at ≡ Some was.found = sym (ap (node_at (slice_set nodes at (Some (with_entry node (Some id) slot)))) same) ∙ was.is in
        let found : with_entry node (Some id) slot ≡ was.found = cc (entry_here, was_here) in
        let id_same : id ≡ other = cc (ap (λ (n : Node). n.id) found, ap (λ (n : Node). n.id) was.like, one_id) in
        sym (ap (λ (i : ℕ). slice_index_or places i None) id_same) ∙ (place ∙ ap (λ (a : ℕ). Some a) (sym same))
    ids there other one one_is one_id (inr ne) =
        let was = like.from there one one_is in
        held.ids there other was.found (sym (set_other nodes at there (Some (with_entry node (Some id) slot)) ne) ∙ was.is) (ap (λ (n : Node). n.id) was.like ∙ one_id)

    bares : (there : ℕ) (one : Node) → node_at new there ≡ Some one → one.id ≡ None → (there ≡ at) ⊎ (there ≢ at) → one.slot ≡ None
    bares there one one_is none (inl same) =
        let was = like.from there one one_is in
        let was_here : node_at (slice_set nodes at (Some (with_entry node (Some id) slot))) at ≡ Some was.found = sym (ap (node_at (slice_set nodes at (Some (with_entry node (Some id) slot)))) same) ∙ was.is in
        let found : with_entry node (Some id) slot ≡ was.found = cc (entry_here, was_here) in
        absurd (cc (ap (λ (n : Node). n.id) found, ap (λ (n : Node). n.id) was.like, none))
    bares there one one_is none (inr ne) =
        let was = like.from there one one_is in
        sym (ap (λ (n : Node). n.slot) was.like)
        ∙ held.bare there was.found (sym (set_other nodes at there (Some (with_entry node (Some id) slot)) ne) ∙ was.is) (ap (λ (n : Node). n.id) was.like ∙ none)

-- a change of a slot keeps the parts
pub parts-stood : (routes : Routes) (places : List (Option ℕ)) (nodes new : List (Option Node)) → AreParts routes places nodes → length new ≡ length nodes → (id at : ℕ) (node : Node) (slot : Option ℕ) → slice_index_or places id None ≡ Some at
    → node_at nodes at ≡ Some node → IsTrie new → HaveTops new → AreLike bare (slice_set nodes at (Some (with_entry node (Some id) slot))) new
    → AreParts (with_slot routes id slot) places new
parts-stood routes places nodes new parts many id at node slot place is trie tops like =
    let there = parts.held.some id at place in
    let same = one_node nodes at there.0 node there.1 is in
    let has : route_of routes id ≡ Some (route_in node) = there.3 ∙ ap (λ (n : Node). Some (route_in n)) same in
    let id_is : node.id ≡ Some id = sym (ap (λ (n : Node). n.id) same) ∙ there.2 in
    let set : with_slot routes id slot ≡ slice_set routes id (Some (record { block = node.prefix; slot = slot })) = ap (moved routes id slot) has in
    let few = parts.few in
    subst (λ (r : Routes). AreParts r places new) (sym set)
    (record { few = omega arith; ids_few = parts.ids_few; trie = trie; tops = tops; held = held-stood routes places nodes new parts.held id at node slot place is id_is like })

-- an id that has a route
pub some_route : (route : Option Route) → is_some route ≡ true → (x : Route) × (route ≡ Some x)
some_route None some = absurd (cc)
some_route (Some x) some = (x, refl)

-- what was read at a place
read_place : (places : List (Option ℕ)) (id at : ℕ) (read : Option ℕ) → read ≡ slice_index_or places id read → slice_index_or places id None ≡ Some at → read ≡ Some at
read_place places id at read read_is place = read_is ∙ (get_or_default places id read None (some_in places id at place) ∙ place)

-- and the other way round
pub place_read : (places : List (Option ℕ)) (id at : ℕ) (read : Option ℕ) → id < length places → read ≡ slice_index_or places id read → read ≡ Some at → slice_index_or places id None ≡ Some at
place_read places id at read small read_is at_is = sym (get_or_default places id read None small) ∙ (sym read_is ∙ at_is)

pub id_within : (routes : Routes) (places : List (Option ℕ)) (nodes : List (Option Node)) → AreHeld routes places nodes → (id : ℕ) → is_some (route_of routes id) ≡ true → id < length places
id_within routes places nodes held id some =
    let has = some_route (route_of routes id) some in
    let there = placed routes places nodes held id has.0 has.1 in
    some_in places id there.at there.place

-- the node that was read by the place of an id
pub record IsRead (routes : Routes) (places : List (Option ℕ)) (nodes : List (Option Node)) (id at : ℕ) (route : Route) : Type 0 where
  pub node : Node
  pub place : slice_index_or places id None ≡ Some at
  pub is : node_at nodes at ≡ Some node
  pub same : route ≡ route_in node

pub read_node : (routes : Routes) (places : List (Option ℕ)) (nodes : List (Option Node)) → AreHeld routes places nodes → (id at : ℕ) (read : Option ℕ) → read ≡ slice_index_or places id read → read ≡ Some at
    → (route : Route) → route_of routes id ≡ Some route → IsRead routes places nodes id at route
read_node routes places nodes held id at read read_is at_is route has =
    let there = placed routes places nodes held id route has in
    let found = read_place places id there.at read read_is there.place in
    let same : there.at ≡ at = cc (found, at_is) in
    record {
      node = there.node;
      place = there.place ∙ ap (λ (n : ℕ). Some n) same;
      is = sym (ap (node_at nodes) same) ∙ there.is;
      same = there.same;
    }

pub read_some : (routes : Routes) (places : List (Option ℕ)) (nodes lent : List (Option Node)) → lent ≡ nodes → AreHeld routes places nodes → (id at : ℕ) (read : Option ℕ) → read ≡ slice_index_or places id read → read ≡ Some at
    → is_some (route_of routes id) ≡ true → is_some (node_at lent at) ≡ true
read_some routes places nodes lent lent_is held id at read read_is at_is some =
    let has = some_route (route_of routes id) some in
    let there = read_node routes places nodes held id at read read_is at_is has.0 has.1 in
    ap (λ (ns : List (Option Node)). is_some (node_at ns at)) lent_is ∙ ap is_some there.is

pub read_none : (routes : Routes) (places : List (Option ℕ)) (nodes : List (Option Node)) → AreHeld routes places nodes → (id : ℕ) (read : Option ℕ) → read ≡ slice_index_or places id read → read ≡ None
    → is_some (route_of routes id) ≡ true → ⊥
read_none routes places nodes held id read read_is none some =
    let has = some_route (route_of routes id) some in
    let there = placed routes places nodes held id has.0 has.1 in
    let found = read_place places id there.at read read_is there.place in
    absurd (cc (found, none))

pub last_of : (routes : Routes) (places : List (Option ℕ)) (nodes lent : List (Option Node)) → lent ≡ nodes → AreHeld routes places nodes → (id at : ℕ) (read : Option ℕ) → read ≡ slice_index_or places id read → read ≡ Some at
    → (route : Route) → route_of routes id ≡ Some route → (found : Option ℕ) → ((node : Node) → node_at lent at ≡ Some node → IsTopInside lent node.prefix found) → IsLastInside routes route.block found
last_of routes places nodes lent lent_is held id at read read_is at_is route has found top =
    let there = read_node routes places nodes held id at read read_is at_is route has in
    let node_is : node_at lent at ≡ Some there.node = ap (λ (ns : List (Option Node)). node_at ns at) lent_is ∙ there.is in
    let inside : IsTopInside nodes there.node.prefix found = subst (λ (ns : List (Option Node)). IsTopInside ns there.node.prefix found) lent_is (top there.node node_is) in
    subst (λ (r : Route). IsLastInside routes r.block found) (sym there.same) (last-routes routes places nodes held there.node.prefix found inside)

pub near_of : (routes : Routes) (places : List (Option ℕ)) (nodes lent : List (Option Node)) → lent ≡ nodes → AreHeld routes places nodes → (id at : ℕ) (read : Option ℕ) → read ≡ slice_index_or places id read → read ≡ Some at
    → (route : Route) → route_of routes id ≡ Some route → (found : Option ℕ) → ((node : Node) → node_at lent at ≡ Some node → IsNextAround (λ (n : Node). n.slot) lent node.prefix found) → IsNearestAround routes route.block found
near_of routes places nodes lent lent_is held id at read read_is at_is route has found near =
    let there = read_node routes places nodes held id at read read_is at_is route has in
    let node_is : node_at lent at ≡ Some there.node = ap (λ (ns : List (Option Node)). node_at ns at) lent_is ∙ there.is in
    let around : IsNextAround (λ (n : Node). n.slot) nodes there.node.prefix found = subst (λ (ns : List (Option Node)). IsNextAround (λ (n : Node). n.slot) ns there.node.prefix found) lent_is (near there.node node_is) in
    subst (λ (r : Route). IsNearestAround routes r.block found) (sym there.same) (near-routes routes places nodes held there.node.prefix found around)

-- all of a list that takes another's place
pub whole_of : {X : Type 0} (new old : List X) (n : ℕ) → length new ≡ n → take n (new ++ drop (length new) old) ≡ new
whole_of new old n same = grind (arith, common_steps)

-- no two ids have one prefix
pub own_of : (routes : Routes) (places : List (Option ℕ)) (nodes : List (Option Node)) → IsTrie nodes → AreHeld routes places nodes → AreApart routes
own_of routes places nodes trie held a b one other has_a has_b same =
    let x = placed routes places nodes held a one has_a in
    let y = placed routes places nodes held b other has_b in
    let prefix : x.node.prefix ≡ y.node.prefix = sym (ap (λ (r : Route). r.block) x.same) ∙ (same ∙ ap (λ (r : Route). r.block) y.same) in
    let at = trie.once x.at y.at x.node y.node x.is y.is prefix in
    let node = one_node nodes y.at x.node y.node (subst (λ n. node_at nodes n ≡ Some x.node) at x.is) y.is in
    let ids = ap (λ (n : Node). n.id) node in
    cc (x.id_is, y.id_is, ids)
