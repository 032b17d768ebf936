-- What the nodes hold where an id gets a prefix or loses it.
use Rattle.std.proofs.Common.{◌≡◌, ◌≢◌, ℕ, ◌<◌, ◌^◌, List, Option, Some, None, length, ◌⊎◌, inl, inr, refl, arith, sym, ◌∙◌, ap, subst, true}
use Rattle.std.specs.Prelude.{slice_set, slice_index_or, is_some}
use Rattle.std.proofs.lemmas.Bool.{cases_eq}
use Rattle.std.proofs.lemmas.List.{get_or-set_same, get_or-set_other, length-set}
use Rattle.rule_model.specs.AddressBlock.{AddressBlock}
use Rattle.prefix_trie.specs.declared.node.Node.{Node}
use Rattle.prefix_trie.specs.Routes.{Routes, route_of, IsNew}
use Rattle.prefix_trie.specs.Nodes.{node_at, bare, with_entry, whole, entry}
use Rattle.prefix_trie.specs.Trie.{AreHeld, AreParts, AreLike, AreEntries, IsTrie, HaveTops, HaveBare, IsMade, IsTop}
use Rattle.prefix_trie.proofs.Likes.{set_here, set_other, trie-like, top-like, links-like}
use Rattle.prefix_trie.proofs.Ways.{one_node}
use Rattle.prefix_trie.proofs.Parts.{route_in, some_in}

-- what has an id stays held
pub held-entries : (routes : Routes) (places : List (Option ℕ)) (old new : List (Option Node)) → AreHeld routes places old → AreEntries old new → AreHeld routes places new
held-entries routes places old new held same = record {
  many = held.many;
  none = held.none;
  some = λ id at put.
      let was = held.some id at put in
      let now = same.to at id was.0 was.1 was.2 in
      (now.found, now.is, ap (λ (n : Node). n.id) now.like ∙ was.2, was.3 ∙ ap (λ (n : Node). Some (route_in n)) (sym now.like));
  ids = λ at id node is has.
      let was = same.from at id node is has in
      held.ids at id was.found was.is (ap (λ (n : Node). n.id) was.like ∙ has);
  bare = same.bare held.bare;
}

-- all stays that is the same
pub entries-same : (old new : List (Option Node)) → AreLike whole old new → AreEntries old new
entries-same old new like = record {
  to = λ at id node is has. let now = like.to at node is in record { found = now.found; is = now.is; like = ap entry now.like };
  from = λ at id node is has. let was = like.from at node is in record { found = was.found; is = was.is; like = ap entry was.like };
  bare = λ bares at node is none. let was = like.from at node is in sym (ap (λ (n : Node). n.slot) was.like) ∙ bares at was.found was.is (ap (λ (n : Node). n.id) was.like ∙ none);
}

pub parts-same : (routes : Routes) (places : List (Option ℕ)) (old new : List (Option Node)) → AreParts routes places old → AreLike whole old new → length new < 2 ^ 32 → AreParts routes places new
parts-same routes places old new parts like few =
    let bares : AreLike bare old new = record {
      to = λ at node is. let now = like.to at node is in record { found = now.found; is = now.is; like = ap bare now.like };
      from = λ at node is. let was = like.from at node is in record { found = was.found; is = was.is; like = ap bare was.like };
    } in
    record {
      few = few;
      ids_few = parts.ids_few;
      trie = trie-like old new (links-like old new bares) parts.trie;
      tops = λ at node is.
          let was = like.from at node is in
          subst (λ (n : Node). IsTop new n.prefix n.top) was.like (top-like old new bares was.found.prefix was.found.top (parts.tops at was.found was.is));
      held = held-entries routes places old new parts.held (entries-same old new like);
    }

-- an id without a route has no node
no_place : (routes : Routes) (places : List (Option ℕ)) (nodes : List (Option Node)) → AreHeld routes places nodes → (id : ℕ) → route_of routes id ≡ None → (at : ℕ) → slice_index_or places id None ≡ Some at → ⊥
no_place routes places nodes held id none at put = let was = held.some id at put in cc (was.3, none)

-- the node of a prefix that no id has has no id
no_name : (routes : Routes) (places : List (Option ℕ)) (nodes : List (Option Node)) → AreHeld routes places nodes → (at : ℕ) (node : Node) → node_at nodes at ≡ Some node → IsNew routes node.prefix → (name : Option ℕ) → node.id ≡ name → node.id ≡ None
no_name routes places nodes held at node is new None none = none
no_name routes places nodes held at node is new (Some id) some =
    let was = held.some id at (held.ids at id node is some) in
    let same = one_node nodes at was.0 node was.1 is in
    absurd (new id (route_in was.0) was.3 (ap (λ (n : Node). n.prefix) same))

abbrev HoldsAt : Routes → List (Option Node) → ℕ → ℕ → Type 0
HoldsAt routes nodes id at = (node : Node) × (node_at nodes at ≡ Some node) × (node.id ≡ Some id) × (route_of routes id ≡ Some (route_in node))

module _ (routes : Routes) (places : List (Option ℕ)) (nodes new : List (Option Node)) (held : AreHeld routes places nodes) (id at : ℕ) (node : Node) (is : node_at nodes at ≡ Some node) (small : id < length places) where
  -- an id gets the node of its prefix
  pub held-entered : route_of routes id ≡ None → node.id ≡ None → AreLike bare (slice_set nodes at (Some (with_entry node (Some id) None))) new
      → AreHeld (slice_set routes id (Some (record { block = node.prefix; slot = None }))) (slice_set places id (Some at)) new
  held-entered absent free like = record {
    many = length-set places id (Some at) ∙ (held.many ∙ sym (length-set routes id (Some (record { block = node.prefix; slot = None }))));
    none = λ other none. elim (cases_eq other id) [
      | inl same ↦ absurd (cc (ap (λ (i : ℕ). slice_index_or (slice_set places id (Some at)) i None) same, place_here, none))
      | inr ne ↦ get_or-set_other routes id other (Some (record { block = node.prefix; slot = None })) None ne ∙ held.none other (sym (get_or-set_other places id other (Some at) None ne) ∙ none)
    ];
    some = λ other there put. some other there put (cases_eq other id);
    ids = λ there other one one_is has. ids there other one one_is has (cases_eq there at);
    bare = λ there one one_is none. bares there one one_is none (cases_eq there at);
  }
    where
      place_here : slice_index_or (slice_set places id (Some at)) id None ≡ Some at
      place_here = get_or-set_same places id (Some at) None small

      node_here : node_at (slice_set nodes at (Some (with_entry node (Some id) None))) at ≡ Some (with_entry node (Some id) None)
      node_here = set_here nodes at node (Some (with_entry node (Some id) None)) is

      here : HoldsAt (slice_set routes id (Some (record { block = node.prefix; slot = None }))) new id at
      here =
          let now = like.to at (with_entry node (Some id) None) node_here in
          let many = held.many in
          let route = get_or-set_same routes id (Some (record { block = node.prefix; slot = None })) None (omega arith) in
          (now.found, now.is, ap (λ (n : Node). n.id) now.like, route ∙ ap (λ (n : Node). Some (route_in n)) (sym now.like))

      some : (other there : ℕ) → slice_index_or (slice_set places id (Some at)) other None ≡ Some there → (other ≡ id) ⊎ (other ≢ id) → HoldsAt (slice_set routes id (Some (record { block = node.prefix; slot = None }))) new other there
      some other there put (inl same) =
          let at_same : at ≡ there = cc (ap (λ (i : ℕ). slice_index_or (slice_set places id (Some at)) i None) same, place_here, put) in
          subst (λ (i : ℕ). HoldsAt (slice_set routes id (Some (record { block = node.prefix; slot = None }))) new i there) (sym same)
          (subst (HoldsAt (slice_set routes id (Some (record { block = node.prefix; slot = None }))) new id) at_same here)
      some other there put (inr ne) =
          let old = held.some other there (sym (get_or-set_other places id other (Some at) None ne) ∙ put) in
          let off : there ≢ at = (λ (same : there ≡ at).
          let at_at : node_at nodes at ≡ Some old.0 = sym (ap (node_at nodes) same) ∙ old.1 in
          let one = one_node nodes at old.0 node at_at is in
          absurd (cc (old.2, ap (λ (n : Node). n.id) one, free))) in
          let now = like.to there old.0 (set_other nodes at there (Some (with_entry node (Some id) None)) off ∙ old.1) in (
            now.found,
            now.is,
            ap (λ (n : Node). n.id) now.like ∙ old.2,
            get_or-set_other routes id other (Some (record { block = node.prefix; slot = None })) None ne ∙ (old.3 ∙ ap (λ (n : Node). Some (route_in n)) (sym now.like)),
          )

      ids : (there other : ℕ) (one : Node) → node_at new there ≡ Some one → one.id ≡ Some other → (there ≡ at) ⊎ (there ≢ at) → slice_index_or (slice_set places id (Some at)) other None ≡ Some there
      ids there other one one_is has (inl same) =
          let was = like.from there one one_is in
          let was_here : node_at (slice_set nodes at (Some (with_entry node (Some id) None))) at ≡ Some was.found = sym (ap (node_at (slice_set nodes at (Some (with_entry node (Some id) None)))) same) ∙ was.is in
          let found : with_entry node (Some id) None ≡ was.found = cc (node_here, was_here) in
          let id_same : id ≡ other = cc (ap (λ (n : Node). n.id) found, ap (λ (n : Node). n.id) was.like, has) in
          sym (ap (λ (i : ℕ). slice_index_or (slice_set places id (Some at)) i None) id_same) ∙ (place_here ∙ ap (λ (a : ℕ). Some a) (sym same))
      ids there other one one_is has (inr ne) =
          let was = like.from there one one_is in
          let put = held.ids there other was.found (sym (set_other nodes at there (Some (with_entry node (Some id) None)) ne) ∙ was.is) (ap (λ (n : Node). n.id) was.like ∙ has) in
          let off : other ≢ id = (λ (same : other ≡ id). absurd (no_place routes places nodes held id absent there (sym (ap (λ (i : ℕ). slice_index_or places i None) same) ∙ put))) in
          get_or-set_other places id other (Some at) None off ∙ put

      bares : (there : ℕ) (one : Node) → node_at new there ≡ Some one → one.id ≡ None → (there ≡ at) ⊎ (there ≢ at) → one.slot ≡ None
      bares there one one_is none (inl same) =
          let was = like.from there one one_is in
          let was_here : node_at (slice_set nodes at (Some (with_entry node (Some id) None))) at ≡ Some was.found = sym (ap (node_at (slice_set nodes at (Some (with_entry node (Some id) None)))) same) ∙ was.is in
          let found : with_entry node (Some id) None ≡ was.found = cc (node_here, was_here) in
          absurd (cc (ap (λ (n : Node). n.id) found, ap (λ (n : Node). n.id) was.like, none))
      bares there one one_is none (inr ne) =
          let was = like.from there one one_is in
          sym (ap (λ (n : Node). n.slot) was.like)
          ∙ held.bare there was.found (sym (set_other nodes at there (Some (with_entry node (Some id) None)) ne) ∙ was.is) (ap (λ (n : Node). n.id) was.like ∙ none)

  -- an id leaves its node
  pub held-left : slice_index_or places id None ≡ Some at → AreLike bare (slice_set nodes at (Some (with_entry node None None))) new → AreHeld (slice_set routes id None) (slice_set places id None) new
  held-left place like = record {
    many = length-set places id None ∙ (held.many ∙ sym (length-set routes id None));
    none = λ other none. elim (cases_eq other id) [
      | inl same ↦
          let many = held.many in
          ap (λ (i : ℕ). route_of (slice_set routes id None) i) same ∙ get_or-set_same routes id None None (omega arith)
      | inr ne ↦ get_or-set_other routes id other None None ne ∙ held.none other (sym (get_or-set_other places id other None None ne) ∙ none)
    ];
    some = λ other there put. elim (cases_eq other id) [
      | inl same ↦ absurd (cc (ap (λ (i : ℕ). slice_index_or (slice_set places id None) i None) same, get_or-set_same places id None None small, put))
      | inr ne ↦ some other there (sym (get_or-set_other places id other None None ne) ∙ put) ne
    ];
    ids = λ there other one one_is has. ids there other one one_is has (cases_eq there at);
    bare = λ there one one_is none. bares there one one_is none (cases_eq there at);
  }
    where
      node_here : node_at (slice_set nodes at (Some (with_entry node None None))) at ≡ Some (with_entry node None None)
      node_here = set_here nodes at node (Some (with_entry node None None)) is

      -- what stands there now
      now_here : (there : ℕ) (one : Node) → node_at new there ≡ Some one → there ≡ at → bare (with_entry node None None) ≡ bare one
      now_here there one one_is same =
          let was = like.from there one one_is in
          let was_here : node_at (slice_set nodes at (Some (with_entry node None None))) at ≡ Some was.found = sym (ap (node_at (slice_set nodes at (Some (with_entry node None None)))) same) ∙ was.is in
          let found : with_entry node None None ≡ was.found = cc (node_here, was_here) in
          ap bare found ∙ was.like

      name : node.id ≡ Some id
      name =
          let had = held.some id at place in
          sym (ap (λ (n : Node). n.id) (one_node nodes at had.0 node had.1 is)) ∙ had.2

      some : (other there : ℕ) → slice_index_or places other None ≡ Some there → other ≢ id → HoldsAt (slice_set routes id None) new other there
      some other there put ne =
          let old = held.some other there put in
          let off : there ≢ at = (λ (same : there ≡ at).
          let at_at : node_at nodes at ≡ Some old.0 = sym (ap (node_at nodes) same) ∙ old.1 in
          let one = one_node nodes at old.0 node at_at is in
          let id_same : other ≡ id = cc (old.2, ap (λ (n : Node). n.id) one, name) in
          ne id_same) in
          let now = like.to there old.0 (set_other nodes at there (Some (with_entry node None None)) off ∙ old.1) in (
            now.found,
            now.is,
            ap (λ (n : Node). n.id) now.like ∙ old.2,
            get_or-set_other routes id other None None ne ∙ (old.3 ∙ ap (λ (n : Node). Some (route_in n)) (sym now.like)),
          )

      ids : (there other : ℕ) (one : Node) → node_at new there ≡ Some one → one.id ≡ Some other → (there ≡ at) ⊎ (there ≢ at) → slice_index_or (slice_set places id None) other None ≡ Some there
      ids there other one one_is has (inl same) = absurd (cc (ap (λ (n : Node). n.id) (now_here there one one_is same), has))
      ids there other one one_is has (inr ne) =
          let was = like.from there one one_is in
          let put = held.ids there other was.found (sym (set_other nodes at there (Some (with_entry node None None)) ne) ∙ was.is) (ap (λ (n : Node). n.id) was.like ∙ has) in
          let off : other ≢ id = (λ (same : other ≡ id).
          let again : slice_index_or places id None ≡ Some there = sym (ap (λ (i : ℕ). slice_index_or places i None) same) ∙ put in
          let there_at : there ≡ at = cc (again, place) in
          ne there_at) in
          get_or-set_other places id other None None off ∙ put

      bares : (there : ℕ) (one : Node) → node_at new there ≡ Some one → one.id ≡ None → (there ≡ at) ⊎ (there ≢ at) → one.slot ≡ None
      bares there one one_is none (inl same) = sym (ap (λ (n : Node). n.slot) (now_here there one one_is same))
      bares there one one_is none (inr ne) =
          let was = like.from there one one_is in
          sym (ap (λ (n : Node). n.slot) was.like)
          ∙ held.bare there was.found (sym (set_other nodes at there (Some (with_entry node None None)) ne) ∙ was.is) (ap (λ (n : Node). n.id) was.like ∙ none)

-- an entry by what it is
pub like_given : (nodes new : List (Option Node)) (at : ℕ) (node : Node) (id given_id slot given_slot : Option ℕ) → given_id ≡ id → given_slot ≡ slot
    → AreLike bare (slice_set nodes at (Some (with_entry node given_id given_slot))) new → AreLike bare (slice_set nodes at (Some (with_entry node id slot))) new
like_given nodes new at node id given_id slot given_slot id_is slot_is like =
    subst (λ (i : Option ℕ). AreLike bare (slice_set nodes at (Some (with_entry node i slot))) new) id_is
    (subst (λ (s : Option ℕ). AreLike bare (slice_set nodes at (Some (with_entry node given_id s))) new) slot_is like)

-- an id gets a prefix that no id has
pub parts-entered : (routes : Routes) (places : List (Option ℕ)) (nodes mid new : List (Option Node)) → AreParts routes places nodes → (id at : ℕ) (block : AddressBlock) → route_of routes id ≡ None → IsNew routes block → id < length places
    → AreEntries nodes mid → (made : IsMade mid block at) → AreLike bare (slice_set mid at (Some (with_entry made.node (Some id) None))) new → IsTrie new → HaveTops new → length new < 2 ^ 32
    → AreParts (slice_set routes id (Some (record { block = block; slot = None }))) (slice_set places id (Some at)) new
parts-entered routes places nodes mid new parts id at block absent fresh small same made like trie tops few =
    let held = held-entries routes places nodes mid parts.held same in
    let free = no_name routes places mid held at made.node made.is (subst (IsNew routes) (sym made.block_is) fresh) made.node.id refl in
    let done = held-entered routes places mid new held id at made.node made.is small absent free like in
    let ids_few = parts.ids_few in
    let size = length-set places id (Some at) in
    record {
      few = few;
      ids_few = omega arith;
      trie = trie;
      tops = tops;
      held = subst (λ (b : AddressBlock). AreHeld (slice_set routes id (Some (record { block = b; slot = None }))) (slice_set places id (Some at)) new) made.block_is done;
    }

-- an id loses its prefix
pub parts-left : (routes : Routes) (places : List (Option ℕ)) (nodes mid new : List (Option Node)) → AreParts routes places nodes → (id at : ℕ) (node : Node) → slice_index_or places id None ≡ Some at → node_at nodes at ≡ Some node
    → AreLike bare (slice_set nodes at (Some (with_entry node None None))) mid → AreEntries mid new → IsTrie new → HaveTops new → length new < 2 ^ 32
    → AreParts (slice_set routes id None) (slice_set places id None) new
parts-left routes places nodes mid new parts id at node place is like same trie tops few =
    let held = held-left routes places nodes mid parts.held id at node is (some_in places id at place) place like in
    let ids_few = parts.ids_few in
    let size = length-set places id None in
    record { few = few; ids_few = omega arith; trie = trie; tops = tops; held = held-entries (slice_set routes id None) (slice_set places id None) mid new held same }

-- behind that those without an id stand in no slot
pub bare_left : (routes : Routes) (places : List (Option ℕ)) (nodes mid : List (Option Node)) → AreParts routes places nodes → (id at : ℕ) (node : Node) → slice_index_or places id None ≡ Some at → node_at nodes at ≡ Some node
    → AreLike bare (slice_set nodes at (Some (with_entry node None None))) mid → HaveBare mid
bare_left routes places nodes mid parts id at node place is like =
    (held-left routes places nodes mid parts.held id at node is (some_in places id at place) place like).bare

pub here_left : (nodes mid : List (Option Node)) (at : ℕ) (node now : Node) → node_at nodes at ≡ Some node → AreLike bare (slice_set nodes at (Some now)) mid → is_some (node_at mid at) ≡ true
here_left nodes mid at node now is like = ap is_some (like.to at now (set_here nodes at node (Some now) is)).is
