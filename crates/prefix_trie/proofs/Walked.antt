-- The ids of the nodes that a walk has come past.
use Rattle.std.proofs.Common.{◌≡◌, ℕ, ◌+◌, ◌*◌, ◌^◌, ◌<◌, ◌≤◌, ◌⊎◌, ◌∷◌, [], true, false, List, Option, Some, None, inl, inr, refl, arith, sym, ◌∙◌, ap, subst, eqb-true}
use Rattle.std.specs.Prelude.{Contains, MatchOption, is_some, nat_eq}
use Rattle.std.specs.List.{IsDistinct}
use Rattle.std.specs.Cmp.{nat_eq_equiv}
use Rattle.std.proofs.lemmas.Bool.{cases_lt, false_from_ne_true}
use Rattle.std.proofs.lemmas.List.Elements.{Contains-append_left, Contains-append_right, Contains-push_cases}
use Rattle.std.proofs.lemmas.Map.Keys.{IsDistinct-push}
use Rattle.slot_order.proofs.Lists.{any_is, contains_head, contains_none}
use Rattle.rule_model.specs.AddressBlock.{AddressBlock, IsAddressBlock}
use Rattle.prefix_trie.specs.declared.node.Node.{Node}
use Rattle.prefix_trie.specs.Blocks.{Covers}
use Rattle.prefix_trie.specs.Nodes.{node_at}
use Rattle.prefix_trie.specs.Routes.{Route, Routes, IsNew, HasPrefix}
use Rattle.prefix_trie.specs.Trie.{IsTrie, AreHeld, IsDeepest, IsIdOf}
use Rattle.prefix_trie.specs.Nested.{AreNested, AreAllNested, order_of, IsNextNested, IsNextTo, HaveOnce, with_id, IsFoundBefore, AreFoundBefore, IsWalked}
use Rattle.prefix_trie.proofs.Halves.{covers-any, covers-self, covers-one}
use Rattle.prefix_trie.proofs.Orders.{order-one}
use Rattle.prefix_trie.proofs.Parts.{route_in, placed}
use Rattle.prefix_trie.proofs.Ways.{one_node}

none_once : IsDistinct nat_eq []
unfolding IsDistinct
none_once = tt

-- of two places between which no node is those before the one are those before the other
pub found_as : (nodes : List (Option Node)) (block : AddressBlock) (one other : ℕ) (ids : List ℕ)
    → ((at : ℕ) (node : Node) → node_at nodes at ≡ Some node → AreNested block node.prefix → order_of node.prefix < one → order_of node.prefix < other)
    → ((at : ℕ) (node : Node) → node_at nodes at ≡ Some node → AreNested block node.prefix → order_of node.prefix < other → order_of node.prefix < one)
    → AreFoundBefore nodes block one ids → AreFoundBefore nodes block other ids
found_as nodes block one other ids to from found = record {
  exact = λ id. (
    λ c.
        let was = (found.exact id).0 c in
        record { at = was.at; node = was.node; is = was.is; has = was.has; nested = was.nested; earlier = to was.at was.node was.is was.nested was.earlier },
    λ now. (found.exact id).1 (record { at = now.at; node = now.node; is = now.is; has = now.has; nested = now.nested; earlier = from now.at now.node now.is now.nested now.earlier }),
  );
  once = found.once;
}

module _ (nodes : List (Option Node)) (trie : IsTrie nodes) (once : HaveOnce nodes) (block : AddressBlock) where
  -- nodes at one place in the order are one
  one_order : (at other : ℕ) (here held : Node) → node_at nodes at ≡ Some here → node_at nodes other ≡ Some held → order_of held.prefix ≡ order_of here.prefix → held ≡ here
  one_order at other here held is held_is same =
      let one = order-one held.prefix here.prefix (trie.blocks other held held_is) (trie.blocks at here is) same in
      let place = trie.once other at held here held_is is one in
      let there : node_at nodes at ≡ Some held = subst (λ (p : ℕ). node_at nodes p ≡ Some held) place held_is in
      one_node nodes at held here there is

  -- an id of the node reached isn't among those before
  not_before : (at : ℕ) (here : Node) → node_at nodes at ≡ Some here → (id : ℕ) → here.id ≡ Some id → IsFoundBefore nodes block (order_of here.prefix) id → ⊥
  not_before at here is id has was =
      let place = once was.at at id was.node here was.is is was.has has in
      let there : node_at nodes at ≡ Some was.node = subst (λ (p : ℕ). node_at nodes p ≡ Some was.node) place was.is in
      let same = ap (λ (n : Node). order_of n.prefix) (one_node nodes at was.node here there is) in
      let earlier = was.earlier in
      absurd (omega arith)

  -- the ids with that of the node reached
  pub found_with : (at : ℕ) (here : Node) → node_at nodes at ≡ Some here → AreNested block here.prefix → (ids : List ℕ) → AreFoundBefore nodes block (order_of here.prefix) ids
      → AreFoundBefore nodes block (order_of here.prefix + 1) (with_id ids here.id)
  found_with at here is near ids found = by here.id refl
    where
      later : (id : ℕ) → IsFoundBefore nodes block (order_of here.prefix) id → IsFoundBefore nodes block (order_of here.prefix + 1) id
      later id was = let less = was.earlier in record { at = was.at; node = was.node; is = was.is; has = was.has; nested = was.nested; earlier = omega arith }

      sooner : (id : ℕ) → IsFoundBefore nodes block (order_of here.prefix + 1) id → IsFoundBefore nodes block (order_of here.prefix) id ⊎ (here.id ≡ Some id)
      sooner id now = elim (cases_lt (order_of now.node.prefix) (order_of here.prefix)) [
        | inl less ↦ inl (record { at = now.at; node = now.node; is = now.is; has = now.has; nested = now.nested; earlier = less })
        | inr le ↦
            let earlier = now.earlier in
            let same = one_order at now.at here now.node is now.is (omega arith) in
            inr (sym (ap (λ (n : Node). n.id) same) ∙ now.has)
      ]

      by : (id : Option ℕ) → here.id ≡ id → AreFoundBefore nodes block (order_of here.prefix + 1) (with_id ids id)
      by None none = record {
        exact = λ id. (
          λ c. later id ((found.exact id).0 c),
          λ now. elim (sooner id now) [ inl was ↦ (found.exact id).1 was | inr has ↦ absurd (cc (has, none)) ],
        );
        once = found.once;
      }
      by (Some new) some = record {
        exact = λ id. (
          λ c. elim (Contains-push_cases ids new id c) [
            | inl old ↦ later id ((found.exact id).0 old)
            | inr same ↦ record { at = at; node = here; is = is; has = some ∙ ap (λ (n : ℕ). Some n) same; nested = near; earlier = omega arith }
          ],
          λ now. elim (sooner id now) [
            | inl was ↦ Contains-append_left ids (new ∷ []) id ((found.exact id).1 was)
            | inr has ↦
                let same : new ≡ id = cc (some, has) in
                Contains-append_right ids (new ∷ []) id (subst (Contains (new ∷ [])) same (contains_head new []))
          ],
        );
        once = IsDistinct-push nat_eq_equiv ids new found.once (false_from_ne_true _ (λ e.
            let w = any_is (nat_eq new) ids e in
            not_before at here is new some ((found.exact new).0 (subst (Contains ids) (sym (eqb-true new w.0 w.2)) w.1))));
      }

  -- the walk goes on
  pub walk_on : (at next : ℕ) (here : Node) → node_at nodes at ≡ Some here → AreNested block here.prefix → (ids : List ℕ) → AreFoundBefore nodes block (order_of here.prefix) ids
      → IsNextNested nodes block here.prefix next → IsWalked nodes block next (with_id ids here.id)
  walk_on at next here is near ids found on = record {
    node = on.node;
    is = on.is;
    nested = on.nested;
    found = found_as nodes block (order_of here.prefix + 1) (order_of on.node.prefix) (with_id ids here.id)
        (λ other held held_is held_near less. let later = on.later in omega arith)
        (λ other held held_is held_near less. elim (cases_lt (order_of here.prefix) (order_of held.prefix)) [
          | inl behind ↦ let least = on.least other held held_is held_near behind in absurd (omega arith)
          | inr le ↦ omega arith
        ])
        (found_with at here is near ids found);
  }

  -- or it has ended
  pub walk_ended : (at : ℕ) (here : Node) → node_at nodes at ≡ Some here → AreNested block here.prefix → (ids : List ℕ) → AreFoundBefore nodes block (order_of here.prefix) ids
      → IsNextTo nodes block here.prefix None → AreFoundBefore nodes block (2 ^ 128 * 256) (with_id ids here.id)
  walk_ended at here is near ids found none =
      found_as nodes block (order_of here.prefix + 1) (2 ^ 128 * 256) (with_id ids here.id)
      (λ other held held_is held_near less. let right = trie.blocks other held held_is in let fits = right.fits in let most = right.length in omega arith)
      (λ other held held_is held_near less. elim (cases_lt (order_of here.prefix) (order_of held.prefix)) [ inl behind ↦ absurd (none other held held_is held_near behind) | inr le ↦ omega arith ])
      (found_with at here is near ids found)

  -- it begins at the node of every address, with no id
  pub walk_begun : IsAddressBlock block → IsWalked nodes block 0 []
  walk_begun right = record {
    node = trie.first;
    is = trie.root;
    nested = inr (subst (λ (b : AddressBlock). Covers b block) (sym trie.whole) (covers-any block right));
    found = record {
      exact = λ id. (
        λ c. absurd (contains_none id c),
        λ was.
            let zero = ap order_of trie.whole in
            let earlier = was.earlier in
            absurd (omega arith),
      );
      once = none_once;
    };
  }

-- the ids of routes by those of nodes
pub all-nested : (routes : Routes) (places : List (Option ℕ)) (nodes : List (Option Node)) → AreHeld routes places nodes → IsTrie nodes → (block : AddressBlock) (ids : List ℕ)
    → AreFoundBefore nodes block (2 ^ 128 * 256) ids → AreAllNested routes block ids
all-nested routes places nodes held trie block ids found = record {
  exact = λ id. (
    λ c.
        let was = (found.exact id).0 c in
        let there = held.some id was.at (held.ids was.at id was.node was.is was.has) in
        let same = one_node nodes was.at there.0 was.node there.1 was.is in
        record { route = route_in was.node; has = there.3 ∙ ap (λ (n : Node). Some (route_in n)) same; nested = was.nested },
    λ has.
        let there = placed routes places nodes held id has.route has.has in
        let right = trie.blocks there.at there.node there.is in
        let fits = right.fits in
        let most = right.length in
        (found.exact id).1 (record {
          at = there.at;
          node = there.node;
          is = there.is;
          has = there.id_is;
          nested = subst (λ (r : Route). AreNested block r.block) there.same has.nested;
          earlier = omega arith;
        }),
  );
  once = found.once;
}

pub held-once : (routes : Routes) (places : List (Option ℕ)) (nodes : List (Option Node)) → AreHeld routes places nodes → HaveOnce nodes
held-once routes places nodes held a b id one other one_is other_is one_has other_has =
    let first = held.ids a id one one_is one_has in
    let second = held.ids b id other other_is other_has in
    cc (first, second)

-- the deepest node that covers a block is that of the block, where it is no shorter
pub deep_named : (nodes : List (Option Node)) → IsTrie nodes → (block : AddressBlock) (at : ℕ) (here : Node) → IsAddressBlock block → (deep : IsDeepest nodes block at) → node_at nodes at ≡ Some here
    → block.len ≤ here.prefix.len → (found : Option ℕ) → here.id ≡ found → IsIdOf nodes block found
deep_named nodes trie block at here right deep is le found found_is = by found found_is
  where
    same : deep.node ≡ here
    same = one_node nodes at deep.node here deep.is is

    block_is : here.prefix ≡ block
    block_is = covers-one here.prefix block (trie.blocks at here is) right (subst (λ (n : Node). Covers n.prefix block) same deep.covers) le

    by : (found : Option ℕ) → here.id ≡ found → IsIdOf nodes block found
    by None none = λ id has.
        let place = trie.once has.at at has.node here has.is is (has.block_is ∙ sym block_is) in
        let there : node_at nodes at ≡ Some has.node = subst (λ (p : ℕ). node_at nodes p ≡ Some has.node) place has.is in
        let one = ap (λ (n : Node). n.id) (one_node nodes at has.node here there is) in
        let name = has.has in
        absurd (cc (one, name, none))
    by (Some id) some = record { at = at; node = here; is = is; block_is = block_is; has = some }

-- and where it is shorter the block has no node
pub deep_unnamed : (nodes : List (Option Node)) (block : AddressBlock) (at : ℕ) (here : Node) → (deep : IsDeepest nodes block at) → node_at nodes at ≡ Some here → here.prefix.len < block.len → IsIdOf nodes block None
deep_unnamed nodes block at here deep is less id has =
    let cov : Covers has.node.prefix block = subst (λ (b : AddressBlock). Covers has.node.prefix b) has.block_is (covers-self has.node.prefix) in
    let over = deep.deepest has.at has.node has.is cov in
    let order = over.order in
    let same = ap (λ (n : Node). n.prefix.len) (one_node nodes at deep.node here deep.is is) in
    let len = ap (λ (b : AddressBlock). b.len) has.block_is in
    absurd (omega arith)

-- the id of a route by that of its node
pub id-of-routes : (routes : Routes) (places : List (Option ℕ)) (nodes : List (Option Node)) → AreHeld routes places nodes → (block : AddressBlock) (found : Option ℕ) → IsIdOf nodes block found
    → MatchOption found (IsNew routes block) (HasPrefix routes block)
id-of-routes routes places nodes held block None none = λ id route has same.
    let there = placed routes places nodes held id route has in
    none id (record { at = there.at; node = there.node; is = there.is; block_is = sym (ap (λ (r : Route). r.block) there.same) ∙ same; has = there.id_is })
id-of-routes routes places nodes held block (Some id) some =
    let there = held.some id some.at (held.ids some.at id some.node some.is some.has) in
    let same = one_node nodes some.at there.0 some.node there.1 some.is in
    record { route = route_in some.node; has = there.3 ∙ ap (λ (n : Node). Some (route_in n)) same; same = some.block_is }

-- a place with a node
pub some_node : (nodes : List (Option Node)) (at : ℕ) → is_some (node_at nodes at) ≡ true → (node : Node) × (node_at nodes at ≡ Some node)
some_node nodes at some = by (node_at nodes at) refl
  where
    by : (found : Option Node) → node_at nodes at ≡ found → (node : Node) × (node_at nodes at ≡ Some node)
    by None is = let none : is_some (node_at nodes at) ≡ false = ap is_some is in absurd (cc (none, some))
    by (Some node) is = (node, is)

-- where none is found no id has it, and where one is found it has
pub new_if_none : (routes : Routes) (places : List (Option ℕ)) (nodes : List (Option Node)) → AreHeld routes places nodes → (block : AddressBlock) (found : Option ℕ) → IsIdOf nodes block found → is_some found ≡ false
    → IsNew routes block
new_if_none routes places nodes held block None is lacks = id-of-routes routes places nodes held block None is
new_if_none routes places nodes held block (Some id) is lacks = absurd (cc lacks)

pub had_if_some : (routes : Routes) (places : List (Option ℕ)) (nodes : List (Option Node)) → AreHeld routes places nodes → (block : AddressBlock) (found : Option ℕ) → IsIdOf nodes block found → is_some found ≡ true
    → (other : ℕ) × HasPrefix routes block other
had_if_some routes places nodes held block None is has = absurd (cc has)
had_if_some routes places nodes held block (Some id) is has = (id, id-of-routes routes places nodes held block (Some id) is)
