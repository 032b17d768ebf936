-- Two lists of nodes that differ by one node between another and its child.
use Rattle.std.proofs.Common.{◌≡◌, ◌≢◌, ℕ, Bool, List, Option, Some, None, inl, inr, refl, sym, ◌∙◌, ap, subst}
use Rattle.std.proofs.lemmas.Bool.{cases_eq}
use Rattle.rule_model.specs.AddressBlock.{AddressBlock}
use Rattle.prefix_trie.specs.declared.node.Node.{Node}
use Rattle.prefix_trie.specs.Blocks.{Covers}
use Rattle.prefix_trie.specs.Nodes.{node_at, child_of, turned, with_parent, entry}
use Rattle.prefix_trie.specs.Trie.{IsFresh, IsBetween, IsAttached, IsKept, HasKept, HasLike, HasSlot, AreEntries, HaveBare}
use Rattle.prefix_trie.proofs.Ways.{one_node}
use Rattle.prefix_trie.proofs.Writes.{child-turned, child-kept, turned-prefix, turned-parent, turned-id, turned-slot, turned-top, child-under, is_cases}

module _ (fewer more : List (Option Node)) (at place : ℕ) (bit : Bool) (block : AddressBlock) (here fresh : Node) (is : IsBetween fewer more at place bit here fresh) (new : IsFresh fewer block at (child_of here bit) fresh) where
  old_place : (other : ℕ) (node : Node) → node_at fewer other ≡ Some node → other ≢ place
  old_place other node node_is same =
      let there : node_at fewer place ≡ Some node = rw same at node_is in
      cc (there, is.none)

  to_here : (node : Node) → here ≡ node → HasKept fewer more at place bit (child_of here bit) at node
  to_here node same = record {
    now = turned here bit (Some place);
    is = is.now_is;
    old_place = old_place at here is.here_is;
    kept = record {
      node = here;
      is = is.here_is;
      prefix = turned-prefix here bit (Some place);
      id_is = turned-id here bit (Some place);
      slot_is = turned-slot here bit (Some place);
      top_is = turned-top here bit (Some place);
      moved = λ was. absurd (is.off at was refl);
      stays = λ off. turned-parent here bit (Some place);
      on_side = λ on. child-turned here bit (Some place);
      elsewhere = λ side off. child-kept here bit side (Some place) (λ on. off (refl, on));
    };
    same = same;
  }

  to_child : (other : ℕ) (node : Node) → node_at fewer other ≡ Some node → other ≢ at → child_of here bit ≡ Some other → HasKept fewer more at place bit (child_of here bit) other node
  to_child other node node_is off_at was =
      let below = is.below other was in
      record {
        now = with_parent below.0 (Some place);
        is = below.3;
        old_place = old_place other node node_is;
        kept = record {
          node = below.0;
          is = below.1;
          prefix = refl;
          id_is = refl;
          slot_is = refl;
          top_is = refl;
          moved = λ on. refl;
          stays = λ off. absurd (off was);
          on_side = λ on. absurd (off_at on);
          elsewhere = λ side off. child-under below.0 (Some place) side;
        };
        same = one_node fewer other below.0 node below.1 node_is;
      }

  to_other : (other : ℕ) (node : Node) → node_at fewer other ≡ Some node → other ≢ at → (child_of here bit ≡ Some other → ⊥) → HasKept fewer more at place bit (child_of here bit) other node
  to_other other node node_is off_at off = record {
    now = node;
    is = is.same other (old_place other node node_is) off_at off ∙ node_is;
    old_place = old_place other node node_is;
    kept = record {
      node = node;
      is = node_is;
      prefix = refl;
      id_is = refl;
      slot_is = refl;
      top_is = refl;
      moved = λ was. absurd (off was);
      stays = λ stay. refl;
      on_side = λ on. absurd (off_at on);
      elsewhere = λ side stay. refl;
    };
    same = refl;
  }

  to : (other : ℕ) (node : Node) → node_at fewer other ≡ Some node → HasKept fewer more at place bit (child_of here bit) other node
  to other node node_is = elim (cases_eq other at) [
    | inl same ↦
        let there : node_at fewer at ≡ Some node = rw same at node_is in
        subst (λ (o : ℕ). HasKept fewer more at place bit (child_of here bit) o node) (sym same) (to_here node (one_node fewer at here node is.here_is there))
    | inr off_at ↦ elim (is_cases (child_of here bit) other) [
      | inl was ↦ to_child other node node_is off_at was
      | inr off ↦ to_other other node node_is off_at off
    ]
  ]

  from : (other : ℕ) (now : Node) → node_at more other ≡ Some now → other ≢ place → IsKept fewer at place bit (child_of here bit) other now
  from other now now_is off_place = by (node_at fewer other) refl
    where
      by : (found : Option Node) → node_at fewer other ≡ found → IsKept fewer at place bit (child_of here bit) other now
      by (Some node) node_is =
          let kept = to other node node_is in
          subst (IsKept fewer at place bit (child_of here bit) other) (one_node more other kept.now now kept.is now_is) kept.kept
      by None none =
          let off_at : other ≢ at = (λ (same : other ≡ at). absurd (cc (is.here_is, ap (node_at fewer) same, none))) in
          let off : child_of here bit ≡ Some other → ⊥ = (λ (was : child_of here bit ≡ Some other). absurd (cc ((is.below other was).1, none))) in
          absurd (cc (is.same other off_place off_at off, none, now_is))

  pub between-attached : IsAttached fewer more at place bit block here
  between-attached = record {
    fresh = fresh;
    fresh_is = is.fresh_is;
    block_is = new.block_is;
    no_id = new.no_id;
    no_slot = new.no_slot;
    up = new.up;
    down = new.down;
    sides = new.sides;
    has_down = new.has_down;
    to = to;
    from = from;
  }

entry-same : (a b : Node) → a.prefix ≡ b.prefix → a.id ≡ b.id → a.slot ≡ b.slot → entry a ≡ entry b
entry-same a b prefix id slot =
    ap (λ (p : AddressBlock). entry (record { prefix = p; parent = None; zero = None; one = None; id = a.id; slot = a.slot; top = None })) prefix
    ∙ (ap (λ (i : Option ℕ). entry (record { prefix = b.prefix; parent = None; zero = None; one = None; id = i; slot = a.slot; top = None })) id
    ∙ ap (λ (s : Option ℕ). entry (record { prefix = b.prefix; parent = None; zero = None; one = None; id = b.id; slot = s; top = None })) slot)

module _ (fewer more : List (Option Node)) (at place : ℕ) (bit : Bool) (block : AddressBlock) (here : Node) (is : IsAttached fewer more at place bit block here) where
  kept_to : (other : ℕ) (node : Node) → node_at fewer other ≡ Some node → HasLike entry more other node
  kept_to other node node_is =
      let kept = is.to other node node_is in
      record { found = kept.now; is = kept.is; like = entry-same kept.now kept.kept.node kept.kept.prefix kept.kept.id_is kept.kept.slot_is ∙ ap entry kept.same }

  kept_from : (other : ℕ) (now : Node) → node_at more other ≡ Some now → other ≢ place → HasLike entry fewer other now
  kept_from other now now_is off =
      let kept = is.from other now now_is off in
      record { found = kept.node; is = kept.is; like = entry-same kept.node now (sym kept.prefix) (sym kept.id_is) (sym kept.slot_is) }

  -- the node that is more has no id and no slot
  off_id : (other id : ℕ) (now : Node) → node_at more other ≡ Some now → now.id ≡ Some id → other ≢ place
  off_id other id now now_is has same =
      let there : node_at more place ≡ Some now = rw same at now_is in
      let one = one_node more place is.fresh now is.fresh_is there in
      cc (ap (λ (n : Node). n.id) one, is.no_id, has)

  off_slot : (other slot : ℕ) (now : Node) → node_at more other ≡ Some now → now.slot ≡ Some slot → other ≢ place
  off_slot other slot now now_is has same =
      let there : node_at more place ≡ Some now = rw same at now_is in
      let one = one_node more place is.fresh now is.fresh_is there in
      cc (ap (λ (n : Node). n.slot) one, is.no_slot, has)

  bare_to : HaveBare fewer → HaveBare more
  bare_to bares other now now_is none = elim (cases_eq other place) [
    | inl same ↦
        let there : node_at more place ≡ Some now = rw same at now_is in
        let one = one_node more place is.fresh now is.fresh_is there in
        sym (ap (λ (n : Node). n.slot) one) ∙ is.no_slot
    | inr off ↦
        let kept = is.from other now now_is off in
        kept.slot_is ∙ bares other kept.node kept.is (sym kept.id_is ∙ none)
  ]

  bare_from : HaveBare more → HaveBare fewer
  bare_from bares other node node_is none =
      let kept = is.to other node node_is in
      let id = kept.kept.id_is ∙ ap (λ (n : Node). n.id) kept.same in
      let slot = kept.kept.slot_is ∙ ap (λ (n : Node). n.slot) kept.same in
      sym slot ∙ bares other kept.now kept.is (id ∙ none)

  pub entries-attached : AreEntries fewer more
  entries-attached = record {
    to = λ other id node node_is has. kept_to other node node_is;
    from = λ other id now now_is has. kept_from other now now_is (off_id other id now now_is has);
    bare = bare_to;
  }

  pub entries-detached : AreEntries more fewer
  entries-detached = record {
    to = λ other id now now_is has. kept_from other now now_is (off_id other id now now_is has);
    from = λ other id node node_is has. kept_to other node node_is;
    bare = bare_from;
  }

  -- the same slots are inside a block
  pub slots_to : (b : AddressBlock) (slot : ℕ) → HasSlot fewer b slot → HasSlot more b slot
  slots_to b slot has =
      let kept = kept_to has.at has.node has.is in
      record { at = has.at; node = kept.found; is = kept.is; covers = subst (Covers b) (sym (ap (λ (n : Node). n.prefix) kept.like)) has.covers; stands = ap (λ (n : Node). n.slot) kept.like ∙ has.stands }

  pub slots_from : (b : AddressBlock) (slot : ℕ) → HasSlot more b slot → HasSlot fewer b slot
  slots_from b slot has =
      let kept = kept_from has.at has.node has.is (off_slot has.at slot has.node has.is has.stands) in
      record { at = has.at; node = kept.found; is = kept.is; covers = subst (Covers b) (sym (ap (λ (n : Node). n.prefix) kept.like)) has.covers; stands = ap (λ (n : Node). n.slot) kept.like ∙ has.stands }
