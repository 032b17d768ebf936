-- A new node on one side of another, above what was there.
use Rattle.std.proofs.Common.{◌≡◌, ◌≢◌, ℕ, ◌<◌, ◌⊎◌, Bool, true, false, List, Option, Some, None, inl, inr, refl, arith, sym, ◌∙◌, ap, subst}
use Rattle.std.proofs.lemmas.Bool.{cases_lt, cases_eq}
use Rattle.rule_model.specs.AddressBlock.{AddressBlock, IsAddressBlock}
use Rattle.prefix_trie.specs.declared.node.Node.{Node}
use Rattle.prefix_trie.specs.Blocks.{Covers, InHalf, bit_at}
use Rattle.prefix_trie.specs.Nodes.{node_at, child_of}
use Rattle.prefix_trie.specs.Trie.{IsTrie, IsChild, IsParent, LeadsTo, HasGap, IsAttached, IsKept}
use Rattle.prefix_trie.proofs.Halves.{covers-self, covers-trans, covers-laminar, covers-one, half-up, half-trans, half-one}
use Rattle.prefix_trie.proofs.Ways.{one_node}

pub bit_cases : (a b : Bool) → (a ≡ b) ⊎ (a ≡ b → ⊥)
bit_cases false false = inl refl
bit_cases true true = inl refl
bit_cases false true = inr (λ same. cc)
bit_cases true false = inr (λ same. cc)

module _ (old new : List (Option Node)) (at place : ℕ) (bit : Bool) (block : AddressBlock) (trie : IsTrie old) (right : IsAddressBlock block) (gap : HasGap old at bit block) (is : IsAttached old new at place bit block gap.node) where
  -- no node had this prefix
  pub not_there : (other : ℕ) (held : Node) → node_at old other ≡ Some held → held.prefix ≡ block → ⊥
  not_there other held held_is same =
      let half : InHalf gap.node.prefix bit held.prefix = subst (InHalf gap.node.prefix bit) (sym same) gap.half in
      let leads = trie.leads at other bit gap.node held gap.is held_is half in
      let inner = gap.inner leads.child leads.below leads.link leads.is in
      let longer = inner.longer in
      let order = leads.covers.order in
      let lens = ap (λ (b : AddressBlock). b.len) same in
      omega arith

  once : (a b : ℕ) (one other : Node) → node_at new a ≡ Some one → node_at new b ≡ Some other → one.prefix ≡ other.prefix → a ≡ b
  once a b one other one_is other_is same = elim (cases_eq a place) [
    | inl a_place ↦ elim (cases_eq b place) [
      | inl b_place ↦ a_place ∙ sym b_place
      | inr b_old ↦
          let fresh = one_node new place one is.fresh (sym (ap (node_at new) a_place) ∙ one_is) is.fresh_is in
          let kept = is.from b other other_is b_old in
          absurd (not_there b kept.node kept.is (sym kept.prefix ∙ (sym same ∙ (ap (λ (n : Node). n.prefix) fresh ∙ is.block_is))))
    ]
    | inr a_old ↦ elim (cases_eq b place) [
      | inl b_place ↦
          let fresh = one_node new place other is.fresh (sym (ap (node_at new) b_place) ∙ other_is) is.fresh_is in
          let kept = is.from a one one_is a_old in
          absurd (not_there a kept.node kept.is (sym kept.prefix ∙ (same ∙ (ap (λ (n : Node). n.prefix) fresh ∙ is.block_is))))
      | inr b_old ↦
          let kept_a = is.from a one one_is a_old in
          let kept_b = is.from b other other_is b_old in
          trie.once a b kept_a.node kept_b.node kept_a.is kept_b.is (sym kept_a.prefix ∙ (same ∙ kept_b.prefix))
    ]
  ]

  fresh_at : (other : ℕ) (now : Node) → node_at new other ≡ Some now → other ≡ place → is.fresh ≡ now
  fresh_at other now now_is same = one_node new place is.fresh now is.fresh_is (sym (ap (node_at new) same) ∙ now_is)

  fits : gap.node.prefix.len < 128
  fits = let longer = gap.half.longer in let most = right.length in omega arith

  shorter : block.len < 129
  shorter = let most = right.length in omega arith

  -- a child of the new node is the one that was there
  below_fresh : (child : ℕ) (side : Bool) → child_of is.fresh side ≡ Some child → IsChild new place block side child
  below_fresh child side link =
      let was = is.down side child link in
      let old_child = trie.children at child bit gap.node gap.is was in
      let inner = gap.inner child old_child.node was old_child.is in
      let kept = is.to child old_child.node old_child.is in
      let prefix : kept.now.prefix ≡ old_child.node.prefix = kept.kept.prefix ∙ ap (λ (n : Node). n.prefix) kept.same in
      let half : InHalf block side old_child.node.prefix = record { covers = inner.covers; longer = inner.longer; side = is.sides side child old_child.node link old_child.is } in
      record { node = kept.now; is = kept.is; half = subst (InHalf block side) (sym prefix) half; back = kept.kept.moved was }

  -- what was on this side of an old node still is
  apart : (from child : ℕ) (side : Bool) (node : Node) → node_at new from ≡ Some node → child_of node side ≡ Some child → from ≢ place → ((from ≡ at) × (side ≡ bit) → ⊥) → IsChild new from node.prefix side child
  apart from child side node node_is link old_place off =
      let kept = is.from from node node_is old_place in
      let old_link = sym (kept.elsewhere side off) ∙ link in
      let below = trie.children from child side kept.node kept.is old_link in
      let now = is.to child below.node below.is in
      let prefix : now.now.prefix ≡ below.node.prefix = now.kept.prefix ∙ ap (λ (n : Node). n.prefix) now.same in
      let parent : now.kept.node.parent ≡ below.node.parent = ap (λ (n : Node). n.parent) now.same in
      let stays : child_of gap.node bit ≡ Some child → ⊥ = (λ (was : child_of gap.node bit ≡ Some child).
      let at_child = trie.children at child bit gap.node gap.is was in
      let one = one_node old child at_child.node below.node at_child.is below.is in
      let parents : at ≡ from = cc (at_child.back, ap (λ (n : Node). n.parent) one, below.back) in
      let from_at : node_at old at ≡ Some kept.node = ap (node_at old) parents ∙ kept.is in
      let same_node = one_node old at gap.node kept.node gap.is from_at in
      let in_bit : InHalf kept.node.prefix bit below.node.prefix = subst (λ (n : Node). InHalf n.prefix bit below.node.prefix) same_node (subst (λ (n : Node). InHalf gap.node.prefix bit n.prefix) one at_child.half) in
      off (sym parents, half-one kept.node.prefix below.node.prefix side bit below.half in_bit)) in
      record {
        node = now.now;
        is = now.is;
        half = subst (λ (p : AddressBlock). InHalf p side now.now.prefix) (sym kept.prefix) (subst (InHalf kept.node.prefix side) (sym prefix) below.half);
        back = now.kept.stays stays ∙ (parent ∙ below.back);
      }

  children : (from child : ℕ) (side : Bool) (node : Node) → node_at new from ≡ Some node → child_of node side ≡ Some child → (from ≡ place) ⊎ (from ≢ place) → (from ≡ at) ⊎ (from ≢ at) → (side ≡ bit) ⊎ (side ≡ bit → ⊥)
      → IsChild new from node.prefix side child
  children from child side node node_is link (inl same) at_case bit_case =
      let fresh = fresh_at from node node_is same in
      let below = below_fresh child side (ap (λ (n : Node). child_of n side) fresh ∙ link) in
      subst (λ (f : ℕ). IsChild new f node.prefix side child) (sym same)
      (subst (λ (p : AddressBlock). IsChild new place p side child) (sym is.block_is ∙ ap (λ (n : Node). n.prefix) fresh) below)
  children from child side node node_is link (inr old_place) (inl here) (inl on) =
      let kept = is.from from node node_is old_place in
      let to_place : child ≡ place = cc (kept.on_side here, ap (child_of node) on, link) in
      let at_node : node_at old at ≡ Some kept.node = sym (ap (node_at old) here) ∙ kept.is in
      let one = one_node old at gap.node kept.node gap.is at_node in
      let prefix : gap.node.prefix ≡ node.prefix = ap (λ (n : Node). n.prefix) one ∙ sym kept.prefix in
      let half : InHalf node.prefix side is.fresh.prefix = subst (λ (p : AddressBlock). InHalf p side is.fresh.prefix) prefix
      (subst (λ (b : Bool). InHalf gap.node.prefix b is.fresh.prefix) (sym on) (subst (InHalf gap.node.prefix bit) (sym is.block_is) gap.half)) in
      subst (IsChild new from node.prefix side) (sym to_place) (record { node = is.fresh; is = is.fresh_is; half = half; back = is.up ∙ ap (λ (n : ℕ). Some n) (sym here) })
  children from child side node node_is link (inr old_place) (inl here) (inr off) =
      apart from child side node node_is link old_place (λ both. off both.1)
  children from child side node node_is link (inr old_place) (inr away) bit_case =
      apart from child side node node_is link old_place (λ both. away both.0)

  parents : (from parent : ℕ) (node : Node) → node_at new from ≡ Some node → node.parent ≡ Some parent → IsParent new node.prefix from parent
  parents from parent node node_is up_is = elim (cases_eq from place) [
    | inl same ↦
        let fresh = fresh_at from node node_is same in
        let parent_at : at ≡ parent = cc (is.up, ap (λ (n : Node). n.parent) fresh, up_is) in
        let now = is.to at gap.node gap.is in
        let prefix : gap.node.prefix ≡ now.now.prefix = sym (now.kept.prefix ∙ ap (λ (n : Node). n.prefix) now.same) in
        let half : InHalf now.now.prefix bit node.prefix = subst (λ (p : AddressBlock). InHalf p bit node.prefix) prefix
        (subst (InHalf gap.node.prefix bit) (sym is.block_is ∙ ap (λ (n : Node). n.prefix) fresh) gap.half) in
        subst (IsParent new node.prefix from) parent_at (record { node = now.now; bit = bit; is = now.is; half = half; link = now.kept.on_side refl ∙ ap (λ (n : ℕ). Some n) (sym same) })
    | inr old_place ↦ old_parent from parent node node_is up_is old_place (child_of gap.node bit) refl
  ]
    where
      was_child : (from parent : ℕ) (node : Node) → node_at new from ≡ Some node → node.parent ≡ Some parent → from ≢ place → child_of gap.node bit ≡ Some from → IsParent new node.prefix from parent
      was_child from parent node node_is up_is old_place was =
          let kept = is.from from node node_is old_place in
          let at_place : place ≡ parent = cc (kept.moved was, up_is) in
          let below = trie.children at from bit gap.node gap.is was in
          let one = one_node old from below.node kept.node below.is kept.is in
          let inner = gap.inner from below.node was below.is in
          let side = bit_at below.node.prefix.addr block.len in
          let half : InHalf block side below.node.prefix = record { covers = inner.covers; longer = inner.longer; side = refl } in
          let prefix : below.node.prefix ≡ node.prefix = ap (λ (n : Node). n.prefix) one ∙ sym kept.prefix in
          subst (IsParent new node.prefix from) at_place (record {
            node = is.fresh;
            bit = side;
            is = is.fresh_is;
            half = subst (λ (p : AddressBlock). InHalf p side node.prefix) (sym is.block_is) (subst (InHalf block side) prefix half);
            link = is.has_down from below.node was below.is;
          })

      was_not : (from parent : ℕ) (node : Node) → node_at new from ≡ Some node → node.parent ≡ Some parent → from ≢ place → (child_of gap.node bit ≡ Some from → ⊥) → IsParent new node.prefix from parent
      was_not from parent node node_is up_is old_place not =
          let kept = is.from from node node_is old_place in
          let up = trie.parents from parent kept.node kept.is (sym (kept.stays not) ∙ up_is) in
          let now = is.to parent up.node up.is in
          let prefix : now.now.prefix ≡ up.node.prefix = now.kept.prefix ∙ ap (λ (n : Node). n.prefix) now.same in
          let off : (parent ≡ at) × (up.bit ≡ bit) → ⊥ = (λ (both : (parent ≡ at) × (up.bit ≡ bit)).
          let at_up : node_at old at ≡ Some up.node = sym (ap (node_at old) both.0) ∙ up.is in
          let one = one_node old at gap.node up.node gap.is at_up in
          not (ap (λ (n : Node). child_of n bit) one ∙ (sym (ap (child_of up.node) both.1) ∙ up.link))) in
          record {
            node = now.now;
            bit = up.bit;
            is = now.is;
            half = subst (λ (p : AddressBlock). InHalf p up.bit node.prefix) (sym prefix) (subst (InHalf up.node.prefix up.bit) (sym kept.prefix) up.half);
            link = now.kept.elsewhere up.bit off ∙ (ap (λ (n : Node). child_of n up.bit) now.same ∙ up.link);
          }

      old_parent : (from parent : ℕ) (node : Node) → node_at new from ≡ Some node → node.parent ≡ Some parent → from ≢ place → (child : Option ℕ) → child_of gap.node bit ≡ child → IsParent new node.prefix from parent
      old_parent from parent node node_is up_is old_place None none = was_not from parent node node_is up_is old_place (λ was. absurd (cc (was, none)))
      old_parent from parent node node_is up_is old_place (Some child) some = elim (cases_eq child from) [
        | inl same ↦ was_child from parent node node_is up_is old_place (some ∙ ap (λ (n : ℕ). Some n) same)
        | inr ne ↦ was_not from parent node node_is up_is old_place (λ was. let same : child ≡ from = cc (was, some) in ne same)
      ]

  -- what lies in a half of the new node is below the child that was there
  leads_fresh : (other : ℕ) (side : Bool) (held : Node) → node_at old other ≡ Some held → InHalf block side held.prefix → LeadsTo new is.fresh side held.prefix
  leads_fresh other side held held_is half =
      let most = (trie.blocks other held held_is).length in
      let in_half = half-trans gap.node.prefix block held.prefix bit fits gap.half half.covers in
      let was = trie.leads at other bit gap.node held gap.is held_is in_half in
      let inner = gap.inner was.child was.below was.link was.is in
      let longer = inner.longer in
      let below_most = (trie.blocks was.child was.below was.is).length in
      let below_half : InHalf block (bit_at was.below.prefix.addr block.len) was.below.prefix = record { covers = inner.covers; longer = inner.longer; side = refl } in
      let also = half-trans block was.below.prefix held.prefix (bit_at was.below.prefix.addr block.len) (omega arith) below_half was.covers in
      let side_is = half-one block held.prefix (bit_at was.below.prefix.addr block.len) side also half in
      let now = is.to was.child was.below was.is in
      let prefix : now.now.prefix ≡ was.below.prefix = now.kept.prefix ∙ ap (λ (n : Node). n.prefix) now.same in
      record {
        child = was.child;
        below = now.now;
        link = ap (child_of is.fresh) (sym side_is) ∙ is.has_down was.child was.below was.link was.is;
        is = now.is;
        covers = subst (λ (p : AddressBlock). Covers p held.prefix) (sym prefix) was.covers;
      }

  -- an old node leads to what it led to on the sides that stay
  leads_apart : (from other : ℕ) (side : Bool) (node now held : Node) → node_at old from ≡ Some node → node_at new from ≡ Some now → from ≢ place → node_at old other ≡ Some held → InHalf node.prefix side held.prefix
      → ((from ≡ at) × (side ≡ bit) → ⊥) → LeadsTo new now side held.prefix
  leads_apart from other side node now held node_is now_is old_place held_is half off =
      let was = trie.leads from other side node held node_is held_is half in
      let kept = is.from from now now_is old_place in
      let one = one_node old from kept.node node kept.is node_is in
      let below = is.to was.child was.below was.is in
      let prefix : below.now.prefix ≡ was.below.prefix = below.kept.prefix ∙ ap (λ (n : Node). n.prefix) below.same in
      record {
        child = was.child;
        below = below.now;
        link = kept.elsewhere side off ∙ (ap (λ (n : Node). child_of n side) one ∙ was.link);
        is = below.is;
        covers = subst (λ (p : AddressBlock). Covers p held.prefix) (sym prefix) was.covers;
      }

  -- an old node leads to what it led to, by the new node where that is between
  leads_old : (from other : ℕ) (side : Bool) (node now held : Node) → node_at old from ≡ Some node → node_at new from ≡ Some now → from ≢ place → node_at old other ≡ Some held → InHalf node.prefix side held.prefix
      → (from ≡ at) ⊎ (from ≢ at) → (side ≡ bit) ⊎ (side ≡ bit → ⊥) → LeadsTo new now side held.prefix
  leads_old from other side node now held node_is now_is old_place held_is half (inl here) (inl on) =
      let was = trie.leads from other side node held node_is held_is half in
      let at_node : node_at old at ≡ Some node = sym (ap (node_at old) here) ∙ node_is in
      let one = one_node old at gap.node node gap.is at_node in
      let link : child_of gap.node bit ≡ Some was.child = ap (λ (n : Node). child_of n bit) one ∙ (sym (ap (child_of node) on) ∙ was.link) in
      let inner = gap.inner was.child was.below link was.is in
      let kept = is.from from now now_is old_place in
      record {
        child = place;
        below = is.fresh;
        link = ap (child_of now) on ∙ kept.on_side here;
        is = is.fresh_is;
        covers = subst (λ (p : AddressBlock). Covers p held.prefix) (sym is.block_is) (covers-trans block was.below.prefix held.prefix inner.covers was.covers);
      }
  leads_old from other side node now held node_is now_is old_place held_is half (inl here) (inr off) = leads_apart from other side node now held node_is now_is old_place held_is half (λ both. off both.1)
  leads_old from other side node now held node_is now_is old_place held_is half (inr away) side_case = leads_apart from other side node now held node_is now_is old_place held_is half (λ both. away both.0)

  -- an old node leads to the new one
  leads_to : (from : ℕ) (side : Bool) (node now : Node) → node_at old from ≡ Some node → node_at new from ≡ Some now → from ≢ place → InHalf node.prefix side block → (from ≡ at) ⊎ (from ≢ at) → LeadsTo new now side block
  leads_to from side node now node_is now_is old_place half (inl here) =
      let at_node : node_at old at ≡ Some node = sym (ap (node_at old) here) ∙ node_is in
      let one = one_node old at gap.node node gap.is at_node in
      let in_bit : InHalf node.prefix bit block = subst (λ (n : Node). InHalf n.prefix bit block) one gap.half in
      let on = half-one node.prefix block side bit half in_bit in
      let kept = is.from from now now_is old_place in
      record { child = place; below = is.fresh; link = ap (child_of now) on ∙ kept.on_side here; is = is.fresh_is; covers = subst (λ (p : AddressBlock). Covers p block) (sym is.block_is) (covers-self block) }
  leads_to from side node now node_is now_is old_place half (inr away) =
      let longer = half.longer in
      let most = right.length in
      let gap_longer = gap.half.longer in
      let node_most = (trie.blocks from node node_is).length in
      elim (cases_lt node.prefix.len gap.node.prefix.len) [
        | inl less ↦
            let covers = covers-laminar node.prefix gap.node.prefix block half.covers gap.half.covers (omega arith) in
            let in_half = half-up node.prefix gap.node.prefix block side (omega arith) half covers gap.half.covers less in
            let to_here = leads_apart from at side node now gap.node node_is now_is old_place gap.is in_half (λ both. away both.0) in
            record { child = to_here.child; below = to_here.below; link = to_here.link; is = to_here.is; covers = covers-trans to_here.below.prefix gap.node.prefix block to_here.covers gap.half.covers }
        | inr le ↦
            let covers = covers-laminar gap.node.prefix node.prefix block gap.half.covers half.covers le in
            elim (cases_lt gap.node.prefix.len node.prefix.len) [
              | inl more ↦
                  let in_half = half-up gap.node.prefix node.prefix block bit fits gap.half covers half.covers more in
                  let was = trie.leads at from bit gap.node node gap.is node_is in_half in
                  let inner = gap.inner was.child was.below was.link was.is in
                  let inner_longer = inner.longer in
                  let order = was.covers.order in
                  absurd (omega arith)
              | inr same ↦
                  let one = covers-one gap.node.prefix node.prefix (trie.blocks at gap.node gap.is) (trie.blocks from node node_is) covers same in
                  absurd (away (sym (trie.once at from gap.node node gap.is node_is one)))
            ]
      ]

  leads : (from other : ℕ) (side : Bool) (node held : Node) → node_at new from ≡ Some node → node_at new other ≡ Some held → InHalf node.prefix side held.prefix → LeadsTo new node side held.prefix
  leads from other side node held node_is held_is half = elim (cases_eq from place) [
    | inl from_place ↦ elim (cases_eq other place) [
      | inl other_place ↦
          let a = fresh_at from node node_is from_place in
          let b = fresh_at other held held_is other_place in
          let lens = ap (λ (n : Node). n.prefix.len) (sym a ∙ b) in
          let longer = half.longer in
          absurd (omega arith)
      | inr other_old ↦
          let fresh = fresh_at from node node_is from_place in
          let kept = is.from other held held_is other_old in
          let in_block : InHalf block side kept.node.prefix = subst (λ (p : AddressBlock). InHalf p side kept.node.prefix) (sym (ap (λ (n : Node). n.prefix) fresh) ∙ is.block_is) (subst (InHalf node.prefix side) kept.prefix half) in
          subst (λ (n : Node). LeadsTo new n side held.prefix) fresh
          (subst (LeadsTo new is.fresh side) (sym kept.prefix) (leads_fresh other side kept.node kept.is in_block))
    ]
    | inr from_old ↦
        let kept = is.from from node node_is from_old in
        elim (cases_eq other place) [
          | inl other_place ↦
              let fresh = fresh_at other held held_is other_place in
              let block_held : held.prefix ≡ block = sym (ap (λ (n : Node). n.prefix) fresh) ∙ is.block_is in
              let in_half : InHalf kept.node.prefix side block = subst (λ (p : AddressBlock). InHalf p side block) kept.prefix (subst (InHalf node.prefix side) block_held half) in
              subst (LeadsTo new node side) (sym block_held) (leads_to from side kept.node node kept.is node_is from_old in_half (cases_eq from at))
          | inr other_old ↦
              let had = is.from other held held_is other_old in
              let in_half : InHalf kept.node.prefix side had.node.prefix = subst (λ (p : AddressBlock). InHalf p side had.node.prefix) kept.prefix (subst (InHalf node.prefix side) had.prefix half) in
              subst (LeadsTo new node side) (sym had.prefix) (leads_old from other side kept.node node had.node kept.is node_is from_old had.is in_half (cases_eq from at) (bit_cases side bit))
        ]
  ]

  -- the new nodes are a trie
  pub trie-attached : 0 ≢ place → IsTrie new
  trie-attached not_first =
      let first = is.to 0 trie.first trie.root in
      record {
        first = first.now;
        root = first.is;
        whole = first.kept.prefix ∙ (ap (λ (n : Node). n.prefix) first.same ∙ trie.whole);
        blocks = λ here now now_is. elim (cases_eq here place) [
          | inl same ↦ subst IsAddressBlock (sym is.block_is ∙ ap (λ (n : Node). n.prefix) (fresh_at here now now_is same)) right
          | inr old_place ↦ let kept = is.from here now now_is old_place in subst IsAddressBlock (sym kept.prefix) (trie.blocks here kept.node kept.is)
        ];
        once = once;
        children = λ from child side node node_is link. children from child side node node_is link (cases_eq from place) (cases_eq from at) (bit_cases side bit);
        parents = parents;
        tops = λ here now now_is none. elim (cases_eq here place) [
          | inl same ↦ absurd (cc (is.up, ap (λ (n : Node). n.parent) (fresh_at here now now_is same), none))
          | inr old_place ↦
              let kept = is.from here now now_is old_place in
              root_of here now kept none (child_of gap.node bit) refl
        ];
        leads = leads;
      }
    where
      root_of : (here : ℕ) (now : Node) (kept : IsKept old at place bit (child_of gap.node bit) here now) → now.parent ≡ None → (child : Option ℕ) → child_of gap.node bit ≡ child → here ≡ 0
      root_of here now kept none None no_child = trie.tops here kept.node kept.is (sym (kept.stays (λ was. absurd (cc (was, no_child)))) ∙ none)
      root_of here now kept none (Some child) some = elim (cases_eq child here) [
        | inl same ↦ absurd (cc (kept.moved (some ∙ ap (λ (n : ℕ). Some n) same), none))
        | inr ne ↦ trie.tops here kept.node kept.is (sym (kept.stays (λ was. let same : child ≡ here = cc (was, some) in ne same)) ∙ none)
      ]
