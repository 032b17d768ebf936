-- The greatest slots where a node comes or goes that stands in none.
use Rattle.std.proofs.Common.{◌≡◌, ℕ, Bool, List, Option, Some, None, inl, inr, refl, arith, sym, ◌∙◌, ap, subst}
use Rattle.std.proofs.lemmas.Bool.{cases_eq}
use Rattle.rule_model.specs.AddressBlock.{AddressBlock, IsAddressBlock}
use Rattle.prefix_trie.specs.declared.node.Node.{Node}
use Rattle.prefix_trie.specs.Blocks.{Covers, InHalf}
use Rattle.prefix_trie.specs.Nodes.{node_at, child_of, top_at, top_of}
use Rattle.prefix_trie.specs.Trie.{IsTrie, IsTop, HaveTops, HasSlot, HasGap, IsAttached}
use Rattle.prefix_trie.proofs.Halves.{covers-trans, half-trans}
use Rattle.prefix_trie.proofs.Ways.{one_node}
use Rattle.prefix_trie.proofs.Tops.{most-same}
use Rattle.prefix_trie.proofs.Between.{slots_to, slots_from}

-- where it goes those that stay keep theirs
pub tops-detached : (fewer more : List (Option Node)) (at place : ℕ) (bit : Bool) (block : AddressBlock) (here : Node) → IsAttached fewer more at place bit block here → HaveTops more → HaveTops fewer
tops-detached fewer more at place bit block here is tops other node node_is =
    let kept = is.to other node node_is in
    let prefix : kept.now.prefix ≡ node.prefix = kept.kept.prefix ∙ ap (λ (n : Node). n.prefix) kept.same in
    let top : kept.now.top ≡ node.top = kept.kept.top_is ∙ ap (λ (n : Node). n.top) kept.same in
    subst (IsTop fewer node.prefix) top
    (subst (λ (b : AddressBlock). IsTop fewer b kept.now.top) prefix
    (most-same (HasSlot more kept.now.prefix) (HasSlot fewer kept.now.prefix) kept.now.top
    (slots_from fewer more at place bit block here is kept.now.prefix) (slots_to fewer more at place bit block here is kept.now.prefix)
    (tops other kept.now kept.is)))

module _ (old new : List (Option Node)) (at place : ℕ) (bit : Bool) (block : AddressBlock) (trie : IsTrie old) (right : IsAddressBlock block) (gap : HasGap old at bit block) (is : IsAttached old new at place bit block gap.node) where
  -- what the block covers is on its side of the node above
  in_gap : (other : ℕ) (held : Node) → node_at old other ≡ Some held → Covers block held.prefix → InHalf gap.node.prefix bit held.prefix
  in_gap other held held_is cov =
      let longer = gap.half.longer in
      let most = right.length in
      half-trans gap.node.prefix block held.prefix bit (omega arith) gap.half cov

  -- so the new node has the greatest slot of that child
  top_fresh : HaveTops old → (child : Option ℕ) → child_of gap.node bit ≡ child → IsTop old block (top_at old child)
  top_fresh tops None none = λ slot has.
      let leads = trie.leads at has.at bit gap.node has.node gap.is has.is (in_gap has.at has.node has.is has.covers) in
      absurd (cc (leads.link, none))
  top_fresh tops (Some child) link =
      let below = trie.children at child bit gap.node gap.is link in
      let inner = gap.inner child below.node link below.is in
      let top_is : top_of (node_at old child) ≡ below.node.top = ap top_of below.is in
      subst (IsTop old block) (sym top_is)
      (most-same (HasSlot old below.node.prefix) (HasSlot old block) below.node.top
      (λ slot has. record { at = has.at; node = has.node; is = has.is; covers = covers-trans block below.node.prefix has.node.prefix inner.covers has.covers; stands = has.stands })
      (λ slot has.
      let leads = trie.leads at has.at bit gap.node has.node gap.is has.is (in_gap has.at has.node has.is has.covers) in
      let place_is : leads.child ≡ child = cc (leads.link, link) in
      let there : node_at old child ≡ Some leads.below = rw place_is at leads.is in
      let same = one_node old child leads.below below.node there below.is in
      record { at = has.at; node = has.node; is = has.is; covers = rw same at leads.covers; stands = has.stands })
      (tops child below.node below.is))

  -- where it comes all others keep theirs
  pub tops-attached : HaveTops old → is.fresh.top ≡ top_at old (child_of gap.node bit) → HaveTops new
  tops-attached tops fresh_top other now now_is = elim (cases_eq other place) [
    | inl same ↦
        let there : node_at new place ≡ Some now = rw same at now_is in
        let one = one_node new place is.fresh now is.fresh_is there in
        subst (λ (n : Node). IsTop new n.prefix n.top) one
        (subst (IsTop new is.fresh.prefix) (sym fresh_top)
        (subst (λ (b : AddressBlock). IsTop new b (top_at old (child_of gap.node bit))) (sym is.block_is)
        (moved block (top_at old (child_of gap.node bit)) (top_fresh tops (child_of gap.node bit) refl))))
    | inr off ↦
        let kept = is.from other now now_is off in
        subst (IsTop new now.prefix) (sym kept.top_is)
        (subst (λ (b : AddressBlock). IsTop new b kept.node.top) (sym kept.prefix)
        (moved kept.node.prefix kept.node.top (tops other kept.node kept.is)))
  ]
    where
      moved : (b : AddressBlock) (found : Option ℕ) → IsTop old b found → IsTop new b found
      moved b found most = most-same (HasSlot old b) (HasSlot new b) found (slots_to old new at place bit block gap.node is b) (slots_from old new at place bit block gap.node is b) most
