-- A trie without a node that has one child at most.
use Rattle.std.proofs.Common.{◌≡◌, ◌≢◌, ℕ, ◌<◌, ◌⊎◌, Bool, List, Option, Some, None, inl, inr, refl, arith, sym, ◌∙◌, ap, subst}
use Rattle.std.proofs.lemmas.Bool.{cases_lt, cases_eq}
use Rattle.rule_model.specs.AddressBlock.{AddressBlock, IsAddressBlock}
use Rattle.prefix_trie.specs.declared.node.Node.{Node}
use Rattle.prefix_trie.specs.Blocks.{Covers, InHalf, bit_at}
use Rattle.prefix_trie.specs.Nodes.{node_at, child_of}
use Rattle.prefix_trie.specs.Trie.{IsTrie, IsChild, IsParent, LeadsTo, IsAttached}
use Rattle.prefix_trie.proofs.Halves.{covers-one, half_of, half-trans, half-one}
use Rattle.prefix_trie.proofs.Ways.{one_node}
use Rattle.prefix_trie.proofs.Likes.{half-like}
use Rattle.prefix_trie.proofs.Writes.{is_cases}
use Rattle.prefix_trie.proofs.Attach.{bit_cases}

-- a child of a node that is there, whose parent this is
pub record IsEnd (nodes : List (Option Node)) (at child : ℕ) : Type 0 where
  pub node : Node
  pub is : node_at nodes child ≡ Some node
  pub back : node.parent ≡ Some at

-- what a node was before
record Was (old : List (Option Node)) (at place : ℕ) (bit : Bool) (child : Option ℕ) (other : ℕ) (node : Node) : Type 0 where
  pub now : Node
  pub is : node_at old other ≡ Some now
  pub off : other ≢ place
  pub prefix : now.prefix ≡ node.prefix
  pub stays : (child ≡ Some other → ⊥) → now.parent ≡ node.parent
  pub on_side : other ≡ at → child_of now bit ≡ Some place
  pub elsewhere : (side : Bool) → ((other ≡ at) × (side ≡ bit) → ⊥) → child_of now side ≡ child_of node side

module _ (new old : List (Option Node)) (at place : ℕ) (bit : Bool) (block : AddressBlock) (here : Node) (trie : IsTrie old) (here_is : node_at new at ≡ Some here) (is : IsAttached new old at place bit block here)
    (ends : (child : ℕ) → child_of here bit ≡ Some child → IsEnd new at child) where
  was : (other : ℕ) (node : Node) → node_at new other ≡ Some node → Was old at place bit (child_of here bit) other node
  was other node node_is =
      let kept = is.to other node node_is in
      record {
        now = kept.now;
        is = kept.is;
        off = kept.old_place;
        prefix = kept.kept.prefix ∙ ap (λ (n : Node). n.prefix) kept.same;
        stays = λ off. kept.kept.stays off ∙ ap (λ (n : Node). n.parent) kept.same;
        on_side = kept.kept.on_side;
        elsewhere = λ side off. kept.kept.elsewhere side off ∙ ap (λ (n : Node). child_of n side) kept.same;
      }

  -- the node that goes is on this side of its parent alone
  fresh_child : (from : ℕ) (side : Bool) (node : Node) (now : Was old at place bit (child_of here bit) from node) → child_of now.now side ≡ Some place → (from ≡ at) × (side ≡ bit)
  fresh_child from side node now link =
      let below = trie.children from place side now.now now.is link in
      let one = one_node old place below.node is.fresh below.is is.fresh_is in
      let same : from ≡ at = cc (below.back, ap (λ (n : Node). n.parent) one, is.up) in
      let on = now.on_side same in
      let also = trie.children from place bit now.now now.is on in
      let again = one_node old place also.node below.node also.is below.is in
      (same, half-one now.now.prefix below.node.prefix side bit below.half (subst (λ (n : Node). InHalf now.now.prefix bit n.prefix) again also.half))

  -- a child of the node that goes becomes one of its parent
  moved : (child : ℕ) → child_of here bit ≡ Some child → IsChild new at here.prefix bit child
  moved child link =
      let end = ends child link in
      let up = was at here here_is in
      let below = was child end.node end.is in
      let side = bit_at end.node.prefix.addr block.len in
      let lower = trie.children place child side is.fresh is.fresh_is (is.has_down child end.node link end.is) in
      let lower_is = one_node old child lower.node below.now lower.is below.is in
      let upper = trie.children at place bit up.now up.is (up.on_side refl) in
      let upper_is = one_node old place upper.node is.fresh upper.is is.fresh_is in
      let half : InHalf up.now.prefix bit is.fresh.prefix = subst (λ (n : Node). InHalf up.now.prefix bit n.prefix) upper_is upper.half in
      let longer = half.longer in
      let most = (trie.blocks place is.fresh is.fresh_is).length in
      let all = half-trans up.now.prefix is.fresh.prefix lower.node.prefix bit (omega arith) half lower.half.covers in
      record {
        node = end.node;
        is = end.is;
        half = half-like up.now.prefix here.prefix lower.node.prefix end.node.prefix bit up.prefix (ap (λ (n : Node). n.prefix) lower_is ∙ below.prefix) all;
        back = end.back;
      }

  kept_child : (from child : ℕ) (side : Bool) (node : Node) → node_at new from ≡ Some node → child_of node side ≡ Some child → ((from ≡ at) × (side ≡ bit) → ⊥) → IsChild new from node.prefix side child
  kept_child from child side node node_is link off =
      let now = was from node node_is in
      let below = trie.children from child side now.now now.is (now.elsewhere side off ∙ link) in
      let ne : child ≢ place = (λ (same : child ≡ place). off (fresh_child from side node now (now.elsewhere side off ∙ (link ∙ ap (λ (n : ℕ). Some n) same)))) in
      let kept = is.from child below.node below.is ne in
      let stay : child_of here bit ≡ Some child → ⊥ = (λ (on : child_of here bit ≡ Some child).
      let parents : place ≡ from = cc (kept.moved on, below.back) in
      now.off (sym parents)) in
      record {
        node = kept.node;
        is = kept.is;
        half = half-like now.now.prefix node.prefix below.node.prefix kept.node.prefix side now.prefix kept.prefix below.half;
        back = sym (kept.stays stay) ∙ below.back;
      }

  children : (from child : ℕ) (side : Bool) (node : Node) → node_at new from ≡ Some node → child_of node side ≡ Some child → (from ≡ at) ⊎ (from ≢ at) → (side ≡ bit) ⊎ (side ≡ bit → ⊥) → IsChild new from node.prefix side child
  children from child side node node_is link (inl same) (inl on) =
      let there : node_at new at ≡ Some node = sym (ap (node_at new) same) ∙ node_is in
      let one = one_node new at here node here_is there in
      let at_here : child_of here bit ≡ Some child = ap (λ (n : Node). child_of n bit) one ∙ (sym (ap (child_of node) on) ∙ link) in
      subst (λ (s : Bool). IsChild new from node.prefix s child) (sym on)
      (subst (λ (f : ℕ). IsChild new f node.prefix bit child) (sym same)
      (subst (λ (n : Node). IsChild new at n.prefix bit child) one (moved child at_here)))
  children from child side node node_is link (inl same) (inr off) = kept_child from child side node node_is link (λ both. off both.1)
  children from child side node node_is link (inr away) on = kept_child from child side node node_is link (λ both. away both.0)

  parents : (from parent : ℕ) (node : Node) → node_at new from ≡ Some node → node.parent ≡ Some parent → (child_of here bit ≡ Some from) ⊎ (child_of here bit ≡ Some from → ⊥) → IsParent new node.prefix from parent
  parents from parent node node_is up_is (inl on) =
      let lower = moved from on in
      let one = one_node new from lower.node node lower.is node_is in
      let at_is : at ≡ parent = cc (lower.back, ap (λ (n : Node). n.parent) one, up_is) in
      subst (IsParent new node.prefix from) at_is (record {
        node = here;
        bit = bit;
        is = here_is;
        half = subst (λ (n : Node). InHalf here.prefix bit n.prefix) one lower.half;
        link = on;
      })
  parents from parent node node_is up_is (inr off) =
      let now = was from node node_is in
      let up = trie.parents from parent now.now now.is (now.stays off ∙ up_is) in
      let ne : parent ≢ place = (λ (same : parent ≡ place).
      let there : node_at old place ≡ Some up.node = sym (ap (node_at old) same) ∙ up.is in
      let one = one_node old place up.node is.fresh there is.fresh_is in
      off (is.down up.bit from (sym (ap (λ (n : Node). child_of n up.bit) one) ∙ up.link))) in
      let kept = is.from parent up.node up.is ne in
      let away : (parent ≡ at) × (up.bit ≡ bit) → ⊥ = (λ (both : (parent ≡ at) × (up.bit ≡ bit)).
      let to_place : child_of up.node up.bit ≡ Some place = ap (child_of up.node) both.1 ∙ kept.on_side both.0 in
      let same : from ≡ place = cc (to_place, up.link) in
      now.off same) in
      record {
        node = kept.node;
        bit = up.bit;
        is = kept.is;
        half = half-like up.node.prefix kept.node.prefix now.now.prefix node.prefix up.bit kept.prefix now.prefix up.half;
        link = sym (kept.elsewhere up.bit away) ∙ up.link;
      }

  tops : (from : ℕ) (node : Node) → node_at new from ≡ Some node → node.parent ≡ None → (child_of here bit ≡ Some from) ⊎ (child_of here bit ≡ Some from → ⊥) → from ≡ 0
  tops from node node_is none (inl on) =
      let end = ends from on in
      let one = one_node new from end.node node end.is node_is in
      absurd (cc (end.back, ap (λ (n : Node). n.parent) one, none))
  tops from node node_is none (inr off) = let now = was from node node_is in trie.tops from now.now now.is (now.stays off ∙ none)

  -- where the way led to the node that goes it leads to its child
  leads_past : (from other : ℕ) (side : Bool) (node held : Node) → node_at new from ≡ Some node → node_at new other ≡ Some held → (to : LeadsTo old is.fresh side held.prefix) → (from ≡ at) → LeadsTo new node bit held.prefix
  leads_past from other side node held node_is held_is to same =
      let there : node_at new at ≡ Some node = sym (ap (node_at new) same) ∙ node_is in
      let one = one_node new at here node here_is there in
      let on = is.down side to.child to.link in
      let lower = trie.children place to.child side is.fresh is.fresh_is to.link in
      let ne : to.child ≢ place = (λ (again : to.child ≡ place).
      let at_place : node_at old place ≡ Some lower.node = sym (ap (node_at old) again) ∙ lower.is in
      let lens = ap (λ (n : Node). n.prefix.len) (one_node old place lower.node is.fresh at_place is.fresh_is) in
      let longer = lower.half.longer in
      absurd (omega arith)) in
      let kept = is.from to.child to.below to.is ne in
      record {
        child = to.child;
        below = kept.node;
        link = sym (ap (λ (n : Node). child_of n bit) one) ∙ on;
        is = kept.is;
        covers = subst (λ (p : AddressBlock). Covers p held.prefix) kept.prefix to.covers;
      }

  leads : (from other : ℕ) (side : Bool) (node held : Node) → node_at new from ≡ Some node → node_at new other ≡ Some held → InHalf node.prefix side held.prefix → LeadsTo new node side held.prefix
  leads from other side node held node_is held_is half =
      let now = was from node node_is in
      let had = was other held held_is in
      let to = trie.leads from other side now.now had.now now.is had.is (half-like node.prefix now.now.prefix held.prefix had.now.prefix side (sym now.prefix) (sym had.prefix) half) in
      elim (cases_eq to.child place) [
        | inl same ↦
            let there : node_at old place ≡ Some to.below = sym (ap (node_at old) same) ∙ to.is in
            let one = one_node old place to.below is.fresh there is.fresh_is in
            let on = fresh_child from side node now (to.link ∙ ap (λ (n : ℕ). Some n) same) in
            let covers : Covers is.fresh.prefix had.now.prefix = subst (λ (n : Node). Covers n.prefix had.now.prefix) one to.covers in
            let longer : is.fresh.prefix.len < had.now.prefix.len = elim (cases_lt is.fresh.prefix.len had.now.prefix.len) [
              | inl less ↦ less
              | inr le ↦
                  let block_same = covers-one is.fresh.prefix had.now.prefix (trie.blocks place is.fresh is.fresh_is) (trie.blocks other had.now had.is) covers le in
                  absurd (had.off (sym (trie.once place other is.fresh had.now is.fresh_is had.is block_same)))
            ] in
            let lower = trie.leads place other (bit_at had.now.prefix.addr is.fresh.prefix.len) is.fresh had.now is.fresh_is had.is (half_of is.fresh.prefix had.now.prefix covers longer) in
            let lower_held : LeadsTo old is.fresh (bit_at had.now.prefix.addr is.fresh.prefix.len) held.prefix = subst (LeadsTo old is.fresh (bit_at had.now.prefix.addr is.fresh.prefix.len)) had.prefix lower in
            subst (λ (s : Bool). LeadsTo new node s held.prefix) (sym on.1)
            (leads_past from other (bit_at had.now.prefix.addr is.fresh.prefix.len) node held node_is held_is lower_held on.0)
        | inr ne ↦
            let off : (from ≡ at) × (side ≡ bit) → ⊥ = (λ (both : (from ≡ at) × (side ≡ bit)).
            let to_place : child_of now.now side ≡ Some place = ap (child_of now.now) both.1 ∙ now.on_side both.0 in
            let same : to.child ≡ place = cc (to_place, to.link) in
            ne same) in
            let kept = is.from to.child to.below to.is ne in
            record {
              child = to.child;
              below = kept.node;
              link = sym (now.elsewhere side off) ∙ to.link;
              is = kept.is;
              covers = subst (λ (p : AddressBlock). Covers p held.prefix) kept.prefix (subst (Covers to.below.prefix) had.prefix to.covers);
            }
      ]

  -- the first node stays
  first_stays : 0 ≢ place
  first_stays same =
      let up = was at here here_is in
      let upper = trie.children at place bit up.now up.is (up.on_side refl) in
      let there : node_at old 0 ≡ Some upper.node = ap (node_at old) same ∙ upper.is in
      let one = one_node old 0 upper.node trie.first there trie.root in
      let lens = ap (λ (n : Node). n.prefix.len) one ∙ ap (λ (b : AddressBlock). b.len) trie.whole in
      let longer = upper.half.longer in
      absurd (omega arith)

  pub trie-detached : IsTrie new
  trie-detached =
      let first = is.from 0 trie.first trie.root first_stays in
      record {
        first = first.node;
        root = first.is;
        whole = sym first.prefix ∙ trie.whole;
        blocks = λ from node node_is. let now = was from node node_is in subst IsAddressBlock now.prefix (trie.blocks from now.now now.is);
        once = λ a b one other one_is other_is same.
            let x = was a one one_is in
            let y = was b other other_is in
            trie.once a b x.now y.now x.is y.is (x.prefix ∙ (same ∙ sym y.prefix));
        children = λ from child side node node_is link. children from child side node node_is link (cases_eq from at) (bit_cases side bit);
        parents = λ from parent node node_is up_is. parents from parent node node_is up_is (is_cases (child_of here bit) from);
        tops = λ from node node_is none. tops from node node_is none (is_cases (child_of here bit) from);
        leads = leads;
      }
