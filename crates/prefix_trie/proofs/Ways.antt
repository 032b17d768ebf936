-- Ways down and up a trie.
use Rattle.std.proofs.Common.{◌≡◌, ℕ, ◌<◌, ◌≤◌, List, Option, Some, None, inl, inr, refl, arith, ◌∙◌, ap, subst, eqb-true, eq-eqb}
use Rattle.std.specs.Prelude.{IsTrue}
use Rattle.std.proofs.lemmas.Bool.{cases_lt}
use Rattle.rule_model.specs.AddressBlock.{AddressBlock, any_address, block_holds}
use Rattle.prefix_trie.specs.declared.node.Node.{Node}
use Rattle.prefix_trie.specs.Blocks.{Covers, InHalf, IsInside, bit_at}
use Rattle.prefix_trie.specs.Nodes.{node_at, child_of, len_at, len_of}
use Rattle.prefix_trie.specs.Trie.{IsTrie, LeadsTo, IsWayUp, HasAround, IsNextAround, HasHolder, IsHolder, IsDeepest}
use Rattle.prefix_trie.proofs.Halves.{covers-trans, covers-laminar, covers-one, half_of, half-up}

-- one place holds one node
pub one_node : (nodes : List (Option Node)) (at : ℕ) (a b : Node) → node_at nodes at ≡ Some a → node_at nodes at ≡ Some b → a ≡ b
one_node nodes at a b is_a is_b = cc

-- a node that covers a block and is longer than another that does is below it, on the block's side
pub leads_over : (nodes : List (Option Node)) → IsTrie nodes → (at other : ℕ) (node held : Node) (block : AddressBlock) → node_at nodes at ≡ Some node → node_at nodes other ≡ Some held
    → Covers node.prefix block → Covers held.prefix block → node.prefix.len < held.prefix.len → LeadsTo nodes node (bit_at block.addr node.prefix.len) held.prefix
leads_over nodes trie at other node held block is held_is cn ch less =
    let right = trie.blocks other held held_is in
    let most = right.length in
    let order = ch.order in
    let longer : node.prefix.len < block.len = omega arith in
    let fits : node.prefix.len < 128 = omega arith in
    let inner = covers-laminar node.prefix held.prefix block cn ch (omega arith) in
    trie.leads at other (bit_at block.addr node.prefix.len) node held is held_is
    (half-up node.prefix held.prefix block (bit_at block.addr node.prefix.len) fits (half_of node.prefix block cn longer) inner ch less)

-- where no child covers a block no node is deeper
pub no_step : (nodes : List (Option Node)) → IsTrie nodes → (at : ℕ) (node : Node) (block : AddressBlock) → node_at nodes at ≡ Some node → Covers node.prefix block
    → ((child : ℕ) (below : Node) → child_of node (bit_at block.addr node.prefix.len) ≡ Some child → node_at nodes child ≡ Some below → Covers below.prefix block → ⊥)
    → (other : ℕ) (held : Node) → node_at nodes other ≡ Some held → Covers held.prefix block → Covers held.prefix node.prefix
no_step nodes trie at node block is cn none other held held_is ch =
    elim (cases_lt node.prefix.len held.prefix.len) [
      | inl less ↦
          let leads = leads_over nodes trie at other node held block is held_is cn ch less in
          absurd (none leads.child leads.below leads.link leads.is (covers-trans leads.below.prefix held.prefix block leads.covers ch))
      | inr le ↦ covers-laminar held.prefix node.prefix block ch cn le
    ]

-- a node as long as a block that it covers is the deepest
pub no_deeper : (node block held : AddressBlock) → Covers node block → block.len ≤ node.len → Covers held block → Covers held node
no_deeper node block held cn le ch = let order = ch.order in covers-laminar held node block ch cn (omega arith)

-- what is longer and covers a node covers its parent
pub above_parent : (nodes : List (Option Node)) → IsTrie nodes → (at parent other : ℕ) (node up held : Node) → node_at nodes at ≡ Some node → node.parent ≡ Some parent → node_at nodes parent ≡ Some up
    → node_at nodes other ≡ Some held → IsInside held.prefix node.prefix → Covers held.prefix up.prefix
above_parent nodes trie at parent other node up held is parent_is up_is held_is inside =
    let link = trie.parents at parent node is parent_is in
    let same = one_node nodes parent link.node up link.is up_is in
    let half : InHalf up.prefix link.bit node.prefix = rw same at link.half in
    let to_it : child_of up link.bit ≡ Some at = rw same at link.link in
    elim (cases_lt up.prefix.len held.prefix.len) [
      | inl less ↦
          let most = (trie.blocks at node is).length in
          let longer = half.longer in
          let inner = covers-laminar up.prefix held.prefix node.prefix half.covers inside.covers (omega arith) in
          let in_half = half-up up.prefix held.prefix node.prefix link.bit (omega arith) half inner inside.covers less in
          let leads = trie.leads parent other link.bit up held up_is held_is in_half in
          let child_is : leads.child ≡ at = cc (leads.link, to_it) in
          let below_at : node_at nodes at ≡ Some leads.below = rw child_is at leads.is in
          let below_is = one_node nodes at leads.below node below_at is in
          let covered : Covers node.prefix held.prefix = rw below_is at leads.covers in
          let order = covered.order in
          let shorter = inside.longer in
          absurd (omega arith)
      | inr le ↦ covers-laminar held.prefix up.prefix node.prefix inside.covers half.covers le
    ]

-- a parent covers its node and is shorter
pub parent_half : (nodes : List (Option Node)) → IsTrie nodes → (at parent : ℕ) (node up : Node) → node_at nodes at ≡ Some node → node.parent ≡ Some parent → node_at nodes parent ≡ Some up
    → IsInside up.prefix node.prefix
parent_half nodes trie at parent node up is parent_is up_is =
    let link = trie.parents at parent node is parent_is in
    let same = one_node nodes parent link.node up link.is up_is in
    let half : InHalf up.prefix link.bit node.prefix = rw same at link.half in
    record { covers = half.covers; longer = half.longer }

-- past a parent that lacks this part those that have it around are above the parent
pub way-past : (part : Node → Option ℕ) (nodes : List (Option Node)) → IsTrie nodes → (from at parent : ℕ) (up : Node) (way : IsWayUp part nodes from at) → way.node.parent ≡ Some parent → node_at nodes parent ≡ Some up → part up ≡ None
    → IsWayUp part nodes from parent
way-past part nodes trie from at parent up way parent_is up_is lacks =
    let half = parent_half nodes trie at parent way.node up way.is parent_is up_is in
    record {
      start = way.start;
      node = up;
      start_is = way.start_is;
      is = up_is;
      covers = covers-trans up.prefix way.node.prefix way.start.prefix half.covers way.covers;
      left = λ len of has.
          let around = way.left len of has in
          let over = above_parent nodes trie at parent around.at way.node up around.node way.is parent_is up_is around.is around.around in
          elim (cases_lt around.node.prefix.len up.prefix.len) [
            | inl less ↦ record { at = around.at; node = around.node; is = around.is; around = record { covers = over; longer = less }; len_is = around.len_is; has = around.has }
            | inr le ↦
                let one = covers-one around.node.prefix up.prefix (trie.blocks around.at around.node around.is) (trie.blocks parent up up_is) over le in
                let place = trie.once around.at parent around.node up around.is up_is one in
                let there : node_at nodes parent ≡ Some around.node = rw place at around.is in
                let same = one_node nodes parent around.node up there up_is in
                absurd (cc (ap part same, around.has, lacks))
          ];
    }

pub len_is : (nodes : List (Option Node)) (at : ℕ) (node : Node) → node_at nodes at ≡ Some node → len_at nodes at ≡ node.prefix.len
len_is nodes at node is = ap len_of is

-- a parent that has this part is the nearest
pub next_found : (part : Node → Option ℕ) (nodes : List (Option Node)) → IsTrie nodes → (from at parent : ℕ) (up start : Node) (way : IsWayUp part nodes from at) (near : ℕ) → way.node.parent ≡ Some parent → node_at nodes parent ≡ Some up
    → node_at nodes from ≡ Some start → part up ≡ Some near → IsNextAround part nodes start.prefix (Some near)
next_found part nodes trie from at parent up start way near parent_is up_is start_is has_it =
    let half = parent_half nodes trie at parent way.node up way.is parent_is up_is in
    let longer = half.longer in
    let order = way.covers.order in
    subst (λ (n : Node). IsNextAround part nodes n.prefix (Some near)) (one_node nodes from way.start start way.start_is start_is) (
      up.prefix.len,
      record { at = parent; node = up; is = up_is; around = record { covers = covers-trans up.prefix way.node.prefix way.start.prefix half.covers way.covers; longer = omega arith }; len_is = refl; has = has_it },
      λ len of has.
          let around = way.left len of has in
          let over = above_parent nodes trie at parent around.at way.node up around.node way.is parent_is up_is around.is around.around in
          let most = over.order in
          let same = around.len_is in
          omega arith,
    )

-- nothing is around the node of every address
pub way-ended : (part : Node → Option ℕ) (nodes : List (Option Node)) → IsTrie nodes → (from at : ℕ) (start : Node) (way : IsWayUp part nodes from at) → way.node.parent ≡ None → node_at nodes from ≡ Some start → IsNextAround part nodes start.prefix None
way-ended part nodes trie from at start way none start_is =
    let top = trie.tops at way.node way.is none in
    let there : node_at nodes 0 ≡ Some way.node = rw top at way.is in
    let first = one_node nodes 0 way.node trie.first there trie.root in
    let whole : way.node.prefix ≡ any_address = ap (λ (n : Node). n.prefix) first ∙ trie.whole in
    let len_0 : way.node.prefix.len ≡ 0 = ap (λ (b : AddressBlock). b.len) whole in
    subst (λ (n : Node). IsNextAround part nodes n.prefix None) (one_node nodes from way.start start way.start_is start_is)
    (λ len of has.
    let around = way.left len of has in
    let longer = around.around.longer in
    omega arith)

-- a node that holds an address covers its block
pub key_covered : (nodes : List (Option Node)) → IsTrie nodes → (at : ℕ) (node : Node) (address : ℕ) → node_at nodes at ≡ Some node → IsTrue (block_holds node.prefix address) → Covers node.prefix (record { addr = address; len = 128 })
key_covered nodes trie at node address is holds = record { order = (trie.blocks at node is).length; same = eqb-true _ _ holds }

-- the deepest node that covers a key holds it for all, where it has an id
pub deep_found : (nodes : List (Option Node)) (address at id : ℕ) (node : Node) → IsTrie nodes → (deep : IsDeepest nodes (record { addr = address; len = 128 }) at) → node_at nodes at ≡ Some node → node.id ≡ Some id
    → IsHolder nodes address (Some id)
deep_found nodes address at id node trie deep is has =
    let same = one_node nodes at deep.node node deep.is is in
    let cov : Covers node.prefix (record { addr = address; len = 128 }) = rw same at deep.covers in (
      node.prefix.len,
      record { at = at; node = node; is = is; holds = eq-eqb _ _ cov.same; len_is = refl; has = has },
      λ len i one.
          let over = deep.deepest one.at one.node one.is (key_covered nodes trie one.at one.node address one.is one.holds) in
          let order = over.order in
          let len_same = one.len_is in
          let lens = ap (λ (n : Node). n.prefix.len) same in
          omega arith,
    )

-- and otherwise the nearest above it does
pub deep_above : (nodes : List (Option Node)) (address at : ℕ) (node : Node) (found : Option ℕ) → IsTrie nodes → (deep : IsDeepest nodes (record { addr = address; len = 128 }) at) → node_at nodes at ≡ Some node → node.id ≡ None
    → IsNextAround (λ (n : Node). n.id) nodes node.prefix found → IsHolder nodes address found
deep_above nodes address at node found trie deep is lacks near = by found near
  where
    same : deep.node ≡ node
    same = one_node nodes at deep.node node deep.is is

    cov : Covers node.prefix (record { addr = address; len = 128 })
    cov = subst (λ (n : Node). Covers n.prefix (record { addr = address; len = 128 })) same deep.covers

    -- one with an id that holds the address is around the deepest
    around : (len id : ℕ) → HasHolder nodes address len id → HasAround (λ (n : Node). n.id) nodes node.prefix len id
    around len id one =
        let over : Covers one.node.prefix node.prefix = subst (λ (n : Node). Covers one.node.prefix n.prefix) same (deep.deepest one.at one.node one.is (key_covered nodes trie one.at one.node address one.is one.holds)) in
        elim (cases_lt one.node.prefix.len node.prefix.len) [
          | inl less ↦ record { at = one.at; node = one.node; is = one.is; around = record { covers = over; longer = less }; len_is = one.len_is; has = one.has }
          | inr le ↦
              let block = covers-one one.node.prefix node.prefix (trie.blocks one.at one.node one.is) (trie.blocks at node is) over le in
              let place = trie.once one.at at one.node node one.is is block in
              let there : node_at nodes at ≡ Some one.node = rw place at one.is in
              let node_same = one_node nodes at one.node node there is in
              absurd (cc (ap (λ (n : Node). n.id) node_same, one.has, lacks))
        ]

    by : (found : Option ℕ) → IsNextAround (λ (n : Node). n.id) nodes node.prefix found → IsHolder nodes address found
    by None none = λ len id one. none len id (around len id one)
    by (Some id) near =
        let one = near.1 in
        let over = covers-trans one.node.prefix node.prefix (record { addr = address; len = 128 }) one.around.covers cov in
        (near.0, record { at = one.at; node = one.node; is = one.is; holds = eq-eqb _ _ over.same; len_is = one.len_is; has = one.has }, λ len i other. near.2 len i (around len i other))
