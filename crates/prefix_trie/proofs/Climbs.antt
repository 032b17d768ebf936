-- On the way up each node gets the greatest slot inside it.
use Rattle.std.proofs.Common.{◌≡◌, ◌≢◌, ◌+◌, ℕ, ◌<◌, ◌≤◌, ◌⊎◌, Bool, true, false, List, Option, Some, None, inl, inr, refl, arith, sym, ◌∙◌, ap, subst}
use Rattle.std.specs.Prelude.{slice_set}
use Rattle.std.proofs.lemmas.Bool.{cases_lt, cases_eq}
use Rattle.rule_model.specs.AddressBlock.{AddressBlock}
use Rattle.prefix_trie.specs.declared.node.Node.{Node}
use Rattle.prefix_trie.specs.Blocks.{covers, Covers}
use Rattle.prefix_trie.specs.Greatest.{greater}
use Rattle.prefix_trie.specs.Nodes.{node_at, top_at, bare, with_top, with_entry, len_at, left_up}
use Rattle.prefix_trie.specs.Trie.{IsTrie, IsMost, IsTop, HaveTops, HaveTopsBut, HaveTopsPast, IsClimb, HasSlot, HasSlotInside, AreLike}
use Rattle.prefix_trie.proofs.Halves.{covers-self, covers-one, covers-trans, covers-parts, covers-test}
use Rattle.prefix_trie.proofs.Ways.{one_node, len_is, above_parent}
use Rattle.prefix_trie.proofs.Tops.{most-join, most-same, tops_inside}
use Rattle.prefix_trie.proofs.Likes.{set_here, set_other, set-like, top-like}

-- a node's own slot
own_most : (held slot : Option ℕ) → held ≡ slot → IsMost (λ (s : ℕ). held ≡ Some s) slot
own_most held None is = λ s has. absurd (cc)
own_most held (Some x) is = (is, λ s has. let same : s ≡ x = cc in omega arith)

-- a node that covers one as long is at the same place
same_place : (nodes : List (Option Node)) → IsTrie nodes → (at other : ℕ) (node held : Node) → node_at nodes at ≡ Some node → node_at nodes other ≡ Some held
    → Covers held.prefix node.prefix → node.prefix.len ≤ held.prefix.len → other ≡ at
same_place nodes trie at other node held is held_is cov le =
    trie.once other at held node held_is is (covers-one held.prefix node.prefix (trie.blocks other held held_is) (trie.blocks at node is) cov le)

-- the greatest slot inside a node is its own or one below it
pub climb_top : (nodes : List (Option Node)) → IsTrie nodes → (at : ℕ) (node : Node) → node_at nodes at ≡ Some node → HaveTopsBut node.prefix nodes
    → IsTop nodes node.prefix (greater node.slot (greater (top_at nodes node.zero) (top_at nodes node.one)))
climb_top nodes trie at node is but =
    most-join (λ (s : ℕ). node.slot ≡ Some s) (HasSlotInside nodes node.prefix) (HasSlot nodes node.prefix) node.slot (greater (top_at nodes node.zero) (top_at nodes node.one))
    (λ slot has. record { at = at; node = node; is = is; covers = covers-self node.prefix; stands = has })
    (λ slot has. record { at = has.at; node = has.node; is = has.is; covers = has.inside.covers; stands = has.stands })
    from
    (own_most node.slot node.slot refl)
    (tops_inside nodes trie at node (λ other held held_is longer. but other held held_is (λ cov. let order = cov.order in absurd (omega arith))) is)
  where
    from : (slot : ℕ) → HasSlot nodes node.prefix slot → (node.slot ≡ Some slot) ⊎ HasSlotInside nodes node.prefix slot
    from slot has = elim (cases_lt node.prefix.len has.node.prefix.len) [
      | inl longer ↦ inr (record { at = has.at; node = has.node; is = has.is; inside = record { covers = has.covers; longer = longer }; stands = has.stands })
      | inr le ↦
          let place = same_place nodes trie has.at at has.node node has.is is has.covers le in
          let there : node_at nodes has.at ≡ Some node = rw place at is in
          let same = one_node nodes has.at node has.node there has.is in
          inl (ap (λ (n : Node). n.slot) same ∙ has.stands)
    ]

-- and then the next is the parent
pub climb-on : (nodes : List (Option Node)) → IsTrie nodes → (at : ℕ) (past : HaveTopsPast nodes at)
    → (top : Option ℕ) → top ≡ greater past.node.slot (greater (top_at nodes past.node.zero) (top_at nodes past.node.one)) → (parent : Option ℕ) → past.node.parent ≡ parent
    → IsClimb (slice_set nodes at (Some (with_top past.node top))) parent
climb-on nodes trie at past top top_is = next
  where
    like : AreLike bare nodes (slice_set nodes at (Some (with_top past.node top)))
    like = set-like bare nodes at past.node (with_top past.node top) past.is refl

    here : (held : Node) → node_at (slice_set nodes at (Some (with_top past.node top))) at ≡ Some held → IsTop (slice_set nodes at (Some (with_top past.node top))) held.prefix held.top
    here held held_is =
        let same : with_top past.node top ≡ held = cc (set_here nodes at past.node (Some (with_top past.node top)) past.is, held_is) in
        subst (λ (n : Node). IsTop (slice_set nodes at (Some (with_top past.node top))) n.prefix n.top) same
        (top-like nodes (slice_set nodes at (Some (with_top past.node top))) like past.node.prefix top (subst (IsTop nodes past.node.prefix) (sym top_is) (climb_top nodes trie at past.node past.is past.but)))

    elsewhere : (other : ℕ) (held : Node) → node_at (slice_set nodes at (Some (with_top past.node top))) other ≡ Some held → other ≢ at → (Covers held.prefix past.node.prefix → ⊥)
        → IsTop (slice_set nodes at (Some (with_top past.node top))) held.prefix held.top
    elsewhere other held held_is ne apart =
        top-like nodes (slice_set nodes at (Some (with_top past.node top))) like held.prefix held.top
        (past.but other held (sym (set_other nodes at other (Some (with_top past.node top)) ne) ∙ held_is) apart)

    next : (parent : Option ℕ) → past.node.parent ≡ parent → IsClimb (slice_set nodes at (Some (with_top past.node top))) parent
    next None none = λ other held held_is. elim (cases_eq other at) [
      | inl same ↦ here held (rw same at held_is)
      | inr ne ↦ elsewhere other held held_is ne (λ cov.
          let was = sym (set_other nodes at other (Some (with_top past.node top)) ne) ∙ held_is in
          let place = trie.tops at past.node past.is none in
          let there : node_at nodes 0 ≡ Some past.node = rw place at past.is in
          let first = one_node nodes 0 past.node trie.first there trie.root in
          let len_0 : past.node.prefix.len ≡ 0 = ap (λ (n : Node). n.prefix.len) first ∙ ap (λ (b : AddressBlock). b.len) trie.whole in
          ne (same_place nodes trie at other past.node held past.is was cov (omega arith)))
    ]
    next (Some parent) up_is =
        let link = trie.parents at parent past.node past.is up_is in
        let half = link.half in
        let longer = half.longer in
        let apart : parent ≢ at = (λ (same : parent ≡ at).
        let there : node_at nodes at ≡ Some link.node = sym (ap (node_at nodes) same) ∙ link.is in
        let one = one_node nodes at link.node past.node there past.is in
        let lens = ap (λ (n : Node). n.prefix.len) one in
        omega arith) in
        record {
          node = link.node;
          is = set_other nodes at parent (Some (with_top past.node top)) apart ∙ link.is;
          but = λ other held held_is notcov. elim (cases_eq other at) [
            | inl same ↦ here held (rw same at held_is)
            | inr ne ↦ elsewhere other held held_is ne (λ cov.
                let was = sym (set_other nodes at other (Some (with_top past.node top)) ne) ∙ held_is in
                elim (cases_lt held.prefix.len past.node.prefix.len) [
                  | inl less ↦ notcov (above_parent nodes trie at parent other past.node link.node held past.is up_is link.is was (record { covers = cov; longer = less }))
                  | inr le ↦ ne (same_place nodes trie at other past.node held past.is was cov le)
                ])
          ];
          was = past.was;
          above = λ other held held_is cov.
              let ne : other ≢ at = (λ (same : other ≡ at).
              let there : node_at (slice_set nodes at (Some (with_top past.node top))) at ≡ Some held = rw same at held_is in
              let one : with_top past.node top ≡ held = cc (set_here nodes at past.node (Some (with_top past.node top)) past.is, there) in
              let lens = ap (λ (n : Node). n.prefix.len) one in
              let order = cov.order in
              absurd (omega arith)) in
              past.above other held (sym (set_other nodes at other (Some (with_top past.node top)) ne) ∙ held_is) (covers-trans held.prefix link.node.prefix past.node.prefix cov half.covers);
          to = λ other held held_is off.
              let mid = past.to other held held_is (λ cov. off (covers-trans link.node.prefix past.node.prefix held.prefix half.covers cov)) in
              let end = like.to other mid.found mid.is in
              record { found = end.found; is = end.is; like = end.like ∙ mid.like };
          from = λ other held held_is off.
              let mid = like.from other held held_is in
              let prefix : mid.found.prefix ≡ held.prefix = ap (λ (n : Node). n.prefix) mid.like in
              let end = past.from other mid.found mid.is (λ cov. off (covers-trans link.node.prefix past.node.prefix held.prefix half.covers (subst (Covers past.node.prefix) prefix cov))) in
              record { found = end.found; is = end.is; like = end.like ∙ mid.like };
        }

-- of two kinds of slots that differ only within two kinds with one greatest each has the greatest that the other has
most-kept : (X Y R S : ℕ → Type 0) (t found : Option ℕ) → IsMost X t → IsMost Y t → ((s : ℕ) → X s → R s) → ((s : ℕ) → Y s → S s) → ((s : ℕ) → R s → X s ⊎ S s) → ((s : ℕ) → S s → Y s ⊎ R s)
    → IsMost R found → IsMost S found
most-kept X Y R S None None is_x is_y to_r to_s out into most = λ s has. elim (into s has) [ inl y ↦ is_y s y | inr r ↦ most s r ]
most-kept X Y R S (Some m) None is_x is_y to_r to_s out into most = λ s has. most m (to_r m is_x.0)
most-kept X Y R S None (Some last) is_x is_y to_r to_s out into most = (
  elim (out last most.0) [ inl x ↦ absurd (is_x last x) | inr s ↦ s ],
  λ s has. elim (into s has) [ inl y ↦ absurd (is_y s y) | inr r ↦ most.1 s r ],
)
most-kept X Y R S (Some m) (Some last) is_x is_y to_r to_s out into most =
    let le : m ≤ last = most.1 m (to_r m is_x.0) in (
      elim (out last most.0) [
        | inl x ↦ let ge = is_x.1 last x in let same : m ≡ last = omega arith in subst S same (to_s m is_y.0)
        | inr s ↦ s
      ],
      λ s has. elim (into s has) [
        | inl y ↦ let less = is_y.1 s y in omega arith
        | inr r ↦ most.1 s r
      ],
    )

covers_cases : (a b : AddressBlock) → Covers a b ⊎ (Covers a b → ⊥)
covers_cases a b = by (covers a b) refl
  where
    by : (test : Bool) → covers a b ≡ test → Covers a b ⊎ (Covers a b → ⊥)
    by true test = inl (covers-parts a b test)
    by false test = inr (λ cov. absurd (cc (covers-test a b cov, test)))

-- where the greatest slot of a node stays what it was nothing changes above it
pub settled : (nodes : List (Option Node)) → IsTrie nodes → (at : ℕ) (past : HaveTopsPast nodes at) → past.node.top ≡ greater past.node.slot (greater (top_at nodes past.node.zero) (top_at nodes past.node.one)) → HaveTops nodes
settled nodes trie at past same other held held_is = elim (covers_cases held.prefix past.node.prefix) [
  | inl cov ↦
      most-kept (HasSlot past.was past.node.prefix) (HasSlot nodes past.node.prefix) (HasSlot past.was held.prefix) (HasSlot nodes held.prefix) past.node.top held.top
      (past.above at past.node past.is (covers-self past.node.prefix))
      (subst (IsTop nodes past.node.prefix) (sym same) (climb_top nodes trie at past.node past.is past.but))
      (λ s has. record { at = has.at; node = has.node; is = has.is; covers = covers-trans held.prefix past.node.prefix has.node.prefix cov has.covers; stands = has.stands })
      (λ s has. record { at = has.at; node = has.node; is = has.is; covers = covers-trans held.prefix past.node.prefix has.node.prefix cov has.covers; stands = has.stands })
      out into (past.above other held held_is cov)
  | inr off ↦ past.but other held held_is off
]
  where
    out : (s : ℕ) → HasSlot past.was held.prefix s → HasSlot past.was past.node.prefix s ⊎ HasSlot nodes held.prefix s
    out s has = elim (covers_cases past.node.prefix has.node.prefix) [
      | inl in_it ↦ inl (record { at = has.at; node = has.node; is = has.is; covers = in_it; stands = has.stands })
      | inr off ↦
          let now = past.to has.at has.node has.is off in
          inr (record { at = has.at; node = now.found; is = now.is; covers = subst (Covers held.prefix) (sym (ap (λ (n : Node). n.prefix) now.like)) has.covers; stands = ap (λ (n : Node). n.slot) now.like ∙ has.stands })
    ]

    into : (s : ℕ) → HasSlot nodes held.prefix s → HasSlot nodes past.node.prefix s ⊎ HasSlot past.was held.prefix s
    into s has = elim (covers_cases past.node.prefix has.node.prefix) [
      | inl in_it ↦ inl (record { at = has.at; node = has.node; is = has.is; covers = in_it; stands = has.stands })
      | inr off ↦
          let old = past.from has.at has.node has.is off in
          inr (record { at = has.at; node = old.found; is = old.is; covers = subst (Covers held.prefix) (sym (ap (λ (n : Node). n.prefix) old.like)) has.covers; stands = ap (λ (n : Node). n.slot) old.like ∙ has.stands })
    ]

-- the same, with the node that was read
pub climb-read : (nodes : List (Option Node)) → IsTrie nodes → (at : ℕ) (past : HaveTopsPast nodes at) (node : Node) → node_at nodes at ≡ Some node
    → (top : Option ℕ) → top ≡ greater node.slot (greater (top_at nodes node.zero) (top_at nodes node.one)) → (parent : Option ℕ) → node.parent ≡ parent → IsClimb (slice_set nodes at (Some (with_top node top))) parent
climb-read nodes trie at past node is top top_is parent up_is =
    subst (λ (n : Node). top ≡ greater n.slot (greater (top_at nodes n.zero) (top_at nodes n.one)) → n.parent ≡ parent → IsClimb (slice_set nodes at (Some (with_top n top))) parent) (one_node nodes at past.node node past.is is)
    (λ eq up. climb-on nodes trie at past top eq parent up) top_is up_is

pub settled-read : (nodes : List (Option Node)) → IsTrie nodes → (at : ℕ) (past : HaveTopsPast nodes at) (node : Node) → node_at nodes at ≡ Some node → node.top ≡ greater node.slot (greater (top_at nodes node.zero) (top_at nodes node.one)) → HaveTops nodes
settled-read nodes trie at past node is same =
    subst (λ (n : Node). n.top ≡ greater n.slot (greater (top_at nodes n.zero) (top_at nodes n.one)) → HaveTops nodes) (one_node nodes at past.node node past.is is) (settled nodes trie at past) same

-- another entry leaves all right that does not cover the node
pub entry-past : (nodes : List (Option Node)) → IsTrie nodes → HaveTops nodes → (at : ℕ) (node : Node) (id slot : Option ℕ) → node_at nodes at ≡ Some node
    → HaveTopsPast (slice_set nodes at (Some (with_entry node id slot))) at
entry-past nodes trie tops at node id slot is = record {
  node = with_entry node id slot;
  is = set_here nodes at node (Some (with_entry node id slot)) is;
  but = λ other held held_is apart.
      let ne : other ≢ at = (λ (same : other ≡ at).
      let there : node_at (slice_set nodes at (Some (with_entry node id slot))) at ≡ Some held = rw same at held_is in
      let one : with_entry node id slot ≡ held = cc (set_here nodes at node (Some (with_entry node id slot)) is, there) in
      apart (subst (λ (n : Node). Covers n.prefix node.prefix) one (covers-self node.prefix))) in
      let was = sym (set_other nodes at other (Some (with_entry node id slot)) ne) ∙ held_is in
      most-same (HasSlot nodes held.prefix) (HasSlot (slice_set nodes at (Some (with_entry node id slot))) held.prefix) held.top
      (λ s has.
      let off : has.at ≢ at = (λ (same : has.at ≡ at).
      let there : node_at nodes at ≡ Some has.node = rw same at has.is in
      let one = one_node nodes at has.node node there is in
      apart (subst (λ (n : Node). Covers held.prefix n.prefix) one has.covers)) in
      record { at = has.at; node = has.node; is = set_other nodes at has.at (Some (with_entry node id slot)) off ∙ has.is; covers = has.covers; stands = has.stands })
      (λ s has.
      let off : has.at ≢ at = (λ (same : has.at ≡ at).
      let there : node_at (slice_set nodes at (Some (with_entry node id slot))) at ≡ Some has.node = rw same at has.is in
      let one : with_entry node id slot ≡ has.node = cc (set_here nodes at node (Some (with_entry node id slot)) is, there) in
      apart (subst (λ (n : Node). Covers held.prefix n.prefix) (sym one) has.covers)) in
      record { at = has.at; node = has.node; is = sym (set_other nodes at has.at (Some (with_entry node id slot)) off) ∙ has.is; covers = has.covers; stands = has.stands })
      (tops other held was);
  was = nodes;
  above = λ other held held_is cov. elim (cases_eq other at) [
    | inl same ↦
        let there : node_at (slice_set nodes at (Some (with_entry node id slot))) at ≡ Some held = rw same at held_is in
        let one : with_entry node id slot ≡ held = cc (set_here nodes at node (Some (with_entry node id slot)) is, there) in
        subst (λ (n : Node). IsTop nodes n.prefix n.top) one (tops at node is)
    | inr ne ↦ tops other held (sym (set_other nodes at other (Some (with_entry node id slot)) ne) ∙ held_is)
  ];
  to = λ other held held_is off.
      let ne : other ≢ at = (λ (same : other ≡ at).
      let there : node_at nodes at ≡ Some held = rw same at held_is in
      let one = one_node nodes at held node there is in
      off (subst (λ (n : Node). Covers node.prefix n.prefix) (sym one) (covers-self node.prefix))) in
      record { found = held; is = set_other nodes at other (Some (with_entry node id slot)) ne ∙ held_is; like = refl };
  from = λ other held held_is off.
      let ne : other ≢ at = (λ (same : other ≡ at).
      let there : node_at (slice_set nodes at (Some (with_entry node id slot))) at ≡ Some held = rw same at held_is in
      let one : with_entry node id slot ≡ held = cc (set_here nodes at node (Some (with_entry node id slot)) is, there) in
      off (subst (λ (n : Node). Covers node.prefix n.prefix) one (covers-self node.prefix))) in
      record { found = held; is = sym (set_other nodes at other (Some (with_entry node id slot)) ne) ∙ held_is; like = refl };
}

-- each step on the way up leaves fewer
pub climb-less : (nodes : List (Option Node)) → IsTrie nodes → (at : ℕ) (node : Node) → node_at nodes at ≡ Some node → (top parent : Option ℕ) → node.parent ≡ parent
    → left_up (slice_set nodes at (Some (with_top node top))) parent < len_at nodes at + 1
climb-less nodes trie at node is top None none = omega arith
climb-less nodes trie at node is top (Some parent) up_is =
    let link = trie.parents at parent node is up_is in
    let longer = link.half.longer in
    let apart : parent ≢ at = (λ (same : parent ≡ at).
    let there : node_at nodes at ≡ Some link.node = sym (ap (node_at nodes) same) ∙ link.is in
    let one = one_node nodes at link.node node there is in
    let lens = ap (λ (n : Node). n.prefix.len) one in
    omega arith) in
    let new = len_is (slice_set nodes at (Some (with_top node top))) parent link.node (set_other nodes at parent (Some (with_top node top)) apart ∙ link.is) in
    let old = len_is nodes at node is in
    omega arith
