-- The greatest slot inside a node is that of its two children.
use Rattle.std.proofs.Common.{◌≡◌, ℕ, ◌<◌, ◌⊎◌, Bool, true, false, List, Option, Some, None, inl, inr, refl, arith, sym, ap, subst}
use Rattle.std.specs.Prelude.{max}
use Rattle.std.proofs.lemmas.Bool.{cases_lt}
use Rattle.prefix_trie.specs.declared.node.Node.{Node}
use Rattle.prefix_trie.specs.Blocks.{bit_at}
use Rattle.prefix_trie.specs.Greatest.{greater}
use Rattle.prefix_trie.specs.Nodes.{node_at, child_of, top_at, top_of}
use Rattle.prefix_trie.specs.Trie.{IsTrie, IsMost, IsTop, HasSlot, HasSlotHalf, HasSlotInside, IsTopInside}
use Rattle.prefix_trie.proofs.Halves.{half-trans}
use Rattle.prefix_trie.proofs.Ways.{one_node}

-- the same slots have the same greatest
pub most-same : (P Q : ℕ → Type 0) (a : Option ℕ) → ((slot : ℕ) → P slot → Q slot) → ((slot : ℕ) → Q slot → P slot) → IsMost P a → IsMost Q a
most-same P Q None to from most = λ slot has. most slot (from slot has)
most-same P Q (Some last) to from most = (to last most.0, λ slot has. most.1 slot (from slot has))

-- the greatest of two kinds of slots
pub most-join : (P Q R : ℕ → Type 0) (a b : Option ℕ) → ((slot : ℕ) → P slot → R slot) → ((slot : ℕ) → Q slot → R slot) → ((slot : ℕ) → R slot → P slot ⊎ Q slot)
    → IsMost P a → IsMost Q b → IsMost R (greater a b)
most-join P Q R None None to_p to_q from is_p is_q = λ slot has. elim (from slot has) [ inl p ↦ is_p slot p | inr q ↦ is_q slot q ]
most-join P Q R None (Some b) to_p to_q from is_p is_q = (to_q b is_q.0, λ slot has. elim (from slot has) [ inl p ↦ absurd (is_p slot p) | inr q ↦ is_q.1 slot q ])
most-join P Q R (Some a) None to_p to_q from is_p is_q = (to_p a is_p.0, λ slot has. elim (from slot has) [ inl p ↦ is_p.1 slot p | inr q ↦ absurd (is_q slot q) ])
most-join P Q R (Some a) (Some b) to_p to_q from is_p is_q =
    let greatest : R (max a b) = elim (cases_lt a b) [
      | inl less ↦ let e : max a b ≡ b = omega arith in subst R (sym e) (to_q b is_q.0)
      | inr le ↦ let e : max a b ≡ a = omega arith in subst R (sym e) (to_p a is_p.0)
    ] in (
      greatest,
      λ slot has. elim (from slot has) [
        | inl p ↦ let le = is_p.1 slot p in omega arith
        | inr q ↦ let le = is_q.1 slot q in omega arith
      ],
    )

-- the nodes longer than this have the greatest slots inside them
abbrev pub HaveTopsBelow : ℕ → List (Option Node) → Type 0
HaveTopsBelow len nodes = (at : ℕ) (node : Node) → node_at nodes at ≡ Some node → len < node.prefix.len → IsTop nodes node.prefix node.top

-- each child has the greatest slot of its half
half_most : (nodes : List (Option Node)) → IsTrie nodes → (at : ℕ) (node : Node) → HaveTopsBelow node.prefix.len nodes → (bit : Bool) (child : Option ℕ) → node_at nodes at ≡ Some node → child_of node bit ≡ child
    → IsMost (HasSlotHalf nodes node.prefix bit) (top_at nodes child)
half_most nodes trie at node tops bit None is link = λ slot has.
    let leads = trie.leads at has.at bit node has.node is has.is has.half in
    absurd (cc (leads.link, link))
half_most nodes trie at node tops bit (Some child) is link =
    let below = trie.children at child bit node is link in
    let most = (trie.blocks child below.node below.is).length in
    let longer = below.half.longer in
    let top_is : top_of (node_at nodes child) ≡ below.node.top = ap top_of below.is in
    subst (IsMost (HasSlotHalf nodes node.prefix bit)) (sym top_is)
    (most-same (HasSlot nodes below.node.prefix) (HasSlotHalf nodes node.prefix bit) below.node.top
    (λ slot has. record { at = has.at; node = has.node; is = has.is; half = half-trans node.prefix below.node.prefix has.node.prefix bit (omega arith) below.half has.covers; stands = has.stands })
    (λ slot has.
    let leads = trie.leads at has.at bit node has.node is has.is has.half in
    let place : leads.child ≡ child = cc (leads.link, link) in
    let there : node_at nodes child ≡ Some leads.below = rw place at leads.is in
    let same = one_node nodes child leads.below below.node there below.is in
    record { at = has.at; node = has.node; is = has.is; covers = rw same at leads.covers; stands = has.stands })
    (tops child below.node below.is longer))

-- both halves together
pub tops_inside : (nodes : List (Option Node)) → IsTrie nodes → (at : ℕ) (node : Node) → HaveTopsBelow node.prefix.len nodes → node_at nodes at ≡ Some node
    → IsTopInside nodes node.prefix (greater (top_at nodes node.zero) (top_at nodes node.one))
tops_inside nodes trie at node tops is =
    most-join (HasSlotHalf nodes node.prefix false) (HasSlotHalf nodes node.prefix true) (HasSlotInside nodes node.prefix) (top_at nodes node.zero) (top_at nodes node.one)
    (λ slot has. record { at = has.at; node = has.node; is = has.is; inside = record { covers = has.half.covers; longer = has.half.longer }; stands = has.stands })
    (λ slot has. record { at = has.at; node = has.node; is = has.is; inside = record { covers = has.half.covers; longer = has.half.longer }; stands = has.stands })
    (λ slot has. split slot has (bit_at has.node.prefix.addr node.prefix.len) refl)
    (half_most nodes trie at node tops false node.zero is refl) (half_most nodes trie at node tops true node.one is refl)
  where
    split : (slot : ℕ) (has : HasSlotInside nodes node.prefix slot) (bit : Bool) → bit_at has.node.prefix.addr node.prefix.len ≡ bit
        → HasSlotHalf nodes node.prefix false slot ⊎ HasSlotHalf nodes node.prefix true slot
    split slot has false side = inl (record { at = has.at; node = has.node; is = has.is; half = record { covers = has.inside.covers; longer = has.inside.longer; side = side }; stands = has.stands })
    split slot has true side = inr (record { at = has.at; node = has.node; is = has.is; half = record { covers = has.inside.covers; longer = has.inside.longer; side = side }; stands = has.stands })
