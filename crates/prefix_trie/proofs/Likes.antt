-- What a trie keeps where the links of its nodes stay the same.
use Rattle.std.proofs.Common.{◌≡◌, ◌≢◌, ℕ, ◌<◌, Bool, true, false, List, Option, Some, None, length, inl, inr, refl, sym, ◌∙◌, ap, subst}
use Rattle.std.specs.Prelude.{slice_set}
use Rattle.std.proofs.lemmas.Bool.{cases_lt, cases_eq}
use Rattle.std.proofs.lemmas.List.{get_or_past, get_or-set_same, get_or-set_other}
use Rattle.rule_model.specs.AddressBlock.{AddressBlock, IsAddressBlock}
use Rattle.prefix_trie.specs.declared.node.Node.{Node}
use Rattle.prefix_trie.specs.Blocks.{Covers, InHalf}
use Rattle.prefix_trie.specs.Nodes.{node_at, child_of, bare, links}
use Rattle.prefix_trie.specs.Trie.{IsTrie, IsChild, IsParent, LeadsTo, HasLike, AreLike, IsTop, HasSlot}
use Rattle.prefix_trie.proofs.Ways.{one_node}
use Rattle.prefix_trie.proofs.Tops.{most-same}

-- a node is at one of the places
pub within : (nodes : List (Option Node)) (at : ℕ) (node : Node) → node_at nodes at ≡ Some node → at < length nodes
within nodes at node is = elim (cases_lt at (length nodes)) [
  | inl lt ↦ lt
  | inr le ↦ absurd (cc (get_or_past nodes at None le, is))
]

pub set_here : (nodes : List (Option Node)) (at : ℕ) (node : Node) (new : Option Node) → node_at nodes at ≡ Some node → node_at (slice_set nodes at new) at ≡ new
set_here nodes at node new is = get_or-set_same nodes at new None (within nodes at node is)

pub set_other : (nodes : List (Option Node)) (at other : ℕ) (new : Option Node) → other ≢ at → node_at (slice_set nodes at new) other ≡ node_at nodes other
set_other nodes at other new ne = get_or-set_other nodes at other new None ne

-- one node becomes another of which this part is the same
pub set-like : (part : Node → Node) (nodes : List (Option Node)) (at : ℕ) (node new : Node) → node_at nodes at ≡ Some node → part new ≡ part node → AreLike part nodes (slice_set nodes at (Some new))
set-like part nodes at node new is like = record { to = to; from = from }
  where
    to : (other : ℕ) (held : Node) → node_at nodes other ≡ Some held → HasLike part (slice_set nodes at (Some new)) other held
    to other held held_is = elim (cases_eq other at) [
      | inl same ↦
          let there : node_at nodes at ≡ Some held = rw same at held_is in
          record { found = new; is = rw same (set_here nodes at node (Some new) is); like = like ∙ ap part (one_node nodes at node held is there) }
      | inr ne ↦ record { found = held; is = set_other nodes at other (Some new) ne ∙ held_is; like = refl }
    ]

    from : (other : ℕ) (held : Node) → node_at (slice_set nodes at (Some new)) other ≡ Some held → HasLike part nodes other held
    from other held held_is = elim (cases_eq other at) [
      | inl same ↦
          let there : node_at (slice_set nodes at (Some new)) at ≡ Some held = rw same at held_is in
          let held_new : new ≡ held = cc (set_here nodes at node (Some new) is, there) in
          record { found = node; is = rw same is; like = sym like ∙ ap part held_new }
      | inr ne ↦ record { found = held; is = sym (set_other nodes at other (Some new) ne) ∙ held_is; like = refl }
    ]

child_links : (node : Node) (bit : Bool) → child_of (links node) bit ≡ child_of node bit
child_links node false = refl
child_links node true = refl

child-like : (a b : Node) (bit : Bool) → links a ≡ links b → child_of a bit ≡ child_of b bit
child-like a b bit like = sym (child_links a bit) ∙ (ap (λ (n : Node). child_of n bit) like ∙ child_links b bit)

prefix-like : (a b : Node) → links a ≡ links b → a.prefix ≡ b.prefix
prefix-like a b like = ap (λ (n : Node). n.prefix) like

pub half-like : (a b x y : AddressBlock) (bit : Bool) → a ≡ b → x ≡ y → InHalf a bit x → InHalf b bit y
half-like a b x y bit ab xy half = subst (λ (p : AddressBlock). InHalf p bit y) ab (subst (λ (p : AddressBlock). InHalf a bit p) xy half)

pub trie-like : (old new : List (Option Node)) → AreLike links old new → IsTrie old → IsTrie new
trie-like old new like trie =
    let first = like.to 0 trie.first trie.root in
    record {
      first = first.found;
      root = first.is;
      whole = prefix-like first.found trie.first first.like ∙ trie.whole;
      blocks = λ at node is. let was = like.from at node is in subst IsAddressBlock (prefix-like was.found node was.like) (trie.blocks at was.found was.is);
      once = λ a b one other one_is other_is same.
          let was = like.from a one one_is in
          let had = like.from b other other_is in
          trie.once a b was.found had.found was.is had.is (prefix-like was.found one was.like ∙ (same ∙ sym (prefix-like had.found other had.like)));
      children = children;
      parents = parents;
      tops = λ at node is none.
          let was = like.from at node is in
          trie.tops at was.found was.is (ap (λ (n : Node). n.parent) was.like ∙ none);
      leads = leads;
    }
  where
    children : (at child : ℕ) (bit : Bool) (node : Node) → node_at new at ≡ Some node → child_of node bit ≡ Some child → IsChild new at node.prefix bit child
    children at child bit node is link =
        let was = like.from at node is in
        let below = trie.children at child bit was.found was.is (child-like was.found node bit was.like ∙ link) in
        let now = like.to child below.node below.is in
        record {
          node = now.found;
          is = now.is;
          half = half-like was.found.prefix node.prefix below.node.prefix now.found.prefix bit (prefix-like was.found node was.like) (sym (prefix-like now.found below.node now.like)) below.half;
          back = ap (λ (n : Node). n.parent) now.like ∙ below.back;
        }

    parents : (at parent : ℕ) (node : Node) → node_at new at ≡ Some node → node.parent ≡ Some parent → IsParent new node.prefix at parent
    parents at parent node is up_is =
        let was = like.from at node is in
        let up = trie.parents at parent was.found was.is (ap (λ (n : Node). n.parent) was.like ∙ up_is) in
        let now = like.to parent up.node up.is in
        record {
          node = now.found;
          bit = up.bit;
          is = now.is;
          half = half-like up.node.prefix now.found.prefix was.found.prefix node.prefix up.bit (sym (prefix-like now.found up.node now.like)) (prefix-like was.found node was.like) up.half;
          link = child-like now.found up.node up.bit now.like ∙ up.link;
        }

    leads : (at other : ℕ) (bit : Bool) (node held : Node) → node_at new at ≡ Some node → node_at new other ≡ Some held → InHalf node.prefix bit held.prefix → LeadsTo new node bit held.prefix
    leads at other bit node held is held_is half =
        let was = like.from at node is in
        let had = like.from other held held_is in
        let to = trie.leads at other bit was.found had.found was.is had.is
        (half-like node.prefix was.found.prefix held.prefix had.found.prefix bit (sym (prefix-like was.found node was.like)) (sym (prefix-like had.found held had.like)) half) in
        let now = like.to to.child to.below to.is in
        record {
          child = to.child;
          below = now.found;
          link = sym (child-like was.found node bit was.like) ∙ to.link;
          is = now.is;
          covers = subst (λ (p : AddressBlock). Covers p held.prefix) (sym (prefix-like now.found to.below now.like))
              (subst (λ (p : AddressBlock). Covers to.below.prefix p) (prefix-like had.found held had.like) to.covers);
        }

-- where only greatest slots change links stay the same
pub links-like : (old new : List (Option Node)) → AreLike bare old new → AreLike links old new
links-like old new like = record {
  to = λ at node is. let has = like.to at node is in record { found = has.found; is = has.is; like = ap links has.like };
  from = λ at node is. let has = like.from at node is in record { found = has.found; is = has.is; like = ap links has.like };
}

pub like-trans : (part : Node → Node) (a b c : List (Option Node)) → AreLike part a b → AreLike part b c → AreLike part a c
like-trans part a b c ab bc = record {
  to = λ at node is.
      let mid = ab.to at node is in
      let end = bc.to at mid.found mid.is in
      record { found = end.found; is = end.is; like = end.like ∙ mid.like };
  from = λ at node is.
      let mid = bc.from at node is in
      let end = ab.from at mid.found mid.is in
      record { found = end.found; is = end.is; like = end.like ∙ mid.like };
}

pub like-self : (part : Node → Node) (a : List (Option Node)) → AreLike part a a
like-self part a = record {
  to = λ at node is. record { found = node; is = is; like = refl };
  from = λ at node is. record { found = node; is = is; like = refl };
}

-- then the same nodes stand
stands-to : (old new : List (Option Node)) → AreLike bare old new → (block : AddressBlock) (slot : ℕ) → HasSlot old block slot → HasSlot new block slot
stands-to old new like block slot has =
    let now = like.to has.at has.node has.is in
    record {
      at = has.at;
      node = now.found;
      is = now.is;
      covers = subst (Covers block) (sym (ap (λ (n : Node). n.prefix) now.like)) has.covers;
      stands = ap (λ (n : Node). n.slot) now.like ∙ has.stands;
    }

stands-from : (old new : List (Option Node)) → AreLike bare old new → (block : AddressBlock) (slot : ℕ) → HasSlot new block slot → HasSlot old block slot
stands-from old new like block slot has =
    let was = like.from has.at has.node has.is in
    record {
      at = has.at;
      node = was.found;
      is = was.is;
      covers = subst (Covers block) (sym (ap (λ (n : Node). n.prefix) was.like)) has.covers;
      stands = ap (λ (n : Node). n.slot) was.like ∙ has.stands;
    }

pub top-like : (old new : List (Option Node)) → AreLike bare old new → (block : AddressBlock) (found : Option ℕ) → IsTop old block found → IsTop new block found
top-like old new like block found = most-same (HasSlot old block) (HasSlot new block) found (stands-to old new like block) (stands-from old new like block)
