-- A trie of no prefixes has one node.
use Rattle.std.proofs.Common.{◌≡◌, ℕ, zero, suc, ◌<◌, ◌^◌, Bool, true, false, [], ◌∷◌, Option, Some, None, refl, arith, sym, ◌∙◌, ap, subst}
use Rattle.std.specs.Prelude.{slice_index_or, replicate}
use Rattle.std.proofs.lemmas.List.{length-replicate}
use Rattle.prefix_trie.specs.Routes.{Route}
use Rattle.rule_model.specs.AddressBlock.{IsAddressBlock}
use Rattle.prefix_trie.specs.declared.node.Node.{Node}
use Rattle.prefix_trie.specs.Nodes.{node_at, child_of}
use Rattle.prefix_trie.specs.Trie.{IsTrie, IsTop, AreParts}

abbrev pub first_node : Node
first_node = record { prefix = record { addr = 0; len = 0 }; parent = None; zero = None; one = None; id = None; slot = None; top = None }

only : (at : ℕ) (node : Node) → node_at (Some first_node ∷ []) at ≡ Some node → (at ≡ 0) × (first_node ≡ node)
only zero node is = (refl, cc)
only (suc at) node is = absurd (cc)

no_child : (bit : Bool) (child : ℕ) → child_of first_node bit ≡ Some child → ⊥
no_child false child link = cc
no_child true child link = cc

trie-begun : IsTrie (Some first_node ∷ [])
trie-begun = record {
  first = first_node;
  root = refl;
  whole = refl;
  blocks = λ at node is. subst (λ (n : Node). IsAddressBlock n.prefix) (only at node is).1 (record { fits = omega arith; length = omega arith; no_host_bits = refl });
  once = λ a b one other one_is other_is same. (only a one one_is).0 ∙ sym (only b other other_is).0;
  children = λ at child bit node is link. absurd (no_child bit child (ap (λ (n : Node). child_of n bit) (only at node is).1 ∙ link));
  parents = λ at parent node is up. absurd (cc (ap (λ (n : Node). n.parent) (only at node is).1, up));
  tops = λ at node is none. (only at node is).0;
  leads = λ at other bit node held is held_is half.
      let lens = ap (λ (n : Node). n.prefix.len) (sym (only at node is).1 ∙ (only other held held_is).1) in
      let longer = half.longer in
      absurd (omega arith);
}

none_in : {X : Type 0} (n id : ℕ) → slice_index_or (replicate {A = Option X} n None) id None ≡ None
none_in zero id = refl
none_in (suc n) zero = refl
none_in (suc n) (suc id) = none_in n id

pub parts-begun : (ids : ℕ) → ids < 2 ^ 32 → AreParts (replicate ids None) (replicate ids None) (Some first_node ∷ [])
parts-begun ids small = record {
  few = omega arith;
  ids_few = let size = length-replicate {A = Option ℕ} ids None in omega arith;
  trie = trie-begun;
  tops = λ at node is. subst (λ (n : Node). IsTop (Some first_node ∷ []) n.prefix n.top) (only at node is).1 (λ slot has. absurd (cc (ap (λ (n : Node). n.slot) (only has.at has.node has.is).1, has.stands)));
  held = record {
    many = length-replicate {A = Option ℕ} ids None ∙ sym (length-replicate {A = Option Route} ids None);
    none = λ id none. none_in ids id;
    some = λ id at put. absurd (cc (none_in {X = ℕ} ids id, put));
    ids = λ at id node is some. absurd (cc (ap (λ (n : Node). n.id) (only at node is).1, some));
    bare = λ at node is none. sym (ap (λ (n : Node). n.slot) (only at node is).1);
  };
}
