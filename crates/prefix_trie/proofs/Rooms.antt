-- An empty place at the end changes nothing.
use Rattle.std.proofs.Common.{◌≡◌, ℕ, zero, suc, ◌≤◌, ◌++◌, List, [], ◌∷◌, Option, Some, None, length, refl, arith, sym, ◌∙◌, ap}
use Rattle.std.proofs.lemmas.List.{get_or_past}
use Rattle.rule_model.specs.AddressBlock.{AddressBlock}
use Rattle.prefix_trie.specs.declared.node.Node.{Node}
use Rattle.prefix_trie.specs.Nodes.{node_at, whole}
use Rattle.prefix_trie.specs.Trie.{AreLike, IsDeepest, IsRoom}

pub pushed : (nodes : List (Option Node)) (at : ℕ) → node_at (nodes ++ None ∷ []) at ≡ node_at nodes at
pushed [] zero = refl
pushed [] (suc at) = refl
pushed (x ∷ nodes) zero = refl
pushed (x ∷ nodes) (suc at) = pushed nodes at

pub pushed-like : (nodes : List (Option Node)) → AreLike whole nodes (nodes ++ None ∷ [])
pushed-like nodes = record {
  to = λ at node is. record { found = node; is = pushed nodes at ∙ is; like = refl };
  from = λ at node is. record { found = node; is = sym (pushed nodes at) ∙ is; like = refl };
}

pub same-like : (nodes : List (Option Node)) → AreLike whole nodes nodes
same-like nodes = record {
  to = λ at node is. record { found = node; is = is; like = refl };
  from = λ at node is. record { found = node; is = is; like = refl };
}

pub pushed-none : (nodes : List (Option Node)) → node_at (nodes ++ None ∷ []) (length nodes) ≡ None
pushed-none nodes = pushed nodes (length nodes) ∙ get_or_past nodes (length nodes) None (omega arith)

-- the deepest node stays it
pub deep-kept : (old new : List (Option Node)) (block : AddressBlock) (at : ℕ) → AreLike whole old new → IsDeepest old block at → IsDeepest new block at
deep-kept old new block at like deep =
    let here = like.to at deep.node deep.is in
    record {
      node = deep.node;
      is = here.is ∙ ap (λ (n : Node). Some n) here.like;
      covers = deep.covers;
      deepest = λ other held held_is cov.
          let was = like.from other held held_is in
          deep.deepest other held (was.is ∙ ap (λ (n : Node). Some n) was.like) cov;
    }

-- an empty place stays so
pub room-kept : (old new : List (Option Node)) (but place : ℕ) → AreLike whole old new → length old ≤ length new → IsRoom old but place → IsRoom new but place
room-kept old new but place like more room =
    let fits = room.fits in
    record { fits = omega arith; none = none (node_at new place) refl; other = room.other }
  where
    none : (found : Option Node) → node_at new place ≡ found → node_at new place ≡ None
    none None is = is
    none (Some node) is = let was = like.from place node is in absurd (cc (was.is, room.none))
