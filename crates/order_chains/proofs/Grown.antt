-- A block of no nodes, and one with new nodes, that are in no list yet.
use Rattle.std.proofs.Common.{◌≡◌, ℕ, zero, suc, ◌+◌, ◌-◌, ◌<◌, ◌≤◌, List, [], ◌∷◌, ◌++◌, length, map, replicate, take, drop, None, refl, sym, ap, ◌∙◌, subst, inl, inr, arith, length-append, le_refl}
use Rattle.std.proofs.Math.Seq.{take-append_seam}
use Rattle.std.proofs.lemmas.Bool.{cases_lt}
use Rattle.std.proofs.lemmas.List.{length-replicate, get_or-replicate, get_or_append_left, get_or-append_right, map-append}
use Rattle.slot_order.specs.Order.{most_slots}
use Rattle.slot_order.proofs.Lists.{contains_none}
use Rattle.order_chains.specs.declared.node.Node.{Node}
use Rattle.order_chains.specs.declared.chains.Side.TheVariants.{Below, Above}
use Rattle.order_chains.specs.Nodes.{no_node, node_at}
use Rattle.order_chains.specs.Chains.{nil, next_at, back_at}
use Rattle.order_chains.specs.Lists.{AreLists}
use Rattle.order_chains.specs.Pairs.{AreChains, AreEnds, pair_of, upper_at, lower_at}
use Rattle.order_chains.proofs.Listed.{AreLists_more}
use Rattle.order_chains.proofs.Places.{pair_free}

-- each list is empty
no_lists : (nx pv owner : ℕ → ℕ) (n : ℕ) → AreLists nx pv owner (replicate n nil) 0
no_lists nx pv owner n = record {
  lists = λ id. [];
  linked = λ id l. get_or-replicate n id nil nil (let e = length-replicate n nil in omega arith);
  apart = λ id l. tt;
  inside = λ id p l c. absurd (contains_none p c);
  each = λ p l m. absurd (omega arith);
}

pub no_chains : (ids : ℕ) → 1 ≤ ids → ids ≤ most_slots → AreChains ids [] (replicate (ids + 1) nil) (replicate ids nil) 0
no_chains ids l m = record {
  size = (l, m, omega arith);
  heads = (length-replicate (ids + 1) nil, length-replicate ids nil);
  downs = no_lists _ _ _ (ids + 1);
  ups = no_lists _ _ _ ids;
  ends = λ p l. absurd (omega arith);
  once = λ p q l m s e f. absurd (omega arith);
}

map_replicate : {X Y : Type 0} (f : X → Y) (n : ℕ) (x : X) → map f (replicate n x) ≡ replicate n (f x)
map_replicate f zero x = refl
map_replicate f (suc n) x = ap (λ ys. f x ∷ ys) (map_replicate f n x)

-- what is left of a vector's items is what its slice was given
pub items_of : (xs ys : List ℕ) (len : ℕ) → length xs ≡ len → take len (xs ++ drop (length xs) ys) ≡ xs
items_of xs ys len e = ap (λ k. take k (xs ++ drop (length xs) ys)) (sym e) ∙ take-append_seam xs (drop (length xs) ys)

module _ (ids : ℕ) (ns : List Node) (more : ℕ) (x : Node) (u : x.upper ≡ ids) (w : x.lower ≡ ids) where
  abbrev ms : List Node
  ms = ns ++ replicate more x

  size : length ms ≡ length ns + more
  size = let r = length-replicate more x in let s = length-append ns (replicate more x) in omega arith

  old : (k : ℕ) → k < length ns → node_at ms k ≡ node_at ns k
  old k l = get_or_append_left ns (replicate more x) no_node k l

  new : (k : ℕ) → length ns ≤ k → k < length ms → node_at ms k ≡ x
  new k l m = get_or-append_right ns (replicate more x) (length ns) k no_node refl l ∙ get_or-replicate more (k - length ns) x no_node (let s = size in omega arith)

  pub grown_upper : (k : ℕ) → length ns ≤ k → k < length ms → upper_at ms k ≡ ids
  grown_upper k l m = ap (λ n. n.upper) (new k l m) ∙ u

  grown_lower : (k : ℕ) → length ns ≤ k → k < length ms → lower_at ms k ≡ ids
  grown_lower k l m = ap (λ n. n.lower) (new k l m) ∙ w

  pub grown_pairs : map (pair_of ids) ms ≡ map (pair_of ids) ns ++ replicate more None
  grown_pairs = map-append (pair_of ids) ns (replicate more x) ∙ ap (λ ys. map (pair_of ids) ns ++ ys) (map_replicate (pair_of ids) more x ∙ ap (λ c. replicate more c) (pair_free ids x.upper x.lower u))

  module _ (below above : List ℕ) (a : AreChains ids ns below above (length ns)) (fits : length ns + more < 4294967296) where
    -- a node with a pair was there before
    was : (p : ℕ) → p < length ms → upper_at ms p < ids → p < length ns
    was p l s = elim (cases_lt p (length ns)) [ inl i ↦ i | inr n ↦ let e = grown_upper p n l in absurd (omega arith) ]

    grown : AreChains ids ms below above (length ns)
    grown = record {
      size = (a.size.0, a.size.1, let s = size in omega arith);
      heads = a.heads;
      downs = AreLists_more (next_at Below ns) (back_at Below ns) (upper_at ns) (next_at Below ms) (back_at Below ms) (upper_at ms) below (length ns) (length ns) (le_refl (length ns)) (λ y l m. absurd (omega arith))
          (λ y l. ap (λ n. n.below.next) (old y l)) (λ y l. ap (λ n. n.below.back) (old y l)) (λ y l. ap (λ n. n.upper) (old y l)) a.downs;
      ups = AreLists_more (next_at Above ns) (back_at Above ns) (lower_at ns) (next_at Above ms) (back_at Above ms) (lower_at ms) above (length ns) (length ms) (let s = size in omega arith)
          (λ y l m. let e = grown_lower y l m in let h = a.heads.1 in omega arith)
          (λ y l. ap (λ n. n.above.next) (old y l)) (λ y l. ap (λ n. n.above.back) (old y l)) (λ y l. ap (λ n. n.lower) (old y l)) a.ups;
      ends = λ p l. elim (cases_lt p (length ns)) [
        | inl i ↦ subst (λ n. AreEnds ids n.upper n.lower) (sym (old p i)) (a.ends p i)
        | inr n ↦ inl (grown_upper p n l, grown_lower p n l)
      ];
      once = λ p q l m s e f.
          let i = was p l s in
          let j = was q m (subst (λ z. z < ids) e s) in
          a.once p q i j (subst (λ n. n.upper < ids) (old p i) s)
          (sym (ap (λ n. n.upper) (old p i)) ∙ (e ∙ ap (λ n. n.upper) (old q j))) (sym (ap (λ n. n.lower) (old p i)) ∙ (f ∙ ap (λ n. n.lower) (old q j)));
    }

    -- the same, as the parts are named where they are read
    pub grown_at : (ms' : List Node) (below' : List ℕ) (from : ℕ) → ms' ≡ ms → below' ≡ below → from ≡ length ns → AreChains ids ms' below' above from
    grown_at ms' below' from e f g = subst (λ (z : List Node × List ℕ × ℕ). AreChains ids z.0 z.1 above z.2) (λ i. (sym e i, sym f i, sym g i)) grown
