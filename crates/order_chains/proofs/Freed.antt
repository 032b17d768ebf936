-- New nodes are put into the list of free ones, one after another.
use Rattle.std.proofs.Common.{◌≡◌, ◌≢◌, ℕ, ◌+◌, ◌<◌, ◌≤◌, List, [], ◌∷◌, length, get_or, set, refl, sym, ap, ◌∙◌, subst, inl, inr, Contains, arith, length-set, le_refl}
use Rattle.std.proofs.lemmas.Bool.{cases_lt}
use Rattle.std.proofs.lemmas.List.{get_or_past}
use Rattle.slot_order.proofs.Lists.{contains_head, contains_tail, contains_cases, contains_none}
use Rattle.order_chains.specs.declared.node.Node.{Node}
use Rattle.order_chains.specs.declared.chains.Side.TheVariants.{Below, Above}
use Rattle.order_chains.specs.Nodes.{no_node, node_at}
use Rattle.order_chains.specs.Chains.{nil, next_at, back_at, pushed}
use Rattle.order_chains.specs.Lists.{Seg, Apart, AreLists}
use Rattle.order_chains.specs.Pairs.{AreChains, AreEnds, upper_at, lower_at}
use Rattle.order_chains.proofs.Links.{Seg_places}
use Rattle.order_chains.proofs.Listed.{AreLists_same, lists_push, head_in, head_off}
use Rattle.order_chains.proofs.Written.{pushed_field, pushed_length, push_is}

pub pushed_upper : (ns : List Node) (at first y : ℕ) → upper_at (pushed Below ns at first) y ≡ upper_at ns y
pushed_upper ns at first y = pushed_field (λ n. n.upper) Below (λ n l. refl) ns at first y

pub pushed_lower : (ns : List Node) (at first y : ℕ) → lower_at (pushed Below ns at first) y ≡ lower_at ns y
pushed_lower ns at first y = pushed_field (λ n. n.lower) Below (λ n l. refl) ns at first y

module _ (ids : ℕ) (ns : List Node) (below above : List ℕ) (at : ℕ) (a : AreChains ids ns below above at) where
  small : ids < length below
  small = let h = a.heads.0 in omega arith

  abbrev first : ℕ
  first = get_or below ids nil

  -- the first of the free nodes is one of those that are there
  pub free_first : at ≤ length ns → first ≢ nil → first < length ns
  free_first l n = let i = (head_in (next_at Below ns) (back_at Below ns) (upper_at ns) below at a.downs ids small n).0 in omega arith

  abbrev ms : List Node
  ms = pushed Below ns at first

  upper : (y : ℕ) → upper_at ms y ≡ upper_at ns y
  upper y = pushed_upper ns at first y

  lower : (y : ℕ) → lower_at ms y ≡ lower_at ns y
  lower y = pushed_lower ns at first y

  module _ (inside : at < length ns) (free : upper_at ns at ≡ ids) where
    size : length ms ≡ length ns
    size = pushed_length Below ns at first

    place : at ≢ nil
    place e = let s = a.size.2 in absurd (omega arith)

    downs : AreLists (next_at Below ms) (back_at Below ms) (upper_at ms) (set below ids at) (at + 1)
    downs = lists_push (next_at Below ns) (back_at Below ns) (upper_at ns) (next_at Below ms) (back_at Below ms) (upper_at ms) below at at ids a.downs small
        (at + 1) place (omega arith) (omega arith) (λ y l n. omega arith) (λ l. absurd (omega arith)) (upper at ∙ free) (λ y n. upper y)
        (push_is Below ns at first inside (free_first (omega arith))
        (head_off (next_at Below ns) (back_at Below ns) (upper_at ns) below at a.downs ids at small place (λ l. absurd (omega arith))))

    ups : AreLists (next_at Above ms) (back_at Above ms) (lower_at ms) above (length ns)
    ups = AreLists_same (next_at Above ns) (back_at Above ns) (lower_at ns) (next_at Above ms) (back_at Above ms) (lower_at ms) above (length ns)
        (λ y. pushed_field (λ n. n.above.next) Below (λ n l. refl) ns at first y) (λ y. pushed_field (λ n. n.above.back) Below (λ n l. refl) ns at first y) lower a.ups

    pub freed : AreChains ids ms (set below ids at) above (at + 1)
    freed = record {
      size = (a.size.0, a.size.1, subst (λ z. z < 4294967296) (sym size) a.size.2);
      heads = (length-set below ids at ∙ a.heads.0, a.heads.1);
      downs = downs;
      ups = subst (λ z. AreLists (next_at Above ms) (back_at Above ms) (lower_at ms) above z) (sym size) ups;
      ends = λ p l. subst (λ z. AreEnds ids z (lower_at ms p)) (sym (upper p)) (subst (λ z. AreEnds ids (upper_at ns p) z) (sym (lower p)) (a.ends p (subst (λ z. p < z) size l)));
      once = λ p q l m s e f. a.once p q (subst (λ z. p < z) size l) (subst (λ z. q < z) size m) (subst (λ z. z < ids) (upper p) s)
          (sym (upper p) ∙ (e ∙ upper q)) (sym (lower p) ∙ (f ∙ lower q));
    }

-- a member of a list with the same place before and after it has no place there
lone : (nx pv : ℕ → ℕ) (before h p : ℕ) (xs : List ℕ) → (Contains xs before → ⊥) → Apart xs → Seg nx pv before h xs → Contains xs p → nx p ≡ pv p → nx p ≡ nil
lone nx pv before h p [] fresh apart s c e = absurd (contains_none p c)
lone nx pv before h p (x ∷ []) fresh apart s c e = elim (contains_cases x p [] c) [ inl f ↦ ap nx (sym f) ∙ s.3 | inr i ↦ absurd (contains_none p i) ]
lone nx pv before h p (x ∷ y ∷ ys) fresh apart s c e = elim (contains_cases x p (y ∷ ys) c) [
  | inl f ↦ absurd (fresh (contains_tail x before (y ∷ ys) (subst (Contains (y ∷ ys)) (sym s.3.0 ∙ (ap nx f ∙ (e ∙ (sym (ap pv f) ∙ s.2)))) (contains_head y ys))))
  | inr i ↦ lone nx pv x (nx x) p (y ∷ ys) apart.0 apart.1 s.3 i e
]

-- the places that are in lists have nodes
pub within : (ids : ℕ) (ns : List Node) (below above : List ℕ) (len : ℕ) → AreChains ids ns below above len → len ≤ length ns
within ids ns below above len a = elim (cases_lt (length ns) len) [
  | inr m ↦ m
  | inl l ↦
      let p : ℕ = length ns in
      let none : node_at ns p ≡ no_node = get_or_past ns p no_node (le_refl p) in
      let u : upper_at ns p ≡ 0 = ap (λ n. n.upper) none in
      let h = a.heads.0 in
      let m : upper_at ns p < length below = omega arith in
      let id : ℕ = upper_at ns p in
      let s = a.downs.linked id m in
      let e : next_at Below ns p ≡ 0 = ap (λ n. n.below.next) none in
      let f : back_at Below ns p ≡ 0 = ap (λ n. n.below.back) none in
      let z = lone (next_at Below ns) (back_at Below ns) nil (get_or below id nil) p (a.downs.lists id)
      (λ c. Seg_places (next_at Below ns) (back_at Below ns) nil (get_or below id nil) (a.downs.lists id) nil s c refl) (a.downs.apart id m) s (a.downs.each p l m) (e ∙ sym f) in
      absurd (omega arith)
]
