-- A pair is given up: its node is taken out of the lists of its ends and put into that of free ones.
use Rattle.std.proofs.Common.{◌≡◌, ◌≢◌, ℕ, ◌+◌, ◌<◌, ◌≤◌, List, length, get_or, set, map, None, refl, sym, ap, ◌∙◌, subst, inl, inr, arith, get_or-set_same, get_or-set_other, length-set, le_refl}
use Rattle.std.proofs.lemmas.Bool.{cases_eq}
use Rattle.order_chains.specs.declared.node.Node.{Node}
use Rattle.order_chains.specs.declared.chains.Side.TheVariants.{Below, Above}
use Rattle.order_chains.specs.Nodes.{no_node}
use Rattle.order_chains.specs.Chains.{nil, next_at, back_at, pushed, unlinked, heads_unlinked}
use Rattle.order_chains.specs.Lists.{AreLists}
use Rattle.order_chains.specs.Pairs.{AreChains, AreEnds, pair_of, upper_at, lower_at, with_ends}
use Rattle.order_chains.proofs.Listed.{AreLists_same, IsUnlink, lists_push, lists_unlink, heads'_size, head_in, head_off, next_in, back_in_list}
use Rattle.order_chains.proofs.Linked.{but, but_at, but_off}
use Rattle.order_chains.proofs.Written.{pushed_field, unlinked_field, set_field, pushed_length, unlinked_length, push_is, unlink_is}
use Rattle.order_chains.proofs.Places.{pair_free, one_changed}

-- the neighbours of a node in a list are places
abbrev pub HasNeighbours : (ℕ → ℕ) → (ℕ → ℕ) → ℕ → ℕ → Type 0
HasNeighbours nx pv len at = (nx at ≢ nil → nx at < len) × (pv at ≢ nil → pv at < len)

neighbours : (nx pv owner : ℕ → ℕ) (heads : List ℕ) (len : ℕ) → AreLists nx pv owner heads len → (at : ℕ) → at < len → owner at < length heads → HasNeighbours nx pv len at
neighbours nx pv owner heads len a at l m = (next_in nx pv owner heads len a at l m, back_in_list nx pv owner heads len a at l m)

module _ (ids : ℕ) (ns : List Node) (below above : List ℕ) (a : AreChains ids ns below above (length ns)) (at : ℕ) (inside : at < length ns) (taken : upper_at ns at < ids) where
  abbrev pub upper : ℕ
  upper = upper_at ns at

  abbrev pub lower : ℕ
  lower = lower_at ns at

  abbrev pub ns1 : List Node
  ns1 = unlinked Below ns at

  abbrev pub below1 : List ℕ
  below1 = heads_unlinked Below ns below upper at

  abbrev pub ns2 : List Node
  ns2 = unlinked Above ns1 at

  abbrev pub above2 : List ℕ
  above2 = heads_unlinked Above ns1 above lower at

  abbrev pub ns3 : List Node
  ns3 = with_ends ns2 at ids ids

  abbrev pub ns4 : List Node
  ns4 = pushed Below ns3 at (get_or below1 ids nil)

  abbrev pub below4 : List ℕ
  below4 = set below1 ids at

  abbrev len : ℕ
  len = length ns

  abbrev owner1 : ℕ → ℕ
  owner1 = but at (ids + 1) (upper_at ns)

  place : at ≢ nil
  place e = let s = a.size.2 in absurd (omega arith)

  pub low : lower < ids
  low = elim (a.ends at inside) [ inl w ↦ (let e = w.0 in absurd (omega arith)) | inr w ↦ w.1 ]

  pub size1 : length ns1 ≡ len
  size1 = unlinked_length Below ns at

  pub size2 : length ns2 ≡ len
  size2 = unlinked_length Above ns1 at ∙ size1

  size3 : length ns3 ≡ len
  size3 = length-set _ _ _ ∙ size2

  size4 : length ns4 ≡ len
  size4 = pushed_length Below ns3 at _ ∙ size3

  inside2 : at < length ns2
  inside2 = subst (λ z. at < z) (sym size2) inside

  -- the ends after all
  upper_here : upper_at ns4 at ≡ ids
  upper_here = pushed_field (λ n. n.upper) Below (λ n l. refl) ns3 at _ at ∙ ap (λ n. n.upper) (get_or-set_same ns2 at _ no_node inside2)

  lower_here : lower_at ns4 at ≡ ids
  lower_here = pushed_field (λ n. n.lower) Below (λ n l. refl) ns3 at _ at ∙ ap (λ n. n.lower) (get_or-set_same ns2 at _ no_node inside2)

  upper_off : (y : ℕ) → y ≢ at → upper_at ns4 y ≡ upper_at ns y
  upper_off y n = pushed_field (λ n. n.upper) Below (λ n l. refl) ns3 at _ y ∙ (ap (λ n. n.upper) (get_or-set_other ns2 at y _ no_node n) ∙ (unlinked_field (λ n. n.upper) Above (λ n l. refl) ns1 at y ∙ unlinked_field (λ n. n.upper) Below (λ n l. refl) ns at y))

  lower_off : (y : ℕ) → y ≢ at → lower_at ns4 y ≡ lower_at ns y
  lower_off y n = pushed_field (λ n. n.lower) Below (λ n l. refl) ns3 at _ y ∙ (ap (λ n. n.lower) (get_or-set_other ns2 at y _ no_node n) ∙ (unlinked_field (λ n. n.lower) Above (λ n l. refl) ns1 at y ∙ unlinked_field (λ n. n.lower) Below (λ n l. refl) ns at y))

  -- out of the below list
  pub owned : upper < length below
  owned = let h = a.heads.0 in omega arith

  pub beside_down : HasNeighbours (next_at Below ns) (back_at Below ns) len at
  beside_down = neighbours (next_at Below ns) (back_at Below ns) (upper_at ns) below len a.downs at inside owned

  is_unlinked : IsUnlink (next_at Below ns) (back_at Below ns) (next_at Below ns1) (back_at Below ns1) at
  is_unlinked = unlink_is Below ns at beside_down.1 beside_down.0

  out1 : length below ≤ owner1 at
  out1 = let h = a.heads.0 in let e = but_at at (ids + 1) (upper_at ns) in omega arith

  downs1 : AreLists (next_at Below ns1) (back_at Below ns1) owner1 below1 len
  downs1 = lists_unlink (next_at Below ns) (back_at Below ns) (upper_at ns) (next_at Below ns1) (back_at Below ns1) owner1 below len at upper a.downs owned
      inside refl out1 (but_off at (ids + 1) (upper_at ns)) is_unlinked

  size_below1 : length below1 ≡ ids + 1
  size_below1 = heads'_size (next_at Below ns) (back_at Below ns) (upper_at ns) (next_at Below ns1) (back_at Below ns1) owner1 below len at upper a.downs owned
      inside refl out1 (but_off at (ids + 1) (upper_at ns)) is_unlinked ∙ a.heads.0

  -- out of the above list
  ups1 : AreLists (next_at Above ns1) (back_at Above ns1) (lower_at ns) above len
  ups1 = AreLists_same (next_at Above ns) (back_at Above ns) (lower_at ns) (next_at Above ns1) (back_at Above ns1) (lower_at ns) above len
      (λ y. unlinked_field (λ n. n.above.next) Below (λ n l. refl) ns at y) (λ y. unlinked_field (λ n. n.above.back) Below (λ n l. refl) ns at y) (λ y. refl) a.ups

  pub owned_up : lower < length above
  owned_up = let h = a.heads.1 in let l = low in omega arith

  beside : HasNeighbours (next_at Above ns1) (back_at Above ns1) len at
  beside = neighbours (next_at Above ns1) (back_at Above ns1) (lower_at ns) above len ups1 at inside owned_up

  pub beside_up : HasNeighbours (next_at Above ns1) (back_at Above ns1) (length ns1) at
  beside_up = subst (λ z. HasNeighbours (next_at Above ns1) (back_at Above ns1) z at) (sym size1) beside

  is_unlinked2 : IsUnlink (next_at Above ns1) (back_at Above ns1) (next_at Above ns2) (back_at Above ns2) at
  is_unlinked2 = unlink_is Above ns1 at beside_up.1 beside_up.0

  out2 : length above ≤ lower_at ns4 at
  out2 = let h = a.heads.1 in let e = lower_here in omega arith

  ups2 : AreLists (next_at Above ns2) (back_at Above ns2) (lower_at ns4) above2 len
  ups2 = lists_unlink (next_at Above ns1) (back_at Above ns1) (lower_at ns) (next_at Above ns2) (back_at Above ns2) (lower_at ns4) above len at lower ups1 owned_up
      inside refl out2 lower_off is_unlinked2

  size_above2 : length above2 ≡ ids
  size_above2 = heads'_size (next_at Above ns1) (back_at Above ns1) (lower_at ns) (next_at Above ns2) (back_at Above ns2) (lower_at ns4) above len at lower ups1 owned_up
      inside refl out2 lower_off is_unlinked2 ∙ a.heads.1

  ups4 : AreLists (next_at Above ns4) (back_at Above ns4) (lower_at ns4) above2 len
  ups4 = AreLists_same (next_at Above ns2) (back_at Above ns2) (lower_at ns4) (next_at Above ns4) (back_at Above ns4) (lower_at ns4) above2 len
      (λ y. pushed_field (λ n. n.above.next) Below (λ n l. refl) ns3 at _ y ∙ set_field (λ n. n.above.next) ns2 at _ y refl)
      (λ y. pushed_field (λ n. n.above.back) Below (λ n l. refl) ns3 at _ y ∙ set_field (λ n. n.above.back) ns2 at _ y refl) (λ y. refl) ups2

  -- into the list of free ones
  downs3 : AreLists (next_at Below ns3) (back_at Below ns3) owner1 below1 len
  downs3 = AreLists_same (next_at Below ns1) (back_at Below ns1) owner1 (next_at Below ns3) (back_at Below ns3) owner1 below1 len
      (λ y. set_field (λ n. n.below.next) ns2 at _ y refl ∙ unlinked_field (λ n. n.below.next) Above (λ n l. refl) ns1 at y)
      (λ y. set_field (λ n. n.below.back) ns2 at _ y refl ∙ unlinked_field (λ n. n.below.back) Above (λ n l. refl) ns1 at y) (λ y. refl) downs1

  nobody : at < len → length below1 ≤ owner1 at
  nobody l = let h = size_below1 in let e = but_at at (ids + 1) (upper_at ns) in omega arith

  fits : ids < length below1
  fits = let h = size_below1 in omega arith

  pub first_free : (at < length ns3) × (ids < length below1) × (get_or below1 ids nil ≢ nil → get_or below1 ids nil < length ns3)
  first_free = (
    subst (λ z. at < z) (sym size3) inside,
    fits,
    λ n. subst (λ z. get_or below1 ids nil < z) (sym size3) (head_in (next_at Below ns3) (back_at Below ns3) owner1 below1 len downs3 ids fits n).0,
  )

  downs4 : AreLists (next_at Below ns4) (back_at Below ns4) (upper_at ns4) below4 len
  downs4 = lists_push (next_at Below ns3) (back_at Below ns3) owner1 (next_at Below ns4) (back_at Below ns4) (upper_at ns4) below1 len at ids downs3 fits
      len place inside (le_refl len) (λ y l n. l) nobody upper_here (λ y n. upper_off y n ∙ sym (but_off at (ids + 1) (upper_at ns) y n))
      (push_is Below ns3 at (get_or below1 ids nil) first_free.0 first_free.2
      (head_off (next_at Below ns3) (back_at Below ns3) owner1 below1 len downs3 ids at fits place nobody))

  -- a node with an upper id is another one
  off : (p : ℕ) → upper_at ns4 p < ids → p ≢ at
  off p s e = let f = ap (upper_at ns4) e ∙ upper_here in absurd (omega arith)

  pub chains_given_up : AreChains ids ns4 below4 above2 (length ns4)
  chains_given_up = record {
    size = (a.size.0, a.size.1, (let s = size4 in let z = a.size.2 in omega arith));
    heads = (length-set below1 ids at ∙ size_below1, size_above2);
    downs = subst (λ z. AreLists (next_at Below ns4) (back_at Below ns4) (upper_at ns4) below4 z) (sym size4) downs4;
    ups = subst (λ z. AreLists (next_at Above ns4) (back_at Above ns4) (lower_at ns4) above2 z) (sym size4) ups4;
    ends = λ p l. elim (cases_eq p at) [
      | inl e ↦ inl (ap (upper_at ns4) e ∙ upper_here, ap (lower_at ns4) e ∙ lower_here)
      | inr n ↦ subst (λ z. AreEnds ids z (lower_at ns4 p)) (sym (upper_off p n)) (subst (λ z. AreEnds ids (upper_at ns p) z) (sym (lower_off p n)) (a.ends p (let s = size4 in omega arith)))
    ];
    once = λ p q l m s e f.
        let z = size4 in
        let n : p ≢ at = off p s in
        let k : q ≢ at = off q (subst (λ z. z < ids) e s) in
        a.once p q (omega arith) (omega arith) (subst (λ z. z < ids) (upper_off p n) s) (sym (upper_off p n) ∙ (e ∙ upper_off q k)) (sym (lower_off p n) ∙ (f ∙ lower_off q k));
  }

  pub is_given_up : map (pair_of ids) ns4 ≡ set (map (pair_of ids) ns) at None
  is_given_up = one_changed ids ns ns4 at None size4 inside (pair_free ids (upper_at ns4 at) (lower_at ns4 at) upper_here) upper_off lower_off
