-- The ids that a list of a block names, from a place of it on.
use Rattle.std.proofs.Common.{◌≡◌, ◌≢◌, ℕ, zero, suc, ◌<◌, ◌≤◌, false, List, [], ◌∷◌, length, get_or, map, refl, sym, ap, ◌∙◌, subst, Contains, arith, ne_eqb}
use Rattle.std.specs.Prelude.{nat_eq}
use Rattle.std.specs.List.{AllByRecursion, IsDistinct}
use Rattle.std.proofs.lemmas.Bool.{cond-true, cond-false, eq-eqb, eqb-true}
use Rattle.std.proofs.lemmas.List.{length-map}
use Rattle.std.proofs.lemmas.Map.Steps.{length-le_from_distinct_below}
use Rattle.slot_order.proofs.Lists.{contains_head, contains_tail, in_map, any_is}
use Rattle.order_chains.specs.declared.node.Node.{Node}
use Rattle.order_chains.specs.declared.chains.Side.{Side}
use Rattle.order_chains.specs.Nodes.{node_at}
use Rattle.order_chains.specs.Chains.{nil, next_at, back_at}
use Rattle.order_chains.specs.Lists.{Seg, Apart, AreLists}
use Rattle.order_chains.specs.Partners.{other_end, along, IsOnList}

-- what f makes of members is distinct where it tells them apart
all_map : (P : ℕ → Type 0) (f : ℕ → ℕ) (xs : List ℕ) → ((y : ℕ) → Contains xs y → P (f y)) → AllByRecursion P (map f xs)
all_map P f [] each = tt
all_map P f (x ∷ xs) each = (each x (contains_head x xs), all_map P f xs (λ y c. each y (contains_tail x y xs c)))

pub distinct_map : (f : ℕ → ℕ) (xs : List ℕ) → Apart xs → ((p q : ℕ) → Contains xs p → Contains xs q → f p ≡ f q → p ≡ q) → IsDistinct nat_eq (map f xs)
unfolding IsDistinct
distinct_map f [] apart tells = tt
distinct_map f (x ∷ xs) apart tells = (
  all_map (λ y. nat_eq (f x) y ≡ false) f xs (λ y c. ne_eqb (f x) (f y) (λ e. apart.0 (subst (Contains xs) (sym (tells x y (contains_head x xs) (contains_tail x y xs c) e)) c))),
  distinct_map f xs apart.1 (λ p q c d e. tells p q (contains_tail x p xs c) (contains_tail x q xs d) e),
)

-- distinct places below a number are at most as many
apart_few : (xs : List ℕ) (len : ℕ) → Apart xs → ((p : ℕ) → Contains xs p → p < len) → length xs ≤ len
apart_few xs len apart inside =
    let size = length-map xs (λ x. x) in
    let most = length-le_from_distinct_below (map (λ x. x) xs) len (distinct_map (λ x. x) xs apart (λ p q c d e. e)) (λ q some.
    let m = any_is (nat_eq q) (map (λ x. x) xs) some in
    let w = in_map (λ x. x) xs m.0 m.1 in
    subst (λ z. z < len) (w.2 ∙ sym (eqb-true q m.0 m.2)) (inside w.0 w.1)) in
    omega arith

module _ (side : Side) (ns : List Node) where
  abbrev pub ends : List ℕ → List ℕ
  ends xs = map (λ p. other_end side (node_at ns p)) xs

  along_list : (n before p : ℕ) (xs : List ℕ) → Seg (next_at side ns) (back_at side ns) before p xs → length xs ≤ n → along side ns n p ≡ ends xs
  along_list zero before p [] s few = refl
  along_list (suc n) before p [] s few = cond-true _ _ _ (eq-eqb p nil s)
  along_list zero before p (x ∷ xs) s few = absurd (omega arith)
  along_list (suc n) before p (x ∷ xs) s few =
      cond-false _ _ _ (ne_eqb p nil (λ e. s.1 (sym s.0 ∙ e))) ∙ ap (λ z. other_end side (node_at ns z) ∷ along side ns n (next_at side ns z)) s.0
      ∙ ap (λ l. other_end side (node_at ns x) ∷ l) (along_list n x (next_at side ns x) xs s.3 (omega arith))

  -- from a place on: its own partner, and those from the next place on
  pub record IsStep (p : ℕ) : Type 0 where
    pub here : p < length ns
    pub rest : IsOnList side ns (next_at side ns p)
    pub all : along side ns (length ns) p ≡ other_end side (node_at ns p) ∷ along side ns (length ns) (next_at side ns p)

  pub step : (p : ℕ) → p ≢ nil → IsOnList side ns p → IsStep p
  step p some on = go on.places on.before on.linked on.inside on.few
    where
      go : (xs : List ℕ) (before : ℕ) → Seg (next_at side ns) (back_at side ns) before p xs → ((q : ℕ) → Contains xs q → q < length ns) → length xs ≤ length ns → IsStep p
      go [] before s inside few = absurd (some s)
      go (x ∷ xs) before s inside few =
          let after : Seg (next_at side ns) (back_at side ns) x (next_at side ns p) xs = subst (λ z. Seg (next_at side ns) (back_at side ns) x (next_at side ns z) xs) (sym s.0) s.3 in
          let less : length xs ≤ length ns = omega arith in
          record {
            here = subst (λ z. z < length ns) (sym s.0) (inside x (contains_head x xs));
            rest = record { places = xs; before = x; linked = after; inside = λ q c. inside q (contains_tail x q xs c); few = less };
            all = along_list (length ns) before p (x ∷ xs) s few ∙ ap (λ z. other_end side (node_at ns z) ∷ ends xs) (sym s.0)
                ∙ ap (λ l. other_end side (node_at ns p) ∷ l) (sym (along_list (length ns) x (next_at side ns p) xs after less));
          }

  module _ (owner : ℕ → ℕ) (heads : List ℕ) (id : ℕ) (a : AreLists (next_at side ns) (back_at side ns) owner heads (length ns)) (small : id < length heads) where
    few_places : length (a.lists id) ≤ length ns
    few_places = apart_few (a.lists id) (length ns) (a.apart id small) (λ q c. (a.inside id q small c).0)

    -- from its head on a list is one
    pub on_list : IsOnList side ns (get_or heads id nil)
    on_list = record { places = a.lists id; before = nil; linked = a.linked id small; inside = λ q c. (a.inside id q small c).0; few = few_places }

    pub along_whole : along side ns (length ns) (get_or heads id nil) ≡ ends (a.lists id)
    along_whole = along_list (length ns) nil (get_or heads id nil) (a.lists id) (a.linked id small) few_places
