-- What the steps on a block's nodes do to their links, and what they leave.
use Rattle.std.proofs.Common.{◌≡◌, ◌≢◌, ℕ, ◌<◌, cond, eqb, List, length, set, refl, sym, ap, ◌∙◌, subst, inl, inr, ne_eqb, get_or-set_same, get_or-set_other, length-set}
use Rattle.std.proofs.lemmas.Bool.{cases_Bool, cases_eq, cases_lt, cond-true, cond-false}
use Rattle.std.proofs.lemmas.List.{set_past}
use Rattle.order_chains.specs.declared.node.Link.{Link}
use Rattle.order_chains.specs.declared.node.Node.{Node}
use Rattle.order_chains.specs.declared.chains.Side.{Side}
use Rattle.order_chains.specs.declared.chains.Side.TheVariants.{Below, Above}
use Rattle.order_chains.specs.Nodes.{no_node, node_at}
use Rattle.order_chains.specs.Chains.{nil, link_of, with_link, next_at, back_at, with_next, pushed, unlinked}
use Rattle.order_chains.proofs.Listed.{IsPush, IsUnlink}

-- a write of one node at p, if p is a place
abbrev put : List Node → ℕ → Node → List Node
put ns p x = cond (eqb p nil) ns (set ns p x)

put_other : (ns : List Node) (p : ℕ) (x : Node) (y : ℕ) → y ≢ p → node_at (put ns p x) y ≡ node_at ns y
put_other ns p x y n = elim (cases_Bool (eqb p nil)) [
  | inl t ↦ ap (λ z. node_at z y) (cond-true _ _ _ t)
  | inr f ↦ ap (λ z. node_at z y) (cond-false _ _ _ f) ∙ get_or-set_other ns p y x no_node n
]

put_same : (ns : List Node) (p : ℕ) (x : Node) → p ≢ nil → p < length ns → node_at (put ns p x) p ≡ x
put_same ns p x n l = ap (λ z. node_at z p) (cond-false _ _ _ (ne_eqb _ _ n)) ∙ get_or-set_same ns p x no_node l

put_length : (ns : List Node) (p : ℕ) (x : Node) → length (put ns p x) ≡ length ns
put_length ns p x = elim (cases_Bool (eqb p nil)) [ inl t ↦ ap length (cond-true _ _ _ t) | inr f ↦ ap length (cond-false _ _ _ f) ∙ length-set ns p x ]

module _ {X : Type 0} (F : Node → X) where
  -- a field that x has from the node that was there stays everywhere
  pub set_field : (ns : List Node) (p : ℕ) (x : Node) (y : ℕ) → F x ≡ F (node_at ns p) → F (node_at (set ns p x) y) ≡ F (node_at ns y)
  set_field ns p x y same = elim (cases_eq y p) [
    | inr n ↦ ap F (get_or-set_other ns p y x no_node n)
    | inl e ↦ elim (cases_lt p (length ns)) [
      | inl l ↦ ap (λ z. F (node_at (set ns p x) z)) e ∙ (ap F (get_or-set_same ns p x no_node l) ∙ (same ∙ ap (λ z. F (node_at ns z)) (sym e)))
      | inr m ↦ ap (λ z. F (node_at z y)) (set_past ns p x m)
    ]
  ]

  put_field : (ns : List Node) (p : ℕ) (x : Node) (y : ℕ) → F x ≡ F (node_at ns p) → F (node_at (put ns p x) y) ≡ F (node_at ns y)
  put_field ns p x y same = elim (cases_Bool (eqb p nil)) [
    | inl t ↦ ap (λ z. F (node_at z y)) (cond-true _ _ _ t)
    | inr f ↦ ap (λ z. F (node_at z y)) (cond-false _ _ _ f) ∙ set_field ns p x y same
  ]

  module _ (side : Side) (keeps : (n : Node) (l : Link) → F (with_link side n l) ≡ F n) where
    pub pushed_field : (ns : List Node) (at head y : ℕ) → F (node_at (pushed side ns at head) y) ≡ F (node_at ns y)
    pushed_field ns at head y = put_field (set ns at (with_link side (node_at ns at) (record { next = head; back = nil }))) head _ y (keeps _ _) ∙ set_field ns at _ y (keeps _ _)

    pub unlinked_field : (ns : List Node) (at y : ℕ) → F (node_at (unlinked side ns at) y) ≡ F (node_at ns y)
    unlinked_field ns at y = put_field (with_next side ns (back_at side ns at) (next_at side ns at)) (next_at side ns at) _ y (keeps _ _) ∙ put_field ns (back_at side ns at) _ y (keeps _ _)

pub link_same : (side : Side) (n : Node) (l : Link) → link_of side (with_link side n l) ≡ l
link_same Below n l = refl
link_same Above n l = refl

pub pushed_length : (side : Side) (ns : List Node) (at head : ℕ) → length (pushed side ns at head) ≡ length ns
pushed_length side ns at head = put_length _ _ _ ∙ length-set _ _ _

pub unlinked_length : (side : Side) (ns : List Node) (at : ℕ) → length (unlinked side ns at) ≡ length ns
unlinked_length side ns at =
    let ms = with_next side ns (back_at side ns at) (next_at side ns at) in
    put_length ms (next_at side ns at) (with_link side (node_at ms (next_at side ns at)) (record { next = next_at side ms (next_at side ns at); back = back_at side ns at }))
    ∙ put_length ns (back_at side ns at) (with_link side (node_at ns (back_at side ns at)) (record { next = next_at side ns at; back = back_at side ns (back_at side ns at) }))

pub push_is : (side : Side) (ns : List Node) (at head : ℕ) → at < length ns → (head ≢ nil → head < length ns) → at ≢ head
    → IsPush (next_at side ns) (back_at side ns) (next_at side (pushed side ns at head)) (back_at side (pushed side ns at head)) at head
push_is side ns at head inside inh apart =
    let new : Node = with_link side (node_at ns at) (record { next = head; back = nil }) in
    let ms : List Node = set ns at new in
    let new2 : Node = with_link side (node_at ms head) (record { next = next_at side ms head; back = at }) in
    let nexts : (y : ℕ) → next_at side (put ms head new2) y ≡ next_at side ms y = (λ y. put_field (λ n. (link_of side n).next) ms head new2 y (ap (λ l. l.next) (link_same side (node_at ms head) (record { next = next_at side ms head; back = at })))) in
    let here : link_of side (node_at ms at) ≡ record { next = head; back = nil } = ap (link_of side) (get_or-set_same ns at new no_node inside) ∙ link_same side (node_at ns at) (record { next = head; back = nil }) in
    record {
      next = nexts at ∙ ap (λ l. l.next) here;
      back = ap (λ n. (link_of side n).back) (put_other ms head new2 at apart) ∙ ap (λ l. l.back) here;
      nexts = λ y n. nexts y ∙ ap (λ z. (link_of side z).next) (get_or-set_other ns at y new no_node n);
      first = λ n m. ap (λ z. (link_of side z).back) (put_same ms head new2 n (subst (λ z. head < z) (sym (length-set ns at new)) (inh n))) ∙ ap (λ l. l.back) (link_same side (node_at ms head) (record { next = next_at side ms head; back = at }));
      backs = λ y n m. ap (λ z. (link_of side z).back) (put_other ms head new2 y m) ∙ ap (λ z. (link_of side z).back) (get_or-set_other ns at y new no_node n);
    }

pub unlink_is : (side : Side) (ns : List Node) (at : ℕ) → (back_at side ns at ≢ nil → back_at side ns at < length ns) → (next_at side ns at ≢ nil → next_at side ns at < length ns)
    → IsUnlink (next_at side ns) (back_at side ns) (next_at side (unlinked side ns at)) (back_at side (unlinked side ns at)) at
unlink_is side ns at inb inn =
    let b = back_at side ns at in
    let n = next_at side ns at in
    let new : Node = with_link side (node_at ns b) (record { next = n; back = back_at side ns b }) in
    let ms : List Node = put ns b new in
    let new2 : Node = with_link side (node_at ms n) (record { next = next_at side ms n; back = b }) in
    let nexts : (y : ℕ) → next_at side (put ms n new2) y ≡ next_at side ms y = (λ y. put_field (λ z. (link_of side z).next) ms n new2 y (ap (λ l. l.next) (link_same side (node_at ms n) (record { next = next_at side ms n; back = b })))) in
    let backs : (y : ℕ) → back_at side ms y ≡ back_at side ns y = (λ y. put_field (λ z. (link_of side z).back) ns b new y (ap (λ l. l.back) (link_same side (node_at ns b) (record { next = n; back = back_at side ns b })))) in
    record {
      next = λ y ok e. nexts y ∙ ap (λ z. (link_of side z).next) (ap (node_at ms) e ∙ put_same ns b new (λ k. ok (e ∙ k)) (inb (λ k. ok (e ∙ k)))) ∙ ap (λ l. l.next) (link_same side (node_at ns b) (record { next = n; back = back_at side ns b }));
      nexts = λ y e. nexts y ∙ ap (λ z. (link_of side z).next) (put_other ns b new y e);
      back = λ y ok e. ap (λ z. (link_of side z).back) (ap (node_at (put ms n new2)) e ∙ put_same ms n new2 (λ k. ok (e ∙ k)) (subst (λ z. n < z) (sym (put_length ns b new)) (inn (λ k. ok (e ∙ k))))) ∙ ap (λ l. l.back) (link_same side (node_at ms n) (record { next = next_at side ms n; back = b }));
      backs = λ y e. ap (λ z. (link_of side z).back) (put_other ms n new2 y e) ∙ backs y;
    }
