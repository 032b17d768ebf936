use Rattle.std.proofs.Common.{◌≡◌, ◌<◌, ◌≤◌, ◌∙◌, true, false, length, vec_len, get_or, inl, inr, sym, subst, rules, arith, ne_eqb, eq-eqb}
use Rattle.std.proofs.lemmas.Bool.{cases_eq}
use Rattle.std.proofs.lemmas.Grind.{common_steps}
use Rattle.std.proofs.lemmas.List.{get_or_default}
use Rattle.placement.specs.Live.{is_live}
use Rattle.overlap_index.specs.Changes.{live_after}
use Rattle.overlap_index.proofs.Placed.{live_at, dead_at, dead_past, dead_far}
use Rattle.overlap_index.proofs.Index.is_live.Goals as goal

pub returns-then-id-self : goal.returns-then-id-self
returns-then-id-self c =
    let i = c.self.inside in
    sym (subst (λ v. is_live v.live c.args.id ≡ false) c.self.view_is (dead_far i.slots c.args.id (live_after i.history.items) c.self.invariant.apart c.if-id-self.true))

pub returns-then-place-standing : goal.returns-then-place-standing
returns-then-place-standing c =
    let i = c.self.inside in
    let many = c.self.invariant.table.many in
    let inside : c.args.id < length i.places.items = (let small = c.if-id-self.false in omega arith) in
    let at : c.index.result.now ≡ get_or i.places.items c.args.id 0 = c.index.ensures ∙ get_or_default i.places.items c.args.id c.index.result.now 0 inside in
    let size : vec_len i.pieces ≡ length i.pieces.items = first_of (search rules, grind (arith, common_steps)) in
    let past : length i.pieces.items ≤ c.index.result.now = (let far = c.if-place-standing.true in let len = c.len-standing.ensures in omega arith) in
    sym (subst (λ v. is_live v.live c.args.id ≡ false) c.self.view_is
    (dead_past i.slots c.args.id (live_after i.history.items) i.pieces.items i.places.items c.self.invariant.table (subst (λ n. length i.pieces.items ≤ n) at past)))

pub returns : goal.returns
returns c =
    let i = c.self.inside in
    let live = live_after i.history.items in
    let one = c.index-2.result.now in
    let place = c.index.result.now in
    let many = c.self.invariant.table.many in
    let inside : c.args.id < length i.places.items = (let small = c.if-id-self.false in omega arith) in
    let at : place ≡ get_or i.places.items c.args.id 0 = c.index.ensures ∙ get_or_default i.places.items c.args.id place 0 inside in
    let size : vec_len i.pieces ≡ length i.pieces.items = first_of (search rules, grind (arith, common_steps)) in
    let stands : place < length i.pieces.items = (let near = c.if-place-standing.false in let len = c.len-standing.ensures in omega arith) in
    let here : get_or i.pieces.items place one ≡ one = sym c.index-2.ensures in
    elim (cases_eq one.id c.args.id) [
      | inl e ↦
          eq-eqb one.id c.args.id e
          ∙ sym (subst (λ v. is_live v.live c.args.id ≡ true) c.self.view_is (subst (λ z. is_live live z ≡ true) e (live_at i.slots live i.pieces.items i.places.items place one c.self.invariant.table stands here)))
      | inr n ↦
          ne_eqb one.id c.args.id n
          ∙ sym (subst (λ v. is_live v.live c.args.id ≡ false) c.self.view_is
          (dead_at i.slots c.args.id live i.pieces.items i.places.items one c.self.invariant.table (subst (λ n. get_or i.pieces.items n one ≡ one) at here) n))
    ]
