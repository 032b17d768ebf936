use Rattle.std.proofs.Common.{◌≡◌, ℕ, ◌+◌, ◌-◌, ◌∙◌, ◌∷◌, drop, length, sym, ap, ap₂, subst, arith}
use Rattle.std.proofs.lemmas.List.{drop_all, drop_more}
use Rattle.slot_order.proofs.Lists.{AllByRecursion-member}
use Rattle.placement.specs.declared.Move.{Move}
use Rattle.placement.specs.Placement.{after_move}
use Rattle.move_planner.specs.Noted.{IsInside, taken_back}
use Rattle.move_planner.proofs.Noted.{back_again, length_back}
use Rattle.move_planner.proofs.Moves.take_back.Goals as goal

pub loop-place-init : goal.loop-place-init
loop-place-init c = ap (taken_back c.args.slots.now) (sym (drop_all c.len-place.result c.args.self.now (let n = c.len-place.ensures.count in omega arith)))

pub make_anyhow-requires : goal.make_anyhow-requires
make_anyhow-requires c =
    let moves = c.args.self.now in
    let size = ap length c.loop-place.invariant ∙ length_back c.args.slots.now (drop c.loop-place.place moves) in
    let one = AllByRecursion-member (IsInside (length c.args.slots.now)) moves c.at.result c.requires (c.loop-place.place - 1, (let n = c.len-place.ensures.count in let most = c.loop-place.auto.place in omega arith), sym c.at.ensures) in
    subst (λ n. IsInside n c.at.result) (sym size) one

pub loop-place-preserved : goal.loop-place-preserved
loop-place-preserved c =
    let moves = c.args.self.now in
    let place = c.loop-place.place - 1 in
    let next : place + 1 ≡ c.loop-place.place = omega arith in
    let rest : drop place moves ≡ c.at.result ∷ drop c.loop-place.place moves =
    drop_more moves place c.at.result (let n = c.len-place.ensures.count in let most = c.loop-place.auto.place in omega arith) ∙ ap₂ (λ (step : Move) (n : ℕ). step ∷ drop n moves) (sym c.at.ensures) next in
    c.make_anyhow.ensures ∙ (ap (λ slots. after_move slots c.at.result) c.loop-place.invariant ∙ ap (taken_back c.args.slots.now) (sym rest))

pub returns-clause-exact : goal.returns-clause-exact
returns-clause-exact c =
    let none : c.loop-place.place ≡ 0 = omega arith in
    c.loop-place.invariant ∙ ap (λ (n : ℕ). taken_back c.args.slots.now (drop n c.args.self.now)) none

pub returns-clause-back : goal.returns-clause-back
returns-clause-back c before moves after noted =
    let none : c.loop-place.place ≡ 0 = omega arith in
    c.loop-place.invariant ∙ (ap (λ (n : ℕ). taken_back c.args.slots.now (drop n c.args.self.now)) none ∙ (ap₂ taken_back after noted ∙ back_again before moves))
