use Rattle.std.proofs.Common.{◌≡◌, ℕ, ◌+◌, ◌-◌, ◌<◌, ◌∷◌, Some, drop, get_or, length, slice_get, refl, arith, subst, sym, ap, ◌∙◌}
use Rattle.std.specs.List.{AllByRecursion}
use Rattle.std.proofs.lemmas.List.{drop_all, drop_more}
use Rattle.std.proofs.lemmas.Option.{slice_get-get_or}
use Rattle.slot_pool.specs.Arrangement.{Slots}
use Rattle.placement.specs.declared.Move.{Move}
use Rattle.placement.specs.declared.Move.TheVariants.{Erase}
use Rattle.placement.specs.Placement.{after_move}
use Rattle.move_planner.specs.Noted.{IsInside, taken_back}
use Rattle.move_planner.proofs.Noted.{length_back}
use Rattle.batch_order.proofs.Told.{told_back}
use Rattle.batch_order.proofs.undoing.put_back.Goals as goal

pub loop-place-init : goal.loop-place-init
loop-place-init c = record {
  exact = ap (taken_back c.args.arrangement.now) (sym (drop_all c.len-place.result c.args.moves.now (let n = c.len-place.ensures.count in omega arith)));
  live = refl;
  entries = refl;
  slots = refl;
  told = λ told. told;
}

pub make_back-left-requires-clause-inside : goal.make_back-left-requires-clause-inside
make_back-left-requires-clause-inside c =
    let moves = c.args.moves.now in
    let size = ap length c.loop-place.invariant.exact ∙ length_back c.args.arrangement.now (drop c.loop-place.place moves) in
    subst (λ (n : ℕ). AllByRecursion (IsInside n) moves) (sym size) c.requires

pub loop-place-preserved : goal.loop-place-preserved
loop-place-preserved c =
    let moves = c.args.moves.now in
    let was = c.loop-place.invariant in
    let place = c.loop-place.place - 1 in
    let inside : place < length moves = (let n = c.len-place.ensures.count in let most = c.loop-place.auto.place in omega arith) in
    let next : place + 1 ≡ c.loop-place.place = omega arith in
    let step : Move = get_or moves place (Erase 0) in
    let is : slice_get moves place ≡ Some step = slice_get-get_or moves place (Erase 0) inside in
    let rest : drop place moves ≡ step ∷ drop c.loop-place.place moves = drop_more moves place (Erase 0) inside ∙ ap (λ (n : ℕ). step ∷ drop n moves) next in
    let made = c.make_back-left.ensures.made step is in
    let held = c.make_back-left.ensures.moved step is in
    record {
      exact = made ∙ (ap (λ (slots : Slots). after_move slots step) was.exact ∙ ap (taken_back c.args.arrangement.now) (sym rest));
      live = c.tell_if-in-loop-place.ensures.live ∙ (c.tell_if.ensures.live ∙ was.live);
      entries = c.tell_if-in-loop-place.ensures.entries ∙ (c.tell_if.ensures.entries ∙ was.entries);
      slots = c.tell_if-in-loop-place.ensures.slots ∙ (c.tell_if.ensures.slots ∙ was.slots);
      told = λ told. told_back c.loop-place.live c.tell_if.new.live c.tell_if-in-loop-place.new.live c.loop-place.arrangement c.make_back-left.new.slots step c.make_back-left.result.0 c.make_back-left.result.1 made held.0 held.1
          c.tell_if.ensures.told c.tell_if-in-loop-place.ensures.told (was.told told);
    }

pub returns-clause-exact : goal.returns-clause-exact
returns-clause-exact c =
    let none : c.loop-place.place ≡ 0 = omega arith in
    c.loop-place.invariant.exact ∙ ap (λ (n : ℕ). taken_back c.args.arrangement.now (drop n c.args.moves.now)) none
