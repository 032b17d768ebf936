use Rattle.std.proofs.Common.{◌≤◌, [], ◌∷◌, ◌++◌, length, inl, sym, ◌∙◌, subst, ap}
use Rattle.placement.specs.declared.Move.TheVariants.{Put}
use Rattle.placement.specs.Live.{is_above}
use Rattle.placement.specs.Placement.{after_move}
use Rattle.move_planner.proofs.Noted.{noted_none, noted_then}
use Rattle.move_planner.proofs.Outcomes.{on_err, on_ok_both}
use Rattle.move_planner.proofs.Shifted.{made_by}
use Rattle.placement.proofs.Readied.{end_inside}
use Rattle.move_planner.proofs.Landings.{landed_shifts}
use Rattle.move_planner.proofs.Ways.{way_shifts}
use Rattle.move_planner.proofs.Placed.{chosen, no_slot, gap_free, placed_in_gap, placed_by_way}
use Rattle.move_planner.proofs.placing.place.Goals as goal

pub choose-requires-clause-inside : goal.choose-requires-clause-inside
choose-requires-clause-inside c =
    subst (λ n. n ≤ length c.args.slots.now) (sym c.requires.end) (end_inside (is_above c.args.index.now.live) c.args.slots.now c.args.id)

pub make-requires : goal.make-requires
make-requires c =
    let above = is_above c.args.index.now.live in
    let f = gap_free above c.args.aim c.args.slots.now c.args.id c.in-Some.slot (chosen above c.args.aim c.args.slots.now c.args.id _ _ _ c.requires.start c.requires.end c.choose.ensures ∙ c.in-Some.is) in
    (f.inside, inl f.free)

pub returns-in-Some-clause-placed : goal.returns-in-Some-clause-placed
returns-in-Some-clause-placed c =
    let above = is_above c.args.index.now.live in
    on_ok_both _ _ _ c.make.result (λ gained after. placed_in_gap c.args.index.now (record { aim = c.args.aim; coming = c.args.coming.now }) c.args.id c.args.slots.now c.make.new.slots c.args.plan.now c.make.new.self c.in-Some.slot
    c.requires.uncrossed (chosen above c.args.aim c.args.slots.now c.args.id _ _ _ c.requires.start c.requires.end c.choose.ensures ∙ c.in-Some.is) gained after) c.make.ensures.plan c.make.ensures.slots

pub landed-chain-requires-clause-shift : goal.landed-chain-requires-clause-shift
landed-chain-requires-clause-shift c = way_shifts c.args.index.now c.args.id c.args.slots.now c.in_ok-chain.chain c.requires.ready c.in_ok-chain.ensures

pub shift-requires : goal.shift-requires
shift-requires c =
    landed_shifts c.args.index.now (record { aim = c.args.aim; coming = c.args.coming.now }) c.args.id c.args.slots.now c.in_ok-chain.chain c.landed-chain.result c.requires.ready
    c.landed-chain.ensures c.in_ok-chain.ensures

pub returns-clause-placed : goal.returns-clause-placed
returns-clause-placed c =
    let above = is_above c.args.index.now.live in
    let full = chosen above c.args.aim c.args.slots.now c.args.id _ _ _ c.requires.start c.requires.end c.choose.ensures ∙ no_slot c.choose.result c.in_default.not-Some in
    on_ok_both _ _ _ c.make-2.result (λ gained after. placed_by_way c.args.index.now (record { aim = c.args.aim; coming = c.args.coming.now }) c.args.id c.args.slots.now c.shift.new.slots c.make-2.new.slots c.args.plan.now c.shift.new.plan c.make-2.new.self
    c.in_ok-chain.chain c.landed-chain.result c.requires.ready c.requires.uncrossed full c.in_ok-chain.ensures c.landed-chain.ensures c.in_ok-shift.ensures.plan c.in_ok-shift.ensures.slots c.in_ok-shift.ensures.twin c.in_ok-shift.ensures.free
    (gained ∙ ap (λ k. c.shift.new.plan ++ Put k c.args.id ∷ []) c.first.ensures) (after ∙ ap (λ k. after_move c.shift.new.slots (Put k c.args.id)) c.first.ensures)) c.make-2.ensures.plan c.make-2.ensures.slots

pub way-requires-clause-full : goal.way-requires-clause-full
way-requires-clause-full c =
    let above = is_above c.args.index.now.live in
    (c.args.aim, chosen above c.args.aim c.args.slots.now c.args.id _ _ _ c.requires.start c.requires.end c.choose.ensures ∙ no_slot c.choose.result c.in_default.not-Some)

pub returns-in_err-chain-clause-noted : goal.returns-in_err-chain-clause-noted
returns-in_err-chain-clause-noted c = noted_none c.args.slots.now c.args.plan.now c.args.undo.now

pub returns-clause-noted : goal.returns-clause-noted
returns-clause-noted c =
    noted_then c.args.slots.now c.shift.new.slots c.make-2.new.slots c.args.plan.now c.shift.new.plan c.make-2.new.self c.args.undo.now c.shift.new.undo c.make-2.new.undo c.shift.ensures.noted c.make-2.ensures.noted

-- what is noted is made
pub returns-in-Some-clause-made : goal.returns-in-Some-clause-made
returns-in-Some-clause-made c =
    let noted = c.make.ensures.noted in
    on_err _ c.make.result (made_by c.args.slots.now c.make.new.slots c.args.plan.now c.make.new.self noted.moves noted.gained noted.after)

pub returns-clause-made : goal.returns-clause-made
returns-clause-made c =
    let noted =
    noted_then c.args.slots.now c.shift.new.slots c.make-2.new.slots c.args.plan.now c.shift.new.plan c.make-2.new.self c.args.undo.now c.shift.new.undo c.make-2.new.undo c.shift.ensures.noted c.make-2.ensures.noted in
    on_err _ c.make-2.result (made_by c.args.slots.now c.make-2.new.slots c.args.plan.now c.make-2.new.self noted.moves noted.gained noted.after)
