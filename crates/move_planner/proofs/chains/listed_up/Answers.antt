use Rattle.std.proofs.Common.{◌≡◌, ◌∙◌, ◌++◌, ◌∷◌, [], append-nil, append_assoc, ap, arith, refl, sym}
use Rattle.slot_pool.specs.Arrangement.{last_slot}
use Rattle.placement.specs.Live.{is_above, rank_in}
use Rattle.placement.proofs.Above.{ids_above_are}
use Rattle.move_planner.specs.Steps.{greater}
use Rattle.move_planner.proofs.Ends.{among, last_of_none, last_of_more, last_of_all, both_are}
use Rattle.placement.proofs.Orders.{ranked}
use Rattle.move_planner.proofs.Sought.{no_upper_on, up_found, up_free, up_ended}
use Rattle.move_planner.proofs.chains.listed_up.Goals as goal

pub loop-other-init : goal.loop-other-init
loop-other-init c = record { last = sym (last_of_none c.args.slots.now); left = refl; high = omega arith; low = c.requires.after; passed = λ k a b. absurd (omega arith) }

pub returns-then-at-free : goal.returns-then-at-free
returns-then-at-free c =
    up_free (is_above c.args.index.now.live) (rank_in c.args.index.now.live) c.args.slots.now c.args.free c.args.slot c.in_ok-id.id c.loop-other.at
    (ranked c.args.index.now c.above-other-items.ensures.apart) c.requires.order (sym c.in_ok-id.ensures) c.loop-other.invariant.passed c.if-at-free.true

pub returns-then-holds_upper : goal.returns-then-holds_upper
returns-then-holds_upper c =
    let low = c.loop-other.invariant.low in
    let not_free = c.if-at-free.false in
    up_found (is_above c.args.index.now.live) (rank_in c.args.index.now.live) c.args.slots.now c.args.free c.args.slot c.in_ok-id.id c.loop-other.at
    (ranked c.args.index.now c.above-other-items.ensures.apart) c.requires.order (sym c.in_ok-id.ensures) c.loop-other.invariant.passed (omega arith)
    c.loop-other.invariant.high c.requires.inside (sym c.holds_upper.ensures ∙ c.if-holds_upper.true)

pub loop-other-preserved : goal.loop-other-preserved
loop-other-preserved c =
    let low = c.loop-other.invariant.low in
    let high = c.loop-other.invariant.high in
    let not_free = c.if-at-free.false in
    record {
      last = c.greater-last.ensures ∙ (ap (λ last. greater last c.home.result) c.loop-other.invariant.last
          ∙ (ap (greater (last_slot (among c.loop-other.yielded) c.args.slots.now)) c.home.ensures
          ∙ sym (last_of_more c.args.slots.now c.loop-other.yielded c.in-Some.other c.requires.once)));
      left = append_assoc c.loop-other.yielded (c.in-Some.other ∷ []) c.next.new.self
          ∙ (ap (λ left. c.loop-other.yielded ++ left) (sym c.in-Some.ensures.steps) ∙ c.loop-other.invariant.left);
      high = omega arith;
      low = omega arith;
      passed = no_upper_on (is_above c.args.index.now.live) c.args.slots.now c.in_ok-id.id c.args.slot c.loop-other.at c.loop-other.invariant.passed
          (sym c.holds_upper.ensures ∙ c.if-holds_upper.false);
    }

pub returns : goal.returns
returns c =
    let all : c.loop-other.yielded ≡ c.above-other-items.result =
    sym (append-nil c.loop-other.yielded) ∙ (ap (λ left. c.loop-other.yielded ++ left) (sym c.in-None.ensures.steps.0)
    ∙ (c.loop-other.invariant.left ∙ c.into_iter-other-iterator.ensures.into_iter_gives)) in
    let last = c.loop-other.invariant.last ∙ (ap (λ ids. last_slot (among ids) c.args.slots.now) all
    ∙ last_of_all c.args.slots.now c.above-other-items.result (λ other. is_above c.args.index.now.live other c.in_ok-id.id)
    (both_are c.above-other-items.result _ _ c.above-other-items.ensures.exact (ids_above_are c.args.index.now.live c.in_ok-id.id))) in
    up_ended (is_above c.args.index.now.live) (rank_in c.args.index.now.live) c.args.slots.now c.args.free c.args.slot c.in_ok-id.id
    (ranked c.args.index.now c.above-other-items.ensures.apart) c.requires.order (sym c.in_ok-id.ensures) _ _ last c.if_behind.ensures
