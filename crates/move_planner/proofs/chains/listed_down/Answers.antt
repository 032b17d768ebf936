use Rattle.std.proofs.Common.{◌≡◌, ◌∙◌, ◌++◌, ◌∷◌, [], append-nil, append_assoc, ap, arith, refl, sym}
use Rattle.slot_pool.specs.Arrangement.{first_slot}
use Rattle.placement.specs.Live.{is_above, rank_in}
use Rattle.placement.proofs.Above.{ids_below_are}
use Rattle.move_planner.specs.Steps.{lesser}
use Rattle.move_planner.proofs.Ends.{among, first_of_none, first_of_more, first_of_all, both_are}
use Rattle.placement.proofs.Orders.{ranked}
use Rattle.move_planner.proofs.Sought.{no_lower_on, down_found, down_free, down_ended}
use Rattle.move_planner.proofs.chains.listed_down.Goals as goal

pub loop-other-init : goal.loop-other-init
loop-other-init c = record { first = sym (first_of_none c.args.slots.now); left = refl; low = omega arith; high = c.requires.before; passed = λ k a b. absurd (omega arith) }

pub returns-then-at-free : goal.returns-then-at-free
returns-then-at-free c =
    down_free (is_above c.args.index.now.live) (rank_in c.args.index.now.live) c.args.slots.now c.args.free c.args.slot c.in_ok-id.id c.loop-other.at
    (ranked c.args.index.now c.below-other-items.ensures.apart) c.requires.order (sym c.in_ok-id.ensures) c.loop-other.invariant.passed c.if-at-free.true

pub returns-then-holds_lower : goal.returns-then-holds_lower
returns-then-holds_lower c =
    let high = c.loop-other.invariant.high in
    let not_free = c.if-at-free.false in
    down_found (is_above c.args.index.now.live) (rank_in c.args.index.now.live) c.args.slots.now c.args.free c.args.slot c.in_ok-id.id c.loop-other.at
    (ranked c.args.index.now c.below-other-items.ensures.apart) c.requires.order (sym c.in_ok-id.ensures) c.loop-other.invariant.passed (omega arith) c.requires.inside
    (sym c.holds_lower.ensures ∙ c.if-holds_lower.true)

pub loop-other-preserved : goal.loop-other-preserved
loop-other-preserved c =
    let low = c.loop-other.invariant.low in
    let high = c.loop-other.invariant.high in
    let not_free = c.if-at-free.false in
    record {
      first = c.lesser-first.ensures ∙ (ap (λ first. lesser first c.home.result) c.loop-other.invariant.first
          ∙ (ap (lesser (first_slot (among c.loop-other.yielded) c.args.slots.now)) c.home.ensures
          ∙ sym (first_of_more c.args.slots.now c.loop-other.yielded c.in-Some.other)));
      left = append_assoc c.loop-other.yielded (c.in-Some.other ∷ []) c.next.new.self
          ∙ (ap (λ left. c.loop-other.yielded ++ left) (sym c.in-Some.ensures.steps) ∙ c.loop-other.invariant.left);
      low = omega arith;
      high = omega arith;
      passed = no_lower_on (is_above c.args.index.now.live) c.args.slots.now c.in_ok-id.id c.args.slot c.loop-other.at c.loop-other.invariant.passed
          (sym c.holds_lower.ensures ∙ c.if-holds_lower.false);
    }

pub returns : goal.returns
returns c =
    let all : c.loop-other.yielded ≡ c.below-other-items.result =
    sym (append-nil c.loop-other.yielded) ∙ (ap (λ left. c.loop-other.yielded ++ left) (sym c.in-None.ensures.steps.0)
    ∙ (c.loop-other.invariant.left ∙ c.into_iter-other-iterator.ensures.into_iter_gives)) in
    let first = c.loop-other.invariant.first ∙ (ap (λ ids. first_slot (among ids) c.args.slots.now) all
    ∙ first_of_all c.args.slots.now c.below-other-items.result (λ other. is_above c.args.index.now.live c.in_ok-id.id other)
    (both_are c.below-other-items.result _ _ c.below-other-items.ensures.exact (ids_below_are c.args.index.now.live c.in_ok-id.id))) in
    down_ended (is_above c.args.index.now.live) (rank_in c.args.index.now.live) c.args.slots.now c.args.free c.args.slot c.in_ok-id.id
    (ranked c.args.index.now c.below-other-items.ensures.apart) c.requires.order (sym c.in_ok-id.ensures) _ _ first c.if_before.ensures
