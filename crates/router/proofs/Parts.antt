-- Where a part is next a plan is held, and where one was stopped it is held still; what is left of a device and of a sink,
-- said by another reason.
use Rattle.std.proofs.Common.{◌≡◌, ℕ, ◌+◌, ◌||◌, is_some, true, false, Option, None, Some, IsSome, Ok, Err, List, [], refl, sym, ap, subst, arith}
use Rattle.std.specs.Prelude.{option_map}
use Rattle.call_history.specs.Cause.{HasCause, IsCounted}
use Rattle.rule_model.specs.declared.Rule.{Rule}
use Rattle.commit_writes.specs.Bits.{FieldBits}
use Rattle.batch_order.specs.Managed.{HeldCommit, Managed}
use Rattle.split_device.specs.declared.SplitAction.{SplitAction}
use Rattle.split_device.specs.Flight.{Flight}
use Rattle.split_order.specs.CarriedOut.{HasMade}
use Rattle.split_order.specs.Left.{left_of, left_of_held, since_of, state_on}
use Rattle.split_order.specs.Managed.{SplitManaged}
use Rattle.split_order.specs.Steps.{IsPartNext, commit_aim}
use Rattle.router.specs.declared.carrying.Halt.{Halt}
use Rattle.router.specs.declared.carrying.Halt.TheVariants as halt
use Rattle.router.specs.Run.{DeviceSlots}
use Rattle.router.specs.Routing.{Routing, number_left}
use Rattle.router.specs.Carried.{LeavesDevice, StopsAt}

-- what is left of both tables, by whether each holds a plan
abbrev pub left_at : DeviceSlots → Routing → Option HeldCommit → Option HeldCommit → Option ℕ
left_at slots router one two = elim (is_some one || is_some two) [ true ↦ Some (number_left slots.listed router.listed + number_left slots.routed router.routed) | false ↦ None ]

pub held_of_part : (slots : ℕ) (manager : SplitManaged) → IsPartNext (left_of slots manager) → IsSome manager.whole.held
held_of_part slots manager due = go manager.whole.held refl
  where
    go : (held : Option HeldCommit) → manager.whole.held ≡ held → IsSome manager.whole.held
    go (Some one) is = subst (λ (h : Option HeldCommit). IsSome h) (sym is) refl
    go None is = absurd (
        let none : left_of slots manager ≡ [] = ap (λ (h : Option HeldCommit). left_of_held (state_on slots manager) (since_of manager) manager.whole.state manager.made h) is in
        let wrong : IsPartNext [] = subst IsPartNext none due in wrong)

pub not_held : (manager : SplitManaged) → IsSome manager.whole.held → manager.whole.held ≡ None → ⊥
not_held manager some none = let wrong : false ≡ true = subst (λ (h : Option HeldCommit). IsSome h) none some in cc

-- a plan that was held is so still where some of it was made,
held_still : (slots : ℕ) (made : List SplitAction) (old now : SplitManaged) → HasMade slots made old now → IsSome old.whole.held → IsSome now.whole.held
held_still slots made old now has some = go now.whole.held old.whole.held (ap (λ (both : Managed × Option (List Rule × FieldBits × FieldBits)). both.1) has.outline_is) some
  where
    go : (one two : Option HeldCommit) → option_map commit_aim one ≡ option_map commit_aim two → IsSome two → IsSome one
    go (Some one) two is some = refl
    go None (Some two) is some = absurd (let wrong : None ≡ Some (commit_aim two) = is in cc)
    go None None is some = some

-- and where what carries it out was stopped, be it behind its last part
pub made_until : (why : Halt) (slots : ℕ) (old now : SplitManaged) (events events' : List SplitAction) → StopsAt why slots old now events events' → (made : List SplitAction) × HasMade slots made old now
made_until halt.Device slots old now events events' stops = (stops.made, stops.has_made)
made_until halt.Sink slots old now events events' stops = (stops.made, stops.has_made)

pub held_until : (why : Halt) (slots : ℕ) (old now : SplitManaged) (events events' : List SplitAction) → StopsAt why slots old now events events' → IsSome old.whole.held → IsSome now.whole.held
held_until why slots old now events events' stops some = let some_made = made_until why slots old now events events' stops in held_still slots some_made.0 old now some_made.1 some

-- what is counted in a call's last part, with nothing counted before it
pub counted_then : (before mid now : ℕ) (Failed Other : Type 0) → mid ≡ before → (Failed → Other) → (Other → Failed) → IsCounted Failed mid now → IsCounted Other before now
counted_then before mid now Failed Other same to back count = subst (λ (n : ℕ). IsCounted Other n now) same (record {
  later = count.later;
  once = count.once;
  failed = λ other. count.failed (back other);
  stayed = λ never. count.stayed (λ failed. never (to failed));
})

-- with nothing counted at all
pub counted_still : (before now : ℕ) (Failed : Type 0) → now ≡ before → (Failed → ⊥) → IsCounted Failed before now
counted_still before now Failed same never =
    subst (λ (n : ℕ). IsCounted Failed before n) (sym same) (record { later = omega arith; once = omega arith; failed = λ failed. absurd (never failed); stayed = λ never_failed. refl })

-- of a call that came to its end, and of one that failed
pub counted_none : {T E : Type 0} (before mid now : ℕ) (done : T) (Failed : Type 0) → mid ≡ before → HasCause {T = T} {E = E} mid now (Ok done) → (Failed → ⊥) → IsCounted Failed before now
counted_none before mid now done Failed same cause never =
    subst (λ (n : ℕ). IsCounted Failed n now) same (record { later = cause.later; once = cause.once; failed = λ failed. absurd (never failed); stayed = λ never_failed. cause.stayed })

pub counted_one : {T E : Type 0} (before mid now : ℕ) (why : E) (Failed : Type 0) → mid ≡ before → HasCause {T = T} {E = E} mid now (Err why) → Failed → IsCounted Failed before now
counted_one before mid now why Failed same cause failed =
    subst (λ (n : ℕ). IsCounted Failed n now) same (record { later = cause.later; once = cause.once; failed = λ yes. cause.failed; stayed = λ never. absurd (never failed) })

pub leaves_same : {D : Type 0} (slots : D → ℕ) (events : D → List SplitAction) (flight : D → Flight) (faults : D → ℕ) (before after : D) (Failed Other : Type 0) → (Failed → Other) → (Other → Failed)
    → LeavesDevice slots events flight faults before after Failed → LeavesDevice slots events flight faults before after Other
leaves_same slots events flight faults before after Failed Other to back leaves = record {
  slot_count = leaves.slot_count;
  flight_is = leaves.flight_is;
  made = leaves.made;
  grown = leaves.grown;
  cause = record {
    later = leaves.cause.later;
    most = λ never. leaves.cause.most (λ failed. never (to failed));
    most_stuck = leaves.cause.most_stuck;
    failed = λ failed. leaves.cause.failed (back failed);
  };
}
