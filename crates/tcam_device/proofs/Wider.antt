-- A device with more slots, which are empty: it holds, shows and counts the same, as long as no write is past the first ones.
use Rattle.std.proofs.Common.{◌≡◌, ℕ, zero, suc, ◌-◌, Bool, List, [], ◌∷◌, ◌++◌, length, take, replicate, Option, None, Some, inl, inr, refl, sym, ◌∙◌, subst, ap, if◌then◌else◌}
use Rattle.std.specs.List.{AllByRecursion}
use Rattle.std.proofs.lemmas.List.{set-append_left}
use Rattle.slot_order.specs.Order.{slot, first_hit}
use Rattle.rule_model.specs.declared.Key.{Key}
use Rattle.rule_model.specs.declared.Rule.{Rule}
use Rattle.rule_model.specs.declared.Field.TheVariants.{Src, Dst}
use Rattle.rule_model.specs.declared.words.Entry.{Entry}
use Rattle.rule_model.specs.Entry.{RankedPiece}
use Rattle.tcam_device.specs.declared.Write.{Write}
use Rattle.tcam_device.specs.declared.Write.TheVariants.{Slot, Table}
use Rattle.tcam_device.specs.State.{State, blank, hits_key, told, lookup, Shows, IsInUse, apply, state_after, on_device}
use Rattle.tcam_device.specs.Order.{AreAlike, HasOneTwin, StandsOnce, IsOrdered}
use Rattle.tcam_device.specs.Hitless.{ShowsOldOrNew, IsHitless, TurnsOnce}
use Rattle.tcam_device.proofs.Kept.{slots-apply}

-- the state with so many empty slots behind its own
abbrev pub padded : ℕ → State → State
padded more state = record state { slots = state.slots ++ replicate more None }

-- what holds of all holds of the first ones
pub all_take : {X : Type 0} (P : X → Type 0) (n : ℕ) (xs : List X) → AllByRecursion P xs → AllByRecursion P (take n xs)
all_take P zero xs all = tt
all_take P (suc n) [] all = tt
all_take P (suc n) (x ∷ xs) all = (all.0, all_take P n xs all.1)

-- an empty slot behind the others
pub empty_slot : {E : Type 0} (more at : ℕ) → slot {E = E} (replicate more None) at ≡ None
empty_slot zero at = refl
empty_slot (suc more) zero = refl
empty_slot (suc more) (suc at) = empty_slot more at

-- each slot holds the same
pub slot-padded : {E : Type 0} (slots : List (Option E)) (more at : ℕ) → slot (slots ++ replicate more None) at ≡ slot slots at
slot-padded [] more at = empty_slot more at
slot-padded (held ∷ slots) more zero = refl
slot-padded (held ∷ slots) more (suc at) = slot-padded slots more at

empty_hit : {E K : Type 0} (hits : E → K → Bool) (more : ℕ) (key : K) → first_hit hits (replicate more None) key ≡ None
empty_hit hits zero key = refl
empty_hit hits (suc more) key = empty_hit hits more key

pub first_hit-padded : {E K : Type 0} (hits : E → K → Bool) (slots : List (Option E)) (more : ℕ) (key : K) → first_hit hits (slots ++ replicate more None) key ≡ first_hit hits slots key
first_hit-padded hits [] more key = empty_hit hits more key
first_hit-padded hits (None ∷ slots) more key = first_hit-padded hits slots more key
first_hit-padded hits (Some entry ∷ slots) more key = ap (λ below. if hits entry key then Some entry else below) (first_hit-padded hits slots more key)

-- so every look-up answers the same
pub lookup-padded : (more : ℕ) (state : State) (key : Key) → lookup (padded more state) key ≡ lookup state key
lookup-padded more state key = ap told (first_hit-padded (hits_key state) state.slots more key)

pub Shows-padded : (more : ℕ) (state : State) (rules : List Rule) → Shows state rules → Shows (padded more state) rules
Shows-padded more state rules shows key valid = lookup-padded more state key ∙ shows key valid

-- a device that was never written answers nothing
pub blank_shows : (slots : ℕ) → Shows (blank slots) []
blank_shows slots key valid = ap told (empty_hit (hits_key (blank slots)) slots key)

-- a write within the slots does the same
pub apply-padded : (more : ℕ) (state : State) (write : Write) → IsInUse (length state.slots) write → apply (padded more state) write ≡ padded more (apply state write)
apply-padded more state (Slot at entry) inside = ap (λ (held : List (Option Entry)). record state { slots = held }) (set-append_left state.slots (replicate more None) at entry inside)
apply-padded more state (Table Src port word) inside = refl
apply-padded more state (Table Dst port word) inside = refl

-- what is left is within the slots after a write
pub in_use_after : (state : State) (write : Write) (writes : List Write) → AllByRecursion (IsInUse (length state.slots)) writes → AllByRecursion (IsInUse (length (apply state write).slots)) writes
in_use_after state write writes inside = subst (λ n. AllByRecursion (IsInUse n) writes) (sym (slots-apply state write)) inside

-- and so do writes one after the other
pub state_after-padded : (more : ℕ) (state : State) (writes : List Write) → AllByRecursion (IsInUse (length state.slots)) writes
    → state_after (padded more state) writes ≡ padded more (state_after state writes)
state_after-padded more state [] inside = refl
state_after-padded more state (write ∷ writes) inside =
    ap (λ (next : State). state_after next writes) (apply-padded more state write inside.0) ∙ state_after-padded more (apply state write) writes (in_use_after state write writes inside.1)

pub slots-after : (state : State) (writes : List Write) → length (state_after state writes).slots ≡ length state.slots
slots-after state [] = refl
slots-after state (write ∷ writes) = slots-after (apply state write) writes ∙ slots-apply state write

pub state_after-on_device : (wide : ℕ) (state : State) (writes : List Write) → AllByRecursion (IsInUse (length state.slots)) writes
    → state_after (on_device wide state) writes ≡ on_device wide (state_after state writes)
state_after-on_device wide state writes inside =
    state_after-padded (wide - length state.slots) state writes inside ∙ ap (λ n. padded (wide - n) (state_after state writes)) (sym (slots-after state writes))

old_or_new : (more : ℕ) (state : State) (old new : List Rule) → ShowsOldOrNew state old new → ShowsOldOrNew (padded more state) old new
old_or_new more state old new shows key valid = elim (shows key valid) [
  | inl is ↦ inl (lookup-padded more state key ∙ is)
  | inr is ↦ inr (lookup-padded more state key ∙ is)
]

-- what is hitless is so with more slots
pub IsHitless-padded : (more : ℕ) (old new : List Rule) (state : State) (writes : List Write) → AllByRecursion (IsInUse (length state.slots)) writes
    → IsHitless old new state writes → IsHitless old new (padded more state) writes
IsHitless-padded more old new state writes inside hitless = record {
  on_the_way = record {
    before = Shows-padded more state old hitless.on_the_way.before;
    during = λ n. subst (λ (now : State). ShowsOldOrNew now old new)
        (sym (state_after-padded more state (take n writes) (all_take (IsInUse (length state.slots)) n writes inside)))
        (old_or_new more (state_after state (take n writes)) old new (hitless.on_the_way.during n));
  };
  after = subst (λ (now : State). Shows now new) (sym (state_after-padded more state writes inside)) (Shows-padded more (state_after state writes) new hitless.after);
}

-- and what turns once does so
pub TurnsOnce-padded : (more : ℕ) (old new : List Rule) (state : State) (writes : List Write) → AllByRecursion (IsInUse (length state.slots)) writes
    → TurnsOnce old new state writes → TurnsOnce old new (padded more state) writes
TurnsOnce-padded more old new state writes inside turns key valid = let once = turns key valid in (
  once.0,
  record { before = λ n early. same n ∙ once.1.before n early; since = λ n late. same n ∙ once.1.since n late },
)
  where
    same : (n : ℕ) → lookup (state_after (padded more state) (take n writes)) key ≡ lookup (state_after state (take n writes)) key
    same n =
        ap (λ (now : State). lookup now key) (state_after-padded more state (take n writes) (all_take (IsInUse (length state.slots)) n writes inside))
        ∙ lookup-padded more (state_after state (take n writes)) key

-- the same pieces stand, in the same order
pub IsOrdered-padded : (more : ℕ) (state : State) (Member : RankedPiece → Type 0) → IsOrdered state Member → IsOrdered (padded more state) Member
IsOrdered-padded more state Member ordered = record {
  known = λ at entry held. ordered.known at entry (sym (slot-padded state.slots more at) ∙ held);
  complete = λ ranked member. let stands = ordered.complete ranked member in (stands.0, slot-padded state.slots more stands.0 ∙ stands.1);
  order = λ i j first second less a b here there. ordered.order i j first second less a b (sym (slot-padded state.slots more i) ∙ here) (sym (slot-padded state.slots more j) ∙ there);
}

pub StandsOnce-padded : (more : ℕ) (state : State) (Member : RankedPiece → Type 0) → StandsOnce state Member → StandsOnce (padded more state) Member
StandsOnce-padded more state Member once ranked member =
    let stands = once ranked member in
    (stands.0, slot-padded state.slots more stands.0 ∙ stands.1, λ other held. stands.2 other (sym (slot-padded state.slots more other) ∙ held))

-- slots that hold the same piece do so among fewer
abbrev alike_before : (more : ℕ) (state : State) (i j : ℕ) → AreAlike (padded more state).slots i j → AreAlike state.slots i j
alike_before more state i j alike = record {
  less = alike.less;
  first = alike.first;
  second = alike.second;
  here = sym (slot-padded state.slots more i) ∙ alike.here;
  there = sym (slot-padded state.slots more j) ∙ alike.there;
  same = alike.same;
}

pub HasOneTwin-padded : (more : ℕ) (state : State) → HasOneTwin state.slots → HasOneTwin (padded more state).slots
HasOneTwin-padded more state twins = record {
  one = λ a b is_a is_b. twins.one a b (is_a.0, alike_before more state is_a.0 a is_a.1) (is_b.0, alike_before more state is_b.0 b is_b.1);
  equal = λ lesser at alike. twins.equal lesser at (alike_before more state lesser at alike);
}
