-- The sides of an id are told by tests: whether it leads to an entry is found by looking at all chains.
use Rattle.std.proofs.Common.{◌≡◌, ℕ, zero, suc, ◌+◌, ◌≤◌, Bool, true, ◌||◌, ◌&&◌, Option, None, Some, length, inl, inr, arith, refl, ◌∙◌}
use Rattle.std.specs.List.{list_any}
use Rattle.std.proofs.lemmas.Bool.{or_cases, or_left, or_right, and_parts, and_from}
use Rattle.std.proofs.lemmas.List.{get_or_default}
use Rattle.slot_order.specs.Order.{slot}
use Rattle.slot_moves.specs.Cuts.{holds}
use Rattle.slot_order.proofs.Writes.{slot_inside}
use Rattle.slot_order.proofs.Lists.{any_is, any_from}
use Rattle.slot_pool.specs.Arrangement.{Slots}
use Rattle.placement.specs.Placement.{Above, Leads, straight, through, AreSides, IsInOrder}
use Rattle.placement.proofs.Planner.{IsRanked}
use Rattle.placement.proofs.Orders.{stands_first}

-- whether a chain over so many entries that stand leads from one id to another
abbrev reaches : Above → Slots → ℕ → ℕ → ℕ → Bool
reaches above slots zero upper lower = above upper lower
reaches above slots (suc steps) upper lower =
    above upper lower || list_any (λ held. holds (λ between. above upper between && reaches above slots steps between lower) held) slots

-- the id that stands here and passes a test
pub holding : (test : ℕ → Bool) (held : Option ℕ) → holds test held ≡ true → (id : ℕ) × (held ≡ Some id) × (test id ≡ true)
holding test None e = absurd (cc)
holding test (Some id) e = (id, refl, e)

sound : (above : Above) (slots : Slots) (steps upper lower : ℕ) → reaches above slots steps upper lower ≡ true → Leads above slots upper lower
sound above slots zero upper lower e = straight e
sound above slots (suc steps) upper lower e =
    elim (or_cases (above upper lower) (list_any (λ held. holds (λ between. above upper between && reaches above slots steps between lower) held) slots) e) [
      | inl on ↦ straight on
      | inr more ↦
          let w = any_is (λ held. holds (λ between. above upper between && reaches above slots steps between lower) held) slots more in
          let h = holding (λ between. above upper between && reaches above slots steps between lower) w.0 w.2 in
          let p = and_parts (above upper h.0) (reaches above slots steps h.0 lower) h.2 in
          let at : slot slots w.1.0 ≡ Some h.0 = get_or_default slots w.1.0 None w.0 w.1.1 ∙ (w.1.2 ∙ h.1) in
          through w.1.0 h.0 at p.0 (sound above slots steps h.0 lower p.1)
    ]

-- an entry on the way is one of those that stand
over_one : (above : Above) (slots : Slots) (steps upper between lower at : ℕ) → slot slots at ≡ Some between → above upper between ≡ true → reaches above slots steps between lower ≡ true
    → reaches above slots (suc steps) upper lower ≡ true
over_one above slots steps upper between lower at stands on rest =
    let inside = slot_inside slots at between stands in
    or_right (above upper lower) _ (any_from (λ held. holds (λ between. above upper between && reaches above slots steps between lower) held) slots (Some between)
    (at, inside, get_or_default slots at (Some between) None inside ∙ stands)
    (and_from (above upper between) (reaches above slots steps between lower) on rest))

straight_reaches : (above : Above) (slots : Slots) (steps upper lower : ℕ) → above upper lower ≡ true → reaches above slots steps upper lower ≡ true
straight_reaches above slots zero upper lower on = on
straight_reaches above slots (suc steps) upper lower on = or_left (above upper lower) _ on

-- the slots of a chain rise, so there are enough steps
found_from : (above : Above) (rank : ℕ → ℕ) (slots : Slots) (steps at upper lower : ℕ) → IsRanked above rank → IsInOrder above slots → slot slots at ≡ Some upper → length slots ≤ steps + at + 1
    → Leads above slots upper lower → reaches above slots steps upper lower ≡ true
found_from above rank slots steps at upper lower ranked order here enough (straight on) = straight_reaches above slots steps upper lower on
found_from above rank slots zero at upper lower ranked order here enough (through place between there on rest) =
    let less = stands_first above rank slots at place upper between ranked order here there on in
    let inside = slot_inside slots place between there in absurd (omega arith)
found_from above rank slots (suc steps) at upper lower ranked order here enough (through place between there on rest) =
    let less = stands_first above rank slots at place upper between ranked order here there on in
    over_one above slots steps upper between lower place there on (found_from above rank slots steps place between lower ranked order there (omega arith) rest)

found : (above : Above) (rank : ℕ → ℕ) (slots : Slots) (upper lower : ℕ) → IsRanked above rank → IsInOrder above slots → Leads above slots upper lower → reaches above slots (length slots) upper lower ≡ true
found above rank slots upper lower ranked order (straight on) = straight_reaches above slots (length slots) upper lower on
found above rank slots upper lower ranked order (through place between there on rest) = go (length slots) refl
  where
    go : (steps : ℕ) → length slots ≡ steps → reaches above slots steps upper lower ≡ true
    go zero e = let inside = slot_inside slots place between there in absurd (omega arith)
    go (suc steps) e = over_one above slots steps upper between lower place there on (found_from above rank slots steps place between lower ranked order there (omega arith) rest)

-- tests of the two sides
abbrev pub is_behind : Above → Slots → ℕ → ℕ → Bool
is_behind above slots id other = reaches above slots (length slots) id other

abbrev pub is_before : Above → Slots → ℕ → ℕ → Bool
is_before above slots id other = reaches above slots (length slots) other id

pub sides_are : (above : Above) (rank : ℕ → ℕ) (slots : Slots) (id : ℕ) → IsRanked above rank → IsInOrder above slots → AreSides above slots id (is_behind above slots id) (is_before above slots id)
sides_are above rank slots id ranked order = record {
  after_it = λ at other stands. (sound above slots (length slots) id other, found above rank slots id other ranked order);
  before_it = λ at other stands. (sound above slots (length slots) other id, found above rank slots other id ranked order);
}

-- they stay while the same ids stand
leads_still : (above : Above) (slots slots' : Slots) (upper lower : ℕ) → ((at id : ℕ) → slot slots at ≡ Some id → (place : ℕ) × (slot slots' place ≡ Some id)) → Leads above slots upper lower → Leads above slots' upper lower
leads_still above slots slots' upper lower still (straight on) = straight on
leads_still above slots slots' upper lower still (through at between stands on rest) =
    let w = still at between stands in through w.0 between w.1 on (leads_still above slots slots' between lower still rest)

pub sides_still : (above : Above) (slots slots' : Slots) (id : ℕ) (behind before : ℕ → Bool) → ((at other : ℕ) → slot slots at ≡ Some other → (place : ℕ) × (slot slots' place ≡ Some other))
    → ((at other : ℕ) → slot slots' at ≡ Some other → (place : ℕ) × (slot slots place ≡ Some other)) → AreSides above slots id behind before → AreSides above slots' id behind before
sides_still above slots slots' id behind before on back sides = record {
  after_it = λ at other stands. let w = back at other stands in (
    (λ e. leads_still above slots slots' id other on ((sides.after_it w.0 other w.1).0 e)),
    (λ l. (sides.after_it w.0 other w.1).1 (leads_still above slots' slots id other back l)),
  );
  before_it = λ at other stands. let w = back at other stands in (
    (λ e. leads_still above slots slots' other id on ((sides.before_it w.0 other w.1).0 e)),
    (λ l. (sides.before_it w.0 other w.1).1 (leads_still above slots' slots other id back l)),
  );
}
