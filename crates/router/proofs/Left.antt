-- How many parts are left of both plans.
use Rattle.std.proofs.Common.{◌≡◌, ℕ, ◌+◌, ◌^◌, ◌≤◌, ◌||◌, is_some, true, false, Option, None, Some, length, refl, sym, ap, ap₂, subst, ◌∙◌, arith}
use Rattle.std.specs.Prelude.{option_map}
use Rattle.batch_order.specs.Managed.{HeldCommit}
use Rattle.split_device.specs.Flight.{written}
use Rattle.split_order.specs.Left.{left_of_held, since_of, state_on}
use Rattle.split_order.specs.Managed.{SplitManaged}
use Rattle.router.specs.Run.{DeviceSlots}
use Rattle.router.specs.Routing.{FitsBoth, HasFewLeft, Routing, held_left, number_left, slots_of}

-- of two tables, what is left of both
abbrev pub both_left : Option ℕ → Option ℕ → Option ℕ
both_left None None = None
both_left (Some a) None = Some a
both_left None (Some b) = Some b
both_left (Some a) (Some b) = Some (a + b)

-- with no commit under way nothing is left
pub no_parts : (slots : ℕ) (manager : SplitManaged) → manager.whole.held ≡ None → number_left slots manager ≡ 0
no_parts slots manager none = ap (λ (held : Option HeldCommit). length (written (left_of_held (state_on slots manager) (since_of manager) manager.whole.state manager.made held))) none

module _ (slots : DeviceSlots) (router : Routing) (a b : Option ℕ) (listed : a ≡ option_map (λ (held : HeldCommit). number_left slots.listed router.listed) router.listed.whole.held)
    (routed : b ≡ option_map (λ (held : HeldCommit). number_left slots.routed router.routed) router.routed.whole.held) where
  list_parts : ℕ
  list_parts = number_left slots.listed router.listed

  route_parts : ℕ
  route_parts = number_left slots.routed router.routed

  abbrev whole_left : Option HeldCommit → Option HeldCommit → Option ℕ
  whole_left one two = elim (is_some one || is_some two) [ true ↦ Some (number_left slots.listed router.listed + number_left slots.routed router.routed) | false ↦ None ]

  pub told_left : both_left a b ≡ held_left slots router
  told_left = go router.listed.whole.held router.routed.whole.held refl refl
    where
      go : (one two : Option HeldCommit) → router.listed.whole.held ≡ one → router.routed.whole.held ≡ two → both_left a b ≡ held_left slots router
      go None None l r =
          ap₂ both_left (listed ∙ ap (option_map (λ (held : HeldCommit). number_left slots.listed router.listed)) l) (routed ∙ ap (option_map (λ (held : HeldCommit). number_left slots.routed router.routed)) r)
          ∙ sym (ap₂ whole_left l r)
      go (Some one) None l r =
          let none : number_left slots.routed router.routed ≡ 0 = no_parts slots.routed router.routed r in
          let sum : number_left slots.listed router.listed ≡ number_left slots.listed router.listed + number_left slots.routed router.routed = omega arith in
          ap₂ both_left (listed ∙ ap (option_map (λ (held : HeldCommit). number_left slots.listed router.listed)) l) (routed ∙ ap (option_map (λ (held : HeldCommit). number_left slots.routed router.routed)) r)
          ∙ (ap (λ (n : ℕ). Some n) sum ∙ sym (ap₂ whole_left l r))
      go None (Some two) l r =
          let none : number_left slots.listed router.listed ≡ 0 = no_parts slots.listed router.listed l in
          let sum : number_left slots.routed router.routed ≡ number_left slots.listed router.listed + number_left slots.routed router.routed = omega arith in
          ap₂ both_left (listed ∙ ap (option_map (λ (held : HeldCommit). number_left slots.listed router.listed)) l) (routed ∙ ap (option_map (λ (held : HeldCommit). number_left slots.routed router.routed)) r)
          ∙ (ap (λ (n : ℕ). Some n) sum ∙ sym (ap₂ whole_left l r))
      go (Some one) (Some two) l r =
          ap₂ both_left (listed ∙ ap (option_map (λ (held : HeldCommit). number_left slots.listed router.listed)) l) (routed ∙ ap (option_map (λ (held : HeldCommit). number_left slots.routed router.routed)) r)
          ∙ sym (ap₂ whole_left l r)

pub left_is : (router now : Routing) (a b : Option ℕ) → router ≡ now
    → ((slots : ℕ) → router.listed.whole.slots ≤ slots → a ≡ option_map (λ (held : HeldCommit). number_left slots router.listed) router.listed.whole.held)
    → ((slots : ℕ) → router.routed.whole.slots ≤ slots → b ≡ option_map (λ (held : HeldCommit). number_left slots router.routed) router.routed.whole.held)
    → (list_slots route_slots : ℕ) → FitsBoth now (slots_of list_slots route_slots) → both_left a b ≡ held_left (slots_of list_slots route_slots) now
left_is router now a b same listed routed list_slots route_slots fits =
    let here : FitsBoth router (slots_of list_slots route_slots) = subst (λ (r : Routing). FitsBoth r (slots_of list_slots route_slots)) (sym same) fits in
    told_left (slots_of list_slots route_slots) router a b (listed list_slots here.listed) (routed route_slots here.routed) ∙ ap (held_left (slots_of list_slots route_slots)) same

-- and that is few
pub few_told : (manager : SplitManaged) → HasFewLeft manager → (told : Option ℕ) (one : ℕ) → told ≡ Some one
    → ((slots : ℕ) → manager.whole.slots ≤ slots → told ≡ option_map (λ (held : HeldCommit). number_left slots manager) manager.whole.held) → one ≤ 2 ^ 41
few_told manager few told one is tells = go manager.whole.held (sym is ∙ tells few.slots few.wide)
  where
    go : (held : Option HeldCommit) → Some one ≡ option_map (λ (some : HeldCommit). number_left few.slots manager) held → one ≤ 2 ^ 41
    go None none = absurd (cc)
    go (Some some) same = let number : one ≡ number_left few.slots manager = cc in let most = few.few in omega arith
