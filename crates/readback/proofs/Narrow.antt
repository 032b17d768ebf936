-- A stage holds nothing but what its slots in use hold.
use Rattle.std.proofs.Common.{◌≡◌, ℕ, zero, suc, ◌-◌, ◌≤◌, Option, None, Some, List, [], ◌∷◌, ◌++◌, length, replicate, take, refl, ◌∙◌, ap, arith}
use Rattle.slot_order.specs.Order.{slot}
use Rattle.rule_model.specs.declared.words.Entry.{Entry}
use Rattle.readback.specs.Narrow.{StagesUseNoOtherSlots}

-- slots that are empty
all_empty : {E : Type 0} (held : List (Option E)) → ((at : ℕ) → slot held at ≡ None) → replicate (length held) None ≡ held
all_empty [] none = refl
all_empty (None ∷ held) none = ap (λ rest. None ∷ rest) (all_empty held (λ at. none (suc at)))
all_empty (Some entry ∷ held) none = absurd (let wrong = none 0 in cc)

-- with the first ones in front of them are all
front_of : {E : Type 0} (n : ℕ) (held : List (Option E)) → n ≤ length held → ((at : ℕ) → n ≤ at → slot held at ≡ None)
    → take n held ++ replicate (length held - length (take n held)) None ≡ held
front_of zero held short none = ap (λ k. replicate k None) (let k : length held - 0 ≡ length held = omega arith in k) ∙ all_empty held (λ at. none at (omega arith))
front_of (suc n) [] short none = absurd (omega arith)
front_of (suc n) (first ∷ held) short none =
    ap (λ k. first ∷ (take n held ++ replicate k None)) (let k : length (first ∷ held) - length (first ∷ take n held) ≡ length held - length (take n held) = omega arith in k)
    ∙ ap (λ rest. first ∷ rest) (front_of n held (omega arith) (λ at past. none (suc at) (omega arith)))

pub stages_narrow : StagesUseNoOtherSlots
stages_narrow slots mode bits rules batch state done left short stage = ap (λ (held : List (Option Entry)). record state { slots = held }) (front_of slots state.slots short stage.unused)
