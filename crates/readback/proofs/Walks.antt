-- Walks over a list for an element that passes a test.
use Rattle.std.proofs.Common.{◌≡◌, ℕ, ◌+◌, ◌<◌, Bool, true, false, ◌||◌, Option, Some, None, List, IsTrue, IsNone, IfSome, is_some, length, take, get_or, refl, sym, ◌∙◌, ap, ap₂}
use Rattle.std.specs.Prelude.{◌↔◌}
use Rattle.std.specs.List.{list_any}
use Rattle.std.proofs.lemmas.List.{get_or_default}
use Rattle.slot_order.specs.Order.{slot}
use Rattle.std.proofs.lemmas.List.Folds.{list_any_at, list_any_more}

-- one passes
pub any_at : {X : Type 0} (p : X → Bool) (xs : List X) (i : ℕ) (x : X) → i < length xs → x ≡ get_or xs i x → p x ≡ true → list_any p xs ≡ true
any_at p xs i x inside read passes = list_any_at p xs i x inside (ap p (sym read) ∙ passes)

-- or one more doesn't
pub none_yet : {X : Type 0} (p : X → Bool) (xs : List X) (i : ℕ) (x : X) → i < length xs → x ≡ get_or xs i x → list_any p (take i xs) ≡ false → p x ≡ false
    → list_any p (take (i + 1) xs) ≡ false
none_yet p xs i x inside read none fails = list_any_more p xs i x inside ∙ ap₂ (λ (a b : Bool). a || b) none (ap p (sym read) ∙ fails)

-- what a slot holds
pub slot_read : {X : Type 0} (slots : List (Option X)) (i : ℕ) (x : Option X) → i < length slots → x ≡ get_or slots i x → slot slots i ≡ x
slot_read slots i x inside read = get_or_default slots i None x inside ∙ sym read

-- an element is read in one way
pub one_read : {X : Type 0} (xs : List X) (i : ℕ) (x y : X) → i < length xs → x ≡ get_or xs i x → get_or xs i y ≡ y → x ≡ y
one_read xs i x y inside read same = read ∙ (get_or_default xs i x y inside ∙ same)

-- whether something was found
pub some_or_none : {X : Type 0} {P Q : X → Type 0} (found : Option X) → IfSome found (λ x. P x × Q x) → (IsNone found → (x : X) → P x → Q x → ⊥) → IsTrue (is_some found) ↔ ((x : X) × P x × Q x)
some_or_none None w none = ((λ bad. absurd (let wrong : false ≡ true = bad in cc)), (λ one. absurd (none refl one.0 one.1 one.2)))
some_or_none (Some x) w none = ((λ _. (x, w.0, w.1)), (λ _. refl))
