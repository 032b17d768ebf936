-- A plain text stands in JSON as it is.
use Rattle.std.proofs.Common.{◌≡◌, ◌≤◌, ℕ, List, [], ◌∷◌, ◌++◌, true, refl, ap, ap₂, arith}
use Rattle.std.specs.List.{list_all}
use Rattle.std.proofs.lemmas.Bool.{and_parts}
use Rattle.std.proofs.lemmas.Bool.Decides.{nat_tests}
use Rattle.json.specs.Print.{escape}
use Rattle.json.proofs.Printed.Strings.{escape_byte_plain}
use Rattle.json_text.specs.JsonText.{PlainTextsStand, is_plain}

no_mark : (byte : ℕ) → is_plain byte ≡ true → byte ≡ 34 → ⊥
no_mark byte plain is = grind (arith, nat_tests)

no_backslash : (byte : ℕ) → is_plain byte ≡ true → byte ≡ 92 → ⊥
no_backslash byte plain is = grind (arith, nat_tests)

no_control : (byte : ℕ) → is_plain byte ≡ true → 32 ≤ byte
no_control byte plain = grind (arith, nat_tests)

stands : (text : List ℕ) → list_all is_plain text ≡ true → escape text ≡ text
stands [] plain = refl
stands (byte ∷ text) plain =
    let parts = and_parts (is_plain byte) (list_all is_plain text) plain in
    ap₂ (λ (a b : List ℕ). a ++ b) (escape_byte_plain byte (no_mark byte parts.0) (no_backslash byte parts.0) (no_control byte parts.0)) (stands text parts.1)

pub plain_texts : PlainTextsStand
plain_texts text plain = ap (λ (t : List ℕ). 34 ∷ t ++ 34 ∷ []) (stands text plain)
