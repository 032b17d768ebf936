-- A number of a range, as std reads it and as the definitions do.
use Rattle.std.proofs.Common.{◌≡◌, ◌≤◌, ◌<◌, ◌^◌, ℕ, Bool, Some, None, cond, true, false, refl, sym, ◌∙◌, ap, arith}
use Rattle.std.specs.Str.Parse.{IsNumeral, digits_value, without_leading_plus}
use Rattle.clap.specs.Walk.{Text}
use Rattle.clap.specs.ValueTests.{is_unsigned_in}
use Rattle.clap.proofs.ValueTestLemmas.{accepts-Accepts, Accepts-accepts}
use Rattle.clap.specs.declared.builder.value_parser.ValueParser.TheVariants as vp
use Rattle.option_words.specs.Options.{number_in, number_within}

-- what `u32` reads
abbrev IsU32 : Text → Type 0
IsU32 text = IsNumeral 10 (without_leading_plus text) × (digits_value 10 (without_leading_plus text) < 2 ^ 32)

pub number-read : (low high : ℕ) (text : Text) (n : ℕ) → high < 2 ^ 32 → IsU32 text × (n ≡ number_in text) → low ≤ n → n ≤ high → Some n ≡ number_within low high text
number-read low high text n fits read least most =
    let is = read.1 in
    let passes : is_unsigned_in low high text ≡ true = Accepts-accepts false (vp.Unsigned low high) text (read.0.0, omega arith, omega arith, omega arith) in
    ap Some is ∙ sym (ap (λ b. cond b (Some (number_in text)) None) passes)

-- it isn't read, or isn't in the range
pub number-none : (low high : ℕ) (text : Text) → high < 2 ^ 32 → (IsU32 text → low ≤ number_in text → number_in text ≤ high → ⊥) → None ≡ number_within low high text
number-none low high text fits unread = go (is_unsigned_in low high text) refl
  where
    go : (b : Bool) → is_unsigned_in low high text ≡ b → None ≡ cond b (Some (number_in text)) None
    go false is = refl
    go true is =
        let passed = accepts-Accepts false (vp.Unsigned low high) text is in
        let most = passed.3 in
        absurd (unread (passed.0, omega arith) passed.2 passed.3)
