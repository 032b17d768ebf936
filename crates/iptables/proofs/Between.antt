-- Which addresses stand between two.
use Rattle.std.proofs.Common.{◌≡◌, ◌<◌, ◌≤◌, ◌+◌, ◌-◌, ◌/◌, ◌^◌, ℕ, Bool, true, false, not, ◌==◌, ◌&&◌, ◌||◌, nat_le, nat_lt, cond, [], ◌∷◌, refl, sym, ap, ◌∙◌, arith, inl, inr}
use Rattle.std.proofs.lemmas.Bool.{eqb-true, eqb-false, lt-ltb, le-ltb, le-leb, lt-leb, cases_lt}
use Rattle.std.proofs.lemmas.Nat.{shr_below}
use Rattle.rule_model.specs.declared.IpVersion.{IpVersion}
use Rattle.rule_model.specs.declared.IpVersion.TheVariants.{V4, V6}
use Rattle.rule_model.specs.declared.Key.{Key}
use Rattle.rule_model.specs.Key.{IsKey}
use Rattle.rule_model.specs.AddressBlock.{any_address}
use Rattle.written_chains.specs.Laws.{ListsAnswerAsWalks}
use Rattle.written_chains.specs.Meets.{tests_hold}
use Rattle.iptables.specs.declared.blocks.Which.TheVariants.{Above, Below}
use Rattle.iptables.specs.declared.fields.Side.{Side}
use Rattle.iptables.specs.declared.fields.Side.TheVariants.{Src}
use Rattle.iptables.specs.declared.spans.Span.{Span}
use Rattle.iptables.specs.Values.{any_tests, beside, bits_number, bits_of, from_number, last_number, span_tests, up_to_number}
use Rattle.iptables.specs.Laws.{address_at, any_holds, unless}
use Rattle.iptables.proofs.Beside.{any-block, beside-holds, block-only, side-below}
use Rattle.iptables.proofs.Holding.{any-append, met-holds}

pub any-all : (key : Key) → IsKey key → tests_hold any_tests key ≡ true
any-all key is = block-only Src any_address key is ∙ any-block key.src is.src

-- a number is outside of two
pub outside-is : (x first last : ℕ) → (nat_lt x first || nat_lt last x) ≡ not (nat_le first x && nat_le x last)
outside-is x first last =
    elim (cases_lt x first) [
      | inl less ↦ rw (lt-ltb x first less, lt-leb first x less) refl
      | inr more ↦ elim (cases_lt last x) [
        | inl behind ↦ rw (le-ltb x first more, lt-ltb last x behind, le-leb first x more, lt-leb x last behind) refl
        | inr within ↦ rw (le-ltb x first more, le-ltb last x within, le-leb first x more, le-leb x last within) refl
      ]
    ]

lt-le : (n x : ℕ) → 1 ≤ n → nat_lt (n - 1) x ≡ nat_le n x
lt-le n x some =
    elim (cases_lt (n - 1) x) [
      | inl less ↦ lt-ltb (n - 1) x less ∙ sym (le-leb n x (omega (arith, less, some)))
      | inr more ↦ le-ltb (n - 1) x more ∙ sym (lt-leb n x (omega (arith, more, some)))
    ]

lt-next : (x n : ℕ) → nat_lt x (n + 1) ≡ nat_le x n
lt-next x n =
    elim (cases_lt x (n + 1)) [
      | inl less ↦ lt-ltb x (n + 1) less ∙ sym (le-leb x n (omega (arith, less)))
      | inr more ↦ le-ltb x (n + 1) more ∙ sym (lt-leb x n (omega (arith, more)))
    ]

-- ---- versions

bits-is : (version : IpVersion) (a : ℕ) → a / 2 ^ (128 - bits_of version) ≡ bits_number version a
bits-is V4 a = refl
bits-is V6 a = omega arith

bits-fit : (version : IpVersion) → bits_of version ≤ 128
bits-fit V4 = omega arith
bits-fit V6 = omega arith

bits-below : (version : IpVersion) (n : ℕ) → n ≤ last_number version → n < 2 ^ bits_of version
bits-below V4 n fits = omega (arith, fits)
bits-below V6 n fits = omega (arith, fits)

number-fits : (version : IpVersion) (a : ℕ) → a < 2 ^ 128 → bits_number version a ≤ last_number version
number-fits V4 a below = let upper = shr_below a 32 96 below in omega (arith, upper)
number-fits V6 a below = omega (arith, below)

-- ---- from a number on, and up to one

from-by : (side : Side) (version : IpVersion) (number : ℕ) (key : Key) (zero : Bool) → IsKey key → number ≤ last_number version → (number == 0) ≡ zero
    → any_holds (from_number side version number) key ≡ nat_le number (bits_number version (address_at side key))
from-by side version number key true is fits zero =
    let none = eqb-true number 0 zero in
    ap (λ b. any_holds (cond b (any_tests ∷ []) (beside side Above (bits_of version) (number - 1))) key) zero
    ∙ ap (λ x. x || false) (any-all key is)
    ∙ sym (le-leb number (bits_number version (address_at side key)) (omega (arith, none)))
from-by side version number key false is fits zero =
    let other = eqb-false number 0 zero in
    ap (λ b. any_holds (cond b (any_tests ∷ []) (beside side Above (bits_of version) (number - 1))) key) zero
    ∙ beside-holds side Above (bits_of version) (number - 1) key is (bits-fit version) (bits-below version (number - 1) (omega (arith, fits)))
    ∙ ap (λ n. nat_lt (number - 1) n) (bits-is version (address_at side key))
    ∙ lt-le number (bits_number version (address_at side key)) (omega (arith, other))

up-by : (side : Side) (version : IpVersion) (number : ℕ) (key : Key) (last : Bool) → IsKey key → number ≤ last_number version → (number == last_number version) ≡ last
    → any_holds (up_to_number side version number) key ≡ nat_le (bits_number version (address_at side key)) number
up-by side version number key true is fits last =
    let same = eqb-true number (last_number version) last in
    let most = number-fits version (address_at side key) (side-below side key is) in
    ap (λ b. any_holds (cond b (any_tests ∷ []) (beside side Below (bits_of version) (number + 1))) key) last
    ∙ ap (λ x. x || false) (any-all key is)
    ∙ sym (le-leb (bits_number version (address_at side key)) number (omega (arith, same, most)))
up-by side version number key false is fits last =
    let other = eqb-false number (last_number version) last in
    ap (λ b. any_holds (cond b (any_tests ∷ []) (beside side Below (bits_of version) (number + 1))) key) last
    ∙ beside-holds side Below (bits_of version) (number + 1) key is (bits-fit version) (bits-below version (number + 1) (omega (arith, fits, other)))
    ∙ ap (λ n. nat_lt n (number + 1)) (bits-is version (address_at side key))
    ∙ lt-next (bits_number version (address_at side key)) number

pub spans-hold : ListsAnswerAsWalks → (side : Side) (version : IpVersion) (negated : Bool) (span : Span) (key : Key) → span.first ≤ span.last → span.last ≤ last_number version → IsKey key
    → any_holds (span_tests side version negated span) key
    ≡ unless negated (nat_le span.first (bits_number version (address_at side key)) && nat_le (bits_number version (address_at side key)) span.last)
spans-hold walks side version false span key ordered fits is =
    met-holds walks (from_number side version span.first) (up_to_number side version span.last) key
    ∙ ap (λ x. x && any_holds (up_to_number side version span.last) key) (from-by side version span.first key (span.first == 0) is (omega (arith, ordered, fits)) refl)
    ∙ ap (λ x. nat_le span.first (bits_number version (address_at side key)) && x) (up-by side version span.last key (span.last == last_number version) is fits refl)
spans-hold walks side version true span key ordered fits is =
    let x = bits_number version (address_at side key) in
    any-append (beside side Below (bits_of version) span.first) (beside side Above (bits_of version) span.last) key
    ∙ ap (λ b. b || any_holds (beside side Above (bits_of version) span.last) key)
    (beside-holds side Below (bits_of version) span.first key is (bits-fit version) (bits-below version span.first (omega (arith, ordered, fits))) ∙ ap (λ n. nat_lt n span.first) (bits-is version (address_at side key)))
    ∙ ap (λ b. nat_lt x span.first || b)
    (beside-holds side Above (bits_of version) span.last key is (bits-fit version) (bits-below version span.last fits) ∙ ap (λ n. nat_lt span.last n) (bits-is version (address_at side key)))
    ∙ outside-is x span.first span.last
