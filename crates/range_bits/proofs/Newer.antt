-- The ranges of a later moment whose bits were free before.
use Rattle.std.proofs.Common.{◌≡◌, ℕ, zero, suc, ◌<◌, ◌≤◌, Option, Some, None, [], ◌∷◌, length, ◌↔◌, refl, ap, sym, ◌∙◌, arith}
use Rattle.std.proofs.lemmas.List.{get_or_default, same_lists}
use Rattle.rule_model.specs.PortRange.{PortRange}
use Rattle.range_bits.specs.LiveRanges.{LiveRanges, range_at, if_new, newly_live}
use Rattle.range_bits.specs.FieldMap.{IsFieldMap}

pub range_at-newly_live : (before during : LiveRanges) (bit : ℕ) → length before ≡ length during → range_at (newly_live before during) bit ≡ if_new (range_at before bit) (range_at during bit)
range_at-newly_live [] [] bit same = refl
range_at-newly_live [] (now ∷ during) bit same = absurd (omega arith)
range_at-newly_live (was ∷ before) [] bit same = absurd (omega arith)
range_at-newly_live (was ∷ before) (now ∷ during) zero same = refl
range_at-newly_live (was ∷ before) (now ∷ during) (suc bit) same = range_at-newly_live before during bit (omega arith)

pub length-newly_live : (before during : LiveRanges) → length before ≡ length during → length (newly_live before during) ≡ length during
length-newly_live [] [] same = refl
length-newly_live [] (now ∷ during) same = absurd (omega arith)
length-newly_live (was ∷ before) [] same = absurd (omega arith)
length-newly_live (was ∷ before) (now ∷ during) same = ap suc (length-newly_live before during (omega arith))

if_new-parts : (was now : Option PortRange) (range : PortRange) → (if_new was now ≡ Some range) ↔ ((was ≡ None) × (now ≡ Some range))
if_new-parts None now range = (λ is. (refl, is), λ is. is.1)
if_new-parts (Some before) now range = (λ is. absurd (cc), λ is. absurd (let none = is.0 in cc))

-- a bit is newly live exactly where it has a range now, and was free before
pub newly_live-parts : (before during : LiveRanges) (bit : ℕ) (range : PortRange) → length before ≡ length during
    → (range_at (newly_live before during) bit ≡ Some range) ↔ ((range_at before bit ≡ None) × (range_at during bit ≡ Some range))
newly_live-parts before during bit range same =
    let at = range_at-newly_live before during bit same in
    let parts = if_new-parts (range_at before bit) (range_at during bit) range in
    (λ is. parts.0 (sym at ∙ is), λ is. at ∙ parts.1 is)

pub IsFieldMap-newly_live : (before during : LiveRanges) → length before ≡ length during → IsFieldMap during → IsFieldMap (newly_live before during)
IsFieldMap-newly_live before during same is = record {
  places = length-newly_live before during same ∙ is.places;
  right = λ bit range held. is.right bit range (now bit range held);
  one_bit = λ a b range held also. is.one_bit a b range (now a range held) (now b range also);
}
  where
    now : (bit : ℕ) (range : PortRange) → range_at (newly_live before during) bit ≡ Some range → range_at during bit ≡ Some range
    now bit range held = ((newly_live-parts before during bit range same).0 held).1

-- what a walk over the bits has made
pub record IsNewer (before during newer : LiveRanges) (place : ℕ) : Type 0 where
  pub size : length newer ≡ 16
  pub so_far : (bit : ℕ) → bit < place → range_at newer bit ≡ if_new (range_at before bit) (range_at during bit)
  pub to_come : (bit : ℕ) → place ≤ bit → range_at newer bit ≡ None

pub all_newer : (before during newer : LiveRanges) (place : ℕ) → length before ≡ 16 → length during ≡ 16 → 16 ≤ place → IsNewer before during newer place → newer ≡ newly_live before during
all_newer before during newer place was now all is =
    let size = is.size in
    let made = length-newly_live before during (was ∙ sym now) in
    same_lists newer (newly_live before during) (omega arith) (λ bit d inside.
    get_or_default newer bit d None inside ∙ is.so_far bit (omega arith) ∙ sym (range_at-newly_live before during bit (was ∙ sym now))
    ∙ get_or_default (newly_live before during) bit None d (omega arith))
