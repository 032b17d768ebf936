-- Where no range of a field is live no word of its table is written.
use Rattle.std.proofs.Common.{◌≡◌, ℕ, Some, None, is_some, cond, List, [], ◌∷◌, length, replicate, refl, ap, ◌∙◌, arith}
use Rattle.std.proofs.lemmas.List.Sums.{sum_by-cons}
use Rattle.rule_model.specs.declared.Field.{Field}
use Rattle.range_bits.specs.LiveRanges.{LiveRanges}
use Rattle.range_bits.specs.FieldMap.{IsFieldMap, live_count}
use Rattle.commit_writes.specs.Shape.{field_writes}
use Rattle.commit_writes.proofs.NoBits.{no_word_writes}

all_free : (live : LiveRanges) → live_count live ≡ 0 → live ≡ replicate (length live) None
all_free [] none = refl
all_free (None ∷ live) none =
    let step = sum_by-cons (λ held. cond (is_some held) 1 0) None live in ap (λ (l : LiveRanges). None ∷ l) (all_free live (omega arith))
all_free (Some range ∷ live) none = absurd (let step = sum_by-cons (λ held. cond (is_some held) 1 0) (Some range) live in omega arith)

pub no_writes : (field : Field) (live : LiveRanges) (table : List ℕ) → IsFieldMap live → live_count live ≡ 0 → field_writes field live table ≡ []
no_writes field live table is none =
    ap (λ (l : LiveRanges). field_writes field l table) (all_free live none ∙ ap (λ n. replicate n None) is.places) ∙ no_word_writes field 0 table
