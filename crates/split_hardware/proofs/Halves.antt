-- Slots of values and masks that stand in columns of entries.
use Rattle.std.proofs.Common.{◌≡◌, ℕ, zero, suc, ◌+◌, Option, None, Some, List, [], ◌∷◌, length, map, replicate, refl, sym, ◌∙◌, ap}
use Rattle.std.proofs.lemmas.List.{length-map, map-set}
use Rattle.std.specs.Prelude.{cond, not, nat_lt, slice_set}
use Rattle.std.specs.List.{position_or_len, prefix_len}
use Rattle.rule_model.specs.declared.words.Word.{Word}
use Rattle.rule_model.specs.declared.words.Entry.{Entry}
use Rattle.rule_model.specs.Entry.{slot_hits, first_hitting}
use Rattle.split_device.specs.State.{hit_slot, parts_hit}
use Rattle.split_hardware.specs.Shadow.{half, halves}

-- there are as many
pub halves_size : (slots : List (Option Entry)) → length (halves slots) ≡ length slots
halves_size slots = length-map slots half

-- empty ones are
pub halves_blank : (n : ℕ) (slots : List (Option Entry)) → slots ≡ replicate n None → halves slots ≡ replicate n None
halves_blank n slots is = ap halves is ∙ empty n
  where
    empty : (k : ℕ) → halves (replicate k None) ≡ replicate k None
    empty zero = refl
    empty (suc k) = ap (λ rest. None ∷ rest) (empty k)

-- a slot that is put is put among them
pub halves_set : (slots now : List (Option Entry)) (at : ℕ) (entry : Option Entry) (parts : Option (Word × Word)) → now ≡ slice_set slots at entry → half entry ≡ parts
    → halves now ≡ slice_set (halves slots) at parts
halves_set slots now at entry parts is same = ap halves is ∙ (map-set half slots at entry ∙ ap (slice_set (halves slots) at) same)

half_hits : (word : Word) (held : Option Entry) → parts_hit word (half held) ≡ slot_hits word held
half_hits word None = refl
half_hits word (Some entry) = refl

-- the least slot that hits is the same
pub halves_hit : (slots : List (Option Entry)) (word : Word) → first_hitting slots word ≡ hit_slot (halves slots) word
halves_hit slots word =
    ap (λ n. cond (nat_lt n (length slots)) (Some n) None) (sym (go slots))
    ∙ ap (λ n. cond (nat_lt (position_or_len (parts_hit word) (halves slots)) n) (Some (position_or_len (parts_hit word) (halves slots))) None) (sym (halves_size slots))
  where
    go : (some : List (Option Entry)) → position_or_len (parts_hit word) (halves some) ≡ position_or_len (slot_hits word) some
    go [] = refl
    go (held ∷ some) =
        ap (λ b. cond (not b) (1 + prefix_len (λ x. not (parts_hit word x)) (halves some)) 0) (half_hits word held)
        ∙ ap (λ n. cond (not (slot_hits word held)) (1 + n) 0) (go some)
