-- What words that are written leave in a table, one word more.
use Rattle.std.proofs.Common.{◌≡◌, ℕ, ◌+◌, ◌<◌, List, [], ◌∷◌, ◌++◌, length, take, set, get_or, nat_eq, refl, sym, ap, subst, ◌∙◌, arith, length-set, eqb-true, false-eqb}
use Rattle.std.specs.Prelude.{slice_index}
use Rattle.std.proofs.lemmas.Bool.{cond_both}
use Rattle.std.proofs.lemmas.List.{get_or-set_same, get_or-set_other, get_or-replicate, length-replicate, take_more}
use Rattle.tcam_device.specs.State.{blank_table}
use Rattle.tcam_device.proofs.Kept.{blank_table-is}
use Rattle.port_table.specs.Table.{after_words, word_after}

pub blank-size : length blank_table ≡ 65536
blank-size = ap length blank_table-is ∙ length-replicate {A = ℕ} 65536 0

pub blank-word : (port : ℕ) → port < 65536 → slice_index blank_table port ≡ 0
blank-word port inside = ap (λ table. slice_index table port) blank_table-is ∙ get_or-replicate 65536 port 0 0 inside

-- writes keep the size of a table
pub length-after : (table : List ℕ) (written : List (ℕ × ℕ)) → length (after_words table written) ≡ length table
length-after table [] = refl
length-after table (one ∷ more) = length-after (set table one.0 one.1) more ∙ length-set table one.0 one.1

-- a word more
pub after-push : (table : List ℕ) (written : List (ℕ × ℕ)) (one : ℕ × ℕ) → after_words table (written ++ one ∷ []) ≡ set (after_words table written) one.0 one.1
after-push table [] one = refl
after-push table (first ∷ more) one = after-push (set table first.0 first.1) more one

-- what is read of a table after one write
read-set : (table : List ℕ) (one : ℕ × ℕ) (port : ℕ) → one.0 < length table → slice_index (set table one.0 one.1) port ≡ word_after port (slice_index table port) one
read-set table one port inside =
    cond_both (nat_eq one.0 port) one.1 (slice_index table port) (λ word. slice_index (set table one.0 one.1) port ≡ word)
    (λ same. subst (λ at. slice_index (set table one.0 one.1) at ≡ one.1) (eqb-true one.0 port same) (get_or-set_same table one.0 one.1 0 inside))
    (λ other. get_or-set_other table one.0 port one.1 0 (λ same. false-eqb one.0 port (sym other) (sym same)))

-- what a walk over the words finds at a port
pub record IsWordSoFar (written : List (ℕ × ℕ)) (port at word : ℕ) : Type 0 where
  pub is : word ≡ slice_index (after_words blank_table (take at written)) port

pub so_far-none : (written : List (ℕ × ℕ)) (port : ℕ) → port < 65536 → IsWordSoFar written port 0 0
so_far-none written port inside = record { is = sym (blank-word port inside) }

pub so_far-more : (written : List (ℕ × ℕ)) (port at word next : ℕ) (one : ℕ × ℕ) → at < length written → get_or written at one ≡ one → one.0 < 65536 → next ≡ word_after port word one
    → IsWordSoFar written port at word → IsWordSoFar written port (at + 1) next
so_far-more written port at word next one inside read fits step was = record {
  is =
      step ∙ ap (λ word. word_after port word one) was.is
      ∙ sym (read-set (after_words blank_table (take at written)) one port within)
      ∙ ap (λ table. slice_index table port) (sym (after-push blank_table (take at written) one))
      ∙ ap (λ some. slice_index (after_words blank_table some) port) (sym more);
}
  where
    more : take (at + 1) written ≡ take at written ++ one ∷ []
    more = take_more written at one inside ∙ ap (λ (last : ℕ × ℕ). take at written ++ last ∷ []) read

    within : one.0 < length (after_words blank_table (take at written))
    within = let size = length-after blank_table (take at written) in let whole = blank-size in omega arith

-- and what a walk over them puts
pub put-more : (start now : List ℕ) (written : List (ℕ × ℕ)) (at : ℕ) (one : ℕ × ℕ) → at < length written → get_or written at one ≡ one → now ≡ after_words start (take at written)
    → set now one.0 one.1 ≡ after_words start (take (at + 1) written)
put-more start now written at one inside read was =
    ap (λ table. set table one.0 one.1) was ∙ sym (after-push start (take at written) one)
    ∙ ap (after_words start) (sym (take_more written at one inside ∙ ap (λ (last : ℕ × ℕ). take at written ++ last ∷ []) read))
