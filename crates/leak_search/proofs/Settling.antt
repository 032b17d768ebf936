-- What is settled of answers, and what follows of it.
use Rattle.std.proofs.Common.{◌≡◌, ℕ, ◌<◌, Bool, true, IsTrue, List, [], ◌∷◌, Some, None, refl, sym, subst, ap, ap₂, arith, eqb-true, eq-eqb}
use Rattle.std.specs.Prelude.{◌↔◌, ◌&&◌, nat_eq}
use Rattle.std.proofs.lemmas.Bool.{and_parts}
use Rattle.rule_model.specs.RuleSet.{Answer}
use Rattle.rule_model.specs.declared.words.Word.{Word}
use Rattle.rule_model.specs.declared.words.Entry.{Entry}
use Rattle.rule_model.specs.Entry.{hits}
use Rattle.tcam_device.specs.State.{told}
use Rattle.word_cubes.specs.declared.Cube.{Cube}
use Rattle.word_cubes.specs.Cube.{IsWord, cube_holds}
use Rattle.driver_trace.specs.declared.Compared.{Compared}
use Rattle.driver_trace.specs.declared.Compared.TheVariants.{Answers, Results}
use Rattle.driver_trace.specs.Compared.{as_compared}
use Rattle.leak_search.specs.declared.settled.Settled.{Settled}
use Rattle.leak_search.specs.declared.settled.Settled.TheVariants.{Told, Open}
use Rattle.leak_search.specs.declared.settled.Verdict.TheVariants.{Cut}
use Rattle.leak_search.specs.Found.{AnswerBy, found_in, same_answer, same_told}
use Rattle.leak_search.specs.Sought.{IsSettledAs}
use Rattle.leak_search.proofs.Finding.{hit_first}

pub told_is : (a b : Answer) → Told a ≡ Told b → a ≡ b
told_is a b same = cc

pub open_within : (a b lane bit : ℕ) → Open a b ≡ Open lane bit → (a < 11) × (b < 32) → (lane < 11) × (bit < 32)
open_within a b lane bit same within = let x : a ≡ lane = cc in let y : b ≡ bit = cc in (subst (λ n. n < 11) x within.0, subst (λ n. n < 32) y within.1)

pub cut_within : (a b lane bit : ℕ) → Cut a b ≡ Cut lane bit → (a < 11) × (b < 32) → (lane < 11) × (bit < 32)
cut_within a b lane bit same within = let x : a ≡ lane = cc in let y : b ≡ bit = cc in (subst (λ n. n < 11) x within.0, subst (λ n. n < 32) y within.1)

-- one entry that hits answers
pub one_found : (word : Word) (entry : Entry) → hits entry word ≡ true → found_in (entry ∷ []) word ≡ Some (entry.tag, entry.result)
one_found word entry hit = ap told (hit_first word entry [] hit)

-- what is settled for a cube is right of each of its words
pub settled_word : (cube : Cube) (entries : List Entry) (settled : Settled) → ((told : Answer) → settled ≡ Told told → AnswerBy cube entries told)
    → (word : Word) → IsWord word → IsTrue (cube_holds cube word) → IsSettledAs settled (found_in entries word)
settled_word cube entries (Told told) by word is_word within = sym (by told refl word is_word within)
settled_word cube entries (Open lane bit) by word is_word within = tt

pub settled_told : (settled : Settled) (told answer : Answer) → settled ≡ Told told → IsSettledAs settled answer → told ≡ answer
settled_told settled told answer is right = subst (λ s. IsSettledAs s answer) is right

abbrev pair : ℕ → ℕ → Answer
pair a b = Some (a, b)

first_is : (a b c d : ℕ) → pair a b ≡ pair c d → a ≡ c
first_is a b c d same = let one : ◌≡◌ {A = ℕ × ℕ} (a, b) (c, d) = cc in ap (λ (p : ℕ × ℕ). p.0) one

second_is : (a b c d : ℕ) → pair a b ≡ pair c d → b ≡ d
second_is a b c d same = let one : ◌≡◌ {A = ℕ × ℕ} (a, b) (c, d) = cc in ap (λ (p : ℕ × ℕ). p.1) one

and_both : (a b : Bool) → a ≡ true → b ≡ true → (a && b) ≡ true
and_both a b x y = ap₂ (λ p q. p && q) x y

pub told_exact : (by : Compared) (one other : ℕ × ℕ) → IsTrue (same_told by one other) ↔ (as_compared by (Some one) ≡ as_compared by (Some other))
told_exact Answers one other = (
  λ yes. let both = and_parts (nat_eq one.0 other.0) (nat_eq one.1 other.1) yes in ap₂ pair (eqb-true one.0 other.0 both.0) (eqb-true one.1 other.1 both.1),
  λ same. and_both (nat_eq one.0 other.0) (nat_eq one.1 other.1) (eq-eqb one.0 other.0 (first_is one.0 one.1 other.0 other.1 same)) (eq-eqb one.1 other.1 (second_is one.0 one.1 other.0 other.1 same)),
)
told_exact Results one other = (
  λ yes. ap (λ b. pair 0 b) (eqb-true one.1 other.1 yes),
  λ same. eq-eqb one.1 other.1 (second_is 0 one.1 0 other.1 same),
)

-- the test is exact
pub same_exact : (by : Compared) (a b : Answer) → IsTrue (same_answer by a b) ↔ (as_compared by a ≡ as_compared by b)
same_exact Answers None None = (λ yes. refl, λ same. refl)
same_exact Results None None = (λ yes. refl, λ same. refl)
same_exact Answers None (Some other) = (λ yes. absurd (cc), λ same. absurd (cc))
same_exact Results None (Some other) = (λ yes. absurd (cc), λ same. absurd (cc))
same_exact Answers (Some one) None = (λ yes. absurd (cc), λ same. absurd (cc))
same_exact Results (Some one) None = (λ yes. absurd (cc), λ same. absurd (cc))
same_exact by (Some one) (Some other) = told_exact by one other
