-- What lists of entries answer words: tag and result of the first entry that hits.
use Rattle.std.specs.Prelude.{◌≡◌, ◌⊎◌, ℕ, ◌<◌, ◌^◌, Bool, true, false, ◌&&◌, IsTrue, List, [], ◌∷◌, ◌++◌, Option, Some, None, nat_eq, slice_index}
use Rattle.std.specs.List.{find}
use Rattle.rule_model.specs.declared.Key.{Key}
use Rattle.rule_model.specs.declared.words.Word.{Word}
use Rattle.rule_model.specs.declared.words.Entry.{Entry}
use Rattle.rule_model.specs.RuleSet.{Answer}
use Rattle.rule_model.specs.Word.{word_of}
use Rattle.rule_model.specs.Entry.{hits, same_word}
use Rattle.tcam_device.specs.State.{told}
use Rattle.driver_trace.specs.declared.Compared.{Compared}
use Rattle.driver_trace.specs.declared.Compared.TheVariants.{Answers, Results}
use Rattle.driver_trace.specs.Compared.{as_compared}
use Rattle.word_cubes.specs.declared.Cube.{Cube}
use Rattle.word_cubes.specs.Cube.{HitsCube, IsWord, MissesCube, cube_holds}

-- what some entries answer a word
abbrev pub found_in : List Entry → Word → Answer
found_in entries word = told (find (λ entry. hits entry word) entries)

-- some entries answer each word of a cube as others do
abbrev pub AnswerAlike : Cube → List Entry → List Entry → Type 0
AnswerAlike cube some entries = (word : Word) → IsWord word → IsTrue (cube_holds cube word) → found_in some word ≡ found_in entries word

-- they have one answer for all of its words
abbrev pub AnswerBy : Cube → List Entry → Answer → Type 0
AnswerBy cube entries answer = (word : Word) → IsWord word → IsTrue (cube_holds cube word) → found_in entries word ≡ answer

-- An entry is taken in behind others: true says that it hits each word of a cube, so that none behind it counts; else it
-- may be left out where it hits none.
abbrev pub IsTakenIn : Cube → List Entry → Entry → List Entry → Bool → Type 0
IsTakenIn cube before entry after true = HitsCube entry cube × (after ≡ before ++ entry ∷ [])
IsTakenIn cube before entry after false = (after ≡ before ++ entry ∷ []) ⊎ ((after ≡ before) × MissesCube entry cube)

-- and so what stands in a slot
abbrev pub IsSlotTakenIn : Cube → List Entry → Option Entry → List Entry → Bool → Type 0
IsSlotTakenIn cube before None after last = (last ≡ false) × (after ≡ before)
IsSlotTakenIn cube before (Some entry) after last = IsTakenIn cube before entry after last

-- two answers agree, by what is compared of them
abbrev pub same_told : Compared → ℕ × ℕ → ℕ × ℕ → Bool
same_told Answers one other = nat_eq one.0 other.0 && nat_eq one.1 other.1
same_told Results one other = nat_eq one.1 other.1

-- no answer
abbrev pub is_nothing : Answer → Bool
is_nothing None = true
is_nothing (Some told) = false

-- likewise of answers that may be none
abbrev pub same_answer : Compared → Answer → Answer → Bool
same_answer by None other = is_nothing other
same_answer by (Some one) None = false
same_answer by (Some one) (Some other) = same_told by one other

-- two entries have the same value and mask, and answer alike
abbrev pub same_entry : Compared → Entry → Entry → Bool
same_entry by a b = same_told by (a.tag, a.result) (b.tag, b.result) && same_word a.value b.value && same_word a.mask b.mask

-- two entries hit the same words, and answer alike by what is compared
pub record AreAlike (by : Compared) (a b : Entry) : Type 0 where
  pub value : a.value ≡ b.value
  pub mask : a.mask ≡ b.mask
  pub told : as_compared by (Some (a.tag, a.result)) ≡ as_compared by (Some (b.tag, b.result))

-- the search word of a key by two tables
abbrev pub key_word : List ℕ → List ℕ → Key → Word
key_word src dst key = word_of key (slice_index src key.sport) (slice_index dst key.dport)

-- words of 16 bits
abbrev pub AreWords : List ℕ → Type 0
AreWords table = (port : ℕ) → slice_index table port < 2 ^ 16
