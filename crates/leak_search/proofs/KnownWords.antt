-- The words of a table, what is known of them at the ports of a cube, and the part of the cube that is left.
use Rattle.std.proofs.Common.{◌≡◌, ℕ, ◌+◌, ◌-◌, ◌/◌, ◌%◌, ◌^◌, ◌<◌, ◌≤◌, bit_and, bit_xor, ap, IsTrue, List, length, Option, Some, None, replicate, slice_set, inl, inr, refl, sym, ◌∙◌, subst, arith, get_or-set_same, get_or-set_other, length-set}
use Rattle.std.specs.Prelude.{slice_index, IfSome, IsNone}
use Rattle.std.specs.Int.Bits.{and_zero_r}
use Rattle.std.proofs.lemmas.Bool.{cases_eq}
use Rattle.std.proofs.lemmas.Grind.{and-not_self}
use Rattle.std.proofs.lemmas.Nat.{and_assoc, and_comm}
use Rattle.rule_model.specs.declared.Key.{Key}
use Rattle.rule_model.specs.Key.{IsKey}
use Rattle.rule_model.specs.declared.words.Word.{Word}
use Rattle.rule_model.specs.Word.{pair_lane}
use Rattle.tcam_device.specs.State.{blank_table}
use Rattle.tcam_device.proofs.States.{IsState-blank}
use Rattle.word_cubes.specs.declared.Cube.{Cube}
use Rattle.word_cubes.specs.Cube.{IsWord, LaneAgrees, cube_holds}
use Rattle.word_cubes.proofs.Bits.{agrees}
use Rattle.leak_search.specs.Found.{AreWords, key_word}
use Rattle.leak_search.proofs.Ports.{known_word, ports_agree, words_agree}

pub is_blank : (words : List ℕ) → words ≡ replicate (2 ^ 16) 0 → words ≡ blank_table
unfolding blank_table
is_blank words is = is

pub blank_right : (words : List ℕ) → words ≡ blank_table → (length words ≡ 2 ^ 16) × AreWords words
blank_right words is =
    subst (λ (all : List ℕ). (length all ≡ 2 ^ 16) × AreWords all) (sym is) ((IsState-blank 0).src_size, (IsState-blank 0).src_words)

pub words_set : (table : List ℕ) (port word : ℕ) → length table ≡ 2 ^ 16 → AreWords table → port < 2 ^ 16 → word < 2 ^ 16
    → (length (slice_set table port word) ≡ 2 ^ 16) × AreWords (slice_set table port word)
words_set table port word size words below small = (length-set table port word ∙ size, each)
  where
    each : (at : ℕ) → slice_index (slice_set table port word) at < 2 ^ 16
    each at = elim (cases_eq at port) [
      | inl same ↦ subst (λ n. n < 2 ^ 16) (sym (subst (λ p. slice_index (slice_set table port word) p ≡ word) (sym same) (get_or-set_same table port word 0 (let s = size in omega arith)))) small
      | inr other ↦ subst (λ n. n < 2 ^ 16) (sym (get_or-set_other table port at word 0 other)) (words at)
    ]

-- the word at one port
pub known_here : (table : List ℕ) (value mask word : ℕ) → value < 2 ^ 16 → mask ≡ 65535 → word ≡ slice_index table value
    → (port : ℕ) → port < 2 ^ 16 → agrees port value mask → agrees (slice_index table port) word 65535
known_here table value mask word below whole is port small near =
    subst (λ w. agrees (slice_index table port) w 65535) (sym is) (known_word table port value small below (subst (agrees port value) whole near))

-- bits that two words have in common agree, and so does what agreed in more of them
pub shared_agrees : (bits one other result : ℕ) → bit_xor one other ≤ 65535 → result ≡ bit_and bits (65535 - bit_xor one other) → bit_and (bit_xor one other) result ≡ 0
shared_agrees bits one other result below is =
    ap (bit_and (bit_xor one other)) is ∙ and_comm (bit_xor one other) (bit_and bits (65535 - bit_xor one other)) ∙ and-not_self bits 65535 (bit_xor one other) (bit_xor one other) refl below refl

pub shared_kept : (bits rest result n : ℕ) → result ≡ bit_and bits rest → bit_and n bits ≡ 0 → bit_and n result ≡ 0
shared_kept bits rest result n is zero = ap (bit_and n) is ∙ sym (and_assoc rest n bits) ∙ ap (λ m. bit_and m rest) zero ∙ and_comm 0 rest ∙ and_zero_r rest

-- what is shared by the words at the ports below one
abbrev pub IsSharedBelow : List ℕ → ℕ → ℕ → ℕ → ℕ → ℕ → Type 0
IsSharedBelow words value mask word shared i = (port : ℕ) → port < i → agrees port value mask → agrees (slice_index words port) word shared

pub shared_more : (words : List ℕ) (value mask word shared next i : ℕ) → IsSharedBelow words value mask word shared i → agrees (slice_index words i) word next
    → ((n : ℕ) → bit_and n shared ≡ 0 → bit_and n next ≡ 0) → IsSharedBelow words value mask word next (i + 1)
shared_more words value mask word shared next i before here kept port below near = elim (cases_eq port i) [
  | inl same ↦ subst (λ n. agrees (slice_index words n) word next) (sym same) here
  | inr other ↦ kept (bit_xor (slice_index words port) word) (before port (omega arith) near)
]

pub shared_past : (words : List ℕ) (value mask word shared i : ℕ) → IsSharedBelow words value mask word shared i → (agrees i value mask → ⊥) → IsSharedBelow words value mask word shared (i + 1)
shared_past words value mask word shared i before far port below near = elim (cases_eq port i) [
  | inl same ↦ absurd (far (subst (λ n. agrees n value mask) same near))
  | inr other ↦ before port (omega arith) near
]

-- what is known of a table at the ports that agree with a value
abbrev pub IsKnown : List ℕ → ℕ → ℕ → ℕ × ℕ → Type 0
IsKnown table value mask known = (port : ℕ) → port < 2 ^ 16 → agrees port value mask → agrees (slice_index table port) known.0 known.1

-- so the lane of the words of both tables agrees with what is known
pub lane_known : (src dst : List ℕ) → AreWords dst → (ports tested sv sm dv dm : ℕ) (s d : ℕ × ℕ) (value mask : ℕ) → sv ≡ ports / 2 ^ 16 → sm ≡ tested / 2 ^ 16 → dv ≡ ports % 2 ^ 16
    → dm ≡ tested % 2 ^ 16 → IsKnown src sv sm s → IsKnown dst dv dm d → d.0 < 2 ^ 16 → d.1 < 2 ^ 16 → value ≡ pair_lane s.0 d.0 → mask ≡ pair_lane s.1 d.1
    → (key : Key) → IsKey key → agrees (pair_lane key.sport key.dport) ports tested → agrees (pair_lane (slice_index src key.sport) (slice_index dst key.dport)) value mask
lane_known src dst words ports tested sv sm dv dm s d value mask is_sv is_sm is_dv is_dm by_src by_dst d0 d1 is_value is_mask key valid near =
    let parts = ports_agree key.sport key.dport ports tested valid.sport valid.dport near in
    let at_src = by_src key.sport valid.sport (subst (λ v. agrees key.sport v sm) (sym is_sv) (subst (λ m. agrees key.sport (ports / 2 ^ 16) m) (sym is_sm) parts.0)) in
    let at_dst = by_dst key.dport valid.dport (subst (λ v. agrees key.dport v dm) (sym is_dv) (subst (λ m. agrees key.dport (ports % 2 ^ 16) m) (sym is_dm) parts.1)) in
    let word = pair_lane (slice_index src key.sport) (slice_index dst key.dport) in
    subst (λ v. agrees word v mask) (sym is_value) (subst (λ m. agrees word (pair_lane s.0 d.0) m) (sym is_mask)
    (words_agree (slice_index src key.sport) (slice_index dst key.dport) s.0 d.0 s.1 d.1 (words key.dport) d0 d1 at_src at_dst))

-- and the part of a cube where it does has all keys
module _ (src dst : List ℕ) (cube : Cube) (value mask : ℕ)
    (near : (key : Key) → IsKey key → IsTrue (cube_holds cube (key_word src dst key)) → LaneAgrees (key_word src dst key) 10 value mask) where
  pub part_has : (part : Option Cube)
      → IfSome part (λ part. (word : Word) → IsWord word → IsTrue (cube_holds cube word) → LaneAgrees word 10 value mask → IsTrue (cube_holds part word))
      → IfSome part (λ part. (key : Key) → IsKey key → IsTrue (cube_holds cube (key_word src dst key)) → IsTrue (cube_holds part (key_word src dst key)))
  part_has None all = all
  part_has (Some part) all = λ key valid within. all (key_word src dst key) refl within (near key valid within)

  pub part_none : (part : Option Cube)
      → (IsNone part → (word : Word) → IsWord word → IsTrue (cube_holds cube word) → LaneAgrees word 10 value mask → ⊥)
      → IsNone part → (key : Key) → IsKey key → IsTrue (cube_holds cube (key_word src dst key)) → ⊥
  part_none part all none key valid within = all none (key_word src dst key) refl within (near key valid within)
