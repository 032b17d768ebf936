-- What the lane of the ports tells of each port, and two words of tables of their lane.
use Rattle.std.proofs.Common.{◌≡◌, ℕ, ◌+◌, ◌*◌, ◌/◌, ◌%◌, ◌^◌, ◌<◌, List, bit_and, bit_xor, sym, ◌∙◌, ap, subst, arith}
use Rattle.std.specs.Prelude.{slice_index}
use Rattle.std.specs.Int.Bits.{xor_add_and, and_zero_r, xor_self}
use Rattle.std.proofs.Math.Nat.{mod-lt}
use Rattle.std.proofs.lemmas.Nat.{pow_pos, and_le_l, and_le_r, and_mask, xor_lt, xor_block, and_block, div-add-mod'}
use Rattle.std.proofs.Math.Nat.{mod-eq_of_lt}
use Rattle.rule_model.specs.Word.{pair_lane}
use Rattle.word_cubes.proofs.Bits.{agrees}

-- a match of two parts is a match of each
parts_differ : (k a b c d e f : ℕ) → b < 2 ^ k → d < 2 ^ k → f < 2 ^ k
    → bit_and (bit_xor (a * 2 ^ k + b) (c * 2 ^ k + d)) (e * 2 ^ k + f) ≡ bit_and (bit_xor a c) e * 2 ^ k + bit_and (bit_xor b d) f
parts_differ k a b c d e f lb ld lf =
    ap (λ n. bit_and n (e * 2 ^ k + f)) (xor_block k a c b d lb ld) ∙ and_block k (bit_xor a c) e (bit_xor b d) f (xor_lt k b d lb ld) lf

both_zero : (m n : ℕ) → m * 2 ^ 16 + n ≡ 0 → (m ≡ 0) × (n ≡ 0)
both_zero m n e = (omega arith, omega arith)

-- a lane of two ports agrees where each port does,
pub ports_agree : (sport dport ports tested : ℕ) → sport < 2 ^ 16 → dport < 2 ^ 16 → agrees (pair_lane sport dport) ports tested
    → agrees sport (ports / 2 ^ 16) (tested / 2 ^ 16) × agrees dport (ports % 2 ^ 16) (tested % 2 ^ 16)
ports_agree sport dport ports tested ls ld e =
    both_zero _ _ (sym (parts_differ 16 sport dport (ports / 2 ^ 16) (ports % 2 ^ 16) (tested / 2 ^ 16) (tested % 2 ^ 16) ld (mod-lt ports (pow_pos 16)) (mod-lt tested (pow_pos 16)))
    ∙ subst (λ t. agrees (pair_lane sport dport) (ports / 2 ^ 16 * 2 ^ 16 + ports % 2 ^ 16) t) (sym (div-add-mod' tested (2 ^ 16)))
    (subst (λ p. agrees (pair_lane sport dport) p tested) (sym (div-add-mod' ports (2 ^ 16))) e))

-- and a lane of two words
pub words_agree : (a b c d e f : ℕ) → b < 2 ^ 16 → d < 2 ^ 16 → f < 2 ^ 16 → agrees a c e → agrees b d f → agrees (pair_lane a b) (pair_lane c d) (pair_lane e f)
words_agree a b c d e f lb ld lf x y = parts_differ 16 a b c d e f lb ld lf ∙ sum_zero _ _ x y
  where
    sum_zero : (m n : ℕ) → m ≡ 0 → n ≡ 0 → m * 2 ^ 16 + n ≡ 0
    sum_zero m n z w = omega arith

-- a port that agrees with a value in all bits is it
pub same_port : (port value : ℕ) → port < 2 ^ 16 → value < 2 ^ 16 → agrees port value 65535 → port ≡ value
same_port port value lp lv e =
    let whole : bit_xor port value ≡ 0 = sym (mod-eq_of_lt (xor_lt 16 port value lp lv)) ∙ sym (and_mask (bit_xor port value) 16) ∙ e in
    omega (arith, xor_add_and port value, and_le_l port value, and_le_r port value)

pub known_word : (table : List ℕ) (port value : ℕ) → port < 2 ^ 16 → value < 2 ^ 16 → agrees port value 65535 → agrees (slice_index table port) (slice_index table value) 65535
known_word table port value lp lv e =
    subst (λ v. agrees (slice_index table port) (slice_index table v) 65535) (same_port port value lp lv e) (ap (λ n. bit_and n 65535) (xor_self (slice_index table port)))

pub nothing_known : (word value : ℕ) → agrees word value 0
nothing_known word value = and_zero_r (bit_xor word value)
