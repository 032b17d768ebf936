-- A line that is read has numbers within their limits.
use Rattle.std.proofs.Common.{◌≡◌, ℕ, zero, suc, ◌-◌, ◌/◌, ◌%◌, ◌^◌, ◌<◌, ◌≤◌, Bool, true, false, List, [], ◌∷◌, Option, Some, None, IfSome, ◌⊎◌, inl, inr, refl, sym, subst, arith, leb-true, eqb-true, cond}
use Rattle.std.specs.Prelude.{nat_le, ◌==◌, slice_index, is_some, option_map}
use Rattle.std.specs.List.{AllByRecursion}
use Rattle.serde_json.specs.Data.{Data}
use Rattle.serde_json.specs.Find.{as_null}
use Rattle.rule_model.specs.declared.Rule.{Rule}
use Rattle.rule_model.specs.AddressBlock.{AddressBlock, IsAddressBlock, IsIpv4Block, ipv4_block}
use Rattle.rule_model.specs.PortRange.{PortRange, IsPortRange}
use Rattle.rule_model.specs.Rank.{rank_of}
use Rattle.rule_model.proofs.Ranks.{high_of-rank_of, low_of-rank_of}
use Rattle.rule_model.proofs.Prefixes.{upper_host_bits}
use Rattle.rule_model.specs.declared.words.Word.{Word}
use Rattle.rule_model.specs.declared.words.Entry.{Entry}
use Rattle.trace_file.specs.Values.{◌>>=◌, most, within, whole, number_to, rank_in, block_from, block_in, proto_in, ports_from, ports_in, rule_in, ipv4_word, word_in, entry_in}
use Rattle.trace_file.specs.Forms.{IsIpv4Rank, IsIpv4Word, IsIpv4Rule, IsIpv4Entry}

-- where two steps gave a value, the first gave one that the second took
pub first_step : {A B : Type 0} (x : Option A) (f : A → Option B) (y : B) → (x >>= f) ≡ Some y → (a : A) × (x ≡ Some a) × (f a ≡ Some y)
first_step None f y same = absurd (cc)
first_step (Some a) f y same = (a, refl, same)

pub mapped : {A B : Type 0} (x : Option A) (f : A → B) (y : B) → option_map f x ≡ Some y → (a : A) × (x ≡ Some a) × (f a ≡ y)
mapped None f y same = absurd (cc)
mapped (Some a) f y same = (a, refl, cc)

-- what a test lets pass
pub passed : {A : Type 0} (test : Bool) (a y : A) → cond test (Some a) None ≡ Some y → (test ≡ true) × (a ≡ y)
passed true a y same = (refl, cc)
passed false a y same = absurd (cc)

-- the one or the other, where a choice of two gave a line
pub either : {A : Type 0} (test : Bool) (x y : Option A) (a : A) → cond test x y ≡ Some a → (x ≡ Some a) ⊎ (y ≡ Some a)
either true x y a same = inl same
either false x y a same = inr same

within-is : (bound n m : ℕ) → within bound n ≡ Some m → m ≤ bound
within-is bound n m same = let p = passed (nat_le n bound) n m same in let le : n ≤ bound = leb-true n bound p.0 in let e = p.1 in omega arith

pub number-is : (bound : ℕ) (value : Data) (n : ℕ) → number_to bound value ≡ Some n → n ≤ bound
number-is bound value n same = let w = first_step (whole value) (within bound) n same in within-is bound w.0 n w.2

pub bits-is : (bits : ℕ) (value : Data) (n : ℕ) → 0 < 2 ^ bits → number_to (most bits) value ≡ Some n → n < 2 ^ bits
bits-is bits value n some same = let k = number-is (most bits) value n same in omega arith

pub rank-is : (value : Data) (rank : ℕ) → rank_in value ≡ Some rank → IsIpv4Rank rank
rank-is value rank same =
    let w = first_step (number_to (most 40) value) (λ p. Some (rank_of (p / 2 ^ 32) (p % 2 ^ 32))) rank same in
    let small : w.0 < 2 ^ 40 = bits-is 40 value w.0 (omega arith) w.1 in
    let low : w.0 % 2 ^ 32 < 2 ^ 32 = omega arith in
    let high : w.0 / 2 ^ 32 < 2 ^ 8 = omega arith in
    let wide : w.0 % 2 ^ 32 < 2 ^ 128 = omega arith in
    let is : rank_of (w.0 / 2 ^ 32) (w.0 % 2 ^ 32) ≡ rank = (let e = w.2 in cc) in
    subst IsIpv4Rank is (record {
      high = subst (λ n. n < 2 ^ 8) (sym (high_of-rank_of (w.0 / 2 ^ 32) (w.0 % 2 ^ 32) wide)) high;
      low = subst (λ n. n < 2 ^ 32) (sym (low_of-rank_of (w.0 / 2 ^ 32) (w.0 % 2 ^ 32) wide)) low;
    })

-- an IPv4 block
record IsBlock (block : AddressBlock) : Type 0 where
  right : IsAddressBlock block
  ipv4 : IsIpv4Block block

block-is : (address len : Data) (block : AddressBlock) → block_in address len ≡ Some block → IsBlock block
block-is address len block same =
    let w = first_step (number_to (most 32) address) (λ n. number_to 32 len >>= λ bits. block_from n bits) block same in
    let v = first_step (number_to 32 len) (λ bits. block_from w.0 bits) block w.2 in
    let p = passed (w.0 % 2 ^ (32 - v.0) == 0) (ipv4_block w.0 v.0) block v.2 in
    let small : w.0 < 2 ^ 32 = bits-is 32 address w.0 (omega arith) w.1 in
    let short : v.0 ≤ 32 = number-is 32 len v.0 v.1 in
    let clear : w.0 % 2 ^ (32 - v.0) ≡ 0 = eqb-true _ _ p.0 in
    subst IsBlock p.1 (record {
      right = record { fits = omega arith; length = omega arith; no_host_bits = upper_host_bits w.0 v.0 short clear };
      ipv4 = record { length = short; upper = omega arith };
    })

pub proto-is : (value : Data) (proto : Option ℕ) → proto_in value ≡ Some proto → IfSome proto (λ n. n < 2 ^ 8)
proto-is value proto same = elim (either (is_some (as_null value)) _ _ proto same) [
  | inl none ↦ subst (λ p. IfSome p (λ n. n < 2 ^ 8)) (let e : None ≡ proto = cc in e) tt
  | inr some ↦
      let w = mapped (number_to (most 8) value) Some proto some in
      let small : w.0 < 2 ^ 8 = bits-is 8 value w.0 (omega arith) w.1 in
      subst (λ p. IfSome p (λ n. n < 2 ^ 8)) w.2 small
]

pub ports-is : (lo hi : Data) (range : PortRange) → ports_in lo hi ≡ Some range → IsPortRange range
ports-is lo hi range same =
    let w = first_step (number_to (most 16) lo) (λ first. number_to (most 16) hi >>= λ last. ports_from first last) range same in
    let v = first_step (number_to (most 16) hi) (λ last. ports_from w.0 last) range w.2 in
    let p = passed (nat_le w.0 v.0) (record { lo = w.0; hi = v.0 }) range v.2 in
    let small : v.0 < 2 ^ 16 = bits-is 16 hi v.0 (omega arith) v.1 in
    subst IsPortRange p.1 (record { ordered = leb-true w.0 v.0 p.0; fits = small })

-- a rule
pub rule_of-is : (p sa sl da dl pr a b c d r : Data) (rule : Rule) → rule_in (p ∷ sa ∷ sl ∷ da ∷ dl ∷ pr ∷ a ∷ b ∷ c ∷ d ∷ r ∷ []) ≡ Some rule → IsIpv4Rule rule
rule_of-is p sa sl da dl pr a b c d r rule same =
    let w1 = first_step (rank_in p) _ rule same in
    let w2 = first_step (block_in sa sl) _ rule w1.2 in
    let w3 = first_step (block_in da dl) _ rule w2.2 in
    let w4 = first_step (proto_in pr) _ rule w3.2 in
    let w5 = first_step (ports_in a b) _ rule w4.2 in
    let w6 = first_step (ports_in c d) _ rule w5.2 in
    let w7 = first_step (number_to (most 32) r) _ rule w6.2 in
    let src = block-is sa sl w2.0 w2.1 in
    let dst = block-is da dl w3.0 w3.1 in
    let made : Rule = record { priority = w1.0; src = w2.0; dst = w3.0; proto = w4.0; sport = w5.0; dport = w6.0; result = w7.0 } in
    let is : made ≡ rule = (let e : Some made ≡ Some rule = w7.2 in cc) in
    subst IsIpv4Rule is (record {
      priority = rank-is p w1.0 w1.1;
      right = record {
        src_right = src.right;
        dst_right = dst.right;
        proto_right = proto-is pr w4.0 w4.1;
        sport_right = ports-is a b w5.0 w5.1;
        dport_right = ports-is c d w6.0 w6.1;
      };
      src = src.ipv4;
      dst = dst.ipv4;
      result = bits-is 32 r w7.0 (omega arith) w7.1;
    })

-- each element of a list, and what stands past its end
pub All-from : (P : ℕ → Type 0) → P 0 → (xs : List ℕ) → AllByRecursion P xs → (k : ℕ) → P (slice_index xs k)
All-from P none [] all k = none
All-from P none (x ∷ xs) all zero = all.0
All-from P none (x ∷ xs) all (suc k) = All-from P none xs all.1 k

-- a word
lane_fits : (a b c d e : ℕ) → a < 2 ^ 32 → b < 2 ^ 32 → c < 2 ^ 32 → d < 2 ^ 32 → e < 2 ^ 32 → (lane : ℕ) → slice_index (ipv4_word a b c d e).lane lane < 2 ^ 32
lane_fits a b c d e fa fb fc fd fe lane = All-from (λ n. n < 2 ^ 32) (omega arith) (ipv4_word a b c d e).lane
    (fa, (omega arith, (omega arith, (omega arith, (fb, (omega arith, (omega arith, (omega arith, (fc, (fd, (fe, tt))))))))))) lane

word-is : (a b c d e : Data) (word : Word) → word_in a b c d e ≡ Some word → IsIpv4Word word
word-is a b c d e word same =
    let w1 = first_step (number_to (most 32) a) _ word same in
    let w2 = first_step (number_to (most 32) b) _ word w1.2 in
    let w3 = first_step (number_to (most 32) c) _ word w2.2 in
    let w4 = first_step (number_to (most 32) d) _ word w3.2 in
    let w5 = first_step (number_to (most 32) e) _ word w4.2 in
    let is : ipv4_word w1.0 w2.0 w3.0 w4.0 w5.0 ≡ word = (let e : Some (ipv4_word w1.0 w2.0 w3.0 w4.0 w5.0) ≡ Some word = w5.2 in cc) in
    subst IsIpv4Word is (record {
      lanes = refl;
      fits = lane_fits w1.0 w2.0 w3.0 w4.0 w5.0 (bits-is 32 a w1.0 (omega arith) w1.1) (bits-is 32 b w2.0 (omega arith) w2.1)
          (bits-is 32 c w3.0 (omega arith) w3.1) (bits-is 32 d w4.0 (omega arith) w4.1) (bits-is 32 e w5.0 (omega arith) w5.1);
    })

-- an entry
pub entry_of-is : (a b c d e f g h i j t r : Data) (entry : Entry) → entry_in (a ∷ b ∷ c ∷ d ∷ e ∷ f ∷ g ∷ h ∷ i ∷ j ∷ t ∷ r ∷ []) ≡ Some entry → IsIpv4Entry entry
entry_of-is a b c d e f g h i j t r entry same =
    let w1 = first_step (word_in a b c d e) _ entry same in
    let w2 = first_step (word_in f g h i j) _ entry w1.2 in
    let w3 = first_step (rank_in t) _ entry w2.2 in
    let w4 = first_step (number_to (most 32) r) _ entry w3.2 in
    let made : Entry = record { value = w1.0; mask = w2.0; tag = w3.0; result = w4.0 } in
    let is : made ≡ entry = (let e : Some made ≡ Some entry = w4.2 in cc) in
    subst IsIpv4Entry is (record {
      value = word-is a b c d e w1.0 w1.1;
      mask = word-is f g h i j w2.0 w2.1;
      tag = rank-is t w3.0 w3.1;
      result = bits-is 32 r w4.0 (omega arith) w4.1;
    })
