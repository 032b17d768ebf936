-- A line of a trace of IPv6 that is read has numbers within their limits.
use Rattle.std.proofs.Common.{◌≡◌, ℕ, Bool, true, false, cond, ◌+◌, ◌-◌, ◌%◌, ◌^◌, ◌<◌, ◌≤◌, List, [], ◌∷◌, Option, Some, None, IfSome, refl, sym, subst, arith, eqb-true}
use Rattle.std.specs.Prelude.{◌==◌, length, slice_get}
use Rattle.serde_json.specs.Data.{Data}
use Rattle.rule_model.specs.declared.Rule.{Rule}
use Rattle.rule_model.specs.AddressBlock.{AddressBlock, IsAddressBlock}
use Rattle.rule_model.specs.PortRange.{PortRange, IsPortRange}
use Rattle.rule_model.specs.Rank.{rank_of}
use Rattle.rule_model.proofs.Ranks.{high_of-rank_of}
use Rattle.rule_model.specs.declared.words.Word.{Word}
use Rattle.rule_model.specs.declared.words.Entry.{Entry}
use Rattle.trace_file.specs.Values.{◌>>=◌, most, number_to, proto_in, ports_in}
use Rattle.trace_file.specs.Ipv6Values.{number_at, part_at, of_parts, wide_number_at, rank_at, block_at, proto_at, ports_at, rule_at, ipv6_word, word_at, entry_at, only_of}
use Rattle.trace_file.specs.Forms.{IsIpv6Rank, IsIpv6Word, IsIpv6Rule, IsIpv6Entry}
use Rattle.trace_file.proofs.Limits.{first_step, passed, number-is, bits-is, proto-is, ports-is, All-from}

-- two that are found are the same
same-found : {A : Type 0} (a b : A) → Some a ≡ Some b → a ≡ b
same-found a b same = cc

-- what so many values are they are
pub only-is : {A : Type 0} (count : ℕ) (values : List Data) (found : Option A) (a : A) → only_of count values found ≡ Some a → (length values ≡ count) × (found ≡ Some a)
only-is count values found a same = of_test (length values == count) refl same
  where
    of_test : (test : Bool) → (length values == count) ≡ test → cond test found None ≡ Some a → (length values ≡ count) × (found ≡ Some a)
    of_test true is same = (eqb-true (length values) count is, same)
    of_test false is same = absurd (cc)

part-is : (values : List Data) (at n : ℕ) → part_at values at ≡ Some n → n < 2 ^ 32
part-is values at n same = let w = first_step (slice_get values at) (number_to (most 32)) n same in bits-is 32 w.0 n (omega arith) w.2

byte-is : (values : List Data) (at n : ℕ) → number_at (most 8) values at ≡ Some n → n < 2 ^ 8
byte-is values at n same = let w = first_step (slice_get values at) (number_to (most 8)) n same in bits-is 8 w.0 n (omega arith) w.2

wide-is : (values : List Data) (at n : ℕ) → wide_number_at values at ≡ Some n → n < 2 ^ 128
wide-is values at n same =
    let w1 = first_step (part_at values at) _ n same in
    let w2 = first_step (part_at values (at + 1)) _ n w1.2 in
    let w3 = first_step (part_at values (at + 2)) _ n w2.2 in
    let w4 = first_step (part_at values (at + 3)) _ n w3.2 in
    let is : of_parts w1.0 w2.0 w3.0 w4.0 ≡ n = (let e : Some (of_parts w1.0 w2.0 w3.0 w4.0) ≡ Some n = w4.2 in cc) in
    let a = part-is values at w1.0 w1.1 in
    let b = part-is values (at + 1) w2.0 w2.1 in
    let c = part-is values (at + 2) w3.0 w3.1 in
    let d = part-is values (at + 3) w4.0 w4.1 in
    omega arith

pub rank6-is : (values : List Data) (at rank : ℕ) → rank_at values at ≡ Some rank → IsIpv6Rank rank
rank6-is values at rank same =
    let w = first_step (number_at (most 8) values at) _ rank same in
    let v = first_step (wide_number_at values (at + 1)) _ rank w.2 in
    let is : rank_of w.0 v.0 ≡ rank = (let e : Some (rank_of w.0 v.0) ≡ Some rank = v.2 in cc) in
    let small = byte-is values at w.0 w.1 in
    let wide = wide-is values (at + 1) v.0 v.1 in
    subst IsIpv6Rank is (record { high = subst (λ n. n < 2 ^ 8) (sym (high_of-rank_of w.0 v.0 wide)) small })

block6-is : (values : List Data) (at : ℕ) (block : AddressBlock) → block_at values at ≡ Some block → IsAddressBlock block
block6-is values at block same =
    let w = first_step (wide_number_at values at) _ block same in
    let v = first_step (number_at 128 values (at + 4)) _ block w.2 in
    let one = first_step (slice_get values (at + 4)) (number_to 128) v.0 v.1 in
    let made : AddressBlock = record { addr = w.0; len = v.0 } in
    let p = passed (w.0 % 2 ^ (128 - v.0) == 0) made block v.2 in
    let wide = wide-is values at w.0 w.1 in
    let short : v.0 ≤ 128 = number-is 128 one.0 v.0 one.2 in
    let clear : w.0 % 2 ^ (128 - v.0) ≡ 0 = eqb-true _ _ p.0 in
    subst IsAddressBlock p.1 (record { fits = wide; length = short; no_host_bits = clear })

proto6-is : (values : List Data) (at : ℕ) (proto : Option ℕ) → proto_at values at ≡ Some proto → IfSome proto (λ n. n < 2 ^ 8)
proto6-is values at proto same = let w = first_step (slice_get values at) proto_in proto same in proto-is w.0 proto w.2

ports6-is : (values : List Data) (at : ℕ) (range : PortRange) → ports_at values at ≡ Some range → IsPortRange range
ports6-is values at range same =
    let w = first_step (slice_get values at) _ range same in
    let v = first_step (slice_get values (at + 1)) (λ hi. ports_in w.0 hi) range w.2 in
    ports-is w.0 v.0 range v.2

-- a rule
pub rule6-is : (values : List Data) (rule : Rule) → rule_at values ≡ Some rule → IsIpv6Rule rule
rule6-is values rule same =
    let w1 = first_step (rank_at values 0) _ rule same in
    let w2 = first_step (block_at values 5) _ rule w1.2 in
    let w3 = first_step (block_at values 10) _ rule w2.2 in
    let w4 = first_step (proto_at values 15) _ rule w3.2 in
    let w5 = first_step (ports_at values 16) _ rule w4.2 in
    let w6 = first_step (ports_at values 18) _ rule w5.2 in
    let w7 = first_step (part_at values 20) _ rule w6.2 in
    let made : Rule = record { priority = w1.0; src = w2.0; dst = w3.0; proto = w4.0; sport = w5.0; dport = w6.0; result = w7.0 } in
    let is : made ≡ rule = (let e : Some made ≡ Some rule = w7.2 in cc) in
    subst IsIpv6Rule is (record {
      priority = rank6-is values 0 w1.0 w1.1;
      right = record {
        src_right = block6-is values 5 w2.0 w2.1;
        dst_right = block6-is values 10 w3.0 w3.1;
        proto_right = proto6-is values 15 w4.0 w4.1;
        sport_right = ports6-is values 16 w5.0 w5.1;
        dport_right = ports6-is values 18 w6.0 w6.1;
      };
      result = part-is values 20 w7.0 w7.1;
    })

zero-small : 0 < 2 ^ 32
zero-small = omega arith

-- a word
word6-is : (values : List Data) (at : ℕ) (word : Word) → word_at values at ≡ Some word → IsIpv6Word word
word6-is values at word same =
    let w0 = first_step (part_at values at) _ word same in
    let w1 = first_step (part_at values (at + 1)) _ word w0.2 in
    let w2 = first_step (part_at values (at + 2)) _ word w1.2 in
    let w3 = first_step (part_at values (at + 3)) _ word w2.2 in
    let w4 = first_step (part_at values (at + 4)) _ word w3.2 in
    let w5 = first_step (part_at values (at + 5)) _ word w4.2 in
    let w6 = first_step (part_at values (at + 6)) _ word w5.2 in
    let w7 = first_step (part_at values (at + 7)) _ word w6.2 in
    let w8 = first_step (part_at values (at + 8)) _ word w7.2 in
    let w9 = first_step (part_at values (at + 9)) _ word w8.2 in
    let w10 = first_step (part_at values (at + 10)) _ word w9.2 in
    let made : Word = ipv6_word (w0.0 ∷ w1.0 ∷ w2.0 ∷ w3.0 ∷ w4.0 ∷ w5.0 ∷ w6.0 ∷ w7.0 ∷ w8.0 ∷ w9.0 ∷ w10.0 ∷ []) in
    let is : made ≡ word = same-found made word w10.2 in
    let l0 = part-is values at w0.0 w0.1 in
    let l1 = part-is values (at + 1) w1.0 w1.1 in
    let l2 = part-is values (at + 2) w2.0 w2.1 in
    let l3 = part-is values (at + 3) w3.0 w3.1 in
    let l4 = part-is values (at + 4) w4.0 w4.1 in
    subst IsIpv6Word is (record {
      lanes = refl;
      fits = All-from (λ n. n < 2 ^ 32) zero-small made.lane (
        l0,
        (
          l1,
          (
            l2,
            (
              l3,
              (
                l4,
                (
                  part-is values (at + 5) w5.0 w5.1,
                  (
                    part-is values (at + 6) w6.0 w6.1,
                    (
                      part-is values (at + 7) w7.0 w7.1,
                      (part-is values (at + 8) w8.0 w8.1, (part-is values (at + 9) w9.0 w9.1, (part-is values (at + 10) w10.0 w10.1, tt))),
                    ),
                  ),
                ),
              ),
            ),
          ),
        ),
      );
    })

-- an entry
pub entry6-is : (values : List Data) (entry : Entry) → entry_at values ≡ Some entry → IsIpv6Entry entry
entry6-is values entry same =
    let w1 = first_step (word_at values 0) _ entry same in
    let w2 = first_step (word_at values 11) _ entry w1.2 in
    let w3 = first_step (rank_at values 22) _ entry w2.2 in
    let w4 = first_step (part_at values 27) _ entry w3.2 in
    let made : Entry = record { value = w1.0; mask = w2.0; tag = w3.0; result = w4.0 } in
    let is : made ≡ entry = (let e : Some made ≡ Some entry = w4.2 in cc) in
    subst IsIpv6Entry is (record {
      value = word6-is values 0 w1.0 w1.1;
      mask = word6-is values 11 w2.0 w2.1;
      tag = rank6-is values 22 w3.0 w3.1;
      result = part-is values 27 w4.0 w4.1;
    })

-- the result behind a rank
pub change6-is : (values : List Data) (found : ℕ × ℕ) → (rank_at values 0 >>= λ rank. part_at values 5 >>= λ answer. Some (rank, answer)) ≡ Some found → IsIpv6Rank found.0 × (found.1 < 2 ^ 32)
change6-is values found same =
    let w = first_step (rank_at values 0) _ found same in
    let v = first_step (part_at values 5) _ found w.2 in
    subst (λ (pair : ℕ × ℕ). IsIpv6Rank pair.0 × (pair.1 < 2 ^ 32)) (let e : Some (w.0, v.0) ≡ Some found = v.2 in let k : (w.0, v.0) ≡ found = cc in k)
    (rank6-is values 0 w.0 w.1, part-is values 5 v.0 v.1)
