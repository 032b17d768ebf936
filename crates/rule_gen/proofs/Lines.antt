-- The commands are changes of an access list over IPv4.
use Rattle.std.proofs.Common.{◌≡◌, ℕ, zero, suc, ◌+◌, ◌-◌, ◌*◌, ◌/◌, ◌%◌, ◌^◌, ◌<◌, ◌≤◌, Bool, true, false, Some, None, IfSome, Result, Ok, Err, List, [], ◌∷◌, ◌++◌, map, flat_map, if◌then◌else◌, ◌==◌, All, refl, sym, ◌∙◌, subst, ap, arith}
use Rattle.std.specs.List.{range_with_len}
use Rattle.std.specs.Result.{IsOk}
use Rattle.std.proofs.Math.Nat.{mul-mod_left, mul_assoc, div-mul-le_self}
use Rattle.std.proofs.lemmas.Nat.{pow-add}
use Rattle.std.proofs.lemmas.List.Elements.{All-nil, All-cons, All-append}
use Rattle.rule_model.specs.declared.PrefixFault.{PrefixFault}
use Rattle.rule_model.specs.declared.PrefixFault.TheVariants.{Length, HostBits}
use Rattle.rule_model.specs.AddressBlock.{AddressBlock, IsAddressBlock, IsIpv4Block, any_address, ipv4_block}
use Rattle.rule_model.specs.PortRange.{IsPortRange, any_port}
use Rattle.rule_model.specs.Rank.{list_rank}
use Rattle.rule_store.specs.declared.Command.TheVariants.{Add, Del}
use Rattle.rule_gen.specs.declared.Made.{Made}
use Rattle.rule_gen.specs.declared.Made.TheVariants.{Change, Commit}
use Rattle.rule_gen.specs.Line.{IsListRank, IsListRule, IsListCommand}
use Rattle.rule_gen.specs.Made.{draw, network, made_address, rule_from, made_sequence, made_rule, made_removals, made_additions, made_batch, made_commands}

-- a prefix that has neither fault
pub no_fault : (r : Result AddressBlock PrefixFault) → (r ≡ Err Length → ⊥) → (r ≡ Err HostBits → ⊥) → IsOk r
no_fault (Ok block) right clear = refl
no_fault (Err Length) right clear = absurd (right refl)
no_fault (Err HostBits) right clear = absurd (clear refl)

-- right blocks of IPv4
record IsRightBlock (block : AddressBlock) : Type 0 where
  right : IsAddressBlock block
  ipv4 : IsIpv4Block block

network-right : (address len : ℕ) → address < 2 ^ 32 → len ≤ 32 → IsRightBlock (network address len)
network-right address len fits short =
    let q = address / 2 ^ (32 - len) in
    let s = 2 ^ (32 - len) in
    let low = div-mul-le_self address s in
    let long : 128 - len ≡ 32 - len + 96 = omega arith in
    let power : 2 ^ (128 - len) ≡ s * 2 ^ 96 = ap (λ z. 2 ^ z) long ∙ pow-add 2 (32 - len) 96 in
    let clear : q * (s * 2 ^ 96) % (s * 2 ^ 96) ≡ 0 = mul-mod_left q (s * 2 ^ 96) in
    let moved : q * s * 2 ^ 96 ≡ q * (s * 2 ^ 96) = mul_assoc q s (2 ^ 96) in
    record {
      right = record {
        fits = omega arith;
        length = omega arith;
        no_host_bits = subst (λ z. z % 2 ^ (128 - len) ≡ 0) (sym moved) (subst (λ z. q * (s * 2 ^ 96) % z ≡ 0) (sym power) clear);
      };
      ipv4 = record { length = short; upper = mul-mod_left (q * s) (2 ^ 96) };
    }

any-right : IsRightBlock any_address
any-right = record {
  right = record { fits = omega arith; length = omega arith; no_host_bits = refl };
  ipv4 = record { length = omega arith; upper = refl };
}

source-right : (any first : Bool)
    → IsRightBlock (if any then any_address else if first then ipv4_block (10 * 2 ^ 24) 8 else ipv4_block (11 * 2 ^ 24) 8)
source-right true first = any-right
source-right false true = network-right (10 * 2 ^ 24) 8 (omega arith) (omega arith)
source-right false false = network-right (11 * 2 ^ 24) 8 (omega arith) (omega arith)

proto-right : (any tcp : Bool) → IfSome (if any then None else if tcp then Some 6 else Some 17) (λ number. number < 2 ^ 8)
proto-right true tcp = tt
proto-right false true = omega arith
proto-right false false = omega arith

range_right : (lo hi : ℕ) → lo ≤ hi → hi < 2 ^ 16 → IsPortRange (record { lo = lo; hi = hi })
range_right lo hi ordered fits = record { ordered = ordered; fits = fits }

ports-right : (any low high web : Bool)
    → IsPortRange (if any then any_port
    else if low then record { lo = 0; hi = 1023 }
    else if high then record { lo = 1024; hi = 65535 }
    else if web then record { lo = 80; hi = 443 }
    else record { lo = 5060; hi = 5061 })
ports-right true low high web = range_right 0 65535 (omega arith) (omega arith)
ports-right false true high web = range_right 0 1023 (omega arith) (omega arith)
ports-right false false true web = range_right 1024 65535 (omega arith) (omega arith)
ports-right false false false true = range_right 80 443 (omega arith) (omega arith)
ports-right false false false false = range_right 5060 5061 (omega arith) (omega arith)

-- each rule is a line
pub rule_from-line : (seed n sequence : ℕ) → 0 < sequence → sequence < 2 ^ 32 → IsListRule (rule_from seed n sequence)
rule_from-line seed n sequence some fits =
    let source = source-right (draw seed (n + 3) % 3 == 0) (draw seed (n + 3) % 3 == 1) in
    let to = network-right (made_address (draw seed (n + 2))) (8 * (1 + draw seed (n + 1) % 4)) (omega arith) (omega arith) in
    record {
      rank = (sequence, some, fits, refl);
      conditions = record {
        src_right = source.right;
        dst_right = to.right;
        proto_right = proto-right (draw seed (n + 4) % 3 == 0) (draw seed (n + 4) % 3 == 1);
        sport_right = range_right 0 65535 (omega arith) (omega arith);
        dport_right = ports-right (draw seed (n + 5) % 5 == 0) (draw seed (n + 5) % 5 == 1) (draw seed (n + 5) % 5 == 2) (draw seed (n + 5) % 5 == 3);
      };
      src_ipv4 = source.ipv4;
      dst_ipv4 = to.ipv4;
      answer = omega arith;
    }

-- what holds at each number of a range
all_in_range : (P : Made → Type 0) (f : ℕ → Made) (a n : ℕ) → ((i : ℕ) → a ≤ i → i < a + n → P (f i)) → All P (map f (range_with_len a n))
all_in_range P f a zero each = All-nil P
all_in_range P f a (suc n) each =
    All-cons P (f a) (map f (range_with_len (a + 1) n)) (each a (omega arith) (omega arith))
    (all_in_range P f (a + 1) n (λ i from to. each i (omega arith) (omega arith)))

all_in_batches : (P : Made → Type 0) (f : ℕ → List Made) (a n : ℕ) → ((i : ℕ) → All P (f i)) → All P (flat_map f (range_with_len a n))
all_in_batches P f a zero each = All-nil P
all_in_batches P f a (suc n) each =
    All-append P (f a) (flat_map f (range_with_len (a + 1) n)) (each a) (all_in_batches P f (a + 1) n each)

sequence-rank : (batch index : ℕ) → 0 < index → index ≤ 256 → IsListRank (list_rank (made_sequence batch index))
sequence-rank batch index some most = (made_sequence batch index, omega arith, omega arith, refl)

removals-lines : (first : Bool) (rules batch : ℕ) → rules ≤ 256
    → All IsListCommand (if first then [] else map (λ i. Change (Del (list_rank (made_sequence batch i)))) (range_with_len 1 rules))
removals-lines true rules batch most = All-nil IsListCommand
removals-lines false rules batch most =
    all_in_range IsListCommand (λ i. Change (Del (list_rank (made_sequence batch i)))) 1 rules
    (λ i from to. sequence-rank batch i (omega arith) (omega arith))

batch-lines : (seed rules batch : ℕ) → rules ≤ 256 → All IsListCommand (made_batch seed rules batch)
batch-lines seed rules batch most =
    All-append IsListCommand (made_removals rules batch ++ made_additions seed rules batch) (Commit ∷ [])
    (All-append IsListCommand (made_removals rules batch) (made_additions seed rules batch) (removals-lines (batch == 1) rules (batch - 1) most)
    (all_in_range IsListCommand (λ i. Change (Add (made_rule seed rules batch i))) 1 rules
    (λ i from to. rule_from-line seed _ (made_sequence batch i) (omega arith) (omega arith))))
    (All-cons IsListCommand Commit [] tt (All-nil IsListCommand))

-- each command is a line's
pub made_commands-lines : (seed rules batches : ℕ) → rules ≤ 256 → All IsListCommand (made_commands seed rules batches)
made_commands-lines seed rules batches most = all_in_batches IsListCommand (made_batch seed rules) 1 batches (λ batch. batch-lines seed rules batch most)
