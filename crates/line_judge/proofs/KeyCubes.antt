-- Which words the cubes of a rule and of a port hold.
use Rattle.std.proofs.Common.{◌≡◌, ℕ, zero, suc, ◌^◌, ◌<◌, true, IsTrue, List, [], ◌∷◌, replicate, bit_and, bit_xor, refl, sym, subst, ap, ap₂, arith, eq-eqb}
use Rattle.std.specs.Prelude.{◌&&◌, nat_le}
use Rattle.std.specs.Int.Bits.{and_zero_r, xor_self}
use Rattle.std.proofs.lemmas.Bool.{and_parts, and_from, le-leb}
use Rattle.rule_model.specs.declared.Key.{Key}
use Rattle.rule_model.specs.declared.Rule.{Rule}
use Rattle.rule_model.specs.AddressBlock.{block_holds}
use Rattle.rule_model.specs.Key.{IsKey}
use Rattle.rule_model.specs.PortRange.{any_port, range_holds}
use Rattle.rule_model.specs.Rule.{proto_holds, rule_matches}
use Rattle.rule_model.specs.Piece.{piece_of}
use Rattle.rule_model.specs.Word.{pair_lane}
use Rattle.rule_model.specs.Entry.{IsEncodable, lanes_match, piece_hits}
use Rattle.word_cubes.proofs.Bits.{agrees}
use Rattle.leak_search.proofs.Ports.{nothing_known, words_agree}

-- a piece of all ports has its entry
pub any_encodable : (rule : Rule) → IsEncodable (piece_of rule any_port any_port)
any_encodable rule = record { sport = refl; dport = refl; srcbit = tt; dstbit = tt }

any_holds : (port : ℕ) → port < 2 ^ 16 → range_holds any_port port ≡ true
any_holds port below = and_from (nat_le 0 port) (nat_le port 65535) (le-leb 0 port (omega arith)) (le-leb port 65535 (omega arith))

-- which hits where the rule matches
pub any_hits : (rule : Rule) (key : Key) (src dst : ℕ) → IsKey key → IsTrue (rule_matches rule key) → piece_hits (piece_of rule any_port any_port) key src dst ≡ true
any_hits rule key src dst valid matches =
    let a = and_parts (block_holds rule.src key.src && block_holds rule.dst key.dst && proto_holds rule.proto key.proto && range_holds rule.sport key.sport) (range_holds rule.dport key.dport) matches in
    let b = and_parts (block_holds rule.src key.src && block_holds rule.dst key.dst && proto_holds rule.proto key.proto) (range_holds rule.sport key.sport) a.0 in
    and_from (block_holds rule.src key.src && block_holds rule.dst key.dst && proto_holds rule.proto key.proto && range_holds any_port key.sport) (range_holds any_port key.dport)
    (and_from (block_holds rule.src key.src && block_holds rule.dst key.dst && proto_holds rule.proto key.proto) (range_holds any_port key.sport) b.0 (any_holds key.sport valid.sport))
    (any_holds key.dport valid.dport)

-- where nothing is tested each word is held
pub all_match : (n : ℕ) (words : List ℕ) → lanes_match words (replicate n 0) (replicate n 0) ≡ true
all_match n [] = refl
all_match zero (word ∷ words) = refl
all_match (suc n) (word ∷ words) = ap₂ (λ a b. a && b) (eq-eqb _ 0 (and_zero_r (bit_xor word 0))) (all_match n words)

same_agrees : (port value : ℕ) → port ≡ value → agrees port value 65535
same_agrees port value same = subst (λ v. agrees port v 65535) same (ap (λ n. bit_and n 65535) (xor_self port))

-- a lane of ports with one of them
pub src_lane : (sport dport port value mask : ℕ) → dport < 2 ^ 16 → sport ≡ port → value ≡ pair_lane port 0 → mask ≡ pair_lane 65535 0 → agrees (pair_lane sport dport) value mask
src_lane sport dport port value mask below same is_value is_mask =
    subst (λ v. agrees (pair_lane sport dport) v mask) (sym is_value) (subst (λ m. agrees (pair_lane sport dport) (pair_lane port 0) m) (sym is_mask)
    (words_agree sport dport port 0 65535 0 below (omega arith) (omega arith) (same_agrees sport port same) (nothing_known dport 0)))

pub dst_lane : (sport dport port value mask : ℕ) → dport < 2 ^ 16 → port < 2 ^ 16 → dport ≡ port → value ≡ pair_lane 0 port → mask ≡ pair_lane 0 65535 → agrees (pair_lane sport dport) value mask
dst_lane sport dport port value mask below small same is_value is_mask =
    subst (λ v. agrees (pair_lane sport dport) v mask) (sym is_value) (subst (λ m. agrees (pair_lane sport dport) (pair_lane 0 port) m) (sym is_mask)
    (words_agree sport dport 0 port 0 65535 below small (omega arith) (nothing_known sport 0) (same_agrees dport port same)))
