-- Routes that overlap are nested, so that a chain of them has at most one of each length.
use Rattle.std.proofs.Common.{◌≡◌, ℕ, ◌+◌, ◌-◌, ◌*◌, ◌/◌, ◌%◌, ◌^◌, ◌<◌, ◌≤◌, List, [], ◌∷◌, length, Contains, inl, inr, arith, sym, ◌∙◌, ap, ap₂, eqb-true}
use Rattle.std.proofs.lemmas.Bool.{cases_lt}
use Rattle.std.proofs.lemmas.Nat.{shr_split}
use Rattle.slot_order.proofs.Lists.{contains_head, contains_tail}
use Rattle.rule_model.specs.declared.Rule.{Rule}
use Rattle.rule_model.specs.AddressBlock.{AddressBlock, IsAddressBlock, BlocksOverlap}
use Rattle.rule_model.specs.Rank.{rank_of}
use Rattle.rule_model.specs.Rule.{Overlap}
use Rattle.rule_model.specs.RuleSet.{IsOverlapChain}
use Rattle.rule_model.specs.Piece.{whole_piece}
use Rattle.rule_model.specs.Routes.{IsIpv4Route, Ipv4RoutesAreNested, Ipv4ChainsAreShort}
use Rattle.rule_model.proofs.CommonKeys.{overlap_parts}
use Rattle.rule_model.proofs.Prefixes.{block_holds-longer}
use Rattle.rule_model.proofs.Ranks.{high-le, ipv4-low}

-- blocks of one length that have an address in common are one
pub blocks-one : (a b : AddressBlock) → IsAddressBlock a → IsAddressBlock b → BlocksOverlap a b → a.len ≡ b.len → a ≡ b
blocks-one a b right_a right_b (address, small, in_a, in_b) same =
    let past = 128 - a.len in
    let upper_a : address / 2 ^ past ≡ a.addr / 2 ^ past = eqb-true _ _ in_a in
    let upper_b : address / 2 ^ (128 - b.len) ≡ b.addr / 2 ^ (128 - b.len) = eqb-true _ _ in_b in
    let upper : address / 2 ^ past ≡ b.addr / 2 ^ past = rw same upper_b in
    let clear_a : a.addr % 2 ^ past ≡ 0 = right_a.no_host_bits in
    let clear_b : b.addr % 2 ^ (128 - b.len) ≡ 0 = right_b.no_host_bits in
    let clear : b.addr % 2 ^ past ≡ 0 = rw same clear_b in
    let split_a = shr_split a.addr past in
    let split_b = shr_split b.addr past in
    let product = ap (λ (n : ℕ). n * 2 ^ past) (sym upper_a ∙ upper) in
    let addr : a.addr ≡ b.addr = omega arith in
    ap₂ (λ (x y : ℕ). let made : AddressBlock = record { addr = x; len = y } in made) addr same

-- of blocks that have an address in common, the one of greater rank is longer, where ranks go by length first
pub blocks-longer : (low : AddressBlock → ℕ) (upper lower : AddressBlock) → IsAddressBlock upper → IsAddressBlock lower → low upper < 2 ^ 128 → low lower < 2 ^ 128
    → BlocksOverlap upper lower → rank_of lower.len (low lower) < rank_of upper.len (low upper) → lower.len < upper.len
blocks-longer low upper lower right_upper right_lower fits_upper fits_lower shared below =
    let no_more = high-le lower.len (low lower) upper.len (low upper) fits_lower fits_upper below in
    elim (cases_lt lower.len upper.len) [
      | inl longer ↦ longer
      | inr same ↦
          let one = blocks-one upper lower right_upper right_lower shared (omega arith) in
          let rank = ap (λ (block : AddressBlock). rank_of block.len (low block)) one in
          absurd (omega arith)
    ]

-- the lower of two routes that overlap is the shorter one
pub routes-longer : (low : AddressBlock → ℕ) (upper lower : Rule) → IsAddressBlock upper.dst → IsAddressBlock lower.dst → low upper.dst < 2 ^ 128 → low lower.dst < 2 ^ 128
    → upper.priority ≡ rank_of upper.dst.len (low upper.dst) → lower.priority ≡ rank_of lower.dst.len (low lower.dst)
    → Overlap upper lower → lower.priority < upper.priority → lower.dst.len < upper.dst.len
routes-longer low upper lower right_upper right_lower fits_upper fits_lower rank_upper rank_lower overlap below =
    let shared = overlap_parts (whole_piece upper) (whole_piece lower) overlap in
    blocks-longer low upper.dst lower.dst right_upper right_lower fits_upper fits_lower shared.1 (omega arith)

-- what an IPv4 route's priority is
pub ipv4_priority : (rule : Rule) → IsIpv4Route rule → rule.priority ≡ rank_of rule.dst.len (rule.dst.addr / 2 ^ 96)
ipv4_priority rule is = ap (λ (r : Rule). r.priority) is.route

ipv4_longer : (upper lower : Rule) → IsIpv4Route upper → IsIpv4Route lower → Overlap upper lower → lower.priority < upper.priority → lower.dst.len < upper.dst.len
ipv4_longer upper lower is_upper is_lower =
    routes-longer (λ (block : AddressBlock). block.addr / 2 ^ 96) upper lower is_upper.block is_lower.block
    (ipv4-low upper.dst is_upper.block) (ipv4-low lower.dst is_lower.block) (ipv4_priority upper is_upper) (ipv4_priority lower is_lower)

-- of two IPv4 routes that overlap, the one of greater priority is longer and lies in the other
pub ipv4_routes-nested : Ipv4RoutesAreNested
ipv4_routes-nested upper lower is_upper is_lower overlap below =
    let shared = overlap_parts (whole_piece upper) (whole_piece lower) overlap in
    let longer = ipv4_longer upper lower is_upper is_lower overlap below in
    record {
      longer = longer;
      within = λ address held. block_holds-longer lower.dst upper.dst shared.1.0 address (omega arith) is_upper.block.length shared.1.3 shared.1.2 held;
    }

-- a chain has no more members than its first has bits, and one
pub ipv4_chain-le : (first : Rule) (rest : List Rule) → ((rule : Rule) → Contains (first ∷ rest) rule → IsIpv4Route rule) → IsOverlapChain (first ∷ rest)
    → length (first ∷ rest) ≤ first.dst.len + 1
ipv4_chain-le first [] are chain = omega arith
ipv4_chain-le first (second ∷ rest) are chain =
    let later = ipv4_chain-le second rest (λ rule member. are rule (contains_tail first rule (second ∷ rest) member)) chain.2 in
    let is_first = are first (contains_head first (second ∷ rest)) in
    let is_second = are second (contains_tail first second (second ∷ rest) (contains_head second rest)) in
    let shorter = ipv4_longer first second is_first is_second chain.0 chain.1 in
    omega arith

-- there are 33 lengths
pub ipv4_chains-short : Ipv4ChainsAreShort
ipv4_chains-short [] are chain = omega arith
ipv4_chains-short (first ∷ rest) are chain =
    let most = ipv4_chain-le first rest are chain in
    let is = are first (contains_head first rest) in
    omega (arith, is.ipv4.length)
