-- IPv6 routes that overlap are nested, so that a chain of them has at most one of each length.
use Rattle.std.proofs.Common.{◌≡◌, ◌+◌, ◌<◌, ◌≤◌, List, [], ◌∷◌, length, Contains, arith, ap}
use Rattle.slot_order.proofs.Lists.{contains_head, contains_tail}
use Rattle.rule_model.specs.declared.Rule.{Rule}
use Rattle.rule_model.specs.AddressBlock.{AddressBlock}
use Rattle.rule_model.specs.Rank.{rank_of}
use Rattle.rule_model.specs.Rule.{Overlap}
use Rattle.rule_model.specs.RuleSet.{IsOverlapChain}
use Rattle.rule_model.specs.Piece.{whole_piece}
use Rattle.rule_model.proofs.CommonKeys.{overlap_parts}
use Rattle.rule_model.proofs.Prefixes.{block_holds-longer}
use Rattle.rule_model.proofs.Routes.{routes-longer}
use Rattle.rule_model.specs.Routes6.{IsIpv6Route, Ipv6RoutesAreNested, Ipv6ChainsAreShort}

-- what an IPv6 route's priority is
pub ipv6_priority : (rule : Rule) → IsIpv6Route rule → rule.priority ≡ rank_of rule.dst.len rule.dst.addr
ipv6_priority rule is = ap (λ (r : Rule). r.priority) is.route

pub ipv6_longer : (upper lower : Rule) → IsIpv6Route upper → IsIpv6Route lower → Overlap upper lower → lower.priority < upper.priority → lower.dst.len < upper.dst.len
ipv6_longer upper lower is_upper is_lower =
    routes-longer (λ (block : AddressBlock). block.addr) upper lower is_upper.block is_lower.block
    is_upper.block.fits is_lower.block.fits (ipv6_priority upper is_upper) (ipv6_priority lower is_lower)

-- of two IPv6 routes that overlap, the one of greater priority is longer and lies in the other
pub ipv6_routes-nested : Ipv6RoutesAreNested
ipv6_routes-nested upper lower is_upper is_lower overlap below =
    let shared = overlap_parts (whole_piece upper) (whole_piece lower) overlap in
    let longer = ipv6_longer upper lower is_upper is_lower overlap below in
    record {
      longer = longer;
      within = λ address held. block_holds-longer lower.dst upper.dst shared.1.0 address (omega arith) is_upper.block.length shared.1.3 shared.1.2 held;
    }

-- a chain has no more members than its first has bits, and one
pub ipv6_chain-le : (first : Rule) (rest : List Rule) → ((rule : Rule) → Contains (first ∷ rest) rule → IsIpv6Route rule) → IsOverlapChain (first ∷ rest)
    → length (first ∷ rest) ≤ first.dst.len + 1
ipv6_chain-le first [] are chain = omega arith
ipv6_chain-le first (second ∷ rest) are chain =
    let later = ipv6_chain-le second rest (λ rule member. are rule (contains_tail first rule (second ∷ rest) member)) chain.2 in
    let is_first = are first (contains_head first (second ∷ rest)) in
    let is_second = are second (contains_tail first second (second ∷ rest) (contains_head second rest)) in
    let shorter = ipv6_longer first second is_first is_second chain.0 chain.1 in
    omega arith

-- there are 129 lengths
pub ipv6_chains-short : Ipv6ChainsAreShort
ipv6_chains-short [] are chain = omega arith
ipv6_chains-short (first ∷ rest) are chain =
    let most = ipv6_chain-le first rest are chain in
    let is = are first (contains_head first rest) in
    omega (arith, is.block.length)
