-- The words of a line are within the limits of a trace of its version of IP.
use Rattle.std.proofs.Common.{◌≡◌, ℕ, ◌+◌, ◌-◌, ◌*◌, ◌%◌, ◌^◌, ◌<◌, ◌≤◌, ◌==◌, false, nat_le, cond, inl, inr, List, [], ◌∷◌, codes, Option, Some, None, IfSome, option_and_then, option_map, Result, Ok, Err, ok_or, refl, subst, arith}
use Rattle.std.specs.List.{AllByRecursion}
use Rattle.std.specs.Str.{bytes_eq}
use Rattle.std.proofs.lemmas.Bool.{cases_Bool, eqb-true, leb-true}
use Rattle.std.proofs.lemmas.Bool.Decides.{nat_tests}
use Rattle.rule_model.specs.declared.IpVersion.{IpVersion}
use Rattle.rule_model.specs.declared.IpVersion.TheVariants.{V4, V6}
use Rattle.rule_model.specs.declared.Rule.{Rule}
use Rattle.rule_model.specs.AddressBlock.{AddressBlock, IsAddressBlock, IsIpv4Block, any_address, ipv4_block}
use Rattle.rule_model.specs.PortRange.{PortRange, IsPortRange, any_port}
use Rattle.rule_model.specs.Rank.{list_rank}
use Rattle.line_words.specs.declared.WordFault.{WordFault}
use Rattle.line_words.specs.declared.WordFault.TheVariants.{BadAction, BadPrefix, BadResult, BadSequence, BadProtocol, BadPorts}
use Rattle.line_words.specs.Words.{◌>>=◌}
use Rattle.line_words.specs.Kinds.{ipv4_number, ipv4_prefix, four_bytes, numbers_up_to, number_up_to, nonzero, block_of, parts_at, side_of, result_of, sequence_of, action_of, named_action, proto_of, proto_choice, port_of, port_parts, ports_of}
use Rattle.line_words.specs.Notations.{notation_for}
use Rattle.trace_file.specs.Forms.{IsTraceRank, IsTraceRule}
use Rattle.route_reader.specs.Routes.{route_rank}
use Rattle.route_reader.proofs.RouteLines.{within}
use Rattle.tcam_cli.proofs.Ipv6Lines.{prefix-right as ipv6-prefix-right}

-- ---- addresses

onto : (bound : ℕ) (first : Option ℕ) (rest : Option (List ℕ)) (values : List ℕ) → ((value : ℕ) → first ≡ Some value → value ≤ bound)
    → ((later : List ℕ) → rest ≡ Some later → AllByRecursion (λ value. value ≤ bound) later)
    → option_and_then (λ value. option_map (λ later. value ∷ later) rest) first ≡ Some values → AllByRecursion (λ value. value ≤ bound) values
onto bound (Some value) (Some later) values one all is =
    let same : value ∷ later ≡ values = cc in
    subst (λ values. AllByRecursion (λ value. value ≤ bound) values) same (one value refl, all later refl)
onto bound (Some value) None values one all is = absurd (cc)
onto bound None rest values one all is = absurd (cc)

all-within : (bound : ℕ) (words : List (List ℕ)) (values : List ℕ) → numbers_up_to bound words ≡ Some values → AllByRecursion (λ value. value ≤ bound) values
all-within bound [] values is =
    let same : [] ≡ values = cc in
    subst (λ values. AllByRecursion (λ value. value ≤ bound) values) same tt
all-within bound (word ∷ words) values is =
    onto bound (number_up_to bound word) (numbers_up_to bound words) values (λ value one. within word bound value one) (λ later all. all-within bound words later all) is

four-fit : (values : List ℕ) (number : ℕ) → AllByRecursion (λ value. value ≤ 255) values → four_bytes values ≡ Some number → number < 2 ^ 32
four-fit [] number all is = absurd (cc)
four-fit (a ∷ []) number all is = absurd (cc)
four-fit (a ∷ b ∷ []) number all is = absurd (cc)
four-fit (a ∷ b ∷ c ∷ []) number all is = absurd (cc)
four-fit (a ∷ b ∷ c ∷ d ∷ []) number (wa, (wb, (wc, (wd, more)))) is =
    let same : a * 2 ^ 24 + b * 2 ^ 16 + c * 2 ^ 8 + d ≡ number = cc in
    omega (arith, same, wa, wb, wc, wd)
four-fit (a ∷ b ∷ c ∷ d ∷ e ∷ rest) number all is = absurd (cc)

address-from : (values : Option (List ℕ)) (number : ℕ) → ((found : List ℕ) → values ≡ Some found → AllByRecursion (λ value. value ≤ 255) found)
    → option_and_then four_bytes values ≡ Some number → number < 2 ^ 32
address-from (Some values) number all is = four-fit values number (all values refl) is
address-from None number all is = absurd (cc)

address-fits : (word : List ℕ) (number : ℕ) → ipv4_number word ≡ Some number → number < 2 ^ 32
address-fits word number is = address-from (numbers_up_to 255 (parts_at 46 word)) number (λ found all. all-within 255 (parts_at 46 word) found all) is

-- ---- prefixes

-- a block of IPv4 addresses, which is one of addresses
pub record IsIpv4Prefix (block : AddressBlock) : Type 0 where
  pub of_ipv4 : IsIpv4Block block
  pub right : IsAddressBlock block

any-right : IsIpv4Prefix any_address
any-right = record {
  of_ipv4 = record { length = omega arith; upper = refl };
  right = record { fits = omega arith; length = omega arith; no_host_bits = refl };
}

block-right : (number bits : ℕ) (found : AddressBlock) → number < 2 ^ 32 → bits ≤ 32 → block_of (ipv4_block number bits) ≡ Ok found → IsIpv4Prefix found
block-right number bits found small few is =
    let block : AddressBlock = ipv4_block number bits in
    elim (cases_Bool (block.addr % 2 ^ (128 - bits) == 0)) [
      | inl clear ↦
          let some = rw clear at is in
          let same : block ≡ found = cc in
          subst IsIpv4Prefix same (record {
            of_ipv4 = record { length = few; upper = omega arith };
            right = record { fits = omega arith; length = omega arith; no_host_bits = eqb-true (block.addr % 2 ^ (128 - bits)) 0 clear };
          })
      | inr host ↦ let none = rw host at is in absurd (cc)
    ]

parts-right : (number bits : Option ℕ) (found : AddressBlock) → ((value : ℕ) → number ≡ Some value → value < 2 ^ 32) → ((value : ℕ) → bits ≡ Some value → value ≤ 32)
    → (ok_or number BadPrefix >>= λ address. ok_or bits BadPrefix >>= λ len. block_of (ipv4_block address len)) ≡ Ok found → IsIpv4Prefix found
parts-right (Some address) (Some len) found small few is = block-right address len found (small address refl) (few len refl) is
parts-right (Some address) None found small few is = absurd (cc)
parts-right None bits found small few is = absurd (cc)

prefix-right : (parts : List (List ℕ)) (block : AddressBlock) → ipv4_prefix parts ≡ Ok block → IsIpv4Prefix block
prefix-right [] block is = absurd (cc)
prefix-right (address ∷ []) block is = absurd (cc)
prefix-right (address ∷ len ∷ []) block is =
    parts-right (ipv4_number address) (number_up_to 32 len) block (λ value some. address-fits address value some) (λ value some. within len 32 value some) is
prefix-right (address ∷ len ∷ more ∷ parts) block is = absurd (cc)

-- a prefix of a version of IP
abbrev pub IsPrefixOf : IpVersion → AddressBlock → Type 0
IsPrefixOf V4 block = IsIpv4Prefix block
IsPrefixOf V6 block = IsAddressBlock block

pub any-of : (version : IpVersion) → IsPrefixOf version any_address
any-of V4 = any-right
any-of V6 = any-right.right

pub block-of : (version : IpVersion) (word : List ℕ) (block : AddressBlock) → (notation_for version).block word ≡ Ok block → IsPrefixOf version block
block-of V4 word block is = prefix-right (parts_at 47 word) block is
block-of V6 word block is = ipv6-prefix-right (parts_at 47 word) block is

pub side-right : (version : IpVersion) (word : List ℕ) (block : AddressBlock) → side_of (notation_for version) word ≡ Ok block → IsPrefixOf version block
side-right version word block is = elim (cases_Bool (bytes_eq word (codes "any"))) [
  | inl any ↦
      let some = rw any at is in
      let same : any_address ≡ block = cc in
      subst (IsPrefixOf version) same (any-of version)
  | inr other ↦ block-of version word block (rw other at is)
]

-- ---- numbers

-- where a word is a number up to a bound, or is at fault
up-to : (word : List ℕ) (bound number : ℕ) (fault : WordFault) (read : Option ℕ) → number_up_to bound word ≡ read → ok_or read fault ≡ Ok number → number ≤ bound
up-to word bound number fault (Some value) same is =
    let here : value ≡ number = cc in
    subst (λ n. n ≤ bound) here (within word bound value same)
up-to word bound number fault None same is = absurd (cc)

pub result-fits : (word : List ℕ) (number : ℕ) → result_of word ≡ Ok number → number < 2 ^ 32
result-fits word number is =
    let most : number ≤ 4294967295 = up-to word 4294967295 number BadResult (number_up_to 4294967295 word) refl is in
    omega arith

positive : (value : ℕ) → (value == 0) ≡ false → 1 ≤ value
positive value other = grind (arith, nat_tests)

some-number : (read : Option ℕ) (number : ℕ) → ok_or (option_and_then nonzero read) BadSequence ≡ Ok number → 1 ≤ number
some-number None number is = absurd (cc)
some-number (Some value) number is = elim (cases_Bool (value == 0)) [
  | inl none ↦ let bad = rw none at is in absurd (cc)
  | inr other ↦
      let read = rw other at is in
      let same : value ≡ number = cc in
      subst (λ n. 1 ≤ n) same (positive value other)
]

pub sequence-some : (word : List ℕ) (number : ℕ) → sequence_of word ≡ Ok number → 1 ≤ number
sequence-some word number is = some-number (number_up_to 4294967295 word) number is

named-fits : (word : List ℕ) (number : ℕ) → named_action word ≡ Ok number → number < 2 ^ 32
named-fits word number is = elim (cases_Bool (bytes_eq word (codes "permit"))) [
  | inl permits ↦
      let read = rw permits at is in
      let same : 1 ≡ number = cc in omega (arith, same)
  | inr other ↦ elim (cases_Bool (bytes_eq word (codes "deny"))) [
    | inl denies ↦
        let read = rw (other, denies) at is in
        let same : 0 ≡ number = cc in omega (arith, same)
    | inr neither ↦ let bad = rw (other, neither) at is in absurd (cc)
  ]
]

pub action-fits : (word : List ℕ) (number : ℕ) → action_of word ≡ Ok number → number < 2 ^ 32
action-fits [] number is = absurd (cc)
action-fits (sign ∷ rest) number is = elim (cases_Bool (sign == 61)) [
  | inl equals ↦
      let most : number ≤ 4294967295 = up-to rest 4294967295 number BadAction (number_up_to 4294967295 rest) refl (rw equals at is) in
      omega (arith, most)
  | inr other ↦ named-fits (sign ∷ rest) number (rw other at is)
]

proto-fits : (word : List ℕ) (number : ℕ) → proto_of word ≡ Ok number → number < 2 ^ 8
proto-fits word number is = elim (cases_Bool (bytes_eq word (codes "icmp"))) [
  | inl icmp ↦
      let read = rw icmp at is in
      let same : 1 ≡ number = cc in omega (arith, same)
  | inr a ↦ elim (cases_Bool (bytes_eq word (codes "tcp"))) [
    | inl tcp ↦
        let read = rw (a, tcp) at is in
        let same : 6 ≡ number = cc in omega (arith, same)
    | inr b ↦ elim (cases_Bool (bytes_eq word (codes "udp"))) [
      | inl udp ↦
          let read = rw (a, b, udp) at is in
          let same : 17 ≡ number = cc in omega (arith, same)
      | inr c ↦
          let most : number ≤ 255 = up-to word 255 number BadProtocol (number_up_to 255 word) refl (rw (a, b, c) at is) in
          omega arith
    ]
  ]
]

some-proto : (read : Result ℕ WordFault) (proto : Option ℕ) → ((number : ℕ) → read ≡ Ok number → number < 2 ^ 8) → (read >>= λ number. Ok (Some number)) ≡ Ok proto
    → IfSome proto (λ number. number < 2 ^ 8)
some-proto (Ok number) proto fits is =
    let same : Some number ≡ proto = cc in
    subst (λ (p : Option ℕ). IfSome p (λ number. number < 2 ^ 8)) same (fits number refl)
some-proto (Err fault) proto fits is = absurd (cc)

pub proto-right : (word : List ℕ) (proto : Option ℕ) → proto_choice word ≡ Ok proto → IfSome proto (λ number. number < 2 ^ 8)
proto-right word proto is = elim (cases_Bool (bytes_eq word (codes "any"))) [
  | inl any ↦
      let read = rw any at is in
      let same : ◌≡◌ {A = Option ℕ} None proto = cc in
      subst (λ (p : Option ℕ). IfSome p (λ number. number < 2 ^ 8)) same tt
  | inr other ↦ some-proto (proto_of word) proto (proto-fits word) (rw other at is)
]

-- ---- ports

port-fits : (word : List ℕ) (number : ℕ) → port_of word ≡ Ok number → number < 2 ^ 16
port-fits word number is =
    let most : number ≤ 65535 = up-to word 65535 number BadPorts (number_up_to 65535 word) refl is in
    omega arith

one-port : (read : Result ℕ WordFault) (range : PortRange) → ((number : ℕ) → read ≡ Ok number → number < 2 ^ 16)
    → (read >>= λ port. Ok (record { lo = port; hi = port })) ≡ Ok range → IsPortRange range
one-port (Ok port) range fits is =
    let only : PortRange = record { lo = port; hi = port } in
    let same : only ≡ range = cc in
    subst IsPortRange same (record { ordered = omega arith; fits = fits port refl })
one-port (Err fault) range fits is = absurd (cc)

two-ports : (first last : Result ℕ WordFault) (range : PortRange) → ((number : ℕ) → last ≡ Ok number → number < 2 ^ 16)
    → (first >>= λ lo. last >>= λ hi. cond (nat_le lo hi) (Ok (record { lo = lo; hi = hi })) (Err BadPorts)) ≡ Ok range → IsPortRange range
two-ports (Ok lo) (Ok hi) range fits is = elim (cases_Bool (nat_le lo hi)) [
  | inl ordered ↦
      let read = rw ordered at is in
      let both : PortRange = record { lo = lo; hi = hi } in
      let same : both ≡ range = cc in
      subst IsPortRange same (record { ordered = leb-true lo hi ordered; fits = fits hi refl })
  | inr other ↦ let bad = rw other at is in absurd (cc)
]
two-ports (Ok lo) (Err fault) range fits is = absurd (cc)
two-ports (Err fault) last range fits is = absurd (cc)

parts-ports : (parts : List (List ℕ)) (range : PortRange) → port_parts parts ≡ Ok range → IsPortRange range
parts-ports [] range is = absurd (cc)
parts-ports (only ∷ []) range is = one-port (port_of only) range (port-fits only) is
parts-ports (first ∷ last ∷ []) range is = two-ports (port_of first) (port_of last) range (port-fits last) is
parts-ports (first ∷ last ∷ more ∷ parts) range is = absurd (cc)

pub ports-right : (word : List ℕ) (range : PortRange) → ports_of word ≡ Ok range → IsPortRange range
ports-right word range is = elim (cases_Bool (bytes_eq word (codes "any"))) [
  | inl any ↦
      let read = rw any at is in
      let same : any_port ≡ range = cc in
      subst IsPortRange same any-ports
  | inr other ↦ parts-ports (parts_at 45 word) range (rw other at is)
]
  where
    any-ports : IsPortRange any_port
    any-ports = record { ordered = omega arith; fits = omega arith }

-- ---- ranks

pub route-rank-fits : (version : IpVersion) (block : AddressBlock) → IsPrefixOf version block → IsTraceRank version (route_rank version block)
route-rank-fits V4 block is =
    let few : block.len ≤ 32 = is.of_ipv4.length in
    let fits : block.addr < 2 ^ 128 = is.right.fits in
    record { high = omega arith; low = omega arith }
route-rank-fits V6 block is =
    let few : block.len ≤ 128 = is.length in
    let fits : block.addr < 2 ^ 128 = is.fits in
    record { high = omega arith }

pub list-rank-fits : (version : IpVersion) (sequence : ℕ) → 1 ≤ sequence → IsTraceRank version (list_rank sequence)
list-rank-fits V4 sequence some = record { high = omega arith; low = omega arith }
list-rank-fits V6 sequence some = record { high = omega arith }

-- ---- rules

pub rule-fits : (version : IpVersion) (rule : Rule) → IsTraceRank version rule.priority → IsPrefixOf version rule.src → IsPrefixOf version rule.dst → IfSome rule.proto (λ number. number < 2 ^ 8)
    → IsPortRange rule.sport → IsPortRange rule.dport → rule.result < 2 ^ 32 → IsTraceRule version rule
rule-fits V4 rule rank src dst proto sport dport answer = record {
  priority = rank;
  right = record { src_right = src.right; dst_right = dst.right; proto_right = proto; sport_right = sport; dport_right = dport };
  src = src.of_ipv4;
  dst = dst.of_ipv4;
  result = answer;
}
rule-fits V6 rule rank src dst proto sport dport answer = record {
  priority = rank;
  right = record { src_right = src; dst_right = dst; proto_right = proto; sport_right = sport; dport_right = dport };
  result = answer;
}
