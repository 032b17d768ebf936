-- What a word of IPv6 says is an address of 128 bits, and a prefix a block of such addresses.
use Rattle.std.proofs.Common.{◌≡◌, ℕ, zero, suc, ◌+◌, ◌-◌, ◌*◌, ◌%◌, ◌^◌, ◌<◌, ◌≤◌, ◌==◌, ◌&&◌, nat_le, Bool, true, false, cond, inl, inr, List, [], ◌∷◌, ◌++◌, length, replicate, Option, Some, None, Result, Ok, Err, ok_or, refl, sym, ap, ◌∙◌, subst, arith, length-append}
use Rattle.std.specs.Prelude.{option_and_then, option_map}
use Rattle.std.specs.List.{AllByRecursion}
use Rattle.std.proofs.lemmas.Bool.{cases_Bool, and_parts, eqb-true, leb-true}
use Rattle.std.proofs.lemmas.List.{length-replicate}
use Rattle.std.proofs.lemmas.Nat.{mul-add-lt}
use Rattle.slot_order.proofs.Lists.{all_append}
use Rattle.hex.specs.Hex.{hex_digit_value}
use Rattle.rule_model.specs.AddressBlock.{AddressBlock, IsAddressBlock}
use Rattle.line_words.specs.declared.WordFault.TheVariants.{BadPrefix}
use Rattle.line_words.specs.Words.{◌>>=◌}
use Rattle.line_words.specs.Kinds.{number_up_to, block_of, parts_at}
use Rattle.line_words.specs.Ipv6.{hex_value, group_value, group_values, groups_of, at_double_colon, address_value, eight_groups, joined_groups, shortened_number, number_by_parts, ipv6_number, ipv6_prefix}
use Rattle.line_words.proofs.Groups.{digits-fit, group-fits, with_groups}
use Rattle.route_reader.proofs.RouteLines.{within}

-- ---- groups

digit-small : (digit value : ℕ) → hex_digit_value digit ≡ Some value → value < 16
digit-small digit value is = grind (arith)

then-some : {A B : Type 0} (x : Option A) (f : A → Option B) (y : B) → option_and_then f x ≡ Some y → (a : A) × (x ≡ Some a) × (f a ≡ Some y)
then-some None f y is = absurd (cc)
then-some (Some a) f y is = (a, refl, is)

-- digits behind others
hex-fits : (digits : List ℕ) (before index value : ℕ) → before < 16 ^ index → hex_value before digits ≡ Some value → value < 16 ^ (index + length digits)
hex-fits [] before index value small is =
    let same : before ≡ value = cc in
    let none : index + 0 ≡ index = omega arith in
    subst (λ n. value < 16 ^ n) (sym none) (subst (λ n. n < 16 ^ index) same small)
hex-fits (digit ∷ digits) before index value small is =
    let w = then-some (hex_digit_value digit) (λ one. hex_value (before * 16 + one) digits) value is in
    let row : before * 16 + w.0 < 16 * 16 ^ index = mul-add-lt before 16 w.0 (16 ^ index) small (digit-small digit w.0 w.1) in
    let more : before * 16 + w.0 < 16 ^ suc index = omega arith in
    let sum : suc index + length digits ≡ index + suc (length digits) = omega arith in
    subst (λ n. value < 16 ^ n) sum (hex-fits digits (before * 16 + w.0) (suc index) value more w.2)

group-small : (digits : List ℕ) (value : ℕ) → group_value digits ≡ Some value → value < 65536
group-small digits value is = elim (cases_Bool (nat_le 1 (length digits) && nat_le (length digits) 4)) [
  | inl few ↦
      let at_most : length digits ≤ 4 = leb-true (length digits) 4 (and_parts (nat_le 1 (length digits)) (nat_le (length digits) 4) few).1 in
      let fits = hex-fits digits 0 0 value (omega arith) (rw few at is) in
      let room = digits-fit (length digits) at_most in
      let none : 0 + length digits ≡ length digits = omega arith in
      let small : value < 16 ^ length digits = subst (λ n. value < 16 ^ n) none fits in
      omega (arith, small, room)
  | inr other ↦ let none = rw other at is in absurd (cc)
]

-- groups, each of 16 bits
abbrev AreGroups : List ℕ → Type 0
AreGroups groups = AllByRecursion (λ n. n < 65536) groups

groups-onto : (first : Option ℕ) (rest : Option (List ℕ)) (values : List ℕ) → ((value : ℕ) → first ≡ Some value → value < 65536) → ((later : List ℕ) → rest ≡ Some later → AreGroups later)
    → option_and_then (λ value. option_map (λ later. value ∷ later) rest) first ≡ Some values → AreGroups values
groups-onto (Some value) (Some later) values one all is =
    let same : value ∷ later ≡ values = cc in
    subst AreGroups same (one value refl, all later refl)
groups-onto (Some value) None values one all is = absurd (cc)
groups-onto None rest values one all is = absurd (cc)

values-small : (groups : List (List ℕ)) (values : List ℕ) → group_values groups ≡ Some values → AreGroups values
values-small [] values is =
    let same : [] ≡ values = cc in
    subst AreGroups same tt
values-small (group ∷ groups) values is =
    groups-onto (group_value group) (group_values groups) values (λ value one. group-small group value one) (λ later all. values-small groups later all) is

groups-small : (text values : List ℕ) → groups_of text ≡ Some values → AreGroups values
groups-small [] values is =
    let same : [] ≡ values = cc in
    subst AreGroups same tt
groups-small (byte ∷ bytes) values is = values-small (parts_at 58 (byte ∷ bytes)) values is

-- ---- addresses

-- a number of some groups more
number-fits : (groups : List ℕ) (count value : ℕ) → AreGroups groups → value < 2 ^ (16 * count) → with_groups value groups < 2 ^ (16 * (count + length groups))
number-fits [] count value are fits =
    let none : count + 0 ≡ count = omega arith in
    subst (λ n. value < 2 ^ (16 * n)) (sym none) fits
number-fits (group ∷ groups) count value are fits =
    let sum : count + 1 + length groups ≡ count + suc (length groups) = omega arith in
    subst (λ n. with_groups (value * 65536 + group) groups < 2 ^ (16 * n)) sum (number-fits groups (count + 1) (value * 65536 + group) are.1 (group-fits count value group fits are.0))

eight-fit : (groups : List ℕ) → AreGroups groups → length groups ≡ 8 → address_value groups < 2 ^ 128
eight-fit groups are eight =
    let fits : address_value groups < 2 ^ (16 * (0 + length groups)) = number-fits groups 0 0 are (omega arith) in
    let all : 16 * (0 + length groups) ≡ 128 = omega (arith, eight) in
    subst (λ n. address_value groups < 2 ^ n) all fits

whole-fits : (groups : List ℕ) (number : ℕ) → AreGroups groups → eight_groups groups ≡ Some number → number < 2 ^ 128
whole-fits groups number are is = elim (cases_Bool (length groups == 8)) [
  | inl eight ↦
      let some = rw eight at is in
      let same : address_value groups ≡ number = cc in
      subst (λ n. n < 2 ^ 128) same (eight-fit groups are (eqb-true (length groups) 8 eight))
  | inr other ↦ let none = rw other at is in absurd (cc)
]

zeros-small : (count : ℕ) → AreGroups (replicate count 0)
zeros-small zero = tt
zeros-small (suc count) = (omega arith, zeros-small count)

joined-fits : (front back : List ℕ) (number : ℕ) → AreGroups front → AreGroups back → joined_groups front back ≡ Some number → number < 2 ^ 128
joined-fits front back number before behind is = elim (cases_Bool (nat_le (length front + length back) 7)) [
  | inl few ↦
      let some = rw few at is in
      let missing : ℕ = 8 - (length front + length back) in
      let zeros : List ℕ = replicate missing 0 in
      let at_most : length front + length back ≤ 7 = leb-true (length front + length back) 7 few in
      let same : address_value (front ++ zeros ++ back) ≡ number = cc in
      let are : AreGroups (front ++ zeros ++ back) =
      all_append (λ n. n < 65536) (front ++ zeros) back (all_append (λ n. n < 65536) front zeros before (zeros-small missing)) behind in
      let first = length-append (front ++ zeros) back in
      let second = length-append front zeros in
      let third = length-replicate {A = ℕ} missing 0 in
      let eight : length (front ++ zeros ++ back) ≡ 8 = omega (arith, first, second, third, at_most) in
      subst (λ n. n < 2 ^ 128) same (eight-fit (front ++ zeros ++ back) are eight)
  | inr many ↦ let none = rw many at is in absurd (cc)
]

shortened-fits : (front back : List ℕ) (number : ℕ) → shortened_number front back ≡ Some number → number < 2 ^ 128
shortened-fits front back number is =
    let w = then-some (groups_of front) (λ before. option_and_then (joined_groups before) (groups_of back)) number is in
    let v = then-some (groups_of back) (joined_groups w.0) number w.2 in
    joined-fits w.0 v.0 number (groups-small front w.0 w.1) (groups-small back v.0 v.1) v.2

parts-fit : (word : List ℕ) (parts : Option (List ℕ × List ℕ)) (number : ℕ) → number_by_parts word parts ≡ Some number → number < 2 ^ 128
parts-fit word None number is =
    let w = then-some (groups_of word) eight_groups number is in
    whole-fits w.0 number (groups-small word w.0 w.1) w.2
parts-fit word (Some (front, back)) number is = shortened-fits front back number is

address-fits : (word : List ℕ) (number : ℕ) → ipv6_number word ≡ Some number → number < 2 ^ 128
address-fits word number is = parts-fit word (at_double_colon word) number is

-- ---- prefixes

block-right : (number bits : ℕ) (found : AddressBlock) → number < 2 ^ 128 → bits ≤ 128 → block_of (record { addr = number; len = bits }) ≡ Ok found → IsAddressBlock found
block-right number bits found small few is = elim (cases_Bool (number % 2 ^ (128 - bits) == 0)) [
  | inl clear ↦
      let some = rw clear at is in
      let block : AddressBlock = record { addr = number; len = bits } in
      let same : block ≡ found = cc in
      subst IsAddressBlock same (record { fits = small; length = few; no_host_bits = eqb-true (number % 2 ^ (128 - bits)) 0 clear })
  | inr host ↦ let none = rw host at is in absurd (cc)
]

parts-right : (number bits : Option ℕ) (found : AddressBlock) → ((value : ℕ) → number ≡ Some value → value < 2 ^ 128) → ((value : ℕ) → bits ≡ Some value → value ≤ 128)
    → (ok_or number BadPrefix >>= λ address. ok_or bits BadPrefix >>= λ len. block_of (record { addr = address; len = len })) ≡ Ok found → IsAddressBlock found
parts-right (Some address) (Some len) found small few is = block-right address len found (small address refl) (few len refl) is
parts-right (Some address) None found small few is = absurd (cc)
parts-right None bits found small few is = absurd (cc)

pub prefix-right : (parts : List (List ℕ)) (block : AddressBlock) → ipv6_prefix parts ≡ Ok block → IsAddressBlock block
prefix-right [] block is = absurd (cc)
prefix-right (address ∷ []) block is = absurd (cc)
prefix-right (address ∷ len ∷ []) block is =
    parts-right (ipv6_number address) (number_up_to 128 len) block (λ value some. address-fits address value some) (λ value some. within len 128 value some) is
prefix-right (address ∷ len ∷ more ∷ parts) block is = absurd (cc)
