-- Groups that are read from the left: how many, and the number that they are.
use Rattle.std.proofs.Common.{◌≡◌, ℕ, zero, suc, ◌+◌, ◌-◌, ◌*◌, ◌^◌, ◌<◌, ◌≤◌, List, [], ◌∷◌, ◌++◌, length, replicate, Option, None, Some, inl, inr, refl, sym, ap, ◌∙◌, subst, arith, add-zero, fold, append_assoc, length-append, le-leb}
use Rattle.std.specs.Prelude.{option_and_then, option_map}
use Rattle.std.proofs.lemmas.Bool.{lt-leb}
use Rattle.std.proofs.lemmas.List.{length-replicate}
use Rattle.std.proofs.lemmas.List.Sums.{fold-append}
use Rattle.std.proofs.lemmas.Nat.{mul-add-lt, pow-add, pow_pos, mul-le}
use Rattle.line_words.specs.Kinds.{parts_at}
use Rattle.line_words.specs.Ipv6.{group_value, group_values, groups_of, address_value, few_groups, joined_groups}
use Rattle.line_words.proofs.Separators.{whole-or-more}

-- the number with one group more
abbrev pub with_group : ℕ → ℕ → ℕ
with_group value group = value * 65536 + group

-- the number with more groups
abbrev pub with_groups : ℕ → List ℕ → ℕ
with_groups value groups = fold with_group value groups

-- so many groups more make a number 2 ^ 16 times as great each
pub groups-scaled : (value : ℕ) (groups : List ℕ) → with_groups value groups ≡ value * 2 ^ (16 * length groups) + with_groups 0 groups
groups-scaled value [] = omega arith
groups-scaled value (group ∷ groups) =
    let later = groups-scaled (value * 65536 + group) groups in
    let alone = groups-scaled (0 * 65536 + group) groups in
    let more : 16 * suc (length groups) ≡ 16 + 16 * length groups = omega arith in
    let power : 2 ^ (16 * suc (length groups)) ≡ 2 ^ 16 * 2 ^ (16 * length groups) = ap (λ n. 2 ^ n) more ∙ pow-add 2 16 (16 * length groups) in
    rw (later, alone, power) (products value group (2 ^ (16 * length groups)) (with_groups 0 groups))
  where
    products : (v g p s : ℕ) → (v * 65536 + g) * p + s ≡ v * (2 ^ 16 * p) + ((0 * 65536 + g) * p + s)
    products v g p s = omega arith

-- zero groups are 0
zero-groups : (count : ℕ) → with_groups 0 (replicate count 0) ≡ 0
zero-groups zero = refl
zero-groups (suc count) = zero-groups count

-- so many zero groups behind some make their number 2 ^ 16 times as great each
padded-value : (front : List ℕ) (count : ℕ) → with_groups 0 (front ++ replicate count 0) ≡ with_groups 0 front * 2 ^ (16 * count)
padded-value front count =
    let zeros : List ℕ = replicate count 0 in
    let joined : with_groups 0 (front ++ zeros) ≡ with_groups (with_groups 0 front) zeros = fold-append with_group 0 front zeros in
    let scaled : with_groups (with_groups 0 front) zeros ≡ with_groups 0 front * 2 ^ (16 * length zeros) + with_groups 0 zeros = groups-scaled (with_groups 0 front) zeros in
    let none : with_groups 0 zeros ≡ 0 = zero-groups count in
    let places : length zeros ≡ count = length-replicate count 0 in
    joined ∙ (scaled ∙ (rw (none, places) (add-zero (with_groups 0 front * 2 ^ (16 * count)))))

-- a front, zero groups and a back
pub joined-value : (front back : List ℕ) → length front + length back ≤ 7
    → joined_groups front back ≡ Some (address_value front * 2 ^ (16 * (8 - length front)) + address_value back)
joined-value front back few = rw (le-leb (length front + length back) 7 few) (ap Some all)
  where
    products : (v p q s : ℕ) → v * p * q + s ≡ v * (p * q) + s
    products v p q s = omega arith

    missing : ℕ
    missing = 8 - (length front + length back)

    padded : List ℕ
    padded = front ++ replicate missing 0

    power : 2 ^ (16 * (8 - length front)) ≡ 2 ^ (16 * missing) * 2 ^ (16 * length back)
    power =
        let places : 16 * (8 - length front) ≡ 16 * missing + 16 * length back = omega arith in
        ap (λ n. 2 ^ n) places ∙ pow-add 2 (16 * missing) (16 * length back)

    all : address_value (padded ++ back) ≡ address_value front * 2 ^ (16 * (8 - length front)) + address_value back
    all =
        let joined : with_groups 0 (padded ++ back) ≡ with_groups (with_groups 0 padded) back = fold-append with_group 0 padded back in
        let scaled : with_groups (with_groups 0 padded) back ≡ with_groups 0 padded * 2 ^ (16 * length back) + with_groups 0 back = groups-scaled (with_groups 0 padded) back in
        let front_is : with_groups 0 padded ≡ with_groups 0 front * 2 ^ (16 * missing) = padded-value front missing in
        joined ∙ (scaled ∙ (rw (front_is, power) (products (with_groups 0 front) (2 ^ (16 * missing)) (2 ^ (16 * length back)) (with_groups 0 back))))

-- Some groups of a text are read, of this number, and the rest are to come.
pub record IsReading (text rest : List ℕ) (count value : ℕ) : Type 0 where
  pub front : List ℕ
  pub parts : group_values (parts_at 58 text) ≡ option_map (λ others. front ++ others) (group_values (parts_at 58 rest))
  pub count_is : length front ≡ count
  pub value_is : address_value front ≡ value
  pub fits : value < 2 ^ (16 * count)

-- a group in front of others
one-more : (front : List ℕ) (value : ℕ) (found : Option (List ℕ))
    → option_map (λ others. front ++ others) (option_map (λ values. value ∷ values) found) ≡ option_map (λ others. (front ++ value ∷ []) ++ others) found
one-more front value None = refl
one-more front value (Some others) = ap Some (sym (append_assoc front (value ∷ []) others))

-- a group more of a number of so many groups
pub group-fits : (count value group : ℕ) → value < 2 ^ (16 * count) → group < 65536 → value * 65536 + group < 2 ^ (16 * (count + 1))
group-fits count value group fits small =
    let row : value * 65536 + group < 65536 * 2 ^ (16 * count) = mul-add-lt value 65536 group (2 ^ (16 * count)) fits small in
    let more : 16 * (count + 1) ≡ 16 + 16 * count = omega arith in
    let power : 2 ^ (16 * (count + 1)) ≡ 2 ^ 16 * 2 ^ (16 * count) = ap (λ n. 2 ^ n) more ∙ pow-add 2 16 (16 * count) in
    rw power row

-- the front with a group more, and its number
front-count : (front : List ℕ) (group count : ℕ) → length front ≡ count → length (front ++ group ∷ []) ≡ count + 1
front-count front group count is = length-append front (group ∷ []) ∙ ap (λ n. n + 1) is

front-value : (front : List ℕ) (group value : ℕ) → address_value front ≡ value → address_value (front ++ group ∷ []) ≡ value * 65536 + group
front-value front group value is = fold-append with_group 0 front (group ∷ []) ∙ ap (λ n. n * 65536 + group) is

-- The next group is read.
pub reading-more : (text rest group others : List ℕ) (count value number : ℕ) → IsReading text rest count value
    → parts_at 58 rest ≡ group ∷ parts_at 58 others → group_value group ≡ Some number → number < 65536
    → IsReading text others (count + 1) (value * 65536 + number)
reading-more text rest group others count value number reading parts is small = record {
  front = reading.front ++ number ∷ [];
  parts = reading.parts ∙ (rw (parts, is) (one-more reading.front number (group_values (parts_at 58 others))));
  count_is = front-count reading.front number count reading.count_is;
  value_is = front-value reading.front number value reading.value_is;
  fits = group-fits count value number reading.fits small;
}

-- The two parts of a shortened address fit beside each other.
pub parts-fit : (count value count' value' : ℕ) → count + count' ≤ 7 → value < 2 ^ (16 * count) → value' < 2 ^ (16 * count')
    → value * 2 ^ (16 * (8 - count)) + value' < 2 ^ 128
parts-fit count value count' value' few fits fits' =
    let place = 16 * (8 - count) in
    let spare : place ≡ 16 * (8 - count - count') + 16 * count' = omega arith in
    let power : 2 ^ place ≡ 2 ^ (16 * (8 - count - count')) * 2 ^ (16 * count') = ap (λ n. 2 ^ n) spare ∙ pow-add 2 (16 * (8 - count - count')) (16 * count') in
    let least = pow_pos (16 * (8 - count - count')) in
    let grows : 1 * 2 ^ (16 * count') ≤ 2 ^ (16 * (8 - count - count')) * 2 ^ (16 * count') = mul-le 1 (2 ^ (16 * count')) (2 ^ (16 * (8 - count - count'))) (2 ^ (16 * count')) (omega arith) (omega arith) in
    let below : value' < 2 ^ place = omega arith in
    let row : value * 2 ^ place + value' < 2 ^ place * 2 ^ (16 * count) = mul-add-lt value (2 ^ place) value' (2 ^ (16 * count)) fits below in
    let sum : place + 16 * count ≡ 128 = omega arith in
    let all : 2 ^ place * 2 ^ (16 * count) ≡ 2 ^ 128 = sym (pow-add 2 place (16 * count)) ∙ ap (λ n. 2 ^ n) sum in
    subst (λ n. value * 2 ^ place + value' < n) all row

-- a group more has room where there are fewer than an address has
pub group-room : (count value group : ℕ) → count < 8 → value < 2 ^ (16 * count) → group < 65536 → value * 65536 + group < 2 ^ 128
group-room count value group few fits small =
    let row : value * 65536 + group < 65536 * 2 ^ (16 * count) = mul-add-lt value 65536 group (2 ^ (16 * count)) fits small in
    let sum : 16 * (7 - count) + 16 * count ≡ 112 = omega arith in
    let power : 2 ^ (16 * (7 - count)) * 2 ^ (16 * count) ≡ 2 ^ 112 = sym (pow-add 2 (16 * (7 - count)) (16 * count)) ∙ ap (λ n. 2 ^ n) sum in
    let least = pow_pos (16 * (7 - count)) in
    let grows : 1 * 2 ^ (16 * count) ≤ 2 ^ (16 * (7 - count)) * 2 ^ (16 * count) = mul-le 1 (2 ^ (16 * count)) (2 ^ (16 * (7 - count))) (2 ^ (16 * count)) (omega arith) (omega arith) in
    omega arith

-- a text that isn't empty has groups
pub groups_of-some : (text : List ℕ) → 0 < length text → groups_of text ≡ group_values (parts_at 58 text)
groups_of-some [] some = absurd (omega arith)
groups_of-some (byte ∷ bytes) some = refl

-- the last group is read
pub reading-done : (text rest : List ℕ) (count value number : ℕ) → IsReading text rest count value → count < 8
    → parts_at 58 rest ≡ rest ∷ [] → group_value rest ≡ Some number
    → option_and_then few_groups (group_values (parts_at 58 text)) ≡ Some (record { count = count + 1; value = value * 65536 + number })
reading-done text rest count value number reading few parts is =
    let front = reading.front ++ number ∷ [] in
    let all : group_values (parts_at 58 text) ≡ Some front = reading.parts ∙ (rw (parts, is) refl) in
    let length_is : length front ≡ count + 1 = front-count reading.front number count reading.count_is in
    let value_is = front-value reading.front number value reading.value_is in
    rw all (rw (length_is, le-leb (count + 1) 8 (omega arith)) (ap (λ n. Some (record { count = count + 1; value = n })) value_is))

-- more groups than an address has
pub reading-many : (text rest : List ℕ) (count value : ℕ) → IsReading text rest count value → 8 ≤ count → option_and_then few_groups (group_values (parts_at 58 text)) ≡ None
reading-many text rest count value reading many = ap (option_and_then few_groups) reading.parts ∙ (elim (whole-or-more 58 rest) [
  | inl whole ↦ ap (λ parts. option_and_then few_groups (option_map (λ others. reading.front ++ others) (group_values parts))) whole ∙ nine reading.front (let is = reading.count_is in omega arith) (group_value rest) (group_values [])
  | inr more ↦ ap (λ parts. option_and_then few_groups (option_map (λ others. reading.front ++ others) (group_values parts))) more.parts ∙ nine reading.front (let is = reading.count_is in omega arith) (group_value more.first) (group_values (more.second ∷ more.others))
])
  where
    nine : (front : List ℕ) → 8 ≤ length front → (one : Option ℕ) (rest : Option (List ℕ))
        → option_and_then few_groups (option_map (λ others. front ++ others) (option_and_then (λ value. option_map (λ values. value ∷ values) rest) one)) ≡ None
    nine front eight None rest = refl
    nine front eight (Some value) None = refl
    nine front eight (Some value) (Some values) =
        let count = length-append front (value ∷ values) in
        let many : 8 < length (front ++ value ∷ values) = omega arith in
        rw (lt-leb (length (front ++ value ∷ values)) 8 many) refl

-- up to four digits have room
pub digits-fit : (index : ℕ) → index ≤ 4 → 16 ^ index ≤ 65536
digits-fit zero few = omega arith
digits-fit (suc zero) few = omega arith
digits-fit (suc (suc zero)) few = omega arith
digits-fit (suc (suc (suc zero))) few = omega arith
digits-fit (suc (suc (suc (suc zero)))) few = omega arith
digits-fit (suc (suc (suc (suc (suc index))))) few = absurd (omega arith)
