-- An IPv6 address as it is printed is read as that address.
use Rattle.std.proofs.Common.{◌≡◌, ℕ, zero, suc, ◌+◌, ◌-◌, ◌*◌, ◌/◌, ◌%◌, ◌^◌, ◌<◌, ◌≤◌, false, List, [], ◌∷◌, ◌++◌, length, take, drop, replicate, map, None, Some, inl, inr, refl, sym, ap, ap₂, ◌∙◌, subst, arith, append_assoc, append-nil, All, le-leb, lt-ltb, le-ltb, ne_eqb, eqb-true, length-append}
use Rattle.std.specs.Prelude.{nat_lt, ◌==◌, option_and_then}
use Rattle.std.specs.List.{AllByRecursion}
use Rattle.std.proofs.lemmas.List.{length-replicate}
use Rattle.std.proofs.lemmas.Bool.{cases_lt, cases_Bool, cond-true, cond-false, lt-leb}
use Rattle.std.proofs.lemmas.Nat.{shr-shr, shr_below}
use Rattle.std.proofs.lemmas.List.Splits.{slice_split_none, slice_split_at}
use Rattle.hex.specs.Hex.{hex_digit_value}
use Rattle.line_words.specs.Kinds.{parts_at}
use Rattle.line_words.specs.Ipv6.{group_value, group_values, groups_of, at_double_colon, address_value, eight_groups, joined_groups, number_by_parts, ipv6_number}
use Rattle.line_words.proofs.Colons.{behind, behind_nothing, behind_behind}
use Rattle.line_words.specs.declared.printed.ZeroRun.{ZeroRun}
use Rattle.line_words.specs.Shown.{groups_of_number, hex_digit, group_text, joined_text, zeros_first, longer_run, longest_run, shortened_text, ipv6_text}

-- a digit
digit_back : (d : ℕ) → d < 16 → hex_digit_value (hex_digit d) ≡ Some d
digit_back d small = elim (cases_lt d 10) [
  | inl low ↦ rw (lt-ltb d 10 low) (rw (lt-leb 65 (d + 48) (omega arith), lt-leb 97 (d + 48) (omega arith), le-leb 48 (d + 48) (omega arith), le-leb (d + 48) 57 (omega arith)) (ap Some (let e : d + 48 - 48 ≡ d = omega arith in e)))
  | inr high ↦ rw (le-ltb d 10 high) (rw (le-leb 65 (d + 87) (omega arith), lt-leb (d + 87) 70 (omega arith), le-leb 97 (d + 87) (omega arith), le-leb (d + 87) 102 (omega arith)) (ap Some (let e : d + 87 - 87 ≡ d = omega arith in e)))
]

-- no digit is a colon
digit_apart : (d : ℕ) → d < 16 → (hex_digit d == 58) ≡ false
digit_apart d small = elim (cases_lt d 10) [
  | inl low ↦ rw (lt-ltb d 10 low) (ne_eqb (d + 48) 58 (λ e. omega arith))
  | inr high ↦ rw (le-ltb d 10 high) (ne_eqb (d + 87) 58 (λ e. omega arith))
]

-- a group
pub group_back : (n : ℕ) → n < 65536 → group_value (group_text n) ≡ Some n
group_back n small = elim (cases_lt n 16) [
  | inl one ↦ rw (lt-ltb n 16 one) (rw (digit_back n one) (ap Some (let e : 0 * 16 + n ≡ n = omega arith in e)))
  | inr more1 ↦ rw (le-ltb n 16 more1) (elim (cases_lt n 256) [
    | inl two ↦ rw (lt-ltb n 256 two) (rw (digit_back (n / 16) (omega arith), digit_back (n % 16) (omega arith)) (ap Some (let e : (0 * 16 + n / 16) * 16 + n % 16 ≡ n = omega arith in e)))
    | inr more2 ↦ rw (le-ltb n 256 more2) (elim (cases_lt n 4096) [
      | inl three ↦ rw (lt-ltb n 4096 three) (rw (digit_back (n / 256) (omega arith), digit_back (n / 16 % 16) (omega arith), digit_back (n % 16) (omega arith))
          (ap Some (let e : ((0 * 16 + n / 256) * 16 + n / 16 % 16) * 16 + n % 16 ≡ n = omega arith in e)))
      | inr more3 ↦ rw (le-ltb n 4096 more3) (rw (digit_back (n / 4096) (omega arith), digit_back (n / 256 % 16) (omega arith), digit_back (n / 16 % 16) (omega arith), digit_back (n % 16) (omega arith))
          (ap Some (let e : (((0 * 16 + n / 4096) * 16 + n / 256 % 16) * 16 + n / 16 % 16) * 16 + n % 16 ≡ n = omega arith in e)))
    ])
  ])
]

-- a text of a digit and more, none of them a colon
record IsPlain (text : List ℕ) : Type 0 where
  first : ℕ
  rest : List ℕ
  is : text ≡ first ∷ rest
  apart : AllByRecursion (λ byte. (byte == 58) ≡ false) text

group_plain : (n : ℕ) → n < 65536 → IsPlain (group_text n)
group_plain n small = elim (cases_lt n 16) [
  | inl one ↦ rw (lt-ltb n 16 one) (record { first = hex_digit n; rest = []; is = refl; apart = (digit_apart n one, tt) })
  | inr more1 ↦ rw (le-ltb n 16 more1) (elim (cases_lt n 256) [
    | inl two ↦ rw (lt-ltb n 256 two) (record { first = hex_digit (n / 16); rest = _; is = refl; apart = (digit_apart (n / 16) (omega arith), (digit_apart (n % 16) (omega arith), tt)) })
    | inr more2 ↦ rw (le-ltb n 256 more2) (elim (cases_lt n 4096) [
      | inl three ↦ rw (lt-ltb n 4096 three) (record { first = hex_digit (n / 256); rest = _; is = refl; apart = (digit_apart (n / 256) (omega arith), (digit_apart (n / 16 % 16) (omega arith), (digit_apart (n % 16) (omega arith), tt))) })
      | inr more3 ↦ rw (le-ltb n 4096 more3) (record { first = hex_digit (n / 4096); rest = _; is = refl; apart = (digit_apart (n / 4096) (omega arith), (digit_apart (n / 256 % 16) (omega arith), (digit_apart (n / 16 % 16) (omega arith), (digit_apart (n % 16) (omega arith), tt)))) })
    ])
  ])
]

abbrev AreGroups : List ℕ → Type 0
AreGroups groups = AllByRecursion (λ n. n < 65536) groups

values_back : (groups : List ℕ) → AreGroups groups → group_values (map group_text groups) ≡ Some groups
values_back [] are = refl
values_back (n ∷ groups) are = rw (group_back n are.0) (rw (values_back groups are.1) refl)

all_of : (P : ℕ → Type 0) (xs : List ℕ) → AllByRecursion P xs → All P xs
all_of P [] are i d below = absurd (omega arith)
all_of P (x ∷ xs) are zero d below = are.0
all_of P (x ∷ xs) are (suc i) d below = all_of P xs are.1 i d (omega arith)

parts_back : (first : ℕ) (groups : List ℕ) → AreGroups (first ∷ groups) → parts_at 58 (joined_text (first ∷ groups)) ≡ map group_text (first ∷ groups)
parts_back n [] are = slice_split_none (λ byte. byte == 58) (group_text n) (all_of (λ byte. (byte == 58) ≡ false) (group_text n) (group_plain n are.0).apart)
parts_back n (next ∷ groups) are =
    slice_split_at (λ byte. byte == 58) (group_text n) 58 (joined_text (next ∷ groups)) (all_of (λ byte. (byte == 58) ≡ false) (group_text n) (group_plain n are.0).apart) refl
    ∙ ap (λ rest. group_text n ∷ rest) (parts_back next groups are.1)

-- the text of some groups begins with a digit
record Begins (text : List ℕ) : Type 0 where
  first : ℕ
  rest : List ℕ
  is : text ≡ first ∷ rest
  apart : (first == 58) ≡ false

joined_begins : (n : ℕ) (groups : List ℕ) → AreGroups (n ∷ groups) → Begins (joined_text (n ∷ groups))
joined_begins n [] are = let p = group_plain n are.0 in
    record { first = p.first; rest = p.rest; is = p.is; apart = (subst (AllByRecursion (λ byte. (byte == 58) ≡ false)) p.is p.apart).0 }
joined_begins n (next ∷ groups) are = let p = group_plain n are.0 in
    record { first = p.first; rest = p.rest ++ 58 ∷ joined_text (next ∷ groups); is = ap (λ t. t ++ 58 ∷ joined_text (next ∷ groups)) p.is; apart = (subst (AllByRecursion (λ byte. (byte == 58) ≡ false)) p.is p.apart).0 }

some_groups : (text : List ℕ) (first : ℕ) (rest : List ℕ) → text ≡ first ∷ rest → groups_of text ≡ group_values (parts_at 58 text)
some_groups text first rest is = subst (λ t. groups_of t ≡ group_values (parts_at 58 t)) (sym is) refl

pub groups_back : (groups : List ℕ) → AreGroups groups → groups_of (joined_text groups) ≡ Some groups
groups_back [] are = refl
groups_back (n ∷ groups) are =
    let b = joined_begins n groups are in
    some_groups (joined_text (n ∷ groups)) b.first b.rest b.is ∙ (ap group_values (parts_back n groups are) ∙ values_back (n ∷ groups) are)

behind_one : (x : ℕ) (rest : List ℕ) → (x == 58) ≡ false → at_double_colon (x ∷ rest) ≡ behind (x ∷ []) (at_double_colon rest)
behind_one x [] apart = refl
behind_one x (y ∷ rest) apart = rw apart refl

behind_colon : (y : ℕ) (rest : List ℕ) → (y == 58) ≡ false → at_double_colon (58 ∷ y ∷ rest) ≡ behind (58 ∷ []) (at_double_colon (y ∷ rest))
behind_colon y rest apart = rw apart refl

behind_plain : (text rest : List ℕ) → AllByRecursion (λ byte. (byte == 58) ≡ false) text → at_double_colon (text ++ rest) ≡ behind text (at_double_colon rest)
behind_plain [] rest are = behind_nothing (at_double_colon rest)
behind_plain (x ∷ text) rest are = behind_one x (text ++ rest) are.0 ∙ (ap (behind (x ∷ [])) (behind_plain text rest are.1) ∙ behind_behind (x ∷ []) text (at_double_colon rest))

-- groups, and what comes behind them: nothing, or two colons
behind_groups : (n : ℕ) (groups rest : List ℕ) → AreGroups (n ∷ groups) → at_double_colon (joined_text (n ∷ groups) ++ rest) ≡ behind (joined_text (n ∷ groups)) (at_double_colon rest)
behind_groups n [] rest are = behind_plain (group_text n) rest (group_plain n are.0).apart
behind_groups n (next ∷ groups) rest are =
    let b = joined_begins next groups are.1 in
    let later = behind_groups next groups rest are.1 in
    ap at_double_colon (append_assoc (group_text n) (58 ∷ joined_text (next ∷ groups)) rest)
    ∙ (behind_plain (group_text n) (58 ∷ joined_text (next ∷ groups) ++ rest) (group_plain n are.0).apart
    ∙ (ap (behind (group_text n)) (colon (joined_text (next ∷ groups) ++ rest) b.first (b.rest ++ rest) (ap (λ t. t ++ rest) b.is) b.apart ∙ ap (behind (58 ∷ [])) later)
    ∙ (ap (behind (group_text n)) (behind_behind (58 ∷ []) (joined_text (next ∷ groups)) (at_double_colon rest))
    ∙ behind_behind (group_text n) (58 ∷ joined_text (next ∷ groups)) (at_double_colon rest))))
  where
    colon : (text : List ℕ) (y : ℕ) (more : List ℕ) → text ≡ y ∷ more → (y == 58) ≡ false → at_double_colon (58 ∷ text) ≡ behind (58 ∷ []) (at_double_colon text)
    colon text y more is apart = subst (λ t. at_double_colon (58 ∷ t) ≡ behind (58 ∷ []) (at_double_colon t)) (sym is) (behind_colon y more apart)

no_double : (n : ℕ) (groups : List ℕ) → AreGroups (n ∷ groups) → at_double_colon (joined_text (n ∷ groups)) ≡ None
no_double n groups are = ap at_double_colon (sym (append-nil (joined_text (n ∷ groups)))) ∙ behind_groups n groups [] are

double : (front : List ℕ) (back : List ℕ) → AreGroups front → at_double_colon (joined_text front ++ 58 ∷ 58 ∷ back) ≡ Some (joined_text front, back)
double [] back are = refl
double (n ∷ front) back are = behind_groups n front (58 ∷ 58 ∷ back) are ∙ ap (λ t. Some (t, back)) (append-nil (joined_text (n ∷ front)))

-- a run of zeros
record IsRun (groups : List ℕ) (before len : ℕ) : Type 0 where
  parts : groups ≡ take before groups ++ (replicate len 0 ++ drop (before + len) groups)
  count : length (take before groups) + length (drop (before + len) groups) + len ≡ length groups

zeros_are : (groups : List ℕ) → groups ≡ replicate (zeros_first groups) 0 ++ drop (zeros_first groups) groups
zeros_are [] = refl
zeros_are (n ∷ groups) = elim (cases_Bool (n == 0)) [
  | inl zero_group ↦
      let z : n ≡ 0 = eqb-true n 0 zero_group in
      rw zero_group (more groups n z (zeros_first groups) (zeros_are groups))
  | inr other ↦ rw other refl
]
  where
    more : (rest : List ℕ) (m : ℕ) → m ≡ 0 → (k : ℕ) → rest ≡ replicate k 0 ++ drop k rest → m ∷ rest ≡ replicate (k + 1) 0 ++ drop (k + 1) (m ∷ rest)
    more rest m z k are = subst (λ j. m ∷ rest ≡ replicate j 0 ++ drop j (m ∷ rest)) (let e : suc k ≡ k + 1 = omega arith in e) (ap₂ (λ a b. a ∷ b) z are)

shift : (n : ℕ) (groups : List ℕ) (before len : ℕ) → IsRun groups before len → IsRun (n ∷ groups) (before + 1) len
shift n groups before len is =
    let first : suc before ≡ before + 1 = omega arith in
    let second : suc (before + len) ≡ before + 1 + len = omega arith in
    let count = is.count in
    record {
      parts = subst (λ b. n ∷ groups ≡ take b (n ∷ groups) ++ (replicate len 0 ++ drop (before + 1 + len) (n ∷ groups))) first
          (subst (λ d. n ∷ groups ≡ take (suc before) (n ∷ groups) ++ (replicate len 0 ++ drop d (n ∷ groups))) second (ap (λ rest. n ∷ rest) is.parts));
      count = subst (λ b. length (take b (n ∷ groups)) + length (drop (before + 1 + len) (n ∷ groups)) + len ≡ suc (length groups)) first
          (subst (λ d. suc (length (take before groups)) + length (drop d (n ∷ groups)) + len ≡ suc (length groups)) second (omega arith));
    }

first_run : (groups : List ℕ) → IsRun groups 0 (zeros_first groups)
first_run groups =
    let z = zeros_first groups in
    let are = zeros_are groups in
    let same : z ≡ 0 + z = omega arith in
    let size = ap length are ∙ length-append (replicate z 0) (drop z groups) in
    let zeros = length-replicate {A = ℕ} z 0 in
    record {
      parts = subst (λ d. groups ≡ replicate z 0 ++ drop d groups) same are;
      count = subst (λ d. 0 + length (drop d groups) + z ≡ length groups) same (omega arith);
    }

-- the longest run is one
record IsPlaced (place : ℕ) (groups : List ℕ) (run : ZeroRun) : Type 0 where
  at : ℕ
  before_is : run.before ≡ place + at
  is : IsRun groups at run.len

longer : (place : ℕ) (groups : List ℕ) (here later : ZeroRun) → IsPlaced place groups here → IsPlaced place groups later → IsPlaced place groups (longer_run here later)
longer place groups here later first second = elim (cases_Bool (nat_lt here.len later.len)) [
  | inl less ↦ subst (IsPlaced place groups) (sym (cond-true (nat_lt here.len later.len) later here less)) second
  | inr more ↦ subst (IsPlaced place groups) (sym (cond-false (nat_lt here.len later.len) later here more)) first
]

longest_placed : (groups : List ℕ) (place : ℕ) → IsPlaced place groups (longest_run place groups)
longest_placed [] place = record { at = 0; before_is = (let e : place ≡ place + 0 = omega arith in e); is = record { parts = refl; count = refl } }
longest_placed (n ∷ groups) place =
    let later = longest_placed groups (place + 1) in
    let start = later.before_is in
    longer place (n ∷ groups) (record { before = place; len = zeros_first (n ∷ groups) }) (longest_run (place + 1) groups)
    (record { at = 0; before_is = (let e : place ≡ place + 0 = omega arith in e); is = first_run (n ∷ groups) })
    (record { at = later.at + 1; before_is = (let e : (longest_run (place + 1) groups).before ≡ place + (later.at + 1) = omega arith in e); is = shift n groups later.at (longest_run (place + 1) groups).len later.is })

-- parts of groups are groups
groups_front : (k : ℕ) (groups : List ℕ) → AreGroups groups → AreGroups (take k groups)
groups_front zero groups are = tt
groups_front (suc k) [] are = tt
groups_front (suc k) (n ∷ groups) are = (are.0, groups_front k groups are.1)

groups_back_part : (k : ℕ) (groups : List ℕ) → AreGroups groups → AreGroups (drop k groups)
groups_back_part zero groups are = are
groups_back_part (suc k) [] are = tt
groups_back_part (suc k) (n ∷ groups) are = groups_back_part k groups are.1

-- eight groups, however they are shortened
shortened_back : (first : ℕ) (rest : List ℕ) (run : ZeroRun) → AreGroups (first ∷ rest) → length (first ∷ rest) ≡ 8 → IsRun (first ∷ rest) run.before run.len
    → ipv6_number (shortened_text (first ∷ rest) run) ≡ Some (address_value (first ∷ rest))
shortened_back first rest run are eight is = elim (cases_lt run.len 2) [
  | inl short ↦ rw (lt-ltb run.len 2 short)
      (ap (number_by_parts (joined_text groups)) (no_double first rest are) ∙ (ap (option_and_then eight_groups) (groups_back groups are) ∙ rw eight refl))
  | inr long ↦ rw (le-ltb run.len 2 long)
      (ap (number_by_parts (joined_text front ++ 58 ∷ 58 ∷ joined_text back)) (double front (joined_text back) (groups_front run.before groups are))
      ∙ (ap (λ f. option_and_then (λ before. option_and_then (joined_groups before) (groups_of (joined_text back))) f) (groups_back front (groups_front run.before groups are))
      ∙ (ap (λ b. option_and_then (joined_groups front) b) (groups_back back (groups_back_part (run.before + run.len) groups are)) ∙ joined long)))
]
  where
    groups : List ℕ
    groups = first ∷ rest

    front : List ℕ
    front = take run.before groups

    back : List ℕ
    back = drop (run.before + run.len) groups

    joined : 2 ≤ run.len → joined_groups front back ≡ Some (address_value groups)
    joined long =
        let count = is.count in
        let few : length front + length back ≤ 7 = omega arith in
        let missing : 8 - (length front + length back) ≡ run.len = omega arith in
        rw (le-leb (length front + length back) 7 few) (rw missing (ap (λ some. Some (address_value some)) (append_assoc front (replicate run.len 0) back ∙ sym is.parts)))

-- the groups of a number
groups_are : (a : ℕ) → AreGroups (groups_of_number a)
groups_are a = (omega arith, (omega arith, (omega arith, (omega arith, (omega arith, (omega arith, (omega arith, (omega arith, tt))))))))

value_back : (a : ℕ) → a < 2 ^ 128 → address_value (groups_of_number a) ≡ a
value_back a small =
    let q7 : a / 2 ^ 112 < 65536 = shr_below a 16 112 small in
    let s6 : a / 2 ^ 96 / 65536 ≡ a / 2 ^ 112 = shr-shr a 96 16 in
    let s5 : a / 2 ^ 80 / 65536 ≡ a / 2 ^ 96 = shr-shr a 80 16 in
    let s4 : a / 2 ^ 64 / 65536 ≡ a / 2 ^ 80 = shr-shr a 64 16 in
    let s3 : a / 2 ^ 48 / 65536 ≡ a / 2 ^ 64 = shr-shr a 48 16 in
    let s2 : a / 2 ^ 32 / 65536 ≡ a / 2 ^ 48 = shr-shr a 32 16 in
    let s1 : a / 2 ^ 16 / 65536 ≡ a / 2 ^ 32 = shr-shr a 16 16 in
    joined (a / 2 ^ 112) (a / 2 ^ 96) (a / 2 ^ 80) (a / 2 ^ 64) (a / 2 ^ 48) (a / 2 ^ 32) (a / 2 ^ 16) a q7 s6 s5 s4 s3 s2 s1 refl
  where
    joined : (g f e d c b h n : ℕ) → g < 65536 → f / 65536 ≡ g → e / 65536 ≡ f → d / 65536 ≡ e → c / 65536 ≡ d → b / 65536 ≡ c → h / 65536 ≡ b → n / 65536 ≡ h
        → (((((((0 * 65536 + g % 65536) * 65536 + f % 65536) * 65536 + e % 65536) * 65536 + d % 65536) * 65536 + c % 65536) * 65536 + b % 65536) * 65536 + h % 65536) * 65536 + n % 65536 ≡ n
    joined g f e d c b h n small s6 s5 s4 s3 s2 s1 s0 = omega arith

-- What is printed is read back.
pub ipv6_round_trip : (a : ℕ) → a < 2 ^ 128 → ipv6_number (ipv6_text a) ≡ Some a
ipv6_round_trip a small =
    let run = longest_placed (groups_of_number a) 0 in
    let start : (longest_run 0 (groups_of_number a)).before ≡ run.at = let e = run.before_is in omega arith in
    shortened_back _ _ (longest_run 0 (groups_of_number a)) (groups_are a) refl
    (subst (λ b. IsRun (groups_of_number a) b (longest_run 0 (groups_of_number a)).len) (sym start) run.is)
    ∙ ap Some (value_back a small)
