-- Numbers rise, and those that are kept are the ones that were given.
use Rattle.std.proofs.Common.{◌≡◌, ◌<◌, ◌≤◌, ◌+◌, ◌-◌, ◌*◌, ◌/◌, ◌%◌, ℕ, zero, suc, Bool, true, false, cond, Option, Some, None, List, [], ◌∷◌, ◌++◌, length, drop, refl, sym, ap, ◌∙◌, arith, subst, length-append}
use Rattle.std.specs.Prelude.{nat_le, map}
use Rattle.std.proofs.lemmas.Bool.{le-leb, lt-leb, leb-true, leb-false}
use Rattle.std.proofs.lemmas.List.{drop_at, drop_all, drop_more}
use Rattle.std.proofs.Math.Nat.{mul-le-mul_left}
use Rattle.std.proofs.lemmas.Nat.{div-add-mod', div_below, le-div}
use Rattle.kept_numbers.specs.Laws.{AreKept, HasRoom, Rises}
use Rattle.kept_numbers.specs.Numbered.{numbered, spread, spread_before, tens}

-- ---- parts of what lies between two numbers

-- by plain numbers
one-more : (q p r b g : ℕ) → q * p + r ≡ b → p ≤ g → (q + 1) * p ≤ b + g
one-more q p r b g is le = omega (arith, is, le)

next-part : (gap parts before : ℕ) → 0 < parts → parts ≤ gap → gap * before / parts < gap * (before + 1) / parts
next-part gap parts before some room =
    let more : (gap * before / parts + 1) * parts ≤ gap * before + gap =
    one-more (gap * before / parts) parts (gap * before % parts) (gap * before) gap (div-add-mod' (gap * before) parts) room in
    let least : gap * before / parts + 1 ≤ (gap * before + gap) / parts = le-div (gap * before / parts + 1) (gap * before + gap) parts some more in
    subst (λ (n : ℕ). gap * before / parts < n / parts) (whole gap before) (above (gap * before / parts) ((gap * before + gap) / parts) least)
  where
    whole : (g b : ℕ) → g * b + g ≡ g * (b + 1)
    whole g b = omega arith

    above : (a b : ℕ) → a + 1 ≤ b → a < b
    above a b le = omega (arith, le)

pub part-below : (gap parts before : ℕ) → 0 < gap → before < parts → gap * before / parts < gap
part-below gap parts before some below =
    div_below (gap * before) parts gap (omega (arith, below)) (under (gap * before) gap (gap * parts) some (subst (λ (n : ℕ). n ≤ gap * parts) (whole gap before) (mul-le-mul_left gap (next before parts below))))
  where
    whole : (g b : ℕ) → g * (b + 1) ≡ g * b + g
    whole g b = omega arith

    next : (a b : ℕ) → a < b → a + 1 ≤ b
    next a b lt = omega (arith, lt)

    under : (a g b : ℕ) → 0 < g → a + g ≤ b → a < b
    under a g b lt le = omega (arith, lt, le)

spread-rises : (low gap parts before count : ℕ) (rest : List ℕ) → 0 < parts → parts ≤ gap → before + 1 + count ≡ parts → low + gap ≤ 4294967295 → Rises (low + gap) rest
    → Rises (low + gap * before / parts) (spread low gap parts (before + 1) count ++ ((low + gap) ∷ rest))
spread-rises low gap parts before zero rest some room all top rises =
    (up low (gap * before / parts) gap (part-below gap parts before (omega (arith, some, room)) (omega (arith, all))), top, rises)
  where
    up : (l a b : ℕ) → a < b → l + a < l + b
    up l a b lt = omega (arith, lt)
spread-rises low gap parts before (suc count) rest some room all top rises = (
  up low (gap * before / parts) (gap * (before + 1) / parts) (next-part gap parts before some room),
  within low (gap * (before + 1) / parts) gap (part-below gap parts (before + 1) (omega (arith, some, room)) (omega (arith, all))) top,
  spread-rises low gap parts (before + 1) count rest some room (omega (arith, all)) top rises,
)
  where
    up : (l a b : ℕ) → a < b → l + a < l + b
    up l a b lt = omega (arith, lt)

    within : (l a b : ℕ) → a < b → l + b ≤ 4294967295 → l + a ≤ 4294967295
    within l a b lt le = omega (arith, lt, le)

pub length-spread : (low gap parts part count : ℕ) → length (spread low gap parts part count) ≡ count
length-spread low gap parts part zero = refl
length-spread low gap parts part (suc count) = let behind : length (spread low gap parts (part + 1) count) ≡ count = length-spread low gap parts (part + 1) count in omega (arith, behind)

-- ---- tens

pub length-tens : (first count : ℕ) → length (tens first count) ≡ count
length-tens first zero = refl
length-tens first (suc count) = let behind : length (tens (first + 10) count) ≡ count = length-tens (first + 10) count in omega (arith, behind)

pub tens-rise : (low count : ℕ) → low + 10 * count ≤ 4294967295 → Rises low (tens (low + 10) count)
tens-rise low zero top = tt
tens-rise low (suc count) top = (omega arith, omega arith, tens-rise (low + 10) count (omega arith))

-- ---- what is numbered

-- a choice that has something
some-if : {X : Type 0} → (b : Bool) (x : Option X) (y : X) → cond b x None ≡ Some y → (b ≡ true) × (x ≡ Some y)
some-if true x y is = (refl, is)
some-if false x y is = absurd (cc)

some-else : {X : Type 0} → (b : Bool) (x : Option X) (y : X) → cond b None x ≡ Some y → (b ≡ false) × (x ≡ Some y)
some-else true x y is = absurd (cc)
some-else false x y is = (refl, is)

the-same : {X : Type 0} → (x y : X) → Some x ≡ Some y → x ≡ y
the-same x y is = cc

before-some : (low number wait : ℕ) (found : Option (List ℕ)) (numbers : List ℕ) → spread_before low number wait found ≡ Some numbers
    → (rest : List ℕ) × (found ≡ Some rest) × (numbers ≡ spread low (number - low) (wait + 1) 1 wait ++ (number ∷ rest))
before-some low number wait None numbers is = absurd (cc)
before-some low number wait (Some rest) numbers is = (rest, refl, sym (the-same _ _ is))

-- what stands behind a line that is given
record Given (low wait number : ℕ) (marks : List (Option ℕ)) (numbers : List ℕ) : Type 0 where
  rest : List ℕ
  room : low + wait < number
  found : numbered number 0 marks ≡ Some rest
  numbers_are : numbers ≡ spread low (number - low) (wait + 1) 1 wait ++ (number ∷ rest)

given-of : (low wait number : ℕ) (marks : List (Option ℕ)) (numbers : List ℕ) → numbered low wait (Some number ∷ marks) ≡ Some numbers → Given low wait number marks numbers
given-of low wait number marks numbers is =
    let chosen = some-else (nat_le number (low + wait)) (spread_before low number wait (numbered number 0 marks)) numbers is in
    let behind = before-some low number wait (numbered number 0 marks) numbers (chosen.1) in
    record { rest = behind.0; room = leb-false number (low + wait) (chosen.0); found = behind.1; numbers_are = behind.2 }

end-of : (low wait : ℕ) (numbers : List ℕ) → numbered low wait [] ≡ Some numbers → (low + 10 * wait ≤ 4294967295) × (numbers ≡ tens (low + 10) wait)
end-of low wait numbers is =
    let chosen = some-if (nat_le (low + 10 * wait) 4294967295) (Some (tens (low + 10) wait)) numbers is in
    (leb-true (low + 10 * wait) 4294967295 (chosen.0), sym (the-same _ _ (chosen.1)))

-- marks are numbers that a line can have
abbrev pub AreTops : List (Option ℕ) → Type 0
AreTops [] = Unit {0}
AreTops (None ∷ marks) = AreTops marks
AreTops (Some number ∷ marks) = (number ≤ 4294967295) × AreTops marks

pub numbered-rises : (low wait : ℕ) (marks : List (Option ℕ)) (numbers : List ℕ) → AreTops marks → numbered low wait marks ≡ Some numbers → Rises low numbers
numbered-rises low wait [] numbers tops is =
    let end = end-of low wait numbers is in subst (λ (l : List ℕ). Rises low l) (sym end.1) (tens-rise low wait end.0)
numbered-rises low wait (None ∷ marks) numbers tops is = numbered-rises low (wait + 1) marks numbers tops is
numbered-rises low wait (Some number ∷ marks) numbers tops is =
    let given = given-of low wait number marks numbers is in
    let room : low + wait < number = given.room in
    let behind : Rises number given.rest = numbered-rises number 0 marks given.rest tops.1 given.found in
    let sum : low + (number - low) ≡ number = omega (arith, room) in
    let first : low + (number - low) * 0 / (wait + 1) ≡ low = ap (λ n. low + n / (wait + 1)) (mul-nothing (number - low)) ∙ no-part low wait in
    let rises : Rises (low + (number - low) * 0 / (wait + 1)) (spread low (number - low) (wait + 1) (0 + 1) wait ++ ((low + (number - low)) ∷ given.rest)) =
    spread-rises low (number - low) (wait + 1) 0 wait given.rest (omega arith) (omega (arith, room)) (omega arith) (subst (λ (n : ℕ). n ≤ 4294967295) (sym sum) tops.0)
    (subst (λ (n : ℕ). Rises n given.rest) (sym sum) behind) in
    subst (λ (l : List ℕ). Rises low l) (sym given.numbers_are)
    (subst (λ (n : ℕ). Rises n (spread low (number - low) (wait + 1) 1 wait ++ (number ∷ given.rest))) first
    (subst (λ (n : ℕ). Rises (low + (number - low) * 0 / (wait + 1)) (spread low (number - low) (wait + 1) 1 wait ++ (n ∷ given.rest))) sum rises))
  where
    mul-nothing : (n : ℕ) → n * 0 ≡ 0
    mul-nothing n = omega arith

    tiny : (n z : ℕ) → z < 1 → n + z ≡ n
    tiny n z lt = omega (arith, lt)

    no-part : (n wait : ℕ) → n + 0 / (wait + 1) ≡ n
    no-part n wait = tiny n (0 / (wait + 1)) (div_below 0 (wait + 1) 1 (omega arith) (omega arith))

pub numbered-length : (low wait : ℕ) (marks : List (Option ℕ)) (numbers : List ℕ) → numbered low wait marks ≡ Some numbers → length numbers ≡ wait + length marks
numbered-length low wait [] numbers is =
    let end = end-of low wait numbers is in
    let many : length (tens (low + 10) wait) ≡ wait = length-tens (low + 10) wait in
    ap (λ (l : List ℕ). length l) end.1 ∙ omega (arith, many)
numbered-length low wait (None ∷ marks) numbers is =
    let behind : length numbers ≡ wait + 1 + length marks = numbered-length low (wait + 1) marks numbers is in omega (arith, behind)
numbered-length low wait (Some number ∷ marks) numbers is =
    let given = given-of low wait number marks numbers is in
    let behind : length given.rest ≡ 0 + length marks = numbered-length number 0 marks given.rest given.found in
    let front : length (spread low (number - low) (wait + 1) 1 wait) ≡ wait = length-spread low (number - low) (wait + 1) 1 wait in
    ap (λ (l : List ℕ). length l) given.numbers_are ∙ length-append (spread low (number - low) (wait + 1) 1 wait) (number ∷ given.rest) ∙ omega (arith, front, behind)

pub numbered-kept : (low wait : ℕ) (marks : List (Option ℕ)) (numbers : List ℕ) → numbered low wait marks ≡ Some numbers → AreKept marks (drop wait numbers)
numbered-kept low wait [] numbers is =
    let end = end-of low wait numbers is in
    subst (λ (l : List ℕ). AreKept [] (drop wait l)) (sym end.1) (subst (λ (l : List ℕ). AreKept [] l) (sym (drop_all wait (tens (low + 10) wait) (omega (arith, length-tens (low + 10) wait)))) tt)
numbered-kept low wait (None ∷ marks) numbers is =
    let many : length numbers ≡ wait + 1 + length marks = numbered-length low (wait + 1) marks numbers is in
    subst (λ (l : List ℕ). AreKept (None ∷ marks) l) (sym (drop_more numbers wait 0 (omega (arith, many)))) (tt, numbered-kept low (wait + 1) marks numbers is)
numbered-kept low wait (Some number ∷ marks) numbers is =
    let given = given-of low wait number marks numbers is in
    let behind : drop wait numbers ≡ number ∷ given.rest =
    ap (λ (l : List ℕ). drop wait l) given.numbers_are ∙ drop_at (spread low (number - low) (wait + 1) 1 wait) (number ∷ given.rest) wait (length-spread low (number - low) (wait + 1) 1 wait) in
    subst (λ (l : List ℕ). AreKept (Some number ∷ marks) l) (sym behind) (refl, numbered-kept number 0 marks given.rest given.found)

-- ---- room

pub numbered-room : (low wait : ℕ) (marks : List (Option ℕ)) (numbers : List ℕ) → numbered low wait marks ≡ Some numbers → HasRoom low wait marks
numbered-room low wait [] numbers is = (end-of low wait numbers is).0
numbered-room low wait (None ∷ marks) numbers is = numbered-room low (wait + 1) marks numbers is
numbered-room low wait (Some number ∷ marks) numbers is =
    let given = given-of low wait number marks numbers is in
    (given.room, numbered-room number 0 marks given.rest given.found)

pub room-numbered : (low wait : ℕ) (marks : List (Option ℕ)) → HasRoom low wait marks → (numbers : List ℕ) × (numbered low wait marks ≡ Some numbers)
room-numbered low wait [] room =
    (tens (low + 10) wait, ap (λ b. cond b (Some (tens (low + 10) wait)) None) (le-leb (low + 10 * wait) 4294967295 room))
room-numbered low wait (None ∷ marks) room = room-numbered low (wait + 1) marks room
room-numbered low wait (Some number ∷ marks) room =
    let behind = room-numbered number 0 marks room.1 in (
      spread low (number - low) (wait + 1) 1 wait ++ (number ∷ behind.0),
      ap (λ b. cond b None (spread_before low number wait (numbered number 0 marks))) (lt-leb number (low + wait) room.0)
          ∙ ap (λ o. spread_before low number wait o) behind.1,
    )

-- ---- numbers that are all given

abbrev pub all_given : List ℕ → List (Option ℕ)
all_given numbers = map (λ number. Some number) numbers

pub given-again : (low : ℕ) (numbers : List ℕ) → low ≤ 4294967295 → Rises low numbers → numbered low 0 (all_given numbers) ≡ Some numbers
given-again low [] top rises =
    ap (λ b. cond b (Some (tens (low + 10) 0)) None) (le-leb (low + 10 * 0) 4294967295 (omega arith))
given-again low (number ∷ numbers) top rises =
    let first : low < number = rises.0 in
    ap (λ b. cond b None (spread_before low number 0 (numbered number 0 (all_given numbers)))) (lt-leb number (low + 0) (omega (arith, first)))
    ∙ ap (λ o. spread_before low number 0 o) (given-again number numbers rises.1 rises.2)
