-- Messages, part by part.
use Rattle.std.proofs.Common.{suc, zero, ◌≡◌, ◌≢◌, ◌<◌, ◌-◌, ◌+◌, ◌==◌, ℕ, Bool, true, false, cond, Option, Some, None, Result, Ok, Err, List, [], ◌∷◌, ◌++◌, length, drop, refl, sym, ap, ◌∙◌, subst, append_assoc, append-nil, eq-eqb, ne_eqb, arith}
use Rattle.rule_model.specs.declared.IpVersion.{IpVersion}
use Rattle.fpm_routes.specs.declared.why.Unsaid.{Unsaid}
use Rattle.fpm_routes.specs.declared.why.Why.TheVariants as why
use Rattle.fpm_routes.specs.declared.attributes.Place.{Place}
use Rattle.fpm_routes.specs.declared.attributes.Place.TheVariants as place
use Rattle.fpm_routes.specs.Bytes.{Part, four_at, is_done, is_short, part_of, two_at}
use Rattle.fpm_routes.specs.Attributes.{Attribute, attribute_of, before_rest, check, check_by, check_first, found_in, find_by, only_once, unsaid}
use Rattle.fpm_routes.specs.Ways.{IsMade, before, group_by, group_member, member_by, member_text, members_at, members_by}
use Rattle.fpm_routes.specs.Changes.{Changing, changes_at, changes_by, message_change, onto_changes}
use Rattle.fpm_routes.specs.declared.changes.Change.{Change}
use Rattle.fpm_routes.specs.Views.{IsRead, change_of}

-- one less than one more
pred : (n : ℕ) → n ≡ suc n - 1
pred n = omega arith

-- ---- the attribute of a kind

module _ (kind : ℕ) (rest : List ℕ) where
  pub find-out : (left : ℕ) → left ≡ 0 → find_by left kind rest ≡ None
  find-out left none = ap (λ n. find_by n kind rest) none

  pub find-none : (left : ℕ) → attribute_of rest ≡ None → find_by left kind rest ≡ None
  find-none zero none = refl
  find-none (suc left) none = ap (λ a. found_in (find_by left kind) kind a) none

  pub find-here : (left : ℕ) (a : Attribute) → 0 < left → attribute_of rest ≡ Some a → a.kind ≡ kind → find_by left kind rest ≡ Some a.value
  find-here zero a some is same = absurd (omega (arith, some))
  find-here (suc left) a some is same =
      ap (λ x. found_in (find_by left kind) kind x) is ∙ ap (λ b. cond b (Some a.value) (find_by left kind a.rest)) (eq-eqb a.kind kind same)

  pub find-on : (left : ℕ) (a : Attribute) → 0 < left → attribute_of rest ≡ Some a → a.kind ≢ kind → find_by left kind rest ≡ find_by (left - 1) kind a.rest
  find-on zero a some is other = absurd (omega (arith, some))
  find-on (suc left) a some is other =
      ap (λ x. found_in (find_by left kind) kind x) is ∙ ap (λ b. cond b (Some a.value) (find_by left kind a.rest)) (ne_eqb a.kind kind other) ∙ ap (λ n. find_by n kind a.rest) (pred left)

-- ---- all attributes of a place

module _ (at : Place) (rest : List ℕ) where
  pub check-out : (left : ℕ) → left ≡ 0 → check_by left at rest ≡ Ok tt
  check-out left none = ap (λ n. check_by n at rest) none

  pub check-done : (left : ℕ) → is_done rest ≡ true → check_by left at rest ≡ Ok tt
  check-done zero done = refl
  check-done (suc left) done = ap (λ b. cond b (Ok tt) (check_first (check_by left at) at (two_at 0 rest) (attribute_of rest))) done

  check-some : (left : ℕ) (found : Option Attribute) → is_done rest ≡ false → attribute_of rest ≡ found → check_by (suc left) at rest ≡ check_first (check_by left at) at (two_at 0 rest) found
  check-some left found some is =
      ap (λ b. cond b (Ok tt) (check_first (check_by left at) at (two_at 0 rest) (attribute_of rest))) some ∙ ap (λ a. check_first (check_by left at) at (two_at 0 rest) a) is

  pub check-cut : (left : ℕ) → 0 < left → is_done rest ≡ false → attribute_of rest ≡ None → check_by left at rest ≡ unsaid why.Cut (two_at 0 rest)
  check-cut zero some other none = absurd (omega (arith, some))
  check-cut (suc left) some other none = check-some left None other none

  pub check-bad : (left : ℕ) (a : Attribute) (reason : Unsaid) → 0 < left → is_done rest ≡ false → attribute_of rest ≡ Some a → Err reason ≡ only_once at a → check_by left at rest ≡ Err reason
  check-bad zero a reason some other is bad = absurd (omega (arith, some))
  check-bad (suc left) a reason some other is bad = check-some left (Some a) other is ∙ ap (λ r. before_rest r (check_by left at a.rest)) (sym bad)

  pub check-on : (left : ℕ) (a : Attribute) → 0 < left → is_done rest ≡ false → attribute_of rest ≡ Some a → Ok tt ≡ only_once at a → check_by left at rest ≡ check_by (left - 1) at a.rest
  check-on zero a some other is good = absurd (omega (arith, some))
  check-on (suc left) a some other is good = check-some left (Some a) other is ∙ ap (λ r. before_rest r (check_by left at a.rest)) (sym good) ∙ ap (λ n. check_by n at a.rest) (pred left)

-- ---- what is made so far

pub record Making (A : Type 0) (total : Result (List A) Unsaid) (old new : List A) (rest : Result (List A) Unsaid) : Type 0 where
  pub more : List A
  pub grown : new ≡ old ++ more
  pub is : total ≡ before more rest

before-both : (A : Type 0) → (a b : List A) (r : Result (List A) Unsaid) → before a (before b r) ≡ before (a ++ b) r
before-both A a b (Ok more) = ap Ok (sym (append_assoc a b more))
before-both A a b (Err reason) = refl

before-none : (A : Type 0) → (r : Result (List A) Unsaid) → r ≡ before [] r
before-none A (Ok more) = refl
before-none A (Err reason) = refl

pub made-first : (A : Type 0) → (total : Result (List A) Unsaid) (old : List A) → Making A total old old total
made-first A total old = record { more = []; grown = sym (append-nil old); is = before-none A total }

module _ (A : Type 0) (total rest : Result (List A) Unsaid) (old new : List A) (was : Making A total old new rest) where
  pub made-done : rest ≡ Ok [] → IsMade A (Ok tt) old new total
  made-done none = (was.more, was.is ∙ ap (λ r. before was.more r) none ∙ ap Ok (append-nil was.more), was.grown)

  pub made-err : (reason : Unsaid) → rest ≡ Err reason → IsMade A (Err reason) old new total
  made-err reason bad = was.is ∙ ap (λ r. before was.more r) bad

  pub made-on : (new2 part : List A) (rest2 : Result (List A) Unsaid) → rest ≡ before part rest2 → new2 ≡ new ++ part → Making A total old new2 rest2
  made-on new2 part rest2 on put = record {
    more = was.more ++ part;
    grown = put ∙ ap (λ l. l ++ part) was.grown ∙ append_assoc old was.more part;
    is = was.is ∙ ap (λ r. before was.more r) on ∙ before-both A was.more part rest2;
  }

-- ---- members of a set

module _ (rest : List ℕ) where
  pub members-out : (left : ℕ) → left ≡ 0 → members_by left rest ≡ Ok []
  members-out left none = ap (λ n. members_by n rest) none

  pub members-done : (left : ℕ) → is_done rest ≡ true → members_by left rest ≡ Ok []
  members-done zero done = refl
  members-done (suc left) done = ap (λ b. cond b (Ok []) (members_at (members_by left) rest (part_of 8 (two_at 0 rest) rest))) done

  members-some : (left : ℕ) (found : Option Part) → is_done rest ≡ false → part_of 8 (two_at 0 rest) rest ≡ found → members_by (suc left) rest ≡ members_at (members_by left) rest found
  members-some left found some is =
      ap (λ b. cond b (Ok []) (members_at (members_by left) rest (part_of 8 (two_at 0 rest) rest))) some ∙ ap (λ p. members_at (members_by left) rest p) is

  pub members-cut : (left size : ℕ) → 0 < left → is_done rest ≡ false → part_of 8 (two_at 0 rest) rest ≡ None → size ≡ two_at 0 rest → members_by left rest ≡ Err (record { why = why.Cut; number = size })
  members-cut zero size some other none is = absurd (omega (arith, some))
  members-cut (suc left) size some other none is = members-some left None other none ∙ ap (λ n. Err (record { why = why.Cut; number = n })) (sym is)

  pub members-bad : (left : ℕ) (part : Part) (reason : Unsaid) → 0 < left → is_done rest ≡ false → part_of 8 (two_at 0 rest) rest ≡ Some part → Err reason ≡ check place.Member part.inside → members_by left rest ≡ Err reason
  members-bad zero part reason some other is bad = absurd (omega (arith, some))
  members-bad (suc left) part reason some other is bad =
      members-some left (Some part) other is ∙ ap (λ r. member_by r (member_text rest part.inside) (members_by left part.rest)) (sym bad)

  pub members-on : (left : ℕ) (part : Part) → 0 < left → is_done rest ≡ false → part_of 8 (two_at 0 rest) rest ≡ Some part → Ok tt ≡ check place.Member part.inside
      → members_by left rest ≡ before (member_text rest part.inside) (members_by (left - 1) part.rest)
  members-on zero part some other is good = absurd (omega (arith, some))
  members-on (suc left) part some other is good =
      members-some left (Some part) other is ∙ ap (λ r. member_by r (member_text rest part.inside) (members_by left part.rest)) (sym good)
      ∙ ap (λ n. before (member_text rest part.inside) (members_by n part.rest)) (pred left)

-- ---- members of a group

module _ (rest : List ℕ) where
  pub group-out : (left : ℕ) → left ≡ 0 → group_by left rest ≡ []
  group-out left none = ap (λ n. group_by n rest) none

  pub group-short : (left : ℕ) → is_short rest 8 ≡ true → group_by left rest ≡ []
  group-short zero short = refl
  group-short (suc left) short = ap (λ b. cond b [] (group_member rest ++ group_by left (drop 8 rest))) short

  pub group-on : (left : ℕ) → 0 < left → is_short rest 8 ≡ false → group_by left rest ≡ group_member rest ++ group_by (left - 1) (drop 8 rest)
  group-on zero some long = absurd (omega (arith, some))
  group-on (suc left) some long = ap (λ b. cond b [] (group_member rest ++ group_by left (drop 8 rest))) long ∙ ap (λ n. group_member rest ++ group_by n (drop 8 rest)) (pred left)

-- ---- messages

-- what was read of one, by the code's answer
pub read-ok : (result : Result Change Unsaid) (change : Change) (read : Result Changing Unsaid) → result ≡ Ok change → IsRead result read → read ≡ Ok (change_of change)
read-ok result change read is by = subst (λ r. IsRead r read) is by

pub read-err : (result : Result Change Unsaid) (reason : Unsaid) (read : Result Changing Unsaid) → result ≡ Err reason → IsRead result read → read ≡ Err reason
read-err result reason read is by = subst (λ r. IsRead r read) is by

module _ (version : IpVersion) (rest : List ℕ) where
  pub changes-out : (left : ℕ) → left ≡ 0 → changes_by left version rest ≡ Ok []
  changes-out left none = ap (λ n. changes_by n version rest) none

  pub changes-done : (left : ℕ) → is_done rest ≡ true → changes_by left version rest ≡ Ok []
  changes-done zero done = refl
  changes-done (suc left) done = ap (λ b. cond b (Ok []) (changes_at (changes_by left version) version rest (part_of 16 (four_at 0 rest) rest))) done

  changes-some : (left : ℕ) (found : Option Part) → is_done rest ≡ false → part_of 16 (four_at 0 rest) rest ≡ found → changes_by (suc left) version rest ≡ changes_at (changes_by left version) version rest found
  changes-some left found some is =
      ap (λ b. cond b (Ok []) (changes_at (changes_by left version) version rest (part_of 16 (four_at 0 rest) rest))) some ∙ ap (λ p. changes_at (changes_by left version) version rest p) is

  pub changes-cut : (left size : ℕ) → 0 < left → is_done rest ≡ false → part_of 16 (four_at 0 rest) rest ≡ None → size ≡ four_at 0 rest → changes_by left version rest ≡ Err (record { why = why.Cut; number = size })
  changes-cut zero size some other none is = absurd (omega (arith, some))
  changes-cut (suc left) size some other none is = changes-some left None other none ∙ ap (λ n. Err (record { why = why.Cut; number = n })) (sym is)

  pub changes-bad : (left : ℕ) (part : Part) (reason : Unsaid) → 0 < left → is_done rest ≡ false → part_of 16 (four_at 0 rest) rest ≡ Some part → message_change version (two_at 4 rest) part.inside ≡ Err reason
      → changes_by left version rest ≡ Err reason
  changes-bad zero part reason some other is bad = absurd (omega (arith, some))
  changes-bad (suc left) part reason some other is bad = changes-some left (Some part) other is ∙ ap (λ r. onto_changes r (changes_by left version part.rest)) bad

  pub changes-on : (left : ℕ) (part : Part) (change : Changing) → 0 < left → is_done rest ≡ false → part_of 16 (four_at 0 rest) rest ≡ Some part → message_change version (two_at 4 rest) part.inside ≡ Ok change
      → changes_by left version rest ≡ before (change ∷ []) (changes_by (left - 1) version part.rest)
  changes-on zero part change some other is good = absurd (omega (arith, some))
  changes-on (suc left) part change some other is good = changes-some left (Some part) other is ∙ ap (λ r. onto_changes r (changes_by left version part.rest)) good ∙ ap (λ n. before (change ∷ []) (changes_by n version part.rest)) (pred left)
