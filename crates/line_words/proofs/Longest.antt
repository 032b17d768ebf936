-- The run of zeros that is shortened is the longest one, the first of equals.
use Rattle.std.proofs.Common.{◌≡◌, ℕ, zero, suc, ◌+◌, ◌≤◌, ◌<◌, List, [], ◌∷◌, length, take, drop, replicate, inl, inr, refl, sym, ap₂, subst, arith, eqb-true, eq-eqb}
use Rattle.std.specs.Prelude.{◌==◌, nat_lt}
use Rattle.std.proofs.lemmas.Bool.{cases_Bool, cond-true, cond-false, ltb-true, ltb-false}
use Rattle.line_words.specs.declared.printed.ZeroRun.{ZeroRun}
use Rattle.line_words.specs.Shown.{zeros_first, longest_run, ShortensTheLongest}

-- so many zeros stand first
zeros_take : (groups : List ℕ) → take (zeros_first groups) groups ≡ replicate (zeros_first groups) 0
zeros_take [] = refl
zeros_take (n ∷ groups) = elim (cases_Bool (n == 0)) [
  | inl same ↦ rw same (more groups n (eqb-true n 0 same) (zeros_first groups) (zeros_take groups))
  | inr other ↦ rw other refl
]
  where
    more : (rest : List ℕ) (m : ℕ) → m ≡ 0 → (k : ℕ) → take k rest ≡ replicate k 0 → take (k + 1) (m ∷ rest) ≡ replicate (k + 1) 0
    more rest m z k are = subst (λ j. take j (m ∷ rest) ≡ replicate j 0) (let e : suc k ≡ k + 1 = omega arith in e) (ap₂ (λ a b. a ∷ b) z are)

zeros_inside : (groups : List ℕ) → zeros_first groups ≤ length groups
zeros_inside [] = omega arith
zeros_inside (n ∷ groups) = elim (cases_Bool (n == 0)) [
  | inl same ↦ let rest = zeros_inside groups in rw same (omega arith)
  | inr other ↦ rw other (omega arith)
]

-- and no more
zeros_most : (groups : List ℕ) (len : ℕ) → len ≤ length groups → take len groups ≡ replicate len 0 → len ≤ zeros_first groups
zeros_most groups zero inside are = omega arith
zeros_most [] (suc len) inside are = absurd (omega arith)
zeros_most (n ∷ groups) (suc len) inside are =
    let first : n ≡ 0 = cc in
    let rest : take len groups ≡ replicate len 0 = cc in
    let later = zeros_most groups len (omega arith) rest in
    rw (eq-eqb n 0 first) (omega arith)

-- a run, the longest and the first of equals, by its place and its length
record IsLongest (groups : List ℕ) (at len : ℕ) : Type 0 where
  inside : at + len ≤ length groups
  zeros : take len (drop at groups) ≡ replicate len 0
  longest : (b l : ℕ) → b + l ≤ length groups → take l (drop b groups) ≡ replicate l 0 → l ≤ len
  first : (b l : ℕ) → b < at → b + l ≤ length groups → take l (drop b groups) ≡ replicate l 0 → l < len

record IsPlaced (place : ℕ) (groups : List ℕ) (run : ZeroRun) : Type 0 where
  at : ℕ
  before_is : run.before ≡ place + at
  is : IsLongest groups at run.len

-- the run at the first place, where no later one is longer
here_longest : (n : ℕ) (groups : List ℕ) (at len : ℕ) → IsLongest groups at len → len ≤ zeros_first (n ∷ groups) → IsLongest (n ∷ groups) 0 (zeros_first (n ∷ groups))
here_longest n groups at len later most = record {
  inside = let e = zeros_inside (n ∷ groups) in omega arith;
  zeros = zeros_take (n ∷ groups);
  longest = other;
  first = λ b l before inside are. absurd (omega arith);
}
  where
    other : (b l : ℕ) → b + l ≤ length (n ∷ groups) → take l (drop b (n ∷ groups)) ≡ replicate l 0 → l ≤ zeros_first (n ∷ groups)
    other zero l inside are = zeros_most (n ∷ groups) l (omega arith) are
    other (suc b) l inside are = let k = later.longest b l (omega arith) are in omega arith

-- a later one that is longer
later_longest : (n : ℕ) (groups : List ℕ) (at len : ℕ) → IsLongest groups at len → zeros_first (n ∷ groups) < len → IsLongest (n ∷ groups) (at + 1) len
later_longest n groups at len later less = record {
  inside = let e = later.inside in omega arith;
  zeros = subst (λ k. take len (drop k (n ∷ groups)) ≡ replicate len 0) (let e : suc at ≡ at + 1 = omega arith in e) later.zeros;
  longest = other;
  first = earlier;
}
  where
    other : (b l : ℕ) → b + l ≤ length (n ∷ groups) → take l (drop b (n ∷ groups)) ≡ replicate l 0 → l ≤ len
    other zero l inside are = let k = zeros_most (n ∷ groups) l (omega arith) are in omega arith
    other (suc b) l inside are = later.longest b l (omega arith) are

    earlier : (b l : ℕ) → b < at + 1 → b + l ≤ length (n ∷ groups) → take l (drop b (n ∷ groups)) ≡ replicate l 0 → l < len
    earlier zero l before inside are = let k = zeros_most (n ∷ groups) l (omega arith) are in omega arith
    earlier (suc b) l before inside are = later.first b l (omega arith) (omega arith) are

placed : (groups : List ℕ) (place : ℕ) → IsPlaced place groups (longest_run place groups)
placed [] place = record {
  at = 0;
  before_is = (let e : place ≡ place + 0 = omega arith in e);
  is = record {
    inside = omega arith;
    zeros = refl;
    longest = λ b l inside are. omega arith;
    first = λ b l before inside are. absurd (omega arith);
  };
}
placed (n ∷ groups) place =
    let later = placed groups (place + 1) in
    let start = later.before_is in
    let next = longest_run (place + 1) groups in
    let here : ZeroRun = record { before = place; len = zeros_first (n ∷ groups) } in
    elim (cases_Bool (nat_lt (zeros_first (n ∷ groups)) next.len)) [
      | inl less ↦ subst (IsPlaced place (n ∷ groups)) (sym (cond-true (nat_lt (zeros_first (n ∷ groups)) next.len) next here less))
          (record { at = later.at + 1; before_is = (let e : next.before ≡ place + (later.at + 1) = omega arith in e); is = later_longest n groups later.at next.len later.is (ltb-true (zeros_first (n ∷ groups)) next.len less) })
      | inr more ↦ subst (IsPlaced place (n ∷ groups)) (sym (cond-false (nat_lt (zeros_first (n ∷ groups)) next.len) next here more))
          (record { at = 0; before_is = (let e : place ≡ place + 0 = omega arith in e); is = here_longest n groups later.at next.len later.is (ltb-false (zeros_first (n ∷ groups)) next.len more) })
    ]

pub shortens_the_longest : ShortensTheLongest
shortens_the_longest groups =
    let p = placed groups 0 in
    let start : p.at ≡ (longest_run 0 groups).before = let e = p.before_is in omega arith in
    let is = subst (λ at. IsLongest groups at (longest_run 0 groups).len) start p.is in
    record {
      inside = is.inside;
      zeros = is.zeros;
      longest = λ other inside are. is.longest other.before other.len inside are;
      first = λ other before inside are. is.first other.before other.len before inside are;
    }
