-- What a scan comes to.
use Rattle.std.proofs.Common.{◌≡◌, ◌<◌, ◌≤◌, ◌+◌, ◌-◌, ℕ, Bool, true, false, cond, suc, IsTrue, List, [], ◌∷◌, ◌++◌, length, take, drop, get_or, refl, ap, sym, ◌∙◌, arith, length-take, length-drop, subst}
use Rattle.std.specs.List.{AllByRecursion, prefix_len}
use Rattle.std.proofs.Math.Seq.{take-add}
use Rattle.std.proofs.lemmas.List.{get_or-take, get_or-drop, take-append-drop, take-append-le}
use Rattle.std.proofs.lemmas.List.Sums.{prefix_len-le-length, prefix_len_stops}
use Rattle.script_lines.specs.Reader.{is_of_line}
use Rattle.script_lines.specs.Scan.{IsScanned}

plain-append : (line more : List ℕ) → AllByRecursion (λ byte. IsTrue (is_of_line byte)) line → AllByRecursion (λ byte. IsTrue (is_of_line byte)) more → AllByRecursion (λ byte. IsTrue (is_of_line byte)) (line ++ more)
plain-append [] more h good = good
plain-append (x ∷ line) more h good = (h.0, plain-append line more h.1 good)

plain-step : (x : ℕ) (xs : List ℕ) (passes : Bool) → is_of_line x ≡ passes → AllByRecursion (λ byte. IsTrue (is_of_line byte)) (take (prefix_len (λ byte. is_of_line byte) xs) xs)
    → AllByRecursion (λ byte. IsTrue (is_of_line byte)) (take (cond passes (1 + prefix_len (λ byte. is_of_line byte) xs) 0) (x ∷ xs))
plain-step x xs true e h =
    let more : 1 + prefix_len (λ byte. is_of_line byte) xs ≡ suc (prefix_len (λ byte. is_of_line byte) xs) = omega arith in
    rw more (e, h)
plain-step x xs false e h = tt

-- the bytes up to the first one that doesn't pass
plain-front : (xs : List ℕ) → AllByRecursion (λ byte. IsTrue (is_of_line byte)) (take (prefix_len (λ byte. is_of_line byte) xs) xs)
plain-front [] = tt
plain-front (x ∷ xs) = plain-step x xs (is_of_line x) refl (plain-front xs)

take-within : (xs : List ℕ) (m k : ℕ) → m ≤ length (take k xs) → take m xs ≡ take m (take k xs)
take-within xs m k le = ap (take m) (sym (take-append-drop k xs)) ∙ take-append-le m (take k xs) (drop k xs) le

pub scan-within : (held : List ℕ) (scanned most : ℕ) → scanned ≤ most → scanned + prefix_len (λ byte. is_of_line byte) (take (most - scanned) (drop scanned held)) ≤ most
scan-within held scanned most le =
    let rest = take (most - scanned) (drop scanned held) in
    let some : prefix_len (λ byte. is_of_line byte) rest ≤ length rest = prefix_len-le-length (λ byte. is_of_line byte) rest in
    let long : length rest ≤ most - scanned = simp length-take (omega arith) in
    omega arith

-- a scan goes on to the first byte that is no part of a line, within the limits
pub scan-front : (held : List ℕ) (scanned most before : ℕ) → IsScanned held scanned before → scanned ≤ most → most ≤ length held → most ≤ 512 → before + most ≤ 268435456
    → IsScanned held (scanned + prefix_len (λ byte. is_of_line byte) (take (most - scanned) (drop scanned held))) before
scan-front held scanned most before is le there short within =
    let rest = take (most - scanned) (drop scanned held) in
    let m = prefix_len (λ byte. is_of_line byte) rest in
    let some : m ≤ length rest = prefix_len-le-length (λ byte. is_of_line byte) rest in
    let long : length rest ≡ most - scanned = simp (length-take, length-drop) (omega arith) in
    let all : take (scanned + m) held ≡ take scanned held ++ take m rest = take-add scanned m held ∙ ap (λ l. take scanned held ++ l) (take-within (drop scanned held) m (most - scanned) some) in
    let n : length (take (scanned + m) held) ≡ scanned + m = simp length-take (omega arith) in
    record {
      one_line = record {
        plain = subst (AllByRecursion (λ byte. IsTrue (is_of_line byte))) (sym all) (plain-append (take scanned held) (take m rest) is.one_line.plain (plain-front rest));
        fits = omega arith;
        within = omega arith;
      };
      there = omega arith;
    }

-- where it stops short of them, that byte stands there
pub scan-other : (held : List ℕ) (scanned most : ℕ) → scanned ≤ most → most ≤ length held
    → scanned + prefix_len (λ byte. is_of_line byte) (take (most - scanned) (drop scanned held)) < most
    → is_of_line (get_or held (scanned + prefix_len (λ byte. is_of_line byte) (take (most - scanned) (drop scanned held))) 0) ≡ false
scan-other held scanned most le there short =
    let rest = take (most - scanned) (drop scanned held) in
    let m = prefix_len (λ byte. is_of_line byte) rest in
    let long : length rest ≡ most - scanned = simp (length-take, length-drop) (omega arith) in
    let less : m < length rest = omega arith in
    let within : m < most - scanned = omega arith in
    let read : get_or rest m 0 ≡ get_or held (scanned + m) 0 = get_or-take (most - scanned) (drop scanned held) m 0 within ∙ get_or-drop scanned held m 0 in
    ap is_of_line (sym read) ∙ prefix_len_stops (λ byte. is_of_line byte) rest 0 less
