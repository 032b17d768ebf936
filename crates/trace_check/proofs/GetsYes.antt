-- An orderly trace gets yes.
use Rattle.std.proofs.Common.{◌≡◌, ℕ, ◌+◌, false, List, [], ◌∷◌, length, Option, Some, None, inl, inr, refl, sym, ap₂, ◌∙◌, subst, arith}
use Rattle.std.specs.Prelude.{option_map, option_and_then}
use Rattle.std.proofs.lemmas.Bool.{cases_Bool, cond-true, cond-false}
use Rattle.script_lines.specs.Lines.{NumberedLine, EndOfInput}
use Rattle.rule_model.specs.declared.IpVersion.{IpVersion}
use Rattle.trace_file.specs.declared.TraceLine.{TraceLine}
use Rattle.trace_file.specs.Lines.{trace_line}
use Rattle.trace_check.specs.declared.places.Place.TheVariants.{AtEnd}
use Rattle.trace_check.specs.Places.{kind_of}
use Rattle.trace_check.specs.Orderly.{traced_on, AllKeepOrder, Follow}
use Rattle.trace_check.specs.Hitless.{commits_in, trace_writes}
use Rattle.trace_check.specs.Answers.{Yes, Checking, unchecked, is_blank_line, past, taken, answer_at_end, TellsPlaced, TellsRead, TellsLine, Tells, version_after, trace_lines, OrderlyTracesGetYes}
use Rattle.trace_check.proofs.Yes.{IsCounted, counted, more_on, version_on}

-- what is read of lines with one more in front
record IsRead (version : IpVersion) (line : NumberedLine) (lines : List NumberedLine) (found : List TraceLine) : Type 0 where
  first : TraceLine
  rest : List TraceLine
  first_is : trace_line version line.text ≡ Some first
  rest_is : trace_lines (version_after version first) lines ≡ Some rest
  found_is : found ≡ first ∷ rest

read_first : (read : Option TraceLine) (later : TraceLine → Option (List TraceLine)) (found : List TraceLine) → option_and_then (λ one. option_map (λ rest. one ∷ rest) (later one)) read ≡ Some found
    → (first : TraceLine) × (rest : List TraceLine) × (read ≡ Some first) × (later first ≡ Some rest) × (found ≡ first ∷ rest)
read_first None later found same = absurd (cc)
read_first (Some first) later found same = by_rest (later first) refl same
  where
    by_rest : (rest : Option (List TraceLine)) → later first ≡ rest → option_map (λ rest. first ∷ rest) rest ≡ Some found
        → (one : TraceLine) × (rest : List TraceLine) × (Some first ≡ Some one) × (later one ≡ Some rest) × (found ≡ one ∷ rest)
    by_rest None is same = absurd (cc)
    by_rest (Some rest) is same = (first, rest, refl, is, cc)

is_read : (version : IpVersion) (line : NumberedLine) (lines : List NumberedLine) (found : List TraceLine) → is_blank_line line.text ≡ false → trace_lines version (line ∷ lines) ≡ Some found
    → IsRead version line lines found
is_read version line lines found written read =
    let w = read_first (trace_line version line.text) (λ one. trace_lines (version_after version one) lines) found
    (sym (cond-false (is_blank_line line.text) (trace_lines version lines) _ written) ∙ read) in
    record { first = w.0; rest = w.1; first_is = w.2; rest_is = w.3; found_is = w.4 }

tells_yes : (lines : List NumberedLine) (check : Checking) (found : List TraceLine) (commits writes : ℕ) → IsCounted check.place check.now → trace_lines check.now.version lines ≡ Some found
    → Follow check.now check.place found AtEnd → AllKeepOrder check.now found → commits ≡ check.now.accepted + length (commits_in check.now found) → writes ≡ check.now.writes + length (trace_writes found)
    → Tells check lines EndOfInput (Yes commits writes)
tells_yes [] check found commits writes start read follow keeps commits_are writes_are =
    let none : [] ≡ found = cc in
    let last : check.place ≡ AtEnd = subst (λ some. Follow check.now check.place some AtEnd) (sym none) follow in
    let c : commits ≡ check.now.accepted = (let e = subst (λ some. commits ≡ check.now.accepted + length (commits_in check.now some)) (sym none) commits_are in omega arith) in
    let w : writes ≡ check.now.writes = (let e = subst (λ some. writes ≡ check.now.writes + length (trace_writes some)) (sym none) writes_are in omega arith) in
    subst (λ place. Yes commits writes ≡ answer_at_end check place) (sym last) (ap₂ Yes c w)
tells_yes (line ∷ lines) check found commits writes start read follow keeps commits_are writes_are = elim (cases_Bool (is_blank_line line.text)) [
  | inl blank ↦ subst (TellsLine check line (λ next. Tells next lines EndOfInput (Yes commits writes)) (Yes commits writes)) (sym blank)
      (tells_yes lines (past check line.number) found commits writes start (sym (cond-true (is_blank_line line.text) (trace_lines check.now.version lines) _ blank) ∙ read) follow keeps commits_are writes_are)
  | inr written ↦ subst (TellsLine check line (λ next. Tells next lines EndOfInput (Yes commits writes)) (Yes commits writes)) (sym written)
      (let r = is_read check.now.version line lines found written read in
      let f = subst (λ some. Follow check.now check.place some AtEnd) r.found_is follow in
      let k = subst (AllKeepOrder check.now) r.found_is keeps in
      let c = subst (λ some. commits ≡ check.now.accepted + length (commits_in check.now some)) r.found_is commits_are in
      let w = subst (λ some. writes ≡ check.now.writes + length (trace_writes some)) r.found_is writes_are in
      let more = more_on check.now r.first r.rest check.place f.0 start f.1 in
      let commits_more = more.commits_more in
      let writes_more = more.writes_more in
      let later = tells_yes lines (taken check line.number r.first f.0) r.rest commits writes (counted check.now.slots (kind_of r.first) check.place f.0 (traced_on check.now r.first) f.1)
      (subst (λ v. trace_lines v lines ≡ Some r.rest) (sym (version_on check.now r.first)) r.rest_is) f.2 k.1 (omega arith) (omega arith) in
      subst (TellsRead check line.number (λ next. Tells next lines EndOfInput (Yes commits writes)) (Yes commits writes)) (sym r.first_is)
      (subst (TellsPlaced check line.number r.first (λ next. Tells next lines EndOfInput (Yes commits writes)) (Yes commits writes)) (sym f.1) (inl (k.0, later))))
]

pub orderly_gets_yes : OrderlyTracesGetYes
orderly_gets_yes texts lines read trace orderly =
    tells_yes texts unchecked lines (length (commits_in unchecked.now lines)) (length (trace_writes lines)) (refl, refl) read trace orderly
    (let e : length (commits_in unchecked.now lines) ≡ 0 + length (commits_in unchecked.now lines) = omega arith in e) (let e : length (trace_writes lines) ≡ 0 + length (trace_writes lines) = omega arith in e)
