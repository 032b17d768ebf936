-- Words in flight that are searched one after the other, each with its line.
use Rattle.std.proofs.Common.{◌≡◌, ℕ, zero, suc, ◌+◌, ◌<◌, List, [], ◌∷◌, ◌++◌, Option, Some, None, Result, Ok, Err, OnErr, length, take, drop, refl, sym, ap, ◌∙◌, subst, arith}
use Rattle.std.proofs.lemmas.List.{append-nil}
use Rattle.std.specs.Io.KnownBytes.{Appends}
use Rattle.std.proofs.KnownBytes.{Appends-trans}
use Rattle.rule_model.specs.declared.Key.{Key}
use Rattle.rule_model.specs.RuleSet.{Answer}
use Rattle.rule_model.specs.declared.words.Word.{Word}
use Rattle.tcam_device.specs.State.{State}
use Rattle.tcam_device.specs.Flight.{Flight, search_answer, word_answer}
use Rattle.report_lines.specs.declared.Family.{Family}
use Rattle.replay.specs.Text.{probe_line}
use Rattle.replay.specs.Effects.{Effect, Prints, printed}
use Rattle.replay.specs.InFlight.{found_lines}
use Rattle.report_lines.specs.Outside.{AppendsPart}
use Rattle.replay.specs.Outside.{CutsLines}
use Rattle.replay.proofs.lines.Effects.{printed-append}

-- the word that is searched next, behind those that were
pub record IsNext (state : State) (flight : Flight) (count place : ℕ) (found : Answer) : Type 0 where
  pub flying : Key × Word
  pub back : Flight
  pub answer : found ≡ word_answer state flying.1
  pub size : length (take place flight) ≡ place
  pub one_more : take (suc place) flight ≡ take place flight ++ flying ∷ []
  pub all_of : take count flight ≡ take place flight ++ flying ∷ back
  pub left : drop 1 (drop place flight) ≡ drop (suc place) flight

next-one : (state : State) (flight : Flight) (count place : ℕ) (found : Answer) → place < count → Some found ≡ search_answer state (drop place flight) → IsNext state flight count place found
next-one state [] count zero found within is = absurd (cc)
next-one state [] count (suc place) found within is = absurd (cc)
next-one state (flying ∷ flight) zero place found within is = absurd (omega arith)
next-one state (flying ∷ flight) (suc count) zero found within is =
    record { flying = flying; back = take count flight; answer = cc; size = refl; one_more = refl; all_of = refl; left = refl }
next-one state (first ∷ flight) (suc count) (suc place) found within is =
    let next = next-one state flight count place found (omega arith) is in record {
      flying = next.flying;
      back = next.back;
      answer = next.answer;
      size = let size = next.size in omega arith;
      one_more = ap (λ words. first ∷ words) next.one_more;
      all_of = ap (λ words. first ∷ words) next.all_of;
      left = next.left;
    }

-- some words, and those behind them
found-append : (family : Family) (number : ℕ) (state : State) (first : ℕ) (flight more : Flight)
    → found_lines family number state first (flight ++ more) ≡ found_lines family number state first flight ++ found_lines family number state (first + length flight) more
found-append family number state first [] more = let same : first ≡ first + 0 = omega arith in ap (λ n. found_lines family number state n more) same
found-append family number state first (flying ∷ flight) more =
    let same : (first + 1) + length flight ≡ first + length (flying ∷ flight) = omega arith in
    ap (λ effects. Prints (probe_line family number first (word_answer state flying.1)) ∷ effects)
    (found-append family number state (first + 1) flight more
    ∙ ap (λ n. found_lines family number state (first + 1) flight ++ found_lines family number state n more) same)

module _ (family : Family) (number : ℕ) (state : State) (flight : Flight) (count place : ℕ) (found : Answer) (within : place < count)
    (is : Some found ≡ search_answer state (drop place flight)) (old mid new : Option (List ℕ))
    (before : Appends old mid (printed (found_lines family number state 1 (take place flight)))) where
  abbrev next : IsNext state flight count place found
  next = next-one state flight count place found within is

  abbrev ahead : List Effect
  ahead = found_lines family number state 1 (take place flight)

  at-place : (more : Flight) → found_lines family number state 1 (take place flight ++ next.flying ∷ more)
      ≡ ahead ++ Prints (probe_line family number (place + 1) found) ∷ found_lines family number state (place + 1 + 1) more
  at-place more =
      let size = next.size in
      let same : 1 + length (take place flight) ≡ place + 1 = omega arith in
      found-append family number state 1 (take place flight) (next.flying ∷ more)
      ∙ ap (λ n. ahead ++ found_lines family number state n (next.flying ∷ more)) same
      ∙ ap (λ answer. ahead ++ Prints (probe_line family number (place + 1) answer) ∷ found_lines family number state (place + 1 + 1) more) (sym next.answer)

  -- its line is written
  pub search-more : (named : Family) → named ≡ family → Appends mid new (probe_line named number (place + 1) found) → Appends old new (printed (found_lines family number state 1 (take (place + 1) flight)))
  search-more named same told =
      let line = subst (λ (one : Family). Appends mid new (probe_line one number (place + 1) found)) same told in
      let count_is : place + 1 ≡ suc place = omega arith in
      subst (Appends old new)
      (sym (ap (λ n. printed (found_lines family number state 1 (take n flight))) count_is
      ∙ ap (λ words. printed (found_lines family number state 1 words)) next.one_more
      ∙ ap printed (at-place [])
      ∙ printed-append ahead (Prints (probe_line family number (place + 1) found) ∷ [])
      ∙ ap (λ text. printed ahead ++ text) (append-nil (probe_line family number (place + 1) found))))
      (Appends-trans old mid new (printed ahead) (probe_line family number (place + 1) found) before line)

  -- or a part of it
  pub search-part : {E : Type 0} (result : Result (Unit {0}) E) (named : Family) → named ≡ family → AppendsPart mid new (probe_line named number (place + 1) found)
      → OnErr result (CutsLines (found_lines family number state 1 (take count flight)) old new)
  search-part (Ok done) named same told = tt
  search-part (Err fault) named same told = let part = subst (λ (one : Family). AppendsPart mid new (probe_line one number (place + 1) found)) same told in record {
    front = ahead;
    partial = part.0;
    rest = part.1;
    back = found_lines family number state (place + 1 + 1) next.back;
    cut = ap (found_lines family number state 1) next.all_of
        ∙ at-place next.back
        ∙ ap (λ text. ahead ++ Prints text ∷ found_lines family number state (place + 1 + 1) next.back) part.2;
    grown = Appends-trans old mid new (printed ahead) part.0 before part.3;
  }

-- the words that are left
pub search-left : (state : State) (flight : Flight) (count place : ℕ) (found : Answer) → place < count → Some found ≡ search_answer state (drop place flight) → drop 1 (drop place flight) ≡ drop (place + 1) flight
search-left state flight count place found within is =
    let count_is : place + 1 ≡ suc place = omega arith in
    (next-one state flight count place found within is).left ∙ ap (λ n. drop n flight) (sym count_is)

-- there is a word for each place
pub search-none : (state : State) (flight : Flight) (place : ℕ) → place < length flight → None ≡ search_answer state (drop place flight) → ⊥
search-none state [] place within is = absurd (omega arith)
search-none state (flying ∷ flight) zero within is = absurd (cc)
search-none state (flying ∷ flight) (suc place) within is = search-none state flight place (omega arith) is
