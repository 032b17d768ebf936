-- A check, round after round.
use Rattle.std.proofs.Common.{◌≡◌, ◌+◌, ℕ, inl, inr, Result, Ok, Err, List, [], ◌++◌, length, refl, sym, ap, subst, arith}
use Rattle.std.specs.List.{concat}
use Rattle.call_history.specs.Cause.{IsCounted}
use Rattle.script_lines.specs.declared.Over.TheVariants as over
use Rattle.script_lines.specs.Given.{HasEnd, MayGive}
use Rattle.script_lines.specs.Lines.{text_lines_from}
use Rattle.script_lines.specs.Reader.{HeldBytes}
use Rattle.script_lines.proofs.Pieces.{end-either}
use Rattle.script_lines.proofs.Turns.{may-first, may-second, no-more}
use Rattle.trace_check.specs.Checked.{Checked, nothing_checked}
use Rattle.trace_check.specs.Answers.{unchecked}
use Rattle.trace_verify.specs.declared.Verified.{Verified}
use Rattle.trace_verify.specs.declared.Verified.TheVariants as verified
use Rattle.trace_verify.specs.Verify.{IsNeeded, VerifiesBy}
use Rattle.trace_verify.specs.Rounds.{TellsLines, RoundBegins, IsAnew, RoundsBy}
use Rattle.trace_verify.proofs.Unsettled.{needed-on, unsettled}

-- ---- before the first line

pub new-anew : (held : HeldBytes) → held ≡ record { pending = []; before = 0; number = 1; over = over.Going } → IsAnew held
new-anew held is = subst IsAnew (sym is) (record { before = refl; number = refl; goes_on = tt })

pub stands-first : (held : HeldBytes) (checked : Checked) (text now : List ℕ) → held ≡ record { pending = []; before = 0; number = 1; over = over.Going } → checked ≡ nothing_checked
    → MayGive text [] now → RoundBegins text held now 1 checked
stands-first held checked text now held_is checked_is may =
    subst (λ (h : HeldBytes). RoundBegins text h now 1 checked) (sym held_is) (subst (λ (c : Checked). RoundBegins text (record { pending = []; before = 0; number = 1; over = over.Going }) now 1 c) (sym checked_is) start)
  where
    same : text ≡ now
    same = may.bytes

    start : RoundBegins text (record { pending = []; before = 0; number = 1; over = over.Going }) now 1 nothing_checked
    start = record {
      done = 0;
      check = unchecked;
      behind = record {
        size = let long = ap length same in omega (arith, long);
        there = λ answer told. subst (λ b. TellsLines unchecked (text_lines_from (length text) 0 1 b) answer) (sym same) told;
        back = λ answer told. subst (λ b. TellsLines unchecked (text_lines_from (length text) 0 1 b) answer) same told;
      };
      known = record { place = refl; now = refl };
      next = refl;
      last = λ ended. absurd (cc);
    }

pub nothing-read : VerifiesBy [] verified.Memory
nothing-read = record { right = λ text after may. record { told = tt; yes = tt }; needed = inl refl; failed = λ same. absurd (cc) }

-- ---- one round more

-- what a loop knows of the rounds before
pub record Rounds (pieces : List (List ℕ)) (held : HeldBytes) (number : ℕ) (checked : Checked) : Type 0 where
  pub ended : HasEnd pieces → held.over ≡ over.Ended
  pub stands : (text now : List ℕ) → MayGive text pieces now → RoundBegins text held now number checked
  pub needed : IsNeeded pieces

module _ (pieces round : List (List ℕ)) (old new : HeldBytes) (number : ℕ) (checked : Checked) (result : Result Checked Verified) (so_far : Rounds pieces old number checked) (by : RoundsBy old number checked round result new) where
  -- behind the end of the input nothing is read
  pub stays : HasEnd pieces → round ≡ []
  stays e = by.rests (no-more old.over (so_far.ended e))

  needs : IsNeeded (pieces ++ round)
  needs = needed-on pieces round old number checked stays by.last so_far.stands so_far.needed

  going : old.over ≡ over.Going → HasEnd pieces → ⊥
  going goes e = no-more old.over (so_far.ended e) goes

-- it goes on
pub rounds-next : (pieces round : List (List ℕ)) (old new : HeldBytes) (number : ℕ) (checked next : Checked) → Rounds pieces old number checked → RoundsBy old number checked round (Ok next) new
    → Rounds (pieces ++ round) new (number + 1) next
rounds-next pieces round old new number checked next so_far by = record {
  ended = λ e. elim (end-either pieces round e) [
    | inl l ↦ absurd (going pieces round old new number checked (Ok next) so_far by by.went l)
    | inr r ↦ by.ended r
  ];
  stands = λ text now may.
      by.goes text (concat round ++ now) now (may-second text now pieces round may)
      (so_far.stands text (concat round ++ now) (may-first text now pieces round may (stays pieces round old new number checked (Ok next) so_far by)));
  needed = needs pieces round old new number checked (Ok next) so_far by;
}

-- it is at its end
pub rounds-last : (pieces round : List (List ℕ)) (old new : HeldBytes) (number : ℕ) (checked : Checked) (answer : Verified) → Rounds pieces old number checked → RoundsBy old number checked round (Err answer) new
    → VerifiesBy (pieces ++ round) answer
rounds-last pieces round old new number checked answer so_far by = record {
  right = λ text now may.
      by.ends text (concat round ++ now) now (may-second text now pieces round may)
      (so_far.stands text (concat round ++ now) (may-first text now pieces round may (stays pieces round old new number checked (Err answer) so_far by)));
  needed = needs pieces round old new number checked (Err answer) so_far by;
  failed = λ same.
      let f = by.failed (ap Err same) in
      unsettled pieces round old number checked (going pieces round old new number checked (Err answer) so_far by f.0) f.1 f.2 so_far.stands;
}

-- or there are no more numbers
pub rounds-none : (pieces : List (List ℕ)) (held : HeldBytes) (number : ℕ) (checked : Checked) → Rounds pieces held number checked → VerifiesBy pieces verified.Memory
rounds-none pieces held number checked so_far = record { right = λ text after may. record { told = tt; yes = tt }; needed = so_far.needed; failed = λ same. absurd (cc) }

-- the failures of the source
pub counted-last : (old mid new : ℕ) (answer : Verified) → mid ≡ old → IsCounted (◌≡◌ {A = Result Checked Verified} (Err answer) (Err verified.Read)) mid new → IsCounted (answer ≡ verified.Read) old new
counted-last old mid new answer same is =
    let last : IsCounted (◌≡◌ {A = Result Checked Verified} (Err answer) (Err verified.Read)) old new = subst (λ (count : ℕ). IsCounted (◌≡◌ {A = Result Checked Verified} (Err answer) (Err verified.Read)) count new) same is in
    record { later = last.later; once = last.once; failed = λ e. last.failed (ap Err e); stayed = λ other. last.stayed (λ e. other (cc)) }

pub none-counted : (A : Type 0) (old new : ℕ) → (A → ⊥) → new ≡ old → IsCounted A old new
none-counted A old new never same = record { later = omega (arith, same); once = omega (arith, same); failed = λ a. absurd (never a); stayed = λ _. same }
