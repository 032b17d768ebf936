-- A judgement, round after round.
use Rattle.std.proofs.Common.{◌≡◌, ◌+◌, ℕ, inl, inr, Result, Ok, Err, List, [], ◌++◌, length, refl, sym, ap, ◌∙◌, subst, arith}
use Rattle.std.specs.List.{concat}
use Rattle.call_history.specs.Cause.{IsCounted}
use Rattle.script_lines.specs.declared.Over.TheVariants as over
use Rattle.script_lines.specs.Given.{HasEnd, MayGive}
use Rattle.script_lines.specs.Lines.{text_lines_from}
use Rattle.script_lines.specs.Reader.{HeldBytes}
use Rattle.script_lines.proofs.Pieces.{end-either}
use Rattle.script_lines.proofs.Turns.{may-first, may-second, no-more}
use Rattle.driver_trace.specs.declared.Compared.{Compared}
use Rattle.driver_trace.specs.Told.{unjudged}
use Rattle.line_judge.specs.Followed.{Followed, nothing_followed}
use Rattle.driver_verify.specs.declared.DriverVerdict.{DriverVerdict}
use Rattle.driver_verify.specs.declared.DriverVerdict.TheVariants as verdict
use Rattle.driver_verify.specs.Verify.{IsRightOf, VerifiesBy}
use Rattle.driver_verify.specs.Rounds.{TellsLines, RoundBegins, RoundsBy}

-- ---- before the first line

pub stands-first : (by : Compared) (held : HeldBytes) (judge : Followed) (text now : List ℕ) → held ≡ record { pending = []; before = 0; number = 1; over = over.Going } → judge ≡ nothing_followed by
    → MayGive text [] now → RoundBegins text held now 1 judge
stands-first by held judge text now held_is judge_is may =
    subst (λ (h : HeldBytes). RoundBegins text h now 1 judge) (sym held_is) (subst (λ (j : Followed). RoundBegins text (record { pending = []; before = 0; number = 1; over = over.Going }) now 1 j) (sym judge_is) start)
  where
    same : text ≡ now
    same = may.bytes

    start : RoundBegins text (record { pending = []; before = 0; number = 1; over = over.Going }) now 1 (nothing_followed by)
    start = record {
      done = 0;
      judging = unjudged;
      behind = record {
        size = let long = ap length same in omega (arith, long);
        there = λ answer told. subst (λ b. TellsLines by unjudged (text_lines_from (length text) 0 1 b) answer) (sym same) told;
      };
      known = record { place = refl; now = refl };
      next = refl;
      last = λ ended. absurd (cc);
    }

-- want of memory says nothing
pub memory-told : (by : Compared) (pieces : List (List ℕ)) → VerifiesBy by pieces verdict.Memory
memory-told by pieces = λ text after may. record { told = tt; yes = tt; no = tt }

-- ---- one round more

-- what a loop knows of the rounds before
pub record Rounds (by : Compared) (pieces : List (List ℕ)) (held : HeldBytes) (number : ℕ) (judge : Followed) : Type 0 where
  pub by_is : judge.by ≡ by
  pub ended : HasEnd pieces → held.over ≡ over.Ended
  pub stands : (text now : List ℕ) → MayGive text pieces now → RoundBegins text held now number judge

module _ (by : Compared) (pieces round : List (List ℕ)) (old new : HeldBytes) (number : ℕ) (judge : Followed) (result : Result Followed DriverVerdict) (so_far : Rounds by pieces old number judge)
    (rounds : RoundsBy old number judge round result new) where
  -- behind the end of the input nothing is read
  pub stays : HasEnd pieces → round ≡ []
  stays e = rounds.rests (no-more old.over (so_far.ended e))

  going : old.over ≡ over.Going → HasEnd pieces → ⊥
  going goes e = no-more old.over (so_far.ended e) goes

-- it goes on
pub rounds-next : (by : Compared) (pieces round : List (List ℕ)) (old new : HeldBytes) (number : ℕ) (judge next : Followed) → Rounds by pieces old number judge → RoundsBy old number judge round (Ok next) new
    → Rounds by (pieces ++ round) new (number + 1) next
rounds-next by pieces round old new number judge next so_far rounds = record {
  by_is = rounds.same ∙ so_far.by_is;
  ended = λ e. elim (end-either pieces round e) [
    | inl l ↦ absurd (going by pieces round old new number judge (Ok next) so_far rounds rounds.went l)
    | inr r ↦ rounds.ended r
  ];
  stands = λ text now may.
      rounds.goes text (concat round ++ now) now (may-second text now pieces round may)
      (so_far.stands text (concat round ++ now) (may-first text now pieces round may (stays by pieces round old new number judge (Ok next) so_far rounds)));
}

-- it is at its end
pub rounds-last : (by : Compared) (pieces round : List (List ℕ)) (old new : HeldBytes) (number : ℕ) (judge : Followed) (answer : DriverVerdict) → Rounds by pieces old number judge
    → RoundsBy old number judge round (Err answer) new → VerifiesBy by (pieces ++ round) answer
rounds-last by pieces round old new number judge answer so_far rounds = λ text now may.
    subst (λ (b : Compared). IsRightOf b text now answer) so_far.by_is
    (rounds.ends text (concat round ++ now) now (may-second text now pieces round may)
    (so_far.stands text (concat round ++ now) (may-first text now pieces round may (stays by pieces round old new number judge (Err answer) so_far rounds))))

-- the failures of the source
pub counted-last : (old mid new : ℕ) (answer : DriverVerdict) → mid ≡ old → IsCounted (◌≡◌ {A = Result Followed DriverVerdict} (Err answer) (Err verdict.Read)) mid new → IsCounted (answer ≡ verdict.Read) old new
counted-last old mid new answer same is =
    let last : IsCounted (◌≡◌ {A = Result Followed DriverVerdict} (Err answer) (Err verdict.Read)) old new = subst (λ (count : ℕ). IsCounted (◌≡◌ {A = Result Followed DriverVerdict} (Err answer) (Err verdict.Read)) count new) same is in
    record { later = last.later; once = last.once; failed = λ e. last.failed (ap Err e); stayed = λ other. last.stayed (λ e. other (cc)) }
