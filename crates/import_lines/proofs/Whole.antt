-- An import, round after round.
use Rattle.std.proofs.Common.{◌≡◌, ◌+◌, ◌≤◌, ◌++◌, ◌∷◌, ℕ, Bool, inl, inr, Option, Result, Ok, Err, List, [], length, refl, sym, ap, ◌∙◌, subst, append_assoc, append-nil, arith}
use Rattle.std.specs.Prelude.{map}
use Rattle.std.specs.List.{concat}
use Rattle.std.specs.Io.KnownBytes.{Appends}
use Rattle.std.proofs.KnownBytes.{Appends-trans}
use Rattle.call_history.specs.Cause.{IsCounted}
use Rattle.script_lines.specs.declared.Over.TheVariants as over
use Rattle.script_lines.specs.Given.{HasEnd, MayGive}
use Rattle.script_lines.specs.Lines.{ScriptLines, NumberedLine, text_lines, text_lines_from}
use Rattle.script_lines.specs.Reader.{HeldBytes, IsOpenLine}
use Rattle.script_lines.proofs.Pieces.{end-either}
use Rattle.script_lines.proofs.Turns.{may-all, may-first, may-second, no-more}
use Rattle.script_runs.specs.declared.Status.{Status}
use Rattle.script_runs.specs.declared.Status.TheVariants as status
use Rattle.import_lines.specs.Import.{Telling, LineFate, IsSaid, IsLeftOut, IsFate, AreFates, line_of_fate, bytes_of_fate, known_behind, known_after, left_out_of}
use Rattle.import_lines.specs.Imported.{EndsBy, EndsLine, IsImported, ToldAll, ImportsBy}
use Rattle.import_lines.specs.Rounds.{Standing, IsAnew, RoundBegins, GoesOn, RoundsBy, stands_behind}
use Rattle.import_lines.proofs.ScriptParts.{FewLines, begins-size, none-left, open-few, open-none}

-- ---- the fates of several lines

-- a line more behind them
lines-more : (fates : List LineFate) (fate : LineFate) (rest : List NumberedLine) → map line_of_fate fates ++ (line_of_fate fate ∷ rest) ≡ map line_of_fate (fates ++ fate ∷ []) ++ rest
lines-more [] fate rest = refl
lines-more (first ∷ fates) fate rest = ap (λ l. line_of_fate first ∷ l) (lines-more fates fate rest)

bytes-more : (fates : List LineFate) (fate : LineFate) → concat (map bytes_of_fate (fates ++ fate ∷ [])) ≡ concat (map bytes_of_fate fates) ++ bytes_of_fate fate
bytes-more [] fate = append-nil (bytes_of_fate fate)
bytes-more (first ∷ fates) fate = ap (λ l. bytes_of_fate first ++ l) (bytes-more fates fate) ∙ sym (append_assoc (bytes_of_fate first) (concat (map bytes_of_fate fates)) (bytes_of_fate fate))

known-more : (Known : Type 0) → (telling : Telling Known) (known : Known) (fates : List LineFate) (fate : LineFate)
    → known_after Known telling known (fates ++ fate ∷ []) ≡ known_behind Known telling (known_after Known telling known fates) fate
known-more Known telling known [] fate = refl
known-more Known telling known (first ∷ fates) fate = known-more Known telling (known_behind Known telling known first) fates fate

fates-more : (Known : Type 0) → (telling : Telling Known) (leave_out : Bool) (known : Known) (fates : List LineFate) (fate : LineFate) → AreFates Known telling leave_out known fates
    → IsFate Known telling leave_out (known_after Known telling known fates) fate → AreFates Known telling leave_out known (fates ++ fate ∷ [])
fates-more Known telling leave_out known [] fate are is = (is, tt)
fates-more Known telling leave_out known (first ∷ fates) fate are is = (are.0, fates-more Known telling leave_out (known_behind Known telling known first) fates fate are.1 is)

said-more : (fates : List LineFate) (line : NumberedLine) (bytes : List ℕ) → left_out_of (fates ++ IsSaid line bytes ∷ []) ≡ left_out_of fates
said-more [] line bytes = refl
said-more (IsSaid first said ∷ fates) line bytes = said-more fates line bytes
said-more (IsLeftOut first why ∷ fates) line bytes = ap (λ n. n + 1) (said-more fates line bytes)

left-more : (fates : List LineFate) (line : NumberedLine) (why : List ℕ) → left_out_of (fates ++ IsLeftOut line why ∷ []) ≡ left_out_of fates + 1
left-more [] line why = refl
left-more (IsSaid first said ∷ fates) line why = left-more fates line why
left-more (IsLeftOut first other ∷ fates) line why = ap (λ n. n + 1) (left-more fates line why)

-- where an import stands behind them
abbrev pub standing_after : (Known : Type 0) → Telling Known → Bool → Known → List LineFate → Standing Known
standing_after Known telling leave_out known fates =
    record { known = known_after Known telling known fates; leave_out = leave_out; left_out = left_out_of fates }

abbrev with_both : (Known : Type 0) → Known → Bool → ℕ → Standing Known
with_both Known k l n = record { known = k; leave_out = l; left_out = n }

standing-more : (Known : Type 0) → (telling : Telling Known) (leave_out : Bool) (known : Known) (fates : List LineFate) (fate : LineFate)
    → stands_behind Known telling (standing_after Known telling leave_out known fates) fate ≡ standing_after Known telling leave_out known (fates ++ fate ∷ [])
standing-more Known telling leave_out known fates (IsSaid line bytes) =
    sym (ap (λ k. with_both Known k leave_out (left_out_of (fates ++ IsSaid line bytes ∷ []))) (known-more Known telling known fates (IsSaid line bytes))
    ∙ ap (λ n. with_both Known (telling.behind (known_after Known telling known fates) line.text) leave_out n) (said-more fates line bytes))
standing-more Known telling leave_out known fates (IsLeftOut line why) =
    sym (ap (λ k. with_both Known k leave_out (left_out_of (fates ++ IsLeftOut line why ∷ []))) (known-more Known telling known fates (IsLeftOut line why))
    ∙ ap (λ n. with_both Known (known_after Known telling known fates) leave_out n) (left-more fates line why))

-- ---- what a loop knows

-- of a text: the fates of the lines before, what they have in the script, and that a round begins behind them
pub record Stood {Known : Type 0} (telling : Telling Known) (leave_out : Bool) (known : Known) (text written : List ℕ) (held : HeldBytes) (now : List ℕ) (number : ℕ) (at : Standing Known) : Type 0 where
  pub fates : List LineFate
  pub rest : ScriptLines
  pub are : AreFates Known telling leave_out known fates
  pub lines_are : text_lines text ≡ record { lines = map line_of_fate fates ++ rest.lines; last = rest.last }
  pub written_is : written ≡ concat (map bytes_of_fate fates)
  pub at_is : at ≡ standing_after Known telling leave_out known fates
  pub begins : RoundBegins text held now number rest

pub record Rounds {Known : Type 0} (telling : Telling Known) (leave_out : Bool) (known : Known) (pieces : List (List ℕ)) (written : List ℕ) (held : HeldBytes) (number : ℕ) (at : Standing Known) : Type 0 where
  pub ended : HasEnd pieces → held.over ≡ over.Ended
  pub stands : (text now : List ℕ) → MayGive text pieces now → Stood telling leave_out known text written held now number at

-- ---- before the first line

pub new-anew : (held : HeldBytes) → held ≡ record { pending = []; before = 0; number = 1; over = over.Going } → IsAnew held
new-anew held is = subst IsAnew (sym is) (record { before = refl; number = refl; goes_on = tt })

begins-first : (text now : List ℕ) → MayGive text [] now → RoundBegins text (record { pending = []; before = 0; number = 1; over = over.Going }) now 1 (text_lines text)
begins-first text now may =
    let same : text ≡ now = may.bytes in
    record {
      told = [];
      text_is = same;
      lines_are = ap (λ b. text_lines_from (length text) 0 1 b) same;
      last = λ ended. absurd (cc);
    }

pub rounds-first : (Known : Type 0) → (telling : Telling Known) (leave_out : Bool) (known : Known) (held : HeldBytes) (at : Standing Known)
    → held ≡ record { pending = []; before = 0; number = 1; over = over.Going } → at ≡ record { known = known; leave_out = leave_out; left_out = 0 }
    → Rounds telling leave_out known [] [] held 1 at
rounds-first Known telling leave_out known held at held_is at_is = record {
  ended = λ e. absurd e;
  stands = λ text now may. record {
    fates = [];
    rest = text_lines text;
    are = tt;
    lines_are = refl;
    written_is = refl;
    at_is = at_is;
    begins = subst (λ (h : HeldBytes). RoundBegins text h now 1 (text_lines text)) (sym held_is) (begins-first text now may);
  };
}

-- ---- one round more

-- lines, and the end that others have
abbrev with_end : List NumberedLine → ScriptLines → ScriptLines
with_end lines rest = record { lines = lines; last = rest.last }

-- the line that it told has a fate
stood-next : (Known : Type 0) → (telling : Telling Known) (leave_out : Bool) (known : Known) (text before written : List ℕ) (old new : HeldBytes) (left now : List ℕ) (number next : ℕ) (at at_new : Standing Known)
    → (was : Stood telling leave_out known text before old left number at) → GoesOn telling text new now next at at_new was.rest written
    → Stood telling leave_out known text (before ++ written) new now next at_new
stood-next Known telling leave_out known text before written old new left now number next at at_new was on = record {
  fates = was.fates ++ on.fate ∷ [];
  rest = on.rest;
  are = fates-more Known telling leave_out known was.fates on.fate was.are
      (subst (λ (a : Standing Known). IsFate Known telling a.leave_out a.known on.fate) was.at_is on.is_fate);
  lines_are = was.lines_are
      ∙ ap (λ (l : ScriptLines). with_end (map line_of_fate was.fates ++ l.lines) l) on.lines_are
      ∙ ap (λ l. with_end l on.rest) (lines-more was.fates on.fate on.rest.lines);
  written_is = ap (λ b. b ++ written) was.written_is ∙ ap (λ w. concat (map bytes_of_fate was.fates) ++ w) on.written_is ∙ sym (bytes-more was.fates on.fate);
  at_is = on.at_is ∙ ap (λ a. stands_behind Known telling a on.fate) was.at_is ∙ standing-more Known telling leave_out known was.fates on.fate;
  begins = on.begins;
}

-- and where it is the last one, this is what was imported
abbrev imported : (Known : Type 0) → (telling : Telling Known) (leave_out : Bool) (known : Known) (text before written : List ℕ) (old : HeldBytes) (left : List ℕ) (number : ℕ) (at : Standing Known) (answer : Status)
    → (was : Stood telling leave_out known text before old left number at) → EndsBy Known telling at.leave_out at.known at.left_out was.rest.lines was.rest.last answer written
    → IsImported telling leave_out known text answer (before ++ written)
imported Known telling leave_out known text before written old left number at answer was ends = record {
  fates = was.fates;
  rest = was.rest.lines;
  tail = written;
  have = record { are = was.are; lines_are = ap (λ (l : ScriptLines). l.lines) was.lines_are };
  written_is = ap (λ b. b ++ written) was.written_is;
  ends = subst (λ l. EndsBy Known telling leave_out (known_after Known telling known was.fates) (left_out_of was.fates) was.rest.lines l answer written) (sym (ap (λ (l : ScriptLines). l.last) was.lines_are))
      (subst (λ (a : Standing Known). EndsBy Known telling a.leave_out a.known a.left_out was.rest.lines was.rest.last answer written) was.at_is ends);
}

-- all lines but an open one were told
told-all : (Known : Type 0) → (telling : Telling Known) (leave_out : Bool) (known : Known) (text before written : List ℕ) (old : HeldBytes) (left : List ℕ) (number : ℕ) (at : Standing Known) (answer : Status)
    → (was : Stood telling leave_out known text before old left number at) → EndsBy Known telling at.leave_out at.known at.left_out was.rest.lines was.rest.last answer written
    → IsOpenLine 0 (old.pending ++ left) → ToldAll telling leave_out known text answer (before ++ written)
told-all Known telling leave_out known text before written old left number at answer was ends opened =
    let begins = was.begins in
    let size = begins-size text old left number was.rest begins in
    let room : length begins.told + length (old.pending ++ left) ≤ length text = omega (arith, size) in
    let few : FewLines was.rest = subst FewLines (sym begins.lines_are) (open-few (length text) (length begins.told) number (old.pending ++ left) opened room) in
    record {
      told = imported Known telling leave_out known text before written old left number at answer was ends;
      few = few.few;
      whole = λ feed.
          let none = open-none begins.told (old.pending ++ left) opened (subst EndsLine begins.text_is feed) in
          ap (λ (l : ScriptLines). l.lines) begins.lines_are ∙ none-left (length text) (length begins.told) number (old.pending ++ left) none;
      last = ap (λ (l : ScriptLines). l.last) was.lines_are ∙ few.last;
    }

module _ (Known : Type 0) (telling : Telling Known) (leave_out : Bool) (known : Known) (pieces round : List (List ℕ)) (before written : List ℕ) (old new : HeldBytes) (number : ℕ) (at at_new : Standing Known) (so_far : Rounds telling leave_out known pieces before old number at) where
  -- behind the end of the input nothing is read
  stays : (result : Result (Unit {0}) Status) → RoundsBy telling old at number round written result new at_new → HasEnd pieces → round ≡ []
  stays result by e = by.rests (no-more old.over (so_far.ended e))

  -- it goes on
  pub rounds-next : (done : Unit {0}) → RoundsBy telling old at number round written (Ok done) new at_new → Rounds telling leave_out known (pieces ++ round) (before ++ written) new (number + 1) at_new
  rounds-next done by = record {
    ended = λ e. elim (end-either pieces round e) [
      | inl l ↦ absurd (no-more old.over (so_far.ended l) by.went)
      | inr r ↦ by.ended r
    ];
    stands = λ text now may.
        let was = so_far.stands text (concat round ++ now) (may-first text now pieces round may (stays (Ok done) by)) in
        stood-next Known telling leave_out known text before written old new (concat round ++ now) now number (number + 1) at at_new was
        (by.goes text (concat round ++ now) now was.rest (may-second text now pieces round may) was.begins);
  }

  -- it is at its end
  pub rounds-last : (answer : Status) (o m n : Option (List ℕ)) → RoundsBy telling old at number round written (Err answer) new at_new → Appends o m before → Appends m n written
      → ImportsBy telling leave_out known (pieces ++ round) answer o n
  rounds-last answer o m n by first second = record {
    written = before ++ written;
    appends = Appends-trans o m n before written first second;
    right = λ text now may.
        let was = so_far.stands text (concat round ++ now) (may-first text now pieces round may (stays (Err answer) by)) in
        imported Known telling leave_out known text before written old (concat round ++ now) number at answer was
        (by.ends text (concat round ++ now) now was.rest (may-second text now pieces round may) was.begins);
    came = λ same.
        let all = may-all (pieces ++ round) in
        let was = so_far.stands (concat (pieces ++ round)) (concat round ++ []) (may-first (concat (pieces ++ round)) [] pieces round all (stays (Err answer) by)) in
        told-all Known telling leave_out known (concat (pieces ++ round)) before written old (concat round ++ []) number at answer was
        (by.ends (concat (pieces ++ round)) (concat round ++ []) [] was.rest (may-second (concat (pieces ++ round)) [] pieces round all) was.begins)
        (subst (λ b. IsOpenLine 0 (old.pending ++ b)) (sym (append-nil (concat round))) (by.opened (ap Err same)));
  }

-- or there are no more numbers
pub rounds-none : (Known : Type 0) → (telling : Telling Known) (leave_out : Bool) (known : Known) (pieces : List (List ℕ)) (written : List ℕ) (held : HeldBytes) (number : ℕ) (at : Standing Known) (o n : Option (List ℕ))
    → Rounds telling leave_out known pieces written held number at → Appends o n written → ImportsBy telling leave_out known pieces status.Memory o n
rounds-none Known telling leave_out known pieces written held number at o n so_far appends = record {
  written = written;
  appends = appends;
  right = λ text now may.
      subst (λ w. IsImported telling leave_out known text status.Memory w) (append-nil written)
      (imported Known telling leave_out known text written [] held now number at status.Memory (so_far.stands text now may) refl);
  came = λ same. absurd (cc);
}

-- ---- the failures

pub counted-last : (old mid new : ℕ) (answer which : Status) → mid ≡ old → IsCounted (◌≡◌ {A = Result (Unit {0}) Status} (Err answer) (Err which)) mid new → IsCounted (answer ≡ which) old new
counted-last old mid new answer which same is =
    let last : IsCounted (◌≡◌ {A = Result (Unit {0}) Status} (Err answer) (Err which)) old new = subst (λ (count : ℕ). IsCounted (◌≡◌ {A = Result (Unit {0}) Status} (Err answer) (Err which)) count new) same is in
    record { later = last.later; once = last.once; failed = λ e. last.failed (ap Err e); stayed = λ other. last.stayed (λ e. other (cc)) }

pub none-counted : (A : Type 0) (old new : ℕ) → (A → ⊥) → new ≡ old → IsCounted A old new
none-counted A old new never same = record { later = omega (arith, same); once = omega (arith, same); failed = λ a. absurd (never a); stayed = λ _. same }
