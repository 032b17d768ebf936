-- What a reader of lines holds, and what it hands out.
use Rattle.std.specs.Prelude.{◌≡◌, ◌≢◌, ◌⊎◌, ℕ, ◌+◌, ◌≤◌, ◌<◌, Bool, not, ◌==◌, ◌&&◌, IsTrue, Option, Some, None, Result, Ok, Err, List, [], ◌∷◌, ◌++◌, length}
use Rattle.std.specs.List.{AllByRecursion, concat}
use Rattle.script_lines.specs.Given.{HasEnd, MayGive}
use Rattle.script_lines.specs.declared.Line.{Line}
use Rattle.script_lines.specs.declared.LineFault.{LineFault}
use Rattle.script_lines.specs.declared.LineFault.TheVariants as fault
use Rattle.script_lines.specs.declared.Over.{Over}
use Rattle.script_lines.specs.declared.Over.TheVariants as over
use Rattle.script_lines.specs.Lines.{limits, NumberedLine, ScriptLines, EndOfInput, Faulty, line_feed, is_allowed, lines_from, ends_at, onto_lines, numbered}

-- the bytes taken and not handed out, how many bytes of the script stand before them, the number of the line that they begin,
-- and whether more comes
pub record HeldBytes : Type 0 where
  pub pending : List ℕ
  pub before : ℕ
  pub number : ℕ
  pub over : Over

-- a byte of a line
abbrev pub is_of_line : ℕ → Bool
is_of_line byte = is_allowed byte && not (byte == line_feed)

-- So many bytes of the script stand before these, which are of one line, none of them at fault.
pub record IsOpenLine (before : ℕ) (text : List ℕ) : Type 0 where
  pub plain : AllByRecursion (λ byte. IsTrue (is_of_line byte)) text
  pub fits : length text ≤ 512
  pub within : before + length text ≤ 268435456

-- the lines of what is pending and what is left
abbrev pub lines_held : HeldBytes → List ℕ → ScriptLines
lines_held held left = lines_from limits held.before held.number [] (held.pending ++ left)

-- a line that its line feed ends
pub record HandsWhole (old : HeldBytes) (left : List ℕ) (line : NumberedLine) (new : HeldBytes) (after : List ℕ) : Type 0 where
  pub bytes : old.pending ++ left ≡ line.text ++ 10 ∷ (new.pending ++ after)
  pub one_line : IsOpenLine old.before line.text
  pub room : old.before + length line.text < 268435456
  pub number : line.number ≡ old.number
  pub before_new : new.before ≡ old.before + length line.text + 1
  pub number_new : new.number ≡ old.number + 1
  pub going : new.over ≡ over.Going

-- the last line, without one: nothing is read after it
pub record HandsLast (old : HeldBytes) (left : List ℕ) (line : NumberedLine) (new : HeldBytes) (after : List ℕ) : Type 0 where
  pub bytes : old.pending ++ left ≡ line.text
  pub some : line.text ≢ []
  pub one_line : IsOpenLine old.before line.text
  pub number : line.number ≡ old.number
  pub pending_new : new.pending ≡ []
  pub none : after ≡ []
  pub ended : new.over ≡ over.Ended

-- what is held is a part of one line, and so are the bytes that were to come
pub record KeepsAll (old : HeldBytes) (left : List ℕ) (new : HeldBytes) (after : List ℕ) : Type 0 where
  pub bytes : old.pending ++ left ≡ new.pending ++ after
  pub one_line : IsOpenLine old.before new.pending

-- what it answers where it goes on, by the bytes left before and after
abbrev pub Hands : HeldBytes → List ℕ → Result (Option Line) LineFault → HeldBytes → List ℕ → Type 0
Hands old left (Ok (Some line)) new after = HandsWhole old left (numbered line) new after ⊎ HandsLast old left (numbered line) new after
Hands old left (Ok None) new after = (old.pending ++ left ≡ []) × (after ≡ []) × (new.over ≡ over.Ended)
Hands old left (Err fault.Read) new after = KeepsAll old left new after × (new.over ≡ over.Going)
Hands old left (Err (fault.ScriptTooLong line)) new after = lines_held old left ≡ ends_at (Faulty (fault.ScriptTooLong line))
Hands old left (Err (fault.TooLong line)) new after = lines_held old left ≡ ends_at (Faulty (fault.TooLong line))
Hands old left (Err (fault.BadByte line)) new after = lines_held old left ≡ ends_at (Faulty (fault.BadByte line))

-- the answers are the lines of the bytes held and left, one after the other, and then their end
abbrev pub Follows : HeldBytes → List ℕ → Result (Option Line) LineFault → HeldBytes → List ℕ → Type 0
Follows old left (Ok (Some line)) new after = lines_held old left ≡ onto_lines (numbered line) (lines_held new after)
Follows old left (Ok None) new after = lines_held old left ≡ ends_at EndOfInput
Follows old left (Err fault.Read) new after = lines_held old left ≡ lines_held new after
Follows old left (Err (fault.ScriptTooLong line)) new after = lines_held old left ≡ ends_at (Faulty (fault.ScriptTooLong line))
Follows old left (Err (fault.TooLong line)) new after = lines_held old left ≡ ends_at (Faulty (fault.TooLong line))
Follows old left (Err (fault.BadByte line)) new after = lines_held old left ≡ ends_at (Faulty (fault.BadByte line))

-- it may read: it goes on, and holds no whole line and no byte that is a fault
abbrev pub MayRead : HeldBytes → Type 0
MayRead held = (held.over ≡ over.Going) × IsOpenLine held.before held.pending

-- where it stands after an answer, whatever the source tells: a fault of a byte and the end stay, a failed read doesn't
abbrev pub Stays : Result (Option Line) LineFault → Over → Type 0
Stays (Ok (Some line)) new = (new ≡ over.Going) ⊎ (new ≡ over.Ended)
Stays (Ok None) new = new ≡ over.Ended
Stays (Err fault.Read) new = new ≡ over.Going
Stays (Err (fault.ScriptTooLong line)) new = new ≡ over.Stopped (fault.ScriptTooLong line)
Stays (Err (fault.TooLong line)) new = new ≡ over.Stopped (fault.TooLong line)
Stays (Err (fault.BadByte line)) new = new ≡ over.Stopped (fault.BadByte line)

-- what it answers once it is over, and then it reads nothing
abbrev pub Again : Over → Result (Option Line) LineFault → Type 0
Again over.Going result = Unit {0}
Again over.Ended result = result ≡ Ok None
Again (over.Stopped stopped) result = result ≡ Err stopped

-- at the last of these reads the bytes held and read before were a part of one line, and no read before it was the end
abbrev pub LastAtOpenLine : ℕ → List ℕ → List (List ℕ) → Type 0
LastAtOpenLine before held pieces =
    (pieces ≡ []) ⊎ ((front : List (List ℕ)) × (last : List ℕ) × (pieces ≡ front ++ last ∷ []) × IsOpenLine before (held ++ concat front) × (HasEnd front → ⊥))

-- what it answers by the pieces that its source gave: the answer is right whatever bytes come after them, and none
-- come after an end; it reads only where it holds no whole line, and not at all once it is over
pub record HandsByGiven (old : HeldBytes) (pieces : List (List ℕ)) (result : Result (Option Line) LineFault) (new : HeldBytes) : Type 0 where
  pub hands : old.over ≡ over.Going → (left after : List ℕ) → MayGive left pieces after → Hands old left result new after
  pub ended : HasEnd pieces → new.over ≡ over.Ended
  pub rests : old.over ≢ over.Going → pieces ≡ []
  pub last : LastAtOpenLine old.before old.pending pieces
