-- The acts of a script, and where it ends, over acts of any kind.
use Rattle.std.specs.Prelude.{ℕ, ◌==◌, true, false, Result, Ok, Err, Option, Some, None, List, [], ◌∷◌, ◌++◌, codes, map}
use Rattle.script_lines.specs.declared.LineFault.TheVariants.{Read, ScriptTooLong, TooLong, BadByte}
use Rattle.script_lines.specs.Lines.{NumberedLine, LinesEnd, EndOfInput, Faulty, line_feed, lines_of}

-- an act and the number of its line
pub record NumberedAct (A : Type 0) : Type 0 where
  pub line : ℕ
  pub act : A

-- where the acts end: with the input, or at the fault of a line
pub data ScriptEnd : Type 0 where
  Whole : ScriptEnd
  FaultAt : (line : ℕ) (text : List ℕ) → ScriptEnd

-- the acts of a script, and where they end
pub record Script (A : Type 0) : Type 0 where
  pub acts : List (NumberedAct A)
  pub last : ScriptEnd

-- the acts without the numbers of their lines
abbrev pub acts_of : {A : Type 0} → Script A → List A
acts_of script = map (λ numbered. numbered.act) script.acts

-- what a line is by a grammar: nothing, an act, or a fault's text
abbrev pub Reading : Type 0 → Type 0
Reading A = List ℕ → Result (Option A) (List ℕ)

-- A kind of scripts: how many bytes one may have; how a line is read; what is counted of the acts, at first and with one act
-- more; and the fault of an act for which there is no room then.
pub record ScriptKind (A C : Type 0) : Type 0 where
  pub bytes : ℕ
  pub reading : Reading A
  pub none_counted : C
  pub counted_after : A → C → C
  pub limit_fault : A → C → Option (List ℕ)

-- no act, and a fault
abbrev pub stops_at : {A : Type 0} → ℕ → List ℕ → Script A
stops_at line text = record { acts = []; last = FaultAt line text }

-- a script with one act more at its front
abbrev pub onto_acts : {A : Type 0} → ℕ → A → Script A → Script A
onto_acts line act rest = record rest { acts = record { line = line; act = act } ∷ rest.acts }

-- the fault of a byte, and none for a failed read, which no script has
abbrev pub byte_end : LinesEnd → ScriptEnd
byte_end EndOfInput = Whole
byte_end (Faulty (ScriptTooLong line)) = FaultAt line (codes "script too long")
byte_end (Faulty (TooLong line)) = FaultAt line (codes "line too long")
byte_end (Faulty (BadByte line)) = FaultAt line (codes "bad byte")
byte_end (Faulty Read) = Whole

-- The acts of some lines, with so much counted before them. The first fault ends them.
abbrev pub acts_from : {A C : Type 0} → ScriptKind A C → C → List NumberedLine → LinesEnd → Script A
acts_from kind counted [] last = record { acts = []; last = byte_end last }
acts_from kind counted (line ∷ lines) last =
    elim (kind.reading line.text) [
      | Err text ↦ stops_at line.number text
      | Ok found ↦ elim found [
        | None ↦ acts_from kind counted lines last
        | Some act ↦ elim (kind.limit_fault act counted) [
          | Some text ↦ stops_at line.number text
          | None ↦ onto_acts line.number act (acts_from kind (kind.counted_after act counted) lines last)
        ]
      ]
    ]

-- The script that some bytes are.
abbrev pub script_of : {A C : Type 0} → ScriptKind A C → List ℕ → Script A
script_of kind bytes = acts_from kind kind.none_counted (lines_of kind.bytes bytes).lines (lines_of kind.bytes bytes).last

-- the bytes up to the last line feed, with it
abbrev pub whole_lines_from : List ℕ → List ℕ → List ℕ
whole_lines_from line [] = []
whole_lines_from line (byte ∷ bytes) =
    elim (byte == line_feed) [
      | true ↦ line ++ byte ∷ whole_lines_from [] bytes
      | false ↦ whole_lines_from (line ++ byte ∷ []) bytes
    ]

-- the lines of some bytes that a line feed ends
abbrev pub whole_lines : List ℕ → List ℕ
whole_lines bytes = whole_lines_from [] bytes

-- what some first bytes of a script are so far: the acts of their whole lines, and a fault where they have one
abbrev pub script_so_far : {A C : Type 0} → ScriptKind A C → List ℕ → Script A
script_so_far kind bytes = acts_from kind kind.none_counted (lines_of kind.bytes (whole_lines bytes)).lines (lines_of kind.bytes bytes).last
