-- What an import comes to, by what its source gave and what its sink took.
use Rattle.std.specs.Prelude.{◌≡◌, ◌≢◌, ◌⊎◌, ℕ, ◌+◌, Bool, true, false, ◌==◌, Option, Result, Ok, Err, List, [], ◌∷◌, ◌++◌, codes, decimal, drop, length, if◌then◌else◌}
use Rattle.std.specs.List.{concat}
use Rattle.std.specs.Io.KnownBytes.{Appends}
use Rattle.script_lines.specs.Given.{HasEnd}
use Rattle.script_runs.specs.declared.Status.{Status}
use Rattle.script_runs.specs.declared.Status.TheVariants as status
use Rattle.import_lines.specs.Import.{LineTold, SaidBy, UnsaidBy}
use Rattle.import_lines.specs.Imported.{IsFront}
use Rattle.import_lines.specs.Writes.{WritesPart}
use Rattle.fpm_frames.specs.declared.frames.Header.{Header}
use Rattle.fpm_frames.specs.declared.frames.Header.TheVariants as header
use Rattle.fpm_frames.specs.Frames.{IsFrame, IsPart, frame_header, header_why}

-- how a format tells the messages of a frame by what it knows, and what it knows behind a frame that is said
pub record Telling (Known : Type 0) : Type 0 where
  pub told : Known → List ℕ → LineTold
  pub behind : Known → List ℕ → Known

abbrev pub telling : {Known : Type 0} → (Known → List ℕ → LineTold) → (Known → List ℕ → Known) → Telling Known
telling told behind = record { told = told; behind = behind }

-- the last line of a script that ends at a frame
abbrev pub stop_frame : ℕ → List ℕ → List ℕ
stop_frame number why = codes "frame " ++ (decimal number ++ (codes " " ++ (why ++ codes "\n")))

-- the comment on a frame that is left out
abbrev pub left_out_frame : ℕ → List ℕ → List ℕ
left_out_frame number why = codes "# left out: frame " ++ (decimal number ++ (codes ": " ++ (why ++ codes "\n")))

-- and on how many there are
abbrev pub left_out_frames : ℕ → List ℕ
left_out_frames count = if count == 0 then [] else codes "# left out: " ++ (decimal count ++ codes " frames\n")

-- What became of a frame: these bytes stand in the script for it, or it is left out by name. A list of these has the last one first.
pub data FrameFate : Type 0 where
  IsSaid : (frame bytes : List ℕ) → FrameFate
  IsLeftOut : (frame why : List ℕ) → FrameFate

abbrev pub frame_of : FrameFate → List ℕ
frame_of (IsSaid frame bytes) = frame
frame_of (IsLeftOut frame why) = frame

-- what the frame of this number has in the script
abbrev pub bytes_of : ℕ → FrameFate → List ℕ
bytes_of number (IsSaid frame bytes) = bytes
bytes_of number (IsLeftOut frame why) = left_out_frame number why

-- the messages of a frame, behind its first four bytes
abbrev pub messages_of : List ℕ → List ℕ
messages_of frame = drop 4 frame

-- where an import stands between two frames: what is known, whether frames may be left out, the number of the next one, and how many
-- are left out
pub record Standing (Known : Type 0) : Type 0 where
  pub known : Known
  pub leave_out : Bool
  pub number : ℕ
  pub left_out : ℕ

-- where it stands before the first frame, and behind one more
abbrev pub first_standing : {Known : Type 0} → Bool → Known → Standing Known
first_standing leave_out known = record { known = known; leave_out = leave_out; number = 1; left_out = 0 }

abbrev pub stands_behind : (Known : Type 0) → Telling Known → Standing Known → FrameFate → Standing Known
stands_behind Known telling at (IsSaid frame bytes) =
    record at { known = telling.behind at.known (messages_of frame); number = at.number + 1 }
stands_behind Known telling at (IsLeftOut frame why) = record at { number = at.number + 1; left_out = at.left_out + 1 }

-- a fate is what the format tells of a whole frame, by what it knows of those before it
abbrev pub IsFate : (Known : Type 0) → Telling Known → Standing Known → FrameFate → Type 0
IsFate Known telling at (IsSaid frame bytes) = IsFrame frame × (telling.told at.known (messages_of frame) ≡ SaidBy bytes)
IsFate Known telling at (IsLeftOut frame why) =
    IsFrame frame × (at.leave_out ≡ true) × (telling.told at.known (messages_of frame) ≡ UnsaidBy why)

-- where it stands behind these frames, their bytes, what they have in the script, and that these are their fates
abbrev pub standing_after : (Known : Type 0) → Telling Known → Standing Known → List FrameFate → Standing Known
standing_after Known telling at [] = at
standing_after Known telling at (fate ∷ earlier) = stands_behind Known telling (standing_after Known telling at earlier) fate

abbrev pub came_of : List FrameFate → List ℕ
came_of [] = []
came_of (fate ∷ earlier) = came_of earlier ++ frame_of fate

abbrev pub written_of : (Known : Type 0) → Telling Known → Standing Known → List FrameFate → List ℕ
written_of Known telling at [] = []
written_of Known telling at (fate ∷ earlier) =
    written_of Known telling at earlier ++ bytes_of (standing_after Known telling at earlier).number fate

abbrev pub AreFates : (Known : Type 0) → Telling Known → Standing Known → List FrameFate → Type 0
AreFates Known telling at [] = Unit {0}
AreFates Known telling at (fate ∷ earlier) =
    AreFates Known telling at earlier × IsFate Known telling (standing_after Known telling at earlier) fate

-- What the script has behind the frames before, by the bytes that came since next, which are these pieces or stand at their end: the
-- text, and whether the import goes on behind it (`Ok`), or with which status it ends.
pub data Comes {Known : Type 0} (telling : Telling Known) (at : Standing Known) (pieces : List (List ℕ)) (part : List ℕ) : List ℕ → Result (Unit {0}) Status → Type 0 where
  Goes : (fate : FrameFate) → IsFate Known telling at fate → part ≡ frame_of fate → Comes telling at pieces part (bytes_of at.number fate) (Ok tt)
  Stops : (why : List ℕ) → IsFrame part → at.leave_out ≡ false → telling.told at.known (messages_of part) ≡ UnsaidBy why
      → Comes telling at pieces part (stop_frame at.number why) (Err status.Script)
  StopsCut : IsPart part → part ≢ [] → HasEnd pieces → Comes telling at pieces part (stop_frame at.number (codes "cut off")) (Err status.Script)
  StopsUnknown : (why : Header) → length part ≡ 4 → frame_header part ≡ why → ((size : ℕ) → why ≢ header.Size size)
      → Comes telling at pieces part (stop_frame at.number (header_why why)) (Err status.Script)
  Ends : part ≡ [] → HasEnd pieces → Comes telling at pieces part (left_out_frames at.left_out) (Err status.Done)

-- What was written behind the last fate, by how the import ended: all that comes there, nothing, or where the sink failed the front of
-- what comes. Where the source failed no whole frame is among the bytes that came since.
abbrev pub EndsBy : (Known : Type 0) → Telling Known → Standing Known → List (List ℕ) → List ℕ → Status → List ℕ → Type 0
EndsBy Known telling at pieces part status.Done tail = Comes telling at pieces part tail (Err status.Done)
EndsBy Known telling at pieces part status.Script tail = Comes telling at pieces part tail (Err status.Script)
EndsBy Known telling at pieces part status.ReadFault tail = (tail ≡ []) × IsPart part
EndsBy Known telling at pieces part status.Memory tail = tail ≡ []
EndsBy Known telling at pieces part status.WriteFault tail =
    (text : List ℕ) × (next : Result (Unit {0}) Status) × Comes telling at pieces part text next × IsFront tail text
EndsBy Known telling at pieces part _ tail = ⊥

-- What an import comes to whose source gave these pieces: each frame that came, in their order, is said or left out by name, and
-- nothing else was written before `tail`, by which the import ended. Nothing was read behind what that is about.
pub record ImportsBy {Known : Type 0} (telling : Telling Known) (at : Standing Known) (pieces : List (List ℕ)) (answer : Status) (old new : Option (List ℕ)) : Type 0 where
  pub fates : List FrameFate
  pub part : List ℕ
  pub tail : List ℕ
  pub are : AreFates Known telling at fates
  pub came : concat pieces ≡ came_of fates ++ part
  pub appends : Appends old new (written_of Known telling at fates ++ tail)
  pub ends : EndsBy Known telling (standing_after Known telling at fates) pieces part answer tail

-- What one round comes to whose source gave these pieces, of these bytes: a frame is told and the next one may come, or the import ends.
abbrev pub RoundBy : (Known : Type 0) → Telling Known → Standing Known → List (List ℕ) → List ℕ → Result (Unit {0}) Status → Standing Known → Option (List ℕ) → Option (List ℕ) → Type 0
RoundBy Known telling at pieces part (Ok done) at_new old new =
    (fate : FrameFate) × IsFate Known telling at fate × (part ≡ frame_of fate) × Appends old new (bytes_of at.number fate) × (at_new ≡ stands_behind Known telling at fate)
RoundBy Known telling at pieces part (Err answer) at_new old new = (tail : List ℕ) × EndsBy Known telling at pieces part answer tail × Appends old new tail

-- A text was written whole, and this follows; or a part of it was, and the sink failed; or memory was wanting before.
abbrev pub WritesBy : List ℕ → Result (Unit {0}) Status → Result (Unit {0}) Status → Option (List ℕ) → Option (List ℕ) → Type 0
WritesBy text next result old new =
    ((result ≡ next) × Appends old new text) ⊎ (((result ≡ Err status.WriteFault) × WritesPart old new text) ⊎ ((result ≡ Err status.Memory) × Appends old new []))
