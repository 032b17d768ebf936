-- The frames of a stream: which bytes are one, and which are a part of one.
use Rattle.std.specs.Prelude.{◌≡◌, ◌≢◌, ◌⊎◌, ℕ, ◌+◌, ◌*◌, ◌<◌, ◌≤◌, Bool, true, false, ◌==◌, nat_le, suc, zero, Result, Ok, Err, List, [], ◌∷◌, ◌++◌, length, codes, if◌then◌else◌}
use Rattle.std.specs.List.{concat}
use Rattle.script_lines.specs.Given.{HasEnd}
use Rattle.fpm_frames.specs.declared.frames.Header.{Header}
use Rattle.fpm_frames.specs.declared.frames.Header.TheVariants as header
use Rattle.fpm_frames.specs.declared.frames.Unread.{Unread}
use Rattle.fpm_frames.specs.declared.frames.Unread.TheVariants as unread
use Rattle.fpm_frames.specs.declared.frames.Came.{Came}
use Rattle.fpm_frames.specs.declared.frames.Came.TheVariants as came

-- what the first four bytes of a frame say: version 1, kind 1 (netlink), and how many bytes the frame has, these among them
abbrev pub header_of : ℕ → ℕ → ℕ → Header
header_of version kind size =
    if version == 1
    then (if kind == 1 then (if nat_le 4 size then header.Size size else header.Short) else header.Kind)
    else header.Version

abbrev pub frame_header : List ℕ → Header
frame_header (version ∷ kind ∷ high ∷ low ∷ rest) = header_of version kind (high * 256 + low)
frame_header _ = header.Short

-- why bytes that begin so are no frame
abbrev pub header_why : Header → List ℕ
header_why header.Version = codes "version of a frame"
header_why header.Kind = codes "kind of a frame"
header_why header.Short = codes "length of a frame"
header_why (header.Size size) = []

-- the bytes of a whole frame
abbrev pub IsFrame : List ℕ → Type 0
IsFrame bytes = frame_header bytes ≡ header.Size (length bytes)

-- fewer bytes than a frame has that begins so
abbrev pub IsPart : List ℕ → Type 0
IsPart bytes = (length bytes < 4) ⊎ ((size : ℕ) × (frame_header bytes ≡ header.Size size) × (length bytes < size))

-- What came behind the frames before, by the pieces that were read: a frame, nothing before the end, a part of a frame before it, or
-- four bytes with which no frame begins.
abbrev pub HasCome : Came → List (List ℕ) → List ℕ → Type 0
HasCome came.Frame pieces part = IsFrame part × (HasEnd pieces → ⊥)
HasCome came.End pieces part = (part ≡ []) × HasEnd pieces
HasCome came.Cut pieces part = IsPart part × (part ≢ []) × HasEnd pieces
HasCome (came.Unknown why) pieces part = (length part ≡ 4) × (frame_header part ≡ why) × ((size : ℕ) → why ≢ header.Size size)

-- One read behind the bytes in room, of at most so many.
abbrev pub Gains : List ℕ → ℕ → List (List ℕ) → List ℕ → Result ℕ Unread → Type 0
Gains old wanted pieces new (Ok zero) = (new ≡ old) × (concat pieces ≡ []) × HasEnd pieces
Gains old wanted pieces new (Ok (suc n)) = (new ≡ old ++ concat pieces) × (length (concat pieces) ≡ suc n) × (suc n ≤ wanted) × (HasEnd pieces → ⊥)
Gains old wanted pieces new (Err unread.Fault) = pieces ≡ []
Gains old wanted pieces new (Err unread.Memory) = Unit {0}

-- Reads until there are so many bytes, or before that the end: whether there are.
abbrev pub Fills : List ℕ → ℕ → List (List ℕ) → List ℕ → Result Bool Unread → Type 0
Fills old goal pieces new (Ok true) = (new ≡ old ++ concat pieces) × (length new ≡ goal) × (HasEnd pieces → ⊥)
Fills old goal pieces new (Ok false) = (new ≡ old ++ concat pieces) × (length new < goal) × HasEnd pieces
Fills old goal pieces new (Err unread.Fault) = length (old ++ concat pieces) < goal
Fills old goal pieces new (Err unread.Memory) = Unit {0}

-- What came, in room that had the first four bytes of a frame, or none.
abbrev pub ReadsRest : List ℕ → List (List ℕ) → List ℕ → Result Came Unread → Type 0
ReadsRest old pieces new (Ok what) = (new ≡ old ++ concat pieces) × HasCome what pieces new
ReadsRest old pieces new (Err unread.Fault) = IsPart (old ++ concat pieces)
ReadsRest old pieces new (Err unread.Memory) = Unit {0}

abbrev pub Reads : List (List ℕ) → List ℕ → Result Came Unread → Type 0
Reads pieces new result = ReadsRest [] pieces new result
