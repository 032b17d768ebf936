-- The key of an IPv6 frame: the header of RFC 8200, section 3, and the ports that RFC 9293, section 3.1, and RFC 768
-- put first. Extension headers aren't walked.
use Rattle.std.specs.Prelude.{ℕ, Bool, not, ◌==◌, nat_lt, ◌&&◌, Result, Ok, Err, List, [], ◌∷◌, length, slice_index, if◌then◌else◌}
use Rattle.rule_model.specs.declared.Key.{Key}
use Rattle.packet_keys.specs.declared.FrameFault.{FrameFault}
use Rattle.packet_keys.specs.declared.FrameFault.TheVariants.{Empty, Version, Short}
use Rattle.packet_keys.specs.Frame.{number_at, version_of, is_port_protocol}

-- the next header
abbrev pub next_header : List ℕ → ℕ
next_header frame = slice_index frame 6

-- ports are read where the next header is that of TCP or UDP, and are 0 otherwise
abbrev pub has_ports6 : List ℕ → Bool
has_ports6 frame = is_port_protocol (next_header frame)

-- the port at a place, or 0 where none is read
abbrev pub port6_at : List ℕ → ℕ → ℕ
port6_at frame place = if has_ports6 frame then number_at frame place 2 else 0

-- the key of a frame that is long enough
abbrev pub header6_key : List ℕ → Key
header6_key frame =
    record {
      src = number_at frame 8 16;
      dst = number_at frame 24 16;
      proto = next_header frame;
      sport = port6_at frame 40;
      dport = port6_at frame 42;
    }

-- The key of a frame, or why it has none.
abbrev pub key6_of_frame : List ℕ → Result Key FrameFault
key6_of_frame [] = Err Empty
key6_of_frame (byte ∷ bytes) =
    let frame = byte ∷ bytes in
    if not (version_of frame == 6) then Err Version
    else if nat_lt (length frame) 40 then Err Short
    else if has_ports6 frame && nat_lt (length frame) 44 then Err Short
    else Ok (header6_key frame)
