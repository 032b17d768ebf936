-- The keys of some frames, by computation.
use Rattle.std.proofs.Common.{◌≡◌, ℕ, List, [], ◌∷◌, ◌++◌, Ok, Err, replicate, refl}
use Rattle.rule_model.specs.AddressBlock.{ipv4_address}
use Rattle.packet_keys.specs.declared.FrameFault.TheVariants.{Empty, Version, HeaderLength, Short}
use Rattle.packet_keys.specs.Frame.{key_of_frame}
use Rattle.packet_keys.specs.Frame6.{key6_of_frame}

empty : key_of_frame [] ≡ Err Empty
empty = refl

version : key_of_frame (0x65 ∷ []) ≡ Err Version
version = refl

header-length : key_of_frame (0x44 ∷ []) ≡ Err HeaderLength
header-length = refl

short : key_of_frame (0x45 ∷ replicate 18 0) ≡ Err Short
short = refl

zeros : key_of_frame (0x45 ∷ replicate 19 0) ≡ Ok (record { src = 0; dst = 0; proto = 0; sport = 0; dport = 0 })
zeros = refl

abbrev header : List ℕ
header = 0x45 ∷ 0 ∷ 0 ∷ 0x1c ∷ 0 ∷ 0 ∷ 0 ∷ 0 ∷ 0x40 ∷ 6 ∷ 0 ∷ 0 ∷ 10 ∷ 1 ∷ 2 ∷ 3 ∷ 10 ∷ 1 ∷ 2 ∷ 4 ∷ []

no-ports : key_of_frame header ≡ Err Short
no-ports = refl

whole : key_of_frame (header ++ 4 ∷ 0xd2 ∷ 0 ∷ 0x50 ∷ []) ≡ Ok (record { src = ipv4_address 0x0a010203; dst = ipv4_address 0x0a010204; proto = 6; sport = 1234; dport = 80 })
whole = refl

later-fragment : key_of_frame (0x45 ∷ 0 ∷ 0 ∷ 0x14 ∷ 0 ∷ 0 ∷ 0 ∷ 1 ∷ 0x40 ∷ 6 ∷ 0 ∷ 0 ∷ 10 ∷ 1 ∷ 2 ∷ 3 ∷ 10 ∷ 1 ∷ 2 ∷ 4 ∷ []) ≡ Ok (record { src = ipv4_address 0x0a010203; dst = ipv4_address 0x0a010204; proto = 6; sport = 0; dport = 0 })
later-fragment = refl

-- IPv6

no-bytes : key6_of_frame [] ≡ Err Empty
no-bytes = refl

ipv4-frame : key6_of_frame (0x45 ∷ replicate 39 0) ≡ Err Version
ipv4-frame = refl

short-frame : key6_of_frame (0x60 ∷ replicate 38 0) ≡ Err Short
short-frame = refl

zeros6 : key6_of_frame (0x60 ∷ replicate 39 0) ≡ Ok (record { src = 0; dst = 0; proto = 0; sport = 0; dport = 0 })
zeros6 = refl

short-ports : key6_of_frame (0x60 ∷ replicate 5 0 ++ 17 ∷ replicate 36 0) ≡ Err Short
short-ports = refl

udp : key6_of_frame (0x60 ∷ replicate 5 0 ++ 17 ∷ replicate 33 0 ++ 4 ∷ 210 ∷ 0 ∷ 80 ∷ []) ≡ Ok (record { src = 0; dst = 0; proto = 17; sport = 1234; dport = 80 })
udp = refl
