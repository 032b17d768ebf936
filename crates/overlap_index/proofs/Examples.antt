-- Which ids are above and below some others, by computation.
use Rattle.std.proofs.Common.{◌≡◌, List, [], ◌∷◌, None, false, refl}
use Rattle.rule_model.specs.declared.Piece.{Piece}
use Rattle.rule_model.specs.AddressBlock.{AddressBlock, any_address, ipv4_block}
use Rattle.rule_model.specs.PortRange.{PortRange, any_port}
use Rattle.rule_model.specs.Rank.{list_rank}
use Rattle.placement.specs.declared.LivePiece.{LivePiece}
use Rattle.placement.specs.Live.{ids_above, ids_below, is_above}

abbrev piece : AddressBlock → PortRange → Piece
piece dst dport = record { src = any_address; dst = dst; proto = None; sport = any_port; dport = dport; srcbit = None; dstbit = None }

-- 100 to 10/8 (id 0), 300 to 11/8 (id 1), 200 to anywhere (id 2), and a piece (id 3) of the same rank as id 2
abbrev live : List LivePiece
live =
    record { id = 0; piece = piece (ipv4_block 0x0a000000 8) any_port; rank = list_rank 100 }
    ∷ record { id = 1; piece = piece (ipv4_block 0x0b000000 8) any_port; rank = list_rank 300 }
    ∷ record { id = 2; piece = piece any_address any_port; rank = list_rank 200 }
    ∷ record { id = 3; piece = piece any_address (record { lo = 80; hi = 95 }); rank = list_rank 200 } ∷ []

above : ids_above live 2 ≡ 0 ∷ []
above = refl

below : ids_below live 2 ≡ 1 ∷ []
below = refl

-- pieces of one rank aren't above one another, and disjoint ones aren't either
same-rank : is_above live 2 3 ≡ false
same-rank = refl

apart : ids_below live 0 ≡ 2 ∷ 3 ∷ []
apart = refl
