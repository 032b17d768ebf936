-- Live pieces that are routes, and where they are told to stand.
use Rattle.std.specs.Prelude.{ℕ, Bool, ◌==◌, ◌&&◌, is_none, IsTrue, map, Option, None, Some}
use Rattle.rule_model.specs.declared.Piece.{Piece}
use Rattle.rule_model.specs.AddressBlock.{IsAddressBlock, any_address, same_block}
use Rattle.rule_model.specs.PortRange.{any_port, same_range}
use Rattle.rule_model.specs.Rank.{high_of}
use Rattle.prefix_trie.specs.Routes.{Route, Routes}
use Rattle.placement.specs.declared.LivePiece.{LivePiece}
use Rattle.placement.specs.Live.{Homes}

-- a piece by its destination alone, whose priority goes by the length of that: of two such whose destinations overlap and
-- aren't the same the longer is above the shorter
abbrev pub is_route : Piece → ℕ → Bool
is_route piece rank =
    (high_of rank == piece.dst.len) && is_none piece.proto && same_block piece.src any_address && same_range piece.sport any_port
    && same_range piece.dport any_port

-- the same, of a live piece whose destination is right
pub record IsRoute (one : LivePiece) : Type 0 where
  pub right : IsAddressBlock one.piece.dst
  pub is : IsTrue (is_route one.piece one.rank)

-- where a route stands
abbrev pub slot_of : Option Route → Option ℕ
slot_of None = None
slot_of (Some route) = route.slot

abbrev pub homes_of : Routes → Homes
homes_of routes = map slot_of routes
