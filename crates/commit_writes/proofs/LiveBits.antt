-- Pieces of rules test the bits of their ranges alone, so their entries hit words that are current for one key alike.
use Rattle.std.proofs.Common.{◌≡◌, ℕ, Bool, List, Option, Some, None, Contains, refl, sym, ◌∙◌, subst, ap}
use Rattle.std.specs.Prelude.{◌&&◌}
use Rattle.rule_model.specs.declared.Key.{Key}
use Rattle.rule_model.specs.declared.Rule.{Rule}
use Rattle.rule_model.specs.declared.Piece.{Piece}
use Rattle.rule_model.specs.AddressBlock.{block_holds}
use Rattle.rule_model.specs.PortRange.{PortRange, range_holds}
use Rattle.rule_model.specs.Rule.{proto_holds}
use Rattle.rule_model.specs.Piece.{piece_matches}
use Rattle.rule_model.specs.declared.words.Word.{Word}
use Rattle.rule_model.specs.Entry.{RankedPiece, entry_for, hits, port_tested}
use Rattle.rule_model.proofs.Exact.{hits-entry_of}
use Rattle.range_bits.specs.LiveRanges.{LiveRanges, range_at}
use Rattle.range_bits.proofs.Given.{bit_of-is}
use Rattle.tcam_device.specs.State.{State}
use Rattle.commit_writes.specs.Bits.{FieldBits, with_bits}
use Rattle.commit_writes.specs.InFlight.{HasBits, IsCurrent, TestsLive}
use Rattle.commit_writes.specs.Planned.{IsServedBy}
use Rattle.commit_writes.proofs.SetPieces.{chosen_pieces, in_chosen}

-- the bits that a piece tests are live with its ranges
pub record HasLiveBits (bits : FieldBits) (piece : Piece) : Type 0 where
  pub src : (bit : ℕ) → piece.srcbit ≡ Some bit → range_at bits.src bit ≡ Some piece.sport
  pub dst : (bit : ℕ) → piece.dstbit ≡ Some bit → range_at bits.dst bit ≡ Some piece.dport

with_live : (bits : FieldBits) (piece : Piece) → HasLiveBits bits (with_bits bits piece)
with_live bits piece = record {
  src = λ bit found. bit_of-is bits.src piece.sport bit found;
  dst = λ bit found. bit_of-is bits.dst piece.dport bit found;
}

-- so it is of pieces of rules
pub chosen_live : (bits : FieldBits) (choose : Rule → List Piece) (rules : List Rule) (ranked : RankedPiece) → Contains (chosen_pieces bits choose rules) ranked
    → HasLiveBits bits ranked.piece
chosen_live bits choose rules ranked member =
    let is = in_chosen bits choose rules ranked member in subst (HasLiveBits bits) is.piece_is (with_live bits is.piece)

-- a port of a key is tested as its range holds it
port_right : (live : LiveRanges) (range : PortRange) (bit : Option ℕ) (port word : ℕ) → HasBits live port word
    → ((b : ℕ) → bit ≡ Some b → range_at live b ≡ Some range) → port_tested range bit port word ≡ range_holds range port
port_right live range None port word right of = refl
port_right live range (Some b) port word right of = right b range (of b refl)

-- an entry hits a current word exactly where its piece matches the key
hits_current : (bits : FieldBits) (state : State) (ranked : RankedPiece) (key : Key) (word : Word) → IsServedBy state ranked → HasLiveBits bits ranked.piece
    → IsCurrent bits key word → hits (entry_for ranked) word ≡ piece_matches ranked.piece key
hits_current bits state ranked key word served live current =
    ap (hits (entry_for ranked)) current.lanes
    ∙ hits-entry_of ranked.piece ranked.rank ranked.result served.right served.encodable key current.valid current.srcbits current.dstbits current.src_fits current.dst_fits
    ∙ ap (λ b. front && b && port_tested ranked.piece.dport ranked.piece.dstbit key.dport current.dstbits)
    (port_right bits.src ranked.piece.sport ranked.piece.srcbit key.sport current.srcbits current.src_live live.src)
    ∙ ap (λ b. front && range_holds ranked.piece.sport key.sport && b)
    (port_right bits.dst ranked.piece.dport ranked.piece.dstbit key.dport current.dstbits current.dst_live live.dst)
  where
    front : Bool
    front = block_holds ranked.piece.src key.src && block_holds ranked.piece.dst key.dst && proto_holds ranked.piece.proto key.proto

-- so it tests live bits alone
pub tests_live : (bits : FieldBits) (state : State) (ranked : RankedPiece) → IsServedBy state ranked → HasLiveBits bits ranked.piece → TestsLive bits (entry_for ranked)
tests_live bits state ranked served live key a b first second =
    hits_current bits state ranked key a served live first ∙ sym (hits_current bits state ranked key b served live second)
