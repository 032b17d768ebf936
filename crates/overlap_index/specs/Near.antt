-- What windows of 32 bits of addresses, and ports, tell of live pieces that may overlap.
use Rattle.std.specs.Prelude.{◌≡◌, ℕ, Bool, ◌&&◌, List, [], ◌∷◌, ◌++◌, length, map}
use Rattle.std.specs.List.{swap_remove}
use Rattle.rule_model.specs.PortRange.{PortRange}
use Rattle.rule_model.specs.declared.Piece.{Piece}
use Rattle.block_windows.specs.declared.Span.{Span}
use Rattle.block_windows.specs.Windows.{first_of, last_of, span_of, meets_at}
use Rattle.overlap_index.specs.declared.near.Spans.{Spans}
use Rattle.placement.specs.declared.LivePiece.{LivePiece}

-- the first port and the last, and the windows of a piece: of three of its destination, the upper 32 bits, the next 32
-- and the lowest 32, of the upper 32 bits of its source, and of its destination ports
abbrev pub ports_of : PortRange → Span
ports_of range = record { first = range.lo; last = range.hi }

abbrev pub spans_of : Piece → Spans
spans_of piece =
    record {
      dst = span_of 0 piece.dst;
      next = span_of 32 piece.dst;
      low = span_of 96 piece.dst;
      src = span_of 0 piece.src;
      ports = ports_of piece.dport;
    }

-- the spans of some pieces in columns
pub record SpanColumns : Type 0 where
  pub dst_firsts : List ℕ
  pub dst_lasts : List ℕ
  pub next_firsts : List ℕ
  pub next_lasts : List ℕ
  pub low_firsts : List ℕ
  pub low_lasts : List ℕ
  pub src_firsts : List ℕ
  pub src_lasts : List ℕ
  pub port_firsts : List ℕ
  pub port_lasts : List ℕ

-- they are of one length
pub record AreLevel (columns : SpanColumns) : Type 0 where
  pub dst_last : length columns.dst_lasts ≡ length columns.dst_firsts
  pub next_first : length columns.next_firsts ≡ length columns.dst_firsts
  pub next_last : length columns.next_lasts ≡ length columns.dst_firsts
  pub low_first : length columns.low_firsts ≡ length columns.dst_firsts
  pub low_last : length columns.low_lasts ≡ length columns.dst_firsts
  pub src_first : length columns.src_firsts ≡ length columns.dst_firsts
  pub src_last : length columns.src_lasts ≡ length columns.dst_firsts
  pub port_first : length columns.port_firsts ≡ length columns.dst_firsts
  pub port_last : length columns.port_lasts ≡ length columns.dst_firsts

-- the columns beside some live pieces
abbrev pub columns_of : List LivePiece → SpanColumns
columns_of live =
    record {
      dst_firsts = map (λ one. first_of 0 one.piece.dst) live;
      dst_lasts = map (λ one. last_of 0 one.piece.dst) live;
      next_firsts = map (λ one. first_of 32 one.piece.dst) live;
      next_lasts = map (λ one. last_of 32 one.piece.dst) live;
      low_firsts = map (λ one. first_of 96 one.piece.dst) live;
      low_lasts = map (λ one. last_of 96 one.piece.dst) live;
      src_firsts = map (λ one. first_of 0 one.piece.src) live;
      src_lasts = map (λ one. last_of 0 one.piece.src) live;
      port_firsts = map (λ one. one.piece.dport.lo) live;
      port_lasts = map (λ one. one.piece.dport.hi) live;
    }

-- the same with one piece more at the end, and without that at a place, which the last takes
abbrev pub with_row : SpanColumns → Piece → SpanColumns
with_row columns piece =
    record {
      dst_firsts = columns.dst_firsts ++ first_of 0 piece.dst ∷ [];
      dst_lasts = columns.dst_lasts ++ last_of 0 piece.dst ∷ [];
      next_firsts = columns.next_firsts ++ first_of 32 piece.dst ∷ [];
      next_lasts = columns.next_lasts ++ last_of 32 piece.dst ∷ [];
      low_firsts = columns.low_firsts ++ first_of 96 piece.dst ∷ [];
      low_lasts = columns.low_lasts ++ last_of 96 piece.dst ∷ [];
      src_firsts = columns.src_firsts ++ first_of 0 piece.src ∷ [];
      src_lasts = columns.src_lasts ++ last_of 0 piece.src ∷ [];
      port_firsts = columns.port_firsts ++ piece.dport.lo ∷ [];
      port_lasts = columns.port_lasts ++ piece.dport.hi ∷ [];
    }

abbrev pub without_row : SpanColumns → ℕ → SpanColumns
without_row columns place =
    record {
      dst_firsts = swap_remove columns.dst_firsts place 0;
      dst_lasts = swap_remove columns.dst_lasts place 0;
      next_firsts = swap_remove columns.next_firsts place 0;
      next_lasts = swap_remove columns.next_lasts place 0;
      low_firsts = swap_remove columns.low_firsts place 0;
      low_lasts = swap_remove columns.low_lasts place 0;
      src_firsts = swap_remove columns.src_firsts place 0;
      src_lasts = swap_remove columns.src_lasts place 0;
      port_firsts = swap_remove columns.port_firsts place 0;
      port_lasts = swap_remove columns.port_lasts place 0;
    }

-- the destinations at one place, in each window, the sources and the destination ports have a number in common with spans
abbrev pub is_near : SpanColumns → Spans → ℕ → Bool
is_near columns spans at =
    meets_at columns.dst_firsts columns.dst_lasts spans.dst at && meets_at columns.next_firsts columns.next_lasts spans.next at
    && meets_at columns.low_firsts columns.low_lasts spans.low at && meets_at columns.src_firsts columns.src_lasts spans.src at
    && meets_at columns.port_firsts columns.port_lasts spans.ports at
