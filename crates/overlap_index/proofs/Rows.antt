-- The columns beside the live pieces, and a live piece that is taken out.
use Rattle.std.proofs.Common.{◌≡◌, ℕ, ◌-◌, ◌<◌, List, [], ◌∷◌, ◌++◌, length, map, take, set, get_or, arith, refl, sym, ◌∙◌, ap}
use Rattle.std.specs.List.{swap_remove}
use Rattle.std.proofs.lemmas.List.{get_or-map, length-map, map-set, map_push, take-map}
use Rattle.placement.specs.declared.LivePiece.{LivePiece}
use Rattle.block_windows.specs.Windows.{first_of, last_of}
use Rattle.overlap_index.specs.Near.{SpanColumns, columns_of, with_row, without_row}

-- the last takes the place of one that goes, seen through a map
map_closed : (f : LivePiece → ℕ) (xs : List LivePiece) (k : ℕ) (d : LivePiece) → k < length xs → map f (swap_remove xs k d) ≡ swap_remove (map f xs) k 0
map_closed f xs k d inside =
    sym (take-map f (length xs - 1) (set xs k (get_or xs (length xs - 1) d)))
    ∙ ap (take (length xs - 1)) (map-set f xs k (get_or xs (length xs - 1) d) ∙ ap (set (map f xs) k) (sym (get_or-map f xs (length xs - 1) d 0 (omega arith))))
    ∙ ap (λ n. take (n - 1) (set (map f xs) k (get_or (map f xs) (n - 1) 0))) (sym (length-map xs f))

-- the columns beside one live piece more, and beside all but one, whose place the last takes
pub row_more : (live : List LivePiece) (one : LivePiece) → with_row (columns_of live) one.piece ≡ columns_of (live ++ one ∷ [])
row_more live one =
    let dst_firsts = map_push (λ (x : LivePiece). first_of 0 x.piece.dst) live one in
    let dst_lasts = map_push (λ (x : LivePiece). last_of 0 x.piece.dst) live one in
    let next_firsts = map_push (λ (x : LivePiece). first_of 32 x.piece.dst) live one in
    let next_lasts = map_push (λ (x : LivePiece). last_of 32 x.piece.dst) live one in
    let low_firsts = map_push (λ (x : LivePiece). first_of 96 x.piece.dst) live one in
    let low_lasts = map_push (λ (x : LivePiece). last_of 96 x.piece.dst) live one in
    let src_firsts = map_push (λ (x : LivePiece). first_of 0 x.piece.src) live one in
    let src_lasts = map_push (λ (x : LivePiece). last_of 0 x.piece.src) live one in
    let port_firsts = map_push (λ (x : LivePiece). x.piece.dport.lo) live one in
    let port_lasts = map_push (λ (x : LivePiece). x.piece.dport.hi) live one in
    rw (dst_firsts, dst_lasts, next_firsts, next_lasts, low_firsts, low_lasts, src_firsts, src_lasts, port_firsts, port_lasts) refl

pub row_less : (live : List LivePiece) (k : ℕ) (d : LivePiece) → k < length live → without_row (columns_of live) k ≡ columns_of (swap_remove live k d)
row_less live k d inside =
    let dst_firsts = map_closed (λ (x : LivePiece). first_of 0 x.piece.dst) live k d inside in
    let dst_lasts = map_closed (λ (x : LivePiece). last_of 0 x.piece.dst) live k d inside in
    let next_firsts = map_closed (λ (x : LivePiece). first_of 32 x.piece.dst) live k d inside in
    let next_lasts = map_closed (λ (x : LivePiece). last_of 32 x.piece.dst) live k d inside in
    let low_firsts = map_closed (λ (x : LivePiece). first_of 96 x.piece.dst) live k d inside in
    let low_lasts = map_closed (λ (x : LivePiece). last_of 96 x.piece.dst) live k d inside in
    let src_firsts = map_closed (λ (x : LivePiece). first_of 0 x.piece.src) live k d inside in
    let src_lasts = map_closed (λ (x : LivePiece). last_of 0 x.piece.src) live k d inside in
    let port_firsts = map_closed (λ (x : LivePiece). x.piece.dport.lo) live k d inside in
    let port_lasts = map_closed (λ (x : LivePiece). x.piece.dport.hi) live k d inside in
    rw (dst_firsts, dst_lasts, next_firsts, next_lasts, low_firsts, low_lasts, src_firsts, src_lasts, port_firsts, port_lasts) refl

-- the columns are as long as the list of live pieces
pub columns_size : (live : List LivePiece) (columns : SpanColumns) → columns ≡ columns_of live → length columns.dst_firsts ≡ length live
columns_size live columns are = ap (λ (c : SpanColumns). length c.dst_firsts) are ∙ length-map live (λ one. first_of 0 one.piece.dst)
