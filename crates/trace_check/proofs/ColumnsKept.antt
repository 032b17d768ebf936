-- Columns beside the pieces of slots: of a blank device, behind a write, and what is passed over by them.
use Rattle.std.proofs.Common.{◌≡◌, ℕ, zero, suc, ◌+◌, ◌-◌, ◌*◌, ◌/◌, ◌^◌, ◌<◌, ◌≤◌, false, Option, Some, None, List, length, replicate, inl, inr, sym, ◌∙◌, ap, subst, arith, length-set, get_or-set_same, get_or-set_other, le-leb}
use Rattle.std.specs.Prelude.{nat_le, nat_lt, slice_index, slice_set}
use Rattle.std.proofs.lemmas.Bool.{cases_eq, cases_lt, both_ways, and_from, cond-true, cond-false, lt-ltb, le-ltb}
use Rattle.std.proofs.lemmas.List.{length-replicate}
use Rattle.slot_order.specs.Order.{slot}
use Rattle.slot_order.proofs.Writes.{slot_same, slot_other}
use Rattle.rule_model.specs.declared.Piece.{Piece}
use Rattle.rule_model.specs.Piece.{PiecesOverlap}
use Rattle.rule_model.specs.Rank.{high_of, low_of}
use Rattle.rule_model.specs.Entry.{RankedPiece}
use Rattle.rule_model.proofs.CommonKeys.{overlap_parts}
use Rattle.block_windows.specs.declared.Span.{Span}
use Rattle.block_windows.specs.Windows.{first_of, last_of, span_of, meets_at}
use Rattle.block_windows.proofs.Blocks.{held_within}
use Rattle.trace_check.specs.declared.placed.Cells.{Cells}
use Rattle.trace_check.specs.Columns.{low_part, coarse_rank, ranks_below, ranks_above, may_meet, AreCellsOf, AreColumnsOf, IsNear}

pub nothing_stands : (n at : ℕ) (x : RankedPiece) → slot (replicate n None) at ≡ Some x → ⊥
nothing_stands zero at x held = absurd (cc)
nothing_stands (suc n) zero x held = absurd (cc)
nothing_stands (suc n) (suc at) x held = nothing_stands n at x held

-- any columns are right where no slot has a piece
pub blank_columns : (slots : ℕ) (pieces : List (Option RankedPiece)) (ranks firsts lasts : List ℕ) → pieces ≡ replicate slots None → length ranks ≡ slots → length firsts ≡ slots → length lasts ≡ slots
    → AreColumnsOf pieces ranks firsts lasts
blank_columns slots pieces ranks firsts lasts none r f l =
    let size : length pieces ≡ slots = ap length none ∙ length-replicate slots None in
    record {
      ranks_size = r ∙ sym size;
      firsts_size = f ∙ sym size;
      lasts_size = l ∙ sym size;
      cells = λ at x there. absurd (nothing_stands slots at x (subst (λ (held : List (Option RankedPiece)). slot held at ≡ Some x) none there));
    }

-- what the columns have behind a write of one slot
pub set_columns : (pieces : List (Option RankedPiece)) (ranks firsts lasts : List ℕ) (at : ℕ) (content : Option RankedPiece) (cells : Cells) → at < length pieces → AreColumnsOf pieces ranks firsts lasts
    → ((x : RankedPiece) → content ≡ Some x → AreCellsOf cells x)
    → AreColumnsOf (slice_set pieces at content) (slice_set ranks at cells.rank) (slice_set firsts at cells.first) (slice_set lasts at cells.last)
set_columns pieces ranks firsts lasts at content cells inside was is =
    let size = length-set pieces at content in
    record {
      ranks_size = length-set ranks at cells.rank ∙ (was.ranks_size ∙ sym size);
      firsts_size = length-set firsts at cells.first ∙ (was.firsts_size ∙ sym size);
      lasts_size = length-set lasts at cells.last ∙ (was.lasts_size ∙ sym size);
      cells = λ k x there. elim (cases_eq k at) [ inl same ↦ here k x same there | inr other ↦ away k x other there ];
    }
  where
    here : (k : ℕ) (x : RankedPiece) → k ≡ at → slot (slice_set pieces at content) k ≡ Some x
        → AreCellsOf (record { rank = slice_index (slice_set ranks at cells.rank) k; first = slice_index (slice_set firsts at cells.first) k; last = slice_index (slice_set lasts at cells.last) k }) x
    here k x same there =
        let new = is x (sym (slot_same pieces at content inside) ∙ (ap (slot (slice_set pieces at content)) (sym same) ∙ there)) in
        let rank : slice_index (slice_set ranks at cells.rank) k ≡ cells.rank = ap (slice_index (slice_set ranks at cells.rank)) same ∙ get_or-set_same ranks at cells.rank 0 (let s = was.ranks_size in omega arith) in
        record {
          rank = rank ∙ new.rank;
          first = ap (slice_index (slice_set firsts at cells.first)) same ∙ (get_or-set_same firsts at cells.first 0 (let s = was.firsts_size in omega arith) ∙ new.first);
          last = ap (slice_index (slice_set lasts at cells.last)) same ∙ (get_or-set_same lasts at cells.last 0 (let s = was.lasts_size in omega arith) ∙ new.last);
          fits = subst (λ (n : ℕ). n < 2 ^ 32 - 1) (sym rank) new.fits;
        }

    away : (k : ℕ) (x : RankedPiece) → (k ≡ at → ⊥) → slot (slice_set pieces at content) k ≡ Some x
        → AreCellsOf (record { rank = slice_index (slice_set ranks at cells.rank) k; first = slice_index (slice_set firsts at cells.first) k; last = slice_index (slice_set lasts at cells.last) k }) x
    away k x other there =
        let old = was.cells k x (sym (slot_other pieces at content k other) ∙ there) in
        let rank = get_or-set_other ranks at k cells.rank 0 other in
        record {
          rank = rank ∙ old.rank;
          first = get_or-set_other firsts at k cells.first 0 other ∙ old.first;
          last = get_or-set_other lasts at k cells.last 0 other ∙ old.last;
          fits = subst (λ (n : ℕ). n < 2 ^ 32 - 1) (sym rank) old.fits;
        }

-- a slot that is passed over has no piece that is near
pub far_piece : (pieces : List (Option RankedPiece)) (ranks firsts lasts : List ℕ) (of_ranks of_windows : Span) (k : ℕ) (x : RankedPiece) → AreColumnsOf pieces ranks firsts lasts → slot pieces k ≡ Some x
    → may_meet ranks firsts lasts of_ranks of_windows k ≡ false → (coarse_rank x.rank < 2 ^ 32 - 1 → IsNear of_ranks of_windows x) → ⊥
far_piece pieces ranks firsts lasts of_ranks of_windows k x are there apart within =
    let cells = are.cells k x there in
    let near = within (subst (λ (n : ℕ). n < 2 ^ 32 - 1) cells.rank cells.fits) in
    both_ways (may_meet ranks firsts lasts of_ranks of_windows k) apart
    (and_from (meets_at ranks ranks of_ranks k) (meets_at firsts lasts of_windows k)
    (and_from (nat_le (slice_index ranks k) of_ranks.last) (nat_le of_ranks.first (slice_index ranks k))
    (le-leb _ _ (subst (λ (n : ℕ). n ≤ of_ranks.last) (sym cells.rank) near.most)) (le-leb _ _ (subst (λ (n : ℕ). of_ranks.first ≤ n) (sym cells.rank) near.least)))
    (and_from (nat_le (slice_index firsts k) of_windows.last) (nat_le of_windows.first (slice_index lasts k))
    (le-leb _ _ (subst (λ (n : ℕ). n ≤ of_windows.last) (sym cells.first) near.starts)) (le-leb _ _ (subst (λ (n : ℕ). of_windows.first ≤ n) (sym cells.last) near.ends))))

-- ranks in 32 bits are in the order of ranks
part_is : (rank : ℕ) → low_of rank < 2 ^ 32 → low_part rank ≡ low_of rank
part_is rank less = cond-true (nat_lt (low_of rank) (2 ^ 32)) _ _ (lt-ltb (low_of rank) (2 ^ 32) less)

part_most : (rank : ℕ) → 2 ^ 32 ≤ low_of rank → low_part rank ≡ 2 ^ 32 - 1
part_most rank more = cond-false (nat_lt (low_of rank) (2 ^ 32)) _ _ (le-ltb (low_of rank) (2 ^ 32) more)

part_fits : (rank : ℕ) → (low_part rank ≤ low_of rank) × (low_part rank ≤ 2 ^ 32 - 1)
part_fits rank = elim (cases_lt (low_of rank) (2 ^ 32)) [
  | inl less ↦ let is = part_is rank less in (omega arith, omega arith)
  | inr more ↦ let is = part_most rank more in (omega arith, omega arith)
]

part_order : (a b : ℕ) → low_of a ≤ low_of b → low_part a ≤ low_part b
part_order a b less =
    let low = part_fits a in
    let within = low.0 in
    let most = low.1 in
    elim (cases_lt (low_of b) (2 ^ 32)) [
      | inl small ↦ let is = part_is b small in omega arith
      | inr great ↦ let is = part_most b great in omega arith
    ]

coarse_low : (rank : ℕ) → high_of rank ≤ 0 → coarse_rank rank ≡ low_part rank / 2
coarse_low rank none = cond-false (nat_lt 0 (high_of rank)) _ _ (le-ltb 0 (high_of rank) none)

coarse_high : (rank : ℕ) → 0 < high_of rank → coarse_rank rank ≡ 2 ^ 31 + (high_of rank - 1) * 2 ^ 23 + low_part rank / 2 ^ 9
coarse_high rank some = cond-true (nat_lt 0 (high_of rank)) _ _ (lt-ltb 0 (high_of rank) some)

coarse_above : (a b : ℕ) → a ≤ b → 0 < high_of b → coarse_rank a ≤ coarse_rank b
coarse_above a b less some = elim (cases_lt 0 (high_of a)) [
  | inl also ↦
      let is_a = coarse_high a also in let is_b = coarse_high b some in
      elim (cases_lt (high_of a) (high_of b)) [
        | inl higher ↦ let low = part_fits a in let most = low.1 in omega arith
        | inr same ↦ let low = part_order a b (omega arith) in omega arith
      ]
  | inr none ↦ let is_a = coarse_low a none in let is_b = coarse_high b some in let low = part_fits a in let most = low.1 in omega arith
]

pub coarse_order : (a b : ℕ) → a ≤ b → coarse_rank a ≤ coarse_rank b
coarse_order a b less = elim (cases_lt 0 (high_of b)) [
  | inl some ↦ coarse_above a b less some
  | inr none ↦
      let is_a = coarse_low a (omega arith) in let is_b = coarse_low b none in
      let low = part_order a b (omega arith) in omega arith
]

-- pieces that overlap have windows in common
overlap_near : (a b : Piece) → PiecesOverlap a b → (first_of 0 a.dst ≤ last_of 0 b.dst) × (first_of 0 b.dst ≤ last_of 0 a.dst)
overlap_near a b over =
    let common = (overlap_parts a b over).1 in
    let in_a = held_within 0 a.dst common.0 (omega arith) common.2 in
    let in_b = held_within 0 b.dst common.0 (omega arith) common.3 in
    let low_a = in_a.0 in
    let high_a = in_a.1 in
    let low_b = in_b.0 in
    let high_b = in_b.1 in
    (omega arith, omega arith)

-- so a lower piece that overlaps is near, and a higher one
pub lower_near : (low ranked : RankedPiece) → PiecesOverlap low.piece ranked.piece → low.rank < ranked.rank → IsNear (ranks_below ranked.rank) (span_of 0 ranked.piece.dst) low
lower_near low ranked over less =
    let near = overlap_near low.piece ranked.piece over in
    record { least = omega arith; most = coarse_order low.rank ranked.rank (omega arith); starts = near.0; ends = near.1 }

pub higher_near : (high ranked : RankedPiece) → PiecesOverlap ranked.piece high.piece → ranked.rank < high.rank → coarse_rank high.rank < 2 ^ 32 - 1 → IsNear (ranks_above ranked.rank) (span_of 0 ranked.piece.dst) high
higher_near high ranked over less fits =
    let near = overlap_near ranked.piece high.piece over in
    record { least = coarse_order ranked.rank high.rank (omega arith); most = omega arith; starts = near.1; ends = near.0 }

pub near_by : {ranks to windows next : Span} {x : RankedPiece} → ranks ≡ to → windows ≡ next → IsNear to next x → IsNear ranks windows x
near_by {ranks} {to} {windows} {next} {x} same_ranks same_windows near =
    subst (λ (s : Span). IsNear s windows x) (sym same_ranks) (subst (λ (s : Span). IsNear to s x) (sym same_windows) near)
