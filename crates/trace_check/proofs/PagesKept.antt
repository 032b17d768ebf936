-- Bounds of pages of slots: of a blank device, behind a write, and what is passed over by them.
use Rattle.std.proofs.Common.{◌≡◌, ℕ, ◌+◌, ◌-◌, ◌*◌, ◌/◌, ◌^◌, ◌<◌, ◌≤◌, Option, Some, None, List, length, replicate, get_or, set, inl, inr, sym, ◌∙◌, ap, subst, arith, length-set, get_or-set_same, get_or-set_other}
use Rattle.std.specs.Prelude.{slice_index, slice_set}
use Rattle.std.proofs.lemmas.Bool.{cases_eq}
use Rattle.std.proofs.lemmas.List.{get_or_default, length-replicate}
use Rattle.slot_order.specs.Order.{slot}
use Rattle.slot_order.proofs.Writes.{slot_inside, slot_other}
use Rattle.rule_model.specs.Entry.{RankedPiece}
use Rattle.block_windows.specs.declared.Span.{Span}
use Rattle.trace_check.specs.Columns.{AreColumnsOf, IsNear, coarse_rank}
use Rattle.trace_check.specs.Pages.{AreBoundsOf, IsWithin, bounds_at, page_slots}
use Rattle.trace_check.proofs.ColumnsKept.{nothing_stands}

-- any bounds are right where no slot has a piece
pub blank_bounds : (slots : ℕ) (pieces : List (Option RankedPiece)) (bounds : List Span) → pieces ≡ replicate slots None → slots ≤ length bounds * page_slots → AreBoundsOf pieces bounds
blank_bounds slots pieces bounds none size = record {
  size = let same : length pieces ≡ slots = ap length none ∙ length-replicate slots None in omega arith;
  within = λ at x there. absurd (nothing_stands slots at x (subst (λ (held : List (Option RankedPiece)). slot held at ≡ Some x) none there));
}

-- and behind a write of one slot, where those of its page are told anew
pub set_bounds : (pieces : List (Option RankedPiece)) (ranks firsts lasts : List ℕ) (bounds : List Span) (at : ℕ) (content : Option RankedPiece) (next : Span) → at < length pieces → AreBoundsOf pieces bounds
    → AreColumnsOf (slice_set pieces at content) ranks firsts lasts
    → ((k : ℕ) → k < length ranks → k / page_slots ≡ at / page_slots → slice_index ranks k < 2 ^ 32 - 1 → IsWithin next (slice_index ranks k))
    → AreBoundsOf (slice_set pieces at content) (set bounds (at / page_slots) next)
set_bounds pieces ranks firsts lasts bounds at content next inside was columns told =
    let size = length-set pieces at content in
    let pages = length-set bounds (at / page_slots) next in
    let room = was.size in
    record {
      size = omega arith;
      within = λ k x there. elim (cases_eq (k / page_slots) (at / page_slots)) [ inl same ↦ here k x same there | inr other ↦ away k x other there ];
    }
  where
    here : (k : ℕ) (x : RankedPiece) → k / page_slots ≡ at / page_slots → slot (slice_set pieces at content) k ≡ Some x → IsWithin (bounds_at (set bounds (at / page_slots) next) k) (coarse_rank x.rank)
    here k x same there =
        let cells = columns.cells k x there in
        let held = slot_inside (slice_set pieces at content) k x there in
        let size = columns.ranks_size in
        let room = was.size in
        let found : bounds_at (set bounds (at / page_slots) next) k ≡ next =
        ap (λ page. get_or (set bounds (at / page_slots) next) page (record { first = 0; last = 0 })) same
        ∙ get_or-set_same bounds (at / page_slots) next (record { first = 0; last = 0 }) (omega arith) in
        subst (λ (s : Span). IsWithin s (coarse_rank x.rank)) (sym found)
        (subst (λ (n : ℕ). IsWithin next n) cells.rank (told k (omega arith) same cells.fits))

    away : (k : ℕ) (x : RankedPiece) → (k / page_slots ≡ at / page_slots → ⊥) → slot (slice_set pieces at content) k ≡ Some x
        → IsWithin (bounds_at (set bounds (at / page_slots) next) k) (coarse_rank x.rank)
    away k x other there =
        subst (λ (s : Span). IsWithin s (coarse_rank x.rank)) (sym (get_or-set_other bounds (at / page_slots) (k / page_slots) next (record { first = 0; last = 0 }) other))
        (was.within k x (sym (slot_other pieces at content k (λ same. other (ap (λ n. n / page_slots) same))) ∙ there))

-- a page that is passed over has no piece that is near
pub far_page : (pieces : List (Option RankedPiece)) (bounds : List Span) (of_ranks of_windows span : Span) (from to k : ℕ) (x : RankedPiece) → AreBoundsOf pieces bounds → from < length pieces
    → span ≡ get_or bounds (from / page_slots) span → ((n : ℕ) → IsWithin span n → IsWithin of_ranks n → ⊥) → to ≤ from / page_slots * page_slots + page_slots → from ≤ k → k < to
    → slot pieces k ≡ Some x → IsNear of_ranks of_windows x → ⊥
far_page pieces bounds of_ranks of_windows span from to k x are inside read apart page least below there near =
    let room = are.size in
    let same : k / page_slots ≡ from / page_slots = omega arith in
    let found : bounds_at bounds k ≡ span = ap (λ page. get_or bounds page (record { first = 0; last = 0 })) same
    ∙ (get_or_default bounds (from / page_slots) (record { first = 0; last = 0 }) span (omega arith) ∙ sym read) in
    apart (coarse_rank x.rank) (subst (λ (s : Span). IsWithin s (coarse_rank x.rank)) found (are.within k x there)) (near.least, near.most)
