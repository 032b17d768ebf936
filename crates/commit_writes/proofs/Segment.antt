-- Planned insertions: which they are on the device, within which bounds, and with which numbers.
use Rattle.std.proofs.Common.{◌≡◌, ℕ, ◌+◌, ◌*◌, ◌≤◌, arith, List, [], ◌∷◌, ◌++◌, Contains, length-append, length, map, fold, max, mul-le-mul_left, refl, sym, ◌∙◌, subst, ap, ap₂}
use Rattle.std.specs.List.{AllByRecursion, AllZip}
use Rattle.std.specs.Prelude.{flat_map}
use Rattle.std.proofs.lemmas.List.{length-map}
use Rattle.slot_order.specs.Chains.{BoundsMemberChains}
use Rattle.slot_order.proofs.Lists.{contains_head, contains_tail}
use Rattle.slot_pool.specs.Arrangement.{Slots}
use Rattle.rule_model.specs.Entry.{RankedPiece, entry_for}
use Rattle.placement.specs.declared.LivePiece.{LivePiece}
use Rattle.tcam_device.specs.State.{State}
use Rattle.tcam_device.specs.Insertion.{Insertion, insertions, longest_insertion, IsGreatestSpan, IsWithinTightBound, IsUncrossed}
use Rattle.commit_writes.specs.Planned.{IdEntries, Planned, planned_writes, live_after, ranked_of, write_for, slots_after, longest_planned, greatest_planned, AreNested, BoundsPieceChains, IsPlannedRow}
use Rattle.placement.specs.Insertion.{IsLive}
use Rattle.commit_writes.proofs.Mirror.{entry_by, over, rank}
use Rattle.commit_writes.proofs.Fits.{standing_bound}
use Rattle.commit_writes.proofs.InUse.{planned_spans, slots_kept}
use Rattle.commit_writes.proofs.Ids.{nested_ids}
use Rattle.commit_writes.proofs.Members.{of_row}
use Rattle.commit_writes.proofs.Row.{made_by, IsAsPlanned, AreDone}
use Rattle.commit_writes.proofs.Start.{commit_piece, commit_done, commit_makes, planned_piece}
use Rattle.commit_writes.proofs.Counted.{chains_of_ids, writes_of_made, entries_of_made, sizes_of_made, made_within, made_uncrossed, spans_of_made}

-- planned insertions are nothing but insertions,
pub planned_whole : (state : State) (standing inserted : List RankedPiece) (live : List LivePiece) (slots : Slots) (entries : IdEntries) (planned : List Planned)
    → IsPlannedRow state standing inserted live slots entries planned
    → flat_map (λ insertion. insertion.writes) (insertions state (planned_writes entries planned)) ≡ planned_writes entries planned
planned_whole state standing inserted live slots entries planned row =
    ap (λ some. flat_map (λ insertion. insertion.writes) some) (commit_makes state standing inserted live slots entries planned row)
    ∙ writes_of_made entries (commit_piece live entries planned) state planned

-- one for each added piece,
pub planned_pieces : (state : State) (standing inserted : List RankedPiece) (live : List LivePiece) (slots : Slots) (entries : IdEntries) (planned : List Planned)
    → IsPlannedRow state standing inserted live slots entries planned
    → map (λ insertion. insertion.entry) (insertions state (planned_writes entries planned)) ≡ map entry_for inserted
planned_pieces state standing inserted live slots entries planned row =
    ap (λ some. map (λ insertion. insertion.entry) some) (commit_makes state standing inserted live slots entries planned row)
    ∙ (entries_of_made entries piece state planned ∙ (each planned (λ one member. member) ∙ ap (map entry_for) row.inserted_are))
  where
    piece : ℕ → RankedPiece
    piece = commit_piece live entries planned

    each : (some : List Planned) → ((one : Planned) → Contains some one → Contains planned one) → map (λ insertion. entry_by piece insertion.one.id) some ≡ map entry_for (map ranked_of some)
    each [] up = refl
    each (one ∷ some) up = ap₂ (λ first rest. first ∷ rest) (ap entry_for (planned_piece state standing inserted live slots entries planned one row (up one (contains_head one some)))) (each some (λ other member. up other (contains_tail one other some member)))

-- within the tight bound,
pub planned_tight : (state : State) (standing inserted : List RankedPiece) (live : List LivePiece) (slots : Slots) (entries : IdEntries) (planned : List Planned) (chain : ℕ)
    → IsPlannedRow state standing inserted live slots entries planned → BoundsPieceChains (standing ++ inserted) chain
    → IsWithinTightBound chain (insertions state (planned_writes entries planned))
planned_tight state standing inserted live slots entries planned chain row bound =
    subst (IsWithinTightBound chain) (sym (commit_makes state standing inserted live slots entries planned row))
    (made_within (commit_piece live entries planned) (live_after live planned) planned (made_by entries (commit_piece live entries planned) state planned) chain
    (commit_done state standing inserted live slots entries planned row).as_planned
    (chains_of_ids state (standing ++ inserted) (live_after live planned) entries chain (of_row state standing inserted live slots entries planned row) bound))

-- crossing nothing where they are nested,
pub planned_uncrossed : (most : ℕ) (state : State) (standing inserted : List RankedPiece) (live : List LivePiece) (slots : Slots) (entries : IdEntries) (planned : List Planned)
    → IsPlannedRow state standing inserted live slots entries planned → AreNested (standing ++ inserted) → BoundsPieceChains (standing ++ inserted) most
    → IsUncrossed most (insertions state (planned_writes entries planned))
planned_uncrossed most state standing inserted live slots entries planned row nested short =
    let pieces = of_row state standing inserted live slots entries planned row in
    subst (IsUncrossed most) (sym (commit_makes state standing inserted live slots entries planned row))
    (made_uncrossed (commit_piece live entries planned) (live_after live planned) planned (made_by entries (commit_piece live entries planned) state planned) most
    (commit_done state standing inserted live slots entries planned row).as_planned
    (nested_ids state (standing ++ inserted) (live_after live planned) entries pieces nested)
    (chains_of_ids state (standing ++ inserted) (live_after live planned) entries most pieces short))

-- and as long as they were planned
pub planned_longest : (state : State) (standing inserted : List RankedPiece) (live : List LivePiece) (slots : Slots) (entries : IdEntries) (planned : List Planned)
    → IsPlannedRow state standing inserted live slots entries planned
    → longest_insertion state (planned_writes entries planned) ≡ longest_planned planned
planned_longest state standing inserted live slots entries planned row =
    ap (fold max 0) (ap (map (λ insertion. length insertion.writes)) (commit_makes state standing inserted live slots entries planned row)
    ∙ sizes_of_made (commit_piece live entries planned) (live_after live planned) planned (made_by entries (commit_piece live entries planned) state planned)
    (commit_done state standing inserted live slots entries planned row).as_planned)

pub planned_span : (state : State) (standing inserted : List RankedPiece) (live : List LivePiece) (slots : Slots) (entries : IdEntries) (planned : List Planned)
    → IsPlannedRow state standing inserted live slots entries planned
    → IsGreatestSpan (insertions state (planned_writes entries planned)) (greatest_planned planned)
planned_span state standing inserted live slots entries planned row =
    subst (λ made. IsGreatestSpan made (greatest_planned planned)) (sym (commit_makes state standing inserted live slots entries planned row))
    (spans_of_made (commit_piece live entries planned) (live_after live planned) planned (made_by entries (commit_piece live entries planned) state planned)
    (commit_done state standing inserted live slots entries planned row).as_planned)

-- their writes are as few as their bound allows
few_made : (piece : ℕ → RankedPiece) (all : List LivePiece) (entries : IdEntries) (size : ℕ) (planned : List Planned) (made : List Insertion) → AllZip (IsAsPlanned piece all) planned made
    → AllByRecursion (λ insertion. insertion.span ≤ size) planned → BoundsMemberChains (over piece) (rank piece) (IsLive all) size
    → length (planned_writes entries planned) ≤ size * (1 + size) * length planned
few_made piece all entries size [] [] are spans bound = omega arith
few_made piece all entries size [] (n ∷ made) are spans bound = absurd are
few_made piece all entries size (p ∷ planned) [] are spans bound = absurd are
few_made piece all entries size (p ∷ planned) (n ∷ made) are spans bound =
    let own : length n.writes ≤ size * (1 + p.span) = are.0.few size bound in
    let span : p.span ≤ size = spans.0 in
    let wide : size * (1 + p.span) ≤ size * (1 + size) = mul-le-mul_left size (let more : 1 + p.span ≤ 1 + size = omega arith in more) in
    let same : length n.writes ≡ length p.moves = are.0.size in
    let mapped : length (map (write_for entries) p.moves) ≡ length p.moves = length-map p.moves (write_for entries) in
    let joined : length (map (write_for entries) p.moves ++ planned_writes entries planned) ≡ length (map (write_for entries) p.moves) + length (planned_writes entries planned) =
    length-append (map (write_for entries) p.moves) (planned_writes entries planned) in
    let rest : length (planned_writes entries planned) ≤ size * (1 + size) * length planned = few_made piece all entries size planned made are.1 spans.1 bound in
    let count : length (p ∷ planned) ≡ length planned + 1 = omega arith in
    grind arith

-- which is one of the slots alone, as all ids that were live stand in the end
pub planned_few : (state : State) (standing inserted : List RankedPiece) (live : List LivePiece) (slots : Slots) (entries : IdEntries) (planned : List Planned)
    → IsPlannedRow state standing inserted live slots entries planned → length (planned_writes entries planned) ≤ length slots * (1 + length slots) * length planned
planned_few state standing inserted live slots entries planned row =
    few_made piece all entries (length slots) planned (made_by entries piece state planned) done.as_planned (planned_spans live slots planned row.are_planned) bound
  where
    piece : ℕ → RankedPiece
    piece = commit_piece live entries planned

    all : List LivePiece
    all = live_after live planned

    done : AreDone entries piece all live slots state planned
    done = commit_done state standing inserted live slots entries planned row

    bound : BoundsMemberChains (over piece) (rank piece) (IsLive all) (length slots)
    bound = subst (BoundsMemberChains (over piece) (rank piece) (IsLive all)) (slots_kept slots planned) (standing_bound (over piece) (rank piece) (IsLive all) (slots_after slots planned) done.placed)
