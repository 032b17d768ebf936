-- The insertions that a planned row makes: what they write, how many writes they take, and what they cross.
use Rattle.std.proofs.Common.{◌≡◌, ℕ, ◌+◌, ◌*◌, ◌≤◌, max, List, [], ◌∷◌, ◌++◌, length, map, fold, Contains, arith, inl, refl, sym, ◌∙◌, subst, ap, ap₂, append_assoc, append-nil}
use Rattle.std.specs.Prelude.{flat_map}
use Rattle.std.specs.List.{AllZip}
use Rattle.slot_order.specs.Chains.{BoundsMemberChains}
use Rattle.slot_moves.proofs.Count.{image_bound}
use Rattle.rule_model.specs.Piece.{PiecesOverlap}
use Rattle.rule_model.specs.Entry.{RankedPiece}
use Rattle.placement.specs.declared.LivePiece.{LivePiece}
use Rattle.placement.specs.Insertion.{IsLive}
use Rattle.tcam_device.specs.declared.Write.{Write}
use Rattle.tcam_device.specs.State.{State, state_after}
use Rattle.tcam_device.specs.Insertion.{Insertion, insertions, IsCrossingSpan, IsGreatestSpan, IsWithinTightBound, IsUncrossed}
use Rattle.tcam_device.proofs.Spans.{Makes, greatest_push}
use Rattle.commit_writes.specs.Planned.{IdEntries, Planned, BoundsPieceChains, write_for, planned_writes, greatest_planned}
use Rattle.commit_writes.proofs.Mirror.{entry_by, over, rank}
use Rattle.commit_writes.proofs.Ids.{AreOfPieces, piece_by, known_member}
use Rattle.commit_writes.proofs.Row.{made_by, IsAsPlanned, AreNestedIds}

-- chains of ids are chains of pieces
pub chains_of_ids : (state : State) (pieces : List RankedPiece) (all : List LivePiece) (held : IdEntries) (m : ℕ) → AreOfPieces state pieces all held
    → BoundsPieceChains pieces m → BoundsMemberChains (over (piece_by all held)) (rank (piece_by all held)) (IsLive all) m
chains_of_ids state pieces all held m of =
    image_bound (over (piece_by all held)) (rank (piece_by all held)) (IsLive all) (λ a b. PiecesOverlap a.piece b.piece) (λ ranked. ranked.rank) (Contains pieces) (piece_by all held) m
    (λ id known. known_member state pieces all held id of known) (λ id known. refl) (λ a b ka kb v. v)

-- the insertions of some writes alone
pub made_alone : (state : State) (writes : List Write) (made : List Insertion) → Makes state writes made → insertions state writes ≡ made
made_alone state writes made makes = ap (insertions state) (sym (append-nil writes)) ∙ (makes [] ∙ append-nil made)

-- planned insertions write what was planned,
pub writes_of_made : (held : IdEntries) (piece : ℕ → RankedPiece) (state : State) (planned : List Planned) → flat_map (λ insertion. insertion.writes) (made_by held piece state planned) ≡ planned_writes held planned
writes_of_made held piece state [] = refl
writes_of_made held piece state (one ∷ planned) = ap (λ rest. map (write_for held) one.moves ++ rest) (writes_of_made held piece (state_after state (map (write_for held) one.moves)) planned)

-- each the entry of its id,
pub entries_of_made : (held : IdEntries) (piece : ℕ → RankedPiece) (state : State) (planned : List Planned) → map (λ insertion. insertion.entry) (made_by held piece state planned) ≡ map (λ insertion. entry_by piece insertion.one.id) planned
entries_of_made held piece state [] = refl
entries_of_made held piece state (one ∷ planned) = ap (λ rest. entry_by piece one.one.id ∷ rest) (entries_of_made held piece (state_after state (map (write_for held) one.moves)) planned)

-- in as many writes as were planned,
pub sizes_of_made : (piece : ℕ → RankedPiece) (all : List LivePiece) (planned : List Planned) (made : List Insertion) → AllZip (IsAsPlanned piece all) planned made
    → map (λ insertion. length insertion.writes) made ≡ map (λ insertion. length insertion.moves) planned
sizes_of_made piece all [] [] are = refl
sizes_of_made piece all [] (m ∷ made) are = absurd are
sizes_of_made piece all (p ∷ planned) [] are = absurd are
sizes_of_made piece all (p ∷ planned) (m ∷ made) are = ap₂ (λ first rest. first ∷ rest) are.0.size (sizes_of_made piece all planned made are.1)

-- within the bound of any chains,
pub made_within : (piece : ℕ → RankedPiece) (all : List LivePiece) (planned : List Planned) (made : List Insertion) (m : ℕ) → AllZip (IsAsPlanned piece all) planned made
    → BoundsMemberChains (over piece) (rank piece) (IsLive all) m → IsWithinTightBound m made
made_within piece all [] [] m are bound = tt
made_within piece all [] (n ∷ made) m are bound = absurd are
made_within piece all (p ∷ planned) [] m are bound = absurd are
made_within piece all (p ∷ planned) (n ∷ made) m are bound = ((p.span, are.0.span, are.0.few m bound), made_within piece all planned made m are.1 bound)

-- crossing none where they are nested,
pub made_uncrossed : (piece : ℕ → RankedPiece) (all : List LivePiece) (planned : List Planned) (made : List Insertion) (m : ℕ) → AllZip (IsAsPlanned piece all) planned made
    → AreNestedIds piece all → BoundsMemberChains (over piece) (rank piece) (IsLive all) m → IsUncrossed m made
made_uncrossed piece all [] [] m are nested bound = tt
made_uncrossed piece all [] (n ∷ made) m are nested bound = absurd are
made_uncrossed piece all (p ∷ planned) [] m are nested bound = absurd are
made_uncrossed piece all (p ∷ planned) (n ∷ made) m are nested bound = (
  (
    subst (IsCrossingSpan n.before n.entry) (are.0.uncrossed nested) are.0.span,
    (let few : length n.writes ≤ m * (1 + 0) = subst (λ s. length n.writes ≤ m * (1 + s)) (are.0.uncrossed nested) (are.0.few m bound) in grind arith),
  ),
  made_uncrossed piece all planned made m are.1 nested bound,
)

-- and else no further than was planned
spans_on : (piece : ℕ → RankedPiece) (all : List LivePiece) (front : List Insertion) (span : ℕ) (planned : List Planned) (made : List Insertion)
    → IsGreatestSpan front span → AllZip (IsAsPlanned piece all) planned made → IsGreatestSpan (front ++ made) (fold max span (map (λ insertion. insertion.span) planned))
spans_on piece all front span [] [] greatest are = subst (λ some. IsGreatestSpan some span) (sym (append-nil front)) greatest
spans_on piece all front span [] (n ∷ made) greatest are = absurd are
spans_on piece all front span (p ∷ planned) [] greatest are = absurd are
spans_on piece all front span (p ∷ planned) (n ∷ made) greatest are =
    subst (λ some. IsGreatestSpan some (fold max span (map (λ insertion. insertion.span) (p ∷ planned)))) (append_assoc front (n ∷ []) made)
    (spans_on piece all (front ++ n ∷ []) (max span p.span) planned made (greatest_push front n span p.span greatest are.0.span) are.1)

pub spans_of_made : (piece : ℕ → RankedPiece) (all : List LivePiece) (planned : List Planned) (made : List Insertion) → AllZip (IsAsPlanned piece all) planned made
    → IsGreatestSpan made (greatest_planned planned)
spans_of_made piece all planned made are = spans_on piece all [] 0 planned made record { no_less = tt; no_more = inl refl } are
