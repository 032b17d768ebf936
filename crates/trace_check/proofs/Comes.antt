-- What the walks over the slots find of a write is what is to be asked of it.
use Rattle.std.proofs.Common.{◌≡◌, ℕ, zero, suc, ◌<◌, ◌≤◌, Option, Some, None, List, [], ◌∷◌, Contains, IsTrue, inl, inr, ◌⊎◌, refl, sym, ◌∙◌, subst, ap, arith}
use Rattle.std.specs.Prelude.{option_map, slice_set}
use Rattle.slot_order.specs.Order.{slot}
use Rattle.rule_model.specs.Piece.{PiecesOverlap}
use Rattle.rule_model.specs.declared.words.Entry.{Entry}
use Rattle.rule_model.specs.Entry.{RankedPiece, entry_for, same_match}
use Rattle.tcam_device.specs.State.{State}
use Rattle.tcam_device.specs.Order.{StandsAt}
use Rattle.tcam_device.proofs.One.{same_match-same}
use Rattle.readback.specs.Tasks.{CommitPieces, known_pieces}
use Rattle.readback.proofs.Facts.{ArePieces, IsSame, old_known, inserted_known}
use Rattle.trace_check.specs.Behind.{entries_in}
use Rattle.trace_check.proofs.PlacedEntries.{entry_in}

-- a write of a piece writes its entry
pub entries_set : (places : List (Option RankedPiece)) (at : ℕ) (content : Option RankedPiece) → entries_in (slice_set places at content) ≡ slice_set (entries_in places) at (option_map entry_for content)
entries_set [] at content = refl
entries_set (place ∷ places) zero content = refl
entries_set (place ∷ places) (suc at) content = ap (λ rest. option_map entry_for place ∷ rest) (entries_set places at content)

-- an entry of a place is its piece's
pub entry_of_place : (place : Option RankedPiece) (e : Entry) → option_map entry_for place ≡ Some e → (x : RankedPiece) × (place ≡ Some x) × (entry_for x ≡ e)
entry_of_place None e same = absurd (let bad : None ≡ Some e = same in cc)
entry_of_place (Some x) e same = (x, refl, let k : Some (entry_for x) ≡ Some e = same in cc)

module _ (p : CommitPieces) (facts : ArePieces p) (state : State) (places : List (Option RankedPiece)) (same : state.slots ≡ entries_in places)
    (known : (at : ℕ) (x : RankedPiece) → slot places at ≡ Some x → Contains (known_pieces p) x) where
  -- the piece of a slot that holds an entry
  pub place_of : (i : ℕ) (e : Entry) → slot state.slots i ≡ Some e → (x : RankedPiece) × (slot places i ≡ Some x) × (entry_for x ≡ e)
  place_of i e s = entry_of_place (slot places i) e (sym (entry_in places i) ∙ (ap (λ held. slot held i) (sym same) ∙ s))

  pub held_at : (i : ℕ) (x : RankedPiece) → slot places i ≡ Some x → StandsAt state i x
  held_at i x s = ap (λ held. slot held i) same ∙ (entry_in places i ∙ ap (option_map entry_for) s)

  -- pieces with one entry are one piece, with one rank
  pub same_of : (x y : RankedPiece) → Contains (known_pieces p) x → Contains (known_pieces p) y → entry_for x ≡ entry_for y → IsSame x y
  same_of x y in_x in_y one = facts.apart x y in_x in_y (subst (λ e. IsTrue (same_match (entry_for x) e)) one (same_match-same (entry_for x)))

  -- the order is asked of the pieces in their places
  module _ (at : ℕ) (ranked : RankedPiece) (is_known : Contains (known_pieces p) ranked) where
    pub ahead_of : ((i : ℕ) (first : RankedPiece) → i < at → slot places i ≡ Some first → PiecesOverlap first.piece ranked.piece → ranked.rank ≤ first.rank)
        → (i : ℕ) (first second : RankedPiece) → i < at → Contains (known_pieces p) first → Contains (known_pieces p) second
        → StandsAt state i first → Some (entry_for ranked) ≡ Some (entry_for second) → PiecesOverlap first.piece second.piece → second.rank ≤ first.rank
    ahead_of none i first second less is_first is_second stands comes over =
        let w = place_of i (entry_for first) stands in
        let one : IsSame w.0 first = same_of w.0 first (known i w.0 w.1) is_first w.2 in
        let two : IsSame ranked second = same_of ranked second is_known is_second (let k = comes in cc) in
        let low = none i w.0 less w.1 (subst (λ q. PiecesOverlap q ranked.piece) (sym one.0) (subst (PiecesOverlap first.piece) (sym two.0) over)) in
        subst (λ n. n ≤ first.rank) two.1 (subst (λ n. ranked.rank ≤ n) one.1 low)

    pub behind_of : ((j : ℕ) (second : RankedPiece) → at < j → slot places j ≡ Some second → PiecesOverlap ranked.piece second.piece → second.rank ≤ ranked.rank)
        → (j : ℕ) (first second : RankedPiece) → at < j → Contains (known_pieces p) first → Contains (known_pieces p) second
        → Some (entry_for ranked) ≡ Some (entry_for first) → StandsAt state j second → PiecesOverlap first.piece second.piece → second.rank ≤ first.rank
    behind_of none j first second more is_first is_second comes stands over =
        let w = place_of j (entry_for second) stands in
        let one : IsSame w.0 second = same_of w.0 second (known j w.0 w.1) is_second w.2 in
        let two : IsSame ranked first = same_of ranked first is_known is_first (let k = comes in cc) in
        let low = none j w.0 more w.1 (subst (λ q. PiecesOverlap ranked.piece q) (sym one.0) (subst (λ q. PiecesOverlap q second.piece) (sym two.0) over)) in
        subst (λ n. n ≤ first.rank) one.1 (subst (λ n. w.0.rank ≤ n) two.1 low)

    -- and where it isn't kept no stage keeps it
    pub not_ahead : (i : ℕ) (low : RankedPiece) → i < at → slot places i ≡ Some low → PiecesOverlap low.piece ranked.piece → low.rank < ranked.rank
        → ((i : ℕ) (first second : RankedPiece) → i < at → Contains (known_pieces p) first → Contains (known_pieces p) second
        → StandsAt state i first → Some (entry_for ranked) ≡ Some (entry_for second) → PiecesOverlap first.piece second.piece → second.rank ≤ first.rank) → ⊥
    not_ahead i low less there over lower keeps =
        let least = keeps i low ranked less (known i low there) is_known (held_at i low there) refl over in omega arith

    pub not_behind : (j : ℕ) (high : RankedPiece) → at < j → slot places j ≡ Some high → PiecesOverlap ranked.piece high.piece → ranked.rank < high.rank
        → ((j : ℕ) (first second : RankedPiece) → at < j → Contains (known_pieces p) first → Contains (known_pieces p) second
        → Some (entry_for ranked) ≡ Some (entry_for first) → StandsAt state j second → PiecesOverlap first.piece second.piece → second.rank ≤ first.rank) → ⊥
    not_behind j high more there over higher keeps =
        let most = keeps j ranked high more is_known (known j high there) refl (held_at j high there) over in omega arith

  -- a piece that is put in or taken out isn't one that stays
  pub goes_or_comes : (x y : RankedPiece) → Contains p.old x → (Contains p.erased x → ⊥) → Contains p.erased y ⊎ Contains p.inserted y → IsTrue (same_match (entry_for x) (entry_for y)) → ⊥
  goes_or_comes x y old kept (inl erased) match =
      let one = facts.apart x y (old_known p x old) (old_known p y (facts.goes y erased)) match in
      kept (subst (Contains p.erased) (sym (facts.old_once x y old (facts.goes y erased) one)) erased)
  goes_or_comes x y old kept (inr inserted) match = facts.new_apart x y old inserted (facts.apart x y (old_known p x old) (inserted_known p y inserted) match)
