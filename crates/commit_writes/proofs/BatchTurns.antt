-- A planned batch goes onward with each of its writes: what comes to stand is of the new set, and of its pieces none goes.
-- Where no rule is replaced, no key matches two pieces that stand and have one rank.
use Rattle.std.proofs.Common.{◌≡◌, ℕ, ◌≤◌, take, List, ◌++◌, Contains, inl, inr, ◌⊎◌, sym, ◌∙◌, subst, ap, arith, refl}
use Rattle.std.proofs.lemmas.List.Elements.{Contains-append_left, Contains-append_right, Contains-append_cases}
use Rattle.slot_order.proofs.Lists.{contains_take, take_contains, map_in}
use Rattle.slot_pool.specs.Arrangement.{Slots}
use Rattle.rule_model.specs.declared.Rule.{Rule}
use Rattle.rule_model.specs.Piece.{PiecesOverlap}
use Rattle.rule_store.specs.declared.Mode.{Mode}
use Rattle.rule_store.specs.declared.Command.{Command}
use Rattle.rule_store.specs.Batch.{set_after}
use Rattle.rule_model.specs.Entry.{RankedPiece}
use Rattle.placement.specs.declared.LivePiece.{LivePiece}
use Rattle.tcam_device.specs.State.{State}
use Rattle.commit_writes.specs.Proposal.{proposal}
use Rattle.commit_writes.specs.declared.Rewrite.{Rewrite}
use Rattle.commit_writes.specs.Bits.{FieldBits}
use Rattle.commit_writes.specs.Shape.{set_pieces, inserted_pieces}
use Rattle.commit_writes.specs.Commit.{ReplacesNone}
use Rattle.commit_writes.specs.Planned.{IdEntries, Planned, live_after}
use Rattle.commit_writes.specs.PlannedBatch.{IsPlannedBatch}
use Rattle.commit_writes.proofs.BatchOrder.{told_entries, live_then, late_pieces, batch_told}
use Rattle.commit_writes.proofs.BatchPieces.{row_pieces, row_once, rewritten_stays}
use Rattle.commit_writes.proofs.BatchRow.{batch_of}
use Rattle.commit_writes.proofs.BatchRules.{IsSoundChange, change_of, set_after-is}
use Rattle.commit_writes.proofs.BatchStanding.{was_in}
use Rattle.commit_writes.proofs.BatchWay.{shown, new_stands}
use Rattle.commit_writes.proofs.Disjoint.{row_disjoint}
use Rattle.commit_writes.proofs.Erases.{erased_in}
use Rattle.commit_writes.proofs.Ids.{piece_by}
use Rattle.commit_writes.proofs.OnTheWay.{AreOnTheWay, once_one}
use Rattle.commit_writes.proofs.PieceChanges.{inserted_stays}
use Rattle.commit_writes.proofs.SetPieces.{HasPiece, pieces_once}
use Rattle.commit_writes.proofs.Turns.{AreSingle, AreDisjoint, IsOnward, onward_from}

-- what is among the first of a list is among more of them
among_more : {X : Type 0} (few many : ℕ) (xs : List X) (x : X) → few ≤ many → Contains (take few xs) x → Contains (take many xs) x
among_more few many xs x more member = let w = contains_take few xs x member in let early = w.1 in take_contains many xs x w.0 (omega arith) w.2 w.3

module _ (mode : Mode) (bits : FieldBits) (state : State) (rules : List Rule) (batch : List Command) (live : List LivePiece) (slots : Slots) (entries : IdEntries) (planned : List Planned) (rewrites : List Rewrite) (erased : List ℕ) (plan : IsPlannedBatch (proposal mode bits rules batch) state live slots entries planned rewrites erased) where
  abbrev old : List RankedPiece
  old = set_pieces mode bits rules

  abbrev new : List RankedPiece
  new = set_pieces mode bits (set_after rules batch)

  abbrev inserted : List RankedPiece
  inserted = inserted_pieces mode bits rules batch

  abbrev all : List LivePiece
  all = live_after live planned

  abbrev early : ℕ → List RankedPiece
  early count = old ++ take count inserted

  abbrev late : ℕ → ℕ → List RankedPiece
  late told gone = late_pieces live entries planned rewrites erased told gone

  change : IsSoundChange rules batch
  change = change_of mode bits state rules batch live slots entries planned rewrites erased plan

  new_single : AreSingle new
  new_single a b = once_one new a b (pieces_once mode bits (set_after rules batch) (set_after-is rules batch change))

  -- while pieces are inserted each stands with one result,
  pub early_single : (count : ℕ) → AreSingle (early count)
  early_single count a b in_a in_b = once_one (row_pieces mode bits rules batch) a b (row_once mode bits rules batch change) (in_row a in_a) (in_row b in_b)
    where
      in_row : (ranked : RankedPiece) → Contains (early count) ranked → Contains (row_pieces mode bits rules batch) ranked
      in_row ranked member = elim (Contains-append_cases old (take count inserted) ranked member) [
        | inl stood ↦ Contains-append_left old inserted ranked stood
        | inr put ↦ let w = contains_take count inserted ranked put in Contains-append_right old inserted ranked (w.0, w.2, w.3)
      ]

  -- and behind them, too
  pub late_single : (told gone : ℕ) → AreSingle (late told gone)
  late_single told gone a b in_a in_b rank piece =
      let x = shown mode bits state rules batch live slots entries planned rewrites erased plan told gone a in_a in
      let y = shown mode bits state rules batch live slots entries planned rewrites erased plan told gone b in_b in
      let id : x.one.id ≡ y.one.id = (batch_of mode bits state rules batch live slots entries planned rewrites erased plan).entries_are.once x.one y.one x.member y.member
      (sym x.told.now_rank ∙ (ap (λ (r : RankedPiece). r.rank) x.is ∙ (rank ∙ (sym (ap (λ (r : RankedPiece). r.rank) y.is) ∙ y.told.now_rank))))
      (sym x.told.now_piece ∙ (ap (λ (r : RankedPiece). r.piece) x.is ∙ (piece ∙ (sym (ap (λ (r : RankedPiece). r.piece) y.is) ∙ y.told.now_piece)))) in
      sym x.is ∙ (sym x.told.shows ∙ (ap (piece_by all (told_entries entries rewrites told)) id ∙ (y.told.shows ∙ y.is)))

  -- an insertion goes onward,
  pub inserting_onward : (few many : ℕ) → few ≤ many → IsOnward new (early few) (early many)
  inserting_onward few many more = record {
    comes = λ ranked member. elim (Contains-append_cases old (take many inserted) ranked member) [
      | inl stood ↦ inl (Contains-append_left old (take few inserted) ranked stood)
      | inr put ↦ let w = contains_take many inserted ranked put in inr (inserted_stays mode bits rules batch change ranked (w.0, w.2, w.3)).0
    ];
    stays = λ ranked member is. elim (Contains-append_cases old (take few inserted) ranked member) [
      | inl stood ↦ Contains-append_left old (take many inserted) ranked stood
      | inr put ↦ Contains-append_right old (take many inserted) ranked (among_more few many inserted ranked more put)
    ];
  }

  -- what comes after the last one is old or new,
  pub inserted_onward : (count told gone : ℕ) → AreOnTheWay old new (late told gone) → IsOnward new (early count) (late told gone)
  inserted_onward count told gone way =
      onward_from new (early count) (late told gone) new_single (early_single count)
      (λ ranked member. elim (way.each ranked member) [
        | inl stood ↦ inl (Contains-append_left old (take count inserted) ranked stood.0)
        | inr came ↦ inr came.0
      ])
      (new_stands mode bits state rules batch live slots entries planned rewrites erased plan told gone)

  -- and a new result or an erase goes onward: a piece that has no result yet had none before, and was there
  late_comes : (told more gone far : ℕ) → told ≤ more → gone ≤ far → (ranked : RankedPiece) → Contains (late more far) ranked → Contains (late told gone) ranked ⊎ Contains new ranked
  late_comes told more gone far up_told up_gone ranked member =
      let s = shown mode bits state rules batch live slots entries planned rewrites erased plan more far ranked member in
      let t = batch_told mode bits state rules batch live slots entries planned rewrites erased plan told s.one s.member in
      elim s.told.which [
        | inr changed ↦ inr (subst (Contains new) s.is (rewritten_stays mode bits rules batch change s.told.now changed.1))
        | inl own ↦ elim t.which [
          | inr changed ↦ absurd (own.1 changed.0 (among_more told more rewrites changed.0 up_told changed.2) changed.3)
          | inl first ↦ inl (
              let same : t.was ≡ s.told.was = once_one (row_pieces mode bits rules batch) t.was s.told.was (row_once mode bits rules batch change) t.member s.told.member
              (t.was_rank ∙ sym s.told.was_rank) (t.was_piece ∙ sym s.told.was_piece) in
              subst (Contains (late told gone)) (t.shows ∙ (first.0 ∙ (same ∙ (sym own.0 ∙ s.is))))
              (map_in (λ one. piece_by all (told_entries entries rewrites told) one.id) (live_then live planned erased gone) s.one
              (erased_in all (take gone erased) s.one s.member (λ went. s.stays (among_more gone far erased s.one.id up_gone went)))))
        ]
      ]

  pub late_onward : (told more gone far : ℕ) → told ≤ more → gone ≤ far → IsOnward new (late told gone) (late more far)
  late_onward told more gone far up_told up_gone =
      onward_from new (late told gone) (late more far) new_single (late_single told gone) (late_comes told more gone far up_told up_gone)
      (new_stands mode bits state rules batch live slots entries planned rewrites erased plan more far)

  -- each that stands, be it with another result, is of the set or inserted, so no key matches two of one rank
  pub way_disjoint : (standing : List RankedPiece) → ReplacesNone batch → AreOnTheWay old new standing → AreSingle standing → AreDisjoint standing
  way_disjoint standing none way single a b in_a in_b rank meet =
      let x = was a in_a in let y = was b in_b in
      single a b in_a in_b rank
      (sym x.2 ∙ (row_disjoint mode bits rules batch change none x.0 y.0 x.1 y.1 (x.3 ∙ (rank ∙ sym y.3))
      (subst (λ p. PiecesOverlap p y.0.piece) (sym x.2) (subst (PiecesOverlap a.piece) (sym y.2) meet)) ∙ y.2))
    where
      was : (ranked : RankedPiece) → Contains standing ranked → HasPiece (row_pieces mode bits rules batch) ranked
      was ranked member = elim (way.each ranked member) [
        | inl stood ↦ (ranked, Contains-append_left old inserted ranked stood.0, refl, refl)
        | inr came ↦ was_in mode bits state rules batch live slots entries planned rewrites erased plan ranked came.0
      ]
