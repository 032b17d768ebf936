-- What stands for each piece while a planned batch gives new results and erases.
use Rattle.std.proofs.Common.{◌≡◌, ℕ, ◌<◌, ◌≤◌, true, false, length, get_or, take, List, Contains, inl, inr, ◌⊎◌, Some, refl, sym, ◌∙◌, subst, ap, arith}
use Rattle.std.specs.Prelude.{◌==◌}
use Rattle.std.specs.List.{list_any}
use Rattle.std.proofs.lemmas.Bool.{cases_Bool, cases_lt, eqb-true, eq-eqb}
use Rattle.std.proofs.lemmas.List.Elements.{Contains-append_left, Contains-append_right, Contains-append_cases, Contains-get_or}
use Rattle.std.proofs.lemmas.Slice.Zip.{AllZip-long}
use Rattle.slot_order.proofs.Lists.{take_contains, any_is, any_from, map_in}
use Rattle.slot_pool.specs.Arrangement.{Slots}
use Rattle.rule_model.specs.declared.Rule.{Rule}
use Rattle.rule_store.specs.declared.Mode.{Mode}
use Rattle.rule_store.specs.declared.Command.{Command}
use Rattle.rule_store.specs.Batch.{set_after}
use Rattle.rule_model.specs.Entry.{RankedPiece, entry_for}
use Rattle.placement.specs.declared.LivePiece.{LivePiece}
use Rattle.tcam_device.specs.State.{State}
use Rattle.commit_writes.specs.Proposal.{proposal}
use Rattle.commit_writes.specs.declared.Rewrite.{Rewrite}
use Rattle.commit_writes.specs.Bits.{FieldBits}
use Rattle.commit_writes.specs.Shape.{set_pieces, inserted_pieces, rewritten_pieces, erased_pieces}
use Rattle.commit_writes.specs.Planned.{IdEntries, Planned, entry_at, live_after}
use Rattle.commit_writes.specs.PlannedBatch.{IsIdOf, IsRewriteOf, IsPlannedBatch}
use Rattle.commit_writes.proofs.BatchIds.{IsTold}
use Rattle.commit_writes.proofs.BatchOrder.{told_entries, late_pieces, live_then, before_it, batch_told, gone_id, IsLiveAs, id_piece}
use Rattle.commit_writes.proofs.BatchPieces.{row_pieces, old_piece, new_piece, rewritten_was, rewritten_stays, erased_was}
use Rattle.commit_writes.proofs.BatchRow.{batch_of}
use Rattle.commit_writes.proofs.PieceChanges.{inserted_stays}
use Rattle.commit_writes.proofs.BatchRules.{IsSoundChange, change_of}
use Rattle.commit_writes.proofs.Erases.{erased_in}
use Rattle.commit_writes.proofs.Ids.{AreOfPieces, piece_by}
use Rattle.commit_writes.proofs.SetPieces.{HasPiece}
use Rattle.commit_writes.proofs.Zips.{zip_left, zip_at}

-- an id is one of some or none
pub id_cases : (ids : List ℕ) (id : ℕ) → Contains ids id ⊎ (Contains ids id → ⊥)
id_cases ids id = elim (cases_Bool (list_any (λ other. other == id) ids)) [
  | inl hit ↦ inl (let w = any_is (λ (other : ℕ). other == id) ids hit in subst (Contains ids) (eqb-true w.0 id w.2) w.1)
  | inr none ↦ inr (λ member. let hit = any_from (λ (other : ℕ). other == id) ids id member (eq-eqb id id refl) in let wrong : true ≡ false = sym hit ∙ none in absurd (cc))
]

-- the live piece of a piece, which stands while its id isn't erased
pub record IsHeld (all : List LivePiece) (standing : List RankedPiece) (ids : List ℕ) (ranked : RankedPiece) : Type 0 where
  pub one : LivePiece
  pub member : Contains all one
  pub is : IsLiveAs one ranked
  pub stands : (Contains ids one.id → ⊥) → HasPiece standing ranked

module _ (mode : Mode) (bits : FieldBits) (state : State) (rules : List Rule) (batch : List Command) (live : List LivePiece) (slots : Slots) (entries : IdEntries) (planned : List Planned) (rewrites : List Rewrite) (erased : List ℕ) (plan : IsPlannedBatch (proposal mode bits rules batch) state live slots entries planned rewrites erased) where
  abbrev old : List RankedPiece
  old = set_pieces mode bits rules

  abbrev new : List RankedPiece
  new = set_pieces mode bits (set_after rules batch)

  abbrev inserted : List RankedPiece
  inserted = inserted_pieces mode bits rules batch

  abbrev rewritten : List RankedPiece
  rewritten = rewritten_pieces mode bits rules batch

  abbrev goes : List RankedPiece
  goes = erased_pieces mode bits rules batch

  abbrev all : List LivePiece
  all = live_after live planned

  change : IsSoundChange rules batch
  change = change_of mode bits state rules batch live slots entries planned rewrites erased plan

  of : AreOfPieces state (row_pieces mode bits rules batch) all entries
  of = batch_of mode bits state rules batch live slots entries planned rewrites erased plan

  -- the id of a live piece's piece is its own
  piece_id : (one : LivePiece) (ranked : RankedPiece) (id : ℕ) → Contains all one → IsLiveAs one ranked → IsIdOf live ranked id → one.id ≡ id
  piece_id one ranked id member like is =
      of.entries_are.once one (record { id = id; piece = ranked.piece; rank = ranked.rank }) member
      (before_it mode bits state rules batch live slots entries planned rewrites erased plan _ is) like.1 like.0

  -- each piece of the new set has one, be it with another result
  pub was_in : (ranked : RankedPiece) → Contains new ranked → HasPiece (row_pieces mode bits rules batch) ranked
  was_in ranked member = elim (new_piece mode bits rules batch change ranked member) [
    | inl stood ↦ (ranked, Contains-append_left old inserted ranked stood.0, refl, refl)
    | inr rest ↦ elim rest [
      | inl changed ↦ let w = rewritten_was mode bits rules batch change ranked changed in (w.0, Contains-append_left old inserted w.0 w.1, w.2, w.3)
      | inr put ↦ (ranked, Contains-append_right old inserted ranked put, refl, refl)
    ]
  ]

  pub has_live : (told gone : ℕ) (ranked : RankedPiece) → Contains (row_pieces mode bits rules batch) ranked
      → IsHeld all (late_pieces live entries planned rewrites erased told gone) (take gone erased) ranked
  has_live told gone ranked member = record { one = w.0; member = w.1; is = (sym w.2, sym w.3); stands = stands }
    where
      w : (one : LivePiece) × Contains all one × (ranked.piece ≡ one.piece) × (ranked.rank ≡ one.rank) × (entry_at entries one.id ≡ Some (entry_for ranked))
      w = of.entries_are.has_id ranked member

      stands : (Contains (take gone erased) w.0.id → ⊥) → HasPiece (late_pieces live entries planned rewrites erased told gone) ranked
      stands stays =
          let t = batch_told mode bits state rules batch live slots entries planned rewrites erased plan told w.0 w.1 in (
            piece_by all (told_entries entries rewrites told) w.0.id,
            map_in (λ one. piece_by all (told_entries entries rewrites told) one.id) (live_then live planned erased gone) w.0 (erased_in all (take gone erased) w.0 w.1 stays),
            ap (λ (r : RankedPiece). r.piece) t.shows ∙ (t.now_piece ∙ sym w.2),
            ap (λ (r : RankedPiece). r.rank) t.shows ∙ (t.now_rank ∙ sym w.3),
          )

  -- an id that was erased is none of the new set's
  stays_new : (gone : ℕ) (one : LivePiece) (ranked : RankedPiece) → Contains all one → Contains new ranked → IsLiveAs one ranked → Contains (take gone erased) one.id → ⊥
  stays_new gone one ranked live_one member like erases =
      let w = gone_id mode bits state rules batch live slots entries planned rewrites erased plan gone one.id ranked erases in
      let left : RankedPiece = get_or goes w.0 ranked in
      let size = AllZip-long (IsIdOf live) goes erased plan.erased_are in
      let is = id_piece mode bits state rules batch live slots entries planned rewrites erased plan one left live_one w.3 in
      (erased_was mode bits rules batch change left (Contains-get_or goes w.0 ranked (let inside = w.2 in omega arith))).1.0 ranked member (sym like.0 ∙ is.0) (sym like.1 ∙ is.1)

  -- the live piece of a piece of the new set, which stays
  pub new_held : (told gone : ℕ) (ranked : RankedPiece) → Contains new ranked
      → (one : LivePiece) × Contains all one × IsLiveAs one ranked × (Contains (take gone erased) one.id → ⊥) × HasPiece (late_pieces live entries planned rewrites erased told gone) ranked
  new_held told gone ranked member =
      let w = was_in ranked member in
      let h = has_live told gone w.0 w.1 in
      let like : IsLiveAs h.one ranked = (h.is.0 ∙ w.2, h.is.1 ∙ w.3) in
      let stays = stays_new gone h.one ranked h.member member like in
      let s = h.stands stays in
      (h.one, h.member, like, stays, (s.0, s.1, s.2 ∙ w.2, s.3 ∙ w.3))

  -- once all results are given each that shows is a piece of the new set, or one that goes
  pub settled : (told : ℕ) (one : LivePiece) → Contains all one → take told rewrites ≡ rewrites
      → (t : IsTold (row_pieces mode bits rules batch) rewritten all (told_entries entries rewrites told) (take told rewrites) one)
      → Contains new t.now ⊎ Contains goes t.now
  settled told one member whole t = elim t.which [
    | inr changed ↦ inl (rewritten_stays mode bits rules batch change t.now changed.1)
    | inl own ↦ elim (Contains-append_cases old inserted t.was t.member) [
      | inr put ↦ inl (subst (Contains new) (sym own.0) (inserted_stays mode bits rules batch change t.was put).0)
      | inl stood ↦ elim (old_piece mode bits rules batch change t.was stood) [
        | inl stays ↦ inl (subst (Contains new) (sym own.0) stays.0)
        | inr rest ↦ elim rest [
          | inr left ↦ inr (subst (Contains goes) (sym own.0) left)
          | inl gets ↦ absurd (
              let w = zip_left (IsRewriteOf live) rewritten rewrites gets.0 plan.rewrites_are gets.1 in
              own.1 w.0 (subst (λ some. Contains some w.0) (sym whole) w.1) (sym (piece_id one gets.0 w.0.id member (sym t.was_piece ∙ sym gets.2, sym t.was_rank ∙ sym gets.3) w.2.0)))
        ]
      ]
    ]
  ]

  -- what stays until so many have gone has its place behind them
  pub goes_late : (gone : ℕ) (one : LivePiece) (ranked : RankedPiece) → Contains all one → IsLiveAs one ranked → Contains goes ranked → (Contains (take gone erased) one.id → ⊥)
      → (at : ℕ) × (gone ≤ at) × (at < length erased) × (get_or goes at ranked ≡ ranked)
  goes_late gone one ranked member like left stays =
      let size = AllZip-long (IsIdOf live) goes erased plan.erased_are in
      let inside : left.0 < length goes = left.1 in
      let within : left.0 < length erased = omega arith in
      let is = zip_at (IsIdOf live) goes erased left.0 ranked one.id plan.erased_are within in
      let own : get_or erased left.0 one.id ≡ one.id = sym (piece_id one ranked (get_or erased left.0 one.id) member like (subst (λ r. IsIdOf live r (get_or erased left.0 one.id)) left.2 is)) in
      elim (cases_lt left.0 gone) [
        | inl early ↦ absurd (stays (take_contains gone erased one.id left.0 early within own))
        | inr late ↦ (left.0, late, within, left.2)
      ]
