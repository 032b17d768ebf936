-- A planned batch is on the way from the old set to the new one after each of its writes, and has arrived after the last.
use Rattle.std.proofs.Common.{◌≡◌, ℕ, ◌≤◌, length, get_or, take, List, ◌++◌, Contains, inl, inr, ◌⊎◌, refl, sym, ◌∙◌, subst, ap, arith}
use Rattle.std.specs.Prelude.{◌↔◌}
use Rattle.std.proofs.lemmas.List.Elements.{Contains-append_left, Contains-append_right, Contains-append_cases}
use Rattle.std.proofs.lemmas.Slice.Zip.{AllZip-long}
use Rattle.slot_order.proofs.Lists.{contains_none, contains_take, in_map}
use Rattle.slot_moves.proofs.Between.{adding}
use Rattle.slot_pool.specs.Arrangement.{Slots}
use Rattle.rule_model.specs.declared.Rule.{Rule}
use Rattle.rule_store.specs.declared.Mode.{Mode}
use Rattle.rule_store.specs.declared.Command.{Command}
use Rattle.rule_store.specs.Batch.{set_after}
use Rattle.rule_model.specs.Entry.{RankedPiece}
use Rattle.placement.specs.declared.LivePiece.{LivePiece}
use Rattle.tcam_device.specs.State.{State}
use Rattle.commit_writes.specs.Proposal.{proposal}
use Rattle.commit_writes.specs.declared.Rewrite.{Rewrite}
use Rattle.commit_writes.specs.Bits.{FieldBits}
use Rattle.commit_writes.specs.Shape.{set_pieces, inserted_pieces, rewritten_pieces, erased_pieces}
use Rattle.commit_writes.specs.Planned.{IdEntries, Planned, live_after}
use Rattle.commit_writes.specs.PlannedBatch.{IsIdOf, IsPlannedBatch}
use Rattle.commit_writes.proofs.BatchIds.{IsTold}
use Rattle.commit_writes.proofs.BatchOrder.{told_entries, live_then, late_pieces, batch_told, gone_id, IsLiveAs, id_piece}
use Rattle.commit_writes.proofs.BatchPieces.{row_pieces, new_piece, rewritten_was, rewritten_stays, inserted_falls, erased_was, erased_rises}
use Rattle.commit_writes.proofs.PieceChanges.{inserted_stays}
use Rattle.commit_writes.proofs.BatchRules.{IsSoundChange, change_of, set_after-is}
use Rattle.commit_writes.proofs.BatchStanding.{has_live, new_held, settled, goes_late, id_cases}
use Rattle.commit_writes.proofs.Erases.{in_erased}
use Rattle.commit_writes.proofs.Ids.{piece_by}
use Rattle.commit_writes.proofs.OnTheWay.{Leads, AreOnTheWay, once_one}
use Rattle.commit_writes.proofs.SetPieces.{HasPiece, pieces_once}

-- what stands, stands
itself : (standing : List RankedPiece) (ranked : RankedPiece) → Contains standing ranked → HasPiece standing ranked
itself standing ranked member = (ranked, member, refl, refl)

-- what stands behind the insertions is what a live piece shows
pub record IsShown (pieces changed : List RankedPiece) (all : List LivePiece) (held : IdEntries) (rewrites : List Rewrite) (ids : List ℕ) (ranked : RankedPiece) : Type 0 where
  pub one : LivePiece
  pub member : Contains all one
  pub stays : Contains ids one.id → ⊥
  pub told : IsTold pieces changed all held rewrites one
  pub is : told.now ≡ ranked

-- while pieces are inserted the old ones stand, and a new one leads those still to come
pub inserting_on_the_way : (mode : Mode) (bits : FieldBits) (rules : List Rule) (batch : List Command) → IsSoundChange rules batch → (count : ℕ)
    → AreOnTheWay (set_pieces mode bits rules) (set_pieces mode bits (set_after rules batch)) (set_pieces mode bits rules ++ take count (inserted_pieces mode bits rules batch))
inserting_on_the_way mode bits rules batch change count = record {
  each = λ ranked member. elim (Contains-append_cases old (take count inserted) ranked member) [
    | inl stood ↦ inl (stood, λ other is. inl (stands other is))
    | inr put ↦ put_leads ranked put
  ];
  whole = inl stands;
}
  where
    old : List RankedPiece
    old = set_pieces mode bits rules

    new : List RankedPiece
    new = set_pieces mode bits (set_after rules batch)

    inserted : List RankedPiece
    inserted = inserted_pieces mode bits rules batch

    standing : List RankedPiece
    standing = old ++ take count inserted

    stands : (ranked : RankedPiece) → Contains old ranked → HasPiece standing ranked
    stands ranked member = itself standing ranked (Contains-append_left old (take count inserted) ranked member)

    in_new : (ranked : RankedPiece) → Contains (take count inserted) ranked → Contains new ranked
    in_new ranked put = let at = contains_take count inserted ranked put in (inserted_stays mode bits rules batch change ranked (at.0, at.2, at.3)).0

    put_leads : (ranked : RankedPiece) → Contains (take count inserted) ranked → (Contains old ranked × Leads old standing ranked) ⊎ (Contains new ranked × Leads new standing ranked)
    put_leads ranked put =
        elim ((adding (λ (r : RankedPiece). r.rank) (Contains old) inserted count (inserted_falls mode bits rules batch change)).above ranked (inr put)) [
          | inl stood ↦ inl (stood, λ other is. inl (stands other is))
          | inr least ↦ inr (
            in_new ranked put,
            λ other is. elim (new_piece mode bits rules batch change other is) [
              | inl stays ↦ inl (stands other stays.0)
              | inr rest ↦ elim rest [
                | inl changed ↦ let w = rewritten_was mode bits rules batch change other changed in inl (w.0, Contains-append_left old (take count inserted) w.0 w.1, w.2, w.3)
                | inr fresh ↦ elim (least other (inr fresh)) [
                  | inl there ↦ inl (elim there [
                    | inl stood ↦ stands other stood
                    | inr came ↦ itself standing other (Contains-append_right old (take count inserted) other came)
                  ])
                  | inr lower ↦ inr lower
                ]
              ]
            ],
          )
        ]

module _ (mode : Mode) (bits : FieldBits) (state : State) (rules : List Rule) (batch : List Command) (live : List LivePiece) (slots : Slots) (entries : IdEntries) (planned : List Planned) (rewrites : List Rewrite) (erased : List ℕ) (plan : IsPlannedBatch (proposal mode bits rules batch) state live slots entries planned rewrites erased) where
  abbrev old : List RankedPiece
  old = set_pieces mode bits rules

  abbrev new : List RankedPiece
  new = set_pieces mode bits (set_after rules batch)

  abbrev inserted : List RankedPiece
  inserted = inserted_pieces mode bits rules batch

  abbrev rewritten : List RankedPiece
  rewritten = rewritten_pieces mode bits rules batch

  abbrev goes : List RankedPiece
  goes = erased_pieces mode bits rules batch

  abbrev all : List LivePiece
  all = live_after live planned

  abbrev late : ℕ → ℕ → List RankedPiece
  late told gone = late_pieces live entries planned rewrites erased told gone

  change : IsSoundChange rules batch
  change = change_of mode bits state rules batch live slots entries planned rewrites erased plan

  -- while pieces are inserted
  pub early_on_the_way : (count : ℕ) → AreOnTheWay old new (old ++ take count inserted)
  early_on_the_way count = inserting_on_the_way mode bits rules batch change count

  -- all new pieces stand from the last insertion on
  pub new_stands : (told gone : ℕ) (ranked : RankedPiece) → Contains new ranked → HasPiece (late told gone) ranked
  new_stands told gone ranked member = (new_held mode bits state rules batch live slots entries planned rewrites erased plan told gone ranked member).4

  pub shown : (told gone : ℕ) (ranked : RankedPiece) → Contains (late told gone) ranked
      → IsShown (row_pieces mode bits rules batch) rewritten all (told_entries entries rewrites told) (take told rewrites) (take gone erased) ranked
  shown told gone ranked member =
      let w = in_map (λ one. piece_by all (told_entries entries rewrites told) one.id) (live_then live planned erased gone) ranked member in
      let k = in_erased all (take gone erased) w.0 w.1 in
      let t = batch_told mode bits state rules batch live slots entries planned rewrites erased plan told w.0 k.0 in
      record { one = w.0; member = k.0; stays = k.1; told = t; is = sym t.shows ∙ w.2 }

  -- while results change all old pieces stand, too
  results_on_the_way : (told : ℕ) → AreOnTheWay old new (late told 0)
  results_on_the_way told = record {
    each = λ ranked member. let s = shown told 0 ranked member in elim s.told.which [
      | inr changed ↦ inr (subst (Contains new) s.is (rewritten_stays mode bits rules batch change s.told.now changed.1), λ other is. inl (new_stands told 0 other is))
      | inl own ↦ elim (Contains-append_cases old inserted s.told.was s.told.member) [
        | inl stood ↦ inl (subst (Contains old) (sym own.0 ∙ s.is) stood, λ other is. inl (old_stands other is))
        | inr put ↦ inr (subst (Contains new) (sym own.0 ∙ s.is) (inserted_stays mode bits rules batch change s.told.was put).0, λ other is. inl (new_stands told 0 other is))
      ]
    ];
    whole = inl old_stands;
  }
    where
      old_stands : (ranked : RankedPiece) → Contains old ranked → HasPiece (late told 0) ranked
      old_stands ranked member =
          let h = has_live mode bits state rules batch live slots entries planned rewrites erased plan told 0 ranked (Contains-append_left old inserted ranked member) in
          h.stands (λ none. contains_none h.one.id none)

  -- and while pieces go, the lowest first, those that are still to go lead the old ones
  erases_on_the_way : (told gone : ℕ) → take told rewrites ≡ rewrites → AreOnTheWay old new (late told gone)
  erases_on_the_way told gone whole = record {
    each = λ ranked member. let s = shown told gone ranked member in elim (settled mode bits state rules batch live slots entries planned rewrites erased plan told s.one s.member whole s.told) [
      | inl stays ↦ inr (subst (Contains new) s.is stays, λ other is. inl (new_stands told gone other is))
      | inr left ↦ inl (
        subst (Contains old) s.is (erased_was mode bits rules batch change s.told.now left).0,
        subst (Leads old (late told gone)) s.is (leads s.one s.told.now s.member (sym s.told.now_piece, sym s.told.now_rank) left s.stays),
      )
    ];
    whole = inr (new_stands told gone);
  }
    where
      leads : (one : LivePiece) (ranked : RankedPiece) → Contains all one → IsLiveAs one ranked → Contains goes ranked → (Contains (take gone erased) one.id → ⊥)
          → Leads old (late told gone) ranked
      leads one ranked member like left stays other stood =
          let h = has_live mode bits state rules batch live slots entries planned rewrites erased plan told gone other (Contains-append_left old inserted other stood) in
          elim (id_cases (take gone erased) h.one.id) [
            | inr kept ↦ inl (h.stands kept)
            | inl went ↦ inr (
                let early = gone_id mode bits state rules batch live slots entries planned rewrites erased plan gone h.one.id ranked went in
                let behind = goes_late mode bits state rules batch live slots entries planned rewrites erased plan gone one ranked member like left stays in
                let size = AllZip-long (IsIdOf live) goes erased plan.erased_are in
                let before = early.1 in let after = behind.1 in let inside = behind.2 in
                let rises : (get_or goes early.0 ranked).rank ≤ (get_or goes behind.0 ranked).rank = erased_rises mode bits rules batch change early.0 behind.0 ranked (omega arith) (omega arith) in
                let low : h.one.rank ≡ (get_or goes early.0 ranked).rank = (id_piece mode bits state rules batch live slots entries planned rewrites erased plan h.one (get_or goes early.0 ranked) h.member early.3).1 in
                let high : (get_or goes behind.0 ranked).rank ≡ ranked.rank = ap (λ (r : RankedPiece). r.rank) behind.3 in
                let own : h.one.rank ≡ other.rank = h.is.1 in
                omega arith)
          ]

  -- so after each of those writes it is on the way,
  pub late_on_the_way : (told gone : ℕ) → (gone ≡ 0) ⊎ (take told rewrites ≡ rewrites) → AreOnTheWay old new (late told gone)
  late_on_the_way told gone (inl none) = subst (λ count. AreOnTheWay old new (late told count)) (sym none) (results_on_the_way told)
  late_on_the_way told gone (inr whole) = erases_on_the_way told gone whole

  -- and in the end the pieces are those of the new set
  pub arrived : (told gone : ℕ) → take told rewrites ≡ rewrites → length erased ≤ gone → (ranked : RankedPiece) → Contains (late told gone) ranked ↔ Contains new ranked
  arrived told gone whole every ranked = (to ranked, from)
    where
      to : (piece : RankedPiece) → Contains (late told gone) piece → Contains new piece
      to piece member = let s = shown told gone piece member in elim (settled mode bits state rules batch live slots entries planned rewrites erased plan told s.one s.member whole s.told) [
        | inl stays ↦ subst (Contains new) s.is stays
        | inr left ↦ absurd (
            let behind = goes_late mode bits state rules batch live slots entries planned rewrites erased plan gone s.one s.told.now s.member (sym s.told.now_piece, sym s.told.now_rank) left s.stays in
            let after = behind.1 in let inside = behind.2 in omega arith)
      ]

      from : Contains new ranked → Contains (late told gone) ranked
      from member =
          let t = new_stands told gone ranked member in
          subst (Contains (late told gone))
          (once_one new t.0 ranked (pieces_once mode bits (set_after rules batch) (set_after-is rules batch change)) (to t.0 t.1) member t.3 t.2) t.1
