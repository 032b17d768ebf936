-- Where a segment ends all tasks of its commit are done, and no slot is a twin.
use Rattle.std.proofs.Common.{◌≡◌, ℕ, None, List, [], ◌∷◌, length, Contains, IsTrue, inl, inr, refl, sym, subst}
use Rattle.std.specs.List.{AllByRecursion}
use Rattle.std.proofs.Math.Seq.{take-length}
use Rattle.slot_order.proofs.Lists.{contains_head}
use Rattle.rule_model.specs.declared.Rule.{Rule}
use Rattle.rule_store.specs.declared.Mode.{Mode}
use Rattle.rule_store.specs.declared.Command.{Command}
use Rattle.rule_store.specs.Batch.{set_after}
use Rattle.rule_model.specs.Entry.{RankedPiece, entry_for, same_match}
use Rattle.tcam_device.specs.declared.Write.{Write}
use Rattle.tcam_device.specs.State.{State, IsInUse, state_after}
use Rattle.tcam_device.proofs.One.{same_match-same}
use Rattle.commit_writes.specs.Bits.{FieldBits, bits_with}
use Rattle.commit_writes.specs.Commit.{IsSegment}
use Rattle.commit_writes.specs.Segments.{MayBegin}
use Rattle.commit_writes.specs.Shape.{set_pieces, fresh_writes}
use Rattle.commit_writes.proofs.BatchRules.{IsSoundChange}
use Rattle.commit_writes.proofs.ServedLive.{change_begun, bits_begun}
use Rattle.commit_writes.proofs.ServedTables.{tables_serve}
use Rattle.readback.specs.Tasks.{CommitPieces, commit_pieces, known_pieces, Task, Insert, Rewrite, Erase, tasks_of, IsStanding, IsTold, IsLeft}
use Rattle.readback.specs.Stage.{IsCommitAt, IsStage, IsTwinSlot}
use Rattle.readback.specs.Laws.{HasUnused}
use Rattle.readback.proofs.Facts.{ArePieces, IsSame, old_known, inserted_known, rewritten_known, insert_in, rewrite_in, erase_in, left_in}
use Rattle.readback.proofs.Pieces.{pieces_are, pieces_lead}
use Rattle.readback.proofs.Segments.{segment_stages, once_alone}
use Rattle.readback.proofs.Shows.{LeadTo}

module _ (slots : ℕ) (mode : Mode) (bits : FieldBits) (rules : List Rule) (batch : List Command) (state : State) (made : List Write)
    (begin : MayBegin mode bits rules batch state) (segment : IsSegment mode bits rules batch state made)
    (empty : HasUnused slots state) (in_use : AllByRecursion (IsInUse slots) made) where
  abbrev p : CommitPieces
  p = commit_pieces mode bits rules batch

  abbrev new : List RankedPiece
  new = set_pieces mode (bits_with mode rules batch bits) (set_after rules batch)

  abbrev last : State
  last = state_after state made

  change : IsSoundChange rules batch
  change = change_begun mode bits rules batch state begin

  facts : ArePieces p
  facts = pieces_are mode bits rules batch change (state_after state (fresh_writes mode bits rules batch state)) (tables_serve mode bits rules batch state (bits_begun mode bits rules batch state begin))

  leads : LeadTo p new
  leads = pieces_lead mode bits rules batch change

  stage : IsStage slots mode bits rules batch last
  stage = subst (λ ws. IsStage slots mode bits rules batch (state_after state ws)) (take-length made) (segment_stages slots mode bits rules batch state made begin segment empty in_use (length made))

  -- a piece of the new set stands, as it is
  told : (x : RankedPiece) → Contains new x → IsTold last x
  told x member = segment.order.after.ordered.complete x member

  stands : (x : RankedPiece) → Contains new x → IsStanding last x
  stands x member = let w = told x member in (w.0, (entry_for x, w.1, same_match-same (entry_for x)))

  new_known : (x : RankedPiece) → Contains new x → Contains (known_pieces p) x
  new_known x member = elim (leads.new_cases x member) [
    | inl old ↦ old_known p x old.0
    | inr rest ↦ elim rest [
      | inl changed ↦ rewritten_known p x changed
      | inr put ↦ inserted_known p x put
    ]
  ]

  -- and one that goes doesn't
  gone : (x : RankedPiece) → Contains p.erased x → IsStanding last x → ⊥
  gone x goes (at, held) =
      let w = segment.order.after.ordered.known at held.0 held.1 in
      let was = facts.goes x goes in
      let same : IsSame x w.0 = facts.apart x w.0 (old_known p x was) (new_known w.0 w.1) (subst (λ e. IsTrue (same_match (entry_for x) e)) (sym w.2) held.2) in
      elim (leads.new_cases w.0 w.1) [
        | inl old ↦ old.1 (subst (Contains p.erased) (facts.old_once x w.0 was old.0 same) goes)
        | inr rest ↦ elim rest [
          | inl changed ↦ leads.kept w.0 x changed goes same
          | inr put ↦ facts.new_apart x w.0 was put same
        ]
      ]

  none_left : (left : List Task) → ((task : Task) → Contains left task → Contains (tasks_of p) task) → AllByRecursion (IsLeft last) left → left ≡ []
  none_left [] among are = refl
  none_left (Insert x ∷ rest) among are = absurd (are.0 (stands x (leads.inserted_new x (insert_in p x (among (Insert x) (contains_head (Insert x) rest))))))
  none_left (Rewrite x ∷ rest) among are = absurd (are.0 (told x (leads.rewritten_new x (rewrite_in p x (among (Rewrite x) (contains_head (Rewrite x) rest))))))
  none_left (Erase x ∷ rest) among are = absurd (gone x (erase_in p x (among (Erase x) (contains_head (Erase x) rest))) are.0)

  pub segment_ended : (done : List Task) × IsCommitAt slots mode bits rules batch last done []
  segment_ended =
      let s = stage in
      let none : s.1 ≡ [] = none_left s.1 (λ task member. left_in p s.0 s.1 task s.2.parts member) s.2.are_left in
      (s.0, subst (λ left. IsCommitAt slots mode bits rules batch last s.0 left) none s.2)

  pub segment_alone : IsTwinSlot last.slots None
  segment_alone = once_alone last new new segment.order.after.ordered segment.order.after.ordered segment.order.once (λ a b in_a in_b match.
      let same : IsSame a b = facts.apart a b (new_known a in_a) (new_known b in_b) match in
      leads.new_once a b in_a in_b same)
