-- While pieces are inserted, a device in order for the old ones and the first of the inserted ones shows each key its old or
-- its new answer.
use Rattle.std.proofs.Common.{◌≡◌, List, ◌++◌, length, take, Contains, inl, inr, ◌∙◌}
use Rattle.std.proofs.lemmas.List.Elements.{Contains-append_left}
use Rattle.slot_order.proofs.Lists.{AllByRecursion-member}
use Rattle.rule_model.specs.declared.Rule.{Rule}
use Rattle.rule_model.proofs.RuleSets.{IsRuleSet-distinct}
use Rattle.rule_store.specs.declared.Mode.{Mode}
use Rattle.rule_store.specs.declared.Command.{Command}
use Rattle.rule_store.specs.Batch.{additions, set_after}
use Rattle.rule_model.specs.Entry.{RankedPiece}
use Rattle.tcam_device.specs.State.{State, IsState}
use Rattle.tcam_device.specs.Hitless.{ShowsOldOrNew}
use Rattle.tcam_device.proofs.Lookups.{HitAsPieces}
use Rattle.commit_writes.specs.Bits.{FieldBits}
use Rattle.commit_writes.specs.Serving.{AreServing}
use Rattle.commit_writes.specs.Shape.{set_pieces, inserted_pieces}
use Rattle.commit_writes.specs.Planned.{IsServedBy}
use Rattle.commit_writes.proofs.BatchRules.{IsSoundChange, right_after, set_after-is}
use Rattle.commit_writes.proofs.BatchPieces.{row_served, after_served}
use Rattle.commit_writes.proofs.Mirror.{hits_after, served_hits}
use Rattle.commit_writes.proofs.BatchWay.{inserting_on_the_way}
use Rattle.commit_writes.proofs.OnTheWay.{IsFound, best_answers, found_on_the_way}
use Rattle.commit_writes.proofs.SetPieces.{set_pieces-of}
use Rattle.split_writes.proofs.Elsewhere.{IsEarly}

module _ (mode : Mode) (bits : FieldBits) (rules : List Rule) (batch : List Command) (state : State) (change : IsSoundChange rules batch) (is_state : IsState (length state.slots) state)
    (serving : AreServing mode bits (rules ++ additions batch) state) where
  abbrev later : List Rule
  later = set_after rules batch

  abbrev old : List RankedPiece
  old = set_pieces mode bits rules

  abbrev new : List RankedPiece
  new = set_pieces mode bits later

  abbrev added : List RankedPiece
  added = inserted_pieces mode bits rules batch

  hits_old : HitAsPieces state (Contains old)
  hits_old = served_hits state (Contains old) is_state (λ ranked member.
      AllByRecursion-member (IsServedBy state) (old ++ added) ranked (row_served mode bits state rules batch change serving) (Contains-append_left old added ranked member))

  hits_new : HitAsPieces state (Contains new)
  hits_new = served_hits state (Contains new) is_state (λ ranked member. AllByRecursion-member (IsServedBy state) new ranked (after_served mode bits state rules batch change serving) member)

  -- whatever the slots hold, in order, under the same tables
  pub early_shows : (now : State) → now.src ≡ state.src → now.dst ≡ state.dst → IsEarly (set_pieces mode bits rules) (inserted_pieces mode bits rules batch) now → ShowsOldOrNew now rules (set_after rules batch)
  early_shows now src dst (count, ordered) key valid =
      let found : IsFound old new (old ++ take count added) now key =
      found_on_the_way now old new (old ++ take count added) key valid (hits_after (Contains old) state now hits_old src dst) (hits_after (Contains new) state now hits_new src dst)
      (inserting_on_the_way mode bits rules batch change count) ordered in
      elim found.either [
        | inl best ↦ inl (found.shows ∙ best_answers state rules old key valid found.found (IsRuleSet-distinct rules change.is_set) (set_pieces-of mode bits rules change.right) hits_old best)
        | inr best ↦ inr (found.shows ∙ best_answers state later new key valid found.found (IsRuleSet-distinct later (set_after-is rules batch change)) (set_pieces-of mode bits later (right_after rules batch change)) hits_new best)
      ]
