-- The rest of what is parted is taken, and to packets both parts are one commit.
use Rattle.std.proofs.Common.{◌≡◌, ℕ, true, not, ◌&&◌, ◌==◌, Option, Some, None, List, length, refl, sym, ap, ◌∙◌, subst}
use Rattle.std.proofs.lemmas.Bool.{and_parts}
use Rattle.rule_model.specs.declared.Rule.{Rule}
use Rattle.rule_store.specs.declared.BatchFault.{BatchFault}
use Rattle.rule_store.specs.declared.Mode.{Mode}
use Rattle.rule_store.specs.declared.Command.{Command as Change}
use Rattle.rule_store.specs.Batch.{IsSound, batch_fault, set_after}
use Rattle.rule_store.specs.Verdict.{Verdict, Accepted, Unsound, OutOfBits, OutOfSlots, room_verdict, verdict, verdict_by}
use Rattle.settled_changes.specs.declared.requested.Requested.{Requested}
use Rattle.settled_changes.specs.Requested.{settled_batch, settled_verdict}
use Rattle.removals_first.specs.Early.{IsBetween, early_batch, early_verdict, late_batch, spared_rules, without_early}
use Rattle.removals_first.proofs.Parted.{parted as parts-sound}
use Rattle.removals_first.proofs.Covered.{spared_told}
use Rattle.removals_first.proofs.Between.{between as set-between}
use Rattle.removals_first.proofs.TwoParts.{parts-hitless}
use Rattle.replay.specs.Early.{IsParted, RestsAreTaken, TwoPartsAreOneCommit, is_accepted, is_sound, first_part, rest_part}

-- a verdict by a fault and the room is acceptance where there is none, and room
accepted-parts : (fault : Option BatchFault) (room : Verdict) → is_accepted (verdict_by fault room) ≡ true → (fault ≡ None) × (room ≡ Accepted)
accepted-parts None Accepted is = (refl, refl)
accepted-parts None (Unsound fault) is = absurd (cc)
accepted-parts None (OutOfBits field needed free) is = absurd (cc)
accepted-parts None (OutOfSlots needed free) is = absurd (cc)
accepted-parts (Some fault) room is = absurd (cc)

accepted-is : (judged : Verdict) → is_accepted judged ≡ true → judged ≡ Accepted
accepted-is Accepted is = refl
accepted-is (Unsound fault) is = absurd (cc)
accepted-is (OutOfBits field needed free) is = absurd (cc)
accepted-is (OutOfSlots needed free) is = absurd (cc)

module _ (slots : ℕ) (mode : Mode) (rules : List Rule) (pending : List Change) (asked : Requested) (is : IsParted slots mode rules pending asked) where
  abbrev batch : List Change
  batch = settled_batch rules pending asked

  abbrev early : List Rule
  early = spared_rules rules batch

  judged : (verdict slots mode rules (early_batch early) ≡ Accepted) × (batch_fault rules batch ≡ None) × (room_verdict slots mode (without_early rules early) (late_batch early batch) ≡ Accepted)
  judged =
      let some = not (length early == 0) in
      let left = not (length (late_batch early batch) == 0) in
      let first = is_accepted (verdict slots mode rules (early_batch early)) in
      let room = is_accepted (early_verdict slots mode rules early batch) in
      let one = and_parts (is_sound (settled_verdict slots mode rules pending asked)) (some && (left && (first && room))) is.in_two in
      let two = and_parts some (left && (first && room)) one.1 in
      let three = and_parts left (first && room) two.1 in
      let four = and_parts first room three.1 in
      let last = accepted-parts (batch_fault rules batch) (room_verdict slots mode (without_early rules early) (late_batch early batch)) four.1 in
      (accepted-is (verdict slots mode rules (early_batch early)) four.0, last.0, last.1)

  parts : IsSound rules (early_batch early)
      × (set_after rules (early_batch early) ≡ without_early rules early)
      × IsSound (without_early rules early) (late_batch early batch)
      × (set_after (without_early rules early) (late_batch early batch) ≡ set_after rules batch)
  parts = parts-sound rules batch early is.is_set judged.1 (spared_told rules batch is.is_set is.conditions is.changes)

  pub taken : (verdict slots mode rules (first_part rules pending asked) ≡ Accepted)
      × (verdict slots mode (set_after rules (first_part rules pending asked)) (rest_part rules pending asked) ≡ Accepted)
      × (set_after (set_after rules (first_part rules pending asked)) (rest_part rules pending asked) ≡ set_after rules batch)
  taken = (
    judged.0,
    ap (λ middle. verdict slots mode middle (late_batch early batch)) parts.1
        ∙ ap (λ fault. verdict_by fault (room_verdict slots mode (without_early rules early) (late_batch early batch))) parts.2 ∙ judged.2,
    ap (λ middle. set_after middle (late_batch early batch)) parts.1 ∙ parts.3,
  )

  pub between : IsBetween rules (set_after rules (first_part rules pending asked)) (set_after rules batch)
  between =
      subst (λ middle. IsBetween rules middle (set_after rules batch)) (sym parts.1)
      (set-between rules batch early is.is_set judged.1 (spared_told rules batch is.is_set is.conditions is.changes))

pub rests-taken : RestsAreTaken
rests-taken slots mode rules pending asked is = taken slots mode rules pending asked is

pub one-commit : TwoPartsAreOneCommit
one-commit slots mode rules pending asked state first second is early rest =
    parts-hitless rules (set_after rules (first_part rules pending asked)) (set_after rules (settled_batch rules pending asked)) state first second (between slots mode rules pending asked is) early rest
