-- What is made of a planned commit is a segment by parts.
use Rattle.std.proofs.Common.{◌≡◌, ℕ, ◌-◌, ◌*◌, ◌++◌, List, fold, length, map, max, refl, sym, ◌∙◌, subst, ap}
use Rattle.std.specs.List.{AllByRecursion, AllZip}
use Rattle.rule_model.specs.declared.IpVersion.{IpVersion}
use Rattle.rule_model.specs.declared.Rule.{Rule}
use Rattle.rule_model.specs.RuleSet.{BoundsChains}
use Rattle.rule_store.specs.declared.Mode.{Mode}
use Rattle.rule_store.specs.declared.Command.{Command}
use Rattle.rule_store.specs.Batch.{additions, set_after}
use Rattle.tcam_device.specs.declared.Write.{Write}
use Rattle.tcam_device.specs.State.{IsInUse}
use Rattle.tcam_device.specs.Flight.{writes_in}
use Rattle.tcam_device.specs.Insertion.{Insertion, insertions, table_writes, IsGreatestSpan}
use Rattle.commit_writes.specs.Actions.{have_bits, commit_actions}
use Rattle.commit_writes.specs.Bits.{FieldBits, bits_with, new_bits}
use Rattle.commit_writes.specs.PlannedBatch.{batch_writes}
use Rattle.commit_writes.specs.Shape.{fresh_writes}
use Rattle.commit_writes.proofs.Wider.{all_back}
use Rattle.commit_writes.proofs.WritesIn.{writes_of_commit}
use Rattle.split_device.specs.State.{SplitState, undivided, split_after}
use Rattle.split_device.specs.declared.SplitAction.{SplitAction}
use Rattle.split_device.specs.Drains.{SinceDrain}
use Rattle.split_device.specs.Flight.{written}
use Rattle.split_writes.specs.Parts.{parts_of_writes, made_of}
use Rattle.split_writes.specs.Insertion.{longest_split_insertion, put_writes, split_insertions, table_parts, IsGreatestSplitSpan, IsWithinSplitBound, IsSplitUncrossed}
use Rattle.split_writes.specs.Segment.{IsSplitHitless, IsSplitSegment, IsOfRoutes, most_by_parts}
use Rattle.split_writes.specs.Laws.{IsBegun, ArePlannedOn, MakesSegments}
use Rattle.split_writes.proofs.Bound.{commit_parted, commit_split_bound, commit_split_exact, commit_split_routes}
use Rattle.split_writes.proofs.Counts.{lengths_each, span_parted, three_each, words_parted}
use Rattle.split_writes.proofs.Insertions.{IsParted}
use Rattle.split_writes.proofs.Made.{made_timely, made_writes}
use Rattle.split_writes.proofs.RowExact.{IsExactly}
use Rattle.split_writes.proofs.Seen.{parts_are_hitless}
use Rattle.split_writes.proofs.Undivided.{parts_lead}

module _ (mode : Mode) (bits : FieldBits) (rules : List Rule) (batch : List Command) (state : SplitState) (since : SinceDrain) (writes : List Write)
    (begun : IsBegun mode bits rules batch state writes) (plan : ArePlannedOn mode bits rules batch (undivided state) writes) where
  abbrev made : List SplitAction
  made = made_of state since (commit_actions mode bits rules batch writes)

  abbrev whole : List Write
  whole = fresh_writes mode bits rules batch plan.own ++ batch_writes plan.entries plan.arrangement plan.planned plan.rewrites plan.erased

  parts : written made ≡ parts_of_writes (undivided state) writes
  parts =
      let actions = commit_actions mode bits rules batch writes in
      let same : writes_in actions ≡ writes = writes_of_commit (have_bits (new_bits bits (bits_with mode rules batch bits))) writes in
      made_writes state since actions begun.sized (subst (AllByRecursion (IsInUse (length state.slots))) (sym same) begun.in_use) ∙ ap (parts_of_writes (undivided state)) same

  planned_parts : written made ≡ parts_of_writes (undivided state) whole
  planned_parts = parts ∙ ap (parts_of_writes (undivided state)) plan.writes_are

  inside : AllByRecursion (IsInUse (length state.slots)) (batch_writes plan.entries plan.arrangement plan.planned plan.rewrites plan.erased)
  inside =
      all_back (IsInUse (length state.slots)) (fresh_writes mode bits rules batch plan.own) (batch_writes plan.entries plan.arrangement plan.planned plan.rewrites plan.erased)
      (subst (AllByRecursion (IsInUse (length state.slots))) plan.writes_are begun.in_use)

  abbrev more : ℕ
  more = plan.device_slots - length plan.own.slots

  bound : (chain : ℕ) → BoundsChains (rules ++ additions batch) chain → IsWithinSplitBound chain (split_insertions state (written made))
  bound chain bounds =
      subst (λ parts. IsWithinSplitBound chain (split_insertions state parts)) (sym planned_parts)
      (commit_split_bound mode bits rules batch plan.own plan.live plan.arrangement plan.entries plan.planned plan.rewrites plan.erased more state begun.sized plan.stands plan.commit inside chain bounds)

  -- its insertions are parted, and each takes three of each entry that it puts, but one
  parted : AllZip IsParted (insertions (undivided state) writes) (split_insertions state (written made))
  parted =
      subst (λ some. AllZip IsParted (insertions (undivided state) some) (split_insertions state (written made))) (sym plan.writes_are)
      (subst (λ parts. AllZip IsParted (insertions (undivided state) whole) (split_insertions state parts)) (sym planned_parts)
      (commit_parted mode bits rules batch plan.own plan.live plan.arrangement plan.entries plan.planned plan.rewrites plan.erased more state begun.sized plan.stands plan.commit inside))

  exact : AllByRecursion IsExactly (insertions (undivided state) writes)
  exact =
      subst (λ some. AllByRecursion IsExactly (insertions (undivided state) some)) (sym plan.writes_are)
      (commit_split_exact mode bits rules batch plan.own plan.live plan.arrangement plan.entries plan.planned plan.rewrites plan.erased more state begun.sized plan.stands plan.commit inside)

  pub planned_segment : IsSplitSegment mode bits rules batch state since (made_of state since (commit_actions mode bits rules batch writes))
  planned_segment = record {
    writes = writes;
    undivided_segment = begun.segment;
    made_is = refl;
    leads = ap (λ parts. undivided (split_after state parts)) parts ∙ parts_lead state writes begun.sized begun.in_use;
    hitless = subst (IsSplitHitless rules (set_after rules batch) state) (sym parts) (parts_are_hitless mode bits rules batch state writes begun);
    timely = made_timely state since (commit_actions mode bits rules batch writes);
    exact = three_each (insertions (undivided state) writes) (split_insertions state (written made)) exact parted;
    bound = bound;
  }

  pub planned_routes : (version : IpVersion) → IsOfRoutes version rules batch state (made_of state since (commit_actions mode bits rules batch writes))
  planned_routes version routes adds =
      subst (λ parts. IsSplitUncrossed (most_by_parts version) (split_insertions state parts)) (sym planned_parts)
      (commit_split_routes mode bits rules batch plan.own plan.live plan.arrangement plan.entries plan.planned plan.rewrites plan.erased more state begun.sized plan.stands plan.commit inside version routes adds)

  -- its words and its span are those of the undivided writes
  pub planned_words : table_parts (written (made_of state since (commit_actions mode bits rules batch writes))) ≡ table_writes writes
  planned_words = ap table_parts parts ∙ words_parted (undivided state) writes

  pub planned_span : (span : ℕ) → IsGreatestSpan (insertions (undivided state) writes) span
      → IsGreatestSplitSpan (split_insertions state (written (made_of state since (commit_actions mode bits rules batch writes)))) span
  planned_span span greatest = span_parted (insertions (undivided state) writes) (split_insertions state (written made)) span parted greatest

  -- and its longest insertion takes three parts of each entry that the undivided one puts, but one
  pub planned_longest : fold max 0 (map (λ (insertion : Insertion). 3 * put_writes insertion.writes - 1) (insertions (undivided state) writes))
      ≡ longest_split_insertion state (written (made_of state since (commit_actions mode bits rules batch writes)))
  planned_longest =
      ap (fold max 0) (lengths_each (insertions (undivided state) writes) (split_insertions state (written made))
      (three_each (insertions (undivided state) writes) (split_insertions state (written made)) exact parted))

pub makes_segments : MakesSegments
makes_segments mode bits rules batch state since writes begun plan =
    (planned_segment mode bits rules batch state since writes begun plan, planned_routes mode bits rules batch state since writes begun plan)
