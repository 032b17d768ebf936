-- The numbers of a planned restart are those of its plan, and of routes it crosses nothing.
use Rattle.std.proofs.Common.{◌≡◌, ℕ, ◌-◌, Option, List, ◌++◌, length, map, fold, max, append_assoc, sym, ◌∙◌, subst, ap}
use Rattle.std.specs.List.{AllByRecursion}
use Rattle.std.proofs.lemmas.List.{append_cancel_left}
use Rattle.slot_pool.specs.Arrangement.{Slots}
use Rattle.rule_model.specs.declared.IpVersion.{IpVersion}
use Rattle.rule_model.specs.declared.Rule.{Rule}
use Rattle.rule_store.specs.declared.Mode.{Mode}
use Rattle.rule_store.specs.declared.Command.{Command}
use Rattle.rule_store.specs.Batch.{additions}
use Rattle.placement.specs.declared.LivePiece.{LivePiece}
use Rattle.tcam_device.specs.declared.Write.{Write}
use Rattle.tcam_device.specs.State.{State, state_after, on_device}
use Rattle.tcam_device.specs.Insertion.{Insertion, insertions, IsGreatestSpan, IsUncrossed}
use Rattle.tcam_device.proofs.Wider.{padded}
use Rattle.tcam_device.proofs.WiderInsertions.{insertions-padded, longest-padded, IsGreatestSpan-widened, IsUncrossed-widened}
use Rattle.commit_writes.specs.Proposal.{proposal}
use Rattle.commit_writes.specs.declared.Done.{Done}
use Rattle.commit_writes.specs.declared.Rewrite.{Rewrite}
use Rattle.commit_writes.specs.Bits.{FieldBits}
use Rattle.commit_writes.specs.Planned.{IdEntries, Planned, greatest_planned}
use Rattle.commit_writes.specs.PlannedBatch.{AreNumbersOf, batch_writes}
use Rattle.commit_writes.specs.Routes.{IsRoute, prefix_lengths}
use Rattle.commit_writes.specs.Shape.{fresh_writes, HasShape, insertions_behind}
use Rattle.commit_writes.specs.Commit.{AreCounts}
use Rattle.readback.specs.Halt.{halt_at, parts_as_planned}
use Rattle.readback.specs.Tasks.{Task}
use Rattle.readback.specs.Going.{due_in, restart_front, twin_writes}
use Rattle.readback.specs.PlannedRest.{restart_writes}
use Rattle.readback.specs.Restart.{IsPlannedRestart, PlannedRestartsAreCounted, PlannedRestartsCrossNothing}
use Rattle.readback.proofs.BegunRests.{Begun}
use Rattle.readback.proofs.PlannedRests.{in_use, uncrossed, longest, greatest}
use Rattle.readback.proofs.Restart.{reached}
use Rattle.readback.proofs.Started.{started}

module _ (device_slots : ℕ) (mode : Mode) (bits : FieldBits) (rules : List Rule) (batch : List Command) (state : State) (done left : List Task) (twin : Option ℕ)
    (live : List LivePiece) (slots : Slots) (entries : IdEntries) (planned : List Planned) (rewrites : List Rewrite) (erased : List ℕ)
    (plan : IsPlannedRestart device_slots (proposal mode bits rules batch) state (halt_at done left twin) live slots entries (parts_as_planned planned rewrites erased)) where
  abbrev b : Begun
  b = started device_slots mode bits rules batch state done left twin live slots entries planned rewrites erased plan

  abbrev more : ℕ
  more = device_slots - length state.slots

  abbrev wide : State
  wide = on_device device_slots state

  abbrev tables : List Write
  tables = fresh_writes mode bits rules batch state

  abbrev slot_part : List Write
  slot_part = batch_writes entries slots planned rewrites erased

  abbrev writes : List Write
  writes = restart_writes (proposal mode bits rules batch) state twin entries slots planned rewrites erased

  abbrev there : State
  there = padded more b.start

  there_is : state_after wide (tables ++ twin_writes twin) ≡ there
  there_is = reached device_slots mode bits rules batch state done left twin live slots entries planned rewrites erased plan

  -- whichever way the writes are taken apart, their insertions are those of the planned ones
  same_insertions : (own : HasShape (restart_front mode bits rules batch wide twin) (due_in left) wide writes) → insertions_behind own ≡ insertions there slot_part
  same_insertions own =
      let rest = own.inserted ++ (own.rewritten ++ own.erased) in
      let front = tables ++ twin_writes twin in
      let same : slot_part ≡ rest = append_cancel_left front slot_part rest (append_assoc tables (twin_writes twin) slot_part ∙ own.parts) in
      ap (λ (now : State). insertions now rest) there_is ∙ ap (insertions there) (sym same)

  counted : (counts : Done) → AreNumbersOf writes planned counts → (own : HasShape (restart_front mode bits rules batch wide twin) (due_in left) wide writes) → AreCounts writes (insertions_behind own) counts
  counted counts numbers own = record {
    writes = numbers.writes_are;
    words = numbers.words;
    most = numbers.most ∙ sym (ap (λ (all : List Insertion). fold max 0 (map (λ (one : Insertion). length one.writes) all)) (same_insertions own)
        ∙ (longest-padded more b.start slot_part (in_use b) ∙ longest b));
    span = subst (λ span. IsGreatestSpan (insertions_behind own) span) (sym numbers.span)
        (subst (λ (all : List Insertion). IsGreatestSpan all (greatest_planned planned)) (sym (same_insertions own ∙ insertions-padded more b.start slot_part (in_use b)))
        (IsGreatestSpan-widened more (insertions b.start slot_part) (greatest_planned planned) (greatest b)));
  }

  crosses_nothing : (version : IpVersion) → AllByRecursion (IsRoute version) rules → AllByRecursion (IsRoute version) (additions batch)
      → (own : HasShape (restart_front mode bits rules batch wide twin) (due_in left) wide writes) → IsUncrossed (prefix_lengths version) (insertions_behind own)
  crosses_nothing version routes added own =
      subst (IsUncrossed (prefix_lengths version)) (sym (same_insertions own ∙ insertions-padded more b.start slot_part (in_use b)))
      (IsUncrossed-widened more (prefix_lengths version) (insertions b.start slot_part) (uncrossed b version routes added))

pub restarts_counted : PlannedRestartsAreCounted
restarts_counted device_slots mode bits rules batch state done left twin live slots entries planned rewrites erased counts plan numbers own =
    counted device_slots mode bits rules batch state done left twin live slots entries planned rewrites erased plan counts numbers own

pub restarts_uncrossed : PlannedRestartsCrossNothing
restarts_uncrossed device_slots mode bits rules batch state done left twin live slots entries planned rewrites erased version plan routes added own =
    crosses_nothing device_slots mode bits rules batch state done left twin live slots entries planned rewrites erased plan version routes added own
