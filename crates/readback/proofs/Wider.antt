-- On a device with more slots the writes of a rest are the same, and keep the same.
use Rattle.std.proofs.Common.{◌≡◌, ℕ, None, List, ◌++◌, length, map, take, Contains, sym, ◌∙◌, subst, ap}
use Rattle.std.specs.Prelude.{flat_map}
use Rattle.std.specs.List.{AllByRecursion, AllZip, filter_map}
use Rattle.slot_order.specs.Order.{slot}
use Rattle.slot_order.proofs.Lists.{all_append}
use Rattle.tcam_device.specs.declared.Write.{Write}
use Rattle.tcam_device.specs.State.{State, IsInUse, state_after}
use Rattle.tcam_device.specs.Order.{IsOrdered, HasOneTwin}
use Rattle.tcam_device.specs.Insertion.{Insertion, insertions}
use Rattle.tcam_device.proofs.Spans.{state_after-append}
use Rattle.tcam_device.proofs.Wider.{padded, all_take, slot-padded, state_after-padded, IsOrdered-padded, HasOneTwin-padded}
use Rattle.tcam_device.proofs.WiderInsertions.{insertions-padded, writes-widened, entries-widened}
use Rattle.commit_writes.specs.Shape.{Rewrites, Erases}
use Rattle.commit_writes.proofs.Wider.{all_front, all_back, rewrites, erases}
use Rattle.readback.specs.Tasks.{CommitPieces, Task, IsStanding}
use Rattle.readback.specs.Stage.{IsTwinSlot}
use Rattle.readback.specs.Going.{rewritten_by, erased_by}
use Rattle.readback.specs.Laws.{HasUnused, KeepsRest}
use Rattle.readback.proofs.Rest.{AreRest}
use Rattle.readback.proofs.Same.{stands_on, twin_on}

module _ (more : ℕ) (p : CommitPieces) (start : State) (left : List Task) (inserted rewritten erased : List Write) (inside : AllByRecursion (IsInUse (length start.slots)) (inserted ++ (rewritten ++ erased))) where
  abbrev first : AllByRecursion (IsInUse (length start.slots)) inserted
  first = all_front (IsInUse (length start.slots)) inserted (rewritten ++ erased) inside

  abbrev later : AllByRecursion (IsInUse (length start.slots)) (rewritten ++ erased)
  later = all_back (IsInUse (length start.slots)) inserted (rewritten ++ erased) inside

  abbrev told : AllByRecursion (IsInUse (length start.slots)) (inserted ++ rewritten)
  told = all_append (IsInUse (length start.slots)) inserted rewritten first (all_front (IsInUse (length start.slots)) rewritten erased later)

  -- the state behind the new results
  behind_told : state_after (state_after (padded more start) inserted) rewritten ≡ padded more (state_after (state_after start inserted) rewritten)
  behind_told = sym (state_after-append (padded more start) inserted rewritten) ∙ (state_after-padded more start (inserted ++ rewritten) told ∙ ap (padded more) (state_after-append start inserted rewritten))

  pub AreRest-padded : AreRest p start left inserted rewritten erased → AreRest p (padded more start) left inserted rewritten erased
  AreRest-padded rest = record {
    whole = ap (λ (made : List Insertion). flat_map (λ (insertion : Insertion). insertion.writes) made) (insertions-padded more start inserted first)
        ∙ (writes-widened more (insertions start inserted) ∙ rest.whole);
    entries = ap (λ (made : List Insertion). map (λ (insertion : Insertion). insertion.entry) made) (insertions-padded more start inserted first)
        ∙ (entries-widened more (insertions start inserted) ∙ rest.entries);
    results = subst (λ (now : State). AllZip (Rewrites now) (filter_map rewritten_by left) rewritten) (sym (state_after-padded more start inserted first))
        (rewrites more (state_after start inserted) (filter_map rewritten_by left) rewritten rest.results);
    erases = subst (λ (now : State). AllZip (Erases now) (filter_map erased_by left) erased) (sym behind_told)
        (erases more (state_after (state_after start inserted) rewritten) (filter_map erased_by left) erased rest.erases);
  }

  reached : (n : ℕ) → state_after (padded more start) (take n inserted) ≡ padded more (state_after start (take n inserted))
  reached n = state_after-padded more start (take n inserted) (all_take (IsInUse (length start.slots)) n inserted first)

  same : (state : State) (at : ℕ) → slot (padded more state).slots at ≡ slot state.slots at
  same state at = slot-padded state.slots more at

  pub KeepsRest-padded : (slots : ℕ) → KeepsRest slots p start left inserted → KeepsRest slots p (padded more start) left inserted
  KeepsRest-padded slots keeps = record {
    unused = λ n short. subst (HasUnused slots) (sym (reached n)) (λ at past. same (state_after start (take n inserted)) at ∙ keeps.unused n short at past);
    twins = λ n short. subst (λ (now : State). HasOneTwin now.slots) (sym (reached n)) (HasOneTwin-padded more (state_after start (take n inserted)) (keeps.twins n short));
    in_order = λ x member n short. let w = keeps.in_order x member n short in (
      w.0,
      subst (λ (now : State). IsOrdered now (Contains (p.old ++ take w.0 p.inserted))) (sym (reached n))
          (IsOrdered-padded more (state_after start (take n inserted)) (Contains (p.old ++ take w.0 p.inserted)) w.1),
    );
    arrive = λ x member. subst (λ (now : State). IsStanding now x) (sym (state_after-padded more start inserted first))
        (stands_on (state_after start inserted) (padded more (state_after start inserted)) (same (state_after start inserted)) x (keeps.arrive x member));
    once = subst (λ (now : State). IsTwinSlot now.slots None) (sym (state_after-padded more start inserted first))
        (twin_on (state_after start inserted) (padded more (state_after start inserted)) (same (state_after start inserted)) None keeps.once);
  }
