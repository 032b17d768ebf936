-- A commit that has come to its end, and a plan that is dropped: the manager is at rest, and what was made stands.
use Rattle.std.proofs.Common.{◌≡◌, ℕ, zero, suc, ◌<◌, ◌≤◌, inl, inr, false, Option, None, Some, List, [], ◌∷◌, length, take, replicate, refl, sym, ◌∙◌, ap, subst, arith, le_refl}
use Rattle.std.specs.Prelude.{IfSome}
use Rattle.std.proofs.lemmas.Bool.{cases_Bool}
use Rattle.std.proofs.lemmas.List.{length-replicate}
use Rattle.slot_order.specs.Order.{most_slots}
use Rattle.rule_model.specs.declared.words.Word.{Word}
use Rattle.rule_model.specs.declared.words.Entry.{Entry}
use Rattle.tcam_device.specs.declared.Write.{Write}
use Rattle.tcam_device.specs.State.{State, blank, on_device}
use Rattle.tcam_device.specs.declared.Action.{Action}
use Rattle.tcam_device.specs.declared.Action.TheVariants as action
use Rattle.rule_store.specs.declared.Mode.{Mode}
use Rattle.batch_order.specs.declared.Placement.{Placement}
use Rattle.batch_order.specs.declared.Step.{Step}
use Rattle.batch_order.specs.declared.Step.TheVariants as step
use Rattle.batch_order.specs.CarriedOut.{finished, finished_of}
use Rattle.batch_order.specs.Managed.{HeldCommit, IsOn, Managed, fresh}
use Rattle.batch_order.specs.Steps.{Steps, StepsOn, next_of}
use Rattle.batch_order.proofs.under_way.Ways.{ended_forward}
use Rattle.split_device.specs.declared.SplitAction.{SplitAction}
use Rattle.split_device.specs.declared.SplitAction.TheVariants.{Written, Drained}
use Rattle.split_device.specs.State.{SplitState, IsSized, blank_split, no_result, undivided, split_after, whole_entries}
use Rattle.split_device.specs.Drains.{is_drain_due, nothing_since}
use Rattle.split_device.specs.Flight.{written}
use Rattle.split_writes.specs.Parts.{write_parts}
use Rattle.commit_writes.specs.declared.Done.{Done}
use Rattle.split_order.specs.declared.SplitStep.TheVariants as split_step
use Rattle.split_order.specs.Steps.{Ends}
use Rattle.split_order.specs.declared.since.Since.{Since}
use Rattle.split_order.specs.Kept.{IsCommitKept, IsCommitOrRest, IsSplitKept, IsWayOn, parts_due, parts_of_due}
use Rattle.split_order.specs.Left.{left_of, left_of_held, made_behind, since_of, state_on}
use Rattle.split_order.specs.Managed.{SplitManaged, at_rest, no_counts}
use Rattle.split_order.specs.Since.{IsSince}
use Rattle.split_order.proofs.Behind.{drain_next, not_none, part_next}
use Rattle.split_order.proofs.Drained.{drop_some}
use Rattle.split_order.proofs.Nexts.{left_held, part_left}

-- where a planner stands that has no commit under way, with no part of a write made
pub rested : (since : Since) (left : ℕ) (m : SplitManaged) (whole : Managed) → IsSplitKept since left m → m.made ≡ 0 → whole.held ≡ None → whole.slots ≡ m.whole.slots → whole.state ≡ m.whole.state
    → IsSplitKept since 0 (at_rest whole m.events)
rested since left m whole kept start none slots_are state_are = record {
  commit = subst (IsCommitOrRest (at_rest whole m.events)) (sym none) record { made = refl; begun = refl; counts = refl };
  on = λ slots wide.
      let on = kept.on slots (subst (λ n. n ≤ slots) slots_are wide) in
      let stands : undivided (state_on slots m) ≡ on_device slots whole.state =
      ap undivided (on.now_is ∙ ap (λ n. split_after on.before (take n (parts_due m))) start) ∙ (on.whole_is ∙ ap (on_device slots) (sym state_are)) in
      let same : state_on slots m ≡ on.before = on.now_is ∙ ap (λ n. split_after on.before (take n (parts_due m))) start in
      record {
        before = state_on slots m;
        sized = subst IsSized (sym same) on.sized;
        size = ap (λ (s : SplitState). length s.slots) same ∙ on.size;
        whole_is = stands;
        now_is = refl;
        way = subst (λ (h : Option HeldCommit). IfSome h (IsWayOn slots (at_rest whole m.events))) (sym none) tt;
      };
  left_is = λ slots wide. sym (ap (λ (h : Option HeldCommit). length (written (left_of_held (state_on slots m) (since_of m) whole.state 0 h))) none);
  few = subst (λ n. n ≤ most_slots) (sym slots_are) kept.few;
  whole_size = ap (λ (s : State). length s.slots) state_are ∙ (kept.whole_size ∙ sym slots_are);
  size = kept.size ∙ sym slots_are;
  since_is = kept.since_is;
}

-- with nothing left no action of the commit under way is
module _ (since : Since) (left : ℕ) (m : SplitManaged) (kept : IsSplitKept since left m) (none : (slots : ℕ) → m.whole.slots ≤ slots → left_of slots m ≡ [])
    (held : HeldCommit) (under_way : m.whole.held ≡ Some held) where
  here : IsCommitKept m held
  here = subst (IsCommitOrRest m) under_way kept.commit

  abbrev slots : ℕ
  slots = m.whole.slots

  pub no_action : held.actions ≡ []
  no_action = go held.actions refl
    where
      go : (actions : List Action) → held.actions ≡ actions → actions ≡ []
      go [] are = refl
      go (action.Written write ∷ rest) are = absurd (
          let due : next_of m.whole.held ≡ Some write = ap next_of under_way ∙ ap (λ (a : List Action). next_of (Some (record held { actions = a }))) are in
          let cut = drop_some m.made (write_parts m.whole.state write) (part_left m held under_way here write due) in
          let now : left_of slots m ≡ made_behind (state_on slots m) (since_of m) (cut.0 ∷ cut.1) rest =
          left_held m held under_way here slots (action.Written write ∷ rest) are ∙ ap (λ some. made_behind (state_on slots m) (since_of m) some rest) cut.2 in
          elim (cases_Bool (is_drain_due (state_on slots m) (since_of m) cut.0)) [
            | inl so ↦ not_none Drained _ (sym (now ∙ drain_next (state_on slots m) (since_of m) cut.0 cut.1 rest so) ∙ none slots (le_refl slots))
            | inr isnt ↦ not_none (Written cut.0) _ (sym (now ∙ part_next (state_on slots m) (since_of m) cut.0 cut.1 rest isnt) ∙ none slots (le_refl slots))
          ])
      go (action.Drained ∷ rest) are = absurd (not_none Drained _ (sym (left_held m held under_way here slots (action.Drained ∷ rest) are) ∙ none slots (le_refl slots)))

  pub no_part : m.made ≡ 0
  no_part = elim here.made [
    | inl start ↦ start
    | inr below ↦ absurd (
        let due : next_of m.whole.held ≡ None = ap next_of under_way ∙ ap (λ (a : List Action). next_of (Some (record held { actions = a }))) no_action in
        let past : m.made < 0 = subst (λ n. m.made < n) (ap (λ (one : Option Write). length (parts_of_due m.whole.state one)) due) below in omega arith)
  ]

  -- the planner's commit ends
  pub planner_ends : (made : Step) (new : Managed) → Steps m.whole 0 m.whole.held made new
      → (made ≡ step.Finished held.counts) × (new ≡ record m.whole { rules = held.rules; bits = held.bits; held = None })
  planner_ends made new steps =
      let one : Steps m.whole 0 (Some held) made new = subst (λ (h : Option HeldCommit). Steps m.whole 0 h made new) under_way steps in
      let did : StepsOn m.whole held 0 [] made new = subst (λ (a : List Action). StepsOn m.whole held 0 a made new) no_action one in
      let ends = ended_forward m.whole held held.way here.forward.1 in
      (did.0 ∙ ends.0, did.1 ∙ ends.1)

  -- where its plan led
  pub planner_led : record m.whole { rules = held.rules; bits = held.bits; held = None } ≡ finished m.whole
  planner_led = sym (
      ap (λ (h : Option HeldCommit). finished_of h m.whole) under_way
      ∙ ap (λ (a : List Action). finished_of (Some (record held { actions = a })) m.whole) no_action)

-- With nothing left the planner's commit ends, and the manager is at rest; with none under way all stays as it is.
module _ (since : Since) (left : ℕ) (m : SplitManaged) (kept : IsSplitKept since left m) (none : (slots : ℕ) → m.whole.slots ≤ slots → left_of slots m ≡ []) where
  pub finish_held : (made : Step) (whole : Managed) (counts : Done) → Steps m.whole 0 m.whole.held made whole → made ≡ step.Finished counts
      → IsSplitKept since 0 (at_rest whole m.events) × Ends m m.whole.held (split_step.Finished m.counts) (at_rest whole m.events)
  finish_held made whole counts steps is = go m.whole.held refl
    where
      go : (held : Option HeldCommit) → m.whole.held ≡ held → IsSplitKept since 0 (at_rest whole m.events) × Ends m m.whole.held (split_step.Finished m.counts) (at_rest whole m.events)
      go None idle = absurd (
          let did : Steps m.whole 0 None made whole = subst (λ (h : Option HeldCommit). Steps m.whole 0 h made whole) idle steps in
          let wrong : step.Idle ≡ step.Finished counts = sym did.0 ∙ is in cc)
      go (Some held) under_way =
          let ends = planner_ends since left m kept none held under_way made whole steps in (
            rested since left m whole kept (no_part since left m kept none held under_way) (ap (λ (w : Managed). w.held) ends.1) (ap (λ (w : Managed). w.slots) ends.1) (ap (λ (w : Managed). w.state) ends.1),
            subst (λ (h : Option HeldCommit). Ends m h (split_step.Finished m.counts) (at_rest whole m.events)) (sym under_way) (refl, ap (λ (w : Managed). at_rest w m.events) ends.1, ends.1 ∙ planner_led since left m kept none held under_way),
          )

  pub finish_idle : (made : Step) (whole : Managed) → Steps m.whole 0 m.whole.held made whole → ((counts : Done) → made ≡ step.Finished counts → ⊥) → (whole ≡ m.whole) × (m.whole.held ≡ None)
  finish_idle made whole steps not_finished = go m.whole.held refl
    where
      go : (held : Option HeldCommit) → m.whole.held ≡ held → (whole ≡ m.whole) × (m.whole.held ≡ None)
      go None idle = let did : Steps m.whole 0 None made whole = subst (λ (h : Option HeldCommit). Steps m.whole 0 h made whole) idle steps in (did.1, idle)
      go (Some held) under_way = absurd (not_finished held.counts (planner_ends since left m kept none held under_way made whole steps).0)

-- a blank device
blank_entries : (n : ℕ) → whole_entries (replicate n None) (replicate n no_result) ≡ replicate n None
blank_entries zero = refl
blank_entries (suc n) = ap (λ (rest : List (Option Entry)). None ∷ rest) (blank_entries n)

pub undivided_blank : (slots : ℕ) → undivided (blank_split slots) ≡ blank slots
undivided_blank slots = ap (λ held. record { slots = held; src = (blank_split slots).src; dst = (blank_split slots).dst }) (blank_entries slots)

-- A new manager.
pub fresh_kept : (since : Since) (m : SplitManaged) → m.events ≡ [] → m.made ≡ 0 → m.whole.held ≡ None → m.begun ≡ false → m.counts ≡ no_counts → m.whole.slots ≤ most_slots
    → m.whole.state ≡ blank m.whole.slots → ((device_slots : ℕ) → m.whole.slots ≤ device_slots → IsOn device_slots [] m.whole)
    → length since.erased.items ≡ m.whole.slots → IsSince since nothing_since → IsSplitKept since 0 m
fresh_kept since m nothing start none begun counts few blank_is on size is = record {
  commit = subst (IsCommitOrRest m) (sym none) record { made = start; begun = begun; counts = counts };
  on = λ slots wide.
      let state : state_on slots m ≡ blank_split slots = ap (λ events. state_on slots (record m { events = events })) nothing in
      record {
        before = blank_split slots;
        sized = length-replicate slots no_result ∙ sym (length-replicate {A = Option (Word × Word)} slots None);
        size = length-replicate {A = Option (Word × Word)} slots None;
        whole_is = undivided_blank slots ∙ sym (on slots wide);
        now_is = state ∙ ap (λ n. split_after (blank_split slots) (take n (parts_due m))) (sym start);
        way = subst (λ (h : Option HeldCommit). IfSome h (IsWayOn slots m)) (sym none) tt;
      };
  left_is = λ slots wide. sym (ap (λ (h : Option HeldCommit). length (written (left_of_held (state_on slots m) (since_of m) m.whole.state m.made h))) none);
  few = few;
  whole_size = ap (λ (s : State). length s.slots) blank_is ∙ length-replicate {A = Option Entry} m.whole.slots None;
  size = size;
  since_is = subst (IsSince since) (ap (λ events. since_of (record m { events = events })) (sym nothing)) is;
}

pub fresh_is : (since : Since) (slots : ℕ) (mode : Mode) (placement : Placement) (whole : Managed) (events : List SplitAction) → whole ≡ fresh slots mode placement
    → ((device_slots : ℕ) → slots ≤ device_slots → IsOn device_slots [] whole) → events ≡ [] → slots ≤ most_slots → length since.erased.items ≡ slots → IsSince since nothing_since
    → IsSplitKept since 0 (at_rest whole events)
fresh_is since slots mode placement whole events is on nothing few size started =
    let own : whole.slots ≡ slots = ap (λ (w : Managed). w.slots) is in
    fresh_kept since (at_rest whole events) nothing refl (ap (λ (w : Managed). w.held) is) refl refl (subst (λ n. n ≤ most_slots) (sym own) few)
    (ap (λ (w : Managed). w.state) is ∙ ap blank (sym own)) (λ device_slots wide. on device_slots (subst (λ n. n ≤ device_slots) own wide)) (size ∙ sym own) started
