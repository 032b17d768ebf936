-- A manager that holds the plan of a batch: it can carry it out, and callers see it as the batch's segment.
use Rattle.std.proofs.Common.{◌≡◌, ℕ, ◌≤◌, Bool, true, false, List, [], length, take, drop, Option, Some, None, refl, sym, ap, ap₂, subst, ◌∙◌, arith}
use Rattle.std.specs.List.{AllByRecursion}
use Rattle.slot_pool.specs.Arrangement.{Slots}
use Rattle.rule_model.specs.declared.Rule.{Rule}
use Rattle.rule_model.specs.Rule.{HasConditions}
use Rattle.rule_model.specs.RuleSet.{IsRuleSet}
use Rattle.rule_store.specs.declared.Mode.{Mode}
use Rattle.rule_store.specs.declared.Command.{Command}
use Rattle.rule_store.specs.Batch.{ChangesRules, IsSound, set_after}
use Rattle.rule_store.specs.Store.{StoredRules}
use Rattle.tcam_device.specs.declared.Write.{Write}
use Rattle.tcam_device.specs.State.{State, state_after, on_device}
use Rattle.tcam_device.specs.declared.Action.{Action}
use Rattle.commit_writes.specs.Actions.{have_bits, with_drain}
use Rattle.commit_writes.specs.Bits.{FieldBits, bits_with, bits_left, new_bits}
use Rattle.commit_writes.specs.Serving.{AreBitsOf, HaveFreeBits}
use Rattle.commit_writes.specs.Commit.{IsSegment}
use Rattle.commit_writes.specs.InFlight.{ServesLive}
use Rattle.commit_writes.specs.Segments.{MayBegin}
use Rattle.commit_writes.specs.Undo.{undo_writes, restorings}
use Rattle.commit_writes.specs.PlannedBatch.{IsPlannedSegment, erased_slots, rewritten_entries}
use Rattle.commit_writes.proofs.BatchRules.{right_after}
use Rattle.commit_writes.proofs.SlotWrites.{no_table}
use Rattle.commit_writes.specs.Changes.{during_of}
use Rattle.batch_order.specs.declared.held.Held.{Held}
use Rattle.batch_order.specs.declared.translation.Translation.{Translation}
use Rattle.batch_order.specs.declared.Placement.{Placement}
use Rattle.batch_order.specs.ByParts.{longest_parts, longest_planned_parts}
use Rattle.batch_order.specs.Entries.{AddsIds, Entries}
use Rattle.batch_order.specs.Noting.{all_undo}
use Rattle.batch_order.specs.Planning.{as_writes}
use Rattle.batch_order.proofs.planning.Refused.{adds_first, adds_last}
use Rattle.batch_order.specs.Kept.{IsManaged, IsArranged, bits_of, changed_by, course_of, held_of, held_writes, mode_of, settled_state, tables_of, translation_after, way_of}
use Rattle.batch_order.specs.Kept as kept
use Rattle.batch_order.specs.Managed.{CanRestart, HeldCommit, Holds, Way, commit_of}
use Rattle.batch_order.specs.Managed.Way.{On}
use Rattle.batch_order.proofs.served.Beginning.{Begins, begins_going}
use Rattle.batch_order.proofs.planning.Translated.{bits_same, settled_is}
use Rattle.batch_order.proofs.served.FromRest.{BeginsAtRest, answers_all, begin, restarts_all, serves_first, serves_then, words_come_first}
use Rattle.batch_order.proofs.planning.Judged.{idle_count}
use Rattle.batch_order.proofs.arranged.Unchanged.{arranged_same}
use Rattle.batch_order.proofs.under_way.Carried.{view_of}
use Rattle.batch_order.proofs.planning.Taken.{IsCoded, IsPlanOf, during_by}
use Rattle.batch_order.proofs.planning.Longest.{plan_longest}
use Rattle.batch_order.proofs.planning.Leading.{parts_of, arranged_then, same_state, plan_leads, plan_tables, plan_bits, plan_segment, few_planned, plain_writes}
use Rattle.readback.specs.Halt.{parts_as_planned}

-- a commit whose plan is held
pub record IsHeldPlan (placement : Placement) (translation : Option Translation) (rules rules' : StoredRules) (old new : Entries) (slots middle : Slots) (batch : List Command) (held : Held) : Type 0 where
  pub plan : IsPlanOf placement translation rules old new slots middle batch held.rewrites.items held.erased.items (held_writes new.entries held) held.counts
  pub longest : held.most_parts ≡ longest_planned_parts plan.planned
  pub same : rules'.rules ≡ rules.rules
  pub prepared : held.prepared ≡ true
  pub made : held.made ≡ 0
  pub awaits : held.awaits ≡ have_bits (new_bits (bits_of translation) (during_of held.bits))
  pub undrained : held.drained ≡ false
  pub forward : held.turned ≡ None
  pub undo : as_writes new.entries held.rewrites.items (all_undo held.undo) ≡ restorings (settled_state translation new.entries slots) (held_writes new.entries held)
  pub adds : AddsIds old new held.ids.items
  pub batch_is : held.batch ≡ batch
  pub coded : IsCoded translation rules batch held.bits

module _ (placement : Placement) (translation : Option Translation) (rules rules' : StoredRules) (old new : Entries) (slots middle : Slots) (batch : List Command) (held : Held)
    (holds : IsHeldPlan placement translation rules rules' old new slots middle batch held) where
  abbrev mode : Mode
  mode = mode_of translation

  abbrev bits : FieldBits
  bits = bits_of translation

  abbrev before : State
  before = settled_state translation old.entries slots

  abbrev begun : State
  begun = settled_state translation new.entries slots

  abbrev writes : List Write
  writes = held_writes new.entries held

  sets : set_after rules'.rules held.batch ≡ set_after rules.rules batch
  sets = ap₂ (λ (r : List Rule) (b : List Command). set_after r b) holds.same holds.batch_is

  -- the live ranges that it leads to
  left : kept.bits_after rules'.rules held ≡ bits_left (set_after rules.rules batch) (during_by translation rules batch)
  left = ap₂ bits_left sets holds.coded.during

  same_begun : begun ≡ before
  same_begun = same_state placement translation rules old new slots middle batch held.rewrites.items held.erased.items writes held.counts holds.plan

  made_by : (device_slots : ℕ) → IsPlannedSegment mode bits rules.rules batch (on_device device_slots before) writes held.counts
  made_by = plan_segment placement translation rules old new slots middle batch held.rewrites.items held.erased.items writes held.counts holds.plan

  -- what is said of the new set and its live ranges
  of_left : (P : FieldBits → List Rule → Type 0) → P (bits_left (set_after rules.rules batch) (during_by translation rules batch)) (set_after rules.rules batch) → P (kept.bits_after rules'.rules held) (set_after rules'.rules held.batch)
  of_left P is = subst (λ (b : FieldBits). P b (set_after rules'.rules held.batch)) (sym left) (subst (P (bits_left (set_after rules.rules batch) (during_by translation rules batch))) (sym sets) is)

  -- the entries of the set stand in order before its writes,
  old_arranged : IsArranged mode bits rules'.rules (record new { live = old.live }) slots
  old_arranged = subst (λ (set : List Rule). IsArranged mode bits set (record new { live = old.live }) slots) (sym holds.same)
      (arranged_same mode bits rules.rules old (record new { live = old.live }) slots holds.plan.taken.managed.carried refl holds.plan.size holds.plan.kept)

  -- so these begin at rest
  begins : BeginsAtRest translation rules' (record new { live = old.live }) slots held.batch writes
  begins =
      let managed = holds.plan.taken.managed in
      record {
        managed = record {
          right = subst (AllByRecursion HasConditions) (sym holds.same) managed.right;
          is_set = subst IsRuleSet (sym holds.same) managed.is_set;
          tables = managed.tables;
          translated = subst (λ (set : List Rule). AreBitsOf mode bits set (tables_of translation)) (sym holds.same) managed.translated;
          carried = old_arranged;
        };
        changes = subst (AllByRecursion ChangesRules) (sym holds.batch_is) holds.plan.taken.change.changes;
        sound = subst (λ (set : List Rule). IsSound set held.batch) (sym holds.same) (subst (λ (b : List Command). IsSound rules.rules b) (sym holds.batch_is) holds.plan.taken.change.sound);
        few = subst (λ (set : List Rule). HaveFreeBits mode set held.batch) (sym holds.same) (subst (λ (b : List Command). HaveFreeBits mode rules.rules b) (sym holds.batch_is) holds.plan.taken.room.free);
        segment = λ device_slots wide.
            subst (λ (old_set : List Rule). IsSegment mode bits old_set held.batch (on_device device_slots begun) writes) (sym holds.same)
            (subst (λ (b : List Command). IsSegment mode bits rules.rules b (on_device device_slots begun) writes) (sym holds.batch_is)
            (subst (λ (s : State). IsSegment mode bits rules.rules batch (on_device device_slots s) writes) (sym same_begun) (made_by device_slots).segment));
      }

  during_is : during_of held.bits ≡ bits_with mode rules'.rules held.batch bits
  during_is = holds.coded.during ∙ ap₂ (λ (r : List Rule) (b : List Command). bits_with mode r b bits) (sym holds.same) (sym holds.batch_is)

  -- and it goes on from there
  goes : Begins translation rules' new slots held
  goes =
      let plan = holds.plan in
      record {
        made = holds.made;
        forward = holds.forward;
        start = record {
          is_state = settled_is translation new.entries slots begins.managed.tables;
          changes = begins.changes;
          are = bits_same mode bits rules'.rules (tables_of translation) begun record { src = refl; dst = refl } begins.managed.translated;
          few = begins.few;
        };
        during = during_is;
        words_first = words_come_first translation rules' (record new { live = old.live }) slots held.batch writes begins held.counts.words plan.numbers.words;
        in_use = plan.in_use;
        answers = λ device_slots wide n within. answers_all translation rules' (record new { live = old.live }) slots held.batch writes begins device_slots wide n;
        serves_before = λ some device_slots wide n below.
            (let number = plan.numbers.words in serves_first translation rules' (record new { live = old.live }) slots held.batch writes begins device_slots wide n (omega arith));
        serves_behind = λ device_slots wide n above within. subst (λ (b : FieldBits). ServesLive b (state_after (on_device device_slots begun) (take n writes))) (sym during_is)
            (let number = plan.numbers.words in serves_then translation rules' (record new { live = old.live }) slots held.batch writes begins device_slots wide n (omega arith));
        late = λ is. absurd (let clash : true ≡ false = sym is ∙ holds.undrained in cc);
        drains = λ none not. sym holds.awaits ∙ none;
      }

  -- a manager that holds the plan of a batch
  pub managed_held : length batch ≤ rules'.spare → held.arrangement ≡ erased_slots middle held.erased.items → IsManaged translation rules' new slots (Some held)
  managed_held room arrangement =
      let plan = holds.plan in
      let managed = plan.taken.managed in
      let parts = parts_of placement translation rules old new slots middle batch held.rewrites.items held.erased.items writes held.counts plan in
      record {
        right = begins.managed.right;
        is_set = begins.managed.is_set;
        tables = begins.managed.tables;
        translated = begins.managed.translated;
        carried = record {
          size = old_arranged.settled.size;
          entries = (let count = idle_count translation rules' (record new { live = old.live }) slots begins.managed in omega arith);
          coded = holds.coded.coded;
          during = during_is;
          way_back = λ is. record {
            before = old.live;
            added = adds_last old new held.ids.items holds.adds;
            before_is = sym (adds_first old new held.ids.items holds.adds);
            old = old_arranged;
            undo_is = holds.undo;
          };
          back = λ some. holds.prepared;
          longest = λ is. holds.longest
              ∙ (plan_longest placement translation rules old new slots middle batch held.rewrites.items held.erased.items writes held.counts plan
              ∙ ap (λ (s : State). longest_parts s writes) (sym same_begun));
          after = of_left (λ b set. IsArranged mode b set (changed_by new held.rewrites.items held.erased.items) held.arrangement)
              (subst (λ (s : Slots). IsArranged mode (bits_left (set_after rules.rules batch) (during_by translation rules batch)) (set_after rules.rules batch) (changed_by new held.rewrites.items held.erased.items) s) (sym arrangement)
              (arranged_then placement translation rules old new slots middle batch held.rewrites.items held.erased.items writes held.counts plan));
          leads = plan_leads placement translation rules old new slots middle batch held.rewrites.items held.erased.items writes held.counts plan held.bits (set_after rules'.rules held.batch) holds.coded.coded
              ∙ ap (settled_state (translation_after translation rules'.rules new.entries held) (rewritten_entries new.entries held.rewrites.items)) (sym arrangement);
          tables = plan_tables placement translation rules old new slots middle batch held.rewrites.items held.erased.items writes held.counts plan held.bits (set_after rules'.rules held.batch) holds.coded.coded;
          translated = of_left (λ b set. AreBitsOf mode b set (tables_of (translation_after translation rules'.rules new.entries held)))
              (plan_bits placement translation rules old new slots middle batch held.rewrites.items held.erased.items writes held.counts plan held.bits (set_after rules'.rules held.batch) holds.coded.coded);
          going = begins_going translation rules' new slots held goes;
          words_first = goes.words_first;
          plain = λ cover. plan.numbers.words ∙ no_table writes (plain_writes placement translation rules old new slots middle batch held.rewrites.items held.erased.items writes held.counts plan cover);
          early = λ still. (let none = holds.made in omega arith);
          made = (let none = holds.made in omega arith);
          in_use = plan.in_use;
          right = subst (AllByRecursion HasConditions) (sym sets) (right_after rules.rules batch plan.taken.change);
          changes = begins.changes;
          few = begins.few;
          sound = begins.sound;
          room = (let size : length held.batch ≡ length batch = ap length holds.batch_is in omega arith);
          changed = parts.changed;
          gone = parts.gone;
          once = parts.once;
        };
      }

  -- the view of such a manager
  pub holds_plan : Holds (view_of placement translation rules old slots None) batch held.counts (view_of placement translation rules' new slots (Some held))
  holds_plan =
      let plan = holds.plan in
      record {
        made = writes;
        new_is = ap₂ (λ (r : List Rule) (s : State). record { slots = length slots; mode = mode; placement = placement; rules = r; bits = bits; state = s; held = Some (held_of translation slots rules'.rules new.entries held) }) holds.same
            (ap (λ (n : ℕ). state_after begun (take n writes)) holds.made ∙ same_begun)
            ∙ ap (λ (h : HeldCommit). record { slots = length slots; mode = mode; placement = placement; rules = rules.rules; bits = bits; state = before; held = Some h }) commit_is;
        in_use = plan.in_use;
        few = few_planned placement translation rules old new slots middle batch held.rewrites.items held.erased.items writes held.counts plan;
        segment = λ device_slots wide. (made_by device_slots).segment;
        begins = λ device_slots wide.
            subst (λ (old_set : List Rule). MayBegin mode bits old_set batch (on_device device_slots before)) holds.same
            (subst (λ (b : List Command). MayBegin mode bits rules'.rules b (on_device device_slots before)) holds.batch_is
            (subst (λ (s : State). MayBegin mode bits rules'.rules held.batch (on_device device_slots s)) same_begun
            (begin translation rules' (record new { live = old.live }) slots held.batch writes begins device_slots)));
        restarts = λ device_slots wide.
            subst (λ (old_set : List Rule). CanRestart (length slots) mode bits old_set batch (on_device device_slots before) writes) holds.same
            (subst (λ (b : List Command). CanRestart (length slots) mode bits rules'.rules b (on_device device_slots before) writes) holds.batch_is
            (subst (λ (s : State). CanRestart (length slots) mode bits rules'.rules held.batch (on_device device_slots s) writes) same_begun
            (restarts_all translation rules' (record new { live = old.live }) slots held.batch writes begins plan.in_use (plain_writes placement translation rules old new slots middle batch held.rewrites.items held.erased.items writes held.counts plan) device_slots wide)));
        placed = record {
          live = old.live;
          arrangement = slots;
          entries = new.entries;
          parts = parts_as_planned plan.planned held.rewrites.items held.erased.items;
          plan = plan.commit;
          aims = plan.aims;
          writes_are = plan.writes_are;
        };
        numbers = λ device_slots wide. (made_by device_slots).numbers;
        uncrossed = λ device_slots wide version routes changes. (made_by device_slots).uncrossed version routes changes;
      }
    where
      commit : Bool → Way → List Action → FieldBits → FieldBits → FieldBits → List Rule → HeldCommit
      commit prepared way left meanwhile behind current set = record {
        prepared = prepared;
        actions = left;
        way = way;
        counts = held.counts;
        rules = set;
        during = meanwhile;
        bits = behind;
        current = current;
      }

      undo : ℕ → List Write
      undo n = undo_writes begun (take n writes)

      drains : held.awaits ≡ have_bits (new_bits bits (during_by translation rules batch))
      drains = holds.awaits ∙ ap (λ b. have_bits (new_bits bits b)) holds.coded.during

      commit_is : held_of translation slots rules'.rules new.entries held ≡ commit_of (view_of placement translation rules old slots None) batch writes held.counts
      commit_is =
          ap₂ (λ (p : Bool) (t : Option ℕ). commit p (way_of t (undo held.made)) (course_of t held.awaits (drop held.made writes) (undo held.made)) (during_of held.bits) (kept.bits_after rules'.rules held) (elim held.drained [ true ↦ during_of held.bits | false ↦ bits ]) (set_after rules'.rules held.batch)) holds.prepared holds.forward
          ∙ ap₂ (λ (n : ℕ) (b : Bool). commit true (On (undo n)) (with_drain held.awaits (drop n writes)) (during_of held.bits) (kept.bits_after rules'.rules held) (elim b [ true ↦ during_of held.bits | false ↦ bits ]) (set_after rules'.rules held.batch)) holds.made holds.undrained
          ∙ ap₂ (λ (b : Bool) (d : FieldBits). commit true (On []) (with_drain b writes) d (kept.bits_after rules'.rules held) bits (set_after rules'.rules held.batch)) drains holds.coded.during
          ∙ ap₂ (λ (l : FieldBits) (r : List Rule). commit true (On []) (with_drain (have_bits (new_bits bits (during_by translation rules batch))) writes) (during_by translation rules batch) l bits r) left sets
