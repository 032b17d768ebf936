-- Behind the words of the tables and the erase of the twin a planned restart is a planned rest.
use Rattle.std.proofs.Common.{◌≡◌, ℕ, ◌-◌, ◌^◌, ◌<◌, Option, None, Some, List, ◌++◌, length, refl, sym, ◌∙◌, subst, ap}
use Rattle.std.specs.Prelude.{slice_index}
use Rattle.std.specs.List.{AllByRecursion}
use Rattle.std.proofs.Math.Seq.{take-length}
use Rattle.slot_order.specs.Order.{slot}
use Rattle.slot_order.proofs.Lists.{all_append}
use Rattle.slot_order.proofs.Writes.{slot_inside}
use Rattle.slot_pool.specs.Arrangement.{Slots}
use Rattle.rule_model.specs.declared.Rule.{Rule}
use Rattle.rule_store.specs.declared.Mode.{Mode}
use Rattle.rule_store.specs.declared.Mode.TheVariants.{Cover, Bits}
use Rattle.rule_store.specs.declared.Command.{Command}
use Rattle.rule_store.specs.Batch.{additions}
use Rattle.rule_model.specs.declared.words.Entry.{Entry}
use Rattle.placement.specs.declared.LivePiece.{LivePiece}
use Rattle.tcam_device.specs.declared.Write.{Write}
use Rattle.tcam_device.specs.State.{State, IsState, IsInUse, state_after, on_device}
use Rattle.tcam_device.proofs.Wider.{slot-padded, slots-after}
use Rattle.commit_writes.specs.Proposal.{proposal}
use Rattle.commit_writes.specs.declared.Rewrite.{Rewrite}
use Rattle.commit_writes.specs.Bits.{FieldBits, bits_with}
use Rattle.commit_writes.specs.Planned.{IdEntries, Planned}
use Rattle.commit_writes.specs.Serving.{AreServing}
use Rattle.commit_writes.specs.Shape.{fresh_writes}
use Rattle.commit_writes.proofs.Front.{front_in_use}
use Rattle.commit_writes.proofs.ServedTables.{IsBitsStart, tables_serve, words_done}
use Rattle.commit_writes.proofs.SlotWrites.{AreToSlots, tables_left}
use Rattle.readback.specs.Halt.{halt_at, parts_as_planned}
use Rattle.readback.specs.Tasks.{Task, CommitPieces, commit_pieces}
use Rattle.readback.specs.Stage.{IsCommitAt, IsTwinSlot}
use Rattle.readback.specs.Going.{twin_writes}
use Rattle.readback.proofs.Begun.{begun, change_of}
use Rattle.readback.proofs.Rest.{untwinned_by}
use Rattle.readback.proofs.Tables.{words_stage}
use Rattle.readback.specs.PlannedRest.{IsPlannedRest}
use Rattle.readback.specs.Restart.{IsPlannedRestart}
use Rattle.readback.proofs.BegunRests.{Begun}
use Rattle.readback.proofs.Same.{twin_on, stage_on}

-- writes of slots leave a state that it is
pub slots_state : (size : ℕ) (state : State) (writes : List Write) → AreToSlots writes → IsState size state → IsState size (state_after state writes)
slots_state size state writes to_slots is =
    let left = tables_left state writes to_slots in
    record {
      size = slots-after state writes ∙ is.size;
      src_size = ap length left.src ∙ is.src_size;
      dst_size = ap length left.dst ∙ is.dst_size;
      src_words = λ port. subst (λ (table : List ℕ). slice_index table port < 2 ^ 16) (sym left.src) (is.src_words port);
      dst_words = λ port. subst (λ (table : List ℕ). slice_index table port < 2 ^ 16) (sym left.dst) (is.dst_words port);
    }

-- the erase of a twin goes to a slot,
pub twin_to_slots : (twin : Option ℕ) → AreToSlots (twin_writes twin)
twin_to_slots None = tt
twin_to_slots (Some at) = (refl, tt)

-- that there is,
twin_inside : (slots : List (Option Entry)) (twin : Option ℕ) → IsTwinSlot slots twin → AllByRecursion (IsInUse (length slots)) (twin_writes twin)
twin_inside slots None none = tt
twin_inside slots (Some at) is = (slot_inside slots at is.1.second is.1.there, tt)

-- leaves the tables serving what they served,
pub serving_on : (mode : Mode) (bits : FieldBits) (rules : List Rule) (state : State) (twin : Option ℕ) → AreServing mode bits rules state → AreServing mode bits rules (state_after state (twin_writes twin))
serving_on mode bits rules state None serving = serving
serving_on Cover bits rules state (Some at) serving = serving
serving_on Bits bits rules state (Some at) serving = (
  record { places = serving.0.places; have_bits = serving.0.have_bits; translated = serving.0.translated },
  record { places = serving.1.places; have_bits = serving.1.have_bits; translated = serving.1.translated },
)

-- and does the same to slots that hold the same
same_without : (a b : State) (twin : Option ℕ) → a.slots ≡ b.slots → (state_after a (twin_writes twin)).slots ≡ (state_after b (twin_writes twin)).slots
same_without a b None same = same
same_without a b (Some at) same = ap (λ (held : List (Option Entry)). (state_after (record a { slots = held }) (twin_writes (Some at))).slots) same

module _ (device_slots : ℕ) (mode : Mode) (bits : FieldBits) (rules : List Rule) (batch : List Command) (state : State) (done left : List Task) (twin : Option ℕ)
    (live : List LivePiece) (slots : Slots) (entries : IdEntries) (planned : List Planned) (rewrites : List Rewrite) (erased : List ℕ)
    (plan : IsPlannedRestart device_slots (proposal mode bits rules batch) state (halt_at done left twin) live slots entries (parts_as_planned planned rewrites erased)) where
  abbrev wide : State
  wide = on_device device_slots state

  abbrev during : FieldBits
  during = bits_with mode rules batch bits

  abbrev p : CommitPieces
  p = commit_pieces mode bits rules batch

  abbrev tables : List Write
  tables = fresh_writes mode bits rules batch state

  abbrev behind : State
  behind = state_after state tables

  abbrev start : State
  start = state_after behind (twin_writes twin)

  same : (at : ℕ) → slot state.slots at ≡ slot wide.slots at
  same at = sym (slot-padded state.slots (device_slots - length state.slots) at)

  -- the slots in use show the same stage,
  narrow_stage : IsCommitAt (length slots) mode bits rules batch state done left
  narrow_stage = stage_on wide state same (length slots) bits during p done left refl refl plan.stage

  narrow_twin : IsTwinSlot state.slots twin
  narrow_twin = twin_on wide state same twin plan.is_twin

  pub bits_start : IsBitsStart mode bits rules batch state
  bits_start = begun mode bits rules batch (length state.slots) state plan.can plan.is_state narrow_stage.old_words

  same_slots : behind.slots ≡ state.slots
  same_slots = (words_done mode bits rules batch state bits_start).1

  -- and so they do behind the words,
  pub behind_stage : IsCommitAt (length slots) mode bits rules batch behind done left
  behind_stage = subst (λ (some : List Write). IsCommitAt (length slots) mode bits rules batch (state_after state some) done left) (take-length tables)
      (words_stage mode bits rules batch state bits_start (length tables) (length slots) p done left narrow_stage)

  pub behind_twin : IsTwinSlot behind.slots twin
  behind_twin = subst (λ held. IsTwinSlot held twin) (sym same_slots) narrow_twin

  start_slots : start.slots ≡ (state_after state (twin_writes twin)).slots
  start_slots = same_without behind state twin same_slots

  pub start_plan : IsPlannedRest (proposal mode bits rules batch) start left live slots entries planned rewrites erased
  start_plan = record {
    mirrors = start_slots ∙ plan.rest.mirrors;
    stands = plan.rest.stands;
    inserted = plan.rest.inserted;
    have_entries = plan.rest.have_entries;
    are_planned = plan.rest.are_planned;
    rewrites_are = plan.rest.rewrites_are;
    erased_are = plan.rest.erased_are;
  }

  pub start_state : IsState (length start.slots) start
  start_state = subst (λ size. IsState size start) (sym (slots-after behind (twin_writes twin)))
      (slots_state (length behind.slots) behind (twin_writes twin) (twin_to_slots twin) (words_done mode bits rules batch state bits_start).0)

  -- without the twin too, from where the rest was planned
  abbrev pub started : Begun
  started = record {
    mode = mode;
    bits = bits;
    rules = rules;
    batch = batch;
    start = start;
    done = done;
    left = left;
    live = live;
    slots = slots;
    entries = entries;
    planned = planned;
    rewrites = rewrites;
    erased = erased;
    change = change_of mode bits rules batch plan.can;
    is_state = start_state;
    serving = serving_on mode during (rules ++ additions batch) behind twin (tables_serve mode bits rules batch state bits_start);
    stage = (untwinned_by (length slots) bits during p behind done left behind_stage twin behind_twin).0;
    plan = start_plan;
  }

  -- words and the erase of the twin write slots that there are
  pub front_inside : AllByRecursion (IsInUse (length state.slots)) (fresh_writes mode bits rules batch state ++ twin_writes twin)
  front_inside = all_append (IsInUse (length state.slots)) tables (twin_writes twin) (front_in_use mode bits rules batch state (length state.slots)) (twin_inside state.slots twin narrow_twin)
