-- What a device answers and serves while the writes of a batch are made that began at rest.
use Rattle.std.proofs.Common.{◌≡◌, ℕ, zero, suc, ◌-◌, ◌≤◌, Option, Some, None, List, [], ◌∷◌, length, take, refl, ◌∙◌, arith}
use Rattle.std.proofs.lemmas.List.{length-map}
use Rattle.std.specs.Prelude.{IsFalse}
use Rattle.std.specs.List.{AllByRecursion}
use Rattle.slot_order.specs.Order.{slot}
use Rattle.slot_pool.specs.Arrangement.{Slots}
use Rattle.rule_store.specs.declared.Mode.{Mode}
use Rattle.rule_store.specs.declared.Mode.TheVariants.{Cover, Bits}
use Rattle.rule_store.specs.declared.Command.{Command}
use Rattle.rule_store.specs.Batch.{ChangesRules, IsSound, set_after}
use Rattle.rule_store.specs.Store.{StoredRules}
use Rattle.tcam_device.specs.declared.Write.{Write}
use Rattle.tcam_device.specs.Hitless.{ShowsOldOrNew}
use Rattle.tcam_device.specs.Insertion.{is_table_write, table_writes}
use Rattle.tcam_device.specs.State.{State, IsInUse, blank_table, state_after, on_device}
use Rattle.tcam_device.proofs.Wider.{all_take, slot-padded}
use Rattle.commit_writes.specs.Bits.{FieldBits, bits_with, new_bits}
use Rattle.commit_writes.specs.Commit.{IsSegment}
use Rattle.commit_writes.specs.InFlight.{ServesLive}
use Rattle.commit_writes.specs.Planned.{held_entry}
use Rattle.commit_writes.specs.Segments.{MayBegin}
use Rattle.commit_writes.specs.Serving.{HaveFreeBits}
use Rattle.commit_writes.specs.Shape.{fresh_writes}
use Rattle.commit_writes.proofs.AtRest.{rests_on_wider_devices}
use Rattle.commit_writes.proofs.ServedLive.{early, late}
use Rattle.commit_writes.proofs.SlotWrites.{AreToSlots, tables_left}
use Rattle.commit_writes.proofs.SlotsBehind.{IsCutAtSlots, cut_at_slots}
use Rattle.commit_writes.proofs.TableWrites.{bit_writes-tables}
use Rattle.readback.specs.Laws.{HasUnused}
use Rattle.readback.specs.Stage.{IsStage}
use Rattle.readback.proofs.Stages.{segments_pass}
use Rattle.readback.proofs.Stopped.{unplaced}
use Rattle.batch_order.specs.declared.translation.Translation.{Translation}
use Rattle.batch_order.specs.Entries.{Entries}
use Rattle.batch_order.specs.Kept.{AreWordsFirst, IsManaged, bits_of, mode_of, settled_state, tables_of}
use Rattle.batch_order.specs.Managed.{CanRestart}
use Rattle.batch_order.proofs.served.Leaves.{set_bits_of}
use Rattle.batch_order.proofs.served.Resting.{rests}

-- the writes are the segment of a sound batch on a device with so many slots or more
pub record BeginsAtRest (translation : Option Translation) (rules : StoredRules) (kept : Entries) (slots : Slots) (batch : List Command) (writes : List Write) : Type 0 where
  pub managed : IsManaged translation rules kept slots None
  pub changes : AllByRecursion ChangesRules batch
  pub sound : IsSound rules.rules batch
  pub few : HaveFreeBits (mode_of translation) rules.rules batch
  pub segment : (device_slots : ℕ) → length slots ≤ device_slots
      → IsSegment (mode_of translation) (bits_of translation) rules.rules batch (on_device device_slots (settled_state translation kept.entries slots)) writes

-- by covers no word has a bit
cover_tables : (translation : Option Translation) → mode_of translation ≡ Cover → ((tables_of translation).src ≡ blank_table) × ((tables_of translation).dst ≡ blank_table)
cover_tables None cover = (refl, refl)
cover_tables (Some kept) cover = absurd (let other : Bits ≡ Cover = cover in cc)

past_end : {E : Type 0} (slots : List (Option E)) (at : ℕ) → length slots ≤ at → slot slots at ≡ None
past_end [] at past = refl
past_end (held ∷ slots) zero past = absurd (omega arith)
past_end (held ∷ slots) (suc at) past = past_end slots at (omega arith)

module _ (translation : Option Translation) (rules : StoredRules) (kept : Entries) (slots : Slots) (batch : List Command) (writes : List Write) (begins : BeginsAtRest translation rules kept slots batch writes) where
  abbrev mode : Mode
  mode = mode_of translation

  abbrev bits : FieldBits
  bits = bits_of translation

  abbrev begun : State
  begun = settled_state translation kept.entries slots

  pub begin : (device_slots : ℕ) → MayBegin (mode_of translation) (bits_of translation) rules.rules batch (on_device device_slots (settled_state translation kept.entries slots))
  begin device_slots = record {
    at_rest = rests_on_wider_devices mode bits rules.rules begun device_slots (rests translation rules kept slots begins.managed);
    changes = begins.changes;
    sound = begins.sound;
    few = begins.few;
  }

  -- words of the tables come first,
  pub words_come_first : (words : ℕ) → words ≡ table_writes writes → AreWordsFirst words writes
  words_come_first words number =
      let on : State = on_device (length slots) begun in
      let cut : IsCutAtSlots (fresh_writes mode bits rules.rules batch on) writes = cut_at_slots mode bits rules.rules batch on writes (begins.segment (length slots) (omega arith)).shape in
      record {
        tables = fresh_writes mode bits rules.rules batch on;
        behind = cut.rest;
        parts = cut.parts;
        to_tables = bit_writes-tables on (new_bits bits (bits_with mode rules.rules batch bits));
        to_slots = cut.slots;
        count = (let count = cut.count in omega arith);
      }

  -- up to the last of them the device serves the ranges before the commit,
  pub serves_first : (device_slots : ℕ) → length slots ≤ device_slots → (n : ℕ) → n ≤ table_writes writes
      → ServesLive (bits_of translation) (state_after (on_device device_slots (settled_state translation kept.entries slots)) (take n writes))
  serves_first device_slots wide n below = early mode bits rules.rules batch (on_device device_slots begun) writes (begin device_slots) (begins.segment device_slots wide) n below

  -- and from then on those that are live meanwhile,
  pub serves_then : (device_slots : ℕ) → length slots ≤ device_slots → (n : ℕ) → table_writes writes ≤ n
      → ServesLive (bits_with (mode_of translation) rules.rules batch (bits_of translation)) (state_after (on_device device_slots (settled_state translation kept.entries slots)) (take n writes))
  serves_then device_slots wide n above = late mode bits rules.rules batch (on_device device_slots begun) writes (begin device_slots) (begins.segment device_slots wide) n above

  -- each state that they pass is a stage, from which another manager can go on,
  pub stages_all : AllByRecursion (IsInUse (length slots)) writes → (device_slots : ℕ) → length slots ≤ device_slots → (n : ℕ)
      → IsStage (length slots) (mode_of translation) (bits_of translation) rules.rules batch (state_after (on_device device_slots (settled_state translation kept.entries slots)) (take n writes))
  stages_all in_use device_slots wide n =
      segments_pass (length slots) mode bits rules.rules batch (on_device device_slots begun) writes (begin device_slots) (begins.segment device_slots wide) unused in_use n
    where
      size : length begun.slots ≡ length slots
      size = length-map slots (held_entry kept.entries)

      unused : HasUnused (length slots) (on_device device_slots begun)
      unused at past = slot-padded begun.slots (device_slots - length begun.slots) at ∙ past_end begun.slots at (let same = size in omega arith)

  pub restarts_all : AllByRecursion (IsInUse (length slots)) writes → (mode_of translation ≡ Cover → AreToSlots writes) → (device_slots : ℕ) → length slots ≤ device_slots
      → CanRestart (length slots) (mode_of translation) (bits_of translation) rules.rules batch (on_device device_slots (settled_state translation kept.entries slots)) writes
  restarts_all in_use plain device_slots wide = record {
    set_bits = set_bits_of mode bits rules.rules (tables_of translation) begins.managed.translated;
    stages = stages_all in_use device_slots wide;
    unplaced = λ n below. unplaced mode bits rules.rules batch (on_device device_slots begun) writes (begin device_slots) (begins.segment device_slots wide) n below;
    plain = λ cover n.
        (let left = tables_left (on_device device_slots begun) (take n writes) (all_take (λ write. IsFalse (is_table_write write)) n writes (plain cover)) in
        let none = cover_tables translation cover in
        record { src = left.src ∙ none.0; dst = left.dst ∙ none.1 });
  }

  -- and each key has the old or the new answer all along
  pub answers_all : (device_slots : ℕ) → length slots ≤ device_slots → (n : ℕ)
      → ShowsOldOrNew (state_after (on_device device_slots (settled_state translation kept.entries slots)) (take n writes)) rules.rules (set_after rules.rules batch)
  answers_all device_slots wide n = (begins.segment device_slots wide).hitless.on_the_way.during n
