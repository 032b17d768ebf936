-- The events of a commit have numbers as a trace of its version of IP has them.
use Rattle.std.proofs.Common.{◌≡◌, ℕ, suc, ◌^◌, ◌<◌, ◌≤◌, Some, None, List, [], ◌∷◌, length, take, map, Contains, inl, inr, sym, subst, arith, get_or-set_same}
use Rattle.std.specs.List.{AllByRecursion}
use Rattle.slot_order.specs.Order.{script_slots}
use Rattle.slot_order.proofs.Lists.{all_append}
use Rattle.slot_order.proofs.Writes.{slot_same}
use Rattle.rule_model.specs.declared.IpVersion.{IpVersion}
use Rattle.rule_model.specs.declared.Rule.{Rule}
use Rattle.rule_model.specs.declared.Field.TheVariants.{Src, Dst}
use Rattle.rule_model.specs.Entry.{RankedPiece}
use Rattle.rule_store.specs.declared.Mode.{Mode}
use Rattle.rule_store.specs.declared.Command.{Command as Change}
use Rattle.tcam_device.specs.declared.Write.{Write}
use Rattle.tcam_device.specs.declared.Write.TheVariants as write
use Rattle.tcam_device.specs.declared.Action.{Action}
use Rattle.tcam_device.specs.declared.Action.TheVariants.{Written, Drained}
use Rattle.tcam_device.specs.Flight.{writes_in}
use Rattle.tcam_device.specs.State.{State, IsInUse, IsState, apply, state_after}
use Rattle.tcam_device.proofs.Wider.{in_use_after}
use Rattle.tcam_device.proofs.Kept.{slots-apply}
use Rattle.commit_writes.specs.Bits.{FieldBits, bits_with, new_bits}
use Rattle.commit_writes.specs.Commit.{IsSegment}
use Rattle.commit_writes.specs.Segments.{MayBegin}
use Rattle.commit_writes.specs.Shape.{fresh_writes}
use Rattle.commit_writes.proofs.ServedLive.{bits_begun}
use Rattle.commit_writes.proofs.ServedTables.{words_state}
use Rattle.commit_writes.proofs.SlotsBehind.{IsCutAtSlots, cut_at_slots}
use Rattle.commit_writes.proofs.SlotWrites.{AreToSlots}
use Rattle.commit_writes.proofs.TableWords.{IsBitWrite, bit_writes-words}
use Rattle.readback.specs.Tasks.{commit_pieces, known_pieces}
use Rattle.trace_file.specs.declared.TraceLine.TheVariants.{Put, Erase, Table, Drain}
use Rattle.trace_file.specs.Forms.{IsTraceEntry, IsTraceLineOf}
use Rattle.trace_check.specs.Orderly.{Tracing, traced_on, AllKeepOrder}
use Rattle.trace_check.specs.Segments.{action_line, commit_lines}
use Rattle.json_traces.proofs.TraceWords.{IsTraceRanked, entry_is}

-- ---- words of tables

-- a port of 16 bits where a table is written
abbrev PortFits : Write → Type 0
PortFits (write.Slot at entry) = Unit {0}
PortFits (write.Table field port word) = port < 2 ^ 16

-- and a word of 16 bits
abbrev pub TableFits : Write → Type 0
TableFits (write.Slot at entry) = Unit {0}
TableFits (write.Table field port word) = (port < 2 ^ 16) × (word < 2 ^ 16)

-- where each state on the way has words of 16 bits the words that are written have
tables_fit : (slots : ℕ) (writes : List Write) (state : State) → AllByRecursion PortFits writes → ((n : ℕ) → IsState slots (state_after state (take n writes))) → AllByRecursion TableFits writes
tables_fit slots [] state ports states = tt
tables_fit slots (write.Slot at entry ∷ writes) state ports states = (tt, tables_fit slots writes (apply state (write.Slot at entry)) ports.1 (λ n. states (suc n)))
tables_fit slots (write.Table Src port word ∷ writes) state ports states =
    let inside : port < length state.src = (let size = (states 0).src_size in let fits = ports.0 in omega arith) in (
      (ports.0, subst (λ w. w < 2 ^ 16) (get_or-set_same state.src port word 0 inside) ((states 1).src_words port)),
      tables_fit slots writes (apply state (write.Table Src port word)) ports.1 (λ n. states (suc n)),
    )
tables_fit slots (write.Table Dst port word ∷ writes) state ports states =
    let inside : port < length state.dst = (let size = (states 0).dst_size in let fits = ports.0 in omega arith) in (
      (ports.0, subst (λ w. w < 2 ^ 16) (get_or-set_same state.dst port word 0 inside) ((states 1).dst_words port)),
      tables_fit slots writes (apply state (write.Table Dst port word)) ports.1 (λ n. states (suc n)),
    )

-- the words of new bits are at ports of the tables
port_fits : (fresh : FieldBits) (slots : ℕ) (state : State) (made : Write) → IsState slots state → IsBitWrite fresh state made → PortFits made
port_fits fresh slots state made is (inl word) = subst PortFits (sym word.is) (let inside = word.inside in let size = is.src_size in omega arith)
port_fits fresh slots state made is (inr word) = subst PortFits (sym word.is) (let inside = word.inside in let size = is.dst_size in omega arith)

-- writes of slots write no word
slots_fit : (writes : List Write) → AreToSlots writes → AllByRecursion TableFits writes
slots_fit [] slots = tt
slots_fit (write.Slot at entry ∷ writes) slots = (tt, slots_fit writes slots.1)
slots_fit (write.Table field port word ∷ writes) slots = absurd (let wrong = slots.0 in cc)

pub segment_tables : (mode : Mode) (bits : FieldBits) (rules : List Rule) (batch : List Change) (state : State) (made : List Write) → MayBegin mode bits rules batch state
    → IsSegment mode bits rules batch state made → AllByRecursion TableFits made
segment_tables mode bits rules batch state made begin segment =
    let cut : IsCutAtSlots (fresh_writes mode bits rules batch state) made = cut_at_slots mode bits rules batch state made segment.shape in
    let fresh = new_bits bits (bits_with mode rules batch bits) in
    let words = fresh_writes mode bits rules batch state in
    let start = bits_begun mode bits rules batch state begin in
    let ports : AllByRecursion PortFits words = ports_of words (bit_writes-words state fresh) in
    subst (AllByRecursion TableFits) (sym cut.parts)
    (all_append TableFits words cut.rest (tables_fit (length state.slots) words state ports (words_state mode bits rules batch state start)) (slots_fit cut.rest cut.slots))
  where
    ports_of : (words : List Write) → AllByRecursion (IsBitWrite (new_bits bits (bits_with mode rules batch bits)) state) words → AllByRecursion PortFits words
    ports_of [] are = tt
    ports_of (word ∷ words) are = (port_fits (new_bits bits (bits_with mode rules batch bits)) (length state.slots) state word begin.at_rest.is_state are.0, ports_of words are.1)

-- ---- all events

-- each piece that may stand is one of a rule of this version
abbrev AreKnown : IpVersion → Tracing → Type 0
AreKnown version now = (x : RankedPiece) → Contains (known_pieces (commit_pieces now.mode now.bits now.rules now.batch)) x → IsTraceRanked version x

pub events_within : (version : IpVersion) (actions : List Action) (now : Tracing) (number : ℕ) → AllKeepOrder now (commit_lines actions number) → AllByRecursion (IsInUse (length now.state.slots)) (writes_in actions)
    → length now.state.slots ≤ script_slots → AreKnown version now → AllByRecursion TableFits (writes_in actions) → AllByRecursion (IsTraceLineOf version) (map action_line actions)
events_within version [] now number keeps inside few known tables = tt
events_within version (Written (write.Slot at (Some entry)) ∷ actions) now number keeps inside few known tables =
    let next : Tracing = traced_on now (Put at entry) in
    let less : at < length now.state.slots = inside.0 in
    let held = keeps.0.0.stage.2.known at entry (slot_same now.state.slots at (Some entry) less) in
    let size : length next.state.slots ≡ length now.state.slots = slots-apply now.state (write.Slot at (Some entry)) in (
      (omega arith, subst (IsTraceEntry version) held.2 (entry_is version held.0 (known held.0 held.1))),
      events_within version actions next number keeps.1 (in_use_after now.state (write.Slot at (Some entry)) (writes_in actions) inside.1) (omega arith) known tables.1,
    )
events_within version (Written (write.Slot at None) ∷ actions) now number keeps inside few known tables =
    let next : Tracing = traced_on now (Erase at) in
    let less : at < length now.state.slots = inside.0 in
    let size : length next.state.slots ≡ length now.state.slots = slots-apply now.state (write.Slot at None) in
    (omega arith, events_within version actions next number keeps.1 (in_use_after now.state (write.Slot at None) (writes_in actions) inside.1) (omega arith) known tables.1)
events_within version (Written (write.Table field port word) ∷ actions) now number keeps inside few known tables =
    let next : Tracing = traced_on now (Table field port word) in
    let size : length next.state.slots ≡ length now.state.slots = slots-apply now.state (write.Table field port word) in
    (tables.0, events_within version actions next number keeps.1 (in_use_after now.state (write.Table field port word) (writes_in actions) inside.1) (omega arith) known tables.1)
events_within version (Drained ∷ actions) now number keeps inside few known tables = (tt, events_within version actions (traced_on now Drain) number keeps.1 inside few known tables)
