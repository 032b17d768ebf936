-- The lines of a segment keep the order of a trace.
use Rattle.std.proofs.Common.{◌≡◌, ℕ, suc, ◌+◌, Bool, true, false, Some, None, List, [], ◌∷◌, ◌++◌, length, map, take, drop, IsTrue, refl, sym, ◌∙◌, subst, ap, ap₂}
use Rattle.std.proofs.lemmas.List.{map-append}
use Rattle.rule_store.specs.Verdict.{Accepted, verdict}
use Rattle.tcam_device.specs.declared.Write.{Write}
use Rattle.tcam_device.specs.declared.Write.TheVariants as write
use Rattle.tcam_device.specs.declared.Action.{Action}
use Rattle.tcam_device.specs.declared.Action.TheVariants.{Written, Drained}
use Rattle.tcam_device.specs.State.{State, state_after}
use Rattle.tcam_device.specs.Insertion.{table_writes}
use Rattle.commit_writes.specs.Actions.{with_drain}
use Rattle.commit_writes.specs.Bits.{bits_with, new_bits}
use Rattle.commit_writes.specs.Shape.{fresh_writes}
use Rattle.commit_writes.proofs.SlotsBehind.{IsCutAtSlots, cut_at_slots}
use Rattle.commit_writes.proofs.SlotWrites.{AreToSlots}
use Rattle.commit_writes.proofs.TableWrites.{AreToTables, bit_writes-tables}
use Rattle.readback.specs.Tasks.{Task}
use Rattle.readback.specs.Stage.{IsStage, IsCommitAt, IsTwinSlot}
use Rattle.readback.proofs.Stages.{segments_pass}
use Rattle.trace_file.specs.declared.TraceLine.TheVariants.{Put, Erase, Table, Drain}
use Rattle.trace_check.specs.Orderly.{Tracing, traced_on, gives_bit, AllKeepOrder}
use Rattle.trace_check.specs.Segments.{commit_lines, SegmentsAreOrderly}
use Rattle.trace_check.proofs.Ended.{segment_ended, segment_alone}

-- the commit has arrived in a state
record ArrivesIn (now : Tracing) (state : State) : Type 0 where
  done : List Task
  ended : IsCommitAt now.slots now.mode now.bits now.rules now.batch state done []
  alone : IsTwinSlot state.slots None

-- after each of some writes the commit may be stopped
abbrev PassesFrom : Tracing → List Write → Type 0
PassesFrom now writes = (n : ℕ) → IsStage now.slots now.mode now.bits now.rules now.batch (state_after now.state (take n writes))

-- writes of slots, behind the drain where one is due
slots_keep : (writes : List Write) (now : Tracing) (number : ℕ) → AreToSlots writes → verdict now.slots now.mode now.rules now.batch ≡ Accepted → PassesFrom now writes
    → (IsTrue (gives_bit now.mode now.bits now.rules now.batch) → now.drained ≡ true) → ArrivesIn now (state_after now.state writes)
    → AllKeepOrder now (commit_lines (map Written writes) number)
slots_keep [] now number slots taken stages drained arrives = ((record { taken = taken; stage = stages 0 }, record { done = arrives.done; ended = arrives.ended; alone = arrives.alone }), tt)
slots_keep (write.Slot at (Some entry) ∷ writes) now number slots taken stages drained arrives = (
  (record { taken = taken; stage = stages 1 }, λ first gives. drained gives),
  slots_keep writes (traced_on now (Put at entry)) number slots.1 taken (λ n. stages (suc n)) drained (record { done = arrives.done; ended = arrives.ended; alone = arrives.alone }),
)
slots_keep (write.Slot at None ∷ writes) now number slots taken stages drained arrives = (
  record { taken = taken; stage = stages 1 },
  slots_keep writes (traced_on now (Erase at)) number slots.1 taken (λ n. stages (suc n)) drained (record { done = arrives.done; ended = arrives.ended; alone = arrives.alone }),
)
slots_keep (write.Table field port word ∷ writes) now number slots taken stages drained arrives = absurd (let bad : true ≡ false = slots.0 in cc)

-- the drain that stands between
abbrev drain_part : Bool → List Action
drain_part true = Drained ∷ []
drain_part false = []

behind_tables : (drains : Bool) (writes : List Write) (now : Tracing) (number : ℕ) → gives_bit now.mode now.bits now.rules now.batch ≡ drains → AreToSlots writes
    → verdict now.slots now.mode now.rules now.batch ≡ Accepted → PassesFrom now writes → ArrivesIn now (state_after now.state writes)
    → AllKeepOrder now (commit_lines (drain_part drains ++ map Written writes) number)
behind_tables true writes now number due slots taken stages arrives = (
  record { taken = taken; stage = stages 0 },
  slots_keep writes (traced_on now Drain) number slots taken stages (λ gives. refl) (record { done = arrives.done; ended = arrives.ended; alone = arrives.alone }),
)
behind_tables false writes now number due slots taken stages arrives = slots_keep writes now number slots taken stages (λ gives. absurd (let bad : true ≡ false = sym gives ∙ due in cc)) arrives

-- words of tables, and then the rest
all_keep : (drains : Bool) (tables writes : List Write) (now : Tracing) (number : ℕ) → gives_bit now.mode now.bits now.rules now.batch ≡ drains → AreToTables tables → AreToSlots writes
    → now.moved ≡ false → verdict now.slots now.mode now.rules now.batch ≡ Accepted → PassesFrom now (tables ++ writes) → ArrivesIn now (state_after now.state (tables ++ writes))
    → AllKeepOrder now (commit_lines (map Written tables ++ (drain_part drains ++ map Written writes)) number)
all_keep drains [] writes now number due words slots moved taken stages arrives = behind_tables drains writes now number due slots taken stages arrives
all_keep drains (write.Table field port word ∷ tables) writes now number due words slots moved taken stages arrives = (
  (record { taken = taken; stage = stages 1 }, moved),
  all_keep drains tables writes (traced_on now (Table field port word)) number due words.1 slots moved taken (λ n. stages (suc n)) (record { done = arrives.done; ended = arrives.ended; alone = arrives.alone }),
)
all_keep drains (write.Slot at entry ∷ tables) writes now number due words slots moved taken stages arrives = absurd (let bad : false ≡ true = words.0 in cc)

-- first parts of two lists
take_first : (tables writes : List Write) → take (length tables) (tables ++ writes) ≡ tables
take_first [] writes = refl
take_first (one ∷ tables) writes = ap (λ rest. one ∷ rest) (take_first tables writes)

drop_first : (tables writes : List Write) → drop (length tables) (tables ++ writes) ≡ writes
drop_first [] writes = refl
drop_first (one ∷ tables) writes = drop_first tables writes

actions_are : (drains : Bool) (tables writes made : List Write) → made ≡ tables ++ writes → table_writes made ≡ length tables
    → with_drain drains made ≡ map Written tables ++ (drain_part drains ++ map Written writes)
actions_are false tables writes made parts count = ap (map Written) parts ∙ map-append Written tables writes
actions_are true tables writes made parts count =
    let front : take (table_writes made) made ≡ tables = ap₂ (λ n ws. take n ws) count parts ∙ take_first tables writes in
    let back : drop (table_writes made) made ≡ writes = ap₂ (λ n ws. drop n ws) count parts ∙ drop_first tables writes in
    ap₂ (λ a b. map Written a ++ Drained ∷ map Written b) front back

pub segments_keep : SegmentsAreOrderly
segments_keep now number made begins segment in_use =
    let cut : IsCutAtSlots (fresh_writes now.mode now.bits now.rules now.batch now.state) made = cut_at_slots now.mode now.bits now.rules now.batch now.state made segment.shape in
    let tables = fresh_writes now.mode now.bits now.rules now.batch now.state in
    let drains = gives_bit now.mode now.bits now.rules now.batch in
    let stages = segments_pass now.slots now.mode now.bits now.rules now.batch now.state made begins.may segment begins.unused in_use in
    let end = segment_ended now.slots now.mode now.bits now.rules now.batch now.state made begins.may segment begins.unused in_use in
    let alone = segment_alone now.slots now.mode now.bits now.rules now.batch now.state made begins.may segment begins.unused in_use in
    let arrives : ArrivesIn now (state_after now.state made) = record { done = end.0; ended = end.1; alone = alone } in
    subst (λ actions. AllKeepOrder now (commit_lines actions number)) (sym (actions_are drains tables cut.rest made cut.parts cut.count))
    (all_keep drains tables cut.rest now number refl (bit_writes-tables now.state (new_bits now.bits (bits_with now.mode now.rules now.batch now.bits))) cut.slots begins.moved begins.taken
    (subst (PassesFrom now) cut.parts stages) (subst (λ ws. ArrivesIn now (state_after now.state ws)) cut.parts arrives))
