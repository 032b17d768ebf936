-- What the slots and tables in memory keep.
use Rattle.std.proofs.Common.{◌≡◌, ℕ, min, List, [], ◌∷◌, ◌++◌, length, replicate, Option, None, ap, sym, ◌∙◌, arith}
use Rattle.std.proofs.lemmas.List.{length-replicate}
use Rattle.rule_model.specs.declared.words.Entry.{Entry}
use Rattle.tcam_device.specs.declared.Write.{Write}
use Rattle.tcam_device.specs.State.{State, apply, blank, blank_table, replay}
use Rattle.tcam_device.specs.declared.Action.{Action}
use Rattle.tcam_device.specs.declared.Action.TheVariants.{Written, Drained}
use Rattle.tcam_device.specs.Flight.{writes_in}
use Rattle.tcam_device.proofs.Kept.{slots-apply}
use Rattle.tcam_device.proofs.Spans.{state_after-append}
use Rattle.tcam_device.proofs.Flights.{writes_in-written, writes_in-drained}
use Rattle.memory_tcam.specs.Tcam.{Follows, RoomyState}

-- a state by its parts
pub state-is : (slots slots' : List (Option Entry)) (src dst src' dst' : List ℕ) → slots ≡ slots' → src ≡ src' → dst ≡ dst'
    → ◌≡◌ {A = State} (record { slots = slots; src = src; dst = dst }) (record { slots = slots'; src = src'; dst = dst' })
state-is slots slots' src dst src' dst' e s d =
    ap (λ x. record { slots = x; src = src; dst = dst }) e ∙ ap (λ x. record { slots = slots'; src = x; dst = dst }) s ∙ ap (λ x. record { slots = slots'; src = src'; dst = x }) d

-- a memory by its state and the room that both tables have
pub roomy-is : (state state' : State) (spare spare' : ℕ) → state ≡ state' → spare ≡ spare'
    → ◌≡◌ {A = RoomyState} (record { state = state; spare = spare }) (record { state = state'; spare = spare' })
roomy-is state state' spare spare' s n =
    ap (λ x. let made : RoomyState = record { state = x; spare = spare } in made) s ∙ ap (λ x. let made : RoomyState = record { state = state'; spare = x } in made) n

-- empty slots and blank tables without room are a blank memory
pub blank-is : (n : ℕ) (slots : List (Option Entry)) (src dst : List ℕ) (src_room dst_room : ℕ) → slots ≡ replicate n None → src ≡ blank_table → dst ≡ blank_table → src_room ≡ 0 → dst_room ≡ 0
    → ◌≡◌ {A = RoomyState} (record { state = record { slots = slots; src = src; dst = dst }; spare = min src_room dst_room }) (record { state = blank n; spare = 0 })
blank-is n slots src dst src_room dst_room e s d no_src no_dst =
    roomy-is (record { slots = slots; src = src; dst = dst }) (blank n) (min src_room dst_room) 0 (state-is slots (replicate n None) src dst blank_table blank_table e s d) (omega arith)

-- a write that is made of the memory follows one more of the events
pub follows-written : (memory next : State) (events : List Action) (write : Write) → Follows memory events → next ≡ apply memory write
    → Follows next (events ++ Written write ∷ [])
follows-written memory next events write kept now =
    let size : length next.slots ≡ length memory.slots = ap (λ s. length s.slots) now ∙ slots-apply memory write in
    now ∙ ap (λ s. apply s write) kept ∙ sym (state_after-append (blank (length memory.slots)) (writes_in events) (write ∷ []))
    ∙ ap (replay (length memory.slots)) (sym (writes_in-written events write))
    ∙ ap (λ n. replay n (writes_in (events ++ Written write ∷ []))) (sym size)

-- a drain changes no memory
pub follows-drained : (memory : State) (events : List Action) → Follows memory events → Follows memory (events ++ Drained ∷ [])
follows-drained memory events kept = kept ∙ ap (replay (length memory.slots)) (sym (writes_in-drained events))

-- a blank memory has no event behind it
pub follows-blank : (n : ℕ) (memory : State) → memory ≡ blank n → Follows memory []
follows-blank n memory is = is ∙ ap blank (sym (ap (λ s. length s.slots) is ∙ length-replicate n None))
