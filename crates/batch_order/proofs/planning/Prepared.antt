-- A plan before its first write: the room that it needs, and that the manager is as it was where it is dropped.
use Rattle.std.proofs.Common.{◌≡◌, ℕ, ◌+◌, ◌*◌, ◌^◌, ◌≤◌, Bool, true, false, List, length, Result, Ok, Err, Option, Some, None, inr, refl, sym, ap, subst, ◌∙◌, arith, le_refl}
use Rattle.std.specs.Prelude.{IfSome}
use Rattle.rule_store.specs.declared.Command.{Command}
use Rattle.tcam_device.specs.Flight.{writes_in}
use Rattle.commit_writes.specs.declared.Done.{Done}
use Rattle.commit_writes.specs.Actions.{have_bits, with_drain}
use Rattle.commit_writes.specs.Bits.{bits_with, new_bits}
use Rattle.commit_writes.specs.InFlight.{ArePartOf}
use Rattle.commit_writes.proofs.Led.{same_part}
use Rattle.readback.specs.declared.Rejection.{Rejection}
use Rattle.readback.specs.Judged.{judgement}
use Rattle.rule_store.specs.Verdict.{verdict}
use Rattle.batch_order.specs.declared.Refusal.TheVariants as refusal
use Rattle.batch_order.specs.Managed.{Managed, HeldCommit, Answers, Holds, Judges, commit_of, live_now, room_both_ways}
use Rattle.batch_order.specs.CarriedOut.{HasRoomBothWays}
use Rattle.batch_order.specs.Steps.{cancelled, is_unwritten}
use Rattle.batch_order.specs.Turning.{IsCurrentRight, IsHeldRight}
use Rattle.batch_order.proofs.under_way.Drains.{length_drain, writes_left_are}

-- a batch is taken only where no commit was under way,
idle_of : (old : Managed) (held : Option HeldCommit) (batch : List Command) (counts : Done) → Judges old held batch (Ok counts) → held ≡ None
idle_of old None batch counts judged = refl
idle_of old (Some held) batch counts judged = absurd (cc)

-- and by its verdict may want memory too
pub wants_memory : (old : Managed) (held : Option HeldCommit) (batch : List Command) (counts : Done) → Judges old held batch (Ok counts) → Judges old held batch (Err refusal.Memory)
wants_memory old (Some held) batch counts judged = absurd (cc)
wants_memory old None batch counts judged = by (judgement (verdict old.slots old.mode old.rules batch)) judged
  where
    by : (judged : Result (Unit {0}) Rejection) → Answers judged (Ok counts) → Answers judged (Err refusal.Memory)
    by (Ok done) answers = inr refl
    by (Err rejection) answers = absurd (cc)

module _ (old new : Managed) (batch : List Command) (counts : Done) (holds : Holds old batch counts new) where
  -- the numbers are those of its writes,
  number_is : counts.writes ≡ length holds.made
  number_is = (holds.numbers old.slots (le_refl old.slots)).writes

  pub counted_few : counts.writes ≤ 2 ^ 35
  counted_few = let few = holds.few in let number = number_is in omega arith

  abbrev plan : HeldCommit
  plan = commit_of old batch holds.made counts

  abbrev awaits : Bool
  awaits = have_bits (new_bits old.bits (bits_with old.mode old.rules batch old.bits))

  -- twice as many and a drain have room both ways,
  needed : length (with_drain awaits holds.made) ≤ length holds.made + 1
  needed = length_drain awaits holds.made

  both_ways : (spare : ℕ) → 2 * counts.writes + 1 ≤ spare → room_both_ways plan ≤ spare
  both_ways spare enough =
      let number = number_is in
      let actions = needed in
      let all : length (writes_in (with_drain awaits holds.made)) ≡ length holds.made = ap length (writes_left_are awaits holds.made) in
      let shape : room_both_ways plan ≡ length (with_drain awaits holds.made) + (length (writes_in (with_drain awaits holds.made)) + 0) = refl in
      omega arith

  pub reserved : (spare : ℕ) → 2 * counts.writes + 1 ≤ spare → HasRoomBothWays new.held spare
  reserved spare enough = subst (λ (m : Managed). HasRoomBothWays m.held spare) (sym holds.new_is) (both_ways spare enough)

  -- and it may be dropped: then all is as before
  pub unwritten : is_unwritten new.held ≡ true
  unwritten = ap (λ (m : Managed). is_unwritten m.held) holds.new_is

  pub dropped : Judges old old.held batch (Ok counts) → (last : Managed) (did : Bool) → did ≡ is_unwritten new.held → last ≡ cancelled did new → last ≡ old
  dropped judged last did is gone =
      let idle : old.held ≡ None = idle_of old old.held batch counts judged in
      let none : cancelled true new ≡ record old { held = None } = ap (cancelled true) holds.new_is in
      gone ∙ (ap (λ (b : Bool). cancelled b new) (is ∙ unwritten) ∙ (none ∙ ap (λ (h : Option HeldCommit). record old { held = h }) (sym idle)))

-- words in flight stay current where a plan is dropped
pub still_current : (old : Managed) (dropped : Bool) → IsHeldRight old → ArePartOf (live_now (cancelled dropped old)) (live_now old)
still_current old false right = same_part (live_now old)
still_current old true right = go old.held right
  where
    go : (held : Option HeldCommit) → IfSome held (λ one. IsCurrentRight old.bits one) → ArePartOf old.bits (elim held [ None ↦ old.bits | Some one ↦ one.current ])
    go None right = same_part old.bits
    go (Some one) right = right.least
