use Rattle.std.proofs.Common.{◌≡◌, List, Ok, Option, Some, None, refl, sym, ap, subst, ◌∙◌}
use Rattle.rule_store.specs.declared.Command.{Command}
use Rattle.commit_writes.specs.Bits.{FieldBits}
use Rattle.commit_writes.specs.InFlight.{ArePartOf}
use Rattle.commit_writes.specs.declared.Done.{Done}
use Rattle.batch_order.specs.Managed.{HeldCommit, Holds, Judges, Managed, live_now}
use Rattle.tcam_c.proofs.steps.prepare.Goals as goal

-- words that were current are so where a batch was taken
taken_live : (old planned : Managed) (batch : List Command) (counts : Done) → Judges old old.held batch (Ok counts) → Holds old batch counts planned
    → live_now planned ≡ live_now old
taken_live old planned batch counts judged holds = ap live_now holds.new_is ∙ go old.held judged
  where
    go : (held : Option HeldCommit) → Judges old held batch (Ok counts) → old.bits ≡ elim held [ None ↦ old.bits | Some one ↦ one.current ]
    go None idle = refl
    go (Some one) busy = absurd (cc)

pub returns-in-Ok-clause-keeps : goal.returns-in-Ok-clause-keeps
returns-in-Ok-clause-keeps c =
    let did = c.in-Ok.ensures in
    let live = taken_live c.args.manager.now c.prepare.new.self c.args.batch.now c.in-Ok.counts did.judged did.ready in
    subst (λ (bits : FieldBits). ArePartOf (live_now c.settle.new.manager) bits) live c.settle.ensures.keeps

pub settle-requires-clause-slots : goal.settle-requires-clause-slots
settle-requires-clause-slots c =
    let did = c.prepare.ensures in
    did.others.slots ∙ c.requires.driven.same_slots ∙ sym did.leaves.slots

-- a refusal changes nothing, and the room may have grown
pub returns-in-Err-clause-driven : goal.returns-in-Err-clause-driven
returns-in-Err-clause-driven c =
    let did = c.prepare.ensures in
    let leaves = did.leaves in
    let same = c.in-Err.ensures.refused in
    record {
      same_slots = did.others.slots ∙ c.requires.driven.same_slots ∙ sym leaves.slots;
      on = rw (same, did.others.events) c.requires.driven.on;
      room = leaves.both_ways c.requires.driven.room;
      still = did.others.flight ∙ c.requires.driven.still;
      due = rw same c.requires.driven.due;
    }
