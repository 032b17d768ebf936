-- What the next write does is told of the write that is made.
use Rattle.std.proofs.Common.{◌≡◌, ℕ, suc, Bool, true, false, Option, Some, None, List, refl, sym, ap, ◌∙◌}
use Rattle.tcam_device.specs.declared.Write.{Write}
use Rattle.tcam_device.specs.declared.Action.{Action}
use Rattle.tcam_device.specs.Flight.{writes_in}
use Rattle.tcam_device.specs.State.{State, replay}
use Rattle.batch_order.specs.declared.Step.{Step}
use Rattle.batch_order.specs.declared.Step.TheVariants as step
use Rattle.batch_order.specs.Managed.{HeldCommit, Managed, Way}
use Rattle.batch_order.specs.Managed.Way.{On, Back}
use Rattle.batch_order.specs.Steps.{Steps, due_write, end_answer, next_of}
use Rattle.batch_order.proofs.under_way.Stepped.{HasStepped, End, Wrote, Drain, Wait, stepped}
use Rattle.report_lines.specs.declared.deed.Deed.{Deed}
use Rattle.report_lines.specs.Named.{deed_of}
use Rattle.replay.specs.Effects.{deed_told}
use Rattle.replay.specs.Naming.{next_deed}

-- where names aren't wanted nothing is told,
pub deed-unnamed : (names : Bool) (state : State) (next : Option Write) → names ≡ false → next_deed names state next ≡ None
deed-unnamed names state None off = refl
deed-unnamed names state (Some write) off = ap (λ one. deed_told one state write) off

-- and else what the write does that is due
pub deed-named : (names : Bool) (state : State) (next : Option Write) (write : Write) → names ≡ true → next ≡ Some write → next_deed names state next ≡ Some (deed_of state.slots write)
deed-named names state next write on is = ap (next_deed names state) is ∙ ap (λ one. deed_told one state write) on

-- a step that wrote made the write that was due
wrote-next : (old : Managed) (words : ℕ) (held : Option HeldCommit) (made : Step) (new : Managed) (write : Write) → Steps old words held made new → made ≡ step.Wrote write → next_of held ≡ Some write
wrote-next old words None made new write steps wrote = absurd (let bad : step.Idle ≡ step.Wrote write = sym steps.0 ∙ wrote in cc)
wrote-next old words (Some held) made new write steps wrote = go (stepped old words held made new steps)
  where
    ended : (way : Way) → made ≡ end_answer way held.counts → next_of (Some held) ≡ Some write
    ended (On undo) did = absurd (let bad : step.Finished held.counts ≡ step.Wrote write = sym did ∙ wrote in cc)
    ended (Back undone) did = absurd (let bad : step.Reverted undone ≡ step.Wrote write = sym did ∙ wrote in cc)

    go : HasStepped old words held made new → next_of (Some held) ≡ Some write
    go (End actions did is) = ended held.way did
    go (Wrote one actions rest did is) =
        let both : step.Wrote one ≡ step.Wrote write = sym did ∙ wrote in
        let same : one ≡ write = cc in
        ap due_write rest ∙ ap Some same
    go (Drain actions rest did is) = absurd (let bad : step.Drained ≡ step.Wrote write = sym did ∙ wrote in cc)
    go (Wait actions more rest flying did is) = absurd (let bad : step.Waiting (suc more) ≡ step.Wrote write = sym did ∙ wrote in cc)

-- so what was read off a device before the step, which has so many slots, is told of that write
pub deed-made : (names : Bool) (slots slots_now : ℕ) (events : List Action) (old : Managed) (words : ℕ) (made : Step) (new : Managed) (write : Write) (deed : Option Deed)
    → deed ≡ next_deed names (replay slots_now (writes_in events)) (next_of old.held) → slots_now ≡ slots → Steps old words old.held made new → made ≡ step.Wrote write
    → deed ≡ deed_told names (replay slots (writes_in events)) write
deed-made names slots slots_now events old words made new write deed read same steps wrote =
    read ∙ ap (λ n. next_deed names (replay n (writes_in events)) (next_of old.held)) same
    ∙ ap (next_deed names (replay slots (writes_in events))) (wrote-next old words old.held made new write steps wrote)
