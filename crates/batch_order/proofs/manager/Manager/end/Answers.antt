use Rattle.std.proofs.Common.{◌≡◌, ℕ, false, List, [], ◌∷◌, Option, Some, None, sym, ap, ◌∙◌}
use Rattle.tcam_device.specs.declared.Action.{Action}
use Rattle.tcam_device.specs.declared.Action.TheVariants.{Written, Drained}
use Rattle.tcam_device.specs.Flight.{writes_in}
use Rattle.batch_order.specs.declared.Step.{Step}
use Rattle.batch_order.specs.Managed.{Managed, HeldCommit}
use Rattle.batch_order.specs.Steps.{Steps, StepsOn, actions_of, awaits_drain, due_write, is_drain_next, next_of}
use Rattle.batch_order.proofs.under_way.Left.{none_left}
use Rattle.batch_order.proofs.under_way.Stepped.{left_state, no_actions}
use Rattle.batch_order.proofs.Made.{nothing_made}
use Rattle.batch_order.proofs.manager.Manager.end.Given.{Over}
use Rattle.batch_order.proofs.manager.Manager.end.Goals as goal

-- a step that makes no action leaves the state
pub record MakesNone (old new : Managed) (made : Step) : Type 0 where
  pub state : new.state ≡ old.state
  pub actions : actions_of made ≡ []

-- where neither a write nor the drain is next, none is made
ends : (old new : Managed) (words : ℕ) (held : Option HeldCommit) (made : Step) → next_of held ≡ None → awaits_drain held ≡ false → Steps old words held made new → MakesNone old new made
ends old new words None made next drain steps = record { state = ap (λ (m : Managed). m.state) steps.1; actions = ap actions_of steps.0 }
ends old new words (Some held) made next drain steps = go held.actions next drain steps
  where
    go : (actions : List Action) → due_write actions ≡ None → is_drain_next actions ≡ false → StepsOn old held words actions made new → MakesNone old new made
    go [] due none did = record {
      state = ap (λ (m : Managed). m.state) did.1 ∙ left_state old held held.way;
      actions = ap actions_of did.0 ∙ no_actions held.way held;
    }
    go (Written write ∷ actions) due none did = absurd (cc)
    go (Drained ∷ actions) due none did = absurd (cc)

pub finish-requires : goal.finish-requires
finish-requires g c =
    let not : awaits_drain c.args.self.now.held ≡ false = sym c.drains_next.ensures ∙ c.if-not-drains_next.true in
    none_left c.args.self.now.held c.requires.next not

-- what the end makes
ended : (g : Over) (c : goal.After-finish g) → MakesNone c.args.self.now c.finish.new.self c.finish.result
ended g c =
    let not : awaits_drain c.args.self.now.held ≡ false = sym c.drains_next.ensures ∙ c.if-not-drains_next.true in
    ends c.args.self.now c.finish.new.self 0 c.args.self.now.held c.finish.result c.requires.next not (c.finish.ensures 0)

pub returns-then-not-drains_next-clause-state : goal.returns-then-not-drains_next-clause-state
returns-then-not-drains_next-clause-state g c = (ended g c).state

pub returns-then-not-drains_next-clause-wrote : goal.returns-then-not-drains_next-clause-wrote
returns-then-not-drains_next-clause-wrote g c = ap writes_in (ended g c).actions

pub returns-then-not-drains_next-clause-made : goal.returns-then-not-drains_next-clause-made
returns-then-not-drains_next-clause-made g c = rw (ended g c).actions (nothing_made (g.D.Writable.view c.args.device.now))
