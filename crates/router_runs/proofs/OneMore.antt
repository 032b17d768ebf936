-- One act more: what is pending then, and where the run stands.
use Rattle.std.proofs.Common.{◌≡◌, inl, inr, ℕ, List, [], ◌∷◌, length, ap, ◌∙◌, length-append}
use Rattle.router.specs.declared.Side.TheVariants as side
use Rattle.router.specs.declared.RouterAct.{RouterAct}
use Rattle.router.specs.declared.RouterAct.TheVariants.{Change, Packet, Commit}
use Rattle.router.specs.Script.{Pending}
use Rattle.router.specs.Run.{DeviceSlots, Effect, HasEffects, Progress, Setting}
use Rattle.router_runs.specs.Scripts.{both_pending_after}
use Rattle.router_runs.specs.Runs.{pending_at}
use Rattle.router_runs.proofs.Effects.{made-or-refused}

pub step-pending : (setting : Setting) (slots : DeviceSlots) (old : Progress) (act : RouterAct) (effects : List Effect) (new : Progress) → HasEffects setting slots old act effects new
    → pending_at new ≡ both_pending_after act (pending_at old)
step-pending setting slots old (Change side.List command) effects new step =
    ap pending_at step.1 ∙ ap (λ (n : ℕ). let is : Pending = record { listed = n; routed = length old.routed.batch } in is) (length-append old.listed.batch (command ∷ []))
step-pending setting slots old (Change side.Routes command) effects new step =
    ap pending_at step.1 ∙ ap (λ (n : ℕ). let is : Pending = record { listed = length old.listed.batch; routed = n } in is) (length-append old.routed.batch (command ∷ []))
step-pending setting slots old (Packet key) effects new step = ap pending_at step.1
step-pending setting slots old Commit effects new step = elim (made-or-refused setting slots old effects new step) [
  | inl made ↦ ap pending_at made.1.after
  | inr refused ↦ ap pending_at refused.1.2.1
]
