-- The status that the rule lists decide is the one that a run comes to.
use Rattle.std.proofs.Common.{◌≡◌, inl, inr, Bool, true, false, ◌||◌, List, [], ◌∷◌, refl, sym, ap, subst, ◌∙◌}
use Rattle.script_runs.specs.declared.Status.{Status}
use Rattle.script_runs.specs.Script.{Reading, Script, acts_of}
use Rattle.script_runs.specs.Runs.{Run}
use Rattle.script_runs.specs.Outcomes.{IsComplete, status_at}
use Rattle.router.specs.declared.Side.TheVariants as side
use Rattle.router.specs.declared.RouterAct.{RouterAct}
use Rattle.router.specs.declared.RouterAct.TheVariants.{Change, Packet, Commit}
use Rattle.router.specs.Run.{DeviceSlots, Effect, HasEffects, Progress, Setting, start}
use Rattle.router_runs.specs.Runs.{router_kind}
use Rattle.router_runs.specs.RuleLists.{either_refuses, status_of_lists, lists_after}
use Rattle.router_runs.proofs.Effects.{lists_at, made-or-refused}

-- once refused, always refused; and else as the lists say
abbrev Agrees : Setting → Progress → List RouterAct → Progress → Type 0
Agrees setting old acts new = new.refused ≡ (old.refused || either_refuses setting (lists_at old) acts)

or-true : (b : Bool) → (b || true) ≡ true
or-true true = refl
or-true false = refl

or-false : (b : Bool) → (b || false) ≡ b
or-false true = refl
or-false false = refl

-- by whether both tables take a commit
abbrev after-commit : Setting → Progress → List RouterAct → Bool → Bool
after-commit setting old acts taken = elim taken [ true ↦ either_refuses setting (lists_after (lists_at old)) acts | false ↦ true ]

agrees : (setting : Setting) (slots : DeviceSlots) (old : Progress) (acts : List RouterAct) (effects : List Effect) (new : Progress) → Run (HasEffects setting slots) old acts effects new → Agrees setting old acts new
agrees setting slots old [] effects new run = ap (λ (p : Progress). p.refused) run.1 ∙ sym (or-false old.refused)
agrees setting slots old (Change side.List command ∷ acts) effects new (front, mid, back, step, rest, whole) =
    let P : Progress → Type 0 = λ m. Agrees setting m acts new in subst P step.1 (agrees setting slots mid acts back new rest)
agrees setting slots old (Change side.Routes command ∷ acts) effects new (front, mid, back, step, rest, whole) =
    let P : Progress → Type 0 = λ m. Agrees setting m acts new in subst P step.1 (agrees setting slots mid acts back new rest)
agrees setting slots old (Packet key ∷ acts) effects new (front, mid, back, step, rest, whole) =
    let P : Progress → Type 0 = λ m. Agrees setting m acts new in subst P step.1 (agrees setting slots mid acts back new rest)
agrees setting slots old (Commit ∷ acts) effects new (front, mid, back, step, rest, whole) =
    let P : Progress → Type 0 = λ m. Agrees setting m acts new in
    let more = agrees setting slots mid acts back new rest in
    elim (made-or-refused setting slots old front mid step) [
      | inl made ↦ subst P made.1.after more ∙ ap (λ (taken : Bool). old.refused || after-commit setting old acts taken) (sym made.0)
      | inr refused ↦ subst P refused.1.2.1 more ∙ sym (or-true old.refused) ∙ ap (λ (taken : Bool). old.refused || after-commit setting old acts taken) (sym refused.0)
    ]

pub complete-decided : (reading : Reading RouterAct) (setting : Setting) (slots : DeviceSlots) (script : Script RouterAct) (status : Status) (effects : List Effect)
    → IsComplete (router_kind reading setting slots) script status effects → status_of_lists setting script ≡ status
complete-decided reading setting slots script status effects whole =
    sym (whole.status_is ∙ ap (λ (refused : Bool). status_at refused script.last) (agrees setting slots start (acts_of script) whole.body whole.last whole.run))
