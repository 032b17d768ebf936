-- What an act comes to, of each table: its effects are looked into here alone.
use Rattle.std.proofs.Common.{◌≡◌, ◌⊎◌, inl, inr, ℕ, Bool, true, false, ◌&&◌, List, [], ◌∷◌, ◌++◌, refl, sym, ap, ap₂, subst, ◌∙◌, append-nil}
use Rattle.rule_model.specs.declared.IpVersion.{IpVersion}
use Rattle.rule_store.specs.Verdict.{Verdict, Accepted, Unsound, OutOfBits, OutOfSlots}
use Rattle.split_device.specs.declared.SplitAction.{SplitAction}
use Rattle.router.specs.declared.Side.{Side}
use Rattle.router.specs.declared.Side.TheVariants as side
use Rattle.router.specs.declared.RouterAct.TheVariants.{Change, Packet, Commit}
use Rattle.router.specs.declared.RouterAct.{RouterAct}
use Rattle.router.specs.Text.{parts_behind}
use Rattle.router.specs.Run.{Commits, DeviceSlots, Effect, HasEffects, Judged, JudgedByRoutes, Makes, Prints, Progress, Refuses, Setting, made_line, made_of_list, made_of_routes, told_parts}
use Rattle.router.proofs.Effects.{list_of_list, list_of_routes, routes_of_list, routes_of_routes}
use Rattle.router_runs.proofs.Kind.{list-append, routes-append}
use Rattle.router_runs.specs.RuleLists.{RuleLists, both_accept, is_accepted, rule_list, rule_lists, verdict_on}

-- the rule lists where a run stands
abbrev pub lists_at : Progress → RuleLists
lists_at progress = rule_lists (rule_list progress.listed.rules progress.listed.batch) (rule_list progress.routed.rules progress.routed.batch)

-- a commit is made where neither table refuses, and else refused
abbrev pub IsMade : Setting → DeviceSlots → Progress → List Effect → Progress → Type 0
IsMade setting slots old effects new = (both_accept setting (lists_at old) ≡ true) × Commits setting slots old effects new

abbrev pub IsRefused : Setting → Progress → List Effect → Progress → Type 0
IsRefused setting old effects new =
    (both_accept setting (lists_at old) ≡ false) × ((which : Side) × (reason : Verdict) × Refuses setting which old reason effects new)

by-both : (setting : Setting) (old : Progress) (one two : Verdict) → verdict_on setting (lists_at old).listed ≡ one → verdict_on setting (lists_at old).routed ≡ two
    → both_accept setting (lists_at old) ≡ (is_accepted one && is_accepted two)
by-both setting old one two is also = ap₂ (λ (a b : Verdict). is_accepted a && is_accepted b) is also

by-list : (setting : Setting) (old : Progress) (one : Verdict) → verdict_on setting (lists_at old).listed ≡ one → is_accepted one ≡ false → both_accept setting (lists_at old) ≡ false
by-list setting old one is not =
    ap (λ (a : Verdict). is_accepted a && is_accepted (verdict_on setting (lists_at old).routed)) is
    ∙ ap (λ (a : Bool). a && is_accepted (verdict_on setting (lists_at old).routed)) not

module _ (setting : Setting) (slots : DeviceSlots) (old : Progress) (effects : List Effect) (new : Progress) where
  by-routes : (two : Verdict) → verdict_on setting (lists_at old).listed ≡ Accepted → verdict_on setting (lists_at old).routed ≡ two → JudgedByRoutes setting slots old two effects new
      → IsMade setting slots old effects new ⊎ IsRefused setting old effects new
  by-routes Accepted is also step = inl (by-both setting old Accepted Accepted is also, step)
  by-routes (Unsound fault) is also step = inr (by-both setting old Accepted (Unsound fault) is also, (side.Routes, Unsound fault, step))
  by-routes (OutOfBits field need free) is also step = inr (by-both setting old Accepted (OutOfBits field need free) is also, (side.Routes, OutOfBits field need free, step))
  by-routes (OutOfSlots need free) is also step = inr (by-both setting old Accepted (OutOfSlots need free) is also, (side.Routes, OutOfSlots need free, step))

  judged : (one : Verdict) → verdict_on setting (lists_at old).listed ≡ one → Judged setting slots old one effects new
      → IsMade setting slots old effects new ⊎ IsRefused setting old effects new
  judged Accepted is step = by-routes (verdict_on setting (lists_at old).routed) is refl step
  judged (Unsound fault) is step = inr (by-list setting old (Unsound fault) is refl, (side.List, Unsound fault, step))
  judged (OutOfBits field need free) is step = inr (by-list setting old (OutOfBits field need free) is refl, (side.List, OutOfBits field need free, step))
  judged (OutOfSlots need free) is step = inr (by-list setting old (OutOfSlots need free) is refl, (side.List, OutOfSlots need free, step))

  pub made-or-refused : HasEffects setting slots old Commit effects new → IsMade setting slots old effects new ⊎ IsRefused setting old effects new
  made-or-refused step = judged (verdict_on setting (lists_at old).listed) refl step

-- what a commit makes of each table's device
pub list-of-commit : (setting : Setting) (slots : DeviceSlots) (old : Progress) (effects : List Effect) (new : Progress) (commits : Commits setting slots old effects new) → made_of_list effects ≡ commits.listed
list-of-commit setting slots old effects new commits =
    let tail : List Effect = Prints (made_line old commits.listed commits.routed) ∷ [] in
    ap made_of_list commits.effects_are
    ∙ list_of_list setting.trace setting.version 0 commits.listed (told_parts setting.trace setting.version side.Routes 0 commits.routed ++ tail)
    ∙ ap (λ (made : List SplitAction). commits.listed ++ made) (list_of_routes setting.trace setting.version 0 commits.routed tail) ∙ append-nil commits.listed

pub routes-of-commit : (setting : Setting) (slots : DeviceSlots) (old : Progress) (effects : List Effect) (new : Progress) (commits : Commits setting slots old effects new) → made_of_routes effects ≡ commits.routed
routes-of-commit setting slots old effects new commits =
    let tail : List Effect = Prints (made_line old commits.listed commits.routed) ∷ [] in
    ap made_of_routes commits.effects_are
    ∙ routes_of_list setting.trace setting.version 0 commits.listed (told_parts setting.trace setting.version side.Routes 0 commits.routed ++ tail)
    ∙ routes_of_routes setting.trace setting.version 0 commits.routed tail ∙ append-nil commits.routed

-- ---- an act that is cut before an effect that is due

not-none : (front : List Effect) (effect : Effect) (back : List Effect) → front ++ effect ∷ back ≡ [] → ⊥
not-none [] effect back is = cc
not-none (first ∷ front) effect back is = cc

none-before : (one due : Effect) (front back : List Effect) → front ++ due ∷ back ≡ one ∷ [] → front ≡ []
none-before one due [] back is = refl
none-before one due (effect ∷ front) back is = let none : front ++ due ∷ back ≡ [] = cc in absurd (not-none front due back none)

-- an effect among those of two lists is in the first, or in the second
among-both : (front : List Effect) (due : Effect) (back first second : List Effect) → front ++ due ∷ back ≡ first ++ second
    → ((rest : List Effect) × (first ≡ front ++ due ∷ rest)) ⊎ ((more : List Effect) × (more ++ due ∷ back ≡ second))
among-both front due back [] second is = inr (front, is)
among-both [] due back (one ∷ first) second is =
    let both : due ∷ back ≡ one ∷ (first ++ second) = is in
    let same : due ≡ one = cc in
    inl (first, ap (λ (effect : Effect). effect ∷ first) (sym same))
among-both (effect ∷ front) due back (one ∷ first) second is =
    let both : effect ∷ (front ++ due ∷ back) ≡ one ∷ (first ++ second) = is in
    let same : effect ≡ one = cc in
    let less : front ++ due ∷ back ≡ first ++ second = cc in
    elim (among-both front due back first second less) [
      | inl within ↦ inl (within.0, ap₂ (λ (a : Effect) (all : List Effect). a ∷ all) (sym same) within.1)
      | inr later ↦ inr later
    ]

first-none : (first second : List SplitAction) → first ++ second ≡ [] → first ≡ []
first-none [] second is = refl
first-none (action ∷ first) second is = absurd (let wrong : action ∷ (first ++ second) ≡ [] = is in cc)

second-none : (first second : List SplitAction) → first ++ second ≡ [] → second ≡ []
second-none [] second is = is
second-none (action ∷ first) second is = absurd (let wrong : action ∷ (first ++ second) ≡ [] = is in cc)

-- A commit that is cut at this table: of the other one nothing was made yet, or all.
abbrev pub IsCutAtTable : Side → List Effect → List Effect → Type 0
IsCutAtTable side.List front whole = made_of_routes front ≡ []
IsCutAtTable side.Routes front whole = made_of_list front ≡ made_of_list whole

cut-of-commit : (trace : Bool) (version : IpVersion) (listed routed : List SplitAction) (line : List ℕ) (front : List Effect) (due : Effect) (back : List Effect)
    → front ++ due ∷ back ≡ told_parts trace version side.List 0 listed ++ (told_parts trace version side.Routes 0 routed ++ Prints line ∷ [])
    → (cut : Side) × IsCutAtTable cut front (front ++ due ∷ back)
cut-of-commit trace version listed routed line front due back is =
    let first : List Effect = told_parts trace version side.List 0 listed in
    let second : List Effect = told_parts trace version side.Routes 0 routed ++ Prints line ∷ [] in
    elim (among-both front due back first second is) [
      | inl within ↦
          let none : made_of_routes first ≡ [] = ap made_of_routes (sym (append-nil first)) ∙ routes_of_list trace version 0 listed [] in
          (side.List, first-none (made_of_routes front) (made_of_routes (due ∷ within.0)) (sym (routes-append front (due ∷ within.0)) ∙ ap made_of_routes (sym within.1) ∙ none))
      | inr later ↦
          let none : made_of_list second ≡ [] = list_of_routes trace version 0 routed (Prints line ∷ []) in
          let rest : made_of_list (due ∷ back) ≡ [] =
          second-none (made_of_list later.0) (made_of_list (due ∷ back)) (sym (list-append later.0 (due ∷ back)) ∙ ap made_of_list later.1 ∙ none) in (
            side.Routes,
            sym (list-append front (due ∷ back) ∙ ap (λ (made : List SplitAction). made_of_list front ++ made) rest ∙ append-nil (made_of_list front)),
          )
    ]

pub cut-at-table : (setting : Setting) (slots : DeviceSlots) (old : Progress) (act : RouterAct) (front : List Effect) (due : Effect) (back : List Effect) (new : Progress)
    → HasEffects setting slots old act (front ++ due ∷ back) new → (cut : Side) × IsCutAtTable cut front (front ++ due ∷ back)
cut-at-table setting slots old (Change which command) front due back new step = absurd (not-none front due back step.0)
cut-at-table setting slots old (Packet key) front due back new step = (side.List, ap made_of_routes (none-before _ due front back step.0))
cut-at-table setting slots old Commit front due back new step = elim (made-or-refused setting slots old (front ++ due ∷ back) new step) [
  | inl made ↦ cut-of-commit setting.trace setting.version made.1.listed made.1.routed (made_line old made.1.listed made.1.routed) front due back made.1.effects_are
  | inr refused ↦ (side.List, ap made_of_routes (none-before _ due front back refused.1.2.0))
]

-- ---- without a trace a line is the last effect of its act

one-line : (text line : List ℕ) (front back : List Effect) → front ++ Prints line ∷ back ≡ Prints text ∷ [] → back ≡ []
one-line text line [] back is = cc
one-line text line (effect ∷ front) back is = let none : front ++ Prints line ∷ back ≡ [] = cc in absurd (not-none front (Prints line) back none)

behind-parts : (which : Side) (version : IpVersion) (parts : ℕ) (made : List SplitAction) (rest : List Effect) (line : List ℕ) (front back : List Effect)
    → ((few : List Effect) → few ++ Prints line ∷ back ≡ rest → back ≡ []) → front ++ Prints line ∷ back ≡ told_parts false version which parts made ++ rest → back ≡ []
behind-parts which version parts [] rest line front back more is = more front is
behind-parts which version parts (action ∷ made) rest line [] back more is =
    absurd (let wrong : Prints line ∷ back ≡ Makes which action ∷ (told_parts false version which (parts_behind parts action) made ++ rest) = is in cc)
behind-parts which version parts (action ∷ made) rest line (effect ∷ front) back more is =
    let same : effect ∷ (front ++ Prints line ∷ back) ≡ Makes which action ∷ (told_parts false version which (parts_behind parts action) made ++ rest) = is in
    let less : front ++ Prints line ∷ back ≡ told_parts false version which (parts_behind parts action) made ++ rest = cc in
    behind-parts which version (parts_behind parts action) made rest line front back more less

pub line-is-last : (setting : Setting) (slots : DeviceSlots) (old : Progress) (act : RouterAct) (front back : List Effect) (line : List ℕ) (new : Progress)
    → setting.trace ≡ false → HasEffects setting slots old act (front ++ Prints line ∷ back) new → back ≡ []
line-is-last setting slots old (Change which command) front back line new quiet step = absurd (not-none front (Prints line) back step.0)
line-is-last setting slots old (Packet key) front back line new quiet step = one-line _ line front back step.0
line-is-last setting slots old Commit front back line new quiet step = elim (made-or-refused setting slots old (front ++ Prints line ∷ back) new step) [
  | inl made ↦
      let listed : List SplitAction = made.1.listed in
      let routed : List SplitAction = made.1.routed in
      let tail : List Effect = Prints (made_line old listed routed) ∷ [] in
      behind-parts side.List setting.version 0 listed (told_parts false setting.version side.Routes 0 routed ++ tail) line front back
      (λ few is. behind-parts side.Routes setting.version 0 routed tail line few back (λ less also. one-line (made_line old listed routed) line less back also) is)
      (subst (λ (trace : Bool). front ++ Prints line ∷ back ≡ told_parts trace setting.version side.List 0 listed ++ (told_parts trace setting.version side.Routes 0 routed ++ tail)) quiet made.1.effects_are)
  | inr refused ↦ one-line _ line front back refused.1.2.0
]
