-- The sets that a router's script leads a table through: the first of them, and those of some first acts.
use Rattle.std.proofs.Common.{◌≡◌, Bool, true, false, Some, List, [], ◌∷◌, ◌++◌, slice_get, refl, ap, subst}
use Rattle.rule_model.specs.declared.Rule.{Rule}
use Rattle.rule_store.specs.declared.Command.{Command}
use Rattle.router.specs.declared.Side.{Side}
use Rattle.router.specs.declared.Side.TheVariants as side
use Rattle.router.specs.declared.RouterAct.{RouterAct}
use Rattle.router.specs.declared.RouterAct.TheVariants.{Change, Packet, Commit}
use Rattle.router.specs.Run.{Setting}
use Rattle.router_runs.specs.RuleLists.{RuleLists, both_accept, lists_after, lists_dropped, lists_with, rules_of, table_sets_through}

-- neither a change nor a refused commit changes the rules
pub rules-with : (which one : Side) (command : Command) (lists : RuleLists) → rules_of which (lists_with one command lists) ≡ rules_of which lists
rules-with side.List side.List command lists = refl
rules-with side.List side.Routes command lists = refl
rules-with side.Routes side.List command lists = refl
rules-with side.Routes side.Routes command lists = refl

pub rules-dropped : (which : Side) (lists : RuleLists) → rules_of which (lists_dropped lists) ≡ rules_of which lists
rules-dropped side.List lists = refl
rules-dropped side.Routes lists = refl

-- the sets by whether both tables take a commit
abbrev pub sets_by : Side → Setting → RuleLists → List RouterAct → Bool → List (List Rule)
sets_by which setting lists acts taken =
    elim taken [
      | true ↦ rules_of which lists ∷ table_sets_through which setting (lists_after lists) acts
      | false ↦ table_sets_through which setting (lists_dropped lists) acts
    ]

-- the first set is the one before the acts
abbrev StartsAt : List Rule → List (List Rule) → Type 0
StartsAt rules sets = (behind : List (List Rule)) × (sets ≡ rules ∷ behind)

starts-by : (which : Side) (setting : Setting) (lists : RuleLists) (acts : List RouterAct) (taken : Bool)
    → StartsAt (rules_of which (lists_dropped lists)) (table_sets_through which setting (lists_dropped lists) acts) → StartsAt (rules_of which lists) (sets_by which setting lists acts taken)
starts-by which setting lists acts true more = (table_sets_through which setting (lists_after lists) acts, refl)
starts-by which setting lists acts false more =
    subst (λ (rules : List Rule). StartsAt rules (table_sets_through which setting (lists_dropped lists) acts)) (rules-dropped which lists) more

starts : (which : Side) (setting : Setting) (lists : RuleLists) (acts : List RouterAct) → StartsAt (rules_of which lists) (table_sets_through which setting lists acts)
starts which setting lists [] = ([], refl)
starts which setting lists (Change one command ∷ acts) =
    subst (λ (rules : List Rule). StartsAt rules (table_sets_through which setting (lists_with one command lists) acts)) (rules-with which one command lists)
    (starts which setting (lists_with one command lists) acts)
starts which setting lists (Packet key ∷ acts) = starts which setting lists acts
starts which setting lists (Commit ∷ acts) = starts-by which setting lists acts (both_accept setting lists) (starts which setting (lists_dropped lists) acts)

pub first-set : (which : Side) (setting : Setting) (lists : RuleLists) (acts : List RouterAct) → slice_get (table_sets_through which setting lists acts) 0 ≡ Some (rules_of which lists)
first-set which setting lists acts = ap (λ (sets : List (List Rule)). slice_get sets 0) (starts which setting lists acts).1

-- the sets of some first acts are the first sets
abbrev Continues : List (List Rule) → List (List Rule) → Type 0
Continues sets all = (behind : List (List Rule)) × (all ≡ sets ++ behind)

more-by : (which : Side) (setting : Setting) (lists : RuleLists) (acts later : List RouterAct) (taken : Bool)
    → Continues (table_sets_through which setting (lists_after lists) acts) (table_sets_through which setting (lists_after lists) (acts ++ later))
    → Continues (table_sets_through which setting (lists_dropped lists) acts) (table_sets_through which setting (lists_dropped lists) (acts ++ later))
    → Continues (sets_by which setting lists acts taken) (sets_by which setting lists (acts ++ later) taken)
more-by which setting lists acts later true new old = (new.0, ap (λ (sets : List (List Rule)). rules_of which lists ∷ sets) new.1)
more-by which setting lists acts later false new old = old

pub more-sets : (which : Side) (setting : Setting) (lists : RuleLists) (acts later : List RouterAct)
    → (behind : List (List Rule)) × (table_sets_through which setting lists (acts ++ later) ≡ table_sets_through which setting lists acts ++ behind)
more-sets which setting lists [] later = starts which setting lists later
more-sets which setting lists (Change one command ∷ acts) later = more-sets which setting (lists_with one command lists) acts later
more-sets which setting lists (Packet key ∷ acts) later = more-sets which setting lists acts later
more-sets which setting lists (Commit ∷ acts) later =
    more-by which setting lists acts later (both_accept setting lists) (more-sets which setting (lists_after lists) acts later) (more-sets which setting (lists_dropped lists) acts later)
