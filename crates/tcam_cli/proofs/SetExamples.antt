-- The sets of some scripts, and what the promise leaves no room for.
use Rattle.std.proofs.Common.{◌≡◌, false, inl, inr, ℕ, zero, suc, ◌≤◌, arith, Some, None, List, [], ◌∷◌, ◌++◌, length, map, take, refl, sym, subst}
use Rattle.std.specs.Prelude.{codes}
use Rattle.rule_model.specs.declared.Rule.{Rule}
use Rattle.rule_store.specs.declared.Mode.TheVariants.{Cover}
use Rattle.tcam_device.specs.declared.Write.{Write}
use Rattle.tcam_device.specs.State.{State, Shows, state_after}
use Rattle.tcam_device.specs.Hitless.{ShowsOldOrNew}
use Rattle.batch_order.specs.declared.Placement.TheVariants.{Middle}
use Rattle.report_lines.specs.declared.Family.TheVariants.{Route, Acl}
use Rattle.report_lines.specs.Sizes.{usual_sizes}
use Rattle.replay.specs.Script.{script_of}
use Rattle.tcam_cli.specs.Readings.{reading}
use Rattle.tcam_cli.specs.AllTheWay.{Led, Stands, TakenBack, rules_in, sets_of, ShowsSetOrNext, AnswersAllTheWay}

abbrev sets : ℕ → List ℕ → List (List Rule)
sets slots bytes = map rules_in (sets_of (record { slots = slots; mode = Cover; placement = Middle; family = Route; trace = false; depth = 0; json = false; names = false; parts = false; large = false }) [] (script_of usual_sizes (reading Route) bytes))

abbrev two_routes : List ℕ
two_routes = codes "route add 10.0.0.0/8 7" ++ 10 ∷ codes "route add 11.0.0.0/8 7" ++ 10 ∷ codes "commit" ++ 10 ∷ []

-- nothing is committed
idle : sets 8 (codes "route add 10.0.0.0/8 7") ≡ [] ∷ []
idle = refl

-- one set more for a commit that is accepted, and none for one that is refused
accepted : map length (sets 8 (two_routes ++ two_routes)) ≡ 0 ∷ 2 ∷ []
accepted = refl

-- a result is changed, a route goes, and one takes the place of another
changed : map (map (λ rule. rule.result)) (sets 8 (two_routes ++ codes "route set 11.0.0.0/8 9" ++ 10 ∷ codes "commit")) ≡ [] ∷ (7 ∷ 7 ∷ []) ∷ (9 ∷ 7 ∷ []) ∷ []
changed = refl

removed : map length (sets 8 (two_routes ++ codes "route del 10.0.0.0/8" ++ 10 ∷ codes "commit")) ≡ 0 ∷ 2 ∷ 1 ∷ []
removed = refl

replaced : map (map (λ rule. rule.result)) (sets 2 (two_routes ++ codes "route del 11.0.0.0/8" ++ 10 ∷ codes "route add 11.0.0.0/8 8" ++ 10 ∷ codes "commit")) ≡ [] ∷ (7 ∷ 7 ∷ []) ∷ (8 ∷ 7 ∷ []) ∷ []
replaced = refl

-- a full memory has no room for a route in place of another one
swapped : map length (sets 2 (two_routes ++ codes "route del 10.0.0.0/8" ++ 10 ∷ codes "route add 12.0.0.0/8 8" ++ 10 ∷ codes "commit")) ≡ 0 ∷ 2 ∷ []
swapped = refl

refused : sets 1 two_routes ≡ [] ∷ []
refused = refl

-- a line of an access list takes 900 entries at most
abbrev lists : ℕ → List ℕ → List (List Rule)
lists slots bytes = map rules_in (sets_of (record { slots = slots; mode = Cover; placement = Middle; family = Acl; trace = false; depth = 0; json = false; names = false; parts = false; large = false }) [] (script_of usual_sizes (reading Acl) bytes))

six : map length (lists 6 (codes "acl add 10 permit any any any any 1024-65535" ++ 10 ∷ codes "commit")) ≡ 0 ∷ 1 ∷ []
six = refl

too-many : lists 899 (codes "acl add 10 permit any any any 1-65534 1-65534" ++ 10 ∷ codes "commit") ≡ [] ∷ []
too-many = refl

-- with one set alone every key has its answer after each write
shows-one : (state : State) (rules : List Rule) (place : ℕ) → ShowsSetOrNext state (Stands rules ∷ []) place → Shows state rules
shows-one state rules (suc place) (old, new, here, next, shows) key valid = absurd (let none : None ≡ Some old = here in cc)
shows-one state rules zero (old, new, here, inl next, shows) key valid = absurd (let none : None ≡ Some new = next in cc)
shows-one state rules zero (old, new, here, inr same, shows) key valid =
    let first : rules ≡ old = cc in
    elim (subst (λ set. ShowsOldOrNew state set set) (sym first) (subst (λ set. ShowsOldOrNew state old set) same shows) key valid) [ inl is ↦ is | inr is ↦ is ]

one-set : (state : State) (rules : List Rule) (writes : List Write) → AnswersAllTheWay state (Stands rules ∷ []) writes → (n : ℕ) → Shows (state_after state (take n writes)) rules
one-set state rules writes is n = shows-one (state_after state (take n writes)) rules (is.place n) (is.answers n)

-- Two commits of one route each can't be made by one write that leads past the first: the set between them must be shown whole.
between : (state : State) (first second third : List Rule) (write : Write) → (is : AnswersAllTheWay state (Stands first ∷ Stands second ∷ Stands third ∷ []) (write ∷ [])) → is.place 0 ≡ 0 → 1 ≤ is.place 1
    → Shows (state_after state (write ∷ [])) second
between state first second third write is begins past = is.whole 0 1 second refl (past, λ m less. let none : m ≡ 0 = omega arith in subst (λ n. is.place n ≤ 0) (sym none) (let low = begins in omega arith))
