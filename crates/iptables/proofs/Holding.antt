-- Which packets tests hold.
use Rattle.std.proofs.Common.{◌≡◌, Bool, true, false, ◌&&◌, ◌||◌, cond, Option, Some, None, List, [], ◌∷◌, ◌++◌, refl, sym, ap, ◌∙◌}
use Rattle.rule_model.specs.declared.Key.{Key}
use Rattle.written_chains.specs.declared.meets.Tests.{Tests}
use Rattle.written_chains.specs.declared.writing.ChainRule.{ChainRule}
use Rattle.written_chains.specs.declared.writing.Target.TheVariants.{Decides, Jumps}
use Rattle.written_chains.specs.Laws.{ListsAnswerAsWalks}
use Rattle.written_chains.specs.Meets.{meet, tests_hold}
use Rattle.written_chains.specs.Walks.{or_else, or_policy}
use Rattle.written_chains.specs.Written.{under, within}
use Rattle.iptables.specs.Values.{met_each, met_tests, met_with}
use Rattle.iptables.specs.Laws.{any_holds}

-- ---- booleans

or-assoc : (x y z : Bool) → (x || y) || z ≡ x || (y || z)
or-assoc true y z = refl
or-assoc false y z = refl

pub or-false : (x : Bool) → x || false ≡ x
or-false true = refl
or-false false = refl

and-or : (x y z : Bool) → (x && y) || (x && z) ≡ x && (y || z)
and-or true y z = refl
and-or false y z = refl

or-and : (x y z : Bool) → (x && z) || (y && z) ≡ (x || y) && z
or-and true true true = refl
or-and true false true = refl
or-and false y z = refl
or-and true true false = refl
or-and true false false = refl

and-false : (x : Bool) → false ≡ x && false
and-false true = refl
and-false false = refl

-- ---- two options

pub any-append : (a b : List Tests) (key : Key) → any_holds (a ++ b) key ≡ any_holds a key || any_holds b key
any-append [] b key = refl
any-append (t ∷ a) b key = ap (λ x. tests_hold t key || x) (any-append a b key) ∙ sym (or-assoc (tests_hold t key) (any_holds a key) (any_holds b key))

-- the tests that hold where two do: a rule of the first that jumps to one of the second permits what they hold
abbrev jump-rules : Tests → Tests → List ChainRule
jump-rules a b = record { chain = 0; tests = a; target = Jumps 1 } ∷ record { chain = 1; tests = b; target = Decides true } ∷ []

jumped : (x y : Bool) → or_policy false (cond x (or_else (cond y (Some true) None) None) None) ≡ x && y
jumped true true = refl
jumped true false = refl
jumped false y = refl

taken : (x : Bool) → cond x true false ≡ x || false
taken true = refl
taken false = refl

meet-by : ListsAnswerAsWalks → (a b : Tests) (key : Key) (met : Option Tests) → meet a b ≡ met → any_holds (met_tests met) key ≡ tests_hold a key && tests_hold b key
meet-by walks a b key None is =
    walks 4 2 0 (jump-rules a b) false [] key (ap (λ m. within 4 ((under m (Some true) [] ++ []) ++ [])) is) ∙ jumped (tests_hold a key) (tests_hold b key)
meet-by walks a b key (Some t) is =
    sym (taken (tests_hold t key))
    ∙ walks 4 2 0 (jump-rules a b) false (record { tests = t; action = Some true } ∷ []) key (ap (λ m. within 4 ((under m (Some true) [] ++ []) ++ [])) is) ∙ jumped (tests_hold a key) (tests_hold b key)

each-holds : ListsAnswerAsWalks → (t : Tests) (others : List Tests) (key : Key) → any_holds (met_each t others) key ≡ tests_hold t key && any_holds others key
each-holds walks t [] key = and-false (tests_hold t key)
each-holds walks t (o ∷ others) key =
    any-append (met_tests (meet t o)) (met_each t others) key
    ∙ ap (λ x. x || any_holds (met_each t others) key) (meet-by walks t o key (meet t o) refl)
    ∙ ap (λ x. (tests_hold t key && tests_hold o key) || x) (each-holds walks t others key)
    ∙ and-or (tests_hold t key) (tests_hold o key) (any_holds others key)

pub met-holds : ListsAnswerAsWalks → (tests others : List Tests) (key : Key) → any_holds (met_with tests others) key ≡ any_holds tests key && any_holds others key
met-holds walks [] others key = refl
met-holds walks (t ∷ tests) others key =
    any-append (met_each t others) (met_with tests others) key
    ∙ ap (λ x. x || any_holds (met_with tests others) key) (each-holds walks t others key)
    ∙ ap (λ x. (tests_hold t key && any_holds others key) || x) (met-holds walks tests others key)
    ∙ or-and (tests_hold t key) (any_holds tests key) (any_holds others key)
