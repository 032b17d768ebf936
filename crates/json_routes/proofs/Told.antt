-- Bytes of a line, one part behind the other.
use Rattle.std.proofs.Common.{◌≡◌, ℕ, List, [], ◌++◌, refl, sym, ap, ◌∙◌, subst, append_assoc}
use Rattle.std.specs.Borrow.{Bor}
use Rattle.std.specs.Prelude.{IfOk, Ok, Err, Result}
use Rattle.json.specs.Json.{Json}
use Rattle.json.specs.Value.{members_view}
use Rattle.json.specs.declared.value.Value.{Value}
use Rattle.import_lines.specs.declared.Told.{Told}
use Rattle.import_lines.specs.declared.Told.TheVariants as told
use Rattle.import_lines.specs.Import.{LineTold, SaidBy, UnsaidBy, IsTold}
use Rattle.json_routes.specs.Lines.{each_member, onto, then_told}

-- bytes behind bytes
pub onto-onto : (a b : List ℕ) (t : LineTold) → onto a (onto b t) ≡ onto (a ++ b) t
onto-onto a b (SaidBy bytes) = ap SaidBy (sym (append_assoc a b bytes))
onto-onto a b (UnsaidBy why) = refl

pub onto-none : (t : LineTold) → onto [] t ≡ t
onto-none (SaidBy bytes) = refl
onto-none (UnsaidBy why) = refl

-- and parts
pub onto-then : (a : List ℕ) (t u : LineTold) → onto a (then_told t u) ≡ then_told (onto a t) u
onto-then a (SaidBy bytes) u = onto-onto a bytes u
onto-then a (UnsaidBy why) u = refl

-- an answer of the same
pub told-same : (answer : Told) (bytes : List ℕ) (t u : LineTold) → t ≡ u → IsTold answer bytes u → IsTold answer bytes t
told-same told.Said bytes t u is h = is ∙ h
told-same told.Unsaid bytes t u is h = is ∙ h

-- behind bytes that were put before
pub told-behind : (answer : Told) (old mid new part : List ℕ) (t : LineTold) → mid ≡ old ++ part → IsTold answer new (onto mid t) → IsTold answer new (onto old (onto part t))
told-behind answer old mid new part t put h =
    told-same answer new (onto old (onto part t)) (onto mid t) (onto-onto old part t ∙ ap (λ b. onto b t) (sym put)) h

-- a part that is said, and what comes behind it
pub told-on : (old new : List ℕ) (t u : LineTold) → onto old t ≡ SaidBy new → onto old (then_told t u) ≡ onto new u
told-on old new t u said = onto-then old t u ∙ ap (λ s. then_told s u) said

-- one that isn't
pub told-ends : (old new : List ℕ) (t u : LineTold) → onto old t ≡ UnsaidBy new → onto old (then_told t u) ≡ UnsaidBy new
told-ends old new t u unsaid = onto-then old t u ∙ ap (λ s. then_told s u) unsaid

-- what a call answered
pub told-said : (answer : Told) (bytes : List ℕ) (t : LineTold) → answer ≡ told.Said → IsTold answer bytes t → t ≡ SaidBy bytes
told-said answer bytes t is h = subst (λ a. IsTold a bytes t) is h

pub told-unsaid : (answer : Told) (bytes : List ℕ) (t : LineTold) → answer ≡ told.Unsaid → IsTold answer bytes t → t ≡ UnsaidBy bytes
told-unsaid answer bytes t is h = subst (λ a. IsTold a bytes t) is h

pub if-told : {E : Type 0} → (r : Result Told E) (bytes : List ℕ) (t u : LineTold) → t ≡ u → IfOk r (λ answer. IsTold answer bytes u) → IfOk r (λ answer. IsTold answer bytes t)
if-told (Ok answer) bytes t u is h = told-same answer bytes t u is h
if-told (Err e) bytes t u is h = tt

-- the members of an object behind a word, and those of a route
pub members-behind : {A : Type 0} → (old mid head : List ℕ) (f : List ℕ → Json → LineTold) (members slice : List (Bor (List ℕ) × Value A)) → mid ≡ old ++ head → slice ≡ members
    → onto old (onto head (each_member f (members_view members))) ≡ onto mid (each_member f (members_view slice))
members-behind old mid head f members slice put same =
    onto-onto old head (each_member f (members_view members))
    ∙ ap (λ b. onto b (each_member f (members_view members))) (sym put) ∙ ap (λ l. onto mid (each_member f (members_view l))) (sym same)

pub members-alone : {A : Type 0} → (mid : List ℕ) (f : List ℕ → Json → LineTold) (members slice : List (Bor (List ℕ) × Value A)) → mid ≡ [] → slice ≡ members
    → each_member f (members_view members) ≡ onto mid (each_member f (members_view slice))
members-alone mid f members slice none same =
    sym (onto-none (each_member f (members_view members)))
    ∙ ap (λ b. onto b (each_member f (members_view members))) (sym none) ∙ ap (λ l. onto mid (each_member f (members_view l))) (sym same)
