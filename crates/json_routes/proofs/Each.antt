-- The items of an array, and the members of an object, one after the other.
use Rattle.std.proofs.Common.{◌≡◌, ◌<◌, ◌≤◌, ◌+◌, ℕ, List, length, drop, get_or, sym, ap, ◌∙◌, append-nil}
use Rattle.std.specs.Borrow.{Bor}
use Rattle.std.proofs.lemmas.List.{at_drop_more, at_drop_all}
use Rattle.json.specs.Json.{Json}
use Rattle.json.specs.Value.{value_view, items_view, members_view}
use Rattle.json.specs.declared.value.Value.{Value}
use Rattle.import_lines.specs.Import.{LineTold, SaidBy, UnsaidBy}
use Rattle.json_routes.specs.Lines.{onto, then_told, each_item, each_member}
use Rattle.json_routes.proofs.Told.{told-on, told-ends}

-- ---- items

item-there : {A : Type 0} → (f : Json → LineTold) (values : List (Value A)) (place : ℕ) (value unused : Value A) (old : List ℕ) → place < length values → value ≡ get_or values place unused
    → onto old (each_item f (items_view (drop place values))) ≡ onto old (then_told (f (value_view value)) (each_item f (items_view (drop (place + 1) values))))
item-there f values place value unused old below is =
    at_drop_more (λ l. onto old (each_item f (items_view l))) values place unused below
    ∙ ap (λ v. onto old (then_told (f (value_view v)) (each_item f (items_view (drop (place + 1) values))))) (sym is)

pub item-said : {A : Type 0} → (f : Json → LineTold) (values : List (Value A)) (place : ℕ) (value unused : Value A) (old new : List ℕ) → place < length values → value ≡ get_or values place unused
    → onto old (f (value_view value)) ≡ SaidBy new → onto old (each_item f (items_view (drop place values))) ≡ onto new (each_item f (items_view (drop (place + 1) values)))
item-said f values place value unused old new below is said =
    item-there f values place value unused old below is ∙ told-on old new (f (value_view value)) (each_item f (items_view (drop (place + 1) values))) said

pub item-ends : {A : Type 0} → (f : Json → LineTold) (values : List (Value A)) (place : ℕ) (value unused : Value A) (old new : List ℕ) → place < length values → value ≡ get_or values place unused
    → onto old (f (value_view value)) ≡ UnsaidBy new → onto old (each_item f (items_view (drop place values))) ≡ UnsaidBy new
item-ends f values place value unused old new below is unsaid =
    item-there f values place value unused old below is ∙ told-ends old new (f (value_view value)) (each_item f (items_view (drop (place + 1) values))) unsaid

pub item-none : {A : Type 0} → (f : Json → LineTold) (values : List (Value A)) (place : ℕ) (old : List ℕ) → length values ≤ place
    → onto old (each_item f (items_view (drop place values))) ≡ SaidBy old
item-none f values place old all = at_drop_all (λ l. onto old (each_item f (items_view l))) values place all ∙ ap SaidBy (append-nil old)

-- ---- members

member-there : {A : Type 0} → (f : List ℕ → Json → LineTold) (members : List (Bor (List ℕ) × Value A)) (place : ℕ) (one unused : Bor (List ℕ) × Value A) (old : List ℕ) → place < length members → one ≡ get_or members place unused
    → onto old (each_member f (members_view (drop place members))) ≡ onto old (then_told (f one.0.now (value_view one.1)) (each_member f (members_view (drop (place + 1) members))))
member-there f members place one unused old below is =
    at_drop_more (λ l. onto old (each_member f (members_view l))) members place unused below
    ∙ ap (λ m. onto old (then_told (f m.0.now (value_view m.1)) (each_member f (members_view (drop (place + 1) members))))) (sym is)

pub member-said : {A : Type 0} → (f : List ℕ → Json → LineTold) (members : List (Bor (List ℕ) × Value A)) (place : ℕ) (one unused : Bor (List ℕ) × Value A) (old new : List ℕ) → place < length members → one ≡ get_or members place unused
    → onto old (f one.0.now (value_view one.1)) ≡ SaidBy new → onto old (each_member f (members_view (drop place members))) ≡ onto new (each_member f (members_view (drop (place + 1) members)))
member-said f members place one unused old new below is said =
    member-there f members place one unused old below is ∙ told-on old new (f one.0.now (value_view one.1)) (each_member f (members_view (drop (place + 1) members))) said

pub member-ends : {A : Type 0} → (f : List ℕ → Json → LineTold) (members : List (Bor (List ℕ) × Value A)) (place : ℕ) (one unused : Bor (List ℕ) × Value A) (old new : List ℕ) → place < length members → one ≡ get_or members place unused
    → onto old (f one.0.now (value_view one.1)) ≡ UnsaidBy new → onto old (each_member f (members_view (drop place members))) ≡ UnsaidBy new
member-ends f members place one unused old new below is unsaid =
    member-there f members place one unused old below is ∙ told-ends old new (f one.0.now (value_view one.1)) (each_member f (members_view (drop (place + 1) members))) unsaid

pub member-none : {A : Type 0} → (f : List ℕ → Json → LineTold) (members : List (Bor (List ℕ) × Value A)) (place : ℕ) (old : List ℕ) → length members ≤ place
    → onto old (each_member f (members_view (drop place members))) ≡ SaidBy old
member-none f members place old all = at_drop_all (λ l. onto old (each_member f (members_view l))) members place all ∙ ap SaidBy (append-nil old)
