-- Tasks in their order are those that put in, then those that give results, then those that take out.
use Rattle.std.proofs.Common.{subst, inl, inr, ◌≡◌, true, List, [], ◌∷◌, ◌++◌, map, filter, Contains, refl, sym, ◌∙◌, ap, ap₂, append-nil}
use Rattle.std.specs.Prelude.{AllPairs}
use Rattle.std.specs.List.{filter_map}
use Rattle.std.proofs.lemmas.List.Elements.{All-contains, filter_map-append}
use Rattle.slot_order.proofs.Lists.{contains_head, contains_tail, contains_cases, contains_none}
use Rattle.rule_model.proofs.Pairs.{pairs_head, pairs_tail}
use Rattle.rule_model.specs.Entry.{RankedPiece}
use Rattle.readback.specs.Tasks.{CommitPieces, Task, Insert, Rewrite, Erase, tasks_of}
use Rattle.readback.specs.Going.{inserted_by, rewritten_by, erased_by}
use Rattle.readback.proofs.Shows.{InOrder}

-- without an insertion none is put in, and so of the others
pub no_inserts : (tasks : List Task) → ((x : RankedPiece) → Contains tasks (Insert x) → ⊥) → filter_map inserted_by tasks ≡ []
no_inserts [] none = refl
no_inserts (Insert x ∷ tasks) none = absurd (none x (contains_head (Insert x) tasks))
no_inserts (Rewrite x ∷ tasks) none = no_inserts tasks (λ y member. none y (contains_tail (Rewrite x) (Insert y) tasks member))
no_inserts (Erase x ∷ tasks) none = no_inserts tasks (λ y member. none y (contains_tail (Erase x) (Insert y) tasks member))

pub no_rewrites : (tasks : List Task) → ((x : RankedPiece) → Contains tasks (Rewrite x) → ⊥) → filter_map rewritten_by tasks ≡ []
no_rewrites [] none = refl
no_rewrites (Insert x ∷ tasks) none = no_rewrites tasks (λ y member. none y (contains_tail (Insert x) (Rewrite y) tasks member))
no_rewrites (Rewrite x ∷ tasks) none = absurd (none x (contains_head (Rewrite x) tasks))
no_rewrites (Erase x ∷ tasks) none = no_rewrites tasks (λ y member. none y (contains_tail (Erase x) (Rewrite y) tasks member))

pub no_erases : (tasks : List Task) → ((x : RankedPiece) → Contains tasks (Erase x) → ⊥) → filter_map erased_by tasks ≡ []
no_erases [] none = refl
no_erases (Insert x ∷ tasks) none = no_erases tasks (λ y member. none y (contains_tail (Insert x) (Erase y) tasks member))
no_erases (Rewrite x ∷ tasks) none = no_erases tasks (λ y member. none y (contains_tail (Rewrite x) (Erase y) tasks member))
no_erases (Erase x ∷ tasks) none = absurd (none x (contains_head (Erase x) tasks))

-- behind a task comes none that is to come before it
behind : (first task : Task) (tasks : List Task) → AllPairs InOrder (first ∷ tasks) → Contains tasks task → InOrder first task
behind first task tasks ordered member = All-contains (InOrder first) tasks task (pairs_head InOrder first tasks ordered) member

pub parted : (tasks : List Task) → AllPairs InOrder tasks
    → tasks ≡ map Insert (filter_map inserted_by tasks) ++ (map Rewrite (filter_map rewritten_by tasks) ++ map Erase (filter_map erased_by tasks))
parted [] ordered = refl
parted (Insert x ∷ tasks) ordered = ap (λ rest. Insert x ∷ rest) (parted tasks (pairs_tail InOrder (Insert x) tasks ordered))
parted (Rewrite x ∷ tasks) ordered =
    let none = no_inserts tasks (λ y member. behind (Rewrite x) (Insert y) tasks ordered member) in
    let rest = parted tasks (pairs_tail InOrder (Rewrite x) tasks ordered) in
    ap (λ some. Rewrite x ∷ some) (rest ∙ ap (λ some. map Insert some ++ (map Rewrite (filter_map rewritten_by tasks) ++ map Erase (filter_map erased_by tasks))) none)
    ∙ ap (λ some. map Insert some ++ (Rewrite x ∷ (map Rewrite (filter_map rewritten_by tasks) ++ map Erase (filter_map erased_by tasks)))) (sym none)
parted (Erase x ∷ tasks) ordered =
    let none = no_inserts tasks (λ y member. behind (Erase x) (Insert y) tasks ordered member) in
    let same = no_rewrites tasks (λ y member. behind (Erase x) (Rewrite y) tasks ordered member) in
    let rest = parted tasks (pairs_tail InOrder (Erase x) tasks ordered) in
    ap (λ some. Erase x ∷ some) (rest ∙ ap₂ (λ some told. map Insert some ++ (map Rewrite told ++ map Erase (filter_map erased_by tasks))) none same)
    ∙ ap₂ (λ some told. map Insert some ++ (map Rewrite told ++ (Erase x ∷ map Erase (filter_map erased_by tasks)))) (sym none) (sym same)

-- the tasks of a commit are its pieces
puts_back : (xs ys zs : List RankedPiece) → filter_map inserted_by (map Insert xs ++ (map Rewrite ys ++ map Erase zs)) ≡ xs
puts_back (x ∷ xs) ys zs = ap (λ rest. x ∷ rest) (puts_back xs ys zs)
puts_back [] (y ∷ ys) zs = puts_back [] ys zs
puts_back [] [] (z ∷ zs) = puts_back [] [] zs
puts_back [] [] [] = refl

pub all_inserts : (p : CommitPieces) → filter_map inserted_by (tasks_of p) ≡ p.inserted
all_inserts p = puts_back p.inserted p.rewritten p.erased

-- what is put in by a task of a list
pub put_by : (tasks : List Task) (x : RankedPiece) → Contains (filter_map inserted_by tasks) x → Contains tasks (Insert x)
put_by [] x member = absurd (contains_none x member)
put_by (Insert y ∷ tasks) x member = elim (contains_cases y x (filter_map inserted_by tasks) member) [
  | inl same ↦ subst (λ z. Contains (Insert y ∷ tasks) (Insert z)) same (contains_head (Insert y) tasks)
  | inr later ↦ contains_tail (Insert y) (Insert x) tasks (put_by tasks x later)
]
put_by (Rewrite y ∷ tasks) x member = contains_tail (Rewrite y) (Insert x) tasks (put_by tasks x member)
put_by (Erase y ∷ tasks) x member = contains_tail (Erase y) (Insert x) tasks (put_by tasks x member)

inserts_back : (xs : List RankedPiece) → (filter_map rewritten_by (map Insert xs) ≡ []) × (filter_map erased_by (map Insert xs) ≡ [])
inserts_back [] = (refl, refl)
inserts_back (x ∷ xs) = inserts_back xs

rewrites_back : (xs : List RankedPiece) → (filter_map rewritten_by (map Rewrite xs) ≡ xs) × (filter_map erased_by (map Rewrite xs) ≡ [])
rewrites_back [] = (refl, refl)
rewrites_back (x ∷ xs) = let w = rewrites_back xs in (ap (λ rest. x ∷ rest) w.0, w.1)

erases_back : (xs : List RankedPiece) → (filter_map rewritten_by (map Erase xs) ≡ []) × (filter_map erased_by (map Erase xs) ≡ xs)
erases_back [] = (refl, refl)
erases_back (x ∷ xs) = let w = erases_back xs in (w.0, ap (λ rest. x ∷ rest) w.1)

pub all_rewrites : (p : CommitPieces) → filter_map rewritten_by (tasks_of p) ≡ p.rewritten
all_rewrites p =
    filter_map-append rewritten_by (map Insert p.inserted) (map Rewrite p.rewritten ++ map Erase p.erased)
    ∙ (ap₂ (λ a b. a ++ b) (inserts_back p.inserted).0 (filter_map-append rewritten_by (map Rewrite p.rewritten) (map Erase p.erased)
    ∙ (ap₂ (λ a b. a ++ b) (rewrites_back p.rewritten).0 (erases_back p.erased).0 ∙ append-nil p.rewritten)))

pub all_erases : (p : CommitPieces) → filter_map erased_by (tasks_of p) ≡ p.erased
all_erases p =
    filter_map-append erased_by (map Insert p.inserted) (map Rewrite p.rewritten ++ map Erase p.erased)
    ∙ ap₂ (λ a b. a ++ b) (inserts_back p.inserted).1 (filter_map-append erased_by (map Rewrite p.rewritten) (map Erase p.erased)
    ∙ ap₂ (λ a b. a ++ b) (rewrites_back p.rewritten).1 (erases_back p.erased).1)

-- a test that all pass keeps all
pub filter-all : {X : Type 0} (xs : List X) → filter (λ x. true) xs ≡ xs
filter-all [] = refl
filter-all (x ∷ xs) = ap (λ rest. x ∷ rest) (filter-all xs)
