-- What is left of a commit with so many tasks done: the pieces of each kind behind those that are.
use Rattle.std.proofs.Common.{◌≡◌, ℕ, zero, suc, ◌-◌, List, [], ◌∷◌, ◌++◌, drop, length, map, sym, ap, ap₂, ◌∙◌, arith}
use Rattle.std.specs.Prelude.{AllPairs}
use Rattle.std.specs.List.{AllByRecursion, filter_map}
use Rattle.std.proofs.lemmas.List.{drop-map}
use Rattle.std.proofs.Math.Seq.{drop-append_seam}
use Rattle.rule_model.proofs.Pairs.{pairs_tail}
use Rattle.rule_model.specs.Entry.{RankedPiece}
use Rattle.readback.specs.Going.{inserted_by, rewritten_by, erased_by}
use Rattle.readback.specs.Tasks.{CommitPieces, Task, Insert, Rewrite, Erase, tasks_of}
use Rattle.readback.proofs.Parted.{all_inserts, all_rewrites, all_erases}

-- what holds of all holds of those behind the first ones
pub all_drop : {X : Type 0} (P : X → Type 0) (n : ℕ) (xs : List X) → AllByRecursion P xs → AllByRecursion P (drop n xs)
all_drop P zero xs all = all
all_drop P (suc n) [] all = tt
all_drop P (suc n) (x ∷ xs) all = all_drop P n xs all.1

pub pairs_drop : {X : Type 0} (R : X → X → Type 0) (n : ℕ) (xs : List X) → AllPairs R xs → AllPairs R (drop n xs)
pairs_drop R zero xs pairs = pairs
pairs_drop R (suc n) [] pairs = pairs
pairs_drop R (suc n) (x ∷ xs) pairs = pairs_drop R n xs (pairs_tail R x xs pairs)

-- tasks behind the first ones, where the foremost are of one kind
drop_kind : (task : RankedPiece → Task) (n : ℕ) (xs : List RankedPiece) (rest : List Task) → drop n (map task xs ++ rest) ≡ map task (drop n xs) ++ drop (n - length xs) rest
drop_kind task zero xs rest = ap (λ (k : ℕ). map task xs ++ drop k rest) (let k : 0 ≡ 0 - length xs = omega arith in k)
drop_kind task (suc n) [] rest = ap (λ (k : ℕ). drop k rest) (let k : suc n ≡ suc n - 0 = omega arith in k)
drop_kind task (suc n) (x ∷ xs) rest =
    drop_kind task n xs rest ∙ ap (λ (k : ℕ). map task (drop n xs) ++ drop k rest) (let k : n - length xs ≡ suc n - length (x ∷ xs) = omega arith in k)

-- the pieces of a commit with so many tasks done
abbrev pub pieces_left : CommitPieces → ℕ → CommitPieces
pieces_left pieces n =
    record pieces {
      inserted = drop n pieces.inserted;
      rewritten = drop (n - length pieces.inserted) pieces.rewritten;
      erased = drop (n - length pieces.inserted - length pieces.rewritten) pieces.erased;
    }

left_tasks : (pieces : CommitPieces) (n : ℕ) → drop n (tasks_of pieces) ≡ tasks_of (pieces_left pieces n)
left_tasks pieces n =
    drop_kind Insert n pieces.inserted (map Rewrite pieces.rewritten ++ map Erase pieces.erased)
    ∙ ap (λ (rest : List Task). map Insert (drop n pieces.inserted) ++ rest)
    (drop_kind Rewrite (n - length pieces.inserted) pieces.rewritten (map Erase pieces.erased)
    ∙ ap (λ (rest : List Task). map Rewrite (drop (n - length pieces.inserted) pieces.rewritten) ++ rest)
    (drop-map Erase (n - length pieces.inserted - length pieces.rewritten) pieces.erased))

-- so many done, the tasks that are left are of these
module _ (pieces : CommitPieces) (done left : List Task) (parts : tasks_of pieces ≡ done ++ left) (n : ℕ) (number : n ≡ length done) where
  left_is : left ≡ tasks_of (pieces_left pieces n)
  left_is = sym (drop-append_seam done left) ∙ (ap₂ (λ (k : ℕ) (tasks : List Task). drop k tasks) (sym number) (sym parts) ∙ left_tasks pieces n)

  pub inserted_left : filter_map inserted_by left ≡ drop n pieces.inserted
  inserted_left = ap (filter_map inserted_by) left_is ∙ all_inserts (pieces_left pieces n)

  pub rewritten_left : filter_map rewritten_by left ≡ drop (n - length pieces.inserted) pieces.rewritten
  rewritten_left = ap (filter_map rewritten_by) left_is ∙ all_rewrites (pieces_left pieces n)

  pub erased_left : filter_map erased_by left ≡ drop (n - length pieces.inserted - length pieces.rewritten) pieces.erased
  erased_left = ap (filter_map erased_by) left_is ∙ all_erases (pieces_left pieces n)
