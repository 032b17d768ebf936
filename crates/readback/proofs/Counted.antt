-- Tasks that are counted one by one.
use Rattle.std.proofs.Common.{◌≡◌, ℕ, ◌+◌, ◌<◌, IsTrue, IsFalse, Option, List, [], ◌∷◌, ◌++◌, length, map, take, drop, get_or, refl, sym, ◌∙◌, ap, subst, arith, append_assoc, append-nil, length-append}
use Rattle.std.proofs.lemmas.List.{take_more, drop_more, map-append, take-append-drop}
use Rattle.std.specs.List.{AllByRecursion}
use Rattle.slot_order.proofs.Lists.{all_append}
use Rattle.rule_model.specs.declared.words.Entry.{Entry}
use Rattle.rule_model.specs.Entry.{RankedPiece}
use Rattle.readback.specs.Tasks.{Task, Insert, Rewrite, Erase, piece_of, is_done}
use Rattle.readback.specs.declared.progress.Kind.{Kind}
use Rattle.readback.specs.declared.progress.Kind.TheVariants as kind
use Rattle.readback.specs.Progress.{AreParted, IsOutOfTurn, task_of}

pub none_counted : (held : List (Option Entry)) → AreParted held [] 0 0
none_counted held = record { front = []; back = []; parts = refl; are_done = tt; are_left = tt; done_number = refl; left_number = refl }

-- a list of no elements
empty : {X : Type 0} (xs : List X) → 0 ≡ length xs → xs ≡ []
empty [] none = refl
empty (x ∷ xs) none = absurd (omega arith)

-- one more is done, where none is left
pub one_done : (held : List (Option Entry)) (tasks : List Task) (task : Task) (done : ℕ) → AreParted held tasks done 0 → IsTrue (is_done held task) → AreParted held (tasks ++ task ∷ []) (done + 1) 0
one_done held tasks task done parted is =
    let none : parted.back ≡ [] = empty parted.back parted.left_number in
    let all : tasks ≡ parted.front = parted.parts ∙ ap (λ back. parted.front ++ back) none ∙ append-nil parted.front in
    let size = length-append parted.front (task ∷ []) in
    let number = parted.done_number in
    record {
      front = parted.front ++ task ∷ [];
      back = [];
      parts = ap (λ some. some ++ task ∷ []) all ∙ sym (append-nil (parted.front ++ task ∷ []));
      are_done = all_append (λ one. IsTrue (is_done held one)) parted.front (task ∷ []) parted.are_done (is, tt);
      are_left = tt;
      done_number = omega arith;
      left_number = refl;
    }

-- or one more is left
pub one_left : (held : List (Option Entry)) (tasks : List Task) (task : Task) (done left : ℕ) → AreParted held tasks done left → IsFalse (is_done held task) → AreParted held (tasks ++ task ∷ []) done (left + 1)
one_left held tasks task done left parted fails =
    let size = length-append parted.back (task ∷ []) in
    let number = parted.left_number in
    record {
      front = parted.front;
      back = parted.back ++ task ∷ [];
      parts = ap (λ some. some ++ task ∷ []) parted.parts ∙ append_assoc parted.front parted.back (task ∷ []);
      are_done = parted.are_done;
      are_left = all_append (λ one. IsFalse (is_done held one)) parted.back (task ∷ []) parted.are_left (fails, tt);
      done_number = parted.done_number;
      left_number = omega arith;
    }

-- one that is done behind one that is left
pub out_of_turn : (held : List (Option Entry)) (tasks : List Task) (task : Task) (later : List Task) (done left : ℕ) → AreParted held tasks done left → 0 < left → IsTrue (is_done held task)
    → IsOutOfTurn held (tasks ++ task ∷ later) (piece_of task).rank
out_of_turn held tasks task later done left parted some is = go parted.back parted.parts parted.are_left parted.left_number
  where
    go : (back : List Task) → tasks ≡ parted.front ++ back → AllByRecursion (λ one. IsFalse (is_done held one)) back → left ≡ length back → IsOutOfTurn held (tasks ++ task ∷ later) (piece_of task).rank
    go [] parts are number = absurd (omega arith)
    go (first ∷ between) parts are number = record {
      front = parted.front;
      first = first;
      between = between;
      second = task;
      back = later;
      parts = ap (λ some. some ++ task ∷ later) parts ∙ append_assoc parted.front (first ∷ between) (task ∷ later);
      not_done = are.0;
      done = is;
      rank = refl;
    }

-- the tasks of the first pieces, one more
pub next_tasks : (f : RankedPiece → Task) (before : List Task) (pieces : List RankedPiece) (place : ℕ) (x : RankedPiece) → place < length pieces → get_or pieces place x ≡ x
    → before ++ map f (take (place + 1) pieces) ≡ (before ++ map f (take place pieces)) ++ f x ∷ []
next_tasks f before pieces place x inside read =
    ap (λ some. before ++ map f some) (take_more pieces place x inside ∙ ap (λ y. take place pieces ++ y ∷ []) read)
    ∙ (ap (λ some. before ++ some) (map-append f (take place pieces) (x ∷ [])) ∙ sym (append_assoc before (map f (take place pieces)) (f x ∷ [])))

-- and those behind it
pub tasks_behind : (f : RankedPiece → Task) (before later : List Task) (pieces : List RankedPiece) (place : ℕ) (x : RankedPiece) → place < length pieces → get_or pieces place x ≡ x
    → before ++ (map f pieces ++ later) ≡ (before ++ map f (take place pieces)) ++ f x ∷ (map f (drop (place + 1) pieces) ++ later)
tasks_behind f before later pieces place x inside read =
    ap (λ some. before ++ (map f some ++ later)) (sym (take-append-drop place pieces) ∙ ap (λ some. take place pieces ++ some) (drop_more pieces place x inside ∙ ap (λ y. y ∷ drop (place + 1) pieces) read))
    ∙ (ap (λ some. before ++ (some ++ later)) (map-append f (take place pieces) (x ∷ drop (place + 1) pieces))
    ∙ (ap (λ some. before ++ some) (append_assoc (map f (take place pieces)) (f x ∷ map f (drop (place + 1) pieces)) later) ∙ sym (append_assoc before (map f (take place pieces)) (f x ∷ (map f (drop (place + 1) pieces) ++ later)))))

-- a task is of its piece
pub rank_of : (some : Kind) (x : RankedPiece) → (piece_of (task_of some x)).rank ≡ x.rank
rank_of kind.Insert x = refl
rank_of kind.Rewrite x = refl
rank_of kind.Erase x = refl

-- a task that is done out of its turn, in the order of the pieces
pub early_at : (held : List (Option Entry)) (some : Kind) (before later : List Task) (pieces : List RankedPiece) (place : ℕ) (x : RankedPiece) (done left : ℕ) → place < length pieces → x ≡ get_or pieces place x
    → AreParted held (before ++ map (task_of some) (take place pieces)) done left → 0 < left → IsTrue (is_done held (task_of some x)) → IsOutOfTurn held (before ++ (map (task_of some) pieces ++ later)) x.rank
early_at held some before later pieces place x done left inside read parted more is =
    subst (λ tasks. IsOutOfTurn held tasks x.rank) (sym (tasks_behind (task_of some) before later pieces place x inside (sym read)))
    (subst (IsOutOfTurn held ((before ++ map (task_of some) (take place pieces)) ++ task_of some x ∷ (map (task_of some) (drop (place + 1) pieces) ++ later))) (rank_of some x)
    (out_of_turn held (before ++ map (task_of some) (take place pieces)) (task_of some x) (map (task_of some) (drop (place + 1) pieces) ++ later) done left parted more is))

-- one that is done where none is left
pub done_at : (held : List (Option Entry)) (some : Kind) (before : List Task) (pieces : List RankedPiece) (place : ℕ) (x : RankedPiece) (done left : ℕ) → place < length pieces → x ≡ get_or pieces place x
    → AreParted held (before ++ map (task_of some) (take place pieces)) done left → left ≡ 0 → IsTrue (is_done held (task_of some x)) → AreParted held (before ++ map (task_of some) (take (place + 1) pieces)) (done + 1) left
done_at held some before pieces place x done left inside read parted none is =
    subst (λ tasks. AreParted held tasks (done + 1) left) (sym (next_tasks (task_of some) before pieces place x inside (sym read)))
    (subst (AreParted held ((before ++ map (task_of some) (take place pieces)) ++ task_of some x ∷ []) (done + 1)) (sym none)
    (one_done held (before ++ map (task_of some) (take place pieces)) (task_of some x) done (subst (AreParted held (before ++ map (task_of some) (take place pieces)) done) none parted) is))

-- and one that is left
pub left_at : (held : List (Option Entry)) (some : Kind) (before : List Task) (pieces : List RankedPiece) (place : ℕ) (x : RankedPiece) (done left : ℕ) → place < length pieces → x ≡ get_or pieces place x
    → AreParted held (before ++ map (task_of some) (take place pieces)) done left → IsFalse (is_done held (task_of some x)) → AreParted held (before ++ map (task_of some) (take (place + 1) pieces)) done (left + 1)
left_at held some before pieces place x done left inside read parted fails =
    subst (λ tasks. AreParted held tasks done (left + 1)) (sym (next_tasks (task_of some) before pieces place x inside (sym read)))
    (one_left held (before ++ map (task_of some) (take place pieces)) (task_of some x) done left parted fails)

-- tasks of three kinds in their order
abbrev pub three : List RankedPiece → List RankedPiece → List RankedPiece → List Task
three inserted rewritten erased = map Insert inserted ++ (map Rewrite rewritten ++ map Erase erased)

-- what a walk over the pieces of one kind counts behind earlier tasks,
abbrev pub Counts : List (Option Entry) → Kind → List RankedPiece → ℕ → ℕ → ℕ → ℕ → Type 0
Counts held some pieces earlier_done earlier_left done left =
    (before : List Task) → AreParted held before earlier_done earlier_left → AreParted held (before ++ map (task_of some) pieces) done left

-- and where it finds a task out of its turn
abbrev pub IsEarlyIn : List (Option Entry) → Kind → List RankedPiece → ℕ → ℕ → ℕ → Type 0
IsEarlyIn held some pieces earlier_done earlier_left priority =
    (before later : List Task) → AreParted held before earlier_done earlier_left → IsOutOfTurn held (before ++ (map (task_of some) pieces ++ later)) priority

module _ (held : List (Option Entry)) (inserted rewritten erased : List RankedPiece) where
  pub early_first : (priority : ℕ) → IsEarlyIn held kind.Insert inserted 0 0 priority → IsOutOfTurn held (three inserted rewritten erased) priority
  early_first priority early = early [] (map Rewrite rewritten ++ map Erase erased) (none_counted held)

  pub early_second : (done left priority : ℕ) → Counts held kind.Insert inserted 0 0 done left → IsEarlyIn held kind.Rewrite rewritten done left priority → IsOutOfTurn held (three inserted rewritten erased) priority
  early_second done left priority first early = early (map Insert inserted) (map Erase erased) (first [] (none_counted held))

  -- the tasks of two kinds
  two : (done left done' left' : ℕ) → Counts held kind.Insert inserted 0 0 done left → Counts held kind.Rewrite rewritten done left done' left' → AreParted held (map Insert inserted ++ map Rewrite rewritten) done' left'
  two done left done' left' first second = second (map Insert inserted) (first [] (none_counted held))

  pub early_third : (done left done' left' priority : ℕ) → Counts held kind.Insert inserted 0 0 done left → Counts held kind.Rewrite rewritten done left done' left' → IsEarlyIn held kind.Erase erased done' left' priority
      → IsOutOfTurn held (three inserted rewritten erased) priority
  early_third done left done' left' priority first second early =
      subst (λ tasks. IsOutOfTurn held tasks priority) (append_assoc (map Insert inserted) (map Rewrite rewritten) (map Erase erased ++ []) ∙ ap (λ some. map Insert inserted ++ (map Rewrite rewritten ++ some)) (append-nil (map Erase erased)))
      (early (map Insert inserted ++ map Rewrite rewritten) [] (two done left done' left' first second))

  pub counted : (done left done' left' all rest : ℕ) → Counts held kind.Insert inserted 0 0 done left → Counts held kind.Rewrite rewritten done left done' left' → Counts held kind.Erase erased done' left' all rest
      → AreParted held (three inserted rewritten erased) all rest
  counted done left done' left' all rest first second third =
      subst (λ tasks. AreParted held tasks all rest) (append_assoc (map Insert inserted) (map Rewrite rewritten) (map Erase erased)) (third (map Insert inserted ++ map Rewrite rewritten) (two done left done' left' first second))
