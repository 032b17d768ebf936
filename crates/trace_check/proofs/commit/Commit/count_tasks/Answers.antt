use Rattle.std.proofs.Common.{◌≡◌, ◌+◌, length, refl, arith}
use Rattle.trace_check.specs.declared.tasks.TaskKind.TheVariants as kind
use Rattle.trace_check.specs.Behind.{entries_in}
use Rattle.trace_check.proofs.CountedTasks.{first_early, second_early, third_early, all_counted, placed_behind}
use Rattle.trace_check.proofs.commit.Commit.count_tasks.Goals as goal

pub returns-in_err-inserted-clause-early : goal.returns-in_err-inserted-clause-early
returns-in_err-inserted-clause-early c _ placed =
    let s = c.args.self.now in
    first_early (entries_in c.args.places.now) s.inserted.items s.rewritten.items s.erased.items ((rw c.deref.ensures.value at c.in_err-inserted.ensures.early) refl placed.inserts)

pub returns-in_err-rewritten-clause-early : goal.returns-in_err-rewritten-clause-early
returns-in_err-rewritten-clause-early c _ placed =
    let s = c.args.self.now in
    let came = c.in_ok-inserted.inserted in
    let number : came.done + came.left ≡ length s.inserted.items = (let n = rw c.deref.ensures.value at c.in_ok-inserted.ensures.number in omega arith) in
    second_early (entries_in c.args.places.now) s.inserted.items s.rewritten.items s.erased.items came.done came.left ((rw c.deref.ensures.value at c.in_ok-inserted.ensures.parted) placed.inserts)
    ((rw c.deref-2.ensures.value at c.in_err-rewritten.ensures.early) refl
    (placed_behind c.args.places.now c.args.at c.args.before.now kind.Rewrite s.rewritten.items (length s.inserted.items) (came.done + came.left) s.done number placed.rewrites))

pub returns-in_err-erased-clause-early : goal.returns-in_err-erased-clause-early
returns-in_err-erased-clause-early c _ placed =
    let s = c.args.self.now in
    let came = c.in_ok-inserted.inserted in
    let next = c.in_ok-rewritten.rewritten in
    let number : came.done + came.left ≡ length s.inserted.items = (let n = rw c.deref.ensures.value at c.in_ok-inserted.ensures.number in omega arith) in
    let more : next.done + next.left ≡ length s.inserted.items + length s.rewritten.items = (let n = rw c.deref-2.ensures.value at c.in_ok-rewritten.ensures.number in omega arith) in
    third_early (entries_in c.args.places.now) s.inserted.items s.rewritten.items s.erased.items came.done came.left next.done next.left
    ((rw c.deref.ensures.value at c.in_ok-inserted.ensures.parted) placed.inserts)
    ((rw c.deref-2.ensures.value at c.in_ok-rewritten.ensures.parted)
    (placed_behind c.args.places.now c.args.at c.args.before.now kind.Rewrite s.rewritten.items (length s.inserted.items) (came.done + came.left) s.done number placed.rewrites))
    ((rw c.deref-3.ensures.value at c.in_err-erased.ensures.early) refl
    (placed_behind c.args.places.now c.args.at c.args.before.now kind.Erase s.erased.items (length s.inserted.items + length s.rewritten.items) (next.done + next.left) s.done more placed.erases))

pub returns-clause-parted : goal.returns-clause-parted
returns-clause-parted c placed =
    let s = c.args.self.now in
    let came = c.in_ok-inserted.inserted in
    let next = c.in_ok-rewritten.rewritten in
    let last = c.in_ok-erased.erased in
    let number : came.done + came.left ≡ length s.inserted.items = (let n = rw c.deref.ensures.value at c.in_ok-inserted.ensures.number in omega arith) in
    let more : next.done + next.left ≡ length s.inserted.items + length s.rewritten.items = (let n = rw c.deref-2.ensures.value at c.in_ok-rewritten.ensures.number in omega arith) in (
      last.left,
      all_counted (entries_in c.args.places.now) s.inserted.items s.rewritten.items s.erased.items came.done came.left next.done next.left last.done last.left
          ((rw c.deref.ensures.value at c.in_ok-inserted.ensures.parted) placed.inserts)
          ((rw c.deref-2.ensures.value at c.in_ok-rewritten.ensures.parted)
          (placed_behind c.args.places.now c.args.at c.args.before.now kind.Rewrite s.rewritten.items (length s.inserted.items) (came.done + came.left) s.done number placed.rewrites))
          ((rw c.deref-3.ensures.value at c.in_ok-erased.ensures.parted)
          (placed_behind c.args.places.now c.args.at c.args.before.now kind.Erase s.erased.items (length s.inserted.items + length s.rewritten.items) (next.done + next.left) s.done more placed.erases)),
    )
