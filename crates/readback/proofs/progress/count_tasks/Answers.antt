use Rattle.std.proofs.Common.{sym}
use Rattle.std.proofs.lemmas.Result.{err_from_is_err_and, IfErr-weaker, IfOk-weaker}
use Rattle.readback.proofs.Counted.{early_first, early_second, early_third, counted}
use Rattle.readback.proofs.progress.count_tasks.Goals as goal

pub returns-in_err-inserted-clause-early : goal.returns-in_err-inserted-clause-early
returns-in_err-inserted-clause-early c =
    let p = err_from_is_err_and c.from_residual.result c.from_residual.ensures.1 in
    rw (p.1, p.2) (rw (sym c.commit.view_is) (early_first c.args.held.now c.commit.inside.inserted.items c.commit.inside.rewritten.items c.commit.inside.erased.items c.in_err-inserted.field-0.0
    (rw c.deref.ensures.value at c.in_err-inserted.ensures.early)))

pub returns-in_err-rewritten-clause-early : goal.returns-in_err-rewritten-clause-early
returns-in_err-rewritten-clause-early c =
    let p = err_from_is_err_and c.from_residual-in_err-rewritten.result c.from_residual-in_err-rewritten.ensures.1 in
    rw (p.1, p.2) (rw (sym c.commit.view_is) (early_second c.args.held.now c.commit.inside.inserted.items c.commit.inside.rewritten.items c.commit.inside.erased.items
    c.in_ok-inserted.inserted.done c.in_ok-inserted.inserted.left c.in_err-rewritten.field-0.0
    (rw c.deref.ensures.value at c.in_ok-inserted.ensures.parted) (rw c.deref-2.ensures.value at c.in_err-rewritten.ensures.early)))

pub returns-clause-parted : goal.returns-clause-parted
returns-clause-parted c =
    rw (sym c.commit.view_is) (IfOk-weaker c.count-3.result _ _ (λ came third. counted c.args.held.now c.commit.inside.inserted.items c.commit.inside.rewritten.items c.commit.inside.erased.items
    c.in_ok-inserted.inserted.done c.in_ok-inserted.inserted.left c.in_ok-rewritten.rewritten.done c.in_ok-rewritten.rewritten.left came.done came.left
    (rw c.deref.ensures.value at c.in_ok-inserted.ensures.parted) (rw c.deref-2.ensures.value at c.in_ok-rewritten.ensures.parted) (rw c.deref-3.ensures.value at third)) c.count-3.ensures.parted)

pub returns-clause-early : goal.returns-clause-early
returns-clause-early c =
    rw (sym c.commit.view_is) (IfErr-weaker c.count-3.result _ _ (λ priority early. early_third c.args.held.now c.commit.inside.inserted.items c.commit.inside.rewritten.items c.commit.inside.erased.items
    c.in_ok-inserted.inserted.done c.in_ok-inserted.inserted.left c.in_ok-rewritten.rewritten.done c.in_ok-rewritten.rewritten.left priority
    (rw c.deref.ensures.value at c.in_ok-inserted.ensures.parted) (rw c.deref-2.ensures.value at c.in_ok-rewritten.ensures.parted) (rw c.deref-3.ensures.value at early)) c.count-3.ensures.early)
