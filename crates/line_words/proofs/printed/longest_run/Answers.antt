use Rattle.std.proofs.Common.{◌≡◌, ◌+◌, ◌≤◌, length, sym, arith, subst}
use Rattle.line_words.specs.declared.printed.ZeroRun.{ZeroRun}
use Rattle.line_words.specs.Shown.{longest_run}
use Rattle.line_words.proofs.Longest.{shortens_the_longest}
use Rattle.line_words.proofs.printed.longest_run.Goals as goal

pub returns-clause-inside : goal.returns-clause-inside
returns-clause-inside c =
    let groups = c.args.groups.now in
    let first : c.loop-place.place ≡ 0 = omega arith in
    let is : c.loop-place.longest ≡ longest_run 0 groups = rw first at c.loop-place.invariant.longest in
    subst (λ (run : ZeroRun). run.before + run.len ≤ length groups) (sym is) (shortens_the_longest groups).inside
