use Rattle.std.proofs.Common.{ℕ, ◌-◌, ◌^◌, ◌<◌, inl, inr, sym, subst, arith}
use Rattle.std.specs.Prelude.{slice_index}
use Rattle.std.proofs.lemmas.Bool.{cases_eq}
use Rattle.trace_check.specs.Pages.{IsWithin}
use Rattle.trace_check.proofs.pages.bounds_of.Goals as goal

pub loop-place-init : goal.loop-place-init
loop-place-init c k least below fits = absurd (omega arith)

pub loop-place-preserved : goal.loop-place-preserved
loop-place-preserved c k least below fits = elim (cases_eq k c.loop-place.place) [
  | inl same ↦ subst (λ (n : ℕ). slice_index c.args.ranks.now n < 2 ^ 32 - 1 → IsWithin c.widened-bounds.result (slice_index c.args.ranks.now n)) (sym same) (λ fits. c.widened-bounds.ensures.has fits) fits
  | inr other ↦ c.widened-bounds.ensures.kept (slice_index c.args.ranks.now k) (c.loop-place.invariant k least (omega arith) fits)
]

pub returns : goal.returns
returns c k inside same fits =
    let all = c.loop-place-test.false in
    let last = c.page_end-end.ensures.all k inside same in
    c.loop-place.invariant k (omega arith) (omega arith) fits
