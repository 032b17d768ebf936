use Rattle.std.proofs.Common.{inl, inr, sym, subst, arith}
use Rattle.std.specs.Prelude.{slice_index}
use Rattle.std.proofs.lemmas.Bool.{cases_eq}
use Rattle.word_cubes.specs.Cube.{IsCovered}
use Rattle.word_cubes.proofs.Parts.{covered_hits}
use Rattle.word_cubes.proofs.lanes.free_bit.Goals as goal

pub returns-clause-none : goal.returns-clause-none
returns-clause-none c = λ none near word is_word within.
    covered_hits word.lane is_word c.args.entry.now.value.lane c.args.entry.now.mask.lane c.args.cube.now.value.lane c.args.cube.now.mask.lane
    near (λ lane below. c.loop-i.invariant lane (omega arith)) within

pub loop-i-preserved : goal.loop-i-preserved
loop-i-preserved c = λ lane below. elim (cases_eq lane c.loop-i.i) [
  | inl same ↦ subst (λ n. IsCovered (slice_index c.args.entry.now.mask.lane n) (slice_index c.args.cube.now.mask.lane n)) (sym same) c.if-free-ne0.false
  | inr other ↦ c.loop-i.invariant lane (omega arith)
]
