use Rattle.std.proofs.Common.{◌≡◌, ◌<◌, length, inl, inr, sym, ◌∙◌, subst, arith}
use Rattle.std.specs.Prelude.{slice_index}
use Rattle.std.proofs.lemmas.Bool.{cases_eq}
use Rattle.word_cubes.specs.Cube.{clash}
use Rattle.word_cubes.proofs.Parts.{clash_misses}
use Rattle.word_cubes.proofs.lanes.is_apart.Goals as goal

pub returns-then-differing-ne0-clause-apart : goal.returns-then-differing-ne0-clause-apart
returns-then-differing-ne0-clause-apart c = λ apart word is_word within.
    let at = c.clash_at-differing.ensures in
    clash_misses word.lane is_word c.args.entry.now.value.lane c.args.entry.now.mask.lane c.args.cube.now.value.lane c.args.cube.now.mask.lane c.loop-i.i
    at.words.0 at.words.1 at.lanes.0 at.lanes.1 c.loop-i-test.true (λ none. c.if-differing-ne0.true (at.bits ∙ none)) within

pub loop-i-preserved : goal.loop-i-preserved
loop-i-preserved c =
    let at = c.clash_at-differing.ensures in
    λ lane below. elim (cases_eq lane c.loop-i.i) [
      | inl same ↦ subst (λ n. (n < length c.args.cube.now.value.lane) × (n < length c.args.cube.now.mask.lane)
          × (clash (slice_index c.args.entry.now.value.lane n) (slice_index c.args.entry.now.mask.lane n) (slice_index c.args.cube.now.value.lane n) (slice_index c.args.cube.now.mask.lane n) ≡ 0))
          (sym same) (at.lanes.0, at.lanes.1, sym at.bits ∙ c.if-differing-ne0.false)
      | inr other ↦ c.loop-i.invariant lane (omega arith)
    ]
