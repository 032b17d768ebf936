use Rattle.std.proofs.Common.{◌∙◌, arith}
use Rattle.nft_rulesets.specs.declared.fields.Field.TheVariants as field
use Rattle.nft_rulesets.proofs.Loops.{part-lacking, parts-over}
use Rattle.nft_rulesets.proofs.concats.parts_product.Goals as goal

pub returns-then-place-parts : goal.returns-then-place-parts
returns-then-place-parts c = c.loop-place.invariant.same ∙ part-lacking c.args.version c.args.fields.now c.args.parts.now _ c.loop-place.place field.Absent (omega arith) (omega arith)

pub returns-then-parts-fields : goal.returns-then-parts-fields
returns-then-parts-fields c = c.loop-place.invariant.same ∙ parts-over c.args.version c.args.fields.now c.args.parts.now _ c.loop-place.place (omega arith) (omega arith)
