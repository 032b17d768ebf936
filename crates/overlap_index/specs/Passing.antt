-- The ids that are left of those on one side of a live one.
use Rattle.std.specs.Prelude.{ℕ, List, drop}
use Rattle.overlap_index.specs.Sides.{ids_on}
use Rattle.overlap_index.specs.declared.overlaps.Origin.{Origin}
use Rattle.overlap_index.specs.declared.overlaps.Origin.TheVariants.{Linked, Passed}
use Rattle.overlap_index.specs.declared.overlaps.Pass.{Pass}

-- of a pass those that it comes to yet
abbrev pub left_of_pass : Pass → List ℕ
left_of_pass pass = ids_on pass.side pass.of (drop pass.at pass.pieces.now)

-- and of those that are linked, or found by a pass
abbrev pub left_of : Origin → List ℕ
left_of (Linked partners) = partners
left_of (Passed pass) = left_of_pass pass
