-- What follows of the bound on the insertions of routes.
use Rattle.std.specs.Prelude.{List}
use Rattle.tcam_device.specs.Insertion.{Insertion, IsUncrossed}
use Rattle.report_lines.specs.declared.Family.TheVariants.{Route}
use Rattle.replay.specs.Run.{OfFamily}

-- None takes more writes than one and two for each of the 33 lengths of a prefix, the bound where no move overwrites.
abbrev pub RoutesAreWithinBound : Type 0
RoutesAreWithinBound = (made : List Insertion) → OfFamily Route made → IsUncrossed 67 made
