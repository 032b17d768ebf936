-- All routes that the events tell of, by their prefixes.
use Rattle.std.specs.Prelude.{List, [], ◌∷◌, if◌then◌else◌}
use Rattle.rule_model.specs.AddressBlock.{AddressBlock, same_block}
use Rattle.ip_monitor.specs.declared.ranks.Ranked.{Ranked}

-- the routes of a prefix
pub record Standing : Type 0 where
  pub block : AddressBlock
  pub ranks : List Ranked

abbrev pub ranks_of : AddressBlock → List Standing → List Ranked
ranks_of block [] = []
ranks_of block (standing ∷ standings) = if same_block block standing.block then standing.ranks else ranks_of block standings

-- with these in their place
abbrev pub with_ranks : AddressBlock → List Ranked → List Standing → List Standing
with_ranks block ranks [] = record { block = block; ranks = ranks } ∷ []
with_ranks block ranks (standing ∷ standings) =
    if same_block block standing.block
    then record standing { ranks = ranks } ∷ standings
    else standing ∷ with_ranks block ranks standings
