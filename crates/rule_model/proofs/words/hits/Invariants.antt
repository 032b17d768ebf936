use Rattle.std.proofs.Common.{◌≡◌, drop}
use Rattle.rule_model.specs.Entry.{lanes_match}
use Rattle.rule_model.proofs.words.hits.Given as goal

-- the lanes before i agree
abbrev pub invariant-loop-i : goal.invariant-loop-i
invariant-loop-i l =
    lanes_match l.word.lane l.entry.value.lane l.entry.mask.lane
    ≡ lanes_match (drop l.i l.word.lane) (drop l.i l.entry.value.lane) (drop l.i l.entry.mask.lane)
