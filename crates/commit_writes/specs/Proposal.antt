-- A batch that is proposed for a set of rules.
use Rattle.rule_model.specs.declared.Rule.{Rule}
use Rattle.rule_store.specs.declared.Command.{Command}
use Rattle.rule_store.specs.declared.Mode.{Mode}
use Rattle.std.specs.Prelude.{List}
use Rattle.commit_writes.specs.Bits.{FieldBits}

-- how port ranges are encoded, the set's live ranges, its rules, and the batch
pub record Proposal : Type 0 where
  pub mode : Mode
  pub bits : FieldBits
  pub rules : List Rule
  pub batch : List Command

abbrev pub proposal : Mode → FieldBits → List Rule → List Command → Proposal
proposal mode bits rules batch = record { mode = mode; bits = bits; rules = rules; batch = batch }
