-- A batch with one command more.
use Rattle.std.specs.Prelude.{◌≡◌, Bool, IsTrue, List, [], ◌∷◌, ◌++◌}
use Rattle.rule_model.specs.declared.Rule.{Rule}
use Rattle.rule_store.specs.declared.Command.{Command}
use Rattle.rule_store.specs.Batch.{IsSound, commands_naming, named_priority}

-- A command is the last one of a batch whose others can be meant; true says that none of these names its priority.
pub record IsLastOf (rules : List Rule) (batch : List Command) (command : Command) (unnamed : Bool) : Type 0 where
  pub earlier : List Command
  pub batch_is : batch ≡ earlier ++ command ∷ []
  pub sound : IsSound rules earlier
  pub alone : IsTrue unnamed → commands_naming (named_priority command) earlier ≡ []
