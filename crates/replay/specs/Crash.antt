-- What a commit that crashed and was gone on with does to packets.
use Rattle.std.specs.Prelude.{ℕ, List, take}
use Rattle.rule_model.specs.declared.Rule.{Rule}
use Rattle.rule_store.specs.Batch.{set_after}
use Rattle.tcam_device.specs.declared.Write.{Write}
use Rattle.tcam_device.specs.State.{State, Shows, state_after}
use Rattle.tcam_device.specs.Hitless.{ShowsOldOrNew}
use Rattle.replay.specs.Effects.{Setting, Effect, journal_of}
use Rattle.replay.specs.Run.{Progress, Restarts}

-- after each of these writes every key has the old or the new answer, and in the end the new one
pub record IsOldOrNew (old new : List Rule) (state : State) (writes : List Write) : Type 0 where
  pub during : (n : ℕ) → ShowsOldOrNew (state_after state (take n writes)) old new
  pub after : Shows (state_after state writes) new

-- Such are all writes of a commit that crashed, those before and those of the manager that went on.
abbrev pub CrashedPartsAreOldOrNew : Type 0
CrashedPartsAreOldOrNew =
    (setting : Setting) (old new : Progress) (after : ℕ) (effects : List Effect) → Restarts setting old after effects new
    → IsOldOrNew old.rules (set_after old.rules old.batch) old.state (journal_of effects)
