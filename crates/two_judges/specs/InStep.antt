-- Two judges of one trace know the same of it.
use Rattle.std.specs.Prelude.{◌≡◌, ◌<◌, ◌^◌, List, []}
use Rattle.std.specs.List.{AllByRecursion}
use Rattle.rule_model.specs.Rule.{HasConditions}
use Rattle.rule_model.specs.RuleSet.{IsRuleSet}
use Rattle.rule_store.specs.declared.Command.{Command}
use Rattle.rule_store.specs.Batch.{ChangesRules}
use Rattle.range_bits.specs.FieldMap.{IsFieldMap}
use Rattle.tcam_device.specs.State.{IsState}
use Rattle.readback.specs.Fault.{AreSetBits}
use Rattle.trace_file.specs.declared.TraceLine.{TraceLine}
use Rattle.trace_file.specs.declared.TraceLine.TheVariants.{Add, Table}
use Rattle.trace_check.specs.declared.places.Place.{Place}
use Rattle.trace_check.specs.declared.places.Place.TheVariants.{AtStart, Between, InBatch, InEvents, AtEnd}
use Rattle.trace_check.specs.Checked.{Checked}
use Rattle.trace_check.specs.Orderly.{Tracing}
use Rattle.driver_trace.specs.Known.{Known}
use Rattle.line_judge.specs.Followed.{Followed}

-- what a judge of packets knows, where a check of the order knows this
abbrev pub known_by : Tracing → Known
known_by now =
    record {
      version = now.version;
      slots = now.slots;
      rules = now.rules;
      batch = now.batch;
      state = now.state;
      writes = now.writes;
      commits = now.accepted;
    }

-- between commits no command is pending
abbrev pub IsIdleAt : Place → List Command → Type 0
IsIdleAt AtStart batch = batch ≡ []
IsIdleAt (Between n) batch = batch ≡ []
IsIdleAt (InBatch n k) batch = Unit {0}
IsIdleAt (InEvents n) batch = Unit {0}
IsIdleAt AtEnd batch = Unit {0}

-- The set is one, the conditions of its rules and of those that the commit under way adds are right, its ranges have their
-- bits, and the device has the slots in use, and a word of 16 bits for each port.
pub record HasRightSet (now : Tracing) : Type 0 where
  pub is_set : IsRuleSet now.rules
  pub right : AllByRecursion HasConditions now.rules
  pub changes : AllByRecursion ChangesRules now.batch
  pub src_map : IsFieldMap now.bits.src
  pub dst_map : IsFieldMap now.bits.dst
  pub bits_are : AreSetBits now.mode now.rules now.bits
  pub sized : IsState now.slots now.state

-- A check of the order and a judge of packets stand at one place of a trace and know the same of it, and that is right.
pub record AreInStep (check : Checked) (judge : Followed) : Type 0 where
  pub place : check.place ≡ judge.place
  pub known : known_by check.now ≡ judge.now
  pub idle : IsIdleAt check.place check.now.batch
  pub set : HasRightSet check.now

-- what the types of a line's numbers say that a judgement asks for
abbrev pub IsLineRight : TraceLine → Type 0
IsLineRight (Add rule) = HasConditions rule
IsLineRight (Table field port word) = word < 2 ^ 16
IsLineRight line = Unit {0}
