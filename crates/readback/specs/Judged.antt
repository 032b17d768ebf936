-- How a batch is judged by the rules and the batch alone, without memory.
use Rattle.std.specs.Prelude.{Result, Ok, Err}
use Rattle.rule_store.specs.Verdict.{Verdict, Accepted, Unsound, OutOfBits, OutOfSlots}
use Rattle.readback.specs.declared.Rejection.{Rejection}
use Rattle.readback.specs.declared.Rejection.TheVariants as rejection

-- the answer that a verdict is
abbrev pub judgement : Verdict → Result (Unit {0}) Rejection
judgement Accepted = Ok tt
judgement (Unsound fault) = Err (rejection.Unsound fault)
judgement (OutOfBits field needed free) = Err (rejection.Bits field needed free)
judgement (OutOfSlots needed free) = Err (rejection.Slots needed free)
