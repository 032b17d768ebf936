-- What a restart is told and does, behind a handle.
use Rattle.std.specs.Prelude.{◌≡◌, ℕ, ◌<◌, [], ◌⊎◌, Result, Ok, Err, Option, Some, None, List, length}
use Rattle.slot_order.specs.Order.{most_slots}
use Rattle.rule_store.specs.declared.Command.{Command}
use Rattle.rule_store.specs.declared.Mode.{Mode}
use Rattle.settled_changes.specs.declared.SettleFault.{SettleFault}
use Rattle.settled_changes.specs.declared.SettleFault.TheVariants as settling
use Rattle.settled_changes.specs.Requests.{AreTaken}
use Rattle.settled_changes.specs.Settled as changes
use Rattle.tcam_device.specs.State.{State, replay}
use Rattle.tcam_device.specs.Flight.{writes_in}
use Rattle.readback.specs.declared.Parts.{Parts}
use Rattle.readback.specs.declared.Rejection.TheVariants as rejections
use Rattle.readback.specs.declared.StageFault.{StageFault}
use Rattle.readback.specs.declared.StageFault.TheVariants as stage
use Rattle.batch_order.specs.CarriedOut.{writes_left}
use Rattle.batch_order.specs.Managed.{Managed}
use Rattle.batch_order.specs.Restart.{AnswersRestart, bits_in}
use Rattle.batch_order.specs.declared.Placement.{Placement}
use Rattle.batch_order.specs.declared.Refusal.TheVariants.{Rejected}
use Rattle.batch_order.specs.declared.restarting.fault.RestartFault.{RestartFault}
use Rattle.batch_order.specs.declared.restarting.fault.RestartFault.TheVariants as restart
use Rattle.tcam_c.specs.Codes.{refusal_code}
use Rattle.tcam_c.specs.Driven.{Driven, IsServing, settled}
use Rattle.tcam_c.specs.Plain.{IsRefusalTold, IsTag, field_code, no_tag}
use Rattle.tcam_c.specs.Told.{Account, blank_account}
use Rattle.tcam_c.specs.declared.plain.TcamRefusal.{TcamRefusal}
use Rattle.tcam_c.specs.declared.in_hand.PendingBatch.{PendingBatch}
use Rattle.tcam_c.specs.declared.in_hand.PendingBatch.TheVariants.{Strict, Asked}
use Rattle.tcam_c.specs.declared.restarting.GoOnFault.{GoOnFault}
use Rattle.tcam_c.specs.declared.restarting.GoOnFault.TheVariants as go_on
use Rattle.tcam_c.specs.declared.stage_told.TcamRestartFault.{TcamRestartFault}
use Rattle.tcam_c.specs.declared.session.Session.{Session}
use Rattle.tcam_c.specs.declared.table.Table.{Table}
use Rattle.tcam_c.specs.declared.table.Table.TheVariants.{Whole, Split}

-- a manager that has no rules, and no commit under way
abbrev pub IsUnused : Managed → Type 0
IsUnused manager = (manager.rules ≡ []) × (manager.held ≡ None)

-- A restart is begun: nothing is told yet, to a manager of this setting. What is wrong is told in this order: the results stand
-- beside the slots; the manager isn't unused; its slots are as many as no manager has that `tcam_c_new` made; memory is wanting.
abbrev pub BeginsUnused : Managed → Session → Session → ℕ → Type 0
BeginsUnused manager before after code =
    ((code ≡ 3) × (after ≡ before) × ((manager.slots < 1) ⊎ (most_slots < manager.slots)))
    ⊎ (((code ≡ 11) × (after ≡ before))
    ⊎ ((code ≡ 0) × (after ≡ record before { told = Some (blank_account manager.slots manager.mode manager.placement) })))

abbrev pub BeginsOn : Table → Session → Session → ℕ → Type 0
BeginsOn (Split manager) before after code = (code ≡ 28) × (after ≡ before)
BeginsOn (Whole driven) before after code =
    ((code ≡ 29) × (after ≡ before) × ¬ IsUnused driven.manager)
    ⊎ (IsUnused driven.manager × BeginsUnused driven.manager before after code)

abbrev pub BeginsRestart : Session → Session → ℕ → Type 0
BeginsRestart before after code = BeginsOn before.table before after code

-- Something is told of the restart that is begun. Where it isn't taken what was told stays as it is, and so all does.
abbrev pub answer_code : Result (Unit {0}) ℕ → ℕ
answer_code (Ok done) = 0
answer_code (Err code) = code

abbrev pub TellsMoreOn : (Account → Result (Unit {0}) ℕ → Account → Type 0) → Option Account → Session → Session → ℕ → Type 0
TellsMoreOn does None before after code = (code ≡ 30) × (after ≡ before)
TellsMoreOn does (Some told) before after code =
    (answer : Result (Unit {0}) ℕ) × (now : Account) × does told answer now × (code ≡ answer_code answer) × (after ≡ record before { told = Some now })

abbrev pub TellsMore : (Account → Result (Unit {0}) ℕ → Account → Type 0) → Session → Session → ℕ → Type 0
TellsMore does before after code = TellsMoreOn does before.told before after code

-- all that was told is taken out again
abbrev pub ForgetsTold : Session → Session → ℕ → Type 0
ForgetsTold before after code = (code ≡ 0) × (after ≡ record before { told = None })

-- what is wrong with the memory, and 0 in the fields that its kind doesn't name
abbrev pub no_stage_fault : TcamRestartFault
no_stage_fault = record { kind = 0; slot = 0; field = 0; port = 0; tag = no_tag }

abbrev pub IsStageTold : StageFault → TcamRestartFault → Type 0
IsStageTold (stage.BitsDiffer field) told = told ≡ record no_stage_fault { kind = 1; field = field_code field }
IsStageTold (stage.Word field port) told = told ≡ record no_stage_fault { kind = 2; field = field_code field; port = port }
IsStageTold (stage.Foreign slot) told = told ≡ record no_stage_fault { kind = 3; slot = slot }
IsStageTold (stage.Crossed slot) told = told ≡ record no_stage_fault { kind = 4; slot = slot }
IsStageTold (stage.Twin slot) told = told ≡ record no_stage_fault { kind = 5; slot = slot }
IsStageTold (stage.Gap priority) told = IsTag priority told.tag × (told ≡ record no_stage_fault { kind = 6; tag = told.tag })
IsStageTold stage.Memory told = told ≡ no_stage_fault

-- what a restart tells besides its code
pub record Reply : Type 0 where
  pub left : ℕ
  pub refusal : TcamRefusal
  pub fault : TcamRestartFault

abbrev pub reply : ℕ → TcamRefusal → TcamRestartFault → Reply
reply left refusal fault = record { left = left; refusal = refusal; fault = fault }

-- why there is none: the rules alone refuse the batch, memory is wanting, or the memory shows no stage of its commit
abbrev pub IsStageReply : StageFault → Reply → Reply → ℕ → Type 0
IsStageReply stage.Memory was now code = (code ≡ 11) × (now ≡ was)
IsStageReply (stage.BitsDiffer field) was now code = (code ≡ 34) × IsStageTold (stage.BitsDiffer field) now.fault × (now ≡ record was { fault = now.fault })
IsStageReply (stage.Word field port) was now code = (code ≡ 34) × IsStageTold (stage.Word field port) now.fault × (now ≡ record was { fault = now.fault })
IsStageReply (stage.Foreign slot) was now code = (code ≡ 34) × IsStageTold (stage.Foreign slot) now.fault × (now ≡ record was { fault = now.fault })
IsStageReply (stage.Crossed slot) was now code = (code ≡ 34) × IsStageTold (stage.Crossed slot) now.fault × (now ≡ record was { fault = now.fault })
IsStageReply (stage.Twin slot) was now code = (code ≡ 34) × IsStageTold (stage.Twin slot) now.fault × (now ≡ record was { fault = now.fault })
IsStageReply (stage.Gap priority) was now code = (code ≡ 34) × IsStageTold (stage.Gap priority) now.fault × (now ≡ record was { fault = now.fault })

abbrev pub IsFaultReply : RestartFault → Reply → Reply → ℕ → Type 0
IsFaultReply (restart.Refused rejection) was now code =
    (code ≡ refusal_code (Rejected rejection)) × IsRefusalTold (Rejected rejection) now.refusal × (now ≡ record was { refusal = now.refusal })
IsFaultReply (restart.Stage fault) was now code = IsStageReply fault was now code

-- what was told, as the parts that a restart asks for
pub record ArePartsTold (told : Account) (parts : Parts) : Type 0 where
  pub rules : parts.rules.rules ≡ told.rules
  pub bits : bits_in parts ≡ told.bits

-- what a restart from what was told answers
abbrev pub AnswersTold : Account → List Command → Parts → Result Managed (RestartFault × Parts) → Type 0
AnswersTold told batch parts answer =
    AnswersRestart told.slots told.mode told.placement parts batch told.slots (replay told.slots (writes_in told.events)) answer

-- the manager that a restart made, where it has nothing left, has come to its commit's end
abbrev pub IsRestartSettled : ℕ → Mode → Placement → Parts → List Command → State → Result Managed (RestartFault × Parts) → Type 0
IsRestartSettled slots mode placement parts batch state (Ok manager) =
    (restarted : Managed) × AnswersRestart slots mode placement parts batch slots state (Ok restarted) × (manager ≡ settled restarted)
IsRestartSettled slots mode placement parts batch state (Err refused) =
    AnswersRestart slots mode placement parts batch slots state (Err refused)

-- A manager goes on with the commit that the memory shows: it holds what is left of it, or has finished it where nothing is. The
-- writes that were made are those that were told of.
pub record GoesOnTold (told : Account) (batch : List Command) (driven : Driven) : Type 0 where
  pub parts : Parts
  pub are_parts : ArePartsTold told parts
  pub restarted : Managed
  pub answers : AnswersTold told batch parts (Ok restarted)
  pub manager : driven.manager ≡ settled restarted
  pub events : driven.events ≡ told.events
  pub serves : IsServing driven

-- A restart is refused by this fault.
pub record RefusesTold (told : Account) (batch : List Command) (fault : RestartFault) : Type 0 where
  pub parts : Parts
  pub are_parts : ArePartsTold told parts
  pub back : Parts
  pub answers : AnswersTold told batch parts (Err (fault, back))

-- It goes on with the commit of the batch in hand. Requests are settled over the rules that were told: so those that a batch came of
-- come to the same one again.
abbrev pub GoesOnFor : Account → PendingBatch → Driven → Type 0
GoesOnFor told (Strict batch) driven = GoesOnTold told batch driven
GoesOnFor told (Asked requests) driven = AreTaken told.rules requests × GoesOnTold told (changes.settled told.rules requests) driven

-- why it doesn't: a restart is refused, or the requests come to no batch
abbrev pub RefusesFor : Account → PendingBatch → GoOnFault → Type 0
RefusesFor told (Strict batch) (go_on.Restart fault) = RefusesTold told batch fault
RefusesFor told (Strict batch) (go_on.Unsettled fault) = ⊥
RefusesFor told (Asked requests) (go_on.Restart fault) = AreTaken told.rules requests × RefusesTold told (changes.settled told.rules requests) fault
RefusesFor told (Asked requests) (go_on.Unsettled fault) = changes.IsWhyUnsettled told.rules requests fault

abbrev pub IsSettleReply : SettleFault → Reply → Reply → ℕ → Type 0
IsSettleReply (settling.Unsound fault) was now code =
    (code ≡ refusal_code (Rejected (rejections.Unsound fault))) × IsRefusalTold (Rejected (rejections.Unsound fault)) now.refusal
    × (now ≡ record was { refusal = now.refusal })
IsSettleReply settling.Memory was now code = (code ≡ 11) × (now ≡ was)

abbrev pub IsGoOnReply : GoOnFault → Reply → Reply → ℕ → Type 0
IsGoOnReply (go_on.Restart fault) was now code = IsFaultReply fault was now code
IsGoOnReply (go_on.Unsettled fault) was now code = IsSettleReply fault was now code

-- A restart with the batch. With a manager that goes on the batch is empty then, and nothing is told; else all is as before.
pub record GoesOnWith (told : Account) (was now : Reply) (before after : Session) : Type 0 where
  pub driven : Driven
  pub goes_on : GoesOnFor told before.batch driven
  pub after_is : after ≡ record { table = Whole driven; batch = Strict []; told = None }
  pub left : now ≡ record was { left = length (writes_left driven.manager.held) }

pub record IsRefusedWith (told : Account) (was now : Reply) (before after : Session) (code : ℕ) : Type 0 where
  pub fault : GoOnFault
  pub refuses : RefusesFor told before.batch fault
  pub same : after ≡ before
  pub replies : IsGoOnReply fault was now code

abbrev pub TakesUpUnused : Account → Reply → Reply → Session → Session → ℕ → Type 0
TakesUpUnused told was now before after code =
    ((code ≡ 0) × GoesOnWith told was now before after) ⊎ IsRefusedWith told was now before after code

-- What is wrong is told in this order: the results stand beside the slots; no restart is begun; the manager isn't unused; and then what
-- the restart itself answers.
abbrev pub TakesUpOn : Table → Option Account → Reply → Reply → Session → Session → ℕ → Type 0
TakesUpOn (Split manager) told was now before after code = (code ≡ 28) × (now ≡ was) × (after ≡ before)
TakesUpOn (Whole driven) None was now before after code = (code ≡ 30) × (now ≡ was) × (after ≡ before)
TakesUpOn (Whole driven) (Some told) was now before after code =
    ((code ≡ 29) × (now ≡ was) × (after ≡ before) × ¬ IsUnused driven.manager)
    ⊎ (IsUnused driven.manager × TakesUpUnused told was now before after code)

abbrev pub TakesUp : Reply → Reply → Session → Session → ℕ → Type 0
TakesUp was now before after code = TakesUpOn before.table before.told was now before after code
