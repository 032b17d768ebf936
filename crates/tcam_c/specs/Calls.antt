-- What the calls of the library do to what stands behind a handle.
use Rattle.std.specs.Prelude.{◌≡◌, ℕ, ◌+◌, ◌<◌, ◌≤◌, [], ◌↔◌, ◌⊎◌, Result, Ok, Err, Option, Some, None, OnOk, OnErr, slice_get}
use Rattle.slot_order.specs.Order.{most_slots}
use Rattle.rule_store.specs.Batch.{most_pending}
use Rattle.rule_model.specs.AddressBlock.{ipv4_address}
use Rattle.rule_model.specs.RuleSet.{IsRuleSet}
use Rattle.rule_model.specs.declared.Key.{Key}
use Rattle.rule_model.specs.declared.Rule.{Rule}
use Rattle.rule_chains.specs.Chains.{IsLongestChain}
use Rattle.rule_store.specs.declared.Command.{Command}
use Rattle.settled_changes.specs.declared.Request.{Request}
use Rattle.rule_store.specs.declared.PushFault.{PushFault}
use Rattle.rule_store.specs.declared.PushFault.TheVariants as push
use Rattle.rule_store.specs.declared.Mode.{Mode}
use Rattle.batch_order.specs.declared.Placement.{Placement}
use Rattle.batch_order.specs.declared.Refusal.{Refusal}
use Rattle.tcam_c.specs.Codes.{push_code, refusal_code, mode_of_code, placement_by}
use Rattle.tcam_c.specs.InHand.{PreparesAll, PreparesInHand, changes_in, command_joined, held_of_table, request_joined, requests_in}
use Rattle.tcam_c.specs.Plain.{IsAnswer, IsRefusalTold, IsStoredTold, address_number}
use Rattle.tcam_c.specs.Tables.{AbortsTable, IsServingTable, PassesTable, TellsTable, answer_of_table, slots_left_of_table, fresh_table, kind_of_table, rules_of_table}
use Rattle.tcam_c.specs.declared.in_hand.PendingBatch.TheVariants.{Strict}
use Rattle.tcam_c.specs.declared.plain.TcamAnswer.{TcamAnswer}
use Rattle.tcam_c.specs.declared.plain.TcamKey.{TcamKey}
use Rattle.tcam_c.specs.declared.plain.TcamKey6.{TcamKey6}
use Rattle.tcam_c.specs.declared.plain.TcamNumbers.{TcamNumbers}
use Rattle.tcam_c.specs.declared.plain.TcamRefusal.{TcamRefusal}
use Rattle.tcam_c.specs.declared.plain.TcamStored.{TcamStored}
use Rattle.tcam_c.specs.declared.plain.TcamWrite.{TcamWrite}
use Rattle.tcam_c.specs.declared.session.Session.{Session}
use Rattle.tcam_c.specs.declared.steps.DueKind.{DueKind}
use Rattle.tcam_c.specs.declared.steps.DueKind.TheVariants as kind
use Rattle.tcam_c.specs.declared.table.TableKind.{TableKind}

-- a packet's key, of IPv4 or of IPv6
abbrev pub packet_key : TcamKey → Key
packet_key key =
    record {
      src = ipv4_address key.source;
      dst = ipv4_address key.destination;
      proto = key.protocol;
      sport = key.source_port;
      dport = key.destination_port;
    }

abbrev pub packet_key6 : TcamKey6 → Key
packet_key6 key =
    record {
      src = address_number key.source;
      dst = address_number key.destination;
      proto = key.protocol;
      sport = key.source_port;
      dport = key.destination_port;
    }

-- A call behind a handle: with no manager the code says so, and nothing changes; else it does what the relation says, and
-- the handle keeps its manager.
abbrev pub Called : (Session → Session → ℕ → Type 0) → Option Session → Option Session → ℕ → Type 0
Called does None new code = (code ≡ 1) × (new ≡ None)
Called does (Some before) new code = (after : Session) × (new ≡ Some after) × does before after code

-- a change joins the batch, or there is no room or no memory for it
abbrev pub Pushes : Command → Session → Session → ℕ → Type 0
Pushes command before after code =
    (pushed : Result (Unit {0}) PushFault) × (code ≡ push_code pushed)
    × OnOk pushed (after ≡ record before { batch = command_joined before.batch command })
    × ((pushed ≡ Err push.Full) ↔ (most_pending ≤ changes_in before.batch))
    × OnErr pushed (after ≡ before)

-- a change that plain numbers stand for, or the code of what is wrong with them
abbrev pub Enters : Result Command ℕ → Session → Session → ℕ → Type 0
Enters (Ok command) before after code = Pushes command before after code
Enters (Err fault) before after code = (code ≡ fault) × (after ≡ before)

abbrev pub Entered : (Result Command ℕ → Type 0) → Option Session → Option Session → ℕ → Type 0
Entered Stands old new code = (wanted : Result Command ℕ) × Stands wanted × Called (Enters wanted) old new code

-- a forgiving change likewise
abbrev pub Asks : Request → Session → Session → ℕ → Type 0
Asks request before after code =
    (pushed : Result (Unit {0}) PushFault) × (code ≡ push_code pushed)
    × OnOk pushed (after ≡ record before { batch = request_joined before.batch request })
    × ((pushed ≡ Err push.Full) ↔ (most_pending ≤ changes_in before.batch))
    × OnErr pushed (after ≡ before)

abbrev pub AsksOr : Result Request ℕ → Session → Session → ℕ → Type 0
AsksOr (Ok request) before after code = Asks request before after code
AsksOr (Err fault) before after code = (code ≡ fault) × (after ≡ before)

abbrev pub AskedFor : (Result Request ℕ → Type 0) → Option Session → Option Session → ℕ → Type 0
AskedFor Stands old new code = (wanted : Result Request ℕ) × Stands wanted × Called (AsksOr wanted) old new code

-- every change is taken out of the batch
abbrev pub Clears : Session → Session → ℕ → Type 0
Clears before after code = (code ≡ 0) × (after ≡ record before { batch = Strict [] })

-- the manager is freed
abbrev pub IsFreed : Option Session → Option Session → ℕ → Type 0
IsFreed None new code = (code ≡ 1) × (new ≡ None)
IsFreed (Some before) new code = (code ≡ 0) × (new ≡ None)

-- The batch is judged and planned: the manager's own clauses, with the code of the answer, and what is told of it. Where it is
-- taken it is empty then. Before the first write each key is answered as before the call.
abbrev pub Told : TcamNumbers → TcamNumbers → TcamRefusal → TcamRefusal → Result TcamNumbers Refusal → ℕ → Type 0
Told numbers numbers' refusal refusal' (Ok counts) code = (code ≡ 0) × (numbers' ≡ counts) × (refusal' ≡ refusal)
Told numbers numbers' refusal refusal' (Err fault) code =
    (code ≡ refusal_code fault) × (numbers' ≡ numbers) × IsRefusalTold fault refusal'

abbrev pub Prepared : TcamNumbers → TcamNumbers → TcamRefusal → TcamRefusal → Session → Session → ℕ → Type 0
Prepared numbers numbers' refusal refusal' before after code =
    (judged : Result TcamNumbers Refusal) × PreparesInHand before.batch judged before.table after.table
    × OnOk judged ((after.batch ≡ Strict []) × (after.told ≡ before.told))
    × OnErr judged (after ≡ before)
    × Told numbers numbers' refusal refusal' judged code

-- and likewise with the changes as the whole new set
abbrev pub PreparedAll : TcamNumbers → TcamNumbers → TcamRefusal → TcamRefusal → Session → Session → ℕ → Type 0
PreparedAll numbers numbers' refusal refusal' before after code =
    (judged : Result TcamNumbers Refusal)
    × PreparesAll (held_of_table before.table) (requests_in before.batch) judged before.table after.table
    × OnOk judged ((after.batch ≡ Strict []) × (after.told ≡ before.told))
    × OnErr judged (after ≡ before)
    × Told numbers numbers' refusal refusal' judged code

-- what is due is told, and nothing changes
abbrev pub Nexts : TcamWrite → Session → Session → ℕ → Type 0
Nexts write before after code = (code ≡ 0) × (after ≡ before) × TellsTable write before.table

-- what is due was made, and the batch stays as it is
abbrev pub PassesOn : Session → Session → ℕ → Type 0
PassesOn before after code =
    (code ≡ 0) × PassesTable before.table after.table × (after.batch ≡ before.batch) × (after.told ≡ before.told)

-- The write that is due was made. Where a drain is due, or nothing, the code says so, and nothing changes.
abbrev pub MakesDue : DueKind → Session → Session → ℕ → Type 0
MakesDue kind.Nothing before after code = (code ≡ 18) × (after ≡ before)
MakesDue kind.Drain before after code = (code ≡ 20) × (after ≡ before)
MakesDue kind.Write before after code = PassesOn before after code

abbrev pub TellsWrite : Session → Session → ℕ → Type 0
TellsWrite before after code = MakesDue (kind_of_table before.table) before after code × IsServingTable after.table

-- The drain that is due was made. Where a write is due, or nothing, the code says so, and nothing changes.
abbrev pub DrainsDue : DueKind → Session → Session → ℕ → Type 0
DrainsDue kind.Nothing before after code = (code ≡ 18) × (after ≡ before)
DrainsDue kind.Write before after code = (code ≡ 21) × (after ≡ before)
DrainsDue kind.Drain before after code = PassesOn before after code

abbrev pub TellsDrain : Session → Session → ℕ → Type 0
TellsDrain before after code = DrainsDue (kind_of_table before.table) before after code × IsServingTable after.table

-- A commit under way is turned round, or its plan is dropped, and the batch stays as it is.
abbrev pub TellsAbort : ℕ → ℕ → Session → Session → ℕ → Type 0
TellsAbort left left' before after code =
    AbortsTable left left' code before.table after.table × (after.batch ≡ before.batch) × (after.told ≡ before.told)

-- a packet is answered by the writes that were made, and nothing changes
abbrev pub AnswersPacket : Key → TcamAnswer → Session → Session → ℕ → Type 0
AnswersPacket key answer before after code =
    (code ≡ 0) × (after ≡ before) × IsAnswer (answer_of_table before.table key) answer × IsServingTable before.table

-- The rule at the cursor is told, and the cursor goes on to the next one. Where the set has none there the code says so, and
-- nothing is told. The set is listed by strictly falling priority, so each rule has one place. While a commit is under way it is
-- the old set.
abbrev pub IsRuleAt : Option Rule → ℕ → ℕ → TcamStored → TcamStored → ℕ → Type 0
IsRuleAt None cursor cursor' told told' code = (code ≡ 26) × (cursor' ≡ cursor) × (told' ≡ told)
IsRuleAt (Some rule) cursor cursor' told told' code = (code ≡ 0) × (cursor' ≡ cursor + 1) × IsStoredTold rule told'

abbrev pub ListsRule : ℕ → ℕ → TcamStored → TcamStored → Session → Session → ℕ → Type 0
ListsRule cursor cursor' told told' before after code =
    (after ≡ before) × IsRuleSet (rules_of_table before.table)
    × IsRuleAt (slice_get (rules_of_table before.table) cursor) cursor cursor' told told' code

-- how many slots are free is told, and nothing changes
abbrev pub TellsFree : ℕ → Session → Session → ℕ → Type 0
TellsFree free before after code = (code ≡ 0) × (after ≡ before) × (free ≡ slots_left_of_table before.table)

-- The length of the longest overlap chain of the rules is told, or memory to find it is wanting, and then nothing is told.
-- Nothing else changes. While a commit is under way the rules are the old set.
abbrev pub TellsChain : ℕ → ℕ → Session → Session → ℕ → Type 0
TellsChain longest longest' before after code =
    (after ≡ before)
    × (((code ≡ 0) × IsLongestChain (rules_of_table before.table) longest') ⊎ ((code ≡ 11) × (longest' ≡ longest)))

-- a manager without rules, of a blank memory of this kind
abbrev pub fresh_session : TableKind → ℕ → Mode → Placement → Session
fresh_session table_kind slots mode placement = record { table = fresh_table table_kind slots mode placement; batch = Strict []; told = None }

-- A manager is made of a blank memory, where the handle has none and the numbers are right.
abbrev pub MakesOf : TableKind → ℕ → Option Mode → Option Placement → Option Session → ℕ → Type 0
MakesOf table_kind slots None placement new code = (code ≡ 4) × (new ≡ None)
MakesOf table_kind slots (Some mode) None new code = (code ≡ 5) × (new ≡ None)
MakesOf table_kind slots (Some mode) (Some placement) new code =
    ((code ≡ 0) × (new ≡ Some (fresh_session table_kind slots mode placement)) × IsServingTable (fresh_table table_kind slots mode placement))
    ⊎ ((code ≡ 11) × (new ≡ None))

abbrev pub IsMade : TableKind → ℕ → ℕ → ℕ → Option Session → Option Session → ℕ → Type 0
IsMade table_kind slots mode placement (Some before) new code = (code ≡ 2) × (new ≡ Some before)
IsMade table_kind slots mode placement None new code =
    ((code ≡ 3) × (new ≡ None) × ((slots < 1) ⊎ (most_slots < slots)))
    ⊎ ((1 ≤ slots) × (slots ≤ most_slots) × MakesOf table_kind slots (mode_of_code mode) (placement_by placement) new code)
