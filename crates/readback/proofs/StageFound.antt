-- The answer to which stage a device shows.
use Rattle.std.proofs.Common.{◌≡◌, ℕ, true, Option, Some, None, Result, Ok, Err, IfOk, IfErr, List, ◌++◌, Contains, IsTrue, inl, inr, sym, ◌∙◌, ap, ap₂, subst}
use Rattle.std.specs.Prelude.{IfSome}
use Rattle.std.specs.List.{AllByRecursion}
use Rattle.std.proofs.lemmas.Result.{IfOk-weaker, IfErr-weaker}
use Rattle.rule_model.specs.declared.Rule.{Rule}
use Rattle.rule_model.specs.declared.Field.{Field}
use Rattle.rule_model.specs.declared.Field.TheVariants.{Src, Dst}
use Rattle.rule_store.specs.declared.Mode.{Mode}
use Rattle.rule_store.specs.declared.Command.{Command}
use Rattle.rule_model.specs.Rule.{HasConditions}
use Rattle.rule_model.specs.RuleSet.{IsRuleSet}
use Rattle.rule_store.specs.Batch.{ChangesRules, additions}
use Rattle.rule_store.specs.Verdict.{Accepted, verdict}
use Rattle.range_bits.specs.LiveRanges.{LiveRanges}
use Rattle.range_bits.specs.FieldMap.{IsFieldMap}
use Rattle.rule_model.specs.declared.words.Entry.{Entry}
use Rattle.rule_model.specs.Entry.{RankedPiece, IsEncodable}
use Rattle.tcam_device.specs.declared.Write.{Write}
use Rattle.tcam_device.specs.State.{State, IsState, replay, state_after}
use Rattle.commit_writes.specs.Bits.{FieldBits, bits_with}
use Rattle.commit_writes.specs.Serving.{AreServing, AreTranslated}
use Rattle.commit_writes.specs.Shape.{set_pieces, inserted_pieces, rewritten_pieces, erased_pieces, fresh_writes}
use Rattle.commit_writes.proofs.BatchPieces.{rewritten_stays}
use Rattle.commit_writes.proofs.BatchRules.{IsSoundChange}
use Rattle.commit_writes.proofs.Filters.{all_members}
use Rattle.commit_writes.proofs.ServedTables.{tables_serve}
use Rattle.commit_writes.specs.Changes.{coded_by, during_of}
use Rattle.readback.specs.declared.Stage.{Stage}
use Rattle.readback.specs.declared.StageFault.{StageFault}
use Rattle.readback.specs.declared.StageFault.TheVariants.{BitsDiffer, Word, Foreign, Crossed, Twin, Gap, Memory}
use Rattle.readback.specs.Fault.{AreSetBits, AreSetRanges, HasWrongWord, IsFaultOf}
use Rattle.readback.specs.declared.staging.Shown.{Shown}
use Rattle.readback.specs.Found.{AnswersStage, IsRead, IsShown, stage_in}
use Rattle.readback.specs.Laws.{CanCommit}
use Rattle.readback.specs.Sorted.{AreSorted, IsSlotFault}
use Rattle.readback.specs.Stage.{Finds}
use Rattle.readback.specs.Tasks.{CommitPieces, commit_pieces, pieces_with, known_pieces, IsStanding, stands_in}
use Rattle.readback.specs.Words.{AreRight, AreShort, NamesWord}
use Rattle.readback.proofs.Accepted.{taken}
use Rattle.readback.proofs.Assembled.{finds}
use Rattle.readback.proofs.Begun.{begun, change_of}
use Rattle.readback.proofs.Facts.{ArePieces, old_known, inserted_known}
use Rattle.readback.proofs.Faults.{stages_have_no_fault}
use Rattle.readback.proofs.Pieces.{pieces_are, served, new_served}
use Rattle.readback.proofs.Places.{none_foreign, none_crossed, none_missing}
use Rattle.readback.proofs.Replayed.{replayed}
use Rattle.readback.proofs.Tests.{stands_is, stands_from}

-- a fault that applies may be answered
pub fault_answers : (slots : ℕ) (mode : Mode) (bits : FieldBits) (rules : List Rule) (batch : List Command) (state : State) (fault : StageFault) → IsFaultOf slots mode bits rules batch state fault
    → AnswersStage slots mode bits rules batch state (Err fault)
fault_answers slots mode bits rules batch state fault is =
    record { bits_are = tt; found = tt; fault = is; no_fault = λ are stage. stages_have_no_fault slots mode bits rules batch state fault stage are is }

pub differ_answers : (slots : ℕ) (mode : Mode) (bits : FieldBits) (rules : List Rule) (batch : List Command) (state : State) (fault : StageFault)
    → ((field : Field) × (fault ≡ BitsDiffer field) × (AreSetRanges mode field rules bits → ⊥)) → AnswersStage slots mode bits rules batch state (Err fault)
differ_answers slots mode bits rules batch state fault (field, is, differ) =
    subst (λ why. AnswersStage slots mode bits rules batch state (Err why)) (sym is) (fault_answers slots mode bits rules batch state (BitsDiffer field) differ)

-- and for a new one where an inserted piece stands
pub new_word_answers : (slots : ℕ) (mode : Mode) (bits : FieldBits) (rules : List Rule) (batch : List Command) (state : State) (fault : StageFault)
    → NamesWord (bits_with mode rules batch bits) state fault → ((x : RankedPiece) × Contains (commit_pieces mode bits rules batch).inserted x × IsTrue (stands_in state.slots x))
    → AnswersStage slots mode bits rules batch state (Err fault)
new_word_answers slots mode bits rules batch state fault (field, port, is, fits, wrong) (x, member, stands) =
    subst (λ why. AnswersStage slots mode bits rules batch state (Err why)) (sym is)
    (fault_answers slots mode bits rules batch state (Word field port) (fits, inr (x, member, stands_is state x stands, wrong)))

-- words that are right are translated
pub translated : (bits : FieldBits) (state : State) → AreRight bits state → AreTranslated state bits
translated bits state right = record {
  src = λ bit range live port fits. right Src port fits bit range live;
  dst = λ bit range live port fits. right Dst port fits bit range live;
}

-- no word is wrong
pub none_wrong : (bits during : FieldBits) (pieces : CommitPieces) (state : State) → AreRight bits state → ((x : RankedPiece) → Contains pieces.inserted x → IsStanding state x → AreRight during state)
    → (field : Field) (port : ℕ) → HasWrongWord bits during pieces state field port → ⊥
none_wrong bits during pieces state right new field port (fits, inl (bit, range, live, differ)) = differ (right field port fits bit range live)
none_wrong bits during pieces state right new field port (fits, inr (x, member, stands, (bit, range, live, differ))) = differ (new x member stands field port fits bit range live)

-- What is known once the maps and the words are right:
module _ (mode : Mode) (bits : FieldBits) (rules : List Rule) (batch : List Command) (device_slots : ℕ) (state : State)
    (can : CanCommit mode bits rules batch) (is : IsState device_slots state) (right : AreRight bits state) where
  abbrev during : FieldBits
  during = bits_with mode rules batch bits

  abbrev p : CommitPieces
  p = commit_pieces mode bits rules batch

  change : IsSoundChange rules batch
  change = change_of mode bits rules batch can

  abbrev behind : State
  behind = state_after state (fresh_writes mode bits rules batch state)

  serving : AreServing mode (bits_with mode rules batch bits) (rules ++ additions batch) behind
  serving = tables_serve mode bits rules batch state (begun mode bits rules batch device_slots state can is (translated bits state right))

  facts : ArePieces p
  facts = pieces_are mode bits rules batch change behind serving

  encodable : (x : RankedPiece) → Contains (known_pieces p) x → IsEncodable x.piece
  encodable x member = (served mode bits rules batch change behind serving x member).encodable

  -- each piece has an entry
  pub old_encodable : AllByRecursion (λ (x : RankedPiece). IsEncodable x.piece) (set_pieces mode (bits_with mode rules batch bits) rules)
  old_encodable = all_members (λ (x : RankedPiece). IsEncodable x.piece) p.old (λ x member. encodable x (old_known p x member))

  pub inserted_encodable : AllByRecursion (λ (x : RankedPiece). IsEncodable x.piece) (inserted_pieces mode (bits_with mode rules batch bits) rules batch)
  inserted_encodable = all_members (λ (x : RankedPiece). IsEncodable x.piece) p.inserted (λ x member. encodable x (inserted_known p x member))

  pub rewritten_encodable : AllByRecursion (λ (x : RankedPiece). IsEncodable x.piece) (rewritten_pieces mode (bits_with mode rules batch bits) rules batch)
  rewritten_encodable = all_members (λ (x : RankedPiece). IsEncodable x.piece) (rewritten_pieces mode during rules batch)
      (λ x member. (new_served mode bits rules batch change behind serving x (rewritten_stays mode during rules batch change x member)).encodable)

  pub erased_encodable : AllByRecursion (λ (x : RankedPiece). IsEncodable x.piece) (erased_pieces mode (bits_with mode rules batch bits) rules batch)
  erased_encodable = all_members (λ (x : RankedPiece). IsEncodable x.piece) p.erased (λ x member. encodable x (old_known p x (facts.goes x member)))

  pub known_encodable : AllByRecursion (λ (x : RankedPiece). IsEncodable x.piece) (known_pieces (commit_pieces mode bits rules batch))
  known_encodable = all_members (λ (x : RankedPiece). IsEncodable x.piece) (known_pieces p) encodable

  -- what was sorted is a stage, with its numbers
  pub found_by : (slots : ℕ) (found : Stage) → ((x : RankedPiece) → Contains p.inserted x → IsStanding state x → AreRight (bits_with mode rules batch bits) state)
      → AreSorted slots state.slots (commit_pieces mode bits rules batch) found → Finds slots mode bits rules batch state found
  found_by slots found new sorted =
      finds slots mode bits rules batch state found.done found.left found.twin (none_wrong bits during p state right new)
      (none_foreign p state sorted.places sorted.are slots sorted.in_use) (none_crossed p state sorted.places sorted.are facts sorted.ordered)
      (none_missing p state facts sorted.stand) sorted.twins sorted.twin sorted.parted

-- a fault of the slots is one
pub slot_fault : (slots : ℕ) (mode : Mode) (bits : FieldBits) (rules : List Rule) (batch : List Command) (state : State) (fault : StageFault)
    → IsSlotFault slots (commit_pieces mode bits rules batch) state fault → IsFaultOf slots mode bits rules batch state fault
slot_fault slots mode bits rules batch state (BitsDiffer field) is = absurd is
slot_fault slots mode bits rules batch state (Word field port) is = absurd is
slot_fault slots mode bits rules batch state (Foreign slot) is = is
slot_fault slots mode bits rules batch state (Crossed slot) is = is
slot_fault slots mode bits rules batch state (Twin slot) is = is
slot_fault slots mode bits rules batch state (Gap priority) is = is
slot_fault slots mode bits rules batch state Memory is = tt

-- the answer
pub answers : (slots : ℕ) (mode : Mode) (bits : FieldBits) (rules : List Rule) (batch : List Command) (state : State) (result : Result Stage StageFault) → AreSetBits mode rules bits
    → IfOk result (λ found. Finds slots mode bits rules batch state found) → IfErr result (λ fault. IsSlotFault slots (commit_pieces mode bits rules batch) state fault)
    → AnswersStage slots mode bits rules batch state result
answers slots mode bits rules batch state (Ok found) are finds fault = record { bits_are = are; found = finds; fault = tt; no_fault = tt }
answers slots mode bits rules batch state (Err why) are finds fault = fault_answers slots mode bits rules batch state why (slot_fault slots mode bits rules batch state why fault)

-- where an inserted piece stands the words are right for the ranges that are live meanwhile: by covers these are those before
pub new_right : (mode : Mode) (bits : FieldBits) (rules : List Rule) (batch : List Command) (state : State) (live : Option FieldBits) → coded_by live ≡ mode
    → during_of live ≡ bits_with mode rules batch bits → AreRight bits state → IfSome live (λ during. AreRight during state) → AreRight (bits_with mode rules batch bits) state
new_right mode bits rules batch state None coded is old new = subst (λ m. AreRight (bits_with m rules batch bits) state) coded old
new_right mode bits rules batch state (Some now) coded is old new = subst (λ b. AreRight b state) is new

-- the bits of two maps
pub maps_are : (bits : FieldBits) (src dst : LiveRanges) → bits.src ≡ src → bits.dst ≡ dst → bits ≡ record { src = src; dst = dst }
maps_are bits src dst src_is dst_is = ap₂ (λ (a b : LiveRanges). let both : FieldBits = record { src = a; dst = b } in both) src_is dst_is

-- an accepted batch of changes to a set, whose maps are the given ones
pub is_read : (slots : ℕ) (mode : Mode) (src dst : LiveRanges) (rules : List Rule) (batch : List Command) (device_slots : ℕ) (writes : List Write) (live : Option FieldBits) (given : FieldBits)
    → verdict slots mode rules batch ≡ Accepted → IsRuleSet rules → AllByRecursion HasConditions rules → AllByRecursion ChangesRules batch
    → IsFieldMap src → IsFieldMap dst → AreSetBits mode rules (record { src = src; dst = dst }) → given.src ≡ src → given.dst ≡ dst
    → AreRight given (replay device_slots writes) → AreShort (replay device_slots writes) → coded_by live ≡ mode → during_of live ≡ bits_with mode rules batch given
    → IsRead mode (record { src = src; dst = dst }) rules batch device_slots writes live
is_read slots mode src dst rules batch device_slots writes live given accepted is_set conditions changes src_map dst_map are src_is dst_is right short coded during_is =
    let is_taken = taken slots mode rules batch accepted in
    let maps = maps_are given src dst src_is dst_is in
    record {
      can = record { is_set = is_set; right = conditions; src_map = src_map; dst_map = dst_map; bits_are = are; changes = changes; sound = is_taken.sound; few = is_taken.few };
      right = subst (λ bits. AreRight bits (replay device_slots writes)) maps right;
      short = short;
      coded = coded;
      during_is = during_is ∙ ap (bits_with mode rules batch) maps;
    }

module _ (mode : Mode) (bits : FieldBits) (rules : List Rule) (batch : List Command) (device_slots : ℕ) (writes : List Write) (live : Option FieldBits)
    (read : IsRead mode bits rules batch device_slots writes live) where
  abbrev state : State
  state = replay device_slots writes

  is_state : IsState device_slots state
  is_state = replayed device_slots writes read.short

  by_live : (P : Mode → FieldBits → Type 0) → P mode (bits_with mode rules batch bits) → P (coded_by live) (during_of live)
  by_live P given = subst (λ m. P m (during_of live)) (sym read.coded) (subst (P mode) (sym read.during_is) given)

  -- each piece has an entry
  pub old_by : AllByRecursion (λ (x : RankedPiece). IsEncodable x.piece) (set_pieces (coded_by live) (during_of live) rules)
  old_by = by_live (λ m d. AllByRecursion (λ (x : RankedPiece). IsEncodable x.piece) (set_pieces m d rules)) (old_encodable mode bits rules batch device_slots state read.can is_state read.right)

  pub inserted_by : AllByRecursion (λ (x : RankedPiece). IsEncodable x.piece) (inserted_pieces (coded_by live) (during_of live) rules batch)
  inserted_by = by_live (λ m d. AllByRecursion (λ (x : RankedPiece). IsEncodable x.piece) (inserted_pieces m d rules batch)) (inserted_encodable mode bits rules batch device_slots state read.can is_state read.right)

  pub rewritten_by : AllByRecursion (λ (x : RankedPiece). IsEncodable x.piece) (rewritten_pieces (coded_by live) (during_of live) rules batch)
  rewritten_by = by_live (λ m d. AllByRecursion (λ (x : RankedPiece). IsEncodable x.piece) (rewritten_pieces m d rules batch)) (rewritten_encodable mode bits rules batch device_slots state read.can is_state read.right)

  pub erased_by : AllByRecursion (λ (x : RankedPiece). IsEncodable x.piece) (erased_pieces (coded_by live) (during_of live) rules batch)
  erased_by = by_live (λ m d. AllByRecursion (λ (x : RankedPiece). IsEncodable x.piece) (erased_pieces m d rules batch)) (erased_encodable mode bits rules batch device_slots state read.can is_state read.right)

  module _ (commit : CommitPieces) (held : List (Option Entry)) (commit_is : commit ≡ pieces_with (coded_by live) (during_of live) rules batch) (held_is : held ≡ (replay device_slots writes).slots) where
    commit_same : commit ≡ commit_pieces mode bits rules batch
    commit_same = commit_is ∙ (ap (λ m. pieces_with m (during_of live) rules batch) read.coded ∙ ap (λ d. pieces_with mode d rules batch) read.during_is)

    -- a word for a new range is wrong
    pub new_word_found : (slots : ℕ) (fault : StageFault) → ((during : FieldBits) × (live ≡ Some during) × NamesWord during (replay device_slots writes) fault
        × ((x : RankedPiece) × Contains commit.inserted x × (stands_in held x ≡ true))) → AnswersStage slots mode bits rules batch (replay device_slots writes) (Err fault)
    new_word_found slots fault (now, is, names, (x, member, stands)) =
        let one : now ≡ bits_with mode rules batch bits = sym (ap during_of is) ∙ read.during_is in
        new_word_answers slots mode bits rules batch state fault (subst (λ d. NamesWord d state fault) one names)
        (x, subst (λ (p : CommitPieces). Contains p.inserted x) commit_same member, subst (λ slots. stands_in slots x ≡ true) held_is stands)

    -- or none is, and the slots tell
    pub slots_tell : (slots : ℕ) (result : Result Stage StageFault) → ((x : RankedPiece) → Contains commit.inserted x → stands_in held x ≡ true → IfSome live (λ during. AreRight during (replay device_slots writes)))
        → IfOk result (λ found. AreSorted slots held commit found) → IfErr result (λ fault. (state : State) → state.slots ≡ held → IsSlotFault slots commit state fault)
        → AnswersStage slots mode bits rules batch (replay device_slots writes) result
    slots_tell slots result new sorted fault =
        answers slots mode bits rules batch state result read.can.bits_are
        (IfOk-weaker result (λ found. AreSorted slots held commit found) (λ found. Finds slots mode bits rules batch state found) (λ found is. found_by mode bits rules batch device_slots state read.can is_state read.right slots found
        (λ x member stands. new_right mode bits rules batch state live read.coded read.during_is read.right
        (new x (subst (λ (p : CommitPieces). Contains p.inserted x) (sym commit_same) member) (subst (λ slots. stands_in slots x ≡ true) (sym held_is) (stands_from state x stands))))
        (subst (λ slots_held. AreSorted slots slots_held (commit_pieces mode bits rules batch) found) held_is (subst (λ p. AreSorted slots held p found) commit_same is))) sorted)
        (IfErr-weaker result (λ fault. (state : State) → state.slots ≡ held → IsSlotFault slots commit state fault) (λ fault. IsSlotFault slots (commit_pieces mode bits rules batch) state fault)
        (λ why is. subst (λ p. IsSlotFault slots p state why) commit_same (is state (sym held_is))) fault)

    -- also where the pieces come with the stage
    pub shown_tell : (slots : ℕ) (result : Result Shown StageFault) → ((x : RankedPiece) → Contains commit.inserted x → stands_in held x ≡ true → IfSome live (λ during. AreRight during (replay device_slots writes)))
        → IfOk result (λ shown. AreSorted slots held commit shown.stage) → IfErr result (λ fault. (state : State) → state.slots ≡ held → IsSlotFault slots commit state fault)
        → AnswersStage slots mode bits rules batch (replay device_slots writes) (stage_in result)
    shown_tell slots (Ok shown) new sorted fault = slots_tell slots (Ok shown.stage) new sorted tt
    shown_tell slots (Err why) new sorted fault = slots_tell slots (Err why) new tt fault

    -- which are those of the commit
    pub shown_are : (result : Result Shown StageFault) → IfOk result (λ shown. IsShown commit held shown)
        → IfOk result (λ shown. IsShown (commit_pieces mode bits rules batch) (replay device_slots writes).slots shown)
    shown_are (Ok shown) is = subst (λ slots. IsShown (commit_pieces mode bits rules batch) slots shown) held_is (subst (λ p. IsShown p held shown) commit_same is)
    shown_are (Err why) is = tt

  -- and each of these has an entry
  pub all_encodable : (result : Result Shown StageFault) → IfOk result (λ shown. AllByRecursion (λ (x : RankedPiece). IsEncodable x.piece) (known_pieces (commit_pieces mode bits rules batch)))
  all_encodable (Ok shown) = known_encodable mode bits rules batch device_slots state read.can is_state read.right
  all_encodable (Err why) = tt

  -- and the commit can be made
  pub can_be_made : (result : Result Shown StageFault) → IfOk result (λ shown. CanCommit mode bits rules batch)
  can_be_made (Ok shown) = read.can
  can_be_made (Err why) = tt

  -- over a device of tables of words of 16 bits
  pub is_a_state : (result : Result Shown StageFault) → IfOk result (λ shown. IsState device_slots (replay device_slots writes))
  is_a_state (Ok shown) = is_state
  is_a_state (Err why) = tt
