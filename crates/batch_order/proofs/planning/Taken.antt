-- Taking a batch: what its plan needs of a manager without a commit under way, and what was planned.
use Rattle.std.proofs.Common.{◌≡◌, ℕ, ◌+◌, ◌*◌, ◌^◌, ◌≤◌, fold, List, [], ◌++◌, length, map, Option, None, max, append_assoc, refl, sym, ap, ap₂, subst, ◌∙◌, arith}
use Rattle.std.specs.Prelude.{IsTrue}
use Rattle.std.proofs.lemmas.List.{length-map}
use Rattle.std.specs.List.{AllByRecursion, AllZip}
use Rattle.slot_order.specs.Order.{most_slots}
use Rattle.slot_pool.specs.Arrangement.{Slots}
use Rattle.rule_model.specs.declared.Rule.{Rule}
use Rattle.rule_store.specs.declared.Mode.{Mode}
use Rattle.rule_store.specs.declared.Command.{Command}
use Rattle.rule_store.specs.Batch.{additions}
use Rattle.rule_store.specs.Store.{StoredRules}
use Rattle.rule_store.specs.Verdict.{entries_added, entries_of}
use Rattle.rule_store.proofs.Counts.{count_by-append}
use Rattle.rule_model.specs.Entry.{RankedPiece}
use Rattle.placement.specs.declared.LivePiece.{LivePiece}
use Rattle.placement.specs.Live.{AreApart, is_live}
use Rattle.placement.proofs.Above.{is_live_from}
use Rattle.tcam_device.specs.declared.Write.{Write}
use Rattle.tcam_device.specs.State.{State, IsInUse, IsState, state_after}
use Rattle.tcam_device.specs.Insertion.{is_table_write, table_writes}
use Rattle.commit_writes.specs.Proposal.{proposal}
use Rattle.commit_writes.specs.declared.Done.{Done}
use Rattle.commit_writes.specs.declared.Rewrite.{Rewrite}
use Rattle.commit_writes.specs.Bits.{FieldBits, bits_with, new_bits}
use Rattle.commit_writes.specs.Serving.{AreServing}
use Rattle.commit_writes.specs.Shape.{set_pieces, inserted_pieces, rewritten_pieces, erased_pieces, fresh_writes}
use Rattle.commit_writes.specs.Planned.{IdEntries, Planned, AreArranged, AreEntriesOf, contents, planned_writes, live_after, slots_after}
use Rattle.commit_writes.specs.PlannedBatch.{AreNumbersOf, IsIdOf, IsPlannedBatch, IsRewriteOf, batch_writes, erase_write, rewrite_write}
use Rattle.commit_writes.proofs.Filters.{all_members}
use Rattle.commit_writes.proofs.BatchRules.{IsSoundChange}
use Rattle.commit_writes.proofs.KeptBits.{pieces_same}
use Rattle.commit_writes.proofs.PieceCounts.{added_pieces_count}
use Rattle.commit_writes.proofs.ServedTables.{IsBitsStart, tables_serve, words_done}
use Rattle.commit_writes.proofs.SlotWrites.{batch_slots, no_table}
use Rattle.commit_writes.proofs.TableWrites.{all_tables, bit_writes-tables}
use Rattle.commit_writes.proofs.Zips.{zip_right}
use Rattle.commit_writes.specs.Changes.{coded_by, during_of}
use Rattle.batch_order.specs.declared.Placement.{Placement}
use Rattle.batch_order.specs.declared.plan.Plan.{Plan}
use Rattle.batch_order.specs.declared.planned_writes.PlannedWrite.{PlannedWrite}
use Rattle.batch_order.specs.declared.planned_writes.PlannedWrites.{PlannedWrites}
use Rattle.batch_order.specs.declared.planned_writes.PlannedWrite.TheVariants.{Tabled}
use Rattle.batch_order.specs.declared.translation.Translation.{Translation}
use Rattle.batch_order.specs.ByParts.{insertion_parts, longest_planned_parts, moves_put}
use Rattle.batch_order.specs.Entries.{AreTold, Entries, KeepEntries, HasId, HaveIds}
use Rattle.batch_order.specs.Planning.{IsSettled, IsPlannable, IsWithin, ArePlannedSince, as_write, as_writes, planned_moves, all_writes}
use Rattle.batch_order.specs.Kept.{IsManaged, bits_of, mode_of, settled_state, tables_of}
use Rattle.batch_order.specs.Placing.{aims_of}
use Rattle.batch_order.proofs.ids.Numbered.{arranged_number}
use Rattle.batch_order.proofs.planning.Judged.{HasRoom}
use Rattle.batch_order.proofs.arranged.Entered.{contents_kept, entries_of_kept}
use Rattle.batch_order.proofs.planning.Meant.{as_append, as_planned, as_words, used_within, words_within}
use Rattle.batch_order.proofs.planning.Translated.{bits_same, settled_is}
use Rattle.batch_order.proofs.arranged.Unchanged.{settled_live}

-- the live ranges while a batch is carried out, the words of its new bits, and the state behind them
abbrev pub during_by : Option Translation → StoredRules → List Command → FieldBits
during_by translation rules batch = bits_with (mode_of translation) rules.rules batch (bits_of translation)

abbrev pub words_by : Option Translation → StoredRules → Entries → Slots → List Command → List Write
words_by translation rules kept slots batch = fresh_writes (mode_of translation) (bits_of translation) rules.rules batch (settled_state translation kept.entries slots)

abbrev pub behind_by : Option Translation → StoredRules → Entries → Slots → List Command → State
behind_by translation rules kept slots batch = state_after (settled_state translation kept.entries slots) (words_by translation rules kept slots batch)

-- a sound batch with room, over a manager without a commit under way
pub record IsTaken (translation : Option Translation) (rules : StoredRules) (kept : Entries) (slots : Slots) (batch : List Command) : Type 0 where
  pub managed : IsManaged translation rules kept slots None
  pub change : IsSoundChange rules.rules batch
  pub room : HasRoom (length slots) (mode_of translation) rules.rules batch

module _ (translation : Option Translation) (rules : StoredRules) (kept : Entries) (slots : Slots) (batch : List Command) (taken : IsTaken translation rules kept slots batch) where
  abbrev mode : Mode
  mode = mode_of translation

  abbrev during : FieldBits
  during = during_by translation rules batch

  abbrev before : State
  before = settled_state translation kept.entries slots

  abbrev behind : State
  behind = behind_by translation rules kept slots batch

  -- its bits begin
  pub bits_start : IsBitsStart (mode_of translation) (bits_of translation) rules.rules batch (settled_state translation kept.entries slots)
  bits_start = record {
    is_state = settled_is translation kept.entries slots taken.managed.tables;
    changes = taken.change.changes;
    are = bits_same mode (bits_of translation) rules.rules (tables_of translation) before record { src = refl; dst = refl } taken.managed.translated;
    few = taken.room.free;
  }

  -- the words leave the slots, and a state whose tables serve the additions too
  pub behind_slots : (behind_by translation rules kept slots batch).slots ≡ contents kept.entries slots
  behind_slots = (words_done mode (bits_of translation) rules.rules batch before bits_start).1

  pub behind_is : IsState (length (behind_by translation rules kept slots batch).slots) (behind_by translation rules kept slots batch)
  behind_is = (words_done mode (bits_of translation) rules.rules batch before bits_start).0

  pub behind_serves : AreServing (mode_of translation) (during_by translation rules batch) (rules.rules ++ additions batch) (behind_by translation rules kept slots batch)
  behind_serves = tables_serve mode (bits_of translation) rules.rules batch before bits_start

  -- each piece of the set has its entry and its id,
  pub during_entries : AreEntriesOf (set_pieces (mode_of translation) (during_by translation rules batch) rules.rules) kept.live kept.entries
  during_entries = subst (λ (pieces : List RankedPiece). AreEntriesOf pieces kept.live kept.entries) (sym (pieces_same mode (bits_of translation) rules.rules batch before bits_start)) taken.managed.carried.entries_are

  pub pieces_have_ids : HaveIds kept.live (set_pieces (mode_of translation) (during_by translation rules batch) rules.rules)
  pieces_have_ids = all_members (HasId kept.live) (set_pieces mode during rules.rules) (λ ranked member.
      let has = during_entries.has_id ranked member in (has.0, has.1, sym has.2, sym has.3))

  -- and each that the batch inserts has an id and a slot
  pub inserted_room : length kept.live + length (inserted_pieces (mode_of translation) (during_by translation rules batch) rules.rules batch) ≤ kept.slots
  inserted_room =
      let room : entries_of mode rules.rules + entries_added mode rules.rules batch ≤ length slots = taken.room.entries in
      let each : entries_added mode rules.rules batch ≡ length (inserted_pieces mode during rules.rules batch) = added_pieces_count mode during rules.rules batch in
      let number : length kept.live ≡ entries_of mode rules.rules = arranged_number mode (bits_of translation) rules.rules kept slots taken.managed.is_set taken.managed.carried in
      let size : length slots ≡ kept.slots = taken.managed.carried.settled.size in
      omega arith

-- the live ranges as the manager keeps them while it makes the commit
pub record IsCoded (translation : Option Translation) (rules : StoredRules) (batch : List Command) (bits : Option FieldBits) : Type 0 where
  pub coded : coded_by bits ≡ mode_of translation
  pub during : during_of bits ≡ during_by translation rules batch

module _ (translation : Option Translation) (rules : StoredRules) (batch : List Command) (bits : Option FieldBits) (is : IsCoded translation rules batch bits) where
  -- what is said of them
  pub kept_so : (P : Mode → FieldBits → Type 0) → P (mode_of translation) (during_by translation rules batch) → P (coded_by bits) (during_of bits)
  kept_so P said = subst (λ (b : FieldBits). P (coded_by bits) b) (sym is.during) (subst (λ (m : Mode). P m (during_by translation rules batch)) (sym is.coded) said)

  pub said_so : (P : Mode → FieldBits → Type 0) → P (coded_by bits) (during_of bits) → P (mode_of translation) (during_by translation rules batch)
  said_so P kept = subst (λ (b : FieldBits). P (mode_of translation) b) is.during (subst (λ (m : Mode). P m (during_of bits)) is.coded kept)

-- the ids of some pieces are live
pub ids_live : (live : List LivePiece) (pieces : List RankedPiece) (ids : List ℕ) → AllZip (IsIdOf live) pieces ids → AllByRecursion (λ id. IsTrue (is_live live id)) ids
ids_live live pieces ids are = all_members (λ id. IsTrue (is_live live id)) ids (λ id member.
    let one = zip_right (IsIdOf live) pieces ids id are member in is_live_from live (record { id = id; piece = one.0.piece; rank = one.0.rank }) one.2)

pub rewrites_live : (live : List LivePiece) (pieces : List RankedPiece) (rewrites : List Rewrite) → AllZip (IsRewriteOf live) pieces rewrites → AllByRecursion (λ rewrite. IsTrue (is_live live rewrite.id)) rewrites
rewrites_live live pieces rewrites are = all_members (λ (rewrite : Rewrite). IsTrue (is_live live rewrite.id)) rewrites (λ rewrite member.
    let one = zip_right (IsRewriteOf live) pieces rewrites rewrite are member in is_live_from live (record { id = rewrite.id; piece = one.0.piece; rank = one.0.rank }) one.2.0)

-- words are within the slots in use in a plan of them
pub plan_words : (kept : Entries) (slots : Slots) (writes : PlannedWrites) (words : List Write) → all_writes writes ≡ map Tabled words → writes.changes.items ≡ [] → IsSettled kept slots
    → AllByRecursion (IsInUse kept.slots) words → AreTold kept slots → IsPlannable kept slots writes
plan_words kept slots writes words are no_changes settled in_use told = record {
  settled = settled;
  within = subst (AllByRecursion (IsWithin kept.slots)) (sym are) (words_within kept.slots words in_use);
  no_changes = no_changes;
  told = told;
}

-- a settled manager is arranged as plans need it
pub are_arranged : (kept : Entries) (slots : Slots) → IsSettled kept slots → AreArranged kept.live slots
are_arranged kept slots settled = record {
  few = subst (λ (n : ℕ). n ≤ most_slots) (sym settled.size) settled.few;
  apart = subst (λ (n : ℕ). AreApart n kept.live) (sym settled.size) settled.apart;
  standing = settled.standing;
  order = settled.order;
}

-- the new entries and the ids of the pieces that go, of a batch that is taken
pub record ArePartsOf (mode : Mode) (bits : FieldBits) (rules : List Rule) (batch : List Command) (live : List LivePiece) (rewrites : List Rewrite) (erased : List ℕ) : Type 0 where
  pub rewrites_are : AllZip (IsRewriteOf live) (rewritten_pieces mode bits rules batch) rewrites
  pub erased_are : AllZip (IsIdOf live) (erased_pieces mode bits rules batch) erased

-- A plan of a batch: the words of its new bits, the insertions of its new pieces, after which all is settled, and then the
-- writes of the other parts.
pub record IsPlanOf (placement : Placement) (translation : Option Translation) (rules : StoredRules) (old new : Entries) (slots middle : Slots) (batch : List Command) (rewrites : List Rewrite) (erased : List ℕ) (writes : List Write) (counts : Done) : Type 0 where
  pub taken : IsTaken translation rules old slots batch
  pub parts : ArePartsOf (mode_of translation) (during_by translation rules batch) rules.rules batch old.live rewrites erased
  pub settled : IsSettled new middle
  pub size : new.slots ≡ old.slots
  pub in_use : AllByRecursion (IsInUse (length slots)) writes
  pub kept : KeepEntries old.live old.entries new.entries
  pub planned : List Planned
  pub commit : IsPlannedBatch (proposal (mode_of translation) (during_by translation rules batch) rules.rules batch) (behind_by translation rules old slots batch) old.live slots new.entries planned rewrites erased
  pub aims : map (λ insertion. insertion.aiming) planned
      ≡ aims_of placement (mode_of translation) (length slots) rules.rules (inserted_pieces (mode_of translation) (during_by translation rules batch) rules.rules batch)
  pub live_is : new.live ≡ live_after old.live planned
  pub middle_is : middle ≡ slots_after slots planned
  pub writes_are : writes ≡ words_by translation rules old slots batch ++ batch_writes new.entries slots planned rewrites erased
  pub few : length writes ≤ 2 ^ 35
  pub numbers : AreNumbersOf writes planned counts

-- what the words of a plan are
pub record AreWordsPlanned (words : List Write) (plan : Plan) : Type 0 where
  pub writes : all_writes plan.writes ≡ map Tabled words
  pub number : plan.words ≡ length words
  pub few : length words ≤ 2 * 2 ^ 16
  pub most : plan.most ≡ 0
  pub span : plan.span ≡ 0
  pub most_parts : plan.most_parts ≡ 0

-- what was planned behind the insertions
pub record AreRestPlanned (middle : Slots) (rewrites : List Rewrite) (erased : List ℕ) (plan : Plan) (writes : List PlannedWrite) (counts : Done) : Type 0 where
  pub within : AllByRecursion (IsWithin (length middle)) writes
  pub made : (entries : IdEntries) → as_writes entries rewrites writes
      ≡ as_writes entries rewrites (all_writes plan.writes) ++ (map (rewrite_write middle) rewrites ++ map (erase_write middle) erased)
  pub number : counts.writes ≡ length writes
  pub words : counts.words ≡ plan.words
  pub most : counts.most ≡ plan.most
  pub span : counts.span ≡ plan.span
  pub few : length writes ≤ 2 ^ 35

-- A plan of a batch, and the parts of its longest insertion.
pub record IsCountedPlan (placement : Placement) (translation : Option Translation) (rules : StoredRules) (old new : Entries) (slots middle : Slots) (batch : List Command) (rewrites : List Rewrite) (erased : List ℕ) (writes : List Write) (counts : Done) (most_parts : ℕ) : Type 0 where
  pub plan : IsPlanOf placement translation rules old new slots middle batch rewrites erased writes counts
  pub longest : most_parts ≡ longest_planned_parts plan.planned

pub plan_made : (placement : Placement) (translation : Option Translation) (rules : StoredRules) (old new : Entries) (slots middle : Slots) (batch : List Command) (rewrites : List Rewrite) (erased : List ℕ) (plan plan' : Plan) (planned : List PlannedWrite) (counts : Done)
    → IsTaken translation rules old slots batch → ArePartsOf (mode_of translation) (during_by translation rules batch) rules.rules batch old.live rewrites erased → new.slots ≡ old.slots → IsSettled new middle
    → ArePlannedSince old new slots middle plan plan' (inserted_pieces (mode_of translation) (during_by translation rules batch) rules.rules batch)
    (aims_of placement (mode_of translation) (length slots) rules.rules (inserted_pieces (mode_of translation) (during_by translation rules batch) rules.rules batch))
    → AreWordsPlanned (words_by translation rules old slots batch) plan → AreRestPlanned middle rewrites erased plan' planned counts
    → IsCountedPlan placement translation rules old new slots middle batch rewrites erased (as_writes new.entries rewrites planned) counts plan'.most_parts
plan_made placement translation rules old new slots middle batch rewrites erased plan plan' planned counts taken parts size settled since words rest = record {
  plan = record {
    taken = taken;
    parts = parts;
    settled = settled;
    size = size;
    in_use = subst (λ (n : ℕ). AllByRecursion (IsInUse n) writes) (settled.size ∙ (size ∙ sym taken.managed.carried.settled.size))
        (used_within (length middle) new.entries rewrites planned rest.within);
    kept = since.kept;
    planned = since.planned;
    commit = record {
      is_set = taken.change.is_set;
      right = taken.change.right;
      changes = taken.change.changes;
      sound = taken.change.sound;
      is_state = behind_is translation rules old slots batch taken;
      mirrors = behind_slots translation rules old slots batch taken
          ∙ sym (contents_kept old.live old.entries new.entries slots since.kept (settled_live old slots taken.managed.carried.settled));
      serving = behind_serves translation rules old slots batch taken;
      arranged = are_arranged old slots taken.managed.carried.settled;
      entries_are = entries_of_kept (set_pieces mode during rules.rules) old.live old.entries new.entries since.kept (during_entries translation rules old slots batch taken);
      inserted = since.pieces_are;
      have_entries = since.have_entries;
      are_planned = since.are_planned;
      rewrites_are = parts.rewrites_are;
      erased_are = parts.erased_are;
    };
    aims = since.aims_are;
    live_is = since.live_is;
    middle_is = since.slots_are;
    writes_are = are;
    few = subst (λ (n : ℕ). n ≤ 2 ^ 35) (sym (length-map planned (as_write new.entries rewrites))) rest.few;
    numbers = record {
      writes_are = rest.number ∙ sym (length-map planned (as_write new.entries rewrites));
      words = rest.words ∙ (since.words ∙ (words.number ∙ sym tables));
      most = rest.most ∙ (since.most ∙ ap (λ (m : ℕ). fold max m (map (λ (insertion : Planned). length insertion.moves) since.planned)) words.most);
      span = rest.span ∙ (since.span ∙ ap (λ (m : ℕ). fold max m (map (λ (insertion : Planned). insertion.span) since.planned)) words.span);
    };
  };
  longest = since.most_parts ∙ ap (λ (m : ℕ). fold max m (map (λ (insertion : Planned). insertion_parts (moves_put insertion.moves)) since.planned)) words.most_parts;
}
  where
    mode : Mode
    mode = mode_of translation

    during : FieldBits
    during = during_by translation rules batch

    writes : List Write
    writes = as_writes new.entries rewrites planned

    front : List Write
    front = words_by translation rules old slots batch

    behind : List Write
    behind = batch_writes new.entries slots since.planned rewrites erased

    planned_first : as_writes new.entries rewrites (all_writes plan'.writes) ≡ front ++ planned_writes new.entries since.planned
    planned_first =
        ap (as_writes new.entries rewrites) (since.writes ∙ ap (λ (w : List PlannedWrite). w ++ planned_moves since.planned) words.writes)
        ∙ (as_append new.entries rewrites (map Tabled front) (planned_moves since.planned)
        ∙ ap₂ (λ (a b : List Write). a ++ b) (as_words new.entries rewrites front) (as_planned new.entries rewrites since.planned))

    are : writes ≡ front ++ behind
    are = rest.made new.entries
        ∙ (ap₂ (λ (first : List Write) (at : Slots). first ++ (map (rewrite_write at) rewrites ++ map (erase_write at) erased)) planned_first since.slots_are
        ∙ append_assoc front (planned_writes new.entries since.planned) (map (rewrite_write (slots_after slots since.planned)) rewrites ++ map (erase_write (slots_after slots since.planned)) erased))

    tables : table_writes writes ≡ length front
    tables =
        let first = all_tables front (bit_writes-tables (settled_state translation old.entries slots) (new_bits (bits_of translation) during)) in
        let none = no_table behind (batch_slots new.entries slots since.planned rewrites erased) in
        let all = ap table_writes are ∙ count_by-append is_table_write front behind in
        omega arith
