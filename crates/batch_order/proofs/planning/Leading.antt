-- What a plan of a batch leads to: its writes are the segment of the batch, the entries behind them those of the new set, and
-- the tables serve its ranges.
use Rattle.std.proofs.Common.{◌≡◌, ℕ, ◌^◌, ◌≤◌, List, [], ◌∷◌, ◌++◌, Contains, length, map, Option, Some, None, IsTrue, false, refl, sym, ap, ap₂, subst, ◌∙◌, arith, eqb-true}
use Rattle.std.specs.Prelude.{nat_eq}
use Rattle.std.specs.List.{AllByRecursion, AllZip, IsDistinct}
use Rattle.std.proofs.lemmas.List.{length-map}
use Rattle.std.proofs.lemmas.Bool.{false_from_ne_true}
use Rattle.slot_order.proofs.Lists.{all_append, contains_head, contains_tail}
use Rattle.slot_pool.specs.Arrangement.{Slots}
use Rattle.rule_model.specs.declared.Rule.{Rule}
use Rattle.rule_store.specs.declared.Mode.{Mode}
use Rattle.rule_store.specs.declared.Mode.TheVariants.{Cover, Bits}
use Rattle.rule_store.specs.declared.Command.{Command}
use Rattle.rule_store.specs.Batch.{set_after}
use Rattle.rule_store.specs.Store.{StoredRules}
use Rattle.rule_model.specs.Entry.{RankedPiece}
use Rattle.placement.specs.declared.LivePiece.{LivePiece}
use Rattle.placement.specs.Live.{AreApart, is_live}
use Rattle.tcam_device.specs.declared.Write.{Write}
use Rattle.tcam_device.specs.State.{State, IsState, state_after, on_device}
use Rattle.tcam_device.proofs.Spans.{state_after-append}
use Rattle.commit_writes.specs.declared.Done.{Done}
use Rattle.commit_writes.specs.declared.Rewrite.{Rewrite}
use Rattle.commit_writes.specs.Bits.{FieldBits, bits_left}
use Rattle.commit_writes.specs.Serving.{AreBitsOf}
use Rattle.commit_writes.specs.Shape.{set_pieces, rewritten_pieces, erased_pieces, fresh_writes}
use Rattle.commit_writes.specs.Planned.{Planned, AreEntriesOf, contents, with_slots}
use Rattle.commit_writes.specs.PlannedBatch.{AreNumbersOf, IsIdOf, IsPlannedSegment, IsRewriteOf, batch_writes, erased_live, erased_slots, rewritten_entries}
use Rattle.commit_writes.proofs.BatchPieces.{erased_once, erased_was, rewritten_once}
use Rattle.commit_writes.proofs.BatchRules.{IsSoundChange}
use Rattle.commit_writes.proofs.BatchState.{batch_entries, batch_state}
use Rattle.commit_writes.proofs.KeptBits.{pieces_left}
use Rattle.commit_writes.proofs.NoBits.{bit_writes-none}
use Rattle.commit_writes.proofs.ServedTables.{bits_after}
use Rattle.commit_writes.proofs.SlotWrites.{AreToSlots, LeavesTables, batch_slots}
use Rattle.commit_writes.proofs.WholeSegment.{batch_segment}
use Rattle.commit_writes.proofs.Zips.{zip_right}
use Rattle.commit_writes.specs.Changes.{coded_by}
use Rattle.batch_order.specs.declared.translation.Translation.{Translation}
use Rattle.batch_order.specs.declared.Placement.{Placement}
use Rattle.batch_order.specs.Entries.{Entries}
use Rattle.batch_order.specs.Planning.{IsSettled, IsStanding}
use Rattle.batch_order.specs.Kept.{IsArranged, bits_of, changed_by, mode_of, settled_state, tables_of, translated_by}
use Rattle.batch_order.proofs.ids.Numbered.{ids_apart, ids_few, one_live}
use Rattle.batch_order.proofs.planning.Since.{live_more}
use Rattle.batch_order.proofs.arranged.Entered.{contents_kept}
use Rattle.batch_order.proofs.arranged.Cleared.{live_stands, settled_erased}
use Rattle.batch_order.proofs.arranged.Unchanged.{settled_live}
use Rattle.batch_order.proofs.planning.Taken.{ArePartsOf, IsPlanOf, behind_by, behind_is, bits_start, during_by, ids_live, rewrites_live, words_by}
use Rattle.batch_order.proofs.planning.Translated.{kept_state, state_by, tables_kept}

-- old ids are live with new ones
pub still_live : (live more : List LivePiece) (ids : List ℕ) → AllByRecursion (λ id. IsTrue (is_live live id)) ids → AllByRecursion (λ id. IsTrue (is_live (live ++ more) id)) ids
still_live live more [] all = tt
still_live live more (id ∷ ids) all = (live_more live more id all.0, still_live live more ids all.1)

pub still_changed : (live more : List LivePiece) (rewrites : List Rewrite) → AllByRecursion (λ rewrite. IsTrue (is_live live rewrite.id)) rewrites
    → AllByRecursion (λ rewrite. IsTrue (is_live (live ++ more) rewrite.id)) rewrites
still_changed live more [] all = tt
still_changed live more (rewrite ∷ rewrites) all = (live_more live more rewrite.id all.0, still_changed live more rewrites all.1)

-- what is rewritten and what is erased are live ids, each erased once
pub record AreLiveParts (live : List LivePiece) (rewrites : List Rewrite) (erased : List ℕ) : Type 0 where
  pub changed : AllByRecursion (λ rewrite. IsTrue (is_live live rewrite.id)) rewrites
  pub gone : AllByRecursion (λ id. IsTrue (is_live live id)) erased
  pub once : IsDistinct nat_eq erased

pub live_parts : (mode : Mode) (bits : FieldBits) (rules : List Rule) (batch : List Command) (slots : ℕ) (live more : List LivePiece) (rewrites : List Rewrite) (erased : List ℕ) → AreApart slots live
    → IsSoundChange rules batch → ArePartsOf mode bits rules batch live rewrites erased → AreLiveParts (live ++ more) rewrites erased
live_parts mode bits rules batch slots live more rewrites erased apart change parts = record {
  changed = still_changed live more rewrites (rewrites_live live (rewritten_pieces mode bits rules batch) rewrites parts.rewrites_are);
  gone = still_live live more erased (ids_live live (erased_pieces mode bits rules batch) erased parts.erased_are);
  once = ids_apart slots live (erased_pieces mode bits rules batch) erased apart (erased_once mode bits rules batch change) parts.erased_are;
}

-- each of them stands where all is settled
pub changed_stand : (kept : Entries) (slots : Slots) (rewrites : List Rewrite) → IsSettled kept slots → AllByRecursion (λ rewrite. IsTrue (is_live kept.live rewrite.id)) rewrites
    → AllByRecursion (λ rewrite. IsStanding slots rewrite.id) rewrites
changed_stand kept slots [] settled all = tt
changed_stand kept slots (rewrite ∷ rewrites) settled all = (live_stands kept slots rewrite.id settled all.0, changed_stand kept slots rewrites settled all.1)

-- before the new ids come too
pub parts_live_before : (mode : Mode) (bits : FieldBits) (rules : List Rule) (batch : List Command) (live : List LivePiece) (rewrites : List Rewrite) (erased : List ℕ) → ArePartsOf mode bits rules batch live rewrites erased
    → AllByRecursion (λ rewrite. IsTrue (is_live live rewrite.id)) rewrites × AllByRecursion (λ id. IsTrue (is_live live id)) erased
parts_live_before mode bits rules batch live rewrites erased parts =
    (rewrites_live live (rewritten_pieces mode bits rules batch) rewrites parts.rewrites_are, ids_live live (erased_pieces mode bits rules batch) erased parts.erased_are)

-- by covers a commit writes no words
pub no_words : (translation : Option Translation) (rules : List Rule) (batch : List Command) (state : State) → ((kept : Translation) → translation ≡ Some kept → ⊥)
    → fresh_writes (mode_of translation) (bits_of translation) rules batch state ≡ []
no_words None rules batch state none = bit_writes-none state
no_words (Some kept) rules batch state none = absurd (none kept refl)

pub cover_words : (translation : Option Translation) (rules : List Rule) (batch : List Command) (state : State) → mode_of translation ≡ Cover
    → fresh_writes (mode_of translation) (bits_of translation) rules batch state ≡ []
cover_words translation rules batch state cover = no_words translation rules batch state (λ kept is. let bits : Cover ≡ Bits = sym cover ∙ ap mode_of is in cc)

-- as many ids as new entries, and each is that of its piece
pub rewritten_ids : (live : List LivePiece) (pieces : List RankedPiece) (rewrites : List Rewrite) → AllZip (IsRewriteOf live) pieces rewrites → AllZip (IsIdOf live) pieces (map (λ (rewrite : Rewrite). rewrite.id) rewrites)
rewritten_ids live [] [] are = tt
rewritten_ids live [] (rewrite ∷ rewrites) are = absurd are
rewritten_ids live (ranked ∷ pieces) [] are = absurd are
rewritten_ids live (ranked ∷ pieces) (rewrite ∷ rewrites) are = (are.0.0, rewritten_ids live pieces rewrites are.1)

-- no more ids get a new entry than are live
pub few_rewrites : (mode : Mode) (bits : FieldBits) (rules : List Rule) (batch : List Command) (slots : ℕ) (live : List LivePiece) (rewrites : List Rewrite) (erased : List ℕ) → AreApart slots live → IsSoundChange rules batch
    → ArePartsOf mode bits rules batch live rewrites erased → length rewrites ≤ length live
few_rewrites mode bits rules batch slots live rewrites erased apart change parts =
    let ids : List ℕ = map (λ (rewrite : Rewrite). rewrite.id) rewrites in
    let number : length ids ≡ length rewrites = length-map rewrites (λ (rewrite : Rewrite). rewrite.id) in
    let fewer : length ids ≤ length live =
    ids_few slots live (rewritten_pieces mode bits rules batch) ids apart (rewritten_once mode bits rules batch change) (rewritten_ids live (rewritten_pieces mode bits rules batch) rewrites parts.rewrites_are) in
    omega arith

-- and none of them goes: an id of either kind is there once
distinct_both : (first second : List ℕ) → IsDistinct nat_eq first → IsDistinct nat_eq second → ((id : ℕ) → Contains first id → Contains second id → ⊥) → IsDistinct nat_eq (first ++ second)
unfolding IsDistinct
distinct_both [] second one two none = two
distinct_both (id ∷ first) second one two none = (
  all_append (λ other. nat_eq id other ≡ false) first second one.0 (apart second (λ other member same. none id (contains_head id first) (subst (Contains second) (sym same) member))),
  distinct_both first second one.1 two (λ other here there. none other (contains_tail id other first here) there),
)
  where
    apart : (some : List ℕ) → ((other : ℕ) → Contains some other → id ≡ other → ⊥) → AllByRecursion (λ other. nat_eq id other ≡ false) some
    apart [] differ = tt
    apart (other ∷ some) differ = (
      false_from_ne_true (nat_eq id other) (λ same. differ other (contains_head other some) (eqb-true id other same)),
      apart some (λ last member. differ last (contains_tail other last some member)),
    )

pub parts_apart : (mode : Mode) (bits : FieldBits) (rules : List Rule) (batch : List Command) (slots : ℕ) (live : List LivePiece) (rewrites : List Rewrite) (erased : List ℕ) → AreApart slots live
    → IsSoundChange rules batch → ArePartsOf mode bits rules batch live rewrites erased → IsDistinct nat_eq (map (λ (rewrite : Rewrite). rewrite.id) rewrites ++ erased)
parts_apart mode bits rules batch slots live rewrites erased apart change parts =
    distinct_both ids erased
    (ids_apart slots live (rewritten_pieces mode bits rules batch) ids apart (rewritten_once mode bits rules batch change) of_rewrites)
    (ids_apart slots live (erased_pieces mode bits rules batch) erased apart (erased_once mode bits rules batch change) parts.erased_are) clash
  where
    ids : List ℕ
    ids = map (λ (rewrite : Rewrite). rewrite.id) rewrites

    of_rewrites : AllZip (IsIdOf live) (rewritten_pieces mode bits rules batch) ids
    of_rewrites = rewritten_ids live (rewritten_pieces mode bits rules batch) rewrites parts.rewrites_are

    clash : (id : ℕ) → Contains ids id → Contains erased id → ⊥
    clash id here there =
        let stays = zip_right (IsIdOf live) (rewritten_pieces mode bits rules batch) ids id of_rewrites here in
        let goes = zip_right (IsIdOf live) (erased_pieces mode bits rules batch) erased id parts.erased_are there in
        let one : LivePiece = record { id = id; piece = stays.0.piece; rank = stays.0.rank } in
        let other : LivePiece = record { id = id; piece = goes.0.piece; rank = goes.0.rank } in
        let same : one ≡ other = one_live slots live one other apart stays.2 goes.2 refl in
        (erased_was mode bits rules batch change goes.0 goes.1).1.1.1 stays.0 stays.1 (ap (λ (l : LivePiece). l.piece) same) (ap (λ (l : LivePiece). l.rank) same)

module _ (placement : Placement) (translation : Option Translation) (rules : StoredRules) (old new : Entries) (slots middle : Slots) (batch : List Command) (rewrites : List Rewrite) (erased : List ℕ) (writes : List Write) (counts : Done)
    (plan : IsPlanOf placement translation rules old new slots middle batch rewrites erased writes counts) where
  abbrev mode : Mode
  mode = mode_of translation

  abbrev bits : FieldBits
  bits = bits_of translation

  abbrev during : FieldBits
  during = during_by translation rules batch

  abbrev later : List Rule
  later = set_after rules.rules batch

  abbrev before : State
  before = settled_state translation old.entries slots

  abbrev behind : State
  behind = behind_by translation rules old slots batch

  abbrev words : List Write
  words = words_by translation rules old slots batch

  abbrev made : List Write
  made = batch_writes new.entries slots plan.planned rewrites erased

  abbrev ones : List LivePiece
  ones = map (λ (insertion : Planned). insertion.one) plan.planned

  -- what is rewritten and erased is live in a plan
  pub parts_of : AreLiveParts new.live rewrites erased
  parts_of =
      subst (λ (l : List LivePiece). AreLiveParts l rewrites erased) (sym plan.live_is)
      (live_parts mode during rules.rules batch old.slots old.live ones rewrites erased plan.taken.managed.carried.settled.apart plan.taken.change plan.parts)

  -- with the plan carried out the entries are those of the new set, as they are arranged then
  pub arranged_then : IsArranged mode (bits_left later during) later (changed_by new rewrites erased) (erased_slots middle erased)
  arranged_then = record {
    settled = same_settled (settled_erased new middle erased plan.settled parts_of.once parts_of.gone);
    entries_are = subst (λ (pieces : List RankedPiece). AreEntriesOf pieces (erased_live new.live erased) (rewritten_entries new.entries rewrites))
        (sym (pieces_left mode bits rules.rules batch before (bits_start translation rules old slots batch plan.taken)))
        (subst (λ (l : List LivePiece). AreEntriesOf (set_pieces mode during later) (erased_live l erased) (rewritten_entries new.entries rewrites)) (sym plan.live_is)
        (batch_entries mode during behind rules.rules batch old.live slots new.entries plan.planned rewrites erased plan.commit));
  }
    where
      same_settled : IsSettled (record new { live = erased_live new.live erased }) (erased_slots middle erased) → IsSettled (changed_by new rewrites erased) (erased_slots middle erased)
      same_settled is = record { size = is.size; few = is.few; apart = is.apart; standing = is.standing; order = is.order; count = is.count }

  -- the slots hold the same with the new ids
  same_contents : contents new.entries slots ≡ contents old.entries slots
  same_contents = contents_kept old.live old.entries new.entries slots plan.kept (settled_live old slots plan.taken.managed.carried.settled)

  pub same_state : settled_state translation new.entries slots ≡ before
  same_state = ap (with_slots (tables_of translation)) same_contents

  -- the state that the writes lead to
  leads_on : state_after (settled_state translation new.entries slots) writes ≡ with_slots behind (contents (rewritten_entries new.entries rewrites) (erased_slots middle erased))
  leads_on =
      ap₂ state_after same_state plan.writes_are
      ∙ (state_after-append before words made
      ∙ (batch_state mode during behind rules.rules batch old.live slots new.entries plan.planned rewrites erased plan.commit
      ∙ ap (λ (s : Slots). with_slots behind (contents (rewritten_entries new.entries rewrites) (erased_slots s erased))) (sym plan.middle_is)))

  pub plain_writes : mode_of translation ≡ Cover → AreToSlots writes
  plain_writes cover =
      subst AreToSlots (sym (plan.writes_are ∙ ap (λ (w : List Write). w ++ made) (cover_words translation rules.rules batch before cover)))
      (batch_slots new.entries slots plan.planned rewrites erased)

  -- what is kept of the translation then
  module _ (coded : Option FieldBits) (set : List Rule) (same : coded_by coded ≡ mode_of translation) where
    abbrev turned : Option Translation
    turned = translated_by translation coded set writes

    tables_then : LeavesTables (state_after (settled_state translation new.entries slots) writes) (tables_of turned)
    tables_then = tables_kept translation coded set writes new.entries slots same plain_writes

    from_behind : LeavesTables behind (tables_of turned)
    from_behind = record { src = tables_then.src ∙ ap (λ (s : State). s.src) leads_on; dst = tables_then.dst ∙ ap (λ (s : State). s.dst) leads_on }

    pub plan_leads : state_after (settled_state translation new.entries slots) writes ≡ settled_state (translated_by translation coded set writes) (rewritten_entries new.entries rewrites) (erased_slots middle erased)
    plan_leads = state_by (state_after (settled_state translation new.entries slots) writes) (tables_of turned)
        (contents (rewritten_entries new.entries rewrites) (erased_slots middle erased)) (ap (λ (s : State). s.slots) leads_on) tables_then

    pub plan_tables : IsState 0 (tables_of (translated_by translation coded set writes))
    plan_tables = kept_state translation coded set writes (length behind.slots) behind plan.taken.managed.tables (behind_is translation rules old slots batch plan.taken) from_behind

    pub plan_bits : AreBitsOf (mode_of translation) (bits_left (set_after rules.rules batch) (during_by translation rules batch)) (set_after rules.rules batch) (tables_of (translated_by translation coded set writes))
    plan_bits = bits_after mode bits rules.rules batch before (tables_of turned) (bits_start translation rules old slots batch plan.taken) (sym from_behind.src) (sym from_behind.dst)

  -- on a device with so many slots or more its writes are the batch's segment
  pub plan_segment : (device_slots : ℕ) → IsPlannedSegment mode bits rules.rules batch (on_device device_slots before) writes counts
  plan_segment device_slots =
      let start = bits_start translation rules old slots batch plan.taken in
      subst (λ (w : List Write). IsPlannedSegment mode bits rules.rules batch (on_device device_slots before) w counts) (sym plan.writes_are)
      (batch_segment mode bits rules.rules batch before old.live slots new.entries plan.planned rewrites erased counts device_slots start.is_state start.are start.few plan.commit
      (subst (λ (w : List Write). AreNumbersOf w plan.planned counts) plan.writes_are plan.numbers))

  -- its writes are few
  pub few_planned : length writes ≤ 2 ^ 35
  few_planned = plan.few
