-- Where a commit was stopped and its pieces have ids again: what planning the rest needs, and that the plan goes on from there.
use Rattle.std.proofs.Common.{◌≡◌, ℕ, ◌+◌, ◌-◌, ◌<◌, ◌≤◌, Option, Some, None, IfSome, List, [], ◌++◌, drop, length, map, fold, max, IsTrue, IsFalse, refl, sym, ap, ap₂, subst, ◌∙◌, arith}
use Rattle.std.specs.Prelude.{nat_eq}
use Rattle.std.specs.List.{AllByRecursion, AllZip, IsDistinct, filter_map}
use Rattle.std.proofs.lemmas.List.{length-append, length-map}
use Rattle.std.proofs.lemmas.List.Kept.{AllPairs-filter}
use Rattle.slot_order.specs.Order.{most_slots}
use Rattle.slot_order.proofs.Lists.{all_append}
use Rattle.slot_pool.specs.Arrangement.{Slots}
use Rattle.rule_model.specs.declared.Field.TheVariants.{Src, Dst}
use Rattle.rule_model.specs.declared.Rule.{Rule}
use Rattle.rule_store.specs.declared.Mode.{Mode}
use Rattle.rule_store.specs.declared.Command.{Command}
use Rattle.rule_store.proofs.Counts.{count_by-append}
use Rattle.rule_model.specs.Entry.{RankedPiece, IsEncodable}
use Rattle.placement.specs.declared.LivePiece.{LivePiece}
use Rattle.placement.specs.Live.{is_live}
use Rattle.placement.specs.Placement.{Aiming}
use Rattle.placement.specs.Insertion.{free_slots}
use Rattle.tcam_device.specs.declared.Write.{Write}
use Rattle.tcam_device.specs.Insertion.{is_table_write, table_writes}
use Rattle.tcam_device.specs.State.{State, IsState, on_device}
use Rattle.commit_writes.specs.Proposal.{proposal}
use Rattle.commit_writes.specs.declared.Rewrite.{Rewrite}
use Rattle.commit_writes.specs.Bits.{FieldBits, bits_with, new_bits}
use Rattle.commit_writes.specs.Shape.{bit_writes, rewritten_pieces, fresh_writes}
use Rattle.commit_writes.specs.Planned.{IdEntries, Planned}
use Rattle.commit_writes.specs.PlannedBatch.{AreNumbersOf, IsIdOf, IsRewriteOf, batch_writes, erased_live, erased_slots}
use Rattle.commit_writes.proofs.BatchPieces.{erased_once, rewritten_once}
use Rattle.commit_writes.proofs.BatchRules.{IsSoundChange}
use Rattle.commit_writes.proofs.SetPieces.{AreOnce}
use Rattle.commit_writes.proofs.SlotWrites.{AreToSlots, batch_slots, no_table}
use Rattle.commit_writes.proofs.TableWrites.{all_tables, bit_writes-tables, tables_in_use}
use Rattle.commit_writes.proofs.Wider.{all_front, all_back}
use Rattle.commit_writes.specs.Changes.{coded_by, during_of}
use Rattle.readback.specs.Halt.{halt_at}
use Rattle.readback.specs.declared.staging.Shown.{Shown}
use Rattle.readback.specs.Going.{erased_by, inserted_by, rewritten_by, twin_writes}
use Rattle.readback.specs.Laws.{CanCommit}
use Rattle.readback.specs.Stage.{IsCommitAt, IsTwinSlot}
use Rattle.readback.specs.Tasks.{CommitPieces, Task, changes_result, commit_pieces}
use Rattle.readback.proofs.Begun.{change_of}
use Rattle.readback.proofs.SetBits.{bits_meanwhile, cover_meanwhile, dst_fits, src_fits}
use Rattle.readback.proofs.Narrow.{stages_narrow}
use Rattle.batch_order.specs.Arranged.{arranged_at, left_changes}
use Rattle.batch_order.specs.declared.Placement.{Placement}
use Rattle.batch_order.specs.declared.plan.Plan.{Plan}
use Rattle.batch_order.specs.declared.planned_writes.PlannedWrite.{PlannedWrite}
use Rattle.batch_order.specs.declared.planned_writes.PlannedWrite.TheVariants.{Tabled}
use Rattle.batch_order.specs.declared.restarting.resuming.Rest.{Rest}
use Rattle.batch_order.specs.declared.translation.Translation.{Translation}
use Rattle.batch_order.specs.Entries.{AddsIds, AreTold, Entries}
use Rattle.batch_order.specs.Kept.{bits_of, changed_by, mode_of, needed_by, tables_of}
use Rattle.batch_order.specs.Placing.{aims_from, aims_left, aims_of}
use Rattle.batch_order.specs.Planning.{AreAllPlanned, IsPlannable, IsSettled, IsWithin, as_write, as_writes, all_writes}
use Rattle.batch_order.specs.Restart.{in_use}
use Rattle.batch_order.specs.Standing.{planned_twin}
use Rattle.batch_order.specs.RestPlan.{IsRestPlan}
use Rattle.batch_order.specs.Stopped.{IsPlannedOn, IsReadAgain, IsStopped, counts_of}
use Rattle.batch_order.proofs.planning.Aimed.{aims_rest}
use Rattle.batch_order.proofs.arranged.Cleared.{settled_erased}
use Rattle.batch_order.proofs.planning.Judged.{Fits}
use Rattle.batch_order.proofs.planning.Leading.{rewritten_ids, still_changed, still_live}
use Rattle.batch_order.proofs.restarted.LeftParts.{all_drop, erased_left, inserted_left, pairs_drop, rewritten_left}
use Rattle.batch_order.proofs.planning.Meant.{as_append, as_words, words_within}
use Rattle.batch_order.proofs.ids.Numbered.{ids_apart, ids_few}
use Rattle.batch_order.proofs.restarted.Rested.{restart_planned, restart_written}
use Rattle.batch_order.proofs.planning.Taken.{ids_live, rewrites_live}
use Rattle.batch_order.proofs.planning.Translated.{same_tables}

-- the batch fits the free bits of what is kept,
pub fits_kept : (translation : Option Translation) (mode : Mode) (rules : List Rule) (batch : List Command) → mode_of translation ≡ mode → CanCommit mode (bits_of translation) rules batch
    → IfSome translation (λ kept. Fits Src kept.bits batch) × IfSome translation (λ kept. Fits Dst kept.bits batch)
fits_kept None mode rules batch is can = (tt, tt)
fits_kept (Some kept) mode rules batch is can =
    (src_fits mode rules batch kept.bits (sym is) can.bits_are can.src_map can.few, dst_fits mode rules batch kept.bits (sym is) can.bits_are can.dst_map can.few)

-- and the live ranges meanwhile are those of the commit
pub needed_meanwhile : (translation : Option Translation) (mode : Mode) (rules : List Rule) (batch : List Command) → mode_of translation ≡ mode → CanCommit mode (bits_of translation) rules batch
    → needed_by translation batch ≡ bits_with mode rules batch (bits_of translation)
needed_meanwhile None mode rules batch is can = cover_meanwhile mode rules batch (bits_of None) (sym is) can.bits_are can.src_map can.dst_map
needed_meanwhile (Some kept) mode rules batch is can = bits_meanwhile mode rules batch kept.bits (sym is) can.bits_are

-- the erase of the twin, as a write, and among the slots in use
as_twin : (entries : IdEntries) (rewrites : List Rewrite) (twin : Option ℕ) → as_writes entries rewrites (planned_twin twin) ≡ twin_writes twin
as_twin entries rewrites None = refl
as_twin entries rewrites (Some at) = refl

twin_within : (size : ℕ) (twin : Option ℕ) → IfSome twin (λ at. at < size) → AllByRecursion (IsWithin size) (planned_twin twin)
twin_within size None inside = tt
twin_within size (Some at) inside = (inside, tt)

twin_slots : (twin : Option ℕ) → AreToSlots (twin_writes twin)
twin_slots None = tt
twin_slots (Some at) = (refl, tt)

-- what is planned first: some words of the tables, and the erase of the twin
pub record AreFirstPlanned (words : List Write) (twin : Option ℕ) (plan : Plan) : Type 0 where
  pub writes : all_writes plan.writes ≡ map Tabled words ++ planned_twin twin
  pub no_changes : plan.writes.changes.items ≡ []
  pub number : plan.words ≡ length words
  pub most : plan.most ≡ 0
  pub span : plan.span ≡ 0

-- the words by what is kept are those that the rest begins with
words_rest : (translation : Option Translation) (mode : Mode) (rules : List Rule) (batch : List Command) (state : State) → mode_of translation ≡ mode → CanCommit mode (bits_of translation) rules batch
    → tables_of translation ≡ record state { slots = [] }
    → bit_writes (tables_of translation) (new_bits (bits_of translation) (needed_by translation batch)) ≡ fresh_writes mode (bits_of translation) rules batch state
words_rest translation mode rules batch state is can tables =
    ap₂ (λ (shown : State) (meanwhile : FieldBits). bit_writes shown (new_bits (bits_of translation) meanwhile)) tables (needed_meanwhile translation mode rules batch is can)

pub first_planned : (translation : Option Translation) (mode : Mode) (rules : List Rule) (batch : List Command) (state : State) (twin : Option ℕ) (begun plan : Plan)
    → mode_of translation ≡ mode → CanCommit mode (bits_of translation) rules batch → tables_of translation ≡ record state { slots = [] }
    → all_writes begun.writes ≡ map Tabled (bit_writes (tables_of translation) (new_bits (bits_of translation) (needed_by translation batch)))
    → begun.words ≡ length (all_writes begun.writes) → begun.most ≡ 0 → begun.span ≡ 0
    → all_writes plan.writes ≡ all_writes begun.writes ++ planned_twin twin → plan.writes.changes.items ≡ [] → plan.words ≡ begun.words → plan.most ≡ begun.most → plan.span ≡ begun.span
    → AreFirstPlanned (fresh_writes mode (bits_of translation) rules batch state) twin plan
first_planned translation mode rules batch state twin begun plan is can tables words number most span writes no_changes same_number same_most same_span =
    let own : all_writes begun.writes ≡ map Tabled (fresh_writes mode (bits_of translation) rules batch state) = words ∙ ap (map Tabled) (words_rest translation mode rules batch state is can tables) in
    record {
      writes = writes ∙ ap (λ (some : List PlannedWrite). some ++ planned_twin twin) own;
      no_changes = no_changes;
      number = same_number ∙ (number ∙ (ap length own ∙ length-map (fresh_writes mode (bits_of translation) rules batch state) Tabled));
      most = same_most ∙ most;
      span = same_span ∙ span;
    }

module _ (mode : Mode) (bits : FieldBits) (rules : List Rule) (batch : List Command) (state : State) (shown : Shown) (old : Entries) (slots : Slots)
    (stopped : IsStopped (length slots) mode bits rules batch state shown) (read : IsReadAgain mode bits rules batch state shown old slots) where
  abbrev pieces : CommitPieces
  pieces = commit_pieces mode bits rules batch

  abbrev during : FieldBits
  during = bits_with mode rules batch bits

  abbrev words : List Write
  words = fresh_writes mode bits rules batch state

  abbrev device : State
  device = in_use (length slots) state

  -- how many of each kind are done, so far as they come first
  abbrev put : ℕ
  put = shown.stage.done

  abbrev told : ℕ
  told = shown.stage.done - length shown.inserted.items

  abbrev gone : ℕ
  gone = shown.stage.done - length shown.inserted.items - length shown.rewritten.items

  abbrev left : List Task
  left = stopped.found.left

  -- what is left of each kind
  inserted_shown : filter_map inserted_by left ≡ drop put shown.inserted.items
  inserted_shown = inserted_left pieces stopped.found.done left stopped.found.stage.parts put stopped.found.done_number ∙ ap (drop put) (sym stopped.is_shown.inserted)

  rewritten_shown : filter_map rewritten_by left ≡ drop told shown.rewritten.items
  rewritten_shown =
      rewritten_left pieces stopped.found.done left stopped.found.stage.parts put stopped.found.done_number
      ∙ ap₂ (λ (i r : List RankedPiece). drop (put - length i) r) (sym stopped.is_shown.inserted) (sym stopped.is_shown.rewritten)

  erased_shown : filter_map erased_by left ≡ drop gone shown.erased.items
  erased_shown =
      erased_left pieces stopped.found.done left stopped.found.stage.parts put stopped.found.done_number
      ∙ (ap₂ (λ (i r : List RankedPiece). drop (put - length i - length r) pieces.erased) (sym stopped.is_shown.inserted) (sym stopped.is_shown.rewritten)
      ∙ ap (drop gone) (sym stopped.is_shown.erased))

  -- it has entries
  new_encodable : AllByRecursion (λ ranked. IsEncodable ranked.piece) (pieces.inserted ++ pieces.rewritten)
  new_encodable = all_back (λ (ranked : RankedPiece). IsEncodable ranked.piece) pieces.old (pieces.inserted ++ pieces.rewritten) stopped.encodable

  pub rewritten_encodable : AllByRecursion (λ ranked. IsEncodable ranked.piece) shown.rewritten.items
  rewritten_encodable = subst (AllByRecursion (λ (ranked : RankedPiece). IsEncodable ranked.piece)) (sym stopped.is_shown.rewritten)
      (all_back (λ (ranked : RankedPiece). IsEncodable ranked.piece) pieces.inserted pieces.rewritten new_encodable)

  pub inserted_encodable : AllByRecursion (λ ranked. IsEncodable ranked.piece) (drop shown.stage.done shown.inserted.items)
  inserted_encodable = subst (λ (some : List RankedPiece). AllByRecursion (λ (ranked : RankedPiece). IsEncodable ranked.piece) (drop put some)) (sym stopped.is_shown.inserted)
      (all_drop (λ (ranked : RankedPiece). IsEncodable ranked.piece) put pieces.inserted (all_front (λ (ranked : RankedPiece). IsEncodable ranked.piece) pieces.inserted pieces.rewritten new_encodable))

  -- no two of it are one piece
  abbrev Differ : RankedPiece → RankedPiece → Type 0
  Differ a b = a.rank ≡ b.rank → a.piece ≡ b.piece → ⊥

  change : IsSoundChange rules batch
  change = change_of mode bits rules batch stopped.can

  told_once : AreOnce (drop told shown.rewritten.items)
  told_once = subst (λ (some : List RankedPiece). AreOnce (drop told some)) (sym stopped.is_shown.rewritten)
      (pairs_drop Differ told pieces.rewritten (AllPairs-filter Differ (changes_result rules) (rewritten_pieces mode during rules batch) (rewritten_once mode during rules batch change)))

  gone_once : AreOnce (drop gone shown.erased.items)
  gone_once = subst (λ (some : List RankedPiece). AreOnce (drop gone some)) (sym stopped.is_shown.erased)
      (pairs_drop Differ gone pieces.erased (erased_once mode during rules batch change))

  live_few : length old.live ≤ most_slots
  live_few = (let count = read.settled.count in let few = read.settled.few in omega arith)

  pub rewrites_few : (rewrites : List Rewrite) → AllZip (IsRewriteOf old.live) (drop (shown.stage.done - length shown.inserted.items) shown.rewritten.items) rewrites → length rewrites ≤ most_slots
  rewrites_few rewrites are =
      let ids : List ℕ = map (λ (rewrite : Rewrite). rewrite.id) rewrites in
      let number : length ids ≡ length rewrites = length-map rewrites (λ (rewrite : Rewrite). rewrite.id) in
      let fewer : length ids ≤ length old.live = ids_few old.slots old.live (drop told shown.rewritten.items) ids read.settled.apart told_once (rewritten_ids old.live (drop told shown.rewritten.items) rewrites are) in
      let most = live_few in
      omega arith

  erases_few : (erased : List ℕ) → AllZip (IsIdOf old.live) (drop gone shown.erased.items) erased → length erased ≤ most_slots
  erases_few erased are =
      let fewer : length erased ≤ length old.live = ids_few old.slots old.live (drop gone shown.erased.items) erased read.settled.apart gone_once are in
      let most = live_few in
      omega arith

  pub erased_apart : (erased : List ℕ) → AllZip (IsIdOf old.live) (drop (shown.stage.done - length shown.inserted.items - length shown.rewritten.items) shown.erased.items) erased → IsDistinct nat_eq erased
  erased_apart erased are = ids_apart old.slots old.live (drop gone shown.erased.items) erased read.settled.apart gone_once are

  pub erased_still : (new : Entries) (ids : List ℕ) → AddsIds old new ids → (erased : List ℕ)
      → AllZip (IsIdOf old.live) (drop (shown.stage.done - length shown.inserted.items - length shown.rewritten.items) shown.erased.items) erased
      → AllByRecursion (λ id. IsTrue (is_live new.live id)) erased
  erased_still new ids adds erased are =
      subst (λ (l : List LivePiece). AllByRecursion (λ (id : ℕ). IsTrue (is_live l id)) erased) (sym adds.live)
      (still_live old.live adds.made erased (ids_live old.live (drop gone shown.erased.items) erased are))

  -- words and the twin's erase are within the slots in use
  pub first_plannable : (plan : Plan) → AreFirstPlanned (fresh_writes mode bits rules batch state) shown.stage.twin plan → AreTold old slots → IsPlannable old slots plan.writes
  first_plannable plan first are_told = record {
    settled = read.settled;
    within = subst (AllByRecursion (IsWithin old.slots)) (sym first.writes)
        (all_append (IsWithin old.slots) (map Tabled words) (planned_twin shown.stage.twin)
        (words_within old.slots words (tables_in_use old.slots words (bit_writes-tables state (new_bits bits during))))
        (twin_within old.slots shown.stage.twin (subst (λ (size : ℕ). IfSome shown.stage.twin (λ at. at < size)) read.settled.size read.inside)));
    no_changes = first.no_changes;
    told = are_told;
  }

  -- the slots in use, on a device with the others
  device_is : IsState (length device.slots) device
  device_is = same_tables (length device.slots) (length state.slots) state device stopped.is_state record { src = refl; dst = refl } refl

  -- what is to be put in aims as it did when the commit was planned
  aims_on : (placement : Placement)
      → aims_from placement mode (length slots) rules (length old.live + length (drop shown.stage.done shown.inserted.items)) shown.stage.done (drop shown.stage.done shown.inserted.items)
      ≡ aims_left placement mode bits (length slots) rules batch stopped.found.done
  aims_on placement =
      aims_rest placement mode (length slots) rules (length old.live) put shown.inserted.items read.standing
      ∙ ap₂ (λ (n : ℕ) (some : List RankedPiece). drop n (aims_of placement mode (length slots) rules some)) stopped.found.done_number stopped.is_shown.inserted

  module _ (placement : Placement) (device_slots : ℕ) (size : length state.slots ≡ device_slots) (new : Entries) (middle slots' : Slots) (plan : Plan) (aims : List Aiming) (rest : Rest)
      (aims_are : aims ≡ aims_left placement mode bits (length slots) rules batch stopped.found.done)
      (first : AreFirstPlanned (fresh_writes mode bits rules batch state) shown.stage.twin plan)
      (all : AreAllPlanned (arranged_at old slots) (arranged_at new middle) plan rest.plan (filter_map inserted_by stopped.found.left) aims rest.left.rewrites.items rest.left.erased.items)
      (adds : AddsIds old new rest.ids.items)
      (rewrites_are : AllZip (IsRewriteOf old.live) (drop (shown.stage.done - length shown.inserted.items) shown.rewritten.items) rest.left.rewrites.items)
      (erased_are : AllZip (IsIdOf old.live) (drop (shown.stage.done - length shown.inserted.items - length shown.rewritten.items) shown.erased.items) rest.left.erased.items)
      (arranged : slots' ≡ erased_slots middle rest.left.erased.items)
      (coded : coded_by rest.bits ≡ mode) (live : during_of rest.bits ≡ bits_with mode rules batch bits) where
    abbrev rewrites : List Rewrite
    rewrites = rest.left.rewrites.items

    abbrev erased : List ℕ
    erased = rest.left.erased.items

    abbrev planned : List Planned
    planned = all.inserted.planned

    whole : on_device device_slots device ≡ state
    whole = subst (λ (n : ℕ). on_device n device ≡ state) size (stages_narrow (length slots) mode bits rules batch state stopped.found.done left stopped.wide stopped.found.stage)

    front : as_writes new.entries rewrites (all_writes plan.writes) ≡ words ++ twin_writes shown.stage.twin
    front =
        ap (as_writes new.entries rewrites) first.writes
        ∙ (as_append new.entries rewrites (map Tabled words) (planned_twin shown.stage.twin)
        ∙ ap₂ (λ (a b : List Write). a ++ b) (as_words new.entries rewrites words) (as_twin new.entries rewrites shown.stage.twin))

    rest_plan : IsRestPlan device_slots (proposal mode bits rules batch) device (halt_at stopped.found.done left shown.stage.twin) (arranged_at old slots) new rest.plan (aims_left placement mode bits (length slots) rules batch stopped.found.done) (left_changes rewrites erased)
    rest_plan = record {
      planned = planned;
      restart = restart_planned device_slots mode bits rules batch device stopped.found.done left shown.stage.twin old new slots middle plan rest.plan aims rewrites erased all
          stopped.can device_is
          (subst (λ (s : State). IsCommitAt (length slots) mode bits rules batch s stopped.found.done left) (sym whole) stopped.found.stage)
          (subst (λ (s : State). IsTwinSlot s.slots shown.stage.twin) (sym whole) stopped.found.twin)
          read.read
          (subst (λ (some : List RankedPiece). AllZip (IsRewriteOf old.live) some rewrites) (sym rewritten_shown) rewrites_are)
          (subst (λ (some : List RankedPiece). AllZip (IsIdOf old.live) some erased) (sym erased_shown) erased_are);
      aims_are = all.inserted.aims_are ∙ aims_are;
      writes_are = restart_written device_slots mode bits rules batch device stopped.found.done left shown.stage.twin old new slots middle plan rest.plan aims rewrites erased all front;
    }

    -- its numbers
    abbrev behind : List Write
    behind = twin_writes shown.stage.twin ++ batch_writes new.entries slots planned rewrites erased

    tables : table_writes (as_writes new.entries rewrites (all_writes rest.plan.writes)) ≡ length words
    unfolding rest_plan
    tables =
        let counted : table_writes words ≡ length words = all_tables words (bit_writes-tables state (new_bits bits during)) in
        let none : table_writes behind ≡ 0 =
        no_table behind
        (all_append (λ (write : Write). IsFalse (is_table_write write)) (twin_writes shown.stage.twin) (batch_writes new.entries slots planned rewrites erased)
        (twin_slots shown.stage.twin) (batch_slots new.entries slots planned rewrites erased)) in
        let both = ap table_writes rest_plan.writes_are ∙ count_by-append is_table_write words behind in
        omega arith

    numbers : AreNumbersOf (as_writes new.entries rewrites (all_writes rest.plan.writes)) planned (counts_of rest.plan)
    numbers = record {
      writes_are = sym (length-map (all_writes rest.plan.writes) (as_write new.entries rewrites));
      words = all.words ∙ (all.inserted.words ∙ (first.number ∙ sym tables));
      most = all.most ∙ (all.inserted.most ∙ ap (λ (m : ℕ). fold max m (map (λ (insertion : Planned). length insertion.moves) planned)) first.most);
      span = all.span ∙ (all.inserted.span ∙ ap (λ (m : ℕ). fold max m (map (λ (insertion : Planned). insertion.span) planned)) first.span);
    }

    -- what it changes stands under live ids
    changed : AllByRecursion (λ rewrite. IsTrue (is_live new.live rewrite.id)) rewrites
    changed = subst (λ (l : List LivePiece). AllByRecursion (λ (rewrite : Rewrite). IsTrue (is_live l rewrite.id)) rewrites) (sym adds.live)
        (still_changed old.live adds.made rewrites (rewrites_live old.live (drop told shown.rewritten.items) rewrites rewrites_are))

    gone_live : AllByRecursion (λ id. IsTrue (is_live new.live id)) rest.left.erased.items
    gone_live = erased_still new rest.ids.items adds erased erased_are

    settled_then : IsSettled (changed_by new rewrites erased) (erased_slots middle erased)
    settled_then = same_settled (settled_erased new middle erased all.settled (erased_apart erased erased_are) gone_live)
      where
        same_settled : IsSettled (record new { live = erased_live new.live erased }) (erased_slots middle erased) → IsSettled (changed_by new rewrites erased) (erased_slots middle erased)
        same_settled is = record { size = is.size; few = is.few; apart = is.apart; standing = is.standing; order = is.order; count = is.count }

    planned_few : length planned ≤ most_slots
    planned_few =
        let ones : length (map (λ (insertion : Planned). insertion.one) planned) ≡ length planned = length-map planned (λ (insertion : Planned). insertion.one) in
        let more : length new.live ≡ length old.live + length (map (λ (insertion : Planned). insertion.one) planned) =
        ap length all.inserted.live_is ∙ length-append old.live (map (λ (insertion : Planned). insertion.one) planned) in
        let count : free_slots middle + length new.live ≡ new.slots = all.settled.count in
        let most : new.slots ≤ most_slots = all.settled.few in
        omega arith

    planned_on : IsPlannedOn placement device_slots (proposal mode bits rules batch) state shown (arranged_at old slots) (arranged_at new slots') rest
    unfolding rest_plan
    planned_on = record {
      done = stopped.found.done;
      left = left;
      stage = stopped.found.stage;
      plan = rest_plan;
      numbers = numbers;
      coded = coded;
      during = live;
      adds = adds;
      live = all.inserted.live_is;
      kept = all.inserted.kept;
      arranged = arranged ∙ ap (λ (s : Slots). erased_slots s erased) all.inserted.slots_are;
      settled = subst (IsSettled (changed_by new rewrites erased)) (sym arranged) settled_then;
      within = subst (λ (n : ℕ). AllByRecursion (IsWithin n) (all_writes rest.plan.writes)) (all.settled.size ∙ (adds.slots ∙ sym read.settled.size)) all.within;
      changed = changed;
      gone = gone_live;
      once = erased_apart erased erased_are;
      few_writes = all.few;
      few_planned = planned_few;
      few_rewritten = rewrites_few rewrites rewrites_are;
      few_erased = erases_few erased erased_are;
    }

  -- so it is where the pieces that the device shows were planned
  pub all_planned_on : (placement : Placement) (device_slots : ℕ) → length state.slots ≡ device_slots → (new : Entries) (middle slots' : Slots) (plan : Plan) (rest : Rest)
      → AreFirstPlanned (fresh_writes mode bits rules batch state) shown.stage.twin plan
      → AreAllPlanned (arranged_at old slots) (arranged_at new middle) plan rest.plan (drop shown.stage.done shown.inserted.items)
      (aims_from placement mode (length slots) rules (length old.live + length (drop shown.stage.done shown.inserted.items)) shown.stage.done (drop shown.stage.done shown.inserted.items))
      rest.left.rewrites.items rest.left.erased.items
      → AddsIds old new rest.ids.items
      → AllZip (IsRewriteOf old.live) (drop (shown.stage.done - length shown.inserted.items) shown.rewritten.items) rest.left.rewrites.items
      → AllZip (IsIdOf old.live) (drop (shown.stage.done - length shown.inserted.items - length shown.rewritten.items) shown.erased.items) rest.left.erased.items
      → slots' ≡ erased_slots middle rest.left.erased.items → coded_by rest.bits ≡ mode → during_of rest.bits ≡ bits_with mode rules batch bits
      → IsPlannedOn placement device_slots (proposal mode bits rules batch) state shown (arranged_at old slots) (arranged_at new slots') rest
  all_planned_on placement device_slots size new middle slots' plan rest first all adds rewrites_are erased_are arranged coded live =
      let aims : List Aiming = aims_from placement mode (length slots) rules (length old.live + length (drop put shown.inserted.items)) put (drop put shown.inserted.items) in
      planned_on placement device_slots size new middle slots' plan aims rest (aims_on placement) first
      (subst (λ (some : List RankedPiece). AreAllPlanned (arranged_at old slots) (arranged_at new middle) plan rest.plan some aims rest.left.rewrites.items rest.left.erased.items) (sym inserted_shown) all)
      adds rewrites_are erased_are arranged coded live
