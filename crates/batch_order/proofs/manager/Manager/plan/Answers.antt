use Rattle.std.proofs.Common.{◌≡◌, ℕ, ◌≤◌, ◌+◌, ◌*◌, ◌^◌, ◌∙◌, false, true, List, length, map, Option, Some, None, Ok, Err, OnErr, Result, refl, sym, ap, subst, arith}
use Rattle.std.specs.List.{AllByRecursion, AllZip}
use Rattle.std.proofs.lemmas.List.{length-map}
use Rattle.slot_pool.specs.Arrangement.{Slots}
use Rattle.rule_model.specs.declared.Rule.{Rule}
use Rattle.placement.specs.declared.LivePiece.{LivePiece}
use Rattle.rule_store.specs.declared.Mode.{Mode}
use Rattle.rule_store.specs.declared.Command.{Command}
use Rattle.rule_store.specs.Store.{StoredRules}
use Rattle.rule_store.specs.Batch.{ChangesRules, batch_fault, most_commands}
use Rattle.rule_store.specs.Verdict.{verdict, Accepted, entries_of}
use Rattle.rule_model.specs.Entry.{RankedPiece, IsEncodable}
use Rattle.commit_writes.specs.declared.Rewrite.{Rewrite}
use Rattle.commit_writes.specs.Bits.{FieldBits, bits_with, new_bits}
use Rattle.commit_writes.specs.Shape.{set_pieces, inserted_pieces, rewritten_pieces, erased_pieces, fresh_writes}
use Rattle.commit_writes.specs.PlannedBatch.{IsIdOf, IsRewriteOf, erased_slots}
use Rattle.commit_writes.proofs.TableWrites.{bit_writes-tables, tables_in_use}
use Rattle.commit_writes.specs.Changes.{coded_by, during_of}
use Rattle.batch_order.specs.declared.Placement.{Placement}
use Rattle.batch_order.specs.declared.held.Held.{Held}
use Rattle.batch_order.specs.declared.plan.Plan.{Plan}
use Rattle.batch_order.specs.declared.planned_writes.PlannedWrite.{PlannedWrite}
use Rattle.batch_order.specs.declared.planned_writes.PlannedWrite.TheVariants.{Tabled}
use Rattle.batch_order.specs.declared.translation.Translation.{Translation}
use Rattle.batch_order.specs.Entries.{AddsIds, AreTold, Entries, HaveIds}
use Rattle.batch_order.specs.Kept.{IsManaged, bits_of, held_of, mode_of, settled_state}
use Rattle.batch_order.specs.Placing.{aims_of}
use Rattle.batch_order.specs.Noting.{BeginsWithWords, all_undo}
use Rattle.batch_order.specs.Planning.{ArePlannedSince, all_writes}
use Rattle.batch_order.specs.Undoing.{AreRestoring, StandsAt, TakesBack}
use Rattle.batch_order.specs.Managed.{Managed, Holds}
use Rattle.batch_order.proofs.planning.Parted.{inserted_encodable, rewritten_encodable}
use Rattle.batch_order.proofs.ids.Numbered.{arranged_number}
use Rattle.batch_order.proofs.ids.Needed.{rules_entries}
use Rattle.batch_order.proofs.planning.Judged.{accepted_room, entries_few, idle_held}
use Rattle.batch_order.proofs.arranged.Cleared.{all_stand}
use Rattle.batch_order.proofs.arranged.Unchanged.{settled_same}
use Rattle.batch_order.proofs.under_way.Carried.{view_of}
use Rattle.batch_order.proofs.planning.Refused.{managed_same, view_same}
use Rattle.batch_order.proofs.planning.Retold.{AreSame, adds_same, since_same}
use Rattle.batch_order.proofs.planning.Taken.{ArePartsOf, IsCoded, IsTaken, behind_by, behind_serves, during_by, inserted_room, kept_so, pieces_have_ids, plan_made, plan_words, said_so, words_by}
use Rattle.batch_order.proofs.planning.Leading.{AreLiveParts, few_rewrites, live_parts, parts_apart, parts_live_before}
use Rattle.batch_order.proofs.planning.Holding.{IsHeldPlan, holds_plan, managed_held}
use Rattle.batch_order.proofs.manager.Manager.plan.Goals as goal

-- what is known where a batch is to be planned, as the call tells it
taken_as : (placement : Placement) (translation : Option Translation) (rules : StoredRules) (kept : Entries) (slots : Slots) (held : Option Held) (now : Managed) (batch : List Command) → IsManaged translation rules kept slots held
    → view_of placement translation rules kept slots held ≡ now → now.held ≡ None → AllByRecursion ChangesRules batch → batch_fault now.rules batch ≡ None → verdict now.slots now.mode now.rules batch ≡ Accepted
    → IsTaken translation rules kept slots batch
taken_as placement translation rules kept slots held now batch is view idle changes sound fits =
    let none : held ≡ None = idle_held (held_of translation slots rules.rules kept.entries) held (rw (← view) at idle) in
    let sound_so : batch_fault rules.rules batch ≡ None = rw (← view) at sound in
    let fits_so : verdict (length slots) (mode_of translation) rules.rules batch ≡ Accepted = rw (← view) at fits in
    record {
      managed = subst (IsManaged translation rules kept slots) none is;
      change = record { is_set = is.is_set; right = is.right; changes = changes; sound = sound_so };
      room = accepted_room (length slots) (mode_of translation) rules.rules batch sound_so fits_so;
    }

-- the live ranges that the words are planned for,
coded_as : (placement : Placement) (translation : Option Translation) (rules : StoredRules) (kept : Entries) (slots : Slots) (held : Option Held) (now : Managed) (batch : List Command) (bits : Option FieldBits)
    → view_of placement translation rules kept slots held ≡ now → (coded_by bits ≡ now.mode) × (during_of bits ≡ bits_with now.mode now.rules batch now.bits) → IsCoded translation rules batch bits
coded_as placement translation rules kept slots held now batch bits view are =
    let said : (coded_by bits ≡ mode_of translation) × (during_of bits ≡ during_by translation rules batch) = rw (← view) at are in record { coded = said.0; during = said.1 }

-- and the words
words_as : (placement : Placement) (translation : Option Translation) (rules : StoredRules) (kept : Entries) (slots : Slots) (held : Option Held) (now : Managed) (batch : List Command) (writes : List PlannedWrite)
    → view_of placement translation rules kept slots held ≡ now → now.held ≡ None → writes ≡ map Tabled (fresh_writes now.mode now.bits now.rules batch now.state) → writes ≡ map Tabled (words_by translation rules kept slots batch)
words_as placement translation rules kept slots held now batch writes view idle are =
    let none : held ≡ None = idle_held (held_of translation slots rules.rules kept.entries) held (rw (← view) at idle) in
    let said : writes ≡ map Tabled (fresh_writes (mode_of translation) (bits_of translation) rules.rules batch (view_of placement translation rules kept slots held).state) = rw (← view) at are in
    subst (λ (h : Option Held). writes ≡ map Tabled (fresh_writes (mode_of translation) (bits_of translation) rules.rules batch (view_of placement translation rules kept slots h).state)) none said

pub parts_of-requires : goal.parts_of-requires
parts_of-requires c =
    let i = c.self.inside in
    let t = taken_as i.placement i.translation i.rules i.live i.arrangement i.held c.args.self.now c.args.batch.now c.self.invariant.0 c.self.view_is c.requires.idle c.requires.changes c.requires.sound c.requires.fits in
    let coded = coded_as i.placement i.translation i.rules i.live i.arrangement i.held c.args.self.now c.args.batch.now c.in_ok-bits.bits c.self.view_is c.in_ok-bits.ensures.bits in
    record {
      is_set = t.change.is_set;
      right = t.change.right;
      changes = t.change.changes;
      sound = t.change.sound;
      encodable = kept_so i.translation i.rules c.args.batch.now c.in_ok-bits.bits coded (λ m b. AllByRecursion (λ ranked. IsEncodable ranked.piece) (rewritten_pieces m b i.rules.rules c.args.batch.now))
          (rewritten_encodable (mode_of i.translation) (during_by i.translation i.rules c.args.batch.now) i.rules.rules c.args.batch.now t.change (behind_by i.translation i.rules i.live i.arrangement c.args.batch.now)
          (behind_serves i.translation i.rules i.live i.arrangement c.args.batch.now t));
      live = kept_so i.translation i.rules c.args.batch.now c.in_ok-bits.bits coded (λ m b. HaveIds i.live.live (set_pieces m b i.rules.rules)) (pieces_have_ids i.translation i.rules i.live i.arrangement c.args.batch.now t);
    }

pub reserve-requires : goal.reserve-requires
reserve-requires c =
    let i = c.self.inside in
    let few = entries_few i.translation i.rules i.live i.arrangement i.held c.self.invariant.0 in
    let fewer = rules_entries (mode_of i.translation) i.rules.rules c.self.invariant.0.right in
    let most : c.len.result ≤ most_commands = c.len.ensures.most in
    omega arith

-- the parts of the commit, with the live ranges of the plan
parts_as : (translation : Option Translation) (rules : StoredRules) (batch : List Command) (bits : Option FieldBits) (live : List LivePiece) (rewrites : List Rewrite) (erased : List ℕ) → IsCoded translation rules batch bits
    → AllZip (IsRewriteOf live) (rewritten_pieces (coded_by bits) (during_of bits) rules.rules batch) rewrites → AllZip (IsIdOf live) (erased_pieces (coded_by bits) (during_of bits) rules.rules batch) erased
    → ArePartsOf (mode_of translation) (during_by translation rules batch) rules.rules batch live rewrites erased
parts_as translation rules batch bits live rewrites erased coded rewrites_are erased_are = record {
  rewrites_are = said_so translation rules batch bits coded (λ m b. AllZip (IsRewriteOf live) (rewritten_pieces m b rules.rules batch) rewrites) rewrites_are;
  erased_are = said_so translation rules batch bits coded (λ m b. AllZip (IsIdOf live) (erased_pieces m b rules.rules batch) erased) erased_are;
}

-- with the new ids live, the ids that are rewritten and those that are erased are live
parts_live : (translation : Option Translation) (rules : StoredRules) (old new : Entries) (slots : Slots) (batch : List Command) (ids : List ℕ) (rewrites : List Rewrite) (erased : List ℕ) → IsTaken translation rules old slots batch
    → AddsIds old new ids → ArePartsOf (mode_of translation) (during_by translation rules batch) rules.rules batch old.live rewrites erased → AreLiveParts new.live rewrites erased
parts_live translation rules old new slots batch ids rewrites erased t adds parts =
    subst (λ (l : List LivePiece). AreLiveParts l rewrites erased) (sym adds.live)
    (live_parts (mode_of translation) (during_by translation rules batch) rules.rules batch old.slots old.live adds.made rewrites erased t.managed.carried.settled.apart t.change parts)

-- with no commit under way the arrangement is that of the set
stands_as : (placement : Placement) (translation : Option Translation) (rules : StoredRules) (kept : Entries) (slots planned : Slots) (held : Option Held) (now : Managed)
    → view_of placement translation rules kept slots held ≡ now → now.held ≡ None → StandsAt slots planned held → planned ≡ slots
stands_as placement translation rules kept slots planned held now view idle stands =
    let none = idle_held (held_of translation slots rules.rules kept.entries) held (rw (← view) at idle) in
    subst (StandsAt slots planned) none stands

pub plan_writes-requires : goal.plan_writes-requires
plan_writes-requires c =
    let i = c.self.inside in
    let batch = c.args.batch.now in
    let t = taken_as i.placement i.translation i.rules i.live i.arrangement i.held c.args.self.now batch c.self.invariant.0 c.self.view_is c.requires.idle c.requires.changes c.requires.sound c.requires.fits in
    let coded = coded_as i.placement i.translation i.rules i.live i.arrangement i.held c.args.self.now batch c.in_ok-bits.bits c.self.view_is c.in_ok-bits.ensures.bits in
    let words = words_as i.placement i.translation i.rules i.live i.arrangement i.held c.args.self.now batch (all_writes c.plan_words.new.plan.writes) c.self.view_is c.requires.idle c.in_ok-bits.ensures.writes in
    let during = during_by i.translation i.rules batch in
    let rewrites = c.in_ok-parts.parts.rewrites.items in
    let erased = c.in_ok-parts.parts.erased.items in
    let of_batch = parts_as i.translation i.rules batch c.in_ok-bits.bits i.live.live rewrites erased coded c.in_ok-parts.ensures.rewrites c.in_ok-parts.ensures.erased in
    let live = parts_live_before (mode_of i.translation) during i.rules.rules batch i.live.live rewrites erased of_batch in
    let room = kept_so i.translation i.rules batch c.in_ok-bits.bits coded (λ m b. length i.live.live + length (inserted_pieces m b i.rules.rules batch) ≤ i.live.slots) (inserted_room i.translation i.rules i.live i.arrangement batch t) in
    let encodable = kept_so i.translation i.rules batch c.in_ok-bits.bits coded (λ m b. AllByRecursion (λ ranked. IsEncodable ranked.piece) (inserted_pieces m b i.rules.rules batch))
    (inserted_encodable (mode_of i.translation) during i.rules.rules batch t.change (behind_by i.translation i.rules i.live i.arrangement batch) (behind_serves i.translation i.rules i.live i.arrangement batch t)) in
    record {
      standing = arranged_number (mode_of i.translation) (bits_of i.translation) i.rules.rules i.live i.arrangement t.managed.is_set t.managed.carried
          ∙ ap (entries_of (mode_of i.translation)) (sym c.reserve.ensures.rules);
      room = rw c.in_ok-parts.ensures.inserted room;
      encodable = rw c.in_ok-parts.ensures.inserted encodable;
      plannable = rw (stands_as i.placement i.translation i.rules i.live i.arrangement i.planned i.held c.args.self.now c.self.view_is c.requires.idle c.self.invariant.1) (plan_words i.live i.arrangement c.plan_words.new.plan.writes (words_by i.translation i.rules i.live i.arrangement batch) words (c.plan_words.ensures.no_changes ∙ c.new-plan.ensures.no_changes) t.managed.carried.settled
          (tables_in_use i.live.slots (words_by i.translation i.rules i.live i.arrangement batch) (bit_writes-tables (settled_state i.translation i.live.entries i.arrangement) (new_bits (bits_of i.translation) during)))
          (subst (λ (slots : Slots). AreTold i.live slots) (stands_as i.placement i.translation i.rules i.live i.arrangement i.planned i.held c.args.self.now c.self.view_is c.requires.idle c.self.invariant.1) c.self.invariant.2));
      begins = subst (λ (m : Mode). BeginsWithWords m c.plan_words.new.plan) (sym (ap (λ (now : Managed). now.mode) c.self.view_is)) c.in_ok-bits.ensures.begins;
      few =
          let fewer = few_rewrites (mode_of i.translation) during i.rules.rules batch i.live.slots i.live.live rewrites erased t.managed.carried.settled.apart t.change of_batch in
          let count = t.managed.carried.settled.count in
          let most = t.managed.carried.settled.few in
          omega arith;
      rewritten = live.0;
      erased = live.1;
      apart = parts_apart (mode_of i.translation) during i.rules.rules batch i.live.slots i.live.live rewrites erased t.managed.carried.settled.apart t.change of_batch;
    }

pub erase_all-requires : goal.erase_all-requires
erase_all-requires c =
    let i = c.self.inside in
    let batch = c.args.batch.now in
    let t = taken_as i.placement i.translation i.rules i.live i.arrangement i.held c.args.self.now batch c.self.invariant.0 c.self.view_is c.requires.idle c.requires.changes c.requires.sound c.requires.fits in
    let coded = coded_as i.placement i.translation i.rules i.live i.arrangement i.held c.args.self.now batch c.in_ok-bits.bits c.self.view_is c.in_ok-bits.ensures.bits in
    let rewrites = c.in_ok-parts.parts.rewrites.items in
    let erased = c.in_ok-parts.parts.erased.items in
    let parts = parts_live i.translation i.rules i.live c.plan_writes.new.live i.arrangement batch c.in_ok-ids.ids.items rewrites erased t c.in_ok-ids.ensures.adds
    (parts_as i.translation i.rules batch c.in_ok-bits.bits i.live.live rewrites erased coded c.in_ok-parts.ensures.rewrites c.in_ok-parts.ensures.erased) in
    record {
      distinct = rw c.deref.ensures.value parts.once;
      standing = rw c.deref.ensures.value (all_stand c.plan_writes.new.live c.plan_writes.new.arrangement erased c.in_ok-ids.ensures.planned.settled parts.gone);
    }

-- what holds of a refusal wherever it comes
at_err : {A B : Type 0} (result : Result A B) (P : Type 0) → P → OnErr result P
at_err (Ok value) P holds = tt
at_err (Err fault) P holds = holds

pub invariant_of-self-in_err-ids : goal.invariant_of-self-in_err-ids
invariant_of-self-in_err-ids c =
    let i = c.self.inside in
    let none = idle_held (held_of i.translation i.arrangement i.rules.rules i.live.entries) i.held (rw (← c.self.view_is) at c.requires.idle) in
    let managed : IsManaged i.translation i.rules i.live i.arrangement None = subst (IsManaged i.translation i.rules i.live i.arrangement) none c.self.invariant.0 in
    let stands : i.planned ≡ i.arrangement = subst (StandsAt i.arrangement i.planned) none c.self.invariant.1 in
    rw c.plan_writes.ensures.same (
      subst (IsManaged i.translation c.reserve.new.self c.plan_writes.new.live i.arrangement) (sym none)
          (managed_same i.translation i.rules c.reserve.new.self i.live c.plan_writes.new.live i.arrangement managed c.reserve.ensures.rules c.in_err-ids.ensures.refused c.plan_writes.ensures.slots c.plan_writes.ensures.kept),
      subst (StandsAt i.arrangement c.plan_writes.new.arrangement) (sym none) (c.in_err-ids.ensures.back ∙ stands),
      c.plan_writes.ensures.told,
    )

pub returns-in_err-ids-clause-refused : goal.returns-in_err-ids-clause-refused
returns-in_err-ids-clause-refused c =
    let i = c.self.inside in
    let none = idle_held (held_of i.translation i.arrangement i.rules.rules i.live.entries) i.held (rw (← c.self.view_is) at c.requires.idle) in
    let managed : IsManaged i.translation i.rules i.live i.arrangement None = subst (IsManaged i.translation i.rules i.live i.arrangement) none c.self.invariant.0 in
    let view : view_of i.placement i.translation i.rules i.live i.arrangement i.held ≡ c.args.self.now = c.self.view_is in
    let same : view_of i.placement i.translation c.reserve.new.self c.plan_writes.new.live i.arrangement i.held ≡ view_of i.placement i.translation i.rules i.live i.arrangement i.held =
    subst (λ (h : Option Held). view_of i.placement i.translation c.reserve.new.self c.plan_writes.new.live i.arrangement h ≡ view_of i.placement i.translation i.rules i.live i.arrangement h) (sym none)
    (view_same i.placement i.translation i.rules c.reserve.new.self i.live c.plan_writes.new.live i.arrangement managed c.reserve.ensures.rules c.plan_writes.ensures.kept) in
    at_err c.from_residual-in_err-ids.result _ (rw c.plan_writes.ensures.same (same ∙ view))

-- insertions that were planned for the same rules and pieces, in an arrangement that stands as the set's entries do
planned_from : (old new : Entries) (slots copy middle : Slots) (plan plan' : Plan) (placement : Placement) (mode : Mode) (rules set : List Rule) (pieces listed : List RankedPiece) → copy ≡ slots → set ≡ rules → listed ≡ pieces
    → ArePlannedSince old new copy middle plan plan' listed (aims_of placement mode (length copy) set listed) → ArePlannedSince old new slots middle plan plan' pieces (aims_of placement mode (length slots) rules pieces)
planned_from old new slots copy middle plan plan' placement mode rules set pieces listed same_slots same_rules same_pieces planned =
    subst (λ (some : List RankedPiece). ArePlannedSince old new slots middle plan plan' some (aims_of placement mode (length slots) rules some)) same_pieces
    (subst (λ (at : Slots). ArePlannedSince old new at middle plan plan' listed (aims_of placement mode (length at) rules listed)) same_slots
    (subst (λ (some : List Rule). ArePlannedSince old new copy middle plan plan' listed (aims_of placement mode (length copy) some listed)) same_rules planned))

-- the commit that is held in the end, and that it is the plan of the batch
abbrev held_now : goal.After-drop-plan-3 → Held
held_now c = record {
  prepared = true;
  writes = c.plan_writes.new.plan.writes;
  undo = c.plan_writes.new.plan.undo;
  made = 0;
  turned = None;
  awaits = c.gives_bits-awaits.result;
  drained = false;
  counts = c.counts-counts.result;
  bits = c.in_ok-bits.bits;
  batch = c.in_ok-commands.commands;
  rewrites = c.in_ok-parts.parts.rewrites;
  erased = c.in_ok-parts.parts.erased;
  ids = c.in_ok-ids.ids;
  arrangement = c.of.result;
  most_parts = c.plan_writes.new.plan.most_parts;
}

-- where the erased ids stand no more is told too
same_now : (c : goal.After-drop-plan-3) → AreSame c.plan_writes.new.live c.erase_all.new.live
same_now c = record { live = c.erase_all.ensures.live; entries = c.erase_all.ensures.entries; slots = c.erase_all.ensures.number }

stands_now : (c : goal.After-drop-plan-3) → c.self.inside.planned ≡ c.self.inside.arrangement
stands_now c =
    let i = c.self.inside in
    stands_as i.placement i.translation i.rules i.live i.arrangement i.planned i.held c.args.self.now c.self.view_is c.requires.idle c.self.invariant.1

plan_now : (c : goal.After-drop-plan-3)
    → IsHeldPlan c.self.inside.placement c.self.inside.translation c.self.inside.rules c.reserve.new.self c.self.inside.live c.erase_all.new.live c.self.inside.arrangement c.plan_writes.new.arrangement
    c.args.batch.now (held_now c)
plan_now c =
    let i = c.self.inside in
    let batch = c.args.batch.now in
    let bits = c.in_ok-bits.bits in
    let parts = c.in_ok-parts.parts in
    let t = taken_as i.placement i.translation i.rules i.live i.arrangement i.held c.args.self.now batch c.self.invariant.0 c.self.view_is c.requires.idle c.requires.changes c.requires.sound c.requires.fits in
    let coded = coded_as i.placement i.translation i.rules i.live i.arrangement i.held c.args.self.now batch bits c.self.view_is c.in_ok-bits.ensures.bits in
    let words = words_as i.placement i.translation i.rules i.live i.arrangement i.held c.args.self.now batch (all_writes c.plan_words.new.plan.writes) c.self.view_is c.requires.idle c.in_ok-bits.ensures.writes in
    let size = length-map (words_by i.translation i.rules i.live i.arrangement batch) Tabled in
    let all = c.in_ok-ids.ensures.planned in
    let inserted = since_same i.live c.plan_writes.new.live c.erase_all.new.live i.planned c.plan_writes.new.arrangement c.plan_words.new.plan all.between _ _ (same_now c) all.inserted in
    let pieces = said_so i.translation i.rules batch bits coded (λ m b. parts.inserted.items ≡ inserted_pieces m b i.rules.rules batch) c.in_ok-parts.ensures.inserted in
    let since = planned_from i.live c.erase_all.new.live i.arrangement i.planned c.plan_writes.new.arrangement c.plan_words.new.plan all.between i.placement (mode_of i.translation)
    i.rules.rules c.reserve.new.self.rules (inserted_pieces (mode_of i.translation) (during_by i.translation i.rules batch) i.rules.rules batch) parts.inserted.items (stands_now c) c.reserve.ensures.rules pieces inserted in
    let counted = plan_made i.placement i.translation i.rules i.live c.erase_all.new.live i.arrangement c.plan_writes.new.arrangement batch parts.rewrites.items parts.erased.items c.plan_words.new.plan all.between
    (all_writes c.plan_writes.new.plan.writes) c.counts-counts.result t
    (parts_as i.translation i.rules batch bits i.live.live parts.rewrites.items parts.erased.items coded c.in_ok-parts.ensures.rewrites c.in_ok-parts.ensures.erased)
    (c.erase_all.ensures.number ∙ c.plan_writes.ensures.slots)
    (settled_same c.plan_writes.new.live c.erase_all.new.live c.plan_writes.new.arrangement all.settled c.erase_all.ensures.live c.erase_all.ensures.number) since
    record {
      writes = words;
      number = c.in_ok-bits.ensures.words ∙ (ap length words ∙ size);
      few = subst (λ (n : ℕ). n ≤ 2 * 2 ^ 16) (ap length words ∙ size) c.in_ok-bits.ensures.few;
      most = c.plan_words.ensures.most ∙ c.new-plan.ensures.most;
      span = c.plan_words.ensures.span ∙ c.new-plan.ensures.span;
      most_parts = c.plan_words.ensures.most_parts ∙ c.new-plan.ensures.most_parts;
    }
    record {
      within = c.in_ok-ids.ensures.planned.within;
      made = c.in_ok-ids.ensures.planned.writes;
      number = c.counts-counts.ensures.writes;
      words = c.counts-counts.ensures.words ∙ c.in_ok-ids.ensures.planned.words;
      most = c.counts-counts.ensures.most ∙ c.in_ok-ids.ensures.planned.most;
      span = c.counts-counts.ensures.span ∙ c.in_ok-ids.ensures.planned.span;
      few = c.in_ok-ids.ensures.planned.few;
    } in
    record {
      plan = counted.plan;
      longest = all.most_parts ∙ counted.longest;
      same = c.reserve.ensures.rules;
      prepared = refl;
      made = refl;
      awaits = c.gives_bits-awaits.ensures;
      undrained = refl;
      forward = refl;
      undo = subst (λ (slots : Slots). AreRestoring i.translation slots (all_writes c.plan_writes.new.plan.writes) (all_undo c.plan_writes.new.plan.undo)) (stands_now c) c.in_ok-ids.ensures.undo
          c.erase_all.new.live.entries parts.rewrites.items;
      adds = adds_same i.live c.plan_writes.new.live c.erase_all.new.live c.in_ok-ids.ids.items (same_now c) c.in_ok-ids.ensures.adds;
      batch_is = c.in_ok-commands.ensures;
      coded = coded;
    }

pub invariant_of-self-2 : goal.invariant_of-self-2
invariant_of-self-2 c =
    let i = c.self.inside in
    let spare : length c.args.batch.now ≤ c.reserve.new.self.spare = (let n : c.len.result ≡ length c.args.batch.now = c.len.ensures.count in let e : c.len.result ≤ c.reserve.new.self.spare = c.in_ok-reserve.ensures.enough in omega arith) in
    let erased : c.erase_all.new.arrangement ≡ erased_slots c.plan_writes.new.arrangement c.in_ok-parts.parts.erased.items = c.erase_all.ensures.slots ∙ ap (erased_slots c.plan_writes.new.arrangement) c.deref.ensures.value in
    rw c.plan_writes.ensures.same (
      managed_held i.placement i.translation i.rules c.reserve.new.self i.live c.erase_all.new.live i.arrangement c.plan_writes.new.arrangement c.args.batch.now (held_now c) (plan_now c) spare (c.of.ensures ∙ erased),
      (
        sym c.of.ensures,
        λ prepared. subst (λ (now : Slots). TakesBack i.arrangement now c.plan_writes.new.plan.undo) (sym erased)
            (subst (λ (before : Slots). TakesBack before (erased_slots c.plan_writes.new.arrangement c.in_ok-parts.parts.erased.items) c.plan_writes.new.plan.undo) (stands_now c) c.in_ok-ids.ensures.takes_back),
      ),
      c.erase_all.ensures.told c.plan_writes.ensures.told,
    )

pub returns-clause-ready : goal.returns-clause-ready
returns-clause-ready c =
    let i = c.self.inside in
    let batch = c.args.batch.now in
    let none = idle_held (held_of i.translation i.arrangement i.rules.rules i.live.entries) i.held (rw (← c.self.view_is) at c.requires.idle) in
    let view : view_of i.placement i.translation i.rules i.live i.arrangement i.held ≡ c.args.self.now = c.self.view_is in
    let new = view_of i.placement i.translation c.reserve.new.self c.erase_all.new.live i.arrangement (Some (held_now c)) in
    let holds : Holds (view_of i.placement i.translation i.rules i.live i.arrangement None) batch c.counts-counts.result new =
    holds_plan i.placement i.translation i.rules c.reserve.new.self i.live c.erase_all.new.live i.arrangement c.plan_writes.new.arrangement batch (held_now c) (plan_now c) in
    rw c.plan_writes.ensures.same (subst (λ (old : Managed). Holds old batch c.counts-counts.result new) view
    (subst (λ (h : Option Held). Holds (view_of i.placement i.translation i.rules i.live i.arrangement h) batch c.counts-counts.result new) (sym none) holds))
