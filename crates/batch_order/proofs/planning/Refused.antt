-- A batch that isn't taken after all: the manager is as it was.
use Rattle.std.proofs.Common.{◌≡◌, ℕ, ◌+◌, ◌-◌, Option, List, length, map, take, drop, IsTrue, None, Some, sym, ap, ap₂, subst, ◌∙◌, arith}
use Rattle.std.specs.Prelude.{option_map}
use Rattle.std.specs.List.{AllByRecursion}
use Rattle.std.proofs.Math.Seq.{drop-append_seam}
use Rattle.std.proofs.lemmas.List.{length-append, length-map, take_at}
use Rattle.slot_pool.specs.Arrangement.{Slots}
use Rattle.rule_model.specs.declared.Rule.{Rule}
use Rattle.rule_model.specs.RuleSet.{IsRuleSet}
use Rattle.rule_model.specs.Rule.{HasConditions}
use Rattle.rule_store.specs.Store.{StoredRules}
use Rattle.placement.specs.declared.LivePiece.{LivePiece}
use Rattle.placement.specs.Live.{is_live}
use Rattle.rule_model.specs.declared.words.Entry.{Entry}
use Rattle.commit_writes.specs.Serving.{AreBitsOf}
use Rattle.commit_writes.specs.Planned.{with_slots}
use Rattle.batch_order.specs.declared.Placement.{Placement}
use Rattle.batch_order.specs.declared.held.Held.{Held}
use Rattle.batch_order.specs.declared.translation.Translation.{Translation}
use Rattle.batch_order.specs.Entries.{AreLast, Entries, AddsIds, KeepEntries}
use Rattle.batch_order.specs.Kept.{IsManaged, IsArranged, bits_of, mode_of, tables_of}
use Rattle.batch_order.specs.Managed.{HeldCommit}
use Rattle.batch_order.specs.Undoing.{StandsAt}
use Rattle.batch_order.proofs.arranged.Entered.{contents_kept}
use Rattle.batch_order.proofs.under_way.Carried.{view_of}
use Rattle.batch_order.proofs.arranged.Unchanged.{arranged_same, settled_live}

-- and the others are those from before
pub adds_first : (old new : Entries) (ids : List ℕ) → AddsIds old new ids → take (length new.live - length ids) new.live ≡ old.live
adds_first old new ids adds =
    let number : length adds.made ≡ length ids = sym (length-map adds.made (λ (one : LivePiece). one.id)) ∙ ap length adds.ids_are in
    let total : length new.live ≡ length old.live + length adds.made = ap length adds.live ∙ length-append old.live adds.made in
    let before : length new.live - length ids ≡ length old.live = omega arith in
    ap (take (length new.live - length ids)) adds.live ∙ take_at old.live adds.made (length new.live - length ids) (sym before)

-- the entries of the old ids are as they were where the new ones were forgotten
pub kept_back : (old mid new : Entries) → KeepEntries old.live old.entries mid.entries → KeepEntries new.live mid.entries new.entries → new.live ≡ old.live → KeepEntries old.live old.entries new.entries
kept_back old mid new one two back id now = two id (subst (λ (l : List LivePiece). IsTrue (is_live l id)) (sym back) now) ∙ one id now

-- these ids are the last
pub adds_last : (old new : Entries) (ids : List ℕ) → AddsIds old new ids → AreLast new.live ids
adds_last old new ids adds =
    let number : length adds.made ≡ length ids = sym (length-map adds.made (λ (one : LivePiece). one.id)) ∙ ap length adds.ids_are in
    let total : length new.live ≡ length old.live + length adds.made = ap length adds.live ∙ length-append old.live adds.made in
    let before : length new.live - length ids ≡ length old.live = omega arith in
    (omega arith, ap (map (λ (one : LivePiece). one.id)) (ap₂ drop before adds.live ∙ drop-append_seam old.live adds.made) ∙ adds.ids_are)

-- a manager whose batch wasn't taken after all
pub managed_same : (translation : Option Translation) (rules rules' : StoredRules) (old new : Entries) (slots : Slots) → IsManaged translation rules old slots None → rules'.rules ≡ rules.rules
    → new.live ≡ old.live → new.slots ≡ old.slots → KeepEntries old.live old.entries new.entries → IsManaged translation rules' new slots None
managed_same translation rules rules' old new slots managed same live size kept = record {
  right = subst (AllByRecursion HasConditions) (sym same) managed.right;
  is_set = subst IsRuleSet (sym same) managed.is_set;
  tables = managed.tables;
  translated = subst (λ (set : List Rule). AreBitsOf (mode_of translation) (bits_of translation) set (tables_of translation)) (sym same) managed.translated;
  carried = subst (λ (set : List Rule). IsArranged (mode_of translation) (bits_of translation) set new slots) (sym same)
      (arranged_same (mode_of translation) (bits_of translation) rules.rules old new slots managed.carried live size kept);
}

-- and it looks the same
pub view_same : (placement : Placement) (translation : Option Translation) (rules rules' : StoredRules) (old new : Entries) (slots : Slots) → IsManaged translation rules old slots None → rules'.rules ≡ rules.rules
    → KeepEntries old.live old.entries new.entries → view_of placement translation rules' new slots None ≡ view_of placement translation rules old slots None
view_same placement translation rules rules' old new slots managed same kept =
    ap₂ (λ (r : List Rule) (e : List (Option Entry)).
    record { slots = length slots; mode = mode_of translation; placement = placement; rules = r; bits = bits_of translation; state = with_slots (tables_of translation) e; held = None }) same
    (contents_kept old.live old.entries new.entries slots kept (settled_live old slots managed.carried.settled))

-- with no commit under way the arrangement that is kept is that of the set
pub stands_idle : (before now : Slots) (held : Option Held) (seen : Held → HeldCommit) → option_map seen held ≡ None → StandsAt before now held → now ≡ before
stands_idle before now None seen idle stands = stands
stands_idle before now (Some held) seen idle stands = absurd (cc)

-- it always has as many slots
pub stands_size : (translation : Option Translation) (rules : StoredRules) (kept : Entries) (before now : Slots) (held : Option Held) → IsManaged translation rules kept before held → StandsAt before now held → length now ≡ length before
stands_size translation rules kept before now None managed stands = ap length stands
stands_size translation rules kept before now (Some held) managed stands = ap length stands.0 ∙ (managed.carried.after.settled.size ∙ sym managed.carried.size)
