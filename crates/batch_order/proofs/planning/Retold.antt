-- All that was planned stands where it is told since where ids stand.
use Rattle.std.proofs.Common.{◌≡◌, ℕ, List, Option, ap, sym, subst, ◌∙◌}
use Rattle.rule_model.specs.declared.words.Entry.{Entry}
use Rattle.rule_model.specs.Entry.{RankedPiece}
use Rattle.slot_pool.specs.Arrangement.{Slots}
use Rattle.placement.specs.declared.LivePiece.{LivePiece}
use Rattle.placement.specs.Live.{Homes}
use Rattle.placement.specs.Placement.{Aiming}
use Rattle.commit_writes.specs.declared.Rewrite.{Rewrite}
use Rattle.batch_order.specs.Arranged.{Arranged, arranged_at}
use Rattle.batch_order.specs.declared.plan.Plan.{Plan}
use Rattle.batch_order.specs.Entries.{AddsIds, Entries}
use Rattle.batch_order.specs.Planning.{AreAllPlanned, ArePlannedSince}
use Rattle.batch_order.proofs.arranged.Unchanged.{settled_same}

-- entries that differ at most in what is told
pub record AreSame (old new : Entries) : Type 0 where
  pub live : new.live ≡ old.live
  pub entries : new.entries ≡ old.entries
  pub slots : new.slots ≡ old.slots

-- what is said of both with the same told is said of the other
as_told : (old new : Entries) → AreSame old new → record new { told = old.told } ≡ old
as_told old new same =
    ap (λ (live : List LivePiece). record new { live = live; told = old.told }) same.live
    ∙ (ap (λ (entries : List (Option Entry)). record new { live = old.live; entries = entries; told = old.told }) same.entries
    ∙ ap (λ (slots : ℕ). record old { slots = slots }) same.slots)

since_told : (before kept : Entries) (told : Option Homes) (slots slots' : Slots) (plan plan' : Plan) (pieces : List RankedPiece) (aims : List Aiming)
    → ArePlannedSince before (record kept { told = told }) slots slots' plan plan' pieces aims → ArePlannedSince before kept slots slots' plan plan' pieces aims
since_told before kept told slots slots' plan plan' pieces aims since = record {
  planned = since.planned;
  are_planned = since.are_planned;
  pieces_are = since.pieces_are;
  aims_are = since.aims_are;
  live_is = since.live_is;
  slots_are = since.slots_are;
  have_entries = since.have_entries;
  kept = since.kept;
  writes = since.writes;
  words = since.words;
  most = since.most;
  span = since.span;
  most_parts = since.most_parts;
}

pub since_same : (before old new : Entries) (slots slots' : Slots) (plan plan' : Plan) (pieces : List RankedPiece) (aims : List Aiming) → AreSame old new
    → ArePlannedSince before old slots slots' plan plan' pieces aims → ArePlannedSince before new slots slots' plan plan' pieces aims
since_same before old new slots slots' plan plan' pieces aims same since =
    since_told before new old.told slots slots' plan plan' pieces aims (subst (λ (kept : Entries). ArePlannedSince before kept slots slots' plan plan' pieces aims) (sym (as_told old new same)) since)

pub adds_same : (before old new : Entries) (ids : List ℕ) → AreSame old new → AddsIds before old ids → AddsIds before new ids
adds_same before old new ids same adds = record { made = adds.made; live = same.live ∙ adds.live; ids_are = adds.ids_are; slots = same.slots ∙ adds.slots }

pub all_same : (before : Arranged) (old new : Entries) (slots : Slots) (plan plan' : Plan) (pieces : List RankedPiece) (aims : List Aiming) (rewrites : List Rewrite) (erased : List ℕ) → AreSame old new
    → AreAllPlanned before (arranged_at old slots) plan plan' pieces aims rewrites erased → AreAllPlanned before (arranged_at new slots) plan plan' pieces aims rewrites erased
all_same before old new slots plan plan' pieces aims rewrites erased same all = record {
  between = all.between;
  inserted = since_same before.kept old new before.slots slots plan all.between pieces aims same all.inserted;
  settled = settled_same old new slots all.settled same.live same.slots;
  within = all.within;
  writes = all.writes;
  words = all.words;
  most = all.most;
  span = all.span;
  most_parts = all.most_parts;
  few = all.few;
}
