-- Behind a line that both judges took they know the same again.
use Rattle.std.proofs.Common.{◌≡◌, ◌+◌, ℕ, Bool, true, false, Option, Some, None, List, [], ◌∷◌, refl, sym, ◌∙◌, subst, ap}
use Rattle.std.specs.Prelude.{if◌then◌else◌, nat_eq, nat_lt}
use Rattle.slot_order.proofs.Lists.{all_append}
use Rattle.rule_store.specs.declared.Command.{Command}
use Rattle.rule_store.specs.declared.Command.TheVariants as change
use Rattle.rule_store.specs.declared.Mode.{Mode}
use Rattle.rule_store.specs.declared.Mode.TheVariants.{Bits, Cover}
use Rattle.rule_store.specs.Batch.{ChangesRules}
use Rattle.tcam_device.specs.declared.Write.TheVariants as write
use Rattle.tcam_device.proofs.States.{IsState-blank}
use Rattle.commit_writes.proofs.BatchRules.{IsSoundChange, right_after, set_after-is}
use Rattle.readback.specs.Laws.{CanCommit}
use Rattle.readback.proofs.Begun.{change_of}
use Rattle.trace_file.specs.declared.TraceLine.{TraceLine}
use Rattle.trace_file.specs.declared.TraceLine.TheVariants.{Head, Commit, Add, Set, Del, Put, Erase, Table, Drain, Done, Refused, End, Fault}
use Rattle.trace_check.specs.declared.places.Place.{Place}
use Rattle.trace_check.specs.declared.places.Place.TheVariants.{AtStart, Between, InBatch, InEvents, AtEnd}
use Rattle.trace_check.specs.Places.{Begins, Changes, Ends, Finishes, Happens, Heads, Refuses, kind_of, only_if, place_by, trace_commands}
use Rattle.trace_check.specs.Checked as order
use Rattle.trace_check.specs.Checked.{Checked, without_made}
use Rattle.trace_check.specs.Orderly.{Keeps, Tracing, traced_on}
use Rattle.trace_check.proofs.Maps.{maps_on, no_maps}
use Rattle.trace_check.proofs.Sized.{IsState-apply}
use Rattle.driver_trace.specs.declared.DriverLine.TheVariants.{Common}
use Rattle.driver_trace.specs.Known.{Known, agrees, driver_place, known_on}
use Rattle.line_judge.specs.Followed.{Followed, Takes}
use Rattle.line_judge.proofs.PlacesBehind.{event_next, finish_next, head_next}
use Rattle.two_judges.specs.InStep.{AreInStep, HasRightSet, IsIdleAt, IsLineRight, known_by}
use Rattle.two_judges.proofs.Ordered.{can_commit}

-- a place that a test allows
only : (test : Bool) (place next : Place) → only_if test place ≡ Some next → next ≡ place
only true place next same = (cc)
only false place next same = absurd (cc)

-- Which commands are pending behind a line: none where a commit begins,
begins_idle : (slots n : ℕ) (place next : Place) (batch : List Command) → place_by slots place (Begins n) ≡ Some next → IsIdleAt place batch → (batch ≡ []) × IsIdleAt next []
begins_idle slots n AtStart next batch there idle = absurd (cc)
begins_idle slots n (Between m) next batch there idle = (idle, subst (λ p. IsIdleAt p []) (sym (only (nat_eq n (m + 1)) (InBatch n 0) next there)) tt)
begins_idle slots n (InBatch m k) next batch there idle = absurd (cc)
begins_idle slots n (InEvents m) next batch there idle = absurd (cc)
begins_idle slots n AtEnd next batch there idle = absurd (cc)

-- any among its commands
changes_idle : (slots : ℕ) (place next : Place) (batch : List Command) → place_by slots place Changes ≡ Some next → IsIdleAt next batch
changes_idle slots AtStart next batch there = absurd (cc)
changes_idle slots (Between m) next batch there = absurd (cc)
changes_idle slots (InBatch m k) next batch there = subst (λ p. IsIdleAt p batch) (sym (only (nat_lt k trace_commands) (InBatch m (k + 1)) next there)) tt
changes_idle slots (InEvents m) next batch there = absurd (cc)
changes_idle slots AtEnd next batch there = absurd (cc)

-- and its events,
happens_idle : (slots : ℕ) (slot : Option ℕ) (place next : Place) (batch : List Command) → place_by slots place (Happens slot) ≡ Some next → IsIdleAt next batch
happens_idle slots slot place next batch there = let at = event_next slots slot place next there in subst (λ p. IsIdleAt p batch) (sym at.1) tt

-- none behind its end,
finishes_idle : (slots n : ℕ) (place next : Place) → place_by slots place (Finishes n) ≡ Some next → IsIdleAt next []
finishes_idle slots n place next there = let at = finish_next slots n place next there in subst (λ p. IsIdleAt p []) (sym at.1) refl

heads_idle : (slots : ℕ) (place next : Place) → place_by slots place Heads ≡ Some next → IsIdleAt next []
heads_idle slots place next there = subst (λ p. IsIdleAt p []) (sym (head_next slots place next there)) refl

-- those that were where it was refused,
refuses_idle : (slots n : ℕ) (place next : Place) (batch : List Command) → place_by slots place (Refuses n) ≡ Some next → IsIdleAt place batch → IsIdleAt next batch
refuses_idle slots n AtStart next batch there idle = absurd (cc)
refuses_idle slots n (Between m) next batch there idle = subst (λ p. IsIdleAt p batch) (sym (only (nat_eq n (m + 1)) (Between n) next there)) idle
refuses_idle slots n (InBatch m k) next batch there idle = absurd (cc)
refuses_idle slots n (InEvents m) next batch there idle = absurd (cc)
refuses_idle slots n AtEnd next batch there idle = absurd (cc)

-- and any behind the last line.
ends_idle : (slots : ℕ) (place next : Place) (batch : List Command) → place_by slots place Ends ≡ Some next → IsIdleAt next batch
ends_idle slots AtStart next batch there = absurd (cc)
ends_idle slots (Between m) next batch there = let same : AtEnd ≡ next = (let k : Some AtEnd ≡ Some next = there in cc) in subst (λ p. IsIdleAt p batch) same tt
ends_idle slots (InBatch m k) next batch there = absurd (cc)
ends_idle slots (InEvents m) next batch there = absurd (cc)
ends_idle slots AtEnd next batch there = absurd (cc)

idle_on : (now : Tracing) (place next : Place) (line : TraceLine) → place_by now.slots place (kind_of line) ≡ Some next → IsIdleAt place now.batch → IsIdleAt next (traced_on now line).batch
idle_on now place next (Head version acl bits slots) there idle = heads_idle now.slots place next there
idle_on now place next (Commit n) there idle = (begins_idle now.slots n place next now.batch there idle).1
idle_on now place next (Add rule) there idle = changes_idle now.slots place next (traced_on now (Add rule)).batch there
idle_on now place next (Set priority answer) there idle = changes_idle now.slots place next (traced_on now (Set priority answer)).batch there
idle_on now place next (Del priority) there idle = changes_idle now.slots place next (traced_on now (Del priority)).batch there
idle_on now place next (Put slot entry) there idle = happens_idle now.slots (Some slot) place next now.batch there
idle_on now place next (Erase slot) there idle = happens_idle now.slots (Some slot) place next now.batch there
idle_on now place next (Table field port word) there idle = happens_idle now.slots None place next now.batch there
idle_on now place next Drain there idle = happens_idle now.slots None place next now.batch there
idle_on now place next (Done n) there idle = finishes_idle now.slots n place next there
idle_on now place next (Refused n) there idle = refuses_idle now.slots n place next now.batch there idle
idle_on now place next (End writes) there idle = ends_idle now.slots place next now.batch there
idle_on now place next (Fault line) there idle = ends_idle now.slots place next now.batch there

-- what is known of the set behind a line that keeps the order
set_on : (now : Tracing) (line : TraceLine) → IsLineRight line → HasRightSet now → Keeps now line → HasRightSet (traced_on now line)
set_on now (Head version acl bits slots) right set keeps =
    let mode : Mode = if bits then Bits else Cover in
    record {
      is_set = tt;
      right = tt;
      changes = tt;
      src_map = (no_maps mode).src;
      dst_map = (no_maps mode).dst;
      bits_are = (no_maps mode).are;
      sized = IsState-blank slots;
    }
set_on now (Commit n) right set keeps = record {
  is_set = set.is_set;
  right = set.right;
  changes = tt;
  src_map = set.src_map;
  dst_map = set.dst_map;
  bits_are = set.bits_are;
  sized = set.sized;
}
set_on now (Add rule) right set keeps = record {
  is_set = set.is_set;
  right = set.right;
  changes = all_append ChangesRules now.batch (change.Add rule ∷ []) set.changes (right, tt);
  src_map = set.src_map;
  dst_map = set.dst_map;
  bits_are = set.bits_are;
  sized = set.sized;
}
set_on now (Set priority answer) right set keeps = record {
  is_set = set.is_set;
  right = set.right;
  changes = all_append ChangesRules now.batch (change.Set priority answer ∷ []) set.changes (tt, tt);
  src_map = set.src_map;
  dst_map = set.dst_map;
  bits_are = set.bits_are;
  sized = set.sized;
}
set_on now (Del priority) right set keeps = record {
  is_set = set.is_set;
  right = set.right;
  changes = all_append ChangesRules now.batch (change.Del priority ∷ []) set.changes (tt, tt);
  src_map = set.src_map;
  dst_map = set.dst_map;
  bits_are = set.bits_are;
  sized = set.sized;
}
set_on now (Put slot entry) right set keeps = record {
  is_set = set.is_set;
  right = set.right;
  changes = set.changes;
  src_map = set.src_map;
  dst_map = set.dst_map;
  bits_are = set.bits_are;
  sized = IsState-apply now.slots now.state (write.Slot slot (Some entry)) set.sized tt;
}
set_on now (Erase slot) right set keeps = record {
  is_set = set.is_set;
  right = set.right;
  changes = set.changes;
  src_map = set.src_map;
  dst_map = set.dst_map;
  bits_are = set.bits_are;
  sized = IsState-apply now.slots now.state (write.Slot slot None) set.sized tt;
}
set_on now (Table field port word) right set keeps = record {
  is_set = set.is_set;
  right = set.right;
  changes = set.changes;
  src_map = set.src_map;
  dst_map = set.dst_map;
  bits_are = set.bits_are;
  sized = IsState-apply now.slots now.state (write.Table field port word) set.sized right;
}
set_on now Drain right set keeps = record {
  is_set = set.is_set;
  right = set.right;
  changes = set.changes;
  src_map = set.src_map;
  dst_map = set.dst_map;
  bits_are = set.bits_are;
  sized = set.sized;
}
set_on now (Done n) right set keeps =
    let can : CanCommit now.mode now.bits now.rules now.batch = can_commit now set keeps.0.taken in
    let sound : IsSoundChange now.rules now.batch = change_of now.mode now.bits now.rules now.batch can in
    let maps = maps_on now.slots now.mode now.bits now.rules now.batch now.state can set.sized keeps.1.ended.old_words in
    record {
      is_set = set_after-is now.rules now.batch sound;
      right = right_after now.rules now.batch sound;
      changes = tt;
      src_map = maps.src;
      dst_map = maps.dst;
      bits_are = maps.are;
      sized = set.sized;
    }
set_on now (Refused n) right set keeps = set
set_on now (End writes) right set keeps = set
set_on now (Fault line) right set keeps = set

set_without : (now : Tracing) → HasRightSet now → HasRightSet (without_made now)
set_without now set = record {
  is_set = set.is_set;
  right = set.right;
  changes = set.changes;
  src_map = set.src_map;
  dst_map = set.dst_map;
  bits_are = set.bits_are;
  sized = set.sized;
}

-- both know the same behind a line
known_alike : (now : Tracing) (place next : Place) (line : TraceLine) → place_by now.slots place (kind_of line) ≡ Some next → IsIdleAt place now.batch
    → known_by (traced_on now line) ≡ known_on (known_by now) (Common line)
known_alike now place next (Head version acl bits slots) there idle = refl
known_alike now place next (Commit n) there idle =
    ap (λ (batch : List Command). let k : Known = record (known_by now) { batch = batch } in k) (sym (begins_idle now.slots n place next now.batch there idle).0)
known_alike now place next (Add rule) there idle = refl
known_alike now place next (Set priority answer) there idle = refl
known_alike now place next (Del priority) there idle = refl
known_alike now place next (Put slot entry) there idle = refl
known_alike now place next (Erase slot) there idle = refl
known_alike now place next (Table field port word) there idle = refl
known_alike now place next Drain there idle = refl
known_alike now place next (Done n) there idle = refl
known_alike now place next (Refused n) there idle = refl
known_alike now place next (End writes) there idle = refl
known_alike now place next (Fault line) there idle = refl

found : (test : Bool) (place : Option Place) (next : Place) → (if test then place else None) ≡ Some next → place ≡ Some next
found true place next is = is
found false place next is = absurd (cc)

some_same : (found : Option Place) (a b : Place) → found ≡ Some a → found ≡ Some b → a ≡ b
some_same found a b e f = let same : Some a ≡ Some b = sym e ∙ f in cc

-- so they are in step again
pub step_on : (check next : Checked) (judge after : Followed) (line : TraceLine) → IsLineRight line → AreInStep check judge → order.Takes check line next → Takes judge (Common line) after
    → AreInStep next after
step_on check next judge after line right step checked judged = record {
  place = some_same (place_by check.now.slots check.place (kind_of line)) next.place after.place checked.may_stand there;
  known = ap known_by checked.knows ∙ known_alike check.now check.place next.place line checked.may_stand step.idle
      ∙ ap (λ (now : Known). known_on now (Common line)) step.known ∙ sym judged.knows;
  idle = subst (λ (now : Tracing). IsIdleAt next.place now.batch) (sym checked.knows) (idle_on check.now check.place next.place line checked.may_stand step.idle);
  set = subst HasRightSet (sym checked.knows) (set_without (traced_on check.now line) (set_on check.now line right step.set checked.keeps));
}
  where
    there : place_by check.now.slots check.place (kind_of line) ≡ Some after.place
    there =
        found (agrees (known_by check.now) (Common line)) (place_by check.now.slots check.place (kind_of line)) after.place
        (subst (λ (now : Known). driver_place now check.place (Common line) ≡ Some after.place) (sym step.known)
        (subst (λ place. driver_place judge.now place (Common line) ≡ Some after.place) (sym step.place) judged.may_stand))

-- before the first line they are
pub first_step : (check : Checked) (judge : Followed) → check ≡ order.nothing_checked → judge.place ≡ AtStart → judge.now ≡ known_by order.nothing_checked.now → AreInStep check judge
first_step check judge is place now = subst (λ (c : Checked). AreInStep c judge) (sym is) (record {
  place = sym place;
  known = sym now;
  idle = refl;
  set = record {
    is_set = tt;
    right = tt;
    changes = tt;
    src_map = (no_maps Cover).src;
    dst_map = (no_maps Cover).dst;
    bits_are = (no_maps Cover).are;
    sized = IsState-blank 0;
  };
})
