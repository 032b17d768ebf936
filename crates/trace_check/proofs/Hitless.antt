-- An orderly trace is hitless, commit by commit.
use Rattle.std.proofs.Common.{◌≡◌, ℕ, ◌+◌, Bool, true, false, zero, suc, List, [], ◌∷◌, ◌++◌, length, take, Option, None, Some, inl, inr, ◌⊎◌, refl, sym, ap, ◌∙◌, subst, arith, length-append}
use Rattle.std.specs.Prelude.{nat_eq, nat_lt}
use Rattle.std.specs.List.{AllByRecursion}
use Rattle.std.proofs.lemmas.Bool.{cases_lt}
use Rattle.std.proofs.lemmas.List.{take_all, take-append-le}
use Rattle.slot_order.proofs.Lists.{all_append}
use Rattle.rule_model.specs.declared.Rule.{Rule}
use Rattle.rule_model.specs.Rule.{HasConditions}
use Rattle.rule_model.specs.RuleSet.{IsRuleSet}
use Rattle.rule_store.specs.declared.Mode.{Mode}
use Rattle.rule_store.specs.declared.Command.{Command}
use Rattle.rule_store.specs.declared.Command.TheVariants as change
use Rattle.rule_store.specs.Batch.{ChangesRules, set_after}
use Rattle.rule_store.specs.Verdict.{Accepted, verdict}
use Rattle.tcam_device.specs.declared.Write.{Write}
use Rattle.tcam_device.specs.declared.Write.TheVariants as write
use Rattle.tcam_device.specs.State.{State, IsState, Shows, apply, state_after}
use Rattle.tcam_device.specs.Hitless.{ShowsOldOrNew, IsHitless}
use Rattle.trace_check.proofs.Sized.{HasWord, IsState-apply}
use Rattle.tcam_device.proofs.Spans.{state_after-append}
use Rattle.commit_writes.specs.Bits.{FieldBits, bits_with, bits_left}
use Rattle.commit_writes.proofs.BatchRules.{IsSoundChange, right_after, set_after-is}
use Rattle.trace_file.specs.declared.TraceLine.{TraceLine}
use Rattle.trace_file.specs.declared.TraceLine.TheVariants.{Head, Commit, Add, Set, Del, Put, Erase, Table, Drain, Done, Refused, End, Fault}
use Rattle.trace_file.specs.Forms.{IsTraceLine}
use Rattle.readback.specs.Tasks.{Task}
use Rattle.readback.specs.Stage.{IsStage, IsCommitAt}
use Rattle.readback.specs.Laws.{CanCommit}
use Rattle.readback.proofs.Accepted.{taken}
use Rattle.readback.proofs.Begun.{change_of}
use Rattle.readback.proofs.Stages.{stages_answer, last_stages_answer}
use Rattle.trace_check.specs.declared.places.Place.{Place}
use Rattle.trace_check.specs.declared.places.Place.TheVariants.{AtStart, Between, InBatch, InEvents, AtEnd}
use Rattle.trace_check.specs.Places.{Heads, Begins, Changes, Happens, Finishes, Refuses, Ends, only_if, is_slot_in_use, place_by, trace_commands}
use Rattle.trace_check.specs.Orderly.{Tracing, traced_on, with_command, Follow, MayBeStopped, IsArrived, AllKeepOrder}
use Rattle.trace_check.specs.Hitless.{commits_in, AreHitless}
use Rattle.trace_check.proofs.Maps.{HasMaps, maps_on}

-- a place that a test allows
only : (test : Bool) (place next : Place) → only_if test place ≡ Some next → next ≡ place
only true place next same = (cc)
only false place next same = absurd (cc)

-- where an event stands
record IsAmong (place next : Place) : Type 0 where
  commit : ℕ
  next_is : next ≡ InEvents commit
  place_is : (place ≡ InEvents commit) ⊎ ((k : ℕ) × (place ≡ InBatch commit k))

event_place : (slots : ℕ) (slot : Option ℕ) (place next : Place) → place_by slots place (Happens slot) ≡ Some next → IsAmong place next
event_place slots slot AtStart next same = absurd (cc)
event_place slots slot (Between n) next same = absurd (cc)
event_place slots slot (InBatch n k) next same = record { commit = n; next_is = only (is_slot_in_use slots slot) (InEvents n) next same; place_is = inr (k, refl) }
event_place slots slot (InEvents n) next same = record { commit = n; next_is = only (is_slot_in_use slots slot) (InEvents n) next same; place_is = inl refl }
event_place slots slot AtEnd next same = absurd (cc)

module _ (mode : Mode) where
  -- what holds of the set
  pub record HasSet (slots : ℕ) (like : Mode) (rules : List Rule) (bits : FieldBits) (state : State) : Type 0 where
    pub of_mode : like ≡ mode
    pub is_set : IsRuleSet rules
    pub right : AllByRecursion HasConditions rules
    pub kept : HasMaps mode rules bits
    pub sized : IsState slots state

  -- between two commits the device shows the set
  pub record IsIdle (slots : ℕ) (like : Mode) (rules : List Rule) (bits : FieldBits) (state : State) : Type 0 where
    pub set : HasSet slots like rules bits state
    pub shows : Shows state rules

  -- among the commands of a commit none of its writes was made,
  pub record IsBatched (slots : ℕ) (like : Mode) (rules : List Rule) (bits : FieldBits) (batch : List Command) (state begun : State) (made : List Write) : Type 0 where
    pub set : HasSet slots like rules bits state
    pub changes : AllByRecursion ChangesRules batch
    pub begun_is : state ≡ begun
    pub made_is : [] ≡ made
    pub shows : Shows begun rules

  -- and then its first writes lead to the state, and after each of them every key has the old or the new answer
  pub record IsWithin (slots : ℕ) (like : Mode) (rules : List Rule) (bits : FieldBits) (batch : List Command) (state begun : State) (made : List Write) : Type 0 where
    pub set : HasSet slots like rules bits state
    pub changes : AllByRecursion ChangesRules batch
    pub shows : Shows begun rules
    pub reached : state_after begun made ≡ state
    pub during : (n : ℕ) → ShowsOldOrNew (state_after begun (take n made)) rules (set_after rules batch)

  abbrev pub Known : Place → Tracing → Type 0
  Known AtStart now = ⊥
  Known (Between n) now = IsIdle now.slots now.mode now.rules now.bits now.state
  Known (InBatch n k) now = IsBatched now.slots now.mode now.rules now.bits now.batch now.state now.begun now.made
  Known (InEvents n) now = IsWithin now.slots now.mode now.rules now.bits now.batch now.state now.begun now.made
  Known AtEnd now = Unit {0}

  before_events : (slots : ℕ) (like : Mode) (rules : List Rule) (bits : FieldBits) (batch : List Command) (state begun : State) (made : List Write)
      → IsBatched slots like rules bits batch state begun made → IsWithin slots like rules bits batch state begun made
  before_events slots like rules bits batch state begun made is = record {
    set = is.set;
    changes = is.changes;
    shows = is.shows;
    reached = subst (λ some. state_after begun some ≡ state) is.made_is (sym is.begun_is);
    during = λ n. subst (λ some. ShowsOldOrNew (state_after begun (take n some)) rules (set_after rules batch)) is.made_is (none n);
  }
    where
      none : (n : ℕ) → ShowsOldOrNew (state_after begun (take n [])) rules (set_after rules batch)
      none zero = λ key valid. inl (is.shows key valid)
      none (suc n) = λ key valid. inl (is.shows key valid)

  -- an accepted batch can be committed
  can_of : (slots device_slots : ℕ) (like : Mode) (rules : List Rule) (bits : FieldBits) (batch : List Command) (state : State) → HasSet device_slots like rules bits state → AllByRecursion ChangesRules batch
      → verdict slots mode rules batch ≡ Accepted → CanCommit mode bits rules batch
  can_of slots device_slots like rules bits batch state set changes accepted =
      let t = taken slots mode rules batch accepted in
      record {
        is_set = set.is_set;
        right = set.right;
        src_map = set.kept.src;
        dst_map = set.kept.dst;
        bits_are = set.kept.are;
        changes = changes;
        sound = t.sound;
        few = t.few;
      }

  -- one write more
  write_more : (slots : ℕ) (rules : List Rule) (bits : FieldBits) (batch : List Command) (state begun : State) (made : List Write) (one : Write)
      → HasWord one → IsWithin slots mode rules bits batch state begun made → verdict slots mode rules batch ≡ Accepted → IsStage slots mode bits rules batch (apply state one)
      → IsWithin slots mode rules bits batch (apply state one) begun (made ++ one ∷ [])
  write_more slots rules bits batch state begun made one word is accepted stage = record {
    set = record { of_mode = refl; is_set = is.set.is_set; right = is.set.right; kept = is.set.kept; sized = sized };
    changes = is.changes;
    shows = is.shows;
    reached = reaches;
    during = λ n. elim (cases_lt (length made) n) [
      | inr within ↦ subst (λ some. ShowsOldOrNew (state_after begun some) rules (set_after rules batch)) (sym (take-append-le n made (one ∷ []) within)) (is.during n)
      | inl past ↦ subst (λ some. ShowsOldOrNew (state_after begun some) rules (set_after rules batch))
          (sym (take_all n (made ++ one ∷ []) (let long = length-append made (one ∷ []) in omega arith)))
          (subst (λ now. ShowsOldOrNew now rules (set_after rules batch)) (sym reaches) shown)
    ];
  }
    where
      sized : IsState slots (apply state one)
      sized = IsState-apply slots state one is.set.sized word

      reaches : state_after begun (made ++ one ∷ []) ≡ apply state one
      reaches = state_after-append begun made (one ∷ []) ∙ ap (λ now. apply now one) is.reached

      shown : ShowsOldOrNew (apply state one) rules (set_after rules batch)
      shown = stages_answer slots slots mode bits rules batch (apply state one) (can_of slots slots mode rules bits batch state is.set is.changes accepted) sized stage

  -- a commit that is done
  finished : (slots : ℕ) (rules : List Rule) (bits : FieldBits) (batch : List Command) (state begun : State) (made : List Write)
      → IsWithin slots mode rules bits batch state begun made → verdict slots mode rules batch ≡ Accepted → (done : List Task) → IsCommitAt slots mode bits rules batch state done []
      → IsHitless rules (set_after rules batch) begun made
      × IsIdle slots mode (set_after rules batch) (bits_left (set_after rules batch) (bits_with mode rules batch bits)) state
  finished slots rules bits batch state begun made is accepted done ended = (
    record {
      on_the_way = record { before = is.shows; during = is.during };
      after = subst (λ now. Shows now (set_after rules batch)) (sym is.reached) shown;
    },
    record {
      set = record {
        of_mode = refl;
        is_set = set_after-is rules batch change;
        right = right_after rules batch change;
        kept = maps_on slots mode bits rules batch state can is.set.sized ended.old_words;
        sized = is.set.sized;
      };
      shows = shown;
    },
  )
    where
      can : CanCommit mode bits rules batch
      can = can_of slots slots mode rules bits batch state is.set is.changes accepted

      change : IsSoundChange rules batch
      change = change_of mode bits rules batch can

      shown : Shows state (set_after rules batch)
      shown = last_stages_answer slots slots mode bits rules batch state done can is.set.sized ended

  -- what is known behind one line more: a commit begins,
  begins_on : (now : Tracing) (place next : Place) (n : ℕ) → place_by now.slots place (Begins n) ≡ Some next → Known place now → Known next (traced_on now (Commit n))
  begins_on now AtStart next n there known = absurd known
  begins_on now (Between m) next n there known =
      subst (λ p. Known p (traced_on now (Commit n))) (sym (only (nat_eq n (m + 1)) (InBatch n 0) next there))
      (record { set = known.set; changes = tt; begun_is = refl; made_is = refl; shows = known.shows })
  begins_on now (InBatch m k) next n there known = absurd (cc)
  begins_on now (InEvents m) next n there known = absurd (cc)
  begins_on now AtEnd next n there known = absurd (cc)

  -- has a command more,
  command_on : (now : Tracing) (place next : Place) (command : Command) → ChangesRules command → place_by now.slots place Changes ≡ Some next → Known place now → Known next (with_command now command)
  command_on now AtStart next command changes there known = absurd known
  command_on now (Between m) next command changes there known = absurd (cc)
  command_on now (InBatch m k) next command changes there known =
      subst (λ p. Known p (with_command now command)) (sym (only (nat_lt k trace_commands) (InBatch m (k + 1)) next there))
      (record {
        set = known.set;
        changes = all_append ChangesRules now.batch (command ∷ []) known.changes (changes, tt);
        begun_is = known.begun_is;
        made_is = known.made_is;
        shows = known.shows;
      })
  command_on now (InEvents m) next command changes there known = absurd (cc)
  command_on now AtEnd next command changes there known = absurd (cc)

  -- is among its events,
  within_on : (now : Tracing) (place next : Place) (slot : Option ℕ) → place_by now.slots place (Happens slot) ≡ Some next → Known place now
      → ((n : ℕ) × (next ≡ InEvents n)) × IsWithin now.slots now.mode now.rules now.bits now.batch now.state now.begun now.made
  within_on now AtStart next slot there known = absurd known
  within_on now (Between m) next slot there known = absurd (cc)
  within_on now (InBatch m k) next slot there known =
      ((m, only (is_slot_in_use now.slots slot) (InEvents m) next there), before_events now.slots now.mode now.rules now.bits now.batch now.state now.begun now.made known)
  within_on now (InEvents m) next slot there known = ((m, only (is_slot_in_use now.slots slot) (InEvents m) next there), known)
  within_on now AtEnd next slot there known = absurd (cc)

  -- or done,
  done_on : (now : Tracing) (place next : Place) (n : ℕ) → place_by now.slots place (Finishes n) ≡ Some next → Known place now
      → ((m : ℕ) × (next ≡ Between m)) × IsWithin now.slots now.mode now.rules now.bits now.batch now.state now.begun now.made
  done_on now AtStart next n there known = absurd known
  done_on now (Between m) next n there known = absurd (cc)
  done_on now (InBatch m k) next n there known =
      ((m, only (nat_eq n m) (Between m) next there), before_events now.slots now.mode now.rules now.bits now.batch now.state now.begun now.made known)
  done_on now (InEvents m) next n there known = ((m, only (nat_eq n m) (Between m) next there), known)
  done_on now AtEnd next n there known = absurd (cc)

  -- or was refused; or the trace ends
  refuses_on : (now : Tracing) (place next : Place) (n : ℕ) → place_by now.slots place (Refuses n) ≡ Some next → Known place now → Known next now
  refuses_on now AtStart next n there known = absurd known
  refuses_on now (Between m) next n there known = subst (λ p. Known p now) (sym (only (nat_eq n (m + 1)) (Between n) next there)) known
  refuses_on now (InBatch m k) next n there known = absurd (cc)
  refuses_on now (InEvents m) next n there known = absurd (cc)
  refuses_on now AtEnd next n there known = absurd (cc)

  ends_on : (now : Tracing) (place next : Place) → place_by now.slots place Ends ≡ Some next → Known place now → Known next now
  ends_on now AtStart next there known = absurd known
  ends_on now (Between m) next there known = let same : next ≡ AtEnd = cc in subst (λ p. Known p now) (sym same) tt
  ends_on now (InBatch m k) next there known = absurd (cc)
  ends_on now (InEvents m) next there known = absurd (cc)
  ends_on now AtEnd next there known = absurd (cc)

  -- one write more, under whatever mode is known to be this one
  event_on : (now : Tracing) (next : Place) (one : Write) → HasWord one → ((n : ℕ) × (next ≡ InEvents n)) × IsWithin now.slots now.mode now.rules now.bits now.batch now.state now.begun now.made
      → verdict now.slots now.mode now.rules now.batch ≡ Accepted → IsStage now.slots now.mode now.bits now.rules now.batch (apply now.state one)
      → (n : ℕ) × (next ≡ InEvents n) × IsWithin now.slots now.mode now.rules now.bits now.batch (apply now.state one) now.begun (now.made ++ one ∷ [])
  event_on now next one word within taken stage =
      let e : now.mode ≡ mode = within.1.set.of_mode in (
        within.0.0,
        within.0.1,
        subst (λ m. IsWithin now.slots m now.rules now.bits now.batch (apply now.state one) now.begun (now.made ++ one ∷ [])) (sym e)
            (write_more now.slots now.rules now.bits now.batch now.state now.begun now.made one word
            (subst (λ m. IsWithin now.slots m now.rules now.bits now.batch now.state now.begun now.made) e within.1)
            (subst (λ m. verdict now.slots m now.rules now.batch ≡ Accepted) e taken)
            (subst (λ m. IsStage now.slots m now.bits now.rules now.batch (apply now.state one)) e stage)),
      )

  -- a finished commit, likewise
  finish_on : (now : Tracing) → IsWithin now.slots now.mode now.rules now.bits now.batch now.state now.begun now.made → MayBeStopped now → IsArrived now
      → IsHitless now.rules (set_after now.rules now.batch) now.begun now.made
      × IsIdle now.slots now.mode (set_after now.rules now.batch) (bits_left (set_after now.rules now.batch) (bits_with now.mode now.rules now.batch now.bits)) now.state
  finish_on now within way arrived =
      let e : now.mode ≡ mode = within.set.of_mode in
      subst (λ m. IsHitless now.rules (set_after now.rules now.batch) now.begun now.made
      × IsIdle now.slots m (set_after now.rules now.batch) (bits_left (set_after now.rules now.batch) (bits_with m now.rules now.batch now.bits)) now.state) (sym e)
      (finished now.slots now.rules now.bits now.batch now.state now.begun now.made
      (subst (λ m. IsWithin now.slots m now.rules now.bits now.batch now.state now.begun now.made) e within)
      (subst (λ m. verdict now.slots m now.rules now.batch ≡ Accepted) e way.taken)
      arrived.done (subst (λ m. IsCommitAt now.slots m now.bits now.rules now.batch now.state arrived.done []) e arrived.ended))

  -- Every commit that is finished among some lines that follow one another and keep the order is hitless.
  pub hitless_in : (lines : List TraceLine) (now : Tracing) (place end : Place) → Known place now → AllByRecursion IsTraceLine lines → Follow now place lines end → AllKeepOrder now lines
      → AreHitless (commits_in now lines)
  hitless_in [] now place end known are follow keeps = tt
  hitless_in (Head version acl bits slots ∷ lines) now place end known are follow keeps = absurd (no_head place known follow.1)
    where
      no_head : (p : Place) → Known p now → place_by now.slots p Heads ≡ Some follow.0 → ⊥
      no_head AtStart known there = known
      no_head (Between n) known there = (cc)
      no_head (InBatch n k) known there = (cc)
      no_head (InEvents n) known there = (cc)
      no_head AtEnd known there = (cc)
  hitless_in (Commit n ∷ lines) now place end known are follow keeps =
      hitless_in lines (traced_on now (Commit n)) follow.0 end (begins_on now place follow.0 n follow.1 known) are.1 follow.2 keeps.1
  hitless_in (Add rule ∷ lines) now place end known are follow keeps =
      hitless_in lines (traced_on now (Add rule)) follow.0 end (command_on now place follow.0 (change.Add rule) are.0.right follow.1 known) are.1 follow.2 keeps.1
  hitless_in (Set priority answer ∷ lines) now place end known are follow keeps =
      hitless_in lines (traced_on now (Set priority answer)) follow.0 end (command_on now place follow.0 (change.Set priority answer) tt follow.1 known) are.1 follow.2 keeps.1
  hitless_in (Del priority ∷ lines) now place end known are follow keeps =
      hitless_in lines (traced_on now (Del priority)) follow.0 end (command_on now place follow.0 (change.Del priority) tt follow.1 known) are.1 follow.2 keeps.1
  hitless_in (Put slot entry ∷ lines) now place end known are follow keeps =
      let w = event_on now follow.0 (write.Slot slot (Some entry)) tt (within_on now place follow.0 (Some slot) follow.1 known) keeps.0.0.taken keeps.0.0.stage in
      hitless_in lines (traced_on now (Put slot entry)) follow.0 end (subst (λ p. Known p (traced_on now (Put slot entry))) (sym w.1) w.2) are.1 follow.2 keeps.1
  hitless_in (Erase slot ∷ lines) now place end known are follow keeps =
      let w = event_on now follow.0 (write.Slot slot None) tt (within_on now place follow.0 (Some slot) follow.1 known) keeps.0.taken keeps.0.stage in
      hitless_in lines (traced_on now (Erase slot)) follow.0 end (subst (λ p. Known p (traced_on now (Erase slot))) (sym w.1) w.2) are.1 follow.2 keeps.1
  hitless_in (Table field port word ∷ lines) now place end known are follow keeps =
      let w = event_on now follow.0 (write.Table field port word) are.0.1 (within_on now place follow.0 None follow.1 known) keeps.0.0.taken keeps.0.0.stage in
      hitless_in lines (traced_on now (Table field port word)) follow.0 end (subst (λ p. Known p (traced_on now (Table field port word))) (sym w.1) w.2) are.1 follow.2 keeps.1
  hitless_in (Drain ∷ lines) now place end known are follow keeps =
      let w = within_on now place follow.0 None follow.1 known in
      hitless_in lines (traced_on now Drain) follow.0 end (subst (λ p. Known p (traced_on now Drain)) (sym w.0.1) w.1) are.1 follow.2 keeps.1
  hitless_in (Done n ∷ lines) now place end known are follow keeps =
      let w = done_on now place follow.0 n follow.1 known in
      let f = finish_on now w.1 keeps.0.0 keeps.0.1 in
      (f.0, hitless_in lines (traced_on now (Done n)) follow.0 end (subst (λ p. Known p (traced_on now (Done n))) (sym w.0.1) f.1) are.1 follow.2 keeps.1)
  hitless_in (Refused n ∷ lines) now place end known are follow keeps =
      hitless_in lines now follow.0 end (refuses_on now place follow.0 n follow.1 known) are.1 follow.2 keeps.1
  hitless_in (End writes ∷ lines) now place end known are follow keeps =
      hitless_in lines now follow.0 end (ends_on now place follow.0 follow.1 known) are.1 follow.2 keeps.1
  hitless_in (Fault line ∷ lines) now place end known are follow keeps =
      hitless_in lines now follow.0 end (ends_on now place follow.0 follow.1 known) are.1 follow.2 keeps.1
