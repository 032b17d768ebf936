-- What is kept behind a line that is known to be hitless.
use Rattle.std.proofs.Common.{◌≡◌, ℕ, ◌+◌, Option, None, List, [], length, refl, sym, ◌∙◌, subst, ap, length-set}
use Rattle.rule_model.specs.declared.Field.{Field}
use Rattle.rule_model.specs.declared.Field.TheVariants.{Src, Dst}
use Rattle.rule_model.specs.declared.Rule.{Rule}
use Rattle.rule_model.specs.declared.words.Entry.{Entry}
use Rattle.rule_store.specs.Batch.{set_after}
use Rattle.tcam_device.specs.declared.Write.TheVariants.{Slot, Table}
use Rattle.tcam_device.specs.State.{State, apply}
use Rattle.driver_trace.specs.Compared.{ShowsBy, ShowsOldOrNewBy}
use Rattle.driver_trace.specs.Known.{Known}
use Rattle.line_judge.specs.declared.track.Track.{Track}
use Rattle.line_judge.specs.Tracked.{IsEndedWith, IsJudgedEvent, IsOpen, known_of}

module _ (before : Track) (is_open : IsOpen before) (device : State) where
  abbrev pub after : Track
  after = record before { device = device; writes = before.writes + 1 }

  event_followed : (state : State) → device ≡ state → length state.slots ≡ length before.device.slots → ShowsOldOrNewBy before.by state before.rules (set_after before.rules before.batch)
      → IsJudgedEvent before state after
  event_followed state is size shows = record {
    open_again = record {
      sized = ap (λ (s : State). length s.slots) is ∙ size ∙ is_open.sized;
      sound = is_open.sound;
      shown = subst (λ (s : State). ShowsOldOrNewBy before.by s before.rules (set_after before.rules before.batch)) (sym is) shows;
      ahead = is_open.ahead;
    };
    by_is = refl;
    known = ap (λ (s : State). let k : Known = record (known_of before) { state = s; writes = before.writes + 1 } in k) is;
    slots_are = refl;
    shows = shows;
  }

  -- a write of a slot,
  pub slot_followed : (at : ℕ) (content : Option Entry) → device ≡ apply before.device (Slot at content)
      → ShowsOldOrNewBy before.by (apply before.device (Slot at content)) before.rules (set_after before.rules before.batch) → IsJudgedEvent before (apply before.device (Slot at content)) after
  slot_followed at content is shows = event_followed (apply before.device (Slot at content)) is (length-set before.device.slots at content) shows

  same_slots : (field : Field) (port word : ℕ) → length (apply before.device (Table field port word)).slots ≡ length before.device.slots
  same_slots Src port word = refl
  same_slots Dst port word = refl

  -- and of a table's word
  pub word_followed : (field : Field) (port word : ℕ) → device ≡ apply before.device (Table field port word)
      → ShowsOldOrNewBy before.by (apply before.device (Table field port word)) before.rules (set_after before.rules before.batch) → IsJudgedEvent before (apply before.device (Table field port word)) after
  word_followed field port word is shows = event_followed (apply before.device (Table field port word)) is (same_slots field port word) shows

-- the end of a commit
pub done_followed : (before ended : Track) (rules : List Rule) → rules ≡ set_after before.rules before.batch → ShowsBy before.by before.device (set_after before.rules before.batch)
    → ended ≡ record before { rules = rules; batch = []; ahead = None; commits = before.commits + 1 } → IsEndedWith before (set_after before.rules before.batch) ended
done_followed before ended rules is shows closed = subst (IsEndedWith before (set_after before.rules before.batch)) (sym closed) (record {
  shows = shows;
  by_is = refl;
  known = ap (λ (r : List Rule). let k : Known = record (known_of before) { rules = r; batch = []; commits = before.commits + 1 } in k) is;
  ahead = refl;
})
