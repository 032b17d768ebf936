-- While table words are written a stage stays the stage that it is: the slots stay, and no word that was right gets wrong.
use Rattle.std.proofs.Common.{◌≡◌, ℕ, Option, None, Some, List, length, take, Contains, inl, inr, ◌⊎◌, refl, sym, ◌∙◌, subst, ap}
use Rattle.std.specs.Prelude.{slice_index}
use Rattle.slot_order.specs.Order.{slot}
use Rattle.slot_order.proofs.Lists.{AllByRecursion-member}
use Rattle.rule_model.specs.declared.Rule.{Rule}
use Rattle.rule_model.specs.declared.Field.TheVariants.{Src, Dst}
use Rattle.rule_model.specs.PortRange.{PortRange, is_bit_set}
use Rattle.rule_store.specs.declared.Mode.{Mode}
use Rattle.rule_store.specs.declared.Mode.TheVariants.{Cover, Bits}
use Rattle.rule_store.specs.declared.Command.{Command}
use Rattle.range_bits.specs.LiveRanges.{LiveRanges, range_at, if_new, newly_live}
use Rattle.range_bits.proofs.Newer.{range_at-newly_live}
use Rattle.range_bits.proofs.Words.{word_for-live, word_for-other}
use Rattle.rule_model.specs.Entry.{RankedPiece}
use Rattle.tcam_device.specs.State.{State, state_after}
use Rattle.tcam_device.specs.Order.{IsTranslated, HasOneTwin}
use Rattle.commit_writes.specs.Bits.{FieldBits, bits_with, new_bits}
use Rattle.commit_writes.proofs.Filters.{all_members}
use Rattle.commit_writes.proofs.ServedTables.{IsBitsStart, field_given}
use Rattle.commit_writes.proofs.TableWords.{words_taken}
use Rattle.commit_writes.proofs.WordWrites.{IsMixed}
use Rattle.readback.specs.Tasks.{CommitPieces, Task, Insert, Rewrite, Erase, IsStanding, IsDone, IsLeft}
use Rattle.readback.specs.Stage.{IsStageAt}
use Rattle.commit_writes.specs.Serving.{AreTranslated}
use Rattle.commit_writes.specs.Shape.{fresh_writes}

-- tasks are told by the slots alone
same_done : (state next : State) → next.slots ≡ state.slots → (task : Task) → IsDone state task → IsDone next task
same_done state next same (Insert x) (i, s) = (i, (s.0, ap (λ d. slot d i) same ∙ s.1, s.2))
same_done state next same (Rewrite x) (i, s) = (i, ap (λ d. slot d i) same ∙ s)
same_done state next same (Erase x) gone = λ s. gone (s.0, (s.1.0, ap (λ d. slot d s.0) (sym same) ∙ s.1.1, s.1.2))

same_left : (state next : State) → next.slots ≡ state.slots → (task : Task) → IsLeft state task → IsLeft next task
same_left state next same (Insert x) out = λ s. out (s.0, (s.1.0, ap (λ d. slot d s.0) (sym same) ∙ s.1.1, s.1.2))
same_left state next same (Rewrite x) untold = λ s. untold (s.0, ap (λ d. slot d s.0) (sym same) ∙ s.1)
same_left state next same (Erase x) (i, s) = (i, (s.0, ap (λ d. slot d i) same ∙ s.1, s.2))

same_stands : (state next : State) → next.slots ≡ state.slots → (x : RankedPiece) → IsStanding next x → IsStanding state x
same_stands state next same x (i, s) = (i, (s.0, ap (λ d. slot d i) (sym same) ∙ s.1, s.2))

-- so a state with the same slots, whose tables are right, is the same stage
pub same_slots : (slots : ℕ) (before during : FieldBits) (p : CommitPieces) (state next : State) (done left : List Task) → IsStageAt slots before during p state done left → next.slots ≡ state.slots
    → AreTranslated next before → ((x : RankedPiece) → Contains p.inserted x → IsStanding state x → AreTranslated next during) → IsStageAt slots before during p next done left
same_slots slots before during p state next done left stage same old_words new_words = record {
  unused = λ at past. ap (λ d. slot d at) same ∙ stage.unused at past;
  known = λ at entry s. stage.known at entry (ap (λ d. slot d at) (sym same) ∙ s);
  old_words = old_words;
  new_words = λ x member stands. new_words x member (same_stands state next same x stands);
  order = λ i j first second less a b here there over. stage.order i j first second less a b (ap (λ d. slot d i) (sym same) ∙ here) (ap (λ d. slot d j) (sym same) ∙ there) over;
  twins = subst HasOneTwin (sym same) stage.twins;
  stays = λ x member kept. let s = stage.stays x member kept in (s.0, (s.1.0, ap (λ d. slot d s.0) same ∙ s.1.1, s.1.2));
  parts = stage.parts;
  are_done = all_members (IsDone next) done (λ task member. same_done state next same task (AllByRecursion-member (IsDone state) done task stage.are_done member));
  are_left = all_members (IsLeft next) left (λ task member. same_left state next same task (AllByRecursion-member (IsLeft state) left task stage.are_left member));
}

-- new bits leave those of a map alone, or are its own
abbrev IsFreeOr : LiveRanges → LiveRanges → Type 0
IsFreeOr live fresh = (bit : ℕ) (range : PortRange) → range_at live bit ≡ Some range → (range_at fresh bit ≡ None) ⊎ (range_at fresh bit ≡ Some range)

-- words of such bits, all of them or some, leave a table right that was
right_still : (live fresh : LiveRanges) (table now : List ℕ) → IsFreeOr live fresh → IsMixed fresh table now
    → ((bit : ℕ) (range : PortRange) → range_at live bit ≡ Some range → IsTranslated table bit range) → (bit : ℕ) (range : PortRange) → range_at live bit ≡ Some range → IsTranslated now bit range
right_still live fresh table now free mixed right bit range held port inside = elim (mixed.either port) [
  | inl same ↦ ap (λ word. is_bit_set word bit) same ∙ right bit range held port inside
  | inr new ↦ ap (λ word. is_bit_set word bit) new ∙ (elim (free bit range held) [
    | inl none ↦ word_for-other fresh port (slice_index table port) bit none ∙ right bit range held port inside
    | inr own ↦ word_for-live fresh port (slice_index table port) bit range own
  ])
]

-- those that a commit gives do so to the bits before it, and to all that are live meanwhile
old_free : (before during : LiveRanges) → length before ≡ length during → IsFreeOr before (newly_live before during)
old_free before during size bit range held = inl (range_at-newly_live before during bit size ∙ ap (λ (was : Option PortRange). if_new was (range_at during bit)) held)

own_free : (before during : LiveRanges) → length before ≡ length during → IsFreeOr during (newly_live before during)
own_free before during size bit range held = go (range_at before bit) (range_at-newly_live before during bit size)
  where
    go : (was : Option PortRange) → range_at (newly_live before during) bit ≡ if_new was (range_at during bit)
        → (range_at (newly_live before during) bit ≡ None) ⊎ (range_at (newly_live before during) bit ≡ Some range)
    go None same = inr (same ∙ held)
    go (Some other) same = inl same

-- of a field there are 16 before and meanwhile
sizes : (mode : Mode) (bits : FieldBits) (rules : List Rule) (batch : List Command) (state : State) → IsBitsStart mode bits rules batch state
    → (length bits.src ≡ length (bits_with mode rules batch bits).src) × (length bits.dst ≡ length (bits_with mode rules batch bits).dst)
sizes Cover bits rules batch state start = (refl, refl)
sizes Bits bits rules batch state start = (
  start.are.0.field_map.places ∙ sym (field_given Src rules batch bits.src state.src start.changes start.are.0 start.few.0).field_map.places,
  start.are.1.field_map.places ∙ sym (field_given Dst rules batch bits.dst state.dst start.changes start.are.1 start.few.1).field_map.places,
)

module _ (mode : Mode) (bits : FieldBits) (rules : List Rule) (batch : List Command) (state : State) (start : IsBitsStart mode bits rules batch state) (n : ℕ) where
  abbrev during : FieldBits
  during = bits_with mode rules batch bits

  abbrev next : State
  next = state_after state (take n (fresh_writes mode bits rules batch state))

  -- the first words of a commit leave the slots,
  pub words_slots : next.slots ≡ state.slots
  words_slots = (words_taken state (new_bits bits during) n).slots

  -- the old set's bits,
  pub old_right : AreTranslated state bits → AreTranslated next bits
  old_right right =
      let way = words_taken state (new_bits bits during) n in
      let size = sizes mode bits rules batch state start in
      record {
        src = right_still bits.src (newly_live bits.src during.src) state.src next.src (old_free bits.src during.src size.0) way.src right.src;
        dst = right_still bits.dst (newly_live bits.dst during.dst) state.dst next.dst (old_free bits.dst during.dst size.1) way.dst right.dst;
      }

  -- and all bits, where the tables served them
  pub all_right : AreTranslated state during → AreTranslated next during
  all_right right =
      let way = words_taken state (new_bits bits during) n in
      let size = sizes mode bits rules batch state start in
      record {
        src = right_still during.src (newly_live bits.src during.src) state.src next.src (own_free bits.src during.src size.0) way.src right.src;
        dst = right_still during.dst (newly_live bits.dst during.dst) state.dst next.dst (own_free bits.dst during.dst size.1) way.dst right.dst;
      }

  -- so the state after them is the stage before
  pub words_stage : (slots : ℕ) (p : CommitPieces) (done left : List Task) → IsStageAt slots bits (bits_with mode rules batch bits) p state done left
      → IsStageAt slots bits (bits_with mode rules batch bits) p next done left
  words_stage slots p done left stage =
      same_slots slots bits during p state next done left stage words_slots (old_right stage.old_words) (λ x member stands. all_right (stage.new_words x member stands))
