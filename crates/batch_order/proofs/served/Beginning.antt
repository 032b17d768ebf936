-- A commit of which no write was made goes on: by what its device answers and serves after so many of its writes.
use Rattle.std.proofs.Common.{◌≡◌, ℕ, suc, ◌≤◌, Bool, true, false, Option, Some, None, List, [], ◌∷◌, ◌++◌, length, map, take, drop, inl, inr, refl, sym, ◌∙◌, ap, subst, arith}
use Rattle.std.specs.List.{AllByRecursion}
use Rattle.std.proofs.lemmas.Bool.{cases_lt}
use Rattle.std.proofs.lemmas.List.{length-append, length-map}
use Rattle.slot_pool.specs.Arrangement.{Slots}
use Rattle.rule_store.specs.Batch.{set_after}
use Rattle.rule_store.specs.Store.{StoredRules}
use Rattle.tcam_device.specs.declared.Write.{Write}
use Rattle.tcam_device.specs.declared.Action.TheVariants.{Written}
use Rattle.tcam_device.specs.State.{State, IsInUse, apply, state_after, on_device}
use Rattle.tcam_device.specs.Hitless.{ShowsOldOrNew}
use Rattle.tcam_device.specs.Insertion.{is_table_write}
use Rattle.tcam_device.proofs.Wider.{all_take, state_after-on_device}
use Rattle.commit_writes.specs.Actions.{have_bits, with_drain}
use Rattle.commit_writes.specs.Bits.{FieldBits, bits_with, new_bits}
use Rattle.commit_writes.specs.Changes.{during_of}
use Rattle.commit_writes.specs.InFlight.{ArePartOf, ServesLive}
use Rattle.commit_writes.specs.Planned.{held_entry}
use Rattle.commit_writes.specs.Undo.{undo_writes}
use Rattle.commit_writes.proofs.Led.{same_part, serves_same}
use Rattle.commit_writes.proofs.LiveRanges.{live_meanwhile, same_ranges}
use Rattle.commit_writes.proofs.ServedTables.{IsBitsStart}
use Rattle.commit_writes.proofs.SlotWrites.{AreToSlots, no_table}
use Rattle.commit_writes.proofs.TableWrites.{AreToTables}
use Rattle.batch_order.specs.declared.held.Held.{Held}
use Rattle.batch_order.specs.declared.translation.Translation.{Translation}
use Rattle.batch_order.specs.Entries.{Entries}
use Rattle.batch_order.specs.Going.{Around, AreInOrder, GoesOn, IsGoing, Stands, around}
use Rattle.batch_order.specs.Kept.{AreWordsFirst, bits_after, bits_of, course_of, current_of, held_of, held_writes, mode_of, settled_state, state_of, way_of}
use Rattle.batch_order.specs.Managed.{HeldCommit}
use Rattle.batch_order.specs.Steps.{current_by}
use Rattle.batch_order.specs.Turning.{has_word}
use Rattle.batch_order.proofs.served.Plain.{no_words_first}
use Rattle.batch_order.proofs.served.Resting.{left_part}
use Rattle.batch_order.proofs.under_way.Drains.{drained_later, drained_next, has_drain_is, no_word, no_word_left}
use Rattle.batch_order.proofs.under_way.Going.{is_word, word_behind}
use Rattle.batch_order.proofs.under_way.Ways.{written_alone}

-- a write leaves what words are current for, where a word of a table finds them so
leaves : (before current : FieldBits) (table : Bool) → (table ≡ true → current ≡ before) → current ≡ current_by before current table
leaves before current true is = is refl
leaves before current false is = refl

-- writes alone,
written_go : (all : Around) (current : FieldBits) (state : State) (writes : List Write) → (has_word (map Written writes) ≡ true → current ≡ all.before)
    → ((n : ℕ) → n ≤ length writes → Stands all current (state_after state (take n writes))) → GoesOn all current state (map Written writes)
written_go all current state [] word at = at 0 (omega arith)
written_go all current state (write ∷ writes) word at = (
  at 0 (omega arith),
  subst (λ (c : FieldBits). GoesOn all c (apply state write) (map Written writes)) (leaves all.before current (is_table_write write) (λ is. word (is_word write (map Written writes) is)))
      (written_go all current (apply state write) writes (λ more. word (word_behind write (map Written writes) more)) (λ n below. at (suc n) (omega arith))),
)

written_in_order : (writes : List Write) → AreInOrder (map Written writes)
written_in_order [] = tt
written_in_order (write ∷ writes) = (λ some. absurd (let clash : false ≡ true = sym (written_alone writes) ∙ some in cc), written_in_order writes)

-- and words of the tables, the drain, and writes of slots
drained_go : (all : Around) (current : FieldBits) (state : State) (tables behind : List Write) → AreToTables tables → AreToSlots behind → (has_word (with_drain true (tables ++ behind)) ≡ true → current ≡ all.before)
    → ((n : ℕ) → n ≤ length tables → Stands all current (state_after state (take n (tables ++ behind))))
    → ((n : ℕ) → length tables ≤ n → n ≤ length (tables ++ behind) → Stands all all.during (state_after state (take n (tables ++ behind))))
    → GoesOn all current state (with_drain true (tables ++ behind))
drained_go all current state [] behind first slots word early late =
    subst (GoesOn all current state) (sym (drained_next behind (no_table behind slots))) (
      early 0 (omega arith),
      written_go all all.during state behind (λ some. absurd (let clash : false ≡ true = sym (no_word behind (no_table behind slots)) ∙ some in cc)) (λ n below. late n (omega arith) below),
    )
drained_go all current state (write ∷ tables) behind first slots word early late =
    let shape = drained_later write (tables ++ behind) first.0 in
    let words : has_word (Written write ∷ with_drain true (tables ++ behind)) ≡ true → current ≡ all.before = λ some. word (ap has_word shape ∙ some) in
    subst (GoesOn all current state) (sym shape) (
      early 0 (omega arith),
      subst (λ (c : FieldBits). GoesOn all c (apply state write) (with_drain true (tables ++ behind))) (leaves all.before current (is_table_write write) (λ is. words (is_word write (with_drain true (tables ++ behind)) is)))
          (drained_go all current (apply state write) tables behind first.1 slots (λ more. words (word_behind write (with_drain true (tables ++ behind)) more))
          (λ n below. early (suc n) (omega arith)) (λ n above below. late (suc n) (omega arith) (omega arith))),
    )

drained_in_order : (tables behind : List Write) → AreToTables tables → AreToSlots behind → AreInOrder (with_drain true (tables ++ behind))
drained_in_order [] behind first slots =
    let none = no_table behind slots in
    subst AreInOrder (sym (drained_next behind none)) (written_alone behind, no_word behind none, written_in_order behind)
drained_in_order (write ∷ tables) behind first slots =
    subst AreInOrder (sym (drained_later write (tables ++ behind) first.0)) (λ some. first.0, drained_in_order tables behind first.1 slots)

-- What is known of it by the number of writes that are made: each key has the old or the new answer. Up to the last word of the
-- tables it serves the ranges before the commit, unless a drain came before the plan, and from then on those that are live
-- meanwhile. The drain is to come where a new bit asks for one.
pub record Begins (translation : Option Translation) (rules : StoredRules) (kept : Entries) (slots : Slots) (held : Held) : Type 0 where
  pub made : held.made ≡ 0
  pub forward : held.turned ≡ None
  pub start : IsBitsStart (mode_of translation) (bits_of translation) rules.rules held.batch (settled_state translation kept.entries slots)
  pub during : during_of held.bits ≡ bits_with (mode_of translation) rules.rules held.batch (bits_of translation)
  pub words_first : AreWordsFirst held.counts.words (held_writes kept.entries held)
  pub in_use : AllByRecursion (IsInUse (length slots)) (held_writes kept.entries held)
  pub answers : (device_slots : ℕ) → length slots ≤ device_slots → (n : ℕ) → n ≤ length (held_writes kept.entries held)
      → ShowsOldOrNew (state_after (on_device device_slots (settled_state translation kept.entries slots)) (take n (held_writes kept.entries held))) rules.rules (set_after rules.rules held.batch)
  pub serves_before : held.drained ≡ false → (device_slots : ℕ) → length slots ≤ device_slots → (n : ℕ) → n ≤ held.counts.words
      → ServesLive (bits_of translation) (state_after (on_device device_slots (settled_state translation kept.entries slots)) (take n (held_writes kept.entries held)))
  pub serves_behind : (device_slots : ℕ) → length slots ≤ device_slots → (n : ℕ) → held.counts.words ≤ n → n ≤ length (held_writes kept.entries held)
      → ServesLive (during_of held.bits) (state_after (on_device device_slots (settled_state translation kept.entries slots)) (take n (held_writes kept.entries held)))
  pub late : held.drained ≡ true → held.counts.words ≡ 0
  pub drains : held.awaits ≡ false → held.drained ≡ false → have_bits (new_bits (bits_of translation) (during_of held.bits)) ≡ false

module _ (translation : Option Translation) (rules : StoredRules) (kept : Entries) (slots : Slots) (held : Held) (begins : Begins translation rules kept slots held) where
  abbrev bits : FieldBits
  bits = bits_of translation

  abbrev during : FieldBits
  during = during_of held.bits

  abbrev current : FieldBits
  current = current_of translation held

  abbrev begun : State
  begun = settled_state translation kept.entries slots

  abbrev writes : List Write
  writes = held_writes kept.entries held

  abbrev all : Around
  all = around (length slots) rules.rules bits (held_of translation slots rules.rules kept.entries held)

  cut : AreWordsFirst held.counts.words writes
  cut = begins.words_first

  meanwhile : ArePartOf bits during
  meanwhile = subst (ArePartOf bits) (sym begins.during) (live_meanwhile (mode_of translation) bits rules.rules held.batch begun begins.start)

  -- without a new bit the ranges meanwhile are those before it
  no_more : have_bits (new_bits bits during) ≡ false → ArePartOf during bits
  no_more none =
      subst (λ (b : FieldBits). ArePartOf b bits) (sym begins.during)
      (same_ranges (mode_of translation) bits rules.rules held.batch begun begins.start (subst (λ (b : FieldBits). have_bits (new_bits bits b) ≡ false) begins.during none))

  -- it stands where the device serves these ranges
  stands_at : (now : FieldBits) (n : ℕ) → n ≤ length writes → ((device_slots : ℕ) → length slots ≤ device_slots → ServesLive now (state_after (on_device device_slots begun) (take n writes)))
      → Stands all now (state_after begun (take n writes))
  stands_at now n within serves = record {
    shows = λ device_slots wide. subst (λ (s : State). ShowsOldOrNew s rules.rules (set_after rules.rules held.batch)) (same device_slots) (begins.answers device_slots wide n within);
    serves = λ device_slots wide. subst (ServesLive now) (same device_slots) (serves device_slots wide);
  }
    where
      same : (device_slots : ℕ) → state_after (on_device device_slots begun) (take n writes) ≡ on_device device_slots (state_after begun (take n writes))
      same device_slots =
          let size : length begun.slots ≡ length slots = length-map slots (held_entry kept.entries) in
          state_after-on_device device_slots begun (take n writes)
          (all_take (IsInUse (length begun.slots)) n writes (subst (λ (m : ℕ). AllByRecursion (IsInUse m) writes) (sym size) begins.in_use))

  late : (n : ℕ) → held.counts.words ≤ n → n ≤ length writes → Stands all during (state_after begun (take n writes))
  late n above within = stands_at during n within (λ device_slots wide. begins.serves_behind device_slots wide n above within)

  early : (n : ℕ) → n ≤ held.counts.words → n ≤ length writes → Stands all current (state_after begun (take n writes))
  early n below within = go held.drained refl
    where
      go : (b : Bool) → held.drained ≡ b → Stands all (elim b [ true ↦ during | false ↦ bits ]) (state_after begun (take n writes))
      go true is = (let none = begins.late is in late n (omega arith) within)
      go false is = stands_at bits n within (λ device_slots wide. begins.serves_before is device_slots wide n below)

  -- without a drain to come so it does all along
  along : held.awaits ≡ false → (n : ℕ) → n ≤ length writes → Stands all current (state_after begun (take n writes))
  along awaits n within = elim (cases_lt held.counts.words n) [
    | inl past ↦ go held.drained refl (omega arith)
    | inr less ↦ early n (omega arith) within
  ]
    where
      go : (b : Bool) → held.drained ≡ b → held.counts.words ≤ n → Stands all (elim b [ true ↦ during | false ↦ bits ]) (state_after begun (take n writes))
      go true is past = late n past within
      go false is past = stands_at bits n within (λ device_slots wide.
          serves_same bits during (state_after (on_device device_slots begun) (take n writes)) meanwhile (no_more (begins.drains awaits is)) (begins.serves_behind device_slots wide n past within))

  -- while a word is to come, words are current for the ranges before it
  words : has_word (with_drain held.awaits writes) ≡ true → current ≡ bits
  words some = go held.drained refl
    where
      go : (b : Bool) → held.drained ≡ b → (elim b [ true ↦ during | false ↦ bits ]) ≡ bits
      go true is =
          let none : has_word (with_drain held.awaits writes) ≡ false =
          no_word_left held.awaits writes (no_table writes (no_words_first writes (subst (λ (n : ℕ). AreWordsFirst n writes) (begins.late is) cut))) in
          absurd (let clash : false ≡ true = sym none ∙ some in cc)
      go false is = refl

  goes : (awaits : Bool) → held.awaits ≡ awaits → GoesOn all current begun (with_drain awaits writes)
  goes false is = written_go all current begun writes (λ some. words (ap (λ (b : Bool). has_word (with_drain b writes)) is ∙ some)) (along is)
  goes true is =
      let size : held.counts.words ≡ length cut.tables = cut.count in
      let before : (n : ℕ) → n ≤ length cut.tables → Stands all current (state_after begun (take n writes)) = λ n below. early n (omega arith) (within n below) in
      let behind : (n : ℕ) → length cut.tables ≤ n → n ≤ length writes → Stands all during (state_after begun (take n writes)) = λ n above below. late n (omega arith) below in
      subst (λ (ws : List Write). GoesOn all current begun (with_drain true ws)) (sym cut.parts)
      (drained_go all current begun cut.tables cut.behind cut.to_tables cut.to_slots
      (λ some. words (ap (λ (b : Bool). has_word (with_drain b writes)) is ∙ (ap (λ (ws : List Write). has_word (with_drain true ws)) cut.parts ∙ some)))
      (subst (λ (ws : List Write). (n : ℕ) → n ≤ length cut.tables → Stands all current (state_after begun (take n ws))) cut.parts before)
      (subst (λ (ws : List Write). (n : ℕ) → length cut.tables ≤ n → n ≤ length ws → Stands all during (state_after begun (take n ws))) cut.parts behind))
    where
      within : (n : ℕ) → n ≤ length cut.tables → n ≤ length writes
      within n below =
          let whole : length writes ≡ length (cut.tables ++ cut.behind) = ap length cut.parts in
          let sum = length-append cut.tables cut.behind in
          omega arith

  in_order : (awaits : Bool) → AreInOrder (with_drain awaits writes)
  in_order false = written_in_order writes
  in_order true = subst (λ (ws : List Write). AreInOrder (with_drain true ws)) (sym cut.parts) (drained_in_order cut.tables cut.behind cut.to_tables cut.to_slots)

  -- the commit as callers see it, where it stands elsewhere
  abbrev seen : ℕ → Option ℕ → HeldCommit
  seen made turned = record {
    prepared = held.prepared;
    actions = course_of turned held.awaits (drop made writes) (undo_writes begun (take made writes));
    way = way_of turned (undo_writes begun (take made writes));
    counts = held.counts;
    rules = set_after rules.rules held.batch;
    during = during;
    bits = bits_after rules.rules held;
    current = current;
  }

  first : IsGoing (length slots) rules.rules bits begun (seen 0 None)
  first = record {
    right = record {
      meanwhile = meanwhile;
      left = left_part (set_after rules.rules held.batch) during;
      least = least held.drained;
      words = λ forward some. words some;
      drained = λ forward none. drained held.drained refl (has_drain_is held.awaits writes none);
      undrained = λ back. absurd (let clash : false ≡ true = back in cc);
    };
    goes = goes held.awaits refl;
    turns = record { returns = early 0 (omega arith) (omega arith); in_order = in_order held.awaits; words = λ some. tt };
  }
    where
      least : (b : Bool) → ArePartOf bits (elim b [ true ↦ during | false ↦ bits ])
      least true = meanwhile
      least false = same_part bits

      drained : (b : Bool) → held.drained ≡ b → held.awaits ≡ false → ArePartOf during (elim b [ true ↦ during | false ↦ bits ])
      drained true is awaits = same_part during
      drained false is awaits = no_more (begins.drains awaits is)

  pub begins_going : IsGoing (length slots) rules.rules (bits_of translation) (state_of translation kept.entries slots (Some held)) (held_of translation slots rules.rules kept.entries held)
  begins_going =
      subst (λ (n : ℕ). IsGoing (length slots) rules.rules bits (state_after begun (take n writes)) (seen n held.turned)) (sym begins.made)
      (subst (λ (t : Option ℕ). IsGoing (length slots) rules.rules bits begun (seen 0 t)) (sym begins.forward) first)
