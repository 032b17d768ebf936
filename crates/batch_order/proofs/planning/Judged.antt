-- Whether a batch fits the free bits and the free slots, as the manager counts them.
use Rattle.std.proofs.Common.{◌≡◌, ℕ, ◌+◌, ◌-◌, ◌<◌, ◌≤◌, Bool, true, false, Option, Some, None, Err, List, length, refl, sym, ap, subst, ◌∙◌, arith}
use Rattle.std.proofs.lemmas.Bool.{lt-ltb, le-ltb, ltb-false}
use Rattle.std.specs.Prelude.{IfSome, nat_lt, option_map}
use Rattle.slot_order.specs.Order.{most_slots}
use Rattle.rule_model.specs.declared.Rule.{Rule}
use Rattle.rule_model.specs.declared.Field.{Field}
use Rattle.rule_model.specs.declared.Field.TheVariants.{Src, Dst}
use Rattle.rule_store.specs.declared.Command.{Command}
use Rattle.rule_store.specs.declared.BatchFault.{BatchFault}
use Rattle.rule_store.specs.declared.Mode.{Mode}
use Rattle.rule_store.specs.declared.Mode.TheVariants.{Cover, Bits}
use Rattle.rule_store.specs.Batch.{batch_fault}
use Rattle.rule_store.specs.Verdict.{Verdict, Accepted, OutOfBits, OutOfSlots, bits_verdict, coded_ranges, entries_added, entries_of, field_bits, new_ranges, room_verdict, slots_verdict, verdict, verdict_by}
use Rattle.rule_store.specs.Store.{StoredRules}
use Rattle.slot_pool.specs.Arrangement.{Slots}
use Rattle.range_bits.specs.FieldMap.{live_count}
use Rattle.placement.specs.Insertion.{free_slots}
use Rattle.commit_writes.specs.Bits.{FieldBits, bits_with, ranges_in}
use Rattle.commit_writes.specs.Serving.{AreRangesOf, HaveFreeBits}
use Rattle.commit_writes.specs.Needed.{AreLive, ranges_needed, with_needed}
use Rattle.commit_writes.proofs.RulesBits.{are_live, live_count-coded, with_needed-new, without_bits-new}
use Rattle.batch_order.specs.declared.held.Held.{Held}
use Rattle.batch_order.specs.declared.translation.Translation.{Translation}
use Rattle.readback.specs.declared.Rejection.{Rejection}
use Rattle.readback.specs.declared.Rejection.TheVariants as rejection
use Rattle.readback.specs.Judged.{judgement}
use Rattle.batch_order.specs.Entries.{Entries}
use Rattle.batch_order.specs.Kept.{IsManaged, bits_of, held_of, mode_of, needed_by}
use Rattle.batch_order.proofs.ids.Numbered.{arranged_few, arranged_number}

sound_by : (fault : Option BatchFault) (room : Verdict) → fault ≡ None → verdict_by fault room ≡ room
sound_by None room none = refl
sound_by (Some fault) room none = absurd (cc)

-- a sound batch is judged by the room
verdict_room : (slots : ℕ) (mode : Mode) (rules : List Rule) (batch : List Command) → batch_fault rules batch ≡ None → verdict slots mode rules batch ≡ room_verdict slots mode rules batch
verdict_room slots mode rules batch sound = sound_by (batch_fault rules batch) (room_verdict slots mode rules batch) sound

-- more entries are needed than there are free slots
slots_short : (slots : ℕ) (mode : Mode) (rules : List Rule) (batch : List Command) (free : ℕ)
    → free + entries_of mode rules ≡ slots → free < entries_added mode rules batch → slots_verdict slots mode rules batch ≡ OutOfSlots (entries_added mode rules batch) free
slots_short slots mode rules batch free count short =
    let over : nat_lt slots (entries_of mode rules + entries_added mode rules batch) ≡ true = lt-ltb _ _ (omega arith) in
    let left : slots - entries_of mode rules ≡ free = omega arith in
    ap (λ (b : Bool). elim b [ true ↦ OutOfSlots (entries_added mode rules batch) (slots - entries_of mode rules) | false ↦ Accepted ]) over
    ∙ ap (OutOfSlots (entries_added mode rules batch)) left

-- or they fit
slots_fit : (slots : ℕ) (mode : Mode) (rules : List Rule) (batch : List Command) (free : ℕ)
    → free + entries_of mode rules ≡ slots → entries_added mode rules batch ≤ free → slots_verdict slots mode rules batch ≡ Accepted
slots_fit slots mode rules batch free count fits =
    let over : nat_lt slots (entries_of mode rules + entries_added mode rules batch) ≡ false = le-ltb _ _ (omega arith) in
    ap (λ (b : Bool). elim b [ true ↦ OutOfSlots (entries_added mode rules batch) (slots - entries_of mode rules) | false ↦ Accepted ]) over

-- what fits has a free slot for each new entry
slots_room : (slots : ℕ) (mode : Mode) (rules : List Rule) (batch : List Command) → slots_verdict slots mode rules batch ≡ Accepted → entries_of mode rules + entries_added mode rules batch ≤ slots
slots_room slots mode rules batch room = ltb-false _ _ (go (nat_lt slots (entries_of mode rules + entries_added mode rules batch)) room)
  where
    go : (over : Bool) → elim over [ true ↦ OutOfSlots (entries_added mode rules batch) (slots - entries_of mode rules) | false ↦ Accepted ] ≡ Accepted → over ≡ false
    go true bad = absurd (cc)
    go false fits = refl

-- a field has too few bits
bits_short : (field : Field) (rules : List Rule) (batch : List Command) (rest : Verdict) → field_bits < length (coded_ranges field rules) + length (new_ranges field rules batch)
    → bits_verdict field rules batch rest ≡ OutOfBits field (length (new_ranges field rules batch)) (field_bits - length (coded_ranges field rules))
bits_short field rules batch rest short =
    let over : nat_lt field_bits (length (coded_ranges field rules) + length (new_ranges field rules batch)) ≡ true = lt-ltb _ _ short in
    ap (λ (b : Bool). elim b [ true ↦ OutOfBits field (length (new_ranges field rules batch)) (field_bits - length (coded_ranges field rules)) | false ↦ rest ]) over

-- or enough
bits_fit : (field : Field) (rules : List Rule) (batch : List Command) (rest : Verdict) → length (coded_ranges field rules) + length (new_ranges field rules batch) ≤ field_bits
    → bits_verdict field rules batch rest ≡ rest
bits_fit field rules batch rest fits =
    let over : nat_lt field_bits (length (coded_ranges field rules) + length (new_ranges field rules batch)) ≡ false = le-ltb _ _ fits in
    ap (λ (b : Bool). elim b [ true ↦ OutOfBits field (length (new_ranges field rules batch)) (field_bits - length (coded_ranges field rules)) | false ↦ rest ]) over

-- what is accepted has enough
bits_room : (field : Field) (rules : List Rule) (batch : List Command) (rest : Verdict) → bits_verdict field rules batch rest ≡ Accepted
    → (length (coded_ranges field rules) + length (new_ranges field rules batch) ≤ field_bits) × (rest ≡ Accepted)
bits_room field rules batch rest accepted =
    let w = go (nat_lt field_bits (length (coded_ranges field rules) + length (new_ranges field rules batch))) accepted in (ltb-false _ _ w.0, w.1)
  where
    go : (over : Bool) → elim over [ true ↦ OutOfBits field (length (new_ranges field rules batch)) (field_bits - length (coded_ranges field rules)) | false ↦ rest ] ≡ Accepted → (over ≡ false) × (rest ≡ Accepted)
    go true bad = absurd (cc)
    go false fits = (refl, fits)

-- what the verdict says of a batch that is accepted
pub record HasRoom (slots : ℕ) (mode : Mode) (rules : List Rule) (batch : List Command) : Type 0 where
  pub free : HaveFreeBits mode rules batch
  pub entries : entries_of mode rules + entries_added mode rules batch ≤ slots

pub accepted_room : (slots : ℕ) (mode : Mode) (rules : List Rule) (batch : List Command) → batch_fault rules batch ≡ None → verdict slots mode rules batch ≡ Accepted → HasRoom slots mode rules batch
accepted_room slots mode rules batch sound accepted = go mode (sym (verdict_room slots mode rules batch sound) ∙ accepted)
  where
    go : (mode : Mode) → room_verdict slots mode rules batch ≡ Accepted → HasRoom slots mode rules batch
    go Cover fits = record { free = tt; entries = slots_room slots Cover rules batch fits }
    go Bits fits =
        let src = bits_room Src rules batch (bits_verdict Dst rules batch (slots_verdict slots Bits rules batch)) fits in
        let dst = bits_room Dst rules batch (slots_verdict slots Bits rules batch) src.1 in
        record { free = (src.0, dst.0); entries = slots_room slots Bits rules batch dst.1 }

-- the free bits of a field are enough for a batch
abbrev pub Fits : Field → FieldBits → List Command → Type 0
Fits field bits batch = live_count (ranges_in field bits) + length (ranges_needed field bits batch) ≤ field_bits

-- or it is refused for want of bits
abbrev pub IsShort : Field → FieldBits → List Command → Rejection → Type 0
IsShort field bits batch told =
    (field_bits < live_count (ranges_in field bits) + length (ranges_needed field bits batch))
    × (told ≡ rejection.Bits field (length (ranges_needed field bits batch)) (field_bits - live_count (ranges_in field bits)))

module _ (field : Field) (rules : List Rule) (batch : List Command) (bits : FieldBits) (table : List ℕ) (are : AreRangesOf (coded_ranges field rules) (ranges_in field bits) table) where
  lives : AreLive (ranges_in field bits) (coded_ranges field rules)
  lives = are_live (coded_ranges field rules) (ranges_in field bits) table are

  number : live_count (ranges_in field bits) ≡ length (coded_ranges field rules)
  number = live_count-coded (ranges_in field bits) field rules are.field_map lives

  needed : length (ranges_needed field bits batch) ≡ length (new_ranges field rules batch)
  needed = ap length (without_bits-new (ranges_in field bits) field rules batch lives)

  -- that is what the verdict asks
  pub fits_field : Fits field bits batch → length (coded_ranges field rules) + length (new_ranges field rules batch) ≤ field_bits
  fits_field fits = (let live = number in let new = needed in omega arith)

  pub field_fits : length (coded_ranges field rules) + length (new_ranges field rules batch) ≤ field_bits → Fits field bits batch
  field_fits fits = (let live = number in let new = needed in omega arith)

  pub short_field : (rest : Verdict) (told : Rejection) → IsShort field bits batch told → judgement (bits_verdict field rules batch rest) ≡ Err told
  short_field rest told short =
      let over = short.0 in
      let live = number in
      let new = needed in
      let is = bits_short field rules batch rest (omega arith) in
      ap judgement is
      ∙ ap Err (sym (short.1 ∙ ap (λ (n : ℕ). rejection.Bits field n (field_bits - live_count (ranges_in field bits))) new
      ∙ ap (λ (n : ℕ). rejection.Bits field (length (new_ranges field rules batch)) (field_bits - n)) live))

-- the answers of the checks of a batch by bits
module _ (slots : ℕ) (rules : List Rule) (batch : List Command) (bits : FieldBits) (src dst : List ℕ) (sound : batch_fault rules batch ≡ None)
    (sources : AreRangesOf (coded_ranges Src rules) bits.src src) (destinations : AreRangesOf (coded_ranges Dst rules) bits.dst dst) where
  pub src_short : (told : Rejection) → IsShort Src bits batch told → judgement (verdict slots Bits rules batch) ≡ Err told
  src_short told short =
      ap judgement (verdict_room slots Bits rules batch sound)
      ∙ short_field Src rules batch bits src sources (bits_verdict Dst rules batch (slots_verdict slots Bits rules batch)) told short

  src_fit : Fits Src bits batch → verdict slots Bits rules batch ≡ bits_verdict Dst rules batch (slots_verdict slots Bits rules batch)
  src_fit fits =
      verdict_room slots Bits rules batch sound
      ∙ bits_fit Src rules batch (bits_verdict Dst rules batch (slots_verdict slots Bits rules batch)) (fits_field Src rules batch bits src sources fits)

  pub dst_short : Fits Src bits batch → (told : Rejection) → IsShort Dst bits batch told → judgement (verdict slots Bits rules batch) ≡ Err told
  dst_short fits told short =
      ap judgement (src_fit fits) ∙ short_field Dst rules batch bits dst destinations (slots_verdict slots Bits rules batch) told short

  pub both_fit : Fits Src bits batch → Fits Dst bits batch → verdict slots Bits rules batch ≡ slots_verdict slots Bits rules batch
  both_fit fits enough = src_fit fits ∙ bits_fit Dst rules batch (slots_verdict slots Bits rules batch) (fits_field Dst rules batch bits dst destinations enough)

pub idle_held : {A B : Type 0} (f : A → B) (held : Option A) → option_map f held ≡ None → held ≡ None
idle_held f None none = refl
idle_held f (Some held) none = absurd (cc)

-- a set takes few entries
pub entries_few : (translation : Option Translation) (rules : StoredRules) (kept : Entries) (slots : Slots) (held : Option Held) → IsManaged translation rules kept slots held
    → entries_of (mode_of translation) rules.rules ≤ most_slots
entries_few translation rules kept slots None managed = arranged_few (mode_of translation) (bits_of translation) rules.rules kept slots managed.is_set managed.carried
entries_few translation rules kept slots (Some held) managed =
    let some : entries_of (mode_of translation) rules.rules ≤ length slots = managed.carried.entries in
    let size : length slots ≡ kept.slots = managed.carried.size in
    let few : kept.slots ≤ most_slots = managed.carried.after.settled.few in
    omega arith

-- with no commit under way the slots that aren't free are as many as the entries of the set
pub idle_count : (translation : Option Translation) (rules : StoredRules) (kept : Entries) (slots : Slots) → IsManaged translation rules kept slots None
    → free_slots slots + entries_of (mode_of translation) rules.rules ≡ length slots
idle_count translation rules kept slots managed =
    let number : length kept.live ≡ entries_of (mode_of translation) rules.rules = arranged_number (mode_of translation) (bits_of translation) rules.rules kept slots managed.is_set managed.carried in
    let count : free_slots slots + length kept.live ≡ kept.slots = managed.carried.settled.count in
    let size : length slots ≡ kept.slots = managed.carried.settled.size in
    omega arith

module _ (translation : Option Translation) (rules : StoredRules) (kept : Entries) (slots : Slots) (held : Option Held) (batch : List Command) (managed : IsManaged translation rules kept slots held)
    (none : option_map (held_of translation slots rules.rules kept.entries) held ≡ None) where
  idle : IsManaged translation rules kept slots None
  idle = subst (IsManaged translation rules kept slots) (idle_held (held_of translation slots rules.rules kept.entries) held none) managed

  -- the answer of an idle manager whose free slots are too few
  pub short_answer : free_slots slots < entries_added (mode_of translation) rules.rules batch
      → judgement (slots_verdict (length slots) (mode_of translation) rules.rules batch) ≡ Err (rejection.Slots (entries_added (mode_of translation) rules.rules batch) (free_slots slots))
  short_answer short =
      ap judgement (slots_short (length slots) (mode_of translation) rules.rules batch (free_slots slots) (idle_count translation rules kept slots idle) short)

  -- and of one that has enough
  pub enough_slots : entries_added (mode_of translation) rules.rules batch ≤ free_slots slots → slots_verdict (length slots) (mode_of translation) rules.rules batch ≡ Accepted
  enough_slots fits = slots_fit (length slots) (mode_of translation) rules.rules batch (free_slots slots) (idle_count translation rules kept slots idle) fits

-- the answers of a manager that keeps a translation, by the checks of its fields
module _ (kept : Translation) (rules : StoredRules) (entries : Entries) (slots : Slots) (held : Option Held) (batch : List Command) (managed : IsManaged (Some kept) rules entries slots held) (sound : batch_fault rules.rules batch ≡ None) where
  pub src_answer : (told : Rejection) → IsShort Src kept.bits batch told → judgement (verdict (length slots) Bits rules.rules batch) ≡ Err told
  src_answer told short = src_short (length slots) rules.rules batch kept.bits kept.tables.src kept.tables.dst sound managed.translated.0 managed.translated.1 told short

  pub dst_answer : Fits Src kept.bits batch → (told : Rejection) → IsShort Dst kept.bits batch told → judgement (verdict (length slots) Bits rules.rules batch) ≡ Err told
  dst_answer fits told short = dst_short (length slots) rules.rules batch kept.bits kept.tables.src kept.tables.dst sound managed.translated.0 managed.translated.1 fits told short

  pub bits_answer : Fits Src kept.bits batch → Fits Dst kept.bits batch → verdict (length slots) Bits rules.rules batch ≡ slots_verdict (length slots) Bits rules.rules batch
  bits_answer fits enough = both_fit (length slots) rules.rules batch kept.bits kept.tables.src kept.tables.dst sound managed.translated.0 managed.translated.1 fits enough

-- and its live ranges while the batch is carried out
pub bits_needed : (kept : Translation) (rules : StoredRules) (entries : Entries) (slots : Slots) (held : Option Held) (batch : List Command) → IsManaged (Some kept) rules entries slots held
    → with_needed kept.bits batch ≡ bits_with Bits rules.rules batch kept.bits
bits_needed kept rules entries slots held batch managed =
    with_needed-new kept.bits rules.rules batch (are_live (coded_ranges Src rules.rules) kept.bits.src kept.tables.src managed.translated.0) (are_live (coded_ranges Dst rules.rules) kept.bits.dst kept.tables.dst managed.translated.1)

-- whatever a manager keeps, a batch that fits the set's free bits fits those of its live ranges,
pub fits_both : (translation : Option Translation) (rules : StoredRules) (entries : Entries) (slots : Slots) (held : Option Held) (batch : List Command) → IsManaged translation rules entries slots held
    → HaveFreeBits (mode_of translation) rules.rules batch → IfSome translation (λ kept. Fits Src kept.bits batch) × IfSome translation (λ kept. Fits Dst kept.bits batch)
fits_both None rules entries slots held batch managed free = (tt, tt)
fits_both (Some kept) rules entries slots held batch managed free = (
  field_fits Src rules.rules batch kept.bits kept.tables.src managed.translated.0 free.0,
  field_fits Dst rules.rules batch kept.bits kept.tables.dst managed.translated.1 free.1,
)

-- and its live ranges meanwhile are those of the commit
pub ranges_needed_are : (translation : Option Translation) (rules : StoredRules) (entries : Entries) (slots : Slots) (held : Option Held) (batch : List Command) → IsManaged translation rules entries slots held
    → needed_by translation batch ≡ bits_with (mode_of translation) rules.rules batch (bits_of translation)
ranges_needed_are None rules entries slots held batch managed = refl
ranges_needed_are (Some kept) rules entries slots held batch managed = bits_needed kept rules entries slots held batch managed
