-- With more slots, which are empty, writes make the same insertions, of the same lengths and crossing spans.
use Rattle.std.proofs.Common.{◌≡◌, ℕ, zero, suc, ◌≤◌, max, Bool, true, false, not, ◌||◌, List, [], ◌∷◌, ◌++◌, length, map, flat_map, fold, replicate, Contains, Option, None, Some, inl, inr, refl, sym, ◌∙◌, subst, ap}
use Rattle.std.specs.List.{AllByRecursion, list_any}
use Rattle.slot_order.proofs.Lists.{contains_head, contains_tail, contains_cases, contains_none}
use Rattle.rule_model.specs.declared.Field.TheVariants.{Src, Dst}
use Rattle.rule_model.specs.declared.words.Entry.{Entry}
use Rattle.tcam_device.specs.declared.Write.{Write}
use Rattle.tcam_device.specs.declared.Write.TheVariants.{Slot, Table}
use Rattle.tcam_device.specs.State.{State, IsInUse, apply}
use Rattle.tcam_device.specs.Insertion.{Insertion, holds_match, is_new, insertions_from, insertions, longest_insertion, IsCrossingSpan, IsGreatestSpan, AreBoundedBy, IsUncrossed}
use Rattle.tcam_device.proofs.Wider.{padded, slot-padded, apply-padded, in_use_after}

-- the insertion on a device with so many empty slots more
abbrev pub widened : ℕ → Insertion → Insertion
widened more insertion = record insertion { before = padded more insertion.before }

any-padded : {E : Type 0} (test : Option E → Bool) (slots : List (Option E)) (more : ℕ) → test None ≡ false → list_any test (slots ++ replicate more None) ≡ list_any test slots
any-padded test [] zero none = refl
any-padded test [] (suc more) none = ap (λ (b : Bool). b || list_any test (replicate more None)) none ∙ any-padded test [] more none
any-padded test (held ∷ slots) more none = ap (λ (b : Bool). test held || b) (any-padded test slots more none)

is_new-padded : (more : ℕ) (state : State) (entry : Entry) → is_new (padded more state) entry ≡ is_new state entry
is_new-padded more state entry = ap not (any-padded (holds_match entry) state.slots more refl)

from-padded : (more : ℕ) (begun : State) (run : List Write) (state : State) (writes : List Write) → AllByRecursion (IsInUse (length state.slots)) writes
    → insertions_from (padded more begun) run (padded more state) writes ≡ map (widened more) (insertions_from begun run state writes)
from-padded more begun run state [] inside = refl
from-padded more begun run state (Slot at None ∷ writes) inside =
    ap (λ (now : State). insertions_from (padded more begun) (run ++ Slot at None ∷ []) now writes) (apply-padded more state (Slot at None) inside.0)
    ∙ from-padded more begun (run ++ Slot at None ∷ []) (apply state (Slot at None)) writes (in_use_after state (Slot at None) writes inside.1)
from-padded more begun [] state (Table Src port word ∷ writes) inside = from-padded more (apply state (Table Src port word)) [] (apply state (Table Src port word)) writes inside.1
from-padded more begun [] state (Table Dst port word ∷ writes) inside = from-padded more (apply state (Table Dst port word)) [] (apply state (Table Dst port word)) writes inside.1
from-padded more begun (first ∷ run) state (Table Src port word ∷ writes) inside = from-padded more begun (first ∷ run) (apply state (Table Src port word)) writes inside.1
from-padded more begun (first ∷ run) state (Table Dst port word ∷ writes) inside = from-padded more begun (first ∷ run) (apply state (Table Dst port word)) writes inside.1
from-padded more begun run state (Slot at (Some entry) ∷ writes) inside =
    split (is_new state entry) refl
    (ap (λ (now : State). insertions_from now [] now writes) same ∙ from-padded more next [] next writes rest)
    (ap (λ (now : State). insertions_from (padded more begun) longer now writes) same ∙ from-padded more begun longer next writes rest)
  where
    next : State
    next = apply state (Slot at (Some entry))

    longer : List Write
    longer = run ++ Slot at (Some entry) ∷ []

    rest : AllByRecursion (IsInUse (length next.slots)) writes
    rest = in_use_after state (Slot at (Some entry)) writes inside.1

    wide : State
    wide = apply (padded more state) (Slot at (Some entry))

    same : wide ≡ padded more next
    same = apply-padded more state (Slot at (Some entry)) inside.0

    split : (b : Bool) → is_new state entry ≡ b
        → insertions_from wide [] wide writes ≡ map (widened more) (insertions_from next [] next writes)
        → insertions_from (padded more begun) longer wide writes ≡ map (widened more) (insertions_from begun longer next writes)
        → insertions_from (padded more begun) run (padded more state) (Slot at (Some entry) ∷ writes) ≡ map (widened more) (insertions_from begun run state (Slot at (Some entry) ∷ writes))
    split true is anew on =
        let wider : is_new (padded more state) entry ≡ true = is_new-padded more state entry ∙ is in
        rw (wider, is, insertions_from) (ap (λ (made : List Insertion). record { before = padded more begun; writes = longer; entry = entry } ∷ made) anew)
    split false is anew on =
        let wider : is_new (padded more state) entry ≡ false = is_new-padded more state entry ∙ is in
        rw (wider, is, insertions_from) on

-- the insertions are the same, each with its wider state
pub insertions-padded : (more : ℕ) (state : State) (writes : List Write) → AllByRecursion (IsInUse (length state.slots)) writes
    → insertions (padded more state) writes ≡ map (widened more) (insertions state writes)
insertions-padded more state writes inside = from-padded more state [] state writes inside

-- they are as long
lengths : (more : ℕ) (made : List Insertion) → map (λ (insertion : Insertion). length insertion.writes) (map (widened more) made) ≡ map (λ (insertion : Insertion). length insertion.writes) made
lengths more [] = refl
lengths more (insertion ∷ made) = ap (λ ns. length insertion.writes ∷ ns) (lengths more made)

pub longest-padded : (more : ℕ) (state : State) (writes : List Write) → AllByRecursion (IsInUse (length state.slots)) writes
    → longest_insertion (padded more state) writes ≡ longest_insertion state writes
longest-padded more state writes inside =
    ap (λ (made : List Insertion). fold max 0 (map (λ (insertion : Insertion). length insertion.writes) made)) (insertions-padded more state writes inside)
    ∙ ap (fold max 0) (lengths more (insertions state writes))

-- they have the same writes and entries
pub writes-widened : (more : ℕ) (made : List Insertion) → flat_map (λ (insertion : Insertion). insertion.writes) (map (widened more) made) ≡ flat_map (λ (insertion : Insertion). insertion.writes) made
writes-widened more [] = refl
writes-widened more (insertion ∷ made) = ap (λ writes. insertion.writes ++ writes) (writes-widened more made)

pub entries-widened : (more : ℕ) (made : List Insertion) → map (λ (insertion : Insertion). insertion.entry) (map (widened more) made) ≡ map (λ (insertion : Insertion). insertion.entry) made
entries-widened more [] = refl
entries-widened more (insertion ∷ made) = ap (λ entries. insertion.entry ∷ entries) (entries-widened more made)

-- and cross the same entries
pub IsCrossingSpan-padded : (more : ℕ) (state : State) (entry : Entry) (span : ℕ) → IsCrossingSpan state entry span → IsCrossingSpan (padded more state) entry span
IsCrossingSpan-padded more state entry span is = record {
  no_less = λ upper lower high low. is.no_less upper lower (high.0, sym (slot-padded state.slots more upper) ∙ high.1, high.2, high.3) (low.0, sym (slot-padded state.slots more lower) ∙ low.1, low.2, low.3);
  no_more = elim is.no_more [
    | inl none ↦ inl none
    | inr w ↦ inr (w.0, w.1, (w.2.0, slot-padded state.slots more w.0 ∙ w.2.1, w.2.2, w.2.3), (w.3.0, slot-padded state.slots more w.1 ∙ w.3.1, w.3.2, w.3.3), w.4)
  ];
}

all_widened : (P Q : Insertion → Type 0) (more : ℕ) → ((insertion : Insertion) → P insertion → Q (widened more insertion)) → (made : List Insertion) → AllByRecursion P made → AllByRecursion Q (map (widened more) made)
all_widened P Q more each [] all = tt
all_widened P Q more each (insertion ∷ made) all = (each insertion all.0, all_widened P Q more each made all.1)

contains_widened : (more : ℕ) (made : List Insertion) (insertion : Insertion) → Contains made insertion → Contains (map (widened more) made) (widened more insertion)
contains_widened more [] insertion member = absurd (contains_none insertion member)
contains_widened more (first ∷ made) insertion member = elim (contains_cases first insertion made member) [
  | inl same ↦ subst (λ (other : Insertion). Contains (map (widened more) (first ∷ made)) (widened more other)) same (contains_head (widened more first) (map (widened more) made))
  | inr later ↦ contains_tail (widened more first) (widened more insertion) (map (widened more) made) (contains_widened more made insertion later)
]

pub IsGreatestSpan-widened : (more : ℕ) (made : List Insertion) (span : ℕ) → IsGreatestSpan made span → IsGreatestSpan (map (widened more) made) span
IsGreatestSpan-widened more made span is = record {
  no_less = all_widened (λ insertion. (own : ℕ) × IsCrossingSpan insertion.before insertion.entry own × (own ≤ span)) (λ insertion. (own : ℕ) × IsCrossingSpan insertion.before insertion.entry own × (own ≤ span)) more
      (λ insertion w. (w.0, IsCrossingSpan-padded more insertion.before insertion.entry w.0 w.1, w.2)) made is.no_less;
  no_more = elim is.no_more [
    | inl none ↦ inl none
    | inr w ↦ inr (widened more w.0, contains_widened more made w.0 w.1, IsCrossingSpan-padded more w.0.before w.0.entry span w.2)
  ];
}

pub AreBoundedBy-widened : (more : ℕ) (most : ℕ → ℕ) (made : List Insertion) → AreBoundedBy most made → AreBoundedBy most (map (widened more) made)
AreBoundedBy-widened more most made all =
    all_widened (λ insertion. (span : ℕ) × IsCrossingSpan insertion.before insertion.entry span × (length insertion.writes ≤ most span))
    (λ insertion. (span : ℕ) × IsCrossingSpan insertion.before insertion.entry span × (length insertion.writes ≤ most span)) more
    (λ insertion w. (w.0, IsCrossingSpan-padded more insertion.before insertion.entry w.0 w.1, w.2)) made all

pub IsUncrossed-widened : (more most : ℕ) (made : List Insertion) → IsUncrossed most made → IsUncrossed most (map (widened more) made)
IsUncrossed-widened more most made all =
    all_widened (λ insertion. IsCrossingSpan insertion.before insertion.entry 0 × (length insertion.writes ≤ most))
    (λ insertion. IsCrossingSpan insertion.before insertion.entry 0 × (length insertion.writes ≤ most)) more
    (λ insertion w. (IsCrossingSpan-padded more insertion.before insertion.entry 0 w.0, w.1)) made all
