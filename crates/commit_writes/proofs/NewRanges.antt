-- New ranges that get bits one after the other, where as many bits are free.
use Rattle.std.proofs.Common.{◌≡◌, ◌≢◌, ℕ, ◌+◌, ◌<◌, ◌≤◌, Bool, true, false, not, ◌&&◌, Option, Some, None, is_none, List, [], ◌∷◌, length, filter, inl, inr, refl, ap, sym, ◌∙◌, subst, arith}
use Rattle.std.specs.Cmp.{both_ways}
use Rattle.std.specs.List.{cons_option}
use Rattle.std.proofs.lemmas.Bool.{cases_Bool, cases_eq, cond-true, cond-false, and_parts, and_from, not-true, false_from_ne_true}
use Rattle.rule_model.specs.declared.Field.{Field}
use Rattle.rule_model.specs.PortRange.{PortRange, same_range}
use Rattle.rule_store.specs.declared.Command.{Command}
use Rattle.rule_store.proofs.Steps.{filter-filter}
use Rattle.rule_store.specs.Verdict.{distinct_ranges}
use Rattle.range_bits.specs.LiveRanges.{LiveRanges, bit_of, range_at, with_ranges}
use Rattle.range_bits.specs.FieldMap.{live_count}
use Rattle.range_bits.proofs.FieldMaps.{same_range-is, same_range-self, not_live, bit_of-none}
use Rattle.commit_writes.specs.Needed.{coded_range, ranges_without, without_bits}
use Rattle.commit_writes.proofs.Coded.{asked_ranges, coded-asked}

-- one bit more is live, and was free
pub record IsGivenBit (live given : LiveRanges) (bit : ℕ) (range : PortRange) : Type 0 where
  pub free : range_at live bit ≡ None
  pub now : range_at given bit ≡ Some range
  pub others : (other : ℕ) → other ≢ bit → range_at given other ≡ range_at live other

-- a range has no bit then exactly where it had none, and isn't the new one
still_without : (live given : LiveRanges) (bit : ℕ) (range other : PortRange) → IsGivenBit live given bit range
    → is_none (bit_of given other) ≡ (not (same_range range other) && is_none (bit_of live other))
still_without live given bit range other is = both_ways _ _ before after
  where
    none_from : (found : Option ℕ) → is_none found ≡ true → found ≡ None
    none_from None none = refl
    none_from (Some at) none = absurd (cc)

    none_is : (some : LiveRanges) → ((at : ℕ) → range_at some at ≢ Some other) → is_none (bit_of some other) ≡ true
    none_is some none = ap is_none (bit_of-none some other none)

    before : is_none (bit_of given other) ≡ true → (not (same_range range other) && is_none (bit_of live other)) ≡ true
    before none =
        let without = not_live given other (none_from (bit_of given other) none) in
        and_from (not (same_range range other)) (is_none (bit_of live other))
        (ap not (false_from_ne_true (same_range range other) (λ same. without bit (is.now ∙ ap Some (same_range-is range other same)))))
        (none_is live (λ at held. elim (cases_eq at bit) [
          | inl same ↦ absurd (let free = is.free in let there : range_at live bit ≡ Some other = ap (range_at live) (sym same) ∙ held in cc)
          | inr apart ↦ without at (is.others at apart ∙ held)
        ]))

    after : (not (same_range range other) && is_none (bit_of live other)) ≡ true → is_none (bit_of given other) ≡ true
    after none =
        let parts = and_parts (not (same_range range other)) (is_none (bit_of live other)) none in
        let without = not_live live other (none_from (bit_of live other) parts.1) in
        none_is given (λ at held. elim (cases_eq at bit) [
          | inl same ↦ absurd (let there : Some range ≡ Some other = sym is.now ∙ ap (range_at given) (sym same) ∙ held in
              let one : range ≡ other = cc in
              let passes = not-true (same_range range other) parts.0 in
              let fails = ap (same_range range) (sym one) ∙ same_range-self range in
              cc)
          | inr apart ↦ without at (sym (is.others at apart) ∙ held)
        ])

-- the ranges that some commands need, one command less
without_coded : (live : LiveRanges) (field : Field) (command : Command) (batch : List Command) (found : Option PortRange) → coded_range field command ≡ found
    → ranges_without live field (command ∷ batch) ≡ without_bits live (distinct_ranges (cons_option found (asked_ranges field batch)))
without_coded live field command batch found is =
    ap (without_bits live) (coded-asked field (command ∷ batch) ∙ ap (λ (o : Option PortRange). distinct_ranges (cons_option o (asked_ranges field batch))) is)

without_asked : (live : LiveRanges) (field : Field) (batch : List Command) → without_bits live (distinct_ranges (asked_ranges field batch)) ≡ ranges_without live field batch
without_asked live field batch = ap (without_bits live) (sym (coded-asked field batch))

first_none : (live : LiveRanges) (field : Field) (command : Command) (batch : List Command) → coded_range field command ≡ None
    → ranges_without live field (command ∷ batch) ≡ ranges_without live field batch
first_none live field command batch is = without_coded live field command batch None is ∙ without_asked live field batch

first_live : (live : LiveRanges) (field : Field) (command : Command) (batch : List Command) (range : PortRange) → coded_range field command ≡ Some range → is_none (bit_of live range) ≡ false
    → ranges_without live field (command ∷ batch) ≡ ranges_without live field batch
first_live live field command batch range is has =
    without_coded live field command batch (Some range) is
    ∙ cond-false (is_none (bit_of live range)) (range ∷ rest) rest has
    ∙ filter-filter (λ other. not (same_range range other)) (λ other. is_none (bit_of live other)) (λ other. is_none (bit_of live other)) both (distinct_ranges (asked_ranges field batch))
    ∙ without_asked live field batch
  where
    rest : List PortRange
    rest = without_bits live (filter (λ other. not (same_range range other)) (distinct_ranges (asked_ranges field batch)))

    both : (other : PortRange) → is_none (bit_of live other) ≡ (not (same_range range other) && is_none (bit_of live other))
    both other = elim (cases_Bool (same_range range other)) [
      | inl same ↦ ap (λ (r : PortRange). is_none (bit_of live r)) (sym (same_range-is range other same)) ∙ has ∙ sym (ap (λ (t : Bool). not t && is_none (bit_of live other)) same)
      | inr apart ↦ sym (ap (λ (t : Bool). not t && is_none (bit_of live other)) apart)
    ]

first_new : (live given : LiveRanges) (bit : ℕ) (field : Field) (command : Command) (batch : List Command) (range : PortRange) → coded_range field command ≡ Some range
    → is_none (bit_of live range) ≡ true → IsGivenBit live given bit range
    → ranges_without live field (command ∷ batch) ≡ range ∷ ranges_without given field batch
first_new live given bit field command batch range is free gives =
    without_coded live field command batch (Some range) is
    ∙ cond-true (is_none (bit_of live range)) (range ∷ rest) rest free
    ∙ ap (λ (l : List PortRange). range ∷ l)
    (filter-filter (λ other. not (same_range range other)) (λ other. is_none (bit_of live other)) (λ other. is_none (bit_of given other))
    (λ other. still_without live given bit range other gives) (distinct_ranges (asked_ranges field batch))
    ∙ without_asked given field batch)
  where
    rest : List PortRange
    rest = without_bits live (filter (λ other. not (same_range range other)) (distinct_ranges (asked_ranges field batch)))

-- from the live ranges at first those of now are made, and the commands to come make the rest, for which as many bits are free
pub record IsOnTheWay (first now : LiveRanges) (field : Field) (batch to_come : List Command) : Type 0 where
  pub made : with_ranges now (ranges_without now field to_come) ≡ with_ranges first (ranges_without first field batch)
  pub room : live_count now + length (ranges_without now field to_come) ≤ 16

went_on : (first now : LiveRanges) (field : Field) (batch to_come later : List Command) → ranges_without now field to_come ≡ ranges_without now field later
    → IsOnTheWay first now field batch to_come → IsOnTheWay first now field batch later
went_on first now field batch to_come later same is = record {
  made = ap (with_ranges now) (sym same) ∙ is.made;
  room = subst (λ (l : List PortRange). live_count now + length l ≤ 16) same is.room;
}

pub on_none : (first now : LiveRanges) (field : Field) (batch : List Command) (command : Command) (later : List Command) → coded_range field command ≡ None
    → IsOnTheWay first now field batch (command ∷ later) → IsOnTheWay first now field batch later
on_none first now field batch command later none is = went_on first now field batch (command ∷ later) later (first_none now field command later none) is

pub on_live : (first now : LiveRanges) (field : Field) (batch : List Command) (command : Command) (later : List Command) (range : PortRange) → coded_range field command ≡ Some range
    → is_none (bit_of now range) ≡ false → IsOnTheWay first now field batch (command ∷ later) → IsOnTheWay first now field batch later
on_live first now field batch command later range some has is = went_on first now field batch (command ∷ later) later (first_live now field command later range some has) is

-- a bit is free for a new range
pub new_room : (first now : LiveRanges) (field : Field) (batch : List Command) (command : Command) (later : List Command) (range : PortRange) → coded_range field command ≡ Some range
    → is_none (bit_of now range) ≡ true → IsOnTheWay first now field batch (command ∷ later) → live_count now < 16
new_room first now field batch command later range some free is =
    let room = is.room in
    let more = ap length (without_coded now field command later (Some range) some ∙ cond-true (is_none (bit_of now range)) (range ∷ rest) rest free) in
    omega arith
  where
    rest : List PortRange
    rest = without_bits now (filter (λ other. not (same_range range other)) (distinct_ranges (asked_ranges field later)))

pub on_new : (first now given : LiveRanges) (bit : ℕ) (field : Field) (batch : List Command) (command : Command) (later : List Command) (range : PortRange) → coded_range field command ≡ Some range
    → is_none (bit_of now range) ≡ true → IsGivenBit now given bit range → given ≡ with_ranges now (range ∷ []) → live_count given ≡ live_count now + 1
    → IsOnTheWay first now field batch (command ∷ later) → IsOnTheWay first given field batch later
on_new first now given bit field batch command later range some free gives next more is =
    let new = first_new now given bit field command later range some free gives in
    let room = is.room in
    let size = ap length new in
    record {
      made = ap (λ (l : LiveRanges). with_ranges l (ranges_without given field later)) next ∙ sym (ap (with_ranges now) new) ∙ is.made;
      room = omega arith;
    }
