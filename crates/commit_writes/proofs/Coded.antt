-- The distinct port ranges of some rules that are no single block, as one rule more is added, and those of them that have no
-- bit.
use Rattle.std.proofs.Common.{◌≡◌, ◌≢◌, ℕ, ◌+◌, Bool, true, false, not, ◌&&◌, ◌||◌, cond, Option, Some, None, List, [], ◌∷◌, ◌++◌, length, map, filter, take, slice_get, option_to_list, length-append, refl, ap, sym, ◌∙◌, subst, arith}
use Rattle.std.specs.Cmp.{both_ways}
use Rattle.std.specs.List.{list_any, filter_map, cons_option}
use Rattle.std.proofs.lemmas.Bool.{false_from_ne_true}
use Rattle.std.proofs.lemmas.List.Elements.{filter-append, filter_map-append}
use Rattle.std.proofs.lemmas.Map.Views.{any-filter_same}
use Rattle.slot_order.proofs.Lists.{any_is, any_from}
use Rattle.rule_model.specs.declared.Field.{Field}
use Rattle.rule_model.specs.declared.Rule.{Rule}
use Rattle.rule_model.specs.PortRange.{PortRange, same_range, is_block}
use Rattle.rule_model.specs.Rule.{range_of}
use Rattle.rule_store.specs.declared.Command.{Command}
use Rattle.rule_store.specs.declared.Command.TheVariants.{Add, Set, Del}
use Rattle.rule_store.specs.Batch.{additions}
use Rattle.rule_store.specs.Verdict.{distinct_ranges, coded_ranges}
use Rattle.rule_store.proofs.Steps.{filter-filter}
use Rattle.rule_store.proofs.Sums.{take-read}
use Rattle.range_bits.proofs.FieldMaps.{same_range-is, same_range-self}
use Rattle.commit_writes.proofs.CodedRanges.{distinct_in, in_distinct}
use Rattle.commit_writes.specs.Needed.{coded_range}

same_range-sym : (a b : PortRange) → same_range a b ≡ same_range b a
same_range-sym a b = both_ways _ _ (turned a b) (turned b a)
  where
    turned : (a b : PortRange) → same_range a b ≡ true → same_range b a ≡ true
    turned a b same = subst (λ (c : PortRange). same_range c a ≡ true) (same_range-is a b same) (same_range-self a)

filter-all : {X : Type 0} (xs : List X) → filter (λ x. true) xs ≡ xs
filter-all [] = refl
filter-all {X} (x ∷ xs) = ap (λ (l : List X). x ∷ l) (filter-all xs)

-- a range stands among the distinct ones exactly where it stands among all
any-distinct : (range : PortRange) (ranges : List PortRange) → list_any (same_range range) (distinct_ranges ranges) ≡ list_any (same_range range) ranges
any-distinct range ranges = both_ways _ _
    (λ stands. let w = any_is (same_range range) (distinct_ranges ranges) stands in any_from (same_range range) ranges w.0 (in_distinct ranges w.0 w.1) w.2)
    (λ stands. let w = any_is (same_range range) ranges stands in any_from (same_range range) (distinct_ranges ranges) w.0 (distinct_in ranges w.0 w.1) w.2)

-- of two lists of ranges, those of the second one come behind that don't stand in the first one
distinct-append : (before after : List PortRange)
    → distinct_ranges (before ++ after) ≡ distinct_ranges before ++ filter (λ range. not (list_any (same_range range) before)) (distinct_ranges after)
distinct-append [] after = sym (filter-all (distinct_ranges after))
distinct-append (first ∷ before) after =
    let rest : filter (λ other. not (same_range first other)) (filter (λ range. not (list_any (same_range range) before)) (distinct_ranges after))
    ≡ filter (λ range. not (list_any (same_range range) (first ∷ before))) (distinct_ranges after) =
    filter-filter (λ range. not (list_any (same_range range) before)) (λ other. not (same_range first other)) _ both (distinct_ranges after) in
    ap (λ (l : List PortRange). first ∷ filter (λ other. not (same_range first other)) l) (distinct-append before after)
    ∙ ap (λ (l : List PortRange). first ∷ l)
    (filter-append (λ other. not (same_range first other)) (distinct_ranges before) (filter (λ range. not (list_any (same_range range) before)) (distinct_ranges after))
    ∙ ap (λ (l : List PortRange). filter (λ other. not (same_range first other)) (distinct_ranges before) ++ l) rest)
  where
    joined : (s t : Bool) → not (s || t) ≡ (not t && not s)
    joined true true = refl
    joined true false = refl
    joined false true = refl
    joined false false = refl

    both : (range : PortRange) → not (list_any (same_range range) (first ∷ before)) ≡ (not (list_any (same_range range) before) && not (same_range first range))
    both range = joined (same_range range first) (list_any (same_range range) before)
        ∙ ap (λ (t : Bool). not (list_any (same_range range) before) && not t) (same_range-sym range first)

-- the ranges for which some commands need bits, as often as they are added
abbrev pub asked_ranges : Field → List Command → List PortRange
asked_ranges field batch = filter_map (coded_range field) batch

additions-asked : (field : Field) (batch : List Command) → filter (λ range. not (is_block range)) (map (range_of field) (additions batch)) ≡ asked_ranges field batch
additions-asked field [] = refl
additions-asked field (Set priority answer ∷ batch) = additions-asked field batch
additions-asked field (Del priority ∷ batch) = additions-asked field batch
additions-asked field (Add rule ∷ batch) = go (is_block (range_of field rule)) ∙ ap (λ (l : List PortRange). cons_option (coded_range field (Add rule)) l) (additions-asked field batch)
  where
    rest : List PortRange
    rest = filter (λ range. not (is_block range)) (map (range_of field) (additions batch))

    go : (block : Bool) → cond (not block) (range_of field rule ∷ rest) rest ≡ cons_option (cond block None (Some (range_of field rule))) rest
    go true = refl
    go false = refl

pub coded-asked : (field : Field) (batch : List Command) → coded_ranges field (additions batch) ≡ distinct_ranges (asked_ranges field batch)
coded-asked field batch = ap distinct_ranges (additions-asked field batch)

-- a range that is one block is never among them, and another one exactly where a rule has it
pub any-coded_block : (field : Field) (rules : List Rule) (range : PortRange) → is_block range ≡ true → list_any (same_range range) (coded_ranges field rules) ≡ false
any-coded_block field rules range block =
    any-distinct range (filter (λ other. not (is_block other)) (map (range_of field) rules))
    ∙ any-filter_same (same_range range) (λ other. not (is_block other)) false
    (λ other same. ap (λ (r : PortRange). not (is_block r)) (sym (same_range-is range other same)) ∙ ap not block) (map (range_of field) rules)

pub any-coded : (field : Field) (rules : List Rule) (range : PortRange) → is_block range ≡ false
    → list_any (same_range range) (coded_ranges field rules) ≡ list_any (λ rule. same_range range (range_of field rule)) rules
any-coded field rules range coded =
    any-distinct range (filter (λ other. not (is_block other)) (map (range_of field) rules))
    ∙ any-filter_same (same_range range) (λ other. not (is_block other)) true
    (λ other same. ap (λ (r : PortRange). not (is_block r)) (sym (same_range-is range other same)) ∙ ap not coded) (map (range_of field) rules)
    ∙ any_map rules
  where
    any_map : (rules : List Rule) → list_any (same_range range) (map (range_of field) rules) ≡ list_any (λ rule. same_range range (range_of field rule)) rules
    any_map [] = refl
    any_map (rule ∷ rules) = ap (λ (t : Bool). same_range range (range_of field rule) || t) (any_map rules)

-- the same of the additions of a batch, whose commands are gone through
pub any-asked : (field : Field) (batch : List Command) (range : PortRange)
    → list_any (same_range range) (coded_ranges field (additions batch)) ≡ list_any (same_range range) (asked_ranges field batch)
any-asked field batch range = ap (λ (l : List PortRange). list_any (same_range range) l) (coded-asked field batch) ∙ any-distinct range (asked_ranges field batch)

pub asked-here : (field : Field) (command : Command) (batch : List Command) (range : PortRange) → coded_range field command ≡ Some range
    → list_any (same_range range) (asked_ranges field (command ∷ batch)) ≡ true
asked-here field command batch range is =
    ap (λ (o : Option PortRange). list_any (same_range range) (cons_option o (asked_ranges field batch))) is
    ∙ ap (λ (t : Bool). t || list_any (same_range range) (asked_ranges field batch)) (same_range-self range)

pub asked-later : (field : Field) (command : Command) (batch : List Command) (range : PortRange) → coded_range field command ≢ Some range
    → list_any (same_range range) (asked_ranges field (command ∷ batch)) ≡ list_any (same_range range) (asked_ranges field batch)
asked-later field command batch range other = go (coded_range field command) refl
  where
    go : (found : Option PortRange) → coded_range field command ≡ found
        → list_any (same_range range) (cons_option found (asked_ranges field batch)) ≡ list_any (same_range range) (asked_ranges field batch)
    go None is = refl
    go (Some asked) is = ap (λ (t : Bool). t || list_any (same_range range) (asked_ranges field batch))
        (false_from_ne_true (same_range range asked) (λ same. other (is ∙ ap Some (sym (same_range-is range asked same)))))

-- of the ranges that are asked for, how many are free to be given, as one command more is looked at
one_more : (free : PortRange → Bool) (field : Field) (batch : List Command) (place : ℕ) (command : Command) → slice_get batch place ≡ Some command
    → filter free (coded_ranges field (additions (take (place + 1) batch))) ≡ filter free (coded_ranges field (additions (take place batch)))
    ++ filter free (filter (λ range. not (list_any (same_range range) (asked_ranges field (take place batch)))) (option_to_list (coded_range field command)))
one_more free field batch place command read =
    ap (filter free)
    (coded-asked field (take (place + 1) batch)
    ∙ ap (λ (l : List Command). distinct_ranges (asked_ranges field l)) (take-read batch place command read)
    ∙ ap distinct_ranges (filter_map-append (coded_range field) (take place batch) (command ∷ []))
    ∙ distinct-append (asked_ranges field (take place batch)) (asked_ranges field (command ∷ []))
    ∙ ap (λ (l : List PortRange). distinct_ranges (asked_ranges field (take place batch)) ++ filter (λ range. not (list_any (same_range range) (asked_ranges field (take place batch)))) l) (alone (coded_range field command))
    ∙ ap (λ (l : List PortRange). l ++ filter (λ range. not (list_any (same_range range) (asked_ranges field (take place batch)))) (option_to_list (coded_range field command))) (sym (coded-asked field (take place batch))))
    ∙ filter-append free (coded_ranges field (additions (take place batch))) _
  where
    alone : (found : Option PortRange) → distinct_ranges (cons_option found []) ≡ option_to_list found
    alone None = refl
    alone (Some range) = refl

pub none_more : (free : PortRange → Bool) (field : Field) (batch : List Command) (place : ℕ) (command : Command) → slice_get batch place ≡ Some command → coded_range field command ≡ None
    → length (filter free (coded_ranges field (additions (take (place + 1) batch)))) ≡ length (filter free (coded_ranges field (additions (take place batch)))) + 0
none_more free field batch place command read none =
    let whole = one_more free field batch place command read in
    let rest = ap (λ (o : Option PortRange). filter free (filter (λ range. not (list_any (same_range range) (asked_ranges field (take place batch)))) (option_to_list o))) none in
    let size = length-append (filter free (coded_ranges field (additions (take place batch)))) (filter free (filter (λ range. not (list_any (same_range range) (asked_ranges field (take place batch)))) (option_to_list (coded_range field command)))) in
    let counted = ap length whole in
    let empty = ap length rest in
    omega arith

pub some_more : (free : PortRange → Bool) (field : Field) (batch : List Command) (place : ℕ) (command : Command) (range : PortRange) (first : Bool) → slice_get batch place ≡ Some command
    → coded_range field command ≡ Some range
    → first ≡ (free range && not (list_any (same_range range) (coded_ranges field (additions (take place batch)))))
    → length (filter free (coded_ranges field (additions (take (place + 1) batch)))) ≡ length (filter free (coded_ranges field (additions (take place batch)))) + cond first 1 0
some_more free field batch place command range first read some is =
    let whole = one_more free field batch place command read in
    let rest = ap (λ (o : Option PortRange). filter free (filter (λ range. not (list_any (same_range range) (asked_ranges field (take place batch)))) (option_to_list o))) some in
    let size = length-append (filter free (coded_ranges field (additions (take place batch)))) (filter free (filter (λ range. not (list_any (same_range range) (asked_ranges field (take place batch)))) (option_to_list (coded_range field command)))) in
    let counted = ap length whole in
    let last = ap length rest in
    let passes = is ∙ ap (λ (t : Bool). free range && not t) (any-asked field (take place batch) range) in
    let one = count free (list_any (same_range range) (asked_ranges field (take place batch))) ∙ ap (λ (t : Bool). cond {A = ℕ} t 1 0) (sym passes) in
    omega arith
  where
    kept : (t : Bool) → length (cond t (range ∷ []) []) ≡ cond (t && true) 1 0
    kept true = refl
    kept false = refl

    dropped : (t : Bool) → 0 ≡ cond {A = ℕ} (t && false) 1 0
    dropped true = refl
    dropped false = refl

    count : (free : PortRange → Bool) (before : Bool) → length (filter free (cond (not before) (range ∷ []) [])) ≡ cond (free range && not before) 1 0
    count free true = dropped (free range)
    count free false = kept (free range)
