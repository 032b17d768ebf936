-- A row of marks, as the words of a tree tell it.
use Rattle.std.proofs.Common.{◌≡◌, ◌≢◌, ℕ, ◌+◌, ◌-◌, ◌*◌, ◌/◌, ◌%◌, ◌<◌, ◌≤◌, Bool, true, false, List, None, Some, length, replicate, arith, inl, inr, refl, sym, ◌∙◌, subst, ap}
use Rattle.std.specs.Prelude.{◌==◌, cond, slice_set, slice_index_or}
use Rattle.std.specs.List.{count_by}
use Rattle.std.specs.Int.{bit_at}
use Rattle.std.proofs.lemmas.Bool.{cases_eq, eq-eqb, false_from_ne_true, eqb-true}
use Rattle.std.proofs.lemmas.List.{ext_get_or, get_or_default, get_or-replicate, get_or-set_same, get_or-set_other, length-replicate, length-set}
use Rattle.std.proofs.lemmas.List.FromFn.{get_or-map-range_with_len, length-map-range_with_len}
use Rattle.std.proofs.lemmas.List.Sums.{sum_by-set, count_by-le-length}
use Rattle.std.proofs.lemmas.List.Folds.{sum_by-replicate}
use Rattle.word_tree.specs.Tree.{bit_of, start, IsInLevel, IsTree, IsRow, IsNextLeaf, IsLastLeaf}
use Rattle.word_tree.specs.Marks.{marks_of, IsNextSet, IsLastSet}
use Rattle.word_tree.proofs.Bits.{bit_of_zeros, bit_in_word}
use Rattle.word_tree.proofs.Levels.{start_most}

pub many_marks : (words : List ℕ) (base places : ℕ) → length (marks_of words base places) ≡ places
many_marks words base places = length-map-range_with_len (λ k. bit_of words (base + k) == 1) 0 places

-- the mark of a place is its bit
pub mark_is : (words : List ℕ) (base places at : ℕ) → at < places → slice_index_or (marks_of words base places) at false ≡ (bit_of words (base + at) == 1)
mark_is words base places at inside = get_or-map-range_with_len (λ k. bit_of words (base + k) == 1) 0 places at at false inside (omega arith)

is_one : (bit : ℕ) → bit ≡ 1 → (bit == 1) ≡ true
is_one bit e = eq-eqb bit 1 e

is_zero : (bit : ℕ) → bit ≡ 0 → (bit == 1) ≡ false
is_zero bit e = false_from_ne_true (bit == 1) (λ one. let k = eqb-true bit 1 one in absurd (omega arith))

pub set_mark : (words : List ℕ) (base places at : ℕ) → at < places → bit_of words (base + at) ≡ 1 → slice_index_or (marks_of words base places) at false ≡ true
set_mark words base places at inside e = mark_is words base places at inside ∙ is_one (bit_of words (base + at)) e

pub no_mark : (words : List ℕ) (base places at : ℕ) → at < places → bit_of words (base + at) ≡ 0 → slice_index_or (marks_of words base places) at false ≡ false
no_mark words base places at inside e = mark_is words base places at inside ∙ is_zero (bit_of words (base + at)) e

-- words of no bit are a row of no mark
pub none_marked : (size base places : ℕ) → marks_of (replicate size 0) base places ≡ replicate places false
none_marked size base places =
    ext_get_or false (marks_of (replicate size 0) base places) (replicate places false) (many_marks (replicate size 0) base places ∙ sym (length-replicate places false))
    (λ i low. let inside : i < places = subst (λ n. i < n) (many_marks (replicate size 0) base places) low in
    no_mark (replicate size 0) base places i inside (bit_of_zeros size (base + i)) ∙ sym (get_or-replicate places i false false inside))

-- a place whose bit is changed has that mark, and no other place another one
changed : (words after : List ℕ) (base places at : ℕ) (mark : Bool) → at < places → (bit_of after (base + at) == 1) ≡ mark → ((k : ℕ) → base ≤ k → k ≢ base + at → bit_of after k ≡ bit_of words k)
    → marks_of after base places ≡ slice_set (marks_of words base places) at mark
changed words after base places at mark inside one others =
    let many = many_marks words base places in
    let many' = many_marks after base places in
    ext_get_or false (marks_of after base places) (slice_set (marks_of words base places) at mark) (many' ∙ sym (length-set (marks_of words base places) at mark ∙ many))
    (λ i low. let here : i < places = subst (λ n. i < n) many' low in
    elim (cases_eq i at) [
      | inl same ↦ subst (λ k. slice_index_or (marks_of after base places) k false ≡ slice_index_or (slice_set (marks_of words base places) at mark) k false) (sym same)
          (mark_is after base places at inside ∙ (one ∙ sym (get_or-set_same (marks_of words base places) at mark false (omega arith))))
      | inr other ↦ mark_is after base places i here ∙ (ap (λ bit. bit == 1) (others (base + i) (omega arith) (λ e. other (omega arith))) ∙ (sym (mark_is words base places i here) ∙ sym (get_or-set_other (marks_of words base places) at i mark false other)))
    ])

pub marked : (words after : List ℕ) (base places at : ℕ) → at < places → bit_of after (base + at) ≡ 1 → ((k : ℕ) → base ≤ k → k ≢ base + at → bit_of after k ≡ bit_of words k)
    → marks_of after base places ≡ slice_set (marks_of words base places) at true
marked words after base places at inside one others = changed words after base places at true inside (is_one (bit_of after (base + at)) one) others

pub unmarked : (words after : List ℕ) (base places at : ℕ) → at < places → bit_of after (base + at) ≡ 0 → ((k : ℕ) → base ≤ k → k ≢ base + at → bit_of after k ≡ bit_of words k)
    → marks_of after base places ≡ slice_set (marks_of words base places) at false
unmarked words after base places at inside one others = changed words after base places at false inside (is_zero (bit_of after (base + at)) one) others

-- how many are marked
pub none_counted : (places : ℕ) → count_by (λ mark. mark) (replicate places false) ≡ 0
none_counted places = sum_by-replicate (λ (mark : Bool). cond mark 1 0) places false ∙ nothing places
  where
    nothing : (n : ℕ) → n * 0 ≡ 0
    nothing n = omega arith

pub few_counted : (marks : List Bool) → count_by (λ mark. mark) marks ≤ length marks
few_counted marks = count_by-le-length (λ mark. mark) marks

pub one_more : (marks : List Bool) (at : ℕ) → at < length marks → slice_index_or marks at false ≡ false → count_by (λ mark. mark) (slice_set marks at true) ≡ count_by (λ mark. mark) marks + 1
one_more marks at inside none =
    let e : count_by (λ mark. mark) (slice_set marks at true) + cond {A = ℕ} (slice_index_or marks at false) 1 0 ≡ count_by (λ mark. mark) marks + 1 = sum_by-set (λ (mark : Bool). cond mark 1 0) marks at true false inside in
    let z : cond {A = ℕ} (slice_index_or marks at false) 1 0 ≡ 0 = ap (λ (mark : Bool). cond {A = ℕ} mark 1 0) none in omega arith

pub one_less : (marks : List Bool) (at : ℕ) → at < length marks → slice_index_or marks at false ≡ true → count_by (λ mark. mark) (slice_set marks at false) + 1 ≡ count_by (λ mark. mark) marks
one_less marks at inside some =
    let e : count_by (λ mark. mark) (slice_set marks at false) + cond {A = ℕ} (slice_index_or marks at false) 1 0 ≡ count_by (λ mark. mark) marks + 0 = sum_by-set (λ (mark : Bool). cond mark 1 0) marks at false false inside in
    let z : cond {A = ℕ} (slice_index_or marks at false) 1 0 ≡ 1 = ap (λ (mark : Bool). cond {A = ℕ} mark 1 0) some in omega arith

-- a place of a row: its bit lies in the lowest level
pub record IsPlace (words : List ℕ) (depth base places at : ℕ) : Type 0 where
  pub inside : at < places
  pub few : base + at < 16777216 + 266304
  pub leaf : IsInLevel depth (base + at)
  pub room : base + at < length words * 64

pub place_of : {words : List ℕ} {marks : List Bool} {depth base places at : ℕ} → IsRow words depth base places → marks_of words base places ≡ marks → at < length marks → IsPlace words depth base places at
place_of {words} {marks} {depth} {base} {places} {at} row is inside =
    let many = many_marks words base places in
    let same = ap length is in
    let few = row.few in
    let most = start_most depth row.deep in
    let low = row.low in
    let high = row.high in
    let room = row.room in
    record { inside = omega arith; few = omega arith; leaf = record { low = omega arith; high = omega arith }; room = omega arith }

leaf_of : {words : List ℕ} {depth base places : ℕ} → IsRow words depth base places → (at : ℕ) → at < places → IsInLevel depth (base + at)
leaf_of {words} {depth} {base} {places} row at inside = (place_of row refl (let many = many_marks words base places in omega arith)).leaf

-- other words of the same levels hold a row too
pub kept : {words after : List ℕ} {depth base places : ℕ} → IsRow words depth base places → length after ≡ length words → IsTree after depth → IsRow after depth base places
kept row same tree = record { few = row.few; deep = row.deep; low = row.low; high = row.high; room = let room = row.room in omega arith; tree = tree }

-- what a search of the tree finds
pub next_none : {words : List ℕ} {marks : List Bool} {depth base places from to : ℕ} → IsRow words depth base places → marks_of words base places ≡ marks → to ≤ length marks → IsNextLeaf words depth (base + from) None
    → IsNextSet marks from to None
next_none {words} {marks} {depth} {base} {places} {from} {to} row is inside none =
    let many = many_marks words base places in
    let same = ap length is in
    subst (λ marks. IsNextSet marks from to None) is (λ k low high.
    no_mark words base places k (omega arith) (none (base + k) (leaf_of row k (omega arith)) (omega arith)))

pub next_far : {words : List ℕ} {marks : List Bool} {depth base places from to bit : ℕ} → IsRow words depth base places → marks_of words base places ≡ marks → to ≤ length marks → to ≤ bit - base → IsNextLeaf words depth (base + from) (Some bit)
    → IsNextSet marks from to None
next_far {words} {marks} {depth} {base} {places} {from} {to} {bit} row is inside far found =
    let many = many_marks words base places in
    let same = ap length is in
    subst (λ marks. IsNextSet marks from to None) is (λ k low high.
    no_mark words base places k (omega arith) (found.3 (base + k) (leaf_of row k (omega arith)) (omega arith) (let l = found.1 in omega arith)))

pub next_some : {words : List ℕ} {marks : List Bool} {depth base places from to bit : ℕ} → IsRow words depth base places → marks_of words base places ≡ marks → to ≤ length marks → bit - base < to → IsNextLeaf words depth (base + from) (Some bit)
    → IsNextSet marks from to (Some (bit - base))
next_some {words} {marks} {depth} {base} {places} {from} {to} {bit} row is inside near found =
    let many = many_marks words base places in
    let same = ap length is in
    let low : base + from ≤ bit = found.1 in
    let whole : bit ≡ base + (bit - base) = omega arith in
    subst (λ marks. IsNextSet marks from to (Some (bit - base))) is (
      omega arith,
      near,
      set_mark words base places (bit - base) (omega arith) (subst (λ b. bit_of words b ≡ 1) whole found.2),
      λ k start below. no_mark words base places k (omega arith) (found.3 (base + k) (leaf_of row k (omega arith)) (omega arith) (omega arith)),
    )

pub last_none : {words : List ℕ} {marks : List Bool} {depth base places from to : ℕ} → IsRow words depth base places → marks_of words base places ≡ marks → to ≤ length marks → IsLastLeaf words depth (base + (to - 1)) None
    → IsLastSet marks from to None
last_none {words} {marks} {depth} {base} {places} {from} {to} row is inside none =
    let many = many_marks words base places in
    let same = ap length is in
    subst (λ marks. IsLastSet marks from to None) is (λ k low high.
    no_mark words base places k (omega arith) (none (base + k) (leaf_of row k (omega arith)) (omega arith)))

pub last_far : {words : List ℕ} {marks : List Bool} {depth base places from to bit : ℕ} → IsRow words depth base places → marks_of words base places ≡ marks → to ≤ length marks → bit - base < from → IsLastLeaf words depth (base + (to - 1)) (Some bit)
    → IsLastSet marks from to None
last_far {words} {marks} {depth} {base} {places} {from} {to} {bit} row is inside far found =
    let many = many_marks words base places in
    let same = ap length is in
    subst (λ marks. IsLastSet marks from to None) is (λ k low high.
    no_mark words base places k (omega arith) (found.3 (base + k) (leaf_of row k (omega arith)) (omega arith) (omega arith)))

pub last_some : {words : List ℕ} {marks : List Bool} {depth base places from to bit : ℕ} → IsRow words depth base places → marks_of words base places ≡ marks → to ≤ length marks → 0 < to → from ≤ bit - base → IsLastLeaf words depth (base + (to - 1)) (Some bit)
    → IsLastSet marks from to (Some (bit - base))
last_some {words} {marks} {depth} {base} {places} {from} {to} {bit} row is inside some near found =
    let many = many_marks words base places in
    let same = ap length is in
    let begins : base ≡ start depth = row.low in
    let low : start depth ≤ bit = found.0.low in
    let high : bit ≤ base + (to - 1) = found.1 in
    let whole : bit ≡ base + (bit - base) = omega arith in
    subst (λ marks. IsLastSet marks from to (Some (bit - base))) is (
      near,
      omega arith,
      set_mark words base places (bit - base) (omega arith) (subst (λ b. bit_of words b ≡ 1) whole found.2),
      λ k after below. no_mark words base places k (omega arith) (found.3 (base + k) (leaf_of row k (omega arith)) (omega arith) (omega arith)),
    )

-- a bit that was read off its word
pub bit_read : (words : List ℕ) (at word : ℕ) → at < length words * 64 → word ≡ slice_index_or words (at / 64) word → bit_at word (at % 64) ≡ bit_of words at
bit_read words at word inside read =
    sym (bit_in_word words (at / 64) (at % 64) at (omega arith) (omega arith) ∙ ap (λ z. bit_at z (at % 64)) (get_or_default words (at / 64) 0 word (omega arith) ∙ sym read))

-- a row that is known place by place
pub all_are : (marks : List Bool) (size : ℕ) (mark : Bool) → length marks ≡ size → ((k : ℕ) → k < size → slice_index_or marks k false ≡ mark) → marks ≡ replicate size mark
all_are marks size mark len each =
    ext_get_or false marks (replicate size mark) (len ∙ sym (length-replicate size mark))
    (λ i low. let here : i < size = omega arith in each i here ∙ sym (get_or-replicate size i mark false here))

-- one more place is marked
pub one_further : (marks : List Bool) (at : ℕ) → at < length marks → ((k : ℕ) → k < at → slice_index_or marks k false ≡ true) → (k : ℕ) → k < at + 1 → slice_index_or (slice_set marks at true) k false ≡ true
one_further marks at inside each k below = elim (cases_eq k at) [
  | inl same ↦ subst (λ p. slice_index_or (slice_set marks at true) p false ≡ true) (sym same) (get_or-set_same marks at true false inside)
  | inr other ↦ get_or-set_other marks at k true false other ∙ each k (omega arith)
]
