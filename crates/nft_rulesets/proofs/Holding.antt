-- Which numbers spans have: those outside of some spans, and the blocks that a span is.
use Rattle.std.proofs.Common.{◌≡◌, ℕ, zero, suc, ◌+◌, ◌-◌, ◌*◌, ◌/◌, ◌%◌, ◌^◌, ◌<◌, ◌≤◌, Bool, true, false, not, ◌==◌, ◌&&◌, ◌||◌, nat_le, nat_lt, cond, List, [], ◌∷◌, ◌++◌, refl, sym, ap, ◌∙◌, subst, append_assoc, arith, eqb-true, eq-eqb, le-leb, leb-true, lt-ltb, ltb-true}
use Rattle.std.specs.List.{list_any}
use Rattle.std.proofs.lemmas.Bool.{and_from, and_parts, cond-false, cond-true, ltb-false}
use Rattle.std.proofs.lemmas.Bool.Decides.{nat_tests}
use Rattle.std.proofs.lemmas.List.Folds.{list_any-append}
use Rattle.std.proofs.lemmas.Nat.{div-mul-add, mod_below, pow_pos, shr_split}
use Rattle.std.proofs.Math.Nat.{two-pow-succ}
use Rattle.rule_model.specs.AddressBlock.{AddressBlock, block_holds}
use Rattle.rule_model.proofs.Multiples.{multiple_is, multiple_left, multiple_right}
use Rattle.nft_rulesets.specs.declared.spans.Span.{Span}
use Rattle.nft_rulesets.specs.Spans.{above, below, blocks, is_inside, misses, outside, without}
use Rattle.nft_rulesets.specs.Laws.{BlocksAreTheSpan, OutsideIsTheRest, in_spans, span_holds}

-- ---- booleans

pub bool-same : (a b : Bool) → (a ≡ true → b ≡ true) → (b ≡ true → a ≡ true) → a ≡ b
bool-same true b there back = sym (there refl)
bool-same false true there back = back refl
bool-same false false there back = refl

pub or-false : (a : Bool) → (a || false) ≡ a
or-false true = refl
or-false false = refl

pub and-whole : (a : Bool) → a ≡ (a && true)
and-whole true = refl
and-whole false = refl

pub or-assoc : (a b c : Bool) → (a || (b || c)) ≡ ((a || b) || c)
or-assoc true b c = refl
or-assoc false b c = refl

pub and-or : (s t n : Bool) → ((s && n) || (t && n)) ≡ ((s || t) && n)
and-or true true true = refl
and-or true true false = refl
and-or true false true = refl
and-or true false false = refl
and-or false t n = refl

pub and-neither : (s c d : Bool) → ((s && not c) && not d) ≡ (s && not (c || d))
and-neither true true d = refl
and-neither true false d = refl
and-neither false c d = refl

-- ---- outside of a span

below-some : (lo hi cut n : ℕ) → lo < cut → ((nat_le lo n && nat_le n (cond (nat_le hi (cut - 1)) hi (cut - 1))) || false) ≡ ((nat_le lo n && nat_le n hi) && nat_lt n cut)
below-some lo hi cut n less = grind (arith, nat_tests)

below-none : (lo hi cut n : ℕ) → cut ≤ lo → false ≡ ((nat_le lo n && nat_le n hi) && nat_lt n cut)
below-none lo hi cut n order = grind (arith, nat_tests)

above-some : (lo hi cut n : ℕ) → cut < hi → ((nat_le (cond (nat_le lo (cut + 1)) (cut + 1) lo) n && nat_le n hi) || false) ≡ ((nat_le lo n && nat_le n hi) && nat_lt cut n)
above-some lo hi cut n less = grind (arith, nat_tests)

above-none : (lo hi cut n : ℕ) → hi ≤ cut → false ≡ ((nat_le lo n && nat_le n hi) && nat_lt cut n)
above-none lo hi cut n order = grind (arith, nat_tests)

below-by : (cut span : Span) (n : ℕ) (test : Bool) → nat_lt span.lo cut.lo ≡ test
    → in_spans (cond test (record { lo = span.lo; hi = cond (nat_le span.hi (cut.lo - 1)) span.hi (cut.lo - 1) } ∷ []) []) n ≡ (span_holds span n && nat_lt n cut.lo)
below-by cut span n true is = below-some span.lo span.hi cut.lo n (ltb-true _ _ is)
below-by cut span n false is = below-none span.lo span.hi cut.lo n (ltb-false _ _ is)

above-by : (cut span : Span) (n : ℕ) (test : Bool) → nat_lt cut.hi span.hi ≡ test
    → in_spans (cond test (record { lo = cond (nat_le span.lo (cut.hi + 1)) (cut.hi + 1) span.lo; hi = span.hi } ∷ []) []) n ≡ (span_holds span n && nat_lt cut.hi n)
above-by cut span n true is = above-some span.lo span.hi cut.hi n (ltb-true _ _ is)
above-by cut span n false is = above-none span.lo span.hi cut.hi n (ltb-false _ _ is)

apart : (lo hi n : ℕ) → (nat_lt n lo || nat_lt hi n) ≡ not (nat_le lo n && nat_le n hi)
apart lo hi n = grind (arith, nat_tests)

pub and-under : (s a b c : Bool) → (a || b) ≡ c → ((s && a) || (s && b)) ≡ (s && c)
and-under true a b c is = is
and-under false a b c is = refl

one-without : (cut span : Span) (n : ℕ) → (in_spans (below cut span) n || in_spans (above cut span) n) ≡ (span_holds span n && not (span_holds cut n))
one-without cut span n =
    ap (λ b. b || in_spans (above cut span) n) (below-by cut span n (nat_lt span.lo cut.lo) refl)
    ∙ ap (λ b. (span_holds span n && nat_lt n cut.lo) || b) (above-by cut span n (nat_lt cut.hi span.hi) refl)
    ∙ and-under (span_holds span n) (nat_lt n cut.lo) (nat_lt cut.hi n) (not (span_holds cut n)) (apart cut.lo cut.hi n)

in-both : (first second : List Span) (n : ℕ) → in_spans (first ++ second) n ≡ (in_spans first n || in_spans second n)
in-both first second n = list_any-append (λ (span : Span). span_holds span n) first second

without-holds : (cut : Span) (spans : List Span) (n : ℕ) → in_spans (without cut spans) n ≡ (in_spans spans n && not (span_holds cut n))
without-holds cut [] n = refl
without-holds cut (span ∷ spans) n =
    in-both (below cut span) (above cut span ++ without cut spans) n
    ∙ ap (λ b. in_spans (below cut span) n || b) (in-both (above cut span) (without cut spans) n)
    ∙ or-assoc (in_spans (below cut span) n) (in_spans (above cut span) n) (in_spans (without cut spans) n)
    ∙ ap (λ b. b || in_spans (without cut spans) n) (one-without cut span n)
    ∙ ap (λ b. (span_holds span n && not (span_holds cut n)) || b) (without-holds cut spans n)
    ∙ and-or (span_holds span n) (in_spans spans n) (not (span_holds cut n))

outside-holds : (cuts spans : List Span) (n : ℕ) → in_spans (outside cuts spans) n ≡ (in_spans spans n && not (in_spans cuts n))
outside-holds [] spans n = and-whole (in_spans spans n)
outside-holds (cut ∷ cuts) spans n =
    outside-holds cuts (without cut spans) n
    ∙ ap (λ b. b && not (in_spans cuts n)) (without-holds cut spans n)
    ∙ and-neither (in_spans spans n) (span_holds cut n) (in_spans cuts n)

pub outside-is : OutsideIsTheRest
outside-is most cuts n =
    outside-holds cuts (record { lo = 0; hi = most } ∷ []) n
    ∙ ap (λ b. b && not (in_spans cuts n)) (ap (λ b. (b && nat_le n most) || false) (le-leb 0 n (omega arith)) ∙ or-false (nat_le n most))

-- ---- blocks

-- an address is in an aligned block exactly where it is one of its addresses
aligned : (past addr x : ℕ) → addr % 2 ^ past ≡ 0 → (x / 2 ^ past == addr / 2 ^ past) ≡ (nat_le addr x && nat_lt x (addr + 2 ^ past))
aligned past addr x whole = bool-same (x / 2 ^ past == addr / 2 ^ past) (nat_le addr x && nat_lt x (addr + 2 ^ past)) there back
  where
    there : (x / 2 ^ past == addr / 2 ^ past) ≡ true → (nat_le addr x && nat_lt x (addr + 2 ^ past)) ≡ true
    there is =
        let same : x / 2 ^ past ≡ addr / 2 ^ past = eqb-true (x / 2 ^ past) (addr / 2 ^ past) is in
        let scaled : x / 2 ^ past * 2 ^ past ≡ addr / 2 ^ past * 2 ^ past = ap (λ (n : ℕ). n * 2 ^ past) same in
        let parts = shr_split x past in
        let own = multiple_is addr (2 ^ past) whole in
        let rest = mod_below x (2 ^ past) (pow_pos past) in
        and_from (nat_le addr x) (nat_lt x (addr + 2 ^ past)) (le-leb addr x (omega arith)) (lt-ltb x (addr + 2 ^ past) (omega arith))

    back : (nat_le addr x && nat_lt x (addr + 2 ^ past)) ≡ true → (x / 2 ^ past == addr / 2 ^ past) ≡ true
    back is =
        let both = and_parts (nat_le addr x) (nat_lt x (addr + 2 ^ past)) is in
        let low = leb-true addr x both.0 in
        let high = ltb-true x (addr + 2 ^ past) both.1 in
        let own = multiple_is addr (2 ^ past) whole in
        let d : (addr / 2 ^ past * 2 ^ past + (x - addr)) / 2 ^ past ≡ addr / 2 ^ past = div-mul-add (addr / 2 ^ past) (2 ^ past) (x - addr) (omega arith) in
        let same : addr / 2 ^ past * 2 ^ past + (x - addr) ≡ x = omega arith in
        eq-eqb (x / 2 ^ past) (addr / 2 ^ past) (subst (λ (z : ℕ). z / 2 ^ past ≡ addr / 2 ^ past) same d)

missed-none : (addr size lo hi x : ℕ) → 0 < size → (nat_lt (addr + (size - 1)) lo || nat_lt hi addr) ≡ true
    → false ≡ ((nat_le addr x && nat_lt x (addr + size)) && (nat_le lo x && nat_le x hi))
missed-none addr size lo hi x some missed = grind (arith, nat_tests)

inside-all : (addr size lo hi x : ℕ) → 0 < size → (nat_le lo addr && nat_le (addr + (size - 1)) hi) ≡ true
    → (nat_le addr x && nat_lt x (addr + size)) ≡ ((nat_le addr x && nat_lt x (addr + size)) && (nat_le lo x && nat_le x hi))
inside-all addr size lo hi x some inside = grind (arith, nat_tests)

one-address : (addr size lo hi x : ℕ) → size ≡ 1 → (nat_lt (addr + (size - 1)) lo || nat_lt hi addr) ≡ false → (nat_le lo addr && nat_le (addr + (size - 1)) hi) ≡ false
    → false ≡ ((nat_le addr x && nat_lt x (addr + size)) && (nat_le lo x && nat_le x hi))
one-address addr size lo hi x one missed inside = grind (arith, nat_tests)

halves : (addr half size x : ℕ) (s : Bool) → size ≡ half + half
    → (((nat_le addr x && nat_lt x (addr + half)) && s) || ((nat_le (addr + half) x && nat_lt x (addr + half + half)) && s)) ≡ ((nat_le addr x && nat_lt x (addr + size)) && s)
halves addr half size x s twice = and-or (nat_le addr x && nat_lt x (addr + half)) (nat_le (addr + half) x && nat_lt x (addr + half + half)) s ∙ ap (λ b. b && s) joined
  where
    joined : ((nat_le addr x && nat_lt x (addr + half)) || (nat_le (addr + half) x && nat_lt x (addr + half + half))) ≡ (nat_le addr x && nat_lt x (addr + size))
    joined = grind (arith, nat_tests)

-- one of some blocks has an address
abbrev pub in_blocks : List AddressBlock → ℕ → Bool
in_blocks found x = list_any (λ block. block_holds block x) found

abbrev in_part : ℕ → ℕ → Span → ℕ → Bool
in_part past addr span x = (nat_le addr x && nat_lt x (addr + 2 ^ past)) && span_holds span x

block-alone : (past addr x : ℕ) → past ≤ 128 → addr % 2 ^ past ≡ 0 → in_blocks (record { addr = addr; len = 128 - past } ∷ []) x ≡ (nat_le addr x && nat_lt x (addr + 2 ^ past))
block-alone past addr x fits whole =
    let same : 128 - (128 - past) ≡ past = omega arith in
    or-false (x / 2 ^ (128 - (128 - past)) == addr / 2 ^ (128 - (128 - past)))
    ∙ ap (λ (k : ℕ). x / 2 ^ k == addr / 2 ^ k) same
    ∙ aligned past addr x whole

or-by : (past addr : ℕ) (span : Span) (x : ℕ) (parts : List AddressBlock) (missed inside : Bool) → past ≤ 128 → addr % 2 ^ past ≡ 0 → misses past addr span ≡ missed → is_inside past addr span ≡ inside
    → (misses past addr span ≡ false → is_inside past addr span ≡ false → in_blocks parts x ≡ in_part past addr span x)
    → in_blocks (cond missed [] (cond inside (record { addr = addr; len = 128 - past } ∷ []) parts)) x ≡ in_part past addr span x
or-by past addr span x parts true inside fits whole is_missed is_inside rest = missed-none addr (2 ^ past) span.lo span.hi x (pow_pos past) is_missed
or-by past addr span x parts false true fits whole is_missed is_inside rest =
    block-alone past addr x fits whole ∙ inside-all addr (2 ^ past) span.lo span.hi x (pow_pos past) is_inside
or-by past addr span x parts false false fits whole is_missed is_inside rest = rest is_missed is_inside

pub blocks-hold : (past addr : ℕ) (span : Span) (x : ℕ) → past ≤ 128 → addr % 2 ^ past ≡ 0 → in_blocks (blocks past addr span) x ≡ in_part past addr span x
unfolding blocks
blocks-hold zero addr span x fits whole =
    or-by 0 addr span x [] (misses 0 addr span) (is_inside 0 addr span) fits whole refl refl
    (λ missed inside. one-address addr (2 ^ 0) span.lo span.hi x refl missed inside)
blocks-hold (suc past) addr span x fits whole =
    let fewer : past ≤ 128 = omega arith in
    let parts = blocks past addr span ++ blocks past (addr + 2 ^ past) span in
    or-by (suc past) addr span x parts (misses (suc past) addr span) (is_inside (suc past) addr span) fits whole refl refl
    (λ missed inside.
    list_any-append (λ (block : AddressBlock). block_holds block x) (blocks past addr span) (blocks past (addr + 2 ^ past) span)
    ∙ ap (λ b. b || in_blocks (blocks past (addr + 2 ^ past) span) x) (blocks-hold past addr span x fewer (multiple_left past addr whole))
    ∙ ap (λ b. in_part past addr span x || b) (blocks-hold past (addr + 2 ^ past) span x fewer (multiple_right past addr whole))
    ∙ halves addr (2 ^ past) (2 ^ suc past) x (span_holds span x) (two-pow-succ past))

pub blocks-are : BlocksAreTheSpan
blocks-are span x below =
    blocks-hold 128 0 span x (omega arith) refl
    ∙ ap (λ b. (b && nat_lt x (0 + 2 ^ 128)) && span_holds span x) (le-leb 0 x (omega arith))
    ∙ ap (λ b. b && span_holds span x) (lt-ltb x (2 ^ 128) below)

-- ---- the blocks that are put, step by step

pub blocks-missed : (past addr : ℕ) (span : Span) → misses past addr span ≡ true → blocks past addr span ≡ []
unfolding blocks
blocks-missed zero addr span is = cond-true (misses 0 addr span) _ _ is
blocks-missed (suc past) addr span is = cond-true (misses (suc past) addr span) _ _ is

pub blocks-inside : (past addr : ℕ) (span : Span) → misses past addr span ≡ false → is_inside past addr span ≡ true → blocks past addr span ≡ record { addr = addr; len = 128 - past } ∷ []
unfolding blocks
blocks-inside zero addr span missed is = cond-false (misses 0 addr span) _ _ missed ∙ cond-true (is_inside 0 addr span) _ _ is
blocks-inside (suc past) addr span missed is = cond-false (misses (suc past) addr span) _ _ missed ∙ cond-true (is_inside (suc past) addr span) _ _ is

blocks-halved : (past addr : ℕ) (span : Span) → (past ≡ 0 → ⊥) → misses past addr span ≡ false → is_inside past addr span ≡ false
    → blocks past addr span ≡ blocks (past - 1) addr span ++ blocks (past - 1) (addr + 2 ^ (past - 1)) span
unfolding blocks
blocks-halved zero addr span some missed is = absurd (some refl)
blocks-halved (suc past) addr span some missed is =
    let same : suc past - 1 ≡ past = omega arith in
    cond-false (misses (suc past) addr span) _ _ missed
    ∙ cond-false (is_inside (suc past) addr span) _ _ is
    ∙ sym (ap (λ (k : ℕ). blocks k addr span ++ blocks k (addr + 2 ^ k) span) same)

pub half-of : (past : ℕ) → (past ≡ 0 → ⊥) → 2 ^ past ≡ 2 ^ (past - 1) + 2 ^ (past - 1)
half-of zero some = absurd (some refl)
half-of (suc past) some =
    let same : suc past - 1 ≡ past = omega arith in
    two-pow-succ past ∙ sym (ap (λ (k : ℕ). 2 ^ k + 2 ^ k) same)

pub two-halves : (into mid : List AddressBlock) (past addr half : ℕ) (span : Span) → (past ≡ 0 → ⊥) → misses past addr span ≡ false → is_inside past addr span ≡ false
    → half ≡ 2 ^ (past - 1) → mid ≡ into ++ blocks (past - 1) addr span → mid ++ blocks (past - 1) (addr + half) span ≡ into ++ blocks past addr span
two-halves into mid past addr half span some missed is same put =
    ap (λ (k : ℕ). mid ++ blocks (past - 1) (addr + k) span) same
    ∙ ap (λ l. l ++ blocks (past - 1) (addr + 2 ^ (past - 1)) span) put
    ∙ append_assoc into (blocks (past - 1) addr span) (blocks (past - 1) (addr + 2 ^ (past - 1)) span)
    ∙ ap (λ l. into ++ l) (sym (blocks-halved past addr span some missed is))
