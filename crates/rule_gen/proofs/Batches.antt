-- The commands are batches, each ended by a commit.
use Rattle.std.proofs.Common.{◌≡◌, ℕ, zero, suc, ◌+◌, ◌-◌, ◌*◌, ◌≤◌, Bool, true, false, List, [], ◌∷◌, ◌++◌, map, flat_map, if◌then◌else◌, ◌==◌, length, append_assoc, length-append, refl, sym, ◌∙◌, ap, subst, arith}
use Rattle.std.specs.List.{range_with_len}
use Rattle.rule_model.specs.Rank.{list_rank}
use Rattle.rule_store.specs.declared.Command.{Command}
use Rattle.rule_store.specs.declared.Command.TheVariants.{Add, Del}
use Rattle.rule_gen.specs.declared.Made.{Made}
use Rattle.rule_gen.specs.declared.Made.TheVariants.{Change, Commit}
use Rattle.rule_gen.specs.Batches.{AreBatches}
use Rattle.rule_gen.specs.Made.{made_sequence, made_rule, made_removals, made_additions, made_batch, made_commands}

-- changes for which there is room
with_changes : (most come : ℕ) (f : ℕ → Command) (a n : ℕ) (rest : List Made) → come + n ≤ most → AreBatches most (come + n) rest
    → AreBatches most come (map (λ i. Change (f i)) (range_with_len a n) ++ rest)
with_changes most come f a zero rest room behind =
    let none : come + 0 ≡ come = omega arith in
    subst (λ z. AreBatches most z rest) none behind
with_changes most come f a (suc n) rest room behind =
    let one : come + suc n ≡ come + 1 + n = omega arith in
    (omega arith, with_changes most (come + 1) f (a + 1) n rest (omega arith) (subst (λ z. AreBatches most z rest) one behind))

-- the changes of a batch, whether or not it removes rules
with_batch : (seed rules batch : ℕ) (first : Bool) (rest : List Made) → AreBatches (2 * rules) 0 rest
    → AreBatches (2 * rules) 0
    ((if first then [] else map (λ i. Change (Del (list_rank (made_sequence (batch - 1) i)))) (range_with_len 1 rules))
    ++ (made_additions seed rules batch ++ Commit ∷ rest))
with_batch seed rules batch true rest behind =
    with_changes (2 * rules) 0 (λ i. Add (made_rule seed rules batch i)) 1 rules (Commit ∷ rest) (omega arith) behind
with_batch seed rules batch false rest behind =
    with_changes (2 * rules) 0 (λ i. Del (list_rank (made_sequence (batch - 1) i))) 1 rules (made_additions seed rules batch ++ Commit ∷ rest) (omega arith)
    (with_changes (2 * rules) (0 + rules) (λ i. Add (made_rule seed rules batch i)) 1 rules (Commit ∷ rest) (omega arith) behind)

batches_in_range : (seed rules a n : ℕ) → AreBatches (2 * rules) 0 (flat_map (made_batch seed rules) (range_with_len a n))
batches_in_range seed rules a zero = refl
batches_in_range seed rules a (suc n) =
    let rest = flat_map (made_batch seed rules) (range_with_len (a + 1) n) in
    let whole : made_batch seed rules a ++ rest ≡ made_removals rules a ++ (made_additions seed rules a ++ Commit ∷ rest) =
    append_assoc (made_removals rules a ++ made_additions seed rules a) (Commit ∷ []) rest
    ∙ append_assoc (made_removals rules a) (made_additions seed rules a) (Commit ∷ rest) in
    subst (AreBatches (2 * rules) 0) (sym whole) (with_batch seed rules a (a == 1) rest (batches_in_range seed rules (a + 1) n))

-- each batch has at most a removal and an addition for each of its rules
pub made_commands-batches : (seed rules batches : ℕ) → AreBatches (2 * rules) 0 (made_commands seed rules batches)
made_commands-batches seed rules batches = batches_in_range seed rules 1 batches

-- ---- how many there are

range-length : (f : ℕ → Made) (a n : ℕ) → length (map f (range_with_len a n)) ≡ n
range-length f a zero = refl
range-length f a (suc n) = ap suc (range-length f (a + 1) n)

removals-few : (first : Bool) (rules batch : ℕ) → length (if first then [] else map (λ i. Change (Del (list_rank (made_sequence (batch - 1) i)))) (range_with_len 1 rules)) ≤ rules
removals-few true rules batch = omega arith
removals-few false rules batch =
    let all = range-length (λ i. Change (Del (list_rank (made_sequence (batch - 1) i)))) 1 rules in
    omega (arith, all)

batch-few : (seed rules batch : ℕ) → rules ≤ 256 → length (made_batch seed rules batch) ≤ 513
batch-few seed rules batch most =
    let removals = removals-few (batch == 1) rules batch in
    let additions = range-length (λ i. Change (Add (made_rule seed rules batch i))) 1 rules in
    let both = length-append (made_removals rules batch) (made_additions seed rules batch) in
    let all = length-append (made_removals rules batch ++ made_additions seed rules batch) (Commit ∷ []) in
    omega (arith, removals, additions, both, all)

range-few : (seed rules a n : ℕ) → rules ≤ 256 → length (flat_map (made_batch seed rules) (range_with_len a n)) ≤ 513 * n
range-few seed rules a zero most = omega arith
range-few seed rules a (suc n) most =
    let first = batch-few seed rules a most in
    let rest = range-few seed rules (a + 1) n most in
    let both = length-append (made_batch seed rules a) (flat_map (made_batch seed rules) (range_with_len (a + 1) n)) in
    omega (arith, first, rest, both)

-- at most 513 for each batch
pub made_commands-few : (seed rules batches : ℕ) → rules ≤ 256 → length (made_commands seed rules batches) ≤ 513 * batches
made_commands-few seed rules batches most = range-few seed rules 1 batches most
