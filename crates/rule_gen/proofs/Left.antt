-- The commands still to come, one command after another.
use Rattle.std.proofs.Common.{◌≡◌, ℕ, zero, suc, ◌+◌, ◌-◌, ◌*◌, ◌<◌, ◌≤◌, false, List, [], ◌∷◌, ◌++◌, map, flat_map, if◌then◌else◌, ◌==◌, append_assoc, refl, sym, ◌∙◌, ap, ap₂, arith}
use Rattle.std.specs.List.{range_with_len}
use Rattle.std.proofs.lemmas.Bool.{false_from_ne_true, eqb-true}
use Rattle.rule_model.specs.Rank.{list_rank}
use Rattle.rule_store.specs.declared.Command.TheVariants.{Add, Del}
use Rattle.rule_gen.specs.declared.Made.{Made}
use Rattle.rule_gen.specs.declared.Made.TheVariants.{Change, Commit}
use Rattle.rule_gen.specs.Made.{draw_state, rule_from, made_sequence, made_rule, made_removals, made_additions, made_batch, made_commands}
use Rattle.rule_gen.specs.Rest.{removals_from, additions_from, batches_from, commands_left}
use Rattle.rule_gen.proofs.States.{state_after-add, rule_from-add}

-- a batch by how many of its removals and additions are left
abbrev parts : ℕ → ℕ → ℕ → ℕ → ℕ → ℕ → ℕ → ℕ → ℕ → List Made
parts state rules batch removed added later removals additions after =
    removals_from (batch - 1) (removed + 1) removals ++ additions_from state batch (added + 1) additions
    ++ Commit ∷ batches_from after rules (batch + 1) later

-- a removal comes while there is one
pub commands_left-removal : (state rules batch left removed added : ℕ) → 0 < left → removed < rules
    → commands_left state rules batch left removed added
    ≡ Change (Del (list_rank (made_sequence (batch - 1) (removed + 1)))) ∷ commands_left state rules batch left (removed + 1) added
unfolding commands_left removals_from
commands_left-removal state rules batch zero removed added some more = absurd (omega arith)
commands_left-removal state rules batch (suc later) removed added some more =
    let fewer : rules - removed ≡ suc (rules - (removed + 1)) = omega arith in
    ap (λ n. parts state rules batch removed added later n (rules - added) (draw_state state (6 * (rules - added)))) fewer

-- then an addition
pub commands_left-addition : (state rules batch left removed added : ℕ) → 0 < left → rules ≤ removed → added < rules
    → commands_left state rules batch left removed added
    ≡ Change (Add (rule_from state 0 (made_sequence batch (added + 1)))) ∷ commands_left (draw_state state 6) rules batch left removed (added + 1)
unfolding commands_left removals_from additions_from
commands_left-addition state rules batch zero removed added some none more = absurd (omega arith)
commands_left-addition state rules batch (suc later) removed added some none more =
    let no_removal : rules - removed ≡ zero = omega arith in
    let fewer : rules - added ≡ suc (rules - (added + 1)) = omega arith in
    let draws : 6 * (rules - added) ≡ 6 + 6 * (rules - (added + 1)) = omega arith in
    let drawn : draw_state state (6 * (rules - added)) ≡ draw_state (draw_state state 6) (6 * (rules - (added + 1))) =
    ap (draw_state state) draws ∙ sym (state_after-add state 6 (6 * (rules - (added + 1)))) in
    ap (λ n. parts state rules batch removed added later n (rules - added) (draw_state state (6 * (rules - added)))) no_removal
    ∙ ap₂ (λ n after. parts state rules batch removed added later 0 n after) fewer drawn
    ∙ ap (λ n. Change (Add (rule_from state 0 (made_sequence batch (added + 1)))) ∷ parts (draw_state state 6) rules batch removed (added + 1) later n
    (rules - (added + 1)) (draw_state (draw_state state 6) (6 * (rules - (added + 1))))) (sym no_removal)

-- a whole batch is left
batches_from-left : (state rules batch later : ℕ) → batches_from state rules batch later ≡ commands_left state rules batch later 0 0
unfolding commands_left batches_from
batches_from-left state rules batch zero = refl
batches_from-left state rules batch (suc later) =
    let whole : rules ≡ rules - 0 = omega arith in
    ap (λ n. parts state rules batch 0 0 later n n (draw_state state (6 * n))) whole

-- then the commit
pub commands_left-commit : (state rules batch left later removed added : ℕ) → left ≡ suc later → rules ≤ removed → rules ≤ added
    → commands_left state rules batch left removed added ≡ Commit ∷ commands_left state rules (batch + 1) later 0 0
unfolding commands_left removals_from additions_from
commands_left-commit state rules batch zero later removed added some none none' = absurd (omega arith)
commands_left-commit state rules batch (suc left) later removed added some none none' =
    let no_removal : rules - removed ≡ zero = omega arith in
    let no_addition : rules - added ≡ zero = omega arith in
    let same : left ≡ later = omega arith in
    ap₂ (λ n m. parts state rules batch removed added left n m (draw_state state (6 * m))) no_removal no_addition
    ∙ ap (λ z. Commit ∷ z) (batches_from-left state rules (batch + 1) left ∙ ap (λ n. commands_left state rules (batch + 1) n 0 0) same)

-- behind the last batch there is nothing
pub commands_left-none : (state rules batch left removed added : ℕ) → left ≡ 0 → commands_left state rules batch left removed added ≡ []
unfolding commands_left
commands_left-none state rules batch left removed added none = ap (λ n. commands_left state rules batch n removed added) none

-- the additions are those of the batch
additions_from-made : (seed rules batch index count n : ℕ) → 0 < index → n ≡ 6 * ((batch - 1) * rules + (index - 1))
    → additions_from (draw_state seed n) batch index count ≡ map (λ i. Change (Add (made_rule seed rules batch i))) (range_with_len index count)
unfolding additions_from
additions_from-made seed rules batch index zero n some at = refl
additions_from-made seed rules batch index (suc count) n some at =
    let rule : rule_from (draw_state seed n) 0 (made_sequence batch index) ≡ made_rule seed rules batch index =
    rule_from-add seed n (made_sequence batch index) ∙ ap (λ z. rule_from seed z (made_sequence batch index)) at in
    let drawn = ap (λ z. additions_from z batch (index + 1) count) (state_after-add seed n 6) in
    let rest = additions_from-made seed rules batch (index + 1) count (n + 6) (omega arith) (omega arith) in
    ap₂ (λ r rs. Change (Add r) ∷ rs) rule (drawn ∙ rest)

-- the removals are those of the batch before
removals_from-made : (rules batch : ℕ) → 1 < batch → removals_from (batch - 1) 1 rules ≡ made_removals rules batch
unfolding removals_from
removals_from-made rules batch later =
    let other : (batch == 1) ≡ false = false_from_ne_true _ (λ same. let e = eqb-true batch 1 same in omega arith) in
    sym (ap (λ b. if b then [] else map (λ i. Change (Del (list_rank (made_sequence (batch - 1) i)))) (range_with_len 1 rules)) other)

-- the batches behind the first are those of the list
batches_from-made : (seed rules batch count n : ℕ) → 1 < batch → n ≡ 6 * ((batch - 1) * rules)
    → batches_from (draw_state seed n) rules batch count ≡ flat_map (made_batch seed rules) (range_with_len batch count)
unfolding batches_from
batches_from-made seed rules batch zero n later at = refl
batches_from-made seed rules batch (suc count) n later at =
    let next : batch + 1 - 1 ≡ batch - 1 + 1 = omega arith in
    let more : (batch + 1 - 1) * rules ≡ (batch - 1 + 1) * rules = ap (λ z. z * rules) next in
    let additions = additions_from-made seed rules batch 1 rules n (omega arith) (omega arith) in
    let drawn = ap (λ z. batches_from z rules (batch + 1) count) (state_after-add seed n (6 * rules)) in
    let rest = batches_from-made seed rules (batch + 1) count (n + 6 * rules) (omega arith) (omega arith) in
    ap₂ (λ r a. r ++ a ++ Commit ∷ batches_from (draw_state (draw_state seed n) (6 * rules)) rules (batch + 1) count)
    (removals_from-made rules batch later) additions
    ∙ ap (λ z. made_removals rules batch ++ made_additions seed rules batch ++ Commit ∷ z) (drawn ∙ rest)
    ∙ sym (append_assoc (made_removals rules batch ++ made_additions seed rules batch) (Commit ∷ []) _)

-- before the first command all of them are left
pub commands_left-all : (seed rules batches left : ℕ) → left ≡ batches → commands_left seed rules 1 left rules 0 ≡ made_commands seed rules batches
unfolding commands_left removals_from
commands_left-all seed rules batches zero all = ap (made_commands seed rules) all
commands_left-all seed rules batches (suc later) all =
    let no_removal : rules - rules ≡ zero = omega arith in
    let whole : rules - 0 ≡ rules = omega arith in
    let additions = additions_from-made seed rules 1 1 rules 0 (omega arith) (omega arith) in
    let rest = batches_from-made seed rules 2 later (6 * rules) (omega arith) (omega arith) in
    ap₂ (λ n m. parts seed rules 1 rules 0 later n m (draw_state seed (6 * m))) no_removal whole
    ∙ ap₂ (λ a z. a ++ Commit ∷ z) additions rest
    ∙ sym (append_assoc (made_additions seed rules 1) (Commit ∷ []) _)
    ∙ ap (made_commands seed rules) all
