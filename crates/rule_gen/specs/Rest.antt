-- The commands still to come, from the state of the generator and from how far they have come.
use Rattle.std.specs.Prelude.{ℕ, zero, suc, ◌+◌, ◌-◌, ◌*◌, ◌≤◌, List, [], ◌∷◌, ◌++◌, map}
use Rattle.std.specs.List.{range_with_len}
use Rattle.rule_model.specs.Rank.{list_rank}
use Rattle.rule_store.specs.declared.Command.TheVariants.{Add, Del}
use Rattle.rule_gen.specs.declared.Made.{Made}
use Rattle.rule_gen.specs.declared.Made.TheVariants.{Change, Commit}
use Rattle.rule_gen.specs.Made.{draw_state, rule_from, made_sequence}

-- the removals of so many rules of a batch, from an index on
unfoldable pub removals_from : ℕ → ℕ → ℕ → List Made
removals_from batch index count = map (λ i. Change (Del (list_rank (made_sequence batch i)))) (range_with_len index count)

-- the additions of so many rules of a batch, from an index on, in this state of the generator
unfoldable pub additions_from : ℕ → ℕ → ℕ → ℕ → List Made
additions_from state batch index zero = []
additions_from state batch index (suc count) =
    Change (Add (rule_from state 0 (made_sequence batch index))) ∷ additions_from (draw_state state 6) batch (index + 1) count

-- so many batches of so many rules, from a batch on that has one before it, in this state of the generator
unfoldable pub batches_from : ℕ → ℕ → ℕ → ℕ → List Made
batches_from state rules batch zero = []
batches_from state rules batch (suc later) =
    removals_from (batch - 1) 1 rules ++ additions_from state batch 1 rules
    ++ Commit ∷ batches_from (draw_state state (6 * rules)) rules (batch + 1) later

-- what is left of so many batches, of the first of which some removals and some additions have come
unfoldable pub commands_left : ℕ → ℕ → ℕ → ℕ → ℕ → ℕ → List Made
commands_left state rules batch zero removed added = []
commands_left state rules batch (suc later) removed added =
    removals_from (batch - 1) (removed + 1) (rules - removed) ++ additions_from state batch (added + 1) (rules - added)
    ++ Commit ∷ batches_from (draw_state state (6 * (rules - added))) rules (batch + 1) later

-- how far the commands have come: the batch is numbered from 1, and is one past the last behind them all
pub record AreCounters (rules batches batch removed added : ℕ) : Type 0 where
  pub most_rules : rules ≤ 256
  pub most_batches : batches ≤ 64
  pub first : 1 ≤ batch
  pub last : batch ≤ batches + 1
  pub removals : removed ≤ rules
  pub additions : added ≤ rules
