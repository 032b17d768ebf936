-- Changes that a script of an access list over IPv4 could ask for.
use Rattle.std.specs.Prelude.{◌≡◌, ℕ, ◌^◌, ◌<◌}
use Rattle.rule_model.specs.declared.Rule.{Rule}
use Rattle.rule_model.specs.AddressBlock.{IsIpv4Block}
use Rattle.rule_model.specs.Rank.{list_rank}
use Rattle.rule_model.specs.Rule.{HasConditions}
use Rattle.rule_store.specs.declared.Command.{Command}
use Rattle.rule_store.specs.declared.Command.TheVariants.{Add, Set, Del}
use Rattle.rule_gen.specs.declared.Made.{Made}
use Rattle.rule_gen.specs.declared.Made.TheVariants.{Change, Commit}

-- the priority of a line: its sequence number is from 1 and has 32 bits
abbrev pub IsListRank : ℕ → Type 0
IsListRank rank = (sequence : ℕ) × (0 < sequence) × (sequence < 2 ^ 32) × (rank ≡ list_rank sequence)

-- a line: right conditions on IPv4 addresses, and a result that denies or permits
pub record IsListRule (rule : Rule) : Type 0 where
  pub rank : IsListRank rule.priority
  pub conditions : HasConditions rule
  pub src_ipv4 : IsIpv4Block rule.src
  pub dst_ipv4 : IsIpv4Block rule.dst
  pub answer : rule.result < 2

-- a change of lines
abbrev pub IsListChange : Command → Type 0
IsListChange (Add rule) = IsListRule rule
IsListChange (Set rank answer) = IsListRank rank × (answer < 2)
IsListChange (Del rank) = IsListRank rank

-- such a change, or a commit
abbrev pub IsListCommand : Made → Type 0
IsListCommand (Change change) = IsListChange change
IsListCommand Commit = Unit {0}
