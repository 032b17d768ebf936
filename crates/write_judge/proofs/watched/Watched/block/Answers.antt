use Rattle.std.proofs.Common.{List, Option, drop, length, subst, sym, take}
use Rattle.std.specs.Prelude.{◌≡◌, ◌+◌, ◌≤◌, IfOk}
use Rattle.rule_model.specs.declared.words.Entry.{Entry}
use Rattle.write_judge.proofs.watched.Watched.block.Goals as goal

pub block_of-requires : goal.block_of-requires
block_of-requires c = subst (λ (slots : List (Option Entry)). c.args.from + c.args.count ≤ length slots) (sym c.held-slots.ensures) c.requires

pub returns : goal.returns
returns c = subst (λ (slots : List (Option Entry)). IfOk c.block_of.result (λ block. block.items ≡ take c.args.count (drop c.args.from slots))) c.held-slots.ensures c.block_of.ensures
