use Rattle.std.proofs.Common.{arith}
use Rattle.prefix_trie.proofs.Made.{entries-trans}
use Rattle.prefix_trie.proofs.growth.prune.Goals as goal

pub detach-requires-2-clause-few : goal.detach-requires-2-clause-few
detach-requires-2-clause-few c = let size = c.detach.auto.nodes in let few = c.requires.few in omega arith

pub detach-requires-2-clause-bare : goal.detach-requires-2-clause-bare
detach-requires-2-clause-bare c = c.detach.ensures.entries.bare c.requires.bare

pub returns-then-is_none-clause-entries : goal.returns-then-is_none-clause-entries
returns-then-is_none-clause-entries c = entries-trans c.args.nodes.now c.detach.new.nodes c.detach-2.new.nodes c.detach.ensures.entries c.detach-2.ensures.entries

pub returns-clause-entries : goal.returns-clause-entries
returns-clause-entries c = entries-trans c.args.nodes.now c.detach.new.nodes c.detach-2.new.nodes c.detach.ensures.entries c.detach-2.ensures.entries
