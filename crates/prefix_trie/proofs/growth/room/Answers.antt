use Rattle.prefix_trie.proofs.Rooms.{same-like}
use Rattle.prefix_trie.proofs.growth.room.Goals as goal

pub returns-in-Some-clause-like : goal.returns-in-Some-clause-like
returns-in-Some-clause-like c = same-like c.args.nodes.now.items
