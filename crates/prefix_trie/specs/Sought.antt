-- What is looked for on the way up a trie.
use Rattle.std.specs.Prelude.{ℕ, Option}
use Rattle.prefix_trie.specs.declared.node.Node.{Node}
use Rattle.prefix_trie.specs.declared.search.Sought.{Sought}
use Rattle.prefix_trie.specs.declared.search.Sought.TheVariants.{Slot, Id}

abbrev pub part_of : Sought → Node → Option ℕ
part_of Slot node = node.slot
part_of Id node = node.id
