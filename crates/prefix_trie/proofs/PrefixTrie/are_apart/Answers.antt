use Rattle.std.proofs.Common.{subst}
use Rattle.std.specs.Prelude.{length}
use Rattle.prefix_trie.specs.Changes.{routes_after}
use Rattle.prefix_trie.specs.Routes.{AreApart}
use Rattle.prefix_trie.proofs.Parts.{own_of}
use Rattle.prefix_trie.proofs.PrefixTrie.are_apart.Goals as goal

pub returns : goal.returns
returns c = subst AreApart c.self.view_is (own_of (routes_after (length c.self.inside.places.items) c.self.inside.history.items) c.self.inside.places.items c.self.inside.nodes.items c.self.invariant.trie c.self.invariant.held)
