use Rattle.std.proofs.Common.{ℕ, Some, None, Option, arith, sym, ap, subst}
use Rattle.std.specs.Prelude.{slice_set, is_some}
use Rattle.prefix_trie.specs.Trie.{AreParts}
use Rattle.prefix_trie.proofs.Entered.{parts-entered, like_given}
use Rattle.prefix_trie.proofs.Likes.{within}
use Rattle.prefix_trie.proofs.ids.enter.Goals as goal

pub make-at-requires-clause-few : goal.make-at-requires-clause-few
make-at-requires-clause-few c = c.requires.parts.1.few

pub make-at-requires-clause-trie : goal.make-at-requires-clause-trie
make-at-requires-clause-trie c = c.requires.parts.1.trie

pub make-at-requires-clause-tops : goal.make-at-requires-clause-tops
make-at-requires-clause-tops c = c.requires.parts.1.tops

pub some-requires : goal.some-requires
some-requires c = let few = c.requires.parts.1.ids_few in let small = c.requires.small in omega arith

pub stand-requires-clause-here : goal.stand-requires-clause-here
stand-requires-clause-here c = ap is_some c.make-at.ensures.made.is

pub some-requires-2 : goal.some-requires-2
some-requires-2 c =
    let fits = within c.make-at.new.nodes c.make-at.result c.make-at.ensures.made.node c.make-at.ensures.made.is in
    let size = c.make-at.auto.nodes in
    let few = c.requires.parts.1.few in
    omega arith

pub returns : goal.returns
returns c routes parts absent fresh =
    let size = c.make-at.auto.nodes in
    let more = c.stand.auto.nodes in
    let few = parts.few in
    subst (λ (place : Option ℕ). AreParts (slice_set routes c.args.id (Some (record { block = c.args.prefix.now; slot = None }))) (slice_set c.args.places.now c.args.id place) c.stand.new.nodes) (sym c.some-2.ensures)
    (parts-entered routes c.args.places.now c.args.nodes.now c.make-at.new.nodes c.stand.new.nodes parts c.args.id c.make-at.result c.args.prefix.now absent fresh c.requires.small
    c.make-at.ensures.entries c.make-at.ensures.made (like_given c.make-at.new.nodes c.stand.new.nodes c.make-at.result c.make-at.ensures.made.node (Some c.args.id) c.some.result None c.none.result c.some.ensures c.none.ensures (c.stand.ensures.like c.make-at.ensures.made.node c.make-at.ensures.made.is)) c.stand.ensures.trie c.stand.ensures.tops (omega arith))
