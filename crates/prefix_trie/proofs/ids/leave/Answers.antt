use Rattle.std.proofs.Common.{ℕ, None, Option, arith, sym, ◌∙◌, ap, subst}
use Rattle.std.specs.Prelude.{slice_set, is_some}
use Rattle.prefix_trie.specs.Nodes.{with_entry}
use Rattle.prefix_trie.specs.Trie.{AreParts}
use Rattle.prefix_trie.proofs.Entered.{parts-left, bare_left, here_left, like_given}
use Rattle.prefix_trie.proofs.Parts.{place_read, id_within}
use Rattle.prefix_trie.proofs.ids.leave.Goals as goal

pub stand-requires-clause-here : goal.stand-requires-clause-here
stand-requires-clause-here c = ap is_some (c.requires.1.held.some c.args.id c.in-Some.at (place_read c.args.places.now c.args.id c.in-Some.at c.index-places-id.result (id_within c.requires.0 c.args.places.now c.args.nodes.now c.requires.1.held c.args.id c.requires.2) c.index-places-id.is (sym c.get.ensures ∙ c.in-Some.is))).1

pub prune-requires-clause-few : goal.prune-requires-clause-few
prune-requires-clause-few c = let size = c.stand.auto.nodes in let few = c.requires.1.few in omega arith

pub prune-requires-clause-bare : goal.prune-requires-clause-bare
prune-requires-clause-bare c =
    let there = c.requires.1.held.some c.args.id c.in-Some.at (place_read c.args.places.now c.args.id c.in-Some.at c.index-places-id.result (id_within c.requires.0 c.args.places.now c.args.nodes.now c.requires.1.held c.args.id c.requires.2) c.index-places-id.is (sym c.get.ensures ∙ c.in-Some.is)) in
    bare_left c.requires.0 c.args.places.now c.args.nodes.now c.stand.new.nodes c.requires.1 c.args.id c.in-Some.at there.0 (place_read c.args.places.now c.args.id c.in-Some.at c.index-places-id.result (id_within c.requires.0 c.args.places.now c.args.nodes.now c.requires.1.held c.args.id c.requires.2) c.index-places-id.is (sym c.get.ensures ∙ c.in-Some.is)) there.1
    (like_given c.args.nodes.now c.stand.new.nodes c.in-Some.at there.0 None c.none.result None c.none-2.result c.none.ensures c.none-2.ensures (c.stand.ensures.like there.0 there.1))

pub prune-requires-clause-here : goal.prune-requires-clause-here
prune-requires-clause-here c =
    let there = c.requires.1.held.some c.args.id c.in-Some.at (place_read c.args.places.now c.args.id c.in-Some.at c.index-places-id.result (id_within c.requires.0 c.args.places.now c.args.nodes.now c.requires.1.held c.args.id c.requires.2) c.index-places-id.is (sym c.get.ensures ∙ c.in-Some.is)) in
    here_left c.args.nodes.now c.stand.new.nodes c.in-Some.at there.0 (with_entry there.0 None None) there.1 (like_given c.args.nodes.now c.stand.new.nodes c.in-Some.at there.0 None c.none.result None c.none-2.result c.none.ensures c.none-2.ensures (c.stand.ensures.like there.0 there.1))

pub returns : goal.returns
returns c routes parts some =
    let there = parts.held.some c.args.id c.in-Some.at (place_read c.args.places.now c.args.id c.in-Some.at c.index-places-id.result (id_within routes c.args.places.now c.args.nodes.now parts.held c.args.id some) c.index-places-id.is (sym c.get.ensures ∙ c.in-Some.is)) in
    let size = c.stand.auto.nodes in
    let more = c.prune.auto.nodes in
    let few = parts.few in
    subst (λ (place : Option ℕ). AreParts (slice_set routes c.args.id None) (slice_set c.args.places.now c.args.id place) c.prune.new.nodes) (sym c.none-3.ensures)
    (parts-left routes c.args.places.now c.args.nodes.now c.stand.new.nodes c.prune.new.nodes parts c.args.id c.in-Some.at there.0 (place_read c.args.places.now c.args.id c.in-Some.at c.index-places-id.result (id_within routes c.args.places.now c.args.nodes.now parts.held c.args.id some) c.index-places-id.is (sym c.get.ensures ∙ c.in-Some.is)) there.1
    (like_given c.args.nodes.now c.stand.new.nodes c.in-Some.at there.0 None c.none.result None c.none-2.result c.none.ensures c.none-2.ensures (c.stand.ensures.like there.0 there.1)) c.prune.ensures.entries c.prune.ensures.trie c.prune.ensures.tops (omega arith))
