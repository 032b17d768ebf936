use Rattle.std.proofs.Common.{◌≡◌, Some, None, arith, refl, sym, ◌∙◌, ap}
use Rattle.std.specs.Prelude.{slice_index_or, is_some}
use Rattle.prefix_trie.proofs.Parts.{parts-stood, some_in, place_read, id_within}
use Rattle.prefix_trie.proofs.Entered.{like_given}
use Rattle.prefix_trie.proofs.ids.stand_at.Goals as goal

pub returns : goal.returns
returns c routes parts some =
    let place : slice_index_or c.args.places.now c.args.id None ≡ Some c.in-Some.at = place_read c.args.places.now c.args.id c.in-Some.at c.index-places-id.result (id_within routes c.args.places.now c.args.nodes.now parts.held c.args.id some) c.index-places-id.is (sym c.get.ensures ∙ c.in-Some.is) in
    let there = parts.held.some c.args.id c.in-Some.at place in
    parts-stood routes c.args.places.now c.args.nodes.now c.stand.new.nodes parts c.stand.auto.nodes c.args.id c.in-Some.at there.0 c.args.slot place there.1 c.stand.ensures.trie c.stand.ensures.tops (like_given c.args.nodes.now c.stand.new.nodes c.in-Some.at there.0 (Some c.args.id) c.some.result c.args.slot c.args.slot c.some.ensures refl (c.stand.ensures.like there.0 there.1))

pub some-requires : goal.some-requires
some-requires c =
    let few = c.requires.1.ids_few in
    let small = some_in c.args.places.now c.args.id c.in-Some.at (place_read c.args.places.now c.args.id c.in-Some.at c.index-places-id.result (id_within c.requires.0 c.args.places.now c.args.nodes.now c.requires.1.held c.args.id c.requires.2) c.index-places-id.is (sym c.get.ensures ∙ c.in-Some.is)) in
    omega arith

pub stand-requires-clause-here : goal.stand-requires-clause-here
stand-requires-clause-here c = ap is_some (c.requires.1.held.some c.args.id c.in-Some.at (place_read c.args.places.now c.args.id c.in-Some.at c.index-places-id.result (id_within c.requires.0 c.args.places.now c.args.nodes.now c.requires.1.held c.args.id c.requires.2) c.index-places-id.is (sym c.get.ensures ∙ c.in-Some.is))).1
