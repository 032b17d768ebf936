use Rattle.std.proofs.Common.{◌<◌, ℕ, List, get_or, arith, subst, sym, take_all}
use Rattle.std.proofs.lemmas.List.Elements.{Contains-get_or}
use Rattle.overlap_index.specs.Sides.{AreAmong}
use Rattle.overlap_index.proofs.Among.{among_none, among_more}
use Rattle.overlap_index.proofs.Linked.{live_small}
use Rattle.overlap_index.proofs.Placed.{found_there, stands_at}
use Rattle.overlap_index.proofs.pairs.among.Goals as goal

pub loop-id-init : goal.loop-id-init
loop-id-init c slots live coming all = among_none c.args.of.now _ _ _ c.new.ensures.items c.new-2.ensures.items

pub bounds-places-id : goal.bounds-places-id
bounds-places-id c =
    let ids = c.args.ids.now in
    let at = c.loop-id.id-index in
    let has = c.requires.3 (get_or ids at 0) (Contains-get_or ids at 0 (omega arith)) in
    subst (λ n. get_or ids at 0 < n) (sym c.requires.2.table.many) (live_small c.requires.0 c.requires.1 (get_or ids at 0) c.requires.2.apart has)

pub bounds-pieces-place : goal.bounds-pieces-place
bounds-pieces-place c =
    let ids = c.args.ids.now in
    let at = c.loop-id.id-index in
    let has = c.requires.3 (get_or ids at 0) (Contains-get_or ids at 0 (omega arith)) in
    (stands_at c.requires.0 (get_or ids at 0) c.requires.1 c.args.pieces.now c.args.places.now c.requires.2.table has).inside

pub loop-id-preserved : goal.loop-id-preserved
loop-id-preserved c slots live coming all =
    let ids = c.args.ids.now in
    let at = c.loop-id.id-index in
    let one = c.index-pieces-place.result in
    let has = all (get_or ids at 0) (Contains-get_or ids at 0 (omega arith)) in
    let there = found_there slots (get_or ids at 0) live c.args.pieces.now c.args.places.now one coming.table has c.index-pieces-place.is in
    among_more c.args.of.now one live ids at c.loop-id.found.above.items c.loop-id.found.below.items _ _ (omega arith) there.has there.named c.in_ok-put.ensures.above c.in_ok-put.ensures.below
    (c.loop-id.invariant slots live coming all)

pub returns : goal.returns
returns c slots live coming all =
    subst (λ (xs : List ℕ). AreAmong c.args.of.now live xs c.loop-id.found.above.items c.loop-id.found.below.items) (take_all c.loop-id.id-index c.args.ids.now (omega arith)) (c.loop-id.invariant slots live coming all)
