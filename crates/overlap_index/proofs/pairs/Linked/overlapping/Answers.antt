use Rattle.std.proofs.Common.{List, ℕ, subst}
use Rattle.std.proofs.lemmas.Result.{IfOk-weaker}
use Rattle.overlap_index.specs.declared.scan.Side.TheVariants.{Above, Below}
use Rattle.overlap_index.specs.Sides.{AreAmong}
use Rattle.overlap_index.proofs.Linked.{on_found}
use Rattle.overlap_index.proofs.Known.{on_among, walk_of, walked_all}
use Rattle.overlap_index.proofs.pairs.Linked.overlapping.Goals as goal

pub overlapping-requires : goal.overlapping-requires
overlapping-requires c = c.requires.3.beside

pub returns-in-None-clause-above : goal.returns-in-None-clause-above
returns-in-None-clause-above c = IfOk-weaker c.overlapping.result _ _ (λ found is ids live coming paired.
    on_found Above c.args.of.now ids live c.args.pieces.now c.args.places.now found.above.items coming.most coming.apart coming.table is) c.overlapping.ensures.above

pub returns-in-None-clause-below : goal.returns-in-None-clause-below
returns-in-None-clause-below c = IfOk-weaker c.overlapping.result _ _ (λ found is ids live coming paired.
    on_found Below c.args.of.now ids live c.args.pieces.now c.args.places.now found.below.items coming.most coming.apart coming.table is) c.overlapping.ensures.below

pub among-requires : goal.among-requires
among-requires c =
    let known = c.args.self.now.destinations in
    let block = c.args.of.now.piece.dst in
    let walked = walk_of known block c.in_ok-walked.walked c.in-Some.ids c.in-Some.is c.in_ok-walked.ensures in (
      c.requires.0,
      c.requires.1,
      c.requires.2,
      walked_all c.requires.0 c.requires.1 known block c.in-Some.ids.items c.deref.result.now c.deref.ensures.value c.requires.3.known walked,
    )

pub returns-in-Some-clause-above : goal.returns-in-Some-clause-above
returns-in-Some-clause-above c =
    let known = c.args.self.now.destinations in
    let block = c.args.of.now.piece.dst in
    let walked = walk_of known block c.in_ok-walked.walked c.in-Some.ids c.in-Some.is c.in_ok-walked.ensures in
    IfOk-weaker c.among.result _ _ (λ found is ids live coming paired.
    on_among Above c.args.of.now ids live known c.in-Some.ids.items found.above.items found.below.items coming.most coming.apart paired.known walked
    (subst (λ (xs : List ℕ). AreAmong c.args.of.now live xs found.above.items found.below.items) c.deref.ensures.value
    (is ids live coming (walked_all ids live known block c.in-Some.ids.items c.deref.result.now c.deref.ensures.value paired.known walked)))) c.among.ensures

pub returns-in-Some-clause-below : goal.returns-in-Some-clause-below
returns-in-Some-clause-below c =
    let known = c.args.self.now.destinations in
    let block = c.args.of.now.piece.dst in
    let walked = walk_of known block c.in_ok-walked.walked c.in-Some.ids c.in-Some.is c.in_ok-walked.ensures in
    IfOk-weaker c.among.result _ _ (λ found is ids live coming paired.
    on_among Below c.args.of.now ids live known c.in-Some.ids.items found.above.items found.below.items coming.most coming.apart paired.known walked
    (subst (λ (xs : List ℕ). AreAmong c.args.of.now live xs found.above.items found.below.items) c.deref.ensures.value
    (is ids live coming (walked_all ids live known block c.in-Some.ids.items c.deref.result.now c.deref.ensures.value paired.known walked)))) c.among.ensures

pub returns-in-None-clause-few_above : goal.returns-in-None-clause-few_above
returns-in-None-clause-few_above c = IfOk-weaker c.overlapping.result _ _ (λ found is.
    (on_found Above c.args.of.now c.requires.0 c.requires.1 c.args.pieces.now c.args.places.now found.above.items c.requires.2.most c.requires.2.apart c.requires.2.table is).most) c.overlapping.ensures.above

pub returns-in-Some-clause-few_above : goal.returns-in-Some-clause-few_above
returns-in-Some-clause-few_above c =
    let known = c.args.self.now.destinations in
    let block = c.args.of.now.piece.dst in
    let walked = walk_of known block c.in_ok-walked.walked c.in-Some.ids c.in-Some.is c.in_ok-walked.ensures in
    let all = walked_all c.requires.0 c.requires.1 known block c.in-Some.ids.items c.deref.result.now c.deref.ensures.value c.requires.3.known walked in
    IfOk-weaker c.among.result _ _ (λ found is.
    (on_among Above c.args.of.now c.requires.0 c.requires.1 known c.in-Some.ids.items found.above.items found.below.items c.requires.2.most c.requires.2.apart c.requires.3.known walked
    (subst (λ (xs : List ℕ). AreAmong c.args.of.now c.requires.1 xs found.above.items found.below.items) c.deref.ensures.value (is c.requires.0 c.requires.1 c.requires.2 all))).most) c.among.ensures

pub returns-in-None-clause-few_below : goal.returns-in-None-clause-few_below
returns-in-None-clause-few_below c = IfOk-weaker c.overlapping.result _ _ (λ found is.
    (on_found Below c.args.of.now c.requires.0 c.requires.1 c.args.pieces.now c.args.places.now found.below.items c.requires.2.most c.requires.2.apart c.requires.2.table is).most) c.overlapping.ensures.below

pub returns-in-Some-clause-few_below : goal.returns-in-Some-clause-few_below
returns-in-Some-clause-few_below c =
    let known = c.args.self.now.destinations in
    let block = c.args.of.now.piece.dst in
    let walked = walk_of known block c.in_ok-walked.walked c.in-Some.ids c.in-Some.is c.in_ok-walked.ensures in
    let all = walked_all c.requires.0 c.requires.1 known block c.in-Some.ids.items c.deref.result.now c.deref.ensures.value c.requires.3.known walked in
    IfOk-weaker c.among.result _ _ (λ found is.
    (on_among Below c.args.of.now c.requires.0 c.requires.1 known c.in-Some.ids.items found.above.items found.below.items c.requires.2.most c.requires.2.apart c.requires.3.known walked
    (subst (λ (xs : List ℕ). AreAmong c.args.of.now c.requires.1 xs found.above.items found.below.items) c.deref.ensures.value (is c.requires.0 c.requires.1 c.requires.2 all))).most) c.among.ensures
