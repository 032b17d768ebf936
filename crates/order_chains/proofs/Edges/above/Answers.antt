use Rattle.order_chains.proofs.Named.{on_above, partners_above}
use Rattle.order_chains.proofs.Edges.above.Goals as goal

pub new-requires : goal.new-requires
new-requires c = let s = c.self.inside in on_above s.ids s.nodes s.below.items s.above.items c.self.invariant.0 c.args.self.now c.self.view_is c.args.id c.requires c.index.result.now c.index.ensures

pub returns-clause-exact : goal.returns-clause-exact
returns-clause-exact c =
    let s = c.self.inside in
    (partners_above s.ids s.nodes s.below.items s.above.items c.self.invariant.0 c.args.self.now c.self.view_is c.args.id c.requires c.index.result.now c.index.ensures c.new.result c.new.ensures).exact

pub returns-clause-once : goal.returns-clause-once
returns-clause-once c =
    let s = c.self.inside in
    (partners_above s.ids s.nodes s.below.items s.above.items c.self.invariant.0 c.args.self.now c.self.view_is c.args.id c.requires c.index.result.now c.index.ensures c.new.result c.new.ensures).once

pub returns-clause-distinct : goal.returns-clause-distinct
returns-clause-distinct c =
    let s = c.self.inside in
    (partners_above s.ids s.nodes s.below.items s.above.items c.self.invariant.0 c.args.self.now c.self.view_is c.args.id c.requires c.index.result.now c.index.ensures c.new.result c.new.ensures).distinct
