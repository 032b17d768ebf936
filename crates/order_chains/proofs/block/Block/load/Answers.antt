use Rattle.std.proofs.Common.{◌<◌, sym, subst, length}
use Rattle.order_chains.specs.Nodes.{no_node}
use Rattle.order_chains.specs.Whole.{somes}
use Rattle.order_chains.proofs.Filled.{full_at}
use Rattle.order_chains.proofs.block.Block.load.Goals as goal

pub get-requires : goal.get-requires
get-requires c =
    let l : c.args.at < length (somes c.self.inside.places.nodes) = subst (λ z. c.args.at < length z) (sym c.self.view_is) c.requires in
    (_, full_at c.self.inside.places.nodes c.args.at no_node c.self.invariant.full l)
