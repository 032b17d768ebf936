use Rattle.std.proofs.Common.{◌<◌, sym, subst}
use Rattle.overlap_index.proofs.Known.{route_present}
use Rattle.overlap_index.proofs.Linked.{live_small}
use Rattle.overlap_index.proofs.Paired.{paired_less}
use Rattle.overlap_index.proofs.Rows.{columns_size}
use Rattle.overlap_index.proofs.pairs.Linked.less.Goals as goal

pub remove-requires : goal.remove-requires
remove-requires c = subst (λ n. c.args.place < n) (sym (columns_size c.requires.2 c.args.self.now.columns c.requires.4.beside)) c.requires.3.inside

pub drop_node-requires : goal.drop_node-requires
drop_node-requires c = subst (λ n. c.args.id < n) (sym c.requires.4.nodes) (live_small c.requires.0 c.requires.1 c.args.id c.requires.3.apart c.requires.3.present)

pub leave-requires : goal.leave-requires
leave-requires c routes is = route_present c.requires.0 c.requires.1 routes (c.requires.4.known routes is) c.args.id c.requires.3.present

-- the last piece takes the place of the one that goes
pub returns : goal.returns
returns c ids live pieces none going paired =
    paired_less ids c.args.id c.args.place live pieces none c.args.self.now _ going c.remove.ensures c.drop_node.ensures.gone c.drop_node.ensures.ids c.leave.ensures.gone paired
