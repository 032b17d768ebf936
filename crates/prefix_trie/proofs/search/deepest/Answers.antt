use Rattle.std.proofs.Common.{arith}
use Rattle.prefix_trie.proofs.Halves.{covers-any}
use Rattle.prefix_trie.proofs.Ways.{len_is}
use Rattle.prefix_trie.proofs.search.deepest.Goals as goal

pub loop-next-init : goal.loop-next-init
loop-next-init c = record {
  node = c.requires.first;
  is = c.requires.root;
  covers = rw c.requires.whole (covers-any c.args.block.now c.addr-addr.ensures.block);
}

pub loop-next-smaller : goal.loop-next-smaller
loop-next-smaller c =
    let here = c.loop-next.invariant in
    let next = c.in-Some.ensures here.node here.is in
    let old = len_is c.args.nodes.now c.loop-next.at here.node here.is in
    let new = len_is c.args.nodes.now c.in-Some.next next.below next.is in
    let longer = next.longer in
    let most = (c.requires.blocks c.in-Some.next next.below next.is).length in
    omega arith

pub loop-next-preserved : goal.loop-next-preserved
loop-next-preserved c =
    let here = c.loop-next.invariant in
    let next = c.in-Some.ensures here.node here.is in
    record { node = next.below; is = next.is; covers = next.covers }
