use Rattle.std.proofs.Common.{◌/◌, ◌-◌, ◌+◌, arith}
use Rattle.prefix_trie.proofs.Halves.{coarser}
use Rattle.prefix_trie.proofs.blocks.meet.Goals as goal

pub loop-high-preserved : goal.loop-high-preserved
loop-high-preserved c =
    let between = c.loop-high.invariant.between in
    let test = c.loop-high-test.true in
    let most_a = c.loop-high.invariant.most_a in
    let most_b = c.loop-high.invariant.most_b in
    record {
      between = omega arith;
      most_a = omega arith;
      most_b = omega arith;
      agree = c.loop-high.invariant.agree;
      differ = λ len from fits_a fits_b same.
          let joined = coarser c.args.a.now.addr c.args.b.now.addr (128 - len) (128 - (c.loop-high.low + (c.loop-high.high - c.loop-high.low) / 2)) (omega arith) same in
          c.if-upper.false (cc joined);
    }
