use Rattle.std.proofs.Common.{ℕ, List, length, get_or, ap, ◌∙◌, arith, length-set}
use Rattle.std.proofs.lemmas.List.{get_or_default, take_all}
use Rattle.port_table.specs.Table.{after_words}
use Rattle.port_table.proofs.Written.{put-more}
use Rattle.port_table.proofs.put_all.Goals as goal

pub loop-one-preserved : goal.loop-one-preserved
loop-one-preserved c =
    let one = get_or c.args.written.now c.loop-one.one-index (0, 0) in
    record {
      so_far =
          c.put.ensures ∙ put-more c.args.words.now c.loop-one.words c.args.written.now c.loop-one.one-index one (omega arith)
          (get_or_default c.args.written.now c.loop-one.one-index one (0, 0) (omega arith)) c.loop-one.invariant.so_far;
      size = ap length c.put.ensures ∙ (length-set _ _ _ ∙ c.loop-one.invariant.size);
    }

pub returns : goal.returns
returns c =
    c.loop-one.invariant.so_far ∙ ap (λ (some : List (ℕ × ℕ)). after_words c.args.words.now some) (take_all c.loop-one.one-index c.args.written.now (omega arith))
