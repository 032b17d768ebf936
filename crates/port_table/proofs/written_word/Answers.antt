use Rattle.std.proofs.Common.{ℕ, List, get_or, ap, ◌∙◌, arith}
use Rattle.std.specs.Prelude.{slice_index}
use Rattle.std.proofs.lemmas.List.{get_or_default, take_all}
use Rattle.tcam_device.specs.State.{blank_table}
use Rattle.port_table.specs.Table.{after_words}
use Rattle.port_table.proofs.Written.{so_far-none, so_far-more}
use Rattle.port_table.proofs.written_word.Goals as goal

pub loop-one-init : goal.loop-one-init
loop-one-init c = so_far-none c.args.written.now c.args.port c.ranges.port.fits

pub loop-one-preserved : goal.loop-one-preserved
loop-one-preserved c =
    so_far-more c.args.written.now c.args.port c.loop-one.one-index c.loop-one.word c.word_after-word.result (get_or c.args.written.now c.loop-one.one-index (0, 0))
    (omega arith) (get_or_default c.args.written.now c.loop-one.one-index _ (0, 0) (omega arith)) c.word_after-word.ensures.inside c.word_after-word.ensures.word
    c.loop-one.invariant

pub returns : goal.returns
returns c =
    c.loop-one.invariant.is
    ∙ ap (λ (some : List (ℕ × ℕ)). slice_index (after_words blank_table some) c.args.port) (take_all c.loop-one.one-index c.args.written.now (omega arith))
