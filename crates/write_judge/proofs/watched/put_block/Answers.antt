use Rattle.std.proofs.Common.{◌≡◌, ◌+◌, ◌-◌, ◌∙◌, List, Option, length, sym, ap, arith}
use Rattle.std.proofs.lemmas.List.{with_items_is}
use borrow.Rule.Slice.PartMut.{put_mid}
use Rattle.rule_model.specs.declared.words.Entry.{Entry}
use Rattle.write_judge.proofs.Blocks.{put_is, size_is}
use Rattle.write_judge.proofs.watched.put_block.Goals as goal

pub returns-clause-block : goal.returns-clause-block
returns-clause-block c =
    let slots = c.args.slots.now in
    let part = c.copy_from_slice.new.self in
    let lent = c.deref_mut.ensures.value in
    let whole = size_is slots.items c.args.block.now c.args.at (c.args.at + length c.args.block.now - c.args.at) part c.copy_from_slice.ensures.after (omega arith) c.requires in
    let len : length (put_mid c.args.at (c.args.at + length c.args.block.now - c.args.at) c.deref_mut.result.now part) ≡ slots.len =
    ap (λ (some : List (Option Entry)). length (put_mid c.args.at (c.args.at + length c.args.block.now - c.args.at) some part)) lent ∙ whole ∙ sym slots.ok.0 in
    with_items_is slots (put_mid c.args.at (c.args.at + length c.args.block.now - c.args.at) c.deref_mut.result.now part) len
    ∙ ap (λ (some : List (Option Entry)). put_mid c.args.at (c.args.at + length c.args.block.now - c.args.at) some part) lent
    ∙ put_is slots.items c.args.block.now c.args.at (c.args.at + length c.args.block.now - c.args.at) part c.copy_from_slice.ensures.after (omega arith)
