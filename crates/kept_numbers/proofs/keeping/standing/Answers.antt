use Rattle.std.proofs.Common.{◌+◌, length, cond, drop, sym, ap, ◌∙◌, arith}
use Rattle.std.proofs.lemmas.List.{drop_all, take_rest}
use Rattle.kept_numbers.specs.Kept.{standing}
use Rattle.kept_numbers.proofs.Loops.{stands-at, stands-end}
use Rattle.kept_numbers.proofs.keeping.standing.Goals as goal

pub returns-then-stays : goal.returns-then-stays
returns-then-stays c =
    take_rest c.args.older.now c.loop-place.place
    ∙ sym (stands-at c.args.older.now _ c.args.line.now c.args.lines.now c.loop-place.place c.index-older-place.result _ (omega arith) c.index-older-place.is (take_rest c.args.older.now (c.loop-place.place + 1)) c.stays.ensures
    ∙ ap (λ b. cond b (drop c.loop-place.place c.args.older.now) (standing (drop (c.loop-place.place + 1) c.args.older.now) c.args.line.now c.args.lines.now)) c.if-stays.true)
    ∙ c.loop-place.invariant.told

pub loop-place-preserved : goal.loop-place-preserved
loop-place-preserved c = record {
  told = sym (stands-at c.args.older.now _ c.args.line.now c.args.lines.now c.loop-place.place c.index-older-place.result _ (omega arith) c.index-older-place.is (take_rest c.args.older.now (c.loop-place.place + 1)) c.stays.ensures
      ∙ ap (λ b. cond b (drop c.loop-place.place c.args.older.now) (standing (drop (c.loop-place.place + 1) c.args.older.now) c.args.line.now c.args.lines.now)) c.if-stays.false)
      ∙ c.loop-place.invariant.told;
}

pub returns : goal.returns
returns c =
    take_rest c.args.older.now (length c.args.older.now) ∙ drop_all (length c.args.older.now) c.args.older.now (omega arith)
    ∙ sym (stands-end c.args.older.now c.args.line.now c.args.lines.now c.loop-place.place (omega arith)) ∙ c.loop-place.invariant.told
