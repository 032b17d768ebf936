use Rattle.std.proofs.Common.{◌≡◌, ◌-◌, [], min, length, inl, inr, refl, ap, subst, rules, arith}
use Rattle.std.proofs.lemmas.Grind.{common_steps}
use Rattle.std.proofs.lemmas.List.{get_or_read}
use Rattle.counted_blocks.specs.declared.Item.{Item}
use Rattle.counted_blocks.specs.Cuts.{AreLoose}
use Rattle.counted_blocks.proofs.Filled.{filled-but, loose-but}
use Rattle.counted_blocks.proofs.cuts.mend.Goals.{then-last-eq0-via-then-last-eq0, then-last-eq0-via-else-last-eq0+then-len-ge-HALF}
use Rattle.counted_blocks.proofs.cuts.mend.Goals as goal

pub returns-then-last-eq0-clause-mended : goal.returns-then-last-eq0-clause-mended
returns-then-last-eq0-clause-mended c =
    let blocks = c.args.blocks.now.items in
    let n : c.len.result ≡ length blocks = first_of (search rules, grind (arith, common_steps)) in
    record {
      items = refl;
      filled =
          filled-but blocks c.args.block c.requires.but
          (elim c.then-last-eq0.branch [
            | then-last-eq0-via-then-last-eq0 w ↦ let none = w.if-last-eq0.true in inl (omega arith)
            | then-last-eq0-via-else-last-eq0+then-len-ge-HALF w ↦
                let read = ap (length {A = Item}) (get_or_read blocks c.args.block w.index.result.now c.requires.but.within w.index.ensures []) in
                let count = w.len-else-last-eq0.ensures.count in
                let many = w.if-len-ge-HALF.true in
                inr (omega arith)
          ]);
    }

pub mend_pair-requires-clause-loose : goal.mend_pair-requires-clause-loose
mend_pair-requires-clause-loose c =
    let blocks = c.args.blocks.now.items in
    let n : c.len.result ≡ length blocks = first_of (search rules, grind (arith, common_steps)) in
    let last = c.if-last-eq0.false in
    let read = ap (length {A = Item}) (get_or_read blocks c.args.block c.index.result.now c.requires.but.within c.index.ensures []) in
    let count = c.len-else-last-eq0.ensures.count in
    let less = c.if-len-ge-HALF.false in
    let least = c.min.ensures in
    let same : min c.args.block (length blocks - 2) ≡ c.min.result = omega arith in
    subst (AreLoose blocks) same (loose-but blocks c.args.block c.requires.but (omega arith) (omega arith))
