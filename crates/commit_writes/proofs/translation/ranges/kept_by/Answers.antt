use Rattle.std.proofs.Common.{◌≡◌, length, None, Some, Option, set, true, false, sym, ap, ◌∙◌, arith}
use Rattle.std.specs.List.{list_any}
use Rattle.std.proofs.lemmas.Grind.{common_steps}
use Rattle.std.proofs.lemmas.Bool.{cond-true, cond-false}
use Rattle.rule_model.specs.PortRange.{PortRange, same_range}
use Rattle.rule_store.specs.Verdict.{coded_ranges}
use Rattle.range_bits.specs.LiveRanges.{range_at, kept}
use Rattle.commit_writes.proofs.Kept.{length-kept_below, kept_more, kept_same}
use Rattle.commit_writes.proofs.translation.ranges.kept_by.Goals as goal
use Rattle.commit_writes.proofs.translation.ranges.kept_by.Goals.{in-Some+then-not-has_range, in-Some+else-not-has_range, in_default}

pub loop-bit-preserved : goal.loop-bit-preserved
loop-bit-preserved c =
    let ranges = coded_ranges c.args.field c.args.rules.now.rules in
    let size = ap length c.loop-bit.invariant.done ∙ length-kept_below c.args.live ranges c.loop-bit.bit in
    let whole = c.range_of.ensures.map.places in
    record {
      done = elim c.match-range_of.branch [
        | in-Some+then-not-has_range w ↦
            let gone : list_any (same_range w.in-Some.range) ranges ≡ false = sym w.has_range.ensures ∙ cc in
            let here = sym w.in-Some.ensures.range in
            let freed : kept ranges (range_at c.loop-bit.live c.loop-bit.bit) ≡ None = ap (kept ranges) here ∙ cond-false (list_any (same_range w.in-Some.range) ranges) (Some w.in-Some.range) None gone in
            w.live-is ∙ w.release.ensures.change ∙ ap (λ (h : Option PortRange). set c.loop-bit.live c.loop-bit.bit h) (sym freed)
            ∙ kept_more c.args.live c.loop-bit.live ranges c.loop-bit.bit (omega arith) c.loop-bit.invariant.done
        | in-Some+else-not-has_range w ↦
            let stays : list_any (same_range w.in-Some.range) ranges ≡ true = sym w.has_range.ensures ∙ cc in
            let here = sym w.in-Some.ensures.range in
            w.live-is ∙ kept_same c.args.live c.loop-bit.live ranges c.loop-bit.bit (omega arith) c.loop-bit.invariant.done
            (ap (kept ranges) here ∙ cond-true (list_any (same_range w.in-Some.range) ranges) (Some w.in-Some.range) None stays ∙ sym here)
        | in_default w ↦
            let none : range_at c.loop-bit.live c.loop-bit.bit ≡ None = grind (arith, common_steps) in
            w.live-is ∙ kept_same c.args.live c.loop-bit.live ranges c.loop-bit.bit (omega arith) c.loop-bit.invariant.done (ap (kept ranges) none ∙ sym none)
      ];
      places = λ more. omega arith;
    }
