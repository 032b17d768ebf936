-- Which port ranges are live, and which of a batch need bits that they don't have.
use Rattle.std.specs.Prelude.{◌↔◌, Option, Some, None, IsTrue, List, Contains, is_none, is_some, filter, if◌then◌else◌}
use Rattle.rule_model.specs.declared.Field.{Field}
use Rattle.rule_model.specs.declared.Field.TheVariants.{Src, Dst}
use Rattle.rule_model.specs.PortRange.{PortRange, is_block}
use Rattle.rule_model.specs.Rule.{range_of}
use Rattle.rule_store.specs.declared.Command.{Command}
use Rattle.rule_store.specs.declared.Command.TheVariants.{Add, Set, Del}
use Rattle.rule_store.specs.Batch.{additions}
use Rattle.rule_store.specs.Verdict.{coded_ranges}
use Rattle.range_bits.specs.LiveRanges.{LiveRanges, bit_of, with_ranges}
use Rattle.commit_writes.specs.Bits.{FieldBits, ranges_in}

-- those of some ranges that have no bit
abbrev pub without_bits : LiveRanges → List PortRange → List PortRange
without_bits live ranges = filter (λ range. is_none (bit_of live range)) ranges

-- the range for which a command needs a bit of a field, if it does: it adds a rule whose range is no single block
abbrev pub coded_range : Field → Command → Option PortRange
coded_range field (Add rule) = if is_block (range_of field rule) then None else Some (range_of field rule)
coded_range field (Set priority answer) = None
coded_range field (Del priority) = None

-- the ranges of a batch's additions that are no single block and aren't live, each once, in the order of the additions
abbrev pub ranges_without : LiveRanges → Field → List Command → List PortRange
ranges_without live field batch = without_bits live (coded_ranges field (additions batch))

-- the ranges for which a batch needs bits that they don't have
abbrev pub ranges_needed : Field → FieldBits → List Command → List PortRange
ranges_needed field bits batch = ranges_without (ranges_in field bits) field batch

-- both fields with these ranges live too
abbrev pub with_needed : FieldBits → List Command → FieldBits
with_needed bits batch =
    record {
      src = with_ranges bits.src (ranges_needed Src bits batch);
      dst = with_ranges bits.dst (ranges_needed Dst bits batch);
    }

-- some ranges have a bit, and no others
abbrev pub AreLive : LiveRanges → List PortRange → Type 0
AreLive live ranges = (range : PortRange) → IsTrue (is_some (bit_of live range)) ↔ Contains ranges range
