-- How large a script, its tables and its batches may be.
use Rattle.std.specs.Prelude.{Bool, true, false}
use Rattle.slot_order.specs.Order.{most_slots, script_slots}
use Rattle.rule_store.specs.Batch.{most_pending}
use Rattle.script_lines.specs.Lines.{most_bytes, usual_bytes}
use Rattle.report_lines.specs.declared.sizes.Sizes.{Sizes}

-- where nothing else is asked for: 4,096 slots, as many changes that wait for a commit, and 16 MiB of script
abbrev pub usual_sizes : Sizes
usual_sizes = record { slots = script_slots; commands = most_pending; bytes = usual_bytes }

-- where large ones are asked for: 1,048,576 slots, as many changes, and 256 MiB
abbrev pub large_sizes : Sizes
large_sizes = record { slots = most_slots; commands = most_slots; bytes = most_bytes }

-- by whether large ones are asked for
abbrev pub sizes_by : Bool → Sizes
sizes_by false = usual_sizes
sizes_by true = large_sizes
