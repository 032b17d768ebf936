use Rattle.std.proofs.Common.{◌≡◌, ◌++◌, drop}
use Rattle.std.specs.List.{filter_map, enumerate_from}
use Rattle.commit_writes.specs.Shape.{word_write, field_writes}
use Rattle.commit_writes.proofs.translation.tables.plan_field.Given as goal

-- the writes so far and those of the ports to come are all of them
abbrev pub invariant-loop-port : goal.invariant-loop-port
invariant-loop-port l = l.writes.items ++ filter_map (word_write l.field l.new) (enumerate_from l.port (drop l.port l.words)) ≡ l.initial.writes.items ++ field_writes l.field l.new l.words
