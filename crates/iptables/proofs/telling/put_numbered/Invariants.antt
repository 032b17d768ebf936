use Rattle.std.proofs.Common.{◌≡◌, ◌++◌, drop}
use Rattle.kept_numbers.specs.Written.{numbered_text}
use Rattle.iptables.proofs.telling.put_numbered.Given as goal

abbrev pub invariant-loop-place : goal.invariant-loop-place
invariant-loop-place l = record { text : l.into.items ++ numbered_text (drop l.place l.numbers) (drop l.place l.words) ≡ l.fn.into.items ++ numbered_text l.numbers l.words }
