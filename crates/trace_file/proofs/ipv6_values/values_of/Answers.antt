use Rattle.std.proofs.Common.{◌≡◌, sym}
use Rattle.trace_file.proofs.Views.{array-values}
use Rattle.trace_file.proofs.ipv6_values.values_of.Goals as goal

pub returns-in-Some : goal.returns-in-Some
returns-in-Some c = sym (array-values _ _ _ c.in-Some.ensures c.as_slice.ensures.value)
