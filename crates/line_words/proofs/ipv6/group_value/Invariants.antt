use Rattle.std.proofs.Common.{◌≡◌, ◌<◌, ◌^◌, drop}
use Rattle.line_words.specs.Ipv6.{hex_value}
use Rattle.line_words.proofs.ipv6.group_value.Given as goal

-- the digits so far are of this value
abbrev pub invariant-loop-digit : goal.invariant-loop-digit
invariant-loop-digit l = record {
  read : hex_value 0 l.digits ≡ hex_value l.value (drop l.digit-index l.digits);
  small : l.value < 16 ^ l.digit-index;
}
