-- How each version of IP is written.
use Rattle.rule_model.specs.declared.IpVersion.{IpVersion}
use Rattle.rule_model.specs.declared.IpVersion.TheVariants.{V4, V6}
use Rattle.line_words.specs.Kinds.{Notation, ipv4_notation}
use Rattle.line_words.specs.Ipv6.{ipv6_notation}

-- how addresses, prefixes and frames of a version are written
abbrev pub notation_for : IpVersion → Notation
notation_for V4 = ipv4_notation
notation_for V6 = ipv6_notation
