use Rattle.line_words.proofs.RoundTrip.{ipv6_round_trip}
use Rattle.line_words.proofs.laws.printed_is_read_back.Goals as goal

pub returns : goal.returns
returns c = ipv6_round_trip
