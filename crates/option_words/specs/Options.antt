-- The options of runs over scripts, as clap is told of them, and what its rows say of each.
use Rattle.std.specs.Prelude.{ℕ, Bool, Option, Some, None, unwrap_or, List, [], ◌∷◌, true, codes, if◌then◌else◌}
use Rattle.std.specs.Str.{bytes_eq}
use Rattle.std.specs.Str.Parse.{digits_value, without_leading_plus}
use Rattle.clap.specs.Walk.{Rule, Row, Text, first_of}
use Rattle.clap.specs.Simple.{new_rule}
use Rattle.clap.specs.ValueTests.{is_unsigned_in}
use Rattle.clap.specs.declared.builder.action.ArgAction.TheVariants.{Set, SetTrue}
use Rattle.clap.specs.declared.builder.value_parser.ValueParser.TheVariants.{Unsigned}
use Rattle.rule_store.specs.declared.Mode.{Mode}
use Rattle.rule_store.specs.declared.Mode.TheVariants.{Cover, Bits}
use Rattle.batch_order.specs.declared.Placement.{Placement}
use Rattle.batch_order.specs.declared.Placement.TheVariants.{Middle, Rank, Ends}

-- --slots, a number from 1 to so many, by default 4096
unfoldable pub slots_option : ℕ → Rule
slots_option most = record (new_rule (codes "slots")) {
  long = Some (codes "slots");
  action = Some Set;
  parser = Some (Unsigned 1 most);
  defaults = codes "4096" ∷ [];
}

-- --ranges, a word, by default cover
unfoldable pub ranges_option : Rule
ranges_option = record (new_rule (codes "ranges")) {
  long = Some (codes "ranges");
  action = Some Set;
  defaults = codes "cover" ∷ [];
}

-- --placement, a word, by default middle
unfoldable pub placement_option : Rule
placement_option = record (new_rule (codes "placement")) {
  long = Some (codes "placement");
  action = Some Set;
  defaults = codes "middle" ∷ [];
}

-- --trace, a flag
unfoldable pub trace_flag : Rule
trace_flag = record (new_rule (codes "trace")) { long = Some (codes "trace"); action = Some SetTrue }

-- --large, a flag
unfoldable pub large_flag : Rule
large_flag = record (new_rule (codes "large")) { long = Some (codes "large"); action = Some SetTrue }

-- a required number of a range, which stands behind the subcommand in its order
unfoldable pub number_position : Text → ℕ → ℕ → Rule
number_position name least greatest = record (new_rule name) {
  action = Some Set;
  parser = Some (Unsigned least greatest);
  required = true;
}

-- the text that an argument was given, or has by default
abbrev pub text_of : Text → List Row → Text
text_of id rows = unwrap_or (first_of id rows) []

-- the number that a text writes in decimal digits
abbrev pub number_in : Text → ℕ
number_in text = digits_value 10 (without_leading_plus text)

-- the number that an argument was given, or has by default
abbrev pub number_of : Text → List Row → ℕ
number_of id rows = number_in (text_of id rows)

-- the number that a text writes, if it is one of the range
abbrev pub number_within : ℕ → ℕ → Text → Option ℕ
number_within least greatest text = if is_unsigned_in least greatest text then Some (number_in text) else None

-- the number in a range that an argument was given
abbrev pub number_given : ℕ → ℕ → Text → List Row → Option ℕ
number_given least greatest id rows = number_within least greatest (text_of id rows)

-- whether an argument was given this text, or has it by default
abbrev pub has_text : Text → Text → List Row → Bool
has_text id text rows = bytes_eq (text_of id rows) text

-- whether a trace is wanted
abbrev pub is_traced : List Row → Bool
is_traced rows = has_text (codes "trace") (codes "true") rows

-- whether the large sizes are wanted
abbrev pub is_large : List Row → Bool
is_large rows = has_text (codes "large") (codes "true") rows

-- the number of slots that was given, or is by default, where it is one of so many at most
abbrev pub slots_given : ℕ → List Row → Option ℕ
slots_given most rows = number_given 1 most (codes "slots") rows

-- the mode that a word names
abbrev pub mode_in : Text → Option Mode
mode_in text =
    if bytes_eq text (codes "cover") then Some Cover else if bytes_eq text (codes "bits") then Some Bits else None

-- the placement that a word names
abbrev pub placement_in : Text → Option Placement
placement_in text =
    if bytes_eq text (codes "middle") then Some Middle
    else if bytes_eq text (codes "rank") then Some Rank
    else if bytes_eq text (codes "ends") then Some Ends
    else None

-- the placement that is wanted
abbrev pub placed_by : List Row → Option Placement
placed_by rows = placement_in (text_of (codes "placement") rows)
