-- What the messages of a frame come to in a script, by what is known of those before them.
use Rattle.std.specs.Prelude.{ℕ, ◌/◌, ◌%◌, ◌^◌, Bool, true, false, Result, Ok, Err, List, [], ◌∷◌, ◌++◌, codes, decimal, if◌then◌else◌}
use Rattle.std.specs.List.{list_any}
use Rattle.rule_model.specs.declared.IpVersion.{IpVersion}
use Rattle.rule_model.specs.declared.IpVersion.TheVariants.{V4, V6}
use Rattle.rule_model.specs.AddressBlock.{AddressBlock}
use Rattle.line_words.specs.Shown.{ipv6_text}
use Rattle.import_lines.specs.Import.{LineTold, SaidBy, UnsaidBy}
use Rattle.ip_routes.specs.Telling.{hops_with, way_comment, way_number}
use Rattle.fpm_routes.specs.declared.why.Why.{Why}
use Rattle.fpm_routes.specs.declared.why.Why.TheVariants as why
use Rattle.fpm_routes.specs.declared.why.Unsaid.{Unsaid}
use Rattle.fpm_routes.specs.declared.changes.Deed.{Deed}
use Rattle.fpm_routes.specs.declared.changes.Deed.TheVariants as deed
use Rattle.fpm_routes.specs.Changes.{Changing, frame_changes}

abbrev pub why_text : Why → List ℕ
why_text why.Message = codes "unknown message"
why_text why.Cut = codes "cut off"
why_text why.Length = codes "length"
why_text why.Twice = codes "attribute twice"
why_text why.Attribute = codes "unknown attribute"
why_text why.Encapsulation = codes "encapsulation"
why_text why.Sender = codes "by sender"
why_text why.Family = codes "family"
why_text why.Kind = codes "kind of route"
why_text why.Service = codes "type of service"
why_text why.Prefix = codes "no prefix"
why_text why.Hop = codes "no next hop"
why_text why.LongHop = codes "long next hop"

abbrev pub unsaid_text : Unsaid → List ℕ
unsaid_text unsaid = why_text unsaid.why ++ (codes ": " ++ decimal unsaid.number)

-- a prefix as a script has it
abbrev pub dotted_part : ℕ → List ℕ
dotted_part number = decimal number ++ codes "."

abbrev pub dotted_number : ℕ → List ℕ
dotted_number number =
    dotted_part (number / 16777216) ++ (dotted_part (number / 65536 % 256) ++ (dotted_part (number / 256 % 256) ++ decimal (number % 256)))

abbrev pub block_address : IpVersion → ℕ → List ℕ
block_address V4 address = dotted_number (address / 2 ^ 96)
block_address V6 address = ipv6_text address

abbrev pub prefix_text : IpVersion → AddressBlock → List ℕ
prefix_text version block = block_address version block.addr ++ (codes "/" ++ decimal block.len)

-- what is known: the version of IP, and the next hops that have a number, the first of them 1
pub record Known : Type 0 where
  pub version : IpVersion
  pub hops : List (List ℕ)

-- what a change has in the script
abbrev pub put_line : List ℕ → ℕ → List ℕ
put_line prefix number = codes "route put " ++ (prefix ++ (codes " " ++ (decimal number ++ codes "\n")))

abbrev pub drop_line : List ℕ → List ℕ
drop_line prefix = codes "route drop " ++ (prefix ++ codes "\n")

abbrev pub note_line : List ℕ → List ℕ
note_line words = codes "# " ++ (words ++ codes "\n")

abbrev pub deed_text : Known → Deed → Changing → List ℕ
deed_text known deed.Put change =
    way_comment known.hops change.words ++ put_line (prefix_text known.version change.block) (way_number known.hops change.words)
deed_text known deed.Drop change = drop_line (prefix_text known.version change.block)
deed_text known deed.Note change = note_line change.words

abbrev pub change_text : Known → Changing → List ℕ
change_text known change = deed_text known change.deed change

-- the next hop of a prefix that is put has a number, or gets the next one
abbrev pub deed_after : Known → Deed → Changing → Known
deed_after known deed.Put change = record known { hops = hops_with known.hops change.words }
deed_after known deed.Drop change = known
deed_after known deed.Note change = known

abbrev pub change_after : Known → Changing → Known
change_after known change = deed_after known change.deed change

abbrev pub changes_text : Known → List Changing → List ℕ
changes_text known [] = []
changes_text known (change ∷ changes) = change_text known change ++ changes_text (change_after known change) changes

abbrev pub changes_after : Known → List Changing → Known
changes_after known [] = known
changes_after known (change ∷ changes) = changes_after (change_after known change) changes

-- a frame that changes something is a commit
abbrev pub is_change : Changing → Bool
is_change change = elim change.deed [ deed.Put ↦ true | deed.Drop ↦ true | deed.Note ↦ false ]

abbrev pub commit_text : List Changing → List ℕ
commit_text changes = if list_any is_change changes then codes "commit\n" else []

abbrev pub told_by : Known → Result (List Changing) Unsaid → LineTold
told_by known (Ok changes) = SaidBy (changes_text known changes ++ commit_text changes)
told_by known (Err unsaid) = UnsaidBy (unsaid_text unsaid)

-- What the messages of a frame come to.
abbrev pub fpm_told : Known → List ℕ → LineTold
fpm_told known messages = told_by known (frame_changes known.version messages)

abbrev pub after_by : Known → Result (List Changing) Unsaid → Known
after_by known (Ok changes) = changes_after known changes
after_by known (Err unsaid) = known

-- what is known behind them, where they are said
abbrev pub fpm_after : Known → List ℕ → Known
fpm_after known messages = after_by known (frame_changes known.version messages)
