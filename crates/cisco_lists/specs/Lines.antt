-- What a line comes to, by the list that it stands in and the last number that was given.
use Rattle.std.specs.Prelude.{◌≡◌, ℕ, ◌+◌, ◌-◌, ◌*◌, ◌/◌, Bool, true, false, ◌==◌, ◌||◌, nat_le, Result, Ok, Err, Option, Some, None, List, [], ◌∷◌, codes, length, if◌then◌else◌}
use Rattle.std.specs.Str.{bytes_eq}
use Rattle.line_words.specs.declared.WordFault.{WordFault}
use Rattle.line_words.specs.Kinds.{is_digit, sequence_of}
use Rattle.import_lines.specs.declared.Told.{Told}
use Rattle.import_lines.specs.declared.Told.TheVariants as told
use Rattle.import_lines.specs.Import.{LineTold, SaidBy, UnsaidBy}
use Rattle.cisco_lists.specs.declared.why.Why.{Why}
use Rattle.cisco_lists.specs.declared.why.Why.TheVariants as why
use Rattle.cisco_lists.specs.declared.format.Place.{Place}
use Rattle.cisco_lists.specs.declared.format.Place.TheVariants.{Outside, Inside, Elsewhere}
use Rattle.cisco_lists.specs.declared.format.Choice.{Choice}
use Rattle.cisco_lists.specs.declared.format.Choice.TheVariants.{Chosen, Second, Another}
use Rattle.cisco_lists.specs.Walk.{WordsAt, Taken, at_text, first_of, behind_word}
use Rattle.cisco_lists.specs.Entries.{EntryRead, entry_at}
use Rattle.cisco_lists.specs.Telling.{count_of, entry_text, named_line, remark_text, unsaid_text}

-- what is known of the lines before one: the name of the list that is imported, where it is known, whether there may be no second
-- one, where the line stands, whether an entry came that shows no number, and the last number that was given, 0 where there is
-- none yet
pub record Known : Type 0 where
  pub list : Option (List ℕ)
  pub only : Bool
  pub place : Place
  pub counted : Bool
  pub last : ℕ

-- what a line comes to, and what is known behind it where it is said
pub record Outcome : Type 0 where
  pub told : LineTold
  pub after : Known

-- what the code answers of it
abbrev pub IsOutcome : Outcome → Known → Told → List ℕ → Known → Type 0
IsOutcome outcome old told.Said bytes new = (outcome.told ≡ SaidBy bytes) × (new ≡ outcome.after)
IsOutcome outcome old told.Unsaid bytes new = (outcome.told ≡ UnsaidBy bytes) × (new ≡ old)

abbrev pub said : List ℕ → Known → Outcome
said bytes after = record { told = SaidBy bytes; after = after }

abbrev pub unsaid : Why → List ℕ → Known → Outcome
unsaid why word known = record { told = UnsaidBy (unsaid_text why word); after = known }

-- a word that begins with a digit
abbrev pub starts_number : List ℕ → Bool
starts_number [] = false
starts_number (byte ∷ bytes) = is_digit byte

-- the number of an entry that shows none, which stands behind all before it: the next ten
abbrev pub next_number : ℕ → ℕ
next_number last = (last / 10 + 1) * 10

-- And of one that shows this word: it is above the last one. Behind an entry that shows none its place isn't known, since the
-- systems count on in ways of their own.
abbrev pub number_by : Bool → ℕ → Result ℕ WordFault → Result ℕ Why
number_by counted last (Ok number) = if counted || nat_le number last then Err why.Order else Ok number
number_by counted last (Err fault) = Err why.Number

abbrev pub number_of : Bool → ℕ → List ℕ → Result ℕ Why
number_of counted last word = if length word == 0 then Ok (next_number last) else number_by counted last (sequence_of word)

-- an entry takes as many numbers as it has lines, and the greatest number is kept for the deny behind all
abbrev pub placed : Known → List ℕ → EntryRead → Result ℕ Why → Outcome
placed known word entry (Ok number) =
    if nat_le (number + count_of entry) 4294967295
    then said (entry_text number entry) (record known { counted = length word == 0; last = number + count_of entry - 1 })
    else unsaid why.Number word known
placed known word entry (Err reason) = unsaid reason word known

-- an entry that was read, unless it has a fault
abbrev pub rule_outcome : Known → List ℕ → EntryRead → WordsAt → Option Why → Outcome
rule_outcome known word entry at None = placed known word entry (number_of known.counted known.last word)
rule_outcome known word entry at (Some reason) = unsaid reason at.word known

abbrev pub read_outcome : Known → List ℕ → Taken EntryRead → Outcome
read_outcome known word read = rule_outcome known word read.value read.behind read.behind.fault

-- a remark, or an entry, behind its number
abbrev pub numbered_entry : Known → List ℕ → List ℕ → WordsAt → Outcome
numbered_entry known text word at =
    if bytes_eq (first_of at.words) (codes "remark") then said (remark_text text) known
    else read_outcome known word (entry_at at)

-- The line of an entry of the list.
abbrev pub entry_outcome : Known → List ℕ → WordsAt → Outcome
entry_outcome known text at =
    if starts_number (first_of at.words) then numbered_entry known text (first_of at.words) (behind_word at)
    else numbered_entry known text [] at

-- which list one of this name is
abbrev pub choice_by : Bool → List ℕ → Option (List ℕ) → Choice
choice_by only name None = Chosen
choice_by only name (Some list) = if bytes_eq list name then Chosen else if only then Second else Another

abbrev pub choice_of : Known → List ℕ → Choice
choice_of known name = choice_by known.only name known.list

-- in the list of this name
abbrev pub entered : List ℕ → Known → Known
entered name known = record known { list = Some name; place = Inside }

-- in another one
abbrev pub elsewhere : Known → Known
elsewhere known = record known { place = Elsewhere }

-- the head of a list
abbrev pub header_as : Known → List ℕ → Choice → Outcome
header_as known name Chosen = said (named_line (codes "# list: ") name) (entered name known)
header_as known name Second = unsaid why.List name known
header_as known name Another = said (named_line (codes "# another list: ") name) (elsewhere known)

abbrev pub header_outcome : Known → List ℕ → Outcome
header_outcome known name = header_as known name (choice_of known name)

-- and of one that is no extended list of IPv4
abbrev pub other_kind : Known → List ℕ → Outcome
other_kind known name = said (named_line (codes "# another kind of list: ") name) (elsewhere known)

-- what stands behind `ip access-list`: a name, or a kind and a name
abbrev pub kind_by : Known → List ℕ → List ℕ → List ℕ → Outcome
kind_by known kind name more =
    if length kind == 0 then unsaid why.Value (codes "access-list") known
    else if length name == 0 then header_outcome known kind
    else if length more == 0 then if bytes_eq kind (codes "extended") then header_outcome known name else other_kind known name
    else unsaid why.Word more known

abbrev pub kind_outcome : Known → WordsAt → Outcome
kind_outcome known at =
    kind_by known (first_of at.words) (first_of (behind_word at).words) (first_of (behind_word (behind_word at)).words)

-- what stands behind `ip`
abbrev pub ip_outcome : Known → WordsAt → Outcome
ip_outcome known at =
    if bytes_eq (first_of at.words) (codes "access-list") then kind_outcome known (behind_word at)
    else unsaid why.Word (codes "ip") known

-- what stands behind `access-list`: the number of a list, and an entry
abbrev pub numbered_as : Known → List ℕ → List ℕ → WordsAt → Choice → Outcome
numbered_as known text name at Chosen =
    record (entry_outcome known text at) { after = entered name (entry_outcome known text at).after }
numbered_as known text name at Second = unsaid why.List name known
numbered_as known text name at Another = said (named_line (codes "# another list: ") name) known

abbrev pub numbered_by : Known → List ℕ → List ℕ → WordsAt → Outcome
numbered_by known text name at =
    if length name == 0 then unsaid why.Value (codes "access-list") known
    else numbered_as known text name at (choice_of known name)

abbrev pub numbered_outcome : Known → List ℕ → WordsAt → Outcome
numbered_outcome known text at = numbered_by known text (first_of at.words) (behind_word at)

-- what stands behind `ipv6` or `mac`, this word
abbrev pub other_outcome : Known → List ℕ → WordsAt → Outcome
other_outcome known word at =
    if bytes_eq (first_of at.words) (codes "access-list") then other_kind known word else unsaid why.Word word known

-- a line that begins as an entry, by where it stands
abbrev pub place_outcome : Known → List ℕ → Place → Outcome
place_outcome known text Inside = entry_outcome known text (at_text text)
place_outcome known text Outside = unsaid why.NoList (first_of (at_text text).words) known
place_outcome known text Elsewhere = said [] known

-- a line that changes no answer: one without words, a comment, the end of a list, and what is counted
abbrev pub is_mark : List ℕ → Bool
is_mark [] = true
is_mark (byte ∷ bytes) = byte == 33

abbrev pub is_passed : List ℕ → Bool
is_passed word =
    is_mark word || bytes_eq word (codes "exit") || bytes_eq word (codes "end") || bytes_eq word (codes "counters") || bytes_eq word (codes "statistics")

-- the first word of an entry
abbrev pub is_entry : List ℕ → Bool
is_entry word =
    bytes_eq word (codes "permit") || bytes_eq word (codes "deny") || bytes_eq word (codes "remark") || starts_number word

-- a word behind which a list stands that is no list of IPv4
abbrev pub is_other : List ℕ → Bool
is_other word = bytes_eq word (codes "ipv6") || bytes_eq word (codes "mac")

-- What a line comes to, by its first word and what stands behind it.
abbrev pub line_by : Known → List ℕ → List ℕ → WordsAt → Outcome
line_by known text word at =
    if is_passed word then said [] known
    else if bytes_eq word (codes "ip") then ip_outcome known at
    else if bytes_eq word (codes "access-list") then numbered_outcome known text at
    else if is_other word then other_outcome known word at
    else if is_entry word then place_outcome known text known.place
    else unsaid why.Word word known

abbrev pub line_outcome : Known → List ℕ → Outcome
line_outcome known text = line_by known text (first_of (at_text text).words) (behind_word (at_text text))

abbrev pub cisco_told : Known → List ℕ → LineTold
cisco_told known text = (line_outcome known text).told

abbrev pub cisco_after : Known → List ℕ → Known
cisco_after known text = (line_outcome known text).after

-- What stands behind all lines: the deny that both systems have behind the last entry, and the commit. A list without entries isn't
-- said: an empty one permits or denies all by the system, and one of which no line was read may be meant by another name.
abbrev pub cisco_closing : Known → LineTold
cisco_closing known =
    if known.last == 0 then UnsaidBy (codes "no entries") else SaidBy (codes "acl add 4294967295 deny any any any any any\ncommit\n")

-- before the first line: the name of the list that is asked for, if one is, and whether there may be no second one
abbrev pub first_known : Option (List ℕ) → Bool → Known
first_known list only = record { list = list; only = only; place = Outside; counted = false; last = 0 }
