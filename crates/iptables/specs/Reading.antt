-- A rule, word by word.
use Rattle.std.specs.Prelude.{ℕ, ◌*◌, Bool, true, false, ◌==◌, ◌||◌, nat_le, Result, Ok, Err, Option, Some, None, List, [], ◌∷◌, codes, length, if◌then◌else◌}
use Rattle.std.specs.Str.{bytes_eq}
use Rattle.rule_model.specs.declared.IpVersion.{IpVersion}
use Rattle.written_chains.specs.declared.meets.Tests.{Tests}
use Rattle.written_chains.specs.declared.writing.Target.{Target}
use Rattle.written_chains.specs.declared.writing.Target.TheVariants.{Decides, Returns, Jumps}
use Rattle.iptables.specs.declared.fields.Ends.TheVariants.{Of, Either}
use Rattle.iptables.specs.declared.fields.Side.TheVariants.{Src, Dst}
use Rattle.iptables.specs.declared.reading.Expects.{Expects}
use Rattle.iptables.specs.declared.reading.Expects.TheVariants as expects
use Rattle.iptables.specs.declared.reading.Part.{Part}
use Rattle.iptables.specs.declared.reading.Part.TheVariants as part
use Rattle.iptables.specs.declared.reading.Seen.{Seen}
use Rattle.iptables.specs.declared.values.Field.{Field}
use Rattle.iptables.specs.declared.values.Field.TheVariants as field
use Rattle.iptables.specs.declared.why.Why.{Why}
use Rattle.iptables.specs.declared.why.Why.TheVariants as why
use Rattle.iptables.specs.Names.{name_number}
use Rattle.iptables.specs.Values.{any_tests, met_with, proto_behind, value_said}
use Rattle.iptables.specs.Words.{ends_quote, has_escape, opens_quote}

-- nothing is said yet
abbrev pub first_seen : Seen
first_seen = record { expects = expects.Says part.Option; negated = false; proto = None; target = None }

abbrev pub expecting : Seen → Expects → Seen
expecting seen next = record seen { expects = next }

-- ---- a word that says what it is

-- the ports that it tests
abbrev pub port_field : List ℕ → Option Field
port_field word =
    if bytes_eq word (codes "--sport") then Some (field.Ports (Of Src) false)
    else if bytes_eq word (codes "--dport") then Some (field.Ports (Of Dst) false)
    else if bytes_eq word (codes "--sports") then Some (field.Ports (Of Src) true)
    else if bytes_eq word (codes "--dports") then Some (field.Ports (Of Dst) true)
    else if bytes_eq word (codes "--ports") then Some (field.Ports Either true)
    else None

-- the interface, where the list is for the packets of one
abbrev pub face_field : List ℕ → Option Field
face_field face = if length face == 0 then None else Some field.Face

-- the field that it tests
abbrev pub field_of : List ℕ → List ℕ → Option Field
field_of face word =
    if bytes_eq word (codes "-s") then Some (field.Block Src)
    else if bytes_eq word (codes "-d") then Some (field.Block Dst)
    else if bytes_eq word (codes "--src-range") then Some (field.Span Src)
    else if bytes_eq word (codes "--dst-range") then Some (field.Span Dst)
    else if bytes_eq word (codes "-p") then Some field.Proto
    else if bytes_eq word (codes "-i") then face_field face
    else port_field word

-- why a rule with another word isn't said
abbrev pub why_no_option : List ℕ → Why
why_no_option word =
    if bytes_eq word (codes "-i") || bytes_eq word (codes "-o") then why.Interface
    else why.Word

-- what a word asks for that tests no field
abbrev pub part_of : List ℕ → Result Part Why
part_of word =
    if bytes_eq word (codes "!") then Ok part.Negated
    else if bytes_eq word (codes "-m") then Ok part.Module
    else if bytes_eq word (codes "-j") then Ok part.Target
    else if bytes_eq word (codes "--comment") then Ok part.Comment
    else if bytes_eq word (codes "--reject-with") then Ok part.Skipped
    else Err (why_no_option word)

abbrev pub asked_for : Seen → Result Part Why → Result Seen Why
asked_for seen (Ok next) = Ok (expecting seen (expects.Says next))
asked_for seen (Err reason) = Err reason

abbrev pub option_by : Seen → List ℕ → Option Field → Result Seen Why
option_by seen word (Some next) = Ok (expecting seen (expects.Value next))
option_by seen word None = asked_for seen (part_of word)

abbrev pub read_option : List ℕ → Seen → List ℕ → Result Seen Why
read_option face seen word = option_by seen word (field_of face word)

-- and behind `!`, where only one that tests a field is said
abbrev pub why_not : Result Part Why → Why
why_not (Ok next) = why.Negation
why_not (Err reason) = reason

abbrev pub negated_by : Seen → List ℕ → Option Field → Result Seen Why
negated_by seen word (Some next) = Ok (record seen { expects = expects.Value next; negated = true })
negated_by seen word None = Err (why_not (part_of word))

abbrev pub read_negated : List ℕ → Seen → List ℕ → Result Seen Why
read_negated face seen word = negated_by seen word (field_of face word)

-- ---- a word that one before it asked for

-- what the words behind it are of
abbrev pub why_no_module : List ℕ → Why
why_no_module word = if bytes_eq word (codes "conntrack") || bytes_eq word (codes "state") then why.State else why.Match

abbrev pub is_module : List ℕ → Bool
is_module word =
    bytes_eq word (codes "tcp") || bytes_eq word (codes "udp") || bytes_eq word (codes "multiport") || bytes_eq word (codes "iprange")
    || bytes_eq word (codes "comment")

abbrev pub read_module : Seen → List ℕ → Result Seen Why
read_module seen word = if is_module word then Ok (expecting seen (expects.Says part.Option)) else Err (why_no_module word)

-- a comment, in quotes where it has several words
abbrev pub read_comment : Seen → List ℕ → Seen
read_comment seen word = expecting seen (if opens_quote word then expects.Says part.Quoted else expects.Says part.Option)

abbrev pub read_quoted : Seen → List ℕ → Seen
read_quoted seen word = expecting seen (if ends_quote word then expects.Says part.Option else expects.Says part.Quoted)

-- a target: a verdict, a return, or a chain
abbrev pub jump_to : Option ℕ → Option Target
jump_to (Some chain) = Some (Jumps chain)
jump_to None = None

abbrev pub target_of : List (List ℕ) → List ℕ → Option Target
target_of names word =
    if bytes_eq word (codes "ACCEPT") then Some (Decides true)
    else if bytes_eq word (codes "DROP") || bytes_eq word (codes "REJECT") then Some (Decides false)
    else if bytes_eq word (codes "RETURN") then Some Returns
    else jump_to (name_number names word)

abbrev pub read_target : Seen → Option Target → Option Target → Result Seen Why
read_target seen (Some before) target = Err why.Twice
read_target seen None None = Err why.Target
read_target seen None (Some target) = Ok (record seen { expects = expects.Says part.Option; target = Some target })

-- a word, by what it is to be
abbrev pub step : List ℕ → List (List ℕ) → Seen → List ℕ → Part → Result Seen Why
step face names seen word part.Option = read_option face seen word
step face names seen word part.Negated = read_negated face seen word
step face names seen word part.Module = read_module seen word
step face names seen word part.Comment = Ok (read_comment seen word)
step face names seen word part.Quoted = Ok (read_quoted seen word)
step face names seen word part.Target = read_target seen seen.target (target_of names word)
step face names seen word part.Skipped = Ok (expecting seen (expects.Says part.Option))

-- ---- what is read

-- what is seen, and the tests, one of which holds a packet where the rule does so far
pub record Read : Type 0 where
  pub seen : Seen
  pub tests : List Tests

abbrev pub nothing_read : Read
nothing_read = record { seen = first_seen; tests = any_tests ∷ [] }

-- a word that tests nothing
abbrev pub stepped : List Tests → Result Seen Why → Result Read Why
stepped tests (Ok next) = Ok (record { seen = next; tests = tests })
stepped tests (Err reason) = Err reason

-- a value, of which these are the tests
abbrev pub behind_value : Seen → Field → List ℕ → Seen
behind_value seen tested word =
    record seen { expects = expects.Says part.Option; negated = false; proto = proto_behind seen.proto tested seen.negated word }

-- no more than 4,095, as many as a list has lines
abbrev pub few_tests : List Tests → List Tests → Bool
few_tests tests said = nat_le (length tests * length said) 4095

abbrev pub valued : Seen → List Tests → Result (List Tests) Why → Result Read Why
valued next tests (Ok said) = if few_tests tests said then Ok (record { seen = next; tests = met_with tests said }) else Err why.Many
valued next tests (Err reason) = Err reason

abbrev pub read_value : IpVersion → List ℕ → Read → Field → List ℕ → Result Read Why
read_value version face read tested word =
    valued (behind_value read.seen tested word) read.tests (value_said version face read.seen.proto tested read.seen.negated word)

abbrev pub read_by : IpVersion → List ℕ → List (List ℕ) → Read → List ℕ → Expects → Result Read Why
read_by version face names read word (expects.Says next) = stepped read.tests (step face names read.seen word next)
read_by version face names read word (expects.Value tested) = read_value version face read tested word

abbrev pub read_word : IpVersion → List ℕ → List (List ℕ) → Read → List ℕ → Result Read Why
read_word version face names read word = if has_escape word then Err why.Escape else read_by version face names read word read.seen.expects

-- ---- a rule

-- where it may end
abbrev pub is_end : Part → Bool
is_end part.Option = true
is_end next = false

abbrev pub may_end : Expects → Bool
may_end (expects.Says next) = is_end next
may_end (expects.Value tested) = false

-- why it isn't said, and the word
pub record Unsaid : Type 0 where
  pub why : Why
  pub word : List ℕ

abbrev pub ended_by : Read → List ℕ → Bool → Result Read Unsaid
ended_by read last ends = if ends then Ok read else Err (record { why = why.Value; word = last })

abbrev pub goes_on : (Read → Result Read Unsaid) → List ℕ → Result Read Why → Result Read Unsaid
goes_on behind word (Ok next) = behind next
goes_on behind word (Err reason) = Err (record { why = reason; word = word })

-- All its words behind the name of its chain, by what those before them said, of which this was the last.
abbrev pub read_words : IpVersion → List ℕ → List (List ℕ) → Read → List ℕ → List (List ℕ) → Result Read Unsaid
read_words version face names read last [] = ended_by read last (may_end read.seen.expects)
read_words version face names read last (word ∷ words) =
    goes_on (λ next. read_words version face names next word words) word (read_word version face names read word)
