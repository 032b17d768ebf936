-- The line that is printed of a judgement, and the status that follows it.
use Rattle.std.specs.Prelude.{ℕ, ◌/◌, ◌%◌, ◌^◌, Some, None, List, [], ◌++◌, codes, decimal}
use Rattle.rule_model.specs.Rank.{high_of, low_of}
use Rattle.rule_model.specs.RuleSet.{Answer}
use Rattle.rule_model.specs.declared.Key.{Key}
use Rattle.rule_model.specs.declared.IpVersion.{IpVersion}
use Rattle.rule_model.specs.declared.IpVersion.TheVariants.{V4, V6}
use Rattle.line_words.specs.Shown.{ipv6_text}
use Rattle.script_runs.specs.declared.Status.{Status}
use Rattle.script_runs.specs.declared.Status.TheVariants as status
use Rattle.import_lines.specs.Import.{stop_line}
use Rattle.driver_trace.specs.declared.Leak.{Leak}
use Rattle.driver_verify.specs.declared.DriverVerdict.{DriverVerdict}
use Rattle.driver_verify.specs.declared.DriverVerdict.TheVariants as verdict

-- an IPv4 address in dotted decimal, from the number that it is
abbrev pub dotted_text : ℕ → List ℕ
dotted_text address =
    (decimal (address / 2 ^ 24) ++ codes ".") ++ ((decimal (address / 2 ^ 16 % 256) ++ codes ".") ++ ((decimal (address / 2 ^ 8 % 256) ++ codes ".") ++ decimal (address % 256)))

-- An address of a version of IP. One of IPv4 stands in the upper 32 bits.
abbrev pub address_text : IpVersion → ℕ → List ℕ
address_text V4 address = dotted_text (address / 2 ^ 96)
address_text V6 address = ipv6_text address

-- both addresses, the protocol and both ports
abbrev pub key_text : IpVersion → Key → List ℕ
key_text version key =
    address_text version key.src
    ++ (codes " " ++ (address_text version key.dst ++ ((codes " " ++ decimal key.proto) ++ ((codes " " ++ decimal key.sport) ++ (codes " " ++ decimal key.dport)))))

-- the priority of a rule, its high and its low part, and its result
abbrev pub found_text : ℕ → ℕ → List ℕ
found_text priority result = decimal (high_of priority) ++ (codes ":" ++ (decimal (low_of priority) ++ (codes " " ++ decimal result)))

-- an answer
abbrev pub answer_text : Answer → List ℕ
answer_text None = codes "none"
answer_text (Some found) = found_text found.0 found.1

-- what a packet gets, and what it might have got
abbrev pub answers_text : Leak → List ℕ
answers_text leak =
    (codes " gets " ++ answer_text leak.gets) ++ ((codes ", old " ++ answer_text leak.old) ++ ((codes ", new " ++ answer_text leak.new) ++ codes "\n"))

-- a packet gets a wrong answer behind the line of this number
abbrev pub leak_line : IpVersion → ℕ → Leak → List ℕ
leak_line version line leak =
    codes "no line " ++ (decimal line ++ (codes " packet " ++ (key_text version leak.key ++ answers_text leak)))

-- so many commits and writes, each of them hitless
abbrev pub yes_line : ℕ → ℕ → List ℕ
yes_line commits writes = codes "yes commits " ++ (decimal commits ++ (codes " writes " ++ (decimal writes ++ codes "\n")))

-- The line that is printed of an answer; none, where nothing is told.
abbrev pub told_text : DriverVerdict → List ℕ
told_text (verdict.Yes commits writes) = yes_line commits writes
told_text (verdict.No line version leak) = leak_line version line leak
told_text (verdict.NotJudged line) = stop_line line (codes "not judged")
told_text (verdict.Bad line) = stop_line line (codes "bad trace")
told_text (verdict.TooLong line) = stop_line line (codes "line too long")
told_text (verdict.BadByte line) = stop_line line (codes "bad byte")
told_text verdict.Read = []
told_text verdict.Memory = []

-- The status that follows: a line that wasn't judged has one that no other end has.
abbrev pub told_status : DriverVerdict → Status
told_status (verdict.Yes commits writes) = status.Done
told_status (verdict.No line version leak) = status.Refused
told_status (verdict.NotJudged line) = status.DeviceFault
told_status (verdict.Bad line) = status.Script
told_status (verdict.TooLong line) = status.Script
told_status (verdict.BadByte line) = status.Script
told_status verdict.Read = status.ReadFault
told_status verdict.Memory = status.Memory
