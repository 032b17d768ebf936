-- Each text of a fault that a script with a report in JSON may have is short and plain.
use Rattle.std.proofs.Common.{◌≡◌, ℕ, Bool, true, nat_le, Option, Some, None, Result, Ok, Err, List, [], length, codes, refl, subst, leb-true}
use Rattle.rule_model.specs.declared.IpVersion.TheVariants.{V4, V6}
use Rattle.script_lines.specs.Lines.{LinesEnd, EndOfInput, Faulty}
use Rattle.script_lines.specs.declared.LineFault.TheVariants.{Read, ScriptTooLong, TooLong, BadByte}
use Rattle.packet_keys.specs.declared.FrameFault.{FrameFault}
use Rattle.packet_keys.specs.declared.FrameFault.TheVariants.{Empty, Version, HeaderLength, Short}
use Rattle.line_words.specs.declared.WordFault.{WordFault}
use Rattle.line_words.specs.declared.WordFault.TheVariants.{UnknownCommand, WordCount, BadPrefix, HostBits, BadResult, BadSequence, BadCount, BadAction, BadProtocol, BadPorts, BadAddress, BadHex, Frame}
use Rattle.line_words.specs.Notations.{notation_for}
use Rattle.line_words.specs.Texts.{frame_fault_text, word_fault_text}
use Rattle.route_reader.specs.Grammar.{route_line}
use Rattle.acl_reader.specs.Grammar.{acl_line}
use Rattle.json_text.specs.JsonText.{IsPlainText}
use Rattle.replay.specs.declared.Act.{Act}
use Rattle.replay.specs.declared.Act.TheVariants.{Command, Ask, All, Probe, Packet, Commit, Trial, Crash}
use Rattle.report_lines.specs.declared.Family.{Family}
use Rattle.report_lines.specs.declared.Family.TheVariants.{Route, Acl, Route6, Acl6}
use Rattle.replay.specs.Effects.{Setting}
use Rattle.script_runs.specs.Script.{byte_end}
use Rattle.tcam_cli.specs.Readings.{route_act, acl_act, reading, reading_of, reading_by, line_told_by, told_by}
use Rattle.json_traces.specs.Reported.{IsPlainFault}
use Rattle.json_traces.proofs.Fitting.{are_of_line, all_of_line}
use Rattle.json_traces.proofs.Scripts.{EndsPlainly, IsSmallEnd}

-- a text that passes the tests
plain_text : (text : List ℕ) → IsPlainText text → are_of_line text ≡ true → nat_le (length text) 32 ≡ true → IsPlainFault text
plain_text text plain of_line short = record { plain = plain; bytes = all_of_line text of_line; short = leb-true (length text) 32 short }

-- the text of no fault
pub none_plain : IsPlainFault []
none_plain = plain_text [] refl refl refl

pub batch_plain : IsPlainFault (codes "batch full")
batch_plain = plain_text (codes "batch full") refl refl refl

pub changes_plain : IsPlainFault (codes "changes pending")
changes_plain = plain_text (codes "changes pending") refl refl refl

pub probes_plain : IsPlainFault (codes "too many probes")
probes_plain = plain_text (codes "too many probes") refl refl refl

not_with_json : IsPlainFault (codes "not with json")
not_with_json = plain_text (codes "not with json") refl refl refl

frame_plain : (fault : FrameFault) → IsPlainFault (frame_fault_text fault)
frame_plain Empty = plain_text (codes "empty packet") refl refl refl
frame_plain Version = plain_text (codes "bad version") refl refl refl
frame_plain HeaderLength = plain_text (codes "bad header length") refl refl refl
frame_plain Short = plain_text (codes "short packet") refl refl refl

word_plain : (fault : WordFault) → IsPlainFault (word_fault_text fault)
word_plain UnknownCommand = plain_text (codes "unknown command") refl refl refl
word_plain WordCount = plain_text (codes "word count") refl refl refl
word_plain BadPrefix = plain_text (codes "bad prefix") refl refl refl
word_plain HostBits = plain_text (codes "host bits") refl refl refl
word_plain BadResult = plain_text (codes "bad result") refl refl refl
word_plain BadSequence = plain_text (codes "bad sequence") refl refl refl
word_plain BadCount = plain_text (codes "bad count") refl refl refl
word_plain BadAction = plain_text (codes "bad action") refl refl refl
word_plain BadProtocol = plain_text (codes "bad protocol") refl refl refl
word_plain BadPorts = plain_text (codes "bad ports") refl refl refl
word_plain BadAddress = plain_text (codes "bad address") refl refl refl
word_plain BadHex = plain_text (codes "bad hex") refl refl refl
word_plain (Frame fault) = frame_plain fault

-- ---- a line's fault

of_words : {C : Type 0} (act : C → Act) (r : Result (Option C) WordFault) (text : List ℕ) → reading_of act r ≡ Err text → IsPlainFault text
of_words act (Ok found) text is = absurd (cc)
of_words act (Err fault) text is = subst IsPlainFault (let e : word_fault_text fault ≡ text = cc in e) (word_plain fault)

of_act : (act : Act) (text : List ℕ) → told_by true act ≡ Err text → IsPlainFault text
of_act (Command change) text is = absurd (cc)
of_act (Ask request) text is = absurd (cc)
of_act All text is = absurd (cc)
of_act (Probe key) text is = absurd (cc)
of_act (Packet key) text is = absurd (cc)
of_act Commit text is = absurd (cc)
of_act (Trial most) text is = subst IsPlainFault (let e : codes "not with json" ≡ text = cc in e) not_with_json
of_act (Crash after) text is = subst IsPlainFault (let e : codes "not with json" ≡ text = cc in e) not_with_json

of_line : (r : Result (Option Act) (List ℕ)) (text : List ℕ) → ((other : List ℕ) → r ≡ Err other → IsPlainFault other) → line_told_by true r ≡ Err text → IsPlainFault text
of_line (Err other) text each is = subst IsPlainFault (let e : other ≡ text = cc in e) (each other refl)
of_line (Ok None) text each is = absurd (cc)
of_line (Ok (Some act)) text each is = of_act act text is

read_plain : (family : Family) (line text : List ℕ) → reading family line ≡ Err text → IsPlainFault text
read_plain Route line text is = of_words (route_act V4) (route_line (notation_for V4) line) text is
read_plain Acl line text is = of_words acl_act (acl_line (notation_for V4) line) text is
read_plain Route6 line text is = of_words (route_act V6) (route_line (notation_for V6) line) text is
read_plain Acl6 line text is = of_words acl_act (acl_line (notation_for V6) line) text is

pub reading_plain : (setting : Setting) → setting.json ≡ true → (line text : List ℕ) → reading_by setting line ≡ Err text → IsPlainFault text
reading_plain setting json line text is =
    of_line (reading setting.family line) text (λ other read. read_plain setting.family line other read) (subst (λ (told : Bool). line_told_by told (reading setting.family line) ≡ Err text) json is)

-- ---- a byte's fault

pub byte_plain : (last : LinesEnd) → IsSmallEnd last → EndsPlainly (byte_end last)
byte_plain EndOfInput small = tt
byte_plain (Faulty (ScriptTooLong number)) small = (small, plain_text (codes "script too long") refl refl refl)
byte_plain (Faulty (TooLong number)) small = (small, plain_text (codes "line too long") refl refl refl)
byte_plain (Faulty (BadByte number)) small = (small, plain_text (codes "bad byte") refl refl refl)
byte_plain (Faulty Read) small = tt
