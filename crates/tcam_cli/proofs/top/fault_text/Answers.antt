use Rattle.std.proofs.Common.{◌≤◌, length, lit≤}
use Rattle.packet_keys.specs.declared.FrameFault.TheVariants.{Empty, Version, HeaderLength, Short}
use Rattle.line_words.specs.declared.WordFault.{WordFault}
use Rattle.line_words.specs.declared.WordFault.TheVariants.{UnknownCommand, WordCount, BadPrefix, HostBits, BadResult, BadSequence, BadCount, BadAction, BadProtocol, BadPorts, BadAddress, BadHex, Frame}
use Rattle.line_words.specs.Texts.{word_fault_text}
use Rattle.tcam_cli.proofs.top.fault_text.Goals as goal

-- no text of a word's fault is long
short : (fault : WordFault) → length (word_fault_text fault) ≤ 32
short UnknownCommand = lit≤ tt
short WordCount = lit≤ tt
short BadPrefix = lit≤ tt
short HostBits = lit≤ tt
short BadResult = lit≤ tt
short BadSequence = lit≤ tt
short BadCount = lit≤ tt
short BadAction = lit≤ tt
short BadProtocol = lit≤ tt
short BadPorts = lit≤ tt
short BadAddress = lit≤ tt
short BadHex = lit≤ tt
short (Frame Empty) = lit≤ tt
short (Frame Version) = lit≤ tt
short (Frame HeaderLength) = lit≤ tt
short (Frame Short) = lit≤ tt

pub returns-clause-short : goal.returns-clause-short
returns-clause-short c = rw c.text.ensures (short c.args.fault.now)
