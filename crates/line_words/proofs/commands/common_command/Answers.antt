use Rattle.std.proofs.Common.{rules, arith}
use Rattle.std.proofs.lemmas.Slice.Eq.{text_from_reads}
use Rattle.std.specs.Prelude.{codes}
use Rattle.line_words.specs.declared.commands.CommonCommand.TheVariants.{Probe, Packet, Trial, Crash}
use Rattle.line_words.proofs.Mapped.{mapped}
use Rattle.line_words.proofs.commands.common_command.Goals as goal

pub returns-in-probe : goal.returns-in-probe
returns-in-probe c =
    let word = text_from_reads c.args.first.now (codes "probe") (omega arith) (search rules) in
    rw (word, ← c.key_of.ensures) (mapped c.key_of.result Probe c.map.result c.map.ensures.cases)

pub returns-in-packet : goal.returns-in-packet
returns-in-packet c =
    let word = text_from_reads c.args.first.now (codes "packet") (omega arith) (search rules) in
    rw (word, ← c.key_of-in-packet.ensures) (mapped c.key_of-in-packet.result Packet c.map-in-packet.result c.map-in-packet.ensures.cases)

pub returns-in-trial : goal.returns-in-trial
returns-in-trial c =
    let word = text_from_reads c.args.first.now (codes "trial") (omega arith) (search rules) in
    rw (word, ← c.limit_of.ensures) (mapped c.limit_of.result Trial c.map-in-trial.result c.map-in-trial.ensures.cases)

pub returns-in-crash : goal.returns-in-crash
returns-in-crash c =
    let word = text_from_reads c.args.first.now (codes "crash") (omega arith) (search rules) in
    rw (word, ← c.limit_of-in-crash.ensures) (mapped c.limit_of-in-crash.result Crash c.map-in-crash.result c.map-in-crash.ensures.cases)

pub returns-in-commit : goal.returns-in-commit
returns-in-commit c =
    let word = text_from_reads c.args.first.now (codes "commit") (omega arith) (search rules) in
    rw word c.commit_of.ensures
