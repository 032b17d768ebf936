use Rattle.std.proofs.lemmas.List.{take_rest}
use Rattle.line_words.proofs.Shown.{shortened-made}
use Rattle.line_words.proofs.printed.Ipv6Text.shortened.Goals as goal

pub returns-else-run-lt2-clause-text : goal.returns-else-run-lt2-clause-text
returns-else-run-lt2-clause-text c =
    rw (c.groups-else-run-lt2-2.ensures.text, c.text.ensures.text, c.groups-else-run-lt2.ensures.text, c.empty-else-run-lt2.ensures, take_rest)
    (shortened-made c.args.groups.now c.args.run c.if-run-lt2.false)
