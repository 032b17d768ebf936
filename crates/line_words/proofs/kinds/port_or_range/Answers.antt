use Rattle.line_words.proofs.Ranges.{one-port}
use Rattle.line_words.proofs.kinds.port_or_range.Goals as goal

pub returns-in-None : goal.returns-in-None
returns-in-None c =
    let whole = c.in-None.ensures in
    let same = rw whole at c.port_range.ensures in
    rw whole (rw one-port at same)
