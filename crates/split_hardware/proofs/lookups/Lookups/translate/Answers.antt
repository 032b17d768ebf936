use Rattle.std.proofs.Common.{ap}
use Rattle.split_hardware.proofs.Kept.{translated}
use Rattle.split_hardware.proofs.lookups.Lookups.translate.Goals as goal

pub returns-clause-flight : goal.returns-clause-flight
returns-clause-flight c =
    let i = c.self.inside in
    rw (← c.self.view_is) (translated i.memory.state i.words.items _ i.found.items c.args.key.now c.word-word.result (ap (λ b. b.items) c.in-Ok.ensures.ok) c.word-word.ensures)
