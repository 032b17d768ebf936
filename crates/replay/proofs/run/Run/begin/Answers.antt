-- What comes of the commit behind the lines that are told of it first, or one of those is cut.
use Rattle.replay.specs.Running.{setting_of}
use Rattle.replay.proofs.between.Beginning.{opening-breaks, resumes-behind}
use Rattle.replay.proofs.lines.Opened.{events-opened}
use Rattle.replay.proofs.run.Run.begin.Goals as goal

pub returns-in-Ok-clause-resumes : goal.returns-in-Ok-clause-resumes
returns-in-Ok-clause-resumes g c = λ which before unfinished at current.
    let run = c.args.self.now in
    resumes-behind c.carry_out.result _ before _ _ c.carry_out.new.self _ _ _ _ _ _ (events-opened (setting_of run) run.commits run.pending) (c.in-Ok.ensures.lines.whole which)
    (c.carry_out.ensures.resumes which before _ unfinished at current)

pub returns-in-Err-clause-resumes : goal.returns-in-Err-clause-resumes
returns-in-Err-clause-resumes g c = λ which before unfinished at current.
    opening-breaks (g.D.Writable.view c.args.device.now).slots before c.args.self.now unfinished c.in-Err.ensures.run c.requires.slots c.requires.told (g.D.Writable.view c.args.device.now).events _ _ (c.in-Err.ensures.lines.part which)
