use Rattle.std.proofs.Common.{OnOk, IfErr, sym, subst}
use Rattle.driver_trace.specs.declared.DriverLine.TheVariants as driver
use Rattle.driver_trace.specs.Judged.{IsHitlessLine}
use Rattle.line_judge.specs.Tracked.{MayBeTaken, StopsAt, TakesLine, known_of}
use Rattle.line_judge.proofs.track.Track.follow_common.Goals as goal

pub follow_put-requires-clause-may : goal.follow_put-requires-clause-may
follow_put-requires-clause-may c = subst (λ line. MayBeTaken c.args.self.now (driver.Common line)) c.in-Put.is c.requires.may

pub follow_put-requires-clause-hitless : goal.follow_put-requires-clause-hitless
follow_put-requires-clause-hitless c = subst (λ line. IsHitlessLine c.args.self.now.by (known_of c.args.self.now) (driver.Common line)) c.in-Put.is c.requires.hitless

pub returns-in-Put-clause-taken : goal.returns-in-Put-clause-taken
returns-in-Put-clause-taken c = subst (λ line. OnOk c.follow_put.result (TakesLine c.args.self.now (driver.Common line) c.follow_put.new.self)) (sym c.in-Put.is) c.follow_put.ensures.taken

pub returns-in-Put-clause-stopped : goal.returns-in-Put-clause-stopped
returns-in-Put-clause-stopped c = subst (λ line. IfErr c.follow_put.result (StopsAt c.args.self.now (driver.Common line))) (sym c.in-Put.is) c.follow_put.ensures.stopped

pub follow_erase-requires-clause-may : goal.follow_erase-requires-clause-may
follow_erase-requires-clause-may c = subst (λ line. MayBeTaken c.args.self.now (driver.Common line)) c.in-Erase.is c.requires.may

pub follow_erase-requires-clause-hitless : goal.follow_erase-requires-clause-hitless
follow_erase-requires-clause-hitless c = subst (λ line. IsHitlessLine c.args.self.now.by (known_of c.args.self.now) (driver.Common line)) c.in-Erase.is c.requires.hitless

pub returns-in-Erase-clause-taken : goal.returns-in-Erase-clause-taken
returns-in-Erase-clause-taken c = subst (λ line. OnOk c.follow_erase.result (TakesLine c.args.self.now (driver.Common line) c.follow_erase.new.self)) (sym c.in-Erase.is) c.follow_erase.ensures.taken

pub returns-in-Erase-clause-stopped : goal.returns-in-Erase-clause-stopped
returns-in-Erase-clause-stopped c = subst (λ line. IfErr c.follow_erase.result (StopsAt c.args.self.now (driver.Common line))) (sym c.in-Erase.is) c.follow_erase.ensures.stopped

pub follow_word-requires-clause-may : goal.follow_word-requires-clause-may
follow_word-requires-clause-may c = subst (λ line. MayBeTaken c.args.self.now (driver.Common line)) c.in-Table.is c.requires.may

pub follow_word-requires-clause-hitless : goal.follow_word-requires-clause-hitless
follow_word-requires-clause-hitless c = subst (λ line. IsHitlessLine c.args.self.now.by (known_of c.args.self.now) (driver.Common line)) c.in-Table.is c.requires.hitless

pub returns-in-Table-clause-taken : goal.returns-in-Table-clause-taken
returns-in-Table-clause-taken c = subst (λ line. OnOk c.follow_word.result (TakesLine c.args.self.now (driver.Common line) c.follow_word.new.self)) (sym c.in-Table.is) c.follow_word.ensures.taken

pub returns-in-Table-clause-stopped : goal.returns-in-Table-clause-stopped
returns-in-Table-clause-stopped c = subst (λ line. IfErr c.follow_word.result (StopsAt c.args.self.now (driver.Common line))) (sym c.in-Table.is) c.follow_word.ensures.stopped

pub follow_done-requires-clause-may : goal.follow_done-requires-clause-may
follow_done-requires-clause-may c = subst (λ line. MayBeTaken c.args.self.now (driver.Common line)) c.in-Done.is c.requires.may

pub follow_done-requires-clause-hitless : goal.follow_done-requires-clause-hitless
follow_done-requires-clause-hitless c = subst (λ line. IsHitlessLine c.args.self.now.by (known_of c.args.self.now) (driver.Common line)) c.in-Done.is c.requires.hitless

pub returns-in-Done-clause-taken : goal.returns-in-Done-clause-taken
returns-in-Done-clause-taken c = subst (λ line. OnOk c.follow_done.result (TakesLine c.args.self.now (driver.Common line) c.follow_done.new.self)) (sym c.in-Done.is) c.follow_done.ensures.taken

pub returns-in-Done-clause-stopped : goal.returns-in-Done-clause-stopped
returns-in-Done-clause-stopped c = subst (λ line. IfErr c.follow_done.result (StopsAt c.args.self.now (driver.Common line))) (sym c.in-Done.is) c.follow_done.ensures.stopped
