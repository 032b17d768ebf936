use Rattle.std.proofs.Common.{OnOk, IfErr, sym, subst}
use Rattle.driver_trace.specs.Judged.{IsHitlessLine}
use Rattle.line_judge.specs.Tracked.{MayBeTaken, StopsAt, TakesLine, known_of}
use Rattle.line_judge.proofs.track.Track.follow.Goals as goal

pub follow_common-requires-clause-may : goal.follow_common-requires-clause-may
follow_common-requires-clause-may c = subst (MayBeTaken c.args.self.now) c.in-Common.is c.requires.may

pub follow_common-requires-clause-hitless : goal.follow_common-requires-clause-hitless
follow_common-requires-clause-hitless c = subst (IsHitlessLine c.args.self.now.by (known_of c.args.self.now)) c.in-Common.is c.requires.hitless

pub returns-in-Common-clause-taken : goal.returns-in-Common-clause-taken
returns-in-Common-clause-taken c = subst (λ line. OnOk c.follow_common.result (TakesLine c.args.self.now line c.follow_common.new.self)) (sym c.in-Common.is) c.follow_common.ensures.taken

pub returns-in-Common-clause-stopped : goal.returns-in-Common-clause-stopped
returns-in-Common-clause-stopped c = subst (λ line. IfErr c.follow_common.result (StopsAt c.args.self.now line)) (sym c.in-Common.is) c.follow_common.ensures.stopped

pub take_move-requires : goal.take_move-requires
take_move-requires c = subst (MayBeTaken c.args.self.now) c.in-Move.is c.requires.may

pub returns-in-Move-clause-taken : goal.returns-in-Move-clause-taken
returns-in-Move-clause-taken c = subst (λ line. OnOk c.take_move.result (TakesLine c.args.self.now line c.take_move.new.self)) (sym c.in-Move.is) c.take_move.ensures.taken

pub returns-in-Move-clause-stopped : goal.returns-in-Move-clause-stopped
returns-in-Move-clause-stopped c = subst (λ line. IfErr c.take_move.result (StopsAt c.args.self.now line)) (sym c.in-Move.is) c.take_move.ensures.stopped

pub back-requires : goal.back-requires
back-requires c = subst (MayBeTaken c.args.self.now) c.in-Back.is c.requires.may

pub returns-in-Back-clause-taken : goal.returns-in-Back-clause-taken
returns-in-Back-clause-taken c = subst (λ line. OnOk c.back.result (TakesLine c.args.self.now line c.back.new.self)) (sym c.in-Back.is) c.back.ensures.taken

pub returns-in-Back-clause-stopped : goal.returns-in-Back-clause-stopped
returns-in-Back-clause-stopped c = subst (λ line. IfErr c.back.result (StopsAt c.args.self.now line)) (sym c.in-Back.is) c.back.ensures.stopped
