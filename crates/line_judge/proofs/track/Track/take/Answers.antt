use Rattle.std.proofs.Common.{OnOk, IfErr, sym, subst}
use Rattle.line_judge.specs.Tracked.{MayBeTaken, StopsAt, TakesLine}
use Rattle.line_judge.proofs.track.Track.take.Goals as goal

pub take_common-requires : goal.take_common-requires
take_common-requires c = subst (MayBeTaken c.args.self.now) c.in-Common.is c.requires

pub returns-in-Common-clause-taken : goal.returns-in-Common-clause-taken
returns-in-Common-clause-taken c = subst (λ line. OnOk c.take_common.result (TakesLine c.args.self.now line c.take_common.new.self)) (sym c.in-Common.is) c.take_common.ensures.taken

pub returns-in-Common-clause-stopped : goal.returns-in-Common-clause-stopped
returns-in-Common-clause-stopped c = subst (λ line. IfErr c.take_common.result (StopsAt c.args.self.now line)) (sym c.in-Common.is) c.take_common.ensures.stopped

pub take_move-requires : goal.take_move-requires
take_move-requires c = subst (MayBeTaken c.args.self.now) c.in-Move.is c.requires

pub returns-in-Move-clause-taken : goal.returns-in-Move-clause-taken
returns-in-Move-clause-taken c = subst (λ line. OnOk c.take_move.result (TakesLine c.args.self.now line c.take_move.new.self)) (sym c.in-Move.is) c.take_move.ensures.taken

pub returns-in-Move-clause-stopped : goal.returns-in-Move-clause-stopped
returns-in-Move-clause-stopped c = subst (λ line. IfErr c.take_move.result (StopsAt c.args.self.now line)) (sym c.in-Move.is) c.take_move.ensures.stopped

pub back-requires : goal.back-requires
back-requires c = subst (MayBeTaken c.args.self.now) c.in-Back.is c.requires

pub returns-in-Back-clause-taken : goal.returns-in-Back-clause-taken
returns-in-Back-clause-taken c = subst (λ line. OnOk c.back.result (TakesLine c.args.self.now line c.back.new.self)) (sym c.in-Back.is) c.back.ensures.taken

pub returns-in-Back-clause-stopped : goal.returns-in-Back-clause-stopped
returns-in-Back-clause-stopped c = subst (λ line. IfErr c.back.result (StopsAt c.args.self.now line)) (sym c.in-Back.is) c.back.ensures.stopped
