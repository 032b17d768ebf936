use Rattle.ip_routes.specs.Words.{gap_words}
use Rattle.ip_monitor.proofs.Happened.{after-again, own-after, own-told, passed-after, passed-told, told-again}
use Rattle.ip_monitor.proofs.format.IpMonitor.take_event.Goals as goal

pub returns-in_ok-put_passed-in-Some-clause-told : goal.returns-in_ok-put_passed-in-Some-clause-told
returns-in_ok-put_passed-in-Some-clause-told c = passed-told c.args.self.now c.args.gone _ (gap_words c.args.text.now) _ _ _ _ c.version.ensures c.in-Some.ensures c.in_ok-put_passed-in-Some.ensures c.requires

pub returns-in_ok-put_passed-in-Some-clause-said : goal.returns-in_ok-put_passed-in-Some-clause-said
returns-in_ok-put_passed-in-Some-clause-said c = λ _. passed-after c.args.self.now c.args.gone _ (gap_words c.args.text.now) _ c.version.ensures c.in-Some.ensures

pub returns-in-None-clause-told : goal.returns-in-None-clause-told
returns-in-None-clause-told c = told-again _ _ _ _ (own-told c.args.self.now c.args.gone _ (gap_words c.args.text.now) c.version.ensures c.in-None.ensures) c.read_event.ensures.told

pub returns-in-None-clause-said : goal.returns-in-None-clause-said
returns-in-None-clause-said c = after-again _ _ _ _ (own-after c.args.self.now c.args.gone _ (gap_words c.args.text.now) c.version.ensures c.in-None.ensures) c.read_event.ensures.said
