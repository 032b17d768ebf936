use Rattle.std.proofs.Common.{sym, ap}
use Rattle.ip_routes.specs.Words.{gap_words}
use Rattle.ip_monitor.specs.Telling.{read_after}
use Rattle.ip_monitor.proofs.Happened.{after-again, read-bad, read-told, told-again, words-read}
use Rattle.ip_monitor.proofs.format.IpMonitor.read_event.Goals as goal

pub returns-in-Ok-clause-told : goal.returns-in-Ok-clause-told
returns-in-Ok-clause-told c =
    told-again _ _ _ _ (read-told c.args.self.now c.args.gone _ _ _ _ c.is_advertised.ensures (words-read _ _ c.args.gone c.new-route.result (gap_words c.args.text.now) _ c.version.ensures c.new-route.ensures c.in-Ok.ensures)) c.tell.ensures.told

pub returns-in-Ok-clause-said : goal.returns-in-Ok-clause-said
returns-in-Ok-clause-said c =
    after-again _ _ _ _ (ap (λ r. read_after c.args.self.now c.args.gone r) (sym (words-read _ _ c.args.gone c.new-route.result (gap_words c.args.text.now) _ c.version.ensures c.new-route.ensures c.in-Ok.ensures))) c.tell.ensures.said

pub returns-in_ok-put_why-in-Err-clause-told : goal.returns-in_ok-put_why-in-Err-clause-told
returns-in_ok-put_why-in-Err-clause-told c =
    read-bad c.args.self.now c.args.gone _ _ _ _ _ _ (words-read _ _ c.args.gone c.new-route.result (gap_words c.args.text.now) _ c.version.ensures c.new-route.ensures c.in-Err.ensures) c.in_ok-put_why-in-Err.ensures c.requires
