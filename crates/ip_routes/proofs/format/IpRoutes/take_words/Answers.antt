use Rattle.std.proofs.Common.{sym, ap}
use Rattle.ip_routes.specs.Telling.{told_of, after_of}
use Rattle.ip_routes.proofs.Ways.{words-read, told-again, after-again, told-err}
use Rattle.ip_routes.proofs.format.IpRoutes.take_words.Goals as goal

pub returns-in-Ok-clause-told : goal.returns-in-Ok-clause-told
returns-in-Ok-clause-told c = told-again _ _ _ _ (ap (λ r. told_of c.args.self.now r) (sym (words-read _ _ c.new-route.result _ _ c.version.ensures c.new-route.ensures c.in-Ok.ensures))) c.tell.ensures.told

pub returns-in-Ok-clause-said : goal.returns-in-Ok-clause-said
returns-in-Ok-clause-said c = after-again _ _ _ _ (ap (λ r. after_of c.args.self.now r) (sym (words-read _ _ c.new-route.result _ _ c.version.ensures c.new-route.ensures c.in-Ok.ensures))) c.tell.ensures.said

pub returns-in_ok-put_why-in-Err-clause-told : goal.returns-in_ok-put_why-in-Err-clause-told
returns-in_ok-put_why-in-Err-clause-told c = told-err c.args.self.now _ _ _ _ _ (words-read _ _ c.new-route.result _ _ c.version.ensures c.new-route.ensures c.in-Err.ensures) c.in_ok-put_why-in-Err.ensures c.requires
