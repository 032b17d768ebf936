use Rattle.judge_cli.proofs.Told.{read-counted}
use Rattle.judge_cli.proofs.top.judge.Goals as goal

pub returns-clause-judged : goal.returns-clause-judged
returns-clause-judged g c = (c.verify_driver-verdict.result, c.verify_driver-verdict.ensures.gives.0, c.verify_driver-verdict.ensures.gives.1, c.verify_driver-verdict.ensures.gives.2, c.tell.ensures.tells)

pub returns-clause-read : goal.returns-clause-read
returns-clause-read g c = read-counted c.verify_driver-verdict.result _ _ _ c.verify_driver-verdict.ensures.cause c.tell.ensures.read c.tell.ensures.unread
