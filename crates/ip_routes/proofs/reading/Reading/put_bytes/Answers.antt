use Rattle.std.proofs.Common.{true, false}
use Rattle.ip_routes.proofs.Steps.{fits-is, bytes-fit, bytes-over}
use Rattle.ip_routes.proofs.reading.Reading.put_bytes.Goals as goal

pub returns : goal.returns
returns c = bytes-fit _ c.args.self.now c.args.bytes.now _ c.self.view_is (fits-is true _ _ c.in-Ok.ensures.variant) c.in-Ok.ensures.ok

pub returns-in-Err : goal.returns-in-Err
returns-in-Err c = bytes-over _ c.args.self.now c.args.bytes.now c.self.view_is (fits-is false _ _ c.in-Err.ensures.variant)
