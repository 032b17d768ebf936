use Rattle.ip_routes.proofs.Steps.{text-read, text-bad}
use Rattle.ip_routes.proofs.reading.Reading.read_text.Goals as goal

pub returns-in-Ok : goal.returns-in-Ok
returns-in-Ok c = text-read c.args.version _ _ _ _ c.self.view_is c.as_slice.ensures.value c.in-Ok.ensures

pub returns-in-Err : goal.returns-in-Err
returns-in-Err c = text-bad c.args.version _ _ _ _ c.self.view_is c.as_slice.ensures.value c.in-Err.ensures
