use Rattle.json_traces.proofs.Narrowed.{segments_on_devices}
use Rattle.json_traces.proofs.laws.segments_are_orderly_on_devices.Goals as goal

pub returns : goal.returns
returns c = segments_on_devices
