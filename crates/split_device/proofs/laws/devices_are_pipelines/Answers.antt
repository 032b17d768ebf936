use Rattle.split_device.proofs.Flights.{devices_are_pipelines}
use Rattle.split_device.proofs.laws.devices_are_pipelines.Goals as goal

pub returns : goal.returns
returns c = devices_are_pipelines
