use Rattle.ip_routes.proofs.Steps.{address-read}
use Rattle.ip_routes.proofs.reading.Reading.read_address.Goals as goal

pub returns : goal.returns
returns c = address-read c.args.self.now _ c.args.word.now _ _ c.behind_via.ensures c.expect.ensures c.put_hop.ensures
