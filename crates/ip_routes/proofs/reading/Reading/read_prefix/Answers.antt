use Rattle.ip_routes.proofs.Steps.{prefix-fits, prefix-over}
use Rattle.ip_routes.proofs.reading.Reading.read_prefix.Goals as goal

pub returns-then-fits : goal.returns-then-fits
returns-then-fits c = prefix-fits c.args.version _ c.args.self.now c.args.word.now _ _ _ c.self.view_is c.put_prefix-fits.ensures.fits c.if-fits.true (c.put_prefix-fits.ensures.text c.if-fits.true) c.read_text.ensures

pub returns : goal.returns
returns c = prefix-over c.args.version c.args.self.now c.args.word.now _ c.put_prefix-fits.ensures.fits c.if-fits.false
