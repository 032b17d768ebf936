use Rattle.cisco_lists.proofs.EntrySteps.{entry-read}
use Rattle.cisco_lists.proofs.entry.read_entry.Goals as goal

pub returns : goal.returns
returns c =
    entry-read c.args.at.now c.permits-permits.new.at c.protocol-protocol.new.at c.side-src.new.at c.ports-sports.new.at c.side-dst.new.at c.ports-dports.new.at c.logs-logs.new.at c.permits-permits.result c.protocol-protocol.result c.side-src.result c.ports-sports.result.items c.side-dst.result c.ports-dports.result.items c.logs-logs.result
    c.permits-permits.ensures c.protocol-protocol.ensures c.side-src.ensures c.ports-sports.ensures c.side-dst.ensures c.ports-dports.ensures c.logs-logs.ensures
