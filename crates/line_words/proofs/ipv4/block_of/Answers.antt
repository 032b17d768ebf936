use Rattle.std.proofs.Common.{Err, ap, sym}
use Rattle.line_words.proofs.HostBits.{host-bits}
use Rattle.line_words.proofs.ipv4.block_of.Goals as goal

pub returns-in-Err-HostBits : goal.returns-in-Err-HostBits
returns-in-Err-HostBits c =
    let refused = c.in-Err-HostBits.ensures.host_bits.0 (ap Err c.in-Err-HostBits.field-0-is) in
    sym (host-bits c.args.address c.args.len c.requires refused.1)
