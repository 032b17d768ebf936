use Rattle.std.proofs.Common.{◌∙◌}
use Rattle.iptables.proofs.Pieces.{block-is, no-fault, whole-none}
use Rattle.iptables.proofs.blocks.numbered_block.Goals as goal

pub returns-in-Ok : goal.returns-in-Ok
returns-in-Ok c = c.in-Ok.ensures.block ∙ block-is c.args.number c.args.len c.requires.length c.requires.fits

pub returns-in-Err : goal.returns-in-Err
returns-in-Err c =
    let none = whole-none c.args.number c.args.len c.requires.length c.requires.fits in
    absurd (no-fault c.v6.result _ c.args.len c.in-Err.field-0 c.requires.length none c.v6.ensures.length c.v6.ensures.host_bits c.in-Err.is)
