use Rattle.std.proofs.Common.{sym, subst}
use Rattle.rule_model.specs.declared.words.Entry.{Entry}
use Rattle.rule_model.specs.Entry.{IsMasked, HitsExactly}
use Rattle.rule_model.proofs.Exact.{hits-entry_of}
use Rattle.rule_model.proofs.Masked.{entry_of-masked}
use Rattle.rule_model.proofs.words.entry_of.Goals as goal

pub returns-clause-entry : goal.returns-clause-entry
returns-clause-entry c = cc

pub returns-clause-hits : goal.returns-clause-hits
returns-clause-hits c =
    subst (λ (e : Entry). HitsExactly c.args.piece.now e) (sym (returns-clause-entry c))
    (hits-entry_of c.args.piece.now c.args.tag c.args.answer
    (record {
      src_right = c.addr.ensures.block;
      dst_right = c.addr-2.ensures.block;
      proto_right = c.proto_value.ensures.fits;
      sport_right = c.port_mask.ensures.range;
      dport_right = c.port_mask-2.ensures.range;
    }) c.requires)

pub returns-clause-masked : goal.returns-clause-masked
returns-clause-masked c =
    subst (λ (e : Entry). IsMasked e.value.lane e.mask.lane) (sym (returns-clause-entry c))
    (entry_of-masked c.args.piece.now
    (record {
      src_right = c.addr.ensures.block;
      dst_right = c.addr-2.ensures.block;
      proto_right = c.proto_value.ensures.fits;
      sport_right = c.port_mask.ensures.range;
      dport_right = c.port_mask-2.ensures.range;
    }) c.requires)
