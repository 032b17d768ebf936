use Rattle.import_cli.proofs.Carried.{any-list, this-list}
use Rattle.std.proofs.Common.{sym, ◌∙◌}
use Rattle.import_cli.proofs.top.list_named.Goals as goal

pub returns-then-is_empty : goal.returns-then-is_empty
returns-then-is_empty c = any-list c.args.name.now _ c.args.leave_out _ c.as_bytes-bytes.ensures (sym c.is_empty.ensures ∙ c.if-is_empty.true) c.new.ensures

pub returns : goal.returns
returns c = this-list c.args.name.now _ _ c.args.leave_out _ c.as_bytes-bytes.ensures (sym c.is_empty.ensures ∙ c.if-is_empty.false) c.in_ok-from_slice.ensures.items c.new-2.ensures
