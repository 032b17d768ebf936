use Rattle.std.proofs.Common.{sym, ap, ◌∙◌}
use Rattle.import_lines.specs.Import.{SaidBy}
use Rattle.ip_monitor.proofs.Happened.{after-again, after-gone, after-none, after-stands, told-again, told-gone, told-none, told-stands}
use Rattle.ip_monitor.proofs.format.IpMonitorLineFormat.take.Goals as goal

pub returns-in-None-clause-told : goal.returns-in-None-clause-told
returns-in-None-clause-told c = told-none c.args.self.now c.args.text.now c.in-None.ensures ∙ ap SaidBy (sym c.requires.empty)

pub returns-in-None-clause-said : goal.returns-in-None-clause-said
returns-in-None-clause-said c = λ _. sym (after-none c.args.self.now c.args.text.now c.in-None.ensures)

pub returns-then-is_named-clause-told : goal.returns-then-is_named-clause-told
returns-then-is_named-clause-told c = told-again _ _ _ _ (told-gone c.args.self.now c.args.text.now _ _ c.in-Some.ensures (sym c.is_named.ensures ∙ c.if-is_named.true)) c.take_event.ensures.told

pub returns-then-is_named-clause-said : goal.returns-then-is_named-clause-said
returns-then-is_named-clause-said c = after-again _ _ _ _ (after-gone c.args.self.now c.args.text.now _ _ c.in-Some.ensures (sym c.is_named.ensures ∙ c.if-is_named.true)) c.take_event.ensures.said

pub returns-else-is_named-clause-told : goal.returns-else-is_named-clause-told
returns-else-is_named-clause-told c = told-again _ _ _ _ (told-stands c.args.self.now c.args.text.now _ _ c.in-Some.ensures (sym c.is_named.ensures ∙ c.if-is_named.false)) c.take_event-in-Some.ensures.told

pub returns-else-is_named-clause-said : goal.returns-else-is_named-clause-said
returns-else-is_named-clause-said c = after-again _ _ _ _ (after-stands c.args.self.now c.args.text.now _ _ c.in-Some.ensures (sym c.is_named.ensures ∙ c.if-is_named.false)) c.take_event-in-Some.ensures.said
