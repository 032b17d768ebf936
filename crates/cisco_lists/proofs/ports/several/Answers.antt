use Rattle.std.proofs.Common.{sym, ◌∙◌, arith}
use Rattle.cisco_lists.proofs.PortSteps.{several-first, more-on, more-none, more-end}
use Rattle.cisco_lists.proofs.ports.several.Goals as goal

pub ports-init : goal.ports-init
ports-init c = record {
  same = several-first c.args.names c.args.at.now c.port-first.new.at c.port-first.result c.one-spans.result.items c.port-first.ensures c.one-spans.ensures.items;
  few = let len = c.one-spans.ensures.len in omega (arith, len);
}

pub ports-preserved : goal.ports-preserved
ports-preserved c = record {
  same = c.ports.invariant.same ∙ more-on c.ports.round c.args.names c.ports.spans.items c.push.new.self.items c.ports.at c.next.new.self c.peek.result.now c.in-Some.port (omega arith) c.peek.ensures c.in-Some.ensures c.push.ensures.items c.next.ensures.behind;
  few = let len = c.push.ensures.len in let before = c.ports.invariant.few in omega (arith, len, before);
}

pub returns-in-None : goal.returns-in-None
returns-in-None c = sym (c.ports.invariant.same ∙ more-none c.ports.round c.args.names c.ports.spans.items c.ports.at c.peek.result.now (omega arith) c.peek.ensures c.in-None.ensures)

pub returns : goal.returns
returns c = sym (c.ports.invariant.same ∙ more-end c.ports.round c.args.names c.ports.spans.items c.ports.at (omega arith))
