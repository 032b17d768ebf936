use Rattle.std.proofs.Common.{◌≡◌, drop}
use Rattle.json.specs.Value.{items_view}
use Rattle.json_routes.specs.Lines.{each_item, hop_line, onto}
use Rattle.json_routes.proofs.hops.put_each_hop.Given as goal

abbrev pub invariant-loop-item : goal.invariant-loop-item
invariant-loop-item l = record {
  same : onto l.fn.line.items (each_item (hop_line l.key) (items_view l.items)) ≡ onto l.line.items (each_item (hop_line l.key) (items_view (drop l.item-index l.items)));
}
