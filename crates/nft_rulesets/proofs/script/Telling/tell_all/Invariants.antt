use Rattle.std.proofs.Common.{◌≡◌, ◌≤◌, ◌+◌, drop}
use Rattle.json.specs.Value.{items_view}
use Rattle.import_lines.specs.Import.{onto_script}
use Rattle.nft_rulesets.specs.Items.{script_at}
use Rattle.nft_rulesets.proofs.script.Telling.tell_all.Given as goal

abbrev pub invariant-loop-value : goal.invariant-loop-value
invariant-loop-value l = record {
  same : script_at l.asked (items_view l.all) l.fn.self (items_view l.all) ≡ onto_script l.script.items (script_at l.asked (items_view l.all) l.self (items_view (drop l.value-index l.all)));
  number : l.self.number ≡ l.value-index + 1;
  below : l.self.left_out ≤ l.value-index;
}
