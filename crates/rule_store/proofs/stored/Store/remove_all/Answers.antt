use Rattle.std.proofs.Common.{List, take, ap, sym, ◌∙◌, arith}
use Rattle.std.specs.List.{list_any}
use Rattle.rule_model.specs.declared.Rule.{Rule}
use Rattle.rule_store.specs.declared.Command.TheVariants.{Del}
use Rattle.rule_store.specs.Applied.{remaining_rules}
use Rattle.rule_store.specs.Batch.{is_removal}
use Rattle.rule_store.specs.Store.{StoredRules, without_rule}
use Rattle.rule_store.proofs.Sums.{take-read}
use Rattle.rule_store.proofs.Steps.{taken-at, remaining-del, remaining-other, remaining-has, remaining-none}
use Rattle.rule_store.proofs.stored.Store.remove_all.Goals.{in-Del, in_default}
use Rattle.rule_store.proofs.stored.Store.remove_all.Goals as goal

pub loop-i-init : goal.loop-i-init
loop-i-init c = record { rules = sym (remaining-none c.args.self.now.rules); spare = omega arith }

pub remove-requires : goal.remove-requires
remove-requires c =
    let meets = taken-at c.args.self.now.rules c.args.batch.now c.requires c.loop-i.i (Del c.in-Del.priority) c.in-Del.ensures in
    rw c.loop-i.invariant.rules (remaining-has c.args.self.now.rules (take c.loop-i.i c.args.batch.now) c.in-Del.priority meets.0 (ap (list_any is_removal) meets.1))

pub loop-i-preserved : goal.loop-i-preserved
loop-i-preserved c =
    let rules = c.args.self.now.rules in
    let batch = c.args.batch.now in
    let place = c.loop-i.i in
    elim c.match-at.branch [
      | in-Del w ↦
          let spare = ap (λ (store : StoredRules). store.spare) w.self-is in
          let more = w.remove.ensures.spare in
          record {
            rules =
                ap (λ (store : StoredRules). store.rules) w.self-is
                ∙ w.remove.ensures.rules
                ∙ ap (λ (left : List Rule). without_rule left w.in-Del.priority) c.loop-i.invariant.rules
                ∙ remaining-del rules (take place batch) w.in-Del.priority
                ∙ sym (ap (remaining_rules rules) (take-read batch place (Del w.in-Del.priority) w.in-Del.ensures));
            spare = omega arith;
          }
      | in_default w ↦
          let spare = ap (λ (store : StoredRules). store.spare) w.self-is in
          record {
            rules =
                ap (λ (store : StoredRules). store.rules) w.self-is
                ∙ c.loop-i.invariant.rules
                ∙ sym (ap (remaining_rules rules) (take-read batch place c.at.result c.at.ensures) ∙ remaining-other rules (take place batch) c.at.result w.in_default.not-Del);
            spare = omega arith;
          }
    ]
