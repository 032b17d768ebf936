use Rattle.std.proofs.Common.{List, take, map, ap, sym, ◌∙◌, refl}
use Rattle.rule_model.specs.declared.Rule.{Rule}
use Rattle.rule_store.specs.declared.Command.{Command}
use Rattle.rule_store.specs.declared.Command.TheVariants.{Set}
use Rattle.rule_store.specs.Batch.{with_result_after}
use Rattle.rule_store.specs.Store.{StoredRules, with_answer}
use Rattle.rule_store.proofs.Sums.{take-read}
use Rattle.rule_store.proofs.Steps.{taken-at, remaining-has, changed-none, changed-set, changed-other, changed-stays, has_priority-map}
use Rattle.rule_store.proofs.stored.Store.change_all.Goals.{in-Set, in_default}
use Rattle.rule_store.proofs.stored.Store.change_all.Goals as goal

pub loop-i-init : goal.loop-i-init
loop-i-init c = record { rules = sym (changed-none c.args.self.now.rules); spare = refl }

pub change-requires : goal.change-requires
change-requires c =
    let old = c.requires.old in
    let batch = c.args.batch.now in
    let place = c.loop-i.i in
    let one = Set c.in-Set.priority c.in-Set.result in
    let meets = taken-at old batch c.requires.sound place one c.in-Set.ensures in
    let stays = changed-stays old batch c.requires.sound place c.in-Set.priority c.in-Set.result c.in-Set.ensures in
    rw (c.loop-i.invariant.rules, c.requires.is)
    (has_priority-map (with_result_after (take place batch)) (λ rule. refl) _ c.in-Set.priority ∙ remaining-has old batch c.in-Set.priority meets.0 stays)

pub loop-i-preserved : goal.loop-i-preserved
loop-i-preserved c =
    let rules = c.args.self.now.rules in
    let batch = c.args.batch.now in
    let place = c.loop-i.i in
    elim c.match-at.branch [
      | in-Set w ↦
          let one = Set w.in-Set.priority w.in-Set.result in
          let meets = taken-at c.requires.old batch c.requires.sound place one w.in-Set.ensures in
          record {
            rules =
                ap (λ (store : StoredRules). store.rules) w.self-is
                ∙ w.change.ensures.rules
                ∙ ap (λ (left : List Rule). with_answer left w.in-Set.priority w.in-Set.result) c.loop-i.invariant.rules
                ∙ changed-set rules (take place batch) w.in-Set.priority w.in-Set.result meets.1
                ∙ sym (ap (λ (commands : List Command). map (with_result_after commands) rules) (take-read batch place one w.in-Set.ensures));
            spare = ap (λ (store : StoredRules). store.spare) w.self-is ∙ w.change.ensures.spare ∙ c.loop-i.invariant.spare;
          }
      | in_default w ↦ record {
        rules =
            ap (λ (store : StoredRules). store.rules) w.self-is
            ∙ c.loop-i.invariant.rules
            ∙ sym (ap (λ (commands : List Command). map (with_result_after commands) rules) (take-read batch place c.at.result c.at.ensures) ∙ changed-other rules (take place batch) c.at.result w.in_default.not-Set);
        spare = ap (λ (store : StoredRules). store.spare) w.self-is ∙ c.loop-i.invariant.spare;
      }
    ]
