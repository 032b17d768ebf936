use Rattle.std.proofs.Common.{List, [], ◌∷◌, take, drop, fold, length, ap, sym, ◌∙◌, inl, inr, ◌⊎◌, IsFalse, IsTrue, arith, length-append}
use Rattle.std.proofs.lemmas.Bool.{or_left}
use Rattle.std.proofs.lemmas.List.{take-append-drop}
use Rattle.std.proofs.lemmas.List.Sums.{fold_push}
use Rattle.rule_model.specs.declared.Rule.{Rule}
use Rattle.rule_model.specs.RuleSet.{has_priority}
use Rattle.rule_store.specs.declared.Command.TheVariants.{Add}
use Rattle.rule_store.specs.Applied.{kept_rules}
use Rattle.rule_store.specs.Batch.{additions, removes, with_rule}
use Rattle.rule_store.specs.Store.{StoredRules}
use Rattle.rule_store.proofs.After.{has_priority-kept, has_priority-with_rules}
use Rattle.rule_store.proofs.Sound.{removes-append, fresh-taken}
use Rattle.rule_store.proofs.Sums.{additions-add, additions-other, added_rule-none}
use Rattle.rule_store.proofs.Steps.{taken-at, additions-more}
use Rattle.rule_store.proofs.stored.Store.insert_all.Goals.{in-Add, in_default}
use Rattle.rule_store.proofs.stored.Store.insert_all.Goals as goal

pub insert-requires-clause-room : goal.insert-requires-clause-room
insert-requires-clause-room c =
    let more = additions-more c.args.batch.now c.loop-i.i c.in-Add.rule c.in-Add.ensures in
    let spare = c.loop-i.invariant.spare in
    omega (arith, c.requires.room)

pub insert-requires-clause-absent : goal.insert-requires-clause-absent
insert-requires-clause-absent c =
    let old = c.requires.kept.old in
    let batch = c.args.batch.now in
    let place = c.loop-i.i in
    let rule = c.in-Add.rule in
    let fresh = fresh-taken old (take place batch) rule (taken-at old batch c.requires.kept.sound place (Add rule) c.in-Add.ensures) in
    let gone : IsFalse (has_priority old rule.priority) ⊎ IsTrue (removes rule.priority batch) =
    elim fresh.absent [
      | inl absent ↦ inl absent
      | inr removed ↦ inr (ap (removes rule.priority) (sym (take-append-drop place batch)) ∙ removes-append rule.priority (take place batch) (drop place batch) ∙ or_left (removes rule.priority (take place batch)) _ removed)
    ] in
    rw (c.loop-i.invariant.rules, c.requires.kept.is)
    (has_priority-with_rules (kept_rules old batch) (additions (take place batch)) rule.priority (has_priority-kept old batch rule.priority gone) fresh.first)

pub loop-i-preserved : goal.loop-i-preserved
loop-i-preserved c =
    let rules = c.args.self.now.rules in
    let batch = c.args.batch.now in
    let place = c.loop-i.i in
    elim c.match-at.branch [
      | in-Add w ↦
          let rule = w.in-Add.rule in
          let more = additions-add batch place rule w.in-Add.ensures in
          let count = ap (length {A = Rule}) more ∙ length-append (additions (take place batch)) (rule ∷ []) in
          let spare = ap (λ (store : StoredRules). store.spare) w.self-is in
          let left = w.insert.ensures.spare in
          let before = c.loop-i.invariant.spare in
          record {
            rules =
                ap (λ (store : StoredRules). store.rules) w.self-is
                ∙ w.insert.ensures.rules
                ∙ ap (λ (left' : List Rule). with_rule left' rule) c.loop-i.invariant.rules
                ∙ sym (ap (fold with_rule rules) more ∙ fold_push with_rule rules (additions (take place batch)) rule);
            spare = omega arith;
          }
      | in_default w ↦
          let same = additions-other batch place c.at.result c.at.ensures (added_rule-none c.at.result w.in_default.not-Add) in
          record {
            rules =
                ap (λ (store : StoredRules). store.rules) w.self-is
                ∙ c.loop-i.invariant.rules
                ∙ sym (ap (fold with_rule rules) same);
            spare = rw (w.self-is, same) c.loop-i.invariant.spare;
          }
    ]
