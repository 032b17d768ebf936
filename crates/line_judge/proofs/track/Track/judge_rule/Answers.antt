use Rattle.std.proofs.Common.{List, ◌∙◌, ap}
use Rattle.rule_model.specs.declared.Rule.{Rule}
use Rattle.rule_model.specs.RuleSet.{rule_at}
use Rattle.rule_model.proofs.RuleSets.{IsRuleSet-distinct}
use Rattle.write_judge.specs.Judging.{StateBetween}
use Rattle.line_judge.proofs.Outcomes.{no_rule, rule_from}
use Rattle.line_judge.proofs.track.Track.judge_rule.Goals as goal

pub returns-in-None : goal.returns-in-None
returns-in-None c =
    let now : StateBetween = record { state = c.args.self.now.device; old = c.args.self.now.rules; new = c.args.ahead.now } in
    no_rule c.args.self.now.by c.args.asked now c.args.set.now c.args.priority (IsRuleSet-distinct c.args.set.now c.is_right.ensures.is_set)
    (c.in-None.ensures.found ∙ ap (λ (rules : List Rule). rule_at rules c.args.priority) c.rules-rules.ensures)

pub returns-in-Some : goal.returns-in-Some
returns-in-Some c =
    let now : StateBetween = record { state = c.args.self.now.device; old = c.args.self.now.rules; new = c.args.ahead.now } in
    rule_from c.args.self.now.by c.args.asked now c.args.set.now c.args.priority _ c.rule_cube-cube.result c.judge_cube.result (IsRuleSet-distinct c.args.set.now c.is_right.ensures.is_set)
    (c.in-Some.ensures.found ∙ ap (λ (rules : List Rule). rule_at rules c.args.priority) c.rules-rules.ensures) c.has_words.ensures.src c.has_words.ensures.dst c.rule_cube-cube.ensures c.judge_cube.ensures
