use Rattle.std.proofs.Common.{◌≡◌, ◌<◌, ap, sym, ◌∙◌, arith, length, Some, IsFalse, vec_len, rules}
use Rattle.std.proofs.lemmas.Bool.{eqb-true, eqb-false}
use Rattle.std.proofs.lemmas.Grind.{common_steps}
use Rattle.counted_blocks.specs.Counted.{items_of}
use Rattle.rule_model.specs.declared.Rule.{Rule}
use Rattle.rule_model.specs.RuleSet.{has_priority, rule_at}
use Rattle.rule_store.specs.Store.{rules_under}
use Rattle.rule_store.proofs.Sets.{IsAt-read, absent-at, rule_at-found, rule_at-none, has_priority-found}
use Rattle.rule_store.proofs.Slots.{count-under, keyed-read, read-under}
use Rattle.rule_store.proofs.stored.Store.rule.Goals as goal

-- no rule stands at the place or behind
absent-past : (c : goal.Then-place-len) → IsFalse (has_priority c.args.self.now.rules c.args.priority)
absent-past c =
    let items = items_of c.self.inside.order.blocks in
    let rules = rules_under c.self.inside.rules.items items in
    let is = rw c.deref.ensures.value at c.place_of-place.ensures in
    let count = c.len.ensures in
    rw (← c.self.view_is) (absent-at rules c.args.priority c.place_of-place.result c.self.invariant.stored.falling is
    (λ none within. absurd (omega (arith, count-under c.self.inside.rules.items items))))

pub returns-then-place-len-clause-found : goal.returns-then-place-len-clause-found
returns-then-place-len-clause-found c = sym (rule_at-none c.args.self.now.rules c.args.priority (absent-past c))

pub returns-then-place-len-clause-present : goal.returns-then-place-len-clause-present
returns-then-place-len-clause-present c = sym (absent-past c)

pub index-rule-requires : goal.index-rule-requires
index-rule-requires c =
    let i = c.self.inside in
    let n : vec_len i.rules ≡ length i.rules.items = first_of (search rules, grind (arith, common_steps)) in
    let within = keyed-read i.rules.items (items_of i.order.blocks) c.place_of-place.result c.at.result c.self.invariant.stored.keyed c.at.ensures in
    omega arith

-- the rule at the place has the priority
found-here : (c : goal.Then-eq) → rule_at c.args.self.now.rules c.args.priority ≡ Some c.index-rule.result.now
found-here c =
    let table = c.self.inside.rules.items in
    let items = items_of c.self.inside.order.blocks in
    let place = c.place_of-place.result in
    let rule = c.index-rule.result.now in
    let is = rw c.deref.ensures.value at c.place_of-place.ensures in
    let count = count-under table items in
    let all = c.len.ensures in
    let inside = is.within in
    let within : place < length items = omega arith in
    let keyed = keyed-read table items place c.at.result c.self.invariant.stored.keyed c.at.ensures in
    let read = read-under table items place c.at.result rule rule c.at.ensures keyed c.index-rule.ensures in
    let same = eqb-true rule.priority c.args.priority (sym c.eq.ensures ∙ c.if-eq.true) in
    rw (← c.self.view_is) (rule_at-found (rules_under table items) c.args.priority place rule (IsAt-read (rules_under table items) c.args.priority place rule c.self.invariant.stored.falling (omega arith) read same) ∙ ap (λ (r : Rule). Some r) read)

pub returns-then-eq-clause-found : goal.returns-then-eq-clause-found
returns-then-eq-clause-found c = sym (found-here c)

pub returns-then-eq-clause-present : goal.returns-then-eq-clause-present
returns-then-eq-clause-present c = sym (has_priority-found c.args.self.now.rules c.args.priority c.index-rule.result.now (found-here c))

-- the rule at the place hasn't
absent-here : (c : goal.Else-eq) → IsFalse (has_priority c.args.self.now.rules c.args.priority)
absent-here c =
    let table = c.self.inside.rules.items in
    let items = items_of c.self.inside.order.blocks in
    let place = c.place_of-place.result in
    let rule = c.index-rule.result.now in
    let is = rw c.deref.ensures.value at c.place_of-place.ensures in
    let keyed = keyed-read table items place c.at.result c.self.invariant.stored.keyed c.at.ensures in
    let differ = eqb-false rule.priority c.args.priority (sym c.eq.ensures ∙ c.if-eq.false) in
    rw (← c.self.view_is) (absent-at (rules_under table items) c.args.priority place c.self.invariant.stored.falling is
    (λ none to. rw (read-under table items place c.at.result rule none c.at.ensures keyed c.index-rule.ensures) differ))

pub returns-else-eq-clause-found : goal.returns-else-eq-clause-found
returns-else-eq-clause-found c = sym (rule_at-none c.args.self.now.rules c.args.priority (absent-here c))

pub returns-else-eq-clause-present : goal.returns-else-eq-clause-present
returns-else-eq-clause-present c = sym (absent-here c)
