use Rattle.std.proofs.Common.{◌≡◌, ◌<◌, ◌≤◌, None, ap, ◌∙◌, arith}
use Rattle.std.specs.Prelude.{option_map}
use Rattle.rule_store.specs.declared.Mode.{Mode}
use Rattle.rule_store.specs.Verdict.{entries_added}
use Rattle.placement.specs.Insertion.{free_slots}
use Rattle.batch_order.specs.Kept.{held_of, mode_of}
use Rattle.batch_order.proofs.planning.Judged.{short_answer, enough_slots}
use Rattle.batch_order.proofs.planning.Refused.{stands_idle}
use Rattle.batch_order.proofs.manager.Manager.check_slots.Goals as goal

pub returns-then-need-free-clause-short : goal.returns-then-need-free-clause-short
returns-then-need-free-clause-short c =
    let i = c.self.inside in
    let idle : option_map (held_of i.translation i.arrangement i.rules.rules i.live.entries) i.held ≡ None = rw (← c.self.view_is) at c.requires.idle in
    let need : c.entries_added-need.result ≡ entries_added (mode_of i.translation) i.rules.rules c.args.batch.now =
    c.entries_added-need.ensures.count ∙ ap (λ (m : Mode). entries_added m i.rules.rules c.args.batch.now) c.encoding.ensures in
    let free : c.free_count-free.result ≡ free_slots i.arrangement = c.free_count-free.ensures ∙ ap free_slots (stands_idle c.self.inside.arrangement c.self.inside.planned c.self.inside.held _ idle c.self.invariant.1) in
    let short : free_slots i.arrangement < entries_added (mode_of i.translation) i.rules.rules c.args.batch.now = omega arith in
    rw (← c.self.view_is, need, free) (short_answer i.translation i.rules i.live i.arrangement i.held c.args.batch.now c.self.invariant.0 idle short)

pub returns-clause-fits : goal.returns-clause-fits
returns-clause-fits c =
    let i = c.self.inside in
    let idle : option_map (held_of i.translation i.arrangement i.rules.rules i.live.entries) i.held ≡ None = rw (← c.self.view_is) at c.requires.idle in
    let need : c.entries_added-need.result ≡ entries_added (mode_of i.translation) i.rules.rules c.args.batch.now =
    c.entries_added-need.ensures.count ∙ ap (λ (m : Mode). entries_added m i.rules.rules c.args.batch.now) c.encoding.ensures in
    let free : c.free_count-free.result ≡ free_slots i.arrangement = c.free_count-free.ensures ∙ ap free_slots (stands_idle c.self.inside.arrangement c.self.inside.planned c.self.inside.held _ idle c.self.invariant.1) in
    let fits : entries_added (mode_of i.translation) i.rules.rules c.args.batch.now ≤ free_slots i.arrangement = omega arith in
    rw (← c.self.view_is) (enough_slots i.translation i.rules i.live i.arrangement i.held c.args.batch.now c.self.invariant.0 idle fits)
