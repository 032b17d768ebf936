use Rattle.std.proofs.Common.{◌≤◌, ◌*◌, ℕ, length, subst, sym, ◌∙◌}
use Rattle.std.proofs.lemmas.List.Sums.{sum-map}
use Rattle.counted_blocks.specs.declared.Item.{Item}
use Rattle.counted_blocks.specs.Counted.{items_of}
use Rattle.rule_store.specs.declared.Mode.TheVariants.{Cover}
use Rattle.rule_store.specs.Store.{rules_under}
use Rattle.rule_store.proofs.Above.{entries-bits, entries-cover, entries-most}
use Rattle.rule_store.proofs.Stores.{sizes_of}
use Rattle.rule_store.proofs.stored.Store.entries_of.Goals as goal

pub returns-in-Cover-clause-count : goal.returns-in-Cover-clause-count
returns-in-Cover-clause-count c =
    let items = items_of c.self.inside.order.blocks in
    let rules = rules_under c.self.inside.rules.items items in
    rw (c.in-Cover.is, ← c.self.view_is)
    (c.size.ensures.size ∙ sym (sum-map (λ (item : Item). item.size) items) ∙ sym (entries-cover rules (sizes_of items) c.self.invariant.sizes_are))

pub returns-in-Cover-clause-most : goal.returns-in-Cover-clause-most
returns-in-Cover-clause-most c =
    let items = items_of c.self.inside.order.blocks in
    let rules = rules_under c.self.inside.rules.items items in
    rw (← c.self.view_is)
    (subst (λ (n : ℕ). n ≤ 900 * length rules)
    (entries-cover rules (sizes_of items) c.self.invariant.sizes_are ∙ sum-map (λ (item : Item). item.size) items ∙ sym c.size.ensures.size)
    (entries-most Cover rules))

pub returns-in-Bits-clause-count : goal.returns-in-Bits-clause-count
returns-in-Bits-clause-count c =
    let number = c.from.ensures in let count = c.len.ensures.count in rw (c.in-Bits.is) (number ∙ count ∙ sym (entries-bits c.args.self.now.rules))
