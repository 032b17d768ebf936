use Rattle.std.proofs.Common.{◌≤◌, ◌∙◌, ℕ, subst, ap, sum, sym, take}
use Rattle.std.proofs.lemmas.List.{take-map}
use Rattle.std.proofs.lemmas.List.Sums.{sum-map}
use Rattle.counted_blocks.specs.declared.Item.{Item}
use Rattle.counted_blocks.specs.Counted.{items_of}
use Rattle.rule_store.specs.declared.Mode.TheVariants.{Bits, Cover}
use Rattle.rule_store.specs.Store.{rules_under}
use Rattle.rule_store.specs.Verdict.{entries_of}
use Rattle.rule_store.proofs.Above.{entries_above-bits, entries_above-cover, entries_above-most}
use Rattle.rule_store.proofs.Stores.{sizes_of}
use Rattle.rule_store.proofs.stored.Store.entries_above.Goals as goal

pub returns-in-Cover-clause-count : goal.returns-in-Cover-clause-count
returns-in-Cover-clause-count c =
    let is = rw c.deref.ensures.value at c.place_of-place.ensures in
    let items = items_of c.self.inside.order.blocks in
    let place : ℕ = c.place_of-place.result in
    let summed = ap sum (take-map (λ (item : Item). item.size) place items) ∙ sum-map (λ (item : Item). item.size) (take place items) in
    rw (c.in-Cover.is, ← c.self.view_is)
    (c.size_before.ensures.size ∙ sym summed
    ∙ sym (entries_above-cover (rules_under c.self.inside.rules.items items) c.args.priority place (sizes_of items) is c.self.invariant.sizes_are))

pub returns-in-Cover-clause-most : goal.returns-in-Cover-clause-most
returns-in-Cover-clause-most c =
    let is = rw c.deref.ensures.value at c.place_of-place.ensures in
    let items = items_of c.self.inside.order.blocks in
    let place : ℕ = c.place_of-place.result in
    let summed = ap sum (take-map (λ (item : Item). item.size) place items) ∙ sum-map (λ (item : Item). item.size) (take place items) in
    rw (c.in-Cover.is, ← c.self.view_is)
    (subst (λ (n : ℕ). n ≤ entries_of Cover (rules_under c.self.inside.rules.items items))
    (entries_above-cover (rules_under c.self.inside.rules.items items) c.args.priority place (sizes_of items) is c.self.invariant.sizes_are ∙ summed ∙ sym c.size_before.ensures.size)
    (entries_above-most Cover (rules_under c.self.inside.rules.items items) c.args.priority place is))

pub returns-in-Bits-clause-count : goal.returns-in-Bits-clause-count
returns-in-Bits-clause-count c =
    let is = rw c.deref.ensures.value at c.place_of-place.ensures in
    rw (c.in-Bits.is, ← c.self.view_is)
    (c.from.ensures ∙ sym (entries_above-bits (rules_under c.self.inside.rules.items (items_of c.self.inside.order.blocks)) c.args.priority c.place_of-place.result is))

pub returns-in-Bits-clause-most : goal.returns-in-Bits-clause-most
returns-in-Bits-clause-most c =
    let is = rw c.deref.ensures.value at c.place_of-place.ensures in
    let rules = rules_under c.self.inside.rules.items (items_of c.self.inside.order.blocks) in
    rw (c.in-Bits.is, ← c.self.view_is)
    (subst (λ (n : ℕ). n ≤ entries_of Bits rules) (entries_above-bits rules c.args.priority c.place_of-place.result is ∙ sym c.from.ensures)
    (entries_above-most Bits rules c.args.priority c.place_of-place.result is))
