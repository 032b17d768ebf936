use Rattle.std.proofs.Common.{rules, ◌≡◌, ◌<◌, ◌∙◌, length, subst, sym, true, arith}
use Rattle.placement.specs.Live.{is_live, without_id}
use Rattle.batch_order.specs.Entries.{Entries, StayTold, live_entries}
use Rattle.batch_order.proofs.Told.{told_forgot}
use Rattle.batch_order.proofs.ids.AtIds.{size_is, without_at}
use Rattle.batch_order.proofs.ids.Ids.{kept_less, live_small}
use Rattle.batch_order.proofs.entries.LiveEntries.forget.Goals as goal

pub invariant_of-self : goal.invariant_of-self
invariant_of-self c =
    let i = c.self.inside in
    let now : is_live i.index.live c.args.id ≡ true = rw (← c.self.view_is) at c.requires in
    let entries = live_entries i.index.live i.entries.items in
    let entries' = live_entries (without_id i.index.live c.args.id) i.entries.items in
    let same : length entries' ≡ length entries = size_is (without_id i.index.live c.args.id) i.entries.items ∙ sym (size_is i.index.live i.entries.items) in
    let less = kept_less i.index.slots i.index.live entries entries' i.spare.items c.args.id c.self.invariant.0 now same in
    (rw (c.remove.ensures.slots, c.remove.ensures.live, c.push_reserved.ensures.items) less, rw c.remove.ensures.slots (search (rules, c.self.invariant.1)))

pub returns-clause-entries : goal.returns-clause-entries
returns-clause-entries c =
    let i = c.self.inside in
    let now : is_live i.index.live c.args.id ≡ true = rw (← c.self.view_is) at c.requires in
    let small : c.args.id < i.index.slots = live_small i.index.slots i.index.live c.args.id c.self.invariant.0.apart now in
    let size = size_is i.index.live i.entries.items in
    let places : length (live_entries i.index.live i.entries.items) ≡ i.index.slots = c.self.invariant.0.places in
    rw (← c.self.view_is, c.remove.ensures.live) (without_at i.index.live i.entries.items c.args.id (omega arith))

pub returns-clause-told : goal.returns-clause-told
returns-clause-told c =
    let i = c.self.inside in
    let new : Entries = record { slots = c.remove.new.self.slots; live = c.remove.new.self.live; entries = live_entries c.remove.new.self.live i.entries.items; told = c.remove.new.self.told } in
    let old : Entries = record { slots = i.index.slots; live = i.index.live; entries = live_entries i.index.live i.entries.items; told = i.index.told } in
    subst (λ (was : Entries). StayTold was new) c.self.view_is (told_forgot old new c.args.id c.remove.ensures.live c.remove.ensures.told)
