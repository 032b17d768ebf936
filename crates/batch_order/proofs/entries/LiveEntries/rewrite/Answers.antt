use Rattle.std.proofs.Common.{rules, ◌≡◌, ◌<◌, ◌∙◌, length, true, sym, refl, arith, slice_set}
use Rattle.std.proofs.lemmas.List.{length-set}
use Rattle.placement.specs.Live.{is_live}
use Rattle.batch_order.specs.Entries.{live_entries}
use Rattle.batch_order.proofs.ids.AtIds.{size_is, kept_at, kept_as}
use Rattle.batch_order.proofs.ids.Ids.{live_small}
use Rattle.batch_order.proofs.entries.LiveEntries.rewrite.Goals as goal

pub index_mut-requires : goal.index_mut-requires
index_mut-requires c =
    let i = c.self.inside in
    let id = c.args.rewrite.now.id in
    let now : is_live i.index.live id ≡ true = rw (← c.self.view_is) at c.requires in
    let small : id < i.index.slots = live_small i.index.slots i.index.live id c.self.invariant.0.apart now in
    let size = size_is i.index.live i.entries.items in
    let places : length (live_entries i.index.live i.entries.items) ≡ i.index.slots = c.self.invariant.0.places in
    let inside : id < length i.entries.items = omega arith in
    search (rules, inside)

pub invariant_of-self : goal.invariant_of-self
invariant_of-self c =
    let i = c.self.inside in
    let rewrite = c.args.rewrite.now in
    let same : length (live_entries i.index.live (slice_set i.entries.items rewrite.id rewrite.entry)) ≡ length (live_entries i.index.live i.entries.items) =
    size_is i.index.live (slice_set i.entries.items rewrite.id rewrite.entry) ∙ length-set i.entries.items rewrite.id rewrite.entry ∙ sym (size_is i.index.live i.entries.items) in
    (kept_as i.index.slots i.index.live _ _ i.spare.items c.self.invariant.0 same, c.self.invariant.1)

pub returns-clause-entries : goal.returns-clause-entries
returns-clause-entries c =
    let i = c.self.inside in
    let rewrite = c.args.rewrite.now in
    let now : is_live i.index.live rewrite.id ≡ true = rw (← c.self.view_is) at c.requires in
    let small : rewrite.id < i.index.slots = live_small i.index.slots i.index.live rewrite.id c.self.invariant.0.apart now in
    let size = size_is i.index.live i.entries.items in
    let places : length (live_entries i.index.live i.entries.items) ≡ i.index.slots = c.self.invariant.0.places in
    rw (← c.self.view_is) (kept_at i.index.live i.index.live i.entries.items rewrite.id rewrite.entry (omega arith) now (λ other apart. refl))
