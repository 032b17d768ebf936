use Rattle.std.proofs.Common.{◌≡◌, ◌<◌, ◌∙◌, true, length, Some, None, get_or, sym, ap, arith}
use Rattle.std.proofs.lemmas.Bool.{cond-true}
use Rattle.placement.specs.Live.{is_live}
use Rattle.batch_order.specs.Entries.{Entries, live_entries}
use Rattle.batch_order.proofs.ids.AtIds.{size_is, at_id, at_dead}
use Rattle.batch_order.proofs.ids.Ids.{live_small}
use Rattle.batch_order.proofs.entries.LiveEntries.at.Goals as goal

inside : (c : goal.Then-live) → c.args.id < length c.self.inside.entries.items
inside c =
    let i = c.self.inside in
    let now : is_live i.index.live c.args.id ≡ true = sym c.is_live-live.ensures ∙ c.if-live.true in
    let small = live_small i.index.slots i.index.live c.args.id c.self.invariant.0.apart now in
    let size = size_is i.index.live i.entries.items in
    let places : length (live_entries i.index.live i.entries.items) ≡ i.index.slots = c.self.invariant.0.places in
    omega arith

pub index-requires : goal.index-requires
index-requires c = let i = inside c in omega arith

pub returns-then-live : goal.returns-then-live
returns-then-live c =
    let i = c.self.inside in
    let now : is_live i.index.live c.args.id ≡ true = sym c.is_live-live.ensures ∙ c.if-live.true in
    let small = live_small i.index.slots i.index.live c.args.id c.self.invariant.0.apart now in
    let size = size_is i.index.live i.entries.items in
    let places : length (live_entries i.index.live i.entries.items) ≡ i.index.slots = c.self.invariant.0.places in
    let entry = c.index.result.now in
    ap Some c.index.ensures ∙ sym (at_id i.index.live i.entries.items c.args.id entry (omega arith) ∙ cond-true _ _ _ now)
    ∙ ap (λ (v : Entries). get_or v.entries c.args.id None) c.self.view_is

pub returns-else-live : goal.returns-else-live
returns-else-live c =
    let i = c.self.inside in
    sym (at_dead i.index.live i.entries.items c.args.id (sym c.is_live-live.ensures ∙ c.if-live.false)) ∙ ap (λ (v : Entries). get_or v.entries c.args.id None) c.self.view_is
