use Rattle.std.proofs.Common.{◌≡◌, ◌∙◌, [], length, None, replicate, refl, ap, arith}
use Rattle.placement.proofs.Live.{apart_none}
use Rattle.batch_order.specs.Entries.{AreKept, live_entries}
use Rattle.batch_order.proofs.ids.AtIds.{size_is, none_live, all_absent}
use Rattle.batch_order.proofs.entries.LiveEntries.new.Goals as goal

pub invariant_of-result : goal.invariant_of-result
invariant_of-result c =
    let slots = c.args.slots in
    let kept = c.in_ok-entries.entries.items in
    let spare = c.in_ok-spare.spare.items in
    let all = c.in_ok-spare.ensures.all in
    let none : AreKept slots [] (live_entries [] kept) spare =
    record {
      places = size_is [] kept ∙ c.in_ok-entries.ensures;
      few = c.requires.most;
      count = (let many : length spare ≡ slots = all.count in omega arith);
      small = all.small;
      absent = all_absent spare;
      once = all.once;
      apart = apart_none slots;
    } in
    rw (c.in_ok-index.ensures.slots, c.in_ok-index.ensures.live) (none, c.in_ok-spare.ensures.capacity)

pub returns : goal.returns
returns c =
    let slots = c.args.slots in
    let kept = c.in_ok-entries.entries.items in
    let entries : live_entries [] kept ≡ replicate slots None = none_live 0 kept ∙ ap (λ n. replicate n None) c.in_ok-entries.ensures in
    rw (c.in_ok-index.ensures.slots, c.in_ok-index.ensures.live, entries) refl
