use Rattle.std.proofs.Common.{◌≡◌, ◌+◌, ◌∙◌, List, [], length, ap, inl, inr, vec_capacity, vec_len, rules, arith}
use Rattle.std.proofs.lemmas.Bool.{cases_lt}
use Rattle.std.proofs.lemmas.Grind.{common_steps}
use Rattle.std.proofs.lemmas.List.{get_or_read, length-map}
use Rattle.counted_blocks.specs.declared.Item.{Item}
use Rattle.counted_blocks.specs.declared.weights.Weight.{Weight}
use Rattle.counted_blocks.specs.Counted.{block_at, items_of, weight_of}
use Rattle.counted_blocks.proofs.Changes.{counted-same, few-blocks, stock-some}
use Rattle.counted_blocks.proofs.Splits.{loose-lower, loose-upper, split-count, split-filled, split-items, spot-lower, spot-upper}
use Rattle.counted_blocks.proofs.CountedBlocks.loosen.Goals as goal

pub split-requires-clause-few : goal.split-requires-clause-few
split-requires-clause-few c =
    let i = c.self.inside in few-blocks i.blocks.items (vec_capacity i.blocks) i.weights i.stock.items (vec_capacity i.stock) i.len i.size c.self.invariant

pub split-requires-clause-some : goal.split-requires-clause-some
split-requires-clause-some c =
    let i = c.self.inside in
    let spot = rw (← c.self.view_is) at c.find-spot.ensures.spot in
    let read = ap (length {A = Item}) (get_or_read i.blocks.items c.find-spot.result.block c.index.result.now spot.within c.index.ensures []) in
    let count = c.len.ensures.count in
    let most = c.len.ensures.most in
    let full : length (block_at i.blocks.items c.find-spot.result.block) ≡ 128 = omega arith in
    let room = rw (← c.self.view_is) at c.requires.room in
    stock-some i.blocks.items (vec_capacity i.blocks) i.weights i.stock.items (vec_capacity i.stock) i.len i.size c.self.invariant c.find-spot.result.block spot.within full room

pub split-requires-clause-block_room : goal.split-requires-clause-block_room
split-requires-clause-block_room c =
    let i = c.self.inside in
    let spot = rw (← c.self.view_is) at c.find-spot.ensures.spot in
    let read = ap (length {A = Item}) (get_or_read i.blocks.items c.find-spot.result.block c.index.result.now spot.within c.index.ensures []) in
    let count = c.len.ensures.count in
    let most = c.len.ensures.most in
    let full : length (block_at i.blocks.items c.find-spot.result.block) ≡ 128 = omega arith in
    let room = rw (← c.self.view_is) at c.requires.room in
    let some = stock-some i.blocks.items (vec_capacity i.blocks) i.weights i.stock.items (vec_capacity i.stock) i.len i.size c.self.invariant c.find-spot.result.block spot.within full room in
    let both = c.self.invariant.block_room in
    let n : vec_len i.blocks ≡ length i.blocks.items = first_of (search rules, grind (arith, common_steps)) in
    omega arith

pub split-requires-clause-weight_room : goal.split-requires-clause-weight_room
split-requires-clause-weight_room c =
    let i = c.self.inside in
    let spot = rw (← c.self.view_is) at c.find-spot.ensures.spot in
    let read = ap (length {A = Item}) (get_or_read i.blocks.items c.find-spot.result.block c.index.result.now spot.within c.index.ensures []) in
    let count = c.len.ensures.count in
    let most = c.len.ensures.most in
    let full : length (block_at i.blocks.items c.find-spot.result.block) ≡ 128 = omega arith in
    let room = rw (← c.self.view_is) at c.requires.room in
    let some = stock-some i.blocks.items (vec_capacity i.blocks) i.weights i.stock.items (vec_capacity i.stock) i.len i.size c.self.invariant c.find-spot.result.block spot.within full room in
    let both = c.self.invariant.weight_room in
    let n = ap (length {A = Weight}) c.self.invariant.weights_are ∙ length-map i.blocks.items weight_of in
    omega arith

pub invariant_of-self : goal.invariant_of-self
invariant_of-self c =
    let i = c.self.inside in
    let spot = rw (← c.self.view_is) at c.find-spot.ensures.spot in
    let read = ap (length {A = Item}) (get_or_read i.blocks.items c.find-spot.result.block c.index.result.now spot.within c.index.ensures []) in
    let count = c.len.ensures.count in
    let most = c.len.ensures.most in
    let full : length (block_at i.blocks.items c.find-spot.result.block) ≡ 128 = omega arith in
    let form = c.split.ensures.blocks in
    let more = ap (length {A = List Item}) form ∙ split-count i.blocks.items c.find-spot.result.block spot.within full in
    let fewer = c.split.ensures.stock in
    counted-same i.blocks.items (vec_capacity i.blocks) i.weights i.stock.items (vec_capacity i.stock) i.len i.size c.self.invariant
    c.split.new.blocks.items (vec_capacity c.split.new.blocks) c.split.new.weights c.split.new.stock.items (vec_capacity c.split.new.stock)
    (ap items_of form ∙ split-items i.blocks.items c.find-spot.result.block spot.within full) (rw form (split-filled i.blocks.items c.find-spot.result.block spot.within full c.self.invariant.filled)) c.split.ensures.empty (omega arith)
    c.split.ensures.block_room c.split.ensures.stock_room c.split.ensures.weight_room c.split.ensures.weighed

pub returns-clause-items : goal.returns-clause-items
returns-clause-items c =
    let i = c.self.inside in
    let spot = rw (← c.self.view_is) at c.find-spot.ensures.spot in
    let read = ap (length {A = Item}) (get_or_read i.blocks.items c.find-spot.result.block c.index.result.now spot.within c.index.ensures []) in
    let count = c.len.ensures.count in
    let most = c.len.ensures.most in
    let full : length (block_at i.blocks.items c.find-spot.result.block) ≡ 128 = omega arith in
    rw (← c.self.view_is) (ap items_of c.split.ensures.blocks ∙ split-items i.blocks.items c.find-spot.result.block spot.within full)

pub returns-clause-room : goal.returns-clause-room
returns-clause-room c =
    let i = c.self.inside in
    let spot = rw (← c.self.view_is) at c.find-spot.ensures.spot in
    let read = ap (length {A = Item}) (get_or_read i.blocks.items c.find-spot.result.block c.index.result.now spot.within c.index.ensures []) in
    let count = c.len.ensures.count in
    let most = c.len.ensures.most in
    let full : length (block_at i.blocks.items c.find-spot.result.block) ≡ 128 = omega arith in
    let more = ap (length {A = List Item}) c.split.ensures.blocks ∙ split-count i.blocks.items c.find-spot.result.block spot.within full in
    let fewer = c.split.ensures.stock in
    let same = ap (λ (all : List (List Item)). length (items_of all)) c.split.ensures.blocks ∙ ap (length {A = Item}) (split-items i.blocks.items c.find-spot.result.block spot.within full) in
    rw (← c.self.view_is) (omega arith)

pub returns-clause-spot : goal.returns-clause-spot
returns-clause-spot c =
    let i = c.self.inside in
    let spot = rw (← c.self.view_is) at c.find-spot.ensures.spot in
    let read = ap (length {A = Item}) (get_or_read i.blocks.items c.find-spot.result.block c.index.result.now spot.within c.index.ensures []) in
    let count = c.len.ensures.count in
    let most = c.len.ensures.most in
    let full : length (block_at i.blocks.items c.find-spot.result.block) ≡ 128 = omega arith in
    rw c.split.ensures.blocks
    (elim (cases_lt c.args.place (c.find-spot.result.start + 64)) [
      | inl before ↦ rw (c.half_of.ensures.lower before) (spot-lower i.blocks.items c.find-spot.result.block spot.within full c.args.place c.find-spot.result.start spot before)
      | inr from ↦ spot-upper i.blocks.items c.find-spot.result.block spot.within full c.args.place c.find-spot.result.start spot c.half_of.result.block c.half_of.result.start (c.half_of.ensures.upper from) (c.half_of.ensures.start from) from
    ])

pub returns-clause-loose : goal.returns-clause-loose
returns-clause-loose c =
    let i = c.self.inside in
    let spot = rw (← c.self.view_is) at c.find-spot.ensures.spot in
    let read = ap (length {A = Item}) (get_or_read i.blocks.items c.find-spot.result.block c.index.result.now spot.within c.index.ensures []) in
    let count = c.len.ensures.count in
    let most = c.len.ensures.most in
    let full : length (block_at i.blocks.items c.find-spot.result.block) ≡ 128 = omega arith in
    rw c.split.ensures.blocks
    (elim (cases_lt c.args.place (c.find-spot.result.start + 64)) [
      | inl before ↦ rw (c.half_of.ensures.lower before) (loose-lower i.blocks.items c.find-spot.result.block spot.within full c.args.place c.find-spot.result.start spot)
      | inr from ↦ loose-upper i.blocks.items c.find-spot.result.block spot.within full c.args.place c.find-spot.result.start spot c.half_of.result.block (c.half_of.ensures.upper from)
    ])

pub half_of-requires-clause-few : goal.half_of-requires-clause-few
half_of-requires-clause-few c =
    let i = c.self.inside in
    let spot = rw (← c.self.view_is) at c.find-spot.ensures.spot in
    let few = few-blocks i.blocks.items (vec_capacity i.blocks) i.weights i.stock.items (vec_capacity i.stock) i.len i.size c.self.invariant in
    omega (arith, spot.within)
