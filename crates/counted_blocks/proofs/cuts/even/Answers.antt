use Rattle.std.proofs.Common.{◌+◌, ◌-◌, ◌∙◌, ℕ, List, [], length, set, ap, arith}
use Rattle.std.specs.List.{insert, remove}
use Rattle.std.proofs.lemmas.List.{get_or_read, get_or-set_other, length-set}
use Rattle.counted_blocks.specs.declared.Item.{Item}
use Rattle.counted_blocks.proofs.Evens.{mended-down, mended-up}
use Rattle.counted_blocks.proofs.cuts.even.Goals as goal

pub insert-requires-else-lower-upper-clause-room : goal.insert-requires-else-lower-upper-clause-room
insert-requires-else-lower-upper-clause-room c =
    let blocks = c.args.blocks.now.items in
    let left : ℕ = c.args.left in
    let inside = c.requires.loose.within in
    let one = c.requires.loose.one in
    let much = c.requires.much in
    let low = ap (length {A = Item}) (get_or_read blocks left c.index.result.now (omega arith) c.index.ensures []) in
    let up = ap (length {A = Item}) (get_or_read blocks (left + 1) c.index-2.result.now inside c.index-2.ensures []) in
    let lower = c.len-lower.ensures.count in
    let upper = c.len-upper.ensures.count in
    let count = length-set blocks left c.remove-item-else-lower-upper.new.self in
    let read =
    get_or_read (set blocks left c.remove-item-else-lower-upper.new.self) (left + 1) c.index_mut-else-lower-upper-2.result.now (omega arith) c.index_mut-else-lower-upper-2.ensures.value []
    ∙ get_or-set_other blocks left (left + 1) c.remove-item-else-lower-upper.new.self [] (λ same. omega arith) in
    let n = ap (length {A = Item}) read in
    omega arith

pub returns-then-lower-upper-clause-mended : goal.returns-then-lower-upper-clause-mended
returns-then-lower-upper-clause-mended c =
    let blocks = c.args.blocks.now.items in
    let left : ℕ = c.args.left in
    let inside = c.requires.loose.within in
    let one = c.requires.loose.one in
    let much = c.requires.much in
    let low = ap (length {A = Item}) (get_or_read blocks left c.index.result.now (omega arith) c.index.ensures []) in
    let up = ap (length {A = Item}) (get_or_read blocks (left + 1) c.index-2.result.now inside c.index-2.ensures []) in
    let lower = c.len-lower.ensures.count in
    let upper = c.len-upper.ensures.count in
    let most = c.len-upper.ensures.most in
    let from = get_or_read blocks (left + 1) c.index_mut.result.now inside c.index_mut.ensures.value [] in
    let count = length-set blocks (left + 1) c.remove-item.new.self in
    let to =
    get_or_read (set blocks (left + 1) c.remove-item.new.self) left c.index_mut-then-lower-upper.result.now (omega arith) c.index_mut-then-lower-upper.ensures.value []
    ∙ get_or-set_other blocks (left + 1) left c.remove-item.new.self [] (λ same. omega arith) in
    mended-down blocks left c.requires.loose c.remove-item.result c.insert.new.self c.remove-item.new.self c.len-lower.result
    (c.insert.ensures ∙ ap (λ (block : List Item). insert block c.len-lower.result c.remove-item.result) to)
    (c.remove-item.ensures.items ∙ ap (λ (block : List Item). remove block 0) from)
    (lower ∙ low) (rw from at c.remove-item.ensures.value) (omega arith) much (omega arith)

pub returns-else-lower-upper-clause-mended : goal.returns-else-lower-upper-clause-mended
returns-else-lower-upper-clause-mended c =
    let blocks = c.args.blocks.now.items in
    let left : ℕ = c.args.left in
    let inside = c.requires.loose.within in
    let one = c.requires.loose.one in
    let much = c.requires.much in
    let low = ap (length {A = Item}) (get_or_read blocks left c.index.result.now (omega arith) c.index.ensures []) in
    let up = ap (length {A = Item}) (get_or_read blocks (left + 1) c.index-2.result.now inside c.index-2.ensures []) in
    let lower = c.len-lower.ensures.count in
    let upper = c.len-upper.ensures.count in
    let most = c.len-lower.ensures.most in
    let from = get_or_read blocks left c.index_mut-else-lower-upper.result.now (omega arith) c.index_mut-else-lower-upper.ensures.value [] in
    let count = length-set blocks left c.remove-item-else-lower-upper.new.self in
    let to =
    get_or_read (set blocks left c.remove-item-else-lower-upper.new.self) (left + 1) c.index_mut-else-lower-upper-2.result.now (omega arith) c.index_mut-else-lower-upper-2.ensures.value []
    ∙ get_or-set_other blocks left (left + 1) c.remove-item-else-lower-upper.new.self [] (λ same. omega arith) in
    mended-up blocks left c.requires.loose c.remove-item-else-lower-upper.result c.remove-item-else-lower-upper.new.self c.insert-else-lower-upper.new.self (c.len-lower.result - 1)
    (c.remove-item-else-lower-upper.ensures.items ∙ ap (λ (block : List Item). remove block (c.len-lower.result - 1)) from)
    (c.insert-else-lower-upper.ensures ∙ ap (λ (block : List Item). insert block 0 c.remove-item-else-lower-upper.result) to)
    (omega arith) (rw from at c.remove-item-else-lower-upper.ensures.value) (omega arith) much (omega arith)
