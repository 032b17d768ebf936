use Rattle.std.proofs.Common.{◌≡◌, ◌+◌, ◌∙◌, ℕ, List, [], ◌++◌, length, set, ap, ap₂, arith, length-append}
use Rattle.std.specs.List.{remove}
use Rattle.std.proofs.lemmas.List.{get_or_read, get_or-set_same, length-set}
use Rattle.std.proofs.lemmas.List.Edits.{get_or-remove_below, length-remove}
use Rattle.counted_blocks.specs.declared.Item.{Item}
use Rattle.counted_blocks.specs.declared.weights.Weight.{Weight}
use Rattle.counted_blocks.specs.Counted.{block_at, weight_of}
use Rattle.counted_blocks.proofs.Evens.{mended-joined, weights-joined}
use Rattle.counted_blocks.proofs.cuts.join.Goals as goal

pub returns-clause-mended : goal.returns-clause-mended
returns-clause-mended c =
    let blocks = c.args.blocks.now.items in
    let left : ℕ = c.args.left in
    let inside = c.requires.loose.within in
    let count = length-remove blocks (left + 1) inside in
    let up = get_or_read blocks (left + 1) c.remove-upper.result inside c.remove-upper.ensures.value [] in
    let value = rw c.remove-upper.ensures.items at c.index_mut.ensures.value in
    let low = get_or_read (remove blocks (left + 1)) left c.index_mut.result.now (omega arith) value [] ∙ get_or-remove_below blocks (left + 1) [] left (omega arith) inside in
    let joined : c.append.new.self ≡ block_at blocks left ++ block_at blocks (left + 1) = c.append.ensures.lower ∙ ap₂ (λ (a b : List Item). a ++ b) low up in
    let n = ap (length {A = Item}) joined ∙ length-append (block_at blocks left) (block_at blocks (left + 1)) in
    rw c.remove-upper.ensures.items (mended-joined blocks left c.requires.loose c.append.new.self joined (omega (arith, c.requires.fits)))

pub returns-clause-weighed : goal.returns-clause-weighed
returns-clause-weighed c =
    let blocks = c.args.blocks.now.items in
    let left : ℕ = c.args.left in
    let inside = c.requires.loose.within in
    let fewer = length-remove blocks (left + 1) inside in
    let value = rw c.remove-upper.ensures.items at c.index.ensures in
    let count = length-set (remove blocks (left + 1)) left c.append.new.self in
    let read = get_or_read (set (remove blocks (left + 1)) left c.append.new.self) left c.index.result.now (omega arith) value [] ∙ get_or-set_same (remove blocks (left + 1)) left c.append.new.self [] (omega arith) in
    rw c.remove-upper.ensures.items
    (weights-joined blocks c.args.weights.now.weights c.set.new.self.weights left c.append.new.self c.requires.weighed
    (c.set.ensures.weights ∙ ap₂ (λ (all : List Weight) (one : Weight). set all left one) c.remove.ensures.weights (c.weigh-weight.ensures.weight ∙ ap weight_of read)))
