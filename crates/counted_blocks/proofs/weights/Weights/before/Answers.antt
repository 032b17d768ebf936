use Rattle.std.proofs.Common.{◌+◌, ◌-◌, ◌*◌, ◌/◌, ◌∙◌, ℕ, ap, ap₂, take, drop, List, arith}
use Rattle.counted_blocks.specs.declared.weights.Weight.{Weight}
use Rattle.counted_blocks.specs.Counted.{count_sum, size_sum}
use Rattle.counted_blocks.proofs.Groups.{before-count, before-size, front-fits, groups-fit, part-fits}
use Rattle.counted_blocks.proofs.weights.Weights.before.Goals as goal

pub sum-whole-requires : goal.sum-whole-requires
sum-whole-requires c =
    let i = c.self.inside in
    let within = rw (← c.self.view_is) at c.requires in
    let least = c.self.invariant.grouped.least in
    rw c.deref.ensures.value (groups-fit i.weights.items i.groups.items c.self.invariant.few c.self.invariant.light c.self.invariant.grouped (c.args.block / 32) (omega arith))

pub sum-part-requires : goal.sum-part-requires
sum-part-requires c =
    rw c.deref-2.ensures.value (part-fits c.self.inside.weights.items c.self.invariant.few c.self.invariant.light (32 * (c.args.block / 32)) (c.args.block - 32 * (c.args.block / 32)))

pub overflow_add-result : goal.overflow_add-result
overflow_add-result c =
    let i = c.self.inside in
    let within = rw (← c.self.view_is) at c.requires in
    let g : ℕ = c.args.block / 32 in
    let n : ℕ = c.args.block - 32 * g in
    let whole = ap (λ (weight : Weight). weight.count) c.sum-whole.ensures ∙ ap (λ (all : List Weight). count_sum (take g all)) c.deref.ensures.value in
    let part = ap (λ (weight : Weight). weight.count) c.sum-part.ensures ∙ ap (λ (all : List Weight). count_sum (take n (drop (32 * g) all))) c.deref-2.ensures.value in
    let all = before-count i.weights.items i.groups.items c.self.invariant.few c.self.invariant.light c.self.invariant.grouped c.args.block within in
    let fits = front-fits i.weights.items c.self.invariant.few c.self.invariant.light c.args.block in
    let most = fits.count in
    omega arith

pub overflow_add-result-2 : goal.overflow_add-result-2
overflow_add-result-2 c =
    let i = c.self.inside in
    let within = rw (← c.self.view_is) at c.requires in
    let g : ℕ = c.args.block / 32 in
    let n : ℕ = c.args.block - 32 * g in
    let whole = ap (λ (weight : Weight). weight.size) c.sum-whole.ensures ∙ ap (λ (all : List Weight). size_sum (take g all)) c.deref.ensures.value in
    let part = ap (λ (weight : Weight). weight.size) c.sum-part.ensures ∙ ap (λ (all : List Weight). size_sum (take n (drop (32 * g) all))) c.deref-2.ensures.value in
    let all = before-size i.weights.items i.groups.items c.self.invariant.few c.self.invariant.light c.self.invariant.grouped c.args.block within in
    let fits = front-fits i.weights.items c.self.invariant.few c.self.invariant.light c.args.block in
    let most = fits.size in
    omega arith

pub returns : goal.returns
returns c =
    let i = c.self.inside in
    let within = rw (← c.self.view_is) at c.requires in
    let g : ℕ = c.args.block / 32 in
    let n : ℕ = c.args.block - 32 * g in
    let whole = ap (λ (weight : Weight). weight.count) c.sum-whole.ensures ∙ ap (λ (all : List Weight). count_sum (take g all)) c.deref.ensures.value in
    let part = ap (λ (weight : Weight). weight.count) c.sum-part.ensures ∙ ap (λ (all : List Weight). count_sum (take n (drop (32 * g) all))) c.deref-2.ensures.value in
    let all = before-count i.weights.items i.groups.items c.self.invariant.few c.self.invariant.light c.self.invariant.grouped c.args.block within in
    let whole_size = ap (λ (weight : Weight). weight.size) c.sum-whole.ensures ∙ ap (λ (all : List Weight). size_sum (take g all)) c.deref.ensures.value in
    let part_size = ap (λ (weight : Weight). weight.size) c.sum-part.ensures ∙ ap (λ (all : List Weight). size_sum (take n (drop (32 * g) all))) c.deref-2.ensures.value in
    let all_size = before-size i.weights.items i.groups.items c.self.invariant.few c.self.invariant.light c.self.invariant.grouped c.args.block within in
    rw (← c.self.view_is)
    (ap₂ {C = Weight} (λ (x y : ℕ). record { count = x; size = y }) (ap₂ (λ (x y : ℕ). x + y) whole part ∙ all) (ap₂ (λ (x y : ℕ). x + y) whole_size part_size ∙ all_size))
