use Rattle.std.proofs.Common.{◌≡◌, ◌+◌, ◌-◌, ℕ, Option, length, arith, ap, ◌∙◌}
use Rattle.std.specs.Prelude.{count_by, nat_lt}
use Rattle.slot_moves.specs.Cuts.{holds}
use Rattle.placement.specs.Live.{rank_in}
use Rattle.placement.specs.Placement.{before_priority, entries_to_be}
use Rattle.move_planner.proofs.Landings.{rank_same}
use Rattle.move_planner.proofs.landing.share_of.Goals as goal

pub returns : goal.returns
returns c =
    let live = c.args.index.now.live in
    let slots = c.args.slots.now in
    let coming = c.args.coming.now in
    let own = rank_in live c.args.id in
    let standing : c.standing_above.result ≡ count_by (λ (held : Option ℕ). holds (λ other. nat_lt own (rank_in live other)) held) slots =
    c.standing_above.ensures.count ∙ ap (λ n. count_by (λ (held : Option ℕ). holds (λ other. nat_lt n (rank_in live other)) held) slots) c.rank_of-rank.ensures in
    let later : c.coming_above.result ≡ count_by (λ (later : ℕ). nat_lt own later) coming =
    c.coming_above.ensures.count ∙ ap (λ n. count_by (λ (later : ℕ). nat_lt n later) coming) c.rank_of-rank.ensures in
    let before : c.standing_above.result + c.coming_above.result ≡ before_priority (rank_in live) coming slots own = omega arith in
    let size = c.slots.ensures.number in
    let free = c.free_count.ensures in
    let all : c.slots.result - c.free_count.result + 1 + length coming ≡ entries_to_be coming slots = omega arith in
    c.rank_slot.ensures.share ∙ rank_same _ _ _ _ _ _ c.slots-2.ensures.number before all
