use Rattle.std.proofs.Common.{◌≡◌, ℕ, ◌<◌, ◌≤◌, IfSome, Option, None, Some, length, arith, sym}
use Rattle.slot_order.specs.Order.{most_slots}
use Rattle.slot_pool.specs.Arrangement.{Slots, home_of}
use Rattle.batch_order.proofs.ids.Standing.{home_inside}
use Rattle.batch_order.proofs.entries.LiveEntries.tell.Goals as goal

-- where an id stands is a small number
small_home : (slots : Slots) (id : ℕ) (found : Option ℕ) → length slots ≤ most_slots → found ≡ home_of slots id → IfSome found (λ at. at < 4294967295)
small_home slots id None few is = tt
small_home slots id (Some at) few is = let inside = home_inside slots id at (sym is) in omega arith

pub stand-requires-clause-small : goal.stand-requires-clause-small
stand-requires-clause-small c = small_home c.args.arrangement.now c.args.id c.home.result (let n = c.slots-slots.ensures.number in let most = c.slots-slots.ensures.most in omega arith) c.home.ensures
