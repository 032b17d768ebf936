-- What the planner plans is an insertion in slot_order's words.
use Rattle.std.proofs.Common.{◌≡◌, ℕ, suc, ◌+◌, ◌-◌, ◌<◌, ◌≤◌, Bool, true, false, Option, None, Some, List, [], ◌∷◌, ◌++◌, length, map, arith, refl, sym, ◌∙◌, subst, ap, append_assoc}
use Rattle.std.specs.Prelude.{cond, count_by, is_none}
use Rattle.std.proofs.lemmas.List.{map-append}
use Rattle.std.proofs.lemmas.List.Sums.{get_or-le-sum_by}
use Rattle.std.specs.Option.{unwrap_or}
use Rattle.slot_order.specs.Order.{slot, Ordered}
use Rattle.slot_order.specs.Chains.{applied}
use Rattle.slot_moves.specs.Moves.{chain_moves, IsFloor, IsCeiling, Turn, Down, Up, turn_moves, turns_moves}
use Rattle.slot_moves.specs.Cuts.{wrong_side, HasRoomNear}
use Rattle.slot_order.proofs.Walks.{applied_append}
use Rattle.slot_moves.proofs.Passing.{IsPass, ArePasses, HasSides, pass_keeps}
use Rattle.slot_moves.proofs.Passes.{passes_keep}
use Rattle.slot_moves.proofs.BestCut.{best_cut}
use Rattle.slot_moves.proofs.End.{IsEnd, onto_free, over_down, over_up}
use Rattle.slot_moves.proofs.Whole.{IsWhole}
use Rattle.slot_pool.specs.Arrangement.{Slots}
use Rattle.placement.specs.declared.Move.{Move}
use Rattle.placement.specs.declared.Move.TheVariants.{Put, Erase}
use Rattle.placement.specs.Placement.{Above, Aiming, after_moves, next_slot, gap_start, gap_end, span_of, moves_along, landing_down, landing_up, last_of, AreSides, IsCut, Pass, passed, pass_down, pass_up, IsPlacing, into_gap, push_down, push_up, IsPlacement, straight_in, uncross}
use Rattle.slot_pool.proofs.Scan.{nearest_free_is, next_free_is, last_free_is}
use Rattle.placement.proofs.Chain.{write_of, after_moves-applied, Reads, AllKnown, lower_is, upper_is, floor_is, ceiling_is, down_is, up_is}
use Rattle.placement.proofs.Landing.{lands_down, lands_up}
use Rattle.placement.proofs.Leading.{has_sides}
use Rattle.placement.proofs.Reach.{holding}
use Rattle.placement.proofs.Cutting.{are_crossed, floor_least, ceiling_greatest, same_sides, room_same, same_cut}
use Rattle.placement.proofs.Readied.{start_inside}

-- the last part of an insertion
record Ends (over : ℕ → ℕ → Type 0) (tag : ℕ → ℕ) (id : ℕ) (slots : Slots) (moves : List Move) : Type 0 where
  pub front : List (ℕ × Option ℕ)
  pub place : ℕ
  pub ends : IsEnd over tag slots id front place
  pub parts : map write_of moves ≡ front ++ (place, Some id) ∷ []

-- the turns that take all past a boundary
record IsPassing (over : ℕ → ℕ → Type 0) (tag : ℕ → ℕ) (behind before : ℕ → Bool) (cut : ℕ) (slots : Slots) (moves : List Move) : Type 0 where
  pub turns : List Turn
  pub are : ArePasses over tag behind before cut slots turns
  pub same : map write_of moves ≡ turns_moves slots turns
  pub none_left : wrong_side behind before cut (applied slots (turns_moves slots turns)) ≡ 0

-- one turn more in front
more_passing : (over : ℕ → ℕ → Type 0) (tag : ℕ → ℕ) (behind before : ℕ → Bool) (cut : ℕ) (slots : Slots) (turn : Turn) (here later along : List Move) (step : Move)
    → here ≡ along ++ step ∷ [] → IsPass over tag behind before cut slots turn → map write_of here ≡ turn_moves slots turn → after_moves slots here ≡ applied slots (turn_moves slots turn)
    → IsPassing over tag behind before cut (after_moves slots here) later → IsPassing over tag behind before cut slots (along ++ step ∷ later)
more_passing over tag behind before cut slots turn here later along step made is same there h =
    let w = subst (λ z. IsPassing over tag behind before cut z later) there h in
    let b = applied slots (turn_moves slots turn) in
    record {
      turns = turn ∷ w.turns;
      are = (is, w.are);
      same = ap (map write_of) (sym (append_assoc along (step ∷ []) later)) ∙ (ap (λ xs. map write_of (xs ++ later)) (sym made) ∙ (map-append write_of here later ∙ (ap (λ xs. xs ++ map write_of later) same
          ∙ ap (λ xs. turn_moves slots turn ++ xs) w.same)));
      none_left = ap (wrong_side behind before cut) (applied_append slots (turn_moves slots turn) (turns_moves b w.turns)) ∙ w.none_left;
    }

abbrev one_free : Option ℕ → ℕ
one_free held = cond (is_none held) 1 0

-- no more turns than the span has slots
short_cut : (over : ℕ → ℕ → Type 0) (tag : ℕ → ℕ) (P Known : ℕ → Type 0) (above : Above) (id : ℕ) (slots : Slots) (behind before : ℕ → Bool) (cut : ℕ)
    → Reads over tag Known above → ((a : ℕ) → P a → Known a) → Known id → Ordered over tag P slots → AreSides above slots id behind before → HasSides over tag P Known behind before
    → gap_end above slots id < gap_start above slots id → IsCut above slots id behind before cut
    → (turns : List Turn) → ArePasses over tag behind before cut slots turns → length turns ≡ wrong_side behind before cut slots
    → (l u : ℕ) → IsFloor over tag slots id l → IsCeiling over tag slots id u → length turns ≤ (l - 1) - u
short_cut over tag P Known above id slots behind before cut reads up known o sides has crossed best [] are count l u floor ceiling = omega arith
short_cut over tag P Known above id slots behind before cut reads up known o sides has crossed best (turn ∷ turns) are count l u floor ceiling =
    let all : AllKnown Known slots = λ place a t. up a (o.within place a t) in
    let w = are_crossed over tag P Known above slots id behind before reads up known o sides has.apart crossed (some_free over tag behind before cut slots turn are.0) in
    let k = best_cut behind before slots (gap_end above slots id) (gap_start above slots id) cut w best.from best.to best.room best.fewest in
    let a = floor_least over tag slots id (gap_start above slots id) l (floor_is over tag Known above slots id reads all known) floor in
    let b = ceiling_greatest over tag slots id u (gap_end above slots id) ceiling (ceiling_is over tag Known above slots id reads all known) in
    omega arith
  where
    some_free : (over : ℕ → ℕ → Type 0) (tag : ℕ → ℕ) (behind before : ℕ → Bool) (cut : ℕ) (slots : Slots) (turn : Turn) → IsPass over tag behind before cut slots turn
        → 0 < count_by (λ (held : Option ℕ). is_none held) slots
    some_free over tag behind before cut slots (Down free first rest) is =
        let k = get_or-le-sum_by one_free slots free None is.2 in
        let e : one_free (slot slots free) ≡ 1 = ap one_free is.3 in omega arith
    some_free over tag behind before cut slots (Up free first rest) is =
        let k = get_or-le-sum_by one_free slots free None is.2 in
        let e : one_free (slot slots free) ≡ 1 = ap one_free is.3 in omega arith

pass_is : (over : ℕ → ℕ → Type 0) (tag : ℕ → ℕ) (P Known : ℕ → Type 0) (above : Above) (behind before : ℕ → Bool) (cut : ℕ) (slots : Slots) (moves : List Move)
    → Reads over tag Known above → ((a : ℕ) → P a → Known a) → HasSides over tag P Known behind before → Ordered over tag P slots → Pass above behind before cut slots moves
    → IsPassing over tag behind before cut slots moves
pass_is over tag P Known above behind before cut slots moves reads up sides o (passed early late) = record {
  turns = [];
  are = tt;
  same = refl;
  none_left = omega arith;
}
pass_is over tag P Known above behind before cut slots moves reads up sides o (pass_down {moves = later} lower last down shorter rest) =
    let x = holding behind (slot slots lower) last.passing in
    let f = next_free_is slots (cut - 1) down.free down.to in
    let d = down_is over tag P Known above slots down.free lower x.0 down.rest reads up o x.1 down.chain in
    let turn = Down down.free lower down.rest in
    let here = moves_along slots down.free (lower ∷ down.rest) ++ Erase lower ∷ [] in
    let past = f.0 in let before_cut = last.inside in
    let is : IsPass over tag behind before cut slots turn = (last.inside, omega arith, f.1.inside, f.1.free, x, d.chain) in
    let same : map write_of here ≡ turn_moves slots turn = map-append write_of (moves_along slots down.free (lower ∷ down.rest)) (Erase lower ∷ []) ∙ ap (λ xs. xs ++ (lower, None) ∷ []) d.moves in
    let there : after_moves slots here ≡ applied slots (turn_moves slots turn) = after_moves-applied slots here ∙ ap (applied slots) same in
    let k = pass_keeps over tag P Known behind before cut slots turn sides o is in
    let h = pass_is over tag P Known above behind before cut (after_moves slots here) later reads up sides (subst (Ordered over tag P) (sym there) k.ordered) rest in
    more_passing over tag behind before cut slots turn here later (moves_along slots down.free (lower ∷ down.rest)) (Erase lower) refl is same there h
pass_is over tag P Known above behind before cut slots moves reads up sides o (pass_up {moves = later} upper first chain shorter rest) =
    let x = holding before (slot slots upper) first.passing in
    let f = last_free_is slots cut chain.free chain.to in
    let d = up_is over tag P Known above slots chain.free upper x.0 chain.rest reads up o x.1 chain.chain in
    let turn = Up chain.free upper chain.rest in
    let here = moves_along slots chain.free (upper ∷ chain.rest) ++ Erase upper ∷ [] in
    let is : IsPass over tag behind before cut slots turn = (first.inside, f.0, f.1.inside, f.1.free, x, d.chain) in
    let same : map write_of here ≡ turn_moves slots turn = map-append write_of (moves_along slots chain.free (upper ∷ chain.rest)) (Erase upper ∷ []) ∙ ap (λ xs. xs ++ (upper, None) ∷ []) d.moves in
    let there : after_moves slots here ≡ applied slots (turn_moves slots turn) = after_moves-applied slots here ∙ ap (applied slots) same in
    let k = pass_keeps over tag P Known behind before cut slots turn sides o is in
    let h = pass_is over tag P Known above behind before cut (after_moves slots here) later reads up sides (subst (Ordered over tag P) (sym there) k.ordered) rest in
    more_passing over tag behind before cut slots turn here later (moves_along slots chain.free (upper ∷ chain.rest)) (Erase upper) refl is same there h

-- the last part
placing_ends : (over : ℕ → ℕ → Type 0) (tag : ℕ → ℕ) (P Known : ℕ → Type 0) (above : Above) {priority : ℕ → ℕ} {aiming : Aiming} (id : ℕ) (slots : Slots) (moves : List Move)
    → Reads over tag Known above → ((a : ℕ) → P a → Known a) → Known id → Ordered over tag P slots → IsPlacing above priority aiming id slots moves
    → Ends over tag id slots moves
placing_ends over tag P Known above id slots moves reads up known o (into_gap at fits near) =
    let all : AllKnown Known slots = λ place a t. up a (o.within place a t) in
    let n = nearest_free_is slots _ _ _ at near in
    record {
      front = [];
      place = at;
      ends = onto_free (gap_start above slots id) (gap_end above slots id) at (floor_is over tag Known above slots id reads all known) (ceiling_is over tag Known above slots id reads all known)
          n.low n.high n.free.inside n.free.free;
      parts = refl;
    }
placing_ends over tag P Known above {priority} {aiming} id slots moves reads up known o (push_down lower fits none is down shorter) =
    let all : AllKnown Known slots = λ place a t. up a (o.within place a t) in
    let w = lower_is over tag Known above slots id lower reads all known is in
    let end_at : gap_end above slots id ≡ lower = ap (λ found. unwrap_or found (length slots)) is in
    let f = next_free_is slots lower down.free down.to in
    let near = down_is over tag P Known above slots down.free lower w.lower down.rest reads up o w.stands down.chain in
    let to = landing_down above priority aiming slots down.free (last_of lower down.rest) in
    let l = lands_down over tag above priority aiming slots down.free lower down.rest f.1 near.chain down.chain in
    let d = down_is over tag P Known above slots to lower w.lower down.rest reads up o w.stands l.chain in
    record {
      front = chain_moves slots to lower down.rest;
      place = lower;
      ends = over_down (gap_start above slots id) lower to down.rest w.lower (floor_is over tag Known above slots id reads all known)
          (subst (IsCeiling over tag slots id) end_at (ceiling_is over tag Known above slots id reads all known)) (omega arith) w.stands w.meets w.less l.empty.inside l.empty.free d.chain;
      parts = map-append write_of (moves_along slots to (lower ∷ down.rest)) (Put lower id ∷ []) ∙ ap (λ xs. xs ++ (lower, Some id) ∷ []) d.moves;
    }
placing_ends over tag P Known above {priority} {aiming} id slots moves reads up known o (push_up upper fits none is chain longer) =
    let all : AllKnown Known slots = λ place a t. up a (o.within place a t) in
    let w = upper_is over tag Known above slots id upper reads all known is in
    let start_at : gap_start above slots id ≡ upper + 1 = ap next_slot is in
    let start : gap_start above slots id ≡ suc upper = omega arith in
    let f = last_free_is slots upper chain.free chain.to in
    let near = up_is over tag P Known above slots chain.free upper w.upper chain.rest reads up o w.stands chain.chain in
    let to = landing_up above priority aiming slots chain.free (last_of upper chain.rest) in
    let l = lands_up over tag above priority aiming slots chain.free upper chain.rest f.1 near.chain chain.chain in
    let d = up_is over tag P Known above slots to upper w.upper chain.rest reads up o w.stands l.chain in
    record {
      front = chain_moves slots to upper chain.rest;
      place = upper;
      ends = over_up upper (gap_end above slots id) to chain.rest w.upper (subst (IsFloor over tag slots id) start (floor_is over tag Known above slots id reads all known))
          (ceiling_is over tag Known above slots id reads all known) (omega arith) w.stands w.meets w.more l.empty.inside l.empty.free d.chain;
      parts = map-append write_of (moves_along slots to (upper ∷ chain.rest)) (Put upper id ∷ []) ∙ ap (λ xs. xs ++ (upper, Some id) ∷ []) d.moves;
    }

-- a plan in slot_order's words: no more turns than entries stand on the wrong side of any boundary of the crossed stretch
-- that has room, and on that of the best one no more than the span has slots
pub record IsPlanned (over : ℕ → ℕ → Type 0) (tag : ℕ → ℕ) (P Known : ℕ → Type 0) (above : Above) (id : ℕ) (slots : Slots) (moves : List Move) : Type 0 where
  pub whole : IsWhole over tag P Known slots id (map write_of moves)
  pub fewest : (behind before : ℕ → Bool) (other : ℕ) → AreSides above slots id behind before → gap_end above slots id ≤ other → other ≤ gap_start above slots id
      → HasRoomNear behind before (gap_end above slots id) (gap_start above slots id) other slots → length whole.turns ≤ wrong_side behind before other slots
  pub parted : (behind before : ℕ → Bool) → AreSides above slots id behind before → gap_end above slots id < gap_start above slots id
      → (boundary : ℕ) × IsCut above slots id behind before boundary × (wrong_side behind before boundary slots ≤ span_of above slots id)

-- no entry must stand on either side
abbrev never : ℕ → Bool
never id = false

no_sides : (over : ℕ → ℕ → Type 0) (tag : ℕ → ℕ) (P Known : ℕ → Type 0) (above : Above) → Reads over tag Known above → ((a : ℕ) → P a → Known a) → HasSides over tag P Known never never
no_sides over tag P Known above reads up = record {
  mirror = reads.mirror;
  down = λ a b pa pb is v l. absurd (let z : false ≡ true = is in cc);
  up = λ a b pa pb is v l. absurd (let z : false ≡ true = is in cc);
  apart = λ a pa is. refl;
  apart' = λ a pa is. refl;
  leads_down = λ a pa is. absurd (let z : false ≡ true = is in cc);
  leads_on = λ a pa is. absurd (let z : false ≡ true = is in cc);
  known = up;
}

-- nothing crosses where an id is placed
pub placing_fits : (above : Above) {priority : ℕ → ℕ} {aiming : Aiming} (id : ℕ) (slots : Slots) (moves : List Move) → IsPlacing above priority aiming id slots moves → gap_start above slots id ≤ gap_end above slots id
placing_fits above id slots moves (into_gap at fits near) = fits
placing_fits above id slots moves (push_down lower fits none is down shorter) = fits
placing_fits above id slots moves (push_up upper fits none is up longer) = fits

-- two parts of moves as writes
joined : (writes : List (ℕ × Option ℕ)) (passing later : List Move) (front own : List (ℕ × Option ℕ)) → map write_of passing ≡ writes → map write_of later ≡ front ++ own
    → map write_of (passing ++ later) ≡ (writes ++ front) ++ own
joined writes passing later front own a b =
    map-append write_of passing later ∙ (ap (λ xs. xs ++ map write_of later) a ∙ (ap (λ xs. writes ++ xs) b ∙ sym (append_assoc writes front own)))

pub planned : (over : ℕ → ℕ → Type 0) (tag : ℕ → ℕ) (P Known : ℕ → Type 0) (above : Above) {priority : ℕ → ℕ} {aiming : Aiming} (id : ℕ) (slots : Slots) (moves : List Move)
    → Reads over tag Known above → ((a : ℕ) → P a → Known a) → Known id → Ordered over tag P slots → IsPlacement above priority aiming id slots moves
    → IsPlanned over tag P Known above id slots moves
planned over tag P Known above id slots moves reads up known o (straight_in placing) =
    let e = placing_ends over tag P Known above id slots moves reads up known o placing in
    record {
      whole = record {
        behind = never;
        before = never;
        sides = no_sides over tag P Known above reads up;
        cut = 0;
        inside = omega arith;
        turns = [];
        are = tt;
        short = λ l u floor ceiling. omega arith;
        front = e.front;
        place = e.place;
        ends = e.ends;
        parts = e.parts;
      };
      fewest = λ behind before other sides low high room. omega arith;
      parted = λ behind before sides crossed. absurd (let fits = placing_fits above id slots moves placing in omega arith);
    }
planned over tag P Known above id slots moves reads up known o (uncross {passing = passing} {moves = later} behind before cut crossed sides best pass placing) =
    let has = has_sides over tag P Known above slots id behind before reads up known o sides in
    let p = pass_is over tag P Known above behind before cut slots passing reads up has o pass in
    let inside : cut ≤ length slots = (let a = best.to in let b = start_inside above slots id in omega arith) in
    let k = passes_keep over tag P Known behind before cut slots p.turns has o inside p.are in
    let there : after_moves slots passing ≡ applied slots (turns_moves slots p.turns) = after_moves-applied slots passing ∙ ap (applied slots) p.same in
    let e = placing_ends over tag P Known above id (after_moves slots passing) later reads up known (subst (Ordered over tag P) (sym there) k.ordered) placing in
    let count : length p.turns ≡ wrong_side behind before cut slots = (let a = k.count in let b = p.none_left in omega arith) in
    let short = short_cut over tag P Known above id slots behind before cut reads up known o sides has crossed best p.turns p.are count in
    let all : AllKnown Known slots = λ place a t. up a (o.within place a t) in
    record {
      whole = record {
        behind = behind;
        before = before;
        sides = has;
        cut = cut;
        inside = inside;
        turns = p.turns;
        are = p.are;
        short = short;
        front = e.front;
        place = e.place;
        ends = subst (λ z. IsEnd over tag z id e.front e.place) there e.ends;
        parts = joined (turns_moves slots p.turns) passing later e.front ((e.place, Some id) ∷ []) p.same e.parts;
      };
      fewest = λ behind' before' other sides' low high room.
          let within : other ≤ length slots = (let b = start_inside above slots id in omega arith) in
          let s = same_sides above slots id other behind before behind' before' within sides sides' in
          let f = best.fewest other low high (room_same behind before behind' before' (gap_end above slots id) (gap_start above slots id) other slots s.0 s.1 room) in
          let x = s.0 in let y = s.1 in omega arith;
      parted = λ behind' before' sides' crossed'.
          let s = same_sides above slots id cut behind before behind' before' inside sides sides' in
          let k = short (gap_start above slots id) (gap_end above slots id) (floor_is over tag Known above slots id reads all known) (ceiling_is over tag Known above slots id reads all known) in
          let x = s.0 in let y = s.1 in
          (cut, same_cut above slots id cut behind before behind' before' sides sides' best, omega arith);
    }

pub plan : (over : ℕ → ℕ → Type 0) (tag : ℕ → ℕ) (P Known : ℕ → Type 0) (above : Above) {priority : ℕ → ℕ} {aiming : Aiming} (id : ℕ) (slots : Slots) (moves : List Move)
    → Reads over tag Known above → ((a : ℕ) → P a → Known a) → Known id → Ordered over tag P slots → IsPlacement above priority aiming id slots moves
    → IsWhole over tag P Known slots id (map write_of moves)
plan over tag P Known above id slots moves reads up known o placement = (planned over tag P Known above id slots moves reads up known o placement).whole
