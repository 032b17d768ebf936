-- What the steps of the planner need and what they leave.
use Rattle.std.specs.Prelude.{◌≡◌, ℕ, ◌+◌, ◌-◌, ◌*◌, ◌<◌, ◌≤◌, ◌⊎◌, IsTrue, Bool, true, false, Contains, Option, None, Some, MatchOption, List, ◌∷◌, ◌++◌, [], length, min, max, slice_index_or, if◌then◌else◌, nat_lt, nat_le, ◌&&◌, ◌↔◌}
use Rattle.slot_order.specs.Order.{slot, most_slots}
use Rattle.slot_moves.specs.Cuts.{holds, early, late, wrong_side, free_before, free_behind, HasRoom}
use Rattle.slot_pool.specs.Arrangement.{Slots, HasTwin, home_of, next_free_above, last_free_below}
use Rattle.placement.specs.Live.{LivePieces, is_live, is_above, rank_in}
use Rattle.placement.specs.declared.Aim.{Aim}
use Rattle.placement.specs.declared.Move.{Move}
use Rattle.placement.specs.declared.Move.TheVariants.{Put, Erase}
use Rattle.move_planner.specs.Made.{MovesMade}
use Rattle.move_planner.specs.declared.chains.Chain.{Chain}
use Rattle.move_planner.specs.declared.shorter.Ends.{Ends}
use Rattle.move_planner.specs.declared.sides.Sides.{Sides}
use Rattle.move_planner.specs.declared.crossings.Cut.{Cut}
use Rattle.placement.specs.Placement.{Above, after_moves, moves_along, first_lower, last_upper, gap_start, gap_end, gap_slot, IsDownChain, IsUpChain, DownChain, UpChain, Leads, AreSides, IsLastBefore, IsFirstFrom, Pass, IsPlacing, IsPlacement, Aiming, last_of, landing_down, landing_up}
use Rattle.placement.specs.Insertion.{free_slots}
use Rattle.placement.specs.Ready.{IsTaken, IsReady}

-- the lesser of two slots, or the one that there is
abbrev pub lesser : Option ℕ → Option ℕ → Option ℕ
lesser None b = b
lesser (Some a) None = Some a
lesser (Some a) (Some b) = Some (min a b)

-- the greater of two slots, or the one that there is
abbrev pub greater : Option ℕ → Option ℕ → Option ℕ
greater None b = b
greater (Some a) None = Some a
greater (Some a) (Some b) = Some (max a b)

-- each id that stands is live
abbrev pub AllLive : LivePieces → Slots → Type 0
AllLive index slots = (at id : ℕ) → slot slots at ≡ Some id → IsTrue (is_live index.live id)

-- the move is one that an arrangement can make: what it is put over stands in another slot too
abbrev pub CanMake : Slots → Move → Type 0
CanMake slots (Put at id) = (at < length slots) × ((slot slots at ≡ None) ⊎ HasTwin slots at)
CanMake slots (Erase at) = at < length slots

-- a down chain from a slot to the free slot that it goes to
pub record IsDown (above : Above) (slots : Slots) (from : ℕ) (target : Option ℕ) (chain : Chain) : Type 0 where
  pub rest : List ℕ
  pub to : target ≡ Some chain.free
  pub members : chain.members.items ≡ from ∷ rest
  pub follows : IsDownChain above slots chain.free (from ∷ rest)

-- likewise upwards
pub record IsUp (above : Above) (slots : Slots) (from : ℕ) (target : Option ℕ) (chain : Chain) : Type 0 where
  pub rest : List ℕ
  pub to : target ≡ Some chain.free
  pub members : chain.members.items ≡ from ∷ rest
  pub follows : IsUpChain above slots chain.free (from ∷ rest)

-- a chain can go down from one slot to another, or up
abbrev pub CanGoDown : Slots → Ends → Type 0
CanGoDown slots ends = (ends.from < ends.free) × (ends.free < length slots) × IsTaken slots ends.from

abbrev pub CanGoUp : Slots → Ends → Type 0
CanGoUp slots ends = (ends.free < ends.from) × IsTaken slots ends.from

-- of the chains between two pairs of ends the down chain, where no up chain is shorter, or the up chain, where each down
-- chain is longer
pub record DownIsShorter (above : Above) (slots : Slots) (down up : Option Ends) (chain : Chain) : Type 0 where
  pub ends : Ends
  pub begins : down ≡ Some ends
  pub goes : IsDown above slots ends.from (Some ends.free) chain
  pub shortest : (other : Ends) → up ≡ Some other → (rest : List ℕ) → IsUpChain above slots other.free (other.from ∷ rest) → length goes.rest ≤ length rest

pub record UpIsShorter (above : Above) (slots : Slots) (down up : Option Ends) (chain : Chain) : Type 0 where
  pub ends : Ends
  pub begins : up ≡ Some ends
  pub goes : IsUp above slots ends.from (Some ends.free) chain
  pub shortest : (other : Ends) → down ≡ Some other → (rest : List ℕ) → IsDownChain above slots other.free (other.from ∷ rest) → length goes.rest < length rest

abbrev pub IsShorter : Above → Slots → Option Ends → Option Ends → Chain → Type 0
IsShorter above slots down up chain = DownIsShorter above slots down up chain ⊎ UpIsShorter above slots down up chain

abbrev pub FindsShorter : Above → Slots → Option Ends → Option Ends → Option Chain → Type 0
FindsShorter above slots down up found = MatchOption found ((down ≡ None) × (up ≡ None)) (IsShorter above slots down up)

-- a slot, and the free one that a chain from it goes to, if there is one
abbrev pub ends_at : ℕ → Option ℕ → Option Ends
ends_at from None = None
ends_at from (Some free) = Some (record { from = from; free = free })

-- the ends of the down chain from a slot, if there is a slot, and of the up chain
abbrev pub ends_down : Slots → Option ℕ → Option Ends
ends_down slots None = None
ends_down slots (Some lower) = ends_at lower (next_free_above slots lower)

abbrev pub ends_up : Slots → Option ℕ → Option Ends
ends_up slots None = None
ends_up slots (Some upper) = ends_at upper (last_free_below slots upper)

-- no slot of the gap is free: whatever the aim, none is the nearest to it
abbrev pub IsFull : Above → Slots → ℕ → Type 0
IsFull above slots id = (aim : Aim) × (gap_slot above aim slots id ≡ None)

-- a chain has moved, and its first slot was erased
pub record IsShiftedOut (slots slots' : Slots) (plan plan' : List Move) (along : Chain) : Type 0 where
  pub gained : plan' ≡ plan ++ (moves_along slots along.free along.members.items ++ Erase (slice_index_or along.members.items 0 along.free) ∷ [])
  pub after : slots' ≡ after_moves slots (moves_along slots along.free along.members.items ++ Erase (slice_index_or along.members.items 0 along.free) ∷ [])
  pub same_free : free_slots slots' ≡ free_slots slots

-- the mark of a slot, where the marks begin with one slot
abbrev pub mark_at : List Bool → ℕ → ℕ → Bool
mark_at marks start at = slice_index_or marks (at - start) false

-- the last marked slot before one, or none
abbrev pub IsLastMarked : List Bool → ℕ → ℕ → Option ℕ → Type 0
IsLastMarked marks start end found = MatchOption found ((at : ℕ) → start ≤ at → at < end → mark_at marks start at ≡ false)
    (λ at. (start ≤ at) × (at < end) × (mark_at marks start at ≡ true) × ((other : ℕ) → at < other → other < end → mark_at marks start other ≡ false))

-- the first marked slot from one on, or none
abbrev pub IsFirstMarked : List Bool → ℕ → ℕ → ℕ → Option ℕ → Type 0
IsFirstMarked marks start from end found = MatchOption found ((at : ℕ) → from ≤ at → at < end → mark_at marks start at ≡ false)
    (λ at. (from ≤ at) × (at < end) × (mark_at marks start at ≡ true) × ((other : ℕ) → from ≤ other → other < at → mark_at marks start other ≡ false))

-- the slot holds an entry that an id leads to, or one that leads to it
abbrev pub LedTo : Above → Slots → ℕ → ℕ → Type 0
LedTo above slots id at = (other : ℕ) × (slot slots at ≡ Some other) × Leads above slots id other

abbrev pub LeadsFrom : Above → Slots → ℕ → ℕ → Type 0
LeadsFrom above slots id at = (other : ℕ) × (slot slots at ≡ Some other) × Leads above slots other id

-- a slot is marked, where the marks begin with one slot
abbrev pub is_marked : ℕ → ℕ → List Bool → Bool
is_marked at start marks = nat_le start at && slice_index_or marks (at - start) false

-- the slots of some ids are marked too, of those that the marks are of
pub record AreMarked (slots : Slots) (start : ℕ) (ids : List ℕ) (marks marks' : List Bool) : Type 0 where
  pub many : length marks' ≡ length marks
  pub kept : (at : ℕ) → IsTrue (is_marked at start marks) → IsTrue (is_marked at start marks')
  pub told : (at id : ℕ) → Contains ids id → home_of slots id ≡ Some at → start ≤ at → at < start + length marks → IsTrue (is_marked at start marks')
  pub only : (at : ℕ) → IsTrue (is_marked at start marks') → IsTrue (is_marked at start marks) ⊎ ((id : ℕ) × Contains ids id × (home_of slots id ≡ Some at))

-- likewise those of the entries that pass a test
pub record AreReached (reached : ℕ → Bool) (slots : Slots) (start : ℕ) (marks marks' : List Bool) : Type 0 where
  pub many : length marks' ≡ length marks
  pub kept : (at : ℕ) → IsTrue (is_marked at start marks) → IsTrue (is_marked at start marks')
  pub told : (at other : ℕ) → slot slots at ≡ Some other → reached other ≡ true → start ≤ at → at < start + length marks → IsTrue (is_marked at start marks')
  pub only : (at : ℕ) → IsTrue (is_marked at start marks') → IsTrue (is_marked at start marks) ⊎ ((other : ℕ) × (slot slots at ≡ Some other) × (reached other ≡ true))

-- the marks of the slots from one on and before another say which hold an entry that an id leads to
pub record AreLedTo (above : Above) (slots : Slots) (id start end : ℕ) (marks : List Bool) : Type 0 where
  pub many : length marks ≡ end - start
  pub say : (at : ℕ) → start ≤ at → at < end → IsTrue (is_marked at start marks) ↔ LedTo above slots id at

pub record LeadFrom (above : Above) (slots : Slots) (id start end : ℕ) (marks : List Bool) : Type 0 where
  pub many : length marks ≡ end - start
  pub say : (at : ℕ) → start ≤ at → at < end → IsTrue (is_marked at start marks) ↔ LeadsFrom above slots id at

-- the sides of a crossed stretch, slot by slot
pub record AreFoundSides (above : Above) (slots : Slots) (id : ℕ) (sides : Sides) : Type 0 where
  pub start_is : sides.start ≡ gap_end above slots id
  pub end_is : sides.end ≡ gap_start above slots id
  pub led : AreLedTo above slots id sides.start sides.end sides.behind
  pub lead : LeadFrom above slots id sides.start sides.end sides.before

-- a cut under way: which slots are clear, and what the marks of the others say
pub record IsUnderway (index : LivePieces) (id : ℕ) (behind before : ℕ → Bool) (slots : Slots) (sides : Sides) (cut : Cut) : Type 0 where
  pub ready : IsReady index id slots
  pub are : AreSides (is_above index.live) slots id behind before
  pub room : HasRoom behind before cut.boundary slots
  pub start_low : sides.start ≤ cut.low
  pub low_cut : cut.low ≤ cut.boundary
  pub cut_high : cut.boundary ≤ cut.high
  pub high_end : cut.high ≤ sides.end
  pub inside : sides.end ≤ length slots
  pub many_behind : length sides.behind ≡ sides.end - sides.start
  pub many_before : length sides.before ≡ sides.end - sides.start
  pub marks_behind : (at : ℕ) → sides.start ≤ at → at < cut.low → mark_at sides.behind sides.start at ≡ holds behind (slot slots at)
  pub clear_low : (at : ℕ) → cut.low ≤ at → at < cut.boundary → holds behind (slot slots at) ≡ false
  pub clear_start : (at : ℕ) → at < sides.start → holds behind (slot slots at) ≡ false
  pub marks_before : (at : ℕ) → cut.high ≤ at → at < sides.end → mark_at sides.before sides.start at ≡ holds before (slot slots at)
  pub clear_high : (at : ℕ) → cut.boundary ≤ at → at < cut.high → holds before (slot slots at) ≡ false
  pub clear_end : (at : ℕ) → sides.end ≤ at → holds before (slot slots at) ≡ false

-- one entry has passed the boundary
pub record OnePassed (index : LivePieces) (id : ℕ) (behind before : ℕ → Bool) (was now : MovesMade) (sides : Sides) (cut next : Cut) : Type 0 where
  pub moves : List Move
  pub gained : now.plan ≡ was.plan ++ moves
  pub after : now.slots ≡ after_moves was.slots moves
  pub goes_on : (rest : List Move) → Pass (is_above index.live) behind before cut.boundary now.slots rest → Pass (is_above index.live) behind before cut.boundary was.slots (moves ++ rest)
  pub underway : IsUnderway index id behind before now.slots sides next
  pub same_boundary : next.boundary ≡ cut.boundary
  pub same_free : free_slots now.slots ≡ free_slots was.slots
  pub fewer : wrong_side behind before cut.boundary now.slots + 1 ≡ wrong_side behind before cut.boundary was.slots
  pub few : length moves ≤ (1 + most_slots)

-- the ends of the last early entry's chain, or none, since none is early or no slot behind the boundary is free
pub record EarlyEnds (behind : ℕ → Bool) (slots : Slots) (sides : Sides) (cut : Cut) (ends : Ends) : Type 0 where
  pub low : sides.start ≤ ends.from
  pub less : ends.from < cut.low
  pub last : IsLastBefore behind cut.boundary slots ends.from
  pub to : next_free_above slots (cut.boundary - 1) ≡ Some ends.free

pub record NoEarlyEnds (behind : ℕ → Bool) (slots : Slots) (cut : Cut) : Type 0 where
  pub none : (lower : ℕ) → IsLastBefore behind cut.boundary slots lower → next_free_above slots (cut.boundary - 1) ≡ None
  pub done : (early behind cut.boundary slots ≡ 0) ⊎ (free_behind cut.boundary slots ≡ 0)

abbrev pub FindsEarly : (ℕ → Bool) → Slots → Sides → Cut → Option Ends → Type 0
FindsEarly behind slots sides cut found = MatchOption found (NoEarlyEnds behind slots cut) (EarlyEnds behind slots sides cut)

-- the ends of the first late entry's chain
pub record LateEnds (before : ℕ → Bool) (slots : Slots) (sides : Sides) (cut : Cut) (ends : Ends) : Type 0 where
  pub high : cut.high ≤ ends.from
  pub less : ends.from < sides.end
  pub first : IsFirstFrom before cut.boundary slots ends.from
  pub to : last_free_below slots cut.boundary ≡ Some ends.free

pub record NoLateEnds (before : ℕ → Bool) (slots : Slots) (cut : Cut) : Type 0 where
  pub none : (upper : ℕ) → IsFirstFrom before cut.boundary slots upper → last_free_below slots cut.boundary ≡ None
  pub done : (late before cut.boundary slots ≡ 0) ⊎ (free_before cut.boundary slots ≡ 0)

abbrev pub FindsLate : (ℕ → Bool) → Slots → Sides → Cut → Option Ends → Type 0
FindsLate before slots sides cut found = MatchOption found (NoLateEnds before slots cut) (LateEnds before slots sides cut)

-- the chain of the last early entry
pub record EarlyChain (above : Above) (behind : ℕ → Bool) (slots : Slots) (sides : Sides) (cut : Cut) (chain : Chain) : Type 0 where
  pub lower : ℕ
  pub low : sides.start ≤ lower
  pub less : lower < cut.low
  pub last : IsLastBefore behind cut.boundary slots lower
  pub down : IsDown above slots lower (next_free_above slots (cut.boundary - 1)) chain

-- the chain of the first late entry
pub record LateChain (above : Above) (before : ℕ → Bool) (slots : Slots) (sides : Sides) (cut : Cut) (chain : Chain) : Type 0 where
  pub upper : ℕ
  pub high : cut.high ≤ upper
  pub less : upper < sides.end
  pub first : IsFirstFrom before cut.boundary slots upper
  pub up : IsUp above slots upper (last_free_below slots cut.boundary) chain

-- the shorter of the two, the early one's of equal ones
pub record EarlyPasses (above : Above) (behind before : ℕ → Bool) (slots : Slots) (sides : Sides) (cut : Cut) (chain : Chain) : Type 0 where
  pub early_one : EarlyChain above behind slots sides cut chain
  pub shortest : (upper : ℕ) → IsFirstFrom before cut.boundary slots upper → (up : UpChain above slots upper (last_free_below slots cut.boundary)) → length early_one.down.rest ≤ length up.rest

pub record LatePasses (above : Above) (behind before : ℕ → Bool) (slots : Slots) (sides : Sides) (cut : Cut) (chain : Chain) : Type 0 where
  pub late_one : LateChain above before slots sides cut chain
  pub shortest : (lower : ℕ) → IsLastBefore behind cut.boundary slots lower → (down : DownChain above slots lower (next_free_above slots (cut.boundary - 1))) → length late_one.up.rest < length down.rest

-- no chain, and so none is on the wrong side
pub record NonePass (behind before : ℕ → Bool) (slots : Slots) (cut : Cut) : Type 0 where
  pub early_none : early behind cut.boundary slots ≡ 0
  pub late_none : late before cut.boundary slots ≡ 0

abbrev pub FindsPasser : Above → (ℕ → Bool) → (ℕ → Bool) → Slots → Sides → Cut → Option Chain → Type 0
FindsPasser above behind before slots sides cut found =
    MatchOption found (NonePass behind before slots cut) (λ chain. EarlyPasses above behind before slots sides cut chain ⊎ LatePasses above behind before slots sides cut chain)

-- none is left to pass it
pub record NonePasses (behind before : ℕ → Bool) (was now : MovesMade) (cut : Cut) : Type 0 where
  pub early_none : early behind cut.boundary was.slots ≡ 0
  pub late_none : late before cut.boundary was.slots ≡ 0
  pub same_slots : now.slots ≡ was.slots
  pub same_plan : now.plan ≡ was.plan

abbrev pub MayPass : LivePieces → ℕ → (ℕ → Bool) → (ℕ → Bool) → MovesMade → MovesMade → Sides → Cut → Option Cut → Type 0
MayPass index id behind before was now sides cut next =
    MatchOption next (NonePasses behind before was now cut) (OnePassed index id behind before was now sides cut)

-- how far a boundary is clear once what stood in a slot has passed it
abbrev pub cleared : Cut → ℕ → Cut
cleared cut slot =
    if nat_lt slot cut.boundary then record { boundary = cut.boundary; low = slot; high = cut.high } else record { boundary = cut.boundary; low = cut.low; high = slot + 1 }

-- nearer to the ends of the stretch
abbrev pub IsFurther : Sides → Cut → Option Cut → Type 0
IsFurther sides cut next = MatchOption next (Unit {0}) (λ further. further.low + (sides.end - further.high) < cut.low + (sides.end - cut.high))

-- all that stands on the wrong side of the best boundary has passed it: the moves so far are the first part of a placement
-- with any aim
pub record UndoesCrossing (index : LivePieces) (id : ℕ) (slots slots' : Slots) (plan plan' : List Move) : Type 0 where
  pub moves : List Move
  pub gained : plan' ≡ plan ++ moves
  pub after : slots' ≡ after_moves slots moves
  pub goes_on : (aiming : Aiming) (rest : List Move) → IsPlacing (is_above index.live) (rank_in index.live) aiming id slots' rest → IsPlacement (is_above index.live) (rank_in index.live) aiming id slots (moves ++ rest)
  pub ready : IsReady index id slots'
  pub same_free : free_slots slots' ≡ free_slots slots
  pub clear : gap_start (is_above index.live) slots' id ≤ gap_end (is_above index.live) slots' id
  pub few : length moves ≤ (1 + most_slots) * (1 + most_slots)

-- what the last part of an insertion leaves: a placement with an aim was planned and made
pub record IsPlaced (index : LivePieces) (aiming : Aiming) (id : ℕ) (slots slots' : Slots) (plan plan' : List Move) : Type 0 where
  pub moves : List Move
  pub gained : plan' ≡ plan ++ moves
  pub after : slots' ≡ after_moves slots moves
  pub placement : IsPlacing (is_above index.live) (rank_in index.live) aiming id slots moves
  pub few : length moves ≤ (1 + most_slots)
  pub one_fewer : free_slots slots' + 1 ≡ free_slots slots

-- the chain that makes way for a new id: down from the first lower one, where no up chain is shorter, or up from the
-- last upper one, where each down chain is longer
pub record DownWay (above : Above) (slots : Slots) (id : ℕ) (chain : Chain) : Type 0 where
  pub lower : ℕ
  pub low : first_lower above slots id ≡ Some lower
  pub down : IsDown above slots lower (next_free_above slots lower) chain
  pub shortest : (upper : ℕ) → last_upper above slots id ≡ Some upper → (up : UpChain above slots upper (last_free_below slots upper)) → length down.rest ≤ length up.rest

pub record UpWay (above : Above) (slots : Slots) (id : ℕ) (chain : Chain) : Type 0 where
  pub upper : ℕ
  pub high : last_upper above slots id ≡ Some upper
  pub up : IsUp above slots upper (last_free_below slots upper) chain
  pub shortest : (lower : ℕ) → first_lower above slots id ≡ Some lower → (down : DownChain above slots lower (next_free_above slots lower)) → length up.rest < length down.rest

abbrev pub IsWay : Above → Slots → ℕ → Chain → Type 0
IsWay above slots id chain = DownWay above slots id chain ⊎ UpWay above slots id chain

-- a chain whose last member goes where its aim wishes
pub record Landed (above : Above) (priority : ℕ → ℕ) (aiming : Aiming) (slots : Slots) (chain landed : Chain) : Type 0 where
  pub same : landed.members ≡ chain.members
  pub down : (from : ℕ) (rest : List ℕ) → chain.members.items ≡ from ∷ rest → last_of from rest < chain.free → landed.free ≡ landing_down above priority aiming slots chain.free (last_of from rest)
  pub up : (from : ℕ) (rest : List ℕ) → chain.members.items ≡ from ∷ rest → chain.free < last_of from rest → landed.free ≡ landing_up above priority aiming slots chain.free (last_of from rest)
