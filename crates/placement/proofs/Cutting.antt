-- The stretch that a new id's upper and lower entries cross, in slot_order's words, and its best boundary.
use Rattle.std.proofs.Common.{◌≡◌, ℕ, zero, suc, ◌<◌, ◌≤◌, Bool, true, false, Option, None, Some, length, inl, inr, arith, refl, sym, ◌∙◌, ap}
use Rattle.std.specs.Prelude.{count_by, is_none}
use Rattle.std.proofs.lemmas.Bool.{false_from_ne_true}
use Rattle.slot_order.specs.Order.{slot, Ordered}
use Rattle.slot_moves.specs.Moves.{IsFloor, IsCeiling}
use Rattle.slot_moves.specs.Cuts.{holds, early, late, HasRoomNear}
use Rattle.slot_order.proofs.Writes.{slot_inside}
use Rattle.slot_moves.proofs.Tally.{tally_same, count_take, count_all, count_both}
use Rattle.slot_moves.proofs.BestCut.{AreCrossed}
use Rattle.slot_pool.specs.Arrangement.{Slots}
use Rattle.placement.specs.Placement.{Above, gap_start, gap_end, Leads, straight, through, AreSides, IsCut}
use Rattle.placement.proofs.Chain.{Reads, AllKnown, floor_is, ceiling_is, stands_before}
use Rattle.placement.proofs.Leading.{leads_before}
use Rattle.placement.proofs.Readied.{start_inside}
use Rattle.placement.proofs.Reach.{holding}

-- there is one floor and one ceiling
pub floor_least : (over : ℕ → ℕ → Type 0) (tag : ℕ → ℕ) (slots : Slots) (id a b : ℕ) → IsFloor over tag slots id a → IsFloor over tag slots id b → a ≤ b
floor_least over tag slots id zero b x y = omega arith
floor_least over tag slots id (suc k) b x y = let m = x.met k refl in let l = y.under k m.0 m.1 m.2 m.3 in omega arith

pub ceiling_greatest : (over : ℕ → ℕ → Type 0) (tag : ℕ → ℕ) (slots : Slots) (id a b : ℕ) → IsCeiling over tag slots id a → IsCeiling over tag slots id b → a ≤ b
ceiling_greatest over tag slots id a b x y = elim y.met [
  | inl past ↦ elim x.met [ inl same ↦ omega arith | inr m ↦ let l = slot_inside slots a m.0 m.1 in omega arith ]
  | inr m ↦ x.over_it b m.0 m.1 m.2 m.3
]

-- what an id leads to stands from the ceiling on, what leads to it before the floor
pub behind_from : (over : ℕ → ℕ → Type 0) (tag : ℕ → ℕ) (P Known : ℕ → Type 0) (above : Above) (slots : Slots) (id other at : ℕ) → Reads over tag Known above → ((a : ℕ) → P a → Known a) → Known id
    → Ordered over tag P slots → slot slots at ≡ Some other → Leads above slots id other → gap_end above slots id ≤ at
behind_from over tag P Known above slots id other at reads up known o stands (straight e) =
    let c = ceiling_is over tag Known above slots id reads (λ place a t. up a (o.within place a t)) known in
    let s = reads.says id other known (up other (o.within at other stands)) e in
    c.over_it at other stands s.0 s.1
behind_from over tag P Known above slots id other at reads up known o stands (through place between there e rest) =
    let c = ceiling_is over tag Known above slots id reads (λ place a t. up a (o.within place a t)) known in
    let s = reads.says id between known (up between (o.within place between there)) e in
    let a = c.over_it place between there s.0 s.1 in
    let b = leads_before over tag P Known above slots place at between other reads up o there stands rest in omega arith

pub before_to : (over : ℕ → ℕ → Type 0) (tag : ℕ → ℕ) (P Known : ℕ → Type 0) (above : Above) (slots : Slots) (id other at : ℕ) → Reads over tag Known above → ((a : ℕ) → P a → Known a) → Known id
    → Ordered over tag P slots → slot slots at ≡ Some other → Leads above slots other id → at < gap_start above slots id
before_to over tag P Known above slots id other at reads up known o stands (straight e) =
    let f = floor_is over tag Known above slots id reads (λ place a t. up a (o.within place a t)) known in
    let s = reads.says other id (up other (o.within at other stands)) known e in
    f.under at other stands (reads.mirror other id s.0) s.1
before_to over tag P Known above slots id other at reads up known o stands (through place between there e rest) =
    let s = reads.says other between (up other (o.within at other stands)) (up between (o.within place between there)) e in
    let a = stands_before over tag P slots at place other between o stands there (reads.mirror other between s.0) s.1 in
    let b = before_to over tag P Known above slots id between place reads up known o there rest in omega arith

-- the crossed stretch
pub are_crossed : (over : ℕ → ℕ → Type 0) (tag : ℕ → ℕ) (P Known : ℕ → Type 0) (above : Above) (slots : Slots) (id : ℕ) (behind before : ℕ → Bool) → Reads over tag Known above → ((a : ℕ) → P a → Known a)
    → Known id → Ordered over tag P slots → AreSides above slots id behind before → ((a : ℕ) → P a → behind a ≡ true → before a ≡ false)
    → gap_end above slots id < gap_start above slots id → 0 < count_by (λ (held : Option ℕ). is_none held) slots
    → AreCrossed behind before slots (gap_end above slots id) (gap_start above slots id)
are_crossed over tag P Known above slots id behind before reads up known o sides apart crossed free = record {
  less = crossed;
  inside = start_inside above slots id;
  none_early = λ i l. false_from_ne_true _ (λ e.
      let h = holding behind (slot slots i) e in
      let k = behind_from over tag P Known above slots id h.0 i reads up known o h.1 ((sides.after_it i h.0 h.1).0 h.2) in omega arith);
  none_late = λ i l. false_from_ne_true _ (λ e.
      let h = holding before (slot slots i) e in
      let k = before_to over tag P Known above slots id h.0 i reads up known o h.1 ((sides.before_it i h.0 h.1).0 h.2) in omega arith);
  low = low;
  high = high;
  apart = λ i x s is. apart x (o.within i x s) is;
  free = free;
}
  where
    all : AllKnown Known slots
    all place a t = up a (o.within place a t)

    low : holds before (slot slots (gap_end above slots id)) ≡ false
    low = elim (ceiling_is over tag Known above slots id reads all known).met [
      | inl past ↦ absurd (let k = start_inside above slots id in omega arith)
      | inr m ↦
          let at : slot slots (gap_end above slots id) ≡ Some m.0 = m.1 in
          let e = reads.told id m.0 known (all (gap_end above slots id) m.0 m.1) m.2 m.3 in
          let b = (sides.after_it (gap_end above slots id) m.0 m.1).1 (straight e) in
          ap (holds before) m.1 ∙ apart m.0 (o.within (gap_end above slots id) m.0 m.1) b
    ]

    high : (k : ℕ) → gap_start above slots id ≡ suc k → holds behind (slot slots k) ≡ false
    high k is =
        let m = (floor_is over tag Known above slots id reads all known).met k is in
        let e = reads.told m.0 id (all k m.0 m.1) known (reads.mirror id m.0 m.2) m.3 in
        let b = (sides.before_it k m.0 m.1).1 (straight e) in
        ap (holds behind) m.1 ∙ false_from_ne_true (behind m.0) (λ also.
        let n = apart m.0 (o.within k m.0 m.1) also in let z : true ≡ false = sym b ∙ n in cc)

-- two tests that say the same of what stands say the same of each slot, and count the same
pub same_held : (test other : ℕ → Bool) (held : Option ℕ) → ((id : ℕ) → held ≡ Some id → test id ≡ other id) → holds test held ≡ holds other held
same_held test other None same = refl
same_held test other (Some id) same = same id refl

pub same_counts : (test other : ℕ → Bool) (slots : Slots) (cut : ℕ) → cut ≤ length slots → ((at id : ℕ) → slot slots at ≡ Some id → test id ≡ other id)
    → (early test cut slots ≡ early other cut slots) × (late test cut slots ≡ late other cut slots)
same_counts test other slots cut inside same =
    let p = λ (h : Option ℕ). holds test h in
    let q = λ (h : Option ℕ). holds other h in
    let says : (at : ℕ) → p (slot slots at) ≡ q (slot slots at) = λ at. same_held test other (slot slots at) (same at) in
    let a = count_take p slots cut inside in
    let b = count_take q slots cut inside in
    let t = tally_same (λ i. p (slot slots i)) (λ i. q (slot slots i)) cut (λ i l. says i) in
    let c = count_all p slots in
    let d = count_all q slots in
    let u = tally_same (λ i. p (slot slots i)) (λ i. q (slot slots i)) (length slots) (λ i l. says i) in
    let e = count_both p slots cut in
    let f = count_both q slots cut in
    (omega arith, omega arith)

pub same_bool : (a b : Bool) → (a ≡ true → b ≡ true) → (b ≡ true → a ≡ true) → a ≡ b
same_bool true b f g = sym (f refl)
same_bool false true f g = g refl
same_bool false false f g = refl

-- the sides are the same whichever tests say them
pub same_tests : (above : Above) (slots : Slots) (id : ℕ) (behind before behind' before' : ℕ → Bool) → AreSides above slots id behind before → AreSides above slots id behind' before'
    → (at other : ℕ) → slot slots at ≡ Some other → (behind other ≡ behind' other) × (before other ≡ before' other)
same_tests above slots id behind before behind' before' a b at other s = (
  same_bool (behind other) (behind' other) (λ e. (b.after_it at other s).1 ((a.after_it at other s).0 e)) (λ e. (a.after_it at other s).1 ((b.after_it at other s).0 e)),
  same_bool (before other) (before' other) (λ e. (b.before_it at other s).1 ((a.before_it at other s).0 e)) (λ e. (a.before_it at other s).1 ((b.before_it at other s).0 e)),
)

pub same_sides : (above : Above) (slots : Slots) (id cut : ℕ) (behind before behind' before' : ℕ → Bool) → cut ≤ length slots → AreSides above slots id behind before → AreSides above slots id behind' before'
    → (early behind cut slots ≡ early behind' cut slots) × (late before cut slots ≡ late before' cut slots)
same_sides above slots id cut behind before behind' before' inside a b =
    let k = same_tests above slots id behind before behind' before' a b in
    ((same_counts behind behind' slots cut inside (λ at other s. (k at other s).0)).0, (same_counts before before' slots cut inside (λ at other s. (k at other s).1)).1)

-- and so is the room
pub room_same : (behind before behind' before' : ℕ → Bool) (start end cut : ℕ) (slots : Slots) → early behind cut slots ≡ early behind' cut slots → late before cut slots ≡ late before' cut slots
    → HasRoomNear behind' before' start end cut slots → HasRoomNear behind before start end cut slots
room_same behind before behind' before' start end cut slots e l r = record {
  room_behind = let k = r.room_behind in omega arith;
  room_before = let k = r.room_before in omega arith;
}

-- and the cut
pub same_cut : (above : Above) (slots : Slots) (id cut : ℕ) (behind before behind' before' : ℕ → Bool) → AreSides above slots id behind before → AreSides above slots id behind' before' → IsCut above slots id behind before cut
    → IsCut above slots id behind' before' cut
same_cut above slots id cut behind before behind' before' a b best = record {
  from = best.from;
  to = best.to;
  room = let s = here in room_same behind' before' behind before (gap_end above slots id) (gap_start above slots id) cut slots (sym s.0) (sym s.1) best.room;
  fewest = λ other low high room. let s = here in let t = there other high in let k = best.fewest other low high (moved other high room) in
      let x = s.0 in let y = s.1 in let z = t.0 in let w = t.1 in omega arith;
  last = λ other low high room. let s = here in let t = there other high in let k = best.last other low high (moved other high room) in
      let x = s.0 in let y = s.1 in let z = t.0 in let w = t.1 in omega arith;
}
  where
    there : (other : ℕ) → other ≤ gap_start above slots id → (early behind other slots ≡ early behind' other slots) × (late before other slots ≡ late before' other slots)
    there other high = let b' = start_inside above slots id in same_sides above slots id other behind before behind' before' (omega arith) a b

    here : (early behind cut slots ≡ early behind' cut slots) × (late before cut slots ≡ late before' cut slots)
    here = there cut best.to

    moved : (other : ℕ) → other ≤ gap_start above slots id → HasRoomNear behind' before' (gap_end above slots id) (gap_start above slots id) other slots
        → HasRoomNear behind before (gap_end above slots id) (gap_start above slots id) other slots
    moved other high room = let t = there other high in room_same behind before behind' before' (gap_end above slots id) (gap_start above slots id) other slots t.0 t.1 room
