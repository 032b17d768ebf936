-- From the planner's words to those of slot_order: who is next above and below, floors, ceilings and chains.
use Rattle.std.proofs.Common.{◌≡◌, ℕ, ◌<◌, ◌≤◌, Bool, true, false, Option, None, Some, List, [], ◌∷◌, ◌++◌, length, map, arith, inl, inr, refl, sym, ◌∙◌, subst, ap}
use Rattle.std.proofs.lemmas.List.{map-append}
use Rattle.std.proofs.lemmas.Bool.{cases_lt, both_ways}
use Rattle.slot_order.specs.Order.{slot, Ordered}
use Rattle.slot_order.specs.Chains.{applied}
use Rattle.slot_moves.specs.Moves.{Downwards, Upwards, IsMoveChain, chain_moves, IsFloor, IsCeiling}
use Rattle.slot_order.proofs.Writes.{slot_inside}
use Rattle.slot_pool.specs.Arrangement.{Slots, passes}
use Rattle.slot_pool.proofs.Places.{find_range_none, first_slot_is}
use Rattle.placement.specs.declared.Move.{Move}
use Rattle.placement.specs.declared.Move.TheVariants.{Put, Erase}
use Rattle.placement.specs.Placement.{Above, after_move, after_moves, last_upper, first_lower, next_slot, gap_start, gap_end, lower_of_held, upper_of_held, StopsBelow, StopsAbove, put_held, moves_along, IsDownChain as PlansDown, IsUpChain as PlansUp}
use Rattle.slot_pool.proofs.Scan.{last_slot_is, find_back_none}
use Rattle.std.specs.Option.{unwrap_or}

-- a move as a write of ids
abbrev pub write_of : Move → ℕ × Option ℕ
write_of (Put slot id) = (slot, Some id)
write_of (Erase slot) = (slot, None)

pub after_moves-applied : (slots : Slots) (moves : List Move) → after_moves slots moves ≡ applied slots (map write_of moves)
after_moves-applied slots [] = refl
after_moves-applied slots (Put at id ∷ moves) = after_moves-applied (after_move slots (Put at id)) moves
after_moves-applied slots (Erase at ∷ moves) = after_moves-applied (after_move slots (Erase at)) moves

-- the planner's test, among some ids, says who overlaps whom and is higher
pub record Reads (over : ℕ → ℕ → Type 0) (tag : ℕ → ℕ) (Known : ℕ → Type 0) (above : Above) : Type 0 where
  pub says : (a b : ℕ) → Known a → Known b → above a b ≡ true → over a b × (tag b < tag a)
  pub told : (a b : ℕ) → Known a → Known b → over a b → tag b < tag a → above a b ≡ true
  pub mirror : (a b : ℕ) → over a b → over b a

-- each id that stands is known
abbrev pub AllKnown : (ℕ → Type 0) → Slots → Type 0
AllKnown Known slots = (at id : ℕ) → slot slots at ≡ Some id → Known id

pub record Passing (test : ℕ → Bool) (held : Option ℕ) : Type 0 where
  pub id : ℕ
  pub stands : held ≡ Some id
  pub passing : test id ≡ true

pub passes_is : (test : ℕ → Bool) (held : Option ℕ) → passes test held ≡ true → Passing test held
passes_is test None e = absurd (cc)
passes_is test (Some x) e = record { id = x; stands = refl; passing = e }

-- the first lower entry stands at a place
pub record LowerAt (over : ℕ → ℕ → Type 0) (tag : ℕ → ℕ) (slots : Slots) (id at : ℕ) : Type 0 where
  pub lower : ℕ
  pub stands : slot slots at ≡ Some lower
  pub meets : over id lower
  pub less : tag lower < tag id
  pub first : (j other : ℕ) → slot slots j ≡ Some other → over id other → tag other < tag id → at ≤ j

pub record UpperAt (over : ℕ → ℕ → Type 0) (tag : ℕ → ℕ) (slots : Slots) (id at : ℕ) : Type 0 where
  pub upper : ℕ
  pub stands : slot slots at ≡ Some upper
  pub meets : over id upper
  pub more : tag id < tag upper
  pub last : (j other : ℕ) → slot slots j ≡ Some other → over id other → tag id < tag other → j ≤ at

pub lower_is : (over : ℕ → ℕ → Type 0) (tag : ℕ → ℕ) (Known : ℕ → Type 0) (above : Above) (slots : Slots) (id at : ℕ)
    → Reads over tag Known above → AllKnown Known slots → Known id → first_lower above slots id ≡ Some at → LowerAt over tag slots id at
lower_is over tag Known above slots id at reads all known is =
    let h = first_slot_is (λ other. above id other) slots at is in
    let p = passes_is (λ other. above id other) (slot slots at) h.passing in
    let r = reads.says id p.id known (all at p.id p.stands) p.passing in
    record {
      lower = p.id;
      stands = p.stands;
      meets = r.0;
      less = r.1;
      first = λ j other s v l. elim (cases_lt j at) [
        | inr n ↦ n
        | inl n ↦ absurd (both_ways (above id other)
            (subst (λ held. passes (λ other. above id other) held ≡ false) s (h.none_before j (omega arith) n))
            (reads.told id other known (all j other s) v l))
      ];
    }

pub no_lower : (over : ℕ → ℕ → Type 0) (tag : ℕ → ℕ) (Known : ℕ → Type 0) (above : Above) (slots : Slots) (id : ℕ)
    → Reads over tag Known above → AllKnown Known slots → Known id → first_lower above slots id ≡ None
    → (j other : ℕ) → slot slots j ≡ Some other → over id other → tag other < tag id → ⊥
no_lower over tag Known above slots id reads all known is j other s v l =
    let inside = slot_inside slots j other s in
    both_ways (above id other)
    (subst (λ held. passes (λ other. above id other) held ≡ false) s
    (find_range_none (λ at. passes (λ other. above id other) (slot slots at)) 0 (length slots) is j (omega arith) (omega arith)))
    (reads.told id other known (all j other s) v l)

pub upper_is : (over : ℕ → ℕ → Type 0) (tag : ℕ → ℕ) (Known : ℕ → Type 0) (above : Above) (slots : Slots) (id at : ℕ)
    → Reads over tag Known above → AllKnown Known slots → Known id → last_upper above slots id ≡ Some at → UpperAt over tag slots id at
upper_is over tag Known above slots id at reads all known is =
    let h = last_slot_is (λ other. above other id) slots at is in
    let p = passes_is (λ other. above other id) (slot slots at) h.passing in
    let r = reads.says p.id id (all at p.id p.stands) known p.passing in
    record {
      upper = p.id;
      stands = p.stands;
      meets = reads.mirror p.id id r.0;
      more = r.1;
      last = λ j other s v l. elim (cases_lt at j) [
        | inr n ↦ n
        | inl n ↦ absurd (let inside = slot_inside slots j other s in both_ways (above other id)
            (subst (λ held. passes (λ other. above other id) held ≡ false) s (h.none_after j n (omega arith)))
            (reads.told other id (all j other s) known (reads.mirror id other v) l))
      ];
    }

pub no_upper : (over : ℕ → ℕ → Type 0) (tag : ℕ → ℕ) (Known : ℕ → Type 0) (above : Above) (slots : Slots) (id : ℕ)
    → Reads over tag Known above → AllKnown Known slots → Known id → last_upper above slots id ≡ None
    → (j other : ℕ) → slot slots j ≡ Some other → over id other → tag id < tag other → ⊥
no_upper over tag Known above slots id reads all known is j other s v l =
    let inside = slot_inside slots j other s in
    both_ways (above other id)
    (subst (λ held. passes (λ other. above other id) held ≡ false) s
    (find_back_none (λ at. passes (λ other. above other id) (slot slots at)) 0 (length slots) is j (omega arith) (omega arith)))
    (reads.told other id (all j other s) known (reads.mirror id other v) l)

pub floor_is : (over : ℕ → ℕ → Type 0) (tag : ℕ → ℕ) (Known : ℕ → Type 0) (above : Above) (slots : Slots) (id : ℕ)
    → Reads over tag Known above → AllKnown Known slots → Known id → IsFloor over tag slots id (gap_start above slots id)
floor_is over tag Known above slots id reads all known = go (last_upper above slots id) refl
  where
    go : (found : Option ℕ) → last_upper above slots id ≡ found → IsFloor over tag slots id (next_slot found)
    go None e = record {
      under = λ j other s v l. absurd (no_upper over tag Known above slots id reads all known e j other s v l);
      met = λ last k. absurd (omega arith);
    }
    go (Some at) e =
        let u = upper_is over tag Known above slots id at reads all known e in
        record {
          under = λ j other s v l. let b = u.last j other s v l in omega arith;
          met = λ last k. let same : at ≡ last = omega arith in (u.upper, subst (λ p. slot slots p ≡ Some u.upper) same u.stands, u.meets, u.more);
        }

pub ceiling_is : (over : ℕ → ℕ → Type 0) (tag : ℕ → ℕ) (Known : ℕ → Type 0) (above : Above) (slots : Slots) (id : ℕ)
    → Reads over tag Known above → AllKnown Known slots → Known id → IsCeiling over tag slots id (gap_end above slots id)
ceiling_is over tag Known above slots id reads all known = go (first_lower above slots id) refl
  where
    go : (found : Option ℕ) → first_lower above slots id ≡ found → IsCeiling over tag slots id (unwrap_or found (length slots))
    go None e = record {
      over_it = λ j other s v l. absurd (no_lower over tag Known above slots id reads all known e j other s v l);
      met = inl refl;
    }
    go (Some at) e =
        let u = lower_is over tag Known above slots id at reads all known e in
        record {
          over_it = u.first;
          met = inr (u.lower, u.stands, u.meets, u.less);
        }

-- of two that overlap the higher one stands first
pub stands_before : (over : ℕ → ℕ → Type 0) (tag : ℕ → ℕ) (P : ℕ → Type 0) (slots : Slots) (i j a b : ℕ)
    → Ordered over tag P slots → slot slots i ≡ Some a → slot slots j ≡ Some b → over b a → tag b < tag a → i < j
stands_before over tag P slots i j a b o s t v l = elim (cases_lt i j) [
  | inl n ↦ n
  | inr n ↦ absurd (elim (cases_lt j i) [
    | inl m ↦ let w : tag a ≤ tag b = o.sorted j i b a m t s v in omega arith
    | inr m ↦ let same : i ≡ j = omega arith in let k : Some a ≡ Some b = sym s ∙ (ap (slot slots) same ∙ t) in let z : a ≡ b = cc in let y : tag a ≡ tag b = ap tag z in omega arith
  ])
]

-- a planned chain in both words, with its moves
pub record IsDown (over : ℕ → ℕ → Type 0) (tag : ℕ → ℕ) (slots : Slots) (free first : ℕ) (rest : List ℕ) : Type 0 where
  pub chain : IsMoveChain Downwards over tag slots free first rest
  pub moves : map write_of (moves_along slots free (first ∷ rest)) ≡ chain_moves slots free first rest

held_moves : (slots : Slots) (to at id : ℕ) → slot slots at ≡ Some id → map write_of (put_held to (slot slots at)) ≡ (to, slot slots at) ∷ []
held_moves slots to at id s =
    ap (λ held. map write_of (put_held to held)) s ∙ ap (λ held. (to, held) ∷ []) (sym s)

pub down_is : (over : ℕ → ℕ → Type 0) (tag : ℕ → ℕ) (P Known : ℕ → Type 0) (above : Above) (slots : Slots) (free first id : ℕ) (rest : List ℕ)
    → Reads over tag Known above → ((a : ℕ) → P a → Known a) → Ordered over tag P slots → slot slots first ≡ Some id
    → PlansDown above slots free (first ∷ rest) → IsDown over tag slots free first rest
down_is over tag P Known above slots free first id [] reads up o s c = record {
  chain = (id, s, c.0, λ j other l t v. elim (cases_lt (tag other) (tag id)) [ inr n ↦ n | inl n ↦ absurd (clear (first_lower above slots id) refl stops j other l t v n) ]);
  moves = held_moves slots free first id s;
}
  where
    all : AllKnown Known slots
    all at a t = up a (o.within at a t)

    stops : StopsBelow free (first_lower above slots id)
    stops = subst (λ held. StopsBelow free (lower_of_held above slots held)) s c.1

    clear : (found : Option ℕ) → first_lower above slots id ≡ found → StopsBelow free found → (j other : ℕ) → j < free → slot slots j ≡ Some other → over id other → tag other < tag id → ⊥
    clear None e w j other l t v n = no_lower over tag Known above slots id reads all (all first id s) e j other t v n
    clear (Some at) e w j other l t v n = let k = (lower_is over tag Known above slots id at reads all (all first id s) e).first j other t v n in let q : free ≤ at = w in omega arith
down_is over tag P Known above slots free first id (next ∷ rest) reads up o s c =
    let all : AllKnown Known slots = λ at a t. up a (o.within at a t) in
    let k : first_lower above slots id ≡ Some next = ap (lower_of_held above slots) (sym s) ∙ c.1 in
    let w = lower_is over tag Known above slots id next reads all (all first id s) k in
    let h = down_is over tag P Known above slots free next w.lower rest reads up o w.stands c.2 in
    record {
      chain = (
        (
          id,
          s,
          stands_before over tag P slots first next id w.lower o s w.stands (reads.mirror id w.lower w.meets) w.less,
          (λ j other l t v. elim (cases_lt (tag other) (tag id)) [ inr n ↦ n | inl n ↦ absurd (let q = w.first j other t v n in omega arith) ]),
          (w.lower, w.stands, w.meets, w.less),
        ),
        h.chain,
      );
      moves = map-append write_of (moves_along slots free (next ∷ rest)) (put_held next (slot slots first))
          ∙ (ap (λ xs. xs ++ map write_of (put_held next (slot slots first))) h.moves
          ∙ ap (λ xs. chain_moves slots free next rest ++ xs) (held_moves slots next first id s));
    }

pub record IsUp (over : ℕ → ℕ → Type 0) (tag : ℕ → ℕ) (slots : Slots) (free first : ℕ) (rest : List ℕ) : Type 0 where
  pub chain : IsMoveChain Upwards over tag slots free first rest
  pub moves : map write_of (moves_along slots free (first ∷ rest)) ≡ chain_moves slots free first rest

pub up_is : (over : ℕ → ℕ → Type 0) (tag : ℕ → ℕ) (P Known : ℕ → Type 0) (above : Above) (slots : Slots) (free first id : ℕ) (rest : List ℕ)
    → Reads over tag Known above → ((a : ℕ) → P a → Known a) → Ordered over tag P slots → slot slots first ≡ Some id
    → PlansUp above slots free (first ∷ rest) → IsUp over tag slots free first rest
up_is over tag P Known above slots free first id [] reads up o s c = record {
  chain = (id, s, c.0, λ j other l t v. elim (cases_lt (tag id) (tag other)) [ inr n ↦ n | inl n ↦ absurd (clear (last_upper above slots id) refl stops j other l t v n) ]);
  moves = held_moves slots free first id s;
}
  where
    all : AllKnown Known slots
    all at a t = up a (o.within at a t)

    stops : StopsAbove free (last_upper above slots id)
    stops = subst (λ held. StopsAbove free (upper_of_held above slots held)) s c.1

    clear : (found : Option ℕ) → last_upper above slots id ≡ found → StopsAbove free found → (j other : ℕ) → free < j → slot slots j ≡ Some other → over id other → tag id < tag other → ⊥
    clear None e w j other l t v n = no_upper over tag Known above slots id reads all (all first id s) e j other t v n
    clear (Some at) e w j other l t v n = let k = (upper_is over tag Known above slots id at reads all (all first id s) e).last j other t v n in let q : at ≤ free = w in omega arith
up_is over tag P Known above slots free first id (next ∷ rest) reads up o s c =
    let all : AllKnown Known slots = λ at a t. up a (o.within at a t) in
    let k : last_upper above slots id ≡ Some next = ap (upper_of_held above slots) (sym s) ∙ c.1 in
    let w = upper_is over tag Known above slots id next reads all (all first id s) k in
    let h = up_is over tag P Known above slots free next w.upper rest reads up o w.stands c.2 in
    record {
      chain = (
        (
          id,
          s,
          stands_before over tag P slots next first w.upper id o w.stands s w.meets w.more,
          (λ j other l t v. elim (cases_lt (tag id) (tag other)) [ inr n ↦ n | inl n ↦ absurd (let q = w.last j other t v n in omega arith) ]),
          (w.upper, w.stands, w.meets, w.more),
        ),
        h.chain,
      );
      moves = map-append write_of (moves_along slots free (next ∷ rest)) (put_held next (slot slots first))
          ∙ (ap (λ xs. xs ++ map write_of (put_held next (slot slots first))) h.moves
          ∙ ap (λ xs. chain_moves slots free next rest ++ xs) (held_moves slots next first id s));
    }
