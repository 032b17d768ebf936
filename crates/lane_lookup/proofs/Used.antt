-- The lanes that aren't in use keep no slot from hitting.
use Rattle.std.proofs.Common.{◌≡◌, ℕ, zero, suc, ◌+◌, ◌<◌, Bool, true, false, List, [], ◌∷◌, length, set, get_or, drop, refl, sym, ◌∙◌, ap, subst, arith, inl, inr}
use Rattle.std.specs.Prelude.{◌&&◌, ◌==◌, slice_index}
use Rattle.std.specs.List.{AllByRecursion}
use Rattle.std.proofs.Math.Bool.{and_assoc}
use Rattle.std.proofs.lemmas.Bool.{and_left, and_right, cases_Bool, or_parts, not-false, eqb-true, eq-eqb}
use Rattle.std.proofs.lemmas.Nat.{and_le_r}
use Rattle.std.proofs.lemmas.List.{get_or_default, at_drop_more}
use Rattle.std.proofs.lemmas.List.Elements.{All-from_recursion}
use Rattle.lane_lookup.specs.Columns.{Lane, blank_lane, lane_off, lanes_agree, with_cell, with_row, used_from, HasSize, IsZeroUnlessUsed}

-- the lanes with these numbers don't keep the slot from hitting
abbrev pub used_agree : List ℕ → List Lane → List ℕ → ℕ → Bool
used_agree [] lanes words place = true
used_agree (number ∷ used) lanes words place =
    (lane_off (get_or lanes number (blank_lane 0)) (get_or words number 0) place == 0) && used_agree used lanes words place

-- a mask of 0 keeps nothing from hitting
off_zero : (lane : Lane) (word place : ℕ) → slice_index lane.masks place ≡ 0 → (lane_off lane word place == 0) ≡ true
off_zero lane word place none = eq-eqb _ _ (omega (arith, and_le_r, none))

pub agree_from : (lanes all : List Lane) (words every : List ℕ) (number place : ℕ) → length words ≡ length lanes
    → ((j : ℕ) → j < length lanes → get_or lanes j (blank_lane 0) ≡ get_or all (number + j) (blank_lane 0))
    → ((j : ℕ) → j < length words → get_or words j 0 ≡ get_or every (number + j) 0) → AllByRecursion IsZeroUnlessUsed lanes
    → lanes_agree lanes words place ≡ used_agree (used_from lanes number) all every place
agree_from [] all [] every number place len l w zeros = refl
agree_from [] all (word ∷ words) every number place len l w zeros = absurd (omega arith)
agree_from (lane ∷ lanes) all [] every number place len l w zeros = absurd (omega arith)
agree_from (lane ∷ lanes) all (word ∷ words) every number place len l w zeros =
    let first : number + 0 ≡ number = omega arith in
    let here : lane ≡ get_or all number (blank_lane 0) = subst (λ n. lane ≡ get_or all n (blank_lane 0)) first (l 0 (omega arith)) in
    let heard : word ≡ get_or every number 0 = subst (λ n. word ≡ get_or every n 0) first (w 0 (omega arith)) in
    let rest : lanes_agree lanes words place ≡ used_agree (used_from lanes (number + 1)) all every place =
    agree_from lanes all words every (number + 1) place (omega arith)
    (λ j below. let s : number + suc j ≡ (number + 1) + j = omega arith in subst (λ n. get_or lanes j (blank_lane 0) ≡ get_or all n (blank_lane 0)) s (l (suc j) (omega arith)))
    (λ j below. let s : number + suc j ≡ (number + 1) + j = omega arith in subst (λ n. get_or words j 0 ≡ get_or every n 0) s (w (suc j) (omega arith))) zeros.1 in
    elim (cases_Bool lane.used) [
      | inl used ↦ rw (used, ← here, ← heard, rest) refl
      | inr unused ↦ rw (unused, off_zero lane word place (zeros.0 unused place)) rest
    ]

below_here : (rest : List ℕ) (number size j d : ℕ) → ((i : ℕ) → i < length rest → get_or rest i d < (number + 1) + size) → j < length (number ∷ rest) → get_or (number ∷ rest) j d < number + suc size
below_here rest number size zero d all below = omega arith
below_here rest number size (suc j) d all below = let h = all j (omega arith) in omega arith

-- each number in the list is that of a lane
pub used_below : (lanes : List Lane) (number j d : ℕ) → j < length (used_from lanes number) → get_or (used_from lanes number) j d < number + length lanes
used_below [] number j d below = absurd (omega arith)
used_below (lane ∷ lanes) number j d below =
    elim (cases_Bool lane.used) [
      | inl used ↦ let b = rw used at below in
          rw used (below_here (used_from lanes (number + 1)) number (length lanes) j d (λ i l. used_below lanes (number + 1) i d l) b)
      | inr unused ↦ let b = rw unused at below in
          let h = used_below lanes (number + 1) j d b in rw unused (omega arith)
    ]

pub used_within : (lanes : List Lane) (used : List ℕ) (j : ℕ) → used ≡ used_from lanes 0 → j < length used → get_or used j 0 < length lanes
used_within lanes used j listed below =
    let at : j < length (used_from lanes 0) = subst (λ us. j < length us) listed below in
    let bound = used_below lanes 0 j 0 at in
    subst (λ us. get_or us j 0 < length lanes) (sym listed) (omega arith)

-- a lane in use has this many slots
pub used_size : (lanes : List Lane) (used : List ℕ) (j size : ℕ) (lane : Lane) → used ≡ used_from lanes 0 → j < length used → AllByRecursion (HasSize size) lanes
    → lane ≡ get_or lanes (get_or used j 0) lane → HasSize size lane
used_size lanes used j size lane listed below sizes is_lane =
    subst (HasSize size) (sym is_lane) (All-from_recursion (HasSize size) lanes sizes _ lane (used_within lanes used j listed below))

-- all lanes agree where those in use do
pub all_agree : (lanes : List Lane) (words used : List ℕ) (place : ℕ) → used ≡ used_from lanes 0 → length words ≡ length lanes → AllByRecursion IsZeroUnlessUsed lanes
    → lanes_agree lanes words place ≡ used_agree used lanes words place
all_agree lanes words used place listed len zeros =
    let shift : (j : ℕ) → 0 + j ≡ j = λ j. omega arith in
    agree_from lanes lanes words words 0 place len (λ j below. ap (λ n. get_or lanes n (blank_lane 0)) (sym (shift j)))
    (λ j below. ap (λ n. get_or words n 0) (sym (shift j))) zeros
    ∙ ap (λ us. used_agree us lanes words place) (sym listed)

-- what keeps a slot from hitting, with one lane in use more
pub used_step : (used : List ℕ) (lanes : List Lane) (words : List ℕ) (place j before off now : ℕ) (row : Bool) (lane : Lane) → used ≡ used_from lanes 0 → j < length used
    → lane ≡ get_or lanes (get_or used j 0) lane → off ≡ lane_off lane (get_or words (get_or used j 0) 0) place → (now == 0) ≡ ((before == 0) && (off == 0))
    → row ≡ ((before == 0) && used_agree (drop j used) lanes words place)
    → row ≡ ((now == 0) && used_agree (drop (j + 1) used) lanes words place)
used_step used lanes words place j before off now row lane listed below is_lane is_off both so_far =
    let number = get_or used j 0 in
    let named : lane ≡ get_or lanes number (blank_lane 0) = is_lane ∙ get_or_default lanes number _ _ (used_within lanes used j listed below) in
    let here : off ≡ lane_off (get_or lanes number (blank_lane 0)) (get_or words number 0) place = is_off ∙ ap (λ x. lane_off x (get_or words number 0) place) named in
    let one : used_agree (drop j used) lanes words place ≡ ((off == 0) && used_agree (drop (j + 1) used) lanes words place) =
    at_drop_more (λ us. used_agree us lanes words place) used j 0 below ∙ ap (λ x. (x == 0) && used_agree (drop (j + 1) used) lanes words place) (sym here) in
    so_far ∙ ap (λ x. (before == 0) && x) one ∙ sym (and_assoc (before == 0) (off == 0) (used_agree (drop (j + 1) used) lanes words place))
    ∙ ap (λ x. x && used_agree (drop (j + 1) used) lanes words place) (sym both)

-- a lane that keeps the slot from hitting disagrees for all
disagrees : (lanes : List Lane) (words : List ℕ) (j place : ℕ) (d : Lane) → j < length lanes → j < length words
    → (lane_off (get_or lanes j d) (get_or words j 0) place == 0) ≡ false → lanes_agree lanes words place ≡ false
disagrees [] words j place d below within off = absurd (omega arith)
disagrees (lane ∷ lanes) [] j place d below within off = absurd (omega arith)
disagrees (lane ∷ lanes) (word ∷ words) zero place d below within off = and_left _ _ off
disagrees (lane ∷ lanes) (word ∷ words) (suc j) place d below within off =
    and_right _ _ (disagrees lanes words j place d (omega arith) (omega arith) off)

-- a row doesn't hit where its vacancy or one lane keeps it from that
pub one_keeps : (lanes : List Lane) (words : List ℕ) (place j vacancy off either : ℕ) (lane : Lane) → j < length lanes → j < length words
    → lane ≡ get_or lanes j lane → off ≡ lane_off lane (get_or words j 0) place → (either == 0) ≡ ((vacancy == 0) && (off == 0)) → (either == 0) ≡ false
    → ((vacancy == 0) && lanes_agree lanes words place) ≡ false
one_keeps lanes words place j vacancy off either lane below within is_lane is_off both kept =
    elim (cases_Bool (vacancy == 0)) [
      | inl full ↦ let keeps : (off == 0) ≡ false = ap (λ x. x && (off == 0)) (sym full) ∙ sym both ∙ kept in
          let here : off ≡ lane_off (get_or lanes j lane) (get_or words j 0) place = is_off ∙ ap (λ x. lane_off x (get_or words j 0) place) is_lane in
          and_right _ _ (disagrees lanes words j place lane below within (ap (λ x. x == 0) (sym here) ∙ keeps))
      | inr empty ↦ and_left _ _ empty
    ]

zeros_set : (xs : List ℕ) (place p : ℕ) → ((q : ℕ) → get_or xs q 0 ≡ 0) → get_or (set xs place 0) p 0 ≡ 0
zeros_set [] place p zeros = zeros p
zeros_set (x ∷ xs) zero zero zeros = refl
zeros_set (x ∷ xs) zero (suc p) zeros = zeros (suc p)
zeros_set (x ∷ xs) (suc place) zero zeros = zeros 0
zeros_set (x ∷ xs) (suc place) (suc p) zeros = zeros_set xs place p (λ q. zeros (suc q))

-- a cell put leaves a lane unused only if its mask is 0
zero_cell : (lane : Lane) (value mask place : ℕ) → IsZeroUnlessUsed lane → IsZeroUnlessUsed (with_cell lane value mask place)
zero_cell lane value mask place zeros unused p =
    let parts = or_parts _ _ unused in
    let none : mask ≡ 0 = eqb-true _ _ (not-false _ parts.1) in
    subst (λ m. get_or (set lane.masks place m) p 0 ≡ 0) (sym none) (zeros_set lane.masks place p (zeros parts.0))

pub zeros_put : (place : ℕ) (lanes : List Lane) (values masks : List ℕ) → AllByRecursion IsZeroUnlessUsed lanes → AllByRecursion IsZeroUnlessUsed (with_row lanes values masks place)
zeros_put place [] values masks all = tt
zeros_put place (lane ∷ lanes) [] masks all = all
zeros_put place (lane ∷ lanes) (value ∷ values) [] all = all
zeros_put place (lane ∷ lanes) (value ∷ values) (mask ∷ masks) all = (zero_cell lane value mask place all.0, zeros_put place lanes values masks all.1)
