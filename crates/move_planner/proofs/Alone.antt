-- A placement determines its moves.
use Rattle.std.proofs.Common.{◌≡◌, ℕ, ◌-◌, ◌≤◌, Bool, Option, None, Some, List, [], ◌∷◌, ◌++◌, length, set, inl, inr, arith, refl, sym, ◌∙◌, subst, ap, length-set}
use Rattle.std.proofs.lemmas.Bool.{cases_eq, cases_lt, both_ways}
use Rattle.slot_order.specs.Order.{slot}
use Rattle.slot_moves.specs.Cuts.{holds, early, late}
use Rattle.slot_order.proofs.Writes.{slot_inside, put_here, put_away}
use Rattle.slot_moves.proofs.Tally.{take_clear, drop_clear}
use Rattle.slot_pool.specs.Arrangement.{Slots, next_free_above, last_free_below}
use Rattle.placement.specs.declared.Move.{Move}
use Rattle.placement.specs.declared.Move.TheVariants.{Put, Erase}
use Rattle.placement.specs.Placement.{Above, Aiming, last_of, landing_down, landing_up, after_moves, DownChain, UpChain, put_held, moves_along, IsCut, IsLastBefore, IsFirstFrom, Pass, passed, pass_down, pass_up, IsPlacing, into_gap, push_down, push_up, IsPlacement, straight_in, uncross}
use Rattle.placement.proofs.Planner.{down_one, up_one, last_alone, first_alone}
use Rattle.placement.proofs.Planned.{placing_fits}
use Rattle.placement.proofs.Cutting.{same_held, same_counts, same_tests, same_cut}
use Rattle.placement.proofs.Readied.{start_inside}
use Rattle.placement.proofs.Reach.{holding}
use Rattle.move_planner.proofs.Shifted.{after_append}

-- the moves along a chain are the same where the slot that it starts from and the target are, whatever slot they lead to
same_down : (above : Above) (slots : Slots) (from : ℕ → Option ℕ) (to : ℕ → ℕ → List ℕ → ℕ) (a b : ℕ) (x : DownChain above slots a (from a)) (y : DownChain above slots b (from b)) → a ≡ b
    → moves_along slots (to x.free a x.rest) (a ∷ x.rest) ≡ moves_along slots (to y.free b y.rest) (b ∷ y.rest)
same_down above slots from to a b x y same =
    subst (λ o. (z : DownChain above slots o (from o)) → moves_along slots (to x.free a x.rest) (a ∷ x.rest) ≡ moves_along slots (to z.free o z.rest) (o ∷ z.rest)) same
    (λ z. let k : Some x.free ≡ Some z.free = sym x.to ∙ z.to in let free : x.free ≡ z.free = cc in
    ap (λ f. moves_along slots (to f a x.rest) (a ∷ x.rest)) free ∙ ap (λ rest. moves_along slots (to z.free a rest) (a ∷ rest)) (down_one above slots a (from a) x z)) y

same_up : (above : Above) (slots : Slots) (from : ℕ → Option ℕ) (to : ℕ → ℕ → List ℕ → ℕ) (a b : ℕ) (x : UpChain above slots a (from a)) (y : UpChain above slots b (from b)) → a ≡ b
    → moves_along slots (to x.free a x.rest) (a ∷ x.rest) ≡ moves_along slots (to y.free b y.rest) (b ∷ y.rest)
same_up above slots from to a b x y same =
    subst (λ o. (z : UpChain above slots o (from o)) → moves_along slots (to x.free a x.rest) (a ∷ x.rest) ≡ moves_along slots (to z.free o z.rest) (o ∷ z.rest)) same
    (λ z. let k : Some x.free ≡ Some z.free = sym x.to ∙ z.to in let free : x.free ≡ z.free = cc in
    ap (λ f. moves_along slots (to f a x.rest) (a ∷ x.rest)) free ∙ ap (λ rest. moves_along slots (to z.free a rest) (a ∷ rest)) (up_one above slots a (from a) x z)) y

-- there is one way to place an id where nothing crosses
placing_alone : (above : Above) (priority : ℕ → ℕ) (aiming : Aiming) (id : ℕ) (slots : Slots) (a b : List Move) → IsPlacing above priority aiming id slots a → IsPlacing above priority aiming id slots b → a ≡ b
placing_alone above priority aiming id slots a b (into_gap at fits near) (into_gap at' fits' near') =
    let k : Some at ≡ Some at' = sym near ∙ near' in let same : at ≡ at' = cc in ap (λ z. Put z id ∷ []) same
placing_alone above priority aiming id slots a b (into_gap at fits near) (push_down lower fits' none is down shorter) = absurd (let k : Some at ≡ None = sym near ∙ none in cc)
placing_alone above priority aiming id slots a b (into_gap at fits near) (push_up upper fits' none is up longer) = absurd (let k : Some at ≡ None = sym near ∙ none in cc)
placing_alone above priority aiming id slots a b (push_down lower fits none is down shorter) (into_gap at fits' near) = absurd (let k : Some at ≡ None = sym near ∙ none in cc)
placing_alone above priority aiming id slots a b (push_up upper fits none is up longer) (into_gap at fits' near) = absurd (let k : Some at ≡ None = sym near ∙ none in cc)
placing_alone above priority aiming id slots a b (push_down lower fits none is down shorter) (push_up upper fits' none' is' up longer) =
    absurd (let x = shorter upper is' up in let y = longer lower is down in omega arith)
placing_alone above priority aiming id slots a b (push_up upper fits none is up longer) (push_down lower fits' none' is' down shorter) =
    absurd (let x = shorter upper is up in let y = longer lower is' down in omega arith)
placing_alone above priority aiming id slots a b (push_down lower fits none is down shorter) (push_down other fits' none' is' down' shorter') =
    let same : lower ≡ other = (let k : Some lower ≡ Some other = sym is ∙ is' in cc) in
    let k = same_down above slots (next_free_above slots) (λ free from rest. landing_down above priority aiming slots free (last_of from rest)) lower other down down' same in
    ap (λ z. z ++ Put lower id ∷ []) k ∙ ap (λ z. moves_along slots (landing_down above priority aiming slots down'.free (last_of other down'.rest)) (other ∷ down'.rest) ++ Put z id ∷ []) same
placing_alone above priority aiming id slots a b (push_up upper fits none is up longer) (push_up other fits' none' is' up' longer') =
    let same : upper ≡ other = (let k : Some upper ≡ Some other = sym is ∙ is' in cc) in
    let k = same_up above slots (last_free_below slots) (λ free from rest. landing_up above priority aiming slots free (last_of from rest)) upper other up up' same in
    ap (λ z. z ++ Put upper id ∷ []) k ∙ ap (λ z. moves_along slots (landing_up above priority aiming slots up'.free (last_of other up'.rest)) (other ∷ up'.rest) ++ Put z id ∷ []) same

-- each id that stands is one of these
abbrev Stand : (ℕ → Type 0) → Slots → Type 0
Stand These slots = (at id : ℕ) → slot slots at ≡ Some id → These id

-- so it is after a write of what is one of these, and along a chain
stand_set : (These : ℕ → Type 0) (slots : Slots) (to : ℕ) (held : Option ℕ) → Stand These slots → ((id : ℕ) → held ≡ Some id → These id) → Stand These (set slots to held)
stand_set These slots to held all new at id s = elim (cases_eq at to) [
  | inl here ↦
      let l = slot_inside (set slots to held) at id s in let n = length-set slots to held in
      new id (put_here slots to held at id (omega arith) here s)
  | inr away ↦ all at id (put_away slots to held at id away s)
]

stand_put : (These : ℕ → Type 0) (slots : Slots) (to : ℕ) (held : Option ℕ) → Stand These slots → ((id : ℕ) → held ≡ Some id → These id) → Stand These (after_moves slots (put_held to held))
stand_put These slots to None all new = all
stand_put These slots to (Some id) all new = stand_set These slots to (Some id) all new

stand_along : (These : ℕ → Type 0) (slots now : Slots) (free : ℕ) (chain : List ℕ) → Stand These slots → Stand These now → Stand These (after_moves now (moves_along slots free chain))
stand_along These slots now free [] old all = all
stand_along These slots now free (at ∷ []) old all = stand_put These now free (slot slots at) all (old at)
stand_along These slots now free (at ∷ next ∷ chain) old all =
    subst (Stand These) (sym (after_append now (moves_along slots free (next ∷ chain)) (put_held next (slot slots at))))
    (stand_put These (after_moves now (moves_along slots free (next ∷ chain))) next (slot slots at) (stand_along These slots now free (next ∷ chain) old all) (old at))

stand_turn : (These : ℕ → Type 0) (slots : Slots) (free at : ℕ) (chain : List ℕ) → Stand These slots → Stand These (after_moves slots (moves_along slots free chain ++ Erase at ∷ []))
stand_turn These slots free at chain all =
    subst (Stand These) (sym (after_append slots (moves_along slots free chain) (Erase at ∷ [])))
    (stand_set These (after_moves slots (moves_along slots free chain)) at None (stand_along These slots slots free chain all all) (λ id none. absurd (cc)))

-- moves leave as many slots as there are
same_size : (slots : Slots) (moves : List Move) → length (after_moves slots moves) ≡ length slots
same_size slots [] = refl
same_size slots (Put to id ∷ moves) = same_size (set slots to (Some id)) moves ∙ length-set slots to (Some id)
same_size slots (Erase at ∷ moves) = same_size (set slots at None) moves ∙ length-set slots at None

-- the nearest slots are the same whichever of two tests says them
last_same : (test other : ℕ → Bool) (cut : ℕ) (slots : Slots) (at : ℕ) → ((i : ℕ) → holds test (slot slots i) ≡ holds other (slot slots i)) → IsLastBefore test cut slots at → IsLastBefore other cut slots at
last_same test other cut slots at same x = record { inside = x.inside; passing = sym (same at) ∙ x.passing; nearest = λ i l m. sym (same i) ∙ x.nearest i l m }

first_same : (test other : ℕ → Bool) (cut : ℕ) (slots : Slots) (at : ℕ) → ((i : ℕ) → holds test (slot slots i) ≡ holds other (slot slots i)) → IsFirstFrom test cut slots at → IsFirstFrom other cut slots at
first_same test other cut slots at same x = record { inside = x.inside; passing = sym (same at) ∙ x.passing; nearest = λ i l m. sym (same i) ∙ x.nearest i l m }

-- and so are the moves past a boundary
pass_same : (above : Above) (behind before behind' before' : ℕ → Bool) (cut : ℕ) (slots : Slots) (moves : List Move) → cut ≤ length slots → Stand (λ id. behind id ≡ behind' id) slots → Stand (λ id. before id ≡ before' id) slots
    → Pass above behind before cut slots moves → Pass above behind' before' cut slots moves
pass_same above behind before behind' before' cut slots moves inside one two (passed early late) =
    passed (sym (same_counts behind behind' slots cut inside one).0 ∙ early) (sym (same_counts before before' slots cut inside two).1 ∙ late)
pass_same above behind before behind' before' cut slots moves inside one two (pass_down {moves = later} lower last down shorter rest) =
    let here = moves_along slots down.free (lower ∷ down.rest) ++ Erase lower ∷ [] in
    let size = same_size slots here in
    pass_down lower (last_same behind behind' cut slots lower (λ i. same_held behind behind' (slot slots i) (one i)) last) down
    (λ upper first up. shorter upper (first_same before' before cut slots upper (λ i. sym (same_held before before' (slot slots i) (two i))) first) up)
    (pass_same above behind before behind' before' cut (after_moves slots here) later (omega arith)
    (stand_turn (λ id. behind id ≡ behind' id) slots down.free lower (lower ∷ down.rest) one) (stand_turn (λ id. before id ≡ before' id) slots down.free lower (lower ∷ down.rest) two) rest)
pass_same above behind before behind' before' cut slots moves inside one two (pass_up {moves = later} upper first up longer rest) =
    let here = moves_along slots up.free (upper ∷ up.rest) ++ Erase upper ∷ [] in
    let size = same_size slots here in
    pass_up upper (first_same before before' cut slots upper (λ i. same_held before before' (slot slots i) (two i)) first) up
    (λ lower last down. longer lower (last_same behind' behind cut slots lower (λ i. sym (same_held behind behind' (slot slots i) (one i))) last) down)
    (pass_same above behind before behind' before' cut (after_moves slots here) later (omega arith)
    (stand_turn (λ id. behind id ≡ behind' id) slots up.free upper (upper ∷ up.rest) one) (stand_turn (λ id. before id ≡ before' id) slots up.free upper (upper ∷ up.rest) two) rest)

-- what is early or late is counted
not_early : (test : ℕ → Bool) (cut : ℕ) (slots : Slots) (at : ℕ) → cut ≤ length slots → early test cut slots ≡ 0 → IsLastBefore test cut slots at → ⊥
not_early test cut slots at inside none x = both_ways _ (take_clear (λ (h : Option ℕ). holds test h) slots cut at inside none x.inside) x.passing

not_late : (test : ℕ → Bool) (cut : ℕ) (slots : Slots) (at : ℕ) → cut ≤ length slots → late test cut slots ≡ 0 → IsFirstFrom test cut slots at → ⊥
not_late test cut slots at inside none x =
    let h = holding test (slot slots at) x.passing in
    both_ways _ (drop_clear (λ (h : Option ℕ). holds test h) slots cut at inside none x.inside (slot_inside slots at h.0 h.1)) x.passing

-- one turn and those after it
turns_alone : (a b : List Move) (one other : ℕ) (later later' : List Move) → a ≡ b → one ≡ other → later ≡ later' → a ++ Erase one ∷ later ≡ b ++ Erase other ∷ later'
turns_alone a b one other later later' x y z = ap (λ k. k ++ Erase one ∷ later) x ∙ (ap (λ k. b ++ Erase k ∷ later) y ∙ ap (λ k. b ++ Erase other ∷ k) z)

-- there is one way past a boundary
pass_alone : (above : Above) (behind before : ℕ → Bool) (cut : ℕ) (slots : Slots) (a b : List Move) → cut ≤ length slots → Pass above behind before cut slots a → Pass above behind before cut slots b → a ≡ b
pass_alone above behind before cut slots a b inside (passed early late) (passed early' late') = refl
pass_alone above behind before cut slots a b inside (passed early late) (pass_down lower last down shorter rest) = absurd (not_early behind cut slots lower inside early last)
pass_alone above behind before cut slots a b inside (passed early late) (pass_up upper first up longer rest) = absurd (not_late before cut slots upper inside late first)
pass_alone above behind before cut slots a b inside (pass_down lower last down shorter rest) (passed early late) = absurd (not_early behind cut slots lower inside early last)
pass_alone above behind before cut slots a b inside (pass_up upper first up longer rest) (passed early late) = absurd (not_late before cut slots upper inside late first)
pass_alone above behind before cut slots a b inside (pass_down lower last down shorter rest) (pass_up upper first up longer rest') =
    absurd (let x = shorter upper first up in let y = longer lower last down in omega arith)
pass_alone above behind before cut slots a b inside (pass_up upper first up longer rest) (pass_down lower last down shorter rest') =
    absurd (let x = shorter upper first up in let y = longer lower last down in omega arith)
pass_alone above behind before cut slots a b inside (pass_down {moves = later} lower last down shorter rest) (pass_down {moves = later'} other last' down' shorter' rest') =
    let same = last_alone behind cut slots lower other last last' in
    let k = same_down above slots (λ from. next_free_above slots (cut - 1)) (λ free from rest. free) lower other down down' same in
    let here = moves_along slots down.free (lower ∷ down.rest) ++ Erase lower ∷ [] in
    let there = turns_alone (moves_along slots down.free (lower ∷ down.rest)) (moves_along slots down'.free (other ∷ down'.rest)) lower other [] [] k same refl in
    let size = same_size slots here in
    turns_alone (moves_along slots down.free (lower ∷ down.rest)) (moves_along slots down'.free (other ∷ down'.rest)) lower other later later' k same
    (pass_alone above behind before cut (after_moves slots here) later later' (omega arith) rest (subst (λ ms. Pass above behind before cut (after_moves slots ms) later') (sym there) rest'))
pass_alone above behind before cut slots a b inside (pass_up {moves = later} upper first up longer rest) (pass_up {moves = later'} other first' up' longer' rest') =
    let same = first_alone before cut slots upper other first first' in
    let k = same_up above slots (λ from. last_free_below slots cut) (λ free from rest. free) upper other up up' same in
    let here = moves_along slots up.free (upper ∷ up.rest) ++ Erase upper ∷ [] in
    let there = turns_alone (moves_along slots up.free (upper ∷ up.rest)) (moves_along slots up'.free (other ∷ up'.rest)) upper other [] [] k same refl in
    let size = same_size slots here in
    turns_alone (moves_along slots up.free (upper ∷ up.rest)) (moves_along slots up'.free (other ∷ up'.rest)) upper other later later' k same
    (pass_alone above behind before cut (after_moves slots here) later later' (omega arith) rest (subst (λ ms. Pass above behind before cut (after_moves slots ms) later') (sym there) rest'))

-- there is one cut
cut_alone : (above : Above) (slots : Slots) (id : ℕ) (behind before : ℕ → Bool) (a b : ℕ) → IsCut above slots id behind before a → IsCut above slots id behind before b → a ≡ b
cut_alone above slots id behind before a b x y = elim (cases_lt a b) [
  | inl l ↦ absurd (let m = x.last b l y.to y.room in let n = y.fewest a x.from x.to x.room in omega arith)
  | inr l ↦ elim (cases_lt b a) [
    | inl m ↦ absurd (let n = y.last a m x.to x.room in let k = x.fewest b y.from y.to y.room in omega arith)
    | inr m ↦ omega arith
  ]
]

-- there is one placement
pub placement_alone : (above : Above) (priority : ℕ → ℕ) (aiming : Aiming) (id : ℕ) (slots : Slots) (a b : List Move) → IsPlacement above priority aiming id slots a → IsPlacement above priority aiming id slots b → a ≡ b
placement_alone above priority aiming id slots a b (straight_in x) (straight_in y) = placing_alone above priority aiming id slots a b x y
placement_alone above priority aiming id slots a b (straight_in x) (uncross behind before cut crossed sides best pass placing) = absurd (let f = placing_fits above id slots a x in omega arith)
placement_alone above priority aiming id slots a b (uncross behind before cut crossed sides best pass placing) (straight_in y) = absurd (let f = placing_fits above id slots b y in omega arith)
placement_alone above priority aiming id slots a b (uncross {passing = p} {moves = m} behind before cut crossed sides best pass placing) (uncross {passing = p'} {moves = m'} behind' before' cut' crossed' sides' best' pass' placing') =
    let cuts = cut_alone above slots id behind before cut cut' best (same_cut above slots id cut' behind' before' behind before sides' sides best') in
    let inside : cut ≤ length slots = (let a = best.to in let b = start_inside above slots id in omega arith) in
    let t = same_tests above slots id behind' before' behind before sides' sides in
    let k = pass_alone above behind before cut slots p p' inside pass
    (pass_same above behind' before' behind before cut slots p' inside (λ at other s. (t at other s).0) (λ at other s. (t at other s).1) (subst (λ c. Pass above behind' before' c slots p') (sym cuts) pass')) in
    let h = placing_alone above priority aiming id (after_moves slots p) m m' placing (subst (λ z. IsPlacing above priority aiming id (after_moves slots z) m') (sym k) placing') in
    ap (λ z. z ++ m) k ∙ ap (λ z. p' ++ z) h
