-- The new results and then the erases: each of their writes leads to a stage, and the last to one with no task left.
use Rattle.std.proofs.Common.{◌≡◌, ℕ, zero, suc, true, false, Bool, set, Option, None, Some, List, [], ◌∷◌, ◌++◌, map, filter, take, Contains, inl, inr, sym, ◌∙◌, subst, ap}
use Rattle.std.specs.List.{AllZip}
use Rattle.std.proofs.lemmas.Bool.{cases_Bool, cond-true, cond-false}
use Rattle.slot_order.specs.Order.{slot}
use Rattle.slot_order.proofs.Lists.{contains_head, contains_tail, map_in}
use Rattle.rule_model.specs.Entry.{RankedPiece, entry_for, same_match}
use Rattle.tcam_device.specs.declared.Write.{Write}
use Rattle.tcam_device.specs.declared.Write.TheVariants.{Slot}
use Rattle.tcam_device.specs.State.{State, apply, state_after}
use Rattle.commit_writes.specs.Bits.{FieldBits}
use Rattle.commit_writes.specs.Shape.{Stands, Rewrites, Erases}
use Rattle.readback.specs.Tasks.{CommitPieces, Task, Rewrite, Erase}
use Rattle.readback.specs.Stage.{IsStageAt}
use Rattle.readback.proofs.Facts.{ArePieces, IsSame, same_sym, old_known, known_cases, erase_in, left_in, left_other}
use Rattle.readback.proofs.Rewriting.{HasNoTwin, rewriting, still_alone, stands_forth}
use Rattle.readback.proofs.Erasing.{without, stands_on, elsewhere, erasing, alone_still}

-- what holds of partners, where the first is one of the list
zip_in : {X Y : Type 0} (R S : X → Y → Type 0) (xs : List X) (ys : List Y) → ((x : X) (y : Y) → Contains xs x → R x y → S x y) → AllZip R xs ys → AllZip S xs ys
zip_in R S [] [] each zip = tt
zip_in R S [] (y ∷ ys) each zip = absurd zip
zip_in R S (x ∷ xs) [] each zip = absurd zip
zip_in R S (x ∷ xs) (y ∷ ys) each zip = (each x y (contains_head x xs) zip.0, zip_in R S xs ys (λ z w member. each z w (contains_tail x z xs member)) zip.1)

-- what a slot holds is put there again
set_same : {E : Type 0} (d : List (Option E)) (at : ℕ) (e : E) → slot d at ≡ Some e → set d at (Some e) ≡ d
set_same [] at e s = absurd (cc)
set_same (x ∷ d) zero e s = ap (λ y. y ∷ d) (sym s)
set_same (x ∷ d) (suc at) e s = ap (λ rest. x ∷ rest) (set_same d at e s)

-- a result that is told already: the piece is an old one, and none that is to get another result
abbrev pub IsToldBefore : CommitPieces → RankedPiece → Type 0
IsToldBefore p x = Contains p.old x × ((y : RankedPiece) → Contains p.rewritten y → IsSame x y → ⊥)

-- a rewritten piece stands where it stood
pub rewrites_later : (state : State) (at : ℕ) (r : RankedPiece) (rs : List RankedPiece) (ws : List Write) → Stands state at r → AllZip (Rewrites state) rs ws → AllZip (Rewrites (apply state (Slot at (Some (entry_for r))))) rs ws
rewrites_later state at r rs ws stands zip =
    zip_in (Rewrites state) (Rewrites (apply state (Slot at (Some (entry_for r))))) rs ws
    (λ x w member rewrites. (rewrites.0, stands_forth state at r stands x rewrites.0 rewrites.1, rewrites.2)) zip

module _ (slots : ℕ) (before during : FieldBits) (p : CommitPieces) (facts : ArePieces p) where
  -- some stage without a twin
  pub record IsReached (state : State) : Type 0 where
    pub done : List Task
    pub left : List Task
    pub stage : IsStageAt slots before during p state done left
    pub alone : HasNoTwin state

  -- the stage that has no task left
  pub record IsEnded (state : State) : Type 0 where
    pub done : List Task
    pub stage : IsStageAt slots before during p state done []
    pub alone : HasNoTwin state

  -- what is still to go stands where it stood
  erases_later : (state : State) (at : ℕ) (e : RankedPiece) (es : List RankedPiece) (vs : List Write) (done : List Task) (stage : IsStageAt slots before during p state done (Erase e ∷ map Erase es)) (alone : HasNoTwin state) (stands : Stands state at e)
      → AllZip (Erases state) es vs → AllZip (Erases (apply state (Slot at None))) es vs
  erases_later state at e es vs done stage alone stands zip =
      zip_in (Erases state) (Erases (apply state (Slot at None))) es vs
      (λ x w member erases. (
        erases.0,
        stands_on state (apply state (Slot at None)) at (without state at stands.0 stands.1) x erases.0
            (elsewhere slots before during p facts state at e done (map Erase es) stage alone stands x erases.0
            (old_known p x (facts.goes x (erase_in p x (left_in p done (Erase e ∷ map Erase es) (Erase x) stage.parts (contains_tail (Erase e) (Erase x) (map Erase es) (map_in Erase es x member))))))
            (left_other p done (map Erase es) (Erase e) (Erase x) facts stage.parts (map_in Erase es x member)) erases.1) erases.1,
        erases.2,
      )) zip

  pub some_erased : (n : ℕ) (es : List RankedPiece) (vs : List Write) (state : State) (done : List Task) → IsStageAt slots before during p state done (map Erase es) → HasNoTwin state → AllZip (Erases state) es vs
      → IsReached (state_after state (take n vs))
  some_erased zero es vs state done stage alone zip = record { done = done; left = map Erase es; stage = stage; alone = alone }
  some_erased (suc n) [] [] state done stage alone zip = record { done = done; left = []; stage = stage; alone = alone }
  some_erased (suc n) [] (v ∷ vs) state done stage alone zip = absurd zip
  some_erased (suc n) (e ∷ es) [] state done stage alone zip = absurd zip
  some_erased (suc n) (e ∷ es) (v ∷ vs) state done stage alone zip =
      let at = zip.0.0 in
      subst (λ w. IsReached (state_after (apply state w) (take n vs))) (sym zip.0.2)
      (some_erased n es vs (apply state (Slot at None)) (done ++ Erase e ∷ [])
      (erasing slots before during p facts state at e done (map Erase es) stage alone zip.0.1)
      (alone_still slots before during p facts state at e done (map Erase es) stage alone zip.0.1)
      (erases_later state at e es vs done stage alone zip.0.1 zip.1))

  pub all_erased : (es : List RankedPiece) (vs : List Write) (state : State) (done : List Task) → IsStageAt slots before during p state done (map Erase es) → HasNoTwin state → AllZip (Erases state) es vs
      → IsEnded (state_after state vs)
  all_erased [] [] state done stage alone zip = record { done = done; stage = stage; alone = alone }
  all_erased [] (v ∷ vs) state done stage alone zip = absurd zip
  all_erased (e ∷ es) [] state done stage alone zip = absurd zip
  all_erased (e ∷ es) (v ∷ vs) state done stage alone zip =
      let at = zip.0.0 in
      subst (λ w. IsEnded (state_after (apply state w) vs)) (sym zip.0.2)
      (all_erased es vs (apply state (Slot at None)) (done ++ Erase e ∷ [])
      (erasing slots before during p facts state at e done (map Erase es) stage alone zip.0.1)
      (alone_still slots before during p facts state at e done (map Erase es) stage alone zip.0.1)
      (erases_later state at e es vs done stage alone zip.0.1 zip.1))

  -- a result that is told already changes nothing
  told_before : (state : State) (at : ℕ) (r : RankedPiece) (done left : List Task) → IsStageAt slots before during p state done left → Stands state at r → IsToldBefore p r
      → apply state (Slot at (Some (entry_for r))) ≡ state
  told_before state at r done left stage stands old =
      let w = stage.known at stands.0 stands.1 in
      let same : IsSame r w.0 = facts.apart r w.0 (old_known p r old.0) w.1 (subst (λ e. same_match (entry_for r) e ≡ true) (sym w.2) stands.2) in
      let is : w.0 ≡ r = elim (known_cases p w.0 w.1) [
        | inl stood ↦ facts.old_once w.0 r stood old.0 (same_sym r w.0 same)
        | inr rest ↦ absurd (elim rest [ inl put ↦ facts.new_apart r w.0 old.0 put same | inr told ↦ old.1 w.0 told same ])
      ] in
      ap (λ d. record state { slots = d }) (set_same state.slots at (entry_for r) (stands.1 ∙ (ap Some (sym w.2) ∙ ap (λ x. Some (entry_for x)) is)))

  module _ (changes : RankedPiece → Bool) where
    -- the tasks of the results that change
    abbrev pub results_left : List RankedPiece → List Task
    results_left rs = map Rewrite (filter changes rs)

    changed_first : (r : RankedPiece) (rs : List RankedPiece) (later : List Task) → changes r ≡ true → results_left (r ∷ rs) ++ later ≡ Rewrite r ∷ (results_left rs ++ later)
    changed_first r rs later is = ap (λ some. map Rewrite some ++ later) (cond-true _ _ _ is)

    same_first : (r : RankedPiece) (rs : List RankedPiece) (later : List Task) → changes r ≡ false → results_left (r ∷ rs) ++ later ≡ results_left rs ++ later
    same_first r rs later is = ap (λ some. map Rewrite some ++ later) (cond-false _ _ _ is)

    pub some_told : (n : ℕ) (rs : List RankedPiece) (ws : List Write) (es : List RankedPiece) (vs : List Write) (state : State) (done : List Task)
        → IsStageAt slots before during p state done (results_left rs ++ map Erase es) → HasNoTwin state
        → ((r : RankedPiece) → Contains rs r → changes r ≡ false → IsToldBefore p r)
        → AllZip (Rewrites state) rs ws → AllZip (Erases (state_after state ws)) es vs
        → IsReached (state_after state (take n (ws ++ vs)))
    some_told zero rs ws es vs state done stage alone told zip goes = record { done = done; left = results_left rs ++ map Erase es; stage = stage; alone = alone }
    some_told (suc n) [] [] es vs state done stage alone told zip goes = some_erased (suc n) es vs state done stage alone goes
    some_told (suc n) [] (w ∷ ws) es vs state done stage alone told zip goes = absurd zip
    some_told (suc n) (r ∷ rs) [] es vs state done stage alone told zip goes = absurd zip
    some_told (suc n) (r ∷ rs) (w ∷ ws) es vs state done stage alone told zip goes =
        let at = zip.0.0 in
        let next : State = apply state (Slot at (Some (entry_for r))) in
        let on : (x : RankedPiece) → Contains rs x → changes x ≡ false → IsToldBefore p x = λ x member. told x (contains_tail r x rs member) in
        let later : AllZip (Rewrites next) rs ws = rewrites_later state at r rs ws zip.0.1 zip.1 in
        let gone : AllZip (Erases (state_after next ws)) es vs = subst (λ x. AllZip (Erases (state_after (apply state x) ws)) es vs) zip.0.2 goes in
        subst (λ x. IsReached (state_after (apply state x) (take n (ws ++ vs)))) (sym zip.0.2) (elim (cases_Bool (changes r)) [
          | inl is ↦
              let now : IsStageAt slots before during p state done (Rewrite r ∷ (results_left rs ++ map Erase es)) = subst (IsStageAt slots before during p state done) (changed_first r rs (map Erase es) is) stage in
              some_told n rs ws es vs next (done ++ Rewrite r ∷ []) (rewriting slots before during p facts state at r done (results_left rs ++ map Erase es) now alone zip.0.1)
              (still_alone slots before during p facts state at r done (results_left rs ++ map Erase es) now alone zip.0.1) on later gone
          | inr same ↦
              let now : IsStageAt slots before during p state done (results_left rs ++ map Erase es) = subst (IsStageAt slots before during p state done) (same_first r rs (map Erase es) same) stage in
              let stays : next ≡ state = told_before state at r done (results_left rs ++ map Erase es) now zip.0.1 (told r (contains_head r rs) same) in
              subst (λ s. IsReached (state_after s (take n (ws ++ vs)))) (sym stays)
              (some_told n rs ws es vs state done now alone on zip.1 (subst (λ s. AllZip (Erases (state_after s ws)) es vs) stays gone))
        ])

    pub all_told : (rs : List RankedPiece) (ws : List Write) (es : List RankedPiece) (vs : List Write) (state : State) (done : List Task)
        → IsStageAt slots before during p state done (results_left rs ++ map Erase es) → HasNoTwin state
        → ((r : RankedPiece) → Contains rs r → changes r ≡ false → IsToldBefore p r)
        → AllZip (Rewrites state) rs ws → AllZip (Erases (state_after state ws)) es vs
        → IsEnded (state_after state (ws ++ vs))
    all_told [] [] es vs state done stage alone told zip goes = all_erased es vs state done stage alone goes
    all_told [] (w ∷ ws) es vs state done stage alone told zip goes = absurd zip
    all_told (r ∷ rs) [] es vs state done stage alone told zip goes = absurd zip
    all_told (r ∷ rs) (w ∷ ws) es vs state done stage alone told zip goes =
        let at = zip.0.0 in
        let next : State = apply state (Slot at (Some (entry_for r))) in
        let on : (x : RankedPiece) → Contains rs x → changes x ≡ false → IsToldBefore p x = λ x member. told x (contains_tail r x rs member) in
        let later : AllZip (Rewrites next) rs ws = rewrites_later state at r rs ws zip.0.1 zip.1 in
        let gone : AllZip (Erases (state_after next ws)) es vs = subst (λ x. AllZip (Erases (state_after (apply state x) ws)) es vs) zip.0.2 goes in
        subst (λ x. IsEnded (state_after (apply state x) (ws ++ vs))) (sym zip.0.2) (elim (cases_Bool (changes r)) [
          | inl is ↦
              let now : IsStageAt slots before during p state done (Rewrite r ∷ (results_left rs ++ map Erase es)) = subst (IsStageAt slots before during p state done) (changed_first r rs (map Erase es) is) stage in
              all_told rs ws es vs next (done ++ Rewrite r ∷ []) (rewriting slots before during p facts state at r done (results_left rs ++ map Erase es) now alone zip.0.1)
              (still_alone slots before during p facts state at r done (results_left rs ++ map Erase es) now alone zip.0.1) on later gone
          | inr same ↦
              let now : IsStageAt slots before during p state done (results_left rs ++ map Erase es) = subst (IsStageAt slots before during p state done) (same_first r rs (map Erase es) same) stage in
              let stays : next ≡ state = told_before state at r done (results_left rs ++ map Erase es) now zip.0.1 (told r (contains_head r rs) same) in
              subst (λ s. IsEnded (state_after s (ws ++ vs))) (sym stays)
              (all_told rs ws es vs state done now alone on zip.1 (subst (λ s. AllZip (Erases (state_after s ws)) es vs) stays gone))
        ])
