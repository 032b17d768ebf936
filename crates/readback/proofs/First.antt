-- The insertions of a commit are those of its insertion part, which comes before all other slot writes.
use Rattle.std.proofs.Common.{◌≡◌, Bool, true, false, not, None, Some, List, [], ◌∷◌, ◌++◌, refl, sym, ◌∙◌, subst, ap}
use Rattle.std.specs.List.{AllZip}
use Rattle.std.proofs.lemmas.List.{append-nil}
use Rattle.rule_model.specs.Entry.{RankedPiece, entry_for}
use Rattle.tcam_device.specs.declared.Write.{Write}
use Rattle.tcam_device.specs.declared.Write.TheVariants.{Slot, Table}
use Rattle.tcam_device.specs.State.{State, apply, state_after}
use Rattle.tcam_device.specs.Insertion.{Insertion, insertions, insertions_from, is_new}
use Rattle.commit_writes.specs.Shape.{Rewrites, Erases}
use Rattle.readback.proofs.Finishing.{rewrites_later}
use Rattle.readback.proofs.Tests.{stands_from}

-- what comes behind some writes is cut by itself, from where they leave it
cut : (begun : State) (run : List Write) (state : State) (xs ys : List Write)
    → (begun' : State) × (run' : List Write) × (insertions_from begun run state (xs ++ ys) ≡ insertions_from begun run state xs ++ insertions_from begun' run' (state_after state xs) ys)
cut begun run state [] ys = (begun, run, refl)
cut begun run state (Slot t None ∷ xs) ys = cut begun (run ++ Slot t None ∷ []) (apply state (Slot t None)) xs ys
cut begun [] state (Table field port word ∷ xs) ys = cut (apply state (Table field port word)) [] (apply state (Table field port word)) xs ys
cut begun (x ∷ run) state (Table field port word ∷ xs) ys = cut begun (x ∷ run) (apply state (Table field port word)) xs ys
cut begun run state (Slot t (Some e) ∷ xs) ys = split (is_new state e) refl (cut next [] next xs ys) (cut begun longer next xs ys)
  where
    next : State
    next = apply state (Slot t (Some e))

    longer : List Write
    longer = run ++ Slot t (Some e) ∷ []

    split : (b : Bool) → is_new state e ≡ b
        → (begun' : State) × (run' : List Write) × (insertions_from next [] next (xs ++ ys) ≡ insertions_from next [] next xs ++ insertions_from begun' run' (state_after next xs) ys)
        → (begun' : State) × (run' : List Write) × (insertions_from begun longer next (xs ++ ys) ≡ insertions_from begun longer next xs ++ insertions_from begun' run' (state_after next xs) ys)
        → (begun' : State) × (run' : List Write) × (insertions_from begun run state (Slot t (Some e) ∷ xs ++ ys) ≡ insertions_from begun run state (Slot t (Some e) ∷ xs) ++ insertions_from begun' run' (state_after next xs) ys)
    split true is w v = (w.0, w.1, rw (is, insertions_from) (ap (λ made. record { before = begun; writes = longer; entry = e } ∷ made) w.2))
    split false is w v = (v.0, v.1, rw (is, insertions_from) v.2)

-- erases make no insertion,
erases_make : (es : List RankedPiece) (vs : List Write) (state begun now : State) (run : List Write) → AllZip (Erases state) es vs → insertions_from begun run now vs ≡ []
erases_make [] [] state begun now run zip = refl
erases_make [] (v ∷ vs) state begun now run zip = absurd zip
erases_make (e ∷ es) [] state begun now run zip = absurd zip
erases_make (e ∷ es) (v ∷ vs) state begun now run zip =
    subst (λ write. insertions_from begun run now (write ∷ vs) ≡ []) (sym zip.0.2) (erases_make es vs state begun (apply now (Slot zip.0.0 None)) (run ++ Slot zip.0.0 None ∷ []) zip.1)

-- nor do new results before them
results_make : (rs : List RankedPiece) (ws : List Write) (es : List RankedPiece) (vs : List Write) (state begun : State) (run : List Write) → AllZip (Rewrites state) rs ws → AllZip (Erases (state_after state ws)) es vs
    → insertions_from begun run state (ws ++ vs) ≡ []
results_make [] [] es vs state begun run zip goes = erases_make es vs state begun state run goes
results_make [] (w ∷ ws) es vs state begun run zip goes = absurd zip
results_make (r ∷ rs) [] es vs state begun run zip goes = absurd zip
results_make (r ∷ rs) (w ∷ ws) es vs state begun run zip goes =
    subst (λ write. insertions_from begun run state (write ∷ (ws ++ vs)) ≡ []) (sym zip.0.2)
    (rw (old, insertions_from) (results_make rs ws es vs (apply state (Slot zip.0.0 (Some (entry_for r)))) begun (run ++ Slot zip.0.0 (Some (entry_for r)) ∷ [])
    (rewrites_later state zip.0.0 r rs ws zip.0.1 zip.1) (subst (λ x. AllZip (Erases (state_after (apply state x) ws)) es vs) zip.0.2 goes)))
  where
    old : is_new state (entry_for r) ≡ false
    old = ap not (stands_from state r (zip.0.0, zip.0.1))

-- so all insertions are those of the insertion part
pub first_insertions : (state : State) (inserted ws vs : List Write) (rs es : List RankedPiece) → AllZip (Rewrites (state_after state inserted)) rs ws → AllZip (Erases (state_after (state_after state inserted) ws)) es vs
    → insertions state (inserted ++ (ws ++ vs)) ≡ insertions state inserted
first_insertions state inserted ws vs rs es results erases =
    let c = cut state [] state inserted (ws ++ vs) in
    c.2 ∙ (ap (λ (made : List Insertion). insertions state inserted ++ made) (results_make rs ws es vs (state_after state inserted) c.0 c.1 results erases) ∙ append-nil (insertions state inserted))
