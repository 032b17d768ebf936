-- The ranges that are told by what stands behind the first writes are live there.
use Rattle.std.proofs.Common.{◌≡◌, ℕ, if◌then◌else◌, ◌≤◌, Bool, true, false, List, ◌∷◌, ◌++◌, map, take, drop, inl, inr, refl, sym, ◌∙◌, ap, subst, arith}
use Rattle.std.proofs.lemmas.List.{take-take, length-take}
use Rattle.tcam_device.specs.declared.Action.{Action}
use Rattle.tcam_device.specs.declared.Action.TheVariants.{Written, Drained}
use Rattle.tcam_device.specs.declared.Write.{Write}
use Rattle.tcam_device.specs.Flight.{writes_in}
use Rattle.tcam_device.specs.Insertion.{table_writes}
use Rattle.tcam_device.specs.State.{State, state_after}
use Rattle.commit_writes.specs.Actions.{with_drain}
use Rattle.commit_writes.specs.Bits.{FieldBits}
use Rattle.commit_writes.specs.InFlight.{ArePartOf}
use Rattle.commit_writes.specs.Segments.{live_behind}
use Rattle.commit_writes.proofs.Led.{same_part, front_of_writes, front_of_drained, live_writes, live_drained}
use Rattle.commit_writes.proofs.WritesIn.{writes_of_map}

-- Some ranges that are told by what stands behind the first of some writes are live there: those that are live meanwhile only
-- once the drain is made, where one is due.
module _ (bits before meanwhile : FieldBits) (drains : Bool) (state : State) (made : List Write) (stands : State → Bool) (inner : ArePartOf bits before) (outer : ArePartOf bits meanwhile)
    (part : drains ≡ false → ArePartOf meanwhile before) (none : drains ≡ true → (n : ℕ) → n ≤ table_writes made → stands (state_after state (take n made)) ≡ false) where
  abbrev Lives : List Action → Type 0
  Lives front = ArePartOf (if stands (state_after state (writes_in front)) then meanwhile else bits) (live_behind before meanwhile front)

  either : (b : Bool) (others : FieldBits) → ArePartOf meanwhile others → ArePartOf bits others → ArePartOf (if b then meanwhile else bits) others
  either true others some less = some
  either false others some less = less

  -- before a drain
  at_first : (n : ℕ) (writes : List Write) (front : List Action) → front ≡ map Written (take n writes)
      → ArePartOf (if stands (state_after state (take n writes)) then meanwhile else bits) before → Lives front
  at_first n writes front is lives =
      subst Lives (sym is)
      (subst (λ ws. ArePartOf (if stands (state_after state ws) then meanwhile else bits) (live_behind before meanwhile (map Written (take n writes)))) (sym (writes_of_map (take n writes)))
      (subst (ArePartOf (if stands (state_after state (take n writes)) then meanwhile else bits)) (sym (live_writes before meanwhile (take n writes))) lives))

  pub front_lives : (front back : List Action) → with_drain drains made ≡ front ++ back → Lives front
  front_lives front back parts = go drains refl parts
    where
      count : ℕ
      count = table_writes made

      go : (due : Bool) → drains ≡ due → with_drain due made ≡ front ++ back → Lives front
      go false undue is =
          let w = front_of_writes front back made is in
          at_first w.0 made front w.2 (either (stands (state_after state (take w.0 made))) before (part undue) inner)
      go true due is = elim (front_of_drained front back (take count made) (drop count made) is) [
        | inl w ↦
            let size = length-take count made in
            let short = w.1 in
            let few : w.0 ≤ count = omega arith in
            let same : stands (state_after state (take w.0 (take count made))) ≡ false = ap (λ ws. stands (state_after state ws)) (take-take w.0 count made few) ∙ none due w.0 few in
            at_first w.0 (take count made) front w.2 (subst (λ b. ArePartOf (if b then meanwhile else bits) before) (sym same) inner)
        | inr w ↦
            subst Lives (sym w.2)
            (subst (ArePartOf (if stands (state_after state (writes_in (map Written (take count made) ++ Drained ∷ map Written (take w.0 (drop count made))))) then meanwhile else bits))
            (sym (live_drained before meanwhile (take count made) (map Written (take w.0 (drop count made)))))
            (either (stands (state_after state (writes_in (map Written (take count made) ++ Drained ∷ map Written (take w.0 (drop count made)))))) meanwhile (same_part meanwhile) outer))
      ]
