-- Writes with a drain among them serve live ranges all the way, where the states that they pass do.
use Rattle.std.proofs.Common.{◌≡◌, ℕ, suc, ◌+◌, ◌≤◌, Bool, true, false, List, [], ◌∷◌, ◌++◌, length, map, take, drop, ◌⊎◌, inl, inr, refl, sym, ◌∙◌, ap, subst, arith}
use Rattle.std.proofs.lemmas.List.{append-nil, take-take, length-take}
use Rattle.std.proofs.lemmas.List.Sums.{count_by-le-length}
use Rattle.std.proofs.Math.Seq.{take-add, take-length}
use Rattle.tcam_device.specs.declared.Action.{Action}
use Rattle.tcam_device.specs.declared.Action.TheVariants.{Written, Drained}
use Rattle.tcam_device.specs.declared.Write.{Write}
use Rattle.tcam_device.specs.Flight.{writes_in}
use Rattle.tcam_device.specs.Insertion.{is_table_write, table_writes}
use Rattle.tcam_device.specs.State.{State, apply, state_after}
use Rattle.tcam_device.proofs.Spans.{state_after-append}
use Rattle.commit_writes.specs.Actions.{with_drain}
use Rattle.commit_writes.specs.Bits.{FieldBits}
use Rattle.commit_writes.specs.InFlight.{ArePartOf, ServesLive, ServingTo, LeadsTo}
use Rattle.commit_writes.specs.Segments.{live_behind}
use Rattle.commit_writes.proofs.Current.{current_part}
use Rattle.commit_writes.proofs.WritesIn.{writes_of_map, writes_in-append}

abbrev pub same_part : (bits : FieldBits) → ArePartOf bits bits
same_part bits = record { src = λ bit range live. live; dst = λ bit range live. live }

pub part_of_part : (least less more : FieldBits) → ArePartOf least less → ArePartOf less more → ArePartOf least more
part_of_part least less more inner outer = record {
  src = λ bit range live. outer.src bit range (inner.src bit range live);
  dst = λ bit range live. outer.dst bit range (inner.dst bit range live);
}

-- some writes serve the same ranges after each of them, and what follows serves on
pub serving_on : (bits last : FieldBits) (state : State) (writes : List Write) (rest : List Action)
    → ((n : ℕ) → n ≤ length writes → ServesLive bits (state_after state (take n writes)))
    → ServingTo bits (state_after state writes) rest last → ServingTo bits state (map Written writes ++ rest) last
serving_on bits last state [] rest each on = on
serving_on bits last state (write ∷ writes) rest each on =
    (each 0 (omega arith), (bits, same_part bits, serving_on bits last (apply state write) writes rest (λ n below. each (suc n) (omega arith)) on))

-- with nothing behind them they serve these to the end
pub serving_all : (bits : FieldBits) (state : State) (writes : List Write)
    → ((n : ℕ) → n ≤ length writes → ServesLive bits (state_after state (take n writes)))
    → ServingTo bits state (map Written writes) bits
serving_all bits state writes each =
    let whole : ServesLive bits (state_after state writes) = subst (λ ws. ServesLive bits (state_after state ws)) (take-length writes) (each (length writes) (omega arith)) in
    subst (λ actions. ServingTo bits state actions bits) (append-nil (map Written writes)) (serving_on bits bits state writes [] each (whole, same_part bits))

-- where fewer ranges are asked for in the end, they serve these
serving_less : (bits less last : FieldBits) (state : State) (actions : List Action) → ArePartOf less last → ServingTo bits state actions last → ServingTo bits state actions less
serving_less bits less last state [] part on = (on.0, part_of_part less last bits part on.1)
serving_less bits less last state (Written write ∷ actions) part on =
    (on.0, (on.1.0, on.1.1, serving_less on.1.0 less last (apply state write) actions part on.1.2))
serving_less bits less last state (Drained ∷ actions) part on = (on.0, (on.1.0, serving_less on.1.0 less last state actions part on.1.1))

-- where the same ranges are live in both, a state serves both
pub serves_same : (some others : FieldBits) (state : State) → ArePartOf some others → ArePartOf others some → ServesLive others state → ServesLive some state
serves_same some others state part back serves = record {
  src_words = serves.src_words;
  dst_words = serves.dst_words;
  src_right = λ bit range live. serves.src_right bit range (part.src bit range live);
  dst_right = λ bit range live. serves.dst_right bit range (part.dst bit range live);
  tested = λ at entry held key a b first second. serves.tested at entry held key a b (current_part others some key a back first) (current_part others some key b back second);
}

-- the first of some writes
pub front_of_writes : (front back : List Action) (writes : List Write) → map Written writes ≡ front ++ back
    → (n : ℕ) × (n ≤ length writes) × (front ≡ map Written (take n writes))
front_of_writes [] back writes is = (0, omega arith, refl)
front_of_writes (action ∷ front) back [] is = absurd (cc)
front_of_writes (action ∷ front) back (write ∷ writes) is =
    let head : Written write ≡ action = cc in
    let tail : map Written writes ≡ front ++ back = cc in
    let w = front_of_writes front back writes tail in
    let less = w.1 in
    (suc w.0, omega arith, ap (λ a. a ∷ front) (sym head) ∙ ap (λ xs. Written write ∷ xs) w.2)

-- of writes with a drain among them: either the first before it, or all before it and the first behind it
pub front_of_drained : (front back : List Action) (a b : List Write) → map Written a ++ Drained ∷ map Written b ≡ front ++ back
    → ((n : ℕ) × (n ≤ length a) × (front ≡ map Written (take n a)))
    ⊎ ((n : ℕ) × (n ≤ length b) × (front ≡ map Written a ++ Drained ∷ map Written (take n b)))
front_of_drained [] back a b is = inl (0, omega arith, refl)
front_of_drained (action ∷ front) back [] b is =
    let head : Drained ≡ action = cc in
    let tail : map Written b ≡ front ++ back = cc in
    let w = front_of_writes front back b tail in
    inr (w.0, w.1, ap (λ x. x ∷ front) (sym head) ∙ ap (λ xs. Drained ∷ xs) w.2)
front_of_drained (action ∷ front) back (write ∷ a) b is =
    let head : Written write ≡ action = cc in
    let tail : map Written a ++ Drained ∷ map Written b ≡ front ++ back = cc in
    elim (front_of_drained front back a b tail) [
      | inl w ↦ let less = w.1 in inl (suc w.0, omega arith, ap (λ x. x ∷ front) (sym head) ∙ ap (λ xs. Written write ∷ xs) w.2)
      | inr w ↦ inr (w.0, w.1, ap (λ x. x ∷ front) (sym head) ∙ ap (λ xs. Written write ∷ xs) w.2)
    ]

-- the ranges that are live behind writes alone, and behind a drain among them
pub live_writes : (before meanwhile : FieldBits) (writes : List Write) → live_behind before meanwhile (map Written writes) ≡ before
live_writes before meanwhile [] = refl
live_writes before meanwhile (write ∷ writes) = live_writes before meanwhile writes

pub live_drained : (before meanwhile : FieldBits) (writes : List Write) (rest : List Action) → live_behind before meanwhile (map Written writes ++ Drained ∷ rest) ≡ meanwhile
live_drained before meanwhile [] rest = refl
live_drained before meanwhile (write ∷ writes) rest = live_drained before meanwhile writes rest

-- what the states serve that some writes pass: some ranges up to the last write of a table, and others from there on; and the
-- first ones all the way, with no other in the end, where nothing is drained
pub record ArePassed (before meanwhile : FieldBits) (drains : Bool) (state : State) (made : List Write) : Type 0 where
  pub early : (n : ℕ) → n ≤ table_writes made → ServesLive before (state_after state (take n made))
  pub late : (n : ℕ) → table_writes made ≤ n → ServesLive meanwhile (state_after state (take n made))
  pub undrained : drains ≡ false → (n : ℕ) → ServesLive before (state_after state (take n made))
  pub part : drains ≡ false → ArePartOf meanwhile before

module _ (before meanwhile : FieldBits) (drains : Bool) (state : State) (made : List Write) (passed : ArePassed before meanwhile drains state made) where
  abbrev count : ℕ
  count = table_writes made

  abbrev front_part : List Write
  front_part = take count made

  abbrev back_part : List Write
  back_part = drop count made

  pub in_front : (n : ℕ) → n ≤ length front_part → ServesLive before (state_after state (take n front_part))
  in_front n below =
      let size = length-take count made in
      let few : n ≤ count = omega arith in
      subst (λ ws. ServesLive before (state_after state ws)) (sym (take-take n count made few)) (passed.early n few)

  pub behind : (n : ℕ) → ServesLive meanwhile (state_after (state_after state front_part) (take n back_part))
  behind n =
      let whole : state_after state (take (count + n) made) ≡ state_after (state_after state front_part) (take n back_part) =
      ap (state_after state) (take-add count n made) ∙ state_after-append state front_part (take n back_part) in
      subst (ServesLive meanwhile) whole (passed.late (count + n) (omega arith))

  -- the drain and the first writes behind it
  drained_on : (n : ℕ) → ServingTo before (state_after state front_part) (Drained ∷ map Written (take n back_part)) meanwhile
  drained_on n =
      let each : (m : ℕ) → m ≤ length (take n back_part) → ServesLive meanwhile (state_after (state_after state front_part) (take m (take n back_part))) = (λ m less.
      let size = length-take n back_part in
      let few : m ≤ n = omega arith in
      subst (λ ws. ServesLive meanwhile (state_after (state_after state front_part) ws)) (sym (take-take m n back_part few)) (behind m)) in
      (passed.early count (omega arith), (meanwhile, serving_all meanwhile (state_after state front_part) (take n back_part) each))

  -- some first writes, all of which serve the ranges
  lead_at_once : (n : ℕ) (writes : List Write) → ((m : ℕ) → m ≤ length writes → ServesLive before (state_after state (take m writes))) → n ≤ length writes
      → LeadsTo before state (map Written (take n writes)) before
  lead_at_once n writes each below =
      let size = length-take n writes in
      let front : (m : ℕ) → m ≤ length (take n writes) → ServesLive before (state_after state (take m (take n writes))) = (λ m less.
      let few : m ≤ n = omega arith in
      subst (λ ws. ServesLive before (state_after state ws)) (sym (take-take m n writes few)) (each m (omega arith))) in (
        serving_all before state (take n writes) front,
        subst (λ ws. ServesLive before (state_after state ws)) (sym (writes_of_map (take n writes))) (each n below),
      )

  -- the writes before the drain, the drain, and some first writes behind it
  lead_over_drain : (n : ℕ) → LeadsTo before state (map Written front_part ++ Drained ∷ map Written (take n back_part)) meanwhile
  lead_over_drain n =
      let inside : writes_in (map Written front_part ++ Drained ∷ map Written (take n back_part)) ≡ front_part ++ take n back_part =
      writes_in-append (map Written front_part) (Drained ∷ map Written (take n back_part))
      ∙ ap (λ ws. ws ++ writes_in (map Written (take n back_part))) (writes_of_map front_part) ∙ ap (λ ws. front_part ++ ws) (writes_of_map (take n back_part)) in (
        serving_on before meanwhile state front_part (Drained ∷ map Written (take n back_part)) in_front (drained_on n),
        subst (ServesLive meanwhile) (sym (ap (state_after state) inside ∙ state_after-append state front_part (take n back_part))) (behind n),
      )

  pub front_leads : (front back : List Action) → with_drain drains made ≡ front ++ back → LeadsTo before state front (live_behind before meanwhile front)
  front_leads front back parts = go drains refl parts
    where
      at_once : (n : ℕ) (writes : List Write) → front ≡ map Written (take n writes) → LeadsTo before state (map Written (take n writes)) before → LeadsTo before state front (live_behind before meanwhile front)
      at_once n writes is leads =
          subst (λ actions. LeadsTo before state actions (live_behind before meanwhile actions)) (sym is)
          (subst (LeadsTo before state (map Written (take n writes))) (sym (live_writes before meanwhile (take n writes))) leads)

      over_drain : (n : ℕ) → front ≡ map Written front_part ++ Drained ∷ map Written (take n back_part) → LeadsTo before state front (live_behind before meanwhile front)
      over_drain n is =
          subst (λ actions. LeadsTo before state actions (live_behind before meanwhile actions)) (sym is)
          (subst (LeadsTo before state (map Written front_part ++ Drained ∷ map Written (take n back_part))) (sym (live_drained before meanwhile front_part (map Written (take n back_part)))) (lead_over_drain n))

      go : (due : Bool) → drains ≡ due → with_drain due made ≡ front ++ back → LeadsTo before state front (live_behind before meanwhile front)
      go false none is = let w = front_of_writes front back made is in at_once w.0 made w.2 (lead_at_once w.0 made (λ m below. passed.undrained none m) w.1)
      go true some is = elim (front_of_drained front back front_part back_part is) [
        | inl w ↦ at_once w.0 front_part w.2 (lead_at_once w.0 front_part in_front w.1)
        | inr w ↦ over_drain w.0 w.2
      ]

  -- all of them lead to the ranges that are live meanwhile, also where nothing is drained
  pub all_lead : LeadsTo before state (with_drain drains made) meanwhile
  all_lead = go drains refl
    where
      whole : ServesLive meanwhile (state_after state made)
      whole =
          let less = count_by-le-length is_table_write made in
          subst (λ ws. ServesLive meanwhile (state_after state ws)) (take-length made) (passed.late (length made) (omega arith))

      go : (due : Bool) → drains ≡ due → LeadsTo before state (with_drain due made) meanwhile
      go false none = (
        serving_less before meanwhile before state (map Written made) (passed.part none) (serving_all before state made (λ n below. passed.undrained none n)),
        subst (λ ws. ServesLive meanwhile (state_after state ws)) (sym (writes_of_map made)) whole,
      )
      go true some =
          subst (λ ws. LeadsTo before state (map Written front_part ++ Drained ∷ map Written ws) meanwhile) (take-length back_part) (lead_over_drain (length back_part))
