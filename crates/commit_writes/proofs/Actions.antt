-- The writes and the drain of a commit, and those of one that is taken back, serve live ranges all the way.
use Rattle.std.proofs.Common.{◌≡◌, ℕ, suc, ◌≤◌, Bool, true, false, List, [], ◌∷◌, ◌++◌, length, map, take, drop, inl, inr, refl, sym, ◌∙◌, ap, subst, arith, append_assoc}
use Rattle.std.proofs.lemmas.Bool.{cases_lt}
use Rattle.std.proofs.lemmas.List.{append-nil, take-take, length-take, map-append}
use Rattle.rule_model.specs.declared.Rule.{Rule}
use Rattle.rule_store.specs.declared.Mode.{Mode}
use Rattle.rule_store.specs.declared.Command.{Command}
use Rattle.tcam_device.specs.declared.Write.{Write}
use Rattle.tcam_device.specs.State.{State, apply, state_after}
use Rattle.tcam_device.specs.Insertion.{table_writes}
use Rattle.commit_writes.specs.Bits.{FieldBits, bits_with, new_bits}
use Rattle.commit_writes.specs.Commit.{IsSegment}
use Rattle.tcam_device.specs.declared.Action.{Action}
use Rattle.tcam_device.specs.declared.Action.TheVariants.{Written, Drained}
use Rattle.tcam_device.specs.Flight.{writes_in}
use Rattle.commit_writes.specs.InFlight.{ArePartOf, ServesLive, ServingTo, LeadsTo}
use Rattle.commit_writes.specs.Undo.{restoring, undo_writes}
use Rattle.commit_writes.specs.Actions.{have_bits, with_drain, commit_actions, back_from}
use Rattle.commit_writes.specs.Segments.{MayBegin, CommitsServe, ReturnsServe}
use Rattle.commit_writes.proofs.Led as led
use Rattle.commit_writes.proofs.Led.{ArePassed, same_part, part_of_part, serving_on, serves_same, front_of_writes, front_of_drained, front_leads, all_lead}
use Rattle.commit_writes.proofs.Undone.{restored, undo_ends}
use Rattle.commit_writes.proofs.LiveRanges.{live_meanwhile, same_ranges}
use Rattle.commit_writes.proofs.ServedLive.{bits_begun, early, late}
use Rattle.commit_writes.proofs.ServedTables.{IsBitsStart}
use Rattle.commit_writes.proofs.WritesIn.{writes_of_map, writes_in-append}

-- where writes serve the same ranges after each of them, so do their undo writes
serving_back : (bits last : FieldBits) (state : State) (writes : List Write) (rest : List Action)
    → ((n : ℕ) → n ≤ length writes → ServesLive bits (state_after state (take n writes)))
    → ServingTo bits state rest last → ServingTo bits (state_after state writes) (map Written (undo_writes state writes) ++ rest) last
serving_back bits last state [] rest each on = on
serving_back bits last state (write ∷ writes) rest each on =
    let next = apply state write in
    let back = restoring state write in
    let there : ServingTo bits next (Written back ∷ rest) last =
    (each 1 (omega arith), (bits, same_part bits, subst (λ s. ServingTo bits s rest last) (sym (restored state write)) on)) in
    let shape : map Written (undo_writes state (write ∷ writes)) ++ rest ≡ map Written (undo_writes next writes) ++ Written back ∷ rest =
    ap (λ xs. xs ++ rest) (map-append {A = Write} Written (undo_writes next writes) (back ∷ [])) ∙ append_assoc (map Written (undo_writes next writes)) (Written back ∷ []) rest in
    subst (λ actions. ServingTo bits (state_after next writes) actions last) (sym shape)
    (serving_back bits last next writes (Written back ∷ rest) (λ n below. each (suc n) (omega arith)) there)

-- to the end again
serving_back_all : (bits : FieldBits) (state : State) (writes : List Write)
    → ((n : ℕ) → n ≤ length writes → ServesLive bits (state_after state (take n writes)))
    → ServingTo bits (state_after state writes) (map Written (undo_writes state writes)) bits
serving_back_all bits state writes each =
    subst (λ actions. ServingTo bits (state_after state writes) actions bits) (append-nil (map Written (undo_writes state writes)))
    (serving_back bits bits state writes [] each (each 0 (omega arith), same_part bits))

-- where more ranges are served at first, these may be the ones
serving_more : (less more last : FieldBits) (state : State) (actions : List Action) → ArePartOf less more → ServesLive more state → ServingTo less state actions last → ServingTo more state actions last
serving_more less more last state [] part serves on = (serves, part_of_part last less more on.1 part)
serving_more less more last state (Written write ∷ actions) part serves on = (serves, (on.1.0, part_of_part on.1.0 less more on.1.1 part, on.1.2))
serving_more less more last state (Drained ∷ actions) part serves on = (serves, on.1)

-- undo writes of some writes and then others
pub undo-append : (state : State) (a b : List Write) → undo_writes state (a ++ b) ≡ undo_writes (state_after state a) b ++ undo_writes state a
undo-append state [] b = sym (append-nil (undo_writes state b))
undo-append state (write ∷ a) b =
    ap (λ xs. xs ++ restoring state write ∷ []) (undo-append (apply state write) a b)
    ∙ append_assoc (undo_writes (state_after (apply state write) a) b) (undo_writes (apply state write) a) (restoring state write ∷ [])

module _ (mode : Mode) (bits : FieldBits) (rules : List Rule) (batch : List Command) (state : State) (made : List Write)
    (begin : MayBegin mode bits rules batch state) (segment : IsSegment mode bits rules batch state made) where
  abbrev during : FieldBits
  during = bits_with mode rules batch bits

  abbrev count : ℕ
  count = table_writes made

  start : IsBitsStart mode bits rules batch state
  start = bits_begun mode bits rules batch state begin

  abbrev front_part : List Write
  front_part = take count made

  abbrev back_part : List Write
  back_part = drop count made

  served_early : (n : ℕ) → n ≤ count → ServesLive bits (state_after state (take n made))
  served_early n below = early mode bits rules batch state made begin segment n below

  served_late : (n : ℕ) → count ≤ n → ServesLive during (state_after state (take n made))
  served_late n above = late mode bits rules batch state made begin segment n above

  -- without a new bit the live ranges are served all the way
  unchanged : have_bits (new_bits bits during) ≡ false → (n : ℕ) → ServesLive bits (state_after state (take n made))
  unchanged none n = elim (cases_lt count n) [
    | inl past ↦
        serves_same bits during (state_after state (take n made)) (live_meanwhile mode bits rules batch state start) (same_ranges mode bits rules batch state start none)
        (served_late n (omega arith))
    | inr early ↦ served_early n early
  ]

  passed : ArePassed bits during (have_bits (new_bits bits during)) state made
  passed = record { early = served_early; late = served_late; undrained = unchanged; part = same_ranges mode bits rules batch state start }

  in_front : (n : ℕ) → n ≤ length front_part → ServesLive bits (state_after state (take n front_part))
  in_front = led.in_front bits during (have_bits (new_bits bits during)) state made passed

  behind : (n : ℕ) → ServesLive during (state_after (state_after state front_part) (take n back_part))
  behind = led.behind bits during (have_bits (new_bits bits during)) state made passed

  -- some first writes, all of which serve the ranges, and their undo writes
  back_at_once : (n : ℕ) (writes : List Write) → ((m : ℕ) → m ≤ length writes → ServesLive bits (state_after state (take m writes))) → n ≤ length writes
      → ServingTo bits state (map Written (take n writes) ++ map Written (undo_writes state (take n writes))) bits
  back_at_once n writes each below =
      let size = length-take n writes in
      let front : (m : ℕ) → m ≤ length (take n writes) → ServesLive bits (state_after state (take m (take n writes))) = (λ m less.
      let few : m ≤ n = omega arith in
      subst (λ ws. ServesLive bits (state_after state ws)) (sym (take-take m n writes few)) (each m (omega arith))) in
      serving_on bits bits state (take n writes) (map Written (undo_writes state (take n writes))) front (serving_back_all bits state (take n writes) front)

  -- the writes before the drain, the drain, some first writes behind it, and their undo writes
  back_over_drain : (n : ℕ) → ServingTo bits state (map Written front_part ++ Drained ∷ (map Written (take n back_part) ++ map Written (undo_writes state (front_part ++ take n back_part)))) bits
  back_over_drain n =
      let middle = state_after state front_part in
      let some = take n back_part in
      let at : ServesLive bits middle = served_early count (omega arith) in
      let there : ServesLive during middle = behind 0 in
      let each : (m : ℕ) → m ≤ length some → ServesLive during (state_after middle (take m some)) = (λ m less.
      let size = length-take n back_part in
      let few : m ≤ n = omega arith in
      subst (λ ws. ServesLive during (state_after middle ws)) (sym (take-take m n back_part few)) (behind m)) in
      let back : ServingTo during (state_after middle some) (map Written (undo_writes middle some) ++ map Written (undo_writes state front_part)) bits =
      serving_back during bits middle some (map Written (undo_writes state front_part)) each
      (serving_more bits during bits middle (map Written (undo_writes state front_part)) (live_meanwhile mode bits rules batch state start) there (serving_back_all bits state front_part in_front)) in
      let shape : map Written (undo_writes state (front_part ++ some)) ≡ map Written (undo_writes middle some) ++ map Written (undo_writes state front_part) =
      ap (map Written) (undo-append state front_part some) ∙ map-append {A = Write} Written (undo_writes middle some) (undo_writes state front_part) in
      let on : ServingTo during middle (map Written some ++ map Written (undo_writes state (front_part ++ some))) bits =
      serving_on during bits middle some (map Written (undo_writes state (front_part ++ some))) each (subst (λ actions. ServingTo during (state_after middle some) actions bits) (sym shape) back) in
      serving_on bits bits state front_part (Drained ∷ (map Written some ++ map Written (undo_writes state (front_part ++ some)))) in_front (at, (during, on))

  return_serves : (front back : List Action) → commit_actions mode bits rules batch made ≡ front ++ back → ServingTo bits state (back_from state front) bits
  return_serves front back = go (have_bits (new_bits bits during)) refl
    where
      at_once : (n : ℕ) (writes : List Write) → front ≡ map Written (take n writes)
          → ServingTo bits state (map Written (take n writes) ++ map Written (undo_writes state (take n writes))) bits → ServingTo bits state (back_from state front) bits
      at_once n writes is on =
          let inside : writes_in front ≡ take n writes = ap writes_in is ∙ writes_of_map (take n writes) in
          let whole : back_from state front ≡ map Written (take n writes) ++ map Written (undo_writes state (take n writes)) =
          ap (λ ws. front ++ map Written (undo_writes state ws)) inside ∙ ap (λ xs. xs ++ map Written (undo_writes state (take n writes))) is in
          subst (λ actions. ServingTo bits state actions bits) (sym whole) on

      over_drain : (n : ℕ) → front ≡ map Written front_part ++ Drained ∷ map Written (take n back_part) → ServingTo bits state (back_from state front) bits
      over_drain n is =
          let inside : writes_in front ≡ front_part ++ take n back_part =
          ap writes_in is ∙ writes_in-append (map Written front_part) (Drained ∷ map Written (take n back_part))
          ∙ ap (λ ws. ws ++ writes_in (map Written (take n back_part))) (writes_of_map front_part) ∙ ap (λ ws. front_part ++ ws) (writes_of_map (take n back_part)) in
          let undo = map Written (undo_writes state (front_part ++ take n back_part)) in
          let whole : back_from state front ≡ map Written front_part ++ Drained ∷ (map Written (take n back_part) ++ undo) =
          ap (λ ws. front ++ map Written (undo_writes state ws)) inside ∙ ap (λ xs. xs ++ undo) is
          ∙ append_assoc (map Written front_part) (Drained ∷ map Written (take n back_part)) undo in
          subst (λ actions. ServingTo bits state actions bits) (sym whole) (back_over_drain n)

      go : (drains : Bool) → have_bits (new_bits bits during) ≡ drains → with_drain drains made ≡ front ++ back → ServingTo bits state (back_from state front) bits
      go false none is =
          let w = front_of_writes front back made is in
          at_once w.0 made w.2 (back_at_once w.0 made (λ m below. unchanged none m) w.1)
      go true some is = elim (front_of_drained front back front_part back_part is) [
        | inl w ↦ at_once w.0 front_part w.2 (back_at_once w.0 front_part in_front w.1)
        | inr w ↦ over_drain w.0 w.2
      ]

  pub return_leads : (front back : List Action) → commit_actions mode bits rules batch made ≡ front ++ back → LeadsTo bits state (back_from state front) bits
  return_leads front back parts = (return_serves front back parts, subst (ServesLive bits) (sym ends) (served_early 0 (omega arith)))
    where
      ends : state_after state (writes_in (back_from state front)) ≡ state
      ends =
          ap (state_after state) (writes_in-append front (map Written (undo_writes state (writes_in front))) ∙ ap (λ ws. writes_in front ++ ws) (writes_of_map (undo_writes state (writes_in front))))
          ∙ undo_ends state (writes_in front)

pub commits_serve : CommitsServe
commits_serve mode bits rules batch state made begin segment =
    let during = bits_with mode rules batch bits in
    let are = passed mode bits rules batch state made begin segment in (
      λ front some. front_leads bits during (have_bits (new_bits bits during)) state made are front some.0 some.1,
      all_lead bits during (have_bits (new_bits bits during)) state made are,
    )

pub returns_serve : ReturnsServe
returns_serve mode bits rules batch state actions begin return =
    subst (λ all. LeadsTo bits state all bits) (sym return.actions_are) (return_leads mode bits rules batch state return.made begin return.segment return.front return.back return.parts)
