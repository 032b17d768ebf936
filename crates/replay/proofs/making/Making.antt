-- The actions of a commit under way, one after the other.
use Rattle.std.proofs.Common.{◌≡◌, ℕ, ◌+◌, ◌^◌, ◌<◌, ◌≤◌, true, min, List, [], ◌∷◌, ◌++◌, Option, Some, None, IsSome, IfSome, length, refl, sym, ap, ◌∙◌, subst, append_assoc, length-append, arith}
use Rattle.std.specs.Prelude.{IsTrue}
use Rattle.std.proofs.lemmas.List.{append-nil}
use Rattle.tcam_device.specs.declared.Write.{Write}
use Rattle.tcam_device.specs.declared.Action.{Action}
use Rattle.tcam_device.specs.declared.Action.TheVariants as action
use Rattle.tcam_device.specs.Flight.{Flight, writes_in}
use Rattle.tcam_device.specs.State.{State, state_after}
use Rattle.tcam_device.proofs.Spans.{state_after-append}
use Rattle.commit_writes.proofs.WritesIn.{writes_in-append}
use Rattle.batch_order.specs.declared.Step.{Step}
use Rattle.batch_order.specs.declared.Step.TheVariants.{Wrote, Drained, Waiting, Idle}
use Rattle.batch_order.specs.CarriedOut.{HasRoomBothWays}
use Rattle.batch_order.specs.Managed.{Managed, HeldCommit, Way}
use Rattle.batch_order.specs.Steps.{Steps, actions_of, awaits_drain, next_of}
use Rattle.replay.specs.declared.watch.Count.{Count}
use Rattle.replay.specs.Effects.{waiting_after, probes_told}
use Rattle.replay.specs.InFlight.{AreOf, flight_left}
use Rattle.replay.specs.Running.{Watching, MakesSome, held_after, way_after}
use Rattle.replay.specs.Making.{HasCome}
use Rattle.replay.proofs.making.Acting.{ActsOnce, GoesOn, drained-first, due-first, goes-on, never-idle, one, some-held, waiting-first, way-none, way-then, wrote-first}
use Rattle.replay.proofs.lines.Effects.{grown-more, waiting-append}
use Rattle.replay.proofs.flight.InFlight.{are-after, few-after}

-- how many actions are left
abbrev pub left_number : Option HeldCommit → ℕ
left_number None = 0
left_number (Some held) = length held.actions

-- it has come by some actions, and by some more
pub come-then : (watch : Watching) (first second third : Count) (made more : List Action) → HasCome watch first second made → HasCome watch second third more → HasCome watch first third (made ++ more)
come-then watch first second third made more was is = record {
  told =
      let before = was.told in
      let after = is.told in
      let sizes : length (writes_in (made ++ more)) ≡ length (writes_in made) + length (writes_in more) =
      ap length (writes_in-append made more) ∙ length-append (writes_in made) (writes_in more) in
      omega arith;
  waiting = is.waiting ∙ ap (λ waiting. waiting_after watch.depth waiting more) was.waiting ∙ sym (waiting-append watch.depth first.waiting made more);
}

-- some actions were made, and then some of those that were left
module _ (first second third : Managed) (was : MakesSome first second) (is : MakesSome second third) where
  pub then-held : is.held ≡ one first second was
  then-held =
      let both : Some is.held ≡ Some (one first second was) = sym is.held_is ∙ some-held first second was in
      cc

  pub then-left : was.left ≡ is.made ++ is.left
  then-left = ap (λ (held : HeldCommit). held.actions) (sym then-held) ∙ is.whole

  abbrev pub makes-then : MakesSome first third
  makes-then =
      let before = writes_in was.made in
      let more = writes_in is.made in
      let at : State → Way → Managed = λ state way. record first { state = state; held = Some (record was.held { actions = is.left; way = way; current = is.current }) } in record {
        held = was.held;
        made = was.made ++ is.made;
        left = is.left;
        current = is.current;
        held_is = was.held_is;
        whole = was.whole ∙ ap (λ actions. was.made ++ actions) then-left ∙ sym (append_assoc was.made is.made is.left);
        now_is = is.now_is
            ∙ ap (λ (held : HeldCommit). record second { state = state_after second.state more; held = Some (held_after second.state held is.made is.left is.current) }) then-held
            ∙ ap (λ (manager : Managed). record manager { state = state_after manager.state more; held = Some (held_after manager.state (one first second was) is.made is.left is.current) }) was.now_is
            ∙ ap (at (state_after (state_after first.state before) more)) (way-then first.state before more was.held.way)
            ∙ ap (λ state. at state (way_after first.state (before ++ more) was.held.way)) (sym (state_after-append first.state before more))
            ∙ ap (λ writes. at (state_after first.state writes) (way_after first.state writes was.held.way)) (sym (writes_in-append was.made is.made));
      }

-- one action
abbrev pub makes-once : (now : Managed) (held : HeldCommit) (action : Action) (new : Managed) → now.held ≡ Some held → ActsOnce now held action new → MakesSome now new
makes-once now held action new is acts = record {
  held = held;
  made = action ∷ [];
  left = acts.left;
  current = acts.current;
  held_is = is;
  whole = acts.is;
  now_is = acts.new_is;
}

-- none yet
abbrev pub makes-none : (begun : Managed) (held : HeldCommit) → begun.held ≡ Some held → MakesSome begun begun
makes-none begun held is = record {
  held = held;
  made = [];
  left = held.actions;
  current = held.current;
  held_is = is;
  whole = refl;
  now_is = ap (λ one. record begun { held = one }) is ∙ ap (λ (way : Way). record begun { held = Some (record held { way = way }) }) (way-none begun.state held.way);
}

-- Actions of a commit under way are being made: so many writes are told and the words of so many of these are in
-- flight, and the device has room for the actions that are left, and for the way back.
pub record IsMaking (begun now : Managed) (watch : Watching) (count count_now : Count) (events_begun events_now : List Action) (flight : Flight) (spare : ℕ) : Type 0 where
  pub some : MakesSome begun now
  pub come : HasCome watch count count_now some.made
  pub events : events_now ≡ events_begun ++ some.made
  pub room : HasRoomBothWays now.held spare
  pub words : AreOf (probes_told watch.json watch.probes) count_now.waiting flight
  pub few : count_now.waiting ≤ watch.depth

pub some_held : (held : Option HeldCommit) → IsSome held → (one : HeldCommit) × (held ≡ Some one)
some_held (Some one) some = (one, refl)
some_held None some = absurd (cc)

-- none is made yet
abbrev pub making-none : (begun : Managed) (watch : Watching) (count : Count) (events : List Action) (flight : Flight) (spare : ℕ) → IsSome begun.held
    → HasRoomBothWays begun.held spare → AreOf (probes_told watch.json watch.probes) count.waiting flight → count.waiting ≤ watch.depth → IsMaking begun begun watch count count events events flight spare
making-none begun watch count events flight spare some room words few =
    let (held, is) = some_held begun.held some in
    let same : count.told ≡ count.told + length (writes_in []) = omega arith in record {
      some = makes-none begun held is;
      come = record { told = same; waiting = refl };
      events = sym (append-nil events);
      room = room;
      words = words;
      few = few;
    }

pub left-now : (begun now : Managed) (some : MakesSome begun now) → left_number now.held ≡ length some.left
left-now begun now some = ap left_number (some-held begun now some)

-- a drain is told, and no word is in flight behind it
pub come-drained : (watch : Watching) (now new : Count) → new.told ≡ now.told → new.waiting ≡ 0 → HasCome watch now new (action.Drained ∷ [])
come-drained watch now new told waiting = record { told = omega (arith, told); waiting = waiting }

-- few writes are told
pub few-number : (begun now : Managed) (watch : Watching) (count count_now : Count) (events_begun events_now : List Action) (flight : Flight) (spare : ℕ)
    → (making : IsMaking begun now watch count count_now events_begun events_now flight spare) → IfSome begun.held (λ held. count.told + length (writes_in held.actions) ≤ 2 ^ 36)
    → count_now.told + length (writes_in making.some.left) ≤ 2 ^ 36
few-number begun now watch count count_now events_begun events_now flight spare making all =
    let was = making.some in
    let few : count.told + length (writes_in was.held.actions) ≤ 2 ^ 36 =
    subst (λ held. IfSome held (λ (one : HeldCommit). count.told + length (writes_in one.actions) ≤ 2 ^ 36)) was.held_is all in
    let lengths : length (writes_in was.held.actions) ≡ length (writes_in was.made) + length (writes_in was.left) =
    ap (λ actions. length (writes_in actions)) was.whole ∙ ap length (writes_in-append was.made was.left) ∙ length-append (writes_in was.made) (writes_in was.left) in
    let told = making.come.told in
    omega arith

-- a commit that is held
module _ (begun now new : Managed) (watch : Watching) (count count_now count_new : Count) (events_begun events_now events_new : List Action) (flight flight_new : Flight) (spare spare_new : ℕ)
    (making : IsMaking begun now watch count count_now events_begun events_now flight spare) where
  abbrev here : HeldCommit
  here = one begun now making.some

  pub held-one : now.held ≡ Some here
  held-one = some-held begun now making.some

  -- one action more
  module _ (action : Action) (acts : ActsOnce now here action new) where
    abbrev pub some-more : MakesSome begun new
    some-more = makes-then begun now new making.some (makes-once now here action new held-one acts)

    abbrev pub making-action : events_new ≡ events_now ++ action ∷ [] → HasRoomBothWays new.held spare_new → HasCome watch count_now count_new (action ∷ [])
        → AreOf (probes_told watch.json watch.probes) count_new.waiting flight_new → count_new.waiting ≤ watch.depth → IsMaking begun new watch count count_new events_begun events_new flight_new spare_new
    making-action events room come words few = record {
      some = some-more;
      come = come-then watch count count_now count_new making.some.made (action ∷ []) making.come come;
      events = grown-more events_begun events_now events_new making.some.made (action ∷ []) making.events events;
      room = room;
      words = words;
      few = few;
    }

    -- then fewer are left
    pub fewer-action : left_number new.held < length making.some.left
    fewer-action =
        let after : left_number new.held ≡ length acts.left = left-now begun new some-more in
        let before : length making.some.left ≡ length (action ∷ acts.left) = ap length acts.is in
        omega arith

  module _ (step : Step) (steps : Steps now (length flight) now.held step new) where
    abbrev pub goes : GoesOn now here (length flight) step new
    goes = goes-on now here (length flight) step new held-one steps

    -- a write is made and told
    module _ (write : Write) (wrote : step ≡ Wrote write) where
      abbrev pub wrote-acts : ActsOnce now here (action.Written write) new
      wrote-acts = wrote-first now here (length flight) step new write goes wrote

      pub wrote-come : count_new.told ≡ count_now.told + 1 → count_new.waiting ≡ min (count_now.waiting + 1) watch.depth → HasCome watch count_now count_new (action.Written write ∷ [])
      wrote-come told waiting = record { told = told; waiting = waiting }

      -- and few writes were told before it
      pub few-written : IfSome begun.held (λ held. count.told + length (writes_in held.actions) ≤ 2 ^ 36) → count_now.told < 2 ^ 36
      few-written all =
          let few = few-number begun now watch count count_now events_begun events_now flight spare making all in
          let size : length (writes_in making.some.left) ≡ length (write ∷ writes_in wrote-acts.left) = ap (λ actions. length (writes_in actions)) wrote-acts.is in
          omega arith

      pub fewer-written : left_number new.held < length making.some.left
      fewer-written = fewer-action (action.Written write) wrote-acts

      abbrev pub making-written : (state : State) → events_new ≡ events_now ++ actions_of step → HasRoomBothWays new.held spare_new → count_new.told ≡ count_now.told + 1
          → count_new.waiting ≡ min (count_now.waiting + 1) watch.depth → flight_new ≡ flight_left (probes_told watch.json watch.probes) watch.depth count_now.waiting state flight
          → IsMaking begun new watch count count_new events_begun events_new flight_new spare_new
      making-written state events room told waiting words =
          let few : min (count_now.waiting + 1) watch.depth ≤ watch.depth = few-after (probes_told watch.json watch.probes) watch.depth count_now.waiting state flight making.few making.words in
          making-action (action.Written write) wrote-acts (events ∙ ap (λ one. events_now ++ actions_of one) wrote) room (wrote-come told waiting)
          (subst (AreOf (probes_told watch.json watch.probes) count_new.waiting) (sym words)
          (subst (λ n. AreOf (probes_told watch.json watch.probes) n (flight_left (probes_told watch.json watch.probes) watch.depth count_now.waiting state flight)) (sym waiting)
          (are-after (probes_told watch.json watch.probes) watch.depth count_now.waiting state flight making.few making.words)))
          (subst (λ n. n ≤ watch.depth) (sym waiting) few)

    -- a drain is made, with no word in flight
    module _ (drained : step ≡ Drained) where
      abbrev pub drained-acts : ActsOnce now here action.Drained new
      drained-acts = (drained-first now here (length flight) step new goes drained).0

      pub drained-none : length flight ≡ 0
      drained-none = (drained-first now here (length flight) step new goes drained).1

      pub fewer-drained : left_number new.held < length making.some.left
      fewer-drained = fewer-action action.Drained drained-acts

      abbrev pub making-drained : events_new ≡ events_now ++ actions_of step → HasRoomBothWays new.held spare_new → count_new.told ≡ count_now.told → count_new.waiting ≡ 0
          → flight_new ≡ [] → IsMaking begun new watch count count_new events_begun events_new flight_new spare_new
      making-drained events room told waiting words =
          making-action action.Drained drained-acts (events ∙ ap (λ one. events_now ++ actions_of one) drained) room (come-drained watch count_now count_new told waiting)
          (subst (AreOf (probes_told watch.json watch.probes) count_new.waiting) (sym words) (subst (λ n. AreOf (probes_told watch.json watch.probes) n []) (sym waiting) refl))
          (omega (arith, waiting))

    -- it waited for its drain
    pub waits-left : (number : ℕ) → step ≡ Waiting number → (left : List Action) × (making.some.left ≡ action.Drained ∷ left) × IsTrue (awaits_drain now.held) × (new ≡ now)
    waits-left number waits =
        let first = waiting-first now here (length flight) step new number goes waits in
        (first.0, first.1, (let awaits : awaits_drain now.held ≡ true = ap awaits_drain held-one ∙ first.2 in subst (λ one. IsTrue one) (sym awaits) refl), first.3)

    pub goes-idle : step ≡ Idle → ⊥
    goes-idle idle = never-idle now here (length flight) step new goes idle

  -- where a write is due it is the first of those left
  pub due-left : IsSome (next_of now.held) → (due : Write) × (left : List Action) × (making.some.left ≡ action.Written due ∷ left) × (next_of now.held ≡ Some due)
  due-left next = go (next_of now.held) refl next
    where
      go : (due : Option Write) → next_of now.held ≡ due → IsSome due
          → (due : Write) × (left : List Action) × (making.some.left ≡ action.Written due ∷ left) × (next_of now.held ≡ Some due)
      go None is some = absurd (cc)
      go (Some due) is some = let first = due-first making.some.left due (sym (ap next_of held-one) ∙ is) in (due, first.0, first.1, is)

-- a step that waited, and then the drain that was next
module _ (begun now new passed : Managed) (watch : Watching) (count count_now count_new : Count) (events_begun events_now events_new : List Action) (flight flight_new : Flight) (spare spare_new : ℕ)
    (making : IsMaking begun now watch count count_now events_begun events_now flight spare)
    (stood : new ≡ now) (steps : Steps new 0 new.held Drained passed) where
  abbrev pub passed-acts : ActsOnce now (one begun now making.some) action.Drained passed
  passed-acts =
      let here = one begun now making.some in
      (drained-first now here 0 Drained passed
      (goes-on now here 0 Drained passed (some-held begun now making.some) (subst (λ (manager : Managed). Steps manager 0 manager.held Drained passed) stood steps)) refl).0

  abbrev pub making-passed : events_new ≡ events_now ++ action.Drained ∷ [] → HasRoomBothWays passed.held spare_new → count_new.told ≡ count_now.told → count_new.waiting ≡ 0 → flight_new ≡ []
      → IsMaking begun passed watch count count_new events_begun events_new flight_new spare_new
  making-passed events room told waiting words =
      making-action begun now passed watch count count_now count_new events_begun events_now events_new flight flight_new spare spare_new making action.Drained passed-acts events room (come-drained watch count_now count_new told waiting)
      (subst (AreOf (probes_told watch.json watch.probes) count_new.waiting) (sym words) (subst (λ n. AreOf (probes_told watch.json watch.probes) n []) (sym waiting) refl))
      (omega (arith, waiting))

  pub fewer-passed : left_number passed.held < length making.some.left
  fewer-passed =
      fewer-action begun now passed watch count count_now count_new events_begun events_now events_new flight flight_new spare spare_new making action.Drained passed-acts
