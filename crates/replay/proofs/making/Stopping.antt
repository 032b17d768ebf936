-- Where the actions of a commit under way end: with the last one, or before a write or at a line that fails.
use Rattle.std.proofs.Common.{◌≡◌, ℕ, List, [], ◌∷◌, ◌++◌, Option, None, IsSome, length, sym, ap, ◌∙◌, subst, append_assoc}
use Rattle.std.proofs.lemmas.List.{append-nil}
use Rattle.tcam_device.specs.declared.Action.{Action}
use Rattle.tcam_device.specs.Flight.{Flight, writes_in}
use Rattle.commit_writes.specs.declared.Done.{Done}
use Rattle.batch_order.specs.declared.Step.{Step}
use Rattle.batch_order.specs.declared.Step.TheVariants.{Finished, Reverted}
use Rattle.batch_order.specs.Managed.{HeldCommit, Managed}
use Rattle.batch_order.specs.Steps.{Steps, actions_of, is_back, next_of}
use Rattle.replay.specs.declared.watch.Count.{Count}
use Rattle.replay.specs.declared.steps.Ended.TheVariants as ended
use Rattle.replay.specs.Carried.{CutsEffects}
use Rattle.replay.specs.Running.{Watching, MakesSome}
use Rattle.replay.specs.Making.{HasCome, MakesAll, StopsAtLine, StopsAtWrite, TellsActions, effects_on, snapshot}
use Rattle.replay.specs.Outside.{outside}
use Rattle.replay.proofs.making.Acting.{ActsOnce, GoesOn, finished-first, one, reverted-first, same-back}
use Rattle.replay.proofs.lines.Effects.{grown-more}
use Rattle.replay.proofs.making.Making.{IsMaking, come-then, due-left, goes, some-more}

module _ (Seen : Type 0) (begun now new : Managed) (watch : Watching) (slots : ℕ) (count count_now count_new : Count) (events_begun events_now events_new : List Action) (flight : Flight) (spare : ℕ)
    (making : IsMaking begun now watch count count_now events_begun events_now flight spare) (taken_begun taken : Option (List ℕ))
    (told : Seen → TellsActions begun watch slots count events_begun making.some.made taken_begun taken) where
  abbrev here : HeldCommit
  here = one begun now making.some

  -- the same commit at a manager that is the same
  abbrev pub stands : new ≡ now → MakesSome begun new
  stands same =
      let was = making.some in record {
        held = was.held;
        made = was.made;
        left = was.left;
        current = was.current;
        held_is = was.held_is;
        whole = was.whole;
        now_is = same ∙ was.now_is;
      }

  module _ (step : Step) (steps : Steps now (length flight) now.held step new) (events : events_new ≡ events_now ++ actions_of step) where
    did : GoesOn now here (length flight) step new
    did = goes begun now new watch count count_now count_new events_begun events_now events_new flight flight spare spare making step steps

    whole-made : making.some.left ≡ [] → making.some.made ≡ making.some.held.actions
    whole-made none =
        let was = making.some in
        sym (was.whole ∙ ap (λ left. was.made ++ left) none ∙ append-nil was.made)

    forward : is_back here.way ≡ is_back making.some.held.way
    forward = same-back begun.state (writes_in making.some.made) making.some.held.way

    -- none is left, and it is finished
    pub making-finished : (done : Done) → step ≡ Finished done → MakesAll Seen watch slots (snapshot begun count (outside events_begun taken_begun)) (ended.Finished done) (snapshot new count_now (outside events_new taken))
    making-finished done finished =
        let was = making.some in
        let last = finished-first now here (length flight) step new done did finished in record {
          held = was.held;
          actions = was.made;
          held_is = was.held_is;
          actions_are = whole-made last.0;
          ends = (sym forward ∙ last.1, last.2, last.3 ∙ ap (λ (manager : Managed). record manager { rules = was.held.rules; bits = was.held.bits; held = None }) was.now_is);
          come = making.come;
          events = events ∙ ap (λ one. events_now ++ actions_of one) finished ∙ append-nil events_now ∙ making.events;
          report = told;
        }

    -- or taken back
    pub making-reverted : (undone : ℕ) → step ≡ Reverted undone → MakesAll Seen watch slots (snapshot begun count (outside events_begun taken_begun)) ended.Reverted (snapshot new count_now (outside events_new taken))
    making-reverted undone reverted =
        let was = making.some in
        let last = reverted-first now here (length flight) step new undone did reverted in record {
          held = was.held;
          actions = was.made;
          held_is = was.held_is;
          actions_are = whole-made last.0;
          ends = (sym forward ∙ last.1, last.2 ∙ ap (λ (manager : Managed). record manager { held = None }) was.now_is);
          come = making.come;
          events = events ∙ ap (λ one. events_now ++ actions_of one) reverted ∙ append-nil events_now ∙ making.events;
          report = told;
        }

  -- a write is left, and isn't made
  abbrev pub making-cut : new ≡ now → events_new ≡ events_now → IsSome (next_of now.held) → StopsAtWrite Seen watch slots (snapshot begun count (outside events_begun taken_begun)) (snapshot new count_now (outside events_new taken))
  making-cut same events next =
      let due = due-left begun now new watch count count_now count_new events_begun events_now events_new flight flight spare spare making next in record {
        some = stands same;
        due = due.0;
        left = due.1;
        left_is = due.2;
        next = ap (λ (manager : Managed). next_of manager.held) same ∙ due.3;
        come = making.come;
        events = events ∙ making.events;
        report = told;
      }

  -- a line is cut before the next action
  abbrev pub making-stops : (taken_new : Option (List ℕ)) → new ≡ now → events_new ≡ events_now
      → (Seen → CutsEffects (effects_on begun watch slots count events_begun (making.some.made ++ making.some.left)) events_begun events_new taken_begun taken_new)
      → StopsAtLine Seen watch slots (snapshot begun count (outside events_begun taken_begun)) (snapshot new count_now (outside events_new taken_new))
  making-stops taken_new same events cuts = record {
    some = stands same;
    come = making.come;
    events = events ∙ making.events;
    cuts = cuts;
  }

  -- or behind one
  abbrev pub making-stops_behind : (taken_new : Option (List ℕ)) (one : Action) (acts : ActsOnce now here one new) → events_new ≡ events_now ++ one ∷ [] → HasCome watch count_now count_new (one ∷ [])
      → (Seen → CutsEffects (effects_on begun watch slots count events_begun (making.some.made ++ one ∷ acts.left)) events_begun events_new taken_begun taken_new)
      → StopsAtLine Seen watch slots (snapshot begun count (outside events_begun taken_begun)) (snapshot new count_new (outside events_new taken_new))
  making-stops_behind taken_new one acts events come cuts =
      let was = making.some in record {
        some = some-more begun now new watch count count_now count_new events_begun events_now events_new flight flight spare spare making one acts;
        come = come-then watch count count_now count_new was.made (one ∷ []) making.come come;
        events = grown-more events_begun events_now events_new was.made (one ∷ []) making.events events;
        cuts = λ seen. subst (λ actions. CutsEffects (effects_on begun watch slots count events_begun actions) events_begun events_new taken_begun taken_new)
            (sym (append_assoc was.made (one ∷ []) acts.left)) (cuts seen);
      }
