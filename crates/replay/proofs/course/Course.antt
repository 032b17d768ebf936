-- A commit that is unfinished, as what it does to the device and to the report from here on, by whichever manager.
use Rattle.std.proofs.Common.{◌≡◌, ℕ, ◌+◌, inl, min, List, [], ◌∷◌, ◌++◌, Option, Some, length, length-append, refl, sym, ap, ◌∙◌, subst, append_assoc, append-nil, arith}
use Rattle.std.specs.Io.KnownBytes.{Appends}
use Rattle.std.proofs.KnownBytes.{Appends-nil, Appends-trans}
use Rattle.std.specs.List.{AllByRecursion}
use Rattle.tcam_device.specs.declared.Write.{Write}
use Rattle.tcam_device.specs.declared.Action.{Action}
use Rattle.tcam_device.specs.declared.Action.TheVariants.{Written}
use Rattle.tcam_device.specs.Flight.{Flight, writes_in}
use Rattle.tcam_device.specs.State.{IsInUse, apply, blank, replay, state_after, on_device}
use Rattle.tcam_device.proofs.Spans.{state_after-append}
use Rattle.tcam_device.proofs.Wider.{state_after-on_device}
use Rattle.commit_writes.specs.InFlight.{AreCurrent}
use Rattle.commit_writes.proofs.WritesIn.{writes_in-append}
use Rattle.batch_order.specs.Managed.{live_now}
use Rattle.batch_order.specs.Steps.{next_of}
use Rattle.replay.specs.declared.Act.{Act}
use Rattle.replay.specs.declared.watch.Count.{Count}
use Rattle.replay.specs.Effects.{Setting, Effect, Acts, Prints, events_in, printed, probes_told, deed_told, write_told, searched_after, flushed, waiting_after, effects_of}
use Rattle.replay.specs.Run.{Progress, HasEffects, IsCutStep, carried, carried_so_far}
use Rattle.report_lines.specs.Outside.{AppendsPart}
use Rattle.replay.specs.Outside.{CutsLines, outside}
use Rattle.replay.specs.Carried.{CutsEffects, Does, IsAt}
use Rattle.replay.specs.Fates.{commit_act}
use Rattle.replay.specs.Running.{Running, watching, setting_of, progress_of}
use Rattle.replay.specs.Making.{TellsActions, effects_on}
use Rattle.replay.specs.Unfinished.{IsUnfinished, Finishes, StaysUnfinished, BreaksOff}
use Rattle.replay.proofs.lines.Opened.{carried-append}
use Rattle.replay.proofs.lines.Effects.{does-lines, effects-append, events-actions, events-append, events-flushed, events-front, printed-append, waiting-append}

in-front : {A : Type 0} (P : A → Type 0) (a b : List A) → AllByRecursion P (a ++ b) → AllByRecursion P a
in-front P [] b all = tt
in-front P (x ∷ a) b all = (all.0, in-front P a b all.1)

-- how far a run has come with its commit
abbrev pub count_of : Running → Count
count_of run = record { told = run.told; waiting = run.waiting }

-- A commit that began where `before` says has had these effects: the actions that were made, and those that are left of it
-- up to its end or up to its crash. Where one of its effects isn't had, it is cut there.
pub record Course (slots : ℕ) (before : Progress) (front : List Effect) (run : Running) : Type 0 where
  pub made : List Action
  pub left : List Action
  pub probes : before.probes ≡ run.probes
  pub front_is : front ≡ carried_so_far (setting_of run) before made
  pub state : on_device slots run.manager.state ≡ state_after before.state (writes_in made)
  pub told : run.told ≡ length (writes_in made)
  pub waiting : run.waiting ≡ waiting_after run.depth 0 made
  pub size : length run.manager.state.slots ≡ run.manager.slots
  pub in_use : AllByRecursion (IsInUse run.manager.slots) (writes_in left)
  pub cuts : (some back : List Effect) (due : Effect) → carried_so_far (setting_of run) before (made ++ left) ≡ some ++ due ∷ back
      → IsCutStep (setting_of run) before (commit_act run.fate) some due

module _ (slots : ℕ) (before : Progress) (front : List Effect) (run : Running) (course : Course slots before front run) where
  -- the effects of actions that are left
  abbrev pub later : List Action → List Effect
  later actions = effects_of (setting_of run) (probes_told run.json run.probes) run.told run.waiting (on_device slots run.manager.state) actions

  -- with those before they are those of all actions
  pub told-then : (more : List Action) → carried_so_far (setting_of run) before (course.made ++ more) ≡ front ++ later more
  told-then more =
      let state = state_after before.state (writes_in course.made) in
      let told = course.told in
      let number : 0 + length (writes_in course.made) ≡ run.told = omega arith in
      carried-append (setting_of run) before course.made more
      ∙ ap (λ effects. effects ++ effects_of (setting_of run) (probes_told run.json before.probes) (0 + length (writes_in course.made)) (waiting_after run.depth 0 course.made) state more) (sym course.front_is)
      ∙ ap (λ keys. front ++ effects_of (setting_of run) (probes_told run.json keys) (0 + length (writes_in course.made)) (waiting_after run.depth 0 course.made) state more) course.probes
      ∙ ap (λ n. front ++ effects_of (setting_of run) (probes_told run.json run.probes) n (waiting_after run.depth 0 course.made) state more) number
      ∙ ap (λ n. front ++ effects_of (setting_of run) (probes_told run.json run.probes) run.told n state more) (sym course.waiting)
      ∙ ap (λ one. front ++ effects_of (setting_of run) (probes_told run.json run.probes) run.told run.waiting one more) (sym course.state)

  -- some of the writes that are left do to a wider device what they do to the slots in use
  pub state-more : (made left : List Action) → course.left ≡ made ++ left → on_device slots (state_after run.manager.state (writes_in made)) ≡ state_after (on_device slots run.manager.state) (writes_in made)
  state-more made left whole =
      let parts : writes_in course.left ≡ writes_in made ++ writes_in left = ap writes_in whole ∙ writes_in-append made left in
      let in_use = in-front (IsInUse run.manager.slots) (writes_in made) (writes_in left) (subst (AllByRecursion (IsInUse run.manager.slots)) parts course.in_use) in
      sym (state_after-on_device slots run.manager.state (writes_in made) (subst (λ size. AllByRecursion (IsInUse size) (writes_in made)) (sym course.size) in_use))

  -- where one of the effects of the actions that are left isn't had, it is cut there
  pub cut-later : (some back : List Effect) (due : Effect) → later course.left ≡ some ++ due ∷ back → IsCutStep (setting_of run) before (commit_act run.fate) (front ++ some) due
  cut-later some back due parts =
      course.cuts (front ++ some) back due (told-then course.left ∙ ap (λ effects. front ++ effects) parts ∙ sym (append_assoc front some (due ∷ back)))

  module _ (events events_new : List Action) (at : IsAt slots events (progress_of slots run)) where
    -- behind some of the actions that are left the device is where the run stands
    pub at-more : (made left : List Action) → course.left ≡ made ++ left → events_new ≡ events ++ made → on_device slots (state_after run.manager.state (writes_in made)) ≡ replay slots (writes_in events_new)
    at-more made left whole grown =
        state-more made left whole
        ∙ ap (λ state. state_after state (writes_in made)) at
        ∙ sym (state_after-append (blank slots) (writes_in events) (writes_in made))
        ∙ ap (λ writes. replay slots writes) (sym (ap writes_in grown ∙ writes_in-append events made))

    -- what is told where the device stands is told where the run stands
    pub told-at : (made : List Action) (old new : Option (List ℕ)) → TellsActions run.manager (watching run) slots (count_of run) events made old new → Appends old new (printed (later made))
    told-at made old new told = subst (λ state. Appends old new (printed (effects_of (setting_of run) (probes_told run.json run.probes) run.told run.waiting state made))) (sym at) told

    -- and so is what is done
    pub does-made : (made : List Action) (old new : Option (List ℕ)) → events_new ≡ events ++ made → TellsActions run.manager (watching run) slots (count_of run) events made old new
        → Does (later made) [] events events_new old new
    does-made made old new grown told =
        subst (λ effects. Does effects [] events events_new old new) (append-nil (later made))
        (does-lines (later made) [] [] events events_new old new new
        (grown ∙ ap (λ actions. events ++ actions) (sym (events-actions (setting_of run) (probes_told run.json run.probes) run.told run.waiting (on_device slots run.manager.state) made)))
        refl (told-at made old new told) (Appends-nil new))

    -- it is cut at a write
    pub stays : (new : Running) (made rest : List Action) (due : Write) (flight : Flight) (old taken : Option (List ℕ)) → course.left ≡ made ++ Written due ∷ rest → setting_of new ≡ setting_of run → new.fate ≡ run.fate
        → new.manager.state ≡ state_after run.manager.state (writes_in made) → next_of new.manager.held ≡ Some due → events_new ≡ events ++ made
        → TellsActions run.manager (watching run) slots (count_of run) events made old taken → IsUnfinished slots before (front ++ later made) new → AreCurrent (live_now new.manager) flight
        → StaysUnfinished slots before (commit_act run.fate) front new (outside events old) (outside events_new taken) flight
    stays new made rest due flight old taken left setting fate state next grown told unfinished current =
        let ahead = state_after (on_device slots run.manager.state) (writes_in made) in
        let number = run.told + length (writes_in made) in
        let waiting = waiting_after run.depth run.waiting made in
        let behind = write_told run.json run.trace run.family (number + 1) (deed_told run.names ahead due) due
        ++ (searched_after (setting_of run) (probes_told run.json run.probes) (number + 1) waiting (apply ahead due)
        ++ effects_of (setting_of run) (probes_told run.json run.probes) (number + 1) (min (waiting + 1) run.depth) (apply ahead due) rest) in
        let part : later course.left ≡ later made ++ Acts (Written due) ∷ behind =
        ap later left ∙ effects-append (setting_of run) (probes_told run.json run.probes) run.told run.waiting (on_device slots run.manager.state) made (Written due ∷ rest) in record {
          more = later made;
          due = due;
          unfinished = unfinished;
          act_is = ap commit_act (sym fate);
          next = next;
          cut = subst (λ one. IsCutStep one before (commit_act run.fate) (front ++ later made) (Acts (Written due))) (sym setting) (cut-later (later made) behind (Acts (Written due)) part);
          does = does-made made old taken grown told;
          stands = ap (λ one. on_device slots one) state ∙ at-more made (Written due ∷ rest) left grown;
          current = current;
        }

    -- or with a part of the lines of its actions
    pub breaks : (new : Running) (actions more : List Action) (old taken : Option (List ℕ)) → course.left ≡ actions ++ more → setting_of new ≡ setting_of run
        → CutsEffects (effects_on run.manager (watching run) slots (count_of run) events actions) events events_new old taken → BreaksOff slots before (commit_act run.fate) front new (outside events old) (outside events_new taken)
    breaks new actions more old taken left setting cuts =
        let state = on_device slots run.manager.state in
        let behind = effects_of (setting_of run) (probes_told run.json run.probes) (run.told + length (writes_in actions)) (waiting_after run.depth run.waiting actions) (state_after state (writes_in actions)) more in
        let part : later course.left ≡ cuts.front ++ Prints (cuts.partial ++ cuts.rest) ∷ (cuts.back ++ behind) =
        ap later left ∙ effects-append (setting_of run) (probes_told run.json run.probes) run.told run.waiting state actions more
        ∙ ap (λ effects. effects ++ behind) (ap (λ one. effects_of (setting_of run) (probes_told run.json run.probes) run.told run.waiting one actions) at ∙ cuts.cut)
        ∙ append_assoc cuts.front (Prints (cuts.partial ++ cuts.rest) ∷ cuts.back) behind in record {
          more = cuts.front;
          partial = cuts.partial;
          rest = cuts.rest;
          cut = subst (λ one. IsCutStep one before (commit_act run.fate) (front ++ cuts.front) (Prints (cuts.partial ++ cuts.rest))) (sym setting)
              (cut-later cuts.front (cuts.back ++ behind) (Prints (cuts.partial ++ cuts.rest)) part);
          does = cuts.does;
        }

-- a commit that has all effects of its actions, and its lines, is cut in them
pub cuts-by_step : (setting : Setting) (before : Progress) (act : Act) (actions : List Action) (line : List ℕ) (new : Progress) → HasEffects setting before act (carried setting before actions ++ Prints line ∷ []) new
    → (some back : List Effect) (due : Effect) → carried_so_far setting before actions ≡ some ++ due ∷ back → IsCutStep setting before act some due
cuts-by_step setting before act actions line new step some back due parts =
    let end = flushed setting.family (probes_told setting.json before.probes) (length (writes_in actions)) (state_after before.state (writes_in actions)) (waiting_after setting.depth 0 actions) in
    inl (record {
      back = back ++ (end ++ Prints line ∷ []);
      after = new;
      step = subst (λ effects. HasEffects setting before act effects new)
          (ap (λ effects. (effects ++ end) ++ Prints line ∷ []) parts ∙ append_assoc (some ++ due ∷ back) end (Prints line ∷ []) ∙ append_assoc some (due ∷ back) (end ++ Prints line ∷ []))
          step;
    })

-- It comes to its end with what is left: then this is its line, and the run is this one.
pub record Ending (slots : ℕ) (before : Progress) (front : List Effect) (run : Running) (course : Course slots before front run) (line : List ℕ) (ended : Running) : Type 0 where
  pub step : HasEffects (setting_of run) before (commit_act run.fate) (carried (setting_of run) before (course.made ++ course.left) ++ Prints line ∷ []) (progress_of slots ended)
  pub state : ended.manager.state ≡ state_after run.manager.state (writes_in course.left)
  pub setting : setting_of ended ≡ setting_of run

-- with the lines behind the last action it is cut where one of these isn't told
module _ (slots : ℕ) (before : Progress) (front : List Effect) (run : Running) (course : Course slots before front run) (line : List ℕ) (ended : Running) (ending : Ending slots before front run course line ended) where
  -- the lines behind the last action
  abbrev pub last_lines : List Effect
  last_lines =
      let told = run.told + length (writes_in course.left) in
      let state = state_after (on_device slots run.manager.state) (writes_in course.left) in
      flushed run.family (probes_told run.json run.probes) told state (waiting_after run.depth run.waiting course.left)

  abbrev all_actions : List Action
  all_actions = course.made ++ course.left

  -- are those of the whole commit
  last-whole : flushed run.family (probes_told run.json before.probes) (length (writes_in all_actions)) (state_after before.state (writes_in all_actions)) (waiting_after run.depth 0 all_actions) ≡ last_lines
  last-whole =
      let told = course.told in
      let writes : writes_in all_actions ≡ writes_in course.made ++ writes_in course.left = writes_in-append course.made course.left in
      let number : length (writes_in all_actions) ≡ run.told + length (writes_in course.left) =
      ap length writes ∙ length-append (writes_in course.made) (writes_in course.left) ∙ ap (λ n. n + length (writes_in course.left)) (sym told) in
      let state : state_after before.state (writes_in all_actions) ≡ state_after (on_device slots run.manager.state) (writes_in course.left) =
      ap (state_after before.state) writes ∙ state_after-append before.state (writes_in course.made) (writes_in course.left)
      ∙ ap (λ one. state_after one (writes_in course.left)) (sym course.state) in
      let waiting : waiting_after run.depth 0 all_actions ≡ waiting_after run.depth run.waiting course.left =
      waiting-append run.depth 0 course.made course.left ∙ ap (λ n. waiting_after run.depth n course.left) (sym course.waiting) in
      ap (λ keys. flushed run.family (probes_told run.json keys) (length (writes_in all_actions)) (state_after before.state (writes_in all_actions)) (waiting_after run.depth 0 all_actions)) course.probes
      ∙ ap (λ n. flushed run.family (probes_told run.json run.probes) n (state_after before.state (writes_in all_actions)) (waiting_after run.depth 0 all_actions)) number
      ∙ ap (λ one. flushed run.family (probes_told run.json run.probes) (run.told + length (writes_in course.left)) one (waiting_after run.depth 0 all_actions)) state
      ∙ ap (flushed run.family (probes_told run.json run.probes) (run.told + length (writes_in course.left)) (state_after (on_device slots run.manager.state) (writes_in course.left))) waiting

  -- all effects of the commit, one part after the other
  whole-effects : carried (setting_of run) before all_actions ++ Prints line ∷ [] ≡ front ++ (later slots before front run course course.left ++ (last_lines ++ Prints line ∷ []))
  whole-effects =
      let all = later slots before front run course course.left in
      let end = flushed run.family (probes_told run.json before.probes) (length (writes_in all_actions)) (state_after before.state (writes_in all_actions)) (waiting_after run.depth 0 all_actions) in
      ap (λ effects. (effects ++ end) ++ Prints line ∷ []) (told-then slots before front run course course.left)
      ∙ ap (λ lines. ((front ++ all) ++ lines) ++ Prints line ∷ []) last-whole
      ∙ append_assoc (front ++ all) last_lines (Prints line ∷ [])
      ∙ append_assoc front all (last_lines ++ Prints line ∷ [])

  rest-step : (effects : List Effect) → effects ≡ front ++ (later slots before front run course course.left ++ (last_lines ++ Prints line ∷ []))
      → HasEffects (setting_of run) before (commit_act run.fate) effects (progress_of slots ended)
  rest-step effects same =
      subst (λ one. HasEffects (setting_of run) before (commit_act run.fate) one (progress_of slots ended)) (whole-effects ∙ sym same) ending.step

  module _ (events events_new : List Action) (at : IsAt slots events (progress_of slots run)) (old mid : Option (List ℕ)) (grown : events_new ≡ events ++ course.left)
      (told : TellsActions run.manager (watching run) slots (count_of run) events course.left old mid) where
    grown-effects : events_new ≡ events ++ events_in (later slots before front run course course.left)
    grown-effects = grown ∙ ap (λ actions. events ++ actions) (sym (events-actions (setting_of run) (probes_told run.json run.probes) run.told run.waiting (on_device slots run.manager.state) course.left))

    last-none : events_in last_lines ≡ []
    last-none =
        events-flushed run.family (probes_told run.json run.probes) (run.told + length (writes_in course.left)) (state_after (on_device slots run.manager.state) (writes_in course.left))
        (waiting_after run.depth run.waiting course.left)

    stands-new : IsAt slots events_new (progress_of slots ended)
    stands-new =
        ap (λ one. on_device slots one) ending.state ∙ at-more slots before front run course events events_new at course.left [] (sym (append-nil course.left)) grown

    told-left : Appends old mid (printed (later slots before front run course course.left))
    told-left = told-at slots before front run course events events_new at course.left old mid told

    -- it is cut at one of its last lines
    broken : (lines : List Effect) (partial rest : List ℕ) (back : List Effect) (taken : Option (List ℕ)) → last_lines ++ Prints line ∷ [] ≡ lines ++ Prints (partial ++ rest) ∷ back → events_in lines ≡ []
        → Appends mid taken (printed lines ++ partial) → BreaksOff slots before (commit_act run.fate) front ended (outside events old) (outside events_new taken)
    broken lines partial rest back taken parts none more =
        let all = later slots before front run course course.left in
        let effects = (front ++ (all ++ lines)) ++ Prints (partial ++ rest) ∷ back in record {
          more = all ++ lines;
          partial = partial;
          rest = rest;
          cut = inl (record {
            back = back;
            after = progress_of slots ended;
            step = subst (λ setting. HasEffects setting before (commit_act run.fate) effects (progress_of slots ended)) (sym ending.setting)
                (rest-step effects
                (append_assoc front (all ++ lines) (Prints (partial ++ rest) ∷ back)
                ∙ ap (λ some. front ++ some) (append_assoc all lines (Prints (partial ++ rest) ∷ back) ∙ ap (λ some. all ++ some) (sym parts))));
          });
          does = does-lines all lines partial events events_new old mid taken grown-effects none told-left more;
        }

    -- at a word that is searched behind its last action
    pub breaks-searching : (taken : Option (List ℕ)) → CutsLines last_lines mid taken → BreaksOff slots before (commit_act run.fate) front ended (outside events old) (outside events_new taken)
    breaks-searching taken cuts =
        broken cuts.front cuts.partial cuts.rest (cuts.back ++ Prints line ∷ []) taken
        (ap (λ effects. effects ++ Prints line ∷ []) cuts.cut ∙ append_assoc cuts.front (Prints (cuts.partial ++ cuts.rest) ∷ cuts.back) (Prints line ∷ []))
        (events-front cuts.front (cuts.partial ++ cuts.rest) cuts.back (sym (ap events_in cuts.cut) ∙ last-none)) cuts.grown

    module _ (searched taken : Option (List ℕ)) (last : Appends mid searched (printed last_lines)) where
      -- or at its own line
      pub breaks-last : AppendsPart searched taken line → BreaksOff slots before (commit_act run.fate) front ended (outside events old) (outside events_new taken)
      breaks-last part =
          broken last_lines part.0 part.1 [] taken (ap (λ text. last_lines ++ Prints text ∷ []) part.2) last-none
          (Appends-trans mid searched taken (printed last_lines) part.0 last part.3)

      -- it is finished
      pub finishes : Appends searched taken line → Finishes slots before (commit_act run.fate) front ended (outside events old) (outside events_new taken)
      finishes more =
          let all = later slots before front run course course.left in
          let end = last_lines ++ Prints line ∷ [] in
          let none : events_in end ≡ [] = events-append last_lines (Prints line ∷ []) ∙ append-nil (events_in last_lines) ∙ last-none in
          let text : printed end ++ [] ≡ printed last_lines ++ line =
          append-nil (printed end) ∙ printed-append last_lines (Prints line ∷ []) ∙ ap (λ text. printed last_lines ++ text) (append-nil line) in record {
            rest = all ++ end;
            step = subst (λ setting. HasEffects setting before (commit_act run.fate) (front ++ (all ++ end)) (progress_of slots ended)) (sym ending.setting) (rest-step (front ++ (all ++ end)) refl);
            does = does-lines all end [] events events_new old mid taken grown-effects none told-left
                (subst (Appends mid taken) (sym text) (Appends-trans mid searched taken (printed last_lines) line last more));
            stands = stands-new;
          }
