-- What is told of the actions of a commit under way, one after the other.
use Rattle.std.proofs.Common.{◌≡◌, ℕ, ◌+◌, min, List, [], ◌∷◌, ◌++◌, Option, sym, ap, ◌∙◌, subst, append_assoc}
use Rattle.std.proofs.lemmas.List.{append-nil}
use Rattle.std.specs.Io.KnownBytes.{Appends}
use Rattle.std.proofs.KnownBytes.{Appends-trans}
use Rattle.tcam_device.specs.declared.Write.{Write}
use Rattle.tcam_device.specs.declared.Action.{Action}
use Rattle.tcam_device.specs.declared.Action.TheVariants.{Written, Drained}
use Rattle.tcam_device.specs.Flight.{writes_in}
use Rattle.tcam_device.specs.State.{State, apply, blank, replay, state_after}
use Rattle.tcam_device.proofs.Spans.{state_after-append}
use Rattle.commit_writes.proofs.WritesIn.{writes_in-append}
use Rattle.batch_order.specs.Managed.{Managed}
use Rattle.replay.specs.declared.watch.Count.{Count}
use Rattle.replay.specs.Effects.{Effect, Acts, Prints, events_in, printed, deed_told, write_told, drain_told, probes_told, flushed, searched_after, waiting_after, effects_of}
use Rattle.replay.specs.Outside.{CutsLines}
use Rattle.replay.specs.Carried.{CutsEffects}
use Rattle.replay.specs.Running.{Watching}
use Rattle.replay.specs.Making.{HasCome, TellsActions, effects_on, telling}
use Rattle.replay.proofs.lines.Effects.{effects-append, events-actions, events-append, events-front, events-flushed, events-searched, events-write_told, events-drain_told, printed-append}

-- lines that are cut, behind effects that were told
pub cut-lines : (all before lines after : List Effect) (events_begun events_now : List Action) (old mid new : Option (List ℕ)) → all ≡ before ++ (lines ++ after)
    → events_now ≡ events_begun ++ events_in before → events_in lines ≡ [] → Appends old mid (printed before) → CutsLines lines mid new → CutsEffects all events_begun events_now old new
cut-lines all before lines after events_begun events_now old mid new whole made none told cuts =
    let ahead : events_in cuts.front ≡ [] = events-front cuts.front (cuts.partial ++ cuts.rest) cuts.back (sym (ap events_in cuts.cut) ∙ none) in record {
      front = before ++ cuts.front;
      partial = cuts.partial;
      rest = cuts.rest;
      back = cuts.back ++ after;
      cut = whole
          ∙ ap (λ effects. before ++ (effects ++ after)) cuts.cut
          ∙ ap (λ effects. before ++ effects) (append_assoc cuts.front (Prints (cuts.partial ++ cuts.rest) ∷ cuts.back) after)
          ∙ sym (append_assoc before cuts.front (Prints (cuts.partial ++ cuts.rest) ∷ (cuts.back ++ after)));
      does = record {
        events = made
            ∙ ap (λ actions. events_begun ++ actions) (sym (events-append before cuts.front ∙ ap (λ actions. events_in before ++ actions) ahead ∙ append-nil (events_in before)));
        report = subst (Appends old new)
            (sym (ap (λ text. text ++ cuts.partial) (printed-append before cuts.front) ∙ append_assoc (printed before) (printed cuts.front) cuts.partial))
            (Appends-trans old mid new (printed before) (printed cuts.front ++ cuts.partial) told cuts.grown);
      };
    }

module _ (begun : Managed) (watch : Watching) (slots : ℕ) (count : Count) (events_begun : List Action) (made : List Action) (now : Count) (events : List Action)
    (come : HasCome watch count now made) (is : events ≡ events_begun ++ made) where
  -- the effects so far
  abbrev pub so_far : List Effect
  so_far = effects_on begun watch slots count events_begun made

  -- where the device stands
  abbrev pub state_now : State
  state_now = replay slots (writes_in events)

  acts : events_in so_far ≡ made
  acts = events-actions (telling begun watch) (probes_told watch.json watch.probes) count.told count.waiting (replay slots (writes_in events_begun)) made

  -- those of more actions are behind them
  pub effects-then : (more : List Action) → effects_on begun watch slots count events_begun (made ++ more) ≡ so_far ++ effects_on begun watch slots now events more
  effects-then more =
      let state = replay slots (writes_in events_begun) in
      let waiting = waiting_after watch.depth count.waiting made in
      let after = state_after state (writes_in made) in
      let at : state_now ≡ after =
      ap (λ actions. replay slots (writes_in actions)) is ∙ ap (replay slots) (writes_in-append events_begun made)
      ∙ state_after-append (blank slots) (writes_in events_begun) (writes_in made) in
      let told = come.told in
      effects-append (telling begun watch) (probes_told watch.json watch.probes) count.told count.waiting state made more
      ∙ ap (λ n. so_far ++ effects_of (telling begun watch) (probes_told watch.json watch.probes) n waiting after more) (sym told)
      ∙ ap (λ n. so_far ++ effects_of (telling begun watch) (probes_told watch.json watch.probes) now.told n after more) (sym come.waiting)
      ∙ ap (λ one. so_far ++ effects_of (telling begun watch) (probes_told watch.json watch.probes) now.told now.waiting one more) (sym at)

  -- some more are told
  pub tells-then : (more : List Action) (old mid new : Option (List ℕ)) → TellsActions begun watch slots count events_begun made old mid
      → Appends mid new (printed (effects_on begun watch slots now events more)) → TellsActions begun watch slots count events_begun (made ++ more) old new
  tells-then more old mid new before told =
      subst (Appends old new) (sym (ap printed (effects-then more) ∙ printed-append so_far (effects_on begun watch slots now events more)))
      (Appends-trans old mid new (printed so_far) (printed (effects_on begun watch slots now events more)) before told)

  -- the lines of a write
  abbrev pub lines_of : Write → List Effect
  lines_of write =
      write_told watch.json watch.trace watch.family (now.told + 1) (deed_told watch.names state_now write) write ++ searched_after (telling begun watch) (probes_told watch.json watch.probes) (now.told + 1) now.waiting (apply state_now write)

  lines-none : (write : Write) → events_in (lines_of write) ≡ []
  lines-none write =
      let found = searched_after (telling begun watch) (probes_told watch.json watch.probes) (now.told + 1) now.waiting (apply state_now write) in
      let deed = deed_told watch.names state_now write in
      events-append (write_told watch.json watch.trace watch.family (now.told + 1) deed write) found
      ∙ ap (λ actions. actions ++ events_in found) (events-write_told watch.json watch.trace watch.family (now.told + 1) deed write)
      ∙ events-searched (telling begun watch) (probes_told watch.json watch.probes) (now.told + 1) now.waiting (apply state_now write)

  -- a write is told
  pub tells-write : (write : Write) (old mid new : Option (List ℕ)) → TellsActions begun watch slots count events_begun made old mid → Appends mid new (printed (lines_of write))
      → TellsActions begun watch slots count events_begun (made ++ Written write ∷ []) old new
  tells-write write old mid new before lines =
      let trace = write_told watch.json watch.trace watch.family (now.told + 1) (deed_told watch.names state_now write) write in
      let found = searched_after (telling begun watch) (probes_told watch.json watch.probes) (now.told + 1) now.waiting (apply state_now write) in
      tells-then (Written write ∷ []) old mid new before
      (subst (λ effects. Appends mid new (printed effects)) (ap (λ effects. trace ++ effects) (sym (append-nil found))) lines)

  -- or cut
  pub cuts-write : (write : Write) (rest all : List Action) (events_new : List Action) (old mid new : Option (List ℕ)) → all ≡ made ++ Written write ∷ rest → events_new ≡ events ++ Written write ∷ []
      → TellsActions begun watch slots count events_begun made old mid → CutsLines (lines_of write) mid new
      → CutsEffects (effects_on begun watch slots count events_begun all) events_begun events_new old new
  cuts-write write rest all events_new old mid new whole grown before cuts =
      let trace = write_told watch.json watch.trace watch.family (now.told + 1) (deed_told watch.names state_now write) write in
      let found = searched_after (telling begun watch) (probes_told watch.json watch.probes) (now.told + 1) now.waiting (apply state_now write) in
      let later = effects_of (telling begun watch) (probes_told watch.json watch.probes) (now.told + 1) (min (now.waiting + 1) watch.depth) (apply state_now write) rest in
      cut-lines (effects_on begun watch slots count events_begun all) (so_far ++ Acts (Written write) ∷ []) (lines_of write) later events_begun events_new old mid new
      (ap (effects_on begun watch slots count events_begun) whole ∙ effects-then (Written write ∷ rest)
      ∙ ap (λ effects. so_far ++ Acts (Written write) ∷ effects) (sym (append_assoc trace found later))
      ∙ sym (append_assoc so_far (Acts (Written write) ∷ []) (lines_of write ++ later)))
      (grown ∙ ap (λ actions. actions ++ Written write ∷ []) is ∙ append_assoc events_begun made (Written write ∷ [])
      ∙ ap (λ actions. events_begun ++ actions) (sym (events-append so_far (Acts (Written write) ∷ []) ∙ ap (λ actions. actions ++ Written write ∷ []) acts)))
      (lines-none write)
      (subst (Appends old mid) (sym (printed-append so_far (Acts (Written write) ∷ []) ∙ append-nil (printed so_far))) before)
      cuts

  -- the lines before a drain, and behind it
  abbrev pub lines_before : List Effect
  lines_before = flushed watch.family (probes_told watch.json watch.probes) now.told state_now now.waiting

  abbrev pub lines_behind : List Effect
  lines_behind = drain_told watch.json watch.trace now.told

  -- a drain is told, behind the words that it waited for
  pub tells-drain : (old mid searched new : Option (List ℕ)) → TellsActions begun watch slots count events_begun made old mid → Appends mid searched (printed lines_before)
      → Appends searched new (printed lines_behind) → TellsActions begun watch slots count events_begun (made ++ Drained ∷ []) old new
  tells-drain old mid searched new before flush trace =
      tells-then (Drained ∷ []) old mid new before
      (subst (Appends mid new)
      (sym (printed-append lines_before (Acts Drained ∷ (lines_behind ++ [])) ∙ ap (λ effects. printed lines_before ++ printed effects) (append-nil lines_behind)))
      (Appends-trans mid searched new (printed lines_before) (printed lines_behind) flush trace))

  -- a line of the words that it waits for is cut
  pub cuts-before : (rest all : List Action) (old mid new : Option (List ℕ)) → all ≡ made ++ Drained ∷ rest
      → TellsActions begun watch slots count events_begun made old mid → CutsLines lines_before mid new → CutsEffects (effects_on begun watch slots count events_begun all) events_begun events old new
  cuts-before rest all old mid new whole before cuts =
      let later = Acts Drained ∷ (lines_behind ++ effects_of (telling begun watch) (probes_told watch.json watch.probes) now.told 0 state_now rest) in
      cut-lines (effects_on begun watch slots count events_begun all) so_far lines_before later events_begun events old mid new
      (ap (effects_on begun watch slots count events_begun) whole ∙ effects-then (Drained ∷ rest))
      (is ∙ ap (λ actions. events_begun ++ actions) (sym acts))
      (events-flushed watch.family (probes_told watch.json watch.probes) now.told state_now now.waiting) before cuts

  -- or its own
  pub cuts-drain : (rest all : List Action) (events_new : List Action) (old mid searched new : Option (List ℕ)) → all ≡ made ++ Drained ∷ rest → events_new ≡ events ++ Drained ∷ []
      → TellsActions begun watch slots count events_begun made old mid → Appends mid searched (printed lines_before) → CutsLines lines_behind searched new
      → CutsEffects (effects_on begun watch slots count events_begun all) events_begun events_new old new
  cuts-drain rest all events_new old mid searched new whole grown before flush cuts =
      let later = effects_of (telling begun watch) (probes_told watch.json watch.probes) now.told 0 state_now rest in
      let ahead = so_far ++ (lines_before ++ Acts Drained ∷ []) in
      let does : events_in ahead ≡ made ++ Drained ∷ [] =
      events-append so_far (lines_before ++ Acts Drained ∷ [])
      ∙ ap (λ actions. actions ++ events_in (lines_before ++ Acts Drained ∷ [])) acts
      ∙ ap (λ actions. made ++ actions) (events-append lines_before (Acts Drained ∷ []) ∙ ap (λ actions. actions ++ Drained ∷ []) (events-flushed watch.family (probes_told watch.json watch.probes) now.told state_now now.waiting)) in
      cut-lines (effects_on begun watch slots count events_begun all) ahead lines_behind later events_begun events_new old searched new
      (ap (effects_on begun watch slots count events_begun) whole ∙ effects-then (Drained ∷ rest)
      ∙ ap (λ effects. so_far ++ effects) (sym (append_assoc lines_before (Acts Drained ∷ []) (lines_behind ++ later)))
      ∙ sym (append_assoc so_far (lines_before ++ Acts Drained ∷ []) (lines_behind ++ later)))
      (grown ∙ ap (λ actions. actions ++ Drained ∷ []) is ∙ append_assoc events_begun made (Drained ∷ []) ∙ ap (λ actions. events_begun ++ actions) (sym does))
      (events-drain_told watch.json watch.trace now.told)
      (subst (Appends old searched)
      (sym (printed-append so_far (lines_before ++ Acts Drained ∷ [])
      ∙ ap (λ text. printed so_far ++ text) (printed-append lines_before (Acts Drained ∷ []) ∙ append-nil (printed lines_before))))
      (Appends-trans old mid searched (printed so_far) (printed lines_before) before flush))
      cuts
