-- What effects leave in the device and in the report.
use Rattle.std.proofs.Common.{Bool, true, false, zero, suc, ◌+◌, ◌==◌, min, length, arith, ◌≡◌, ℕ, List, [], ◌∷◌, ◌++◌, Option, refl, sym, ap, ◌∙◌, subst, append_assoc}
use Rattle.std.proofs.lemmas.List.{append-nil}
use Rattle.std.specs.Io.KnownBytes.{Appends}
use Rattle.std.proofs.KnownBytes.{Appends-nil, Appends-trans}
use Rattle.rule_model.specs.declared.Key.{Key}
use Rattle.tcam_device.specs.declared.Action.{Action}
use Rattle.tcam_device.specs.declared.Write.{Write}
use Rattle.tcam_device.specs.declared.Action.TheVariants.{Written, Drained}
use Rattle.tcam_device.specs.Flight.{writes_in}
use Rattle.tcam_device.specs.State.{State, apply, state_after}
use Rattle.commit_writes.proofs.WritesIn.{writes_in-append}
use Rattle.report_lines.specs.declared.Family.{Family}
use Rattle.replay.specs.Effects.{Setting, Effect, Acts, Prints, events_in, journal_of, printed, traced, trace_line, deed_told, write_told, drain_told, searches_of, flushed, searched_after, waiting_after, effects_of}
use Rattle.report_lines.specs.declared.deed.Deed.{Deed}
use Rattle.replay.specs.Text.{drain_line}
use Rattle.replay.specs.Carried.{Does}

-- some actions, and others behind them
pub grown-more : (events mid new made more : List Action) → mid ≡ events ++ made → new ≡ mid ++ more → new ≡ events ++ (made ++ more)
grown-more events mid new made more first second = second ∙ ap (λ actions. actions ++ more) first ∙ append_assoc events made more

pub events-append : (a b : List Effect) → events_in (a ++ b) ≡ events_in a ++ events_in b
events-append [] b = refl
events-append (Acts action ∷ a) b = ap (λ actions. action ∷ actions) (events-append a b)
events-append (Prints line ∷ a) b = events-append a b

pub printed-append : (a b : List Effect) → printed (a ++ b) ≡ printed a ++ printed b
printed-append [] b = refl
printed-append (Acts action ∷ a) b = printed-append a b
printed-append (Prints line ∷ a) b = ap (λ text. line ++ text) (printed-append a b) ∙ sym (append_assoc line (printed a) (printed b))

pub written-append : (a b : List Effect) → journal_of (a ++ b) ≡ journal_of a ++ journal_of b
written-append a b = ap writes_in (events-append a b) ∙ writes_in-append (events_in a) (events_in b)

-- lines do nothing to the device
none-behind : (a b : List Effect) → events_in a ≡ [] → events_in (a ++ b) ≡ events_in b
none-behind a b none = events-append a b ∙ ap (λ actions. actions ++ events_in b) none

events-traced : (trace : Bool) (line : List ℕ) → events_in (traced trace line) ≡ []
events-traced true line = refl
events-traced false line = refl

pub events-write_told : (json trace : Bool) (family : Family) (number : ℕ) (deed : Option Deed) (write : Write) → events_in (write_told json trace family number deed write) ≡ []
events-write_told true trace family number deed write = refl
events-write_told false trace family number deed write = events-traced trace (trace_line family number deed write)

pub events-drain_told : (json trace : Bool) (number : ℕ) → events_in (drain_told json trace number) ≡ []
events-drain_told true trace number = refl
events-drain_told false trace number = events-traced trace (drain_line number)

pub events-searches : (family : Family) (number : ℕ) (state : State) (probe : ℕ) (keys : List Key) → events_in (searches_of family number state probe keys) ≡ []
events-searches family number state probe [] = refl
events-searches family number state probe (key ∷ keys) = events-searches family number state (probe + 1) keys

pub events-flushed : (family : Family) (probes : List Key) (number : ℕ) (state : State) (waiting : ℕ) → events_in (flushed family probes number state waiting) ≡ []
events-flushed family probes number state zero = refl
events-flushed family probes number state (suc more) =
    none-behind (searches_of family number state 1 probes) (flushed family probes number state more) (events-searches family number state 1 probes)
    ∙ events-flushed family probes number state more

pub events-searched : (setting : Setting) (probes : List Key) (number waiting : ℕ) (state : State) → events_in (searched_after setting probes number waiting state) ≡ []
events-searched setting probes number waiting state = go (waiting == setting.depth)
  where
    go : (full : Bool) → events_in (elim full [ true ↦ searches_of setting.family number state 1 probes | false ↦ [] ]) ≡ []
    go true = events-searches setting.family number state 1 probes
    go false = refl

-- actions do to the device what they are
pub events-actions : (setting : Setting) (probes : List Key) (number waiting : ℕ) (state : State) (actions : List Action) → events_in (effects_of setting probes number waiting state actions) ≡ actions
events-actions setting probes number waiting state [] = refl
events-actions setting probes number waiting state (Written write ∷ actions) =
    let next = apply state write in
    let later = effects_of setting probes (number + 1) (min (waiting + 1) setting.depth) next actions in
    let deed = deed_told setting.names state write in
    ap (λ made. Written write ∷ made)
    (none-behind (write_told setting.json setting.trace setting.family (number + 1) deed write) (searched_after setting probes (number + 1) waiting next ++ later)
    (events-write_told setting.json setting.trace setting.family (number + 1) deed write)
    ∙ none-behind (searched_after setting probes (number + 1) waiting next) later (events-searched setting probes (number + 1) waiting next)
    ∙ events-actions setting probes (number + 1) (min (waiting + 1) setting.depth) next actions)
events-actions setting probes number waiting state (Drained ∷ actions) =
    let later = effects_of setting probes number 0 state actions in
    none-behind (flushed setting.family probes number state waiting) (Acts Drained ∷ (drain_told setting.json setting.trace number ++ later)) (events-flushed setting.family probes number state waiting)
    ∙ ap (λ made. Drained ∷ made)
    (none-behind (drain_told setting.json setting.trace number) later (events-drain_told setting.json setting.trace number) ∙ events-actions setting probes number 0 state actions)

-- where no action is left behind a line, none was before it
pub events-front : (front : List Effect) (line : List ℕ) (back : List Effect) → events_in (front ++ Prints line ∷ back) ≡ [] → events_in front ≡ []
events-front [] line back none = refl
events-front (Acts action ∷ front) line back none = absurd (cc)
events-front (Prints text ∷ front) line back none = events-front front line back none

-- how many words wait after some actions, and after some more
pub waiting-append : (depth waiting : ℕ) (a b : List Action) → waiting_after depth waiting (a ++ b) ≡ waiting_after depth (waiting_after depth waiting a) b
waiting-append depth waiting [] b = refl
waiting-append depth waiting (Written write ∷ a) b = waiting-append depth (min (waiting + 1) depth) a b
waiting-append depth waiting (Drained ∷ a) b = waiting-append depth 0 a b

-- the effects of actions, one part after the other
pub effects-append : (setting : Setting) (probes : List Key) (number waiting : ℕ) (state : State) (made more : List Action)
    → effects_of setting probes number waiting state (made ++ more)
    ≡ effects_of setting probes number waiting state made
    ++ effects_of setting probes (number + length (writes_in made)) (waiting_after setting.depth waiting made) (state_after state (writes_in made)) more
effects-append setting probes number waiting state [] more = let same : number ≡ number + 0 = omega arith in ap (λ n. effects_of setting probes n waiting state more) same
effects-append setting probes number waiting state (Written write ∷ made) more =
    let next = apply state write in
    let later = min (waiting + 1) setting.depth in
    let here = write_told setting.json setting.trace setting.family (number + 1) (deed_told setting.names state write) write in
    let found = searched_after setting probes (number + 1) waiting next in
    let front = effects_of setting probes (number + 1) later next made in
    let back : ℕ → List Effect = λ n. effects_of setting probes n (waiting_after setting.depth later made) (state_after next (writes_in made)) more in
    let same : (number + 1) + length (writes_in made) ≡ number + length (write ∷ writes_in made) = omega arith in
    ap (λ effects. Acts (Written write) ∷ (here ++ (found ++ effects))) (effects-append setting probes (number + 1) later next made more ∙ ap (λ n. front ++ back n) same)
    ∙ ap (λ effects. Acts (Written write) ∷ (here ++ effects)) (sym (append_assoc found front (back (number + length (write ∷ writes_in made)))))
    ∙ ap (λ effects. Acts (Written write) ∷ effects) (sym (append_assoc here (found ++ front) (back (number + length (write ∷ writes_in made)))))
effects-append setting probes number waiting state (Drained ∷ made) more =
    let ahead = flushed setting.family probes number state waiting in
    let here = drain_told setting.json setting.trace number in
    let front = effects_of setting probes number 0 state made in
    let back = effects_of setting probes (number + length (writes_in made)) (waiting_after setting.depth 0 made) (state_after state (writes_in made)) more in
    ap (λ effects. ahead ++ Acts Drained ∷ (here ++ effects)) (effects-append setting probes number 0 state made more)
    ∙ ap (λ effects. ahead ++ Acts Drained ∷ effects) (sym (append_assoc here front back))
    ∙ sym (append_assoc ahead (Acts Drained ∷ (here ++ front)) back)

-- a line alone
pub does-line : (line : List ℕ) (events : List Action) (old new : Option (List ℕ)) → Appends old new line → Does (Prints line ∷ []) [] events events old new
does-line line events old new grown = record {
  events = sym (append-nil events);
  report = subst (Appends old new) (sym (append-nil (line ++ []) ∙ append-nil line)) grown;
}

-- a part of a line alone
pub does-part : (partial : List ℕ) (events : List Action) (old new : Option (List ℕ)) → Appends old new partial → Does [] partial events events old new
does-part partial events old new grown = record { events = sym (append-nil events); report = grown }

-- nothing
pub does-nothing : (events : List Action) (taken : Option (List ℕ)) → Does [] [] events events taken taken
does-nothing events taken = does-part [] events taken taken (Appends-nil taken)

-- some effects that were told, and then lines, the last one perhaps in part
pub does-lines : (front lines : List Effect) (partial : List ℕ) (events_old events_new : List Action) (old mid new : Option (List ℕ))
    → events_new ≡ events_old ++ events_in front → events_in lines ≡ [] → Appends old mid (printed front) → Appends mid new (printed lines ++ partial)
    → Does (front ++ lines) partial events_old events_new old new
does-lines front lines partial events_old events_new old mid new grown none told more = record {
  events = grown ∙ ap (λ actions. events_old ++ actions) (sym (events-append front lines ∙ ap (λ actions. events_in front ++ actions) none ∙ append-nil (events_in front)));
  report = subst (Appends old new)
      (sym (ap (λ text. text ++ partial) (printed-append front lines) ∙ append_assoc (printed front) (printed lines) partial))
      (Appends-trans old mid new (printed front) (printed lines ++ partial) told more);
}
