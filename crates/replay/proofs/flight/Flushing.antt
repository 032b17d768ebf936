-- The words in flight of some writes, searched one write after the other.
use Rattle.std.proofs.Common.{◌≡◌, ℕ, zero, suc, ◌+◌, ◌<◌, ◌≤◌, List, [], ◌++◌, Option, Result, Ok, Err, OnErr, length, take, drop, refl, sym, ap, ◌∙◌, subst, append_assoc, arith}
use Rattle.std.proofs.lemmas.List.{append-nil}
use Rattle.std.specs.Io.KnownBytes.{Appends}
use Rattle.std.proofs.KnownBytes.{Appends-trans}
use Rattle.tcam_device.specs.State.{State}
use Rattle.tcam_device.specs.Flight.{Flight}
use Rattle.replay.specs.Effects.{Effect, printed, probes_told}
use Rattle.replay.specs.InFlight.{AreOf, found_all, found_lines}
use Rattle.replay.specs.Outside.{CutsLines}
use Rattle.replay.specs.Running.{Watching}
use Rattle.replay.proofs.lines.Effects.{printed-append}
use Rattle.replay.proofs.flight.InFlight.{are-left, enough-of, none-of}
use Rattle.replay.proofs.lines.Telling.{cuts-within}

-- the words of so many writes are searched, and those of the others are left
pub record IsFlushing (watch : Watching) (number : ℕ) (state : State) (waiting : ℕ) (flight : Flight) (place : ℕ) (flight_now : Flight) : Type 0 where
  pub left : ℕ
  pub left_is : left + place ≡ waiting
  pub words : AreOf (probes_told watch.json watch.probes) left flight_now
  pub front : List Effect
  pub whole : found_all watch.family number state (length (probes_told watch.json watch.probes)) waiting flight
      ≡ front ++ found_all watch.family number state (length (probes_told watch.json watch.probes)) left flight_now

abbrev pub flushing-none : (watch : Watching) (number : ℕ) (state : State) (waiting : ℕ) (flight : Flight) → AreOf (probes_told watch.json watch.probes) waiting flight → IsFlushing watch number state waiting flight 0 flight
flushing-none watch number state waiting flight are = record { left = waiting; left_is = omega arith; words = are; front = []; whole = refl }

-- the next ones
pub record HasMore (watch : Watching) (number : ℕ) (state : State) (waiting : ℕ) (flight : Flight) (place : ℕ) (flight_now : Flight) (flushing : IsFlushing watch number state waiting flight place flight_now) : Type 0 where
  pub more : ℕ
  pub left_is : flushing.left ≡ suc more

pub has-more : (watch : Watching) (number : ℕ) (state : State) (waiting : ℕ) (flight : Flight) (place : ℕ) (flight_now : Flight) (flushing : IsFlushing watch number state waiting flight place flight_now) → place < waiting
    → HasMore watch number state waiting flight place flight_now flushing
has-more watch number state waiting flight place flight_now flushing within = go flushing.left refl
  where
    go : (left : ℕ) → flushing.left ≡ left → HasMore watch number state waiting flight place flight_now flushing
    go zero is = absurd (let all = flushing.left_is in omega arith)
    go (suc more) is = record { more = more; left_is = is }

module _ (watch : Watching) (number : ℕ) (state : State) (waiting : ℕ) (flight : Flight) (place : ℕ) (flight_now : Flight)
    (flushing : IsFlushing watch number state waiting flight place flight_now) (within : place < waiting) where
  abbrev pub next-more : HasMore watch number state waiting flight place flight_now flushing
  next-more = has-more watch number state waiting flight place flight_now flushing within

  pub words-now : AreOf (probes_told watch.json watch.probes) (suc next-more.more) flight_now
  words-now = subst (λ left. AreOf (probes_told watch.json watch.probes) left flight_now) next-more.left_is flushing.words

  pub flushing-enough : length (probes_told watch.json watch.probes) ≤ length flight_now
  flushing-enough = enough-of (probes_told watch.json watch.probes) next-more.more flight_now words-now

  abbrev pub round : List Effect
  round = found_lines watch.family number state 1 (take (length (probes_told watch.json watch.probes)) flight_now)

  pub rest-is : found_all watch.family number state (length (probes_told watch.json watch.probes)) waiting flight
      ≡ flushing.front ++ (round ++ found_all watch.family number state (length (probes_told watch.json watch.probes)) next-more.more (drop (length (probes_told watch.json watch.probes)) flight_now))
  rest-is = flushing.whole ∙ ap (λ left. flushing.front ++ found_all watch.family number state (length (probes_told watch.json watch.probes)) left flight_now) next-more.left_is

  abbrev pub flushing-more : (flight_new : Flight) → flight_new ≡ drop (length (probes_told watch.json watch.probes)) flight_now → IsFlushing watch number state waiting flight (place + 1) flight_new
  flushing-more flight_new is = record {
    left = next-more.more;
    left_is = (let all = flushing.left_is in let more = next-more.left_is in omega arith);
    words = subst (AreOf (probes_told watch.json watch.probes) next-more.more) (sym is) (are-left (probes_told watch.json watch.probes) next-more.more flight_now words-now);
    front = flushing.front ++ round;
    whole = rest-is
        ∙ sym (append_assoc flushing.front round (found_all watch.family number state (length (probes_told watch.json watch.probes)) next-more.more (drop (length (probes_told watch.json watch.probes)) flight_now)))
        ∙ ap (λ words. (flushing.front ++ round) ++ found_all watch.family number state (length (probes_told watch.json watch.probes)) next-more.more words) (sym is);
  }

  pub told-more : (old mid new : Option (List ℕ)) → Appends old mid (printed flushing.front) → Appends mid new (printed round) → Appends old new (printed (flushing.front ++ round))
  told-more old mid new front more = subst (Appends old new) (sym (printed-append flushing.front round)) (Appends-trans old mid new (printed flushing.front) (printed round) front more)

  pub cuts-more : {E : Type 0} (result : Result (Unit {0}) E) (old mid new : Option (List ℕ)) → Appends old mid (printed flushing.front) → CutsLines round mid new
      → OnErr result (CutsLines (found_all watch.family number state (length (probes_told watch.json watch.probes)) waiting flight) old new)
  cuts-more (Ok done) old mid new front cuts = tt
  cuts-more (Err fault) old mid new front cuts =
      cuts-within (found_all watch.family number state (length (probes_told watch.json watch.probes)) waiting flight) flushing.front round
      (found_all watch.family number state (length (probes_told watch.json watch.probes)) next-more.more (drop (length (probes_told watch.json watch.probes)) flight_now)) old mid new rest-is front cuts

-- all of them are
module _ (watch : Watching) (number : ℕ) (state : State) (waiting : ℕ) (flight : Flight) (place : ℕ) (flight_now : Flight)
    (flushing : IsFlushing watch number state waiting flight place flight_now) (all : waiting ≤ place) where
  none-left : flushing.left ≡ 0
  none-left = let is = flushing.left_is in omega arith

  pub flushing-empty : flight_now ≡ []
  flushing-empty = none-of (probes_told watch.json watch.probes) flight_now (subst (λ left. AreOf (probes_told watch.json watch.probes) left flight_now) none-left flushing.words)

  pub flushing-whole : (old new : Option (List ℕ)) → Appends old new (printed flushing.front) → Appends old new (printed (found_all watch.family number state (length (probes_told watch.json watch.probes)) waiting flight))
  flushing-whole old new told =
      subst (λ effects. Appends old new (printed effects))
      (sym (flushing.whole ∙ ap (λ left. flushing.front ++ found_all watch.family number state (length (probes_told watch.json watch.probes)) left flight_now) none-left ∙ append-nil flushing.front)) told
