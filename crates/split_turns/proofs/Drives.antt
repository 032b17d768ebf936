-- One turn more behind some.
use Rattle.std.proofs.Common.{◌≡◌, ℕ, suc, ◌+◌, ◌<◌, ◌≤◌, take, get_or, length-append, Option, None, Some, List, [], ◌∷◌, ◌++◌, length, refl, sym, ◌∙◌, ap, ap₂, subst, arith}
use Rattle.std.proofs.lemmas.List.{length-take-le, append_assoc, append-nil, take_more}
use Rattle.rule_model.specs.RuleSet.{Answer}
use Rattle.split_device.specs.Flight.{Flight}
use Rattle.split_order.specs.Managed.{SplitManaged}
use Rattle.split_turns.specs.declared.SplitTurn.{SplitTurn}
use Rattle.split_turns.specs.Seen.{AreSeen, TurnsOn}
use Rattle.split_turns.specs.Turns.{TurnState, Drives, Outcome, AreAllTaken, TakesSplitTurn, turn_state_of, with_turn_number}

drives_more : (slots : ℕ) (before : TurnState) (number : ℕ) (turns : List SplitTurn) (answers : List (ℕ × Answer)) (mid : TurnState) (turn : SplitTurn) (once : Outcome)
    → Drives slots before number turns answers mid → TakesSplitTurn slots mid turn once
    → Drives slots before number (turns ++ turn ∷ []) (answers ++ with_turn_number (number + length turns) once.answered) once.after
drives_more slots before number [] answers mid turn once did turned =
    let at : number + 0 ≡ number = omega arith in (
      once,
      [],
      subst (λ c. TakesSplitTurn slots c turn once) did.1 turned,
      (refl, refl),
      ap₂ (λ (before : List (ℕ × Answer)) (k : ℕ). before ++ with_turn_number k once.answered) did.0 at ∙ sym (append-nil (with_turn_number number once.answered)),
    )
drives_more slots before number (first ∷ turns) answers mid turn once did turned =
    let behind = drives_more slots did.0.after (number + 1) turns did.1 mid turn once did.3 turned in
    let at : number + 1 + length turns ≡ number + suc (length turns) = omega arith in (
      did.0,
      did.1 ++ with_turn_number (number + suc (length turns)) once.answered,
      did.2,
      subst (λ k. Drives slots did.0.after (number + 1) (turns ++ turn ∷ []) (did.1 ++ with_turn_number k once.answered) once.after) at behind,
      ap (λ (xs : List (ℕ × Answer)). xs ++ with_turn_number (number + suc (length turns)) once.answered) did.4
          ∙ append_assoc (with_turn_number number did.0.answered) did.1 (with_turn_number (number + suc (length turns)) once.answered),
    )

-- there are no more answers than turns
pub few_more : (answers : List (ℕ × Answer)) (place : ℕ) (answered : Option Answer) → length answers ≤ place
    → length (answers ++ with_turn_number place answered) ≤ place + 1
few_more answers place None few =
    let size = length-append answers (with_turn_number place None) in omega arith
few_more answers place (Some found) few =
    let size = length-append answers ((place, found) ∷ []) in omega arith

-- so far the turns were made, and the look-ups that wait then are known
pub record SoFar (slots : ℕ) (manager : SplitManaged) (flight : Flight) (turns : List SplitTurn) (answers : List (ℕ × Answer)) (last : SplitManaged) (left : Flight) : Type 0 where
  pub driven : AreAllTaken slots manager flight turns answers last left
  pub seen : AreSeen slots last driven.looks

pub none_so_far : (slots : ℕ) (manager : SplitManaged) (flight : Flight) (answers : List (ℕ × Answer)) → flight.found ≡ [] → answers ≡ [] → SoFar slots manager flight [] answers manager flight
none_so_far slots manager flight answers none no_answers = record {
  driven = record { looks = []; found = none; driven = (no_answers, refl) };
  seen = record { keys = tt; waiting = tt; shown = tt };
}

-- with one turn more, the turns so far are made
pub driven_more : (slots : ℕ) (manager mid last : SplitManaged) (flight flying left : Flight) (turns : List SplitTurn) (place : ℕ) (turn : SplitTurn)
    (answers : List (ℕ × Answer)) (answered : Option Answer) → SoFar slots manager flight (take place turns) answers mid flying
    → TurnsOn slots mid flying turn answered last left → place < length turns → turn ≡ get_or turns place turn
    → SoFar slots manager flight (take (place + 1) turns) (answers ++ with_turn_number place answered) last left
driven_more slots manager mid last flight flying left turns place turn answers answered so_far turns_on inside is =
    let was = so_far.driven in
    let one = turns_on was.looks was.found so_far.seen in
    let once : Outcome = record { answered = answered; after = turn_state_of last left one.later } in
    let begin = turn_state_of manager flight [] in
    let more = drives_more slots begin 0 (take place turns) answers (turn_state_of mid flying was.looks) turn once was.driven one.turned in
    let size : length (take place turns) ≡ place = length-take-le place turns (let b : place ≤ length turns = omega arith in b) in
    let at : 0 + length (take place turns) ≡ place = omega arith in
    let longer : take place turns ++ turn ∷ [] ≡ take (place + 1) turns = ap (λ t. take place turns ++ t ∷ []) is ∙ sym (take_more turns place turn inside) in
    record {
      driven = record {
        looks = one.later;
        found = one.found;
        driven = subst (λ ts. Drives slots begin 0 ts (answers ++ with_turn_number place answered) (turn_state_of last left one.later)) longer
            (subst (λ k. Drives slots begin 0 (take place turns ++ turn ∷ []) (answers ++ with_turn_number k answered) (turn_state_of last left one.later)) at more);
      };
      seen = one.seen;
    }
