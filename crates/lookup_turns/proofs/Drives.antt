-- One turn more behind some.
use Rattle.std.proofs.Common.{◌≡◌, ℕ, suc, ◌+◌, ◌<◌, ◌≤◌, take, get_or, length-append, Option, None, Some, List, [], ◌∷◌, ◌++◌, length, refl, sym, ◌∙◌, ap, ap₂, subst, arith}
use Rattle.std.proofs.lemmas.List.{length-take-le, append_assoc, append-nil, take_more}
use Rattle.rule_model.specs.RuleSet.{Answer}
use Rattle.tcam_device.specs.declared.Action.{Action}
use Rattle.tcam_device.specs.Flight.{Flight}
use Rattle.tcam_device.specs.View.{DeviceView}
use Rattle.batch_order.specs.Managed.{Managed}
use Rattle.lookup_turns.specs.declared.Turn.{Turn}
use Rattle.lookup_turns.specs.Turns.{Outcome, TakesTurn, Drives, IsTurned, AreDriven, with_number}

pub drives_more : (slots : ℕ) (manager : Managed) (flight : Flight) (number : ℕ) (turns : List Turn) (answers : List (ℕ × Answer)) (actions : List Action)
    (mid : Managed) (between : Flight) (turn : Turn) (once : Outcome) → Drives slots manager flight number turns answers actions mid between
    → TakesTurn slots mid between turn once
    → Drives slots manager flight number (turns ++ turn ∷ []) (answers ++ with_number (number + length turns) once.answered) (actions ++ once.actions) once.manager once.flight
drives_more slots manager flight number [] answers actions mid between turn once did turned =
    let here : TakesTurn slots manager flight turn once =
    subst (λ f. TakesTurn slots manager f turn once) did.3 (subst (λ m. TakesTurn slots m between turn once) did.2 turned) in
    let at : number + 0 ≡ number = omega arith in (
      once,
      [],
      [],
      here,
      (refl, refl, refl, refl),
      ap₂ (λ (before : List (ℕ × Answer)) (k : ℕ). before ++ with_number k once.answered) did.0 at ∙ sym (append-nil (with_number number once.answered)),
      ap (λ (before : List Action). before ++ once.actions) did.1 ∙ sym (append-nil once.actions),
    )
drives_more slots manager flight number (first ∷ turns) answers actions mid between turn once did turned =
    let behind = drives_more slots did.0.manager did.0.flight (number + 1) turns did.1 did.2 mid between turn once did.4 turned in
    let at : number + 1 + length turns ≡ number + suc (length turns) = omega arith in (
      did.0,
      did.1 ++ with_number (number + suc (length turns)) once.answered,
      did.2 ++ once.actions,
      did.3,
      subst (λ k. Drives slots did.0.manager did.0.flight (number + 1) (turns ++ turn ∷ []) (did.1 ++ with_number k once.answered) (did.2 ++ once.actions) once.manager once.flight) at behind,
      ap (λ (xs : List (ℕ × Answer)). xs ++ with_number (number + suc (length turns)) once.answered) did.5
          ∙ append_assoc (with_number number did.0.answered) did.1 (with_number (number + suc (length turns)) once.answered),
      ap (λ (xs : List Action). xs ++ once.actions) did.6 ∙ append_assoc did.0.actions did.2 once.actions,
    )

-- there are no more answers than turns
pub few_more : (answers : List (ℕ × Answer)) (place : ℕ) (answered : Option Answer) → length answers ≤ place
    → length (answers ++ with_number place answered) ≤ place + 1
few_more answers place None few =
    let size = length-append answers (with_number place None) in omega arith
few_more answers place (Some found) few =
    let size = length-append answers ((place, found) ∷ []) in omega arith

-- with one turn more, the turns so far are made
pub driven_more : (begun between after : DeviceView) (manager mid last : Managed) (turns : List Turn) (place : ℕ) (turn : Turn)
    (answers : List (ℕ × Answer)) (answered : Option Answer) → AreDriven begun between manager (take place turns) answers mid
    → IsTurned between after mid turn answered last → place < length turns → turn ≡ get_or turns place turn
    → AreDriven begun after manager (take (place + 1) turns) (answers ++ with_number place answered) last
driven_more begun between after manager mid last turns place turn answers answered so_far one inside is =
    let once : Outcome = record { answered = answered; actions = one.actions; manager = last; flight = after.flight } in
    let turned : TakesTurn begun.slots mid between.flight turn once = subst (λ n. TakesTurn n mid between.flight turn once) so_far.slots one.turned in
    let more = drives_more begun.slots manager begun.flight 0 (take place turns) answers so_far.actions mid between.flight turn once so_far.driven turned in
    let size : length (take place turns) ≡ place = length-take-le place turns (let b : place ≤ length turns = omega arith in b) in
    let at : 0 + length (take place turns) ≡ place = omega arith in
    let longer : take place turns ++ turn ∷ [] ≡ take (place + 1) turns = ap (λ t. take place turns ++ t ∷ []) is ∙ sym (take_more turns place turn inside) in
    record {
      actions = so_far.actions ++ one.actions;
      driven = subst (λ ts. Drives begun.slots manager begun.flight 0 ts (answers ++ with_number place answered) (so_far.actions ++ one.actions) last after.flight) longer
          (subst (λ k. Drives begun.slots manager begun.flight 0 (take place turns ++ turn ∷ []) (answers ++ with_number k answered) (so_far.actions ++ one.actions) last after.flight) at more);
      events = one.events ∙ ap (λ (xs : List Action). xs ++ one.actions) so_far.events ∙ append_assoc begun.events so_far.actions one.actions;
      slots = one.slots ∙ so_far.slots;
    }
