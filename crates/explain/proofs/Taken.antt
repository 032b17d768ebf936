-- What a verdict does to an explanation.
use Rattle.std.proofs.Common.{◌≡◌, ℕ, Option, Some, None, Ok, Err, List, [], ◌∷◌, refl, ap}
use Rattle.rule_model.specs.declared.Rule.{Rule}
use Rattle.rule_store.specs.declared.BatchFault.{BatchFault}
use Rattle.rule_store.specs.declared.Command.{Command as Change}
use Rattle.rule_store.specs.declared.Mode.{Mode}
use Rattle.rule_store.specs.Batch.{batch_fault, set_after}
use Rattle.rule_store.specs.Verdict.{Verdict, Accepted, Unsound, OutOfBits, OutOfSlots, room_verdict, verdict, verdict_by}
use Rattle.readback.specs.declared.Rejection.{Rejection}
use Rattle.readback.specs.Judged.{judgement}
use Rattle.settled_changes.specs.declared.requested.Requested.TheVariants.{Nothing}
use Rattle.explain.specs.declared.explainer.Foretold.TheVariants as foretold
use Rattle.explain.specs.Rounds.{Explained}
use Rattle.explain.specs.Steps.{changes_of, committed, refused, tried}

-- an accepted batch is sound
sound_by : (fault : Option BatchFault) (room : Verdict) → verdict_by fault room ≡ Accepted → fault ≡ None
sound_by None room is = refl
sound_by (Some fault) room is = let bad : Unsound fault ≡ Accepted = is in absurd (cc)

pub accepted_sound : (slots : ℕ) (mode : Mode) (rules : List Rule) (batch : List Change) → verdict slots mode rules batch ≡ Accepted → batch_fault rules batch ≡ None
accepted_sound slots mode rules batch is = sound_by (batch_fault rules batch) (room_verdict slots mode rules batch) is

-- a rejected one leaves the set, and something is wrong
pub rejected_commit : (v : Verdict) (why : Rejection) (now : Explained) → judgement v ≡ Err why → committed v now ≡ refused now
rejected_commit Accepted why now is = let bad : Ok tt ≡ Err why = is in absurd (cc)
rejected_commit (Unsound fault) why now is = refl
rejected_commit (OutOfBits field needed free) why now is = refl
rejected_commit (OutOfSlots needed free) why now is = refl

pub rejected_trial : (number : ℕ) (batch : List Change) (v : Verdict) (why : Rejection) (now : Explained) → judgement v ≡ Err why → tried number batch v now ≡ refused now
rejected_trial number [] v why now is = rejected_commit v why now is
rejected_trial number (change ∷ changes) Accepted why now is = let bad : Ok tt ≡ Err why = is in absurd (cc)
rejected_trial number (change ∷ changes) (Unsound fault) why now is = refl
rejected_trial number (change ∷ changes) (OutOfBits field needed free) why now is = refl
rejected_trial number (change ∷ changes) (OutOfSlots needed free) why now is = refl

-- a batch that is taken changes the set
pub taken_commit : (v : Verdict) (now : Explained) → v ≡ Accepted → committed v now ≡ record now { rules = set_after now.rules (changes_of now); batch = []; asked = Nothing }
taken_commit v now is = ap (λ (w : Verdict). committed w now) is

-- and behind a trial with changes the set isn't known
pub taken_trial : (number : ℕ) (batch : List Change) (v : Verdict) (now : Explained) → v ≡ Accepted → (batch ≡ [] → ⊥) → tried number batch v now ≡ record now { batch = []; asked = Nothing; foretold = foretold.BehindTrial number }
taken_trial number [] v now is some = absurd (some refl)
taken_trial number (change ∷ changes) v now is some = ap (λ (w : Verdict). tried number (change ∷ changes) w now) is
