-- How far a commit has come while it is carried out, forward or back.
use Rattle.std.proofs.Common.{◌≡◌, ℕ, false, List, [], ◌∷◌, ◌++◌, drop, Some, None, Option, refl, sym, ap, ap₂, subst, ◌∙◌, append-nil, append_assoc}
use Rattle.std.specs.Prelude.{is_some}
use Rattle.std.proofs.lemmas.List.Sums.{fold-append}
use Rattle.rule_model.specs.declared.Rule.{Rule}
use Rattle.tcam_device.specs.declared.Write.{Write}
use Rattle.tcam_device.specs.declared.Action.{Action}
use Rattle.tcam_device.specs.declared.Action.TheVariants.{Written, Drained}
use Rattle.tcam_device.specs.State.{State, apply, state_after}
use Rattle.tcam_device.specs.Flight.{writes_in}
use Rattle.tcam_device.specs.Insertion.{is_table_write}
use Rattle.commit_writes.proofs.WritesIn.{writes_in-append}
use Rattle.commit_writes.specs.Bits.{FieldBits}
use Rattle.commit_writes.specs.declared.Done.{Done}
use Rattle.batch_order.specs.declared.Step.{Step}
use Rattle.batch_order.specs.declared.Step.TheVariants as step
use Rattle.batch_order.specs.Managed.{Managed, HeldCommit}
use Rattle.batch_order.specs.Managed.Way.{Back}
use Rattle.batch_order.specs.Steps.{Steps, actions_of, current_by, is_back, left_by, way_by}
use Rattle.batch_order.specs.CarriedOut.{GoesForward, Reverts, acted, acted_by, acted_on, actions_left, ahead, ahead_of, done_of, finished, finished_of}
use Rattle.batch_order.proofs.under_way.Stepped.{HasStepped, drained_on, left_held, no_actions, not_idle, stepped, written_on}
use Rattle.batch_order.proofs.under_way.Ways.{back_undone, ended_forward, ends_forward, ends_turned, same_undone, undone_back, undone_by}

-- an action as the manager makes it
pub acted_one : (now : Managed) (one : HeldCommit) (action : Action) → now.held ≡ Some one → acted_by now action ≡ acted_on now one action
acted_one now one action under = ap (λ (h : Option HeldCommit). elim h [ None ↦ now | Some held ↦ acted_on now held action ]) under

-- some first part of a commit's actions was made
pub record IsPart (old : Managed) (held : HeldCommit) (made : List Action) (now : Managed) : Type 0 where
  pub one : HeldCommit
  pub under_way : now.held ≡ Some one
  pub parts : made ++ one.actions ≡ held.actions
  pub turned : undone_by one.way ≡ undone_by held.way
  pub counts : one.counts ≡ held.counts
  pub rules : one.rules ≡ held.rules
  pub bits : one.bits ≡ held.bits
  pub now_is : now ≡ record old { state = state_after old.state (writes_in made); held = Some one }
  pub acted_is : now ≡ acted old made

-- the same also where no commit is under way: then none was made, and nothing changed
abbrev pub Onward : Managed → Option HeldCommit → List Action → Managed → Type 0
Onward old None made now = (made ≡ []) × (now ≡ old)
Onward old (Some held) made now = IsPart old held made now

pub start : (manager : Managed) (held : Option HeldCommit) → manager.held ≡ held → Onward manager held [] manager
start manager None is = (refl, refl)
start manager (Some held) is = record {
  one = held;
  under_way = is;
  parts = refl;
  turned = refl;
  counts = refl;
  rules = refl;
  bits = refl;
  now_is = ap (λ (h : Option HeldCommit). record manager { held = h }) is;
  acted_is = refl;
}

-- what one action of a commit under way leaves
record HasActed (now : Managed) (one : HeldCommit) (action : Action) (new : Managed) : Type 0 where
  next : HeldCommit
  new_is : new ≡ record now { state = state_after now.state (writes_in (action ∷ [])); held = Some next }
  due : one.actions ≡ action ∷ next.actions
  turned : undone_by next.way ≡ undone_by one.way
  counts : next.counts ≡ one.counts
  rules : next.rules ≡ one.rules
  bits : next.bits ≡ one.bits
  acted_is : new ≡ acted_by now action

has_acted : (now : Managed) (words : ℕ) (one : HeldCommit) (made : Step) (new : Managed) (action : Action) → now.held ≡ Some one → actions_of made ≡ action ∷ []
    → HasStepped now words one made new → HasActed now one action new
has_acted now words one made new action under acts (HasStepped.End actions did is) =
    absurd (let clash : [] ≡ action ∷ [] = sym (ap actions_of did ∙ no_actions one.way one) ∙ acts in cc)
has_acted now words one made new action under acts (HasStepped.Wrote write actions rest did is) =
    let read : Written write ∷ [] ≡ action ∷ [] = ap actions_of (sym did) ∙ acts in
    let same : Written write ≡ action = cc in
    let next : HeldCommit = record one { actions = actions; way = way_by now.state write one.way; current = current_by now.bits one.current (is_table_write write) } in
    subst (λ a. HasActed now one a new) same (record {
      next = next;
      new_is = is;
      due = rest;
      turned = same_undone now.state write one.way;
      counts = refl;
      rules = refl;
      bits = refl;
      acted_is = is ∙ ap (λ xs. written_on now one write (drop 1 xs)) (sym rest) ∙ sym (acted_one now one (Written write) under);
    })
has_acted now words one made new action under acts (HasStepped.Drain actions rest did is) =
    let read : Drained ∷ [] ≡ action ∷ [] = ap actions_of (sym did) ∙ acts in
    let same : Drained ≡ action = cc in
    let next : HeldCommit = record one { actions = actions; current = one.during } in
    subst (λ a. HasActed now one a new) same (record {
      next = next;
      new_is = is;
      due = rest;
      turned = refl;
      counts = refl;
      rules = refl;
      bits = refl;
      acted_is = is ∙ ap (λ xs. drained_on now one (drop 1 xs)) (sym rest) ∙ sym (acted_one now one Drained under);
    })
has_acted now words one made new action under acts (HasStepped.Wait actions more rest flying did is) = absurd (let clash : [] ≡ action ∷ [] = ap actions_of (sym did) ∙ acts in cc)

-- a step of the commit that is under way
pub over : (now new : Managed) (words : ℕ) (one : HeldCommit) (made : Step) → now.held ≡ Some one → Steps now words now.held made new → HasStepped now words one made new
over now new words one made under steps = stepped now words one made new (subst (λ (h : Option HeldCommit). Steps now words h made new) under steps)

-- one action more
pub acts_on : (old now new : Managed) (words : ℕ) (held : Option HeldCommit) (made : List Action) (did : Step) (action : Action) → old.held ≡ held → Onward old held made now
    → actions_of did ≡ action ∷ [] → Steps now words now.held did new → Onward old held (made ++ action ∷ []) new
acts_on old now new words None made did action is was acts steps =
    let none : now.held ≡ None = ap (λ (m : Managed). m.held) was.1 ∙ is in
    let idle : Steps now words None did new = subst (λ (h : Option HeldCommit). Steps now words h did new) none steps in
    absurd (let clash : [] ≡ action ∷ [] = ap actions_of (sym idle.0) ∙ acts in cc)
acts_on old now new words (Some held) made did action is was acts steps =
    let more = has_acted now words was.one did new action was.under_way acts (over now new words was.one did was.under_way steps) in
    let state : state_after (state_after old.state (writes_in made)) (writes_in (action ∷ [])) ≡ state_after old.state (writes_in (made ++ action ∷ [])) =
    sym (ap (state_after old.state) (writes_in-append made (action ∷ [])) ∙ fold-append apply old.state (writes_in made) (writes_in (action ∷ []))) in
    record {
      one = more.next;
      under_way = ap (λ (m : Managed). m.held) more.new_is;
      parts = append_assoc made (action ∷ []) more.next.actions ∙ (ap (λ xs. made ++ xs) (sym more.due) ∙ was.parts);
      turned = more.turned ∙ was.turned;
      counts = more.counts ∙ was.counts;
      rules = more.rules ∙ was.rules;
      bits = more.bits ∙ was.bits;
      now_is =
          more.new_is ∙ ap (λ (m : Managed). record m { state = state_after m.state (writes_in (action ∷ [])); held = Some more.next }) was.now_is
          ∙ ap (λ (s : State). record old { state = s; held = Some more.next }) state;
      acted_is = more.acted_is ∙ (ap (λ (m : Managed). acted_by m action) was.acted_is ∙ sym (fold-append acted_by old made (action ∷ [])));
    }

-- where it was taken back: all undo writes were made
pub record HasReverted (old new : Managed) (made : List Action) (before after : List Write) (undone : ℕ) : Type 0 where
  pub reverts : Reverts old new before after undone
  pub all : made ≡ actions_left old.held
  pub idle : new.held ≡ None

pub reverted : (old now new : Managed) (words undone : ℕ) (held : Option HeldCommit) (made : List Action) (before after : List Write) → old.held ≡ held → Onward old held made now
    → Steps now words now.held (step.Reverted undone) new → after ≡ before ++ writes_in made → HasReverted old new made before after undone
reverted old now new words undone None made before after is was steps journal =
    let none : now.held ≡ None = ap (λ (m : Managed). m.held) was.1 ∙ is in
    let idle : Steps now words None (step.Reverted undone) new = subst (λ (h : Option HeldCommit). Steps now words h (step.Reverted undone) new) none steps in
    absurd (let clash = idle.0 in cc)
reverted old now new words undone (Some held) made before after is was steps journal = go (over now new words was.one (step.Reverted undone) was.under_way steps)
  where
    go : HasStepped now words was.one (step.Reverted undone) new → HasReverted old new made before after undone
    go (HasStepped.End rest did new_is) =
        let goes : was.one.way ≡ Back undone = ends_turned was.one.way was.one.counts undone did in
        let way : held.way ≡ Back undone = undone_back held.way undone (sym was.turned ∙ ap undone_by goes) in
        let all : made ≡ held.actions = sym (append-nil made) ∙ ap (λ xs. made ++ xs) (sym rest) ∙ was.parts in
        record {
          reverts = record {
            held = held;
            under_way = is;
            turned = way;
            new_is = new_is ∙ ap (left_by now was.one) goes ∙ ap (λ (m : Managed). record m { held = None }) was.now_is
                ∙ ap (λ (xs : List Action). record old { state = state_after old.state (writes_in xs); held = None }) all;
            journal = journal ∙ ap (λ xs. before ++ writes_in xs) all;
          };
          all = all ∙ ap actions_left (sym is);
          idle = ap (λ (m : Managed). m.held) new_is ∙ left_held now was.one was.one.way;
        }
    go (HasStepped.Wrote write actions rest did new_is) = absurd (let clash = did in cc)
    go (HasStepped.Drain actions rest did new_is) = absurd (let clash = did in cc)
    go (HasStepped.Wait actions more rest flying did new_is) = absurd (let clash = did in cc)

-- where it has come to its end forward, or none was under way
pub record HasEnded (old new : Managed) (counts : Done) : Type 0 where
  pub done : counts ≡ done_of old.held
  pub forward : GoesForward old.held
  pub finished : new ≡ finished old

pub has_finished : (old now new : Managed) (words : ℕ) (counts : Done) (held : Option HeldCommit) (made : List Action) → old.held ≡ held → Onward old held made now
    → Steps now words now.held (step.Finished counts) new → HasEnded old new counts
has_finished old now new words counts None made is was steps =
    let none : now.held ≡ None = ap (λ (m : Managed). m.held) was.1 ∙ is in
    let idle : Steps now words None (step.Finished counts) new = subst (λ (h : Option HeldCommit). Steps now words h (step.Finished counts) new) none steps in
    absurd (let clash = idle.0 in cc)
has_finished old now new words counts (Some held) made is was steps = go (over now new words was.one (step.Finished counts) was.under_way steps)
  where
    go : HasStepped now words was.one (step.Finished counts) new → HasEnded old new counts
    go (HasStepped.End rest did new_is) =
        let ends = ends_forward was.one.way was.one.counts counts did in
        let way : is_back held.way ≡ false = back_undone held.way ∙ ap is_some (sym was.turned) ∙ sym (back_undone was.one.way) ∙ ends.0 in
        let all : made ≡ held.actions = sym (append-nil made) ∙ ap (λ xs. made ++ xs) (sym rest) ∙ was.parts in
        let left = ended_forward now was.one was.one.way ends.0 in
        record {
          done = ends.1 ∙ was.counts ∙ ap done_of (sym is);
          forward = subst GoesForward (sym is) way;
          finished = new_is ∙ left.1 ∙ ap (λ (m : Managed). record m { rules = was.one.rules; bits = was.one.bits; held = None }) was.now_is
              ∙ ap₂ (λ (r : List Rule) (b : FieldBits). record old { rules = r; bits = b; state = state_after old.state (writes_in made); held = None }) was.rules was.bits
              ∙ ap (λ (xs : List Action). record old { rules = held.rules; bits = held.bits; state = state_after old.state (writes_in xs); held = None }) all
              ∙ ap (λ (h : Option HeldCommit). finished_of h old) (sym is);
        }
    go (HasStepped.Wrote write actions rest did new_is) = absurd (let clash = did in cc)
    go (HasStepped.Drain actions rest did new_is) = absurd (let clash = did in cc)
    go (HasStepped.Wait actions more rest flying did new_is) = absurd (let clash = did in cc)

pub has_idled : (old now new : Managed) (words : ℕ) (held : Option HeldCommit) (made : List Action) → old.held ≡ held → Onward old held made now
    → Steps now words now.held step.Idle new → HasEnded old new (record { writes = 0; words = 0; most = 0; span = 0 })
has_idled old now new words None made is was steps =
    let none : now.held ≡ None = ap (λ (m : Managed). m.held) was.1 ∙ is in
    let idle : Steps now words None step.Idle new = subst (λ (h : Option HeldCommit). Steps now words h step.Idle new) none steps in
    record {
      done = ap done_of (sym is);
      forward = subst GoesForward (sym is) tt;
      finished = idle.1 ∙ was.1 ∙ ap (λ (h : Option HeldCommit). record old { held = h }) is ∙ ap (λ (h : Option HeldCommit). finished_of h old) (sym is);
    }
has_idled old now new words (Some held) made is was steps = go (over now new words was.one step.Idle was.under_way steps)
  where
    go : HasStepped now words was.one step.Idle new → HasEnded old new (record { writes = 0; words = 0; most = 0; span = 0 })
    go (HasStepped.End rest did new_is) = absurd (not_idle was.one.way was.one did)
    go (HasStepped.Wrote write actions rest did new_is) = absurd (let clash = did in cc)
    go (HasStepped.Drain actions rest did new_is) = absurd (let clash = did in cc)
    go (HasStepped.Wait actions more rest flying did new_is) = absurd (let clash = did in cc)

-- what is carried on keeps the rules, those ahead and the slots
pub record IsSame (old now : Managed) : Type 0 where
  pub slots : now.slots ≡ old.slots
  pub rules : now.rules ≡ old.rules
  pub ahead : ahead now ≡ ahead old

pub same : (old now : Managed) (held : Option HeldCommit) (made : List Action) → old.held ≡ held → Onward old held made now → IsSame old now
same old now None made is was =
    record { slots = ap (λ (m : Managed). m.slots) was.1; rules = ap (λ (m : Managed). m.rules) was.1; ahead = ap ahead was.1 }
same old now (Some held) made is was = record {
  slots = ap (λ (m : Managed). m.slots) was.now_is;
  rules = ap (λ (m : Managed). m.rules) was.now_is;
  ahead = ap ahead was.now_is ∙ was.rules ∙ ap (λ (h : Option HeldCommit). ahead_of h old.rules) (sym is);
}

-- what was made and what is left are what was due
pub made_and_left : (old now : Managed) (held : Option HeldCommit) (made : List Action) → old.held ≡ held → Onward old held made now
    → made ++ actions_left now.held ≡ actions_left old.held
made_and_left old now None made is was = ap₂ (λ (xs : List Action) (m : Managed). xs ++ actions_left m.held) was.0 was.1
made_and_left old now (Some held) made is was =
    ap (λ (h : Option HeldCommit). made ++ actions_left h) was.under_way ∙ was.parts ∙ ap actions_left (sym is)

-- a step that does nothing to the device leaves as much to do
still_due : (now new : Managed) (words : ℕ) (one : HeldCommit) (did : Step) → now.held ≡ Some one → actions_of did ≡ [] → HasStepped now words one did new
    → actions_left new.held ≡ actions_left now.held
still_due now new words one did under acts (HasStepped.End actions made is) =
    ap (λ (m : Managed). actions_left m.held) is ∙ ap actions_left (left_held now one one.way) ∙ sym (ap actions_left under ∙ actions)
still_due now new words one did under acts (HasStepped.Wrote write actions rest made is) = absurd (let clash : Written write ∷ [] ≡ [] = ap actions_of (sym made) ∙ acts in cc)
still_due now new words one did under acts (HasStepped.Drain actions rest made is) = absurd (let clash : Drained ∷ [] ≡ [] = ap actions_of (sym made) ∙ acts in cc)
still_due now new words one did under acts (HasStepped.Wait actions more rest flying made is) = ap (λ (m : Managed). actions_left m.held) is

pub still_left : (now new : Managed) (words : ℕ) (did : Step) (held : Option HeldCommit) → now.held ≡ held → actions_of did ≡ [] → Steps now words held did new
    → actions_left new.held ≡ actions_left now.held
still_left now new words did None is acts steps = ap (λ (m : Managed). actions_left m.held) steps.1
still_left now new words did (Some one) is acts steps = still_due now new words one did is acts (stepped now words one did new steps)
