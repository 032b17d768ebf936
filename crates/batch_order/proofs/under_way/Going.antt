-- A commit under way goes on over each step, and it is one course still once it is turned round.
use Rattle.std.proofs.Common.{◌≡◌, ℕ, Bool, true, false, Result, Option, Some, None, List, [], ◌∷◌, map, refl, sym, ap, subst, ◌∙◌}
use Rattle.std.specs.Prelude.{IfSome}
use Rattle.rule_model.specs.declared.Field.TheVariants.{Src, Dst}
use Rattle.rule_model.specs.declared.Rule.{Rule}
use Rattle.tcam_device.specs.declared.Write.{Write}
use Rattle.tcam_device.specs.declared.Write.TheVariants.{Slot, Table}
use Rattle.tcam_device.specs.declared.Action.{Action}
use Rattle.tcam_device.specs.declared.Action.TheVariants.{Written, Drained}
use Rattle.tcam_device.specs.State.{State, apply}
use Rattle.tcam_device.specs.Insertion.{is_table_write}
use Rattle.commit_writes.specs.Bits.{FieldBits}
use Rattle.commit_writes.specs.InFlight.{ArePartOf}
use Rattle.commit_writes.specs.Undo.{restoring}
use Rattle.commit_writes.proofs.Led.{same_part}
use Rattle.commit_writes.proofs.Undone.{restored}
use Rattle.batch_order.specs.declared.AbortFault.{AbortFault}
use Rattle.batch_order.specs.declared.Step.{Step}
use Rattle.batch_order.specs.Going.{Around, AreWords, CanTurnIf, GoesOn, HasGoing, IsGoing, Stands, around}
use Rattle.batch_order.specs.Managed.{HeldCommit, Managed, Way}
use Rattle.batch_order.specs.Managed.Way.{On, Back}
use Rattle.batch_order.specs.Steps.{Aborts, Steps, TurnsBack, TurnsPrepared, current_by, due_write, going_back, is_back, left_by, way_by}
use Rattle.batch_order.specs.Turning.{has_drain, has_word}
use Rattle.batch_order.proofs.back.Turned.{writes_leave_current}
use Rattle.batch_order.proofs.under_way.Stepped.{HasStepped, same_way, stepped}
use Rattle.batch_order.proofs.under_way.Ways.{written_alone}

-- what puts a write's slot or word back is of its kind
pub restoring_kind : (state : State) (write : Write) → is_table_write (restoring state write) ≡ is_table_write write
restoring_kind state (Slot at entry) = refl
restoring_kind state (Table Src port word) = refl
restoring_kind state (Table Dst port word) = refl

-- where it goes on from it stands
pub stands : (all : Around) (current : FieldBits) (state : State) (actions : List Action) → GoesOn all current state actions → Stands all current state
stands all current state [] goes = goes
stands all current state (Written write ∷ actions) goes = goes.0
stands all current state (Drained ∷ actions) goes = goes.0

-- also where the next write is made already
pub stands_ahead : (all : Around) (current : FieldBits) (state : State) (actions : List Action) (write : Write) → due_write actions ≡ Some write → GoesOn all current state actions
    → Stands all (current_by all.before current (is_table_write write)) (apply state write)
stands_ahead all current state [] write due goes = absurd (let clash : None ≡ Some write = due in cc)
stands_ahead all current state (Written one ∷ actions) write due goes =
    let same : one ≡ write = cc in
    subst (λ (w : Write). Stands all (current_by all.before current (is_table_write w)) (apply state w)) same
    (stands all (current_by all.before current (is_table_write one)) (apply state one) actions goes.1)
stands_ahead all current state (Drained ∷ actions) write due goes = absurd (let clash : None ≡ Some write = due in cc)

-- a write and what undoes it leave the current ranges as they were
twice_back : (before current : FieldBits) (table : Bool) → (table ≡ true → current ≡ before) → current_by before (current_by before current table) table ≡ current
twice_back before current true is = sym (is refl)
twice_back before current false is = refl

-- the undo writes with one more
returns_more : (all : Around) (current : FieldBits) (state : State) (write : Write) (undo : List Write)
    → (is_table_write write ≡ true → current ≡ all.before) → Stands all (current_by all.before current (is_table_write write)) (apply state write)
    → GoesOn all current state (map Written undo)
    → GoesOn all (current_by all.before current (is_table_write write)) (apply state write) (map Written (restoring state write ∷ undo))
returns_more all current state write undo before here goes = (
  here,
  subst (λ (b : Bool). GoesOn all (current_by all.before (current_by all.before current (is_table_write write)) b) (apply (apply state write) (restoring state write)) (map Written undo)) (sym (restoring_kind state write))
      (subst (λ (c : FieldBits). GoesOn all c (apply (apply state write) (restoring state write)) (map Written undo)) (sym (twice_back all.before current (is_table_write write) before))
      (subst (λ (s : State). GoesOn all current s (map Written undo)) (sym (restored state write)) goes)),
)

least_then : (before current : FieldBits) (table : Bool) → ArePartOf before current → ArePartOf before (current_by before current table)
least_then before current true least = same_part before
least_then before current false least = least

-- a word, or one behind it, is one of those to come
pub is_word : (write : Write) (actions : List Action) → is_table_write write ≡ true → has_word (Written write ∷ actions) ≡ true
is_word write actions is = ap (λ b. elim b [ true ↦ true | false ↦ has_word actions ]) is

pub word_behind : (write : Write) (actions : List Action) → has_word actions ≡ true → has_word (Written write ∷ actions) ≡ true
word_behind write actions more = go (is_table_write write)
  where
    go : (b : Bool) → (elim b [ true ↦ true | false ↦ has_word actions ]) ≡ true
    go true = refl
    go false = more

module _ (slots : ℕ) (rules : List Rule) (before : FieldBits) (state : State) (held : HeldCommit) (going : IsGoing slots rules before state held) where
  abbrev all : Around
  all = around slots rules before held

  -- A write of it leaves a course, either way;
  pub writes_go_on : (write : Write) (actions : List Action) → held.actions ≡ Written write ∷ actions
      → IsGoing slots rules before (apply state write) (record held { actions = actions; way = way_by state write held.way; current = current_by before held.current (is_table_write write) })
  writes_go_on write actions rest = record {
    right = record {
      meanwhile = going.right.meanwhile;
      left = going.right.left;
      least = least_then before held.current (is_table_write write) going.right.least;
      words = λ forward more.
          writes_leave_current before held write actions going.right (on forward) rest
          ∙ going.right.words (on forward) (ap has_word rest ∙ word_behind write actions more);
      drained = λ forward none. subst (ArePartOf held.during) (sym (writes_leave_current before held write actions going.right (on forward) rest))
          (going.right.drained (on forward) (ap has_drain rest ∙ none));
      undrained = λ back. sym (ap has_drain rest) ∙ going.right.undrained (sym (same_way state write held.way) ∙ back);
    };
    goes = goes.1;
    turns = turned held.way refl (subst (λ (left : List Action). CanTurnIf all held.current state left held.way) rest going.turns);
  }
    where
      on : is_back (way_by state write held.way) ≡ false → is_back held.way ≡ false
      on forward = sym (same_way state write held.way) ∙ forward

      goes : GoesOn all held.current state (Written write ∷ actions)
      goes = subst (GoesOn all held.current state) rest going.goes

      turned : (way : Way) → held.way ≡ way → CanTurnIf all held.current state (Written write ∷ actions) way
          → CanTurnIf all (current_by before held.current (is_table_write write)) (apply state write) actions (way_by state write way)
      turned (On undo) is turns = record {
        returns = returns_more all held.current state write undo (λ table. going.right.words (ap is_back is) (ap has_word rest ∙ is_word write actions table))
            (stands all (current_by before held.current (is_table_write write)) (apply state write) actions goes.1) turns.returns;
        in_order = turns.in_order.1;
        words = λ more. (restoring_kind state write ∙ turns.in_order.0 more, turns.words more);
      }
      turned (Back undone) is turns = tt

  -- so does its drain, which is due only on the way on;
  pub drains_go_on : (actions : List Action) → held.actions ≡ Drained ∷ actions → IsGoing slots rules before state (record held { actions = actions; current = held.during })
  drains_go_on actions rest = go held.way refl (subst (λ (left : List Action). CanTurnIf all held.current state left held.way) rest going.turns)
    where
      goes : GoesOn all held.current state (Drained ∷ actions)
      goes = subst (GoesOn all held.current state) rest going.goes

      -- with words alone to undo the way back is one behind the drain too
      drained_back : (undo : List Write) → AreWords undo → GoesOn all held.current state (map Written undo) → GoesOn all held.during state (map Written undo)
      drained_back [] words back = stands all held.during state actions goes.1
      drained_back (write ∷ undo) words back = (
        stands all held.during state actions goes.1,
        subst (λ (b : Bool). GoesOn all (current_by before held.during b) (apply state write) (map Written undo)) (sym words.0)
            (subst (λ (b : Bool). GoesOn all (current_by before held.current b) (apply state write) (map Written undo)) words.0 back.1),
      )

      go : (way : Way) → held.way ≡ way → CanTurnIf all held.current state (Drained ∷ actions) way → IsGoing slots rules before state (record held { actions = actions; current = held.during })
      go (On undo) is turns = record {
        right = record {
          meanwhile = going.right.meanwhile;
          left = going.right.left;
          least = going.right.meanwhile;
          words = λ forward more. absurd (let clash : false ≡ true = sym turns.in_order.1 ∙ more in cc);
          drained = λ forward none. same_part held.during;
          undrained = λ back. turns.in_order.0;
        };
        goes = goes.1;
        turns = subst (CanTurnIf all held.during state actions) (sym is) record {
          returns = drained_back undo (turns.words refl) turns.returns;
          in_order = turns.in_order.2;
          words = λ more. absurd (let clash : false ≡ true = sym turns.in_order.0 ∙ more in cc);
        };
      }
      go (Back undone) is turns = absurd (let clash : false ≡ true = sym (going.right.undrained (ap is_back is)) ∙ ap has_drain rest in cc)

  -- and what takes it back is one.
  pub hands_over : (undo : List Write) → held.way ≡ On undo → IsGoing slots rules before state (going_back held undo)
  hands_over undo is =
      let turns = subst (CanTurnIf all held.current state held.actions) is going.turns in
      record {
        right = record {
          meanwhile = going.right.meanwhile;
          left = going.right.left;
          least = going.right.least;
          words = λ forward more. absurd (let clash : true ≡ false = forward in cc);
          drained = λ forward none. absurd (let clash : true ≡ false = forward in cc);
          undrained = λ back. written_alone undo;
        };
        goes = turns.returns;
        turns = tt;
      }

-- A step keeps it,
pub steps_keep_going : (old : Managed) (words : ℕ) (made : Step) (new : Managed) → HasGoing old → Steps old words old.held made new → HasGoing new
steps_keep_going old words made new going steps = go old.held refl going steps
  where
    go : (h : Option HeldCommit) → old.held ≡ h → IfSome h (λ held. IsGoing old.slots old.rules old.bits old.state held) → Steps old words h made new → HasGoing new
    go None under going steps = subst HasGoing (sym steps.1) (subst (λ (h : Option HeldCommit). IfSome h (λ held. IsGoing old.slots old.rules old.bits old.state held)) (sym under) tt)
    go (Some held) under going steps = by (stepped old words held made new steps)
      where
        ended : (way : Way) → HasGoing (left_by old held way)
        ended (On undo) = tt
        ended (Back undone) = tt

        by : HasStepped old words held made new → HasGoing new
        by (HasStepped.End rest did is) = subst HasGoing (sym is) (ended held.way)
        by (HasStepped.Wrote write actions rest did is) = subst HasGoing (sym is) (writes_go_on old.slots old.rules old.bits old.state held going write actions rest)
        by (HasStepped.Drain actions rest did is) = subst HasGoing (sym is) (drains_go_on old.slots old.rules old.bits old.state held going actions rest)
        by (HasStepped.Wait actions more rest flying did is) =
            subst HasGoing (sym is) (subst (λ (h : Option HeldCommit). IfSome h (λ one. IsGoing old.slots old.rules old.bits old.state one)) (sym under) going)

-- and so does whoever turns it round.
pub turns_keep_going : (old : Managed) (result : Result ℕ AbortFault) (new : Managed) → HasGoing old → Aborts old old.held result new → HasGoing new
turns_keep_going old result new going did = go old.held refl going did
  where
    same : new ≡ old → HasGoing new
    same is = subst HasGoing (sym is) going

    go : (h : Option HeldCommit) → old.held ≡ h → IfSome h (λ held. IsGoing old.slots old.rules old.bits old.state held) → Aborts old h result new → HasGoing new
    go None under here did = same did.1
    go (Some held) under here did = by held.prepared did
      where
        turns : (way : Way) → held.way ≡ way → TurnsBack old held way result new → HasGoing new
        turns (On undo) is did = subst HasGoing (sym did.1) (hands_over old.slots old.rules old.bits old.state held here undo is)
        turns (Back undone) is did = same did.1

        by : (b : Bool) → TurnsPrepared old held b result new → HasGoing new
        by true did = turns held.way refl did
        by false did = same did.1
