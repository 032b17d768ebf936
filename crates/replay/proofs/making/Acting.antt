-- The actions of a commit under way, one after the other, on the way there and on the way back.
use Rattle.std.proofs.Common.{◌≡◌, ℕ, zero, suc, ◌<◌, true, false, List, [], ◌∷◌, ◌++◌, Some, None, refl, sym, ap, ◌∙◌, subst, append_assoc, append-nil, arith}
use Rattle.tcam_device.specs.declared.Write.{Write}
use Rattle.tcam_device.specs.declared.Action.{Action}
use Rattle.tcam_device.specs.declared.Action.TheVariants.{Written, Drained}
use Rattle.tcam_device.specs.State.{State, apply, state_after}
use Rattle.tcam_device.specs.Flight.{writes_in}
use Rattle.tcam_device.specs.Insertion.{is_table_write}
use Rattle.commit_writes.specs.Bits.{FieldBits}
use Rattle.commit_writes.specs.Undo.{restoring, undo_writes}
use Rattle.commit_writes.specs.declared.Done.{Done}
use Rattle.batch_order.specs.declared.Step.{Step}
use Rattle.batch_order.specs.declared.Step.TheVariants as step
use Rattle.batch_order.specs.Managed.{HeldCommit, Managed, Way}
use Rattle.batch_order.specs.Managed.Way.{On, Back}
use Rattle.batch_order.specs.Steps.{Steps, StepsOn, awaits_drain, current_by, due_write, end_answer, is_back, is_drain_next, left_by, way_by}
use Rattle.replay.specs.Running.{MakesSome, held_after, way_after}

-- ---- what undoes the writes that were made

undo-append : (state : State) (a b : List Write) → undo_writes state (a ++ b) ≡ undo_writes (state_after state a) b ++ undo_writes state a
undo-append state [] b = sym (append-nil (undo_writes state b))
undo-append state (write ∷ a) b =
    ap (λ undo. undo ++ restoring state write ∷ []) (undo-append (apply state write) a b)
    ∙ append_assoc (undo_writes (state_after (apply state write) a) b) (undo_writes (apply state write) a) (restoring state write ∷ [])

pub way-then : (state : State) (a b : List Write) (way : Way) → way_after (state_after state a) b (way_after state a way) ≡ way_after state (a ++ b) way
way-then state a b (On undo) =
    ap On (sym (append_assoc (undo_writes (state_after state a) b) (undo_writes state a) undo) ∙ ap (λ writes. writes ++ undo) (sym (undo-append state a b)))
way-then state a b (Back undone) = refl

way-one : (state : State) (write : Write) (way : Way) → way_by state write way ≡ way_after state (write ∷ []) way
way-one state write (On undo) = refl
way-one state write (Back undone) = refl

pub way-none : (state : State) (way : Way) → way ≡ way_after state [] way
way-none state (On undo) = refl
way-none state (Back undone) = refl

pub same-back : (state : State) (writes : List Write) (way : Way) → is_back (way_after state writes way) ≡ is_back way
same-back state writes (On undo) = refl
same-back state writes (Back undone) = refl

-- ---- one action

-- the next action is made
pub record ActsOnce (now : Managed) (held : HeldCommit) (action : Action) (new : Managed) : Type 0 where
  pub left : List Action
  pub current : FieldBits
  pub is : held.actions ≡ action ∷ left
  pub new_is : new ≡ record now { state = state_after now.state (writes_in (action ∷ [])); held = Some (held_after now.state held (action ∷ []) left current) }

-- What a step does to a commit: it makes the next action, waits with a drain for the words in flight, or comes to the
-- end.
pub data GoesOn (now : Managed) (held : HeldCommit) (words : ℕ) (did : Step) (new : Managed) : Type 0 where
  Finishes : held.actions ≡ [] → is_back held.way ≡ false → did ≡ step.Finished held.counts → new ≡ record now { rules = held.rules; bits = held.bits; held = None } → GoesOn now held words did new
  Reverts : (undone : ℕ) → held.actions ≡ [] → is_back held.way ≡ true → did ≡ step.Reverted undone → new ≡ record now { held = None } → GoesOn now held words did new
  MakesWrite : (write : Write) → ActsOnce now held (Written write) new → did ≡ step.Wrote write → GoesOn now held words did new
  PassesDrain : ActsOnce now held Drained new → words ≡ 0 → did ≡ step.Drained → GoesOn now held words did new
  Waits : (left : List Action) → held.actions ≡ Drained ∷ left → awaits_drain (Some held) ≡ true → 0 < words → did ≡ step.Waiting words → new ≡ now → GoesOn now held words did new

module _ (now : Managed) (held : HeldCommit) (did : Step) (new : Managed) where
  ends-by : (words : ℕ) (way : Way) → held.way ≡ way → held.actions ≡ [] → did ≡ end_answer way held.counts → new ≡ left_by now held way → GoesOn now held words did new
  ends-by words (On undo) on none ended is = Finishes none (ap is_back on) ended is
  ends-by words (Back undone) back none ended is = Reverts undone none (ap is_back back) ended is

  goes-parts : (words : ℕ) (actions : List Action) → held.actions ≡ actions → StepsOn now held words actions did new → GoesOn now held words did new
  goes-parts words [] are on = ends-by words held.way refl are on.0 on.1
  goes-parts words (Written write ∷ actions) are on =
      let current = current_by now.bits held.current (is_table_write write) in
      MakesWrite write
      (record {
        left = actions;
        current = current;
        is = are;
        new_is = on.1 ∙ ap (λ (way : Way). record now { state = apply now.state write; held = Some (record held { actions = actions; way = way; current = current }) }) (way-one now.state write held.way);
      })
      on.0
  goes-parts zero (Drained ∷ actions) are on =
      PassesDrain
      (record {
        left = actions;
        current = held.during;
        is = are;
        new_is = on.1 ∙ ap (λ (way : Way). record now { held = Some (record held { actions = actions; way = way; current = held.during }) }) (way-none now.state held.way);
      })
      refl on.0
  goes-parts (suc words) (Drained ∷ actions) are on = Waits actions are (ap is_drain_next are) (omega arith) on.0 on.1

pub goes-on : (now : Managed) (held : HeldCommit) (words : ℕ) (did : Step) (new : Managed) → now.held ≡ Some held → Steps now words now.held did new → GoesOn now held words did new
goes-on now held words did new is steps = goes-parts now held did new words held.actions refl (subst (λ one. Steps now words one did new) is steps)

-- ---- some of the actions are made

-- the commit that is held then
abbrev pub one : (begun now : Managed) → MakesSome begun now → HeldCommit
one begun now some = held_after begun.state some.held some.made some.left some.current

pub some-held : (begun now : Managed) (some : MakesSome begun now) → now.held ≡ Some (one begun now some)
some-held begun now some = ap (λ (manager : Managed). manager.held) some.now_is

pub some-slots : (begun now : Managed) (some : MakesSome begun now) → now.slots ≡ begun.slots
some-slots begun now some = ap (λ (manager : Managed). manager.slots) some.now_is

-- the next write of a commit is the first of its actions
pub due-first : (actions : List Action) (write : Write) → due_write actions ≡ Some write → (left : List Action) × (actions ≡ Written write ∷ left)
due-first [] write due = absurd (cc)
due-first (Drained ∷ actions) write due = absurd (cc)
due-first (Written first ∷ actions) write due =
    let same : first ≡ write = let both : Some first ≡ Some write = due in cc in
    (actions, ap (λ one. Written one ∷ actions) same)

-- ---- what a step did, by its answer

module _ (now : Managed) (held : HeldCommit) (words : ℕ) (did : Step) (new : Managed) where
  -- a step that wrote made the first action that was left
  pub wrote-first : (write : Write) → GoesOn now held words did new → did ≡ step.Wrote write → ActsOnce now held (Written write) new
  wrote-first write (Finishes none on ended is) wrote = absurd (let bad : step.Finished held.counts ≡ step.Wrote write = sym ended ∙ wrote in cc)
  wrote-first write (Reverts undone none back ended is) wrote = absurd (let bad : step.Reverted undone ≡ step.Wrote write = sym ended ∙ wrote in cc)
  wrote-first write (MakesWrite first acts made) wrote =
      let same : first ≡ write = let both : step.Wrote first ≡ step.Wrote write = sym made ∙ wrote in cc in
      subst (λ one. ActsOnce now held (Written one) new) same acts
  wrote-first write (PassesDrain acts empty drained) wrote = absurd (let bad : step.Drained ≡ step.Wrote write = sym drained ∙ wrote in cc)
  wrote-first write (Waits left is awaits some waited stands) wrote = absurd (let bad : step.Waiting words ≡ step.Wrote write = sym waited ∙ wrote in cc)

  -- and so did one that drained, with no word in flight
  pub drained-first : GoesOn now held words did new → did ≡ step.Drained → ActsOnce now held Drained new × (words ≡ 0)
  drained-first (Finishes none on ended is) drained = absurd (let bad : step.Finished held.counts ≡ step.Drained = sym ended ∙ drained in cc)
  drained-first (Reverts undone none back ended is) drained = absurd (let bad : step.Reverted undone ≡ step.Drained = sym ended ∙ drained in cc)
  drained-first (MakesWrite first acts made) drained = absurd (let bad : step.Wrote first ≡ step.Drained = sym made ∙ drained in cc)
  drained-first (PassesDrain acts empty passed) drained = (acts, empty)
  drained-first (Waits left is awaits some waited stands) drained = absurd (let bad : step.Waiting words ≡ step.Drained = sym waited ∙ drained in cc)

  -- one that waited has a drain next
  pub waiting-first : (number : ℕ) → GoesOn now held words did new → did ≡ step.Waiting number
      → (left : List Action) × (held.actions ≡ Drained ∷ left) × (awaits_drain (Some held) ≡ true) × (new ≡ now)
  waiting-first number (Finishes none on ended is) waits = absurd (let bad : step.Finished held.counts ≡ step.Waiting number = sym ended ∙ waits in cc)
  waiting-first number (Reverts undone none back ended is) waits = absurd (let bad : step.Reverted undone ≡ step.Waiting number = sym ended ∙ waits in cc)
  waiting-first number (MakesWrite first acts made) waits = absurd (let bad : step.Wrote first ≡ step.Waiting number = sym made ∙ waits in cc)
  waiting-first number (PassesDrain acts empty passed) waits = absurd (let bad : step.Drained ≡ step.Waiting number = sym passed ∙ waits in cc)
  waiting-first number (Waits left is awaits some waited stands) waits = (left, is, awaits, stands)

  -- one that finished found none, and wasn't to be taken back
  pub finished-first : (counts : Done) → GoesOn now held words did new → did ≡ step.Finished counts
      → (held.actions ≡ []) × (is_back held.way ≡ false) × (counts ≡ held.counts) × (new ≡ record now { rules = held.rules; bits = held.bits; held = None })
  finished-first counts (Finishes none on ended is) finished =
      let both : step.Finished held.counts ≡ step.Finished counts = sym ended ∙ finished in
      let same : counts ≡ held.counts = cc in
      (none, on, same, is)
  finished-first counts (Reverts undone none back ended is) finished = absurd (let bad : step.Reverted undone ≡ step.Finished counts = sym ended ∙ finished in cc)
  finished-first counts (MakesWrite first acts made) finished = absurd (let bad : step.Wrote first ≡ step.Finished counts = sym made ∙ finished in cc)
  finished-first counts (PassesDrain acts empty drained) finished = absurd (let bad : step.Drained ≡ step.Finished counts = sym drained ∙ finished in cc)
  finished-first counts (Waits left is awaits some waited stands) finished = absurd (let bad : step.Waiting words ≡ step.Finished counts = sym waited ∙ finished in cc)

  -- one that took it back found none, and it was to be
  pub reverted-first : (number : ℕ) → GoesOn now held words did new → did ≡ step.Reverted number
      → (held.actions ≡ []) × (is_back held.way ≡ true) × (new ≡ record now { held = None })
  reverted-first number (Finishes none on ended is) reverted = absurd (let bad : step.Finished held.counts ≡ step.Reverted number = sym ended ∙ reverted in cc)
  reverted-first number (Reverts undone none back ended is) reverted = (none, back, is)
  reverted-first number (MakesWrite first acts made) reverted = absurd (let bad : step.Wrote first ≡ step.Reverted number = sym made ∙ reverted in cc)
  reverted-first number (PassesDrain acts empty drained) reverted = absurd (let bad : step.Drained ≡ step.Reverted number = sym drained ∙ reverted in cc)
  reverted-first number (Waits left is awaits some waited stands) reverted = absurd (let bad : step.Waiting words ≡ step.Reverted number = sym waited ∙ reverted in cc)

  -- nothing else comes of a step
  pub never-idle : GoesOn now held words did new → did ≡ step.Idle → ⊥
  never-idle (Finishes none on ended is) idle = let bad : step.Finished held.counts ≡ step.Idle = sym ended ∙ idle in absurd (cc)
  never-idle (Reverts undone none back ended is) idle = let bad : step.Reverted undone ≡ step.Idle = sym ended ∙ idle in absurd (cc)
  never-idle (MakesWrite first acts made) idle = let bad : step.Wrote first ≡ step.Idle = sym made ∙ idle in absurd (cc)
  never-idle (PassesDrain acts empty drained) idle = let bad : step.Drained ≡ step.Idle = sym drained ∙ idle in absurd (cc)
  never-idle (Waits left is awaits some waited stands) idle = let bad : step.Waiting words ≡ step.Idle = sym waited ∙ idle in absurd (cc)
