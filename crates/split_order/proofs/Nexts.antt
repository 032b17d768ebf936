-- What is next of a commit under way: a part, a drain, or nothing.
use Rattle.std.proofs.Common.{◌≡◌, ℕ, suc, ◌<◌, inl, inr, true, false, None, Some, List, [], ◌∷◌, length, drop, take, slice_get, refl, sym, ◌∙◌, ap, subst, arith}
use Rattle.tcam_device.specs.declared.Write.{Write}
use Rattle.tcam_device.specs.State.{IsInUse}
use Rattle.tcam_device.specs.declared.Action.{Action}
use Rattle.tcam_device.specs.declared.Action.TheVariants as action
use Rattle.batch_order.specs.Managed.{HeldCommit}
use Rattle.batch_order.specs.Steps.{awaits_drain, due_write, is_drain_next, next_of}
use Rattle.split_device.specs.declared.SplitAction.TheVariants.{Drained}
use Rattle.split_device.specs.declared.SplitWrite.{SplitWrite}
use Rattle.split_device.specs.State.{SplitState, split_after}
use Rattle.split_device.specs.Drains.{nothing_since, is_drain_due}
use Rattle.split_writes.specs.Parts.{write_parts}
use Rattle.split_order.specs.declared.due.DuePart.{DuePart}
use Rattle.split_order.specs.Due.{due_parts}
use Rattle.split_order.specs.Kept.{IsCommitKept, IsKeptOn, parts_due, parts_of_due}
use Rattle.split_order.specs.Left.{left_from, left_of, left_of_held, made_behind, since_of, state_on}
use Rattle.split_order.specs.Managed.{SplitManaged}
use Rattle.split_order.specs.Since.{StandsIn}
use Rattle.split_order.proofs.Behind.{drain_next}
use Rattle.split_order.proofs.Dues.{IsPlace, due_place, due_right, some_parts, standing_in}

-- a commit of which a write is due has it first
pub record HasWrite (held : HeldCommit) (write : Write) : Type 0 where
  pub rest : List Action
  pub actions_are : held.actions ≡ action.Written write ∷ rest

pub has_write : (held : HeldCommit) (write : Write) → next_of (Some held) ≡ Some write → HasWrite held write
has_write held write next = go held.actions refl next
  where
    go : (actions : List Action) → held.actions ≡ actions → due_write actions ≡ Some write → HasWrite held write
    go [] is due = absurd (let wrong : None ≡ Some write = due in cc)
    go (action.Written first ∷ rest) is due = let one : first ≡ write = cc in record { rest = rest; actions_are = is ∙ ap (λ w. action.Written w ∷ rest) one }
    go (action.Drained ∷ rest) is due = absurd (let wrong : None ≡ Some write = due in cc)

-- one whose drain is next has that first
pub record HasDrain (held : HeldCommit) : Type 0 where
  pub rest : List Action
  pub actions_are : held.actions ≡ action.Drained ∷ rest

pub has_drain : (held : HeldCommit) → awaits_drain (Some held) ≡ true → HasDrain held
has_drain held awaits = go held.actions refl awaits
  where
    go : (actions : List Action) → held.actions ≡ actions → is_drain_next actions ≡ true → HasDrain held
    go [] is due = absurd (let wrong : false ≡ true = due in cc)
    go (action.Written first ∷ rest) is due = absurd (let wrong : false ≡ true = due in cc)
    go (action.Drained ∷ rest) is due = record { rest = rest; actions_are = is }

-- and one of which nothing is due has no action left
pub none_due : (held : HeldCommit) → next_of (Some held) ≡ None → awaits_drain (Some held) ≡ false → held.actions ≡ []
none_due held next awaits = go held.actions next awaits
  where
    go : (actions : List Action) → due_write actions ≡ None → is_drain_next actions ≡ false → actions ≡ []
    go [] due drains = refl
    go (action.Written first ∷ rest) due drains = absurd (let wrong : Some first ≡ None = due in cc)
    go (action.Drained ∷ rest) due drains = absurd (let wrong : true ≡ false = drains in cc)

module _ (manager : SplitManaged) (held : HeldCommit) (under_way : manager.whole.held ≡ Some held) (kept : IsCommitKept manager held) where
  -- what is left is left of its actions
  pub left_held : (slots : ℕ) (actions : List Action) → held.actions ≡ actions
      → left_of slots manager ≡ left_from (state_on slots manager) (since_of manager) manager.whole.state manager.made actions
  left_held slots actions are =
      ap (left_of_held (state_on slots manager) (since_of manager) manager.whole.state manager.made) under_way
      ∙ ap (left_from (state_on slots manager) (since_of manager) manager.whole.state manager.made) are

  -- a part of the write that is due is left
  pub part_left : (write : Write) → next_of manager.whole.held ≡ Some write → manager.made < length (write_parts manager.whole.state write)
  part_left write next =
      let parts : parts_due manager ≡ write_parts manager.whole.state write = ap (parts_of_due manager.whole.state) next in
      elim kept.made [
        | inl none ↦ (let some = some_parts manager.whole.state write in omega arith)
        | inr below ↦ subst (λ some. manager.made < length some) parts below
      ]

  -- it is due, and with a drain before it or not it is the first that is left
  module _ (write : Write) (next : next_of manager.whole.held ≡ Some write) (due : DuePart)
      (get : slice_get (due_parts (standing_in manager.whole.state write) write) manager.made ≡ Some due) where
    abbrev has : HasWrite held write
    has = has_write held write (ap next_of (sym under_way) ∙ next)

    abbrev pub rest : List Action
    rest = has.rest

    pub place : IsPlace (write_parts manager.whole.state write) manager.made due
    place = due_place manager.whole.state write manager.made due get

    abbrev pub behind : List SplitWrite
    behind = drop (suc manager.made) (write_parts manager.whole.state write)

    pub left_part : (slots : ℕ) → left_of slots manager ≡ made_behind (state_on slots manager) (since_of manager) (due.part ∷ behind) rest
    left_part slots =
        left_held slots (action.Written write ∷ rest) has.actions_are
        ∙ ap (λ parts. made_behind (state_on slots manager) (since_of manager) parts rest) place.here

    pub drains_first : (slots : ℕ) → is_drain_due (state_on slots manager) (since_of manager) due.part ≡ true
        → left_of slots manager ≡ Drained ∷ made_behind (state_on slots manager) nothing_since (due.part ∷ behind) rest
    drains_first slots so = left_part slots ∙ drain_next (state_on slots manager) (since_of manager) due.part behind rest so

    -- what is told of its slot is right
    pub stands_right : (slots : ℕ) → IsKeptOn slots manager → IsInUse slots write → StandsIn (state_on slots manager) due.part due.stands
    stands_right slots on inside =
        let parts : parts_due manager ≡ write_parts manager.whole.state write = ap (parts_of_due manager.whole.state) next in
        subst (λ (s : SplitState). StandsIn s due.part due.stands) (sym (on.now_is ∙ ap (λ some. split_after on.before (take manager.made some)) parts))
        (due_right slots on.before manager.whole.state write manager.made due on.whole_is (subst (λ n. IsInUse n write) (sym on.size) inside) get)
