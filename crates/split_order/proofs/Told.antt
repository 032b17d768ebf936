-- What the manager tells of the part that is due, and of what is next.
use Rattle.std.proofs.Common.{◌≡◌, ℕ, suc, ◌≤◌, Bool, true, false, Option, None, Some, [], ◌∷◌, length, drop, slice_get, refl, sym, ◌∙◌, ap, subst, arith, le_refl}
use Rattle.rule_model.specs.declared.words.Entry.{Entry}
use Rattle.tcam_device.specs.declared.Write.{Write}
use Rattle.tcam_device.specs.declared.Write.TheVariants as whole
use Rattle.tcam_device.specs.State.{IsInUse}
use Rattle.tcam_device.specs.declared.Action.TheVariants as action
use Rattle.batch_order.specs.Managed.{HeldCommit}
use Rattle.batch_order.specs.Steps.{IsPlainlyForward, awaits_drain, next_of}
use Rattle.split_device.specs.declared.SplitAction.TheVariants.{Written, Drained}
use Rattle.split_device.specs.State.{IsSplitInUse, SplitState}
use Rattle.split_device.specs.declared.SplitWrite.{SplitWrite}
use Rattle.split_device.specs.Flight.{written}
use Rattle.split_device.specs.Drains.{SinceDrain, is_drain_due}
use Rattle.split_order.specs.declared.due.DuePart.{DuePart}
use Rattle.split_order.specs.declared.since.Since.{Since}
use Rattle.split_order.specs.declared.steps.Next.TheVariants as next
use Rattle.split_order.specs.Due.{due_parts}
use Rattle.split_order.specs.Kept.{IsCommitOrRest, IsSplitKept}
use Rattle.split_order.specs.Left.{left_of, left_of_held, since_of, state_on}
use Rattle.split_order.specs.Managed.{SplitManaged}
use Rattle.split_order.specs.Next.{IsFirstLeft, IsNext, IsPartDue}
use Rattle.split_order.specs.Since.{IsSince, StandsIn}
use Rattle.split_order.proofs.Advanced.{IsOfCommit, commit_of}
use Rattle.split_order.proofs.Behind.{first_is, part_next}
use Rattle.split_order.proofs.Dues.{due_in_use, due_is, standing_in}
use Rattle.split_order.proofs.Nexts.{HasDrain, behind, drains_first, has_drain, left_held, left_part, none_due, part_left, rest, stands_right}

module _ (since : Since) (left : ℕ) (m : SplitManaged) (kept : IsSplitKept since left m) where
  -- the part of the write that is due
  pub due_told : (write : Write) → next_of m.whole.held ≡ Some write → IsInUse m.whole.slots write → (standing : Option Entry) → standing ≡ standing_in m.whole.state write → (told : Option DuePart)
      → told ≡ slice_get (due_parts standing write) m.made → IsPartDue m told
  due_told write is_next inside standing stands told is = go told (is ∙ ap (λ held. slice_get (due_parts held write) m.made) stands)
    where
      go : (one : Option DuePart) → one ≡ slice_get (due_parts (standing_in m.whole.state write) write) m.made → IsPartDue m one
      go None none = absurd (
          let one : IsOfCommit m = commit_of m write kept.commit is_next in
          due_is m.whole.state write m.made (part_left m one.held one.under_way one.kept write is_next) (sym none))
      go (Some due) get = (write, is_next, inside, sym get)

  -- the planner's commit goes forward
  pub plainly : (write : Write) → next_of m.whole.held ≡ Some write → IsPlainlyForward m.whole.held
  plainly write is_next =
      let one : IsOfCommit m = commit_of m write kept.commit is_next in
      subst IsPlainlyForward (sym one.under_way) one.kept.forward

  module _ (due : DuePart) (is_due : IsPartDue m (Some due)) where
    one : IsOfCommit m
    one = commit_of m is_due.0 kept.commit is_due.1

    -- its slot is in use
    pub part_in_use : IsSplitInUse (length since.erased.items) due.part
    part_in_use = subst (λ n. IsSplitInUse n due.part) (sym kept.size) (due_in_use m.whole.slots m.whole.state is_due.0 m.made due is_due.2 is_due.3)

    -- a drain comes before it exactly where one is due, on each device
    module _ (waits : Bool) (told : (kept_since : SinceDrain) → IsSince since kept_since → (state : SplitState) → StandsIn state due.part due.stands → waits ≡ is_drain_due state kept_since due.part) where
      waits_on : (slots : ℕ) → m.whole.slots ≤ slots → waits ≡ is_drain_due (state_on slots m) (since_of m) due.part
      waits_on slots wide =
          told (since_of m) kept.since_is (state_on slots m)
          (stands_right m one.held one.under_way one.kept is_due.0 is_due.1 due is_due.3 slots (kept.on slots wide) (wider is_due.0 is_due.2))
        where
          wider : (write : Write) → IsInUse m.whole.slots write → IsInUse slots write
          wider (whole.Slot at entry) below = omega arith
          wider (whole.Table field port word) below = tt

      pub drain_first : waits ≡ true → IsNext m next.Drain
      drain_first so slots wide =
          first_is (left_of slots m) Drained _ (drains_first m one.held one.under_way one.kept is_due.0 is_due.1 due is_due.3 slots (sym (waits_on slots wide) ∙ so))

      pub part_first : waits ≡ false → IsNext m (next.Part due)
      part_first isnt = (
        is_due,
        λ slots wide. first_is (left_of slots m) (Written due.part) _
            (left_part m one.held one.under_way one.kept is_due.0 is_due.1 due is_due.3 slots
            ∙ part_next (state_on slots m) (since_of m) due.part (behind m one.held one.under_way one.kept is_due.0 is_due.1 due is_due.3) (rest m one.held one.under_way one.kept is_due.0 is_due.1 due is_due.3)
            (sym (waits_on slots wide) ∙ isnt)),
      )

  -- at least one part is left where one is next
  pub one_left : (part : SplitWrite) → IsFirstLeft m (Written part) → 1 ≤ left
  one_left part first =
      let was : left ≡ length (written (left_of m.whole.slots m)) = kept.left_is m.whole.slots (le_refl m.whole.slots) in
      let more : length (written (left_of m.whole.slots m)) ≡ suc (length (written (drop 1 (left_of m.whole.slots m)))) = ap (λ some. length (written some)) (first m.whole.slots (le_refl m.whole.slots)) in
      omega arith

  -- where no write is due the planner's drain is next, or nothing is left
  pub own_drain : awaits_drain m.whole.held ≡ true → IsNext m next.Drain
  own_drain awaits = go m.whole.held refl kept.commit awaits
    where
      go : (held : Option HeldCommit) → m.whole.held ≡ held → IsCommitOrRest m held → awaits_drain held ≡ true → IsNext m next.Drain
      go None is k so = absurd (let wrong : false ≡ true = so in cc)
      go (Some held) is k so = λ slots wide.
          let has : HasDrain held = has_drain held so in
          first_is (left_of slots m) Drained _ (left_held m held is k slots (action.Drained ∷ has.rest) has.actions_are)

  pub nothing_left : next_of m.whole.held ≡ None → awaits_drain m.whole.held ≡ false → IsNext m next.Nothing
  nothing_left none isnt = go m.whole.held refl kept.commit none isnt
    where
      go : (held : Option HeldCommit) → m.whole.held ≡ held → IsCommitOrRest m held → next_of held ≡ None → awaits_drain held ≡ false → IsNext m next.Nothing
      go None is k n a = λ slots wide. ap (left_of_held (state_on slots m) (since_of m) m.whole.state m.made) is
      go (Some held) is k n a = λ slots wide. left_held m held is k slots [] (none_due held n a)
