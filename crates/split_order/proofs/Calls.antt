-- What the calls of the manager tell, from what it keeps.
use Rattle.std.proofs.Common.{◌≡◌, ℕ, ◌≤◌, Bool, true, false, Option, None, Some, length, refl, sym, ◌∙◌, ap, subst}
use Rattle.std.specs.Prelude.{option_map}
use Rattle.batch_order.specs.Managed.{HeldCommit, Managed}
use Rattle.batch_order.specs.Steps.{cancelled}
use Rattle.split_device.specs.Flight.{written}
use Rattle.split_writes.specs.declared.SplitDone.{SplitDone}
use Rattle.split_order.specs.declared.since.Since.{Since}
use Rattle.split_order.specs.Kept.{IsCommitOrRest, IsRest, IsSplitKept}
use Rattle.split_order.specs.Left.{left_of}
use Rattle.split_order.specs.Managed.{SplitManaged, at_rest}
use Rattle.split_order.proofs.Rested.{rested}

module _ (since : Since) (left : ℕ) (m : SplitManaged) (kept : IsSplitKept since left m) where
  -- how many parts are left
  pub left_told : (whole_left : Option ℕ) (count : HeldCommit → ℕ) (n : ℕ) → whole_left ≡ Some n → whole_left ≡ option_map count m.whole.held → (slots : ℕ) → m.whole.slots ≤ slots
      → Some left ≡ option_map (λ (held : HeldCommit). length (written (left_of slots m))) m.whole.held
  left_told whole_left count n is told slots wide = go m.whole.held (sym is ∙ told)
    where
      go : (held : Option HeldCommit) → Some n ≡ option_map count held → Some left ≡ option_map (λ (one : HeldCommit). length (written (left_of slots m))) held
      go None wrong = absurd (cc)
      go (Some held) same = ap (λ (k : ℕ). Some k) (kept.left_is slots wide)

  pub none_told : (whole_left : Option ℕ) (count : HeldCommit → ℕ) → whole_left ≡ None → whole_left ≡ option_map count m.whole.held → (slots : ℕ) → m.whole.slots ≤ slots
      → None ≡ option_map (λ (held : HeldCommit). length (written (left_of slots m))) m.whole.held
  none_told whole_left count is told slots wide = go m.whole.held (sym is ∙ told)
    where
      go : (held : Option HeldCommit) → None ≡ option_map count held → None ≡ option_map (λ (one : HeldCommit). length (written (left_of slots m))) held
      go None same = refl
      go (Some held) wrong = absurd (cc)

  -- with no commit under way it is at rest
  pub rest_told : m.whole.held ≡ None → m ≡ at_rest m.whole m.events
  rest_told none =
      let rest : IsRest m = subst (IsCommitOrRest m) none kept.commit in
      ap (λ (n : ℕ). record { whole = m.whole; events = m.events; made = n; begun = m.begun; counts = m.counts }) rest.made
      ∙ (ap (λ (b : Bool). record { whole = m.whole; events = m.events; made = 0; begun = b; counts = m.counts }) rest.begun
      ∙ ap (λ (c : SplitDone). record { whole = m.whole; events = m.events; made = 0; begun = false; counts = c }) rest.counts)

  -- a plan may be dropped where nothing of it was made,
  no_part : m.begun ≡ false → m.made ≡ 0
  no_part begun = go m.whole.held kept.commit
    where
      go : (held : Option HeldCommit) → IsCommitOrRest m held → m.made ≡ 0
      go None k = k.made
      go (Some held) k = (k.fresh begun).0

  -- and the manager is at rest then
  pub drop_kept : m.begun ≡ false → (whole : Managed) → whole ≡ cancelled true m.whole → IsSplitKept since 0 (at_rest whole m.events)
  drop_kept begun whole is =
      rested since left m whole kept (no_part begun) (ap (λ (w : Managed). w.held) is) (ap (λ (w : Managed). w.slots) is) (ap (λ (w : Managed). w.state) is)
