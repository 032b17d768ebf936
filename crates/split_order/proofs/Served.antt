-- What a device serves of which a manager's parts and drains were made.
use Rattle.std.proofs.Common.{◌≡◌, ℕ, zero, suc, ◌≤◌, Option, None, Some, List, [], ◌∷◌, take, refl, sym, ◌∙◌, ap, subst}
use Rattle.std.specs.Prelude.{IfSome}
use Rattle.tcam_device.specs.State.{State, on_device}
use Rattle.batch_order.specs.CarriedOut.{ahead, ahead_of}
use Rattle.batch_order.specs.Managed.{HeldCommit, Serves}
use Rattle.batch_order.proofs.served.Served.{either}
use Rattle.split_device.specs.declared.SplitAction.{SplitAction}
use Rattle.split_device.specs.declared.SplitAction.TheVariants.{Written, Drained}
use Rattle.split_device.specs.declared.SplitWrite.{SplitWrite}
use Rattle.split_device.specs.State.{undivided, split_apply, split_after}
use Rattle.split_device.specs.Flight.{written}
use Rattle.split_device.specs.Hitless.{ShowsEither}
use Rattle.split_writes.specs.UnderWay.{IsUnderWay}
use Rattle.split_order.specs.declared.since.Since.{Since}
use Rattle.split_order.specs.Kept.{IsCommitOrRest, IsRest, IsSplitKept, IsWayOn, parts_due}
use Rattle.split_order.specs.Left.{ServesSplit, left_of, left_of_held, since_of, state_on}
use Rattle.split_order.specs.Managed.{SplitManaged}
use Rattle.split_order.specs.Next.{ServesAhead, ShowsOnWay}

-- the first of none are none
take_none : (n : ℕ) (parts : List SplitWrite) → parts ≡ [] → take n parts ≡ parts
take_none zero [] is = refl
take_none (suc n) [] is = refl
take_none n (part ∷ parts) is = absurd (cc)

module _ (since : Since) (left : ℕ) (m : SplitManaged) (kept : IsSplitKept since left m)
    (whole : (device_slots : ℕ) → m.whole.slots ≤ device_slots → Serves (on_device device_slots m.whole.state) m.whole.rules m.whole.held) (slots : ℕ) (wide : m.whole.slots ≤ slots) where
  -- at rest it serves what the planner does, and else its way shows the old or the new answers
  pub split_serves : ServesSplit (state_on slots m) m
  split_serves = go m.whole.held refl
    where
      go : (held : Option HeldCommit) → m.whole.held ≡ held → Serves (undivided (state_on slots m)) m.whole.rules m.whole.held
      go None is =
          let rest : IsRest m = subst (IsCommitOrRest m) is kept.commit in
          let on = kept.on slots wide in
          let stands : undivided (state_on slots m) ≡ on_device slots m.whole.state =
          ap undivided (on.now_is ∙ ap (λ n. split_after on.before (take n (parts_due m))) rest.made) ∙ on.whole_is in
          subst (λ (s : State). Serves s m.whole.rules m.whole.held) (sym stands) (whole slots wide)
      go (Some held) is =
          let way : IsWayOn slots m held = subst (λ (h : Option HeldCommit). IfSome h (IsWayOn slots m)) is (kept.on slots wide).way in
          subst (λ (h : Option HeldCommit). Serves (undivided (state_on slots m)) m.whole.rules h) (sym is) (way.1.during 0)

  -- and so it does where the part that is next was made already
  pub serves_ahead : ServesAhead (left_of slots m) (state_on slots m) m
  serves_ahead = go m.whole.held refl (left_of slots m) refl
    where
      go : (held : Option HeldCommit) → m.whole.held ≡ held → (some : List SplitAction) → left_of slots m ≡ some → ServesAhead some (state_on slots m) m
      go held is [] are = tt
      go held is (Drained ∷ rest) are = tt
      go None is (Written part ∷ rest) are = absurd (
          let none : left_of slots m ≡ [] = ap (left_of_held (state_on slots m) (since_of m) m.whole.state m.made) is in
          let wrong : [] ≡ Written part ∷ rest = sym none ∙ are in cc)
      go (Some held) is (Written part ∷ rest) are =
          let way : IsWayOn slots m held = subst (λ (h : Option HeldCommit). IfSome h (IsWayOn slots m)) is (kept.on slots wide).way in
          let here = subst (λ some. IsUnderWay m.whole.rules held.rules way.0 held.during (state_on slots m) (since_of m) some) are way.1 in
          subst (λ (h : Option HeldCommit). Serves (undivided (split_apply (state_on slots m) part)) m.whole.rules h) (sym is) (here.during 1)

  -- likewise after each part that is left
  pub shows_on_way : ShowsOnWay slots m
  shows_on_way n = go m.whole.held refl
    where
      go : (held : Option HeldCommit) → m.whole.held ≡ held → ShowsEither m.whole.rules (ahead m.whole) (split_after (state_on slots m) (take n (written (left_of slots m))))
      go None is =
          let none : left_of slots m ≡ [] = ap (left_of_held (state_on slots m) (since_of m) m.whole.state m.made) is in
          let still : take n (written (left_of slots m)) ≡ [] = take_none n (written (left_of slots m)) (ap written none) ∙ ap written none in
          subst (λ (some : List SplitWrite). ShowsEither m.whole.rules (ahead m.whole) (split_after (state_on slots m) some)) (sym still)
          (either (undivided (state_on slots m)) m.whole.rules m.whole.held split_serves)
      go (Some held) is =
          let way : IsWayOn slots m held = subst (λ (h : Option HeldCommit). IfSome h (IsWayOn slots m)) is (kept.on slots wide).way in
          subst (λ (h : Option HeldCommit). ShowsEither m.whole.rules (ahead_of h m.whole.rules) (split_after (state_on slots m) (take n (written (left_of slots m))))) (sym is)
          (way.1.during n)
