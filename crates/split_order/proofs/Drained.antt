-- A drain that is made, before a part or where the planner has one: what is left behind it is kept.
use Rattle.std.proofs.Common.{◌≡◌, ℕ, zero, suc, ◌<◌, ◌≤◌, ◌⊎◌, inl, inr, true, false, Option, None, Some, List, [], ◌∷◌, ◌++◌, length, drop, take, refl, sym, ◌∙◌, ap, ap₂, subst, arith, le_refl}
use Rattle.std.specs.Prelude.{IfSome}
use Rattle.std.proofs.lemmas.Bool.{cases_Bool}
use Rattle.slot_order.specs.Order.{most_slots}
use Rattle.rule_model.specs.declared.Rule.{Rule}
use Rattle.commit_writes.specs.Bits.{FieldBits}
use Rattle.tcam_device.specs.declared.Write.{Write}
use Rattle.tcam_device.specs.State.{on_device, state_after}
use Rattle.tcam_device.specs.declared.Action.{Action}
use Rattle.tcam_device.specs.declared.Action.TheVariants as action
use Rattle.batch_order.specs.declared.Step.{Step}
use Rattle.batch_order.specs.CarriedOut.{writes_left}
use Rattle.batch_order.specs.Managed.{HeldCommit, Managed}
use Rattle.batch_order.specs.Steps.{Steps, StepsOn, awaits_drain, is_back, next_of}
use Rattle.split_device.specs.declared.SplitWrite.{SplitWrite}
use Rattle.split_device.specs.declared.SplitAction.{SplitAction}
use Rattle.split_device.specs.declared.SplitAction.TheVariants.{Written, Drained}
use Rattle.split_device.specs.State.{SplitState, undivided, split_after}
use Rattle.split_device.specs.Drains.{SinceDrain, is_drain_due, nothing_since}
use Rattle.split_device.specs.Flight.{written}
use Rattle.split_writes.specs.Parts.{made_of, write_parts}
use Rattle.split_writes.specs.UnderWay.{IsUnderWay}
use Rattle.split_writes.proofs.Seen.{goes_on_by_drains}
use Rattle.split_order.specs.declared.since.Since.{Since}
use Rattle.split_order.specs.Kept.{IsCommitKept, IsCommitOrRest, IsKeptOn, IsSplitKept, IsWayOn, parts_due, parts_of_due}
use Rattle.split_order.specs.Left.{left_from, left_of, left_of_held, made_behind, since_of, state_on}
use Rattle.split_order.specs.Managed.{SplitManaged}
use Rattle.split_order.specs.Next.{IsFirstLeft}
use Rattle.split_order.specs.Since.{IsSince}
use Rattle.split_order.specs.Steps.{Advances, outline}
use Rattle.split_order.proofs.Behind.{drain_next, left_begun, part_next, since_more, state_drained}
use Rattle.split_order.proofs.Nexts.{left_held, part_left}

-- the planner behind its drain
abbrev pub passed_drain : Managed → HeldCommit → List Action → Managed
passed_drain whole held rest = record whole { held = Some (record held { actions = rest; current = held.during }) }

passes_drain : (whole new : Managed) (held : HeldCommit) (rest : List Action) (made : Step) → whole.held ≡ Some held → held.actions ≡ action.Drained ∷ rest
    → Steps whole 0 whole.held made new → new ≡ passed_drain whole held rest
passes_drain whole new held rest made under_way are steps =
    let here : Steps whole 0 (Some held) made new = subst (λ (h : Option HeldCommit). Steps whole 0 h made new) under_way steps in
    let did : StepsOn whole held 0 (action.Drained ∷ rest) made new = subst (λ (a : List Action). StepsOn whole held 0 a made new) are here in
    did.1

-- what is known of the manager behind a drain
pub record IsDrained (manager next : SplitManaged) : Type 0 where
  pub events : next.events ≡ manager.events ++ Drained ∷ []
  pub begun : next.begun ≡ true
  pub counts : next.counts ≡ manager.counts
  pub made : next.made ≡ manager.made
  pub on_own : awaits_drain manager.whole.held ≡ true → (made : Step) × Steps manager.whole 0 manager.whole.held made next.whole
  pub on_part : awaits_drain manager.whole.held ≡ false → next.whole ≡ manager.whole

-- where a drain comes, a commit is under way: it is the planner's, or one before a part
pub data ComesOf (m : SplitManaged) (held : HeldCommit) : Type 0 where
  of_part : (write : Write) (rest : List Action) → held.actions ≡ action.Written write ∷ rest → next_of (Some held) ≡ Some write → awaits_drain (Some held) ≡ false → ComesOf m held
  of_own : (rest : List Action) → held.actions ≡ action.Drained ∷ rest → next_of (Some held) ≡ None → awaits_drain (Some held) ≡ true → ComesOf m held

pub record DrainComes (m : SplitManaged) : Type 0 where
  pub held : HeldCommit
  pub under_way : m.whole.held ≡ Some held
  pub kept : IsCommitKept m held
  pub comes : ComesOf m held

pub drain_comes : (m : SplitManaged) → IsCommitOrRest m m.whole.held → IsFirstLeft m Drained → DrainComes m
drain_comes m kept first = go m.whole.held refl kept
  where
    go : (held : Option HeldCommit) → m.whole.held ≡ held → IsCommitOrRest m held → DrainComes m
    go None is k = absurd (
        let none : left_of m.whole.slots m ≡ [] = ap (left_of_held (state_on m.whole.slots m) (since_of m) m.whole.state m.made) is in
        let wrong : [] ≡ Drained ∷ drop 1 (left_of m.whole.slots m) = sym none ∙ first m.whole.slots (le_refl m.whole.slots) in cc)
    go (Some held) is k = by held.actions refl
      where
        by : (actions : List Action) → held.actions ≡ actions → DrainComes m
        by [] are = absurd (
            let none : left_of m.whole.slots m ≡ [] = left_held m held is k m.whole.slots [] are in
            let wrong : [] ≡ Drained ∷ drop 1 (left_of m.whole.slots m) = sym none ∙ first m.whole.slots (le_refl m.whole.slots) in cc)
        by (action.Written write ∷ rest) are = record {
          held = held;
          under_way = is;
          kept = k;
          comes = of_part write rest are
              (ap (λ (a : List Action). next_of (Some (record held { actions = a }))) are)
              (ap (λ (a : List Action). awaits_drain (Some (record held { actions = a }))) are);
        }
        by (action.Drained ∷ rest) are = record {
          held = held;
          under_way = is;
          kept = k;
          comes = of_own rest are
              (ap (λ (a : List Action). next_of (Some (record held { actions = a }))) are)
              (ap (λ (a : List Action). awaits_drain (Some (record held { actions = a }))) are);
        }

-- some parts of which so many were made, where more are left
pub drop_some : (n : ℕ) (parts : List SplitWrite) → n < length parts → (part : SplitWrite) × (rest : List SplitWrite) × (drop n parts ≡ part ∷ rest)
drop_some n [] below = absurd (omega arith)
drop_some zero (part ∷ parts) below = (part, parts, refl)
drop_some (suc n) (part ∷ parts) below = drop_some n parts (omega arith)

module _ (since since' : Since) (left : ℕ) (m m' : SplitManaged) (kept : IsSplitKept since left m) (first : IsFirstLeft m Drained) (did : IsDrained m m') where
  one : DrainComes m
  one = drain_comes m kept.commit first

  state_is : (slots : ℕ) → state_on slots m' ≡ state_on slots m
  state_is slots = ap (λ events. state_on slots (record m { events = events })) did.events ∙ state_drained slots m.events

  since_is : since_of m' ≡ nothing_since
  since_is = ap (λ events. since_of (record m { events = events })) did.events ∙ since_more m.events Drained

  -- what is behind it
  record IsBehind : Type 0 where
    held : HeldCommit
    held_is : m'.whole.held ≡ Some held
    forward : (held.prepared ≡ true) × (is_back held.way ≡ false)
    made : (m'.made ≡ 0) ⊎ (m'.made < length (parts_due m'))
    aims : (held.rules ≡ one.held.rules) × (held.during ≡ one.held.during) × (held.bits ≡ one.held.bits)
    writes : writes_left (Some held) ≡ writes_left (Some one.held)
    whole_is : m'.whole ≡ record m.whole { held = Some held }
    now_is : (slots : ℕ) (on : IsKeptOn slots m) → state_on slots m' ≡ split_after on.before (take m'.made (parts_due m'))
    left_is : (slots : ℕ) → m.whole.slots ≤ slots → left_of slots m ≡ Drained ∷ left_of slots m'

  behind_part : (write : Write) (rest : List Action) → one.held.actions ≡ action.Written write ∷ rest → next_of (Some one.held) ≡ Some write → awaits_drain (Some one.held) ≡ false → IsBehind
  behind_part write rest are next awaits =
      let same : m'.whole ≡ m.whole = did.on_part (ap awaits_drain one.under_way ∙ awaits) in
      let due : next_of m.whole.held ≡ Some write = ap next_of one.under_way ∙ next in
      let below = part_left m one.held one.under_way one.kept write due in
      let parts_same : parts_due m' ≡ parts_due m = ap (λ (w : Managed). parts_of_due w.state (next_of w.held)) same in
      let parts_are : parts_due m ≡ write_parts m.whole.state write = ap (parts_of_due m.whole.state) due in
      record {
        held = one.held;
        held_is = ap (λ (w : Managed). w.held) same ∙ one.under_way;
        forward = one.kept.forward;
        made = inr (subst (λ some. m'.made < length some) (sym (parts_same ∙ parts_are)) (subst (λ n. n < length (write_parts m.whole.state write)) (sym did.made) below));
        aims = (refl, refl, refl);
        writes = refl;
        whole_is = same ∙ ap (λ (h : Option HeldCommit). record m.whole { held = h }) one.under_way;
        now_is = λ slots on. state_is slots ∙ (on.now_is ∙ ap₂ (λ (n : ℕ) (some : List SplitWrite). split_after on.before (take n some)) (sym did.made) (sym parts_same));
        left_is = λ slots wide.
            let cut = drop_some m.made (write_parts m.whole.state write) below in
            let now : left_of slots m ≡ made_behind (state_on slots m) (since_of m) (cut.0 ∷ cut.1) rest =
            left_held m one.held one.under_way one.kept slots (action.Written write ∷ rest) are ∙ ap (λ some. made_behind (state_on slots m) (since_of m) some rest) cut.2 in
            let due_now : is_drain_due (state_on slots m) (since_of m) cut.0 ≡ true = elim (cases_Bool (is_drain_due (state_on slots m) (since_of m) cut.0)) [
              | inl so ↦ so
              | inr isnt ↦ absurd (
                  let wrong : Written cut.0 ∷ _ ≡ Drained ∷ drop 1 (left_of slots m) = sym (now ∙ part_next (state_on slots m) (since_of m) cut.0 cut.1 rest isnt) ∙ first slots wide in cc)
            ] in
            let then_left : left_of slots m' ≡ made_behind (state_on slots m) nothing_since (cut.0 ∷ cut.1) rest =
            ap₂ (λ (s : SplitState) (c : SinceDrain). left_of_held s c m'.whole.state m'.made m'.whole.held) (state_is slots) since_is
            ∙ (ap₂ (λ (w : Managed) (n : ℕ). left_of_held (state_on slots m) nothing_since w.state n w.held) same did.made
            ∙ (ap (left_of_held (state_on slots m) nothing_since m.whole.state m.made) one.under_way
            ∙ (ap (left_from (state_on slots m) nothing_since m.whole.state m.made) are
            ∙ ap (λ some. made_behind (state_on slots m) nothing_since some rest) cut.2))) in
            now ∙ (drain_next (state_on slots m) (since_of m) cut.0 cut.1 rest due_now ∙ ap (λ (some : List SplitAction). Drained ∷ some) (sym then_left));
      }

  behind_own : (rest : List Action) → one.held.actions ≡ action.Drained ∷ rest → next_of (Some one.held) ≡ None → awaits_drain (Some one.held) ≡ true → IsBehind
  behind_own rest are next awaits =
      let steps = did.on_own (ap awaits_drain one.under_way ∙ awaits) in
      let is : m'.whole ≡ passed_drain m.whole one.held rest = passes_drain m.whole m'.whole one.held rest steps.0 one.under_way are steps.1 in
      let none : parts_due m ≡ [] = ap (parts_of_due m.whole.state) (ap next_of one.under_way ∙ next) in
      let start : m.made ≡ 0 = elim one.kept.made [ inl zero_made ↦ zero_made | inr below ↦ absurd (let past : m.made < 0 = subst (λ n. m.made < n) (ap length none) below in omega arith) ] in
      record {
        held = record one.held { actions = rest; current = one.held.during };
        held_is = ap (λ (w : Managed). w.held) is;
        forward = one.kept.forward;
        made = inl (did.made ∙ start);
        aims = (refl, refl, refl);
        writes = sym (ap (λ (a : List Action). writes_left (Some (record one.held { actions = a }))) are);
        whole_is = is;
        now_is = λ slots on.
            state_is slots
            ∙ (on.now_is
            ∙ (ap (λ n. split_after on.before (take n (parts_due m))) start ∙ ap (λ n. split_after on.before (take n (parts_due m'))) (sym (did.made ∙ start))));
        left_is = λ slots wide.
            let on = kept.on slots wide in
            let stands : undivided (state_on slots m) ≡ on_device slots m.whole.state =
            ap undivided (on.now_is ∙ ap (λ n. split_after on.before (take n (parts_due m))) start) ∙ on.whole_is in
            let now : left_of slots m ≡ Drained ∷ made_of (state_on slots m) nothing_since rest = left_held m one.held one.under_way one.kept slots (action.Drained ∷ rest) are in
            let then_left : left_of slots m' ≡ made_of (state_on slots m) nothing_since rest =
            ap₂ (λ (s : SplitState) (c : SinceDrain). left_of_held s c m'.whole.state m'.made m'.whole.held) (state_is slots) since_is
            ∙ (ap₂ (λ (w : Managed) (n : ℕ). left_of_held (state_on slots m) nothing_since w.state n w.held) is (did.made ∙ start)
            ∙ left_begun slots (state_on slots m) nothing_since m.whole.state rest stands) in
            now ∙ ap (λ (some : List SplitAction). Drained ∷ some) (sym then_left);
      }

  next_one : IsBehind
  next_one = elim one.comes [
    | of_part write rest are next awaits ↦ behind_part write rest are next awaits
    | of_own rest are next awaits ↦ behind_own rest are next awaits
  ]

  -- where the commit leads is as it was
  abbrev outline_by : List Write → List Rule → FieldBits → FieldBits → Managed × Option (List Rule × FieldBits × FieldBits)
  outline_by writes rules bits during = (record m.whole { state = state_after m.whole.state writes; held = None }, Some (rules, bits, during))

  same_outline : outline m'.whole ≡ outline m.whole
  same_outline =
      ap outline next_one.whole_is
      ∙ (ap (λ (writes : List Write). outline_by writes next_one.held.rules next_one.held.bits next_one.held.during) next_one.writes
      ∙ (ap (λ (rules : List Rule). outline_by (writes_left (Some one.held)) rules next_one.held.bits next_one.held.during) next_one.aims.0
      ∙ (ap₂ (λ (bits during : FieldBits). outline_by (writes_left (Some one.held)) one.held.rules bits during) next_one.aims.2 next_one.aims.1
      ∙ ap (λ (h : Option HeldCommit). outline (record m.whole { held = h })) (sym one.under_way))))

  -- A drain was made.
  pub drains : (slots : ℕ) → m.whole.slots ≤ slots → Advances slots Drained m m'
  drains slots wide = record {
    left_is = next_one.left_is slots wide;
    events = did.events;
    outline_is = same_outline;
    begun = did.begun;
    counts = did.counts;
    live = tt;
  }

  way_on : (slots : ℕ) → m.whole.slots ≤ slots → IsWayOn slots m' next_one.held
  way_on slots wide =
      let old : IsWayOn slots m one.held = subst (λ (h : Option HeldCommit). IfSome h (IsWayOn slots m)) one.under_way (kept.on slots wide).way in
      let way : IsUnderWay m.whole.rules one.held.rules old.0 one.held.during (state_on slots m) (since_of m) (Drained ∷ left_of slots m') =
      subst (IsUnderWay m.whole.rules one.held.rules old.0 one.held.during (state_on slots m) (since_of m)) (next_one.left_is slots wide) old.1 in
      let next = goes_on_by_drains m.whole.rules one.held.rules old.0 one.held.during (state_on slots m) (since_of m) (left_of slots m') way in (
        next.0,
        subst (λ (r : List Rule). IsUnderWay r next_one.held.rules next.0 next_one.held.during (state_on slots m') (since_of m') (left_of slots m')) (sym (ap (λ (w : Managed). w.rules) next_one.whole_is))
            (subst (λ (r : List Rule). IsUnderWay m.whole.rules r next.0 next_one.held.during (state_on slots m') (since_of m') (left_of slots m')) (sym next_one.aims.0)
            (subst (λ (b : FieldBits). IsUnderWay m.whole.rules one.held.rules next.0 b (state_on slots m') (since_of m') (left_of slots m')) (sym next_one.aims.1)
            (subst (λ (s : SplitState). IsUnderWay m.whole.rules one.held.rules next.0 one.held.during s (since_of m') (left_of slots m')) (sym (state_is slots))
            (subst (λ (c : SinceDrain). IsUnderWay m.whole.rules one.held.rules next.0 one.held.during (state_on slots m) c (left_of slots m')) (sym since_is) next.1)))),
      )

  on_next : (slots : ℕ) → m.whole.slots ≤ slots → IsKeptOn slots m'
  on_next slots wide =
      let on = kept.on slots wide in
      record {
        before = on.before;
        sized = on.sized;
        size = on.size;
        whole_is = on.whole_is ∙ ap (λ (w : Managed). on_device slots w.state) (sym next_one.whole_is);
        now_is = next_one.now_is slots on;
        way = subst (λ (h : Option HeldCommit). IfSome h (IsWayOn slots m')) (sym next_one.held_is) (way_on slots wide);
      }

  commit_kept : IsCommitKept m' next_one.held
  commit_kept = record {
    forward = next_one.forward;
    made = next_one.made;
    fresh = λ none. absurd (let wrong : false ≡ true = sym none ∙ did.begun in cc);
  }

  -- So the manager is kept.
  pub kept_drained : length since'.erased.items ≡ length since.erased.items → IsSince since' nothing_since → IsSplitKept since' left m'
  kept_drained size is = record {
    commit = subst (IsCommitOrRest m') (sym next_one.held_is) commit_kept;
    on = λ slots wide. on_next slots (back slots wide);
    left_is = λ slots wide. kept.left_is slots (back slots wide) ∙ ap (λ some. length (written some)) (next_one.left_is slots (back slots wide));
    few = subst (λ (w : Managed). w.slots ≤ most_slots) (sym next_one.whole_is) kept.few;
    whole_size = subst (λ (w : Managed). length w.state.slots ≡ w.slots) (sym next_one.whole_is) kept.whole_size;
    size = size ∙ (kept.size ∙ sym (ap (λ (w : Managed). w.slots) next_one.whole_is));
    since_is = subst (IsSince since') (sym since_is) is;
  }
    where
      back : (slots : ℕ) → m'.whole.slots ≤ slots → m.whole.slots ≤ slots
      back slots wide = subst (λ (w : Managed). w.slots ≤ slots) next_one.whole_is wide
