-- A commit that is turned round.
use Rattle.std.proofs.Common.{◌≡◌, ℕ, ◌+◌, ◌≤◌, Bool, true, false, List, length, map, take, drop, Option, Some, None, Ok, Err, Result, refl, sym, ap, subst, ◌-◌, ◌∙◌, arith, length-drop}
use Rattle.std.specs.Prelude.{IfSome, IsSome}
use Rattle.std.proofs.lemmas.List.{length-map}
use Rattle.slot_pool.specs.Arrangement.{Slots}
use Rattle.rule_store.specs.Store.{StoredRules}
use Rattle.tcam_device.specs.declared.Write.{Write}
use Rattle.tcam_device.specs.declared.Action.TheVariants.{Written}
use Rattle.tcam_device.specs.State.{State}
use Rattle.tcam_device.specs.Flight.{writes_in}
use Rattle.commit_writes.specs.Undo.{undo_writes}
use Rattle.commit_writes.proofs.WritesIn.{writes_of_map}
use Rattle.batch_order.specs.declared.AbortFault.{AbortFault}
use Rattle.batch_order.specs.declared.AbortFault.TheVariants as abort_fault
use Rattle.batch_order.specs.declared.Placement.{Placement}
use Rattle.batch_order.specs.declared.held.Held.{Held}
use Rattle.batch_order.specs.declared.translation.Translation.{Translation}
use Rattle.batch_order.specs.Entries.{Entries}
use Rattle.batch_order.specs.Kept.{IsManaged, held_of, held_writes, left_count, left_of, settled_state, turned_at, undo_left, way_of}
use Rattle.batch_order.proofs.under_way.Left.{undo_count}
use Rattle.batch_order.specs.Managed.{HeldCommit, Managed, Way, live_now, room_both_ways, room_by_way}
use Rattle.batch_order.specs.Managed.Way.{On, Back}
use Rattle.batch_order.specs.Passed.{WayBackFrom, HasWayBack}
use Rattle.batch_order.specs.Steps.{Aborts, TurnsBack, TurnsPrepared}
use Rattle.batch_order.specs.Turning.{undo_in, undo_of}
use Rattle.batch_order.specs.Undoing.{StandsAt}
use Rattle.batch_order.specs.CarriedOut.{HasRoomBothWays, HasRoomLeft}
use Rattle.batch_order.specs.Planning.{all_writes}
use Rattle.batch_order.proofs.under_way.Carried.{held_size, view_of}
use Rattle.batch_order.proofs.under_way.Drains.{writes_left_are}
use Rattle.batch_order.proofs.under_way.OnWay.{managed_at}
use Rattle.batch_order.proofs.under_way.Going.{turns_keep_going}

-- what a call of abort leaves, whatever it answers
pub record KeepsOn (old new : Managed) : Type 0 where
  pub state : new.state ≡ old.state
  pub way_back : (begun : State) → WayBackFrom begun old → WayBackFrom begun new
  pub room : (spare : ℕ) → HasRoomBothWays old.held spare → HasRoomLeft new.held spare
  pub both : (spare : ℕ) → HasRoomBothWays old.held spare → HasRoomBothWays new.held spare
  pub slots : new.slots ≡ old.slots
  pub current : live_now new ≡ live_now old

module _ (translation : Option Translation) (rules : StoredRules) (kept : Entries) (slots : Slots) (held : Held) (managed : IsManaged translation rules kept slots (Some held)) (placement : Placement) where
  -- so many writes are left, forward or back
  pub left_is : left_count held ≡ length (writes_in (held_of translation slots rules.rules kept.entries held).actions)
  left_is = go held.turned refl ∙ sym (ap length (writes_left_are held.awaits (left_of held.turned (drop held.made writes) undo)))
    where
      writes : List Write
      writes = held_writes kept.entries held

      undo : List Write
      undo = undo_left translation slots kept.entries held

      counted : Option ℕ → ℕ
      counted t = elim t [ None ↦ length (all_writes held.writes) - held.made | Some undone ↦ held.made ]

      go : (t : Option ℕ) → held.turned ≡ t → left_count held ≡ length (left_of held.turned (drop held.made writes) undo)
      go None is =
          ap counted is ∙ (ap (λ n. n - held.made) (sym (held_size kept.entries held)) ∙ sym (length-drop held.made writes))
          ∙ sym (ap (λ (t : Option ℕ). length (left_of t (drop held.made writes) undo)) is)
      go (Some undone) is =
          ap counted is ∙ sym (undo_count translation rules kept slots held managed)
          ∙ sym (ap (λ (t : Option ℕ). length (left_of t (drop held.made writes) undo)) is)

  pub turns_back : held.turned ≡ None
      → TurnsBack (view_of placement translation rules kept slots (Some held)) (held_of translation slots rules.rules kept.entries held) (held_of translation slots rules.rules kept.entries held).way (Ok held.made)
      (view_of placement translation rules kept slots (Some (turned_at held)))
  turns_back forward =
      let old : Managed = view_of placement translation rules kept slots (Some held) in
      let one : HeldCommit = held_of translation slots rules.rules kept.entries held in
      let goes : one.way ≡ On undo = ap (λ (t : Option ℕ). way_of t undo) forward in
      subst (λ (w : Way). TurnsBack old one w (Ok held.made) (view_of placement translation rules kept slots (Some (turned_at held)))) (sym goes) (
        ap (λ (n : ℕ). Ok n) (sym count),
        ap turned_view (sym count),
      )
    where
      undo : List Write
      undo = undo_writes (settled_state translation kept.entries slots) (take held.made (held_writes kept.entries held))

      count : length undo ≡ held.made
      count = undo_count translation rules kept slots held managed

      turned_view : ℕ → Managed
      turned_view undone = record (view_of placement translation rules kept slots (Some held)) {
        held = Some (record (held_of translation slots rules.rules kept.entries held) { actions = map Written undo; way = Back undone });
      }

  -- one that was prepared can be carried back
  pub managed_turned : held.prepared ≡ true → held.turned ≡ None → IsManaged translation rules kept slots (Some (turned_at held))
  managed_turned prepared forward =
      managed_at translation rules kept slots held managed held.made (Some held.made) false held.drained record {
        back = λ some. prepared;
        early = λ none. absurd (let clash : false ≡ true = none in cc);
        made_are = managed.carried.made;
        going = turns_keep_going (view_of placement translation rules kept slots (Some held)) (Ok held.made) (view_of placement translation rules kept slots (Some (turned_at held))) managed.carried.going
            (subst (λ b. TurnsPrepared (view_of placement translation rules kept slots (Some held)) (held_of translation slots rules.rules kept.entries held) b (Ok held.made) (view_of placement translation rules kept slots (Some (turned_at held))))
            (sym prepared) (turns_back forward));
      }

  pub stays_turned : (undone : ℕ) → held.turned ≡ Some undone
      → TurnsBack (view_of placement translation rules kept slots (Some held)) (held_of translation slots rules.rules kept.entries held) (held_of translation slots rules.rules kept.entries held).way
      (Err (abort_fault.Back held.made)) (view_of placement translation rules kept slots (Some held))
  stays_turned undone turned =
      let old : Managed = view_of placement translation rules kept slots (Some held) in
      let one : HeldCommit = held_of translation slots rules.rules kept.entries held in
      let goes : one.way ≡ Back undone =
      ap (λ (t : Option ℕ). way_of t (undo_writes (settled_state translation kept.entries slots) (take held.made (held_writes kept.entries held)))) turned in
      let left : held.made ≡ length (writes_in one.actions) =
      sym (ap (λ (t : Option ℕ). elim t [ None ↦ length (all_writes held.writes) - held.made | Some n ↦ held.made ]) turned) ∙ left_is in
      subst (λ (w : Way). TurnsBack old one w (Err (abort_fault.Back held.made)) old) (sym goes) (ap (λ (n : ℕ). Err (abort_fault.Back n)) left, refl)

  -- what a call that turns it round does
  pub record IsTurnedBy (result : Result ℕ AbortFault) (new : Held) : Type 0 where
    pub restarted : held.prepared ≡ false → (result ≡ Err abort_fault.Restarted) × (new ≡ held)
    pub turns : held.prepared ≡ true → held.turned ≡ None → (result ≡ Ok held.made) × (new ≡ turned_at held)
    pub stays : held.prepared ≡ true → IsSome held.turned → (result ≡ Err (abort_fault.Back held.made)) × (new ≡ held)

  -- it leaves what can be carried out, or back
  pub managed_by : (result : Result ℕ AbortFault) (new : Held) → IsTurnedBy result new → IsManaged translation rules kept slots (Some new)
  managed_by result new did = by held.prepared refl
    where
      is_so : Held → Type 0
      is_so h = IsManaged translation rules kept slots (Some h)

      go : held.prepared ≡ true → (t : Option ℕ) → held.turned ≡ t → IsManaged translation rules kept slots (Some new)
      go prepared None is = subst is_so (sym (did.turns prepared is).1) (managed_turned prepared is)
      go prepared (Some undone) is = subst is_so (sym (did.stays prepared (subst IsSome (sym is) refl)).1) managed

      by : (b : Bool) → held.prepared ≡ b → IsManaged translation rules kept slots (Some new)
      by true is = go is held.turned refl
      by false is = subst is_so (sym (did.restarted is).1) managed

  -- the arrangement stands as it did
  pub stands_turned : (before now : Slots) (result : Result ℕ AbortFault) (new : Held) → IsTurnedBy result new → StandsAt before now (Some held) → StandsAt before now (Some new)
  stands_turned before now result new did stands = by held.prepared refl
    where
      is_so : Held → Type 0
      is_so h = StandsAt before now (Some h)

      go : held.prepared ≡ true → (t : Option ℕ) → held.turned ≡ t → StandsAt before now (Some new)
      go prepared None is = subst is_so (sym (did.turns prepared is).1) stands
      go prepared (Some undone) is = subst is_so (sym (did.stays prepared (subst IsSome (sym is) refl)).1) stands

      by : (b : Bool) → held.prepared ≡ b → StandsAt before now (Some new)
      by true is = go is held.turned refl
      by false is = subst is_so (sym (did.restarted is).1) stands

  aborts_back : (result : Result ℕ AbortFault) (new : Held) → (held.turned ≡ None → (result ≡ Ok held.made) × (new ≡ turned_at held)) → (IsSome held.turned → (result ≡ Err (abort_fault.Back held.made)) × (new ≡ held))
      → TurnsBack (view_of placement translation rules kept slots (Some held)) (held_of translation slots rules.rules kept.entries held) (held_of translation slots rules.rules kept.entries held).way result (view_of placement translation rules kept slots (Some new))
  aborts_back result new turns stays = go held.turned refl
    where
      old : Managed
      old = view_of placement translation rules kept slots (Some held)

      go : (t : Option ℕ) → held.turned ≡ t → TurnsBack old (held_of translation slots rules.rules kept.entries held) (held_of translation slots rules.rules kept.entries held).way result (view_of placement translation rules kept slots (Some new))
      go None is =
          subst (λ (r : Result ℕ AbortFault). TurnsBack old (held_of translation slots rules.rules kept.entries held) (held_of translation slots rules.rules kept.entries held).way r (view_of placement translation rules kept slots (Some new))) (sym (turns is).0)
          (subst (λ (h : Held). TurnsBack old (held_of translation slots rules.rules kept.entries held) (held_of translation slots rules.rules kept.entries held).way (Ok held.made) (view_of placement translation rules kept slots (Some h))) (sym (turns is).1) (turns_back is))
      go (Some undone) is =
          let was = stays (subst IsSome (sym is) refl) in
          subst (λ (r : Result ℕ AbortFault). TurnsBack old (held_of translation slots rules.rules kept.entries held) (held_of translation slots rules.rules kept.entries held).way r (view_of placement translation rules kept slots (Some new))) (sym was.0)
          (subst (λ (h : Held). TurnsBack old (held_of translation slots rules.rules kept.entries held) (held_of translation slots rules.rules kept.entries held).way (Err (abort_fault.Back held.made)) (view_of placement translation rules kept slots (Some h))) (sym was.1) (stays_turned undone is))

  pub aborts_by : (result : Result ℕ AbortFault) (new : Held) → IsTurnedBy result new
      → Aborts (view_of placement translation rules kept slots (Some held)) (view_of placement translation rules kept slots (Some held)).held result (view_of placement translation rules kept slots (Some new))
  aborts_by result new did = go held.prepared refl
    where
      old : Managed
      old = view_of placement translation rules kept slots (Some held)

      go : (b : Bool) → held.prepared ≡ b → TurnsPrepared old (held_of translation slots rules.rules kept.entries held) held.prepared result (view_of placement translation rules kept slots (Some new))
      go true is =
          subst (λ b. TurnsPrepared old (held_of translation slots rules.rules kept.entries held) b result (view_of placement translation rules kept slots (Some new))) (sym is)
          (aborts_back result new (did.turns is) (did.stays is))
      go false is =
          subst (λ b. TurnsPrepared old (held_of translation slots rules.rules kept.entries held) b result (view_of placement translation rules kept slots (Some new))) (sym is)
          ((did.restarted is).0, ap (λ (h : Held). view_of placement translation rules kept slots (Some h)) (did.restarted is).1)

-- the room for both ways is enough for one
pub enough_left : (one : HeldCommit) → length one.actions ≤ room_both_ways one
enough_left one = go one.way
  where
    go : (way : Way) → length one.actions ≤ room_by_way one.actions way
    go (On undo) = omega arith
    go (Back undone) = omega arith

pub keeps_on : (old new : Managed) (result : Result ℕ AbortFault) → Aborts old old.held result new → KeepsOn old new
keeps_on old new result did = go old.held refl did
  where
    same : (h : Option HeldCommit) → old.held ≡ h → new ≡ old → ((spare : ℕ) → HasRoomBothWays h spare → HasRoomLeft h spare) → KeepsOn old new
    same h under is enough = record {
      state = ap (λ (m : Managed). m.state) is;
      way_back = λ begun way. subst (WayBackFrom begun) (sym is) way;
      room = λ spare room. subst (λ (m : Managed). HasRoomLeft m.held spare) (sym is)
          (subst (λ (x : Option HeldCommit). HasRoomLeft x spare) (sym under) (enough spare (subst (λ (x : Option HeldCommit). HasRoomBothWays x spare) under room)));
      both = λ spare room. subst (λ (m : Managed). HasRoomBothWays m.held spare) (sym is) room;
      slots = ap (λ (m : Managed). m.slots) is;
      current = ap live_now is;
    }

    turns : (one : HeldCommit) (way : Way) → old.held ≡ Some one → one.way ≡ way → TurnsBack old one way result new → KeepsOn old new
    turns one (On undo) under goes did = record {
      state = ap (λ (m : Managed). m.state) did.1;
      way_back = λ begun back. subst (WayBackFrom begun) (sym did.1) (subst (HasWayBack begun old.state) (sym (writes_of_map undo)) (undone begun back));
      room = λ spare room. subst (λ (m : Managed). HasRoomLeft m.held spare) (sym did.1) (enough spare room);
      both = λ spare room. subst (λ (m : Managed). HasRoomBothWays m.held spare) (sym did.1) (enough spare room);
      slots = ap (λ (m : Managed). m.slots) did.1;
      current = ap live_now did.1 ∙ sym (ap (λ (h : Option HeldCommit). elim h [ None ↦ old.bits | Some x ↦ x.current ]) under);
    }
      where
        undone : (begun : State) → WayBackFrom begun old → HasWayBack begun old.state undo
        undone begun back =
            subst (λ (w : Way). HasWayBack begun old.state (undo_in one.actions w)) goes
            (subst (λ (h : Option HeldCommit). IfSome h (λ x. HasWayBack begun old.state (undo_of x))) under back)

        enough : (spare : ℕ) → HasRoomBothWays old.held spare → length (map Written undo) ≤ spare
        enough spare room =
            let all : room_both_ways one ≤ spare = subst (λ (x : Option HeldCommit). HasRoomBothWays x spare) under room in
            let size : room_both_ways one ≡ length one.actions + (length (writes_in one.actions) + length undo) = ap (room_by_way one.actions) goes in
            let many = length-map undo Written in
            omega arith
    turns one (Back undone) under goes did =
        same (Some one) under did.1 (λ spare room. let all = room in let enough = enough_left one in omega arith)

    go : (h : Option HeldCommit) → old.held ≡ h → Aborts old h result new → KeepsOn old new
    go None under did = same None under did.1 (λ spare room. tt)
    go (Some one) under did = by one.prepared did
      where
        by : (b : Bool) → TurnsPrepared old one b result new → KeepsOn old new
        by true did = turns one one.way under refl did
        by false did = same (Some one) under did.1 (λ spare room. let all = room in let enough = enough_left one in omega arith)
