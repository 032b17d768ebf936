-- What is known all along while a manager is rebuilt, and what it holds in the end.
use Rattle.std.proofs.Common.{◌≡◌, ℕ, ◌+◌, ◌*◌, ◌<◌, ◌≤◌, Bool, true, false, not, Option, Some, List, [], length, refl, sym, ◌∙◌, ap, ap₂, subst, arith}
use Rattle.std.specs.Prelude.{◌&&◌, nat_lt}
use Rattle.std.specs.List.{AllByRecursion, list_any}
use Rattle.std.proofs.lemmas.Bool.{lt-ltb, ltb-true}
use Rattle.slot_order.specs.Order.{most_slots}
use Rattle.slot_order.proofs.Lists.{AllByRecursion-member}
use Rattle.slot_pool.specs.Arrangement.{Slots}
use Rattle.rule_model.specs.declared.Rule.{Rule}
use Rattle.rule_store.specs.declared.Mode.{Mode}
use Rattle.rule_store.specs.declared.Mode.TheVariants.{Cover, Bits}
use Rattle.rule_store.specs.declared.Command.{Command}
use Rattle.rule_store.specs.Store.{StoredRules}
use Rattle.rule_store.specs.Verdict.{Accepted, verdict}
use Rattle.rule_model.specs.Entry.{RankedPiece, IsEncodable}
use Rattle.placement.specs.Live.{AreApart}
use Rattle.tcam_device.specs.State.{State, IsState}
use Rattle.commit_writes.specs.Proposal.{proposal}
use Rattle.commit_writes.specs.Actions.{have_bits}
use Rattle.commit_writes.specs.Bits.{FieldBits, bits_with, new_bits}
use Rattle.commit_writes.specs.Changes.{during_of}
use Rattle.readback.specs.declared.Parts.{Parts}
use Rattle.readback.specs.declared.staging.Shown.{Shown}
use Rattle.readback.specs.Found.{IsShown}
use Rattle.readback.specs.Laws.{CanCommit}
use Rattle.readback.specs.Stage.{Finds}
use Rattle.readback.specs.Tasks.{commit_pieces, known_pieces, stands_in}
use Rattle.batch_order.specs.Arranged.{arranged_at}
use Rattle.batch_order.specs.declared.Placement.{Placement}
use Rattle.batch_order.specs.declared.held.Held.{Held}
use Rattle.batch_order.specs.declared.restarting.resuming.Rest.{Rest}
use Rattle.batch_order.specs.declared.translation.Translation.{Translation}
use Rattle.batch_order.specs.Entries.{Entries}
use Rattle.batch_order.specs.Kept.{IsManaged, bits_of, held_of, mode_of, tables_of}
use Rattle.batch_order.specs.Managed.{room_both_ways, HasBlankTables}
use Rattle.batch_order.specs.Restart.{Resumes, bits_in}
use Rattle.batch_order.specs.Standing.{AreEncodable, AreStanding, IsWithTwin, managed_by, without_twin}
use Rattle.batch_order.specs.Stopped.{IsAsFound, IsPlannedOn, IsReadAgain, IsStopped, held_from}
use Rattle.batch_order.specs.Planning.{all_writes}
use Rattle.batch_order.proofs.restarted.GoesOn.{IsResumed, held_by, managed_on}
use Rattle.batch_order.proofs.planning.Judged.{accepted_room}
use Rattle.batch_order.proofs.ids.Needed.{rules_entries}
use Rattle.batch_order.proofs.restarted.NoneDue.{stands_then, stands_when}
use Rattle.batch_order.proofs.restarted.ReadAgain.{as_found, read_again}
use Rattle.batch_order.proofs.restarted.Resumed.{bits_read, resumes, room_forward, room_on, tables_read}

-- What a rebuilt manager keeps is a manager's, goes on with the commit, and has room for it.
pub record IsMade (slots : ℕ) (mode : Mode) (placement : Placement) (parts : Parts) (batch : List Command) (device_slots : ℕ) (state : State) (spare : ℕ) (translation : Option Translation) (rules : StoredRules) (new : Entries) (found : Slots) (held : Held) : Type 0 where
  pub managed : IsManaged translation rules new found (Some held)
  pub resumes : Resumes slots mode placement parts batch device_slots state (managed_by placement translation rules new found (Some held))
  pub reserved : length (held_of translation found rules.rules new.entries held).actions ≤ spare
  pub both_ways : room_both_ways (held_of translation found rules.rules new.entries held) ≤ spare

-- what a device shows that was stopped
pub stopped_by : {slots : ℕ} {mode : Mode} {bits : FieldBits} {rules : List Rule} {batch : List Command} {device_slots : ℕ} {state : State} {shown : Shown}
    → 1 ≤ slots → slots ≤ most_slots → slots ≤ device_slots → IsState device_slots state → CanCommit mode bits rules batch → verdict slots mode rules batch ≡ Accepted → Finds slots mode bits rules batch state shown.stage
    → IsShown (commit_pieces mode bits rules batch) state.slots shown → AllByRecursion (λ ranked. IsEncodable ranked.piece) (known_pieces (commit_pieces mode bits rules batch))
    → IsStopped slots mode bits rules batch state shown
stopped_by {slots} {mode} {bits} {rules} {batch} {device_slots} {state} {shown} least most wide is can accepted found are_shown encodable = record {
  least = least;
  most = most;
  wide = subst (λ (n : ℕ). slots ≤ n) (sym is.size) wide;
  is_state = subst (λ (n : ℕ). IsState n state) (sym is.size) is;
  can = can;
  accepted = accepted;
  found = found;
  is_shown = are_shown;
  encodable = encodable;
}

module _ {slots : ℕ} {mode : Mode} {bits : FieldBits} {rules : List Rule} {batch : List Command} {state : State} {shown : Shown} (stopped : IsStopped slots mode bits rules batch state shown) where
  -- as many places are told as the device has slots, and each piece there has an entry
  pub places_many : slots ≤ length shown.places.items
  places_many = subst (λ (n : ℕ). slots ≤ n) (sym stopped.is_shown.places.size) stopped.wide

  pub places_encodable : AreEncodable shown.places.items
  places_encodable at ranked held =
      AllByRecursion-member (λ (x : RankedPiece). IsEncodable x.piece) (known_pieces (commit_pieces mode bits rules batch)) ranked stopped.encodable (stopped.is_shown.places.known at ranked held).0

  -- there are few rules
  pub few_rules : length rules ≤ most_slots
  few_rules =
      let room = (accepted_room slots mode rules batch stopped.can.sound stopped.accepted).entries in
      let each = rules_entries mode rules stopped.can.right in
      let most = stopped.most in
      omega arith

  abbrev p_inserted : List RankedPiece
  p_inserted = (commit_pieces mode bits rules batch).inserted

  -- an inserted piece stands where the first task is done, and is an insertion
  pub begun_is : (nat_lt 0 shown.stage.done && nat_lt 0 (length shown.inserted.items)) ≡ list_any (stands_in state.slots) (commit_pieces mode bits rules batch).inserted
  begun_is = go (nat_lt 0 shown.stage.done) (nat_lt 0 (length shown.inserted.items)) (list_any (stands_in state.slots) p_inserted) refl refl refl
    where
      done_is : shown.stage.done ≡ length stopped.found.done
      done_is = stopped.found.done_number

      put_is : length shown.inserted.items ≡ length p_inserted
      put_is = ap length stopped.is_shown.inserted

      then : list_any (stands_in state.slots) p_inserted ≡ true → (0 < length stopped.found.done) × (0 < length p_inserted)
      then found = stands_then slots bits (bits_with mode rules batch bits) (commit_pieces mode bits rules batch) state stopped.found.done stopped.found.left stopped.found.stage found

      go : (x y z : Bool) → nat_lt 0 shown.stage.done ≡ x → nat_lt 0 (length shown.inserted.items) ≡ y → list_any (stands_in state.slots) p_inserted ≡ z → (x && y) ≡ z
      go true true true some put found = refl
      go true true false some put found =
          let first : 0 < shown.stage.done = ltb-true 0 shown.stage.done some in
          let second : 0 < length shown.inserted.items = ltb-true 0 (length shown.inserted.items) put in
          let number = done_is in
          let size = put_is in
          sym (stands_when slots bits (bits_with mode rules batch bits) (commit_pieces mode bits rules batch) state stopped.found.done stopped.found.left stopped.found.stage (omega arith) (omega arith)) ∙ found
      go true false true some put found =
          let w = (then found).1 in
          let size = put_is in
          let more : 0 < length shown.inserted.items = omega arith in
          sym put ∙ lt-ltb 0 (length shown.inserted.items) more
      go true false false some put found = refl
      go false y true some put found =
          let w = (then found).0 in
          let number = done_is in
          let more : 0 < shown.stage.done = omega arith in
          sym some ∙ lt-ltb 0 shown.stage.done more
      go false y false some put found = refl

module _ (translation : Option Translation) (rules : StoredRules) (batch : List Command) (state : State) (slots' : Slots) (rest : Rest) (held : Held) where
  -- what is held, by other names of the same
  held_same : (awaits drained : Bool) (other : List Command) → awaits ≡ (held_by translation rules batch state slots' rest held).awaits → drained ≡ (held_by translation rules batch state slots' rest held).drained
      → other ≡ batch → held ≡ held_from rest awaits drained other slots' held.undo → held_by translation rules batch state slots' rest held ≡ held
  held_same awaits drained other awaits_is drained_is batch_is held_is =
      sym (held_is ∙ (ap (λ (b : List Command). held_from rest awaits drained b slots' held.undo) batch_is
      ∙ ap₂ (λ (a d : Bool). held_from rest a d batch slots' held.undo) awaits_is drained_is))

module _ {slots : ℕ} {mode : Mode} (parts : Parts) {batch : List Command} {device_slots : ℕ} {state : State} {shown : Shown} (is : IsState device_slots state)
    (stopped : IsStopped slots mode (bits_in parts) parts.rules.rules batch state shown)
    (translation : Option Translation) (mode_is : mode_of translation ≡ mode) (bits_are : mode ≡ Bits → bits_of translation ≡ bits_in parts)
    (tables_are : mode ≡ Bits → tables_of translation ≡ record state { slots = [] }) (plain : mode ≡ Cover → HasBlankTables state)
    {old : Entries} {arranged : Slots} {places : List (Option RankedPiece)} (places_are : places ≡ shown.places.items)
    (stand : AreStanding slots (without_twin shown.stage.twin places) old arranged) (size : old.slots ≡ slots) (apart : AreApart old.slots old.live) where
  standing : AreStanding slots (without_twin shown.stage.twin shown.places.items) old arranged
  standing = subst (λ (p : List (Option RankedPiece)). AreStanding slots (without_twin shown.stage.twin p) old arranged) places_are stand

  same_bits : bits_of translation ≡ bits_in parts
  same_bits = bits_read mode (bits_in parts) parts.rules.rules batch translation mode_is bits_are stopped.can

  number : length arranged ≡ slots
  number = standing.size ∙ size

  stopped_so : IsStopped slots mode (bits_of translation) parts.rules.rules batch state shown
  stopped_so = subst (λ (b : FieldBits). IsStopped slots mode b parts.rules.rules batch state shown) (sym same_bits) stopped

  pub stopped_now : IsStopped (length arranged) mode (bits_of translation) parts.rules.rules batch state shown
  stopped_now = subst (λ (n : ℕ). IsStopped n mode (bits_of translation) parts.rules.rules batch state shown) (sym number) stopped_so

  pub read_now : IsReadAgain mode (bits_of translation) parts.rules.rules batch state shown old arranged
  read_now = read_again slots mode (bits_of translation) parts.rules.rules batch state shown old arranged stopped_so standing size apart

  tables_now : tables_of translation ≡ record state { slots = [] }
  tables_now = tables_read mode state translation mode_is tables_are plain

  module _ (placement : Placement) (found : Slots) {others : List (Option RankedPiece)} (others_are : others ≡ shown.places.items)
      (twin : IsWithTwin shown.stage.twin others old.live arranged found) {new : Entries} {slots' : Slots} {rest : Rest}
      (planned : IsPlannedOn placement device_slots (proposal mode (bits_of translation) parts.rules.rules batch) state shown (arranged_at old arranged) (arranged_at new slots') rest)
      (rules : StoredRules) (same : rules.rules ≡ parts.rules.rules) (room : length batch ≤ rules.spare) where
    found_now : IsAsFound state old found
    found_now = as_found slots mode (bits_of translation) parts.rules.rules batch state shown old arranged found stopped_so standing size apart
        (subst (λ (p : List (Option RankedPiece)). IsWithTwin shown.stage.twin p old.live arranged found) others_are twin)

    resumed_now : IsResumed placement translation rules batch state shown old new arranged slots' found rest
    resumed_now = record {
      stopped = subst (λ (r : List Rule). IsStopped (length arranged) (mode_of translation) (bits_of translation) r batch state shown) (sym same)
          (subst (λ (m : Mode). IsStopped (length arranged) m (bits_of translation) parts.rules.rules batch state shown) (sym mode_is) stopped_now);
      planned = subst (λ (r : List Rule). IsPlannedOn placement (length state.slots) (proposal (mode_of translation) (bits_of translation) r batch) state shown (arranged_at old arranged) (arranged_at new slots') rest) (sym same)
          (subst (λ (m : Mode). IsPlannedOn placement (length state.slots) (proposal m (bits_of translation) parts.rules.rules batch) state shown (arranged_at old arranged) (arranged_at new slots') rest) (sym mode_is)
          (subst (λ (n : ℕ). IsPlannedOn placement n (proposal mode (bits_of translation) parts.rules.rules batch) state shown (arranged_at old arranged) (arranged_at new slots') rest) (sym is.size) planned));
      as_found = found_now;
      size = found_now.size ∙ sym standing.size;
      tables = tables_now;
      room = room;
    }

    -- whether a drain is to come or came, as it is told
    given_is : (given begun : Bool) → given ≡ have_bits (new_bits (bits_of translation) (during_of rest.bits)) → begun ≡ (nat_lt 0 shown.stage.done && nat_lt 0 (length shown.inserted.items)) → (held : Held)
        → ((given && not begun) ≡ (held_by translation rules batch state slots' rest held).awaits) × ((given && begun) ≡ (held_by translation rules batch state slots' rest held).drained)
    given_is given begun given_so begun_so held =
        let now = resumed_now in
        let g : given ≡ have_bits (new_bits (bits_of translation) (bits_with (mode_of translation) rules.rules batch (bits_of translation))) =
        given_so ∙ ap (λ (b : FieldBits). have_bits (new_bits (bits_of translation) b)) now.planned.during in
        let s : begun ≡ list_any (stands_in state.slots) (commit_pieces (mode_of translation) (bits_of translation) rules.rules batch).inserted =
        begun_so ∙ begun_is now.stopped in
        (ap₂ (λ (a b : Bool). a && not b) g s, ap₂ (λ (a b : Bool). a && b) g s)

    -- so what is held is the plan that goes on, and there is room for it
    pub made_now : (given begun awaits drained : Bool) → given ≡ have_bits (new_bits (bits_of translation) (during_of rest.bits)) → begun ≡ (nat_lt 0 shown.stage.done && nat_lt 0 (length shown.inserted.items))
        → awaits ≡ (given && not begun) → drained ≡ (given && begun) → (other : List Command) → other ≡ batch → (held : Held) → held ≡ held_from rest awaits drained other slots' held.undo
        → (spare : ℕ) → 2 * length (all_writes rest.plan.writes) + 1 ≤ spare → IsMade slots mode placement parts batch device_slots state spare translation rules new found held
    made_now given begun awaits drained given_so begun_so awaits_so drained_so other other_is held held_is spare enough =
        let drain = given_is given begun given_so begun_so held in
        let same = held_same translation rules batch state slots' rest held awaits drained other (awaits_so ∙ drain.0) (drained_so ∙ drain.1) other_is held_is in
        record {
          managed = subst (λ (h : Held). IsManaged translation rules new found (Some h)) same (managed_on placement translation rules batch state shown old new arranged slots' found rest held resumed_now);
          resumes = subst (λ (h : Held). Resumes slots mode placement parts batch device_slots state (managed_by placement translation rules new found (Some h))) same (resumes_now held);
          reserved = subst (λ (h : Held). length (held_of translation found rules.rules new.entries h).actions ≤ spare) same (room_forward translation rules batch state found new slots' rest held spare enough);
          both_ways = subst (λ (h : Held). room_both_ways (held_of translation found rules.rules new.entries h) ≤ spare) same (room_on translation rules batch state found new slots' rest held spare enough);
        }
      where
        resumes_now : (one : Held) → Resumes slots mode placement parts batch device_slots state (managed_by placement translation rules new found (Some (held_by translation rules batch state slots' rest one)))
        resumes_now one =
            subst (λ (n : ℕ). Resumes slots mode placement parts batch n state (managed_by placement translation rules new found (Some (held_by translation rules batch state slots' rest one)))) is.size
            (subst (λ (m : Mode). Resumes slots m placement parts batch (length state.slots) state (managed_by placement translation rules new found (Some (held_by translation rules batch state slots' rest one)))) mode_is
            (subst (λ (n : ℕ). Resumes n (mode_of translation) placement parts batch (length state.slots) state (managed_by placement translation rules new found (Some (held_by translation rules batch state slots' rest one)))) number
            (resumes placement translation rules batch state shown old new arranged slots' found rest one resumed_now parts (sym same) (sym same_bits))))
