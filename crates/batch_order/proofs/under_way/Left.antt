-- What is left of a commit under way, on or back, and what its steps do.
use Rattle.std.proofs.Common.{◌≡◌, ℕ, zero, suc, ◌+◌, ◌-◌, ◌<◌, ◌≤◌, Bool, true, false, List, [], ◌∷◌, ◌++◌, length, take, drop, map, get_or, slice_get, inl, inr, ◌⊎◌, Option, Some, None, refl, sym, ap, ap₂, subst, ◌∙◌, arith}
use Rattle.std.specs.Prelude.{IsSome, nat_eq, nat_lt, option_map}
use Rattle.std.proofs.lemmas.Bool.{and_parts, ne_eqb}
use Rattle.std.proofs.lemmas.List.{length-take}
use Rattle.std.proofs.lemmas.List.Sums.{fold-append}
use Rattle.std.proofs.lemmas.Option.{get_or_from_slice_get, slice_get-get_or, slice_get-map, slice_get_within}
use Rattle.slot_pool.specs.Arrangement.{Slots}
use Rattle.rule_store.specs.Batch.{set_after}
use Rattle.rule_store.specs.Store.{StoredRules}
use Rattle.rule_store.proofs.Sums.{take-read}
use Rattle.tcam_device.specs.declared.Write.{Write}
use Rattle.tcam_device.specs.declared.Write.TheVariants.{Slot}
use Rattle.tcam_device.specs.declared.Action.{Action}
use Rattle.tcam_device.specs.declared.Action.TheVariants.{Written, Drained}
use Rattle.tcam_device.specs.State.{IsInUse, State, apply, state_after}
use Rattle.tcam_device.specs.Insertion.{is_table_write, table_writes}
use Rattle.commit_writes.specs.Actions.{with_drain}
use Rattle.commit_writes.specs.Bits.{FieldBits}
use Rattle.commit_writes.specs.Changes.{during_of}
use Rattle.commit_writes.specs.Undo.{restoring, undo_writes}
use Rattle.commit_writes.proofs.Actions.{undo-append}
use Rattle.commit_writes.proofs.Undone.{length-undo_writes, restored}
use Rattle.batch_order.specs.declared.Placement.{Placement}
use Rattle.batch_order.specs.declared.Step.{Step}
use Rattle.batch_order.specs.declared.Step.TheVariants as step
use Rattle.batch_order.specs.declared.held.Held.{Held}
use Rattle.batch_order.specs.declared.planned_writes.PlannedWrite.{PlannedWrite}
use Rattle.batch_order.specs.declared.translation.Translation.{Translation}
use Rattle.batch_order.specs.Entries.{Entries}
use Rattle.batch_order.specs.Kept.{AreWordsFirst, IsManaged, IsPrepared, bits_of, bits_after, current_of, drained_then, drains_at, due_of, held_of, held_writes, left_of, made_then, mode_of, passed, settled_state, state_of, undo_left, way_of}
use Rattle.batch_order.specs.Managed.{HeldCommit, Managed, Way}
use Rattle.batch_order.specs.Noting.{all_undo}
use Rattle.batch_order.specs.Planning.{all_writes, as_write, as_writes}
use Rattle.batch_order.specs.Steps.{IsAllMade, Steps, StepsOn, awaits_drain, current_by, due_write, is_back, is_drain_next, next_of, way_by}
use Rattle.batch_order.proofs.arranged.Walked.{all_at}
use Rattle.batch_order.proofs.back.Restored.{restoring_in_use, restoring_read}
use Rattle.batch_order.proofs.back.Turned.{writes_leave_current}
use Rattle.batch_order.proofs.under_way.Carried.{view_of, drop-read, get-drop, held_size}
use Rattle.batch_order.proofs.under_way.Drains.{AreTablesFirst, IsDue, action_first, count_table, drain_next_is, drained_next, drains_when, drop_tables, due_first, due_is, due_map, due_none, has_drain_is, kind_at, not_drained, tables_first}
use Rattle.batch_order.proofs.under_way.Going.{restoring_kind, steps_keep_going}
use Rattle.batch_order.proofs.under_way.OnWay.{managed_at}
use Rattle.batch_order.proofs.under_way.Ways.{way_more}

-- with no action left, none is left to make
pub none_left : (held : Option HeldCommit) → next_of held ≡ None → awaits_drain held ≡ false → IsAllMade held
none_left None next drain = tt
none_left (Some held) next drain = go held.actions next drain
  where
    go : (actions : List Action) → due_write actions ≡ None → is_drain_next actions ≡ false → actions ≡ []
    go [] due none = refl
    go (Written write ∷ actions) due none = absurd (cc)
    go (Drained ∷ actions) due none = absurd (cc)

-- what a step does of a commit with these actions
pub steps_as : (old : Managed) (one : HeldCommit) (words : ℕ) (actions : List Action) (made : Step) (new : Managed) → one.actions ≡ actions
    → StepsOn old one words actions made new → Steps old words (Some one) made new
steps_as old one words actions made new is did = subst (λ (a : List Action). StepsOn old one words a made new) (sym is) did

-- the actions of a commit that isn't turned round
pub forward_actions : (translation : Option Translation) (rules : StoredRules) (kept : Entries) (slots : Slots) (held : Held) → held.turned ≡ None
    → (held_of translation slots rules.rules kept.entries held).actions ≡ with_drain held.awaits (drop held.made (held_writes kept.entries held))
forward_actions translation rules kept slots held forward =
    ap (λ (t : Option ℕ). with_drain held.awaits (left_of t (drop held.made (held_writes kept.entries held)) (undo_left translation slots kept.entries held))) forward

module _ (translation : Option Translation) (rules : StoredRules) (kept : Entries) (slots : Slots) (held : Held) (managed : IsManaged translation rules kept slots (Some held)) where
  abbrev writes : List Write
  writes = held_writes kept.entries held

  abbrev begun : State
  begun = settled_state translation kept.entries slots

  abbrev undo : List Write
  undo = undo_left translation slots kept.entries held

  abbrev left : List Write
  left = left_of held.turned (drop held.made (held_writes kept.entries held)) (undo_left translation slots kept.entries held)

  abbrev one : HeldCommit
  one = held_of translation slots rules.rules kept.entries held

  abbrev before : State
  before = state_of translation kept.entries slots (Some held)

  cut : AreWordsFirst held.counts.words writes
  cut = managed.carried.words_first

  -- words are left first
  left_first : (n : ℕ) → AreTablesFirst (drop n writes)
  left_first n = subst (λ ws. AreTablesFirst (drop n ws)) (sym cut.parts) (tables_first cut.tables cut.behind cut.to_tables cut.to_slots n)

  -- and so many of them
  left_words : (n : ℕ) → n ≤ held.counts.words → table_writes (drop n writes) ≡ held.counts.words - n
  left_words n below =
      let number : held.counts.words ≡ length cut.tables = cut.count in
      ap (λ ws. table_writes (drop n ws)) cut.parts ∙ drop_tables cut.tables cut.behind cut.to_tables cut.to_slots n (omega arith) ∙ ap (λ k. k - n) (sym number)

  -- which of them are words
  word_at : (k : ℕ) (write : Write) → slice_get writes k ≡ Some write
      → ((is_table_write write ≡ true) × (k < held.counts.words)) ⊎ ((is_table_write write ≡ false) × (held.counts.words ≤ k))
  word_at k write read =
      let number : held.counts.words ≡ length cut.tables = cut.count in
      elim (kind_at cut.tables cut.behind cut.to_tables cut.to_slots k write (subst (λ ws. slice_get ws k ≡ Some write) cut.parts read)) [
        | inl is ↦ inl (is.0, omega arith)
        | inr is ↦ inr (is.0, omega arith)
      ]

  inside_made : held.made ≤ length writes
  inside_made = let size : length writes ≡ length (all_writes held.writes) = held_size kept.entries held in let all = managed.carried.made in omega arith

  -- as many undo writes as were made
  pub undo_count : length (undo_left translation slots kept.entries held) ≡ held.made
  undo_count =
      let all = length-undo_writes begun (take held.made writes) in
      let taken = length-take held.made writes in
      let within = inside_made in
      omega arith

  -- once it is turned round no drain is to come, and the undo writes alone are left
  module _ (undone : ℕ) (turned : held.turned ≡ Some undone) where
    no_drain : held.awaits ≡ false
    no_drain = has_drain_is held.awaits left (managed.carried.going.right.undrained (ap (λ (t : Option ℕ). is_back (way_of t undo)) turned))

    pub back_actions : (held_of translation slots rules.rules kept.entries held).actions ≡ map Written (undo_left translation slots kept.entries held)
    back_actions = ap₂ (λ (b : Bool) (t : Option ℕ). with_drain b (left_of t (drop held.made writes) undo)) no_drain turned

    -- it was prepared
    pub way : IsPrepared translation rules kept slots held.ids.items (held_writes kept.entries held) (as_writes kept.entries held.rewrites.items (all_undo held.undo))
    way = managed.carried.way_back (managed.carried.back (subst IsSome (sym turned) refl))

  awaits_on : held.awaits ≡ true → held.turned ≡ None
  awaits_on still = go held.turned refl
    where
      go : (t : Option ℕ) → held.turned ≡ t → held.turned ≡ None
      go None is = is
      go (Some undone) is = absurd (let clash : true ≡ false = sym still ∙ no_drain undone is in cc)

  -- the drain is next where the manager finds it so
  pub drains_is : awaits_drain (Some (held_of translation slots rules.rules kept.entries held)) ≡ drains_at held.awaits held.made held.counts
  drains_is = go held.awaits refl
    where
      go : (b : Bool) → held.awaits ≡ b → is_drain_next (with_drain held.awaits left) ≡ drains_at held.awaits held.made held.counts
      go false is = ap (λ (b : Bool). is_drain_next (with_drain b left)) is ∙ not_drained left ∙ sym (ap (λ (b : Bool). drains_at b held.made held.counts) is)
      go true is =
          ap is_drain_next (forward_actions translation rules kept slots held (awaits_on is))
          ∙ drains_when held.awaits (drop held.made writes) (left_first held.made) held.made held.counts.words (λ still. left_words held.made (managed.carried.early still)) managed.carried.early

  -- the last write that stands
  pub record HasLast (k : ℕ) (write : Write) : Type 0 where
    pub read : slice_get (held_writes kept.entries held) k ≡ Some write
    pub undo_is : undo_left translation slots kept.entries held
        ≡ restoring (state_after (settled_state translation kept.entries slots) (take k (held_writes kept.entries held))) write
        ∷ undo_writes (settled_state translation kept.entries slots) (take k (held_writes kept.entries held))
    pub state_is : apply (state_of translation kept.entries slots (Some held)) (restoring (state_after (settled_state translation kept.entries slots) (take k (held_writes kept.entries held))) write)
        ≡ state_after (settled_state translation kept.entries slots) (take k (held_writes kept.entries held))

  last_one : (k : ℕ) → held.made ≡ suc k → (write : Write) × HasLast k write
  last_one k stands =
      let within = inside_made in
      let inside : k < length writes = omega arith in
      let write : Write = get_or writes k (Slot 0 None) in
      let read : slice_get writes k ≡ Some write = slice_get-get_or writes k (Slot 0 None) inside in
      let one_more : suc k ≡ k + 1 = omega arith in
      let taken : take held.made writes ≡ take k writes ++ write ∷ [] = ap (λ n. take n writes) (stands ∙ one_more) ∙ take-read writes k write read in (
        write,
        record {
          read = read;
          undo_is = ap (undo_writes begun) taken ∙ undo-append begun (take k writes) (write ∷ []);
          state_is = ap (λ ws. apply (state_after begun ws) (restoring (state_after begun (take k writes)) write)) taken
              ∙ ap (λ s. apply s (restoring (state_after begun (take k writes)) write)) (fold-append apply begun (take k writes) (write ∷ []))
              ∙ restored (state_after begun (take k writes)) write;
        },
      )

  -- the next write of a commit that goes on is the one behind those that were made
  read_on : held.turned ≡ None → drains_at held.awaits held.made held.counts ≡ false → next_of (Some one) ≡ slice_get writes held.made
  read_on forward not =
      let same : with_drain held.awaits left ≡ with_drain held.awaits (drop held.made writes) = forward_actions translation rules kept slots held forward in
      ap due_write same ∙ due_is held.awaits (drop held.made writes) (left_first held.made) (sym (ap is_drain_next same) ∙ (drains_is ∙ not)) ∙ get-drop writes held.made

  -- and of one that is turned round what undoes the last of these, as it is kept
  read_back : (undone : ℕ) → held.turned ≡ Some undone
      → next_of (Some one) ≡ option_map (as_write kept.entries held.rewrites.items) (elim (nat_eq held.made 0) [ true ↦ None | false ↦ slice_get (all_undo held.undo) (held.made - 1) ])
  read_back undone turned = ap due_write (back_actions undone turned) ∙ (due_map undo ∙ go held.made refl)
    where
      planned : Bool → ℕ → Option Write
      planned none n = option_map (as_write kept.entries held.rewrites.items) (elim none [ true ↦ None | false ↦ slice_get (all_undo held.undo) (n - 1) ])

      go : (n : ℕ) → held.made ≡ n → slice_get undo 0 ≡ planned (nat_eq held.made 0) held.made
      go zero is = ap (λ n. slice_get (undo_writes begun (take n writes)) 0) is ∙ sym (ap (λ n. planned (nat_eq n 0) n) is)
      go (suc k) is =
          let last = last_one k is in
          let less : held.made - 1 ≡ k = omega arith in
          ap (λ ws. slice_get ws 0) last.1.undo_is
          ∙ sym (restoring_read begun writes k last.0 last.1.read)
          ∙ sym (ap (λ ws. slice_get ws k) (way undone turned).undo_is)
          ∙ slice_get-map (as_write kept.entries held.rewrites.items) (all_undo held.undo) k
          ∙ ap (λ n. option_map (as_write kept.entries held.rewrites.items) (slice_get (all_undo held.undo) n)) (sym less)
          ∙ sym (ap (λ b. planned b held.made) (ne_eqb held.made 0 (λ none. absurd (omega arith))))

  -- the write that is due as callers see it is the planned one
  pub next_is : next_of (Some (held_of translation slots rules.rules kept.entries held)) ≡ option_map (as_write kept.entries held.rewrites.items) (due_of held)
  next_is = go (drains_at held.awaits held.made held.counts) refl
    where
      rest : Option ℕ → Option PlannedWrite
      rest t = elim t [ None ↦ slice_get (all_writes held.writes) held.made | Some undone ↦ elim (nat_eq held.made 0) [ true ↦ None | false ↦ slice_get (all_undo held.undo) (held.made - 1) ] ]

      planned : Bool → Option ℕ → Option Write
      planned drains t = option_map (as_write kept.entries held.rewrites.items) (elim drains [ true ↦ None | false ↦ rest t ])

      by : drains_at held.awaits held.made held.counts ≡ false → (t : Option ℕ) → held.turned ≡ t → next_of (Some one) ≡ planned false t
      by not None is = read_on is not ∙ slice_get-map (as_write kept.entries held.rewrites.items) (all_writes held.writes) held.made
      by not (Some undone) is = read_back undone is

      go : (b : Bool) → drains_at held.awaits held.made held.counts ≡ b → next_of (Some one) ≡ planned (drains_at held.awaits held.made held.counts) held.turned
      go true is = due_none (with_drain held.awaits left) (drains_is ∙ is) ∙ sym (ap (λ b. planned b held.turned) is)
      go false is = by is held.turned refl ∙ sym (ap (λ b. planned b held.turned) is)

  -- what is known of the next write, and of where the commit stands with it made
  pub record Passes (made : ℕ) (drained : Bool) (write : Write) : Type 0 where
    pub left_is : left_of held.turned (drop held.made (held_writes kept.entries held)) (undo_left translation slots kept.entries held)
        ≡ write ∷ left_of held.turned (drop made (held_writes kept.entries held)) (undo_writes (settled_state translation kept.entries slots) (take made (held_writes kept.entries held)))
    pub state_is : state_after (settled_state translation kept.entries slots) (take made (held_writes kept.entries held)) ≡ apply (state_of translation kept.entries slots (Some held)) write
    pub way_is : way_of held.turned (undo_writes (settled_state translation kept.entries slots) (take made (held_writes kept.entries held)))
        ≡ way_by (state_of translation kept.entries slots (Some held)) write (way_of held.turned (undo_left translation slots kept.entries held))
    pub current_is : (elim drained [ true ↦ during_of held.bits | false ↦ bits_of translation ]) ≡ current_by (bits_of translation) (current_of translation held) (is_table_write write)
    pub word : held.awaits ≡ true → is_table_write write ≡ true
    pub early : held.awaits ≡ true → made ≤ held.counts.words
    pub made_are : made ≤ length (all_writes held.writes)
    pub in_use : IsInUse (length slots) write

  pub next_read : held.turned ≡ None → (write : Write) → next_of (Some (held_of translation slots rules.rules kept.entries held)) ≡ Some write → slice_get (held_writes kept.entries held) held.made ≡ Some write
  next_read forward write next = go (drains_at held.awaits held.made held.counts) refl
    where
      go : (b : Bool) → drains_at held.awaits held.made held.counts ≡ b → slice_get writes held.made ≡ Some write
      go true is = absurd (let clash : None ≡ Some write = sym (due_none (with_drain held.awaits left) (drains_is ∙ is)) ∙ next in cc)
      go false is = sym (read_on forward is) ∙ next

  passes_on : held.turned ≡ None → (write : Write) → next_of (Some one) ≡ Some write → Passes (held.made + 1) held.drained write
  passes_on forward write next =
      let read : slice_get writes held.made ≡ Some write = next_read forward write next in
      let due : IsDue held.awaits (drop held.made writes) write =
      due_first held.awaits (drop held.made writes) write (left_first held.made) (sym (ap due_write (forward_actions translation rules kept slots held forward)) ∙ next) in
      let inside : held.made < length writes = slice_get_within writes held.made write read in
      let size : length writes ≡ length (all_writes held.writes) = held_size kept.entries held in
      let got = get_or_from_slice_get writes held.made write write read in
      record {
        left_is = ap (λ (t : Option ℕ). left_of t (drop held.made writes) undo) forward
            ∙ (drop-read writes held.made write inside (sym got) ∙ ap (λ (ws : List Write). write ∷ ws) (sym (ap (λ (t : Option ℕ). left_of t (drop (held.made + 1) writes) (undo_writes begun (take (held.made + 1) writes))) forward)));
        state_is = ap (state_after begun) (take-read writes held.made write read) ∙ fold-append apply begun (take held.made writes) (write ∷ []);
        way_is = ap (λ ws. way_of held.turned (undo_writes begun ws)) (take-read writes held.made write read)
            ∙ (ap (way_of held.turned) (undo-append begun (take held.made writes) (write ∷ [])) ∙ way_more held.turned before write undo);
        current_is = sym (writes_leave_current (bits_of translation) one write (with_drain held.awaits due.more) managed.carried.going.right
            (ap (λ (t : Option ℕ). is_back (way_of t undo)) forward) (forward_actions translation rules kept slots held forward ∙ due.actions_are));
        word = due.word;
        early = λ still.
            (let below = managed.carried.early still in
            let number : table_writes (drop held.made writes) ≡ held.counts.words - held.made = left_words held.made below in
            let more : table_writes (drop held.made writes) ≡ suc (table_writes due.more) = ap table_writes due.left_is ∙ count_table write due.more (due.word still) in
            omega arith);
        made_are = omega arith;
        in_use = all_at (IsInUse (length slots)) writes held.made write managed.carried.in_use inside got;
      }

  passes_back : (undone : ℕ) → held.turned ≡ Some undone → (write : Write) → next_of (Some one) ≡ Some write
      → Passes (held.made - 1) (elim (nat_lt (held.made - 1) held.counts.words) [ true ↦ false | false ↦ held.drained ]) write
  passes_back undone turned write next = go held.made refl
    where
      due : slice_get undo 0 ≡ Some write
      due = sym (due_map undo) ∙ (sym (ap due_write (back_actions undone turned)) ∙ next)

      current_then : Bool → FieldBits
      current_then b = let drained : Bool = elim b [ true ↦ false | false ↦ held.drained ] in elim drained [ true ↦ during_of held.bits | false ↦ bits_of translation ]

      current_same : (b : Bool) → current_then b ≡ current_by (bits_of translation) (current_of translation held) b
      current_same true = refl
      current_same false = refl

      go : (n : ℕ) → held.made ≡ n → Passes (held.made - 1) (elim (nat_lt (held.made - 1) held.counts.words) [ true ↦ false | false ↦ held.drained ]) write
      go zero is = absurd (let clash : None ≡ Some write = sym (ap (λ n. slice_get (undo_writes begun (take n writes)) 0) is) ∙ due in cc)
      go (suc k) is =
          let last = last_one k is in
          let at : State = state_after begun (take k writes) in
          let read : Some (restoring at last.0) ≡ Some write = sym (ap (λ ws. slice_get ws 0) last.1.undo_is) ∙ due in
          let same : restoring at last.0 ≡ write = cc in
          let less : held.made - 1 ≡ k = omega arith in
          let size : length writes ≡ length (all_writes held.writes) = held_size kept.entries held in
          let within = inside_made in
          let inside : k < length writes = omega arith in
          let kind : is_table_write last.0 ≡ is_table_write write = sym (restoring_kind at last.0) ∙ ap is_table_write same in
          let behind : List Write = undo_writes begun (take (held.made - 1) writes) in
          record {
            left_is = ap (λ (t : Option ℕ). left_of t (drop held.made writes) undo) turned
                ∙ (last.1.undo_is
                ∙ (ap₂ (λ (w : Write) (n : ℕ). w ∷ undo_writes begun (take n writes)) same (sym less)
                ∙ ap (λ (ws : List Write). write ∷ ws) (sym (ap (λ (t : Option ℕ). left_of t (drop (held.made - 1) writes) behind) turned))));
            state_is = ap (λ n. state_after begun (take n writes)) less ∙ (sym last.1.state_is ∙ ap (apply before) same);
            way_is = ap (λ (t : Option ℕ). way_of t behind) turned ∙ sym (ap (λ (t : Option ℕ). way_by before write (way_of t undo)) turned);
            current_is = elim (word_at k last.0 last.1.read) [
              | inl word ↦
                  let inside : k < held.counts.words = word.1 in
                  let below : nat_lt (held.made - 1) held.counts.words ≡ true = ap (λ n. nat_lt n held.counts.words) less ∙ grind arith in
                  ap current_then below ∙ (current_same true ∙ ap (current_by (bits_of translation) (current_of translation held)) (sym word.0 ∙ kind))
              | inr other ↦
                  let past : held.counts.words ≤ k = other.1 in
                  let above : nat_lt (held.made - 1) held.counts.words ≡ false = ap (λ n. nat_lt n held.counts.words) less ∙ grind arith in
                  ap current_then above ∙ (current_same false ∙ ap (current_by (bits_of translation) (current_of translation held)) (sym other.0 ∙ kind))
            ];
            word = λ still. absurd (let clash : true ≡ false = sym still ∙ no_drain undone turned in cc);
            early = λ still. absurd (let clash : true ≡ false = sym still ∙ no_drain undone turned in cc);
            made_are = omega arith;
            in_use = subst (IsInUse (length slots)) same (restoring_in_use (length slots) at last.0
                (all_at (IsInUse (length slots)) writes k last.0 managed.carried.in_use inside (get_or_from_slice_get writes k last.0 last.0 last.1.read)));
          }

  pub passes : (write : Write) → next_of (Some (held_of translation slots rules.rules kept.entries held)) ≡ Some write
      → Passes (made_then held.turned held.made) (drained_then held.turned held.made held.counts.words held.drained) write
  passes write next = go held.turned refl
    where
      so : Option ℕ → Type 0
      so t = Passes (made_then t held.made) (drained_then t held.made held.counts.words held.drained) write

      go : (t : Option ℕ) → held.turned ≡ t → so held.turned
      go None is = subst so (sym is) (passes_on is write next)
      go (Some undone) is = subst so (sym is) (passes_back undone is write next)

  -- one more may stand then, or one less
  pub may_pass : IsSome (next_of (Some (held_of translation slots rules.rules kept.entries held))) → (held.turned ≡ None → held.made < length (all_writes held.writes)) × (IsSome held.turned → 1 ≤ held.made)
  may_pass some = go (next_of (Some one)) refl some
    where
      back : (write : Write) → next_of (Some one) ≡ Some write → (t : Option ℕ) → held.turned ≡ t → IsSome t → 1 ≤ held.made
      back write next None is some = absurd (let clash = some in cc)
      back write next (Some undone) is some =
          let first : undo ≡ write ∷ left_of held.turned (drop (held.made - 1) writes) (undo_writes begun (take (held.made - 1) writes)) =
          sym (ap (λ (t : Option ℕ). left_of t (drop held.made writes) undo) is) ∙ (passes_back undone is write next).left_is in
          let size : length undo ≡ suc (length (left_of held.turned (drop (held.made - 1) writes) (undo_writes begun (take (held.made - 1) writes)))) = ap length first in
          let count : length undo ≡ held.made = undo_count in
          omega arith

      go : (n : Option Write) → next_of (Some one) ≡ n → IsSome n → (held.turned ≡ None → held.made < length (all_writes held.writes)) × (IsSome held.turned → 1 ≤ held.made)
      go None is some = absurd (let clash = some in cc)
      go (Some write) is some = (λ forward. (let more = (passes_on forward write is).made_are in omega arith), λ turned. back write is held.turned refl turned)

  module _ (placement : Placement) (write : Write) (next : next_of (Some (held_of translation slots rules.rules kept.entries held)) ≡ Some write) where
    did : Passes (made_then held.turned held.made) (drained_then held.turned held.made held.counts.words held.drained) write
    did = passes write next

    abbrev old : Managed
    old = view_of placement translation rules kept slots (Some held)

    abbrev behind : List Write
    behind = left_of held.turned (drop (made_then held.turned held.made) writes) (undo_writes begun (take (made_then held.turned held.made) writes))

    abbrev next_view : State → Way → FieldBits → Managed
    next_view s w current = record {
      slots = length slots;
      mode = mode_of translation;
      placement = placement;
      rules = rules.rules;
      bits = bits_of translation;
      state = s;
      held = Some (record {
        prepared = held.prepared;
        actions = with_drain held.awaits behind;
        way = w;
        counts = held.counts;
        rules = set_after rules.rules held.batch;
        during = during_of held.bits;
        bits = bits_after rules.rules held;
        current = current;
      });
    }

    -- the next write was made
    pub pass_steps : (words : ℕ)
        → Steps (view_of placement translation rules kept slots (Some held)) words (view_of placement translation rules kept slots (Some held)).held (step.Wrote write) (view_of placement translation rules kept slots (Some (passed held)))
    pass_steps words =
        steps_as old one words (Written write ∷ with_drain held.awaits behind) (step.Wrote write) (view_of placement translation rules kept slots (Some (passed held)))
        (ap (with_drain held.awaits) did.left_is ∙ action_first held.awaits write behind did.word) (
          refl,
          ap₂ (λ (s : State) (c : FieldBits). next_view s (way_of held.turned (undo_writes begun (take (made_then held.turned held.made) writes))) c) did.state_is did.current_is
              ∙ ap (λ (w : Way). next_view (apply before write) w (current_by (bits_of translation) (current_of translation held) (is_table_write write))) did.way_is,
        )

    -- and the commit can be carried out still
    pub managed_passed : IsManaged translation rules kept slots (Some (passed held))
    managed_passed =
        managed_at translation rules kept slots held managed (made_then held.turned held.made) held.turned held.awaits (drained_then held.turned held.made held.counts.words held.drained) record {
          back = managed.carried.back;
          early = did.early;
          made_are = did.made_are;
          going = steps_keep_going old 0 (step.Wrote write) (view_of placement translation rules kept slots (Some (passed held))) managed.carried.going (pass_steps 0);
        }

  pub managed_next : Placement → IsSome (next_of (Some (held_of translation slots rules.rules kept.entries held))) → IsManaged translation rules kept slots (Some (passed held))
  managed_next placement some = go (next_of (Some one)) refl some
    where
      go : (n : Option Write) → next_of (Some one) ≡ n → IsSome n → IsManaged translation rules kept slots (Some (passed held))
      go None is some = absurd (let clash = some in cc)
      go (Some write) is some = managed_passed placement write is

  module _ (placement : Placement) (next : awaits_drain (Some (held_of translation slots rules.rules kept.entries held)) ≡ true) where
    still : held.awaits ≡ true
    still = (and_parts held.awaits (nat_eq held.made held.counts.words) (sym drains_is ∙ next)).0

    no_words : table_writes left ≡ 0
    no_words =
        ap (λ (t : Option ℕ). table_writes (left_of t (drop held.made writes) undo)) (awaits_on still)
        ∙ (drain_next_is held.awaits (drop held.made writes) (left_first held.made) (sym (ap is_drain_next (forward_actions translation rules kept slots held (awaits_on still))) ∙ next)).1

    -- the drain was made
    pub drained_steps : Steps (view_of placement translation rules kept slots (Some held)) 0 (view_of placement translation rules kept slots (Some held)).held step.Drained (view_of placement translation rules kept slots (Some (record held { awaits = false; drained = true })))
    drained_steps =
        steps_as (view_of placement translation rules kept slots (Some held)) one 0 (Drained ∷ map Written left) step.Drained (view_of placement translation rules kept slots (Some (record held { awaits = false; drained = true })))
        (ap (λ (b : Bool). with_drain b left) still ∙ drained_next left no_words) (refl, refl)

    pub managed_drained : IsManaged translation rules kept slots (Some (record held { awaits = false; drained = true }))
    managed_drained =
        managed_at translation rules kept slots held managed held.made held.turned false true record {
          back = managed.carried.back;
          early = λ none. absurd (let clash : false ≡ true = none in cc);
          made_are = managed.carried.made;
          going = steps_keep_going (view_of placement translation rules kept slots (Some held)) 0 step.Drained (view_of placement translation rules kept slots (Some (record held { awaits = false; drained = true })))
              managed.carried.going drained_steps;
        }
