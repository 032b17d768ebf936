-- A write of a slot, by what the calls found of it.
use Rattle.std.proofs.Common.{◌≡◌, ℕ, ◌+◌, ◌<◌, Bool, IsTrue, Option, Some, List, length, ◌⊎◌, refl, sym, ◌∙◌, subst, ap}
use Rattle.std.specs.Prelude.{option_map, slice_set}
use Rattle.slot_order.specs.Order.{slot}
use Rattle.rule_model.specs.declared.Rule.{Rule}
use Rattle.rule_model.specs.declared.words.Entry.{Entry}
use Rattle.rule_model.specs.Entry.{RankedPiece, entry_for}
use Rattle.rule_store.specs.declared.Mode.{Mode}
use Rattle.rule_store.specs.declared.Command.{Command}
use Rattle.tcam_device.specs.declared.Write.TheVariants.{Slot}
use Rattle.tcam_device.specs.State.{State, apply}
use Rattle.tcam_device.specs.Order.{HasOneTwin}
use Rattle.commit_writes.specs.Bits.{FieldBits, bits_with}
use Rattle.readback.specs.Progress.{AreParted, IsOutOfTurn}
use Rattle.readback.specs.Stage.{IsStage}
use Rattle.readback.specs.Tasks.{CommitPieces, commit_pieces, tasks_of}
use Rattle.trace_check.specs.declared.commit.Commit.{Commit}
use Rattle.trace_check.specs.declared.commit.Device.{Device}
use Rattle.trace_check.specs.declared.slots.Pair.{Pair}
use Rattle.trace_check.specs.declared.tasks.TaskKind.TheVariants as kind
use Rattle.trace_check.specs.Behind.{entries_in, ArePlacedTasks}
use Rattle.trace_check.specs.Coming.{AreAllPlaced, ComesRight, MayLeave}
use Rattle.trace_check.specs.Kept.{IsKeptRight, IsPair, device_state, pieces_kept}
use Rattle.trace_check.specs.Local.{KeepsTwins}
use Rattle.trace_check.proofs.Comes.{entries_set}
use Rattle.trace_check.proofs.KeptWrites.{kept_then, state_is, room}
use Rattle.trace_check.proofs.PlacedAnew.{inserts_placed, rewrites_placed, erases_placed}
use Rattle.trace_check.proofs.RefusedWrites.{not_early}

module _ (slots : ℕ) (mode : Mode) (bits : FieldBits) (rules : List Rule) (batch : List Command) (device : Device) (commit : Commit) (kept : IsKeptRight slots mode bits rules batch device commit)
    (at : ℕ) (used : at < slots) (inside : at < length device.places) (content : Option RankedPiece) (entry : Option Entry) (is : option_map entry_for content ≡ entry) where
  abbrev p : CommitPieces
  p = commit_pieces mode bits rules batch

  abbrev places : List (Option RankedPiece)
  places = device.places

  abbrev state : State
  state = device_state device

  written : entries_in (slice_set places at content) ≡ slice_set state.slots at entry
  written = entries_set places at content ∙ ap (slice_set (entries_in places) at) is

  -- the tasks that the write doesn't touch are where they were
  pub all_placed : AreAllPlaced commit (slice_set places at content) at (slot places at)
  all_placed = record {
    inserts = subst (λ n. ArePlacedTasks (slice_set places at content) at (slot places at) kind.Insert commit.inserted.items 0 n) (sym kept.number)
        (subst (λ (q : CommitPieces). ArePlacedTasks (slice_set places at content) at (slot places at) kind.Insert q.inserted 0 (length kept.done)) (sym kept.is.pieces)
        (inserts_placed slots bits (bits_with mode rules batch bits) p state kept.done kept.left kept.stage places refl at content entry is stands_inside inside written));
    rewrites = subst (λ n. ArePlacedTasks (slice_set places at content) at (slot places at) kind.Rewrite commit.rewritten.items (length commit.inserted.items) n) (sym kept.number)
        (subst (λ (q : CommitPieces). ArePlacedTasks (slice_set places at content) at (slot places at) kind.Rewrite q.rewritten (length q.inserted) (length kept.done)) (sym kept.is.pieces)
        (rewrites_placed slots bits (bits_with mode rules batch bits) p state kept.done kept.left kept.stage places refl at content entry is stands_inside inside written));
    erases = subst (λ n. ArePlacedTasks (slice_set places at content) at (slot places at) kind.Erase commit.erased.items (length commit.inserted.items + length commit.rewritten.items) n) (sym kept.number)
        (subst (λ (q : CommitPieces). ArePlacedTasks (slice_set places at content) at (slot places at) kind.Erase q.erased (length q.inserted + length q.rewritten) (length kept.done)) (sym kept.is.pieces)
        (erases_placed slots bits (bits_with mode rules batch bits) p state kept.done kept.left kept.stage places refl at content entry is stands_inside inside written));
  }
    where
      stands_inside : at < length state.slots
      stands_inside = room slots mode bits rules batch device commit kept at used inside

  -- a task that is done out of its turn
  pub none_early : IsStage slots mode bits rules batch (apply state (Slot at entry))
      → (AreAllPlaced commit (slice_set places at content) at (slot places at) → (priority : ℕ) × IsOutOfTurn (entries_in (slice_set places at content)) (tasks_of (pieces_kept commit)) priority) → ⊥
  none_early later early =
      let w = early all_placed in
      not_early slots mode bits rules batch device commit kept at used inside entry later (entries_in (slice_set places at content)) w.0 written w.1

  -- by what the slots hold then, and what stood
  pub early_found : (now : List (Option RankedPiece)) (stood : Option RankedPiece) → now ≡ slice_set places at content → stood ≡ slot places at → IsStage slots mode bits rules batch (apply state (Slot at entry))
      → (AreAllPlaced commit now at stood → (priority : ℕ) × IsOutOfTurn (entries_in now) (tasks_of (pieces_kept commit)) priority) → ⊥
  early_found now stood now_is stood_is later early =
      none_early later (subst (λ s. AreAllPlaced commit (slice_set places at content) at s → (priority : ℕ) × IsOutOfTurn (entries_in (slice_set places at content)) (tasks_of (pieces_kept commit)) priority) stood_is
      (subst (λ n. AreAllPlaced commit n at stood → (priority : ℕ) × IsOutOfTurn (entries_in n) (tasks_of (pieces_kept commit)) priority) now_is early))

  pub counted_found : (now : List (Option RankedPiece)) (stood : Option RankedPiece) (done : ℕ) → now ≡ slice_set places at content → stood ≡ slot places at
      → (AreAllPlaced commit now at stood → (left : ℕ) × AreParted (entries_in now) (tasks_of (pieces_kept commit)) done left)
      → AreAllPlaced commit (slice_set places at content) at (slot places at) → (left : ℕ) × AreParted (entries_in (slice_set places at content)) (tasks_of (pieces_kept commit)) done left
  counted_found now stood done now_is stood_is counted =
      subst (λ s. AreAllPlaced commit (slice_set places at content) at s → (left : ℕ) × AreParted (entries_in (slice_set places at content)) (tasks_of (pieces_kept commit)) done left) stood_is
      (subst (λ n. AreAllPlaced commit n at stood → (left : ℕ) × AreParted (entries_in n) (tasks_of (pieces_kept commit)) done left) now_is counted)

  -- what is kept behind the write
  pub kept_behind : (puts : Bool) → ComesRight commit device at entry content puts → ((x : RankedPiece) → slot places at ≡ Some x → MayLeave commit places at content x)
      → (pair : Option Pair)
      → (HasOneTwin (entries_in places) → IsPair (entries_in places) commit.pair
      → KeepsTwins (entries_in places) at (option_map entry_for content) × IsPair (slice_set (entries_in places) at (option_map entry_for content)) pair)
      → (done : ℕ)
      → (AreAllPlaced commit (slice_set places at content) at (slot places at) → (left : ℕ) × AreParted (entries_in (slice_set places at content)) (tasks_of (pieces_kept commit)) done left)
      → (device_then : Device) (commit_then : Commit) → device_then.places ≡ slice_set places at content → device_then.src.items ≡ device.src.items → device_then.dst.items ≡ device.dst.items
      → pieces_kept commit_then ≡ pieces_kept commit → commit_then.live ≡ commit.live → commit_then.gives_bit ≡ commit.gives_bit → commit_then.done ≡ done → commit_then.pair ≡ pair
      → (IsTrue commit_then.served → IsTrue commit.served ⊎ IsTrue puts)
      → IsKeptRight slots mode bits rules batch device_then commit_then × (device_state device_then ≡ apply state (Slot at entry))
  kept_behind puts comes goes pair paired done counted device_then commit_then places_are src_is dst_is pieces_same live_same gives_same done_is pair_same served_is =
      let both = paired kept.stage.twins kept.pair in
      let parted = counted all_placed in
      let twins = subst (λ (e : Option Entry). KeepsTwins state.slots at e) is both.0 in
      let pair_is = subst (IsPair (slice_set (entries_in places) at (option_map entry_for content))) (sym pair_same) both.1 in (
        kept_then slots mode bits rules batch device commit kept at used inside entry content puts comes goes twins done parted.0 parted.1
            device_then commit_then places_are src_is dst_is pieces_same live_same gives_same done_is pair_is served_is,
        state_is slots mode bits rules batch device commit kept at used inside entry content puts comes goes twins done parted.0 parted.1
            device_then commit_then places_are src_is dst_is pieces_same live_same gives_same done_is pair_is served_is,
      )
