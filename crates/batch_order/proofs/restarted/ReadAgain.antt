-- A stopped device is read again: its pieces have ids, as a planned rest asks for them.
use Rattle.std.proofs.Common.{◌≡◌, ℕ, List, length, sym, ◌∙◌, subst}
use Rattle.slot_pool.specs.Arrangement.{Slots}
use Rattle.rule_model.specs.declared.Rule.{Rule}
use Rattle.rule_store.specs.declared.Mode.{Mode}
use Rattle.rule_store.specs.declared.Command.{Command}
use Rattle.placement.specs.Live.{AreApart}
use Rattle.tcam_device.specs.State.{State}
use Rattle.commit_writes.specs.Bits.{FieldBits}
use Rattle.readback.specs.declared.staging.Shown.{Shown}
use Rattle.batch_order.specs.Entries.{Entries}
use Rattle.batch_order.specs.Standing.{AreStanding, HasPieceOf, IsWithTwin, without_twin}
use Rattle.batch_order.specs.Stopped.{IsAsFound, IsReadAgain, IsStopped}
use Rattle.batch_order.proofs.restarted.ReadRest.{rest_read}
use Rattle.batch_order.proofs.restarted.ReadSlots.{twin_piece}
use Rattle.batch_order.proofs.restarted.ReadTwin.{twin_found}

-- as many slots are arranged as are in use
module _ (slots : ℕ) (mode : Mode) (bits : FieldBits) (rules : List Rule) (batch : List Command) (state : State) (shown : Shown) (kept : Entries) (arranged : Slots)
    (is : IsStopped slots mode bits rules batch state shown) (again : AreStanding slots (without_twin shown.stage.twin shown.places.items) kept arranged) (same : kept.slots ≡ slots) where
  size : slots ≡ length arranged
  size = sym same ∙ sym again.size

  arranged_stop : IsStopped (length arranged) mode bits rules batch state shown
  arranged_stop = subst (λ (n : ℕ). IsStopped n mode bits rules batch state shown) size is

  arranged_again : AreStanding (length arranged) (without_twin shown.stage.twin shown.places.items) kept arranged
  arranged_again = subst (λ (n : ℕ). AreStanding n (without_twin shown.stage.twin shown.places.items) kept arranged) size again

  arranged_apart : AreApart kept.slots kept.live → AreApart (length arranged) kept.live
  arranged_apart apart = subst (λ (n : ℕ). AreApart n kept.live) (sym again.size) apart

-- the twin's slot has none yet, and its piece has one
pub has_piece_of : (slots : ℕ) (mode : Mode) (bits : FieldBits) (rules : List Rule) (batch : List Command) (state : State) (shown : Shown) (kept : Entries) (arranged : Slots)
    → IsStopped slots mode bits rules batch state shown → AreStanding slots (without_twin shown.stage.twin shown.places.items) kept arranged → kept.slots ≡ slots
    → HasPieceOf shown.stage.twin shown.places.items kept arranged
has_piece_of slots mode bits rules batch state shown kept arranged is again same =
    twin_piece mode bits rules batch state shown kept arranged (arranged_stop slots mode bits rules batch state shown kept arranged is again same) (arranged_again slots mode bits rules batch state shown kept arranged is again same)

-- the ids are those that a planned rest asks for
pub read_again : (slots : ℕ) (mode : Mode) (bits : FieldBits) (rules : List Rule) (batch : List Command) (state : State) (shown : Shown) (kept : Entries) (arranged : Slots)
    → IsStopped slots mode bits rules batch state shown → AreStanding slots (without_twin shown.stage.twin shown.places.items) kept arranged → kept.slots ≡ slots → AreApart kept.slots kept.live
    → IsReadAgain mode bits rules batch state shown kept arranged
read_again slots mode bits rules batch state shown kept arranged is again same apart =
    rest_read mode bits rules batch state shown kept arranged (arranged_stop slots mode bits rules batch state shown kept arranged is again same) (arranged_again slots mode bits rules batch state shown kept arranged is again same)
    (arranged_apart slots mode bits rules batch state shown kept arranged is again same apart)

-- and with the twin they are what the slots hold
pub as_found : (slots : ℕ) (mode : Mode) (bits : FieldBits) (rules : List Rule) (batch : List Command) (state : State) (shown : Shown) (kept : Entries) (arranged : Slots) (before : Slots)
    → IsStopped slots mode bits rules batch state shown → AreStanding slots (without_twin shown.stage.twin shown.places.items) kept arranged → kept.slots ≡ slots → AreApart kept.slots kept.live
    → IsWithTwin shown.stage.twin shown.places.items kept.live arranged before → IsAsFound state kept before
as_found slots mode bits rules batch state shown kept arranged before is again same apart with =
    twin_found mode bits rules batch state shown kept arranged (arranged_stop slots mode bits rules batch state shown kept arranged is again same) (arranged_again slots mode bits rules batch state shown kept arranged is again same)
    (arranged_apart slots mode bits rules batch state shown kept arranged is again same apart) before with
