-- Where a set is at rest, what is kept of a commit that begins is right: none of its tasks is done.
use Rattle.std.proofs.Common.{◌≡◌, ℕ, ◌≤◌, true, false, None, Some, List, ◌++◌, length, take, Contains, IsTrue, IsFalse, sym, ◌∙◌, subst, arith, append-nil}
use Rattle.std.proofs.lemmas.List.{get_or_past}
use Rattle.slot_order.specs.Order.{slot}
use Rattle.rule_model.specs.declared.Rule.{Rule}
use Rattle.rule_model.specs.Entry.{RankedPiece, entry_for, same_match}
use Rattle.rule_store.specs.declared.Mode.{Mode}
use Rattle.rule_store.specs.declared.Mode.TheVariants.{Cover, Bits}
use Rattle.rule_store.specs.declared.Command.{Command}
use Rattle.rule_store.specs.Verdict.{Accepted, verdict}
use Rattle.tcam_device.specs.State.{State, state_after}
use Rattle.tcam_device.specs.Order.{IsOrdered, HasOneTwin}
use Rattle.commit_writes.specs.Bits.{FieldBits, bits_with}
use Rattle.commit_writes.specs.Segments.{IsAtRest}
use Rattle.commit_writes.specs.Serving.{AreBitsOf, AreTranslated}
use Rattle.commit_writes.specs.Shape.{set_pieces, fresh_writes}
use Rattle.commit_writes.proofs.KeptBits.{pieces_same}
use Rattle.commit_writes.proofs.LiveRanges.{translated}
use Rattle.commit_writes.proofs.ServedTables.{IsBitsStart, tables_serve}
use Rattle.readback.specs.Stage.{IsCommitAt}
use Rattle.readback.specs.Tasks.{CommitPieces, commit_pieces, known_pieces, IsStanding}
use Rattle.readback.proofs.Begun.{begun, change_of}
use Rattle.readback.proofs.Facts.{ArePieces, same_sym, old_known, inserted_known}
use Rattle.readback.proofs.Inserting.{first_inserts, other_tasks, inserting}
use Rattle.readback.proofs.Pieces.{pieces_are}
use Rattle.trace_check.specs.declared.commit.Commit.{Commit}
use Rattle.trace_check.specs.declared.commit.Device.{Device}
use Rattle.trace_check.specs.Kept.{IsCommitOf, IsKeptRight, IsPair, device_state}
use Rattle.trace_check.proofs.PlacedEntries.{entries_size}

-- the tables serve the live ranges of a set at rest
pub translated_at : (mode : Mode) (bits : FieldBits) (rules : List Rule) (state : State) → AreBitsOf mode bits rules state → AreTranslated state bits
translated_at Cover bits rules state are = translated Cover bits rules state are
translated_at Bits bits rules state are = translated Bits bits rules state (are.0.serves, are.1.serves)

module _ (slots : ℕ) (mode : Mode) (bits : FieldBits) (rules : List Rule) (batch : List Command) (device : Device) (commit : Commit)
    (sized : length device.places ≡ slots) (rest : IsAtRest mode bits rules (device_state device)) (alone : IsPair (device_state device).slots None)
    (placed : (at : ℕ) (x : RankedPiece) → slot device.places at ≡ Some x → Contains (set_pieces mode bits rules) x)
    (accepted : verdict slots mode rules batch ≡ Accepted) (is : IsCommitOf mode bits rules batch commit)
    (none_done : commit.done ≡ 0) (no_pair : commit.pair ≡ None) (unserved : IsFalse commit.served) where
  abbrev state : State
  state = device_state device

  abbrev during : FieldBits
  during = bits_with mode rules batch bits

  abbrev p : CommitPieces
  p = commit_pieces mode bits rules batch

  old_words : AreTranslated state bits
  old_words = translated_at mode bits rules state rest.bits_are

  start : IsBitsStart mode bits rules batch state
  start = begun mode bits rules batch (length state.slots) state is.may.can rest.is_state old_words

  facts : ArePieces p
  facts = pieces_are mode bits rules batch (change_of mode bits rules batch is.may.can) (state_after state (fresh_writes mode bits rules batch state)) (tables_serve mode bits rules batch state start)

  old_same : p.old ≡ set_pieces mode bits rules
  old_same = pieces_same mode bits rules batch state start

  pub none_put : (x : RankedPiece) → Contains p.inserted x → IsStanding state x → ⊥
  none_put x member (i, s) =
      let w = rest.ordered.known i s.0 s.1 in
      let old : Contains p.old w.0 = subst (λ pieces. Contains pieces w.0) (sym old_same) w.1 in
      facts.new_apart w.0 x old member
      (same_sym x w.0 (facts.apart x w.0 (inserted_known p x member) (old_known p w.0 old) (subst (λ e. IsTrue (same_match (entry_for x) e)) (sym w.2) s.2)))

  ordered : IsOrdered state (Contains (p.old ++ take 0 p.inserted))
  ordered = subst (λ pieces. IsOrdered state (Contains pieces)) (sym (append-nil p.old ∙ old_same)) rest.ordered

  one : HasOneTwin state.slots
  one = record { one = λ a b twin other. absurd (alone twin.0 a twin.1); equal = λ l at w. absurd (alone l at w) }

  unused : (at : ℕ) → slots ≤ at → slot state.slots at ≡ None
  unused at past = get_or_past state.slots at None (let size = entries_size device.places in let all = sized in omega arith)

  stage : IsCommitAt slots mode bits rules batch state (first_inserts p 0) (other_tasks p 0)
  stage = inserting slots bits during p facts state 0 unused old_words (λ x member stands. absurd (none_put x member stands)) one ordered

  pub kept_begun : IsKeptRight slots mode bits rules batch device commit
  kept_begun = record {
    accepted = accepted;
    is = is;
    known = λ at x there. subst (λ q. Contains (known_pieces q) x) (sym is.pieces) (old_known p x (subst (λ pieces. Contains pieces x) (sym old_same) (placed at x there)));
    done = first_inserts p 0;
    left = other_tasks p 0;
    stage = stage;
    number = none_done;
    pair = subst (IsPair state.slots) (sym no_pair) alone;
    served = λ served. absurd (let bad : true ≡ false = sym served ∙ unserved in cc);
  }
