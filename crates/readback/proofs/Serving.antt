-- A stage serves the ranges that words in flight are current for.
use Rattle.std.proofs.Common.{◌≡◌, ℕ, Bool, true, false, Some, List, ◌++◌, length, Contains, if◌then◌else◌, inl, inr, sym, ◌∙◌, subst, ap}
use Rattle.std.specs.List.{list_any}
use Rattle.std.proofs.lemmas.Bool.{cases_Bool}
use Rattle.slot_order.proofs.Lists.{any_is, any_from}
use Rattle.rule_model.specs.declared.Piece.{Piece}
use Rattle.rule_model.specs.declared.Rule.{Rule}
use Rattle.rule_store.specs.declared.Mode.{Mode}
use Rattle.rule_store.specs.declared.Command.{Command}
use Rattle.rule_store.specs.Batch.{additions}
use Rattle.rule_store.specs.Verdict.{pieces_of}
use Rattle.rule_model.specs.Entry.{RankedPiece, entry_for}
use Rattle.tcam_device.specs.State.{State, IsState, state_after}
use Rattle.tcam_device.proofs.One.{same_match-same}
use Rattle.commit_writes.specs.Bits.{FieldBits, bits_with}
use Rattle.commit_writes.specs.InFlight.{TestsLive, ServesLive}
use Rattle.commit_writes.specs.Serving.{AreServing, AreTranslated}
use Rattle.commit_writes.specs.Shape.{fresh_writes}
use Rattle.commit_writes.proofs.BatchRules.{IsSoundChange}
use Rattle.commit_writes.proofs.KeptBits.{pieces_same}
use Rattle.commit_writes.proofs.LiveBits.{HasLiveBits, chosen_live, tests_live}
use Rattle.commit_writes.proofs.ServedTables.{IsBitsStart, tables_serve}
use Rattle.readback.specs.Tasks.{CommitPieces, Task, commit_pieces, known_pieces, stands_in, IsStanding}
use Rattle.readback.specs.Stage.{IsCommitAt}
use Rattle.readback.proofs.Begun.{begun, change_of}
use Rattle.readback.proofs.Facts.{known_cases}
use Rattle.readback.proofs.Pieces.{live, served, pieces_are}
use Rattle.readback.proofs.Tests.{stands_is, stands_from}
use Rattle.readback.specs.Serving.{StagesServe}

module _ (mode : Mode) (bits : FieldBits) (rules : List Rule) (batch : List Command) (change : IsSoundChange rules batch) (began : State) (start : IsBitsStart mode bits rules batch began) where
  abbrev during : FieldBits
  during = bits_with mode rules batch bits

  abbrev p : CommitPieces
  p = commit_pieces mode bits rules batch

  abbrev behind : State
  behind = state_after began (fresh_writes mode bits rules batch began)

  serving : AreServing mode during (rules ++ additions batch) behind
  serving = tables_serve mode bits rules batch began start

  -- each piece tests bits that are live meanwhile,
  tests_during : (x : RankedPiece) → Contains (known_pieces p) x → TestsLive during (entry_for x)
  tests_during x known = tests_live during behind x (served mode bits rules batch change behind serving x known) (live mode bits rules batch change x known)

  -- and one that isn't inserted those before it
  old_live : (x : RankedPiece) → Contains p.old x → HasLiveBits bits x.piece
  old_live x old = chosen_live bits (pieces_of mode) rules x (subst (λ some. Contains some x) (pieces_same mode bits rules batch began start) old)

  tests_before : (x : RankedPiece) → Contains (known_pieces p) x → (Contains p.inserted x → ⊥) → TestsLive bits (entry_for x)
  tests_before x known other = tests_live bits behind x (served mode bits rules batch change behind serving x known) (elim (known_cases p x known) [
    | inl old ↦ old_live x old
    | inr new ↦ elim new [
      | inl put ↦ absurd (other put)
      | inr told ↦ let was = (pieces_are mode bits rules batch change behind serving).was x told in subst (λ (q : Piece). HasLiveBits bits q) was.2.0 (old_live was.0 was.1)
    ]
  ])

  -- so a stage serves all of these where its tables do,
  pub serving_during : (slots size : ℕ) (state : State) (done left : List Task) → IsState size state → IsCommitAt slots mode bits rules batch state done left
      → AreTranslated state (bits_with mode rules batch bits) → ServesLive (bits_with mode rules batch bits) state
  serving_during slots size state done left is stage right = record {
    src_words = is.src_words;
    dst_words = is.dst_words;
    src_right = right.src;
    dst_right = right.dst;
    tested = λ at entry held. let w = stage.known at entry held in subst (TestsLive during) w.2 (tests_during w.0 w.1);
  }

  -- and without an inserted piece those before the commit
  pub serving_before : (slots size : ℕ) (state : State) (done left : List Task) → IsState size state → IsCommitAt slots mode bits rules batch state done left
      → ((x : RankedPiece) → Contains p.inserted x → IsStanding state x → ⊥) → ServesLive bits state
  serving_before slots size state done left is stage none = record {
    src_words = is.src_words;
    dst_words = is.dst_words;
    src_right = stage.old_words.src;
    dst_right = stage.old_words.dst;
    tested = λ at entry held. let w = stage.known at entry held in
        subst (TestsLive bits) w.2 (tests_before w.0 w.1 (λ put. none w.0 put (at, (entry_for w.0, held ∙ ap Some (sym w.2), same_match-same (entry_for w.0)))));
  }

-- whether an inserted piece stands
pub some_stand : (state : State) (pieces : List RankedPiece) → list_any (stands_in state.slots) pieces ≡ true → (x : RankedPiece) × Contains pieces x × IsStanding state x
some_stand state pieces found = let w = any_is (stands_in state.slots) pieces found in (w.0, w.1, stands_is state w.0 w.2)

pub none_stand : (state : State) (pieces : List RankedPiece) → list_any (stands_in state.slots) pieces ≡ false → (x : RankedPiece) → Contains pieces x → IsStanding state x → ⊥
none_stand state pieces none x member stands = let found = any_from (stands_in state.slots) pieces x member (stands_from state x stands) in let wrong : true ≡ false = sym found ∙ none in cc

pub stages_serve : StagesServe
stages_serve slots mode bits rules batch state done left can is stage = elim (cases_Bool (list_any (stands_in state.slots) p.inserted)) [
  | inl found ↦
      let w = some_stand state p.inserted found in
      subst (λ ranges. ServesLive ranges state) (sym (ap (λ (b : Bool). if b then during else bits) found))
      (serving_during mode bits rules batch change state start slots (length state.slots) state done left is stage (stage.new_words w.0 w.1 w.2))
  | inr none ↦
      subst (λ ranges. ServesLive ranges state) (sym (ap (λ (b : Bool). if b then during else bits) none))
      (serving_before mode bits rules batch change state start slots (length state.slots) state done left is stage (none_stand state p.inserted none))
]
  where
    during : FieldBits
    during = bits_with mode rules batch bits

    p : CommitPieces
    p = commit_pieces mode bits rules batch

    change : IsSoundChange rules batch
    change = change_of mode bits rules batch can

    start : IsBitsStart mode bits rules batch state
    start = begun mode bits rules batch (length state.slots) state can is stage.old_words
