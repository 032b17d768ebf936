-- A stage answers every key as the old set or as the new one, and with no task left as the new one.
use Rattle.std.proofs.Common.{◌≡◌, ℕ, List, [], ◌++◌, Contains, inl, inr, ◌⊎◌, subst, length}
use Rattle.std.specs.List.{list_any}
use Rattle.std.proofs.lemmas.Bool.{cases_Bool, both_ways}
use Rattle.slot_order.proofs.Lists.{any_is, any_from, contains_none}
use Rattle.rule_model.specs.declared.Rule.{Rule}
use Rattle.rule_model.proofs.RuleSets.{IsRuleSet-distinct}
use Rattle.rule_store.specs.declared.Mode.{Mode}
use Rattle.rule_store.specs.declared.Command.{Command}
use Rattle.rule_store.specs.Batch.{additions, set_after}
use Rattle.rule_store.specs.Verdict.{pieces_of}
use Rattle.rule_model.specs.Entry.{RankedPiece}
use Rattle.rule_model.proofs.Exact.{hits-entry_of}
use Rattle.tcam_device.specs.State.{State, IsState, Shows, state_after}
use Rattle.tcam_device.specs.Hitless.{ShowsOldOrNew}
use Rattle.tcam_device.proofs.Lookups.{HitAsPieces}
use Rattle.tcam_device.proofs.Shown.{ArePiecesOf, hit_as_pieces, ordered_shows}
use Rattle.commit_writes.specs.Bits.{FieldBits, bits_with}
use Rattle.commit_writes.specs.Planned.{IsServedBy}
use Rattle.commit_writes.specs.Serving.{AreServing, AreTranslated}
use Rattle.commit_writes.specs.Shape.{set_pieces, fresh_writes}
use Rattle.commit_writes.proofs.BatchRules.{IsSoundChange, right_after, set_after-is}
use Rattle.commit_writes.proofs.KeptBits.{pieces_same}
use Rattle.commit_writes.proofs.LiveBits.{HasLiveBits, chosen_live}
use Rattle.commit_writes.proofs.ServedTables.{IsBitsStart, tables_serve}
use Rattle.commit_writes.proofs.SetPieces.{set_pieces-of}
use Rattle.readback.specs.Tasks.{CommitPieces, commit_pieces, Task, Insert, IsStanding, stands_in}
use Rattle.readback.specs.Stage.{IsCommitAt}
use Rattle.readback.proofs.Facts.{ArePieces, old_known}
use Rattle.readback.proofs.Pieces.{live, new_live, served, new_served, pieces_are, pieces_lead}
use Rattle.readback.proofs.Shows.{any_insert, answers, answers_new, old_ordered, insert_task, in_done}
use Rattle.readback.proofs.Tests.{stands_is, stands_from}

-- entries of pieces that test live bits hit what these match, where the tables serve the bits
live_hits : (device_slots : ℕ) (bits : FieldBits) (behind state : State) (pieces : List RankedPiece) → IsState device_slots state → AreTranslated state bits
    → ((x : RankedPiece) → Contains pieces x → IsServedBy behind x × HasLiveBits bits x.piece) → HitAsPieces state (Contains pieces)
live_hits device_slots bits behind state pieces is right each =
    hit_as_pieces device_slots state (Contains pieces) is
    (λ x member. let w = (each x member).0 in hits-entry_of x.piece x.rank x.result w.right w.encodable)
    record {
      srcbits = λ x bit member tested. right.src bit x.piece.sport ((each x member).1.src bit tested);
      dstbits = λ x bit member tested. right.dst bit x.piece.dport ((each x member).1.dst bit tested);
    }

module _ (slots : ℕ) (mode : Mode) (bits : FieldBits) (rules : List Rule) (batch : List Command) (change : IsSoundChange rules batch) (state : State) (start : IsBitsStart mode bits rules batch state)
    (done left : List Task) (stage : IsCommitAt slots mode bits rules batch state done left) where
  abbrev during : FieldBits
  during = bits_with mode rules batch bits

  abbrev p : CommitPieces
  p = commit_pieces mode bits rules batch

  abbrev later : List Rule
  later = set_after rules batch

  abbrev new : List RankedPiece
  new = set_pieces mode during later

  abbrev behind : State
  behind = state_after state (fresh_writes mode bits rules batch state)

  serving : AreServing mode (bits_with mode rules batch bits) (rules ++ additions batch) behind
  serving = tables_serve mode bits rules batch state start

  facts : ArePieces p
  facts = pieces_are mode bits rules batch change behind serving

  of_old : ArePiecesOf rules (Contains p.old)
  of_old = set_pieces-of mode during rules change.right

  of_new : ArePiecesOf later (Contains new)
  of_new = set_pieces-of mode during later (right_after rules batch change)

  -- some inserted piece stands, or none
  put_or_none : ((x : RankedPiece) × Contains p.inserted x × IsStanding state x) ⊎ ((x : RankedPiece) → Contains p.inserted x → IsStanding state x → ⊥)
  put_or_none = elim (cases_Bool (list_any (stands_in state.slots) p.inserted)) [
    | inl found ↦ inl (let w = any_is (stands_in state.slots) p.inserted found in (w.0, w.1, stands_is state w.0 w.2))
    | inr none ↦ inr (λ x member stands. both_ways (list_any (stands_in state.slots) p.inserted) none (any_from (stands_in state.slots) p.inserted x member (stands_from state x stands)))
  ]

  -- where one does, the tables serve all bits,
  old_hits_all : (x : RankedPiece) → Contains p.inserted x → IsStanding state x → HitAsPieces state (Contains p.old)
  old_hits_all x member stands =
      live_hits (length state.slots) during behind state p.old start.is_state (stage.new_words x member stands) (λ y old.
      (served mode bits rules batch change behind serving y (old_known p y old), live mode bits rules batch change y (old_known p y old)))

  new_hits_all : (x : RankedPiece) → Contains p.inserted x → IsStanding state x → HitAsPieces state (Contains new)
  new_hits_all x member stands =
      live_hits (length state.slots) during behind state new start.is_state (stage.new_words x member stands) (λ y is.
      (new_served mode bits rules batch change behind serving y is, new_live mode bits rules batch change y is))

  -- and always those of the old set
  old_live : (x : RankedPiece) → Contains p.old x → HasLiveBits bits x.piece
  old_live x member = chosen_live bits (pieces_of mode) rules x (subst (λ pieces. Contains pieces x) (pieces_same mode bits rules batch state start) member)

  old_hits : HitAsPieces state (Contains p.old)
  old_hits =
      live_hits (length state.slots) bits behind state p.old start.is_state stage.old_words (λ y old.
      (served mode bits rules batch change behind serving y (old_known p y old), old_live y old))

  -- which are those of the new set, too, where nothing is inserted
  new_hits : ((x : RankedPiece) → Contains p.inserted x → ⊥) → HitAsPieces state (Contains new)
  new_hits none =
      live_hits (length state.slots) bits behind state new start.is_state stage.old_words (λ y is.
      (new_served mode bits rules batch change behind serving y is, of_either y is))
    where
      of_either : (y : RankedPiece) → Contains new y → HasLiveBits bits y.piece
      of_either y is = elim ((pieces_lead mode bits rules batch change).new_cases y is) [
        | inl old ↦ old_live y old.0
        | inr rest ↦ elim rest [
          | inl changed ↦ let w = facts.was y changed in subst (HasLiveBits bits) w.2.0 (old_live w.0 w.1)
          | inr put ↦ absurd (none y put)
        ]
      ]

  none_inserted : ((x : RankedPiece) → Contains p.inserted x → IsStanding state x → ⊥) → ((x : RankedPiece) → Contains left (Insert x) → ⊥) → (x : RankedPiece) → Contains p.inserted x → ⊥
  none_inserted none no_left x member =
      elim (insert_task slots bits during p new facts (pieces_lead mode bits rules batch change) state done left stage x member) [
        | inl came ↦ none x member (in_done slots bits during p new facts (pieces_lead mode bits rules batch change) state done left stage (Insert x) came)
        | inr later ↦ no_left x later
      ]

  on_the_way : HitAsPieces state (Contains p.old) → HitAsPieces state (Contains new) → ShowsOldOrNew state rules later
  on_the_way hit_old hit_new =
      answers slots bits during p new facts (pieces_lead mode bits rules batch change) state done left stage rules later
      (IsRuleSet-distinct rules change.is_set) (IsRuleSet-distinct later (set_after-is rules batch change)) of_old of_new hit_old hit_new

  pub stage_answers : ShowsOldOrNew state rules (set_after rules batch)
  stage_answers = elim put_or_none [
    | inl put ↦ on_the_way (old_hits_all put.0 put.1 put.2) (new_hits_all put.0 put.1 put.2)
    | inr none ↦ elim (any_insert left) [
      | inr no_left ↦ on_the_way old_hits (new_hits (none_inserted none no_left))
      | inl first ↦ λ key valid. inl (
          ordered_shows state rules (Contains p.old) (IsRuleSet-distinct rules change.is_set) of_old old_hits
          (old_ordered slots bits during p new facts (pieces_lead mode bits rules batch change) state done left stage first.0 first.1 none) key valid)
    ]
  ]

  pub last_answers : left ≡ [] → Shows state (set_after rules batch)
  last_answers ended =
      answers_new slots bits during p new facts (pieces_lead mode bits rules batch change) state done left stage later ended
      (IsRuleSet-distinct later (set_after-is rules batch change)) of_new (elim put_or_none [
        | inl put ↦ new_hits_all put.0 put.1 put.2
        | inr none ↦ new_hits (none_inserted none (λ x member. contains_none (Insert x) (subst (λ tasks. Contains tasks (Insert x)) ended member)))
      ])
