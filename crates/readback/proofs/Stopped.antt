-- Where a commit or a restart was stopped the words in flight are current for the ranges that the stage tells.
use Rattle.std.proofs.Common.{◌≡◌, ℕ, ◌≤◌, Bool, true, false, not, Option, List, ◌++◌, length, take, Contains, if◌then◌else◌, inl, inr, refl, sym, ◌∙◌, subst, ap, arith}
use Rattle.std.specs.Prelude.{◌&&◌}
use Rattle.std.specs.List.{list_any}
use Rattle.std.proofs.lemmas.Bool.{cases_Bool}
use Rattle.std.proofs.lemmas.List.{take-append-le}
use Rattle.slot_order.proofs.Lists.{any_is}
use Rattle.rule_model.specs.declared.Rule.{Rule}
use Rattle.rule_store.specs.declared.Mode.{Mode}
use Rattle.rule_store.specs.declared.Command.{Command}
use Rattle.rule_model.specs.declared.words.Entry.{Entry}
use Rattle.rule_model.specs.Entry.{RankedPiece, entry_for, same_match}
use Rattle.tcam_device.specs.declared.Write.{Write}
use Rattle.tcam_device.specs.Flight.{Pipeline, actions_in, writes_in}
use Rattle.tcam_device.specs.Insertion.{table_writes}
use Rattle.tcam_device.specs.State.{State, state_after, on_device}
use Rattle.commit_writes.specs.Proposal.{proposal}
use Rattle.commit_writes.specs.Actions.{have_bits}
use Rattle.commit_writes.specs.Bits.{FieldBits, bits_with, new_bits}
use Rattle.commit_writes.specs.Commit.{IsSegment}
use Rattle.commit_writes.specs.InFlight.{ArePartOf, AreCurrent, after_events}
use Rattle.commit_writes.specs.PlannedBatch.{batch_writes}
use Rattle.commit_writes.specs.Segments.{MayBegin, live_behind}
use Rattle.commit_writes.specs.Shape.{fresh_writes}
use Rattle.commit_writes.proofs.Actions.{commits_serve}
use Rattle.commit_writes.proofs.Led.{same_part}
use Rattle.commit_writes.proofs.Current.{are_current_part}
use Rattle.commit_writes.proofs.KeptBits.{pieces_same}
use Rattle.commit_writes.proofs.LiveRanges.{live_meanwhile, same_ranges}
use Rattle.commit_writes.proofs.Searches.{stay_current, state_after-events}
use Rattle.commit_writes.proofs.ServedLive.{bits_begun, change_begun}
use Rattle.commit_writes.proofs.ServedTables.{IsBitsStart, tables_serve}
use Rattle.commit_writes.proofs.SlotsBehind.{IsCutAtSlots, cut_at_slots}
use Rattle.readback.specs.Tasks.{CommitPieces, IsStanding, commit_pieces, stands_in}
use Rattle.readback.specs.Going.{needs_drain, twin_writes}
use Rattle.readback.proofs.Facts.{ArePieces, inserted_known, old_known}
use Rattle.readback.proofs.Pieces.{pieces_are}
use Rattle.readback.proofs.Tables.{words_slots}
use Rattle.readback.proofs.Tests.{stands_is}
use Rattle.readback.specs.PlannedRest.{restart_writes}
use Rattle.readback.specs.Serving.{StoppedCommitsAreCurrent, StoppedRestartsAreCurrent, stopped_ranges}
use Rattle.readback.proofs.Lives.{front_lives}
use Rattle.readback.proofs.Served.{count_is, passed, restarts_serve, start}

-- where none of some pieces stands
none_found : (state : State) (pieces : List RankedPiece) → ((x : RankedPiece) → Contains pieces x → IsStanding state x → ⊥) → list_any (stands_in state.slots) pieces ≡ false
none_found state pieces none = elim (cases_Bool (list_any (stands_in state.slots) pieces)) [
  | inr is ↦ is
  | inl found ↦ let w = any_is (stands_in state.slots) pieces found in absurd (none w.0 w.1 (stands_is state w.0 w.2))
]

-- while words are written the slots are as they were
same_found : (mode : Mode) (bits : FieldBits) (rules : List Rule) (batch : List Command) (state : State) (pieces : List RankedPiece) (made rest : List Write) → IsBitsStart mode bits rules batch state
    → made ≡ fresh_writes mode bits rules batch state ++ rest → (n : ℕ) → n ≤ length (fresh_writes mode bits rules batch state)
    → list_any (stands_in (state_after state (take n made)).slots) pieces ≡ list_any (stands_in state.slots) pieces
same_found mode bits rules batch state pieces made rest start parts n few =
    ap (λ ws. list_any (stands_in (state_after state (take n ws)).slots) pieces) parts
    ∙ (ap (λ ws. list_any (stands_in (state_after state ws).slots) pieces) (take-append-le n (fresh_writes mode bits rules batch state) rest few)
    ∙ ap (λ (held : List (Option Entry)). list_any (stands_in held) pieces) (words_slots mode bits rules batch state start n))

-- what a commit inserts doesn't stand before its first write to a slot
module _ (mode : Mode) (bits : FieldBits) (rules : List Rule) (batch : List Command) (state : State) (made : List Write) (begin : MayBegin mode bits rules batch state) (segment : IsSegment mode bits rules batch state made) where
  abbrev pieces : CommitPieces
  pieces = commit_pieces mode bits rules batch

  begun : IsBitsStart mode bits rules batch state
  begun = bits_begun mode bits rules batch state begin

  facts : ArePieces pieces
  facts = pieces_are mode bits rules batch (change_begun mode bits rules batch state begin) (state_after state (fresh_writes mode bits rules batch state)) (tables_serve mode bits rules batch state begun)

  -- where it begins no piece stands that it inserts
  none : (x : RankedPiece) → Contains pieces.inserted x → IsStanding state x → ⊥
  none x put (at, s) =
      let w = begin.at_rest.ordered.known at s.0 s.1 in
      let old = subst (λ some. Contains some w.0) (sym (pieces_same mode bits rules batch state begun)) w.1 in
      let same = facts.apart x w.0 (inserted_known pieces x put) (old_known pieces w.0 old) (subst (λ e. same_match (entry_for x) e ≡ true) (sym w.2) s.2) in
      facts.new_apart w.0 x old put (sym same.0, sym same.1)

  cut : IsCutAtSlots (fresh_writes mode bits rules batch state) made
  cut = cut_at_slots mode bits rules batch state made segment.shape

  pub unplaced : (n : ℕ) → n ≤ table_writes made → list_any (stands_in (state_after state (take n made)).slots) pieces.inserted ≡ false
  unplaced n below =
      let count = cut.count in
      same_found mode bits rules batch state pieces.inserted made cut.rest begun cut.parts n (omega arith) ∙ none_found state pieces.inserted none

pub commits_stopped : StoppedCommitsAreCurrent
commits_stopped mode bits rules batch line made events begin segment front current may =
    subst (λ (now : State). AreCurrent (stopped_ranges mode bits rules batch now) (after_events line events).flight) (sym (state_after-events line events))
    (are_current_part _ (live_behind bits during (actions_in events)) (after_events line events).flight lives
    (stay_current bits (live_behind bits during (actions_in events)) line events ((commits_serve mode bits rules batch line.state made begin segment).0 (actions_in events) front).0 current may))
  where
    during : FieldBits
    during = bits_with mode rules batch bits

    p : CommitPieces
    p = commit_pieces mode bits rules batch

    start : IsBitsStart mode bits rules batch line.state
    start = bits_begun mode bits rules batch line.state begin

    lives : ArePartOf (stopped_ranges mode bits rules batch (state_after line.state (writes_in (actions_in events)))) (live_behind bits during (actions_in events))
    lives = front_lives bits bits during (have_bits (new_bits bits during)) line.state made (λ (now : State). list_any (stands_in now.slots) p.inserted) (same_part bits) (live_meanwhile mode bits rules batch line.state start)
        (same_ranges mode bits rules batch line.state start)
        (λ due n below. unplaced mode bits rules batch line.state made begin segment n below)
        (actions_in events) front.0 front.1

-- a drain is due where none of the inserted pieces stands
none_due : (have found : Bool) → (have && not found) ≡ true → found ≡ false
none_due have false due = refl
none_due true true due = absurd (let wrong : false ≡ true = due in cc)
none_due false true due = absurd (let wrong : false ≡ true = due in cc)

pub restarts_stopped : StoppedRestartsAreCurrent
restarts_stopped device_slots mode bits rules batch state done left twin live slots entries planned rewrites erased flight events plan front current may =
    subst (λ (now : State). AreCurrent (stopped_ranges mode bits rules batch now) (after_events line events).flight) (sym (state_after-events line events))
    (are_current_part _ (live_behind before during (actions_in events)) (after_events line events).flight lives
    (stay_current before (live_behind before during (actions_in events)) line events
    ((restarts_serve device_slots mode bits rules batch state done left twin live slots entries planned rewrites erased plan).0 (actions_in events) front).0 current may))
  where
    wide : State
    wide = on_device device_slots state

    line : Pipeline
    line = record { state = wide; flight = flight }

    during : FieldBits
    during = bits_with mode rules batch bits

    before : FieldBits
    before = stopped_ranges mode bits rules batch wide

    p : CommitPieces
    p = commit_pieces mode bits rules batch

    writes : List Write
    writes = restart_writes (proposal mode bits rules batch) state twin entries slots planned rewrites erased

    begun : IsBitsStart mode bits rules batch wide
    begun = start device_slots mode bits rules batch state done left twin live slots entries planned rewrites erased plan

    more : ArePartOf bits during
    more = live_meanwhile mode bits rules batch wide begun

    inner : (found : Bool) → ArePartOf bits (if found then during else bits)
    inner true = more
    inner false = same_part bits

    lives : ArePartOf (stopped_ranges mode bits rules batch (state_after wide (writes_in (actions_in events)))) (live_behind before during (actions_in events))
    lives = front_lives bits before during (needs_drain mode bits rules batch wide) wide writes (λ (now : State). list_any (stands_in now.slots) p.inserted)
        (inner (list_any (stands_in wide.slots) p.inserted)) more
        (passed device_slots mode bits rules batch state done left twin live slots entries planned rewrites erased plan).part
        (λ due n below. let count = count_is device_slots mode bits rules batch state done left twin live slots entries planned rewrites erased plan in
        same_found mode bits rules batch wide p.inserted writes (twin_writes twin ++ batch_writes entries slots planned rewrites erased) begun refl n (omega arith)
        ∙ none_due (have_bits (new_bits bits during)) (list_any (stands_in wide.slots) p.inserted) due)
        (actions_in events) front.0 front.1
