-- The writes and drains of an orderly trace, or of its first lines, serve live ranges all the way: within a commit those
-- before it, and from the drain before its first put on those that are live meanwhile, where a piece comes that is put in.
use Rattle.std.proofs.Common.{◌≡◌, ℕ, ◌+◌, Bool, true, false, Option, None, Some, List, [], ◌∷◌, inl, inr, ◌⊎◌, refl, sym, ◌∙◌, subst}
use Rattle.std.specs.Prelude.{◌||◌, nat_eq, nat_lt, Contains}
use Rattle.std.specs.List.{AllByRecursion, list_any}
use Rattle.std.proofs.lemmas.Bool.{cases_Bool, or_cases, or_parts}
use Rattle.rule_model.specs.declared.Field.{Field}
use Rattle.rule_model.specs.declared.Field.TheVariants.{Src, Dst}
use Rattle.rule_model.specs.declared.Rule.{Rule}
use Rattle.rule_model.specs.declared.words.Entry.{Entry}
use Rattle.rule_model.specs.Entry.{RankedPiece}
use Rattle.rule_store.specs.declared.Command.{Command}
use Rattle.rule_store.specs.declared.Command.TheVariants as change
use Rattle.rule_store.specs.Batch.{set_after}
use Rattle.rule_store.specs.Verdict.{Accepted, verdict, coded_ranges}
use Rattle.range_bits.proofs.Given.{kept_ranges-parts}
use Rattle.tcam_device.specs.declared.Action.{Action}
use Rattle.tcam_device.specs.declared.Action.TheVariants.{Written, Drained}
use Rattle.tcam_device.specs.State.{State}
use Rattle.commit_writes.specs.Bits.{FieldBits, bits_with, bits_left}
use Rattle.commit_writes.specs.InFlight.{ArePartOf, ServesLive, ServingTo}
use Rattle.commit_writes.specs.Serving.{AreTranslated}
use Rattle.commit_writes.proofs.Led.{same_part, part_of_part}
use Rattle.commit_writes.proofs.LiveRanges.{live_meanwhile, same_ranges}
use Rattle.commit_writes.proofs.ServedTables.{IsBitsStart}
use Rattle.readback.specs.Stage.{IsStage}
use Rattle.readback.specs.Tasks.{commit_pieces, stands_in, IsStanding}
use Rattle.readback.proofs.Begun.{begun, change_of}
use Rattle.readback.proofs.Serving.{some_stand, none_stand, serving_before}
use Rattle.trace_file.specs.declared.TraceLine.{TraceLine}
use Rattle.trace_file.specs.declared.TraceLine.TheVariants.{Head, Commit, Add, Set, Del, Put, Erase, Table, Drain, Done, Refused, End, Fault}
use Rattle.trace_file.specs.Forms.{IsTraceLine}
use Rattle.trace_check.specs.declared.places.Place.{Place}
use Rattle.trace_check.specs.declared.places.Place.TheVariants.{AtStart, Between, InBatch, InEvents, AtEnd}
use Rattle.trace_check.specs.Places.{Changes, Happens, Refuses, Ends, place_by, place_after, trace_commands}
use Rattle.trace_check.specs.Orderly.{Tracing, traced_on, with_command, gives_bit, Follow, AllKeepOrder, Keeps}
use Rattle.trace_check.proofs.BegunKept.{translated_at}
use Rattle.trace_lookups.specs.LookUps.{known_behind, trace_actions}
use Rattle.trace_lookups.proofs.Resting.{rest_serves}
use Rattle.trace_lookups.proofs.Given.{gives_put, put_stands, right_for_part}
use Rattle.trace_lookups.proofs.UnderWay.{Known, IsUnderNow, IsAtStage, IsBatched, IsIdle, under_of, stage_early, stage_late, only, before_event, before_done, known_on, no_head}

-- the ranges that are live while the commit under way is made, and whether it gives a bit to one of them
abbrev meanwhile : Tracing → FieldBits
meanwhile now = bits_with now.mode now.rules now.batch now.bits

abbrev gives : Tracing → Bool
gives now = gives_bit now.mode now.bits now.rules now.batch

-- whether a word is written among the next events
abbrev has_table : List TraceLine → Bool
has_table [] = false
has_table (Put slot entry ∷ lines) = has_table lines
has_table (Erase slot ∷ lines) = has_table lines
has_table (Drain ∷ lines) = has_table lines
has_table (Table field port word ∷ lines) = true
has_table (Head version acl bits slots ∷ lines) = false
has_table (Commit n ∷ lines) = false
has_table (Add rule ∷ lines) = false
has_table (Set priority answer ∷ lines) = false
has_table (Del priority ∷ lines) = false
has_table (Done n ∷ lines) = false
has_table (Refused n ∷ lines) = false
has_table (End writes ∷ lines) = false
has_table (Fault line ∷ lines) = false

-- behind a write of a slot none is
no_table : (lines : List TraceLine) (now : Tracing) → AllKeepOrder now lines → now.moved ≡ true → has_table lines ≡ false
no_table [] now keeps moved = refl
no_table (Put slot entry ∷ lines) now keeps moved = no_table lines (traced_on now (Put slot entry)) keeps.1 refl
no_table (Erase slot ∷ lines) now keeps moved = no_table lines (traced_on now (Erase slot)) keeps.1 refl
no_table (Drain ∷ lines) now keeps moved = no_table lines (traced_on now Drain) keeps.1 moved
no_table (Table field port word ∷ lines) now keeps moved = absurd (let wrong : true ≡ false = sym moved ∙ keeps.0.1 in cc)
no_table (Head version acl bits slots ∷ lines) now keeps moved = refl
no_table (Commit n ∷ lines) now keeps moved = refl
no_table (Add rule ∷ lines) now keeps moved = refl
no_table (Set priority answer ∷ lines) now keeps moved = refl
no_table (Del priority ∷ lines) now keeps moved = refl
no_table (Done n ∷ lines) now keeps moved = refl
no_table (Refused n ∷ lines) now keeps moved = refl
no_table (End writes ∷ lines) now keeps moved = refl
no_table (Fault line ∷ lines) now keeps moved = refl

-- where more ranges are served at first, these may be the ones
serving_more : (less more last : FieldBits) (state : State) (actions : List Action) → ArePartOf less more → ServesLive more state → ServingTo less state actions last → ServingTo more state actions last
serving_more less more last state [] part serves on = (serves, part_of_part last less more on.1 part)
serving_more less more last state (Written one ∷ actions) part serves on = (serves, (on.1.0, part_of_part on.1.0 less more on.1.1 part, on.1.2))
serving_more less more last state (Drained ∷ actions) part serves on = (serves, on.1)

-- the ranges that are left are live before, at the same bits
left_part : (rules : List Rule) (bits : FieldBits) → ArePartOf (bits_left rules bits) bits
left_part rules bits = record {
  src = λ bit range live. ((kept_ranges-parts bits.src (coded_ranges Src rules) bit range).0 live).0;
  dst = λ bit range live. ((kept_ranges-parts bits.dst (coded_ranges Dst rules) bit range).0 live).0;
}

-- whether a piece that the commit puts in stands
abbrev stands_now : Tracing → Bool
stands_now now = list_any (stands_in now.state.slots) (commit_pieces now.mode now.bits now.rules now.batch).inserted

-- now, or behind one of the next events
abbrev comes : Tracing → List TraceLine → Bool
comes now [] = stands_now now
comes now (Put slot entry ∷ lines) = stands_now now || comes (traced_on now (Put slot entry)) lines
comes now (Erase slot ∷ lines) = stands_now now || comes (traced_on now (Erase slot)) lines
comes now (Drain ∷ lines) = stands_now now || comes (traced_on now Drain) lines
comes now (Table field port word ∷ lines) = stands_now now || comes (traced_on now (Table field port word)) lines
comes now (Head version acl bits slots ∷ lines) = stands_now now
comes now (Commit n ∷ lines) = stands_now now
comes now (Add rule ∷ lines) = stands_now now
comes now (Set priority answer ∷ lines) = stands_now now
comes now (Del priority ∷ lines) = stands_now now
comes now (Done n ∷ lines) = stands_now now
comes now (Refused n ∷ lines) = stands_now now
comes now (End writes ∷ lines) = stands_now now
comes now (Fault line ∷ lines) = stands_now now

-- Where one comes, and no word is written before, the tables serve the new ranges by now.
abbrev Shows : Tracing → Type 0
Shows now = IsStage now.slots now.mode now.bits now.rules now.batch now.state

right_now : (now : Tracing) → Shows now → stands_now now ≡ true → AreTranslated now.state (meanwhile now)
right_now now stage stands = let w = some_stand now.state (commit_pieces now.mode now.bits now.rules now.batch).inserted stands in stage.2.new_words w.0 w.1 w.2

comes_right : (lines : List TraceLine) (now : Tracing) → Shows now → AllKeepOrder now lines → has_table lines ≡ false → comes now lines ≡ true → AreTranslated now.state (meanwhile now)
comes_right [] now stage keeps none some = right_now now stage some
comes_right (Put at entry ∷ lines) now stage keeps none some = elim (or_cases (stands_now now) (comes (traced_on now (Put at entry)) lines) some) [
  | inl stands ↦ right_now now stage stands
  | inr later ↦ (let r = comes_right lines (traced_on now (Put at entry)) keeps.0.0.stage keeps.1 none later in record { src = r.src; dst = r.dst })
]
comes_right (Erase at ∷ lines) now stage keeps none some = elim (or_cases (stands_now now) (comes (traced_on now (Erase at)) lines) some) [
  | inl stands ↦ right_now now stage stands
  | inr later ↦ (let r = comes_right lines (traced_on now (Erase at)) keeps.0.stage keeps.1 none later in record { src = r.src; dst = r.dst })
]
comes_right (Drain ∷ lines) now stage keeps none some = elim (or_cases (stands_now now) (comes (traced_on now Drain) lines) some) [
  | inl stands ↦ right_now now stage stands
  | inr later ↦ comes_right lines (traced_on now Drain) stage keeps.1 none later
]
comes_right (Table field port word ∷ lines) now stage keeps none some = absurd (let wrong : true ≡ false = none in cc)
comes_right (Head version acl bits slots ∷ lines) now stage keeps none some = right_now now stage some
comes_right (Commit n ∷ lines) now stage keeps none some = right_now now stage some
comes_right (Add rule ∷ lines) now stage keeps none some = right_now now stage some
comes_right (Set priority answer ∷ lines) now stage keeps none some = right_now now stage some
comes_right (Del priority ∷ lines) now stage keeps none some = right_now now stage some
comes_right (Done n ∷ lines) now stage keeps none some = right_now now stage some
comes_right (Refused n ∷ lines) now stage keeps none some = right_now now stage some
comes_right (End writes ∷ lines) now stage keeps none some = right_now now stage some
comes_right (Fault line ∷ lines) now stage keeps none some = right_now now stage some

-- Among the events of a commit: where no bit is given, or the tables serve the new ranges and no word is to be written, those
-- that are live meanwhile;
abbrev Late : Tracing → List TraceLine → FieldBits → Type 0
Late now lines last =
    ((gives now ≡ false) ⊎ (AreTranslated now.state (meanwhile now) × (has_table lines ≡ false))) → ServingTo (meanwhile now) now.state (trace_actions lines) last

-- where bits are given, but nothing was put, those before it, until a drain comes behind the words;
abbrev Early : Tracing → List TraceLine → FieldBits → Type 0
Early now lines last =
    gives now ≡ true → now.has_put ≡ false → (now.drained ≡ true → has_table lines ≡ true) → ServingTo now.bits now.state (trace_actions lines) last

-- and these to the last line, where bits are given and no piece comes that is to be put in
abbrev Never : Tracing → List TraceLine → FieldBits → Type 0
Never now lines last = gives now ≡ true → comes now lines ≡ false → ServingTo now.bits now.state (trace_actions lines) last

-- What is served at each place.
abbrev Serves : Place → Tracing → List TraceLine → FieldBits → Type 0
Serves AtStart now lines last = ⊥
Serves (Between n) now lines last = ServingTo now.bits now.state (trace_actions lines) last
Serves (InBatch n k) now lines last = ServingTo now.bits now.state (trace_actions lines) last
Serves (InEvents n) now lines last = Late now lines last × Early now lines last × Never now lines last
Serves AtEnd now lines last = ServingTo now.bits now.state (trace_actions lines) last

-- a commit that gives no bit, or none yet, at its first event
abbrev First : Tracing → List TraceLine → FieldBits → Type 0
First now lines last = ServesLive now.bits now.state → ArePartOf (meanwhile now) now.bits → gives now ≡ false → ServingTo now.bits now.state (trace_actions lines) last

start_of : (now : Tracing) → IsUnderNow now → AreTranslated now.state now.bits → IsBitsStart now.mode now.bits now.rules now.batch now.state
start_of now is right = begun now.mode now.bits now.rules now.batch now.slots now.state is.can is.sized right

same_meanwhile : (now : Tracing) → IsUnderNow now → AreTranslated now.state now.bits → gives now ≡ false → ArePartOf (meanwhile now) now.bits
same_meanwhile now is right none = same_ranges now.mode now.bits now.rules now.batch now.state (start_of now is right) none

-- among the commands of a commit what is known of its first event
begun_of : (now : Tracing) → IsBatched now.slots now.mode now.bits now.rules now.batch now.state now.has_put now.drained → verdict now.slots now.mode now.rules now.batch ≡ Accepted → IsUnderNow now
begun_of now is accepted = under_of now.slots now.mode now.bits now.rules now.batch now.state now.has_put now.drained is accepted

rest_right : (now : Tracing) → IsIdle now.slots now.mode now.bits now.rules now.state → AreTranslated now.state now.bits
rest_right now is = translated_at now.mode now.bits now.rules now.state is.rest.bits_are

-- the tables are right for what is served late
late_right : (now : Tracing) (lines : List TraceLine) → IsAtStage now → ((gives now ≡ false) ⊎ (AreTranslated now.state (meanwhile now) × (has_table lines ≡ false))) → AreTranslated now.state (meanwhile now)
late_right now lines is either = elim either [
  | inl none ↦ right_for_part (meanwhile now) now.bits now.state (same_meanwhile now is.0 is.1.2.old_words none) is.1.2.old_words
  | inr right ↦ right.0
]

-- where no piece stands that is to be put in, the ranges before the commit are served
stage_never : (now : Tracing) → IsAtStage now → stands_now now ≡ false → ServesLive now.bits now.state
stage_never now is none =
    let start = start_of now is.0 is.1.2.old_words in
    serving_before now.mode now.bits now.rules now.batch (change_of now.mode now.bits now.rules now.batch is.0.can) now.state start now.slots now.slots now.state is.1.0 is.1.1 is.0.sized is.1.2
    (none_stand now.state (commit_pieces now.mode now.bits now.rules now.batch).inserted none)

-- an event serves where each of these holds of it
event_serves : (now : Tracing) (place next : Place) (named : Option ℕ) (lines : List TraceLine) (last : FieldBits) → place_by now.slots place (Happens named) ≡ Some next → Known place now
    → verdict now.slots now.mode now.rules now.batch ≡ Accepted → (IsAtStage now → Late now lines last) → (ServesLive now.bits now.state → Early now lines last) → (IsAtStage now → Never now lines last)
    → First now lines last → Serves place now lines last
event_serves now AtStart next named lines last there known accepted late early never first = absurd known
event_serves now (Between m) next named lines last there known accepted late early never first = absurd (cc)
event_serves now (InBatch m k) next named lines last there known accepted late early never first =
    let serves : ServesLive now.bits now.state = rest_serves now.mode now.bits now.rules now.state known.idle.rest in
    elim (cases_Bool (gives now)) [
      | inl some ↦ early serves some known.unput (λ drained. absurd (let wrong : true ≡ false = sym drained ∙ known.undrained in cc))
      | inr none ↦ first serves (same_meanwhile now (begun_of now known accepted) (rest_right now known.idle) none) none
    ]
event_serves now (InEvents m) next named lines last there known accepted late early never first =
    (late known, λ some unput drained. early (stage_early now known unput) some unput drained, never known)
event_serves now AtEnd next named lines last there known accepted late early never first = absurd (cc)

-- a put,
put_serves : (now : Tracing) (at : ℕ) (entry : Entry) (place next : Place) (lines : List TraceLine) (last : FieldBits) → place_after now.slots place (Put at entry) ≡ Some next → Known place now
    → Keeps now (Put at entry) → AllKeepOrder (traced_on now (Put at entry)) lines → Serves (InEvents 0) (traced_on now (Put at entry)) lines last → Serves place now (Put at entry ∷ lines) last
put_serves now at entry place next lines last there known keeps later on =
    event_serves now place next (Some at) (Put at entry ∷ lines) last there known keeps.0.taken
    (λ is either.
    let right : AreTranslated now.state (meanwhile now) = late_right now (Put at entry ∷ lines) is either in
    (stage_late now is right, (meanwhile now, same_part (meanwhile now), on.0 (inr (record { src = right.src; dst = right.dst }, none_later)))))
    (λ serves some unput drained. absurd (let wrong : true ≡ false = sym (drained (keeps.1 unput some)) ∙ none_later in cc))
    (λ is some none.
    let parts = or_parts (stands_now now) (comes (traced_on now (Put at entry)) lines) none in
    (stage_never now is parts.0, (now.bits, same_part now.bits, on.2 some parts.1)))
    (λ serves part none. (serves, (meanwhile now, part, on.0 (inl none))))
  where
    none_later : has_table lines ≡ false
    none_later = no_table lines (traced_on now (Put at entry)) later refl

-- an erase,
erase_serves : (now : Tracing) (at : ℕ) (place next : Place) (lines : List TraceLine) (last : FieldBits) → place_after now.slots place (Erase at) ≡ Some next → Known place now
    → Keeps now (Erase at) → AllKeepOrder (traced_on now (Erase at)) lines → Serves (InEvents 0) (traced_on now (Erase at)) lines last → Serves place now (Erase at ∷ lines) last
erase_serves now at place next lines last there known keeps later on =
    event_serves now place next (Some at) (Erase at ∷ lines) last there known keeps.taken
    (λ is either.
    let right : AreTranslated now.state (meanwhile now) = late_right now (Erase at ∷ lines) is either in
    (stage_late now is right, (meanwhile now, same_part (meanwhile now), on.0 (inr (record { src = right.src; dst = right.dst }, no_table lines (traced_on now (Erase at)) later refl)))))
    (λ serves some unput drained. (serves, (now.bits, same_part now.bits, on.1 some unput drained)))
    (λ is some none.
    let parts = or_parts (stands_now now) (comes (traced_on now (Erase at)) lines) none in
    (stage_never now is parts.0, (now.bits, same_part now.bits, on.2 some parts.1)))
    (λ serves part none. (serves, (meanwhile now, part, on.0 (inl none))))

-- a word of a table,
table_serves : (now : Tracing) (field : Field) (port word : ℕ) (place next : Place) (lines : List TraceLine) (last : FieldBits) → place_after now.slots place (Table field port word) ≡ Some next
    → Known place now → Keeps now (Table field port word) → Serves (InEvents 0) (traced_on now (Table field port word)) lines last → Serves place now (Table field port word ∷ lines) last
table_serves now field port word place next lines last there known keeps on =
    event_serves now place next None (Table field port word ∷ lines) last there known keeps.0.taken
    (λ is either. elim either [
      | inl none ↦ (stage_late now is (late_right now (Table field port word ∷ lines) is (inl none)), (meanwhile now, same_part (meanwhile now), on.0 (inl none)))
      | inr none ↦ absurd (let wrong : true ≡ false = none.1 in cc)
    ])
    (λ serves some unput drained. (serves, (now.bits, same_part now.bits, on.1 some unput (λ now_drained. absurd (let wrong : false ≡ true = now_drained in cc)))))
    (λ is some none.
    let parts = or_parts (stands_now now) (comes (traced_on now (Table field port word)) lines) none in
    (stage_never now is parts.0, (now.bits, same_part now.bits, on.2 some parts.1)))
    (λ serves part none. (serves, (meanwhile now, part, on.0 (inl none))))

-- a drain,
drain_serves : (now : Tracing) (place next : Place) (lines : List TraceLine) (last : FieldBits) → place_after now.slots place Drain ≡ Some next → Known place now
    → Keeps now Drain → AllKeepOrder (traced_on now Drain) lines → Serves (InEvents 0) (traced_on now Drain) lines last → Serves place now (Drain ∷ lines) last
drain_serves now place next lines last there known keeps later on =
    event_serves now place next None (Drain ∷ lines) last there known keeps.taken
    (λ is either. (stage_late now is (late_right now (Drain ∷ lines) is either), (meanwhile now, on.0 either)))
    (λ serves some unput drained. elim (cases_Bool (has_table lines)) [
      | inl more ↦ (serves, (now.bits, on.1 some unput (λ now_drained. more)))
      | inr none ↦ elim (cases_Bool (comes (traced_on now Drain) lines)) [
        | inl put ↦ (serves, (meanwhile now, on.0 (inr (comes_right lines (traced_on now Drain) keeps.stage later none put, none))))
        | inr never ↦ (serves, (now.bits, on.2 some never))
      ]
    ])
    (λ is some none.
    let parts = or_parts (stands_now now) (comes (traced_on now Drain) lines) none in
    (stage_never now is parts.0, (now.bits, on.2 some parts.1)))
    (λ serves part none. (serves, (meanwhile now, on.0 (inl none))))

-- and the end of a commit
done_serves : (now : Tracing) (n : ℕ) (place next : Place) (lines : List TraceLine) (last : FieldBits) → place_after now.slots place (Done n) ≡ Some next → Known place now → Keeps now (Done n)
    → ServingTo (bits_left (set_after now.rules now.batch) (meanwhile now)) now.state (trace_actions lines) last → Serves place now (Done n ∷ lines) last
done_serves now n AtStart next lines last there known keeps on = absurd known
done_serves now n (Between m) next lines last there known keeps on = absurd (cc)
done_serves now n (InBatch m k) next lines last there known keeps on = elim (cases_Bool (gives now)) [
  | inl some ↦ absurd (
      let w = gives_put now.mode now.bits now.rules now.batch now.state is.can (start_of now is right) some in
      is.none_put known.unput w.0 w.1 (put_stands now.slots now.mode now.bits now.rules now.batch now.state keeps.1.done keeps.1.ended w.0 w.1))
  | inr none ↦ serving_more left now.bits last now.state (trace_actions lines)
      (part_of_part left (meanwhile now) now.bits (left_part (set_after now.rules now.batch) (meanwhile now)) (same_meanwhile now is right none))
      (rest_serves now.mode now.bits now.rules now.state known.idle.rest) on
]
  where
    left : FieldBits
    left = bits_left (set_after now.rules now.batch) (meanwhile now)

    is : IsUnderNow now
    is = begun_of now known keeps.0.taken

    right : AreTranslated now.state now.bits
    right = rest_right now known.idle
done_serves now n (InEvents m) next lines last there known keeps on = (
  λ either. serving_more left (meanwhile now) last now.state (trace_actions lines) (left_part (set_after now.rules now.batch) (meanwhile now))
      (stage_late now known (late_right now (Done n ∷ lines) known either)) on,
  λ some unput drained. let w = put some in absurd (known.0.none_put unput w.0 w.1 (stand w.0 w.1)),
  λ some none. let w = put some in
      absurd (none_stand now.state (commit_pieces now.mode now.bits now.rules now.batch).inserted none w.0 w.1 (stand w.0 w.1)),
)
  where
    left : FieldBits
    left = bits_left (set_after now.rules now.batch) (meanwhile now)

    put : gives now ≡ true → (x : RankedPiece) × Contains (commit_pieces now.mode now.bits now.rules now.batch).inserted x
    put some = gives_put now.mode now.bits now.rules now.batch now.state known.0.can (start_of now known.0 known.1.2.old_words) some

    stand : (x : RankedPiece) → Contains (commit_pieces now.mode now.bits now.rules now.batch).inserted x → IsStanding now.state x
    stand = put_stands now.slots now.mode now.bits now.rules now.batch now.state keeps.1.done keeps.1.ended
done_serves now n AtEnd next lines last there known keeps on = absurd (cc)

-- Lines without a write or a drain serve as what is behind them does: a commit begins,
begins_serves : (now : Tracing) (n : ℕ) (place next : Place) (lines : List TraceLine) (last : FieldBits) → place_after now.slots place (Commit n) ≡ Some next → Known place now
    → Serves next (traced_on now (Commit n)) lines last → Serves place now (Commit n ∷ lines) last
begins_serves now n AtStart next lines last there known on = absurd known
begins_serves now n (Between m) next lines last there known on = subst (λ p. Serves p (traced_on now (Commit n)) lines last) (only (nat_eq n (m + 1)) (InBatch n 0) next there) on
begins_serves now n (InBatch m k) next lines last there known on = absurd (cc)
begins_serves now n (InEvents m) next lines last there known on = absurd (cc)
begins_serves now n AtEnd next lines last there known on = absurd (cc)

-- has a command more,
command_serves : (now : Tracing) (command : Command) (place next : Place) (lines : List TraceLine) (last : FieldBits) → place_by now.slots place Changes ≡ Some next → Known place now
    → Serves next (with_command now command) lines last → (m k : ℕ) × (place ≡ InBatch m k) × ServingTo now.bits now.state (trace_actions lines) last
command_serves now command AtStart next lines last there known on = absurd known
command_serves now command (Between m) next lines last there known on = absurd (cc)
command_serves now command (InBatch m k) next lines last there known on =
    (m, k, refl, subst (λ p. Serves p (with_command now command) lines last) (only (nat_lt k trace_commands) (InBatch m (k + 1)) next there) on)
command_serves now command (InEvents m) next lines last there known on = absurd (cc)
command_serves now command AtEnd next lines last there known on = absurd (cc)

-- or was refused; or the trace ends
refused_serves : (now : Tracing) (place next : Place) (n : ℕ) (lines : List TraceLine) (last : FieldBits) → place_by now.slots place (Refuses n) ≡ Some next → Known place now
    → Serves next now lines last → (m : ℕ) × (place ≡ Between m) × ServingTo now.bits now.state (trace_actions lines) last
refused_serves now AtStart next n lines last there known on = absurd known
refused_serves now (Between m) next n lines last there known on = (m, refl, subst (λ p. Serves p now lines last) (only (nat_eq n (m + 1)) (Between n) next there) on)
refused_serves now (InBatch m k) next n lines last there known on = absurd (cc)
refused_serves now (InEvents m) next n lines last there known on = absurd (cc)
refused_serves now AtEnd next n lines last there known on = absurd (cc)

end_serves : (now : Tracing) (place next : Place) (lines : List TraceLine) (last : FieldBits) → place_by now.slots place Ends ≡ Some next → Known place now
    → Serves next now lines last → (m : ℕ) × (place ≡ Between m) × ServingTo now.bits now.state (trace_actions lines) last
end_serves now AtStart next lines last there known on = absurd known
end_serves now (Between m) next lines last there known on = (m, refl, subst (λ p. Serves p now lines last) (let same : next ≡ AtEnd = cc in same) on)
end_serves now (InBatch m k) next lines last there known on = absurd (cc)
end_serves now (InEvents m) next lines last there known on = absurd (cc)
end_serves now AtEnd next lines last there known on = absurd (cc)

-- the lines that follow serve from where the events of a commit are, or from between two commits
among_events : (now : Tracing) (next : Place) (lines : List TraceLine) (last : FieldBits) → ((n : ℕ) × (next ≡ InEvents n)) → Serves next now lines last → Serves (InEvents 0) now lines last
among_events now next lines last at on = subst (λ p. Serves p now lines last) at.1 on

between_commits : (now : Tracing) (next : Place) (lines : List TraceLine) (last : FieldBits) → ((n : ℕ) × (next ≡ Between n)) → Serves next now lines last → ServingTo now.bits now.state (trace_actions lines) last
between_commits now next lines last at on = subst (λ p. Serves p now lines last) at.1 on

-- behind the last line
none_serves : (place : Place) (now : Tracing) → Known place now → Serves place now [] now.bits
none_serves AtStart now known = absurd known
none_serves (Between n) now known = (rest_serves now.mode now.bits now.rules now.state known.rest, same_part now.bits)
none_serves (InBatch n k) now known = (rest_serves now.mode now.bits now.rules now.state known.idle.rest, same_part now.bits)
none_serves (InEvents n) now known = (
  λ either. (stage_late now known (late_right now [] known either), live_meanwhile now.mode now.bits now.rules now.batch now.state (start_of now known.0 known.1.2.old_words)),
  λ some unput drained. (stage_early now known unput, same_part now.bits),
  λ some none. (stage_never now known none, same_part now.bits),
)
none_serves AtEnd now known = (rest_serves now.mode now.bits now.rules now.state known.rest, same_part now.bits)

-- Lines that follow one another, and keep the order, serve from their place on.
pub serves_in : (lines : List TraceLine) (now : Tracing) (place end : Place) → Known place now → AllByRecursion IsTraceLine lines → Follow now place lines end → AllKeepOrder now lines
    → Serves place now lines (known_behind now lines).bits
serves_in [] now place end known are follow keeps = none_serves place now known
serves_in (line ∷ lines) now place end known are follow keeps =
    one line follow.1 keeps.0 keeps.1 known (serves_in lines (traced_on now line) follow.0 end (known_on now line place follow.0 are.0 follow.1 keeps.0 known) are.1 follow.2 keeps.1)
  where
    one : (line : TraceLine) → place_after now.slots place line ≡ Some follow.0 → Keeps now line → AllKeepOrder (traced_on now line) lines → Known place now
        → Serves follow.0 (traced_on now line) lines (known_behind (traced_on now line) lines).bits → Serves place now (line ∷ lines) (known_behind (traced_on now line) lines).bits
    one (Head version acl bits slots) there keeps later known on = absurd (no_head now place follow.0 there known)
    one (Commit n) there keeps later known on = begins_serves now n place follow.0 lines (known_behind (traced_on now (Commit n)) lines).bits there known on
    one (Add rule) there keeps later known on =
        let w = command_serves now (change.Add rule) place follow.0 lines (known_behind (traced_on now (Add rule)) lines).bits there known on in
        subst (λ p. Serves p now (Add rule ∷ lines) (known_behind (traced_on now (Add rule)) lines).bits) (sym w.2) w.3
    one (Set priority answer) there keeps later known on =
        let w = command_serves now (change.Set priority answer) place follow.0 lines (known_behind (traced_on now (Set priority answer)) lines).bits there known on in
        subst (λ p. Serves p now (Set priority answer ∷ lines) (known_behind (traced_on now (Set priority answer)) lines).bits) (sym w.2) w.3
    one (Del priority) there keeps later known on =
        let w = command_serves now (change.Del priority) place follow.0 lines (known_behind (traced_on now (Del priority)) lines).bits there known on in
        subst (λ p. Serves p now (Del priority ∷ lines) (known_behind (traced_on now (Del priority)) lines).bits) (sym w.2) w.3
    one (Put at entry) there keeps later known on =
        let b = before_event now place follow.0 (Some at) there known keeps.0.taken in
        put_serves now at entry place follow.0 lines (known_behind (traced_on now (Put at entry)) lines).bits there known keeps later
        (among_events (traced_on now (Put at entry)) follow.0 lines (known_behind (traced_on now (Put at entry)) lines).bits b.0 on)
    one (Erase at) there keeps later known on =
        let b = before_event now place follow.0 (Some at) there known keeps.taken in
        erase_serves now at place follow.0 lines (known_behind (traced_on now (Erase at)) lines).bits there known keeps later
        (among_events (traced_on now (Erase at)) follow.0 lines (known_behind (traced_on now (Erase at)) lines).bits b.0 on)
    one (Table field port word) there keeps later known on =
        let b = before_event now place follow.0 None there known keeps.0.taken in
        table_serves now field port word place follow.0 lines (known_behind (traced_on now (Table field port word)) lines).bits there known keeps
        (among_events (traced_on now (Table field port word)) follow.0 lines (known_behind (traced_on now (Table field port word)) lines).bits b.0 on)
    one Drain there keeps later known on =
        let b = before_event now place follow.0 None there known keeps.taken in
        drain_serves now place follow.0 lines (known_behind (traced_on now Drain) lines).bits there known keeps later
        (among_events (traced_on now Drain) follow.0 lines (known_behind (traced_on now Drain) lines).bits b.0 on)
    one (Done n) there keeps later known on =
        let b = before_done now place follow.0 n there known keeps.0.taken in
        done_serves now n place follow.0 lines (known_behind (traced_on now (Done n)) lines).bits there known keeps
        (between_commits (traced_on now (Done n)) follow.0 lines (known_behind (traced_on now (Done n)) lines).bits b.0 on)
    one (Refused n) there keeps later known on =
        let w = refused_serves now place follow.0 n lines (known_behind now lines).bits there known on in
        subst (λ p. Serves p now (Refused n ∷ lines) (known_behind now lines).bits) (sym w.1) w.2
    one (End writes) there keeps later known on =
        let w = end_serves now place follow.0 lines (known_behind now lines).bits there known on in
        subst (λ p. Serves p now (End writes ∷ lines) (known_behind now lines).bits) (sym w.1) w.2
    one (Fault line) there keeps later known on =
        let w = end_serves now place follow.0 lines (known_behind now lines).bits there known on in
        subst (λ p. Serves p now (Fault line ∷ lines) (known_behind now lines).bits) (sym w.1) w.2
