-- What is known of an orderly trace at each place of it: between commits its set is at rest, and within one it was stopped
-- there.
use Rattle.std.proofs.Common.{◌≡◌, ℕ, ◌+◌, Bool, true, false, Option, None, Some, List, [], ◌∷◌, length, Contains, inl, inr, refl, sym, ◌∙◌, subst, ap, arith, length-set}
use Rattle.std.specs.Prelude.{nat_eq, nat_lt, slice_set}
use Rattle.std.specs.List.{AllByRecursion}
use Rattle.std.proofs.lemmas.Bool.{cases_eq, cases_lt}
use Rattle.std.proofs.lemmas.List.{get_or_past}
use Rattle.slot_order.specs.Order.{slot}
use Rattle.slot_order.proofs.Lists.{all_append}
use Rattle.slot_order.proofs.Writes.{slot_same, slot_other}
use Rattle.rule_model.specs.declared.Field.{Field}
use Rattle.rule_model.specs.declared.Field.TheVariants.{Src, Dst}
use Rattle.rule_model.specs.declared.Rule.{Rule}
use Rattle.rule_model.specs.declared.words.Entry.{Entry}
use Rattle.rule_model.specs.Entry.{RankedPiece}
use Rattle.rule_store.specs.declared.Mode.{Mode}
use Rattle.rule_store.specs.declared.Command.{Command}
use Rattle.rule_store.specs.declared.Command.TheVariants as change
use Rattle.rule_store.specs.Batch.{ChangesRules, set_after}
use Rattle.rule_store.specs.Verdict.{Accepted, verdict}
use Rattle.tcam_device.specs.declared.Write.TheVariants as write
use Rattle.tcam_device.specs.State.{State, IsState, Shows, apply}
use Rattle.tcam_device.specs.Hitless.{ShowsOldOrNew}
use Rattle.commit_writes.specs.Bits.{FieldBits, bits_with, bits_left}
use Rattle.commit_writes.specs.InFlight.{ServesLive}
use Rattle.commit_writes.specs.Segments.{IsAtRest}
use Rattle.commit_writes.specs.Serving.{AreTranslated}
use Rattle.readback.specs.Laws.{CanCommit}
use Rattle.readback.specs.Stage.{IsStage, IsCommitAt}
use Rattle.readback.specs.Tasks.{Task, commit_pieces, IsStanding}
use Rattle.readback.proofs.Accepted.{taken}
use Rattle.readback.proofs.Begun.{begun, change_of}
use Rattle.readback.proofs.Serving.{serving_before, serving_during}
use Rattle.readback.proofs.Stages.{stages_answer, last_stages_answer}
use Rattle.trace_file.specs.declared.TraceLine.{TraceLine}
use Rattle.trace_file.specs.declared.TraceLine.TheVariants.{Head, Commit, Add, Set, Del, Put, Erase, Table, Drain, Done, Refused, End, Fault}
use Rattle.trace_file.specs.Forms.{IsTraceLine}
use Rattle.trace_check.specs.declared.places.Place.{Place}
use Rattle.trace_check.specs.declared.places.Place.TheVariants.{AtStart, Between, InBatch, InEvents, AtEnd}
use Rattle.trace_check.specs.Places.{Heads, Begins, Changes, Happens, Finishes, Refuses, Ends, only_if, is_slot_in_use, place_by, place_after, trace_commands}
use Rattle.trace_check.specs.Orderly.{Tracing, traced_on, with_command, Keeps}
use Rattle.trace_check.proofs.Maps.{HasMaps, maps_of}
use Rattle.trace_check.proofs.RestedBits.{rests_on}
use Rattle.trace_check.proofs.Sized.{HasWord, IsState-apply}
use Rattle.trace_lookups.proofs.Resting.{none_put}

-- between two commits the set is at rest, and the device shows it
pub record IsIdle (slots : ℕ) (mode : Mode) (bits : FieldBits) (rules : List Rule) (state : State) : Type 0 where
  pub rest : IsAtRest mode bits rules state
  pub sized : IsState slots state
  pub shows : Shows state rules

-- among the commands of a commit none of its writes was made
pub record IsBatched (slots : ℕ) (mode : Mode) (bits : FieldBits) (rules : List Rule) (batch : List Command) (state : State) (has_put drained : Bool) : Type 0 where
  pub idle : IsIdle slots mode bits rules state
  pub changes : AllByRecursion ChangesRules batch
  pub unput : has_put ≡ false
  pub undrained : drained ≡ false

-- none of the pieces that a commit puts in stands
abbrev pub HasNonePut : Mode → FieldBits → List Rule → List Command → State → Type 0
HasNonePut mode bits rules batch state = (x : RankedPiece) → Contains (commit_pieces mode bits rules batch).inserted x → IsStanding state x → ⊥

-- a commit that is accepted is under way: before its first put no piece that it puts in stands
pub record IsUnder (slots : ℕ) (mode : Mode) (bits : FieldBits) (rules : List Rule) (batch : List Command) (state : State) (has_put : Bool) : Type 0 where
  pub can : CanCommit mode bits rules batch
  pub sized : IsState slots state
  pub none_put : has_put ≡ false → HasNonePut mode bits rules batch state

-- so it is of what is known
abbrev pub IsUnderNow : Tracing → Type 0
IsUnderNow now = IsUnder now.slots now.mode now.bits now.rules now.batch now.state now.has_put

abbrev pub IsAtStage : Tracing → Type 0
IsAtStage now = IsUnderNow now × IsStage now.slots now.mode now.bits now.rules now.batch now.state

abbrev pub Known : Place → Tracing → Type 0
Known AtStart now = ⊥
Known (Between n) now = IsIdle now.slots now.mode now.bits now.rules now.state
Known (InBatch n k) now = IsBatched now.slots now.mode now.bits now.rules now.batch now.state now.has_put now.drained
Known (InEvents n) now = IsAtStage now
Known AtEnd now = IsIdle now.slots now.mode now.bits now.rules now.state

-- a place that a test allows
pub only : (test : Bool) (place next : Place) → only_if test place ≡ Some next → next ≡ place
only true place next same = (cc)
only false place next same = absurd (cc)

-- an accepted batch can be committed
can_of : (slots : ℕ) (mode : Mode) (bits : FieldBits) (rules : List Rule) (batch : List Command) (state : State) → IsIdle slots mode bits rules state → AllByRecursion ChangesRules batch
    → verdict slots mode rules batch ≡ Accepted → CanCommit mode bits rules batch
can_of slots mode bits rules batch state idle changes accepted =
    let t = taken slots mode rules batch accepted in
    let maps : HasMaps mode rules bits = maps_of mode bits rules state idle.rest.bits_are in
    record {
      is_set = idle.rest.is_set;
      right = idle.rest.right;
      src_map = maps.src;
      dst_map = maps.dst;
      bits_are = maps.are;
      changes = changes;
      sound = t.sound;
      few = t.few;
    }

-- so a commit is under way from its first event on
pub under_of : (slots : ℕ) (mode : Mode) (bits : FieldBits) (rules : List Rule) (batch : List Command) (state : State) (has_put drained : Bool) → IsBatched slots mode bits rules batch state has_put drained
    → verdict slots mode rules batch ≡ Accepted → IsUnder slots mode bits rules batch state has_put
under_of slots mode bits rules batch state has_put drained is accepted =
    let can : CanCommit mode bits rules batch = can_of slots mode bits rules batch state is.idle is.changes accepted in
    record { can = can; sized = is.idle.sized; none_put = λ unput. none_put mode bits rules batch state is.idle.rest can }

-- what a stage serves: the ranges before the commit as long as no piece is put in, and those meanwhile where the tables do
pub stage_early : (now : Tracing) → IsAtStage now → now.has_put ≡ false → ServesLive now.bits now.state
stage_early now is unput =
    let start = begun now.mode now.bits now.rules now.batch now.slots now.state is.0.can is.0.sized is.1.2.old_words in
    serving_before now.mode now.bits now.rules now.batch (change_of now.mode now.bits now.rules now.batch is.0.can) now.state start now.slots now.slots now.state is.1.0 is.1.1 is.0.sized is.1.2 (is.0.none_put unput)

pub stage_late : (now : Tracing) → IsAtStage now → AreTranslated now.state (bits_with now.mode now.rules now.batch now.bits) → ServesLive (bits_with now.mode now.rules now.batch now.bits) now.state
stage_late now is right =
    let start = begun now.mode now.bits now.rules now.batch now.slots now.state is.0.can is.0.sized is.1.2.old_words in
    serving_during now.mode now.bits now.rules now.batch (change_of now.mode now.bits now.rules now.batch is.0.can) now.state start now.slots now.slots now.state is.1.0 is.1.1 is.0.sized is.1.2 right

-- where an event may stand a commit is under way, or may begin
pub before_event : (now : Tracing) (place next : Place) (named : Option ℕ) → place_by now.slots place (Happens named) ≡ Some next → Known place now
    → verdict now.slots now.mode now.rules now.batch ≡ Accepted → ((n : ℕ) × (next ≡ InEvents n)) × IsUnderNow now
before_event now AtStart next named there known accepted = absurd known
before_event now (Between m) next named there known accepted = absurd (cc)
before_event now (InBatch m k) next named there known accepted =
    ((m, only (is_slot_in_use now.slots named) (InEvents m) next there), under_of now.slots now.mode now.bits now.rules now.batch now.state now.has_put now.drained known accepted)
before_event now (InEvents m) next named there known accepted = ((m, only (is_slot_in_use now.slots named) (InEvents m) next there), known.0)
before_event now AtEnd next named there known accepted = absurd (cc)

-- and so where it may be done
pub before_done : (now : Tracing) (place next : Place) (n : ℕ) → place_by now.slots place (Finishes n) ≡ Some next → Known place now
    → verdict now.slots now.mode now.rules now.batch ≡ Accepted → ((m : ℕ) × (next ≡ Between m)) × IsUnderNow now
before_done now AtStart next n there known accepted = absurd known
before_done now (Between m) next n there known accepted = absurd (cc)
before_done now (InBatch m k) next n there known accepted =
    ((m, only (nat_eq n m) (Between m) next there), under_of now.slots now.mode now.bits now.rules now.batch now.state now.has_put now.drained known accepted)
before_done now (InEvents m) next n there known accepted = ((m, only (nat_eq n m) (Between m) next there), known.0)
before_done now AtEnd next n there known accepted = absurd (cc)

-- what stands when a slot is erased, or a word is written, stood before
erased_stood : (held : List (Option Entry)) (at other : ℕ) (entry : Entry) → slot (slice_set held at None) other ≡ Some entry → slot held other ≡ Some entry
erased_stood held at other entry there = elim (cases_eq other at) [
  | inr apart ↦ sym (slot_other held at None other apart) ∙ there
  | inl same ↦ absurd (let clash : None ≡ Some entry = sym (emptied) ∙ (ap (slot (slice_set held at None)) (sym same) ∙ there) in cc)
]
  where
    emptied : slot (slice_set held at None) at ≡ None
    emptied = elim (cases_lt at (length held)) [
      | inl inside ↦ slot_same held at None inside
      | inr past ↦ get_or_past (slice_set held at None) at None (let size : length (slice_set held at None) ≡ length held = length-set held at None in omega arith)
    ]

word_slots : (state : State) (field : Field) (port word : ℕ) → (apply state (write.Table field port word)).slots ≡ state.slots
word_slots state Src port word = refl
word_slots state Dst port word = refl

none_stands_on : (mode : Mode) (bits : FieldBits) (rules : List Rule) (batch : List Command) (before after : State)
    → ((at : ℕ) (entry : Entry) → slot after.slots at ≡ Some entry → slot before.slots at ≡ Some entry)
    → HasNonePut mode bits rules batch before → HasNonePut mode bits rules batch after
none_stands_on mode bits rules batch before after stood none x member stands = none x member (stands.0, (stands.1.0, stood stands.0 stands.1.0 stands.1.1, stands.1.2))

-- What is known behind one line more: of an event,
put_on : (now : Tracing) (at : ℕ) (entry : Entry) → IsUnderNow now → IsStage now.slots now.mode now.bits now.rules now.batch (apply now.state (write.Slot at (Some entry)))
    → IsAtStage (traced_on now (Put at entry))
put_on now at entry is stage = (
  record {
    can = is.can;
    sized = IsState-apply now.slots now.state (write.Slot at (Some entry)) is.sized tt;
    none_put = λ none. absurd (let wrong : true ≡ false = none in cc);
  },
  stage,
)

erase_on : (now : Tracing) (at : ℕ) → IsUnderNow now → IsStage now.slots now.mode now.bits now.rules now.batch (apply now.state (write.Slot at None)) → IsAtStage (traced_on now (Erase at))
erase_on now at is stage = (
  record {
    can = is.can;
    sized = IsState-apply now.slots now.state (write.Slot at None) is.sized tt;
    none_put = λ none. none_stands_on now.mode now.bits now.rules now.batch now.state (apply now.state (write.Slot at None)) (erased_stood now.state.slots at) (is.none_put none);
  },
  stage,
)

table_on : (now : Tracing) (field : Field) (port word : ℕ) → HasWord (write.Table field port word) → IsUnderNow now
    → IsStage now.slots now.mode now.bits now.rules now.batch (apply now.state (write.Table field port word)) → IsAtStage (traced_on now (Table field port word))
table_on now field port word small is stage = (
  record {
    can = is.can;
    sized = IsState-apply now.slots now.state (write.Table field port word) is.sized small;
    none_put = λ none. none_stands_on now.mode now.bits now.rules now.batch now.state (apply now.state (write.Table field port word))
        (λ at entry there. subst (λ (held : List (Option Entry)). slot held at ≡ Some entry) (word_slots now.state field port word) there) (is.none_put none);
  },
  stage,
)

drain_on : (now : Tracing) → IsUnderNow now → IsStage now.slots now.mode now.bits now.rules now.batch now.state → IsAtStage (traced_on now Drain)
drain_on now is stage = (record { can = is.can; sized = is.sized; none_put = is.none_put }, stage)

-- of the end of a commit,
done_on : (now : Tracing) (n : ℕ) (done : List Task) → IsUnderNow now → IsCommitAt now.slots now.mode now.bits now.rules now.batch now.state done []
    → IsIdle now.slots now.mode (bits_left (set_after now.rules now.batch) (bits_with now.mode now.rules now.batch now.bits)) (set_after now.rules now.batch) now.state
done_on now n done is ended = record {
  rest = rests_on now.slots now.mode now.bits now.rules now.batch now.state is.can (subst (λ size. IsState size now.state) (sym is.sized.size) is.sized) done ended;
  sized = is.sized;
  shows = last_stages_answer now.slots now.slots now.mode now.bits now.rules now.batch now.state done is.can is.sized ended;
}

-- and of a line between two commits or among the commands of one
begins_on : (now : Tracing) (place next : Place) (n : ℕ) → place_by now.slots place (Begins n) ≡ Some next → Known place now
    → ((m : ℕ) × (next ≡ InBatch m 0)) × IsIdle now.slots now.mode now.bits now.rules now.state
begins_on now AtStart next n there known = absurd known
begins_on now (Between m) next n there known = ((n, only (nat_eq n (m + 1)) (InBatch n 0) next there), known)
begins_on now (InBatch m k) next n there known = absurd (cc)
begins_on now (InEvents m) next n there known = absurd (cc)
begins_on now AtEnd next n there known = absurd (cc)

command_on : (now : Tracing) (place next : Place) (command : Command) → ChangesRules command → place_by now.slots place Changes ≡ Some next → Known place now → Known next (with_command now command)
command_on now AtStart next command changes there known = absurd known
command_on now (Between m) next command changes there known = absurd (cc)
command_on now (InBatch m k) next command changes there known =
    subst (λ p. Known p (with_command now command)) (sym (only (nat_lt k trace_commands) (InBatch m (k + 1)) next there))
    (record { idle = known.idle; changes = all_append ChangesRules now.batch (command ∷ []) known.changes (changes, tt); unput = known.unput; undrained = known.undrained })
command_on now (InEvents m) next command changes there known = absurd (cc)
command_on now AtEnd next command changes there known = absurd (cc)

refuses_on : (now : Tracing) (place next : Place) (n : ℕ) → place_by now.slots place (Refuses n) ≡ Some next → Known place now → Known next now
refuses_on now AtStart next n there known = absurd known
refuses_on now (Between m) next n there known = subst (λ p. Known p now) (sym (only (nat_eq n (m + 1)) (Between n) next there)) known
refuses_on now (InBatch m k) next n there known = absurd (cc)
refuses_on now (InEvents m) next n there known = absurd (cc)
refuses_on now AtEnd next n there known = absurd (cc)

ends_on : (now : Tracing) (place next : Place) → place_by now.slots place Ends ≡ Some next → Known place now → Known next now
ends_on now AtStart next there known = absurd known
ends_on now (Between m) next there known = let same : next ≡ AtEnd = cc in subst (λ p. Known p now) (sym same) known
ends_on now (InBatch m k) next there known = absurd (cc)
ends_on now (InEvents m) next there known = absurd (cc)
ends_on now AtEnd next there known = absurd (cc)

pub no_head : (now : Tracing) (place next : Place) → place_by now.slots place Heads ≡ Some next → Known place now → ⊥
no_head now AtStart next there known = known
no_head now (Between m) next there known = (cc)
no_head now (InBatch m k) next there known = (cc)
no_head now (InEvents m) next there known = (cc)
no_head now AtEnd next there known = (cc)

-- of each line
pub known_on : (now : Tracing) (line : TraceLine) (place next : Place) → IsTraceLine line → place_after now.slots place line ≡ Some next → Keeps now line → Known place now → Known next (traced_on now line)
known_on now (Head version acl bits slots) place next is there keeps known = absurd (no_head now place next there known)
known_on now (Commit n) place next is there keeps known =
    let b = begins_on now place next n there known in
    subst (λ p. Known p (traced_on now (Commit n))) (sym b.0.1) (record { idle = b.1; changes = tt; unput = refl; undrained = refl })
known_on now (Add rule) place next is there keeps known = command_on now place next (change.Add rule) is.right there known
known_on now (Set priority answer) place next is there keeps known = command_on now place next (change.Set priority answer) tt there known
known_on now (Del priority) place next is there keeps known = command_on now place next (change.Del priority) tt there known
known_on now (Put at entry) place next is there keeps known =
    let b = before_event now place next (Some at) there known keeps.0.taken in
    subst (λ p. Known p (traced_on now (Put at entry))) (sym b.0.1) (put_on now at entry b.1 keeps.0.stage)
known_on now (Erase at) place next is there keeps known =
    let b = before_event now place next (Some at) there known keeps.taken in
    subst (λ p. Known p (traced_on now (Erase at))) (sym b.0.1) (erase_on now at b.1 keeps.stage)
known_on now (Table field port word) place next is there keeps known =
    let b = before_event now place next None there known keeps.0.taken in
    subst (λ p. Known p (traced_on now (Table field port word))) (sym b.0.1) (table_on now field port word is.1 b.1 keeps.0.stage)
known_on now Drain place next is there keeps known =
    let b = before_event now place next None there known keeps.taken in
    subst (λ p. Known p (traced_on now Drain)) (sym b.0.1) (drain_on now b.1 keeps.stage)
known_on now (Done n) place next is there keeps known =
    let b = before_done now place next n there known keeps.0.taken in
    subst (λ p. Known p (traced_on now (Done n))) (sym b.0.1) (done_on now n keeps.1.done b.1 keeps.1.ended)
known_on now (Refused n) place next is there keeps known = refuses_on now place next n there known
known_on now (End writes) place next is there keeps known = ends_on now place next there known
known_on now (Fault line) place next is there keeps known = ends_on now place next there known

-- wherever it is, each key has the answer of the set before the commit or of the set after it
pub shown_at : (now : Tracing) (place : Place) → Known place now → ShowsOldOrNew now.state now.rules (set_after now.rules now.batch)
shown_at now AtStart known = absurd known
shown_at now (Between n) known = λ key valid. inl (known.shows key valid)
shown_at now (InBatch n k) known = λ key valid. inl (known.idle.shows key valid)
shown_at now (InEvents n) known = stages_answer now.slots now.slots now.mode now.bits now.rules now.batch now.state known.0.can known.0.sized known.1
shown_at now AtEnd known = λ key valid. inl (known.shows key valid)
