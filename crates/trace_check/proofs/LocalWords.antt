-- A write of a table's word leads from a stage to a stage exactly where that word is right.
use Rattle.std.proofs.Common.{◌≡◌, ◌<◌, ◌^◌, ℕ, Some, List, length, Contains, inl, inr, sym, ◌∙◌, ap, arith, get_or-set_same, get_or-set_other}
use Rattle.std.specs.Prelude.{slice_index, slice_set}
use Rattle.std.proofs.lemmas.Bool.{cases_eq}
use Rattle.rule_model.specs.declared.Field.{Field}
use Rattle.rule_model.specs.declared.Field.TheVariants.{Src, Dst}
use Rattle.rule_model.specs.PortRange.{PortRange, is_bit_set, range_holds}
use Rattle.rule_model.specs.Entry.{RankedPiece}
use Rattle.range_bits.specs.LiveRanges.{LiveRanges, range_at}
use Rattle.tcam_device.specs.declared.Write.TheVariants.{Table}
use Rattle.tcam_device.specs.State.{State, apply, table_of}
use Rattle.tcam_device.specs.Order.{IsTranslated}
use Rattle.commit_writes.specs.Bits.{FieldBits, ranges_in}
use Rattle.commit_writes.specs.InFlight.{HasBits}
use Rattle.commit_writes.specs.Serving.{AreTranslated}
use Rattle.readback.specs.Tasks.{CommitPieces, Task, IsStanding}
use Rattle.readback.specs.Stage.{IsStageAt}
use Rattle.trace_check.specs.Local.{TableWritesAreLocal}

-- a table with one word written is right where that word is
table_on : (table : List ℕ) (live : LiveRanges) (port word : ℕ) → port < length table → HasBits live port word
    → (bit : ℕ) (range : PortRange) → range_at live bit ≡ Some range → IsTranslated table bit range → IsTranslated (slice_set table port word) bit range
table_on table live port word room right bit range held was at small = elim (cases_eq at port) [
  | inl k ↦ ap (λ w. is_bit_set w bit) (ap (slice_index (slice_set table port word)) k ∙ get_or-set_same table port word 0 room) ∙ (right bit range held ∙ ap (range_holds range) (sym k))
  | inr n ↦ ap (λ w. is_bit_set w bit) (get_or-set_other table port at word 0 n) ∙ was at small
]

table_back : (table : List ℕ) (live : LiveRanges) (port word : ℕ) → port < length table → port < 2 ^ 16
    → ((bit : ℕ) (range : PortRange) → range_at live bit ≡ Some range → IsTranslated (slice_set table port word) bit range) → HasBits live port word
table_back table live port word room small right bit range held = ap (λ w. is_bit_set w bit) (sym (get_or-set_same table port word 0 room)) ∙ right bit range held port small

pub words_on : (state : State) (bits : FieldBits) (field : Field) (port word : ℕ) → port < length (table_of field state) → HasBits (ranges_in field bits) port word → AreTranslated state bits → AreTranslated (apply state (Table field port word)) bits
words_on state bits Src port word room right was = record { src = λ bit range held. table_on state.src bits.src port word room right bit range held (was.src bit range held); dst = was.dst }
words_on state bits Dst port word room right was = record { src = was.src; dst = λ bit range held. table_on state.dst bits.dst port word room right bit range held (was.dst bit range held) }

words_back : (state : State) (bits : FieldBits) (field : Field) (port word : ℕ) → port < length (table_of field state) → port < 2 ^ 16 → AreTranslated (apply state (Table field port word)) bits → HasBits (ranges_in field bits) port word
words_back state bits Src port word room small later = table_back state.src bits.src port word room small later.src
words_back state bits Dst port word room small later = table_back state.dst bits.dst port word room small later.dst

-- the stage of a table's write, which no slot sees
pub stage_on : (slots : ℕ) (before during : FieldBits) (p : CommitPieces) (state : State) (done left : List Task) (field : Field) (port word : ℕ)
    → IsStageAt slots before during p state done left → AreTranslated (apply state (Table field port word)) before
    → ((ranked : RankedPiece) → Contains p.inserted ranked → IsStanding state ranked → ⊥) → IsStageAt slots before during p (apply state (Table field port word)) done left
stage_on slots before during p state done left Src port word stage words none = record {
  unused = stage.unused;
  known = stage.known;
  old_words = words;
  new_words = λ x member s. absurd (none x member s);
  order = stage.order;
  twins = stage.twins;
  stays = stage.stays;
  parts = stage.parts;
  are_done = stage.are_done;
  are_left = stage.are_left;
}
stage_on slots before during p state done left Dst port word stage words none = record {
  unused = stage.unused;
  known = stage.known;
  old_words = words;
  new_words = λ x member s. absurd (none x member s);
  order = stage.order;
  twins = stage.twins;
  stays = stage.stays;
  parts = stage.parts;
  are_done = stage.are_done;
  are_left = stage.are_left;
}

pub table_writes_are_local : TableWritesAreLocal
table_writes_are_local slots before during p state done left field port word stage small size none =
    let room : port < length (table_of field state) = (let s = size in omega arith) in (
      λ later. words_back state before field port word room small later.2.old_words,
      λ right. (done, left, stage_on slots before during p state done left field port word stage (words_on state before field port word room right stage.old_words) none),
    )
