-- Where a commit has arrived the tables serve the ranges that are left: each new one is of a piece that was put in.
use Rattle.std.proofs.Common.{◌≡◌, ℕ, not, Some, List, [], ◌++◌, length, map, Contains, IsTrue, IsFalse, inl, inr, refl, sym, ◌∙◌, subst, ap, append-nil}
use Rattle.std.proofs.lemmas.Bool.{not-true}
use Rattle.std.proofs.lemmas.List.Elements.{Contains-append_left}
use Rattle.slot_order.proofs.Lists.{contains_head, contains_cases, contains_none, map_in, AllByRecursion-member}
use Rattle.rule_model.specs.declared.Field.{Field}
use Rattle.rule_model.specs.declared.Field.TheVariants.{Src, Dst}
use Rattle.rule_model.specs.declared.Piece.{Piece}
use Rattle.rule_model.specs.declared.Rule.{Rule}
use Rattle.rule_model.specs.PortRange.{PortRange, is_block}
use Rattle.rule_model.specs.Piece.{whole_piece}
use Rattle.rule_model.specs.Rule.{range_of}
use Rattle.rule_model.specs.Entry.{RankedPiece}
use Rattle.rule_store.specs.declared.Mode.{Mode}
use Rattle.rule_store.specs.declared.Mode.TheVariants.{Cover, Bits}
use Rattle.rule_store.specs.declared.Command.{Command}
use Rattle.rule_store.specs.Batch.{set_after}
use Rattle.rule_store.specs.Verdict.{coded_ranges, new_ranges, pieces_of}
use Rattle.range_bits.specs.LiveRanges.{LiveRanges, range_at, with_ranges, kept_ranges}
use Rattle.range_bits.proofs.Given.{kept_ranges-parts}
use Rattle.tcam_device.specs.State.{State, IsState, state_after}
use Rattle.tcam_device.specs.Order.{IsTranslated}
use Rattle.commit_writes.specs.Bits.{FieldBits, bits_with, bits_left, with_bits}
use Rattle.commit_writes.specs.Segments.{IsAtRest}
use Rattle.commit_writes.specs.Serving.{AreTranslated, AreRangesOf, AreBitsOf}
use Rattle.commit_writes.specs.Shape.{set_pieces, ranked_piece, ranked_pieces, fresh_writes}
use Rattle.commit_writes.proofs.BatchRules.{IsSoundChange}
use Rattle.commit_writes.proofs.CodedRanges.{coded_in, in_coded, new_not_coded}
use Rattle.commit_writes.proofs.Filters.{in_images, images_in}
use Rattle.commit_writes.proofs.ServedTables.{IsBitsStart, field_given, tables_serve, bits_after}
use Rattle.readback.specs.Laws.{CanCommit}
use Rattle.readback.specs.Stage.{IsCommitAt}
use Rattle.readback.specs.Tasks.{CommitPieces, Task, Insert, Rewrite, Erase, commit_pieces, IsStanding, IsDone}
use Rattle.readback.proofs.Begun.{begun, change_of}
use Rattle.readback.proofs.Facts.{ArePieces}
use Rattle.readback.proofs.Pieces.{pieces_are, pieces_lead}
use Rattle.readback.proofs.Shows.{LeadTo}
use Rattle.trace_check.proofs.RestedOn.{rests_with}

-- the range of a piece in a field
abbrev port_of : Field → Piece → PortRange
port_of Src piece = piece.sport
port_of Dst piece = piece.dport

whole_port : (field : Field) (bits : FieldBits) (rule : Rule) → port_of field (with_bits bits (whole_piece rule)) ≡ range_of field rule
whole_port Src bits rule = refl
whole_port Dst bits rule = refl

-- by bits a piece of a set is that of a rule, and each rule has one
rule_of : (bits : FieldBits) (rules : List Rule) (x : RankedPiece) → Contains (set_pieces Bits bits rules) x → (rule : Rule) × Contains rules rule × (ranked_piece bits rule (whole_piece rule) ≡ x)
rule_of bits rules x member =
    let w = in_images (λ (rule : Rule). ranked_pieces bits rule (pieces_of Bits rule)) rules x member in
    elim (contains_cases (ranked_piece bits w.0 (whole_piece w.0)) x [] w.2) [
      | inl same ↦ (w.0, w.1, same)
      | inr none ↦ absurd (contains_none x none)
    ]

piece_in : (bits : FieldBits) (rules : List Rule) (rule : Rule) → Contains rules rule → Contains (set_pieces Bits bits rules) (ranked_piece bits rule (whole_piece rule))
piece_in bits rules rule member =
    images_in (λ (one : Rule). ranked_pieces bits one (pieces_of Bits one)) rules rule (ranked_piece bits rule (whole_piece rule)) member (contains_head (ranked_piece bits rule (whole_piece rule)) [])

-- a table that is right for the live ranges may stand for another
on_table : (ranges : List PortRange) (live : LiveRanges) (other table : List ℕ) → AreRangesOf ranges live other
    → ((bit : ℕ) (range : PortRange) → range_at live bit ≡ Some range → IsTranslated table bit range) → AreRangesOf ranges live table
on_table ranges live other table are right = record {
  field_map = are.field_map;
  needed = are.needed;
  serves = record { places = are.serves.places; have_bits = are.serves.have_bits; translated = right };
}

module _ (slots : ℕ) (bits : FieldBits) (rules : List Rule) (batch : List Command) (state : State) (can : CanCommit Bits bits rules batch)
    (is : IsState (length state.slots) state) (done : List Task) (ended : IsCommitAt slots Bits bits rules batch state done []) where
  abbrev during : FieldBits
  during = bits_with Bits rules batch bits

  abbrev later : List Rule
  later = set_after rules batch

  abbrev p : CommitPieces
  p = commit_pieces Bits bits rules batch

  change : IsSoundChange rules batch
  change = change_of Bits bits rules batch can

  start : IsBitsStart Bits bits rules batch state
  start = begun Bits bits rules batch (length state.slots) state can is ended.old_words

  facts : ArePieces p
  facts = pieces_are Bits bits rules batch change (state_after state (fresh_writes Bits bits rules batch state)) (tables_serve Bits bits rules batch state start)

  leads : LeadTo p (set_pieces Bits (bits_with Bits rules batch bits) (set_after rules batch))
  leads = pieces_lead Bits bits rules batch change

  -- what was put in stands
  put_stands : (x : RankedPiece) → Contains p.inserted x → IsStanding state x
  put_stands x member = AllByRecursion-member (IsDone state) done (Insert x) ended.are_done
      (subst (λ all. Contains all (Insert x)) (ended.parts ∙ append-nil done)
      (Contains-append_left (map Insert p.inserted) (map Rewrite p.rewritten ++ map Erase p.erased) (Insert x) (map_in Insert p.inserted x member)))

  -- the range of an old piece was coded
  coded_old : (field : Field) (x : RankedPiece) (range : PortRange) → Contains p.old x → port_of field x.piece ≡ range → IsTrue (not (is_block range)) → Contains (coded_ranges field rules) range
  coded_old field x range old port coded =
      let w = rule_of (bits_with Bits rules batch bits) rules x old in
      let same : range_of field w.0 ≡ range = sym (whole_port field (bits_with Bits rules batch bits) w.0) ∙ (ap (λ (y : RankedPiece). port_of field y.piece) w.2 ∙ port) in
      subst (Contains (coded_ranges field rules)) same (coded_in field rules w.0 w.1 (subst (λ r. IsFalse (is_block r)) (sym same) (not-true (is_block range) coded)))

  -- so where a new range is left a piece was put in
  new_words : (field : Field) (range : PortRange) → Contains (new_ranges field rules batch) range → Contains (coded_ranges field (set_after rules batch)) range → AreTranslated state (bits_with Bits rules batch bits)
  new_words field range fresh needed =
      let r = in_coded field (set_after rules batch) range needed in
      let x = ranked_piece (bits_with Bits rules batch bits) r.0 (whole_piece r.0) in
      let port : port_of field x.piece ≡ range = whole_port field (bits_with Bits rules batch bits) r.0 ∙ r.2 in
      elim (leads.new_cases x (piece_in (bits_with Bits rules batch bits) (set_after rules batch) r.0 r.1)) [
        | inl old ↦ absurd (new_not_coded field rules batch range fresh (coded_old field x range old.0 port r.3))
        | inr (inl rewritten) ↦ (let was = facts.was x rewritten in
            absurd (new_not_coded field rules batch range fresh (coded_old field was.0 range was.1 (ap (port_of field) was.2.0 ∙ port) r.3)))
        | inr (inr inserted) ↦ ended.new_words x inserted (put_stands x inserted)
      ]

  bits_serve : AreBitsOf Bits (bits_left (set_after rules batch) (bits_with Bits rules batch bits)) (set_after rules batch) state
  bits_serve =
      let all = bits_after Bits bits rules batch state (state_after state (fresh_writes Bits bits rules batch state)) start refl refl in
      let src = field_given Src rules batch bits.src state.src start.changes start.are.0 start.few.0 in
      let dst = field_given Dst rules batch bits.dst state.dst start.changes start.are.1 start.few.1 in (
        on_table (coded_ranges Src (set_after rules batch)) (kept_ranges (with_ranges bits.src (new_ranges Src rules batch)) (coded_ranges Src (set_after rules batch))) _ state.src all.0 (λ bit range held.
            let parts = (kept_ranges-parts (with_ranges bits.src (new_ranges Src rules batch)) (coded_ranges Src (set_after rules batch)) bit range).0 held in
            elim (src.known bit range parts.0) [
              | inl old ↦ ended.old_words.src bit range old
              | inr fresh ↦ (new_words Src range fresh parts.1).src bit range parts.0
            ]),
        on_table (coded_ranges Dst (set_after rules batch)) (kept_ranges (with_ranges bits.dst (new_ranges Dst rules batch)) (coded_ranges Dst (set_after rules batch))) _ state.dst all.1 (λ bit range held.
            let parts = (kept_ranges-parts (with_ranges bits.dst (new_ranges Dst rules batch)) (coded_ranges Dst (set_after rules batch)) bit range).0 held in
            elim (dst.known bit range parts.0) [
              | inl old ↦ ended.old_words.dst bit range old
              | inr fresh ↦ (new_words Dst range fresh parts.1).dst bit range parts.0
            ]),
      )

-- so the set is at rest there
pub rests_on : (slots : ℕ) (mode : Mode) (bits : FieldBits) (rules : List Rule) (batch : List Command) (state : State) → CanCommit mode bits rules batch
    → IsState (length state.slots) state → (done : List Task) → IsCommitAt slots mode bits rules batch state done []
    → IsAtRest mode (bits_left (set_after rules batch) (bits_with mode rules batch bits)) (set_after rules batch) state
rests_on slots Cover bits rules batch state can is done ended =
    rests_with slots Cover bits rules batch state can is done ended
    (bits_after Cover bits rules batch state (state_after state (fresh_writes Cover bits rules batch state)) (begun Cover bits rules batch (length state.slots) state can is ended.old_words) refl refl)
rests_on slots Bits bits rules batch state can is done ended =
    rests_with slots Bits bits rules batch state can is done ended (bits_serve slots bits rules batch state can is done ended)
