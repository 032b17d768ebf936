-- A commit that gives a new bit puts a piece in.
use Rattle.std.proofs.Common.{◌≡◌, ℕ, suc, ◌+◌, ◌≤◌, true, false, not, Some, None, is_some, List, [], ◌∷◌, ◌++◌, length, map, Contains, IsTrue, IsFalse, inl, inr, refl, sym, ◌∙◌, subst, ap, append-nil}
use Rattle.std.specs.List.{AllByRecursion, list_any}
use Rattle.std.proofs.lemmas.Bool.{or_cases, not-true}
use Rattle.std.proofs.lemmas.List.Elements.{Contains-append_left}
use Rattle.slot_order.proofs.Lists.{contains_head, contains_cases, contains_none, map_in, AllByRecursion-member}
use Rattle.rule_model.specs.declared.Field.{Field}
use Rattle.rule_model.specs.declared.Field.TheVariants.{Src, Dst}
use Rattle.rule_model.specs.declared.Piece.{Piece}
use Rattle.rule_model.specs.declared.Rule.{Rule}
use Rattle.rule_model.specs.PortRange.{PortRange, is_block}
use Rattle.rule_model.specs.Piece.{whole_piece}
use Rattle.rule_model.specs.Rule.{range_of}
use Rattle.rule_model.specs.Entry.{RankedPiece}
use Rattle.rule_store.specs.declared.Mode.{Mode}
use Rattle.rule_store.specs.declared.Mode.TheVariants.{Cover, Bits}
use Rattle.rule_store.specs.declared.Command.{Command}
use Rattle.rule_store.specs.Batch.{ChangesRules, additions, set_after}
use Rattle.rule_store.specs.Verdict.{coded_ranges, new_ranges, field_bits, pieces_of}
use Rattle.rule_store.proofs.Members.{set_after-member}
use Rattle.range_bits.specs.LiveRanges.{LiveRanges, range_at, newly_live, with_ranges}
use Rattle.range_bits.proofs.Newer.{newly_live-parts}
use Rattle.tcam_device.specs.State.{State, state_after}
use Rattle.commit_writes.specs.Bits.{FieldBits, no_bits, bits_with, new_bits, with_bits}
use Rattle.commit_writes.specs.InFlight.{ArePartOf}
use Rattle.commit_writes.specs.Serving.{AreTranslated, AreRangesOf}
use Rattle.commit_writes.specs.Shape.{set_pieces, ranked_piece, ranked_pieces, fresh_writes}
use Rattle.commit_writes.proofs.CodedRanges.{coded_in, in_coded, new_coded, new_not_coded}
use Rattle.commit_writes.proofs.Filters.{in_images, images_in}
use Rattle.commit_writes.proofs.ServedTables.{IsBitsStart, field_given, tables_serve}
use Rattle.readback.specs.Laws.{CanCommit}
use Rattle.readback.specs.Stage.{IsCommitAt}
use Rattle.readback.specs.Tasks.{CommitPieces, Task, Insert, Rewrite, Erase, commit_pieces, IsStanding, IsDone}
use Rattle.readback.proofs.Begun.{change_of}
use Rattle.readback.proofs.Facts.{ArePieces}
use Rattle.readback.proofs.Pieces.{pieces_are, pieces_lead}
use Rattle.readback.proofs.Shows.{LeadTo}
use Rattle.trace_check.specs.Orderly.{gives_bit}

-- a bit of some live ranges
some_range : (live : LiveRanges) → list_any (λ range. is_some range) live ≡ true → (bit : ℕ) × (range : PortRange) × (range_at live bit ≡ Some range)
some_range [] found = absurd (let wrong : false ≡ true = found in cc)
some_range (None ∷ live) found = let w = some_range live found in (suc w.0, w.1, w.2)
some_range (Some range ∷ live) found = (0, range, refl)

-- where a field has a new bit it has a new range
new_range : (field : Field) (rules : List Rule) (batch : List Command) (live : LiveRanges) (table : List ℕ) → AllByRecursion ChangesRules batch
    → AreRangesOf (coded_ranges field rules) live table → length (coded_ranges field rules) + length (new_ranges field rules batch) ≤ field_bits
    → list_any (λ range. is_some range) (newly_live live (with_ranges live (new_ranges field rules batch))) ≡ true
    → (range : PortRange) × Contains (new_ranges field rules batch) range
new_range field rules batch live table changes are few found =
    let given = field_given field rules batch live table changes are few in
    let w = some_range (newly_live live (with_ranges live (new_ranges field rules batch))) found in
    let parts = (newly_live-parts live (with_ranges live (new_ranges field rules batch)) w.0 w.1 (are.field_map.places ∙ sym given.field_map.places)).0 w.2 in
    elim (given.known w.0 w.1 parts.1) [
      | inl old ↦ absurd (let clash : Some w.1 ≡ None = sym old ∙ parts.0 in cc)
      | inr fresh ↦ (w.1, fresh)
    ]

-- the range of a piece in a field
abbrev port_of : Field → Piece → PortRange
port_of Src piece = piece.sport
port_of Dst piece = piece.dport

whole_port : (field : Field) (bits : FieldBits) (rule : Rule) → port_of field (with_bits bits (whole_piece rule)) ≡ range_of field rule
whole_port Src bits rule = refl
whole_port Dst bits rule = refl

-- by bits a piece of a set is that of a rule, and each rule has one
rule_of : (bits : FieldBits) (rules : List Rule) (x : RankedPiece) → Contains (set_pieces Bits bits rules) x → (rule : Rule) × Contains rules rule × (ranked_piece bits rule (whole_piece rule) ≡ x)
rule_of bits rules x member =
    let w = in_images (λ (rule : Rule). ranked_pieces bits rule (pieces_of Bits rule)) rules x member in
    elim (contains_cases (ranked_piece bits w.0 (whole_piece w.0)) x [] w.2) [
      | inl same ↦ (w.0, w.1, same)
      | inr none ↦ absurd (contains_none x none)
    ]

piece_in : (bits : FieldBits) (rules : List Rule) (rule : Rule) → Contains rules rule → Contains (set_pieces Bits bits rules) (ranked_piece bits rule (whole_piece rule))
piece_in bits rules rule member =
    images_in (λ (one : Rule). ranked_pieces bits one (pieces_of Bits one)) rules rule (ranked_piece bits rule (whole_piece rule)) member (contains_head (ranked_piece bits rule (whole_piece rule)) [])

module _ (bits : FieldBits) (rules : List Rule) (batch : List Command) (state : State) (can : CanCommit Bits bits rules batch) (start : IsBitsStart Bits bits rules batch state) where
  abbrev during : FieldBits
  during = bits_with Bits rules batch bits

  abbrev p : CommitPieces
  p = commit_pieces Bits bits rules batch

  facts : ArePieces p
  facts = pieces_are Bits bits rules batch (change_of Bits bits rules batch can) (state_after state (fresh_writes Bits bits rules batch state)) (tables_serve Bits bits rules batch state start)

  leads : LeadTo p (set_pieces Bits (bits_with Bits rules batch bits) (set_after rules batch))
  leads = pieces_lead Bits bits rules batch (change_of Bits bits rules batch can)

  -- the range of an old piece was coded
  coded_old : (field : Field) (x : RankedPiece) (range : PortRange) → Contains p.old x → port_of field x.piece ≡ range → IsTrue (not (is_block range)) → Contains (coded_ranges field rules) range
  coded_old field x range old port coded =
      let w = rule_of (bits_with Bits rules batch bits) rules x old in
      let same : range_of field w.0 ≡ range = sym (whole_port field (bits_with Bits rules batch bits) w.0) ∙ (ap (λ (y : RankedPiece). port_of field y.piece) w.2 ∙ port) in
      subst (Contains (coded_ranges field rules)) same (coded_in field rules w.0 w.1 (subst (λ r. IsFalse (is_block r)) (sym same) (not-true (is_block range) coded)))

  -- so where a range is new the piece of its rule is put in
  put_for : (field : Field) (range : PortRange) → Contains (new_ranges field rules batch) range → (x : RankedPiece) × Contains p.inserted x
  put_for field range fresh =
      let r = in_coded field (additions batch) range (new_coded field rules batch range fresh) in
      let x = ranked_piece (bits_with Bits rules batch bits) r.0 (whole_piece r.0) in
      let port : port_of field x.piece ≡ range = whole_port field (bits_with Bits rules batch bits) r.0 ∙ r.2 in
      elim (leads.new_cases x (piece_in (bits_with Bits rules batch bits) (set_after rules batch) r.0 ((set_after-member rules batch r.0).1 (inl r.1)))) [
        | inl old ↦ absurd (new_not_coded field rules batch range fresh (coded_old field x range old.0 port r.3))
        | inr (inl rewritten) ↦ (let was = facts.was x rewritten in
            absurd (new_not_coded field rules batch range fresh (coded_old field was.0 range was.1 (ap (port_of field) was.2.0 ∙ port) r.3)))
        | inr (inr inserted) ↦ (x, inserted)
      ]

-- a commit that gives a new bit puts a piece in
pub gives_put : (mode : Mode) (bits : FieldBits) (rules : List Rule) (batch : List Command) (state : State) → CanCommit mode bits rules batch → IsBitsStart mode bits rules batch state
    → gives_bit mode bits rules batch ≡ true → (x : RankedPiece) × Contains (commit_pieces mode bits rules batch).inserted x
gives_put Cover bits rules batch state can start gives =
    absurd (let none : gives_bit Cover no_bits rules batch ≡ true = subst (λ (b : FieldBits). gives_bit Cover b rules batch ≡ true) start.are gives in let wrong : false ≡ true = none in cc)
gives_put Bits bits rules batch state can start gives =
    elim (or_cases (list_any (λ range. is_some range) (new_bits bits (bits_with Bits rules batch bits)).src) (list_any (λ range. is_some range) (new_bits bits (bits_with Bits rules batch bits)).dst) gives) [
      | inl src ↦ (let w = new_range Src rules batch bits.src state.src start.changes start.are.0 start.few.0 src in put_for bits rules batch state can start Src w.0 w.1)
      | inr dst ↦ (let w = new_range Dst rules batch bits.dst state.dst start.changes start.are.1 start.few.1 dst in put_for bits rules batch state can start Dst w.0 w.1)
    ]

-- what was put in stands where a commit has arrived
pub put_stands : (slots : ℕ) (mode : Mode) (bits : FieldBits) (rules : List Rule) (batch : List Command) (state : State) (done : List Task) → IsCommitAt slots mode bits rules batch state done []
    → (x : RankedPiece) → Contains (commit_pieces mode bits rules batch).inserted x → IsStanding state x
put_stands slots mode bits rules batch state done ended x member =
    let p = commit_pieces mode bits rules batch in
    AllByRecursion-member (IsDone state) done (Insert x) ended.are_done
    (subst (λ all. Contains all (Insert x)) (ended.parts ∙ append-nil done)
    (Contains-append_left (map Insert p.inserted) (map Rewrite p.rewritten ++ map Erase p.erased) (Insert x) (map_in Insert p.inserted x member)))

-- tables that are right for some live ranges are right for those among them
pub right_for_part : (less more : FieldBits) (state : State) → ArePartOf less more → AreTranslated state more → AreTranslated state less
right_for_part less more state part right = record {
  src = λ bit range held. right.src bit range (part.src bit range held);
  dst = λ bit range held. right.dst bit range (part.dst bit range held);
}
