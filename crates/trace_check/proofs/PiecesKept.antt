-- The pieces of a commit as they are cut, and what is kept of them.
use Rattle.std.proofs.Common.{◌≡◌, false, refl, Option, None, List, filter, sym, ◌∙◌, subst, ap, ap₂}
use Rattle.std.specs.List.{AllByRecursion}
use Rattle.rule_model.specs.declared.Rule.{Rule}
use Rattle.rule_model.specs.Entry.{RankedPiece, IsEncodable}
use Rattle.rule_store.specs.declared.Mode.{Mode}
use Rattle.rule_store.specs.declared.Mode.TheVariants.{Cover}
use Rattle.rule_store.specs.declared.Command.{Command}
use Rattle.commit_writes.specs.Actions.{have_bits}
use Rattle.commit_writes.specs.Bits.{FieldBits, bits_with, new_bits, no_bits}
use Rattle.commit_writes.specs.Changes.{coded_by, during_of}
use Rattle.commit_writes.specs.Shape.{set_pieces, inserted_pieces, rewritten_pieces, erased_pieces}
use Rattle.readback.specs.Tasks.{CommitPieces, commit_pieces, changes_result}
use Rattle.readback.proofs.Begun.{no_bits_live}
use Rattle.readback.proofs.StageFound.{old_encodable, inserted_encodable, rewritten_encodable, erased_encodable}
use Rattle.trace_check.specs.declared.commit.Commit.{Commit}
use Rattle.trace_check.specs.Coming.{FindsRules}
use Rattle.trace_check.specs.Kept.{IsCommitOf, MayJudge, first_rules}

module _ (mode : Mode) (bits : FieldBits) (rules : List Rule) (batch : List Command) (may : MayJudge mode bits rules batch) (during : FieldBits) (is : during ≡ bits_with mode rules batch bits) where
  -- each piece has an entry
  pub found_by : (pieces : List RankedPiece) → pieces ≡ set_pieces mode during rules → AllByRecursion (λ (x : RankedPiece). IsEncodable x.piece) pieces
  found_by pieces same = subst (AllByRecursion (λ (x : RankedPiece). IsEncodable x.piece)) (sym (same ∙ ap (λ b. set_pieces mode b rules) is)) (old_encodable mode bits rules batch may.device_slots may.state may.can may.is may.right)

  pub inserted_by : (pieces : List RankedPiece) → pieces ≡ inserted_pieces mode during rules batch → AllByRecursion (λ (x : RankedPiece). IsEncodable x.piece) pieces
  inserted_by pieces same =
      subst (AllByRecursion (λ (x : RankedPiece). IsEncodable x.piece)) (sym (same ∙ ap (λ b. inserted_pieces mode b rules batch) is)) (inserted_encodable mode bits rules batch may.device_slots may.state may.can may.is may.right)

  pub rewritten_by : (pieces : List RankedPiece) → pieces ≡ rewritten_pieces mode during rules batch → AllByRecursion (λ (x : RankedPiece). IsEncodable x.piece) pieces
  rewritten_by pieces same =
      subst (AllByRecursion (λ (x : RankedPiece). IsEncodable x.piece)) (sym (same ∙ ap (λ b. rewritten_pieces mode b rules batch) is)) (rewritten_encodable mode bits rules batch may.device_slots may.state may.can may.is may.right)

  pub erased_by : (pieces : List RankedPiece) → pieces ≡ erased_pieces mode during rules batch → AllByRecursion (λ (x : RankedPiece). IsEncodable x.piece) pieces
  erased_by pieces same =
      subst (AllByRecursion (λ (x : RankedPiece). IsEncodable x.piece)) (sym (same ∙ ap (λ b. erased_pieces mode b rules batch) is)) (erased_encodable mode bits rules batch may.device_slots may.state may.can may.is may.right)

  -- what is kept of the commit
  pub is_commit : (commit : Commit) → coded_by commit.live ≡ mode → during_of commit.live ≡ during → commit.gives_bit ≡ have_bits (new_bits bits during)
      → first_rules commit.found.items ≡ rules → commit.inserted.items ≡ inserted_pieces mode during rules batch
      → commit.rewritten.items ≡ filter (changes_result rules) (rewritten_pieces mode during rules batch) → commit.erased.items ≡ erased_pieces mode during rules batch → IsCommitOf mode bits rules batch commit
  is_commit commit coded same gives found inserted rewritten erased = record {
    may = may;
    coded = coded;
    during = same ∙ is;
    gives = gives ∙ ap (λ b. have_bits (new_bits bits b)) is;
    pieces =
        pieces_of_lists (set_pieces (coded_by commit.live) (during_of commit.live) (first_rules commit.found.items)) commit.inserted.items commit.rewritten.items commit.erased.items
        (ap (λ m. set_pieces m (during_of commit.live) (first_rules commit.found.items)) coded ∙ ap₂ (λ (b : FieldBits) (r : List Rule). set_pieces mode b r) (same ∙ is) found)
        (inserted ∙ ap (λ b. inserted_pieces mode b rules batch) is) (rewritten ∙ ap (λ b. filter (changes_result rules) (rewritten_pieces mode b rules batch)) is)
        (erased ∙ ap (λ b. erased_pieces mode b rules batch) is);
  }
    where
      pieces_of_lists : (a b c d : List RankedPiece) → a ≡ (commit_pieces mode bits rules batch).old → b ≡ (commit_pieces mode bits rules batch).inserted
          → c ≡ (commit_pieces mode bits rules batch).rewritten → d ≡ (commit_pieces mode bits rules batch).erased
          → ◌≡◌ {A = CommitPieces} (record { old = a; inserted = b; rewritten = c; erased = d }) (commit_pieces mode bits rules batch)
      pieces_of_lists a b c d p q r s =
          ap₂ (λ (x y : List RankedPiece). let all : CommitPieces = record { old = x; inserted = y; rewritten = c; erased = d } in all) p q
          ∙ ap₂ (λ (x y : List RankedPiece). let all : CommitPieces = record {
            old = (commit_pieces mode bits rules batch).old;
            inserted = (commit_pieces mode bits rules batch).inserted;
            rewritten = x;
            erased = y;
          } in all) r s

-- by covers no range is live
pub no_live : (live : Option FieldBits) (bits : FieldBits) (rules : List Rule) (batch : List Command) → MayJudge (coded_by live) bits rules batch → live ≡ None → bits ≡ no_bits
no_live live bits rules batch may none =
    let m : MayJudge Cover bits rules batch = subst (λ (l : Option FieldBits). MayJudge (coded_by l) bits rules batch) none may in
    no_bits_live bits rules m.can.src_map m.can.dst_map m.can.bits_are

-- so none gets a bit
pub none_new : (live : Option FieldBits) (bits : FieldBits) → live ≡ None → bits ≡ no_bits → false ≡ have_bits (new_bits bits (during_of live))
none_new live bits none is =
    subst (λ (l : Option FieldBits). false ≡ have_bits (new_bits bits (during_of l))) (sym none) (subst (λ b. false ≡ have_bits (new_bits b no_bits)) (sym is) refl)

-- a commit of a set finds its rules
pub finds_rules : (mode : Mode) (bits : FieldBits) (rules : List Rule) (batch : List Command) (commit : Commit) → IsCommitOf mode bits rules batch commit → FindsRules commit rules
finds_rules mode bits rules batch commit is =
    let same : set_pieces (coded_by commit.live) (during_of commit.live) rules ≡ set_pieces mode (bits_with mode rules batch bits) rules =
    ap₂ (λ (m : Mode) (b : FieldBits). set_pieces m b rules) is.coded is.during in
    record {
      old = ap (λ (p : CommitPieces). p.old) is.pieces ∙ sym same;
      encodable = found_by mode bits rules batch is.may (bits_with mode rules batch bits) refl (set_pieces (coded_by commit.live) (during_of commit.live) rules) same;
    }
