-- What the calls find of an entry that comes is what is said of it.
use Rattle.std.proofs.Common.{◌≡◌, ℕ, ◌<◌, ◌≤◌, Bool, true, false, IsTrue, IsFalse, Option, Some, None, Contains, inl, inr, ◌⊎◌, refl, sym, subst, ap}
use Rattle.std.specs.Prelude.{◌↔◌, IfSome, IsNone}
use Rattle.slot_order.specs.Order.{slot}
use Rattle.rule_model.specs.Piece.{PiecesOverlap}
use Rattle.rule_model.specs.declared.words.Entry.{Entry}
use Rattle.rule_model.specs.Entry.{RankedPiece, entry_for, same_match}
use Rattle.commit_writes.specs.Bits.{FieldBits}
use Rattle.commit_writes.specs.Changes.{during_of}
use Rattle.commit_writes.specs.Serving.{AreTranslated}
use Rattle.tcam_device.specs.State.{State}
use Rattle.readback.specs.Tasks.{known_pieces}
use Rattle.trace_check.specs.declared.commit.Commit.{Commit}
use Rattle.trace_check.specs.declared.commit.Device.{Device}
use Rattle.trace_check.specs.Coming.{ComesRight, ComesWrong, IsCrossing, IsFamiliar, PutsIn}
use Rattle.trace_check.specs.Kept.{device_state, pieces_kept}
use Rattle.trace_check.specs.Local.{HoldsPiece}
use Rattle.trace_check.proofs.Maps.{no_range}

-- nothing comes
pub none_comes : (commit : Commit) (device : Device) (at : ℕ) → ComesRight commit device at None None false
none_comes commit device at = record {
  is = refl;
  familiar = λ ranked bad. absurd (let wrong : None ≡ Some ranked = bad in cc);
  ahead = λ ranked bad. absurd (let wrong : None ≡ Some ranked = bad in cc);
  behind = λ ranked bad. absurd (let wrong : None ≡ Some ranked = bad in cc);
  puts_in = ((λ bad. absurd (let wrong : false ≡ true = bad in cc)), (λ w. absurd (let wrong : None ≡ Some w.2.0 = w.2.1 in cc)));
  serves = λ bad. absurd (let wrong : false ≡ true = bad in cc);
}

-- an entry is of a piece that is put in where the walk finds one
module _ (commit : Commit) (entry : Entry) where
  puts_from : (x : RankedPiece) → HoldsPiece (Some entry) x → IsTrue (same_match (entry_for x) entry)
  puts_from x h = subst (λ (e : Entry). IsTrue (same_match (entry_for x) e)) (let k : Some entry ≡ Some h.0 = h.1 in sym (some_is entry h.0 k)) h.2
    where
      some_is : (a b : Entry) → Some a ≡ Some b → a ≡ b
      some_is a b same = cc

  pub puts_are : (puts : Bool) → IsTrue puts ↔ ((x : RankedPiece) × Contains commit.inserted.items x × IsTrue (same_match (entry_for x) entry)) → IsTrue puts ↔ PutsIn commit (Some entry)
  puts_are puts found = (
    λ true_is. let w = found.0 true_is in (w.0, w.1, (entry, refl, w.2)),
    λ w. found.1 (w.0, w.1, puts_from w.0 w.2),
  )

  -- an entry that is right
  pub entry_comes : (device : Device) (at : ℕ) (ranked : RankedPiece) (puts : Bool) → entry_for ranked ≡ entry → IsFamiliar commit device.places ranked
      → ((i : ℕ) (first : RankedPiece) → i < at → slot device.places i ≡ Some first → PiecesOverlap first.piece ranked.piece → ranked.rank ≤ first.rank)
      → ((j : ℕ) (second : RankedPiece) → at < j → slot device.places j ≡ Some second → PiecesOverlap ranked.piece second.piece → second.rank ≤ ranked.rank)
      → IsTrue puts ↔ ((x : RankedPiece) × Contains commit.inserted.items x × IsTrue (same_match (entry_for x) entry))
      → (IsTrue puts → IsTrue commit.served ⊎ AreTranslated (device_state device) (during_of commit.live)) → ComesRight commit device at (Some entry) (Some ranked) puts
  entry_comes device at ranked puts is familiar ahead behind found serves = record {
    is = ap Some is;
    familiar = λ x same. subst (IsFamiliar commit device.places) (one x same) familiar;
    ahead = λ x same. subst (λ (y : RankedPiece). (i : ℕ) (first : RankedPiece) → i < at → slot device.places i ≡ Some first → PiecesOverlap first.piece y.piece → y.rank ≤ first.rank) (one x same) ahead;
    behind = λ x same. subst (λ (y : RankedPiece). (j : ℕ) (second : RankedPiece) → at < j → slot device.places j ≡ Some second → PiecesOverlap y.piece second.piece → second.rank ≤ y.rank) (one x same) behind;
    puts_in = puts_are puts found;
    serves = serves;
  }
    where
      one : (x : RankedPiece) → Some ranked ≡ Some x → ranked ≡ x
      one x same = cc

  -- one that is of no piece, or crosses another, or is put in too early
  pub strange : (device : Device) (at : ℕ) → ((x : RankedPiece) → Contains (known_pieces (pieces_kept commit)) x → entry_for x ≡ entry → ⊥) → ComesWrong commit device at (Some entry)
  strange device at none = inl (entry, refl, none)

  pub crosses : (device : Device) (at : ℕ) (ranked : RankedPiece) → entry_for ranked ≡ entry → IsFamiliar commit device.places ranked → IsCrossing device.places at ranked
      → ComesWrong commit device at (Some entry)
  crosses device at ranked is familiar crossing = inr (inl (ranked, ap Some (sym is), familiar, crossing))

  pub too_early : (device : Device) (at : ℕ) (puts : Bool) → IsTrue puts ↔ ((x : RankedPiece) × Contains commit.inserted.items x × IsTrue (same_match (entry_for x) entry)) → IsTrue puts → IsFalse commit.served
      → (AreTranslated (device_state device) (during_of commit.live) → ⊥) → ComesWrong commit device at (Some entry)
  too_early device at puts found true_is unserved wrong = inr (inr ((puts_are puts found).0 true_is, unserved, wrong))

-- by covers no range has a bit, so that any tables serve
pub none_live : (state : State) (live : Option FieldBits) → live ≡ None → AreTranslated state (during_of live)
none_live state live none = subst (λ (l : Option FieldBits). AreTranslated state (during_of l)) (sym none) (record {
  src = λ bit range held. absurd (no_range bit 16 range held);
  dst = λ bit range held. absurd (no_range bit 16 range held);
})

pub some_live : (state : State) (live : Option FieldBits) (during : FieldBits) → live ≡ Some during → AreTranslated state during → AreTranslated state (during_of live)
some_live state live during is right = subst (λ (l : Option FieldBits). AreTranslated state (during_of l)) (sym is) right

pub live_some : (state : State) (live : Option FieldBits) (during : FieldBits) → live ≡ Some during → AreTranslated state (during_of live) → AreTranslated state during
live_some state live during is right = subst (λ (l : Option FieldBits). AreTranslated state (during_of l)) is right

-- what was found or wasn't
pub some_of : {X : Type 0} (P : X → Type 0) (found : Option X) (x : X) → found ≡ Some x → IfSome found P → P x
some_of P found x is holds = subst (λ o. IfSome o P) is holds

pub none_of : {X : Type 0} (found : Option X) → ((x : X) → found ≡ Some x → ⊥) → IsNone found
none_of None other = refl
none_of (Some x) other = absurd (other x refl)
