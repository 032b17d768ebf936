use Rattle.std.proofs.Common.{Contains, Option, sym, subst, inl, inr, refl}
use Rattle.std.proofs.lemmas.Option.{IfSome_then}
use Rattle.std.proofs.lemmas.Result.{IfOk-weaker}
use Rattle.rule_model.specs.Entry.{RankedPiece}
use Rattle.readback.proofs.Facts.{known_cases, old_known, inserted_known, rewritten_known}
use Rattle.trace_check.specs.Kept.{pieces_kept}
use Rattle.trace_check.proofs.commit.Commit.known_piece.Goals as goal

pub find_in_set-requires : goal.find_in_set-requires
find_in_set-requires c = c.requires.encodable

pub returns-in-Some-clause-found : goal.returns-in-Some-clause-found
returns-in-Some-clause-found c =
    let w = c.in-Some.ensures.found in (w.1, inl (inserted_known (pieces_kept c.args.self.now) c.in-Some.ranked (subst (λ l. Contains l c.in-Some.ranked) c.deref.ensures.value w.0)))

pub returns-in-Some-find-clause-found : goal.returns-in-Some-find-clause-found
returns-in-Some-find-clause-found c =
    let w = c.in-Some-find.ensures.found in
    (w.1, inl (rewritten_known (pieces_kept c.args.self.now) c.in-Some-find.ranked (subst (λ l. Contains l c.in-Some-find.ranked) c.deref-2.ensures.value w.0)))

pub returns-in-Some-standing-clause-found : goal.returns-in-Some-standing-clause-found
returns-in-Some-standing-clause-found c = let w = c.in-Some-standing.ensures.found in (w.0, inr w.1)

pub returns-clause-found : goal.returns-clause-found
returns-clause-found c = IfOk-weaker c.find_in_set.result _ _ (λ (known : Option RankedPiece) found. IfSome_then known found (λ ranked w.
    (w.1, inl (old_known (pieces_kept c.args.self.now) ranked (subst (λ l. Contains l ranked) (sym c.requires.old) w.0))))) c.find_in_set.ensures.found

pub returns-clause-none : goal.returns-clause-none
returns-clause-none c = IfOk-weaker c.find_in_set.result _ _ (λ known absent none ranked member same. elim (known_cases (pieces_kept c.args.self.now) ranked member) [
  | inl old ↦ absent none ranked (subst (λ l. Contains l ranked) c.requires.old old) same
  | inr (inl inserted) ↦ c.in_default.ensures.none refl ranked (subst (λ l. Contains l ranked) (sym c.deref.ensures.value) inserted) same
  | inr (inr rewritten) ↦ c.in_default-find.ensures.none refl ranked (subst (λ l. Contains l ranked) (sym c.deref-2.ensures.value) rewritten) same
]) c.find_in_set.ensures.none
