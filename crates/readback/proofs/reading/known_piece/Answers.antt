use Rattle.std.proofs.Common.{◌++◌, Contains, sym, ◌∙◌, ap, subst, inl, inr, refl}
use Rattle.std.proofs.lemmas.List.Elements.{Contains-append_left, Contains-append_right}
use Rattle.std.proofs.lemmas.Option.{IfSome_then}
use Rattle.readback.specs.Tasks.{CommitPieces}
use Rattle.readback.proofs.Facts.{known_cases}
use Rattle.readback.proofs.reading.known_piece.Goals as goal

pub returns-in-Some-find-clause-found : goal.returns-in-Some-find-clause-found
returns-in-Some-find-clause-found c =
    let w = c.in-Some-find.ensures.found in
    let i = c.commit.inside in (
      rw (sym c.commit.view_is) (Contains-append_right i.old.items (i.inserted.items ++ i.rewritten.items) c.in-Some-find.ranked
          (Contains-append_left i.inserted.items i.rewritten.items c.in-Some-find.ranked (rw c.deref-2.ensures.value at w.0))),
      w.1,
    )

pub returns-clause-found : goal.returns-clause-found
returns-clause-found c = IfSome_then c.find-3.result c.find-3.ensures.found (λ ranked w.
    let i = c.commit.inside in (
      rw (sym c.commit.view_is) (Contains-append_right i.old.items (i.inserted.items ++ i.rewritten.items) ranked
          (Contains-append_right i.inserted.items i.rewritten.items ranked (rw c.deref-3.ensures.value at w.0))),
      w.1,
    ))

pub returns-clause-none : goal.returns-clause-none
returns-clause-none c none ranked member same =
    elim (known_cases (c.args.commit.now) ranked member) [
      | inl old ↦ c.in_default.ensures.none refl ranked (subst (λ l. Contains l ranked) (ap (λ (p : CommitPieces). p.old) (sym c.commit.view_is) ∙ sym c.deref.ensures.value) old) same
      | inr (inl inserted) ↦ c.in_default-find.ensures.none refl ranked (subst (λ l. Contains l ranked) (ap (λ (p : CommitPieces). p.inserted) (sym c.commit.view_is) ∙ sym c.deref-2.ensures.value) inserted) same
      | inr (inr rewritten) ↦ c.find-3.ensures.none none ranked (subst (λ l. Contains l ranked) (ap (λ (p : CommitPieces). p.rewritten) (sym c.commit.view_is) ∙ sym c.deref-3.ensures.value) rewritten) same
    ]
