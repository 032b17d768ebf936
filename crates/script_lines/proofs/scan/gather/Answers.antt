use Rattle.std.proofs.Common.{◌≡◌, ◌∙◌, ◌++◌, ◌∷◌, [], inl, length, refl, subst, arith}
use Rattle.std.specs.List.{concat}
use Rattle.script_lines.specs.Reader.{IsOpenLine}
use Rattle.script_lines.proofs.Pieces.{gathers-more, end-right, end-still, none-of, all-scanned, scanned-more}
use Rattle.script_lines.proofs.scan.gather.Goals as goal

-- the source said that the input is at its end
pub returns-in-Ok-eq0-clause-gives : goal.returns-in-Ok-eq0-clause-gives
returns-in-Ok-eq0-clause-gives g c =
    let i = c.reads.invariant in
    let x = c.in-Ok-eq0.ensures.ok in
    let used = rw c.in-Open.is at c.found_at.ensures in
    let plain = all-scanned c.args.before c.scan.result _ _ c.bytes-held.ensures c.scan.ensures.scan used in
    let none : length x.got ≡ 0 = omega (arith, x.count, c.in-Ok-eq0.field-0-is, c.in-Ok-eq0.field-0-test) in (
      i.gives.0 ++ x.got ∷ [],
      gathers-more _ _ _ _ _ _ _ _ _ _ i.gives.0 x.got i.gives.1 i.gives.2 plain x.grown x.taken x.given,
      λ e. refl,
      λ e. end-right i.gives.0 (x.got ∷ []) (inl (none-of x.got none)),
    )

pub reads-preserved : goal.reads-preserved
reads-preserved g c =
    let i = c.reads.invariant in
    let x = c.in-Ok.ensures.ok in
    let used = rw c.in-Open.is at c.found_at.ensures in
    let plain = all-scanned c.args.before c.scan.result _ _ c.bytes-held.ensures c.scan.ensures.scan used in
    let more = gathers-more _ _ _ _ _ _ _ _ _ _ i.gives.0 x.got i.gives.1 i.gives.2 plain x.grown x.taken x.given in
    record {
      scan = scanned-more c.args.before c.scan.result _ _ _ x.got c.bytes-held.ensures c.scan.ensures.scan x.grown;
      grown = (concat (i.gives.0 ++ x.got ∷ []), more.grown, more.taken);
      gives = (i.gives.0 ++ x.got ∷ [], more, λ e. end-still i.gives.0 x.got c.in-Ok.field-0 x.count (λ z. omega (arith, z, c.in-Ok.field-0-test)) i.gives.2 e);
      unread = λ other. absurd (other (subst (λ b. IsOpenLine c.args.before b) (i.unread other).0 plain));
      faults = c.in-Ok.ensures.cause.stayed ∙ i.faults;
    }
