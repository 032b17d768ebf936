use Rattle.std.proofs.Common.{◌≡◌, true, Contains, refl, sym, ap₂, subst}
use Rattle.overlap_index.specs.Buckets.{bucket_of}
use Rattle.overlap_index.specs.Changes.{live_after}
use Rattle.placement.specs.Live.{is_live}
use Rattle.placement.proofs.Above.{is_live_from}
use Rattle.overlap_index.proofs.InBuckets.{ends_at, ids_at}
use Rattle.overlap_index.proofs.Index.candidates.Goals as goal

pub ids-requires : goal.ids-requires
ids-requires c =
    let i = c.self.inside in
    ends_at i.slots (live_after i.history.items) i.buckets c.self.invariant.apart c.self.invariant.found c.args.piece.now c.args.priority

pub returns-clause-live : goal.returns-clause-live
returns-clause-live c id has =
    let i = c.self.inside in
    let w = (ids_at i.slots (live_after i.history.items) i.buckets c.self.invariant.apart c.self.invariant.found c.args.piece.now c.args.priority id).0 (subst (λ xs. Contains xs id) c.ids.ensures has) in
    subst (λ z. is_live c.args.self.now.live z ≡ true) w.2 (is_live_from c.args.self.now.live w.0 (subst (λ v. Contains v.live w.0) c.self.view_is w.1))

pub returns-clause-all : goal.returns-clause-all
returns-clause-all c one has piece rank =
    let i = c.self.inside in
    subst (λ xs. Contains xs one.id) (sym c.ids.ensures)
    ((ids_at i.slots (live_after i.history.items) i.buckets c.self.invariant.apart c.self.invariant.found c.args.piece.now c.args.priority one.id).1
    (one, subst (λ v. Contains v.live one) (sym c.self.view_is) has, refl, ap₂ (bucket_of i.slots) piece rank))
