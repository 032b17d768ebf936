use Rattle.std.proofs.Common.{◌≡◌, ◌<◌, ◌∙◌, true, ap, arith, length, sym, subst}
use Rattle.std.proofs.lemmas.List.{length-map}
use Rattle.std.specs.Prelude.{is_some, option_map, slice_set}
use Rattle.overlap_index.specs.Changes.{live_after}
use Rattle.placement.specs.Live.{Homes, LivePieces, is_live}
use Rattle.overlap_index.specs.Routed.{slot_of}
use Rattle.overlap_index.specs.Tied.{AreTied, AreTold, told_of}
use Rattle.overlap_index.proofs.Known.{route_present}
use Rattle.overlap_index.proofs.Told.{some_set, tied_stood, told_is, told_set, told_stood}
use Rattle.overlap_index.proofs.Linked.{live_small}
use Rattle.overlap_index.proofs.Index.stand.Goals as goal

pub stand-requires-clause-known : goal.stand-requires-clause-known
stand-requires-clause-known c routes is =
    let i = c.self.inside in
    let live = live_after i.history.items in
    let told : AreTold i.slots live routes = subst (AreTied i.slots live i.pieces.items) is c.self.invariant.tied in
    route_present i.slots live routes told.known c.args.id (subst (λ v. is_live v.live c.args.id ≡ true) (sym c.self.view_is) c.requires.live)

pub invariant_of-self : goal.invariant_of-self
invariant_of-self c =
    let i = c.self.inside in
    let p = c.self.invariant in
    rw c.stand.ensures record {
      most = p.most;
      apart = p.apart;
      table = p.table;
      found = p.found;
      tied = tied_stood i.slots (live_after i.history.items) i.pieces.items i.ties c.args.id c.args.slot p.tied;
    }

-- what is told now
now_told : (c : goal.After-stand) → told_of c.stand.new.self ≡ option_map (λ (homes : Homes). slice_set homes c.args.id c.args.slot) c.args.self.now.told
now_told c =
    let i = c.self.inside in
    let live = live_after i.history.items in
    ap told_of c.stand.ensures
    ∙ (told_stood i.ties c.args.id c.args.slot (λ routes is.
    let told : AreTold i.slots live routes = subst (AreTied i.slots live i.pieces.items) is c.self.invariant.tied in
    route_present i.slots live routes told.known c.args.id (subst (λ v. is_live v.live c.args.id ≡ true) (sym c.self.view_is) c.requires.live))
    ∙ ap (λ (v : LivePieces). option_map (λ (homes : Homes). slice_set homes c.args.id c.args.slot) v.told) c.self.view_is)

pub returns-clause-told : goal.returns-clause-told
returns-clause-told c =
    let i = c.self.inside in
    let live = live_after i.history.items in
    told_set c.args.self.now.told (told_of c.stand.new.self) c.args.id c.args.slot (now_told c) (λ before is.
    let k = told_is i.ties before (ap (λ (v : LivePieces). v.told) c.self.view_is ∙ is) in
    let small = live_small i.slots live c.args.id c.self.invariant.apart (subst (λ v. is_live v.live c.args.id ≡ true) (sym c.self.view_is) c.requires.live) in
    let told : AreTold i.slots live k.0 = subst (AreTied i.slots live i.pieces.items) k.1 c.self.invariant.tied in
    let many = told.known.many in
    let size = length-map k.0 slot_of in
    subst (λ h. c.args.id < length h) (sym k.2) (omega arith))

pub returns-clause-kept : goal.returns-clause-kept
returns-clause-kept c = ap is_some (now_told c) ∙ some_set c.args.self.now.told c.args.id c.args.slot
