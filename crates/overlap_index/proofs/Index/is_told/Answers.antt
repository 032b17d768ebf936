use Rattle.std.proofs.Common.{◌≡◌, true, sym, subst}
use Rattle.overlap_index.specs.Changes.{live_after}
use Rattle.placement.specs.Live.{LivePieces, is_above}
use Rattle.overlap_index.proofs.Told.{above-trans, nestable}
use Rattle.overlap_index.proofs.Index.is_told.Goals as goal

pub returns-in-Told-clause-nested : goal.returns-in-Told-clause-nested
returns-in-Told-clause-nested c is upper middle lower first second =
    let i = c.self.inside in
    let p = c.self.invariant in
    let live = live_after i.history.items in
    let all = nestable i.slots live i.pieces.items i.ties c.in-Told.trie c.in-Told.is p.apart p.tied c.are_apart.ensures in
    let back = sym c.self.view_is in
    subst (λ (v : LivePieces). is_above v.live upper lower ≡ true) c.self.view_is
    (above-trans i.slots live c.in-Told.trie all upper middle lower (subst (λ (v : LivePieces). is_above v.live upper middle ≡ true) back first) (subst (λ (v : LivePieces). is_above v.live middle lower ≡ true) back second))
