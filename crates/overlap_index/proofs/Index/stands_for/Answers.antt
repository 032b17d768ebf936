use Rattle.std.proofs.Common.{◌≡◌, true, false, Contains, sym, subst, ap, ◌∙◌, eq-eqb}
use Rattle.std.proofs.lemmas.Bool.{eqb-true}
use Rattle.placement.specs.declared.LivePiece.{LivePiece}
use Rattle.placement.proofs.Above.{same_one}
use Rattle.overlap_index.proofs.Passed.{same_is_equal, equal_is_same}
use Rattle.overlap_index.proofs.Placed.{is_just}
use Rattle.overlap_index.proofs.Index.stands_for.Goals as goal

pub returns-then-eq : goal.returns-then-eq
returns-then-eq c =
    let one = c.piece_of-one.result.now in
    let piece = c.args.piece.now in
    let asked : LivePiece = record { id = c.args.id; piece = piece; rank = c.args.priority } in
    let rank : one.rank ≡ c.args.priority = eqb-true one.rank c.args.priority (sym c.eq.ensures ∙ c.if-eq.true) in (
      λ yes. subst (Contains c.args.self.now.live) (is_just one c.args.id piece c.args.priority c.piece_of-one.ensures.id (equal_is_same one.piece piece (sym c.eq-then-eq.ensures ∙ yes)) rank) c.piece_of-one.ensures.live,
      λ has.
          let same : one ≡ asked = same_one c.args.self.now.live one asked c.piece_of-one.ensures.apart.once c.piece_of-one.ensures.live has c.piece_of-one.ensures.id in
          c.eq-then-eq.ensures ∙ same_is_equal one.piece piece (ap (λ (x : LivePiece). x.piece) same),
    )

pub returns-else-eq : goal.returns-else-eq
returns-else-eq c =
    let one = c.piece_of-one.result.now in
    let asked : LivePiece = record { id = c.args.id; piece = c.args.piece.now; rank = c.args.priority } in (
      λ yes. absurd (let z : true ≡ false = sym yes ∙ c.if-eq.false in cc),
      λ has.
          let same : one ≡ asked = same_one c.args.self.now.live one asked c.piece_of-one.ensures.apart.once c.piece_of-one.ensures.live has c.piece_of-one.ensures.id in
          c.eq.ensures ∙ eq-eqb one.rank c.args.priority (ap (λ (x : LivePiece). x.rank) same),
    )
