use Rattle.std.proofs.Common.{ℕ, Option, Some, None, IsSome, IsNone, ◌∙◌, refl, sym, ap}
use Rattle.rule_model.specs.Entry.{RankedPiece}
use Rattle.batch_order.proofs.parts.id_of.Goals as goal

some_id : (found : Option ℕ) → (IsNone found → ⊥) → IsSome found
some_id None wrong = absurd (wrong refl)
some_id (Some id) wrong = refl

pub unwrap-requires : goal.unwrap-requires
unwrap-requires c =
    let (one, member, piece, rank) = c.requires in
    let is = sym c.ranked.view_is in
    some_id c.id_of.result (λ none. c.id_of.ensures.none none one member (piece ∙ ap (λ (r : RankedPiece). r.piece) is) (rank ∙ ap (λ (r : RankedPiece). r.rank) is))
