use Rattle.std.proofs.Common.{◌≡◌, ◌∙◌, [], ◌∷◌, ◌<◌, ◌≤◌, ◌++◌, List, length, get_or, map, flat_map, take, subst, sym, ap, ap₂, append_assoc, arith, refl}
use Rattle.std.proofs.lemmas.List.{take_all, map-append}
use Rattle.rule_model.specs.PortRange.{PortRange, cover}
use Rattle.rule_model.specs.Piece.{piece_of}
use Rattle.rule_model.specs.declared.Rule.{Rule}
use Rattle.rule_model.specs.Entry.{RankedPiece}
use Rattle.commit_writes.specs.Bits.{no_bits}
use Rattle.commit_writes.specs.Shape.{ranked_piece, ranked_pieces}
use Rattle.commit_writes.proofs.Walked.{images_next}
use Rattle.commit_writes.proofs.batch.pieces.push_blocks.Goals as goal

abbrev parts : Rule → List PortRange → PortRange → List RankedPiece
parts rule dports sport = map (λ dport. ranked_piece no_bits rule (piece_of rule sport dport)) dports

pub loop-place-preserved : goal.loop-place-preserved
loop-place-preserved c =
    let rule = c.args.rule.now in
    let before = c.args.pieces.now.items in
    let images = parts rule (cover rule.dport) in
    let place = c.loop-place.place in
    let block = c.at.result in
    let sources = c.cover-sources.ensures.list in
    let within : place < length (cover rule.sport) = subst (λ (blocks : List PortRange). place < length blocks) sources (omega arith) in
    let read : get_or (cover rule.sport) place block ≡ block = subst (λ (blocks : List PortRange). get_or blocks place block ≡ block) sources (sym c.at.ensures) in
    c.in_ok-push_parts.ensures
    ∙ ap₂ (λ (some : List RankedPiece) (dports : List PortRange). some ++ parts rule dports block) c.loop-place.invariant c.cover-destinations.ensures.list
    ∙ append_assoc before (flat_map images (take place (cover rule.sport))) (images block)
    ∙ ap (λ some. before ++ some) (sym (images_next images (cover rule.sport) place block within read))

pub returns : goal.returns
returns c =
    let rule = c.args.rule.now in
    let all = take_all c.loop-place.place (cover rule.sport) (subst (λ n. n ≤ c.loop-place.place) (c.len-place-end.ensures.number ∙ ap length c.cover-sources.ensures.list) c.loop-place-test.false) in
    c.loop-place.invariant ∙ ap (λ some. c.args.pieces.now.items ++ some) (ap (flat_map (parts rule (cover rule.dport))) all ∙ cut (cover rule.sport))
  where
    inner : (rule : Rule) (dports : List PortRange) (sport : PortRange) → parts rule dports sport ≡ ranked_pieces no_bits rule (map (λ dport. piece_of rule sport dport) dports)
    inner rule [] sport = refl
    inner rule (dport ∷ dports) sport = ap (λ rest. ranked_piece no_bits rule (piece_of rule sport dport) ∷ rest) (inner rule dports sport)

    cut : (sports : List PortRange) → flat_map (parts c.args.rule.now (cover c.args.rule.now.dport)) sports
        ≡ ranked_pieces no_bits c.args.rule.now (flat_map (λ sport. map (λ dport. piece_of c.args.rule.now sport dport) (cover c.args.rule.now.dport)) sports)
    cut [] = refl
    cut (sport ∷ sports) =
        ap₂ (λ first rest. first ++ rest) (inner c.args.rule.now (cover c.args.rule.now.dport) sport) (cut sports)
        ∙ sym (map-append (ranked_piece no_bits c.args.rule.now) (map (λ dport. piece_of c.args.rule.now sport dport) (cover c.args.rule.now.dport)) (flat_map (λ s. map (λ dport. piece_of c.args.rule.now s dport) (cover c.args.rule.now.dport)) sports))
