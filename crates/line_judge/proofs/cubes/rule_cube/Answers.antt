use Rattle.std.proofs.Common.{◌∙◌, ap, ap₂, subst, sym}
use Rattle.rule_model.specs.declared.Piece.{Piece}
use Rattle.rule_model.specs.PortRange.{PortRange}
use Rattle.rule_model.specs.Entry.{IsEncodable, piece_hits}
use Rattle.rule_model.specs.Piece.{piece_of}
use Rattle.rule_model.specs.Word.{word_of}
use Rattle.line_judge.proofs.KeyCubes.{any_encodable, any_hits}
use Rattle.line_judge.proofs.cubes.rule_cube.Goals as goal

pub entry_of-entry-requires : goal.entry_of-entry-requires
entry_of-entry-requires c =
    subst IsEncodable (sym (c.part_of-piece.ensures ∙ ap₂ (λ (s d : PortRange). piece_of c.args.rule.now s d) c.any-sport.ensures c.any-dport.ensures)) (any_encodable c.args.rule.now)

pub returns : goal.returns
returns c = λ key src dst valid below_src below_dst matches.
    c.cube_of.ensures (word_of key src dst) ∙ c.entry_of-entry.ensures.hits key valid src dst below_src below_dst
    ∙ ap (λ (piece : Piece). piece_hits piece key src dst) (c.part_of-piece.ensures ∙ ap₂ (λ (s d : PortRange). piece_of c.args.rule.now s d) c.any-sport.ensures c.any-dport.ensures)
    ∙ any_hits c.args.rule.now key src dst valid matches
