use Rattle.std.proofs.Common.{◌∙◌, ap, length}
use Rattle.std.specs.Option.{unwrap_or}
use Rattle.ip_routes.specs.Words.{is_gap}
use Rattle.line_words.proofs.Walk.{words_by-first, position-or-length}
use Rattle.ip_routes.proofs.words.cut_word.Goals as goal

pub returns : goal.returns
returns c =
    let end =
    c.unwrap_or-end.ensures ∙ ap (λ place. unwrap_or place (length c.args.text.now)) c.first_gap.ensures
    ∙ position-or-length is_gap c.args.text.now in
    rw (c.split_at.ensures.front, c.split_at.ensures.back)
    (words_by-first is_gap c.args.text.now c.unwrap_or-end.result c.requires.some c.requires.solid end)
