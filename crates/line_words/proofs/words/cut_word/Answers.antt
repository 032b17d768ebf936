use Rattle.std.proofs.Common.{◌∙◌, ap, length}
use Rattle.std.specs.Option.{unwrap_or}
use Rattle.line_words.specs.Words.{is_blank}
use Rattle.line_words.proofs.Walk.{words_by-first, position-or-length}
use Rattle.line_words.proofs.words.cut_word.Goals as goal

pub returns-clause-words : goal.returns-clause-words
returns-clause-words c =
    let end =
    c.unwrap_or-end.ensures ∙ ap (λ place. unwrap_or place (length c.args.text.now)) c.first_blank.ensures
    ∙ position-or-length is_blank c.args.text.now in
    rw (c.split_at.ensures.front, c.split_at.ensures.back)
    (words_by-first is_blank c.args.text.now c.unwrap_or-end.result c.requires.some c.requires.solid end)
