use Rattle.std.proofs.Common.{take, sym, ◌∙◌}
use Rattle.line_words.specs.Words.{words_of}
use Rattle.router_reader.proofs.Lines.{list-line, route-line, unskipped}
use Rattle.router_reader.proofs.act_of_line.Goals as goal

pub returns-then-is_acl-clause-read : goal.returns-then-is_acl-clause-read
returns-then-is_acl-clause-read c =
    let text = take c.args.line.now.len c.args.line.now.bytes in
    let word = c.in-Some.ensures.word in
    let solid = unskipped (words_of text) (λ is. let none = c.in-Some.ensures.skipped.1 is in absurd (cc)) in
    c.list_act_of.ensures.read
    ∙ list-line c.args.version text c.in-Some.first.now word.0 word.1 solid (sym c.is_of_one_table.ensures ∙ c.if-is_of_one_table.false) (sym c.is_acl.ensures ∙ c.if-is_acl.true)

pub returns-clause-read : goal.returns-clause-read
returns-clause-read c =
    let text = take c.args.line.now.len c.args.line.now.bytes in
    let word = c.in-Some.ensures.word in
    let solid = unskipped (words_of text) (λ is. let none = c.in-Some.ensures.skipped.1 is in absurd (cc)) in
    c.route_act_of.ensures.read
    ∙ route-line c.args.version text c.in-Some.first.now word.0 word.1 solid (sym c.is_of_one_table.ensures ∙ c.if-is_of_one_table.false) (sym c.is_acl.ensures ∙ c.if-is_acl.false)
