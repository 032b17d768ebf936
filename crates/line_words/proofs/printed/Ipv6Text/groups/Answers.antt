use Rattle.std.proofs.Common.{◌≡◌, ◌+◌, ◌++◌, ◌∷◌, length, sym, ap, ◌∙◌, arith, append_assoc}
use Rattle.line_words.specs.Shown.{group_text, joined_text}
use Rattle.line_words.proofs.Shown.{behind_colons, joined_text-cons}
use Rattle.line_words.proofs.printed.Ipv6Text.groups.Goals as goal

pub loop-group-init : goal.loop-group-init
loop-group-init c =
    let first = c.in-Some.first.now in
    let rest = c.in-Some.rest.now in
    let whole : c.args.groups.now ≡ first ∷ rest = c.in-Some.ensures.cases.0 in
    let count : length rest + 1 ≡ length c.args.groups.now = c.in-Some.ensures.cases.1 in
    let len = c.group-text.ensures.len in
    record {
      text = ap (λ text. text ++ behind_colons rest) c.group-text.ensures.text
          ∙ (append_assoc c.args.self (group_text first) (behind_colons rest)
          ∙ (ap (λ text. c.args.self ++ text) (sym (joined_text-cons first rest)) ∙ ap (λ groups. c.args.self ++ joined_text groups) (sym whole)));
      len = omega arith;
      count = omega arith;
    }
