use Rattle.std.proofs.Common.{ap, ◌∙◌, codes}
use Rattle.json.specs.Value.{value_view}
use Rattle.json.proofs.Trees.{view-Object}
use Rattle.json_routes.specs.Lines.{address_line, address_member, onto, word_line}
use Rattle.json_routes.proofs.Told.{if-told, members-behind}
use Rattle.json_routes.proofs.address.put_address.Goals as goal

pub returns-in_ok-put_word-in-Object : goal.returns-in_ok-put_word-in-Object
returns-in_ok-put_word-in-Object c =
    if-told c.put_address_members.result _ _ _ (
    ap (λ v. onto c.args.line.now.items (address_line c.args.key.now (value_view v))) c.in-Object.is
    ∙ ap (λ j. onto c.args.line.now.items (address_line c.args.key.now j)) (view-Object c.in-Object.members)
    ∙ members-behind c.args.line.now.items _ (word_line (codes "via")) address_member c.in-Object.members.items _ c.in_ok-put_word-in-Object.ensures c.as_slice.ensures.value
    )
    c.put_address_members.ensures
