use Rattle.std.proofs.Common.{◌++◌, ap, sym, ◌∙◌}
use Rattle.kept_numbers.specs.Written.{numbered_text}
use Rattle.iptables.proofs.Puts.{text-put}
use Rattle.iptables.proofs.telling.put_list.Goals as goal

pub returns : goal.returns
returns c =
    let mid = c.put_bytes.new.into.items in
    text-put c.args.older.now _ c.as_slice.result.now _ _ c.args.into.now.items mid _ (c.as_slice.ensures.value ∙ c.in_ok-words.ensures.words) c.in_ok-all.ensures
    (c.in_ok-put_bytes.ensures ∙ ap (λ t. c.args.into.now.items ++ t) (c.as_bytes.ensures.value ∙ c.anew_note.ensures))
    (c.in_ok-put_numbered.ensures ∙ ap (λ n. mid ++ numbered_text n c.as_slice-3.result.now) c.as_slice-2.ensures.value
    ∙ ap (λ w. mid ++ numbered_text c.in_ok-all.all.numbers.items w) (c.as_slice-3.ensures.value ∙ sym c.as_slice.ensures.value))
