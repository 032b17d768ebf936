use Rattle.std.proofs.Common.{◌≡◌, ◌∙◌, ◌<◌, ap, sym, Some, length, map, string_bytes, option_map, slice_get}
use Rattle.std.proofs.lemmas.Option.{slice_get-get_or, slice_get-map}
use Rattle.explain_cli.specs.Promise.{reader_of}
use Rattle.explain_cli.proofs.top.reader_of.Goals as goal

pub returns-in-Some : goal.returns-in-Some
returns-in-Some c =
    let words = c.args.words.now in
    let word = c.in-Some.word.now in
    let within : 1 < length words = c.in-Some.ensures.lookup.3.0 in
    let read : slice_get words 1 ≡ Some word = slice_get-get_or words 1 word within ∙ ap Some (sym c.in-Some.ensures.lookup.1) in
    let second : slice_get (map string_bytes words) 1 ≡ Some c.as_str.result.now =
    slice_get-map string_bytes words 1 ∙ ap (option_map string_bytes) read ∙ ap Some (sym c.as_str.ensures.value) in
    c.reader_named.ensures ∙ sym (ap reader_of second)
