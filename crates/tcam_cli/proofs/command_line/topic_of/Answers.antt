use Rattle.std.proofs.Common.{◌≡◌, ◌∙◌, ◌<◌, ap, sym, Some, length, map, string_bytes, option_map, slice_get}
use Rattle.std.specs.Prelude.{option_and_then}
use Rattle.std.proofs.lemmas.Option.{slice_get-get_or, slice_get-map}
use Rattle.tcam_cli.specs.CommandLine.{topic_named}
use Rattle.tcam_cli.proofs.command_line.topic_of.Goals as goal

pub returns : goal.returns
returns c =
    let words = c.args.words.now in
    let word = c.in_ok-get.field-0.now in
    let within : 1 < length words = c.in_ok-get.ensures.lookup.3.0 in
    let read : slice_get words 1 ≡ Some word = slice_get-get_or words 1 word within ∙ ap Some (sym c.in_ok-get.ensures.lookup.1) in
    let second : slice_get (map string_bytes words) 1 ≡ Some c.as_str.result.now =
    slice_get-map string_bytes words 1 ∙ ap (option_map string_bytes) read ∙ ap Some (sym c.as_str.ensures.value) in
    c.topic_by.ensures ∙ sym (ap (option_and_then topic_named) second)
