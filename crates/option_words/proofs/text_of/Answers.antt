use Rattle.std.proofs.Common.{refl, sym}
use Rattle.clap.specs.Matches.{found_of}
use Rattle.option_words.proofs.Texts.{given_text}
use Rattle.option_words.proofs.text_of.Goals as goal

pub returns : goal.returns
returns c = sym (given_text (found_of c.args.found.now) c.args.id.now c.get_str.result c.unwrap_or.result _ c.unwrap_or.ensures refl c.get_str.ensures)
