use Rattle.json_text.proofs.PlainTexts.{plain_texts}
use Rattle.json_text.proofs.laws.plain_texts_stand.Goals as goal

pub returns : goal.returns
returns c = plain_texts
