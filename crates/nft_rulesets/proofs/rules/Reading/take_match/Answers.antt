use Rattle.std.proofs.Common.{◌≡◌, Err, List, sym, ap, ◌∙◌}
use Rattle.json.specs.Value.{items_view, value_view}
use Rattle.written_chains.specs.declared.meets.Tests.{Tests}
use Rattle.nft_rulesets.specs.Matches.{matched}
use Rattle.nft_rulesets.specs.Rules.{ReadSoFar, with_tests}
use Rattle.nft_rulesets.proofs.rules.Reading.take_match.Goals as goal

pub returns-in-Err : goal.returns-in-Err
returns-in-Err c =
    let same : c.as_slice.result.now ≡ c.args.self.now.tests = c.as_slice.ensures.value ∙ ap (λ (s : ReadSoFar). s.tests) c.self.view_is in
    let found : matched c.args.asked.now (items_view c.args.all.now) c.as_slice.result.now (value_view c.args.body.now) ≡ Err c.in-Err.why = rw c.in-Err.is at c.in_ok-tests.ensures in
    ap (with_tests c.args.self.now) (sym (ap (λ (l : List Tests). matched c.args.asked.now (items_view c.args.all.now) l (value_view c.args.body.now)) same) ∙ found)
