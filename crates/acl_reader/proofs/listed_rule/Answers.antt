use Rattle.std.proofs.Common.{◌≡◌, ℕ, ◌<◌, Err, List, [], ◌∷◌, length, refl, arith}
use Rattle.std.proofs.lemmas.Result.{err_from_is_err_and}
use Rattle.line_words.specs.declared.WordFault.TheVariants.{WordCount}
use Rattle.line_words.specs.Kinds.{Notation}
use Rattle.line_words.specs.Notations.{notation_for}
use Rattle.acl_reader.specs.Grammar.{listed_rule}
use Rattle.acl_reader.proofs.listed_rule.Goals as goal

-- eight words and more are no rule
eight-words : (notation : Notation) (a b c d e f g : List ℕ) (rest : List (List ℕ)) → 0 < length rest
    → listed_rule notation (a ∷ b ∷ c ∷ d ∷ e ∷ f ∷ g ∷ rest) ≡ Err WordCount
eight-words notation a b c d e f g [] more = absurd (omega arith)
eight-words notation a b c d e f g (word ∷ words) more = refl

pub returns-in_err-end : goal.returns-in_err-end
returns-in_err-end c =
    let out = err_from_is_err_and c.from_residual-in_err-end.result c.from_residual-in_err-end.ensures.1 in
    let more = c.in_err-end.ensures.1 in
    let eight =
    eight-words (notation_for c.args.version) c.in_ok-sequence.sequence.now c.in_ok-action.action.now c.in_ok-src.src.now c.in_ok-dst.dst.now
    c.in_ok-proto.proto.now c.in_ok-sport.sport.now c.in_ok-dport.dport.now c.required-7.new.self more in
    rw (
      out.1,
      out.2,
      c.in_err-end.ensures.0,
      c.in_ok-sequence.ensures.word,
      c.in_ok-action.ensures.word,
      c.in_ok-src.ensures.word,
      c.in_ok-dst.ensures.word,
      c.in_ok-proto.ensures.word,
      c.in_ok-sport.ensures.word,
      c.in_ok-dport.ensures.word,
      eight,
    ) refl
