-- The text that an argument was given, as clap tells it and as the definitions do.
use Rattle.std.proofs.Common.{◌≡◌, ◌∙◌, refl, sym, ap, [], Option, Some, None}
use Rattle.std.specs.Prelude.{option_map, unwrap_or}
use Rattle.std.specs.Borrow.{Bor}
use Rattle.clap.specs.Walk.{Text, rows_of}
use Rattle.clap.specs.Matches.{first_value}
use Rattle.clap.specs.declared.parser.matches.Found.{Found}
use Rattle.clap.proofs.WalkLemmas.{first_value-rows}
use Rattle.option_words.specs.Options.{text_of}

-- the first text of an argument, where none stands for the empty text
pub given_text : (f : Found) (id : Text) (o : Option (Bor Text)) (r d : Bor Text) → r ≡ unwrap_or o d → d.now ≡ []
    → option_map (λ s. s.now) o ≡ first_value f id → text_of id (rows_of f) ≡ r.now
given_text f id o r d is empty given =
    ap (λ x. unwrap_or x []) (sym (first_value-rows f id) ∙ sym given) ∙ go o ∙ ap (λ (s : Bor Text). s.now) (sym is)
  where
    go : (x : Option (Bor Text)) → unwrap_or (option_map (λ s. s.now) x) [] ≡ (unwrap_or x d).now
    go None = sym empty
    go (Some t) = refl
