-- Which line a text is that is none of our own traces.
use Rattle.std.proofs.Common.{◌≡◌, List, [], ◌∷◌, length, Option, Some, None, refl, sym, ◌∙◌}
use Rattle.std.specs.Prelude.{ℕ, IsUtf8, IfOk, Result, Ok, Err, map, option_map}
use Rattle.std.specs.Option.{option_or}
use Rattle.std.proofs.lemmas.List.{length-map}
use Rattle.serde_json.specs.Data.{Data}
use Rattle.serde_json.specs.Find.{as_array}
use Rattle.serde_json.specs.Read.{read}
use Rattle.serde_json.specs.View.{view, items_view}
use Rattle.serde_json.specs.declared.value.Value.{Value}
use Rattle.rule_model.specs.declared.IpVersion.{IpVersion}
use Rattle.trace_file.specs.declared.TraceFault.{TraceFault}
use Rattle.trace_file.specs.declared.TraceLine.{TraceLine}
use Rattle.trace_file.specs.Values.{◌>>=◌, values_in}
use Rattle.trace_file.specs.Lines.{IsLineOf, line_in}
use Rattle.trace_file.proofs.Views.{array-values}
use Rattle.driver_trace.specs.declared.DriverLine.{DriverLine}
use Rattle.driver_trace.specs.declared.DriverLine.TheVariants.{Common}
use Rattle.driver_trace.specs.DriverLines.{move_in, other_line_in, other_line, driver_line_in, driver_line, IsDriverLineOf, IsOtherLineOf}

-- no move has another number of values than three
pub move_in-other : (value : Data) (xs items : List Value) → Some (items_view items) ≡ as_array value → xs ≡ items → (length xs ≡ 3 → ⊥) → move_in (values_in value) ≡ None
move_in-other value xs items is same other = rw (array-values value xs items is same) (move_in-none (map view xs) (λ e. other (sym (length-map xs view) ∙ e)))
  where
    move_in-none : (values : List Data) → (length values ≡ 3 → ⊥) → move_in values ≡ None
    move_in-none (a ∷ b ∷ c ∷ []) other = absurd (other refl)
    move_in-none values other = refl

-- a text that is no line of our own traces is the line that only others have
pub other_is : (version : IpVersion) (text : List ℕ) → IsUtf8 text → ((found : TraceLine) → IsLineOf version text found → ⊥) → driver_line version text ≡ other_line text
other_is version text valid none = go (read text) refl
  where
    by : (value : Data) → read text ≡ Some value → (line : Option TraceLine) → line_in version value ≡ line
        → option_or (option_map Common (line_in version value)) (other_line_in value) ≡ other_line_in value
    by value is None missing = rw missing refl
    by value is (Some found) there = absurd (none found (valid, rw is there))

    go : (found : Option Data) → read text ≡ found → (found >>= driver_line_in version) ≡ (found >>= other_line_in)
    go None is = refl
    go (Some value) is = by value is (line_in version value) refl

pub other_read : (version : IpVersion) (text : List ℕ) (answer : Result DriverLine TraceFault) → ((found : TraceLine) → IsLineOf version text found → ⊥)
    → IfOk answer (IsOtherLineOf text) → IfOk answer (IsDriverLineOf version text)
other_read version text (Ok line) none is = (is.0, other_is version text is.0 none ∙ is.1)
other_read version text (Err fault) none is = is
