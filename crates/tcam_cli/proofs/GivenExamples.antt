-- The promise by what was given, at some small streams, and what it leaves no room for.
use Rattle.std.proofs.Common.{false, ◌≡◌, ◌⊎◌, inl, inr, ℕ, Option, Some, List, [], ◌∷◌, ◌++◌, refl, sym, subst}
use Rattle.std.specs.Prelude.{codes}
use Rattle.std.specs.List.{concat}
use Rattle.script_lines.specs.Given.{HasEnd, MayGive}
use Rattle.tcam_device.specs.declared.Action.{Action}
use Rattle.rule_store.specs.declared.Mode.TheVariants.{Cover}
use Rattle.batch_order.specs.declared.Placement.TheVariants.{Middle}
use Rattle.report_lines.specs.declared.Family.TheVariants.{Route}
use Rattle.replay.specs.Effects.{Setting}
use Rattle.script_runs.specs.declared.Status.{Status}
use Rattle.script_runs.specs.declared.Status.TheVariants.{Done, Refused, Script as ScriptFault}
use Rattle.tcam_cli.specs.CommandLine.{script_setting}
use Rattle.tcam_cli.specs.Headline.{Reads, MayEnd}
use Rattle.tcam_cli.specs.Given.{IsPromisedByGiven}

abbrev routes : Setting
routes = script_setting Route 8 Cover Middle false 0 false false false false

-- ---- Done and Refused come only where the source said that the input is at its end

pub done-ended : (setting : Setting) (slots : ℕ) (status : Status) (given_old given_new : List (List ℕ)) (taken_old taken_new : Option (List ℕ)) (events : List Action)
    → IsPromisedByGiven (Reads setting) slots status given_old given_new taken_old taken_new events → (status ≡ Done) ⊎ (status ≡ Refused)
    → (pieces : List (List ℕ)) × (given_new ≡ given_old ++ pieces) × ((HasEnd pieces → ⊥) → ⊥)
done-ended setting slots status given_old given_new taken_old taken_new events (pieces, is, holds) whole = (
  pieces,
  is,
  λ open_end.
      let may : MayGive (concat pieces ++ 0 ∷ []) pieces (0 ∷ []) = record { bytes = refl; end = λ e. absurd (open_end e) } in
      let none : 0 ∷ [] ≡ [] = (holds (concat pieces ++ 0 ∷ []) (0 ∷ []) may).carried_out.0.all whole in
      absurd (cc),
)

-- ---- a part of a line that nobody can know is no line at fault

abbrev cut : List ℕ
cut = codes "route add 10.0.0.0/"

cut-is-no-fault : (slots : ℕ) (taken_old taken_new : Option (List ℕ)) (events : List Action)
    → IsPromisedByGiven (Reads routes) slots ScriptFault [] (cut ∷ []) taken_old taken_new events → ⊥
cut-is-no-fault slots taken_old taken_new events (pieces, is, holds) =
    let here : pieces ≡ cut ∷ [] = sym is in
    let rest : List ℕ = codes "8 7" in
    let may : MayGive (cut ++ rest) (cut ∷ []) rest = record { bytes = refl; end = λ e. elim e [ inl bad ↦ absurd (cc) | inr bad ↦ absurd bad ] } in
    let ends : MayEnd ScriptFault (Reads routes) (Some (cut ++ rest)) = (holds (cut ++ rest) rest (subst (λ p. MayGive (cut ++ rest) p rest) (sym here) may)).ends in
    let bad : Done ≡ ScriptFault = ends.1.1 in
    absurd (cc)
