-- What the cubes of a line settle.
use Rattle.std.proofs.Common.{◌≡◌, ℕ, false, List, Option, Some, None, Contains, inl, inr, ◌⊎◌, refl, sym, ◌∙◌, subst, ap, ap₂}
use Rattle.std.specs.List.{list_any}
use Rattle.std.proofs.lemmas.Bool.{cases_Bool, cases_eq, both_ways}
use Rattle.slot_order.specs.Order.{slot, IsBest}
use Rattle.slot_order.proofs.Lists.{any_is, any_from}
use Rattle.slot_order.proofs.Rules.{best_best}
use Rattle.rule_model.specs.declared.Rule.{Rule}
use Rattle.rule_model.specs.declared.words.Entry.{Entry}
use Rattle.rule_model.specs.Rule.{rule_matches}
use Rattle.rule_model.specs.RuleSet.{Answer, answer, best_rule}
use Rattle.tcam_device.specs.State.{lookup, search_word}
use Rattle.any_order.specs.Touched.{AreAmong, HitsIt, key_port}
use Rattle.any_order.proofs.Writes.{alike_slots_keep, other_ports_keep, others_keep}
use Rattle.word_cubes.specs.declared.Cube.{Cube}
use Rattle.word_cubes.specs.Cube.{cube_holds}
use Rattle.driver_trace.specs.declared.Compared.{Compared}
use Rattle.driver_trace.specs.declared.Asked.TheVariants.{OldOrNew, New}
use Rattle.driver_trace.specs.Compared.{as_compared, AnswersAs}
use Rattle.driver_trace.specs.Judged.{IsWrong}
use Rattle.write_judge.specs.Events.{IsInCubes, SlotsAreJudgedByCubes, TablesAreJudgedByCubes, EndsAreJudgedByCubes}

-- two answers are equal or not
answer_cases : (a b : Answer) → (a ≡ b) ⊎ (a ≡ b → ⊥)
answer_cases None None = inl refl
answer_cases None (Some b) = inr (λ same. cc)
answer_cases (Some a) None = inr (λ same. cc)
answer_cases (Some a) (Some b) = elim (cases_eq a.0 b.0) [
  | inl rank ↦ elim (cases_eq a.1 b.1) [
    | inl told ↦ inl (ap₂ (λ (tag result : ℕ). let some : Answer = Some (tag, result) in some) rank told)
    | inr other ↦ inr (λ same. other (cc))
  ]
  | inr other ↦ inr (λ same. other (cc))
]

-- what isn't wrong is right
pub right_either : (by : Compared) (gets old new : Answer) → (IsWrong by gets old new OldOrNew → ⊥)
    → (as_compared by gets ≡ as_compared by old) ⊎ (as_compared by gets ≡ as_compared by new)
right_either by gets old new right = elim (answer_cases (as_compared by gets) (as_compared by old)) [
  | inl as_old ↦ inl as_old
  | inr not_old ↦ elim (answer_cases (as_compared by gets) (as_compared by new)) [
    | inl as_new ↦ inr as_new
    | inr not_new ↦ absurd (right (not_old, not_new))
  ]
]

pub right_new : (by : Compared) (gets old new : Answer) → (IsWrong by gets old new New → ⊥) → as_compared by gets ≡ as_compared by new
right_new by gets old new right = elim (answer_cases (as_compared by gets) (as_compared by new)) [
  | inl as_new ↦ as_new
  | inr not_new ↦ absurd (right not_new)
]

pub slots_by_cubes : SlotsAreJudgedByCubes
slots_by_cubes by state slots old new cubes before covered right key valid = elim (cases_Bool (list_any (λ cube. cube_holds cube (search_word state key)) cubes)) [
  | inl some ↦
      let held = any_is (λ (cube : Cube). cube_holds cube (search_word state key)) cubes some in
      right_either by _ _ _ (right held.0 held.1 key valid held.2)
  | inr none ↦
      subst (λ found. (as_compared by found ≡ as_compared by (answer old key)) ⊎ (as_compared by found ≡ as_compared by (answer new key)))
      (sym (alike_slots_keep state slots key (λ at. elim (covered at) [
        | inl same ↦ inl same
        | inr both ↦ inr (misses none (slot state.slots at) both.0, misses none (slot slots at) both.1)
      ]))) (before key valid)
]
  where
    misses : list_any (λ cube. cube_holds cube (search_word state key)) cubes ≡ false → (content : Option Entry) → IsInCubes cubes content → HitsIt state key content → ⊥
    misses none None covers hit = hit
    misses none (Some entry) covers hit =
        let held = covers (search_word state key) hit in
        both_ways (list_any (λ cube. cube_holds cube (search_word state key)) cubes) none (any_from (λ (cube : Cube). cube_holds cube (search_word state key)) cubes held.0 held.1 held.2)

pub tables_by_cubes : TablesAreJudgedByCubes
tables_by_cubes by state field port word old new cube before covers right key valid = elim (cases_eq (key_port field key) port) [
  | inl same ↦ right_either by _ _ _ (right key valid (covers key valid same))
  | inr other ↦ subst (λ found. (as_compared by found ≡ as_compared by (answer old key)) ⊎ (as_compared by found ≡ as_compared by (answer new key)))
      (sym (other_ports_keep state field port word key other)) (before key valid)
]

pub ends_by_cubes : EndsAreJudgedByCubes
ends_by_cubes by state old new changed cubes distinct_old distinct_new of_old of_new covers before right key valid =
    go (best_rule changed key) (best_best rule_matches (λ (rule : Rule). rule.priority) changed key)
  where
    among : (some others : List Rule) → ((rule : Rule) → Contains some rule → Contains others rule ⊎ Contains changed rule)
        → IsBest rule_matches (λ (rule : Rule). rule.priority) (Contains changed) key None → AreAmong key some others
    among some others cases none rule member met = elim (cases rule member) [
      | inl there ↦ there
      | inr is ↦ absurd (none rule is met)
    ]

    go : (found : Option Rule) → IsBest rule_matches (λ (rule : Rule). rule.priority) (Contains changed) key found → AnswersAs by state new key
    go (Some rule) best =
        let held = covers key rule valid best.0 best.1 in
        right_new by (lookup state key) (answer old key) (answer new key) (right held.0 held.1 key valid held.2)
    go None none = elim (before key valid) [
      | inl is ↦ is ∙ ap (as_compared by) (others_keep old new key distinct_old distinct_new (among old new of_old none) (among new old of_new none))
      | inr is ↦ is
    ]
