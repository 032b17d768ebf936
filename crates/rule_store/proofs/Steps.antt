-- A sound batch command by command: what each meets, and what it leaves to the next.
use Rattle.std.proofs.Common.{◌≡◌, ℕ, zero, suc, ◌+◌, ◌<◌, ◌≤◌, Bool, true, false, not, ◌&&◌, ◌||◌, cond, List, [], ◌∷◌, ◌++◌, length, take, drop, map, filter, slice_get, Option, Some, None, unwrap_or, IsTrue, IsFalse, inl, inr, refl, sym, ap, ap₂, subst, ◌∙◌, arith, eqb, length-append}
use Rattle.std.specs.List.{list_any}
use Rattle.std.proofs.Math.Bool.{or-false}
use Rattle.std.proofs.lemmas.Bool.{cases_Bool, cond-true, cond-false, cond_both, or_left, or_right, or_from, or_cases, eqb-true, eqb-false, eq-eqb, ne_eqb}
use Rattle.std.proofs.lemmas.List.{append-nil, append_assoc, drop_more, take-append-drop}
use Rattle.std.proofs.lemmas.List.Elements.{filter-append, filter_agree}
use Rattle.rule_model.specs.declared.Rule.{Rule}
use Rattle.rule_model.specs.RuleSet.{has_priority}
use Rattle.rule_store.specs.declared.Command.{Command}
use Rattle.rule_store.specs.declared.Command.TheVariants.{Add, Set, Del}
use Rattle.rule_store.specs.Applied.{remaining_rules}
use Rattle.rule_store.specs.Batch.{named_priority, is_removal, commands_naming, removes, batch_fault_after, IsSound, additions, new_result, result_after, with_result_after}
use Rattle.rule_store.specs.Store.{answered, with_answer, without_rule}
use Rattle.rule_store.proofs.Sound.{IsTaken, taken, sound-parts, removes-append, additions-append}
use Rattle.rule_store.proofs.Sums.{slice_get-within, slice_get-read, take-read, additions-add}

-- from each place on no command fails
sound-from : (rules : List Rule) (earlier later : List Command) (place : ℕ) → batch_fault_after rules earlier later ≡ None → batch_fault_after rules (earlier ++ take place later) (drop place later) ≡ None
sound-from rules earlier later zero none = subst (λ (commands : List Command). batch_fault_after rules commands later ≡ None) (sym (append-nil earlier)) none
sound-from rules earlier [] (suc place) none = refl
sound-from rules earlier (command ∷ later) (suc place) none =
    subst (λ (commands : List Command). batch_fault_after rules commands (drop place later) ≡ None) (append_assoc earlier (command ∷ []) (take place later))
    (sound-from rules (earlier ++ command ∷ []) later place (sound-parts rules earlier command later none).1)

module _ (rules : List Rule) (batch : List Command) (sound : IsSound rules batch) (place : ℕ) (command : Command) (read : slice_get batch place ≡ Some command) where
  parts-at : batch_fault_after rules (take place batch) (command ∷ drop (place + 1) batch) ≡ None
  parts-at =
      subst (λ (commands : List Command). batch_fault_after rules (take place batch) commands ≡ None)
      (drop_more batch place command (slice_get-within batch place command read) ∙ ap (λ (first : Command). first ∷ drop (place + 1) batch) (slice_get-read batch place command read))
      (sound-from rules [] batch place sound)

  -- what the command at a place meets
  pub taken-at : IsTaken rules (take place batch) command
  taken-at = taken rules (take place batch) command (sound-parts rules (take place batch) command (drop (place + 1) batch) parts-at).0

  pub later-at : batch_fault_after rules (take place batch ++ command ∷ []) (drop (place + 1) batch) ≡ None
  later-at = (sound-parts rules (take place batch) command (drop (place + 1) batch) parts-at).1

  pub whole-at : batch ≡ (take place batch ++ command ∷ []) ++ drop (place + 1) batch
  whole-at = sym (take-append-drop (place + 1) batch) ∙ ap (λ (front : List Command). front ++ drop (place + 1) batch) (take-read batch place command read)

eqb-turned : (a b : ℕ) → eqb a b ≡ eqb b a
eqb-turned a b =
    elim (cases_Bool (eqb b a)) [
      | inl same ↦ eq-eqb a b (sym (eqb-true b a same)) ∙ sym same
      | inr differ ↦ ne_eqb a b (λ same. eqb-false b a differ (sym same)) ∙ sym differ
    ]

-- what one command removes
removes-del : (priority removed : ℕ) → removes priority (Del removed ∷ []) ≡ eqb priority removed
removes-del priority removed = at (eqb removed priority) ∙ eqb-turned removed priority
  where
    at : (t : Bool) → list_any is_removal (cond t (Del removed ∷ []) []) ≡ t
    at true = refl
    at false = refl

removes-add : (priority : ℕ) (rule : Rule) → removes priority (Add rule ∷ []) ≡ false
removes-add priority rule = at (eqb rule.priority priority)
  where
    at : (t : Bool) → list_any is_removal (cond t (Add rule ∷ []) []) ≡ false
    at true = refl
    at false = refl

removes-set : (priority changed answer : ℕ) → removes priority (Set changed answer ∷ []) ≡ false
removes-set priority changed answer = at (eqb changed priority)
  where
    at : (t : Bool) → list_any is_removal (cond t (Set changed answer ∷ []) []) ≡ false
    at true = refl
    at false = refl

-- a filter over a filter
pub filter-filter : {X : Type 0} (first second both : X → Bool) → ((x : X) → both x ≡ (first x && second x)) → (xs : List X) → filter second (filter first xs) ≡ filter both xs
filter-filter first second both is [] = refl
filter-filter {X} first second both is (x ∷ xs) =
    cond_both (first x) (x ∷ filter first xs) (filter first xs) (λ left. filter second left ≡ filter both (x ∷ xs))
    (λ yes.
    let same : both x ≡ second x = is x ∙ ap (λ (t : Bool). t && second x) yes in
    ap₂ (λ (t : Bool) (rest : List X). cond t (x ∷ rest) rest) (sym same) (filter-filter first second both is xs))
    (λ no.
    let none : both x ≡ false = is x ∙ ap (λ (t : Bool). t && second x) no in
    filter-filter first second both is xs ∙ sym (cond-false _ _ _ none))

-- a removal more
pub remaining-del : (rules : List Rule) (earlier : List Command) (priority : ℕ) → without_rule (remaining_rules rules earlier) priority ≡ remaining_rules rules (earlier ++ Del priority ∷ [])
remaining-del rules earlier priority =
    filter-filter (λ rule. not (removes rule.priority earlier)) (λ rule. not (eqb rule.priority priority)) (λ rule. not (removes rule.priority (earlier ++ Del priority ∷ []))) is rules
  where
    neither : (a b : Bool) → not (a || b) ≡ (not a && not b)
    neither true b = refl
    neither false b = refl

    is : (rule : Rule) → not (removes rule.priority (earlier ++ Del priority ∷ [])) ≡ (not (removes rule.priority earlier) && not (eqb rule.priority priority))
    is rule =
        ap not (removes-append rule.priority earlier (Del priority ∷ []) ∙ ap (λ (t : Bool). removes rule.priority earlier || t) (removes-del rule.priority priority))
        ∙ neither (removes rule.priority earlier) (eqb rule.priority priority)

remaining-agree : (rules : List Rule) (earlier : List Command) (command : Command) → ((priority : ℕ) → removes priority (command ∷ []) ≡ false) → remaining_rules rules (earlier ++ command ∷ []) ≡ remaining_rules rules earlier
remaining-agree rules earlier command none =
    filter_agree (λ rule. not (removes rule.priority (earlier ++ command ∷ []))) (λ rule. not (removes rule.priority earlier))
    (λ rule. ap not (removes-append rule.priority earlier (command ∷ []) ∙ ap (λ (t : Bool). removes rule.priority earlier || t) (none rule.priority) ∙ or-false (removes rule.priority earlier))) rules

-- a command more that removes nothing
pub remaining-other : (rules : List Rule) (earlier : List Command) (command : Command) → ((priority : ℕ) → command ≡ Del priority → ⊥) → remaining_rules rules (earlier ++ command ∷ []) ≡ remaining_rules rules earlier
remaining-other rules earlier (Add rule) not-del = remaining-agree rules earlier (Add rule) (λ priority. removes-add priority rule)
remaining-other rules earlier (Set changed answer) not-del = remaining-agree rules earlier (Set changed answer) (λ priority. removes-set priority changed answer)
remaining-other rules earlier (Del removed) not-del = absurd (not-del removed refl)

-- a priority that isn't removed stays
pub remaining-has : (rules : List Rule) (batch : List Command) (priority : ℕ) → IsTrue (has_priority rules priority) → IsFalse (removes priority batch) → IsTrue (has_priority (remaining_rules rules batch) priority)
remaining-has [] batch priority has stays = absurd (cc)
remaining-has (rule ∷ rules) batch priority has stays =
    cond_both (not (removes rule.priority batch)) (rule ∷ remaining_rules rules batch) (remaining_rules rules batch) (λ left. IsTrue (has_priority left priority))
    (λ kept. elim (or_cases (eqb rule.priority priority) (has_priority rules priority) has) [
      | inl here ↦ or_left (eqb rule.priority priority) _ here
      | inr later ↦ or_right (eqb rule.priority priority) _ (remaining-has rules batch priority later stays)
    ])
    (λ gone. elim (or_cases (eqb rule.priority priority) (has_priority rules priority) has) [
      | inl here ↦
          let same = eqb-true rule.priority priority here in
          let wrong : not (removes rule.priority batch) ≡ true = rw same (ap not stays) in
          absurd (cc)
      | inr later ↦ remaining-has rules batch priority later stays
    ])

-- results, one command more
result_after-append : (earlier : List Command) (command : Command) (priority old : ℕ) → result_after (earlier ++ command ∷ []) priority old ≡ result_after earlier priority (unwrap_or (new_result priority command) old)
result_after-append [] command priority old = refl
result_after-append (first ∷ earlier) command priority old = ap (λ n. unwrap_or (new_result priority first) n) (result_after-append earlier command priority old)

rest-unnamed : (test : Bool) (command : Command) (rest : List Command) → cond test (command ∷ rest) rest ≡ [] → (test ≡ false) × (rest ≡ [])
rest-unnamed true command rest unnamed = absurd (cc)
rest-unnamed false command rest unnamed = (refl, unnamed)

result_after-unnamed : (earlier : List Command) (priority old : ℕ) → commands_naming priority earlier ≡ [] → result_after earlier priority old ≡ old
result_after-unnamed [] priority old unnamed = refl
result_after-unnamed (Add rule ∷ earlier) priority old unnamed =
    result_after-unnamed earlier priority old (rest-unnamed (eqb rule.priority priority) (Add rule) (commands_naming priority earlier) unnamed).1
result_after-unnamed (Set changed answer ∷ earlier) priority old unnamed =
    let parts = rest-unnamed (eqb changed priority) (Set changed answer) (commands_naming priority earlier) unnamed in
    ap (λ (t : Bool). unwrap_or (cond t (Some answer) None) (result_after earlier priority old)) parts.0 ∙ result_after-unnamed earlier priority old parts.1
result_after-unnamed (Del removed ∷ earlier) priority old unnamed =
    result_after-unnamed earlier priority old (rest-unnamed (eqb removed priority) (Del removed) (commands_naming priority earlier) unnamed).1

-- a change of a result more
pub changed-set : (rules : List Rule) (earlier : List Command) (priority answer : ℕ) → commands_naming priority earlier ≡ [] → with_answer (map (with_result_after earlier) rules) priority answer ≡ map (with_result_after (earlier ++ Set priority answer ∷ [])) rules
changed-set [] earlier priority answer unnamed = refl
changed-set (rule ∷ rules) earlier priority answer unnamed =
    ap₂ (λ (first : Rule) (rest : List Rule). first ∷ rest) point (changed-set rules earlier priority answer unnamed)
  where
    after : (t : Bool) → eqb priority rule.priority ≡ t → result_after (earlier ++ Set priority answer ∷ []) rule.priority rule.result ≡ result_after earlier rule.priority (unwrap_or (cond t (Some answer) None) rule.result)
    after t is = result_after-append earlier (Set priority answer) rule.priority rule.result ∙ ap (λ (b : Bool). result_after earlier rule.priority (unwrap_or (cond b (Some answer) None) rule.result)) is

    point : answered priority answer (with_result_after earlier rule) ≡ with_result_after (earlier ++ Set priority answer ∷ []) rule
    point =
        elim (cases_Bool (eqb rule.priority priority)) [
          | inl same ↦
              let is = eqb-true rule.priority priority same in
              cond-true _ _ _ same
              ∙ ap (λ (n : ℕ). record rule { result = n }) (sym (after true (eq-eqb priority rule.priority (sym is)) ∙ result_after-unnamed earlier rule.priority answer (rw is unnamed)))
          | inr differ ↦
              cond-false _ _ _ differ
              ∙ ap (λ (n : ℕ). record rule { result = n }) (sym (after false (eqb-turned priority rule.priority ∙ differ)))
        ]

new_result-none : (command : Command) (priority : ℕ) → ((changed answer : ℕ) → command ≡ Set changed answer → ⊥) → new_result priority command ≡ None
new_result-none (Add rule) priority not-set = refl
new_result-none (Set changed answer) priority not-set = absurd (not-set changed answer refl)
new_result-none (Del removed) priority not-set = refl

-- a command more that changes no result
pub changed-other : (rules : List Rule) (earlier : List Command) (command : Command) → ((priority answer : ℕ) → command ≡ Set priority answer → ⊥) → map (with_result_after (earlier ++ command ∷ [])) rules ≡ map (with_result_after earlier) rules
changed-other [] earlier command not-set = refl
changed-other (rule ∷ rules) earlier command not-set =
    ap₂ (λ (first : Rule) (rest : List Rule). first ∷ rest)
    (ap (λ (n : ℕ). record rule { result = n }) (result_after-append earlier command rule.priority rule.result ∙ ap (λ (new : Option ℕ). result_after earlier rule.priority (unwrap_or new rule.result)) (new_result-none command rule.priority not-set)))
    (changed-other rules earlier command not-set)

-- behind a command that names a priority no other one removes it
unremoved-later : (rules : List Rule) (earlier later : List Command) (priority : ℕ) (first : Command) (rest : List Command) → commands_naming priority earlier ≡ first ∷ rest → batch_fault_after rules earlier later ≡ None → IsFalse (removes priority later)
unremoved-later rules earlier [] priority first rest named none = refl
unremoved-later rules earlier (command ∷ later) priority first rest named none =
    let parts = sound-parts rules earlier command later none in
    let more : commands_naming priority (earlier ++ command ∷ []) ≡ first ∷ (rest ++ commands_naming priority (command ∷ [])) =
    filter-append (λ (c : Command). eqb (named_priority c) priority) earlier (command ∷ []) ∙ ap (λ (commands : List Command). commands ++ commands_naming priority (command ∷ [])) named in
    removes-append priority (command ∷ []) later
    ∙ or_from _ _ (unremoved command (taken rules earlier command parts.0))
    (unremoved-later rules (earlier ++ command ∷ []) later priority first (rest ++ commands_naming priority (command ∷ [])) more parts.1)
  where
    unremoved : (one : Command) → IsTaken rules earlier one → removes priority (one ∷ []) ≡ false
    unremoved (Add rule) is = removes-add priority rule
    unremoved (Set changed answer) is = removes-set priority changed answer
    unremoved (Del removed) is =
        removes-del priority removed
        ∙ ne_eqb priority removed (λ same. let unnamed : commands_naming priority earlier ≡ [] = rw same is.1 in let wrong : first ∷ rest ≡ [] = sym named ∙ unnamed in cc)

-- a priority whose result a sound batch changes isn't removed
pub changed-stays : (rules : List Rule) (batch : List Command) → IsSound rules batch → (place priority answer : ℕ) → slice_get batch place ≡ Some (Set priority answer) → IsFalse (removes priority batch)
changed-stays rules batch sound place priority answer read =
    let one = Set priority answer in
    let front = take place batch in
    let meets = taken-at rules batch sound place one read in
    let named : commands_naming priority (front ++ one ∷ []) ≡ one ∷ [] =
    filter-append (λ (c : Command). eqb (named_priority c) priority) front (one ∷ [])
    ∙ ap₂ (λ (commands : List Command) (t : Bool). commands ++ cond t (one ∷ []) []) meets.1 (eq-eqb priority priority refl) in
    ap (removes priority) (whole-at rules batch sound place one read)
    ∙ removes-append priority (front ++ one ∷ []) (drop (place + 1) batch)
    ∙ or_from _ _ (removes-append priority front (one ∷ []) ∙ or_from _ _ (ap (list_any is_removal) meets.1) (removes-set priority priority answer))
    (unremoved-later rules (front ++ one ∷ []) (drop (place + 1) batch) priority one [] named (later-at rules batch sound place one read))

pub has_priority-map : (f : Rule → Rule) → ((rule : Rule) → (f rule).priority ≡ rule.priority) → (rules : List Rule) (priority : ℕ) → has_priority (map f rules) priority ≡ has_priority rules priority
has_priority-map f same [] priority = refl
has_priority-map f same (rule ∷ rules) priority = ap₂ (λ (n : ℕ) (t : Bool). eqb n priority || t) (same rule) (has_priority-map f same rules priority)

more-than : (all front back before : ℕ) → all ≡ front + back → front ≡ before + 1 → before < all
more-than all front back before a b = omega arith

-- an addition to come has its room
pub additions-more : (batch : List Command) (place : ℕ) (rule : Rule) → slice_get batch place ≡ Some (Add rule) → length (additions (take place batch)) < length (additions batch)
additions-more batch place rule read =
    let whole : additions batch ≡ additions (take (place + 1) batch) ++ additions (drop (place + 1) batch) =
    ap additions (sym (take-append-drop (place + 1) batch)) ∙ additions-append (take (place + 1) batch) (drop (place + 1) batch) in
    let count = ap (length {A = Rule}) whole ∙ length-append (additions (take (place + 1) batch)) (additions (drop (place + 1) batch)) in
    let front = ap (length {A = Rule}) (additions-add batch place rule read) ∙ length-append (additions (take place batch)) (rule ∷ []) in
    more-than _ _ _ _ count front

-- no command removes nothing
pub remaining-none : (rules : List Rule) → remaining_rules rules [] ≡ rules
remaining-none [] = refl
remaining-none (rule ∷ rules) = ap (λ (rest : List Rule). rule ∷ rest) (remaining-none rules)

-- and changes no result
pub changed-none : (rules : List Rule) → map (with_result_after []) rules ≡ rules
changed-none [] = refl
changed-none (rule ∷ rules) = ap (λ (rest : List Rule). rule ∷ rest) (changed-none rules)

-- no more additions than commands
pub additions-most : (batch : List Command) → length (additions batch) ≤ length batch
additions-most [] = omega arith
additions-most (Add rule ∷ batch) = let rest = additions-most batch in omega arith
additions-most (Set priority answer ∷ batch) = let rest = additions-most batch in omega arith
additions-most (Del priority ∷ batch) = let rest = additions-most batch in omega arith
