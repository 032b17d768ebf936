-- The end of a commit, judged by the rules whose priority a command names.
use Rattle.std.proofs.Common.{◌≡◌, ℕ, ◌+◌, ◌<◌, ◌≤◌, Bool, true, false, IsTrue, List, [], ◌∷◌, Some, Contains, length, inl, inr, ◌⊎◌, sym, ◌∙◌, subst, ap, arith}
use Rattle.std.specs.Prelude.{◌&&◌, nat_eq, slice_get}
use Rattle.std.specs.List.{list_any}
use Rattle.std.proofs.lemmas.Bool.{and_from, and_parts, both_ways, cases_Bool, cases_eq, eq-eqb, eqb-true, or_left, or_right}
use Rattle.std.proofs.lemmas.Option.{slice_get-get_or}
use Rattle.slot_order.specs.Order.{Distinct}
use Rattle.rule_model.specs.declared.Key.{Key}
use Rattle.rule_model.specs.Key.{IsKey}
use Rattle.slot_order.proofs.Lists.{any_is, any_from, contains_cases, contains_none, filter_nothing}
use Rattle.rule_model.specs.declared.Rule.{Rule}
use Rattle.rule_model.specs.Rule.{rule_matches}
use Rattle.rule_model.specs.RuleSet.{answer}
use Rattle.rule_store.specs.declared.Command.{Command}
use Rattle.rule_store.specs.declared.Command.TheVariants.{Add, Set, Del}
use Rattle.rule_store.specs.Batch.{additions, commands_naming, is_removal, named_priority, result_after, set_after, with_result_after}
use Rattle.rule_store.proofs.AfterAt.{result_at}
use Rattle.rule_store.proofs.Members.{set_after-member}
use Rattle.rule_store.proofs.Sums.{slice_get-within}
use Rattle.tcam_device.specs.State.{lookup}
use Rattle.any_order.proofs.Writes.{others_keep}
use Rattle.driver_trace.specs.declared.Compared.{Compared}
use Rattle.driver_trace.specs.declared.Asked.{Asked}
use Rattle.driver_trace.specs.declared.Asked.TheVariants.{New, Old}
use Rattle.driver_trace.specs.Judged.{IsWrong}
use Rattle.driver_trace.specs.Compared.{ShowsBy, ShowsOldOrNewBy, as_compared}
use Rattle.write_judge.specs.Judging.{StateBetween}
use Rattle.write_judge.proofs.Events.{right_new}
use Rattle.line_judge.specs.Tracked.{AreRightAt, IsRightWhereMatched}

module _ (by : Compared) (asked : Asked) (now : StateBetween) (batch : List Command) where
  -- one command more
  pub commands_more : (i : ℕ) (one : Command) → slice_get batch i ≡ Some one → (priority : ℕ) → priority ≡ named_priority one → AreRightAt by asked now priority
      → ((j : ℕ) (command : Command) → j < i → slice_get batch j ≡ Some command → AreRightAt by asked now (named_priority command))
      → (j : ℕ) (command : Command) → j < i + 1 → slice_get batch j ≡ Some command → AreRightAt by asked now (named_priority command)
  commands_more i one read priority named right before j command below is = elim (cases_eq j i) [
    | inl same ↦
        let here : slice_get batch i ≡ Some command = subst (λ n. slice_get batch n ≡ Some command) same is in
        let first : one ≡ command = cc in
        subst (λ (c : Command). AreRightAt by asked now (named_priority c)) first (subst (AreRightAt by asked now) named right)
    | inr other ↦ before j command (omega arith) is
  ]

  pub commands_all : (n : ℕ) → length batch ≤ n → ((j : ℕ) (command : Command) → j < n → slice_get batch j ≡ Some command → AreRightAt by asked now (named_priority command))
      → (j : ℕ) (command : Command) → slice_get batch j ≡ Some command → AreRightAt by asked now (named_priority command)
  commands_all n past all j command is = all j command (let within = slice_get-within batch j command is in omega arith) is

-- whether a command of the batch names the rule's priority
abbrev pub named : List Command → Rule → Bool
named batch rule = list_any (λ command. nat_eq (named_priority command) rule.priority) batch

none_named : (batch : List Command) (rule : Rule) → named batch rule ≡ false → commands_naming rule.priority batch ≡ []
none_named batch rule none = filter_nothing (λ (command : Command). nat_eq (named_priority command) rule.priority) batch (λ command member. elim (cases_Bool (nat_eq (named_priority command) rule.priority)) [
  | inl names ↦ absurd (both_ways (named batch rule) none (any_from (λ (command : Command). nat_eq (named_priority command) rule.priority) batch command member names))
  | inr other ↦ other
])

-- a rule that no command names stays,
stays_same : (batch : List Command) (rule : Rule) → named batch rule ≡ false → with_result_after batch rule ≡ rule
stays_same batch rule none =
    ap (λ n. let r : Rule = record rule { result = n } in r)
    (result_at batch rule.priority rule.result ∙ ap (λ (commands : List Command). result_after commands rule.priority rule.result) (none_named batch rule none))

stays_in : (rules : List Rule) (batch : List Command) (rule : Rule) → named batch rule ≡ false → Contains rules rule → Contains (set_after rules batch) rule
stays_in rules batch rule none member =
    (set_after-member rules batch rule).1 (inr (rule, member, ap (list_any is_removal) (none_named batch rule none), sym (stays_same batch rule none)))

added_named : (batch : List Command) (rule : Rule) → Contains (additions batch) rule → named batch rule ≡ true
added_named [] rule member = absurd (contains_none rule member)
added_named (Add one ∷ batch) rule member = elim (contains_cases one rule (additions batch) member) [
  | inl same ↦ or_left (nat_eq one.priority rule.priority) (named batch rule) (eq-eqb one.priority rule.priority (ap (λ (r : Rule). r.priority) same))
  | inr later ↦ or_right (nat_eq one.priority rule.priority) (named batch rule) (added_named batch rule later)
]
added_named (Set priority answer ∷ batch) rule member = or_right (nat_eq priority rule.priority) (named batch rule) (added_named batch rule member)
added_named (Del priority ∷ batch) rule member = or_right (nat_eq priority rule.priority) (named batch rule) (added_named batch rule member)

-- and one that comes is named
was_in : (rules : List Rule) (batch : List Command) (rule : Rule) → named batch rule ≡ false → Contains (set_after rules batch) rule → Contains rules rule
was_in rules batch rule none member = elim ((set_after-member rules batch rule).0 member) [
  | inl added ↦ absurd (both_ways (named batch rule) none (added_named batch rule added))
  | inr kept ↦
      let level : rule.priority ≡ kept.0.priority = ap (λ (r : Rule). r.priority) kept.3 in
      let unnamed : named batch kept.0 ≡ false = subst (λ n. list_any (λ command. nat_eq (named_priority command) n) batch ≡ false) level none in
      subst (Contains rules) (sym (kept.3 ∙ stays_same batch kept.0 unnamed)) kept.1
]

module _ (by : Compared) (now : StateBetween) (batch : List Command) (new_is : now.new ≡ set_after now.old batch) (distinct_old : Distinct (λ (rule : Rule). rule.priority) now.old)
    (distinct_new : Distinct (λ (rule : Rule). rule.priority) now.new) (before : ShowsOldOrNewBy by now.state now.old now.new) where
  abbrev tested : Key → Rule → Bool
  tested key rule = named batch rule && rule_matches rule key

  unnamed_if : (key : Key) (rules : List Rule) (rule : Rule) → list_any (tested key) rules ≡ false → Contains rules rule → IsTrue (rule_matches rule key) → named batch rule ≡ false
  unnamed_if key rules rule none member matches = elim (cases_Bool (named batch rule)) [
    | inl names ↦ absurd (both_ways (list_any (tested key) rules) none (any_from (tested key) rules rule member (and_from (named batch rule) (rule_matches rule key) names matches)))
    | inr other ↦ other
  ]

  same_answer : (key : Key) → list_any (tested key) now.old ≡ false → list_any (tested key) now.new ≡ false → answer now.old key ≡ answer now.new key
  same_answer key none_old none_new =
      others_keep now.old now.new key distinct_old distinct_new
      (λ rule member matches. subst (λ (set : List Rule). Contains set rule) (sym new_is) (stays_in now.old batch rule (unnamed_if key now.old rule none_old member matches) member))
      (λ rule member matches. was_in now.old batch rule (unnamed_if key now.new rule none_new member matches) (subst (λ (set : List Rule). Contains set rule) new_is member))

  -- the rules that a command names are right, by what is asked
  abbrev pub AreNamedRight : Asked → Type 0
  AreNamedRight asked = (rule : Rule) → Contains now.old rule ⊎ Contains now.new rule → named batch rule ≡ true → IsRightWhereMatched by asked now rule

  abbrev Judges : Asked → Key → Type 0
  Judges asked key = (IsWrong by (lookup now.state key) (answer now.old key) (answer now.new key) asked → ⊥) ⊎ (answer now.old key ≡ answer now.new key)

  judged : (asked : Asked) → AreNamedRight asked → (key : Key) → IsKey key → Judges asked key
  judged asked right key valid = elim (cases_Bool (list_any (tested key) now.old)) [
    | inl some ↦
        let found = any_is (tested key) now.old some in
        let both = and_parts (named batch found.0) (rule_matches found.0 key) found.2 in
        inl (right found.0 (inl found.1) both.0 key valid both.1)
    | inr none_old ↦ elim (cases_Bool (list_any (tested key) now.new)) [
      | inl some ↦
          let found = any_is (tested key) now.new some in
          let both = and_parts (named batch found.0) (rule_matches found.0 key) found.2 in
          inl (right found.0 (inr found.1) both.0 key valid both.1)
      | inr none_new ↦ inr (same_answer key none_old none_new)
    ]
  ]

  -- at the end each key has the new answer,
  pub ends_new : AreNamedRight New → ShowsBy by now.state now.new
  ends_new right key valid = elim (judged New right key valid) [
    | inl fine ↦ right_new by (lookup now.state key) (answer now.old key) (answer now.new key) fine
    | inr same ↦ elim (before key valid) [ inl is ↦ is ∙ ap (as_compared by) same | inr is ↦ is ]
  ]

  -- or, where it was taken back, the old one
  pub ends_old : AreNamedRight Old → ShowsBy by now.state now.old
  ends_old right key valid = elim (judged Old right key valid) [
    | inl fine ↦ right_new by (lookup now.state key) (answer now.new key) (answer now.old key) fine
    | inr same ↦ elim (before key valid) [ inl is ↦ is | inr is ↦ is ∙ ap (as_compared by) (sym same) ]
  ]

-- what the loop over the commands leaves
pub named_right : (by : Compared) (asked : Asked) (now : StateBetween) (batch : List Command)
    → ((i : ℕ) (command : Command) → slice_get batch i ≡ Some command → AreRightAt by asked now (named_priority command))
    → (rule : Rule) → Contains now.old rule ⊎ Contains now.new rule → named batch rule ≡ true → IsRightWhereMatched by asked now rule
named_right by asked now batch all rule member is =
    let found = any_is (λ (command : Command). nat_eq (named_priority command) rule.priority) batch is in
    let at = found.1 in
    all at.0 found.0 (slice_get-get_or batch at.0 found.0 at.1 ∙ ap (λ (c : Command). Some c) at.2) rule member (sym (eqb-true (named_priority found.0) rule.priority found.2))
