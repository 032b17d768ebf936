-- What judgements of cubes come to, for entries, blocks, rules and commands.
use Rattle.std.proofs.Common.{◌≡◌, ℕ, ◌<◌, ◌^◌, IsTrue, Option, Some, None, Result, Ok, Err, List, Contains, inl, inr, sym, ◌∙◌, subst}
use Rattle.std.specs.Prelude.{OnOk, slice_index}
use Rattle.slot_order.specs.Order.{Distinct}
use Rattle.rule_model.specs.declared.Key.{Key}
use Rattle.rule_model.specs.declared.Rule.{Rule}
use Rattle.rule_model.specs.Key.{IsKey}
use Rattle.rule_model.specs.Rule.{rule_matches}
use Rattle.rule_model.specs.RuleSet.{rule_at}
use Rattle.rule_model.specs.declared.words.Word.{Word}
use Rattle.rule_model.specs.declared.words.Entry.{Entry}
use Rattle.rule_model.specs.Entry.{hits}
use Rattle.rule_model.specs.Word.{word_of}
use Rattle.rule_store.proofs.RulesAt.{rule_at-member}
use Rattle.tcam_device.specs.State.{search_word}
use Rattle.word_cubes.specs.declared.Cube.{Cube}
use Rattle.word_cubes.specs.Cube.{cube_holds}
use Rattle.driver_trace.specs.declared.Compared.{Compared}
use Rattle.driver_trace.specs.declared.Asked.{Asked}
use Rattle.driver_trace.specs.declared.Asked.TheVariants.{OldOrNew}
use Rattle.leak_search.specs.Found.{AreWords}
use Rattle.write_judge.specs.Judging.{StateBetween}
use Rattle.line_judge.specs.declared.LineFault.{LineFault}
use Rattle.line_judge.specs.Tracked.{AreRightWhereHit, IsBlockOutcome, IsHeldOutcome, IsOutcome, IsPriorityOutcome, IsRightWhereHit, IsRightWhereMatched, IsRuleOutcome}

module _ (by : Compared) (now : StateBetween) where
  held_as : {U : Type 0} (entry : Entry) (cube : Cube) (answer : Result U LineFault) → ((word : Word) → cube_holds cube word ≡ hits entry word) → IsOutcome by OldOrNew now cube answer
      → IsHeldOutcome by now (Some entry) answer
  held_as entry cube (Ok done) same right = λ key valid within wrong. right key valid (same (search_word now.state key) ∙ within) wrong
  held_as entry cube (Err fault) same is = is

  -- the cube of an entry settles the keys that it hits
  pub held_from : {U : Type 0} (content : Option Entry) (entry : Entry) (cube : Cube) (answer : Result U LineFault) → content ≡ Some entry → ((word : Word) → cube_holds cube word ≡ hits entry word)
      → IsOutcome by OldOrNew now cube answer → IsHeldOutcome by now content answer
  held_from content entry cube answer is same right = subst (λ held. IsHeldOutcome by now held answer) (sym is) (held_as entry cube answer same right)

  -- two entries, one after the other
  pub first_held : {U : Type 0} (one other : Option Entry) (answer : Result U LineFault) → IsRightWhereHit by OldOrNew now one → IsHeldOutcome by now other answer → IsHeldOutcome by now one answer
  first_held one other (Ok done) right is = right
  first_held one other (Err fault) right is = is

  pub second_held : {U : Type 0} (other : Option Entry) (answer : Result U LineFault) → IsHeldOutcome by now other answer → OnOk answer (IsRightWhereHit by OldOrNew now other)
  second_held other (Ok done) is = is
  second_held other (Err fault) is = tt

  -- two blocks
  pub first_block : {U : Type 0} (one other : List (Option Entry)) (answer : Result U LineFault) → AreRightWhereHit by now one → IsBlockOutcome by now other answer → IsBlockOutcome by now one answer
  first_block one other (Ok done) right is = right
  first_block one other (Err fault) right is = is

  pub second_block : {U : Type 0} (other : List (Option Entry)) (answer : Result U LineFault) → IsBlockOutcome by now other answer → OnOk answer (AreRightWhereHit by now other)
  second_block other (Ok done) is = is
  second_block other (Err fault) is = tt

module _ (by : Compared) (asked : Asked) (now : StateBetween) where
  rule_as : {U : Type 0} (set : List Rule) (priority : ℕ) (rule : Rule) (cube : Cube) (answer : Result U LineFault) → Distinct (λ (r : Rule). r.priority) set → Some rule ≡ rule_at set priority
      → AreWords now.state.src → AreWords now.state.dst
      → ((key : Key) (src dst : ℕ) → IsKey key → src < 2 ^ 16 → dst < 2 ^ 16 → IsTrue (rule_matches rule key) → IsTrue (cube_holds cube (word_of key src dst)))
      → IsOutcome by asked now cube answer → IsRuleOutcome by asked now set priority answer
  rule_as set priority rule cube (Ok done) distinct is src dst holds right = λ other member at key valid matches wrong.
      let found : rule_at set priority ≡ Some other = subst (λ n. rule_at set n ≡ Some other) at (rule_at-member set other distinct member) in
      let same : other ≡ rule = cc in
      right key valid (holds key (slice_index now.state.src key.sport) (slice_index now.state.dst key.dport) valid (src key.sport) (dst key.dport) (subst (λ (r : Rule). IsTrue (rule_matches r key)) same matches)) wrong
  rule_as set priority rule cube (Err fault) distinct is src dst holds right = right

  -- the cube of a set's rule settles the keys that a rule of its priority matches,
  pub rule_from : {U : Type 0} (set : List Rule) (priority : ℕ) (rule : Rule) (cube : Cube) (answer : Result U LineFault) → Distinct (λ (r : Rule). r.priority) set → Some rule ≡ rule_at set priority
      → AreWords now.state.src → AreWords now.state.dst
      → ((key : Key) (src dst : ℕ) → IsKey key → src < 2 ^ 16 → dst < 2 ^ 16 → IsTrue (rule_matches rule key) → IsTrue (cube_holds cube (word_of key src dst)))
      → IsOutcome by asked now cube answer → IsRuleOutcome by asked now set priority answer
  rule_from set priority rule cube answer distinct is src dst holds right = rule_as set priority rule cube answer distinct is src dst holds right

  -- and where there is no such rule nothing is to be settled
  pub no_rule : (set : List Rule) (priority : ℕ) → Distinct (λ (r : Rule). r.priority) set → None ≡ rule_at set priority
      → (rule : Rule) → Contains set rule → rule.priority ≡ priority → IsRightWhereMatched by asked now rule
  no_rule set priority distinct none rule member at key valid matches wrong =
      let found : rule_at set priority ≡ Some rule = subst (λ n. rule_at set n ≡ Some rule) at (rule_at-member set rule distinct member) in
      absurd (cc)

  -- both sets
  pub both_sets : {U : Type 0} (priority : ℕ) (answer : Result U LineFault) → ((rule : Rule) → Contains now.old rule → rule.priority ≡ priority → IsRightWhereMatched by asked now rule)
      → IsRuleOutcome by asked now now.new priority answer → IsPriorityOutcome by asked now priority answer
  both_sets priority (Ok done) old new = λ rule member at. elim member [ inl in_old ↦ old rule in_old at | inr in_new ↦ new rule in_new at ]
  both_sets priority (Err fault) old new = new
