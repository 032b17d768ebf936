-- A write matters to no key but those that it touches, and a commit's end to none but those of changed rules.
use Rattle.std.proofs.Common.{◌≡◌, ℕ, zero, suc, ◌<◌, ◌≤◌, Bool, true, false, List, [], ◌∷◌, Option, None, Some, Contains, inl, inr, ◌⊎◌, option_map, slice_set, slice_index, refl, sym, ◌∙◌, subst, ap, ap₂, arith, get_or-set_other}
use Rattle.std.specs.Prelude.{if◌then◌else◌}
use Rattle.std.proofs.lemmas.Bool.{cases_Bool, cases_eq, cond-true, cond-false, false_from_ne_true}
use Rattle.slot_order.specs.Order.{slot, first_hit, IsBest, Distinct}
use Rattle.slot_order.proofs.Rules.{best_best}
use Rattle.rule_model.specs.declared.Key.{Key}
use Rattle.rule_model.specs.declared.Rule.{Rule}
use Rattle.rule_model.specs.declared.Field.TheVariants.{Src, Dst}
use Rattle.rule_model.specs.Rule.{rule_matches}
use Rattle.rule_model.specs.RuleSet.{Answer, answer, best_rule}
use Rattle.rule_model.specs.declared.words.Entry.{Entry}
use Rattle.rule_model.specs.Word.{word_of}
use Rattle.rule_model.specs.Entry.{hits}
use Rattle.tcam_device.specs.declared.Write.TheVariants.{Slot, Table}
use Rattle.tcam_device.specs.State.{State, apply, hits_key, lookup, told}
use Rattle.any_order.specs.Touched.{AlikeSlotsKeepLookUps, HitsIt, IsOldOrNewAt, OtherPortsKeepLookUps, key_port, AreAmong, OneWriteIsJudgedByItsKeys, OneTableWriteIsJudgedByItsPort, OtherKeysKeepTheirAnswer, TheEndIsJudgedByChangedRules}

-- a place hits, by a test
abbrev hits_in : {E : Type 0} → (E → Bool) → Option E → Bool
hits_in test None = false
hits_in test (Some entry) = test entry

-- behind a lesser slot that hits, and where neither what goes nor what comes hits, a write changes nothing
same_miss : {E K : Type 0} (test : E → K → Bool) (slots : List (Option E)) (at : ℕ) (content : Option E) (key : K)
    → hits_in (λ (e : E). test e key) (slot slots at) ≡ false → hits_in (λ (e : E). test e key) content ≡ false
    → first_hit test (slice_set slots at content) key ≡ first_hit test slots key
same_miss test [] at content key was is = refl
same_miss test (None ∷ slots) zero None key was is = refl
same_miss test (None ∷ slots) zero (Some e) key was is = cond-false _ _ _ is
same_miss test (Some g ∷ slots) zero None key was is = sym (cond-false _ _ _ was)
same_miss test (Some g ∷ slots) zero (Some e) key was is = cond-false _ _ _ is ∙ sym (cond-false _ _ _ was)
same_miss test (None ∷ slots) (suc at) content key was is = same_miss test slots at content key was is
same_miss {E} {K} test (Some g ∷ slots) (suc at) content key was is =
    ap (λ (rest : Option E). if test g key then Some g else rest) (same_miss test slots at content key was is)

same_behind : {E K : Type 0} (test : E → K → Bool) (slots : List (Option E)) (lesser at : ℕ) (content : Option E) (key : K) → lesser < at
    → hits_in (λ (e : E). test e key) (slot slots lesser) ≡ true → first_hit test (slice_set slots at content) key ≡ first_hit test slots key
same_behind test [] lesser at content key less hit = refl
same_behind test (held ∷ slots) lesser zero content key less hit = absurd (omega (arith, less))
same_behind test (None ∷ slots) zero (suc at) content key less hit = absurd (cc)
same_behind test (Some g ∷ slots) zero (suc at) content key less hit = cond-true _ _ _ hit ∙ sym (cond-true _ _ _ hit)
same_behind test (None ∷ slots) (suc lesser) (suc at) content key less hit = same_behind test slots lesser at content key (omega arith) hit
same_behind {E} {K} test (Some g ∷ slots) (suc lesser) (suc at) content key less hit =
    ap (λ (rest : Option E). if test g key then Some g else rest) (same_behind test slots lesser at content key (omega arith) hit)

-- a lesser slot hits, or none does
some_lesser : (test : Option Entry → Bool) (slots : List (Option Entry)) (at : ℕ)
    → ((lesser : ℕ) × (lesser < at) × (test (slot slots lesser) ≡ true)) ⊎ ((lesser : ℕ) → lesser < at → test (slot slots lesser) ≡ false)
some_lesser test slots zero = inr (λ lesser less. absurd (omega (arith, less)))
some_lesser test slots (suc at) = elim (some_lesser test slots at) [
  | inl found ↦ inl (found.0, (let l = found.1 in omega arith), found.2)
  | inr none ↦ elim (cases_Bool (test (slot slots at))) [
    | inl hit ↦ inl (at, omega arith, hit)
    | inr miss ↦ inr (λ lesser less. elim (cases_eq lesser at) [
      | inl same ↦ subst (λ n. test (slot slots n) ≡ false) (sym same) miss
      | inr other ↦ none lesser (omega arith)
    ])
  ]
]

hit_is : (state : State) (key : Key) (content : Option Entry) → hits_in (λ e. hits_key state e key) content ≡ true → HitsIt state key content
hit_is state key None hit = absurd (cc)
hit_is state key (Some e) hit = hit

hit_not : (state : State) (key : Key) (content : Option Entry) → hits_in (λ e. hits_key state e key) content ≡ false → HitsIt state key content → ⊥
hit_not state key None miss hit = hit
hit_not state key (Some e) miss hit = cc

pub judged_by_keys : OneWriteIsJudgedByItsKeys
judged_by_keys state old new at content before touched key valid = elim (some_lesser (hits_in (λ e. hits_key state e key)) state.slots at) [
  | inl found ↦ unchanged (ap told (same_behind (hits_key state) state.slots found.0 at content key found.1 found.2))
  | inr none ↦ elim (cases_Bool (hits_in (λ e. hits_key state e key) (slot state.slots at))) [
    | inl was ↦ touched key valid (record { hit = inl (hit_is state key (slot state.slots at) was); reached = λ lesser less. hit_not state key (slot state.slots lesser) (none lesser less) })
    | inr was ↦ elim (cases_Bool (hits_in (λ e. hits_key state e key) content)) [
      | inl is ↦ touched key valid (record { hit = inr (hit_is state key content is); reached = λ lesser less. hit_not state key (slot state.slots lesser) (none lesser less) })
      | inr is ↦ unchanged (ap told (same_miss (hits_key state) state.slots at content key was is))
    ]
  ]
]
  where
    unchanged : lookup (apply state (Slot at content)) key ≡ lookup state key → IsOldOrNewAt (apply state (Slot at content)) old new key
    unchanged same = subst (λ found. (found ≡ answer old key) ⊎ (found ≡ answer new key)) (sym same) (before key valid)

-- words of other ports stay
other_word : (table : List ℕ) (port word at : ℕ) → (at ≡ port → ⊥) → slice_index (slice_set table port word) at ≡ slice_index table at
other_word table port word at other = get_or-set_other table port at word 0 other

-- under equal words a key finds the same
same_words : (slots : List (Option Entry)) (key : Key) (a b c d : ℕ) → a ≡ b → c ≡ d
    → told (first_hit (λ entry asked. hits entry (word_of asked a c)) slots key) ≡ told (first_hit (λ entry asked. hits entry (word_of asked b d)) slots key)
same_words slots key a b c d same_src same_dst = ap₂ (λ x y. told (first_hit (λ entry asked. hits entry (word_of asked x y)) slots key)) same_src same_dst

-- what a look-up finds is found by the two words of its ports
by_words : (state : State) (slots : List (Option Entry)) (key : Key)
    → first_hit (hits_key state) slots key ≡ first_hit (λ entry asked. hits entry (word_of asked (slice_index state.src key.sport) (slice_index state.dst key.dport))) slots key
by_words state [] key = refl
by_words state (None ∷ slots) key = by_words state slots key
by_words state (Some e ∷ slots) key = ap (λ (rest : Option Entry). if hits_key state e key then Some e else rest) (by_words state slots key)

-- so the look-up of a key with another port stays
pub other_ports_keep : OtherPortsKeepLookUps
other_ports_keep state Src port word key other =
    ap told (by_words (apply state (Table Src port word)) state.slots key)
    ∙ same_words state.slots key _ _ _ _ (other_word state.src port word key.sport other) refl ∙ sym (ap told (by_words state state.slots key))
other_ports_keep state Dst port word key other =
    ap told (by_words (apply state (Table Dst port word)) state.slots key)
    ∙ same_words state.slots key _ _ _ _ refl (other_word state.dst port word key.dport other) ∙ sym (ap told (by_words state state.slots key))

pub judged_by_port : OneTableWriteIsJudgedByItsPort
judged_by_port state old new field port word before touched key valid = elim (cases_eq (key_port field key) port) [
  | inl same ↦ touched key valid same
  | inr other ↦ subst (λ found. (found ≡ answer old key) ⊎ (found ≡ answer new key)) (sym (other_ports_keep state field port word key other)) (before key valid)
]

-- what a slot and the slots behind it find
abbrev or_rest : {E K : Type 0} → (E → K → Bool) → K → Option E → Option E → Option E
or_rest test key None rest = rest
or_rest test key (Some entry) rest = if test entry key then Some entry else rest

first_of : {E K : Type 0} (test : E → K → Bool) (key : K) (held : Option E) (slots : List (Option E)) → first_hit test (held ∷ slots) key ≡ or_rest test key held (first_hit test slots key)
first_of test key None slots = refl
first_of test key (Some entry) slots = refl

passed_over : {E K : Type 0} (test : E → K → Bool) (key : K) (held rest : Option E) → hits_in (λ (e : E). test e key) held ≡ false → or_rest test key held rest ≡ rest
passed_over test key None rest miss = refl
passed_over test key (Some entry) rest miss = cond-false _ _ _ miss

-- the same slot, or one that misses on both sides
abbrev AreAlikeAt : {E K : Type 0} → (E → K → Bool) → K → Option E → Option E → Type 0
AreAlikeAt {E} test key was is = (is ≡ was) ⊎ ((hits_in (λ (e : E). test e key) was ≡ false) × (hits_in (λ (e : E). test e key) is ≡ false))

vacant : {E K : Type 0} (test : E → K → Bool) (key : K) (held : Option E) → AreAlikeAt test key None held → hits_in (λ (e : E). test e key) held ≡ false
vacant {E} test key held (inl same) = ap (hits_in (λ (e : E). test e key)) same
vacant test key held (inr misses) = misses.1

left_vacant : {E K : Type 0} (test : E → K → Bool) (key : K) (held : Option E) → AreAlikeAt test key held None → hits_in (λ (e : E). test e key) held ≡ false
left_vacant {E} test key held (inl same) = ap (hits_in (λ (e : E). test e key)) (sym same)
left_vacant test key held (inr misses) = misses.0

same_first : {E K : Type 0} (test : E → K → Bool) (key : K) (was is rest : Option E) → AreAlikeAt test key was is → or_rest test key is rest ≡ or_rest test key was rest
same_first test key was is rest (inl same) = ap (λ held. or_rest test key held rest) same
same_first test key was is rest (inr misses) = passed_over test key is rest misses.1 ∙ sym (passed_over test key was rest misses.0)

alike_slots : {E K : Type 0} (test : E → K → Bool) (key : K) (before after : List (Option E)) → ((at : ℕ) → AreAlikeAt test key (slot before at) (slot after at))
    → first_hit test after key ≡ first_hit test before key
alike_slots test key [] [] each = refl
alike_slots test key [] (held ∷ after) each =
    first_of test key held after ∙ passed_over test key held _ (vacant test key held (each zero)) ∙ alike_slots test key [] after (λ at. each (suc at))
alike_slots test key (held ∷ before) [] each =
    alike_slots test key before [] (λ at. each (suc at)) ∙ sym (first_of test key held before ∙ passed_over test key held _ (left_vacant test key held (each zero)))
alike_slots test key (was ∷ before) (is ∷ after) each =
    first_of test key is after ∙ ap (or_rest test key is) (alike_slots test key before after (λ at. each (suc at)))
    ∙ same_first test key was is _ (each zero) ∙ sym (first_of test key was before)

missed : (state : State) (key : Key) (content : Option Entry) → (HitsIt state key content → ⊥) → hits_in (λ e. hits_key state e key) content ≡ false
missed state key None miss = refl
missed state key (Some entry) miss = false_from_ne_true _ miss

pub alike_slots_keep : AlikeSlotsKeepLookUps
alike_slots_keep state slots key each =
    ap told (alike_slots (hits_key state) key state.slots slots (λ at. elim (each at) [
      | inl same ↦ inl same
      | inr misses ↦ inr (missed state key (slot state.slots at) misses.0, missed state key (slot slots at) misses.1)
    ]))

-- the answer of a rule that was found
abbrev answer_of : Option Rule → Answer
answer_of found = option_map (λ rule. (rule.priority, rule.result)) found

-- the best of two sets that have the same rules for a key
same_best : (old new : List Rule) (key : Key) (a b : Option Rule) → Distinct (λ (rule : Rule). rule.priority) old → AreAmong key old new → AreAmong key new old
    → IsBest rule_matches (λ (rule : Rule). rule.priority) (Contains old) key a → IsBest rule_matches (λ (rule : Rule). rule.priority) (Contains new) key b
    → answer_of a ≡ answer_of b
same_best old new key None None distinct there back is_a is_b = refl
same_best old new key None (Some b) distinct there back is_a is_b = absurd (is_a b (back b is_b.0 is_b.1) is_b.1)
same_best old new key (Some a) None distinct there back is_a is_b = absurd (is_b a (there a is_a.0 is_a.1) is_a.1)
same_best old new key (Some a) (Some b) distinct there back is_a is_b =
    let up : b.priority ≤ a.priority = is_a.2 b (back b is_b.0 is_b.1) is_b.1 in
    let down : a.priority ≤ b.priority = is_b.2 a (there a is_a.0 is_a.1) is_a.1 in
    ap (λ (r : Rule). answer_of (Some r)) (distinct a b is_a.0 (back b is_b.0 is_b.1) (omega arith))

pub others_keep : OtherKeysKeepTheirAnswer
others_keep old new key distinct_old distinct_new there back =
    same_best old new key (best_rule old key) (best_rule new key) distinct_old there back
    (best_best rule_matches (λ (rule : Rule). rule.priority) old key) (best_best rule_matches (λ (rule : Rule). rule.priority) new key)

pub end_by_changed : TheEndIsJudgedByChangedRules
end_by_changed state old new changed distinct_old distinct_new of_old of_new before shown key valid =
    go (best_rule changed key) (best_best rule_matches (λ (rule : Rule). rule.priority) changed key)
  where
    among : (some others : List Rule) → ((rule : Rule) → Contains some rule → Contains others rule ⊎ Contains changed rule)
        → IsBest rule_matches (λ (rule : Rule). rule.priority) (Contains changed) key None → AreAmong key some others
    among some others cases none rule member met = elim (cases rule member) [
      | inl there ↦ there
      | inr is ↦ absurd (none rule is met)
    ]

    go : (found : Option Rule) → IsBest rule_matches (λ (rule : Rule). rule.priority) (Contains changed) key found → lookup state key ≡ answer new key
    go (Some rule) best = shown key rule valid best.0 best.1
    go None none = elim (before key valid) [
      | inl is ↦ is ∙ others_keep old new key distinct_old distinct_new (among old new of_old none) (among new old of_new none)
      | inr is ↦ is
    ]
