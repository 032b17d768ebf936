-- What a sound batch leaves at a priority, by the commands that name it.
use Rattle.std.proofs.Common.{◌≡◌, ℕ, ◌+◌, ◌<◌, true, false, not, cond, Ordering, Less, Equal, Greater, Option, Some, None, unwrap_or, List, [], ◌∷◌, ◌++◌, length, take, reverse, map, fold, slice_get, IsTrue, Contains, inl, inr, refl, sym, ap, ap₂, subst, ◌∙◌, arith, eqb-true, eq-eqb, ltb-true}
use Rattle.std.specs.Prelude.{AllPairs, IfSome, nat_eq, nat_lt, option_map}
use Rattle.std.specs.BTreeMap.{BTreeMap, IsOrdered, Updates, get, keys}
use Rattle.std.specs.List.Sorted.{IsStrictlySortedBy}
use Rattle.std.specs.Ordering.{nat_cmp, is_eq}
use Rattle.std.proofs.lemmas.Cmp.{nat_cmp_total}
use Rattle.std.proofs.lemmas.List.Kept.{AllPairs-cons}
use Rattle.std.proofs.lemmas.List.Sums.{fold-append}
use Rattle.std.proofs.lemmas.Map.Lookups.{exact_unsigned}
use Rattle.std.proofs.lemmas.Map.Views.{btree_map_get_iff}
use Rattle.std.specs.List.{list_any}
use Rattle.std.specs.Option.{option_or}
use Rattle.std.proofs.lemmas.Bool.{cases_Bool, cases_eq, cond-true, cond-false, ne_eqb}
use Rattle.std.proofs.lemmas.List.{append-nil, append_assoc, map-append, reverse-append}
use Rattle.std.proofs.lemmas.Option.{slice_get_cases}
use Rattle.std.proofs.lemmas.Simd.{map-map}
use Rattle.std.proofs.lemmas.List.Elements.{Contains-append_left, Contains-push, filter-append}
use Rattle.slot_order.proofs.Lists.{AllByRecursion-member, contains_head, contains_none, any_is, any_from, in_filter, filter_in, in_map, map_in}
use Rattle.rule_model.specs.declared.Rule.{Rule}
use Rattle.rule_model.specs.RuleSet.{IsRuleSet, rule_at}
use Rattle.rule_model.proofs.Pairs.{pairs_none}
use Rattle.rule_store.specs.declared.Command.{Command}
use Rattle.rule_store.specs.declared.Command.TheVariants.{Add, Set, Del}
use Rattle.rule_store.specs.Batch.{named_priority, is_removal, commands_naming, batch_fault_after, IsSound, additions, result_after, with_result_after, set_after}
use Rattle.rule_store.proofs.After.{set_after-set}
use Rattle.rule_store.proofs.AfterAt.{additions_at, result_at, kept_at, after_at, own_priority, or_first}
use Rattle.rule_store.proofs.Sound.{IsTaken, taken, sound-parts}
use Rattle.rule_store.proofs.Sums.{slice_get-within, take-read}
use Rattle.commit_writes.proofs.Filters.{all_from, in_reverse, reverse_in, pairs_reverse}
use Rattle.commit_writes.specs.Changes.{RuleChange, AreChanges, AreLastCommands, names_at, change_at, change_by, last_command, placed, rule_behind, with_new_result}

-- no command of a sound batch names a priority, or one does, or a removal and then an addition do
data IsNamed (priority : ℕ) : List Command → Type 0 where
  unnamed : IsNamed priority []
  once : (command : Command) → named_priority command ≡ priority → IsNamed priority (command ∷ [])
  replaced : (rule : Rule) → rule.priority ≡ priority → IsNamed priority (Del priority ∷ Add rule ∷ [])

-- a command more that is taken
named_more : (rules : List Rule) (earlier : List Command) (command : Command) → IsTaken rules earlier command → IsNamed (named_priority command) (commands_naming (named_priority command) earlier ++ command ∷ [])
named_more rules earlier (Set priority answer) taken_so = subst (λ some. IsNamed priority (some ++ Set priority answer ∷ [])) (sym taken_so.1) (once (Set priority answer) refl)
named_more rules earlier (Del priority) taken_so = subst (λ some. IsNamed priority (some ++ Del priority ∷ [])) (sym taken_so.1) (once (Del priority) refl)
named_more rules earlier (Add rule) (inl new) = subst (λ some. IsNamed rule.priority (some ++ Add rule ∷ [])) (sym new.1) (once (Add rule) refl)
named_more rules earlier (Add rule) (inr (removal, removes_it, named)) =
    subst (λ some. IsNamed rule.priority (some ++ Add rule ∷ [])) (sym named)
    (behind removal removes_it (in_filter (λ one. nat_eq (named_priority one) rule.priority) earlier removal (subst (λ some. Contains some removal) (sym named) (contains_head removal []))).1)
  where
    behind : (one : Command) → IsTrue (is_removal one) → nat_eq (named_priority one) rule.priority ≡ true → IsNamed rule.priority (one ∷ Add rule ∷ [])
    behind (Add new) removes_so same = absurd (cc)
    behind (Set changed answer) removes_so same = absurd (cc)
    behind (Del removed) removes_so same = subst (λ n. IsNamed rule.priority (Del n ∷ Add rule ∷ [])) (sym (eqb-true _ _ same)) (replaced rule refl)

named_on : (rules : List Rule) (earlier later : List Command) (priority : ℕ) → batch_fault_after rules earlier later ≡ None → IsNamed priority (commands_naming priority earlier) → IsNamed priority (commands_naming priority (earlier ++ later))
named_on rules earlier [] priority none so = subst (λ some. IsNamed priority (commands_naming priority some)) (sym (append-nil earlier)) so
named_on rules earlier (command ∷ later) priority none so =
    let parts = sound-parts rules earlier command later none in
    let split = filter-append (λ (one : Command). nat_eq (named_priority one) priority) earlier (command ∷ []) in
    let more : IsNamed priority (commands_naming priority (earlier ++ command ∷ [])) = elim (cases_Bool (nat_eq (named_priority command) priority)) [
      | inl same ↦
          subst (IsNamed priority) (sym (split ∙ ap (λ some. commands_naming priority earlier ++ some) (cond-true _ _ _ same)))
          (subst (λ n. IsNamed n (commands_naming n earlier ++ command ∷ [])) (eqb-true _ _ same) (named_more rules earlier command (taken rules earlier command parts.0)))
      | inr other ↦ subst (IsNamed priority) (sym (split ∙ ap (λ some. commands_naming priority earlier ++ some) (cond-false _ _ _ other) ∙ append-nil _)) so
    ] in
    subst (λ some. IsNamed priority (commands_naming priority some)) (append_assoc earlier (command ∷ []) later) (named_on rules (earlier ++ command ∷ []) later priority parts.1 more)

-- the last command that names a priority tells what stands there behind a sound batch
pub named_change : (rules : List Rule) (batch : List Command) (priority : ℕ) (command : Command) → IsRuleSet rules → IsSound rules batch
    → last_command (commands_naming priority batch) ≡ Some command → change_by rules command ≡ change_at rules batch priority
named_change rules batch priority last set sound last_is = go (commands_naming priority batch) refl (named_on rules [] batch priority sound unnamed)
  where
    after : rule_at (set_after rules batch) priority ≡ option_or (rule_at (additions batch) priority) (kept_at rules batch priority)
    after = after_at rules batch priority (set_after-set rules batch set sound)

    -- what stands there by the commands that name it, where they add this, and where they keep this
    adds : (commands : List Command) (rule : Rule) → commands_naming priority batch ≡ commands → rule_at (additions commands) priority ≡ Some rule → rule_at (set_after rules batch) priority ≡ Some rule
    adds commands rule is new = after ∙ or_first _ _ rule (additions_at batch priority ∙ ap (λ some. rule_at (additions some) priority) is ∙ new)

    keeps : (commands : List Command) → commands_naming priority batch ≡ commands → rule_at (additions commands) priority ≡ None
        → rule_at (set_after rules batch) priority ≡ option_map (with_result_after batch) (cond (not (list_any is_removal commands)) (rule_at rules priority) None)
    keeps commands is none = after ∙ ap₂ option_or (additions_at batch priority ∙ ap (λ some. rule_at (additions some) priority) is ∙ none)
        (ap (λ some. option_map (with_result_after batch) (cond (not (list_any is_removal some)) (rule_at rules priority) None)) is)

    told : (commands : List Command) (command : Command) → commands_naming priority batch ≡ commands → last_command commands ≡ Some command → named_priority command ≡ priority
        → rule_at (set_after rules batch) priority ≡ rule_behind (rule_at rules priority) command → change_by rules last ≡ change_at rules batch priority
    told commands command is one own now =
        let both : Some last ≡ Some command = sym last_is ∙ ap last_command is ∙ one in
        let same : last ≡ command = cc in
        ap (change_by rules) same ∙ ap (λ n. record { old = rule_at rules n; new = rule_behind (rule_at rules n) command }) own
        ∙ ap (λ new. record { old = rule_at rules priority; new = new }) (sym now)

    go : (commands : List Command) → commands_naming priority batch ≡ commands → IsNamed priority commands → change_by rules last ≡ change_at rules batch priority
    go commands is unnamed = absurd (let bad : None ≡ Some last = sym (ap last_command is) ∙ last_is in cc)
    go commands is (once command own) = told (command ∷ []) command is refl own (by command own is)
      where
        by : (one : Command) → named_priority one ≡ priority → commands_naming priority batch ≡ one ∷ [] → rule_at (set_after rules batch) priority ≡ rule_behind (rule_at rules priority) one
        by (Add rule) same named = adds (Add rule ∷ []) rule named (cond-true _ _ _ (eq-eqb _ _ same))
        by (Del removed) same named = keeps (Del removed ∷ []) named refl
        by (Set changed answer) same named = keeps (Set changed answer ∷ []) named refl ∙ given (rule_at rules priority) refl
          where
            given : (found : Option Rule) → rule_at rules priority ≡ found → option_map (with_result_after batch) found ≡ with_new_result answer found
            given None read = refl
            given (Some rule) read = ap (λ n. Some (record rule { result = n }))
                (ap (λ n. result_after batch n rule.result) (own_priority rules priority rule read) ∙ result_at batch priority rule.result ∙ ap (λ some. result_after some priority rule.result) named
                ∙ ap (λ passes. unwrap_or (cond passes (Some answer) None) rule.result) (eq-eqb _ _ same))
    go commands is (replaced rule own) =
        told (Del priority ∷ Add rule ∷ []) (Add rule) is refl own (adds (Del priority ∷ Add rule ∷ []) rule is (cond-true _ _ _ (eq-eqb _ _ own)))

-- a priority has a last command where some command names it
last_names : (batch : List Command) (priority : ℕ) (command : Command) → last_command (commands_naming priority batch) ≡ Some command → IsTrue (names_at batch priority)
last_names batch priority command is = go (commands_naming priority batch) refl is
  where
    go : (commands : List Command) → commands_naming priority batch ≡ commands → last_command commands ≡ Some command → IsTrue (names_at batch priority)
    go [] named last = absurd (cc)
    go (first ∷ rest) named last =
        let found = in_filter (λ one. nat_eq (named_priority one) priority) batch first (subst (λ some. Contains some first) (sym named) (contains_head first rest)) in
        any_from (λ one. nat_eq (named_priority one) priority) batch first found.0 found.1

named_last : (batch : List Command) (priority : ℕ) → IsTrue (names_at batch priority) → (command : Command) × (last_command (commands_naming priority batch) ≡ Some command)
named_last batch priority named =
    let found = any_is (λ one. nat_eq (named_priority one) priority) batch named in
    go (commands_naming priority batch) (filter_in (λ one. nat_eq (named_priority one) priority) batch found.0 found.1 found.2)
  where
    last_from : (first : Command) (rest : List Command) → (command : Command) × (fold (λ before one. Some one) (Some first) rest ≡ Some command)
    last_from first [] = (first, refl)
    last_from first (next ∷ rest) = last_from next rest

    go : (commands : List Command) {one : Command} → Contains commands one → (command : Command) × (last_command commands ≡ Some command)
    go [] member = absurd (contains_none _ member)
    go (first ∷ rest) member = last_from first rest

-- no command, no place
pub last_none : (batch : List Command) (last : BTreeMap ℕ ℕ) → last.entries ≡ [] → IsOrdered nat_cmp last → AreLastCommands batch [] last
last_none batch last none ordered = record { ordered = ordered; within = λ priority. rw none tt; at = λ priority. rw none refl }

-- a command more
pub last_more : (batch : List Command) (place : ℕ) (command : Command) (old new : BTreeMap ℕ ℕ) → slice_get batch place ≡ Some command → AreLastCommands batch (take place batch) old
    → Updates nat_cmp old new (named_priority command) (Some place) → IsOrdered nat_cmp new → AreLastCommands batch (take (place + 1) batch) new
last_more batch place command old new read was updates ordered = record {
  ordered = ordered;
  within = λ priority. elim (cases_eq (named_priority command) priority) [
    | inl same ↦ subst (λ found. IfSome found (λ at. at < length batch)) (sym (here priority same)) (slice_get-within batch place command read)
    | inr other ↦ subst (λ found. IfSome found (λ at. at < length batch)) (sym (there priority other)) (was.within priority)
  ];
  at = λ priority. elim (cases_eq (named_priority command) priority) [
    | inl same ↦
        ap (placed batch) (here priority same) ∙ read
        ∙ sym (ap last_command (split priority ∙ ap (λ some. commands_naming priority (take place batch) ++ some) (cond-true _ _ _ (eq-eqb _ _ same))) ∙ fold-append _ None (commands_naming priority (take place batch)) (command ∷ []))
    | inr other ↦
        ap (placed batch) (there priority other) ∙ was.at priority
        ∙ sym (ap last_command (split priority ∙ ap (λ some. commands_naming priority (take place batch) ++ some) (cond-false _ _ _ (ne_eqb _ _ other)) ∙ append-nil _))
  ];
}
  where
    here : (priority : ℕ) → named_priority command ≡ priority → get nat_cmp new priority ≡ Some place
    here priority same = subst (λ n. get nat_cmp new n ≡ Some place) same updates.1

    there : (priority : ℕ) → (named_priority command ≡ priority → ⊥) → get nat_cmp new priority ≡ get nat_cmp old priority
    there priority other = updates.2 priority (go (nat_cmp (named_priority command) priority) (exact_unsigned (named_priority command) priority))
      where
        go : (order : Ordering) → (order ≡ Equal → named_priority command ≡ priority) → is_eq order ≡ false
        go Less same = refl
        go Greater same = refl
        go Equal same = absurd (other (same refl))

    split : (priority : ℕ) → commands_naming priority (take (place + 1) batch) ≡ commands_naming priority (take place batch) ++ commands_naming priority (command ∷ [])
    split priority = ap (commands_naming priority) (take-read batch place command read) ∙ filter-append (λ one. nat_eq (named_priority one) priority) (take place batch) (command ∷ [])

-- entries by rising priority
rising : (entries : List (ℕ × ℕ)) → IsStrictlySortedBy nat_cmp (map (λ entry. entry.0) entries) → AllPairs (λ a b. a < b) (map (λ entry. entry.0) entries)
unfolding IsStrictlySortedBy
rising [] sorted = pairs_none (λ a b. a < b)
rising (entry ∷ entries) sorted = AllPairs-cons (λ a b. a < b) entry.0 (map (λ one. one.0) entries)
    (all_from (λ n. entry.0 < n) (map (λ one. one.0) entries) (λ n member. less entry.0 n (AllByRecursion-member (λ n. nat_cmp entry.0 n ≡ Less) (map (λ one. one.0) entries) n sorted.0 member)))
    (rising entries sorted.1)
  where
    less : (a b : ℕ) → nat_cmp a b ≡ Less → a < b
    less a b is = elim (cases_Bool (nat_lt a b)) [
      | inl lower ↦ ltb-true a b lower
      | inr other ↦ absurd (elim (cases_Bool (nat_eq a b)) [
        | inl same ↦ let bad : Equal ≡ Less = sym (cond-false _ _ _ other ∙ cond-true _ _ _ same) ∙ is in cc
        | inr differ ↦ let bad : Greater ≡ Less = sym (cond-false _ _ _ other ∙ cond-false _ _ _ differ) ∙ is in cc
      ])
    ]

pub map_reverse : {X Y : Type 0} (f : X → Y) (xs : List X) → map f (reverse xs) ≡ reverse (map f xs)
map_reverse f [] = refl
map_reverse f (x ∷ xs) =
    ap (map f) (reverse-append (x ∷ []) xs) ∙ map-append f (reverse xs) (x ∷ []) ∙ ap (λ some. some ++ f x ∷ []) (map_reverse f xs) ∙ sym (reverse-append (f x ∷ []) (map f xs))

read_at : (batch : List Command) (place : ℕ) → place < length batch → (command : Command) × (slice_get batch place ≡ Some command)
read_at batch place within = elim (slice_get_cases batch place).1 [
  | inl inside ↦ (inside.0, inside.2)
  | inr past ↦ absurd (let least = past.0 in omega arith)
]

-- the changes at some of the last places, those of the highest priorities: some of all places are left
pub record AreDone (rules : List Rule) (batch : List Command) (left : List (ℕ × ℕ)) (changes : List RuleChange) : Type 0 where
  pub last : BTreeMap ℕ ℕ
  pub are : AreLastCommands batch batch last
  pub done : List (ℕ × ℕ)
  pub entries : last.entries ≡ left ++ done
  pub changes_are : changes ≡ map (λ entry. change_at rules batch entry.0) (reverse done)

pub done_none : (rules : List Rule) (batch : List Command) (last : BTreeMap ℕ ℕ) → AreLastCommands batch batch last → AreDone rules batch last.entries []
done_none rules batch last are = record { last = last; are = are; done = []; entries = sym (append-nil last.entries); changes_are = refl }

module _ (rules : List Rule) (batch : List Command) where
  -- an entry's place is that of the last command of its priority
  entry_place : (last : BTreeMap ℕ ℕ) → AreLastCommands batch batch last → (entry : ℕ × ℕ) → Contains last.entries entry → (entry.1 < length batch) × (slice_get batch entry.1 ≡ last_command (commands_naming entry.0 batch))
  entry_place last are entry member =
      let found : get nat_cmp last entry.0 ≡ Some entry.1 = (btree_map_get_iff nat_cmp_total exact_unsigned last are.ordered entry.0 entry.1).1 member in (
        subst (λ found. IfSome found (λ at. at < length batch)) found (are.within entry.0),
        sym (ap (placed batch) found) ∙ are.at entry.0,
      )

  -- one more is done
  pub done_next : (before after : List (ℕ × ℕ)) (entry : ℕ × ℕ) (changes : List RuleChange) → before ≡ after ++ entry ∷ [] → (so : AreDone rules batch before changes) → Contains so.last.entries entry
  done_next before after entry changes parts so =
      subst (λ entries. Contains entries entry) (sym (so.entries ∙ ap (λ front. front ++ so.done) parts)) (Contains-append_left (after ++ entry ∷ []) so.done entry (Contains-push after entry))

  pub done_within : (before after : List (ℕ × ℕ)) (entry : ℕ × ℕ) (changes : List RuleChange) → before ≡ after ++ entry ∷ [] → AreDone rules batch before changes → entry.1 < length batch
  done_within before after entry changes parts so = (entry_place so.last so.are entry (done_next before after entry changes parts so)).0

  pub done_more : (before after : List (ℕ × ℕ)) (entry : ℕ × ℕ) (changes changes' : List RuleChange) (command : Command) → IsRuleSet rules → IsSound rules batch → before ≡ after ++ entry ∷ []
      → AreDone rules batch before changes → slice_get batch entry.1 ≡ Some command → changes' ≡ changes ++ change_by rules command ∷ [] → AreDone rules batch after changes'
  done_more before after entry changes changes' command set sound parts so read more = record {
    last = so.last;
    are = so.are;
    done = entry ∷ so.done;
    entries = so.entries ∙ ap (λ front. front ++ so.done) parts ∙ append_assoc after (entry ∷ []) so.done;
    changes_are = (
        let place = entry_place so.last so.are entry (done_next before after entry changes parts so) in
        more ∙ ap₂ (λ front change. front ++ change ∷ []) so.changes_are (named_change rules batch entry.0 command set sound (sym place.1 ∙ read))
        ∙ sym (ap (map (λ one. change_at rules batch one.0)) (reverse-append (entry ∷ []) so.done) ∙ map-append (λ one. change_at rules batch one.0) (reverse so.done) (entry ∷ []))
        );
  }

  -- with none left all are done
  pub done_all : (left : List (ℕ × ℕ)) (changes : List RuleChange) → left ≡ [] → AreDone rules batch left changes → AreChanges rules batch changes
  done_all left changes none so = record {
    priorities = map (λ entry. entry.0) (reverse so.done);
    falling = subst (λ done. AllPairs (λ a b. b < a) (map (λ entry. entry.0) (reverse done))) all
        (subst (AllPairs (λ a b. b < a)) (sym (map_reverse (λ entry. entry.0) last.entries)) (pairs_reverse (λ a b. b < a) (keys last) (rising last.entries so.are.ordered)));
    named = λ priority. (λ member. names priority member, λ named. has_entry priority (get nat_cmp last priority) refl (named_last batch priority named));
    are = so.changes_are ∙ sym (map-map (change_at rules batch) (λ entry. entry.0) (reverse so.done));
  }
    where
      last : BTreeMap ℕ ℕ
      last = so.last

      all : last.entries ≡ so.done
      all = so.entries ∙ ap (λ front. front ++ so.done) none

      names : (priority : ℕ) → Contains (map (λ entry. entry.0) (reverse so.done)) priority → IsTrue (names_at batch priority)
      names priority member =
          let (entry, in_reversed, own) = in_map (λ entry. entry.0) (reverse so.done) priority member in
          let (within, read) = entry_place last so.are entry (subst (λ entries. Contains entries entry) (sym all) (in_reverse so.done entry in_reversed)) in
          let (command, there) = read_at batch entry.1 within in
          subst (λ n. IsTrue (names_at batch n)) own (last_names batch entry.0 command (sym read ∙ there))

      has_entry : (priority : ℕ) (found : Option ℕ) → get nat_cmp last priority ≡ found → (command : Command) × (last_command (commands_naming priority batch) ≡ Some command) → Contains (map (λ entry. entry.0) (reverse so.done)) priority
      has_entry priority None is (command, at) = absurd (let bad : None ≡ Some command = sym (ap (placed batch) is) ∙ so.are.at priority ∙ at in cc)
      has_entry priority (Some place) is (command, at) =
          map_in (λ entry. entry.0) (reverse so.done) (priority, place) (reverse_in so.done (priority, place)
          (subst (λ entries. Contains entries (priority, place)) all ((btree_map_get_iff nat_cmp_total exact_unsigned last so.are.ordered priority place).0 is)))
