-- Sets of the priorities that commands name, and of those of rules.
use Rattle.std.proofs.Common.{◌≡◌, ℕ, ◌+◌, Bool, true, false, ◌||◌, cond, Some, List, [], ◌∷◌, take, slice_get, refl, sym, ap, ◌∙◌}
use Rattle.std.specs.Prelude.{nat_eq}
use Rattle.std.specs.List.{list_any}
use Rattle.std.specs.BTreeSet.{BTreeSet, Updates, contains}
use Rattle.std.specs.Ordering.{nat_cmp}
use Rattle.std.proofs.lemmas.List.Folds.{list_any-append}
use Rattle.rule_model.specs.declared.Rule.{Rule}
use Rattle.rule_model.specs.RuleSet.{has_priority}
use Rattle.rule_store.specs.declared.Command.{Command}
use Rattle.rule_store.specs.declared.Command.TheVariants.{Add, Set, Del}
use Rattle.rule_store.specs.Batch.{named_priority, is_removal, removes}
use Rattle.rule_store.proofs.Sound.{removes-append}
use Rattle.rule_store.proofs.Sums.{take-read}
use Rattle.settled_changes.specs.Laws.{is_named}
use Rattle.settled_changes.proofs.NamedSets.{with-named, none-in}
use Rattle.removals_first.specs.Tests.{AreNames, AreRanks}

-- no command names anything
pub names-none : (named removed : BTreeSet ℕ) → named.keys ≡ [] → removed.keys ≡ [] → AreNames named removed []
names-none named removed no_named no_removed = record {
  named_are = λ priority. none-in named priority no_named;
  removed_are = λ priority. none-in removed priority no_removed;
}

added : (here before : Bool) → cond here true before ≡ (before || (here || false))
added true true = refl
added true false = refl
added false true = refl
added false false = refl

-- a command that removes nothing
pub not-removal : (command : Command) → ((priority : ℕ) → command ≡ Del priority → ⊥) → is_removal command ≡ false
not-removal (Add rule) isnt = refl
not-removal (Set priority answer) isnt = refl
not-removal (Del priority) isnt = absurd (isnt priority refl)

-- one command more
module _ (batch : List Command) (place : ℕ) (command : Command) (read : slice_get batch place ≡ Some command) where
  named-more : (named named' : BTreeSet ℕ) → ((priority : ℕ) → contains nat_cmp named priority ≡ is_named priority (take place batch))
      → Updates nat_cmp named named' (named_priority command) true → (priority : ℕ) → contains nat_cmp named' priority ≡ is_named priority (take (place + 1) batch)
  named-more named named' were updates priority =
      with-named named named' (named_priority command) priority updates
      ∙ ap (cond (nat_eq (named_priority command) priority) true) (were priority)
      ∙ added (nat_eq (named_priority command) priority) (is_named priority (take place batch))
      ∙ sym (ap (is_named priority) (take-read batch place command read)
      ∙ list_any-append (λ (one : Command). nat_eq (named_priority one) priority) (take place batch) (command ∷ []))

  removed-at : (priority : ℕ) → removes priority (take (place + 1) batch) ≡ (removes priority (take place batch) || list_any is_removal (cond (nat_eq (named_priority command) priority) (command ∷ []) []))
  removed-at priority = ap (removes priority) (take-read batch place command read) ∙ removes-append priority (take place batch) (command ∷ [])

  -- a removal,
  pub names-removed : (named named' removed removed' : BTreeSet ℕ) → is_removal command ≡ true → AreNames named removed (take place batch)
      → Updates nat_cmp named named' (named_priority command) true → Updates nat_cmp removed removed' (named_priority command) true → AreNames named' removed' (take (place + 1) batch)
  names-removed named named' removed removed' is were updates removes_so = record {
    named_are = named-more named named' were.named_are updates;
    removed_are = λ priority.
        with-named removed removed' (named_priority command) priority removes_so
        ∙ ap (cond (nat_eq (named_priority command) priority) true) (were.removed_are priority)
        ∙ either (nat_eq (named_priority command) priority) (removes priority (take place batch)) (is_removal command) is
        ∙ sym (removed-at priority ∙ ap (λ last. removes priority (take place batch) || last) (one (nat_eq (named_priority command) priority)));
  }
    where
      one : (here : Bool) → list_any is_removal (cond here (command ∷ []) []) ≡ cond here (is_removal command || false) false
      one true = refl
      one false = refl

      either : (here before test : Bool) → test ≡ true → cond here true before ≡ (before || cond here (test || false) false)
      either true true true so = refl
      either true false true so = refl
      either false true test so = refl
      either false false test so = refl
      either true true false so = absurd (cc)
      either true false false so = absurd (cc)

  -- and another one
  pub names-other : (named named' removed removed' : BTreeSet ℕ) → is_removal command ≡ false → AreNames named removed (take place batch)
      → Updates nat_cmp named named' (named_priority command) true → removed' ≡ removed → AreNames named' removed' (take (place + 1) batch)
  names-other named named' removed removed' isnt were updates same = record {
    named_are = named-more named named' were.named_are updates;
    removed_are = λ priority.
        ap (λ (set : BTreeSet ℕ). contains nat_cmp set priority) same ∙ were.removed_are priority
        ∙ sym (removed-at priority ∙ ap (λ last. removes priority (take place batch) || last) (one (nat_eq (named_priority command) priority) (is_removal command) isnt refl)
        ∙ or_none (removes priority (take place batch)));
  }
    where
      or_none : (test : Bool) → (test || false) ≡ test
      or_none true = refl
      or_none false = refl

      one : (here test : Bool) → test ≡ false → is_removal command ≡ test → list_any is_removal (cond here (command ∷ []) []) ≡ false
      one true test so is = ap (λ t. t || false) (is ∙ so)
      one false test so is = refl

-- the priorities of one rule more
pub ranks-more : (rules : List Rule) (rule : Rule) (ranks ranks' : List ℕ) (set set' : BTreeSet ℕ) → AreRanks rules ranks set → ranks' ≡ rule.priority ∷ ranks → Updates nat_cmp set set' rule.priority true
    → AreRanks (rule ∷ rules) ranks' set'
ranks-more rules rule ranks ranks' set set' were pushed updates = record {
  ranks_are = pushed ∙ ap (λ some. rule.priority ∷ some) were.ranks_are;
  set_is = λ priority.
      with-named set set' rule.priority priority updates
      ∙ ap (cond (nat_eq rule.priority priority) true) (were.set_is priority)
      ∙ either (nat_eq rule.priority priority) (has_priority rules priority);
}
  where
    either : (here before : Bool) → cond here true before ≡ (here || before)
    either true before = refl
    either false before = refl

pub ranks-none : (ranks : List ℕ) (set : BTreeSet ℕ) → ranks ≡ [] → set.keys ≡ [] → AreRanks [] ranks set
ranks-none ranks set none empty = record { ranks_are = none; set_is = λ priority. none-in set priority empty }
