-- What an insertion, a change and a removal make of a store, over its table and its keys.
use Rattle.std.proofs.Common.{◌≡◌, ◌≢◌, ℕ, ◌+◌, ◌<◌, ◌≤◌, Bool, true, false, List, [], ◌∷◌, ◌++◌, length, map, get_or, set, IsTrue, IsFalse, All, inl, inr, refl, sym, ap, ap₂, ◌∙◌, arith, length-append}
use Rattle.std.specs.Prelude.{nat_eq, if◌then◌else◌}
use Rattle.std.specs.List.{insert, remove}
use Rattle.std.proofs.lemmas.Bool.{cases_lt}
use Rattle.std.proofs.lemmas.List.{get_or-map, length-set, get_or_push, get_or_append_left}
use Rattle.std.proofs.lemmas.List.Elements.{All-from_get_or, All-push, All-weaker}
use Rattle.std.proofs.lemmas.List.Edits.{length-insert, length-remove, get_or-remove_below, get_or-remove_above}
use Rattle.slot_order.proofs.Lists.{map-remove}
use Rattle.counted_blocks.specs.declared.Item.{Item}
use Rattle.rule_model.specs.declared.Rule.{Rule}
use Rattle.rule_model.specs.RuleSet.{has_priority}
use Rattle.rule_store.specs.declared.Mode.TheVariants.{Cover}
use Rattle.rule_store.specs.Verdict.{entries_needed}
use Rattle.rule_store.specs.Batch.{with_rule}
use Rattle.rule_store.specs.Store.{AreOnce, IsStored, IsSized, IsPlace, PutsRule, no_rule, rule_under, rules_under, with_answer, without_rule}
use Rattle.rule_store.proofs.Sets.{IsAt, IsAt-present, with_rule-at, with_answer-at, without_rule-at}
use Rattle.rule_store.proofs.Falling.{IsRuleSet-with_rule, IsRuleSet-with_answer, IsRuleSet-without_rule}
use Rattle.rule_store.proofs.Slots.{no_item, count-under, key-differs, map-insert, All-insert, All-remove, rules_under-insert, rules_under-remove, rules_under-other, rules_under-at, freed-within, freed-read, freed-all, key-fresh}

-- how many entries each item's rule takes by covers
abbrev pub sizes_of : List Item → List ℕ
sizes_of items = map (λ (item : Item). item.size) items

-- a free key is none of an item's
abbrev pub IsApart : List ℕ → Item → Type 0
IsApart free item = All (λ key. key ≡ item.key → ⊥) free

-- a rule comes in under a key that had none
module _ (old new : List Rule) (capacity : ℕ) (free freed : List ℕ) (free_capacity : ℕ) (items : List Item) (room spare place : ℕ) (item : Item) (rule : Rule) (stored : IsStored old capacity free free_capacity items room spare) (is : IsPlace (rules_under old items) rule.priority place) (absent : IsFalse (has_priority (rules_under old items) rule.priority)) (puts : PutsRule old free new freed item.key rule) where
  fresh : (k : ℕ) → k < length items → (get_or items k no_item).key ≢ item.key
  fresh = key-fresh old free new freed item.key rule puts items stored.keyed stored.apart

  kept : rules_under new items ≡ rules_under old items
  kept = rules_under-other old new items item.key puts.others stored.keyed fresh

  pub rules-inserted : rules_under new (insert items place item) ≡ with_rule (rules_under old items) rule
  rules-inserted =
      rules_under-insert new items place item
      ∙ ap₂ (λ (a : List Rule) (b : Rule). insert a place b) kept puts.is
      ∙ sym (with_rule-at (rules_under old items) rule place is absent)

  pub inserted-count : length (insert items place item) ≡ length items + 1
  inserted-count = length-insert items place item (omega (arith, is.within, count-under old items))

  once-freed : AreOnce freed
  once-freed i j none less to same =
      stored.once i j none less (freed-within old free new freed item.key rule puts j to)
      (freed-read old free new freed item.key rule puts i none (omega arith) ∙ same ∙ sym (freed-read old free new freed item.key rule puts j none to))

  -- the key isn't free any more
  used : IsApart freed item
  used =
      All-from_get_or (λ key. key ≡ item.key → ⊥) freed 0 (λ k to same.
      elim puts.fresh [
        | inl last ↦
            let n = ap (length {A = ℕ}) last ∙ length-append freed (item.key ∷ []) in
            let end : get_or free (length freed) 0 ≡ item.key = ap (λ (keys : List ℕ). get_or keys (length freed) 0) last ∙ get_or_push freed item.key 0 (length freed) refl in
            stored.once k (length freed) 0 to (omega arith) (freed-read old free new freed item.key rule puts k 0 to ∙ same ∙ sym end)
        | inr next ↦ let n = ap (length {A = ℕ}) next.1 in absurd (omega arith)
      ])

  free-apart : All (IsApart freed) items
  free-apart = All-weaker (IsApart free) (IsApart freed) (λ one apart. freed-all old free new freed item.key rule puts (λ key. key ≡ one.key → ⊥) apart) items stored.apart

  pub stored-inserted : (capacity' free_capacity' room' spare' : ℕ) → capacity' ≡ capacity → free_capacity' ≡ free_capacity → room' + 1 ≡ room → spare' + 1 ≡ spare → IsStored new capacity' freed free_capacity' (insert items place item) room' spare'
  stored-inserted capacity' free_capacity' room' spare' same same_free less fewer =
      let longer = puts.longer in
      let count = puts.count in
      let here = puts.within in
      let keys = stored.keys in
      let rule_room = stored.rule_room in
      let free_room = stored.free_room in
      let key_room = stored.key_room in
      let order_room = stored.order_room in
      let fits = stored.count in
      record {
        keyed = All-insert (λ (one : Item). one.key < length new) items place item (All-weaker (λ (one : Item). one.key < length old) (λ (one : Item). one.key < length new) (λ one within. omega arith) items stored.keyed) here;
        falling = rw rules-inserted (IsRuleSet-with_rule (rules_under old items) rule stored.falling absent);
        free_within = freed-all old free new freed item.key rule puts (λ key. key < length new) (All-weaker (λ (key : ℕ). key < length old) (λ (key : ℕ). key < length new) (λ key within. omega arith) free stored.free_within);
        once = once-freed;
        apart = All-insert (IsApart freed) items place item free-apart used;
        keys = omega (arith, inserted-count);
        rule_room = omega (arith, inserted-count);
        free_room = omega (arith, inserted-count);
        key_room = key-room';
        order_room = omega arith;
        count = omega (arith, inserted-count);
      }
    where
      key-room' : length new ≤ free_capacity'
      key-room' =
          let count = puts.count in
          let keys = stored.keys in
          let free_room = stored.free_room in
          let key_room = stored.key_room in
          elim puts.fresh [
            | inl last ↦ let n = ap (length {A = ℕ}) last ∙ length-append freed (item.key ∷ []) in omega arith
            | inr next ↦ let n = ap (length {A = ℕ}) next.1 in omega arith
          ]

  pub sized-inserted : (capacity' free_capacity' room' spare' : ℕ) → capacity' ≡ capacity → free_capacity' ≡ free_capacity → room' + 1 ≡ room → spare' + 1 ≡ spare
      → sizes_of items ≡ map (entries_needed Cover) (rules_under old items) → item.size ≡ entries_needed Cover rule
      → IsSized new capacity' freed free_capacity' (insert items place item) room' spare'
  sized-inserted capacity' free_capacity' room' spare' same same_free less fewer sizes size =
      record {
        stored = stored-inserted capacity' free_capacity' room' spare' same same_free less fewer;
        sizes_are =
            map-insert (λ (one : Item). one.size) items place item
            ∙ ap₂ (λ (a : List ℕ) (b : ℕ). insert a place b) sizes size
            ∙ sym (map-insert (entries_needed Cover) (rules_under old items) place rule)
            ∙ ap (map (entries_needed Cover)) (sym (with_rule-at (rules_under old items) rule place is absent) ∙ sym rules-inserted);
      }

-- the one rule of a priority is found at its place
pub stored-at : (rules : List Rule) (capacity : ℕ) (free : List ℕ) (free_capacity : ℕ) (items : List Item) (room spare priority place : ℕ) → IsStored rules capacity free free_capacity items room spare → IsPlace (rules_under rules items) priority place → IsTrue (has_priority (rules_under rules items) priority) → IsAt (rules_under rules items) priority place
stored-at rules capacity free free_capacity items room spare priority place stored is present = IsAt-present (rules_under rules items) priority place stored.falling is present

-- a rule takes as many entries with whatever result
sizes-answered : (rules : List Rule) (priority answer : ℕ) → map (entries_needed Cover) (with_answer rules priority answer) ≡ map (entries_needed Cover) rules
sizes-answered [] priority answer = refl
sizes-answered (rule ∷ rules) priority answer =
    ap₂ (λ (size : ℕ) (sizes : List ℕ). size ∷ sizes) (either (nat_eq rule.priority priority)) (sizes-answered rules priority answer)
  where
    either : (same : Bool) → entries_needed Cover (if same then record rule { result = answer } else rule) ≡ entries_needed Cover rule
    either true = refl
    either false = refl

-- a rule changes its result under its key
module _ (rules : List Rule) (capacity : ℕ) (free : List ℕ) (free_capacity : ℕ) (items : List Item) (room spare priority answer place : ℕ) (stored : IsStored rules capacity free free_capacity items room spare) (at : IsAt (rules_under rules items) priority place) where
  -- the table with the changed rule
  abbrev pub rules-with : List Rule
  rules-with = set rules (get_or items place no_item).key (record (get_or rules (get_or items place no_item).key no_rule) { result = answer })

  within-items : place < length items
  within-items = omega (arith, at.within, count-under rules items)

  pub rules-changed : rules_under rules-with items ≡ with_answer (rules_under rules items) priority answer
  rules-changed =
      rules_under-at rules items place (record (get_or rules (get_or items place no_item).key no_rule) { result = answer }) stored.keyed within-items (key-differs rules items priority place at)
      ∙ ap (λ (r : Rule). set (rules_under rules items) place (record r { result = answer })) (sym (get_or-map (rule_under rules) items place no_item no_rule within-items))
      ∙ sym (with_answer-at (rules_under rules items) priority answer place no_rule at)

  pub sized-changed : sizes_of items ≡ map (entries_needed Cover) (rules_under rules items) → IsSized rules-with capacity free free_capacity items room spare
  sized-changed sizes =
      let count : length rules-with ≡ length rules = length-set rules (get_or items place no_item).key (record (get_or rules (get_or items place no_item).key no_rule) { result = answer }) in
      let keys = stored.keys in
      let key_room = stored.key_room in
      record {
        stored = record {
          keyed = All-weaker (λ (one : Item). one.key < length rules) (λ (one : Item). one.key < length rules-with) (λ one within. omega arith) items stored.keyed;
          falling = rw rules-changed (IsRuleSet-with_answer (rules_under rules items) priority answer stored.falling);
          free_within = All-weaker (λ (key : ℕ). key < length rules) (λ (key : ℕ). key < length rules-with) (λ key within. omega arith) free stored.free_within;
          once = stored.once;
          apart = stored.apart;
          keys = omega arith;
          rule_room = stored.rule_room;
          free_room = stored.free_room;
          key_room = omega arith;
          order_room = stored.order_room;
          count = stored.count;
        };
        sizes_are = sizes ∙ sym (sizes-answered (rules_under rules items) priority answer) ∙ ap (map (entries_needed Cover)) (sym rules-changed);
      }

-- the rule at a place goes, and its key is free
module _ (rules : List Rule) (capacity : ℕ) (free : List ℕ) (free_capacity : ℕ) (items : List Item) (room spare priority place : ℕ) (stored : IsStored rules capacity free free_capacity items room spare) (at : IsAt (rules_under rules items) priority place) where
  place-within : place < length items
  place-within = omega (arith, at.within, count-under rules items)

  abbrev key : ℕ
  key = (get_or items place no_item).key

  pub rules-removed : rules_under rules (remove items place) ≡ without_rule (rules_under rules items) priority
  rules-removed = rules_under-remove rules items place ∙ sym (without_rule-at (rules_under rules items) priority place at)

  once-more : AreOnce (free ++ key ∷ [])
  once-more i j none less to same =
      let count = length-append free (key ∷ []) in
      let first = get_or_append_left free (key ∷ []) none i (omega arith) in
      elim (cases_lt j (length free)) [
        | inl before ↦ stored.once i j none less before (sym first ∙ same ∙ get_or_append_left free (key ∷ []) none j before)
        | inr end ↦
            let last : get_or (free ++ key ∷ []) j none ≡ key = get_or_push free key none j (omega arith) in
            stored.apart place no_item place-within i none (omega arith) (sym first ∙ same ∙ last)
      ]

  apart-more : All (IsApart (free ++ key ∷ [])) (remove items place)
  apart-more =
      All-from_get_or (IsApart (free ++ key ∷ [])) (remove items place) no_item (λ k to.
      let count = length-remove items place place-within in
      elim (cases_lt k place) [
        | inl before ↦ rw (get_or-remove_below items place no_item k before place-within) (each k (omega arith) (omega arith))
        | inr from ↦ rw (get_or-remove_above items place no_item k from place-within) (each (k + 1) (omega arith) (omega arith))
      ])
    where
      each : (k : ℕ) → k < length items → k ≢ place → IsApart (free ++ key ∷ []) (get_or items k no_item)
      each k to away =
          All-push (λ f. f ≡ (get_or items k no_item).key → ⊥) free key (stored.apart k no_item to)
          (λ same. key-differs rules items priority place at k to away (sym same))

  pub sized-removed : (free_capacity' room' : ℕ) → free_capacity' ≡ free_capacity → room' ≡ room + 1
      → sizes_of items ≡ map (entries_needed Cover) (rules_under rules items)
      → IsSized rules capacity (free ++ key ∷ []) free_capacity' (remove items place) room' (spare + 1)
  sized-removed free_capacity' room' same more sizes =
      let count = length-remove items place place-within in
      let longer = length-append free (key ∷ []) in
      let keys = stored.keys in
      let rule_room = stored.rule_room in
      let free_room = stored.free_room in
      let key_room = stored.key_room in
      let order_room = stored.order_room in
      let fits = stored.count in
      let within : key < length rules = stored.keyed place no_item place-within in
      record {
        stored = record {
          keyed = All-remove (λ (one : Item). one.key < length rules) items place stored.keyed;
          falling = rw rules-removed (IsRuleSet-without_rule (rules_under rules items) priority stored.falling);
          free_within = All-push (λ (k : ℕ). k < length rules) free key stored.free_within within;
          once = once-more;
          apart = apart-more;
          keys = omega arith;
          rule_room = omega arith;
          free_room = omega arith;
          key_room = omega arith;
          order_room = omega arith;
          count = omega arith;
        };
        sizes_are =
            map-remove (λ (one : Item). one.size) items place
            ∙ ap (λ (s : List ℕ). remove s place) sizes
            ∙ sym (map-remove (entries_needed Cover) (rules_under rules items) place)
            ∙ ap (map (entries_needed Cover)) (sym (rules_under-remove rules items place));
      }
