-- The rules under a list of keys, and what a change of the table leaves of them.
use Rattle.std.proofs.Common.{◌≡◌, ◌≢◌, ℕ, suc, ◌+◌, ◌<◌, List, [], ◌∷◌, ◌++◌, length, get_or, set, map, take, drop, Some, All, refl, sym, ap, ap₂, ◌∙◌, inl, inr, arith, length-append}
use Rattle.std.specs.Prelude.{slice_get}
use Rattle.std.specs.List.{insert, remove}
use Rattle.std.proofs.lemmas.Bool.{cases_eq}
use Rattle.std.proofs.lemmas.List.{get_or-map, get_or_default, get_or_append_left, get_or_push, length-map, map-append, take-map, drop-map, same_lists, length-set, get_or-set_same, get_or-set_other}
use Rattle.std.proofs.lemmas.List.Elements.{All-append, All-cons, All-take, All-drop, All-from_get_or}
use Rattle.slot_order.proofs.Lists.{map-remove}
use Rattle.counted_blocks.specs.declared.Item.{Item}
use Rattle.counted_blocks.specs.Counted.{block_at, items_of, start_of}
use Rattle.counted_blocks.proofs.Flat.{count-around, item-at}
use Rattle.rule_model.specs.declared.Rule.{Rule}
use Rattle.rule_store.specs.Store.{AreKeyed, PutsRule, no_rule, rule_under, rules_under}
use Rattle.rule_store.proofs.Sets.{IsAt}
use Rattle.rule_store.proofs.Sums.{slice_get-within, slice_get-read}

-- an item that stands for no rule
abbrev pub no_item : Item
no_item = record { key = 0; size = 0 }

pub count-under : (rules : List Rule) (items : List Item) → length (rules_under rules items) ≡ length items
count-under rules items = length-map items (rule_under rules)

-- the key at a place is one of the table
pub keyed-read : (rules : List Rule) (items : List Item) (place : ℕ) (item : Item) → AreKeyed rules items → slice_get items place ≡ Some item → item.key < length rules
keyed-read rules items place item keyed read =
    let key : (get_or items place item).key < length rules = keyed place item (slice_get-within items place item read) in
    rw (slice_get-read items place item read) at key

-- the rule at a place is the one under the key there
pub read-under : (rules : List Rule) (items : List Item) (place : ℕ) (item : Item) (rule none : Rule) → slice_get items place ≡ Some item → item.key < length rules → rule ≡ get_or rules item.key rule → get_or (rules_under rules items) place none ≡ rule
read-under rules items place item rule none read within is =
    get_or-map (rule_under rules) items place item none (slice_get-within items place item read)
    ∙ ap (rule_under rules) (slice_get-read items place item read)
    ∙ get_or_default rules item.key no_rule rule within
    ∙ sym is

-- so it is at a place of a block
pub block-read : (blocks : List (List Item)) (b i : ℕ) (item : Item) → b < length blocks → slice_get (block_at blocks b) i ≡ Some item → get_or (items_of blocks) (start_of blocks b + i) item ≡ item
block-read blocks b i item within read =
    item-at blocks b i item within (slice_get-within (block_at blocks b) i item read) ∙ slice_get-read (block_at blocks b) i item read

pub block-within : (blocks : List (List Item)) (b i : ℕ) (item : Item) → b < length blocks → slice_get (block_at blocks b) i ≡ Some item → start_of blocks b + i < length (items_of blocks)
block-within blocks b i item within read =
    let count = count-around blocks b within in omega (arith, slice_get-within (block_at blocks b) i item read)

pub block-keyed : (rules : List Rule) (blocks : List (List Item)) (b i : ℕ) (item : Item) → AreKeyed rules (items_of blocks) → b < length blocks → slice_get (block_at blocks b) i ≡ Some item → item.key < length rules
block-keyed rules blocks b i item keyed within read =
    let key : (get_or (items_of blocks) (start_of blocks b + i) item).key < length rules = keyed (start_of blocks b + i) item (block-within blocks b i item within read) in
    rw (block-read blocks b i item within read) at key

pub block-under : (rules : List Rule) (blocks : List (List Item)) (b i : ℕ) (item : Item) (rule none : Rule) → AreKeyed rules (items_of blocks) → b < length blocks → slice_get (block_at blocks b) i ≡ Some item → rule ≡ get_or rules item.key rule → get_or (rules_under rules (items_of blocks)) (start_of blocks b + i) none ≡ rule
block-under rules blocks b i item rule none keyed within read is =
    get_or-map (rule_under rules) (items_of blocks) (start_of blocks b + i) item none (block-within blocks b i item within read)
    ∙ ap (rule_under rules) (block-read blocks b i item within read)
    ∙ get_or_default rules item.key no_rule rule (block-keyed rules blocks b i item keyed within read)
    ∙ sym is

-- the key of the one rule of a priority stands at no other place
pub key-differs : (rules : List Rule) (items : List Item) (priority place : ℕ) → IsAt (rules_under rules items) priority place → (k : ℕ) → k < length items → k ≢ place → (get_or items k no_item).key ≢ (get_or items place no_item).key
key-differs rules items priority place at k within differs same =
    let count = count-under rules items in
    let there = get_or-map (rule_under rules) items k no_item no_rule within in
    let here = get_or-map (rule_under rules) items place no_item no_rule (omega (arith, at.within)) in
    at.others k no_rule (omega arith) differs (ap (λ (r : Rule). r.priority) (there ∙ ap (λ (key : ℕ). get_or rules key no_rule) same ∙ sym here) ∙ at.is no_rule)

-- an element that comes in at a place
pub map-insert : {X Y : Type 0} (f : X → Y) (xs : List X) (place : ℕ) (x : X) → map f (insert xs place x) ≡ insert (map f xs) place (f x)
map-insert {X} {Y} f xs place x =
    map-append f (take place xs) (x ∷ drop place xs)
    ∙ ap₂ (λ (a b : List Y). a ++ f x ∷ b) (sym (take-map f place xs)) (sym (drop-map f place xs))

pub All-insert : {X : Type 0} (P : X → Type 0) (xs : List X) (place : ℕ) (x : X) → All P xs → P x → All P (insert xs place x)
All-insert P xs place x all one =
    All-append P (take place xs) (x ∷ drop place xs) (All-take P place xs all) (All-cons P x (drop place xs) one (All-drop P place xs all))

pub All-remove : {X : Type 0} (P : X → Type 0) (xs : List X) (place : ℕ) → All P xs → All P (remove xs place)
All-remove P xs place all = All-append P (take place xs) (drop (suc place) xs) (All-take P place xs all) (All-drop P (suc place) xs all)

-- so a key brings its rule in there, and takes it away
pub rules_under-insert : (rules : List Rule) (items : List Item) (place : ℕ) (item : Item) → rules_under rules (insert items place item) ≡ insert (rules_under rules items) place (rule_under rules item)
rules_under-insert rules items place item = map-insert (rule_under rules) items place item

pub rules_under-remove : (rules : List Rule) (items : List Item) (place : ℕ) → rules_under rules (remove items place) ≡ remove (rules_under rules items) place
rules_under-remove rules items place = map-remove (rule_under rules) items place

-- a change under another key leaves the rules
pub rules_under-other : (old new : List Rule) (items : List Item) (key : ℕ) → ((k : ℕ) → k < length old → k ≢ key → get_or new k no_rule ≡ get_or old k no_rule)
    → AreKeyed old items → ((k : ℕ) → k < length items → (get_or items k no_item).key ≢ key) → rules_under new items ≡ rules_under old items
rules_under-other old new items key others keyed differs =
    same_lists _ _ (count-under new items ∙ sym (count-under old items)) (λ k none within.
    let within' : k < length items = omega (arith, count-under new items) in
    get_or-map (rule_under new) items k no_item none within'
    ∙ others (get_or items k no_item).key (keyed k no_item within') (differs k within')
    ∙ sym (get_or-map (rule_under old) items k no_item none within'))

-- a change under the key at one place changes the rule there
pub rules_under-at : (rules : List Rule) (items : List Item) (place : ℕ) (rule : Rule) → AreKeyed rules items → place < length items
    → ((k : ℕ) → k < length items → k ≢ place → (get_or items k no_item).key ≢ (get_or items place no_item).key)
    → rules_under (set rules (get_or items place no_item).key rule) items ≡ set (rules_under rules items) place rule
rules_under-at rules items place rule keyed within differs =
    let key : ℕ = (get_or items place no_item).key in
    same_lists _ _ (count-under (set rules key rule) items ∙ sym (length-set (rules_under rules items) place rule ∙ count-under rules items)) (λ k none to.
    let to' : k < length items = omega (arith, count-under (set rules key rule) items) in
    get_or-map (rule_under (set rules key rule)) items k no_item none to'
    ∙ elim (cases_eq k place) [
      | inl here ↦
          ap (λ (n : ℕ). get_or (set rules key rule) (get_or items n no_item).key no_rule) here
          ∙ get_or-set_same rules key rule no_rule (keyed place no_item within)
          ∙ sym (ap (λ (n : ℕ). get_or (set (rules_under rules items) place rule) n none) here ∙ get_or-set_same (rules_under rules items) place rule none (omega (arith, count-under rules items)))
      | inr away ↦
          get_or-set_other rules key (get_or items k no_item).key rule no_rule (differs k to' away)
          ∙ sym (get_or-set_other (rules_under rules items) place k rule none away ∙ get_or-map (rule_under rules) items k no_item none to')
    ])

-- what stays of free keys where the last one may be used
module _ (old : List Rule) (free : List ℕ) (new : List Rule) (freed : List ℕ) (key : ℕ) (rule : Rule) (puts : PutsRule old free new freed key rule) where
  pub freed-within : (k : ℕ) → k < length freed → k < length free
  freed-within k to =
      elim puts.fresh [
        | inl used ↦ let n = ap (length {A = ℕ}) used ∙ length-append freed (key ∷ []) in omega arith
        | inr next ↦ let n = ap (length {A = ℕ}) next.1 in absurd (omega arith)
      ]

  pub freed-read : (k none : ℕ) → k < length freed → get_or free k none ≡ get_or freed k none
  freed-read k none to =
      elim puts.fresh [
        | inl used ↦ ap (λ (keys : List ℕ). get_or keys k none) used ∙ get_or_append_left freed (key ∷ []) none k to
        | inr next ↦ let n = ap (length {A = ℕ}) next.1 in absurd (omega arith)
      ]

  pub freed-all : (P : ℕ → Type 0) → All P free → All P freed
  freed-all P all =
      All-from_get_or P freed 0 (λ k to.
      let here : P (get_or free k 0) = all k 0 (freed-within k to) in
      rw (freed-read k 0 to) at here)

  -- the key isn't that of an item
  pub key-fresh : (items : List Item) → AreKeyed old items → All (λ item. All (λ f. f ≡ item.key → ⊥) free) items → (k : ℕ) → k < length items → (get_or items k no_item).key ≢ key
  key-fresh items keyed apart k within same =
      elim puts.fresh [
        | inl used ↦
            let n = ap (length {A = ℕ}) used ∙ length-append freed (key ∷ []) in
            let last : get_or free (length freed) 0 ≡ key = ap (λ (keys : List ℕ). get_or keys (length freed) 0) used ∙ get_or_push freed key 0 (length freed) refl in
            apart k no_item within (length freed) 0 (omega arith) (last ∙ sym same)
        | inr next ↦
            let inside : (get_or items k no_item).key < length old = keyed k no_item within in
            let is = next.0 in
            absurd (omega arith)
      ]
