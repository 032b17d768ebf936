-- Where the drain of a commit stands: behind the words of the tables, which come first.
use Rattle.std.proofs.Common.{◌≡◌, ℕ, zero, suc, ◌+◌, ◌-◌, ◌≤◌, Bool, true, false, cond, List, [], ◌∷◌, ◌++◌, length, map, take, drop, Some, None, inl, inr, ◌⊎◌, ◌<◌, subst, refl, sym, ◌∙◌, ap, arith}
use Rattle.std.specs.Prelude.{◌&&◌, nat_eq, slice_get}
use Rattle.std.proofs.lemmas.Bool.{eq-eqb, ne_eqb}
use Rattle.std.proofs.lemmas.List.{length-append, length-map, length-take, length-drop}
use Rattle.std.proofs.lemmas.List.Sums.{sum_by-cons, count_by-le-length}
use Rattle.tcam_device.specs.declared.Write.{Write}
use Rattle.tcam_device.specs.declared.Action.{Action}
use Rattle.tcam_device.specs.declared.Action.TheVariants.{Written, Drained}
use Rattle.tcam_device.specs.Flight.{writes_in}
use Rattle.tcam_device.specs.Insertion.{is_table_write, table_writes}
use Rattle.commit_writes.specs.Actions.{with_drain}
use Rattle.commit_writes.proofs.WritesIn.{writes_of_commit}
use Rattle.commit_writes.proofs.SlotWrites.{AreToSlots, no_table}
use Rattle.commit_writes.proofs.TableWrites.{AreToTables}
use Rattle.batch_order.specs.Steps.{due_write, is_drain_next}
use Rattle.batch_order.specs.Turning.{has_drain, has_word}

pub count_table : (write : Write) (writes : List Write) → is_table_write write ≡ true → table_writes (write ∷ writes) ≡ suc (table_writes writes)
count_table write writes is =
    let step = sum_by-cons (λ w. cond (is_table_write w) 1 0) write writes in
    step ∙ ap (λ b. cond b 1 0 + table_writes writes) is ∙ (let e : 1 + table_writes writes ≡ suc (table_writes writes) = omega arith in e)

-- with n of the words dropped the others are left
pub drop_tables : (tables rest : List Write) → AreToTables tables → AreToSlots rest → (n : ℕ) → n ≤ length tables → table_writes (drop n (tables ++ rest)) ≡ length tables - n
drop_tables [] rest first behind n below = (let e : n ≡ 0 = omega arith in ap (λ k. table_writes (drop k rest)) e) ∙ no_table rest behind ∙ (let e : 0 ≡ 0 - n = omega arith in e)
drop_tables (write ∷ tables) rest first behind zero below =
    let same : table_writes (tables ++ rest) ≡ length tables - 0 = drop_tables tables rest first.1 behind 0 (omega arith) in
    let more : table_writes (write ∷ (tables ++ rest)) ≡ suc (table_writes (tables ++ rest)) = count_table write (tables ++ rest) first.0 in
    omega arith
drop_tables (write ∷ tables) rest first behind (suc n) below =
    let same : table_writes (drop n (tables ++ rest)) ≡ length tables - n = drop_tables tables rest first.1 behind n (omega arith) in
    omega arith

-- the first of some writes is a word, or none of them is
pub data AreTablesFirst (writes : List Write) : Type 0 where
  NoTable : table_writes writes ≡ 0 → AreTablesFirst writes
  OneTable : (write : Write) → (more : List Write) → writes ≡ write ∷ more → is_table_write write ≡ true → AreTablesFirst writes

-- so it is of those that are left of words and then writes of slots
pub tables_first : (tables rest : List Write) → AreToTables tables → AreToSlots rest → (n : ℕ) → AreTablesFirst (drop n (tables ++ rest))
tables_first [] rest first behind n = NoTable (slots_left rest behind n)
  where
    slots_left : (some : List Write) → AreToSlots some → (k : ℕ) → table_writes (drop k some) ≡ 0
    slots_left some all zero = no_table some all
    slots_left [] all (suc k) = refl
    slots_left (write ∷ some) all (suc k) = slots_left some all.1 k
tables_first (write ∷ tables) rest first behind zero = OneTable write (tables ++ rest) refl first.0
tables_first (write ∷ tables) rest first behind (suc n) = tables_first tables rest first.1 behind n

pub drained_next : (writes : List Write) → table_writes writes ≡ 0 → with_drain true writes ≡ Drained ∷ map Written writes
drained_next writes none = ap (λ k. map Written (take k writes) ++ Drained ∷ map Written (drop k writes)) none

pub drained_later : (write : Write) (writes : List Write) → is_table_write write ≡ true → with_drain true (write ∷ writes) ≡ Written write ∷ with_drain true writes
drained_later write writes is = ap (λ k. map Written (take k (write ∷ writes)) ++ Drained ∷ map Written (drop k (write ∷ writes))) (count_table write writes is)

-- the first of some writes comes first, where a drain to come finds it a word
pub action_first : (awaits : Bool) (write : Write) (writes : List Write) → (awaits ≡ true → is_table_write write ≡ true) → with_drain awaits (write ∷ writes) ≡ Written write ∷ with_drain awaits writes
action_first false write writes word = refl
action_first true write writes word = drained_later write writes (word refl)

-- a write that is due is the first of those that are left
pub record IsDue (awaits : Bool) (left : List Write) (write : Write) : Type 0 where
  pub more : List Write
  pub left_is : left ≡ write ∷ more
  pub actions_are : with_drain awaits left ≡ Written write ∷ with_drain awaits more
  pub word : awaits ≡ true → is_table_write write ≡ true

pub due_first : (awaits : Bool) (left : List Write) (write : Write) → AreTablesFirst left → due_write (with_drain awaits left) ≡ Some write → IsDue awaits left write
due_first false [] write first due = absurd (cc)
due_first false (one ∷ more) write first due =
    let same : one ≡ write = cc in
    record { more = more; left_is = ap (λ w. w ∷ more) same; actions_are = ap (λ w. Written w ∷ map Written more) same; word = λ is. absurd (cc) }
due_first true left write (NoTable none) due =
    let clash : None ≡ Some write = ap due_write (sym (drained_next left none)) ∙ due in absurd (cc)
due_first true left write (OneTable one more is word) due =
    let shape : with_drain true left ≡ Written one ∷ with_drain true more = ap (with_drain true) is ∙ drained_later one more word in
    let read : Some one ≡ Some write = ap due_write (sym shape) ∙ due in
    let same : one ≡ write = cc in
    record {
      more = more;
      left_is = is ∙ ap (λ w. w ∷ more) same;
      actions_are = shape ∙ ap (λ w. Written w ∷ with_drain true more) same;
      word = λ still. ap is_table_write (sym same) ∙ word;
    }

pub not_drained : (writes : List Write) → is_drain_next (map Written writes) ≡ false
not_drained [] = refl
not_drained (write ∷ writes) = refl

-- the drain is next exactly once all words are written
pub drains_when : (awaits : Bool) (left : List Write) → AreTablesFirst left → (made words : ℕ) → (awaits ≡ true → table_writes left ≡ words - made) → (awaits ≡ true → made ≤ words)
    → is_drain_next (with_drain awaits left) ≡ (awaits && nat_eq made words)
drains_when false left first made words count early = not_drained left
drains_when true left (NoTable none) made words count early =
    let less = early refl in
    let number = count refl in
    let same : made ≡ words = omega arith in
    ap is_drain_next (drained_next left none) ∙ sym (eq-eqb made words same)
drains_when true left (OneTable one more is word) made words count early =
    let shape : with_drain true left ≡ Written one ∷ with_drain true more = ap (with_drain true) is ∙ drained_later one more word in
    let number = count refl in
    let size : table_writes left ≡ suc (table_writes more) = ap table_writes is ∙ count_table one more word in
    ap is_drain_next shape ∙ sym (ne_eqb made words (λ same. absurd (omega arith)))

-- without a drain to come none is among the actions
pub has_drain_is : (awaits : Bool) (left : List Write) → has_drain (with_drain awaits left) ≡ false → awaits ≡ false
has_drain_is false left none = refl
has_drain_is true left none = let clash : true ≡ false = sym (found (take (table_writes left) left)) ∙ none in absurd (cc)
  where
    found : (before : List Write) → has_drain (map Written before ++ Drained ∷ map Written (drop (table_writes left) left)) ≡ true
    found [] = refl
    found (write ∷ before) = found before

-- with no word left none is among the actions
pub no_word : (writes : List Write) → table_writes writes ≡ 0 → has_word (map Written writes) ≡ false
no_word [] none = refl
no_word (write ∷ writes) none = go (is_table_write write) refl (λ fewer. no_word writes fewer)
  where
    counted : table_writes (write ∷ writes) ≡ cond (is_table_write write) 1 0 + table_writes writes
    counted = sum_by-cons (λ w. cond (is_table_write w) 1 0) write writes

    go : (b : Bool) → is_table_write write ≡ b → (table_writes writes ≡ 0 → has_word (map Written writes) ≡ false) → has_word (map Written (write ∷ writes)) ≡ false
    go true is behind = absurd (let more : table_writes (write ∷ writes) ≡ suc (table_writes writes) = count_table write writes is in omega arith)
    go false is behind =
        let same : table_writes (write ∷ writes) ≡ 0 + table_writes writes = counted ∙ ap (λ b. cond b 1 0 + table_writes writes) is in
        let rest : table_writes writes ≡ 0 = omega arith in
        ap (λ b. elim b [ true ↦ true | false ↦ has_word (map Written writes) ]) is ∙ behind rest

pub no_word_left : (awaits : Bool) (left : List Write) → table_writes left ≡ 0 → has_word (with_drain awaits left) ≡ false
no_word_left false left none = no_word left none
no_word_left true left none = ap has_word (drained_next left none) ∙ no_word left none

-- the first undo write is the next one
pub due_map : (undo : List Write) → due_write (map Written undo) ≡ slice_get undo 0
due_map [] = refl
due_map (write ∷ undo) = refl

-- a drain next is one to come
pub drain_next_is : (awaits : Bool) (left : List Write) → AreTablesFirst left → is_drain_next (with_drain awaits left) ≡ true → (awaits ≡ true) × (table_writes left ≡ 0)
drain_next_is false left first next = let clash : false ≡ true = sym (not_drained left) ∙ next in absurd (cc)
drain_next_is true left (NoTable none) next = (refl, none)
drain_next_is true left (OneTable one more is word) next =
    let shape : with_drain true left ≡ Written one ∷ with_drain true more = ap (with_drain true) is ∙ drained_later one more word in
    let clash : false ≡ true = ap is_drain_next (sym shape) ∙ next in absurd (cc)

-- how many actions these are, and that their writes are all of them
pub length_drain : (awaits : Bool) (writes : List Write) → length (with_drain awaits writes) ≤ length writes + 1
length_drain false writes = let size = length-map writes Written in omega arith
length_drain true writes =
    let count : table_writes writes ≤ length writes = count_by-le-length is_table_write writes in
    let whole = length-append (map Written (take (table_writes writes) writes)) (Drained ∷ map Written (drop (table_writes writes) writes)) in
    let front = length-map (take (table_writes writes) writes) Written in
    let back = length-map (drop (table_writes writes) writes) Written in
    let cut = length-take (table_writes writes) writes in
    let left = length-drop (table_writes writes) writes in
    omega arith

pub all_made : (awaits : Bool) (left : List Write) → with_drain awaits left ≡ [] → (awaits ≡ false) × (left ≡ [])
all_made false [] none = (refl, refl)
all_made false (write ∷ left) none = absurd (cc)
all_made true left none = absurd (some (take (table_writes left) left) none)
  where
    some : (before : List Write) → map Written before ++ Drained ∷ map Written (drop (table_writes left) left) ≡ [] → ⊥
    some [] is = cc
    some (write ∷ before) is = cc

pub writes_left_are : (awaits : Bool) (writes : List Write) → writes_in (with_drain awaits writes) ≡ writes
writes_left_are awaits writes = writes_of_commit awaits writes

-- a write is due unless the drain is next
pub due_is : (awaits : Bool) (left : List Write) → AreTablesFirst left → is_drain_next (with_drain awaits left) ≡ false → due_write (with_drain awaits left) ≡ slice_get left 0
due_is false [] first next = refl
due_is false (write ∷ left) first next = refl
due_is true left (NoTable none) next = let clash : true ≡ false = ap is_drain_next (sym (drained_next left none)) ∙ next in absurd (cc)
due_is true left (OneTable one more is word) next =
    let shape : with_drain true left ≡ Written one ∷ with_drain true more = ap (with_drain true) is ∙ drained_later one more word in
    ap due_write shape ∙ sym (ap (λ ws. slice_get ws 0) is)

pub due_none : (actions : List Action) → is_drain_next actions ≡ true → due_write actions ≡ None
due_none [] next = refl
due_none (Written write ∷ actions) next = let clash : false ≡ true = next in absurd (cc)
due_none (Drained ∷ actions) next = refl

-- the kind of a write among words and then writes of slots
pub kind_at : (tables rest : List Write) → AreToTables tables → AreToSlots rest → (k : ℕ) (write : Write) → slice_get (tables ++ rest) k ≡ Some write
    → ((is_table_write write ≡ true) × (k < length tables)) ⊎ ((is_table_write write ≡ false) × (length tables ≤ k))
kind_at [] rest first behind k write read = inr (slot_at rest behind k read, omega arith)
  where
    slot_at : (some : List Write) → AreToSlots some → (k : ℕ) → slice_get some k ≡ Some write → is_table_write write ≡ false
    slot_at [] all k read = absurd (let clash : None ≡ Some write = read in cc)
    slot_at (one ∷ some) all zero read = let same : one ≡ write = cc in subst (λ w. is_table_write w ≡ false) same all.0
    slot_at (one ∷ some) all (suc k) read = slot_at some all.1 k read
kind_at (one ∷ tables) rest first behind zero write read = let same : one ≡ write = cc in inl (subst (λ w. is_table_write w ≡ true) same first.0, omega arith)
kind_at (one ∷ tables) rest first behind (suc k) write read = elim (kind_at tables rest first.1 behind k write read) [
  | inl is ↦ inl (is.0, omega arith)
  | inr is ↦ inr (is.0, omega arith)
]
