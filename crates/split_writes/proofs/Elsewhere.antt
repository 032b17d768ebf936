-- An insertion puts an entry over another one only where that one stands in another slot too: so its slot can be erased
-- first, and the device stays in order for the same pieces.
use Rattle.std.proofs.Common.{◌≡◌, ℕ, ◌≤◌, suc, true, false, Option, None, Some, List, [], ◌∷◌, ◌++◌, length, take, set, Contains, inl, inr, sym, ◌∙◌, subst, arith}
use Rattle.std.proofs.lemmas.Bool.{cases_eq}
use Rattle.std.proofs.lemmas.List.Elements.{Contains-append_left, Contains-append_right, Contains-append_cases}
use Rattle.slot_order.specs.Order.{slot}
use Rattle.slot_order.proofs.Lists.{contains_take, take_contains}
use Rattle.slot_order.proofs.Writes.{slot_same, slot_other, slot_inside}
use Rattle.rule_model.specs.declared.words.Entry.{Entry}
use Rattle.rule_model.specs.Entry.{RankedPiece, entry_for, same_match}
use Rattle.tcam_device.specs.declared.Write.{Write}
use Rattle.tcam_device.specs.declared.Write.TheVariants.{Slot, Table}
use Rattle.tcam_device.specs.State.{State, apply, state_after}
use Rattle.tcam_device.specs.Order.{IsOrdered}
use Rattle.tcam_device.proofs.One.{same_match-same}
use Rattle.split_writes.proofs.Through.{HoldsWithin, HoldsOfErased}

-- with the slot erased the others hold what they did
other_slot : (slots : List (Option Entry)) (at place : ℕ) (standing held : Entry) → slot slots at ≡ Some standing → slot (set slots at None) place ≡ Some held → slot slots place ≡ Some held
other_slot slots at place standing held stands is = elim (cases_eq place at) [
  | inr other ↦ sym (slot_other slots at None place other) ∙ is
  | inl here ↦ absurd (
      let empty : slot (set slots at None) place ≡ None = subst (λ i. slot (set slots at None) i ≡ None) (sym here) (slot_same slots at None (slot_inside slots at standing stands)) in
      let wrong : None ≡ Some held = sym empty ∙ is in cc)
]

pub erased_ordered : (state : State) (Member Later : RankedPiece → Type 0) (at : ℕ) (entry standing : Entry)
    → IsOrdered state Member → IsOrdered (apply state (Slot at (Some entry))) Later → ((ranked : RankedPiece) → Member ranked → Later ranked)
    → slot state.slots at ≡ Some standing → same_match entry standing ≡ false → IsOrdered (apply state (Slot at None)) Member
erased_ordered state Member Later at entry standing before after stays stands differ = record {
  known = λ place held is. before.known place held (other_slot state.slots at place standing held stands is);
  complete = λ ranked member. let w = before.complete ranked member in elim (cases_eq w.0 at) [
    | inr away ↦ (w.0, slot_other state.slots at None w.0 away ∙ w.1)
    | inl here ↦ let v = after.complete ranked (stays ranked member) in elim (cases_eq v.0 at) [
      | inr away ↦ (v.0, slot_other state.slots at None v.0 away ∙ (sym (slot_other state.slots at (Some entry) v.0 away) ∙ v.1))
      | inl same ↦ absurd (
          let was : Some standing ≡ Some (entry_for ranked) = sym stands ∙ subst (λ i. slot state.slots i ≡ Some (entry_for ranked)) here w.1 in
          let now : Some entry ≡ Some (entry_for ranked) =
          sym (slot_same state.slots at (Some entry) (slot_inside state.slots at standing stands)) ∙ subst (λ i. slot (set state.slots at (Some entry)) i ≡ Some (entry_for ranked)) same v.1 in
          let one : entry ≡ standing = cc in
          let yes : same_match entry standing ≡ true = subst (λ e. same_match entry e ≡ true) one (same_match-same entry) in
          let wrong : true ≡ false = sym yes ∙ differ in cc)
    ]
  ];
  order = λ i j first second less a b here there.
      before.order i j first second less a b (other_slot state.slots at i standing (entry_for first) stands here) (other_slot state.slots at j standing (entry_for second) stands there);
}

-- what is among the first of a list is among more of them
among_more : {X : Type 0} (few many : ℕ) (xs : List X) (x : X) → few ≤ many → Contains (take few xs) x → Contains (take many xs) x
among_more few many xs x more member = let w = contains_take few xs x member in let early = w.1 in take_contains many xs x w.0 (omega arith) w.2 w.3

-- the old pieces and the first of the inserted ones
abbrev pub First : List RankedPiece → List RankedPiece → ℕ → RankedPiece → Type 0
First old added count = Contains (old ++ take count added)

first_more : (old added : List RankedPiece) (few many : ℕ) (ranked : RankedPiece) → few ≤ many → First old added few ranked → First old added many ranked
first_more old added few many ranked more member = elim (Contains-append_cases old (take few added) ranked member) [
  | inl was ↦ Contains-append_left old (take many added) ranked was
  | inr put ↦ Contains-append_right old (take many added) ranked (among_more few many added ranked more put)
]

-- before and after each write the device is in order for the old pieces and the first of the inserted ones,
abbrev pub InOrderAlong : List RankedPiece → List RankedPiece → State → List Write → Type 0
InOrderAlong old added state writes = (n : ℕ) → n ≤ length writes → (count : ℕ) × IsOrdered (state_after state (take n writes)) (First old added count)

-- and their number never falls
abbrev pub NeverFalls : (old added : List RankedPiece) (state : State) (writes : List Write) → InOrderAlong old added state writes → Type 0
NeverFalls old added state writes orders = (n : ℕ) (now : n ≤ length writes) (next : suc n ≤ length writes) → (orders n now).0 ≤ (orders (suc n) next).0

-- a state in order for them
abbrev pub IsEarly : List RankedPiece → List RankedPiece → State → Type 0
IsEarly old added state = (count : ℕ) × IsOrdered state (First old added count)

one_within : (old added : List RankedPiece) (state : State) (write : Write) (now next : ℕ) → IsOrdered state (First old added now) → IsOrdered (apply state write) (First old added next) → now ≤ next
    → HoldsWithin (IsEarly old added) state write
one_within old added state (Slot at None) now next before after more = tt
one_within old added state (Slot at (Some entry)) now next before after more = λ standing stands differ.
    (now, erased_ordered state (First old added now) (First old added next) at entry standing before after (λ ranked member. first_more old added now next ranked more member) stands differ)
one_within old added state (Table field port word) now next before after more = tt

-- so wherever one needs an erase the device is in order for them
pub insertions_erased : (old added : List RankedPiece) (state : State) (writes : List Write) (orders : InOrderAlong old added state writes) → NeverFalls old added state writes orders
    → HoldsOfErased (IsEarly old added) state writes
insertions_erased old added state [] orders rises = tt
insertions_erased old added state (write ∷ writes) orders rises =
    let none : 0 ≤ length (write ∷ writes) = omega arith in
    let one : 1 ≤ length (write ∷ writes) = omega arith in
    let next : (n : ℕ) → n ≤ length writes → suc n ≤ length (write ∷ writes) = λ n within. omega arith in (
      one_within old added state write (orders 0 none).0 (orders 1 one).0 (orders 0 none).1 (orders 1 one).1 (rises 0 none one),
      insertions_erased old added (apply state write) writes (λ n within. orders (suc n) (next n within)) (λ n now later. rises (suc n) (next n now) (next (suc n) later)),
    )
