-- The groups of slots: of a blank device, behind a write, and that all slots that hold an entry are in one.
use Rattle.std.proofs.Common.{◌≡◌, ◌≢◌, ℕ, ◌+◌, ◌*◌, ◌/◌, ◌%◌, ◌^◌, ◌<◌, IsTrue, Option, Some, None, List, [], ◌∷◌, ◌++◌, Contains, length, replicate, get_or, set, inl, inr, refl, sym, ◌∙◌, ap, ap₂, subst, get_or-set_same, get_or-set_other}
use Rattle.std.specs.Prelude.{◌==◌, filter, not, slice_index, slice_set}
use Rattle.std.proofs.lemmas.Bool.{cases_eq, ne_eqb}
use Rattle.std.proofs.lemmas.List.{get_or_default}
use Rattle.std.proofs.lemmas.List.Elements.{Contains-append_left, Contains-push}
use Rattle.slot_order.specs.Order.{slot}
use Rattle.slot_order.proofs.Lists.{filter_in}
use Rattle.slot_order.proofs.Writes.{slot_other, put_here}
use Rattle.rule_model.specs.declared.words.Entry.{Entry}
use Rattle.rule_model.specs.Entry.{RankedPiece, entry_for, same_match}
use Rattle.readback.proofs.Matches.{match_is}
use Rattle.trace_check.specs.Groups.{AreGroupsOf, IsListed, group_count, group_of, tag_sum}
use Rattle.trace_check.proofs.ColumnsKept.{nothing_stands}

-- any groups are right where no slot has a piece
pub blank_groups : (slots : ℕ) (pieces : List (Option RankedPiece)) (groups : List (List ℕ)) → pieces ≡ replicate slots None → length groups ≡ group_count → AreGroupsOf pieces groups
blank_groups slots pieces groups none size = record {
  size = size;
  listed = λ at x there. absurd (nothing_stands slots at x (subst (λ (held : List (Option RankedPiece)). slot held at ≡ Some x) none there));
}

-- what groups list where the slots of one are others
pub listed_behind : (groups : List (List ℕ)) (group : ℕ) (row next : List ℕ) → group < length groups → row ≡ get_or groups group row → (other k : ℕ) → (other ≡ group → Contains row k → Contains next k)
    → IsListed groups other k → IsListed (set groups group next) other k
listed_behind groups group row next inside read other k keeps was = elim (cases_eq other group) [
  | inl same ↦
      let before : get_or groups other [] ≡ row = ap (λ g. get_or groups g []) same ∙ (get_or_default groups group [] row inside ∙ sym read) in
      let behind : get_or (set groups group next) other [] ≡ next = ap (λ g. get_or (set groups group next) g []) same ∙ get_or-set_same groups group next [] inside in
      subst (λ (r : List ℕ). Contains r k) (sym behind) (keeps same (subst (λ (r : List ℕ). Contains r k) before was))
  | inr apart ↦ subst (λ (r : List ℕ). Contains r k) (sym (get_or-set_other groups group other next [] apart)) was
]

-- a slot more
pub listed_more : (groups : List (List ℕ)) (group at : ℕ) (row : List ℕ) → group < length groups → row ≡ get_or groups group row → (other k : ℕ) → IsListed groups other k
    → IsListed (set groups group (row ++ at ∷ [])) other k
listed_more groups group at row inside read other k was =
    listed_behind groups group row (row ++ at ∷ []) inside read other k (λ same held. Contains-append_left row (at ∷ []) k held) was

pub listed_here : (groups : List (List ℕ)) (group at : ℕ) (row : List ℕ) → group < length groups → IsListed (set groups group (row ++ at ∷ [])) group at
listed_here groups group at row inside =
    subst (λ (r : List ℕ). Contains r at) (sym (get_or-set_same groups group (row ++ at ∷ []) [] inside)) (Contains-push row at)

-- and one less
pub listed_less : (groups : List (List ℕ)) (group at : ℕ) (row : List ℕ) → group < length groups → row ≡ get_or groups group row → (other k : ℕ) → (other ≡ group → k ≢ at) → IsListed groups other k
    → IsListed (set groups group (filter (λ slot. not (slot == at)) row)) other k
listed_less groups group at row inside read other k apart was =
    listed_behind groups group row (filter (λ slot. not (slot == at)) row) inside read other k
    (λ same held. filter_in (λ slot. not (slot == at)) row k held (ap not (ne_eqb k at (apart same)))) was

-- behind a write of one slot, where the others are listed as before
module _ (pieces : List (Option RankedPiece)) (groups next : List (List ℕ)) (at : ℕ) (content : Option RankedPiece) (goes comes : Option ℕ) where
  stood : (group : ℕ) (before : Option RankedPiece) → AreGroupsOf pieces groups → slot pieces at ≡ before → (before ≡ None → goes ≡ None) → ((x : RankedPiece) → before ≡ Some x → goes ≡ Some (group_of (entry_for x)))
      → goes ≡ Some group → IsListed groups group at
  stood group None was there none some same = absurd (let bad : None ≡ Some group = sym (none refl) ∙ same in cc)
  stood group (Some x) was there none some same =
      let one : group_of (entry_for x) ≡ group = some_is (group_of (entry_for x)) group (sym (some x refl) ∙ same) in
      subst (λ (g : ℕ). IsListed groups g at) one (was.listed at x there)
    where
      some_is : (a b : ℕ) → Some a ≡ Some b → a ≡ b
      some_is a b is = cc

  pub set_groups : at < length pieces → AreGroupsOf pieces groups → length next ≡ length groups
      → ((group k : ℕ) → k ≢ at → IsListed groups group k → IsListed next group k)
      → ((group : ℕ) → comes ≡ Some group → (goes ≡ Some group → IsListed groups group at) → IsListed next group at)
      → (slot pieces at ≡ None → goes ≡ None) → ((x : RankedPiece) → slot pieces at ≡ Some x → goes ≡ Some (group_of (entry_for x)))
      → ((x : RankedPiece) → content ≡ Some x → comes ≡ Some (group_of (entry_for x)))
      → AreGroupsOf (slice_set pieces at content) next
  set_groups inside was size others here none some comes_is = record {
    size = size ∙ was.size;
    listed = λ k x there. elim (cases_eq k at) [
      | inl same ↦ subst (λ (n : ℕ). IsListed next (group_of (entry_for x)) n) (sym same)
          (here (group_of (entry_for x)) (comes_is x (put_here pieces at content k x inside same there)) (stood (group_of (entry_for x)) (slot pieces at) was refl none some))
      | inr other ↦ others (group_of (entry_for x)) k other (was.listed k x (sym (slot_other pieces at content k other) ∙ there))
    ];
  }

-- entries of one value and tag are in one group
pub one_group : (a b : Entry) → IsTrue (same_match a b) → group_of a ≡ group_of b
one_group a b match = let alike = match_is a b match in
    ap₂ (λ (tag : ℕ) (lane : List ℕ). (tag_sum tag + slice_index lane 8 * 165902235) / 2 ^ 20 % group_count) alike.tag alike.value

-- so a slot that holds an entry is in its group
pub alike_listed : (pieces : List (Option RankedPiece)) (groups : List (List ℕ)) (entry : Entry) (row : List ℕ) (at : ℕ) (x : RankedPiece) → AreGroupsOf pieces groups → group_of entry < group_count
    → row ≡ get_or groups (group_of entry) row → slot pieces at ≡ Some x → IsTrue (same_match entry (entry_for x)) → Contains row at
alike_listed pieces groups entry row at x are inside read there match =
    subst (λ (r : List ℕ). Contains r at) (get_or_default groups (group_of entry) [] row (subst (λ (n : ℕ). group_of entry < n) (sym are.size) inside) ∙ sym read)
    (subst (λ (g : ℕ). IsListed groups g at) (sym (one_group entry (entry_for x) match)) (are.listed at x there))
