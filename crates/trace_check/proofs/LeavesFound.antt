-- What the calls find of a piece that is to leave its slot.
use Rattle.std.proofs.Common.{◌≡◌, ◌≢◌, ℕ, Bool, false, true, IsTrue, IsFalse, IsNone, Option, Some, None, List, Contains, is_some, inl, inr, refl, sym, subst, ap, ◌∙◌}
use Rattle.std.specs.Prelude.{IfSome, ◌↔◌, option_map}
use Rattle.std.proofs.lemmas.Bool.{both_ways}
use Rattle.slot_order.specs.Order.{slot}
use Rattle.rule_model.specs.declared.words.Entry.{Entry}
use Rattle.rule_model.specs.Entry.{RankedPiece, entry_for, same_match}
use Rattle.trace_check.specs.declared.commit.Commit.{Commit}
use Rattle.trace_check.specs.Coming.{MayLeave}
use Rattle.trace_check.specs.Local.{HoldsPiece}

-- another slot holds a copy
abbrev pub IsCopyOf : List (Option RankedPiece) → ℕ → Entry → ℕ → Type 0
IsCopyOf places at entry other = (other ≢ at) × ((copy : RankedPiece) × (slot places other ≡ Some copy) × IsTrue (same_match entry (entry_for copy)))

module _ (commit : Commit) (places : List (Option RankedPiece)) (at : ℕ) (content : Option RankedPiece) (x : RankedPiece) (entry : Entry) (is : entry ≡ entry_for x) where
  pub leaves_copied : (found : Option ℕ) → IfSome found (λ (other : ℕ). IsCopyOf places at entry other) → IsTrue (is_some found) → MayLeave commit places at content x
  leaves_copied None some true_is = absurd (let bad : false ≡ true = true_is in cc)
  leaves_copied (Some other) some true_is = inr (inl (other, some.0, (some.1.0, some.1.1, subst (λ (e : Entry). IsTrue (same_match e (entry_for some.1.0))) is some.1.2)))

  pub leaves_listed : (pieces : List RankedPiece) (found : Bool) → IsTrue found ↔ ((y : RankedPiece) × Contains pieces y × IsTrue (same_match (entry_for y) entry)) → IsTrue found
      → (y : RankedPiece) × Contains pieces y × IsTrue (same_match (entry_for y) (entry_for x))
  leaves_listed pieces found are true_is = let w = are.0 true_is in (w.0, w.1, subst (λ (e : Entry). IsTrue (same_match (entry_for w.0) e)) is w.2)

  -- nothing of it was found
  pub stays_put : (again : Bool) → IsTrue again ↔ HoldsPiece (option_map entry_for content) x → IsFalse again
      → (found : Option ℕ) → (IsNone found → (other : ℕ) (copy : RankedPiece) → other ≢ at → slot places other ≡ Some copy → IsTrue (same_match entry (entry_for copy)) → ⊥) → IsFalse (is_some found)
      → (erased : Bool) → IsTrue erased ↔ ((y : RankedPiece) × Contains commit.erased.items y × IsTrue (same_match (entry_for y) entry)) → IsFalse erased
      → (inserted : Bool) → IsTrue inserted ↔ ((y : RankedPiece) × Contains commit.inserted.items y × IsTrue (same_match (entry_for y) entry)) → IsFalse inserted
      → MayLeave commit places at content x → ⊥
  stays_put again holds not_again found none not_found erased are_erased not_erased inserted are_inserted not_inserted (inl held) = both_ways again not_again (holds.1 held)
  stays_put again holds not_again (Some other) none not_found erased are_erased not_erased inserted are_inserted not_inserted (inr (inl copied)) = let bad : true ≡ false = not_found in cc
  stays_put again holds not_again None none not_found erased are_erased not_erased inserted are_inserted not_inserted (inr (inl copied)) =
      none refl copied.0 copied.2.0 copied.1 copied.2.1 (subst (λ (e : Entry). IsTrue (same_match e (entry_for copied.2.0))) (sym is) copied.2.2)
  stays_put again holds not_again found none not_found erased are_erased not_erased inserted are_inserted not_inserted (inr (inr (y, inl member, match))) =
      both_ways erased not_erased (are_erased.1 (y, member, subst (λ (e : Entry). IsTrue (same_match (entry_for y) e)) (sym is) match))
  stays_put again holds not_again found none not_found erased are_erased not_erased inserted are_inserted not_inserted (inr (inr (y, inr member, match))) =
      both_ways inserted not_inserted (are_inserted.1 (y, member, subst (λ (e : Entry). IsTrue (same_match (entry_for y) e)) (sym is) match))

-- what comes is of the piece that stood
pub again_is : (x y : RankedPiece) (content : Option RankedPiece) → content ≡ Some y → (found : Bool) → found ≡ same_match (entry_for x) (entry_for y) → IsTrue found ↔ HoldsPiece (option_map entry_for content) x
again_is x y content is found test = (
  λ so. (entry_for y, ap (option_map entry_for) is, sym test ∙ so),
  λ h. test ∙ subst (λ (e : Entry). IsTrue (same_match (entry_for x) e)) (sym (one h.0 (sym (ap (option_map entry_for) is) ∙ h.1))) h.2,
)
  where
    one : (e : Entry) → Some (entry_for y) ≡ Some e → entry_for y ≡ e
    one e same = cc
