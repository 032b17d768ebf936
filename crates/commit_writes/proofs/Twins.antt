-- A device that mirrors an arrangement in which at most one id stands twice has at most one twin.
use Rattle.std.proofs.Common.{◌≡◌, ℕ, ◌<◌, true, Option, Some, List, inl, inr, ◌⊎◌, sym, ◌∙◌, subst, ap, arith}
use Rattle.slot_order.specs.Order.{slot}
use Rattle.slot_moves.proofs.Copies.{AtMostOneTwice}
use Rattle.slot_order.proofs.Images.{entries, slot_entries, stands_for}
use Rattle.slot_pool.specs.Arrangement.{Slots}
use Rattle.rule_model.specs.declared.words.Entry.{Entry}
use Rattle.rule_model.specs.Entry.{RankedPiece, same_match}
use Rattle.placement.proofs.Chain.{AllKnown}
use Rattle.tcam_device.specs.Order.{AreAlike, HasOneTwin}
use Rattle.commit_writes.proofs.Mirror.{entry_by, MatchApart}

-- on a device that mirrors ids, of which at most one stands twice, at most one slot is a twin
module _ (piece : ℕ → RankedPiece) (Known : ℕ → Type 0) (d : Slots) (slots : List (Option Entry)) (apart : MatchApart piece Known) (all : AllKnown Known d) (same : slots ≡ entries (entry_by piece) d) where
  -- two slots that hold one piece hold one id
  record OneId (i j : ℕ) : Type 0 where
    id : ℕ
    here : slot d i ≡ Some id
    there : slot d j ≡ Some id

  one_id : (i j : ℕ) → (w : AreAlike slots i j) → OneId i j × (w.first ≡ w.second)
  one_id i j w =
      let a = stands_for (entry_by piece) (slot d i) w.first (sym (slot_entries (entry_by piece) d i) ∙ (ap (λ xs. slot xs i) (sym same) ∙ w.here)) in
      let b = stands_for (entry_by piece) (slot d j) w.second (sym (slot_entries (entry_by piece) d j) ∙ (ap (λ xs. slot xs j) (sym same) ∙ w.there)) in
      let one : a.id ≡ b.id = apart a.id b.id (all i a.id a.is) (all j b.id b.is) (subst (λ e. same_match e (entry_by piece b.id) ≡ true) (sym a.same) (subst (λ e. same_match w.first e ≡ true) (sym b.same) w.same)) in
      (record { id = b.id; here = a.is ∙ ap Some one; there = b.is }, sym a.same ∙ (ap (entry_by piece) one ∙ b.same))

  pub mirrors_few : AtMostOneTwice d → HasOneTwin slots
  mirrors_few few = record {
    one = λ a b is_a is_b. go few a b is_a.0 is_b.0 is_a.1.less is_b.1.less (one_id is_a.0 a is_a.1).0 (one_id is_b.0 b is_b.1).0;
    equal = λ lesser at w. ap (λ (e : Entry). e.result) (one_id lesser at w).1;
  }
    where
      go : AtMostOneTwice d → (a b i j : ℕ) → i < a → j < b → OneId i a → OneId j b → a ≡ b
      go (inl once) a b i j less more x y = absurd (let e : i ≡ a = once i a x.id x.here x.there in omega arith)
      go (inr (s, e, two)) a b i j less more x y = elim (two.others i a x.id x.here x.there) [
        | inl k ↦ absurd (omega arith)
        | inr xe ↦ elim (two.others j b y.id y.here y.there) [
          | inl k ↦ absurd (omega arith)
          | inr ye ↦ pick (two.only i (x.here ∙ ap Some xe)) (two.only a (x.there ∙ ap Some xe)) (two.only j (y.here ∙ ap Some ye)) (two.only b (y.there ∙ ap Some ye))
        ]
      ]
        where
          pick : (i ≡ s) ⊎ (i ≡ two.twin) → (a ≡ s) ⊎ (a ≡ two.twin) → (j ≡ s) ⊎ (j ≡ two.twin) → (b ≡ s) ⊎ (b ≡ two.twin) → a ≡ b
          pick p q u v = elim p [
            | inl pi ↦ elim q [
              | inl qa ↦ absurd (omega arith)
              | inr qa ↦ elim u [
                | inl uj ↦ elim v [ inl vb ↦ absurd (omega arith) | inr vb ↦ qa ∙ sym vb ]
                | inr uj ↦ elim v [ inl vb ↦ absurd (omega arith) | inr vb ↦ qa ∙ sym vb ]
              ]
            ]
            | inr pi ↦ elim q [
              | inr qa ↦ absurd (omega arith)
              | inl qa ↦ elim u [
                | inl uj ↦ elim v [ inl vb ↦ qa ∙ sym vb | inr vb ↦ absurd (omega arith) ]
                | inr uj ↦ elim v [ inl vb ↦ qa ∙ sym vb | inr vb ↦ absurd (omega arith) ]
              ]
            ]
          ]
