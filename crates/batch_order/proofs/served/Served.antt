-- Each key is served from the first write of a commit to its last.
use Rattle.std.proofs.Common.{◌≡◌, ℕ, zero, suc, ◌⊎◌, List, [], ◌∷◌, ◌++◌, take, Some, None, Option, refl, sym, ap, subst, ◌∙◌, append-nil, append_assoc, inl, inr}
use Rattle.std.proofs.lemmas.List.Sums.{fold-append}
use Rattle.rule_model.specs.declared.Rule.{Rule}
use Rattle.tcam_device.specs.declared.Write.{Write}
use Rattle.tcam_device.specs.State.{State, apply, blank, replay, state_after}
use Rattle.tcam_device.specs.Hitless.{ShowsOldOrNew}
use Rattle.batch_order.specs.Managed.{HeldCommit, Serves}
use Rattle.batch_order.specs.CarriedOut.{IsServed, ahead_of}

-- what a manager serves is the old rules or those ahead
pub either : (state : State) (rules : List Rule) (held : Option HeldCommit) → Serves state rules held → ShowsOldOrNew state rules (ahead_of held rules)
either state rules None serves = λ key right. inl (serves key right)
either state rules (Some held) serves = serves

-- before the first write
pub at-first : (device_slots : ℕ) (before : List Write) (old new : List Rule) → ShowsOldOrNew (replay device_slots before) old new → IsServed device_slots before before old new
at-first device_slots before old new shows = record { written = []; since = sym (append-nil before); during = during }
  where
    during : (n : ℕ) → ShowsOldOrNew (state_after (replay device_slots before) (take n [])) old new
    during zero = shows
    during (suc n) = shows

take-more : (n : ℕ) (writes : List Write) (write : Write) → (take n (writes ++ write ∷ []) ≡ take n writes) ⊎ (take n (writes ++ write ∷ []) ≡ writes ++ write ∷ [])
take-more zero [] write = inl refl
take-more zero (first ∷ writes) write = inl refl
take-more (suc zero) [] write = inr refl
take-more (suc (suc n)) [] write = inr refl
take-more (suc n) (first ∷ writes) write = elim (take-more n writes write) [
  | inl is ↦ inl (ap (λ (rest : List Write). first ∷ rest) is)
  | inr is ↦ inr (ap (λ (rest : List Write). first ∷ rest) is)
]

-- one write more
pub more : (device_slots : ℕ) (before now now' : List Write) (old new : List Rule) (write : Write) → IsServed device_slots before now old new → now' ≡ now ++ write ∷ []
    → ShowsOldOrNew (replay device_slots now') old new → IsServed device_slots before now' old new
more device_slots before now now' old new write was is shows =
    let writes : List Write = was.written ++ write ∷ [] in
    let since : now' ≡ before ++ writes = is ∙ (ap (λ (j : List Write). j ++ write ∷ []) was.since ∙ append_assoc before was.written (write ∷ [])) in
    let state : replay device_slots now' ≡ state_after (replay device_slots before) writes = ap (replay device_slots) since ∙ fold-append apply (blank device_slots) before writes in
    record {
      written = writes;
      since = since;
      during = λ n. elim (take-more n was.written write) [
        | inl same ↦ subst (λ (w : List Write). ShowsOldOrNew (state_after (replay device_slots before) w) old new) (sym same) (was.during n)
        | inr all ↦ subst (λ (w : List Write). ShowsOldOrNew (state_after (replay device_slots before) w) old new) (sym all) (subst (λ (s : State). ShowsOldOrNew s old new) state shows)
      ];
    }
