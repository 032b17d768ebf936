-- Going on from a stage: each of the writes leads to a stage, and the last to one with no task left.
use Rattle.std.proofs.Common.{◌≡◌, ℕ, zero, suc, ◌+◌, ◌-◌, ◌≤◌, true, false, Option, None, Some, List, [], ◌∷◌, ◌++◌, length, map, take, drop, filter, Contains, inl, inr, refl, sym, ◌∙◌, subst, ap, arith, le_refl}
use Rattle.std.specs.Prelude.{AllPairs, flat_map}
use Rattle.std.specs.List.{AllZip, filter_map}
use Rattle.std.proofs.lemmas.Bool.{cases_lt}
use Rattle.std.proofs.lemmas.List.{take-append-le, take-append-drop, take_all}
use Rattle.std.proofs.lemmas.List.Elements.{Contains-append_right, filter_map-append}
use Rattle.std.proofs.Math.Seq.{take-append-add}
use Rattle.slot_order.proofs.Lists.{contains_head}
use Rattle.rule_model.specs.Entry.{RankedPiece, entry_for}
use Rattle.tcam_device.specs.declared.Write.{Write}
use Rattle.tcam_device.specs.State.{State, state_after}
use Rattle.tcam_device.specs.Order.{IsOrdered}
use Rattle.tcam_device.specs.Insertion.{Insertion, insertions}
use Rattle.tcam_device.proofs.Spans.{state_after-append}
use Rattle.commit_writes.specs.Bits.{FieldBits}
use Rattle.commit_writes.specs.Shape.{Rewrites, Erases}
use Rattle.commit_writes.proofs.Members.{pairs_behind, pairs_across}
use Rattle.readback.specs.Tasks.{CommitPieces, Task, Insert, Rewrite, Erase, IsStanding}
use Rattle.readback.specs.Stage.{IsStageAt, IsTwinSlot}
use Rattle.commit_writes.specs.Serving.{AreTranslated}
use Rattle.readback.specs.Going.{twin_writes, inserted_by, rewritten_by, erased_by}
use Rattle.readback.specs.Laws.{KeepsRest}
use Rattle.readback.proofs.Facts.{ArePieces}
use Rattle.readback.proofs.Rewriting.{HasNoTwin}
use Rattle.readback.proofs.Twins.{untwinned, alone_then}
use Rattle.readback.proofs.Inserting.{first_inserts, other_tasks, inserting, insert_left}
use Rattle.readback.proofs.Finishing.{IsEnded, some_told, all_told}
use Rattle.readback.proofs.Shows.{InOrder, LeadTo, any_insert}
use Rattle.readback.proofs.Parted.{parted, no_rewrites, no_erases, no_inserts, all_rewrites, all_erases, filter-all}

-- The writes behind the table words, from a state without a twin on, where these tasks are left.
pub record AreRest (p : CommitPieces) (start : State) (left : List Task) (inserted rewritten erased : List Write) : Type 0 where
  pub whole : flat_map (λ insertion. insertion.writes) (insertions start inserted) ≡ inserted
  pub entries : map (λ insertion. insertion.entry) (insertions start inserted) ≡ map entry_for (filter_map inserted_by left)
  pub results : AllZip (Rewrites (state_after start inserted)) (filter_map rewritten_by left) rewritten
  pub erases : AllZip (Erases (state_after (state_after start inserted) rewritten)) (filter_map erased_by left) erased

module _ (slots : ℕ) (before during : FieldBits) (p : CommitPieces) (new : List RankedPiece) (facts : ArePieces p) (leads : LeadTo p new)
    (start : State) (done left : List Task) (inserted rewritten erased : List Write)
    (translated : (n : ℕ) → AreTranslated (state_after start (take n inserted)) before × AreTranslated (state_after start (take n inserted)) during)
    (stage : IsStageAt slots before during p start done left) (alone : HasNoTwin start) (rest : AreRest p start left inserted rewritten erased) (keeps : KeepsRest slots p start left inserted) where
  abbrev base : State
  base = state_after start inserted

  ordered_left : AllPairs InOrder left
  ordered_left = pairs_behind InOrder done left (subst (AllPairs InOrder) stage.parts leads.in_order)

  -- without an insertion left the base is the start,
  no_writes : ((x : RankedPiece) → Contains left (Insert x) → ⊥) → inserted ≡ []
  no_writes none =
      sym rest.whole ∙ ap (λ (made : List Insertion). flat_map (λ (one : Insertion). one.writes) made)
      (empty (insertions start inserted) (rest.entries ∙ ap (map entry_for) (no_inserts left none)))
    where
      empty : (made : List Insertion) → map (λ (one : Insertion). one.entry) made ≡ [] → made ≡ []
      empty [] same = refl
      empty (one ∷ made) same = absurd (cc)

  base_same : ((x : RankedPiece) → Contains left (Insert x) → ⊥) → IsStageAt slots before during p base done (map Rewrite (filter_map rewritten_by left) ++ map Erase (filter_map erased_by left))
  base_same none =
      subst (λ writes. IsStageAt slots before during p (state_after start writes) done (map Rewrite (filter_map rewritten_by left) ++ map Erase (filter_map erased_by left))) (sym (no_writes none))
      (subst (IsStageAt slots before during p start done) (parted left ordered_left ∙ ap (λ some. map Insert some ++ (map Rewrite (filter_map rewritten_by left) ++ map Erase (filter_map erased_by left))) (no_inserts left none)) stage)

  -- and with one all other tasks are left there
  early : (n k : ℕ) → n ≤ length inserted → IsOrdered (state_after start (take n inserted)) (Contains (p.old ++ take k p.inserted)) → IsStageAt slots before during p (state_after start (take n inserted)) (first_inserts p k) (other_tasks p k)
  early n k short ordered =
      inserting slots before during p facts (state_after start (take n inserted)) k (keeps.unused n short) (translated n).0 (λ x member stands. (translated n).1) (keeps.twins n short) ordered

  at_base : state_after start (take (length inserted) inserted) ≡ base
  at_base = ap (state_after start) (take_all (length inserted) inserted (le_refl (length inserted)))

  all_in : (k : ℕ) → IsOrdered (state_after start (take (length inserted) inserted)) (Contains (p.old ++ take k p.inserted)) → drop k p.inserted ≡ []
  all_in k ordered = go (drop k p.inserted) (λ x member. insert_left slots before during p facts (state_after start (take (length inserted) inserted)) k
      (keeps.unused (length inserted) (le_refl (length inserted))) (translated (length inserted)).0 (λ y is stands. (translated (length inserted)).1)
      (keeps.twins (length inserted) (le_refl (length inserted))) ordered x member
      (subst (λ s. IsStanding s x) (sym at_base) (keeps.arrive x (subst (λ some. Contains some x) (take-append-drop k p.inserted) (Contains-append_right (take k p.inserted) (drop k p.inserted) x member)))))
    where
      go : (some : List RankedPiece) → ((x : RankedPiece) → Contains some x → ⊥) → some ≡ []
      go [] none = refl
      go (x ∷ some) none = absurd (none x (contains_head x some))

  -- with an insertion left no other task is done
  all_rewrites_left : (x : RankedPiece) → Contains left (Insert x) → filter_map rewritten_by left ≡ p.rewritten
  all_rewrites_left x member =
      sym (ap (λ some. some ++ filter_map rewritten_by left) (no_rewrites done (λ y told. pairs_across InOrder done left (Rewrite y) (Insert x) (subst (AllPairs InOrder) stage.parts leads.in_order) told member)))
      ∙ (sym (filter_map-append rewritten_by done left) ∙ (ap (filter_map rewritten_by) (sym stage.parts) ∙ all_rewrites p))

  all_erases_left : (x : RankedPiece) → Contains left (Insert x) → filter_map erased_by left ≡ p.erased
  all_erases_left x member =
      sym (ap (λ some. some ++ filter_map erased_by left) (no_erases done (λ y gone. pairs_across InOrder done left (Erase y) (Insert x) (subst (AllPairs InOrder) stage.parts leads.in_order) gone member)))
      ∙ (sym (filter_map-append erased_by done left) ∙ (ap (filter_map erased_by) (sym stage.parts) ∙ all_erases p))

  base_new : (x : RankedPiece) → Contains left (Insert x) → (k : ℕ) → IsOrdered (state_after start (take (length inserted) inserted)) (Contains (p.old ++ take k p.inserted))
      → IsStageAt slots before during p base (first_inserts p k) (map Rewrite (filter_map rewritten_by left) ++ map Erase (filter_map erased_by left))
  base_new x member k ordered =
      subst (λ told. IsStageAt slots before during p base (first_inserts p k) (map Rewrite told ++ map Erase (filter_map erased_by left))) (sym (all_rewrites_left x member))
      (subst (λ goes. IsStageAt slots before during p base (first_inserts p k) (map Rewrite p.rewritten ++ map Erase goes)) (sym (all_erases_left x member))
      (subst (λ s. IsStageAt slots before during p s (first_inserts p k) (map Rewrite p.rewritten ++ map Erase p.erased)) at_base
      (subst (λ some. IsStageAt slots before during p (state_after start (take (length inserted) inserted)) (first_inserts p k) (map Insert some ++ (map Rewrite p.rewritten ++ map Erase p.erased))) (all_in k ordered)
      (early (length inserted) k (le_refl (length inserted)) ordered))))

  record IsBase : Type 0 where
    front : List Task
    at : IsStageAt slots before during p base front (map Rewrite (filter_map rewritten_by left) ++ map Erase (filter_map erased_by left))

  base_stage : IsBase
  base_stage = elim (any_insert left) [
    | inl found ↦ let w = keeps.in_order found.0 found.1 (length inserted) (le_refl (length inserted)) in record { front = first_inserts p w.0; at = base_new found.0 found.1 w.0 w.1 }
    | inr none ↦ record { front = done; at = base_same none }
  ]

  base_told : IsStageAt slots before during p base base_stage.front (map Rewrite (filter (λ (x : RankedPiece). true) (filter_map rewritten_by left)) ++ map Erase (filter_map erased_by left))
  base_told = subst (λ told. IsStageAt slots before during p base base_stage.front (map Rewrite told ++ map Erase (filter_map erased_by left))) (sym (filter-all (filter_map rewritten_by left))) base_stage.at

  -- each of the writes leads to a stage
  pub rest_stages : (n : ℕ) → (done : List Task) × (left : List Task) × IsStageAt slots before during p (state_after start (take n (inserted ++ (rewritten ++ erased)))) done left
  rest_stages n = elim (cases_lt n (length inserted)) [
    | inl short ↦ elim (any_insert left) [
      | inl found ↦ let w = keeps.in_order found.0 found.1 n (omega arith) in
          (first_inserts p w.0, other_tasks p w.0, subst (λ writes. IsStageAt slots before during p (state_after start writes) (first_inserts p w.0) (other_tasks p w.0)) (sym (take-append-le n inserted (rewritten ++ erased) (omega arith))) (early n w.0 (omega arith) w.1))
      | inr none ↦ absurd (let size : length inserted ≡ 0 = ap length (no_writes none) in omega arith)
    ]
    | inr long ↦
        let r = some_told slots before during p facts (λ x. true) (n - length inserted) (filter_map rewritten_by left) rewritten (filter_map erased_by left) erased base base_stage.front base_told keeps.once
        (λ x member wrong. absurd (let e : true ≡ false = wrong in cc)) rest.results rest.erases in
        (r.done, r.left, subst (λ s. IsStageAt slots before during p s r.done r.left) (sym (behind_all n long)) r.stage)
  ]
    where
      behind_all : (n : ℕ) → length inserted ≤ n → state_after start (take n (inserted ++ (rewritten ++ erased))) ≡ state_after (state_after start inserted) (take (n - length inserted) (rewritten ++ erased))
      behind_all n long =
          ap (λ m. state_after start (take m (inserted ++ (rewritten ++ erased)))) (let e : n ≡ length inserted + (n - length inserted) = omega arith in e)
          ∙ (ap (state_after start) (take-append-add inserted (rewritten ++ erased) (n - length inserted)) ∙ state_after-append start inserted (take (n - length inserted) (rewritten ++ erased)))

  -- and the last to one with no task left and no twin
  pub rest_ended : IsEnded slots before during p facts (state_after start (inserted ++ (rewritten ++ erased)))
  rest_ended = subst (IsEnded slots before during p facts) (sym (state_after-append start inserted (rewritten ++ erased)))
      (all_told slots before during p facts (λ x. true) (filter_map rewritten_by left) rewritten (filter_map erased_by left) erased base base_stage.front base_told keeps.once
      (λ x member wrong. absurd (let e : true ≡ false = wrong in cc)) rest.results rest.erases)

-- the erase of the twin comes before them
module _ (slots : ℕ) (before during : FieldBits) (p : CommitPieces) (state : State) (done left : List Task) (stage : IsStageAt slots before during p state done left) where
  pub untwinned_by : (twin : Option ℕ) → IsTwinSlot state.slots twin → IsStageAt slots before during p (state_after state (twin_writes twin)) done left × HasNoTwin (state_after state (twin_writes twin))
  untwinned_by None none = (stage, none)
  untwinned_by (Some at) is = (untwinned slots before during p state is.0 at done left stage is.1, alone_then slots before during p state is.0 at done left stage is.1)

  pub twin_stages : (twin : Option ℕ) (writes : List Write) → IsTwinSlot state.slots twin
      → ((n : ℕ) → (done : List Task) × (left : List Task) × IsStageAt slots before during p (state_after (state_after state (twin_writes twin)) (take n writes)) done left)
      → (n : ℕ) → (done : List Task) × (left : List Task) × IsStageAt slots before during p (state_after state (take n (twin_writes twin ++ writes))) done left
  twin_stages None writes is each n = each n
  twin_stages (Some at) writes is each zero = (done, left, stage)
  twin_stages (Some at) writes is each (suc n) = each n
