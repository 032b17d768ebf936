-- What stands after each of a planned batch's writes.
use Rattle.std.proofs.Common.{◌≡◌, ℕ, suc, ◌+◌, ◌-◌, ◌<◌, ◌≤◌, List, ◌++◌, length, take, map, Contains, inl, inr, ◌⊎◌, sym, ◌∙◌, subst, ap, ap₂, arith, append-nil, le_refl}
use Rattle.std.specs.Prelude.{◌↔◌}
use Rattle.std.proofs.lemmas.Bool.{cases_lt}
use Rattle.std.proofs.lemmas.List.{take_all, take-map, take-append-le, length-map}
use Rattle.std.proofs.Math.Seq.{take-append-add}
use Rattle.slot_pool.specs.Arrangement.{Slots}
use Rattle.rule_model.specs.declared.Rule.{Rule}
use Rattle.rule_store.specs.declared.Command.{Command}
use Rattle.rule_store.specs.Batch.{set_after}
use Rattle.rule_store.specs.declared.Mode.{Mode}
use Rattle.rule_model.specs.Entry.{RankedPiece}
use Rattle.placement.specs.declared.LivePiece.{LivePiece}
use Rattle.tcam_device.specs.declared.Write.{Write}
use Rattle.tcam_device.specs.State.{State, state_after}
use Rattle.tcam_device.specs.Order.{IsOrdered, StandsOnce}
use Rattle.commit_writes.specs.Proposal.{proposal}
use Rattle.commit_writes.specs.declared.Rewrite.{Rewrite}
use Rattle.commit_writes.specs.Bits.{FieldBits}
use Rattle.commit_writes.specs.Shape.{set_pieces, inserted_pieces}
use Rattle.commit_writes.specs.Planned.{IdEntries, Planned, planned_writes, slots_after}
use Rattle.commit_writes.specs.PlannedBatch.{rewrite_write, erase_write, batch_writes, IsPlannedBatch}
use Rattle.commit_writes.proofs.BatchRow.{row_of}
use Rattle.commit_writes.proofs.BatchOrder.{late_pieces, late_state, late_writes, late_ordered, late_once, late_reached}
use Rattle.commit_writes.proofs.BatchWay.{early_on_the_way, late_on_the_way, arrived}
use Rattle.commit_writes.proofs.BatchTurns.{early_single, late_single, inserting_onward, inserted_onward, late_onward}
use Rattle.commit_writes.proofs.Mirror.{IsOrdered_same, StandsOnce_same}
use Rattle.commit_writes.proofs.OnTheWay.{AreOnTheWay}
use Rattle.commit_writes.proofs.Ordered.{planned_ordered}
use Rattle.commit_writes.proofs.Row.{whole_insertions, whole_insertions-rise}
use Rattle.commit_writes.proofs.Turns.{AreSingle, IsOnward}

-- a front of two lists is one of each
front_of_both : {X : Type 0} (n : ℕ) (xs ys : List X) → take n (xs ++ ys) ≡ take n xs ++ take (n - length xs) ys
front_of_both n xs ys = elim (cases_lt n (length xs)) [
  | inl short ↦ take-append-le n xs ys (omega arith) ∙ (sym (append-nil (take n xs)) ∙ ap (λ m. take n xs ++ take m ys) (let e : 0 ≡ n - length xs = omega arith in e))
  | inr long ↦
      ap (λ m. take m (xs ++ ys)) (let e : n ≡ length xs + (n - length xs) = omega arith in e)
      ∙ (take-append-add xs ys (n - length xs) ∙ ap (λ front. front ++ take (n - length xs) ys) (sym (take_all n xs long)))
]

-- Pieces on the way between two sets' stand in a state, each with one result, in order; and each once, where so much is known.
pub record IsStage (old new : List RankedPiece) (state : State) (Later : Type 0) : Type 0 where
  pub standing : List RankedPiece
  pub way : AreOnTheWay old new standing
  pub single : AreSingle standing
  pub ordered : IsOrdered state (Contains standing)
  pub once : Later → StandsOnce state (Contains standing)

module _ (mode : Mode) (bits : FieldBits) (state : State) (rules : List Rule) (batch : List Command) (live : List LivePiece) (slots : Slots) (entries : IdEntries) (planned : List Planned) (rewrites : List Rewrite) (erased : List ℕ) (plan : IsPlannedBatch (proposal mode bits rules batch) state live slots entries planned rewrites erased) where
  abbrev old : List RankedPiece
  old = set_pieces mode bits rules

  abbrev new : List RankedPiece
  new = set_pieces mode bits (set_after rules batch)

  abbrev added : List RankedPiece
  added = inserted_pieces mode bits rules batch

  abbrev inserting : List Write
  inserting = planned_writes entries planned

  abbrev results : List Write
  results = map (rewrite_write (slots_after slots planned)) rewrites

  abbrev erases : List Write
  erases = map (erase_write (slots_after slots planned)) erased

  abbrev made : List Write
  made = batch_writes entries slots planned rewrites erased

  -- how many results and how many erases are among the first of the writes
  abbrev told_by : ℕ → ℕ
  told_by n = n - length inserting

  abbrev gone_by : ℕ → ℕ
  gone_by n = n - length inserting - length results

  -- past the insertions those are they,
  taken : (n : ℕ) → length inserting ≤ n → take n made ≡ late_writes slots entries planned rewrites erased (told_by n) (gone_by n)
  taken n long =
      front_of_both n inserting (results ++ erases)
      ∙ ap₂ (λ first rest. first ++ rest) (take_all n inserting long)
      (front_of_both (told_by n) results erases
      ∙ ap₂ (λ first rest. first ++ rest) (take-map (rewrite_write (slots_after slots planned)) (told_by n) rewrites) (take-map (erase_write (slots_after slots planned)) (gone_by n) erased))

  -- and no piece goes before the last result
  results_first : (n : ℕ) → (gone_by n ≡ 0) ⊎ (take (told_by n) rewrites ≡ rewrites)
  results_first n = let size : length results ≡ length rewrites = length-map rewrites (rewrite_write (slots_after slots planned)) in elim (cases_lt (told_by n) (length rewrites)) [
    | inl some ↦ inl (omega arith)
    | inr all ↦ inr (take_all (told_by n) rewrites all)
  ]

  -- the state after some of them
  late_after : (writes : List Write) (told gone : ℕ) → writes ≡ late_writes slots entries planned rewrites erased told gone
      → IsOrdered (state_after state writes) (Contains (late_pieces live entries planned rewrites erased told gone))
      × StandsOnce (state_after state writes) (Contains (late_pieces live entries planned rewrites erased told gone))
  late_after writes told gone are =
      let reached : state_after state writes ≡ late_state state slots entries planned rewrites erased told gone =
      ap (state_after state) are ∙ late_reached mode bits state rules batch live slots entries planned rewrites erased plan told gone in (
        subst (λ (now : State). IsOrdered now (Contains (late_pieces live entries planned rewrites erased told gone))) (sym reached)
            (late_ordered mode bits state rules batch live slots entries planned rewrites erased plan told gone),
        subst (λ (now : State). StandsOnce now (Contains (late_pieces live entries planned rewrites erased told gone))) (sym reached)
            (late_once mode bits state rules batch live slots entries planned rewrites erased plan told gone),
      )

  early_ordered : (n : ℕ) → n < length inserting → IsOrdered (state_after state (take n made)) (Contains (old ++ take (whole_insertions planned n) added))
  early_ordered n short =
      subst (λ (writes : List Write). IsOrdered (state_after state writes) (Contains (old ++ take (whole_insertions planned n) added))) (sym (take-append-le n inserting (results ++ erases) (omega arith)))
      (planned_ordered state old added live slots entries planned n (row_of mode bits state rules batch live slots entries planned rewrites erased plan))

  stage_at : (n : ℕ) → (n < length inserting) ⊎ (length inserting ≤ n) → IsStage old new (state_after state (take n made)) (length inserting ≤ n)
  stage_at n (inl short) = record {
    standing = old ++ take (whole_insertions planned n) added;
    way = early_on_the_way mode bits state rules batch live slots entries planned rewrites erased plan (whole_insertions planned n);
    single = early_single mode bits state rules batch live slots entries planned rewrites erased plan (whole_insertions planned n);
    ordered = early_ordered n short;
    once = λ long. absurd (omega arith);
  }
  stage_at n (inr long) = let are = late_after (take n made) (told_by n) (gone_by n) (taken n long) in record {
    standing = late_pieces live entries planned rewrites erased (told_by n) (gone_by n);
    way = late_on_the_way mode bits state rules batch live slots entries planned rewrites erased plan (told_by n) (gone_by n) (results_first n);
    single = late_single mode bits state rules batch live slots entries planned rewrites erased plan (told_by n) (gone_by n);
    ordered = are.0;
    once = λ known. are.1;
  }

  -- after each of the writes
  pub batch_stage : (n : ℕ) → IsStage old new (state_after state (take n made)) (length inserting ≤ n)
  batch_stage n = stage_at n (cases_lt n (length inserting))

  onward_at : (n : ℕ) (now : (n < length inserting) ⊎ (length inserting ≤ n)) (next : (suc n < length inserting) ⊎ (length inserting ≤ suc n))
      → IsOnward new (stage_at n now).standing (stage_at (suc n) next).standing
  unfolding stage_at
  onward_at n (inl short) (inl next) =
      inserting_onward mode bits state rules batch live slots entries planned rewrites erased plan (whole_insertions planned n) (whole_insertions planned (suc n)) (whole_insertions-rise planned n (suc n) (omega arith))
  onward_at n (inl short) (inr next) =
      inserted_onward mode bits state rules batch live slots entries planned rewrites erased plan (whole_insertions planned n) (told_by (suc n)) (gone_by (suc n)) (stage_at (suc n) (inr next)).way
  onward_at n (inr long) (inl next) = absurd (omega arith)
  onward_at n (inr long) (inr next) =
      late_onward mode bits state rules batch live slots entries planned rewrites erased plan (told_by n) (told_by (suc n)) (gone_by n) (gone_by (suc n)) (omega arith) (omega arith)

  -- each goes onward
  pub batch_onward : (n : ℕ) → IsOnward new (batch_stage n).standing (batch_stage (suc n)).standing
  unfolding batch_stage
  batch_onward n = onward_at n (cases_lt n (length inserting)) (cases_lt (suc n) (length inserting))

  -- and after the last
  pub record IsLast : Type 0 where
    pub ordered : IsOrdered (state_after state made) (Contains new)
    pub once : StandsOnce (state_after state made) (Contains new)

  pub batch_last : IsLast
  batch_last = record {
    ordered = IsOrdered_same (state_after state made) (Contains (late_pieces live entries planned rewrites erased (length rewrites) (length erased))) (Contains new) same are.0;
    once = StandsOnce_same (state_after state made) (Contains (late_pieces live entries planned rewrites erased (length rewrites) (length erased))) (Contains new) same are.1;
  }
    where
      told_all : take (length rewrites) rewrites ≡ rewrites
      told_all = take_all (length rewrites) rewrites (le_refl (length rewrites))

      same : (ranked : RankedPiece) → Contains (late_pieces live entries planned rewrites erased (length rewrites) (length erased)) ranked ↔ Contains new ranked
      same = arrived mode bits state rules batch live slots entries planned rewrites erased plan (length rewrites) (length erased) told_all (le_refl (length erased))

      are : IsOrdered (state_after state made) (Contains (late_pieces live entries planned rewrites erased (length rewrites) (length erased)))
          × StandsOnce (state_after state made) (Contains (late_pieces live entries planned rewrites erased (length rewrites) (length erased)))
      are = late_after made (length rewrites) (length erased) (ap₂ (λ some ids. inserting ++ (map (rewrite_write (slots_after slots planned)) some ++ map (erase_write (slots_after slots planned)) ids))
          (sym told_all) (sym (take_all (length erased) erased (le_refl (length erased)))))
