-- The laws of stages.
use Rattle.std.proofs.Common.{◌≡◌, ℕ, ◌+◌, ◌-◌, ◌≤◌, Some, None, Option, List, [], map, ◌∷◌, ◌++◌, length, take, append_assoc, refl, sym, ◌∙◌, subst, ap, inl, inr, arith}
use Rattle.std.specs.Prelude.{flat_map, IsTrue, IsFalse}
use Rattle.std.specs.List.{AllByRecursion, AllZip, filter_map}
use Rattle.std.proofs.lemmas.Bool.{cases_lt, cases_order}
use Rattle.std.proofs.lemmas.List.{take-append-le}
use Rattle.std.proofs.Math.Seq.{take-append-add, take-length}
use Rattle.slot_order.specs.Order.{slot}
use Rattle.slot_order.proofs.Lists.{all_append}
use Rattle.rule_model.specs.declared.Rule.{Rule}
use Rattle.rule_store.specs.declared.Mode.{Mode}
use Rattle.rule_store.specs.declared.Command.{Command}
use Rattle.rule_store.specs.Batch.{additions, set_after}
use Rattle.rule_model.specs.declared.words.Entry.{Entry}
use Rattle.rule_model.specs.Entry.{RankedPiece, entry_for, same_match}
use Rattle.tcam_device.specs.declared.Write.{Write}
use Rattle.tcam_device.specs.State.{State, IsState, state_after}
use Rattle.tcam_device.specs.Order.{AreAlike, IsTranslated}
use Rattle.tcam_device.specs.Insertion.{Insertion, insertions, is_table_write}
use Rattle.tcam_device.proofs.Spans.{state_after-append}
use Rattle.tcam_device.proofs.Wider.{all_take}
use Rattle.commit_writes.specs.Bits.{FieldBits, bits_with}
use Rattle.commit_writes.specs.InFlight.{ArePartOf}
use Rattle.commit_writes.specs.Serving.{AreServing, AreTranslated}
use Rattle.commit_writes.specs.Shape.{set_pieces, Rewrites, Erases, fresh_writes, HasShape}
use Rattle.commit_writes.proofs.BatchRules.{IsSoundChange}
use Rattle.commit_writes.proofs.LiveRanges.{live_meanwhile, translated}
use Rattle.commit_writes.proofs.ServedTables.{IsBitsStart, tables_serve}
use Rattle.commit_writes.proofs.SlotWrites.{AreToSlots, tables_left}
use Rattle.commit_writes.proofs.SlotsBehind.{insertion_slots}
use Rattle.readback.specs.Tasks.{Task, CommitPieces, commit_pieces, IsLeft}
use Rattle.readback.specs.Stage.{IsCommitAt, IsStage, IsTwinSlot}
use Rattle.readback.specs.Going.{due_in, restart_front, twin_writes, inserted_by, rewritten_by, erased_by}
use Rattle.readback.specs.Laws.{CanCommit, KeepsRest, StagesAnswerOldOrNew, LastStagesAnswerNew, SegmentsPassStages, PassesStages, RestsPassStages, OnePieceStandsTwice, TasksPartOnce}
use Rattle.readback.proofs.Answers.{stage_answers, last_answers}
use Rattle.readback.proofs.Begun.{begun, change_of}
use Rattle.readback.proofs.Facts.{ArePieces}
use Rattle.readback.proofs.Faults.{done_or_left}
use Rattle.readback.proofs.Finishing.{IsEnded}
use Rattle.readback.proofs.Matches.{match_sym, match_trans}
use Rattle.readback.proofs.Pieces.{pieces_are, pieces_lead}
use Rattle.readback.proofs.Rewriting.{HasNoTwin}
use Rattle.readback.proofs.Rest.{AreRest, rest_stages, rest_ended, untwinned_by, twin_stages}
use Rattle.readback.proofs.Segments.{segment_stages}
use Rattle.readback.proofs.Tables.{words_slots, words_stage}

pub stages_answer : StagesAnswerOldOrNew
stages_answer slots device_slots mode bits rules batch state can is (done, left, stage) =
    stage_answers slots mode bits rules batch (change_of mode bits rules batch can) state (begun mode bits rules batch device_slots state can is stage.old_words) done left stage

pub last_stages_answer : LastStagesAnswerNew
last_stages_answer slots device_slots mode bits rules batch state done can is stage =
    last_answers slots mode bits rules batch (change_of mode bits rules batch can) state (begun mode bits rules batch device_slots state can is stage.old_words) done [] stage refl

pub segments_pass : SegmentsPassStages
segments_pass slots mode bits rules batch state made begin segment empty in_use n = segment_stages slots mode bits rules batch state made begin segment empty in_use n

-- the erase of a twin goes to a slot
twin_slots : (twin : Option ℕ) → AreToSlots (twin_writes twin)
twin_slots None = tt
twin_slots (Some at) = (refl, tt)

module _ (slots device_slots : ℕ) (mode : Mode) (bits : FieldBits) (rules : List Rule) (batch : List Command) (state : State) (done left : List Task) (twin : Option ℕ) (writes : List Write)
    (can : CanCommit mode bits rules batch) (is : IsState device_slots state) (stage : IsCommitAt slots mode bits rules batch state done left) (is_twin : IsTwinSlot state.slots twin)
    (shape : HasShape (restart_front mode bits rules batch state twin) (due_in left) state writes)
    (keeps : KeepsRest slots (commit_pieces mode bits rules batch) (state_after state (restart_front mode bits rules batch state twin)) left shape.inserted) where
  abbrev during : FieldBits
  during = bits_with mode rules batch bits

  abbrev p : CommitPieces
  p = commit_pieces mode bits rules batch

  abbrev new : List RankedPiece
  new = set_pieces mode during (set_after rules batch)

  abbrev tables : List Write
  tables = fresh_writes mode bits rules batch state

  abbrev behind : State
  behind = state_after state tables

  abbrev start : State
  start = state_after behind (twin_writes twin)

  abbrev slot_part : List Write
  slot_part = shape.inserted ++ (shape.rewritten ++ shape.erased)

  change : IsSoundChange rules batch
  change = change_of mode bits rules batch can

  start_bits : IsBitsStart mode bits rules batch state
  start_bits = begun mode bits rules batch device_slots state can is stage.old_words

  serving : AreServing mode (bits_with mode rules batch bits) (rules ++ additions batch) behind
  serving = tables_serve mode bits rules batch state start_bits

  facts : ArePieces p
  facts = pieces_are mode bits rules batch change behind serving

  writes_are : writes ≡ tables ++ (twin_writes twin ++ slot_part)
  writes_are = shape.parts ∙ append_assoc tables (twin_writes twin) slot_part

  -- the state behind the words and the erase of the twin
  there : state_after state (tables ++ twin_writes twin) ≡ start
  there = state_after-append state tables (twin_writes twin)

  kept : KeepsRest slots p start left shape.inserted
  kept = subst (λ s. KeepsRest slots p s left shape.inserted) there keeps

  -- what stands behind three parts
  behind_three : (more : List Write) → state_after state (tables ++ twin_writes twin ++ more) ≡ state_after start more
  behind_three more = state_after-append state (tables ++ twin_writes twin) more ∙ ap (λ (now : State). state_after now more) there

  whole : flat_map (λ (one : Insertion). one.writes) (insertions start shape.inserted) ≡ shape.inserted
  whole = subst (λ s. flat_map (λ (one : Insertion). one.writes) (insertions s shape.inserted) ≡ shape.inserted) there shape.whole

  rest : AreRest p start left shape.inserted shape.rewritten shape.erased
  rest = record {
    whole = whole;
    entries = subst (λ s. map (λ (one : Insertion). one.entry) (insertions s shape.inserted) ≡ map entry_for (filter_map inserted_by left)) there shape.entries;
    results = subst (λ (s : State). AllZip (Rewrites s) (filter_map rewritten_by left) shape.rewritten) (behind_three shape.inserted) shape.results;
    erases = subst (λ (s : State). AllZip (Erases s) (filter_map erased_by left) shape.erased)
        (state_after-append state (tables ++ twin_writes twin ++ shape.inserted) shape.rewritten ∙ ap (λ (now : State). state_after now shape.rewritten) (behind_three shape.inserted)) shape.erases;
  }

  -- the words lead to the same stage,
  behind_stage : IsCommitAt slots mode bits rules batch behind done left
  behind_stage = subst (λ (some : List Write). IsCommitAt slots mode bits rules batch (state_after state some) done left) (take-length tables)
      (words_stage mode bits rules batch state start_bits (length tables) slots p done left stage)

  same_slots : behind.slots ≡ state.slots
  same_slots = ap (λ (some : List Write). (state_after state some).slots) (sym (take-length tables)) ∙ words_slots mode bits rules batch state start_bits (length tables)

  behind_twin : IsTwinSlot behind.slots twin
  behind_twin = subst (λ held. IsTwinSlot held twin) (sym same_slots) is_twin

  from : IsCommitAt slots mode bits rules batch start done left × HasNoTwin start
  from = untwinned_by slots bits during p behind done left behind_stage twin behind_twin

  -- and the tables serve all bits from there on, since slots alone are written
  bits_stay : ArePartOf bits during
  bits_stay = live_meanwhile mode bits rules batch state start_bits

  right_there : AreTranslated behind during
  right_there = translated mode during (rules ++ additions batch) behind serving

  to_slots : (n : ℕ) → AreToSlots (twin_writes twin ++ take n shape.inserted)
  to_slots n =
      all_append (λ write. IsFalse (is_table_write write)) (twin_writes twin) (take n shape.inserted) (twin_slots twin)
      (all_take (λ write. IsFalse (is_table_write write)) n shape.inserted (subst AreToSlots whole (insertion_slots start [] start shape.inserted tt)))

  words_right : (n : ℕ) → AreTranslated (state_after start (take n shape.inserted)) bits × AreTranslated (state_after start (take n shape.inserted)) during
  words_right n =
      let left_as_they_were = tables_left behind (twin_writes twin ++ take n shape.inserted) (to_slots n) in
      let same = state_after-append behind (twin_writes twin) (take n shape.inserted) in
      let all : AreTranslated (state_after start (take n shape.inserted)) during = subst (λ s. AreTranslated s during) same record {
        src = λ bit range held. subst (λ table. IsTranslated table bit range) (sym left_as_they_were.src) (right_there.src bit range held);
        dst = λ bit range held. subst (λ table. IsTranslated table bit range) (sym left_as_they_were.dst) (right_there.dst bit range held);
      } in (
        record {
          src = λ bit range held. all.src bit range (bits_stay.src bit range held);
          dst = λ bit range held. all.dst bit range (bits_stay.dst bit range held);
        },
        all,
      )

  last : IsEnded slots bits during p facts (state_after start slot_part)
  last = rest_ended slots bits during p new facts (pieces_lead mode bits rules batch change) start done left shape.inserted shape.rewritten shape.erased words_right from.0 from.1 rest kept

  end : state_after state writes ≡ state_after start slot_part
  end = ap (state_after state) shape.parts ∙ behind_three slot_part

  slot_stages : (n : ℕ) → IsStage slots mode bits rules batch (state_after behind (take n (twin_writes twin ++ slot_part)))
  slot_stages n = twin_stages slots bits during p behind done left behind_stage twin slot_part behind_twin
      (rest_stages slots bits during p new facts (pieces_lead mode bits rules batch change) start done left shape.inserted shape.rewritten shape.erased words_right from.0 from.1 rest kept) n

  stages_at : (n : ℕ) → IsStage slots mode bits rules batch (state_after state (take n writes))
  stages_at n = subst (λ (all : List Write). IsStage slots mode bits rules batch (state_after state (take n all))) (sym writes_are) (elim (cases_lt n (length tables)) [
    | inl short ↦ (
      done,
      left,
      subst (λ (some : List Write). IsCommitAt slots mode bits rules batch (state_after state some) done left) (sym (take-append-le n tables (twin_writes twin ++ slot_part) (omega arith)))
          (words_stage mode bits rules batch state start_bits n slots p done left stage),
    )
    | inr long ↦ subst (IsStage slots mode bits rules batch) (sym (seam n long)) (slot_stages (n - length tables))
  ])
    where
      seam : (n : ℕ) → length tables ≤ n → state_after state (take n (tables ++ (twin_writes twin ++ slot_part))) ≡ state_after behind (take (n - length tables) (twin_writes twin ++ slot_part))
      seam n long =
          ap (λ m. state_after state (take m (tables ++ (twin_writes twin ++ slot_part)))) (let e : n ≡ length tables + (n - length tables) = omega arith in e)
          ∙ (ap (state_after state) (take-append-add tables (twin_writes twin ++ slot_part) (n - length tables)) ∙ state_after-append state tables (take (n - length tables) (twin_writes twin ++ slot_part)))

  passes : PassesStages slots mode bits rules batch state writes
  passes = record {
    stages = stages_at;
    ended = (last.done, subst (λ (s : State). IsCommitAt slots mode bits rules batch s last.done []) (sym end) last.stage);
    alone = subst HasNoTwin (sym end) last.alone;
  }

pub rests_pass : RestsPassStages
rests_pass slots device_slots mode bits rules batch state done left twin writes can is stage is_twin shape keeps =
    passes slots device_slots mode bits rules batch state done left twin writes can is stage is_twin shape keeps

pub one_piece_twice : OnePieceStandsTwice
one_piece_twice state one = (three, pairs)
  where
    three : (i j k : ℕ) → AreAlike state.slots i j → AreAlike state.slots j k → ⊥
    three i j k a b = let same = one.one j k (i, a) (j, b) in let less = b.less in omega arith

    pairs : (i j k l : ℕ) → AreAlike state.slots i j → AreAlike state.slots k l → (i ≡ k) × (j ≡ l)
    pairs i j k l a b = let same : j ≡ l = one.one j l (i, a) (k, b) in elim (cases_order i k) [
      | inl e ↦ (e, same)
      | inr o ↦ absurd (elim o [
        | inl less ↦ three i k l (record { less = less; first = a.first; second = b.first; here = a.here; there = b.here; same = joined a.first b.first (seconds same) a.same b.same }) b
        | inr more ↦ three k i j (record { less = more; first = b.first; second = a.first; here = b.here; there = a.here; same = joined b.first a.first (sym (seconds same)) b.same a.same }) a
      ])
    ]
      where
        seconds : j ≡ l → a.second ≡ b.second
        seconds same = let z : Some a.second ≡ Some b.second = sym a.there ∙ (ap (slot state.slots) same ∙ b.there) in cc

        joined : (x y : Entry) {u v : Entry} → u ≡ v → IsTrue (same_match x u) → IsTrue (same_match y v) → IsTrue (same_match x y)
        joined x y {u} {v} e p q = match_trans x u y p (match_sym y u (subst (λ z. IsTrue (same_match y z)) (sym e) q))

pub tasks_part_once : TasksPartOnce
tasks_part_once state [] left [] left' same are_done are_left done_too left_too = (refl, same)
tasks_part_once state [] left (t ∷ done') left' same are_done are_left done_too left_too =
    absurd (done_or_left state t done_too.0 (subst (AllByRecursion (IsLeft state)) same are_left).0)
tasks_part_once state (t ∷ done) left [] left' same are_done are_left done_too left_too =
    absurd (done_or_left state t are_done.0 (subst (AllByRecursion (IsLeft state)) (sym same) left_too).0)
tasks_part_once state (t ∷ done) left (u ∷ done') left' same are_done are_left done_too left_too =
    let z : t ∷ (done ++ left) ≡ u ∷ (done' ++ left') = same in
    let head : t ≡ u = cc in
    let rest : done ++ left ≡ done' ++ left' = cc in
    let w = tasks_part_once state done left done' left' rest are_done.1 are_left done_too.1 left_too in
    (ap (λ x. x ∷ done) head ∙ ap (λ some. u ∷ some) w.0, w.1)
