-- A planned restart serves the ranges that words in flight are current for, from its drain on those that are live meanwhile.
use Rattle.std.proofs.Common.{◌≡◌, ℕ, ◌-◌, ◌≤◌, Bool, true, false, not, Option, List, ◌++◌, length, take, Contains, if◌then◌else◌, inl, inr, refl, sym, ◌∙◌, subst, ap, arith}
use Rattle.std.specs.Prelude.{◌&&◌, IsFalse}
use Rattle.std.specs.List.{list_any}
use Rattle.std.proofs.lemmas.Bool.{cases_lt}
use Rattle.std.proofs.lemmas.List.{take-append-le}
use Rattle.slot_order.specs.Order.{slot}
use Rattle.slot_pool.specs.Arrangement.{Slots}
use Rattle.rule_model.specs.declared.Rule.{Rule}
use Rattle.rule_store.specs.declared.Mode.{Mode}
use Rattle.rule_store.specs.declared.Command.{Command}
use Rattle.rule_store.specs.Batch.{additions}
use Rattle.rule_store.proofs.Counts.{count_by-append}
use Rattle.rule_model.specs.declared.words.Entry.{Entry}
use Rattle.rule_model.specs.Entry.{RankedPiece}
use Rattle.placement.specs.declared.LivePiece.{LivePiece}
use Rattle.tcam_device.specs.declared.Write.{Write}
use Rattle.tcam_device.specs.State.{State, IsState, state_after, on_device}
use Rattle.tcam_device.specs.Order.{IsTranslated}
use Rattle.tcam_device.specs.Insertion.{is_table_write, table_writes}
use Rattle.tcam_device.proofs.Wider.{all_take}
use Rattle.commit_writes.specs.Proposal.{proposal}
use Rattle.commit_writes.specs.declared.Rewrite.{Rewrite}
use Rattle.commit_writes.specs.Actions.{have_bits}
use Rattle.commit_writes.specs.Bits.{FieldBits, bits_with, new_bits}
use Rattle.commit_writes.specs.InFlight.{ServesLive}
use Rattle.commit_writes.specs.Planned.{IdEntries, Planned}
use Rattle.commit_writes.specs.PlannedBatch.{batch_writes}
use Rattle.commit_writes.proofs.Led.{ArePassed, same_part, serves_same, front_leads, all_lead}
use Rattle.commit_writes.proofs.BatchRules.{IsSoundChange}
use Rattle.commit_writes.proofs.LiveRanges.{live_meanwhile, same_ranges, translated}
use Rattle.commit_writes.proofs.ServedTables.{IsBitsStart, tables_serve}
use Rattle.commit_writes.proofs.SlotWrites.{no_table, tables_left}
use Rattle.commit_writes.proofs.TableWrites.{all_tables, bit_writes-tables}
use Rattle.readback.specs.Halt.{halt_at, parts_as_planned}
use Rattle.readback.specs.Tasks.{CommitPieces, Task, commit_pieces, stands_in, IsStanding}
use Rattle.readback.specs.Stage.{IsStage}
use Rattle.commit_writes.specs.Serving.{AreTranslated}
use Rattle.commit_writes.specs.Shape.{fresh_writes}
use Rattle.readback.specs.Going.{needs_drain, twin_writes}
use Rattle.readback.proofs.Begun.{change_of}
use Rattle.readback.proofs.Tables.{words_slots, all_right}
use Rattle.readback.specs.PlannedRest.{restart_writes}
use Rattle.readback.specs.Restart.{IsPlannedRestart}
use Rattle.readback.specs.Serving.{PlannedRestartsServe, stopped_ranges}
use Rattle.readback.proofs.Restart.{passes, seam, sized, to_slots, wide_start}
use Rattle.readback.proofs.Serving.{some_stand, none_stand, serving_during, serving_before}

module _ (device_slots : ℕ) (mode : Mode) (bits : FieldBits) (rules : List Rule) (batch : List Command) (state : State) (done left : List Task) (twin : Option ℕ)
    (live_ids : List LivePiece) (slots : Slots) (entries : IdEntries) (planned : List Planned) (rewrites : List Rewrite) (erased : List ℕ)
    (plan : IsPlannedRestart device_slots (proposal mode bits rules batch) state (halt_at done left twin) live_ids slots entries (parts_as_planned planned rewrites erased)) where
  abbrev wide : State
  wide = on_device device_slots state

  abbrev during : FieldBits
  during = bits_with mode rules batch bits

  abbrev p : CommitPieces
  p = commit_pieces mode bits rules batch

  abbrev tables : List Write
  tables = fresh_writes mode bits rules batch state

  abbrev slot_part : List Write
  slot_part = twin_writes twin ++ batch_writes entries slots planned rewrites erased

  abbrev writes : List Write
  writes = restart_writes (proposal mode bits rules batch) state twin entries slots planned rewrites erased

  abbrev now : ℕ → State
  now n = state_after wide (take n writes)

  pub start : IsBitsStart mode bits rules batch wide
  start = wide_start device_slots mode bits rules batch state done left twin live_ids slots entries planned rewrites erased plan

  change : IsSoundChange rules batch
  change = change_of mode bits rules batch plan.can

  stage_at : (n : ℕ) → IsStage (length slots) mode bits rules batch (now n)
  stage_at n = (passes device_slots mode bits rules batch state done left twin live_ids slots entries planned rewrites erased plan).stages n

  is_state : (n : ℕ) → IsState (length wide.slots) (now n)
  is_state n = sized device_slots mode bits rules batch state done left twin live_ids slots entries planned rewrites erased plan n

  -- the words alone go to tables
  pub count_is : table_writes writes ≡ length tables
  count_is =
      let sum = count_by-append is_table_write tables slot_part in
      let words = all_tables tables (bit_writes-tables state (new_bits bits during)) in
      let none = no_table slot_part (to_slots device_slots mode bits rules batch state done left twin live_ids slots entries planned rewrites erased plan) in
      omega arith

  first_words : (n : ℕ) → n ≤ length tables → take n writes ≡ take n tables
  first_words n few = take-append-le n tables slot_part few

  -- behind them the tables are right
  right_behind : AreTranslated (state_after wide tables) during
  right_behind = translated mode during (rules ++ additions batch) (state_after wide tables) (tables_serve mode bits rules batch wide start)

  right_late : (n : ℕ) → length tables ≤ n → AreTranslated (now n) during
  right_late n long =
      let stay = tables_left (state_after wide tables) (take (n - length tables) slot_part)
      (all_take (λ write. IsFalse (is_table_write write)) (n - length tables) slot_part (to_slots device_slots mode bits rules batch state done left twin live_ids slots entries planned rewrites erased plan)) in
      subst (λ (s : State). AreTranslated s during) (sym (seam device_slots mode bits rules batch state done left twin live_ids slots entries planned rewrites erased plan n long)) record {
        src = λ bit range held. subst (λ (table : List ℕ). IsTranslated table bit range) (sym stay.src) (right_behind.src bit range held);
        dst = λ bit range held. subst (λ (table : List ℕ). IsTranslated table bit range) (sym stay.dst) (right_behind.dst bit range held);
      }

  serves_where_right : (n : ℕ) → AreTranslated (now n) during → ServesLive during (now n)
  serves_where_right n right =
      let s = stage_at n in serving_during mode bits rules batch change wide start (length slots) (length wide.slots) (now n) s.0 s.1 (is_state n) s.2 right

  late : (n : ℕ) → length tables ≤ n → ServesLive during (now n)
  late n long = serves_where_right n (right_late n long)

  -- with an inserted piece standing the tables are right from the start
  all_along : (x : RankedPiece) → Contains p.inserted x → IsStanding wide x → (n : ℕ) → ServesLive during (now n)
  all_along x member stands n = elim (cases_lt n (length tables)) [
    | inr long ↦ late n long
    | inl short ↦ serves_where_right n (subst (λ (some : List Write). AreTranslated (state_after wide some) during) (sym (first_words n (omega arith)))
        (all_right mode bits rules batch wide start n (plan.stage.new_words x member stands)))
  ]

  -- and without one none stands while words are written
  pub early : ((x : RankedPiece) → Contains p.inserted x → IsStanding wide x → ⊥) → (n : ℕ) → n ≤ length tables → ServesLive bits (now n)
  early none n few =
      let s = stage_at n in
      let same : (now n).slots ≡ wide.slots = ap (λ (some : List Write). (state_after wide some).slots) (first_words n few) ∙ words_slots mode bits rules batch wide start n in
      serving_before mode bits rules batch change wide start (length slots) (length wide.slots) (now n) s.0 s.1 (is_state n) s.2
      (λ x put stands. none x put (stands.0, (stands.1.0, ap (λ (held : List (Option Entry)). slot held stands.0) (sym same) ∙ stands.1.1, stands.1.2)))

  passed_by : (found have : Bool) → list_any (stands_in wide.slots) p.inserted ≡ found → have_bits (new_bits bits during) ≡ have
      → ArePassed (if found then during else bits) during (have && not found) wide writes
  passed_by true have found new =
      let w = some_stand wide p.inserted found in
      record {
        early = λ n below. all_along w.0 w.1 w.2 n;
        late = λ n above. all_along w.0 w.1 w.2 n;
        undrained = λ none n. all_along w.0 w.1 w.2 n;
        part = λ none. same_part during;
      }
  passed_by false true found new = record {
    early = λ n below. let count = count_is in early (none_stand wide p.inserted found) n (omega arith);
    late = λ n above. let count = count_is in late n (omega arith);
    undrained = λ none n. absurd (let wrong : true ≡ false = none in cc);
    part = λ none. absurd (let wrong : true ≡ false = none in cc);
  }
  passed_by false false found new = record {
    early = λ n below. let count = count_is in early (none_stand wide p.inserted found) n (omega arith);
    late = λ n above. let count = count_is in late n (omega arith);
    undrained = λ none n. elim (cases_lt n (length tables)) [
      | inl short ↦ early (none_stand wide p.inserted found) n (omega arith)
      | inr long ↦ serves_same bits during (now n) (live_meanwhile mode bits rules batch wide start) (same_ranges mode bits rules batch wide start new) (late n long)
    ];
    part = λ none. same_ranges mode bits rules batch wide start new;
  }

  pub passed : ArePassed (stopped_ranges mode bits rules batch wide) during (needs_drain mode bits rules batch wide) wide writes
  passed = passed_by (list_any (stands_in wide.slots) p.inserted) (have_bits (new_bits bits during)) refl refl

pub restarts_serve : PlannedRestartsServe
restarts_serve device_slots mode bits rules batch state done left twin live_ids slots entries planned rewrites erased plan =
    let wide = on_device device_slots state in
    let before = stopped_ranges mode bits rules batch wide in
    let writes = restart_writes (proposal mode bits rules batch) state twin entries slots planned rewrites erased in
    let are = passed device_slots mode bits rules batch state done left twin live_ids slots entries planned rewrites erased plan in (
      λ front some. front_leads before (bits_with mode rules batch bits) (needs_drain mode bits rules batch wide) wide writes are front some.0 some.1,
      all_lead before (bits_with mode rules batch bits) (needs_drain mode bits rules batch wide) wide writes are,
    )
