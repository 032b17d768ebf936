-- The words of the tables in front of a commit's other writes: while they are written the slots hold what they held, each bit
-- that is tested is translated as before, and every key has the old answer; so the whole is a segment.
use Rattle.std.proofs.Common.{◌≡◌, ℕ, ◌<◌, ◌≤◌, ◌⊎◌, ◌+◌, ◌-◌, max, fold, map, List, [], ◌++◌, length, take, slice_get, Contains, append_assoc, inl, inr, sym, ◌∙◌, ap, subst, arith}
use Rattle.std.specs.Prelude.{flat_map}
use Rattle.std.specs.List.{AllByRecursion, AllZip}
use Rattle.std.proofs.lemmas.Bool.{cases_lt}
use Rattle.std.proofs.lemmas.List.{append-nil, take-append-le}
use Rattle.std.proofs.Math.Seq.{take-append-add}
use Rattle.slot_order.specs.Order.{slot}
use Rattle.slot_order.proofs.Lists.{AllByRecursion-member}
use Rattle.rule_model.specs.declared.Rule.{Rule}
use Rattle.rule_model.specs.Rule.{HasConditions}
use Rattle.rule_model.specs.RuleSet.{IsRuleSet}
use Rattle.rule_model.proofs.RuleSets.{IsRuleSet-distinct}
use Rattle.rule_store.specs.declared.Mode.{Mode}
use Rattle.rule_store.specs.declared.Command.{Command}
use Rattle.rule_store.specs.Batch.{set_after}
use Rattle.rule_store.proofs.Counts.{count_by-append}
use Rattle.rule_model.specs.Entry.{RankedPiece}
use Rattle.tcam_device.specs.declared.Write.{Write}
use Rattle.tcam_device.specs.State.{State, IsState, IsInUse, Shows, lookup, state_after}
use Rattle.tcam_device.specs.Order.{IsOrdered, StandsOnce, HasOneTwin}
use Rattle.tcam_device.specs.Hitless.{ShowsOldOrNew, IsHitless, TurnsOnce}
use Rattle.tcam_device.specs.Insertion.{Insertion, insertions, is_table_write, table_writes, longest_insertion, IsGreatestSpan, IsWithinTightBound}
use Rattle.tcam_device.proofs.Shown.{ordered_shows}
use Rattle.tcam_device.proofs.Spans.{state_after-append}
use Rattle.tcam_device.proofs.Wider.{slots-after}
use Rattle.commit_writes.specs.declared.Done.{Done}
use Rattle.commit_writes.specs.Bits.{FieldBits, bits_with, new_bits}
use Rattle.commit_writes.specs.Shape.{Rewrites, Erases, set_pieces, inserted_pieces, rewritten_pieces, erased_pieces, due_of, HasShape, fresh_writes}
use Rattle.commit_writes.specs.Commit.{HoldsInOrder, KeepsPieces, IsSegment, AreCounts, insertion_writes}
use Rattle.commit_writes.specs.Planned.{IsServedBy, Planned, longest_planned, greatest_planned}
use Rattle.commit_writes.specs.PlannedBatch.{AreSlotWrites, AreNumbersOf}
use Rattle.commit_writes.proofs.BatchRules.{IsSoundChange}
use Rattle.commit_writes.proofs.Mirror.{served_hits}
use Rattle.commit_writes.proofs.SetPieces.{set_served, set_pieces-of}
use Rattle.commit_writes.proofs.KeptBits.{pieces_same}
use Rattle.commit_writes.proofs.ServedTables.{IsBitsStart, words_state, words_keep}
use Rattle.commit_writes.proofs.TableWords.{words_taken, words_written}
use Rattle.commit_writes.proofs.TableWrites.{AreToTables, bit_writes-tables, all_tables, tables_in_use, insertions-behind}

-- an order speaks of the slots alone
ordered_slots : (a b : State) (Member : RankedPiece → Type 0) → b.slots ≡ a.slots → IsOrdered a Member → IsOrdered b Member
ordered_slots a b Member same ordered = record {
  known = λ at entry held. ordered.known at entry (was at ∙ held);
  complete = λ ranked member. let stands = ordered.complete ranked member in (stands.0, sym (was stands.0) ∙ stands.1);
  order = λ i j first second less x y here there. ordered.order i j first second less x y (was i ∙ here) (was j ∙ there);
}
  where
    was : (at : ℕ) → slot a.slots at ≡ slot b.slots at
    was at = ap (λ slots. slot slots at) (sym same)

-- the state behind the words of a commit's new bits
abbrev pub fresh_state : Mode → FieldBits → List Rule → List Command → State → State
fresh_state mode bits rules batch state = state_after state (fresh_writes mode bits rules batch state)

-- they write no slot
pub front_in_use : (mode : Mode) (bits : FieldBits) (rules : List Rule) (batch : List Command) (state : State) (size : ℕ) → AllByRecursion (IsInUse size) (fresh_writes mode bits rules batch state)
front_in_use mode bits rules batch state size = tables_in_use size (fresh_writes mode bits rules batch state) (bit_writes-tables state (new_bits bits (bits_with mode rules batch bits)))

module _ (mode : Mode) (bits : FieldBits) (rules : List Rule) (batch : List Command) (state : State) (made : List Write) where
  abbrev during : FieldBits
  during = bits_with mode rules batch bits

  abbrev fresh : FieldBits
  fresh = new_bits bits during

  abbrev tables : List Write
  tables = fresh_writes mode bits rules batch state

  abbrev behind : State
  behind = fresh_state mode bits rules batch state

  abbrev old : List RankedPiece
  old = set_pieces mode during rules

  abbrev inserted : List RankedPiece
  inserted = inserted_pieces mode during rules batch

  abbrev later : List Rule
  later = set_after rules batch

  abbrev now : ℕ → State
  now n = state_after state (take n (tables ++ made))

  words : AreToTables tables
  words = bit_writes-tables state fresh

  -- they are part of no insertion,
  pub front_insertions : insertions state (fresh_writes mode bits rules batch state ++ made) ≡ insertions (fresh_state mode bits rules batch state) made
  front_insertions = insertions-behind state tables made words

  -- and leave the numbers as they are planned
  pub front_numbers : (planned : List Planned) (counts : Done) → AreNumbersOf (fresh_writes mode bits rules batch state ++ made) planned counts
      → longest_insertion (fresh_state mode bits rules batch state) made ≡ longest_planned planned
      → IsGreatestSpan (insertions (fresh_state mode bits rules batch state) made) (greatest_planned planned)
      → AreCounts (fresh_writes mode bits rules batch state ++ made) (insertions state (fresh_writes mode bits rules batch state ++ made)) counts
  front_numbers planned counts numbers longest greatest = record {
    writes = numbers.writes_are;
    words = numbers.words;
    most = numbers.most ∙ (sym longest ∙ ap (λ (all : List Insertion). fold max 0 (map (λ (insertion : Insertion). length insertion.writes) all)) (sym front_insertions));
    span = subst (λ span. IsGreatestSpan (insertions state (tables ++ made)) span) (sym numbers.span)
        (subst (λ (all : List Insertion). IsGreatestSpan all (greatest_planned planned)) (sym front_insertions) greatest);
  }

  -- behind them the other writes go on from their state
  seam : (n : ℕ) → length tables ≤ n → now n ≡ state_after behind (take (n - length tables) made)
  seam n past =
      let whole : n ≡ length tables + (n - length tables) = omega arith in
      ap now whole ∙ (ap (state_after state) (take-append-add tables made (n - length tables)) ∙ state_after-append state tables (take (n - length tables) made))

  early : (n : ℕ) → n ≤ length tables → now n ≡ state_after state (take n tables)
  early n short = ap (state_after state) (take-append-le n tables made short)

  slots_early : (n : ℕ) → (state_after state (take n tables)).slots ≡ behind.slots
  slots_early n = (words_taken state fresh n).slots ∙ sym (words_written state fresh).slots

  as_many : table_writes made ≡ 0 → insertion_writes state (tables ++ made) ≡ length tables + insertion_writes behind made
  as_many none =
      let size = count_by-append is_table_write tables made in
      let first = all_tables tables words in
      let runs = ap (λ (all : List Insertion). length (flat_map (λ (insertion : Insertion). insertion.writes) all)) front_insertions in
      omega arith

  -- while they are written,
  module _ (is_set : IsRuleSet rules) (right : AllByRecursion HasConditions rules) (start : IsBitsStart mode bits rules batch state) (ordered : IsOrdered behind (Contains old)) where
    -- the old pieces stand in order, and each bit that they test is translated as before,
    served_early : (n : ℕ) (ranked : RankedPiece) → Contains old ranked → IsServedBy (state_after state (take n tables)) ranked
    served_early n ranked member =
        AllByRecursion-member (IsServedBy (state_after state (take n tables))) (set_pieces mode bits rules) ranked
        (set_served mode bits (state_after state (take n tables)) rules (words_keep mode bits rules batch state start n) right) (subst (λ pieces. Contains pieces ranked) (pieces_same mode bits rules batch state start) member)

    ordered_early : (n : ℕ) → IsOrdered (state_after state (take n tables)) (Contains old)
    ordered_early n = ordered_slots behind (state_after state (take n tables)) (Contains old) (slots_early n) ordered

    holds_early : (n : ℕ) → n ≤ length tables → HoldsInOrder (now n) (Contains old)
    holds_early n short = subst (λ at. HoldsInOrder at (Contains old)) (sym (early n short)) record {
      ordered = ordered_early n;
      serves = record {
        srcbits = λ ranked bit member. (served_early n ranked member).srcbits bit;
        dstbits = λ ranked bit member. (served_early n ranked member).dstbits bit;
      };
    }

    -- so every key has its old answer
    shows_early : (n : ℕ) → n ≤ length tables → Shows (now n) rules
    shows_early n short = subst (λ at. Shows at rules) (sym (early n short))
        (ordered_shows (state_after state (take n tables)) rules (Contains old) (IsRuleSet-distinct rules is_set) (set_pieces-of mode during rules right)
        (served_hits (state_after state (take n tables)) (Contains old) is (served_early n)) (ordered_early n))
      where
        is : IsState (length (state_after state (take n tables)).slots) (state_after state (take n tables))
        is = subst (λ size. IsState size (state_after state (take n tables))) (sym (slots-after state (take n tables))) (words_state mode bits rules batch state start n)

    front_hitless : IsHitless rules later behind made → IsHitless rules later state (tables ++ made)
    front_hitless hitless = record {
      on_the_way = record {
        before = shows_early 0 (omega arith);
        during = λ n. elim (cases_lt n (length tables)) [
          | inl short ↦ λ key valid. inl (shows_early n (omega arith) key valid)
          | inr past ↦ subst (λ at. ShowsOldOrNew at rules later) (sym (seam n past)) (hitless.on_the_way.during (n - length tables))
        ];
      };
      after = subst (λ at. Shows at later) (sym (state_after-append state tables made)) hitless.after;
    }

    -- so its answer turns once where it does behind them
    front_turns : TurnsOnce rules later behind made → TurnsOnce rules later state (tables ++ made)
    front_turns turns key valid = let once = turns key valid in (
      length tables + once.0,
      record {
        before = λ n less. elim (cases_lt n (length tables)) [
          | inl short ↦ shows_early n (omega arith) key valid
          | inr past ↦ ap (λ at. lookup at key) (seam n past) ∙ once.1.before (n - length tables) (omega arith)
        ];
        since = λ n late. ap (λ at. lookup at key) (seam n (omega arith)) ∙ once.1.since (n - length tables) (omega arith);
      },
    )

    left_within : table_writes made ≡ 0 → (n : ℕ) → n ≤ insertion_writes state (tables ++ made) → length tables ≤ n → n - length tables ≤ insertion_writes behind made
    left_within none n within past = let total = as_many none in omega arith

    -- none of the inserted ones with them, and behind them those that the other writes have put,
    abbrev stands : table_writes made ≡ 0 → KeepsPieces old inserted (set_pieces mode during later) behind made → (n : ℕ) → n ≤ insertion_writes state (tables ++ made)
        → (n < length tables) ⊎ (length tables ≤ n) → (k : ℕ) × HoldsInOrder (now n) (Contains (old ++ take k inserted))
    stands none keeps_on n within (inl short) = (0, subst (λ pieces. HoldsInOrder (now n) (Contains pieces)) (sym (append-nil old)) (holds_early n (omega arith)))
    stands none keeps_on n within (inr past) =
        let on = keeps_on.inserting (n - length tables) (left_within none n within past) in
        (on.0, subst (λ at. HoldsInOrder at (Contains (old ++ take on.0 inserted))) (sym (seam n past)) on.1)

    stands_rise : (none : table_writes made ≡ 0) (keeps_on : KeepsPieces old inserted (set_pieces mode during later) behind made) (n m : ℕ)
        (first : n ≤ insertion_writes state (tables ++ made)) (then : m ≤ insertion_writes state (tables ++ made)) → n ≤ m
        → (before : (n < length tables) ⊎ (length tables ≤ n)) (after : (m < length tables) ⊎ (length tables ≤ m))
        → (stands none keeps_on n first before).0 ≤ (stands none keeps_on m then after).0
    stands_rise none keeps_on n m first then more (inl short) after = omega arith
    stands_rise none keeps_on n m first then more (inr past) (inl short) = absurd (omega arith)
    stands_rise none keeps_on n m first then more (inr past) (inr far) =
        keeps_on.rising (n - length tables) (m - length tables) (left_within none n first past) (left_within none m then far) (omega arith)

    front_order : table_writes made ≡ 0 → KeepsPieces old inserted (set_pieces mode during later) behind made
        → KeepsPieces old inserted (set_pieces mode during later) state (tables ++ made)
    front_order none keeps_on = record {
      inserting = λ n within. stands none keeps_on n within (cases_lt n (length tables));
      rising = λ n m first then more. stands_rise none keeps_on n m first then more (cases_lt n (length tables)) (cases_lt m (length tables));
      between = λ k insertion read. keeps_on.between k insertion (ap (λ (all : List Insertion). slice_get all k) (sym front_insertions) ∙ read);
      copies = λ n within. elim (cases_lt n (length tables)) [
        | inl short ↦ subst (λ (at : State). HasOneTwin at.slots) (sym (early n (omega arith))) (subst HasOneTwin (sym (slots_early n)) (keeps_on.copies 0 (omega arith)))
        | inr past ↦ let total = as_many none in subst (λ (at : State). HasOneTwin at.slots) (sym (seam n past)) (keeps_on.copies (n - length tables) (omega arith))
      ];
      finishing = λ n beyond.
          let total = as_many none in
          let past : length tables ≤ n = omega arith in
          let on = keeps_on.finishing (n - length tables) (omega arith) in (
            on.0,
            on.1,
            subst (λ at. HoldsInOrder at (Contains on.0)) (sym (seam n past)) on.2,
            subst (λ at. StandsOnce at (Contains on.0)) (sym (seam n past)) on.3,
          );
      after = subst (λ at. HoldsInOrder at (Contains (set_pieces mode during later))) (sym (state_after-append state tables made)) keeps_on.after;
      once = subst (λ at. StandsOnce at (Contains (set_pieces mode during later))) (sym (state_after-append state tables made)) keeps_on.once;
    }

  front_shape : HasShape [] (due_of mode during rules batch) behind made → HasShape tables (due_of mode during rules batch) state (tables ++ made)
  front_shape shape = record {
    inserted = shape.inserted;
    rewritten = shape.rewritten;
    erased = shape.erased;
    parts = ap (λ rest. tables ++ rest) shape.parts;
    whole = shape.whole;
    entries = shape.entries;
    results = subst (λ at. AllZip (Rewrites at) (rewritten_pieces mode during rules batch) shape.rewritten) (sym (state_after-append state tables shape.inserted)) shape.results;
    erases = subst (λ at. AllZip (Erases at) (erased_pieces mode during rules batch) shape.erased) whole shape.erases;
  }
    where
      whole : state_after behind (shape.inserted ++ shape.rewritten) ≡ state_after state (tables ++ shape.inserted ++ shape.rewritten)
      whole = sym (state_after-append state tables (shape.inserted ++ shape.rewritten)) ∙ ap (state_after state) (sym (append_assoc tables shape.inserted shape.rewritten))

  -- The words and the other writes are the segment of the batch.
  pub front_segment : IsSoundChange rules batch → IsBitsStart mode bits rules batch state → IsOrdered (fresh_state mode bits rules batch state) (Contains (set_pieces mode (bits_with mode rules batch bits) rules))
      → AreSlotWrites mode (bits_with mode rules batch bits) rules batch (fresh_state mode bits rules batch state) made
      → IsSegment mode bits rules batch state (fresh_writes mode bits rules batch state ++ made)
  front_segment change start ordered slots = record {
    hitless = front_hitless change.is_set change.right start ordered slots.hitless;
    turns = λ none. front_turns change.is_set change.right start ordered (slots.turns none);
    order = front_order change.is_set change.right start ordered slots.slots_only slots.order;
    shape = front_shape slots.shape;
    tight = λ chain bounds. subst (IsWithinTightBound chain) (sym front_insertions) (slots.tight chain bounds);
  }
