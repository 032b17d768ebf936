-- Wherever a write of a segment needs an erase, each key has its old or its new answer with that slot erased.
use Rattle.std.proofs.Common.{◌≡◌, ℕ, suc, ◌≤◌, ◌+◌, true, false, None, Some, List, [], ◌∷◌, ◌++◌, length, take, set, flat_map, count_by, inl, inr, sym, ◌∙◌, subst, ap, arith, length-append}
use Rattle.std.specs.List.{AllZip}
use Rattle.std.proofs.lemmas.Bool.{cases_eq}
use Rattle.std.proofs.lemmas.List.{take-append-le}
use Rattle.std.proofs.lemmas.List.Concat.{flat_map-append}
use Rattle.std.proofs.Math.Seq.{take-append-add}
use Rattle.slot_order.specs.Order.{slot}
use Rattle.slot_order.proofs.Writes.{slot_same, slot_other, slot_inside}
use Rattle.rule_model.specs.declared.Rule.{Rule}
use Rattle.rule_store.specs.declared.Mode.{Mode}
use Rattle.rule_store.specs.declared.Command.{Command}
use Rattle.rule_store.specs.Batch.{additions, set_after}
use Rattle.rule_store.proofs.Counts.{count_by-append}
use Rattle.rule_model.specs.declared.words.Entry.{Entry}
use Rattle.rule_model.specs.Entry.{RankedPiece, entry_for, same_match}
use Rattle.tcam_device.specs.declared.Write.{Write}
use Rattle.tcam_device.specs.declared.Write.TheVariants.{Slot, Table}
use Rattle.tcam_device.specs.State.{State, IsState, apply, state_after}
use Rattle.tcam_device.specs.Order.{IsOrdered}
use Rattle.tcam_device.specs.Hitless.{ShowsOldOrNew}
use Rattle.tcam_device.specs.Insertion.{Insertion, is_table_write, insertions}
use Rattle.tcam_device.proofs.One.{same_match-same}
use Rattle.tcam_device.proofs.Spans.{state_after-append}
use Rattle.commit_writes.specs.Bits.{FieldBits, bits_with, new_bits}
use Rattle.commit_writes.specs.Commit.{IsSegment, insertion_writes}
use Rattle.commit_writes.specs.Segments.{MayBegin}
use Rattle.commit_writes.specs.Serving.{AreServing}
use Rattle.commit_writes.specs.Shape.{Rewrites, Erases, set_pieces, inserted_pieces, fresh_writes}
use Rattle.commit_writes.proofs.BatchRules.{IsSoundChange}
use Rattle.commit_writes.proofs.ServedTables.{IsBitsStart, tables_serve, words_done}
use Rattle.commit_writes.proofs.ServedLive.{change_begun, bits_begun}
use Rattle.commit_writes.proofs.SlotsBehind.{insertion_slots}
use Rattle.commit_writes.proofs.SlotWrites.{AreToSlots}
use Rattle.commit_writes.proofs.TableWrites.{AreToTables, bit_writes-tables, all_tables, insertions-behind}
use Rattle.split_writes.proofs.Through.{HoldsOfErased, HoldsThrough, erased_append, erased_weaker, through_of}
use Rattle.split_writes.proofs.Elsewhere.{First, InOrderAlong, NeverFalls, IsEarly, insertions_erased}
use Rattle.split_writes.proofs.OldOrNew.{early_shows}
use Rattle.split_writes.proofs.Runs.{insertions_more}
use Rattle.split_writes.proofs.Undivided.{match_parts}

-- a word of a table needs no erase,
tables_erased : (Fact : State → Type 0) (state : State) (tables : List Write) → AreToTables tables → HoldsOfErased Fact state tables
tables_erased Fact state [] words = tt
tables_erased Fact state (Slot at entry ∷ tables) words = absurd (let wrong = words.0 in cc)
tables_erased Fact state (Table field port word ∷ tables) words = (tt, tables_erased Fact (apply state (Table field port word)) tables words.1)

-- nor does an erase,
erases_erased : (Fact : State → Type 0) (before state : State) (pieces : List RankedPiece) (writes : List Write) → AllZip (Erases before) pieces writes → HoldsOfErased Fact state writes
erases_erased Fact before state [] [] zip = tt
erases_erased Fact before state [] (write ∷ writes) zip = absurd zip
erases_erased Fact before state (ranked ∷ pieces) [] zip = absurd zip
erases_erased Fact before state (ranked ∷ pieces) (write ∷ writes) zip =
    subst (λ one. HoldsOfErased Fact state (one ∷ writes)) (sym zip.0.2) (tt, erases_erased Fact before (apply state (Slot zip.0.0 None)) pieces writes zip.1)

same_parts : (a b : Entry) → a.value ≡ b.value → a.mask ≡ b.mask → a.tag ≡ b.tag → same_match a b ≡ true
same_parts a b v m t = rw (← v, ← m, ← t) (same_match-same a)

match_sym : (a b : Entry) → same_match a b ≡ true → same_match b a ≡ true
match_sym a b e = let p = match_parts a b e in same_parts b a (sym p.0) (sym p.1) (sym p.2)

match_trans : (a b c : Entry) → same_match a b ≡ true → same_match b c ≡ true → same_match a c ≡ true
match_trans a b c e f = let p = match_parts a b e in let q = match_parts b c f in same_parts a c (p.0 ∙ q.0) (p.1 ∙ q.1) (p.2 ∙ q.2)

-- each entry of one state stands in another one, perhaps with another result
abbrev Matches : State → State → Type 0
Matches state now = (at : ℕ) (entry : Entry) → slot state.slots at ≡ Some entry → (standing : Entry) × (slot now.slots at ≡ Some standing) × (same_match entry standing ≡ true)

matches_more : (state now : State) (at : ℕ) (old new : Entry) → Matches state now → slot state.slots at ≡ Some old → same_match new old ≡ true → Matches state (apply now (Slot at (Some new)))
matches_more state now at old new are stands same place entry is = elim (cases_eq place at) [
  | inr other ↦ let w = are place entry is in (w.0, slot_other now.slots at (Some new) place other ∙ w.1, w.2)
  | inl here ↦
      let w = are at old stands in
      let k : Some entry ≡ Some old = sym is ∙ (ap (slot state.slots) here ∙ stands) in
      let one : old ≡ entry = cc in (
        new,
        subst (λ i. slot (set now.slots at (Some new)) i ≡ Some new) (sym here) (slot_same now.slots at (Some new) (slot_inside now.slots at w.0 w.1)),
        subst (λ e. same_match e new ≡ true) one (match_sym new old same),
      )
]

-- nor a new result,
rewrites_erased : (Fact : State → Type 0) (before state : State) (pieces : List RankedPiece) (writes : List Write) → AllZip (Rewrites before) pieces writes → Matches before state → HoldsOfErased Fact state writes
rewrites_erased Fact before state [] [] zip are = tt
rewrites_erased Fact before state [] (write ∷ writes) zip are = absurd zip
rewrites_erased Fact before state (ranked ∷ pieces) [] zip are = absurd zip
rewrites_erased Fact before state (ranked ∷ pieces) (write ∷ writes) zip are =
    let at = zip.0.0 in
    let old : Entry = zip.0.1.0 in
    let new : Entry = entry_for ranked in
    subst (λ one. HoldsOfErased Fact state (one ∷ writes)) (sym zip.0.2) (
      λ standing stands differ. absurd (
          let w = are at old zip.0.1.1 in
          let k : Some w.0 ≡ Some standing = sym w.1 ∙ stands in
          let one : w.0 ≡ standing = cc in
          let yes : same_match new standing ≡ true = subst (λ e. same_match new e ≡ true) one (match_trans new old w.0 zip.0.1.2 w.2) in
          let wrong : true ≡ false = sym yes ∙ differ in cc),
      rewrites_erased Fact before (apply state (Slot at (Some new))) pieces writes zip.1 (matches_more before state at old new are zip.0.1.1 zip.0.1.2),
    )

module _ (mode : Mode) (bits : FieldBits) (rules : List Rule) (batch : List Command) (state : State) (made : List Write)
    (begin : MayBegin mode bits rules batch state) (segment : IsSegment mode bits rules batch state made) where
  abbrev during : FieldBits
  during = bits_with mode rules batch bits

  abbrev later : List Rule
  later = set_after rules batch

  abbrev old : List RankedPiece
  old = set_pieces mode during rules

  abbrev added : List RankedPiece
  added = inserted_pieces mode during rules batch

  abbrev tables : List Write
  tables = fresh_writes mode bits rules batch state

  abbrev inserted : List Write
  inserted = segment.shape.inserted

  abbrev rest : List Write
  rest = segment.shape.rewritten ++ segment.shape.erased

  abbrev behind : State
  behind = state_after state tables

  abbrev Either : State → Type 0
  Either now = ShowsOldOrNew now rules later

  start : IsBitsStart mode bits rules batch state
  start = bits_begun mode bits rules batch state begin

  change : IsSoundChange rules batch
  change = change_begun mode bits rules batch state begin

  words : AreToTables tables
  words = bit_writes-tables state (new_bits bits (bits_with mode rules batch bits))

  serving : AreServing mode during (rules ++ additions batch) behind
  serving = tables_serve mode bits rules batch state start

  is_state : IsState (length behind.slots) behind
  is_state = (words_done mode bits rules batch state start).0

  -- the insertions come behind the words of the tables, before all else
  made_are : insertions state made ≡ insertions behind (inserted ++ rest)
  made_are = ap (insertions state) segment.shape.parts ∙ insertions-behind state tables (inserted ++ rest) words

  room : length tables + length inserted ≤ insertion_writes state made
  room =
      let counted = ap (λ (writes : List Write). count_by is_table_write writes) segment.shape.parts ∙ count_by-append is_table_write tables (inserted ++ rest) in
      let first = all_tables tables words in
      let more = insertions_more behind [] behind inserted rest in
      let runs = ap (λ (all : List Insertion). flat_map (λ (insertion : Insertion). insertion.writes) all) (made_are ∙ more.1)
      ∙ flat_map-append (λ (insertion : Insertion). insertion.writes) (insertions behind inserted) more.0 in
      let size = ap length runs in
      let both = length-append (flat_map (λ (insertion : Insertion). insertion.writes) (insertions behind inserted)) (flat_map (λ (insertion : Insertion). insertion.writes) more.0) in
      let whole = ap length segment.shape.whole in
      omega (arith, counted, first, size, both, whole)

  within : (n : ℕ) → n ≤ length inserted → length tables + n ≤ insertion_writes state made
  within n short = let all = room in omega arith

  reach : (n : ℕ) → n ≤ length inserted → state_after state (take (length tables + n) made) ≡ state_after behind (take n inserted)
  reach n short =
      ap (λ (writes : List Write). state_after state (take (length tables + n) writes)) segment.shape.parts
      ∙ (ap (state_after state) (take-append-add tables (inserted ++ rest) n)
      ∙ (state_after-append state tables (take n (inserted ++ rest)) ∙ ap (state_after behind) (take-append-le n inserted rest short)))

  abbrev orders : InOrderAlong old added behind inserted
  orders = λ n short. let w = segment.order.inserting (length tables + n) (within n short) in
      (w.0, subst (λ (now : State). IsOrdered now (First old added w.0)) (reach n short) w.1.ordered)

  rises : NeverFalls old added behind inserted orders
  rises = λ n now next. segment.order.rising (length tables + n) (length tables + suc n) (within n now) (within (suc n) next) (omega arith)

  slots : AreToSlots inserted
  slots = subst AreToSlots segment.shape.whole (insertion_slots behind [] behind inserted tt)

  insertions_shown : HoldsOfErased Either behind inserted
  insertions_shown =
      erased_weaker (IsEarly old added) Either behind inserted slots (early_shows mode during rules batch behind change is_state serving) (insertions_erased old added behind inserted orders rises)

  -- wherever a write needs an erase each key has its old or its new answer,
  pub segment_erased : HoldsOfErased (λ now. ShowsOldOrNew now rules (set_after rules batch)) state made
  segment_erased =
      subst (HoldsOfErased Either state) (sym segment.shape.parts)
      (erased_append Either state tables (inserted ++ rest) (tables_erased Either state tables words)
      (erased_append Either behind inserted rest insertions_shown
      (erased_append Either (state_after behind inserted) segment.shape.rewritten segment.shape.erased
      (rewrites_erased Either (state_after state (tables ++ inserted)) (state_after behind inserted) _ segment.shape.rewritten segment.shape.results
      (subst (λ (now : State). Matches (state_after state (tables ++ inserted)) now) (state_after-append state tables inserted) (λ at entry is. (entry, is, same_match-same entry))))
      (erases_erased Either (state_after state (tables ++ inserted ++ segment.shape.rewritten)) (state_after (state_after behind inserted) segment.shape.rewritten) _ segment.shape.erased segment.shape.erases))))

  -- and so it has all the way
  pub segment_through : HoldsThrough (λ now. ShowsOldOrNew now rules (set_after rules batch)) state made
  segment_through = through_of Either state made segment.hitless.on_the_way.during segment_erased
