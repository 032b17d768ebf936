-- The insertions of a planned batch by parts are exactly as long as their puts have it, and within the bound.
use Rattle.std.proofs.Common.{◌≡◌, ℕ, ◌+◌, ◌-◌, ◌*◌, ◌≤◌, Option, List, [], ◌∷◌, ◌++◌, length, map, Contains, refl, sym, ◌∙◌, subst, ap}
use Rattle.std.specs.List.{AllByRecursion, AllZip}
use Rattle.std.proofs.lemmas.List.{length-map}
use Rattle.std.proofs.lemmas.List.Elements.{Contains-append_left, Contains-append_right}
use Rattle.slot_order.specs.Order.{Ordered}
use Rattle.slot_order.specs.Chains.{BoundsMemberChains}
use Rattle.slot_order.proofs.Images.{entries as images}
use Rattle.slot_order.proofs.Lists.{map_in}
use Rattle.slot_pool.specs.Arrangement.{Slots}
use Rattle.rule_model.specs.declared.IpVersion.{IpVersion}
use Rattle.rule_model.specs.declared.IpVersion.TheVariants.{V4, V6}
use Rattle.rule_model.specs.declared.Field.TheVariants.{Src, Dst}
use Rattle.rule_model.specs.declared.Rule.{Rule}
use Rattle.rule_model.specs.RuleSet.{BoundsChains}
use Rattle.rule_store.specs.declared.Mode.{Mode}
use Rattle.rule_store.specs.declared.Command.{Command}
use Rattle.rule_store.specs.Batch.{additions}
use Rattle.rule_model.specs.declared.words.Word.{Word}
use Rattle.rule_model.specs.Entry.{RankedPiece}
use Rattle.placement.specs.declared.LivePiece.{LivePiece}
use Rattle.placement.specs.Insertion.{IsLive}
use Rattle.tcam_device.specs.declared.Write.{Write}
use Rattle.tcam_device.specs.declared.Write.TheVariants as whole
use Rattle.tcam_device.specs.State.{State, IsInUse, state_after}
use Rattle.tcam_device.specs.Insertion.{Insertion, insertions, IsCrossingSpan}
use Rattle.tcam_device.proofs.Lookups.{HitAsPieces}
use Rattle.tcam_device.proofs.Wider.{padded, state_after-padded}
use Rattle.tcam_device.proofs.WiderInsertions.{widened, insertions-padded, IsCrossingSpan-padded}
use Rattle.commit_writes.specs.Proposal.{proposal}
use Rattle.commit_writes.specs.declared.Rewrite.{Rewrite}
use Rattle.commit_writes.specs.Bits.{FieldBits, bits_with, new_bits}
use Rattle.commit_writes.specs.Routes.{IsRoute, prefix_lengths}
use Rattle.commit_writes.specs.Shape.{set_pieces, inserted_pieces, fresh_writes}
use Rattle.commit_writes.specs.Planned.{IdEntries, Planned, IsPlannedRow, IsServedBy, live_after, held_entry}
use Rattle.commit_writes.specs.PlannedBatch.{batch_writes, IsPlannedBatch}
use Rattle.commit_writes.proofs.BatchRow.{row_of}
use Rattle.commit_writes.proofs.BatchRules.{change_of}
use Rattle.commit_writes.proofs.BatchStands.{batch_insertions}
use Rattle.commit_writes.proofs.Counted.{chains_of_ids}
use Rattle.commit_writes.proofs.Ids.{AreOfPieces, nested_ids, known_member}
use Rattle.commit_writes.proofs.Members.{of_row}
use Rattle.commit_writes.proofs.Mirror.{Pieces, entry_by, over, rank, served_hits}
use Rattle.commit_writes.proofs.Routes.{row_chains, row_nested, row_short}
use Rattle.commit_writes.proofs.Row.{IsAsPlanned, AreNestedIds, made_by}
use Rattle.commit_writes.proofs.SlotWrites.{batch_slots}
use Rattle.commit_writes.proofs.Start.{commit_piece, commit_readable, commit_done, commit_makes, contents_are, arranged_ordered, old_live}
use Rattle.commit_writes.proofs.Front.{fresh_state}
use Rattle.commit_writes.proofs.TableWrites.{AreToTables, bit_writes-tables, insertions-behind, tables_in_use}
use Rattle.commit_writes.proofs.WholeBatch.{in_use}
use Rattle.split_device.specs.declared.SplitWrite.TheVariants.{Table}
use Rattle.split_device.specs.State.{SplitState, IsSized, undivided, split_apply}
use Rattle.split_writes.specs.Parts.{parts_of_writes}
use Rattle.split_writes.specs.Insertion.{SplitInsertion, split_insertions, IsWithinSplitBound, IsSplitUncrossed}
use Rattle.split_writes.specs.Segment.{most_by_parts}
use Rattle.split_writes.proofs.Insertions.{IsParted, insertions_parted}
use Rattle.split_writes.proofs.RowCost.{IsCheap, row_cost}
use Rattle.split_writes.proofs.RowExact.{IsExact, IsExactly, row_exact}

-- insertions that are cheap by parts are within the bound,
within : (piece : ℕ → RankedPiece) (all : List LivePiece) (more m : ℕ) (planned : List Planned) (made : List Insertion) (split : List SplitInsertion)
    → BoundsMemberChains (over piece) (rank piece) (IsLive all) m
    → AllZip (IsAsPlanned piece all) planned made → AllZip (IsCheap piece all more) planned made → AllZip IsParted (map (widened more) made) split → IsWithinSplitBound m split
within piece all more m [] [] [] bound told cheap parted = tt
within piece all more m [] [] (s ∷ split) bound told cheap parted = absurd parted
within piece all more m [] (n ∷ made) split bound told cheap parted = absurd told
within piece all more m (p ∷ planned) [] split bound told cheap parted = absurd told
within piece all more m (p ∷ planned) (n ∷ made) [] bound told cheap parted = absurd parted
within piece all more m (p ∷ planned) (n ∷ made) (s ∷ split) bound told cheap parted = (
  (
    p.span,
    spans more n s p.span parted.0 told.0.span,
    subst (λ parts. length parts ≤ 2 + 3 * (m - 1) * (1 + p.span)) (sym parted.0.writes) (cheap.0 m bound),
  ),
  within piece all more m planned made split bound told.1 cheap.1 parted.1,
)
  where
    spans : (more : ℕ) (n : Insertion) (s : SplitInsertion) (span : ℕ) → IsParted (widened more n) s → IsCrossingSpan n.before n.entry span → IsCrossingSpan (undivided s.before) s.entry span
    spans more n s span parted is =
        subst (λ (state : State). IsCrossingSpan state s.entry span) (sym parted.before)
        (subst (λ entry. IsCrossingSpan (padded more n.before) entry span) (sym parted.entry) (IsCrossingSpan-padded more n.before n.entry span is))

-- and cross nothing where they are nested
uncrossed : (piece : ℕ → RankedPiece) (all : List LivePiece) (more m most : ℕ) (planned : List Planned) (made : List Insertion) (split : List SplitInsertion)
    → 2 + 3 * (m - 1) * (1 + 0) ≡ most → AreNestedIds piece all → BoundsMemberChains (over piece) (rank piece) (IsLive all) m
    → AllZip (IsAsPlanned piece all) planned made → AllZip (IsCheap piece all more) planned made → AllZip IsParted (map (widened more) made) split → IsSplitUncrossed most split
uncrossed piece all more m most [] [] [] is nested bound told cheap parted = tt
uncrossed piece all more m most [] [] (s ∷ split) is nested bound told cheap parted = absurd parted
uncrossed piece all more m most [] (n ∷ made) split is nested bound told cheap parted = absurd told
uncrossed piece all more m most (p ∷ planned) [] split is nested bound told cheap parted = absurd told
uncrossed piece all more m most (p ∷ planned) (n ∷ made) [] is nested bound told cheap parted = absurd parted
uncrossed piece all more m most (p ∷ planned) (n ∷ made) (s ∷ split) is nested bound told cheap parted = (
  (
    subst (IsCrossingSpan (undivided s.before) s.entry) none
        (subst (λ (state : State). IsCrossingSpan state s.entry p.span) (sym parted.0.before)
        (subst (λ entry. IsCrossingSpan (padded more n.before) entry p.span) (sym parted.0.entry) (IsCrossingSpan-padded more n.before n.entry p.span told.0.span))),
    (let few : length (parts_of_writes (padded more n.before) n.writes) ≤ 2 + 3 * (m - 1) * (1 + 0) = subst (λ span. length (parts_of_writes (padded more n.before) n.writes) ≤ 2 + 3 * (m - 1) * (1 + span)) none (cheap.0 m bound) in
        subst (λ parts. length parts ≤ most) (sym parted.0.writes) (subst (λ bound. length (parts_of_writes (padded more n.before) n.writes) ≤ bound) is few)),
  ),
  uncrossed piece all more m most planned made split is nested bound told.1 cheap.1 parted.1,
)
  where
    none : p.span ≡ 0
    none = told.0.uncrossed nested

all_wide : (more : ℕ) (made : List Insertion) → AllByRecursion (IsExact more) made → AllByRecursion IsExactly (map (widened more) made)
all_wide more [] all = tt
all_wide more (insertion ∷ made) all = (all.0, all_wide more made all.1)

routes_most : (version : IpVersion) → 2 + 3 * (prefix_lengths version - 1) * (1 + 0) ≡ most_by_parts version
routes_most V4 = refl
routes_most V6 = refl

-- The state behind some words of the tables.
abbrev pub behind_tables : SplitState → List Write → SplitState
behind_tables state [] = state
behind_tables state (whole.Slot at entry ∷ tables) = behind_tables state tables
behind_tables state (whole.Table field port word ∷ tables) = behind_tables (split_apply state (Table field port word)) tables

-- they are part of no insertion
pub split_insertions-behind : (state : SplitState) (tables made : List Write) → AreToTables tables
    → split_insertions state (parts_of_writes (undivided state) (tables ++ made)) ≡ split_insertions (behind_tables state tables) (parts_of_writes (undivided (behind_tables state tables)) made)
split_insertions-behind state [] made words = refl
split_insertions-behind state (whole.Slot at entry ∷ tables) made words = absurd (let wrong = words.0 in cc)
split_insertions-behind state (whole.Table Src port word ∷ tables) made words = split_insertions-behind (split_apply state (Table Src port word)) tables made words.1
split_insertions-behind state (whole.Table Dst port word ∷ tables) made words = split_insertions-behind (split_apply state (Table Dst port word)) tables made words.1

module _ (mode : Mode) (bits : FieldBits) (start : State) (rules : List Rule) (batch : List Command) (live : List LivePiece) (slots : Slots) (entries : IdEntries) (planned : List Planned) (rewrites : List Rewrite) (erased : List ℕ)
    (plan : IsPlannedBatch (proposal mode bits rules batch) start live slots entries planned rewrites erased) (more : ℕ) (state : SplitState) (sized : IsSized state) (is : undivided state ≡ padded more start)
    (inside : AllByRecursion (IsInUse (length state.slots)) (batch_writes entries slots planned rewrites erased)) where
  abbrev old : List RankedPiece
  old = set_pieces mode bits rules

  abbrev added : List RankedPiece
  added = inserted_pieces mode bits rules batch

  abbrev made : List Write
  made = batch_writes entries slots planned rewrites erased

  abbrev piece : ℕ → RankedPiece
  piece = commit_piece live entries planned

  abbrev all : List LivePiece
  all = live_after live planned

  row : IsPlannedRow start old added live slots entries planned
  row = row_of mode bits start rules batch live slots entries planned rewrites erased plan

  of : AreOfPieces start (old ++ added) all entries
  of = of_row start old added live slots entries planned row

  size : length start.slots ≡ length slots
  size = ap length plan.mirrors ∙ length-map slots (held_entry entries)

  in_start : AllByRecursion (IsInUse (length start.slots)) made
  in_start = subst (λ n. AllByRecursion (IsInUse n) made) (sym size) (in_use mode bits start rules batch live slots entries planned rewrites erased plan)

  made_is : insertions (undivided state) made ≡ map (widened more) (made_by entries piece start planned)
  made_is =
      ap (λ (s : State). insertions s made) is
      ∙ (insertions-padded more start made in_start
      ∙ ap (map (widened more)) (batch_insertions mode bits start rules batch live slots entries planned rewrites erased plan ∙ commit_makes start old added live slots entries planned row))

  parted : AllZip IsParted (map (widened more) (made_by entries piece start planned)) (split_insertions state (parts_of_writes (undivided state) made))
  parted =
      subst (λ xs. AllZip IsParted xs (split_insertions state (parts_of_writes (undivided state) made))) made_is
      (insertions_parted state made sized inside (batch_slots entries slots planned rewrites erased))

  mirrored : start.slots ≡ images (entry_by piece) slots
  mirrored =
      row.mirrors ∙ contents_are entries piece (IsLive all) slots (commit_readable start old added live slots entries planned row).have
      (λ at id s. old_live live planned id (row.arranged.standing.within at id s))

  up : (one : LivePiece) → Contains live one → Contains all one
  up one member = Contains-append_left live (map (λ (insertion : Planned). insertion.one) planned) one member

  begins : Ordered (over piece) (rank piece) (IsLive live) slots
  begins = arranged_ordered piece live slots ((commit_readable start old added live slots entries planned row).reads live up) row.arranged

  hits : HitAsPieces start (Pieces piece (IsLive all))
  hits = served_hits start (Pieces piece (IsLive all)) row.is_state (λ ranked m.
      subst (IsServedBy start) m.2 (of.served (piece m.0) (known_member start (old ++ added) all entries m.0 of m.1)))

  cheap : AllZip (IsCheap piece all more) planned (made_by entries piece start planned)
  cheap =
      row_cost entries piece all live more slots start planned (commit_readable start old added live slots entries planned row) up
      (λ p member. Contains-append_right live (map (λ (insertion : Planned). insertion.one) planned) p.one (map_in (λ (insertion : Planned). insertion.one) planned p member))
      mirrored size begins (λ i j id a b. row.arranged.standing.once i j id a b) hits row.are_planned

  -- Each insertion takes three parts of each entry that it puts, but one,
  pub batch_split_exact : AllByRecursion IsExactly (insertions (undivided state) (batch_writes entries slots planned rewrites erased))
  batch_split_exact =
      subst (AllByRecursion IsExactly) (sym made_is)
      (all_wide more (made_by entries piece start planned)
      (row_exact entries piece all live more slots start planned (commit_readable start old added live slots entries planned row) up
      (λ p member. Contains-append_right live (map (λ (insertion : Planned). insertion.one) planned) p.one (map_in (λ (insertion : Planned). insertion.one) planned p member))
      mirrored size begins (λ i j id a b. row.arranged.standing.once i j id a b) hits row.are_planned))

  -- is within the bound,
  pub batch_split_bound : (chain : ℕ) → BoundsChains (rules ++ additions batch) chain
      → IsWithinSplitBound chain (split_insertions state (parts_of_writes (undivided state) (batch_writes entries slots planned rewrites erased)))
  batch_split_bound chain bounds =
      within piece all more chain planned (made_by entries piece start planned) (split_insertions state (parts_of_writes (undivided state) made))
      (chains_of_ids start (old ++ added) all entries chain of (row_chains mode bits rules batch (change_of mode bits start rules batch live slots entries planned rewrites erased plan) chain bounds))
      (commit_done start old added live slots entries planned row).as_planned cheap parted

  -- and of routes none crosses others, and none takes more writes than a prefix of so many lengths may need
  pub batch_split_routes : (version : IpVersion) → AllByRecursion (IsRoute version) rules → AllByRecursion (IsRoute version) (additions batch)
      → IsSplitUncrossed (most_by_parts version) (split_insertions state (parts_of_writes (undivided state) (batch_writes entries slots planned rewrites erased)))
  batch_split_routes version routes adds =
      let change = change_of mode bits start rules batch live slots entries planned rewrites erased plan in
      uncrossed piece all more (prefix_lengths version) (most_by_parts version) planned (made_by entries piece start planned) (split_insertions state (parts_of_writes (undivided state) made))
      (routes_most version) (nested_ids start (old ++ added) all entries of (row_nested mode bits rules batch version change routes adds))
      (chains_of_ids start (old ++ added) all entries (prefix_lengths version) of (row_short mode bits rules batch version change routes adds))
      (commit_done start old added live slots entries planned row).as_planned cheap parted

-- The state behind words of the tables is that behind the same undivided words.
behind_is : (state : SplitState) (tables : List Write) → AreToTables tables → undivided (behind_tables state tables) ≡ state_after (undivided state) tables
behind_is state [] words = refl
behind_is state (whole.Slot at entry ∷ tables) words = absurd (let wrong = words.0 in cc)
behind_is state (whole.Table Src port word ∷ tables) words = behind_is (split_apply state (Table Src port word)) tables words.1
behind_is state (whole.Table Dst port word ∷ tables) words = behind_is (split_apply state (Table Dst port word)) tables words.1

behind_sized : (state : SplitState) (tables : List Write) → IsSized state → IsSized (behind_tables state tables)
behind_sized state [] sized = sized
behind_sized state (whole.Slot at entry ∷ tables) sized = behind_sized state tables sized
behind_sized state (whole.Table Src port word ∷ tables) sized = behind_sized (split_apply state (Table Src port word)) tables sized
behind_sized state (whole.Table Dst port word ∷ tables) sized = behind_sized (split_apply state (Table Dst port word)) tables sized

behind_slots : (state : SplitState) (tables : List Write) → (behind_tables state tables).slots ≡ state.slots
behind_slots state [] = refl
behind_slots state (whole.Slot at entry ∷ tables) = behind_slots state tables
behind_slots state (whole.Table Src port word ∷ tables) = behind_slots (split_apply state (Table Src port word)) tables
behind_slots state (whole.Table Dst port word ∷ tables) = behind_slots (split_apply state (Table Dst port word)) tables

-- A commit as it was planned, the words of its new bits first, on a device with so many empty slots more.
module _ (mode : Mode) (bits : FieldBits) (rules : List Rule) (batch : List Command) (own : State) (live : List LivePiece) (slots : Slots) (entries : IdEntries) (planned : List Planned)
    (rewrites : List Rewrite) (erased : List ℕ) (more : ℕ) (state : SplitState) (sized : IsSized state) (is : undivided state ≡ padded more own)
    (plan : IsPlannedBatch (proposal mode (bits_with mode rules batch bits) rules batch) (fresh_state mode bits rules batch own) live slots entries planned rewrites erased)
    (inside : AllByRecursion (IsInUse (length state.slots)) (batch_writes entries slots planned rewrites erased)) where
  abbrev tables : List Write
  tables = fresh_writes mode bits rules batch own

  abbrev writes : List Write
  writes = batch_writes entries slots planned rewrites erased

  abbrev behind : SplitState
  behind = behind_tables state tables

  words : AreToTables tables
  words = bit_writes-tables own (new_bits bits (bits_with mode rules batch bits))

  reached : undivided behind ≡ padded more (fresh_state mode bits rules batch own)
  reached = behind_is state tables words ∙ (ap (λ (s : State). state_after s tables) is ∙ state_after-padded more own tables (tables_in_use (length own.slots) tables words))

  inside_behind : AllByRecursion (IsInUse (length behind.slots)) writes
  inside_behind = subst (λ (held : List (Option (Word × Word))). AllByRecursion (IsInUse (length held)) writes) (sym (behind_slots state tables)) inside

  same : split_insertions state (parts_of_writes (undivided state) (tables ++ writes)) ≡ split_insertions behind (parts_of_writes (undivided behind) writes)
  same = split_insertions-behind state tables writes words

  whole_same : insertions (undivided state) (tables ++ writes) ≡ insertions (undivided behind) writes
  whole_same = insertions-behind (undivided state) tables writes words ∙ ap (λ (s : State). insertions s writes) (sym (behind_is state tables words))

  -- The insertions by parts are the parts of its insertions,
  pub commit_parted : AllZip IsParted (insertions (undivided state) (fresh_writes mode bits rules batch own ++ batch_writes entries slots planned rewrites erased))
      (split_insertions state (parts_of_writes (undivided state) (fresh_writes mode bits rules batch own ++ batch_writes entries slots planned rewrites erased)))
  commit_parted =
      subst (λ xs. AllZip IsParted xs (split_insertions state (parts_of_writes (undivided state) (tables ++ writes)))) (sym whole_same)
      (subst (AllZip IsParted (insertions (undivided behind) writes)) (sym same)
      (insertions_parted behind writes (behind_sized state tables sized) inside_behind (batch_slots entries slots planned rewrites erased)))

  -- take three of each entry that they put, but one,
  pub commit_split_exact : AllByRecursion IsExactly (insertions (undivided state) (fresh_writes mode bits rules batch own ++ batch_writes entries slots planned rewrites erased))
  commit_split_exact =
      subst (AllByRecursion IsExactly) (sym whole_same)
      (batch_split_exact mode (bits_with mode rules batch bits) (fresh_state mode bits rules batch own) rules batch live slots entries planned rewrites erased plan more behind
      (behind_sized state tables sized) reached inside_behind)

  -- are within the bound,
  pub commit_split_bound : (chain : ℕ) → BoundsChains (rules ++ additions batch) chain
      → IsWithinSplitBound chain (split_insertions state (parts_of_writes (undivided state) (fresh_writes mode bits rules batch own ++ batch_writes entries slots planned rewrites erased)))
  commit_split_bound chain bounds =
      subst (IsWithinSplitBound chain) (sym same)
      (batch_split_bound mode (bits_with mode rules batch bits) (fresh_state mode bits rules batch own) rules batch live slots entries planned rewrites erased plan more behind
      (behind_sized state tables sized) reached inside_behind chain bounds)

  -- and those of routes are uncrossed.
  pub commit_split_routes : (version : IpVersion) → AllByRecursion (IsRoute version) rules → AllByRecursion (IsRoute version) (additions batch)
      → IsSplitUncrossed (most_by_parts version) (split_insertions state (parts_of_writes (undivided state) (fresh_writes mode bits rules batch own ++ batch_writes entries slots planned rewrites erased)))
  commit_split_routes version routes adds =
      subst (IsSplitUncrossed (most_by_parts version)) (sym same)
      (batch_split_routes mode (bits_with mode rules batch bits) (fresh_state mode bits rules batch own) rules batch live slots entries planned rewrites erased plan more behind
      (behind_sized state tables sized) reached inside_behind version routes adds)
