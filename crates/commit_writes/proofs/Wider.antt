-- A commit's writes are its segment on a device with more slots, too.
use Rattle.std.proofs.Common.{◌≡◌, ℕ, zero, suc, ◌+◌, ◌≤◌, Some, List, [], ◌∷◌, ◌++◌, length, take, map, flat_map, slice_get, Contains, refl, sym, ◌∙◌, subst, ap}
use Rattle.std.specs.List.{AllByRecursion, AllZip}
use Rattle.std.proofs.lemmas.Option.{none-some, same_Some}
use Rattle.slot_order.proofs.Lists.{all_append}
use Rattle.rule_model.specs.declared.Rule.{Rule}
use Rattle.rule_store.specs.declared.Mode.{Mode}
use Rattle.rule_store.specs.declared.Command.{Command}
use Rattle.rule_store.specs.Batch.{set_after}
use Rattle.rule_model.specs.Entry.{RankedPiece}
use Rattle.tcam_device.specs.declared.Write.{Write}
use Rattle.tcam_device.specs.State.{State, IsInUse, state_after}
use Rattle.tcam_device.specs.Order.{StandsOnce, HasOneTwin}
use Rattle.tcam_device.specs.Insertion.{Insertion, insertions, table_writes, IsGreatestSpan, AreBoundedBy, IsUncrossed}
use Rattle.tcam_device.proofs.Wider.{padded, all_take, slot-padded, state_after-padded, slots-after, IsHitless-padded, TurnsOnce-padded, IsOrdered-padded, StandsOnce-padded, HasOneTwin-padded}
use Rattle.tcam_device.proofs.WiderInsertions.{widened, insertions-padded, longest-padded, writes-widened, entries-widened, IsGreatestSpan-widened, AreBoundedBy-widened, IsUncrossed-widened}
use Rattle.commit_writes.specs.declared.Done.{Done}
use Rattle.commit_writes.specs.Bits.{FieldBits, bits_with}
use Rattle.commit_writes.specs.Routes.{prefix_lengths}
use Rattle.commit_writes.specs.Shape.{Stands, Rewrites, Erases, inserted_pieces, fresh_writes, Due, due_of, HasShape, set_pieces}
use Rattle.commit_writes.specs.Commit.{insertion_writes, HoldsInOrder, KeepsOrder, IsSegment, AreCounts}
use Rattle.commit_writes.specs.PlannedBatch.{IsPlannedSegment}

-- writes within the first slots
abbrev pub AreInUse : State → List Write → Type 0
AreInUse state writes = AllByRecursion (IsInUse (length state.slots)) writes

-- what holds of all holds of the first, and of those behind them
pub all_front : {X : Type 0} (P : X → Type 0) (xs ys : List X) → AllByRecursion P (xs ++ ys) → AllByRecursion P xs
all_front P [] ys all = tt
all_front P (x ∷ xs) ys all = (all.0, all_front P xs ys all.1)

pub all_back : {X : Type 0} (P : X → Type 0) (xs ys : List X) → AllByRecursion P (xs ++ ys) → AllByRecursion P ys
all_back P [] ys all = all
all_back P (x ∷ xs) ys all = all_back P xs ys all.1

zip_wider : {X Y : Type 0} (P Q : X → Y → Type 0) → ((x : X) (y : Y) → P x y → Q x y) → (xs : List X) (ys : List Y) → AllZip P xs ys → AllZip Q xs ys
zip_wider P Q each [] [] all = tt
zip_wider P Q each [] (y ∷ ys) all = absurd all
zip_wider P Q each (x ∷ xs) [] all = absurd all
zip_wider P Q each (x ∷ xs) (y ∷ ys) all = (each x y all.0, zip_wider P Q each xs ys all.1)

stands : (more : ℕ) (state : State) (at : ℕ) (ranked : RankedPiece) → Stands state at ranked → Stands (padded more state) at ranked
stands more state at ranked is = (is.0, slot-padded state.slots more at ∙ is.1, is.2)

pub rewrites : (more : ℕ) (state : State) (pieces : List RankedPiece) (writes : List Write) → AllZip (Rewrites state) pieces writes → AllZip (Rewrites (padded more state)) pieces writes
rewrites more state pieces writes all = zip_wider (Rewrites state) (Rewrites (padded more state)) (λ ranked write is. (is.0, stands more state is.0 ranked is.1, is.2)) pieces writes all

pub erases : (more : ℕ) (state : State) (pieces : List RankedPiece) (writes : List Write) → AllZip (Erases state) pieces writes → AllZip (Erases (padded more state)) pieces writes
erases more state pieces writes all = zip_wider (Erases state) (Erases (padded more state)) (λ ranked write is. (is.0, stands more state is.0 ranked is.1, is.2)) pieces writes all

pub HasShape-padded : (more : ℕ) (front : List Write) (due : Due) (state : State) (writes : List Write)
    → AreInUse state writes → HasShape front due state writes → HasShape front due (padded more state) writes
HasShape-padded more front due state writes inside shape = record {
  inserted = shape.inserted;
  rewritten = shape.rewritten;
  erased = shape.erased;
  parts = shape.parts;
  whole = ap (λ (made : List Insertion). flat_map (λ (insertion : Insertion). insertion.writes) made) made
      ∙ writes-widened more (insertions (state_after state front) shape.inserted) ∙ shape.whole;
  entries = ap (λ (made : List Insertion). map (λ (insertion : Insertion). insertion.entry) made) made
      ∙ entries-widened more (insertions (state_after state front) shape.inserted) ∙ shape.entries;
  results = subst (λ (now : State). AllZip (Rewrites now) due.rewritten shape.rewritten) (sym (state_after-padded more state (front ++ shape.inserted) two))
      (rewrites more (state_after state (front ++ shape.inserted)) due.rewritten shape.rewritten shape.results);
  erases = subst (λ (now : State). AllZip (Erases now) due.erased shape.erased) (sym (state_after-padded more state (front ++ shape.inserted ++ shape.rewritten) three))
      (erases more (state_after state (front ++ shape.inserted ++ shape.rewritten)) due.erased shape.erased shape.erases);
}
  where
    all : AreInUse state (front ++ (shape.inserted ++ (shape.rewritten ++ shape.erased)))
    all = subst (AreInUse state) shape.parts inside

    first : AreInUse state front
    first = all_front (IsInUse (length state.slots)) front _ all

    later : AreInUse state (shape.inserted ++ (shape.rewritten ++ shape.erased))
    later = all_back (IsInUse (length state.slots)) front _ all

    two : AreInUse state (front ++ shape.inserted)
    two = all_append (IsInUse (length state.slots)) front shape.inserted first (all_front (IsInUse (length state.slots)) shape.inserted _ later)

    three : AreInUse state (front ++ shape.inserted ++ shape.rewritten)
    three = all_append (IsInUse (length state.slots)) (front ++ shape.inserted) shape.rewritten two
        (all_front (IsInUse (length state.slots)) shape.rewritten shape.erased (all_back (IsInUse (length state.slots)) shape.inserted _ later))

    made : insertions (state_after (padded more state) front) shape.inserted ≡ map (widened more) (insertions (state_after state front) shape.inserted)
    made =
        ap (λ (now : State). insertions now shape.inserted) (state_after-padded more state front first)
        ∙ insertions-padded more (state_after state front) shape.inserted
        (subst (λ n. AllByRecursion (IsInUse n) shape.inserted) (sym (slots-after state front))
        (all_front (IsInUse (length state.slots)) shape.inserted _ later))

-- what is read of a mapped list is the image of what is read of the list
map_read : {X Y : Type 0} (f : X → Y) (xs : List X) (k : ℕ) (y : Y) → slice_get (map f xs) k ≡ Some y → (x : X) × (slice_get xs k ≡ Some x) × (f x ≡ y)
map_read f [] k y none = absurd (none-some y none)
map_read f (x ∷ xs) zero y read = (x, refl, same_Some (f x) y read)
map_read f (x ∷ xs) (suc k) y read = map_read f xs k y read

HoldsInOrder-padded : (more : ℕ) (state : State) (Member : RankedPiece → Type 0) → HoldsInOrder state Member → HoldsInOrder (padded more state) Member
HoldsInOrder-padded more state Member holds = record {
  ordered = IsOrdered-padded more state Member holds.ordered;
  serves = record { srcbits = holds.serves.srcbits; dstbits = holds.serves.dstbits };
}

pub KeepsOrder-padded : (more : ℕ) (mode : Mode) (bits : FieldBits) (rules : List Rule) (batch : List Command) (state : State) (made : List Write)
    → AreInUse state made → KeepsOrder mode bits rules batch state made → KeepsOrder mode bits rules batch (padded more state) made
KeepsOrder-padded more mode bits rules batch state made inside keeps = record {
  inserting = λ n within. let w = keeps.inserting n (subst (λ count. n ≤ count) as_many within) in (
    w.0,
    subst (λ (now : State). HoldsInOrder now (first w.0)) (sym (reached n)) (HoldsInOrder-padded more (state_after state (take n made)) (first w.0) w.1),
  );
  rising = λ n m now later further. keeps.rising n m (subst (λ count. n ≤ count) as_many now) (subst (λ count. m ≤ count) as_many later) further;
  between = λ k insertion read.
      let w = map_read (widened more) (insertions state made) k insertion (ap (λ (all : List Insertion). slice_get all k) (sym (insertions-padded more state made inside)) ∙ read) in
      subst (λ (begun : Insertion). StandsOnce begun.before (first k)) w.2 (StandsOnce-padded more w.0.before (first k) (keeps.between k w.0 w.1));
  copies = λ n within. subst (λ (now : State). HasOneTwin now.slots) (sym (reached n))
      (HasOneTwin-padded more (state_after state (take n made)) (keeps.copies n (subst (λ count. n ≤ count) as_many within)));
  finishing = λ n past. let w = keeps.finishing n (subst (λ count. count ≤ n) as_many past) in (
    w.0,
    w.1,
    subst (λ (now : State). HoldsInOrder now (Contains w.0)) (sym (reached n)) (HoldsInOrder-padded more (state_after state (take n made)) (Contains w.0) w.2),
    subst (λ (now : State). StandsOnce now (Contains w.0)) (sym (reached n)) (StandsOnce-padded more (state_after state (take n made)) (Contains w.0) w.3),
  );
  after = subst (λ (now : State). HoldsInOrder now new) (sym (state_after-padded more state made inside)) (HoldsInOrder-padded more (state_after state made) new keeps.after);
  once = subst (λ (now : State). StandsOnce now new) (sym (state_after-padded more state made inside)) (StandsOnce-padded more (state_after state made) new keeps.once);
}
  where
    first : ℕ → RankedPiece → Type 0
    first k = Contains (set_pieces mode (bits_with mode rules batch bits) rules ++ take k (inserted_pieces mode (bits_with mode rules batch bits) rules batch))

    new : RankedPiece → Type 0
    new = Contains (set_pieces mode (bits_with mode rules batch bits) (set_after rules batch))

    reached : (n : ℕ) → state_after (padded more state) (take n made) ≡ padded more (state_after state (take n made))
    reached n = state_after-padded more state (take n made) (all_take (IsInUse (length state.slots)) n made inside)

    -- as many writes go to insertions
    as_many : insertion_writes (padded more state) made ≡ insertion_writes state made
    as_many = ap (λ (writes : List Write). table_writes made + length writes)
        (ap (λ (all : List Insertion). flat_map (λ (insertion : Insertion). insertion.writes) all) (insertions-padded more state made inside)
        ∙ writes-widened more (insertions state made))

pub IsSegment-padded : (more : ℕ) (mode : Mode) (bits : FieldBits) (rules : List Rule) (batch : List Command) (state : State) (made : List Write)
    → AreInUse state made → IsSegment mode bits rules batch state made → IsSegment mode bits rules batch (padded more state) made
IsSegment-padded more mode bits rules batch state made inside segment = record {
  hitless = IsHitless-padded more rules (set_after rules batch) state made inside segment.hitless;
  turns = λ none. TurnsOnce-padded more rules (set_after rules batch) state made inside (segment.turns none);
  order = KeepsOrder-padded more mode bits rules batch state made inside segment.order;
  shape = HasShape-padded more (fresh_writes mode bits rules batch state) (due_of mode (bits_with mode rules batch bits) rules batch) state made inside segment.shape;
  tight = λ chain bounds. subst (AreBoundedBy _) (sym (insertions-padded more state made inside)) (AreBoundedBy-widened more _ (insertions state made) (segment.tight chain bounds));
}

pub AreCounts-padded : (more : ℕ) (state : State) (made : List Write) (counts : Done) → AreInUse state made → AreCounts made (insertions state made) counts → AreCounts made (insertions (padded more state) made) counts
AreCounts-padded more state made counts inside are = record {
  writes = are.writes;
  words = are.words;
  most = are.most ∙ sym (longest-padded more state made inside);
  span = subst (λ (all : List Insertion). IsGreatestSpan all counts.span) (sym (insertions-padded more state made inside)) (IsGreatestSpan-widened more (insertions state made) counts.span are.span);
}

pub IsPlannedSegment-padded : (more : ℕ) (mode : Mode) (bits : FieldBits) (rules : List Rule) (batch : List Command) (state : State) (made : List Write) (counts : Done)
    → AreInUse state made → IsPlannedSegment mode bits rules batch state made counts → IsPlannedSegment mode bits rules batch (padded more state) made counts
IsPlannedSegment-padded more mode bits rules batch state made counts inside is = record {
  segment = IsSegment-padded more _ _ rules batch state made inside is.segment;
  numbers = AreCounts-padded more state made counts inside is.numbers;
  uncrossed = λ version routes added.
      subst (IsUncrossed (prefix_lengths version)) (sym (insertions-padded more state made inside)) (IsUncrossed-widened more (prefix_lengths version) (insertions state made) (is.uncrossed version routes added));
}
