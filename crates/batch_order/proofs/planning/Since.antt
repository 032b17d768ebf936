-- Insertions that were planned one after the other: one of them, and some after others.
use Rattle.std.proofs.Common.{◌≡◌, ℕ, IsTrue, IsFalse, Option, Some, List, [], ◌∷◌, ◌++◌, length, map, fold, refl, sym, ◌∙◌, subst, ap, ap₂, append_assoc, max}
use Rattle.std.specs.Prelude.{◌==◌}
use Rattle.std.specs.List.{AllByRecursion}
use Rattle.std.proofs.lemmas.List.{map-append, append-nil}
use Rattle.std.proofs.lemmas.List.Sums.{fold-append}
use Rattle.std.proofs.lemmas.List.Concat.{flat_map-append}
use Rattle.std.proofs.lemmas.List.Folds.{list_any-append}
use Rattle.slot_order.proofs.Lists.{all_append}
use Rattle.slot_pool.specs.Arrangement.{Slots}
use Rattle.rule_model.specs.declared.words.Entry.{Entry}
use Rattle.rule_model.specs.Entry.{RankedPiece, entry_for}
use Rattle.placement.specs.declared.LivePiece.{LivePiece}
use Rattle.placement.specs.Live.{is_live, is_above, rank_in}
use Rattle.placement.specs.Placement.{Aiming, IsPlacement, after_moves, span_of}
use Rattle.commit_writes.specs.Planned.{Planned, ArePlanned, ranked_of, live_after, slots_after, entry_at}
use Rattle.batch_order.specs.declared.plan.Plan.{Plan}
use Rattle.batch_order.specs.declared.planned_writes.PlannedWrite.{PlannedWrite}
use Rattle.batch_order.specs.declared.planned_writes.PlannedWrite.TheVariants.{Moved}
use Rattle.batch_order.specs.ByParts.{insertion_parts, moves_put}
use Rattle.batch_order.specs.Entries.{Entries, KeepEntries}
use Rattle.batch_order.specs.Planning.{IsInserted, ArePlannedSince, planned_moves, all_writes}
use Rattle.batch_order.proofs.arranged.Settled.{live_new}

-- who was live is live still, with more
pub live_more : (live more : List LivePiece) (id : ℕ) → IsTrue (is_live live id) → IsTrue (is_live (live ++ more) id)
live_more live more id now = list_any-append (λ one. one.id == id) live more ∙ rw now refl

-- the insertion of one piece, under an id that wasn't live
pub planned_one : (old new : Entries) (slots slots' : Slots) (one : LivePiece) (answer : ℕ) (aiming : Aiming) (plan plan' : Plan)
    → IsFalse (is_live old.live one.id) → new.live ≡ old.live ++ one ∷ []
    → entry_at new.entries one.id ≡ Some (entry_for (record { piece = one.piece; rank = one.rank; result = answer }))
    → KeepEntries old.live old.entries new.entries → IsInserted new slots slots' aiming one.id plan plan'
    → ArePlannedSince old new slots slots' plan plan' (record { piece = one.piece; rank = one.rank; result = answer } ∷ []) (aiming ∷ [])
planned_one old new slots slots' one answer aiming plan plan' absent live_is entry kept inserted = record {
  planned = record { one = one; result = answer; aiming = aiming; moves = inserted.moves; span = span_of (is_above (old.live ++ one ∷ [])) slots one.id } ∷ [];
  are_planned = (absent, subst (λ (l : List LivePiece). IsPlacement (is_above l) (rank_in l) aiming one.id slots inserted.moves) live_is inserted.placement, refl, tt);
  pieces_are = refl;
  aims_are = refl;
  live_is = live_is;
  slots_are = inserted.slots_are;
  have_entries = (entry, tt);
  kept = kept;
  writes = inserted.writes ∙ ap (λ (w : List PlannedWrite). (all_writes plan.writes) ++ w) (sym (append-nil (map Moved inserted.moves)));
  words = inserted.words;
  most = inserted.most;
  span = subst (λ (l : List LivePiece). plan'.span ≡ max plan.span (span_of (is_above l) slots one.id)) live_is inserted.span;
  most_parts = inserted.most_parts;
}

-- insertions after others
planned_after : (live : List LivePiece) (slots : Slots) (first second : List Planned) → ArePlanned live slots first
    → ArePlanned (live_after live first) (slots_after slots first) second → ArePlanned live slots (first ++ second)
planned_after live slots [] second one two = subst (λ (l : List LivePiece). ArePlanned l slots second) (append-nil live) two
planned_after live slots (planned ∷ first) second one two = (
  one.0,
  one.1,
  one.2,
  planned_after (live ++ planned.one ∷ []) (after_moves slots planned.moves) first second one.3
      (subst (λ (l : List LivePiece). ArePlanned l (slots_after (after_moves slots planned.moves) first) second) (sym (append_assoc live (planned.one ∷ []) (map (λ (insertion : Planned). insertion.one) first))) two),
)

-- each inserted id is live then
each_live : (live : List LivePiece) (planned : List Planned) → AllByRecursion (λ insertion. IsTrue (is_live (live_after live planned) insertion.one.id)) planned
each_live live [] = tt
each_live live (planned ∷ rest) =
    let split : live_after live (planned ∷ rest) ≡ live_after (live ++ planned.one ∷ []) rest = sym (append_assoc live (planned.one ∷ []) (map (λ (insertion : Planned). insertion.one) rest)) in
    subst (λ (l : List LivePiece). AllByRecursion (λ (insertion : Planned). IsTrue (is_live l insertion.one.id)) (planned ∷ rest)) (sym split)
    (live_more (live ++ planned.one ∷ []) (map (λ (insertion : Planned). insertion.one) rest) planned.one.id (live_new live planned.one), each_live (live ++ planned.one ∷ []) rest)

-- what live ids have doesn't change with the entries of others
entries_same : (live : List LivePiece) (before now : List (Option Entry)) (planned : List Planned) → KeepEntries live before now
    → AllByRecursion (λ insertion. IsTrue (is_live live insertion.one.id)) planned
    → AllByRecursion (λ insertion. entry_at before insertion.one.id ≡ Some (entry_for (ranked_of insertion))) planned
    → AllByRecursion (λ insertion. entry_at now insertion.one.id ≡ Some (entry_for (ranked_of insertion))) planned
entries_same live before now [] kept lives have = tt
entries_same live before now (planned ∷ rest) kept lives have = (kept planned.one.id lives.0 ∙ have.0, entries_same live before now rest kept lives.1 have.1)

-- the parts of an insertion as it was planned
abbrev parts : Planned → ℕ
parts insertion = insertion_parts (moves_put insertion.moves)

-- some insertions after others
pub planned_then : (old mid new : Entries) (slots slots' slots'' : Slots) (plan plan' plan'' : Plan) (first second : List RankedPiece) (first_aims second_aims : List Aiming)
    → ArePlannedSince old mid slots slots' plan plan' first first_aims → ArePlannedSince mid new slots' slots'' plan' plan'' second second_aims
    → ArePlannedSince old new slots slots'' plan plan'' (first ++ second) (first_aims ++ second_aims)
planned_then old mid new slots slots' slots'' plan plan' plan'' first second first_aims second_aims one two = record {
  planned = one.planned ++ two.planned;
  are_planned = planned_after old.live slots one.planned two.planned one.are_planned
      (subst (λ (l : List LivePiece). ArePlanned l (slots_after slots one.planned) two.planned) one.live_is (subst (λ (s : Slots). ArePlanned mid.live s two.planned) one.slots_are two.are_planned));
  pieces_are = map-append ranked_of one.planned two.planned ∙ ap₂ (λ (a b : List RankedPiece). a ++ b) one.pieces_are two.pieces_are;
  aims_are = map-append (λ (insertion : Planned). insertion.aiming) one.planned two.planned ∙ ap₂ (λ (a b : List Aiming). a ++ b) one.aims_are two.aims_are;
  live_is = two.live_is
      ∙ (ap (λ (l : List LivePiece). live_after l two.planned) one.live_is
      ∙ (append_assoc old.live (map (λ (insertion : Planned). insertion.one) one.planned) (map (λ (insertion : Planned). insertion.one) two.planned)
      ∙ ap (λ (l : List LivePiece). old.live ++ l) (sym (map-append (λ (insertion : Planned). insertion.one) one.planned two.planned))));
  slots_are = two.slots_are ∙ (ap (λ (s : Slots). slots_after s two.planned) one.slots_are ∙ sym (fold-append (λ (now : Slots) (insertion : Planned). after_moves now insertion.moves) slots one.planned two.planned));
  have_entries = all_append (λ (insertion : Planned). entry_at new.entries insertion.one.id ≡ Some (entry_for (ranked_of insertion))) one.planned two.planned
      (entries_same mid.live mid.entries new.entries one.planned two.kept
      (subst (λ (l : List LivePiece). AllByRecursion (λ (insertion : Planned). IsTrue (is_live l insertion.one.id)) one.planned) (sym one.live_is) (each_live old.live one.planned)) one.have_entries)
      two.have_entries;
  kept = λ id now. two.kept id (subst (λ (l : List LivePiece). IsTrue (is_live l id)) (sym one.live_is) (live_more old.live (map (λ (insertion : Planned). insertion.one) one.planned) id now)) ∙ one.kept id now;
  writes = two.writes
      ∙ (ap (λ (w : List PlannedWrite). w ++ planned_moves two.planned) one.writes
      ∙ (append_assoc (all_writes plan.writes) (planned_moves one.planned) (planned_moves two.planned)
      ∙ ap (λ (w : List PlannedWrite). (all_writes plan.writes) ++ w) (sym (flat_map-append (λ (insertion : Planned). map Moved insertion.moves) one.planned two.planned))));
  words = two.words ∙ one.words;
  most = two.most ∙ (ap (λ (m : ℕ). fold max m (map (λ (insertion : Planned). length insertion.moves) two.planned)) one.most
      ∙ (sym (fold-append max plan.most (map (λ (insertion : Planned). length insertion.moves) one.planned) (map (λ (insertion : Planned). length insertion.moves) two.planned))
      ∙ ap (fold max plan.most) (sym (map-append (λ (insertion : Planned). length insertion.moves) one.planned two.planned))));
  span = two.span ∙ (ap (λ (m : ℕ). fold max m (map (λ (insertion : Planned). insertion.span) two.planned)) one.span
      ∙ (sym (fold-append max plan.span (map (λ (insertion : Planned). insertion.span) one.planned) (map (λ (insertion : Planned). insertion.span) two.planned))
      ∙ ap (fold max plan.span) (sym (map-append (λ (insertion : Planned). insertion.span) one.planned two.planned))));
  most_parts = two.most_parts ∙ (ap (λ (m : ℕ). fold max m (map parts two.planned)) one.most_parts
      ∙ (sym (fold-append max plan.most_parts (map parts one.planned) (map parts two.planned))
      ∙ ap (fold max plan.most_parts) (sym (map-append parts one.planned two.planned))));
}
