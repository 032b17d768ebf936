-- The entries of live ids, where an entry of another id comes or goes.
use Rattle.std.proofs.Common.{◌≡◌, ◌≢◌, ℕ, true, false, IsTrue, IsFalse, Option, Some, None, List, [], ◌∷◌, take, drop, set, suc, get_or-set_other, refl, sym, ◌∙◌, subst, ap, ap₂}
use Rattle.std.proofs.lemmas.Bool.{false_from_ne_true}
use Rattle.std.proofs.lemmas.List.{take-append-drop}
use Rattle.slot_order.specs.Order.{slot}
use Rattle.slot_pool.specs.Arrangement.{Slots}
use Rattle.rule_model.specs.declared.words.Entry.{Entry}
use Rattle.rule_model.specs.Entry.{RankedPiece}
use Rattle.placement.specs.declared.LivePiece.{LivePiece}
use Rattle.placement.specs.Live.{is_live, without_id}
use Rattle.placement.proofs.Above.{is_live_from}
use Rattle.commit_writes.specs.Planned.{AreEntriesOf, contents}
use Rattle.batch_order.specs.Entries.{KeepEntries}
use Rattle.batch_order.proofs.ids.Ids.{gone}
use Rattle.batch_order.proofs.planning.Since.{live_more}

-- an id that isn't one of these gets another entry, or none
pub kept_set : (live : List LivePiece) (before now : List (Option Entry)) (id : ℕ) (entry : Option Entry) → IsFalse (is_live live id)
    → KeepEntries live before now → KeepEntries live before (set now id entry)
kept_set live before now id entry absent kept other is =
    let apart : other ≢ id = λ same. let was : is_live live id ≡ true = subst (λ (n : ℕ). is_live live n ≡ true) same is in let bad : true ≡ false = sym was ∙ absent in cc in
    get_or-set_other now id other entry None apart ∙ kept other is

-- the first of some ids that are left without this one aren't it
pub gone_first : (live : List LivePiece) (id count : ℕ) → IsFalse (is_live (take count (without_id live id)) id)
gone_first live id count = false_from_ne_true _ (λ now.
    let all : is_live (without_id live id) id ≡ true = subst (λ (l : List LivePiece). is_live l id ≡ true) (take-append-drop count (without_id live id)) (live_more (take count (without_id live id)) (drop count (without_id live id)) id now) in
    let bad : true ≡ false = sym all ∙ gone live id in cc)

-- each id that stands is live
pub record AllLive (live : List LivePiece) (slots : Slots) : Type 0 where
  pub at : (place id : ℕ) → slot slots place ≡ Some id → IsTrue (is_live live id)

-- what stands in slots of live ids
pub contents_kept : (live : List LivePiece) (before now : List (Option Entry)) (slots : Slots) → KeepEntries live before now → AllLive live slots → contents now slots ≡ contents before slots
contents_kept live before now slots kept all = go slots (λ place id is. all.at place id is)
  where
    go : (some : Slots) → ((place id : ℕ) → slot some place ≡ Some id → IsTrue (is_live live id)) → contents now some ≡ contents before some
    go [] lives = refl
    go (None ∷ some) lives = ap (λ (rest : List (Option Entry)). None ∷ rest) (go some (λ place id is. lives (suc place) id is))
    go (Some id ∷ some) lives = ap₂ (λ (entry : Option Entry) (rest : List (Option Entry)). entry ∷ rest) (kept id (lives 0 id refl)) (go some (λ place other is. lives (suc place) other is))

-- the entries are those of the same pieces
pub entries_of_kept : (pieces : List RankedPiece) (live : List LivePiece) (before now : List (Option Entry)) → KeepEntries live before now → AreEntriesOf pieces live before → AreEntriesOf pieces live now
entries_of_kept pieces live before now kept are = record {
  of_piece = λ one has. let was = are.of_piece one has in (was.0, was.1, was.2, was.3, kept one.id (is_live_from live one has) ∙ was.4);
  has_id = λ ranked has. let was = are.has_id ranked has in (was.0, was.1, was.2, was.3, kept (was.0).id (is_live_from live was.0 was.1) ∙ was.4);
  once = are.once;
}
