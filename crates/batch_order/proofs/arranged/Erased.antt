-- Live ids of which some are live no more.
use Rattle.std.proofs.Common.{◌≡◌, ℕ, Option, List, [], ◌∷◌, ◌++◌, None, Contains, IsTrue, set, subst}
use Rattle.std.proofs.lemmas.List.Sums.{fold-append}
use Rattle.rule_model.specs.declared.words.Entry.{Entry}
use Rattle.placement.specs.declared.LivePiece.{LivePiece}
use Rattle.placement.specs.Live.{is_live, without_id}
use Rattle.placement.proofs.Above.{live_is, is_live_from}
use Rattle.commit_writes.specs.PlannedBatch.{erased_live}
use Rattle.commit_writes.proofs.Erases.{in_erased, erased_in}
use Rattle.batch_order.specs.Entries.{KeepEntries}
use Rattle.batch_order.proofs.ids.Ids.{gone}
use Rattle.batch_order.proofs.arranged.Entered.{kept_set}

-- with some others gone an id is live still
pub lives_still : (live : List LivePiece) (ids : List ℕ) (id : ℕ) → (Contains ids id → ⊥) → IsTrue (is_live live id) → IsTrue (is_live (erased_live live ids) id)
lives_still live ids id other now =
    let (one, member, same) = live_is live id now in
    subst (λ n. IsTrue (is_live (erased_live live ids) n)) same
    (is_live_from (erased_live live ids) one (erased_in live ids one member (λ erased. other (subst (Contains ids) same erased))))

-- and it was live before
pub was_live : (live : List LivePiece) (other id : ℕ) → IsTrue (is_live (without_id live other) id) → IsTrue (is_live live id)
was_live live other id now =
    let (one, member, same) = live_is (without_id live other) id now in
    subst (λ n. IsTrue (is_live live n)) same (is_live_from live one (in_erased live (other ∷ []) one member).0)

-- one more goes, and the entries of the others stay
pub erased_more : (live : List LivePiece) (ids : List ℕ) (id : ℕ) → erased_live live (ids ++ id ∷ []) ≡ without_id (erased_live live ids) id
erased_more live ids id = fold-append without_id live ids (id ∷ [])

pub kept_without : (live : List LivePiece) (before now : List (Option Entry)) (id : ℕ) → KeepEntries live before now → KeepEntries (without_id live id) before (set now id None)
kept_without live before now id kept =
    kept_set (without_id live id) before now id None (gone live id) (λ other lives. kept other (was_live live id other lives))
