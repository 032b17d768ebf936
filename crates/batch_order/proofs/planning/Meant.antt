-- The device writes that planned ones are.
use Rattle.std.proofs.Common.{◌≡◌, ℕ, List, [], ◌∷◌, ◌++◌, map, refl, ap, ap₂, ◌∙◌}
use Rattle.std.specs.List.{AllByRecursion}
use Rattle.std.proofs.lemmas.List.{map-append}
use Rattle.placement.specs.declared.Move.{Move}
use Rattle.placement.specs.declared.Move.TheVariants.{Put, Erase}
use Rattle.tcam_device.specs.declared.Write.{Write}
use Rattle.tcam_device.specs.State.{IsInUse}
use Rattle.commit_writes.specs.declared.Rewrite.{Rewrite}
use Rattle.commit_writes.specs.Planned.{IdEntries, Planned, planned_writes, write_for}
use Rattle.batch_order.specs.declared.planned_writes.PlannedWrite.{PlannedWrite}
use Rattle.batch_order.specs.declared.planned_writes.PlannedWrite.TheVariants.{Tabled, Moved, Rewritten}
use Rattle.move_planner.specs.Noted.{IsInside}
use Rattle.batch_order.specs.Planning.{IsWithin, as_write, as_writes, planned_moves}

pub as_append : (entries : IdEntries) (rewrites : List Rewrite) (first second : List PlannedWrite)
    → as_writes entries rewrites (first ++ second) ≡ as_writes entries rewrites first ++ as_writes entries rewrites second
as_append entries rewrites first second = map-append (as_write entries rewrites) first second

-- words are what they are under any entries
pub as_words : (entries : IdEntries) (rewrites : List Rewrite) (words : List Write) → as_writes entries rewrites (map Tabled words) ≡ words
as_words entries rewrites [] = refl
as_words entries rewrites (word ∷ words) = ap (λ (rest : List Write). word ∷ rest) (as_words entries rewrites words)

pub as_moved : (entries : IdEntries) (rewrites : List Rewrite) (moves : List Move) → as_writes entries rewrites (map Moved moves) ≡ map (write_for entries) moves
as_moved entries rewrites [] = refl
as_moved entries rewrites (move ∷ moves) = ap (λ (rest : List Write). write_for entries move ∷ rest) (as_moved entries rewrites moves)

-- those of insertions
pub as_planned : (entries : IdEntries) (rewrites : List Rewrite) (planned : List Planned) → as_writes entries rewrites (planned_moves planned) ≡ planned_writes entries planned
as_planned entries rewrites [] = refl
as_planned entries rewrites (insertion ∷ planned) =
    as_append entries rewrites (map Moved insertion.moves) (planned_moves planned)
    ∙ ap₂ (λ (first rest : List Write). first ++ rest) (as_moved entries rewrites insertion.moves) (as_planned entries rewrites planned)

-- they are to slots in use where the planned ones are
pub used_within : (slots : ℕ) (entries : IdEntries) (rewrites : List Rewrite) (planned : List PlannedWrite) → AllByRecursion (IsWithin slots) planned
    → AllByRecursion (IsInUse slots) (as_writes entries rewrites planned)
used_within slots entries rewrites [] all = tt
used_within slots entries rewrites (Tabled word ∷ planned) all = (all.0, used_within slots entries rewrites planned all.1)
used_within slots entries rewrites (Moved (Put at id) ∷ planned) all = (all.0, used_within slots entries rewrites planned all.1)
used_within slots entries rewrites (Moved (Erase at) ∷ planned) all = (all.0, used_within slots entries rewrites planned all.1)
used_within slots entries rewrites (Rewritten at place ∷ planned) all = (all.0, used_within slots entries rewrites planned all.1)

pub words_within : (slots : ℕ) (words : List Write) → AllByRecursion (IsInUse slots) words → AllByRecursion (IsWithin slots) (map Tabled words)
words_within slots [] all = tt
words_within slots (word ∷ words) all = (all.0, words_within slots words all.1)

pub moves_within : (slots : ℕ) (moves : List Move) → AllByRecursion (IsInside slots) moves → AllByRecursion (IsWithin slots) (map Moved moves)
moves_within slots [] all = tt
moves_within slots (move ∷ moves) all = (all.0, moves_within slots moves all.1)
