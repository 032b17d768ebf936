-- The writes of a plan, which stand in a list of each kind: what becomes of all of them where one of the lists grows.
use Rattle.std.proofs.Common.{◌≡◌, ◌+◌, List, [], ◌∷◌, ◌++◌, length, map, refl, sym, ap, append_assoc, arith, ◌∙◌}
use Rattle.std.specs.List.{AllByRecursion}
use Rattle.std.proofs.lemmas.List.{append-nil, length-append, length-map, map-append}
use Rattle.slot_order.proofs.Lists.{all_append}
use Rattle.commit_writes.proofs.Wider.{all_back, all_front}
use Rattle.commit_writes.specs.Planned.{IdEntries}
use Rattle.commit_writes.specs.declared.Rewrite.{Rewrite}
use Rattle.placement.specs.declared.Move.{Move}
use Rattle.tcam_device.specs.declared.Write.{Write}
use Rattle.batch_order.specs.declared.planned_writes.PlannedWrite.{PlannedWrite}
use Rattle.batch_order.specs.declared.planned_writes.PlannedWrite.TheVariants.{Tabled, Moved}
use Rattle.batch_order.specs.Planning.{as_writes}
use Rattle.batch_order.proofs.planning.Meant.{as_append}

-- with nothing behind the moves, more moves stand behind all
more_moves : (words : List Write) (moves more : List Move) → map Tabled words ++ (map Moved (moves ++ more) ++ []) ≡ (map Tabled words ++ (map Moved moves ++ [])) ++ map Moved more
more_moves words moves more =
    ap (λ (rest : List PlannedWrite). map Tabled words ++ rest) (append-nil (map Moved (moves ++ more)) ∙ map-append Moved moves more)
    ∙ (sym (append_assoc (map Tabled words) (map Moved moves) (map Moved more))
    ∙ ap (λ (rest : List PlannedWrite). (map Tabled words ++ rest) ++ map Moved more) (sym (append-nil (map Moved moves))))

pub more_moved : (words : List Write) (moves moves' more : List Move) (changes : List PlannedWrite) → changes ≡ [] → moves' ≡ moves ++ more
    → map Tabled words ++ (map Moved moves' ++ changes) ≡ (map Tabled words ++ (map Moved moves ++ changes)) ++ map Moved more
more_moved words moves moves' more changes none grown = rw (none, grown) (more_moves words moves more)

-- what stands behind some writes, and more of it
behind_first : (entries : IdEntries) (rewrites : List Rewrite) (first changes changes' : List PlannedWrite) (more : List Write)
    → as_writes entries rewrites changes' ≡ as_writes entries rewrites changes ++ more
    → as_writes entries rewrites (first ++ changes') ≡ as_writes entries rewrites (first ++ changes) ++ more
behind_first entries rewrites first changes changes' more grown =
    as_append entries rewrites first changes'
    ∙ (ap (λ (rest : List Write). as_writes entries rewrites first ++ rest) grown
    ∙ (sym (append_assoc (as_writes entries rewrites first) (as_writes entries rewrites changes) more)
    ∙ ap (λ (all : List Write). all ++ more) (sym (as_append entries rewrites first changes))))

pub more_changes : (entries : IdEntries) (rewrites : List Rewrite) (words : List Write) (moves : List Move) (changes changes' : List PlannedWrite) (more : List Write)
    → as_writes entries rewrites changes' ≡ as_writes entries rewrites changes ++ more
    → as_writes entries rewrites (map Tabled words ++ (map Moved moves ++ changes')) ≡ as_writes entries rewrites (map Tabled words ++ (map Moved moves ++ changes)) ++ more
more_changes entries rewrites words moves changes changes' more grown =
    behind_first entries rewrites (map Tabled words) (map Moved moves ++ changes) (map Moved moves ++ changes') more
    (behind_first entries rewrites (map Moved moves) changes changes' more grown)

-- what holds of all holds of the changes, and of others in their place
module _ (P : PlannedWrite → Type 0) (words : List Write) (moves : List Move) where
  pub all_changes : (changes : List PlannedWrite) → AllByRecursion P (map Tabled words ++ (map Moved moves ++ changes)) → AllByRecursion P changes
  all_changes changes all = all_back P (map Moved moves) changes (all_back P (map Tabled words) (map Moved moves ++ changes) all)

  pub all_with : (changes changes' : List PlannedWrite) → AllByRecursion P (map Tabled words ++ (map Moved moves ++ changes)) → AllByRecursion P changes'
      → AllByRecursion P (map Tabled words ++ (map Moved moves ++ changes'))
  all_with changes changes' all behind =
      all_append P (map Tabled words) (map Moved moves ++ changes') (all_front P (map Tabled words) (map Moved moves ++ changes) all)
      (all_append P (map Moved moves) changes' (all_front P (map Moved moves) changes (all_back P (map Tabled words) (map Moved moves ++ changes) all)) behind)

-- where there are none at all there is none of a kind
pub record AreNone (words : List Write) (moves : List Move) (changes : List PlannedWrite) : Type 0 where
  pub words_are : words ≡ []
  pub moves_are : moves ≡ []
  pub changes_are : changes ≡ []

pub none_of : (words : List Write) (moves : List Move) (changes : List PlannedWrite) → map Tabled words ++ (map Moved moves ++ changes) ≡ [] → AreNone words moves changes
none_of [] [] [] none = record { words_are = refl; moves_are = refl; changes_are = refl }
none_of [] [] (change ∷ changes) none = absurd (cc)
none_of [] (move ∷ moves) changes none = absurd (cc)
none_of (word ∷ words) moves changes none = absurd (cc)

-- then words are all that there are
pub only_words : (words words' more : List Write) (moves : List Move) (changes : List PlannedWrite) → map Tabled words ++ (map Moved moves ++ changes) ≡ [] → words' ≡ words ++ more
    → map Tabled words' ++ (map Moved moves ++ changes) ≡ map Tabled more
only_words words words' more moves changes empty grown =
    let none = none_of words moves changes empty in
    rw (grown, none.words_are, none.moves_are, none.changes_are) (append-nil (map Tabled more))

pub count_words : (words words' : List Write) (moves : List Move) (changes : List PlannedWrite) → map Tabled words ++ (map Moved moves ++ changes) ≡ []
    → length (map Tabled words' ++ (map Moved moves ++ changes)) ≡ length words'
count_words words words' moves changes empty =
    let none = none_of words moves changes empty in
    rw (none.moves_are, none.changes_are) (ap length (append-nil (map Tabled words')) ∙ length-map words' Tabled)

-- how many there are
pub count_all : (words : List Write) (moves : List Move) (changes : List PlannedWrite) → length (map Tabled words ++ (map Moved moves ++ changes)) ≡ length words + length moves + length changes
count_all words moves changes =
    let first = length-append (map Tabled words) (map Moved moves ++ changes) in
    let behind = length-append (map Moved moves) changes in
    let words_are = length-map words Tabled in
    let moves_are = length-map moves Moved in
    omega arith
