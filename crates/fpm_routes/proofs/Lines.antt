-- What the changes of a frame have in the script, one after the other.
use Rattle.std.proofs.Common.{◌≡◌, ◌+◌, ◌<◌, ◌≤◌, ℕ, Bool, true, false, List, [], ◌∷◌, ◌++◌, ◌||◌, length, drop, get_or, sym, ap, ◌∙◌, append_assoc, append-nil}
use Rattle.std.specs.Prelude.{map}
use Rattle.std.specs.List.{list_any}
use Rattle.std.proofs.lemmas.List.{at_drop_more, at_drop_all}
use Rattle.fpm_routes.specs.declared.changes.Change.{Change}
use Rattle.fpm_routes.specs.Changes.{Changing}
use Rattle.fpm_routes.specs.Telling.{Known, change_after, change_text, changes_after, changes_text, is_change}
use Rattle.fpm_routes.specs.Views.{change_of}

-- one change more
module _ (changes : List Change) (place : ℕ) (change unused : Change) (below : place < length changes) (is : change ≡ get_or changes place unused) where
  pub text-on : (known after : Known) (old new : List ℕ) → new ≡ old ++ change_text known (change_of change) → after ≡ change_after known (change_of change)
      → old ++ changes_text known (map change_of (drop place changes)) ≡ new ++ changes_text after (map change_of (drop (place + 1) changes))
  text-on known after old new put then =
      let rest = map change_of (drop (place + 1) changes) in
      at_drop_more (λ l. old ++ changes_text known (map change_of l)) changes place unused below
      ∙ ap (λ c. old ++ (change_text known (change_of c) ++ changes_text (change_after known (change_of c)) rest)) (sym is)
      ∙ sym (append_assoc old (change_text known (change_of change)) (changes_text (change_after known (change_of change)) rest))
      ∙ ap (λ t. t ++ changes_text (change_after known (change_of change)) rest) (sym put)
      ∙ ap (λ k. new ++ changes_text k rest) (sym then)

  pub known-on : (known after : Known) → after ≡ change_after known (change_of change)
      → changes_after known (map change_of (drop place changes)) ≡ changes_after after (map change_of (drop (place + 1) changes))
  known-on known after then =
      let rest = map change_of (drop (place + 1) changes) in
      at_drop_more (λ l. changes_after known (map change_of l)) changes place unused below
      ∙ ap (λ c. changes_after (change_after known (change_of c)) rest) (sym is)
      ∙ ap (λ k. changes_after k rest) (sym then)

  any-now : list_any is_change (map change_of (drop place changes)) ≡ (is_change (change_of change) || list_any is_change (map change_of (drop (place + 1) changes)))
  any-now =
      at_drop_more (λ l. list_any is_change (map change_of l)) changes place unused below
      ∙ ap (λ c. is_change (change_of c) || list_any is_change (map change_of (drop (place + 1) changes))) (sym is)

  pub any-here : is_change (change_of change) ≡ true → list_any is_change (map change_of (drop place changes)) ≡ true
  any-here here = any-now ∙ ap (λ b. b || list_any is_change (map change_of (drop (place + 1) changes))) here

  pub any-on : is_change (change_of change) ≡ false → list_any is_change (map change_of (drop place changes)) ≡ list_any is_change (map change_of (drop (place + 1) changes))
  any-on other = any-now ∙ ap (λ b. b || list_any is_change (map change_of (drop (place + 1) changes))) other

-- none more
module _ (changes : List Change) (place : ℕ) (all : length changes ≤ place) where
  pub text-end : (known : Known) (old : List ℕ) → old ++ changes_text known (map change_of (drop place changes)) ≡ old
  text-end known old = at_drop_all (λ l. old ++ changes_text known (map change_of l)) changes place all ∙ append-nil old

  pub known-end : (known : Known) → changes_after known (map change_of (drop place changes)) ≡ known
  known-end known = at_drop_all (λ l. changes_after known (map change_of l)) changes place all

  pub any-end : list_any is_change (map change_of (drop place changes)) ≡ false
  any-end = at_drop_all (λ l. list_any is_change (map change_of l)) changes place all
