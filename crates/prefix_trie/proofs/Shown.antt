-- What is shown of a trie after one more change.
use Rattle.std.proofs.Common.{◌≡◌, ◌++◌, ℕ, List, [], ◌∷◌, Option, None, length, sym, ◌∙◌, ap, subst}
use Rattle.std.specs.Prelude.{replicate}
use Rattle.std.proofs.lemmas.List.Sums.{fold_push}
use Rattle.prefix_trie.specs.declared.node.Node.{Node}
use Rattle.prefix_trie.specs.declared.Change.{Change}
use Rattle.prefix_trie.specs.Routes.{Routes}
use Rattle.prefix_trie.specs.Changes.{routes_after, changed}
use Rattle.prefix_trie.specs.Trie.{AreParts}

pub parts-shown : (ids : ℕ) (history later : List Change) (change : Change) (places held : List (Option ℕ)) (nodes kept : List (Option Node)) → later ≡ history ++ change ∷ [] → held ≡ places → kept ≡ nodes → length places ≡ ids
    → AreParts (changed (routes_after ids history) change) places nodes → AreParts (routes_after (length held) later) held kept
parts-shown ids history later change places held nodes kept later_is held_is kept_is many parts =
    subst (λ (p : List (Option ℕ)). AreParts (routes_after (length p) later) p kept) (sym held_is)
    (subst (λ (n : List (Option Node)). AreParts (routes_after (length places) later) places n) (sym kept_is)
    (subst (λ (k : ℕ). AreParts (routes_after k later) places nodes) (sym many)
    (subst (λ (r : Routes). AreParts r places nodes) (sym (ap (routes_after ids) later_is ∙ fold_push changed (replicate ids None) history change)) parts)))

-- the routes that are shown then
pub routes-shown : (ids : ℕ) (history later : List Change) (change : Change) (held : List (Option ℕ)) → later ≡ history ++ change ∷ [] → length held ≡ ids → routes_after (length held) later ≡ changed (routes_after ids history) change
routes-shown ids history later change held later_is many =
    ap (λ (k : ℕ). routes_after k later) many ∙ (ap (routes_after ids) later_is ∙ fold_push changed (replicate ids None) history change)
