-- A side, by its words.
use Rattle.std.proofs.Common.{◌≡◌, ℕ, true, false, cond, List, sym, ap, ◌∙◌}
use Rattle.std.specs.Prelude.{codes}
use Rattle.std.specs.Str.{bytes_eq}
use Rattle.rule_model.specs.AddressBlock.{AddressBlock, any_address}
use Rattle.line_words.specs.Kinds.{ipv4_notation}
use Rattle.cisco_lists.specs.declared.why.Why.TheVariants as why
use Rattle.cisco_lists.specs.Words.{is_group}
use Rattle.cisco_lists.specs.Walk.{WordsAt, Taken, taken, first_of, behind_word}
use Rattle.cisco_lists.specs.Sides.{host_at, no_side, prefix_or, side_by, side_at}

-- what the next word is, by what it was read as
pub by-word : {A B : Type 0} → (f : B → WordsAt → Taken A) (g : List ℕ → B) (at behind : WordsAt) (word : List ℕ) (read : B) (t : Taken A) → word ≡ first_of at.words → behind ≡ behind_word at → read ≡ g word → t ≡ f read behind
    → t ≡ f (g (first_of at.words)) (behind_word at)
by-word f g at behind word read t word_is behind_is read_is is =
    is ∙ ap (f read) behind_is ∙ ap (λ b. f b (behind_word at)) (read_is ∙ ap g word_is)

-- the side that begins with a word
pub side-from : (at behind : WordsAt) (word : List ℕ) (t : Taken AddressBlock) → word ≡ first_of at.words → behind ≡ behind_word at → t ≡ side_by word behind → t ≡ side_at at
side-from at behind word t word_is behind_is is = is ∙ ap (side_by word) behind_is ∙ ap (λ w. side_by w (behind_word at)) word_is

pub side-any : (word : List ℕ) (at : WordsAt) → bytes_eq word (codes "any") ≡ true → taken any_address at ≡ side_by word at
side-any word at so =
    ap (λ b. cond b (taken any_address at) (cond (bytes_eq word (codes "host")) (host_at at) (cond (is_group word) (no_side why.Group at) (prefix_or word (ipv4_notation.block word) at)))) (sym so)

not-any : (word : List ℕ) (at : WordsAt) → bytes_eq word (codes "any") ≡ false
    → cond (bytes_eq word (codes "host")) (host_at at) (cond (is_group word) (no_side why.Group at) (prefix_or word (ipv4_notation.block word) at)) ≡ side_by word at
not-any word at unlike =
    ap (λ b. cond b (taken any_address at) (cond (bytes_eq word (codes "host")) (host_at at) (cond (is_group word) (no_side why.Group at) (prefix_or word (ipv4_notation.block word) at)))) (sym unlike)

pub side-host : (word : List ℕ) (at : WordsAt) → bytes_eq word (codes "any") ≡ false → bytes_eq word (codes "host") ≡ true → host_at at ≡ side_by word at
side-host word at unlike so =
    ap (λ b. cond b (host_at at) (cond (is_group word) (no_side why.Group at) (prefix_or word (ipv4_notation.block word) at))) (sym so) ∙ not-any word at unlike

not-host : (word : List ℕ) (at : WordsAt) → bytes_eq word (codes "any") ≡ false → bytes_eq word (codes "host") ≡ false
    → cond (is_group word) (no_side why.Group at) (prefix_or word (ipv4_notation.block word) at) ≡ side_by word at
not-host word at unlike other =
    ap (λ b. cond b (host_at at) (cond (is_group word) (no_side why.Group at) (prefix_or word (ipv4_notation.block word) at))) (sym other) ∙ not-any word at unlike

pub side-group : (word : List ℕ) (at : WordsAt) → bytes_eq word (codes "any") ≡ false → bytes_eq word (codes "host") ≡ false → is_group word ≡ true → no_side why.Group at ≡ side_by word at
side-group word at unlike other so =
    ap (λ b. cond b (no_side why.Group at) (prefix_or word (ipv4_notation.block word) at)) (sym so) ∙ not-host word at unlike other

pub side-prefix : (word : List ℕ) (at : WordsAt) → bytes_eq word (codes "any") ≡ false → bytes_eq word (codes "host") ≡ false → is_group word ≡ false
    → prefix_or word (ipv4_notation.block word) at ≡ side_by word at
side-prefix word at unlike other none =
    ap (λ b. cond b (no_side why.Group at) (prefix_or word (ipv4_notation.block word) at)) (sym none) ∙ not-host word at unlike other
