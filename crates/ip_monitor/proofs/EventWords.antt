-- The words of an event.
use Rattle.std.proofs.Common.{◌≡◌, ◌<◌, ℕ, Bool, true, false, cond, Some, None, List, [], ◌∷◌, length, sym, ap, ◌∙◌, arith}
use Rattle.std.specs.Prelude.{codes}
use Rattle.std.specs.Str.{bytes_eq}
use Rattle.ip_routes.specs.Words.{gap_words}
use Rattle.ip_monitor.specs.Events.{value_of}

-- two words, and those behind them
value-here : (name : List ℕ) (words : List (List ℕ)) (word next : List ℕ) (behind after : List (List ℕ)) → words ≡ word ∷ behind → behind ≡ next ∷ after
    → value_of name words
    ≡ cond (bytes_eq word (codes "encap")) None (cond (bytes_eq word name) (Some next) (cond (bytes_eq word (codes "dev")) (value_of name after) (value_of name behind)))
value-here name words word next behind after is more =
    ap (λ w. value_of name w) (is ∙ ap (λ b. word ∷ b) more)
    ∙ ap (λ b. cond (bytes_eq word (codes "encap")) None (cond (bytes_eq word name) (Some next) (cond (bytes_eq word (codes "dev")) (value_of name after) (value_of name b)))) (sym more)

pub value-none : (name : List ℕ) (words : List (List ℕ)) → words ≡ [] → value_of name words ≡ None
value-none name words none = ap (λ w. value_of name w) none

pub value-one : (name : List ℕ) (words : List (List ℕ)) (word : List ℕ) (behind : List (List ℕ)) → words ≡ word ∷ behind → behind ≡ [] → value_of name words ≡ None
value-one name words word behind is none = ap (λ w. value_of name w) (is ∙ ap (λ b. word ∷ b) none)

pub value-encap : (name : List ℕ) (words : List (List ℕ)) (word next : List ℕ) (behind after : List (List ℕ)) → words ≡ word ∷ behind → behind ≡ next ∷ after → bytes_eq word (codes "encap") ≡ true
    → value_of name words ≡ None
value-encap name words word next behind after is more encap =
    value-here name words word next behind after is more
    ∙ ap (λ b. cond b None (cond (bytes_eq word name) (Some next) (cond (bytes_eq word (codes "dev")) (value_of name after) (value_of name behind)))) encap

value-plain : (name : List ℕ) (words : List (List ℕ)) (word next : List ℕ) (behind after : List (List ℕ)) → words ≡ word ∷ behind → behind ≡ next ∷ after → bytes_eq word (codes "encap") ≡ false
    → value_of name words ≡ cond (bytes_eq word name) (Some next) (cond (bytes_eq word (codes "dev")) (value_of name after) (value_of name behind))
value-plain name words word next behind after is more plain =
    value-here name words word next behind after is more
    ∙ ap (λ b. cond b None (cond (bytes_eq word name) (Some next) (cond (bytes_eq word (codes "dev")) (value_of name after) (value_of name behind)))) plain

pub value-found : (name : List ℕ) (words : List (List ℕ)) (word next : List ℕ) (behind after : List (List ℕ)) → words ≡ word ∷ behind → behind ≡ next ∷ after → bytes_eq word (codes "encap") ≡ false
    → bytes_eq word name ≡ true → value_of name words ≡ Some next
value-found name words word next behind after is more plain named =
    value-plain name words word next behind after is more plain
    ∙ ap (λ b. cond b (Some next) (cond (bytes_eq word (codes "dev")) (value_of name after) (value_of name behind))) named

-- the text that goes on behind a device's name, or at the next word
at-text : (name : List ℕ) (dev : Bool) (behind after rest : List ℕ) → rest ≡ cond dev after behind → cond dev (value_of name (gap_words after)) (value_of name (gap_words behind)) ≡ value_of name (gap_words rest)
at-text name true behind after rest is = ap (λ t. value_of name (gap_words t)) (sym is)
at-text name false behind after rest is = ap (λ t. value_of name (gap_words t)) (sym is)

pub value-next : (name word next : List ℕ) (text behind after rest : List ℕ) → gap_words text ≡ word ∷ gap_words behind → gap_words behind ≡ next ∷ gap_words after → bytes_eq word (codes "encap") ≡ false
    → bytes_eq word name ≡ false → rest ≡ cond (bytes_eq word (codes "dev")) after behind → value_of name (gap_words text) ≡ value_of name (gap_words rest)
value-next name word next text behind after rest is more plain other rest_is =
    value-plain name (gap_words text) word next (gap_words behind) (gap_words after) is more plain
    ∙ ap (λ b. cond b (Some next) (cond (bytes_eq word (codes "dev")) (value_of name (gap_words after)) (value_of name (gap_words behind)))) other
    ∙ at-text name (bytes_eq word (codes "dev")) behind after rest rest_is

fewer : (dev : Bool) (word next text behind after rest : List ℕ) → gap_words text ≡ word ∷ gap_words behind → gap_words behind ≡ next ∷ gap_words after → rest ≡ cond dev after behind
    → length (gap_words rest) < length (gap_words text)
fewer true word next text behind after rest is more rest_is =
    let first = ap length is in
    let second = ap length more in
    let same : length (gap_words rest) ≡ length (gap_words after) = ap (λ t. length (gap_words t)) rest_is in
    omega (arith, first, second, same)
fewer false word next text behind after rest is more rest_is =
    let first = ap length is in
    let same : length (gap_words rest) ≡ length (gap_words behind) = ap (λ t. length (gap_words t)) rest_is in
    omega (arith, first, same)

pub value-fewer : (word next text behind after rest : List ℕ) → gap_words text ≡ word ∷ gap_words behind → gap_words behind ≡ next ∷ gap_words after
    → rest ≡ cond (bytes_eq word (codes "dev")) after behind → length (gap_words rest) < length (gap_words text)
value-fewer word next text behind after rest is more rest_is = fewer (bytes_eq word (codes "dev")) word next text behind after rest is more rest_is
