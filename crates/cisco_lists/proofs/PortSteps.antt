-- Ports one after the other.
use Rattle.std.proofs.Common.{◌≡◌, ◌+◌, ◌-◌, ◌<◌, ℕ, suc, true, false, cond, Some, None, List, [], ◌∷◌, ◌++◌, refl, sym, ap, ◌∙◌, arith}
use Rattle.std.specs.Prelude.{codes}
use Rattle.std.specs.Str.{bytes_eq}
use Rattle.cisco_lists.specs.declared.ports.Span.{Span}
use Rattle.cisco_lists.specs.declared.names.PortNames.{PortNames}
use Rattle.cisco_lists.specs.declared.why.Why.TheVariants as why
use Rattle.cisco_lists.specs.Words.{is_group}
use Rattle.cisco_lists.specs.Names.{named_port}
use Rattle.cisco_lists.specs.Walk.{WordsAt, Taken, taken, first_of, behind_word, failed}
use Rattle.cisco_lists.specs.Ports.{above_at, all_ports, below_at, but_at, goes_on, more_ports, one_span, port_at, ports_as, ports_by, range_at, several_by, several_at}
use Rattle.cisco_lists.proofs.Tests.{pick, skip}

-- the first one is read
pub several-first : (names : PortNames) (at behind : WordsAt) (first : ℕ) (spans : List Span) → taken first behind ≡ port_at names at → spans ≡ one_span first first
    → several_at names at ≡ more_ports 9 names spans behind
several-first names at behind first spans read is = sym (ap (several_by names) read) ∙ ap (λ s. more_ports 9 names s behind) (sym is)

-- one more
more-next : (most : ℕ) (names : PortNames) (spans : List Span) (at : WordsAt) (word : List ℕ) (port : ℕ) → word ≡ first_of at.words → Some port ≡ named_port names word
    → more_ports (suc most) names spans at ≡ more_ports most names (spans ++ record { first = port; last = port } ∷ []) (behind_word at)
more-next most names spans at word port word_is found =
    ap (λ w. goes_on (λ p. more_ports most names (spans ++ record { first = p; last = p } ∷ []) (behind_word at)) (taken spans at) (named_port names w)) (sym word_is)
    ∙ ap (goes_on (λ p. more_ports most names (spans ++ record { first = p; last = p } ∷ []) (behind_word at)) (taken spans at)) (sym found)

pub more-on : (round : ℕ) (names : PortNames) (spans new : List Span) (at behind : WordsAt) (word : List ℕ) (port : ℕ) → round < 9 → word ≡ first_of at.words → Some port ≡ named_port names word
    → new ≡ spans ++ record { first = port; last = port } ∷ [] → behind ≡ behind_word at
    → more_ports (9 - round) names spans at ≡ more_ports (9 - (round + 1)) names new behind
more-on round names spans new at behind word port below word_is found new_is behind_is =
    let left : 9 - round ≡ suc (9 - (round + 1)) = omega (arith, below) in
    ap (λ n. more_ports n names spans at) left
    ∙ more-next (9 - (round + 1)) names spans at word port word_is found
    ∙ ap (λ s. more_ports (9 - (round + 1)) names s (behind_word at)) (sym new_is)
    ∙ ap (λ b. more_ports (9 - (round + 1)) names new b) (sym behind_is)

-- none more
pub more-none : (round : ℕ) (names : PortNames) (spans : List Span) (at : WordsAt) (word : List ℕ) → round < 9 → word ≡ first_of at.words → None ≡ named_port names word
    → more_ports (9 - round) names spans at ≡ taken spans at
more-none round names spans at word below word_is none =
    let left : 9 - round ≡ suc (9 - (round + 1)) = omega (arith, below) in
    ap (λ n. more_ports n names spans at) left
    ∙ ap (λ w. goes_on (λ p. more_ports (9 - (round + 1)) names (spans ++ record { first = p; last = p } ∷ []) (behind_word at)) (taken spans at) (named_port names w)) (sym word_is)
    ∙ ap (goes_on (λ p. more_ports (9 - (round + 1)) names (spans ++ record { first = p; last = p } ∷ []) (behind_word at)) (taken spans at)) (sym none)

-- ten are enough
pub more-end : (round : ℕ) (names : PortNames) (spans : List Span) (at : WordsAt) → 9 - round ≡ 0 → more_ports (9 - round) names spans at ≡ taken spans at
more-end round names spans at all = ap (λ n. more_ports n names spans at) all

-- ---- ports, by the word that they begin with

abbrev from-group : PortNames → List ℕ → WordsAt → Taken (List Span)
from-group names word at = cond (is_group word) (taken all_ports (failed why.Group (behind_word at))) (taken all_ports at)

abbrev from-range : PortNames → List ℕ → WordsAt → Taken (List Span)
from-range names word at = cond (bytes_eq word (codes "range")) (range_at names (behind_word at)) (from-group names word at)

abbrev from-lt : PortNames → List ℕ → WordsAt → Taken (List Span)
from-lt names word at = cond (bytes_eq word (codes "lt")) (below_at names (behind_word at)) (from-range names word at)

abbrev from-gt : PortNames → List ℕ → WordsAt → Taken (List Span)
from-gt names word at = cond (bytes_eq word (codes "gt")) (above_at names (behind_word at)) (from-lt names word at)

abbrev from-neq : PortNames → List ℕ → WordsAt → Taken (List Span)
from-neq names word at = cond (bytes_eq word (codes "neq")) (but_at names (behind_word at)) (from-gt names word at)

pub ports-eq : (names : PortNames) (word : List ℕ) (at : WordsAt) → bytes_eq word (codes "eq") ≡ true → several_at names (behind_word at) ≡ ports_by names word at
ports-eq names word at so = pick (bytes_eq word (codes "eq")) (several_at names (behind_word at)) (from-neq names word at) so

past-eq : (names : PortNames) (word : List ℕ) (at : WordsAt) (t : Taken (List Span)) → bytes_eq word (codes "eq") ≡ false → t ≡ from-neq names word at → t ≡ ports_by names word at
past-eq names word at t unlike is = skip (bytes_eq word (codes "eq")) (several_at names (behind_word at)) (from-neq names word at) t unlike is

pub ports-neq : (names : PortNames) (word : List ℕ) (at : WordsAt) → bytes_eq word (codes "eq") ≡ false → bytes_eq word (codes "neq") ≡ true → but_at names (behind_word at) ≡ ports_by names word at
ports-neq names word at eq so = past-eq names word at _ eq (pick (bytes_eq word (codes "neq")) (but_at names (behind_word at)) (from-gt names word at) so)

past-neq : (names : PortNames) (word : List ℕ) (at : WordsAt) (t : Taken (List Span)) → bytes_eq word (codes "eq") ≡ false → bytes_eq word (codes "neq") ≡ false → t ≡ from-gt names word at → t ≡ ports_by names word at
past-neq names word at t eq unlike is = past-eq names word at t eq (skip (bytes_eq word (codes "neq")) (but_at names (behind_word at)) (from-gt names word at) t unlike is)

pub ports-gt : (names : PortNames) (word : List ℕ) (at : WordsAt) → bytes_eq word (codes "eq") ≡ false → bytes_eq word (codes "neq") ≡ false → bytes_eq word (codes "gt") ≡ true → above_at names (behind_word at) ≡ ports_by names word at
ports-gt names word at eq neq so = past-neq names word at _ eq neq (pick (bytes_eq word (codes "gt")) (above_at names (behind_word at)) (from-lt names word at) so)

past-gt : (names : PortNames) (word : List ℕ) (at : WordsAt) (t : Taken (List Span)) → bytes_eq word (codes "eq") ≡ false → bytes_eq word (codes "neq") ≡ false → bytes_eq word (codes "gt") ≡ false → t ≡ from-lt names word at → t ≡ ports_by names word at
past-gt names word at t eq neq unlike is = past-neq names word at t eq neq (skip (bytes_eq word (codes "gt")) (above_at names (behind_word at)) (from-lt names word at) t unlike is)

pub ports-lt : (names : PortNames) (word : List ℕ) (at : WordsAt) → bytes_eq word (codes "eq") ≡ false → bytes_eq word (codes "neq") ≡ false → bytes_eq word (codes "gt") ≡ false → bytes_eq word (codes "lt") ≡ true
    → below_at names (behind_word at) ≡ ports_by names word at
ports-lt names word at eq neq gt so = past-gt names word at _ eq neq gt (pick (bytes_eq word (codes "lt")) (below_at names (behind_word at)) (from-range names word at) so)

past-lt : (names : PortNames) (word : List ℕ) (at : WordsAt) (t : Taken (List Span)) → bytes_eq word (codes "eq") ≡ false → bytes_eq word (codes "neq") ≡ false → bytes_eq word (codes "gt") ≡ false → bytes_eq word (codes "lt") ≡ false
    → t ≡ from-range names word at → t ≡ ports_by names word at
past-lt names word at t eq neq gt unlike is = past-gt names word at t eq neq gt (skip (bytes_eq word (codes "lt")) (below_at names (behind_word at)) (from-range names word at) t unlike is)

pub ports-range : (names : PortNames) (word : List ℕ) (at : WordsAt) → bytes_eq word (codes "eq") ≡ false → bytes_eq word (codes "neq") ≡ false → bytes_eq word (codes "gt") ≡ false → bytes_eq word (codes "lt") ≡ false
    → bytes_eq word (codes "range") ≡ true → range_at names (behind_word at) ≡ ports_by names word at
ports-range names word at eq neq gt lt so = past-lt names word at _ eq neq gt lt (pick (bytes_eq word (codes "range")) (range_at names (behind_word at)) (from-group names word at) so)

past-range : (names : PortNames) (word : List ℕ) (at : WordsAt) (t : Taken (List Span)) → bytes_eq word (codes "eq") ≡ false → bytes_eq word (codes "neq") ≡ false → bytes_eq word (codes "gt") ≡ false → bytes_eq word (codes "lt") ≡ false
    → bytes_eq word (codes "range") ≡ false → t ≡ from-group names word at → t ≡ ports_by names word at
past-range names word at t eq neq gt lt unlike is = past-lt names word at t eq neq gt lt (skip (bytes_eq word (codes "range")) (range_at names (behind_word at)) (from-group names word at) t unlike is)

pub ports-group : (names : PortNames) (word : List ℕ) (at : WordsAt) → bytes_eq word (codes "eq") ≡ false → bytes_eq word (codes "neq") ≡ false → bytes_eq word (codes "gt") ≡ false → bytes_eq word (codes "lt") ≡ false
    → bytes_eq word (codes "range") ≡ false → is_group word ≡ true → taken all_ports (failed why.Group (behind_word at)) ≡ ports_by names word at
ports-group names word at eq neq gt lt range so =
    past-range names word at _ eq neq gt lt range (pick (is_group word) (taken all_ports (failed why.Group (behind_word at))) (taken all_ports at) so)

pub ports-none : (names : PortNames) (word : List ℕ) (at : WordsAt) → bytes_eq word (codes "eq") ≡ false → bytes_eq word (codes "neq") ≡ false → bytes_eq word (codes "gt") ≡ false → bytes_eq word (codes "lt") ≡ false
    → bytes_eq word (codes "range") ≡ false → is_group word ≡ false → taken all_ports at ≡ ports_by names word at
ports-none names word at eq neq gt lt range unlike =
    past-range names word at _ eq neq gt lt range (skip (is_group word) (taken all_ports (failed why.Group (behind_word at))) (taken all_ports at) _ unlike refl)

-- the ports that stand at a word
pub ports-at : (names : PortNames) (at : WordsAt) (word : List ℕ) (t : Taken (List Span)) → word ≡ first_of at.words → t ≡ ports_by names word at → t ≡ ports_as names at
ports-at names at word t word_is is = is ∙ ap (λ w. ports_by names w at) word_is

-- and behind it
pub ports-behind : {A : Type 0} → (f : WordsAt → A) (at behind : WordsAt) (t : A) → behind ≡ behind_word at → t ≡ f behind → t ≡ f (behind_word at)
ports-behind f at behind t behind_is is = is ∙ ap f behind_is
