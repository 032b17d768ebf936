-- Answers on the way through some sets: no event, one event more, one set more, the first events alone, more sets behind.
use Rattle.std.proofs.Common.{◌≡◌, inl, inr, ℕ, zero, suc, ◌+◌, ◌<◌, ◌≤◌, le_refl, min, le_trans, Option, Some, None, List, [], ◌∷◌, ◌++◌, length, take, slice_get, refl, ap, sym, ◌∙◌, subst, arith, append_assoc}
use Rattle.std.proofs.lemmas.Bool.{cases_lt}
use Rattle.std.proofs.Math.Seq.{take-nil}
use Rattle.std.proofs.Math.Nat.{min-le_left, min-le_right, le-min}
use Rattle.std.proofs.lemmas.List.{take_min, take-append-le}
use Rattle.rule_model.specs.declared.Rule.{Rule}
use Rattle.split_device.specs.declared.SplitWrite.{SplitWrite}
use Rattle.split_device.specs.declared.SplitAction.{SplitAction}
use Rattle.split_device.specs.declared.SplitAction.TheVariants.{Written, Drained}
use Rattle.split_device.specs.State.{SplitState, split_after, split_apply}
use Rattle.split_device.specs.Flight.{written}
use Rattle.split_writes.proofs.Made.{written_append}
use Rattle.split_writes.proofs.Undivided.{after_append}
use Rattle.script_runs.specs.Places.{IsFirstPast}
use Rattle.router_runs.specs.AllTheWay.{LooksUpAllTheWay, AreLookedUpInTurn, EndsAtLastSet, LooksUp, LooksUpEither, LooksUpSetOrNext, state_past}

-- ---- the state past some events

-- past one of them
abbrev pub past_one : SplitState → SplitAction → SplitState
past_one state (Written write) = split_apply state write
past_one state Drained = state

past-first : (state : SplitState) (event : SplitAction) (events : List SplitAction) → state_past state (event ∷ events) ≡ state_past (past_one state event) events
past-first state (Written write) events = refl
past-first state Drained events = refl

pub past-both : (state : SplitState) (front back : List SplitAction) → state_past state (front ++ back) ≡ state_past (state_past state front) back
past-both state front back = ap (split_after state) (written_append front back) ∙ after_append state (written front) (written back)

-- the writes among the first of some events are the first of their writes
pub written-first : (n : ℕ) (events : List SplitAction) → (m : ℕ) × (written (take n events) ≡ take m (written events))
written-first zero events = (0, refl)
written-first (suc n) [] = (0, refl)
written-first (suc n) (Written write ∷ events) = let more = written-first n events in (suc more.0, ap (λ (writes : List SplitWrite). write ∷ writes) more.1)
written-first (suc n) (Drained ∷ events) = written-first n events

-- ---- answers on the way

-- no event
pub stays : (state : SplitState) (rules : List Rule) (sets : List (List Rule)) → slice_get sets 0 ≡ Some rules → LooksUp state rules → LooksUpAllTheWay state sets []
stays state rules sets first shows = record {
  place = λ n. 0;
  rises = λ n m less. omega arith;
  answers = λ n. subst (λ (events : List SplitAction). LooksUpSetOrNext (state_past state events) sets 0) (sym (take-nil {A = SplitAction} n))
      (rules, rules, first, inr refl, λ key valid. inl (shows key valid));
  whole = λ k n some is past. absurd (let none : k < 0 = past.0 in omega arith);
}

-- one event more in front
abbrev later : (ℕ → ℕ) → ℕ → ℕ
later place zero = 0
later place (suc n) = place n

later-rises : (place : ℕ → ℕ) → ((n m : ℕ) → n ≤ m → place n ≤ place m) → (n m : ℕ) → n ≤ m → later place n ≤ later place m
later-rises place rises zero m less = omega arith
later-rises place rises (suc n) zero less = absurd (omega (arith, less))
later-rises place rises (suc n) (suc m) less = let within : n ≤ m = omega (arith, less) in rises n m within

later-answers : (state : SplitState) (event : SplitAction) (sets : List (List Rule)) (events : List SplitAction) (place : ℕ → ℕ) → LooksUpSetOrNext state sets 0
    → ((n : ℕ) → LooksUpSetOrNext (state_past (past_one state event) (take n events)) sets (place n))
    → (n : ℕ) → LooksUpSetOrNext (state_past state (take n (event ∷ events))) sets (later place n)
later-answers state event sets events place here more zero = here
later-answers state event sets events place here more (suc n) =
    subst (λ (now : SplitState). LooksUpSetOrNext now sets (place n)) (sym (past-first state event (take n events))) (more n)

later-whole : (state : SplitState) (event : SplitAction) (sets : List (List Rule)) (events : List SplitAction) (more : LooksUpAllTheWay (past_one state event) sets events)
    → (k n : ℕ) (rules : List Rule) → slice_get sets (suc k) ≡ Some rules → IsFirstPast (later more.place) k n → LooksUp (state_past state (take n (event ∷ events))) rules
later-whole state event sets events more k zero rules is past = absurd (let none : k < 0 = past.0 in omega arith)
later-whole state event sets events more k (suc n) rules is past =
    subst (λ (now : SplitState). LooksUp now rules) (sym (past-first state event (take n events))) (more.whole k n rules is (past.0, λ m less. past.1 (suc m) (omega arith)))

one-more : (state : SplitState) (event : SplitAction) (sets : List (List Rule)) (events : List SplitAction) → LooksUpSetOrNext state sets 0
    → LooksUpAllTheWay (past_one state event) sets events → LooksUpAllTheWay state sets (event ∷ events)
one-more state event sets events here more = record {
  place = later more.place;
  rises = later-rises more.place more.rises;
  answers = later-answers state event sets events more.place here more.answers;
  whole = later-whole state event sets events more;
}

-- one set more in front
next-set : (old : List Rule) (sets : List (List Rule)) (place : ℕ) (state : SplitState) → LooksUpSetOrNext state sets place → LooksUpSetOrNext state (old ∷ sets) (suc place)
next-set old sets place state is =
    let same : suc place + 1 ≡ suc (place + 1) = omega arith in
    let get : ℕ → Option (List Rule) = λ at. slice_get (old ∷ sets) at in
    (is.0, is.1, is.2, elim is.3 [ inl next ↦ inl (ap get same ∙ next) | inr last ↦ inr last ], is.4)

past-whole : (state : SplitState) (old : List Rule) (sets : List (List Rule)) (events : List SplitAction) → ((rules : List Rule) → slice_get sets 0 ≡ Some rules → LooksUp state rules)
    → (is : LooksUpAllTheWay state sets events)
    → (k n : ℕ) (rules : List Rule) → slice_get (old ∷ sets) (suc k) ≡ Some rules → IsFirstPast (λ n. suc (is.place n)) k n → LooksUp (state_past state (take n events)) rules
past-whole state old sets events first is zero zero rules here past = first rules here
past-whole state old sets events first is zero (suc n) rules here past = absurd (let none : suc (is.place 0) ≤ 0 = past.1 0 (omega arith) in omega arith)
past-whole state old sets events first is (suc k) n rules here past =
    is.whole k n rules here (let more : suc k < suc (is.place n) = past.0 in omega arith, λ m less. let few : suc (is.place m) ≤ suc k = past.1 m less in omega arith)

past : (state : SplitState) (old : List Rule) (sets : List (List Rule)) (events : List SplitAction) → ((rules : List Rule) → slice_get sets 0 ≡ Some rules → LooksUp state rules)
    → LooksUpAllTheWay state sets events → LooksUpAllTheWay state (old ∷ sets) events
past state old sets events first is = record {
  place = λ n. suc (is.place n);
  rises = λ n m less. let le = is.rises n m less in omega (arith, le);
  answers = λ n. next-set old sets (is.place n) (state_past state (take n events)) (is.answers n);
  whole = past-whole state old sets events first is;
}

-- the events of a commit, and those behind them
pub segment : (old new : List Rule) (sets : List (List Rule)) (state : SplitState) (made rest : List SplitAction) → slice_get sets 0 ≡ Some new
    → ((n : ℕ) → LooksUpEither (state_past state (take n made)) old new) → LooksUp (state_past state made) new → LooksUpAllTheWay (state_past state made) sets rest
    → LooksUpAllTheWay state (old ∷ sets) (made ++ rest)
segment old new sets state [] rest first during last more =
    past state old sets rest (λ rules is. let both : Some new ≡ Some rules = sym first ∙ is in let same : new ≡ rules = cc in subst (LooksUp state) same last) more
segment old new sets state (event ∷ made) rest first during last more =
    one-more state event (old ∷ sets) (made ++ rest) (old, new, refl, inl first, during 0)
    (segment old new sets (past_one state event) made rest first
    (λ n. subst (λ (now : SplitState). LooksUpEither now old new) (past-first state event (take n made)) (during (suc n)))
    (subst (λ (now : SplitState). LooksUp now new) (past-first state event made) last)
    (subst (λ (now : SplitState). LooksUpAllTheWay now sets rest) (past-first state event made) more))

min-here : (n most : ℕ) → n ≤ most → min n most ≡ n
min-here n most within = let low = min-le_left n most in let high = le-min (le_refl n) within in omega (arith, low, high)

min-most : (n most : ℕ) → most ≤ n → min n most ≡ most
min-most n most within = let low = min-le_right n most in let high = le-min within (le_refl most) in omega (arith, low, high)

-- some first events
cut-whole : (state : SplitState) (sets : List (List Rule)) (front back : List SplitAction) (is : LooksUpAllTheWay state sets (front ++ back))
    → (k n : ℕ) (rules : List Rule) → slice_get sets (suc k) ≡ Some rules → IsFirstPast (λ n. is.place (min n (length front))) k n → LooksUp (state_past state (take n front)) rules
cut-whole state sets front back is k n rules here past = elim (cases_lt (length front) n) [
  | inl beyond ↦
      absurd (let few : is.place (min (length front) (length front)) ≤ k = past.1 (length front) beyond in
      let same : min n (length front) ≡ min (length front) (length front) = min-most n (length front) (omega arith) ∙ sym (min-most (length front) (length front) (le_refl _)) in
      let more : k < is.place (min (length front) (length front)) = subst (λ m. k < is.place m) same past.0 in
      omega arith)
  | inr within ↦
      subst (λ events. LooksUp (state_past state events) rules) (take-append-le n front back within)
      (is.whole k n rules here (
        subst (λ m. k < is.place m) (min-here n (length front) within) past.0,
        λ m less. subst (λ i. is.place i ≤ k) (min-here m (length front) (omega arith)) (past.1 m less),
      ))
]

pub cut : (state : SplitState) (sets : List (List Rule)) (front back : List SplitAction) → LooksUpAllTheWay state sets (front ++ back) → LooksUpAllTheWay state sets front
cut state sets front back is = record {
  place = λ n. is.place (min n (length front));
  rises = λ n m less. is.rises (min n (length front)) (min m (length front))
      (le-min (le_trans (min-le_left n (length front)) less) (min-le_right n (length front)));
  answers = λ n. subst (λ events. LooksUpSetOrNext (state_past state events) sets (is.place (min n (length front))))
      (take-append-le (min n (length front)) front back (min-le_right n (length front)) ∙ take_min n front)
      (is.answers (min n (length front)));
  whole = cut-whole state sets front back is;
}

-- more sets behind
get-append : (sets behind : List (List Rule)) (place : ℕ) (rules : List Rule) → slice_get sets place ≡ Some rules → slice_get (sets ++ behind) place ≡ Some rules
get-append [] behind place rules is = absurd (let none : None ≡ Some rules = is in cc)
get-append (set ∷ sets) behind zero rules is = is
get-append (set ∷ sets) behind (suc place) rules is = get-append sets behind place rules is

-- a set before one of these is one of these
get-front : (sets behind : List (List Rule)) (place : ℕ) (rules : List Rule) (k : ℕ) (one : List Rule) → slice_get sets place ≡ Some rules → k ≤ place → slice_get (sets ++ behind) k ≡ Some one → slice_get sets k ≡ Some one
get-front [] behind place rules k one some within is = absurd (let none : None ≡ Some rules = some in cc)
get-front (set ∷ sets) behind place rules zero one some within is = is
get-front (set ∷ sets) behind zero rules (suc k) one some within is = absurd (omega (arith, within))
get-front (set ∷ sets) behind (suc place) rules (suc k) one some within is = get-front sets behind place rules k one some (omega (arith, within)) is

wider-at : (sets behind : List (List Rule)) (place : ℕ) (state : SplitState) → LooksUpSetOrNext state sets place → LooksUpSetOrNext state (sets ++ behind) place
wider-at sets behind place state is =
    (is.0, is.1, get-append sets behind place is.0 is.2, elim is.3 [ inl next ↦ inl (get-append sets behind (place + 1) is.1 next) | inr last ↦ inr last ], is.4)

pub wider : (state : SplitState) (sets all behind : List (List Rule)) (events : List SplitAction) → all ≡ sets ++ behind → LooksUpAllTheWay state sets events → LooksUpAllTheWay state all events
wider state sets all behind events same is = record {
  place = is.place;
  rises = is.rises;
  answers = λ n. subst (λ sets. LooksUpSetOrNext (state_past state (take n events)) sets (is.place n)) (sym same)
      (wider-at sets behind (is.place n) (state_past state (take n events)) (is.answers n));
  whole = λ k n rules here past.
      (let stands = is.answers n in
      let got : slice_get (sets ++ behind) (suc k) ≡ Some rules = subst (λ sets. slice_get sets (suc k) ≡ Some rules) same here in
      is.whole k n rules (get-front sets behind (is.place n) stands.0 (suc k) rules stands.2 past.0 got) past);
}

-- ---- the sets in turn

-- sets that are shown in turn behind some events are so from before them on
shown-behind : (state : SplitState) (sets : List (List Rule)) (made back : List SplitAction) → AreLookedUpInTurn (state_past state made) sets back → AreLookedUpInTurn state sets (made ++ back)
shown-behind state [] made back shown = shown
shown-behind state (rules ∷ sets) made back (front, behind, same, shows, more) =
    let now : state_past state (made ++ front) ≡ state_past (state_past state made) front = past-both state made front in (
      made ++ front,
      behind,
      ap (λ (events : List SplitAction). made ++ events) same ∙ sym (append_assoc made front behind),
      subst (λ (at : SplitState). LooksUp at rules) (sym now) shows,
      subst (λ (at : SplitState). AreLookedUpInTurn at sets behind) (sym now) more,
    )

-- the last set stays the last behind one more
pub ends-behind : (state : SplitState) (first : List Rule) (sets : List (List Rule)) (made back : List SplitAction) → LooksUp state first → EndsAtLastSet (state_past state made) sets back → EndsAtLastSet state (first ∷ sets) (made ++ back)
ends-behind state first sets made back here ends = record {
  front = first ∷ ends.front;
  rules = ends.rules;
  sets_are = ap (λ (behind : List (List Rule)). first ∷ behind) ends.sets_are;
  shows = subst (λ (at : SplitState). LooksUp at ends.rules) (sym (past-both state made back)) ends.shows;
  in_turn = ([], made ++ back, refl, here, shown-behind state sets made back ends.in_turn);
}
