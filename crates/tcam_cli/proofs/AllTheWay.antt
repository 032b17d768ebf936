-- After each write of a run every key has the answer of one of the script's sets or of the next one.
use Rattle.std.proofs.Common.{◌≡◌, inl, inr, ℕ, zero, suc, ◌+◌, ◌-◌, ◌<◌, ◌≤◌, le_refl, Bool, true, false, min, le_trans, Option, Some, None, List, [], ◌∷◌, ◌++◌, length, take, slice_get, refl, ap, sym, ◌∙◌, subst, arith, append_assoc, append-nil}
use Rattle.std.proofs.lemmas.Bool.{cases_lt}
use Rattle.std.proofs.Math.Seq.{take-nil}
use Rattle.std.specs.Prelude.{option_map}
use Rattle.std.proofs.Math.Nat.{min-le_left, min-le_right, le-min}
use Rattle.std.proofs.lemmas.List.{length-take-le, take_min, take-append-le, take-take}
use Rattle.rule_model.specs.declared.Rule.{Rule}
use Rattle.rule_model.specs.RuleSet.{answer}
use Rattle.rule_store.specs.Batch.{set_after}
use Rattle.rule_store.specs.Verdict.{Verdict, Accepted, Unsound, OutOfBits, OutOfSlots}
use Rattle.tcam_device.specs.declared.Write.{Write}
use Rattle.tcam_device.specs.State.{State, blank, lookup, Shows, apply, state_after}
use Rattle.tcam_device.specs.Hitless.{ShowsOldOrNew}
use Rattle.tcam_device.proofs.Spans.{state_after-append}
use Rattle.tcam_device.proofs.Wider.{blank_shows}
use Rattle.replay.specs.declared.Act.{Act}
use Rattle.replay.specs.declared.Act.TheVariants.{Command, Ask, All, Probe, Packet, Commit, Trial, Crash}
use Rattle.settled_changes.specs.declared.requested.Requested.TheVariants.{Nothing}
use Rattle.replay.specs.Effects.{Setting, Effect, journal_of}
use Rattle.replay.specs.Run.{Progress, start, Commits, Returns, Restarts, Refuses, Tries, Crashes, Judged, pending_verdict, settled_at}
use Rattle.replay.specs.Early.{parts_at}
use Rattle.script_runs.specs.Places.{IsFirstPast}
use Rattle.tcam_cli.specs.InTwo.{CommitsBy, RunBy, RunsBy, StepsBy, StepsInTwo}
use Rattle.tcam_cli.proofs.PartedWrites.{makes-both}
use Rattle.tcam_cli.specs.AllTheWay.{Led, Stands, TakenBack, rules_in, set_at, sets_through, ShowsSetOrNext, AnswersAllTheWay, AreShownInTurn, EndsAtLast}
use Rattle.replay.proofs.lines.Effects.{written-append}
use Rattle.replay.proofs.crash.Crashed.{joined, written-restarts}
use Rattle.replay.proofs.lines.Written.{written-return, written-segment}
use Rattle.commit_writes.specs.Undo.{undo_writes}
use Rattle.commit_writes.proofs.Undone.{length-undo_writes, undo_ends, undo_passes}
use Rattle.tcam_cli.proofs.OneMore.{packet-still}
use Rattle.tcam_cli.proofs.LedSets.{sets_judged, trial_judged, Continues, first-set, more-sets}

-- ---- answers on the way

-- no write
stays : (state : State) (rules : List Rule) (sets : List Led) → set_at sets 0 ≡ Some rules → Shows state rules → AnswersAllTheWay state sets []
stays state rules sets first shows = record {
  place = λ n. 0;
  rises = λ n m less. omega arith;
  answers = λ n. (rules, rules, first, inr refl, λ key valid. inl (ap (λ writes. lookup (state_after state writes) key) (take-nil {A = Write} n) ∙ shows key valid));
  whole = λ k n some is past. absurd (let none : k < 0 = past.0 in omega arith);
}

-- one write more in front
abbrev later : (ℕ → ℕ) → ℕ → ℕ
later place zero = 0
later place (suc n) = place n

later-rises : (place : ℕ → ℕ) → ((n m : ℕ) → n ≤ m → place n ≤ place m) → (n m : ℕ) → n ≤ m → later place n ≤ later place m
later-rises place rises zero m less = omega arith
later-rises place rises (suc n) zero less = absurd (omega (arith, less))
later-rises place rises (suc n) (suc m) less = let within : n ≤ m = omega (arith, less) in rises n m within

later-answers : (state : State) (write : Write) (sets : List Led) (writes : List Write) (place : ℕ → ℕ) → ShowsSetOrNext state sets 0
    → ((n : ℕ) → ShowsSetOrNext (state_after (apply state write) (take n writes)) sets (place n))
    → (n : ℕ) → ShowsSetOrNext (state_after state (take n (write ∷ writes))) sets (later place n)
later-answers state write sets writes place here more zero = here
later-answers state write sets writes place here more (suc n) = more n

later-whole : (state : State) (write : Write) (sets : List Led) (writes : List Write) (more : AnswersAllTheWay (apply state write) sets writes)
    → (k n : ℕ) (rules : List Rule) → slice_get sets (suc k) ≡ Some (Stands rules) → IsFirstPast (later more.place) k n → Shows (state_after state (take n (write ∷ writes))) rules
later-whole state write sets writes more k zero rules is past = absurd (let none : k < 0 = past.0 in omega arith)
later-whole state write sets writes more k (suc n) rules is past = more.whole k n rules is (past.0, λ m less. past.1 (suc m) (omega arith))

one-more : (state : State) (write : Write) (sets : List Led) (writes : List Write) → ShowsSetOrNext state sets 0
    → AnswersAllTheWay (apply state write) sets writes → AnswersAllTheWay state sets (write ∷ writes)
one-more state write sets writes here more = record {
  place = later more.place;
  rises = later-rises more.place more.rises;
  answers = later-answers state write sets writes more.place here more.answers;
  whole = later-whole state write sets writes more;
}

-- one set more in front
next-set : (old : Led) (sets : List Led) (place : ℕ) (state : State) → ShowsSetOrNext state sets place → ShowsSetOrNext state (old ∷ sets) (suc place)
next-set old sets place state is =
    let same : suc place + 1 ≡ suc (place + 1) = omega arith in
    let get : ℕ → Option (List Rule) = λ at. set_at (old ∷ sets) at in
    (is.0, is.1, is.2, elim is.3 [ inl next ↦ inl (ap get same ∙ next) | inr last ↦ inr last ], is.4)

-- the state shows the first set, if that stands
abbrev ShowsFirst : State → List Led → Type 0
ShowsFirst state sets = (rules : List Rule) → slice_get sets 0 ≡ Some (Stands rules) → Shows state rules

past-whole : (state : State) (old : Led) (sets : List Led) (writes : List Write) → ShowsFirst state sets → (is : AnswersAllTheWay state sets writes)
    → (k n : ℕ) (rules : List Rule) → slice_get (old ∷ sets) (suc k) ≡ Some (Stands rules) → IsFirstPast (λ n. suc (is.place n)) k n → Shows (state_after state (take n writes)) rules
past-whole state old sets writes first is zero zero rules here past = first rules here
past-whole state old sets writes first is zero (suc n) rules here past = absurd (let none : suc (is.place 0) ≤ 0 = past.1 0 (omega arith) in omega arith)
past-whole state old sets writes first is (suc k) n rules here past =
    is.whole k n rules here (let more : suc k < suc (is.place n) = past.0 in omega arith, λ m less. let few : suc (is.place m) ≤ suc k = past.1 m less in omega arith)

past : (state : State) (old : Led) (sets : List Led) (writes : List Write) → ShowsFirst state sets → AnswersAllTheWay state sets writes → AnswersAllTheWay state (old ∷ sets) writes
past state old sets writes first is = record {
  place = λ n. suc (is.place n);
  rises = λ n m less. let le = is.rises n m less in omega (arith, le);
  answers = λ n. next-set old sets (is.place n) (state_after state (take n writes)) (is.answers n);
  whole = past-whole state old sets writes first is;
}

-- the writes of a commit, and those behind them
segment : (old new : Led) (sets : List Led) (state : State) (made rest : List Write) → slice_get sets 0 ≡ Some new
    → ((n : ℕ) → ShowsOldOrNew (state_after state (take n made)) (rules_in old) (rules_in new)) → ShowsFirst (state_after state made) sets → AnswersAllTheWay (state_after state made) sets rest
    → AnswersAllTheWay state (old ∷ sets) (made ++ rest)
segment old new sets state [] rest first during last more = past state old sets rest last more
segment old new sets state (write ∷ made) rest first during last more =
    one-more state write (old ∷ sets) (made ++ rest) (rules_in old, rules_in new, refl, inl (ap (option_map rules_in) first), during 0)
    (segment old new sets (apply state write) made rest first (λ n. during (suc n)) last more)

min-here : (n most : ℕ) → n ≤ most → min n most ≡ n
min-here n most within = let low = min-le_left n most in let high = le-min (le_refl n) within in omega (arith, low, high)

min-most : (n most : ℕ) → most ≤ n → min n most ≡ most
min-most n most within = let low = min-le_right n most in let high = le-min within (le_refl most) in omega (arith, low, high)

-- some first writes
cut-whole : (state : State) (sets : List Led) (front back : List Write) (is : AnswersAllTheWay state sets (front ++ back))
    → (k n : ℕ) (rules : List Rule) → slice_get sets (suc k) ≡ Some (Stands rules) → IsFirstPast (λ n. is.place (min n (length front))) k n → Shows (state_after state (take n front)) rules
cut-whole state sets front back is k n rules here past = elim (cases_lt (length front) n) [
  | inl beyond ↦
      absurd (let few : is.place (min (length front) (length front)) ≤ k = past.1 (length front) beyond in
      let same : min n (length front) ≡ min (length front) (length front) = min-most n (length front) (omega arith) ∙ sym (min-most (length front) (length front) (le_refl _)) in
      let more : k < is.place (min (length front) (length front)) = subst (λ m. k < is.place m) same past.0 in
      omega arith)
  | inr within ↦
      subst (λ writes. Shows (state_after state writes) rules) (take-append-le n front back within)
      (is.whole k n rules here (
        subst (λ m. k < is.place m) (min-here n (length front) within) past.0,
        λ m less. subst (λ i. is.place i ≤ k) (min-here m (length front) (omega arith)) (past.1 m less),
      ))
]

cut : (state : State) (sets : List Led) (front back : List Write) → AnswersAllTheWay state sets (front ++ back) → AnswersAllTheWay state sets front
cut state sets front back is = record {
  place = λ n. is.place (min n (length front));
  rises = λ n m less. is.rises (min n (length front)) (min m (length front))
      (le-min (le_trans (min-le_left n (length front)) less) (min-le_right n (length front)));
  answers = λ n. subst (λ writes. ShowsSetOrNext (state_after state writes) sets (is.place (min n (length front))))
      (take-append-le (min n (length front)) front back (min-le_right n (length front)) ∙ take_min n front)
      (is.answers (min n (length front)));
  whole = cut-whole state sets front back is;
}

-- more sets behind
get-append : (sets behind : List Led) (place : ℕ) (rules : List Rule) → set_at sets place ≡ Some rules → set_at (sets ++ behind) place ≡ Some rules
get-append [] behind place rules is = absurd (let none : None ≡ Some rules = is in cc)
get-append (set ∷ sets) behind zero rules is = is
get-append (set ∷ sets) behind (suc place) rules is = get-append sets behind place rules is

-- a set before one of these is one of these
get-front : (sets behind : List Led) (place : ℕ) (rules : List Rule) (k : ℕ) (one : Led) → set_at sets place ≡ Some rules → k ≤ place → slice_get (sets ++ behind) k ≡ Some one → slice_get sets k ≡ Some one
get-front [] behind place rules k one some within is = absurd (let none : None ≡ Some rules = some in cc)
get-front (set ∷ sets) behind place rules zero one some within is = is
get-front (set ∷ sets) behind zero rules (suc k) one some within is = absurd (omega (arith, within))
get-front (set ∷ sets) behind (suc place) rules (suc k) one some within is = get-front sets behind place rules k one some (omega (arith, within)) is

wider-at : (sets behind : List Led) (place : ℕ) (state : State) → ShowsSetOrNext state sets place → ShowsSetOrNext state (sets ++ behind) place
wider-at sets behind place state is =
    (is.0, is.1, get-append sets behind place is.0 is.2, elim is.3 [ inl next ↦ inl (get-append sets behind (place + 1) is.1 next) | inr last ↦ inr last ], is.4)

pub wider : (state : State) (sets all : List Led) (writes : List Write) → Continues sets all → AnswersAllTheWay state sets writes → AnswersAllTheWay state all writes
wider state sets all writes (behind, same) is = record {
  place = is.place;
  rises = is.rises;
  answers = λ n. subst (λ sets. ShowsSetOrNext (state_after state (take n writes)) sets (is.place n)) (sym same)
      (wider-at sets behind (is.place n) (state_after state (take n writes)) (is.answers n));
  whole = λ k n rules here past.
      (let stands = is.answers n in
      let got : slice_get (sets ++ behind) (suc k) ≡ Some (Stands rules) = subst (λ sets. slice_get sets (suc k) ≡ Some (Stands rules)) same here in
      is.whole k n rules (get-front sets behind (is.place n) stands.0 (suc k) (Stands rules) stands.2 past.0 got) past);
}

-- ---- a run

-- where a run stands its state shows its set
abbrev IsShown : Progress → Type 0
IsShown progress = Shows progress.state progress.rules

-- where a run stands its state shows the first of the sets to come
shows-first : (state : State) (setting : Setting) (backs : List Bool) (rules : List Rule) (acts : List Act) → Shows state rules → ShowsFirst state (sets_through setting backs rules [] Nothing acts)
shows-first state setting backs rules acts shows other is =
    let both : Some (Stands rules) ≡ Some (Stands other) = sym (first-set setting backs rules [] Nothing acts) ∙ is in
    let same : rules ≡ other = cc in
    subst (Shows state) same shows

-- sets that are shown in turn behind some writes are so from before them on
shown-behind : (state : State) (sets : List Led) (made back : List Write) → AreShownInTurn (state_after state made) sets back → AreShownInTurn state sets (made ++ back)
shown-behind state [] made back shown = shown
shown-behind state (Stands rules ∷ sets) made back (front, behind, same, shows, more) =
    let now : state_after state (made ++ front) ≡ state_after (state_after state made) front = state_after-append state made front in (
      made ++ front,
      behind,
      ap (λ writes. made ++ writes) same ∙ sym (append_assoc made front behind),
      subst (λ state. Shows state rules) (sym now) shows,
      subst (λ state. AreShownInTurn state sets behind) (sym now) more,
    )
shown-behind state (TakenBack rules ∷ sets) made back shown = shown-behind state sets made back shown

-- the state shows this set, if that stands
abbrev ShowsLed : State → Led → Type 0
ShowsLed state (Stands rules) = Shows state rules
ShowsLed state (TakenBack rules) = Unit {0}

shown-first : (state : State) (first : Led) (sets : List Led) (writes : List Write) → ShowsLed state first → AreShownInTurn state sets writes → AreShownInTurn state (first ∷ sets) writes
shown-first state (Stands rules) sets writes here more = ([], writes, refl, here, more)
shown-first state (TakenBack rules) sets writes here more = more

-- the last set stays the last behind one more
ends-behind : (state : State) (first : Led) (sets : List Led) (made back : List Write) → ShowsLed state first → EndsAtLast (state_after state made) sets back → EndsAtLast state (first ∷ sets) (made ++ back)
ends-behind state first sets made back here ends = record {
  front = first ∷ ends.front;
  rules = ends.rules;
  sets_are = ap (λ behind. first ∷ behind) ends.sets_are;
  shows = subst (λ state. Shows state ends.rules) (sym (state_after-append state made back)) ends.shows;
  in_turn = shown-first state first sets (made ++ back) here (shown-behind state sets made back ends.in_turn);
}

-- on the way back each key has the new answer or the old one
shows-back : (state : State) (old new : List Rule) → ShowsOldOrNew state old new → ShowsOldOrNew state new old
shows-back state old new shows key valid = elim (shows key valid) [ inl is ↦ inr is | inr is ↦ inl is ]

-- the states on the way back are those of some first writes
back-passes : (state : State) (front : List Write) (n : ℕ) → (m : ℕ) × (state_after (state_after state front) (take n (undo_writes state front)) ≡ state_after state (take m front))
back-passes state front n =
    let few = min n (length (undo_writes state front)) in
    let within : few ≤ length front = subst (λ size. few ≤ size) (length-undo_writes state front) (min-le_right n (length (undo_writes state front))) in (
      length front - few,
      sym (state_after-append state front (take n (undo_writes state front)))
          ∙ ap (λ writes. state_after state (front ++ writes)) (sym (take_min n (undo_writes state front))) ∙ undo_passes state front few within,
    )

-- what a run does that comes to its end, or is cut
module _ (Ends : Type 0) where
  -- on the way, and at its end where it comes to that
  abbrev Goes : State → List Led → List Write → Type 0
  Goes state sets writes = AnswersAllTheWay state sets writes × (Ends → EndsAtLast state sets writes)

  -- what acts do from where a run stands, with some trials taken back
  abbrev GoesBy : Setting → List Bool → Progress → List Act → List Write → Type 0
  GoesBy setting backs old acts writes = Goes old.state (sets_through setting backs old.rules old.batch old.asked acts) writes

  abbrev GoesOn : Setting → Progress → List Act → List Write → Type 0
  GoesOn setting old acts writes = (backs : List Bool) × GoesBy setting backs old acts writes

  -- what comes behind a commit
  abbrev Later : Setting → Progress → List Act → List Write → Type 0
  Later setting mid acts back = IsShown mid → GoesOn setting mid acts back

  -- a commit that finishes
  goes-commit : (setting : Setting) (old : Progress) (front : List Effect) (mid : Progress) (acts : List Act) (back : List Write) → IsShown old → Commits setting (settled_at old) front mid → Later setting mid acts back
      → (backs : List Bool) × Goes old.state (Stands old.rules ∷ sets_through setting backs (set_after old.rules (settled_at old).batch) [] Nothing acts) (journal_of front ++ back)
  goes-commit setting old front mid acts back shown step more =
      let new : List Rule = set_after old.rules (settled_at old).batch in
      let P : Progress → Type 0 = λ p. Later setting p acts back in
      let last = subst P step.after more step.writes.segment.hitless.after in
      let sets : List Led = sets_through setting last.0 new [] Nothing acts in
      let made : step.made ++ back ≡ journal_of front ++ back =
      sym (ap (λ writes. writes ++ back) (ap journal_of step.effects_are ∙ written-segment setting (settled_at old) step.made _)) in (
        last.0,
        subst (λ writes. Goes old.state (Stands old.rules ∷ sets) writes) made (
          segment (Stands old.rules) (Stands new) sets old.state step.made back (first-set setting last.0 new [] Nothing acts) step.writes.segment.hitless.on_the_way.during
              (shows-first (state_after old.state step.made) setting last.0 new acts step.writes.segment.hitless.after) last.1.0,
          λ ends. ends-behind old.state (Stands old.rules) sets step.made back shown (last.1.1 ends),
        ),
      )

  -- one in two parts
  goes-two : (setting : Setting) (old : Progress) (front : List Effect) (mid : Progress) (acts : List Act) (back : List Write) → IsShown old → StepsInTwo setting old front mid → Later setting mid acts back
      → (backs : List Bool) × Goes old.state (Stands old.rules ∷ sets_through setting backs (set_after old.rules (settled_at old).batch) [] Nothing acts) (journal_of front ++ back)
  goes-two setting old front mid acts back shown two more =
      let new : List Rule = set_after old.rules (settled_at old).batch in
      let step = makes-both setting old two.right front mid two in
      let P : Progress → Type 0 = λ p. Later setting p acts back in
      let last = subst P step.after more step.hitless.after in
      let sets : List Led = sets_through setting last.0 new [] Nothing acts in
      let made : step.made ++ back ≡ journal_of front ++ back = sym (ap (λ writes. writes ++ back) step.written) in (
        last.0,
        subst (λ writes. Goes old.state (Stands old.rules ∷ sets) writes) made (
          segment (Stands old.rules) (Stands new) sets old.state step.made back (first-set setting last.0 new [] Nothing acts) step.hitless.on_the_way.during
              (shows-first (state_after old.state step.made) setting last.0 new acts step.hitless.after) last.1.0,
          λ ends. ends-behind old.state (Stands old.rules) sets step.made back shown (last.1.1 ends),
        ),
      )

  -- one that crashes and is gone on with
  goes-restarted : (setting : Setting) (old : Progress) (after : ℕ) (front : List Effect) (mid : Progress) (acts : List Act) (back : List Write) → IsShown old → Restarts setting (settled_at old) after front mid → Later setting mid acts back
      → (backs : List Bool) × Goes old.state (Stands old.rules ∷ sets_through setting backs (set_after old.rules (settled_at old).batch) [] Nothing acts) (journal_of front ++ back)
  goes-restarted setting old after front mid acts back shown step more =
      let new : List Rule = set_after old.rules (settled_at old).batch in
      let P : Progress → Type 0 = λ p. Later setting p acts back in
      let made : List Write = take after step.made ++ step.rest in
      let shows : Shows (state_after old.state made) new = subst (λ (now : State). Shows now new) (sym (state_after-append old.state (take after step.made) step.rest)) step.goes_on.after in
      let last = subst P step.new_is more shows in
      let sets : List Led = sets_through setting last.0 new [] Nothing acts in
      let same : made ++ back ≡ journal_of front ++ back = sym (ap (λ writes. writes ++ back) (written-restarts setting (settled_at old) mid after front step)) in
      let during : (n : ℕ) → ShowsOldOrNew (state_after old.state (take n made)) old.rules new =
      joined old.rules new old.state step.made step.rest after step.crash.more step.crash.writes.segment.hitless.on_the_way.during step.goes_on.during in (
        last.0,
        subst (λ writes. Goes old.state (Stands old.rules ∷ sets) writes) same (
          segment (Stands old.rules) (Stands new) sets old.state made back (first-set setting last.0 new [] Nothing acts) during (shows-first (state_after old.state made) setting last.0 new acts shows) last.1.0,
          λ ends. ends-behind old.state (Stands old.rules) sets made back shown (last.1.1 ends),
        ),
      )

  -- a trial that is taken back
  goes-return : (setting : Setting) (old : Progress) (most : ℕ) (front : List Effect) (mid : Progress) (acts : List Act) (back : List Write) → IsShown old → Returns setting (settled_at old) most front mid → Later setting mid acts back
      → (backs : List Bool) × Goes old.state (Stands old.rules ∷ TakenBack (set_after old.rules (settled_at old).batch) ∷ sets_through setting backs old.rules [] Nothing acts) (journal_of front ++ back)
  goes-return setting old most front mid acts back shown step more =
      let new : List Rule = set_after old.rules (settled_at old).batch in
      let P : Progress → Type 0 = λ p. Later setting p acts back in
      let last = subst P step.after more shown in
      let sets : List Led = sets_through setting last.0 old.rules [] Nothing acts in
      let there : List Write = take most step.made in
      let undo : List Write = undo_writes old.state there in
      let begins : state_after (state_after old.state there) undo ≡ old.state = sym (state_after-append old.state there undo) ∙ undo_ends old.state there in
      let during : (n : ℕ) → ShowsOldOrNew (state_after old.state (take n step.made)) old.rules new = step.past.writes.segment.hitless.on_the_way.during in
      let on : (n : ℕ) → ShowsOldOrNew (state_after old.state (take n there)) old.rules new =
      λ n. (let few = min n (length there) in
      let enough = step.past.more in
      let size : length there ≡ most = length-take-le most step.made (omega arith) in
      let within : few ≤ most = subst (λ size. few ≤ size) size (min-le_right n (length there)) in
      subst (λ writes. ShowsOldOrNew (state_after old.state writes) old.rules new) (sym (take-take few most step.made within) ∙ take_min n there) (during few)) in
      let off : (n : ℕ) → ShowsOldOrNew (state_after (state_after old.state there) (take n undo)) new old.rules =
      λ n. (let passes = back-passes old.state there n in
      subst (λ state. ShowsOldOrNew state new old.rules) (sym passes.1) (shows-back (state_after old.state (take passes.0 there)) old.rules new (on passes.0))) in
      let rest : Goes (state_after (state_after old.state there) undo) sets back = subst (λ state. Goes state sets back) (sym begins) last.1 in
      let again : Goes (state_after old.state there) (TakenBack new ∷ sets) (undo ++ back) = (
        segment (TakenBack new) (Stands old.rules) sets (state_after old.state there) undo back (first-set setting last.0 old.rules [] Nothing acts) off
            (shows-first (state_after (state_after old.state there) undo) setting last.0 old.rules acts (subst (λ now. Shows now old.rules) (sym begins) shown)) rest.0,
        λ ends. ends-behind (state_after old.state there) (TakenBack new) sets undo back tt (rest.1 ends),
      ) in
      let made : there ++ (undo ++ back) ≡ journal_of front ++ back =
      sym (append_assoc there undo back) ∙ sym (ap (λ writes. writes ++ back) (ap journal_of step.effects_are ∙ written-return setting (settled_at old) most step.made _)) in (
        last.0,
        subst (λ writes. Goes old.state (Stands old.rules ∷ TakenBack new ∷ sets) writes) made (
          segment (Stands old.rules) (TakenBack new) (TakenBack new ∷ sets) old.state there (undo ++ back) refl on (λ rules stands. absurd (let bad : TakenBack new ≡ Stands rules = cc in cc)) again.0,
          λ ends. ends-behind old.state (Stands old.rules) (TakenBack new ∷ sets) there (undo ++ back) shown (again.1 ends),
        ),
      )

  -- one that is refused
  goes-refused : (setting : Setting) (old : Progress) (reason : Verdict) (front : List Effect) (mid : Progress) (acts : List Act) (back : List Write) → IsShown old → Refuses setting (settled_at old) reason front mid → Later setting mid acts back
      → (backs : List Bool) × Goes old.state (sets_through setting backs old.rules [] Nothing acts) (journal_of front ++ back)
  goes-refused setting old reason front mid acts back shown step more =
      let P : Progress → Type 0 = λ p. Later setting p acts back in
      let last = subst P step.1 more shown in
      (last.0, subst (λ writes. Goes old.state (sets_through setting last.0 old.rules [] Nothing acts) writes) (sym (ap (λ effects. journal_of effects ++ back) step.0)) last.1)

  goes-judged : (setting : Setting) (old : Progress) (is : Verdict) (front : List Effect) (mid : Progress) (acts : List Act) (back : List Write)
      → IsShown old → Judged Commits setting (settled_at old) is front mid → Later setting mid acts back
      → (backs : List Bool) × Goes old.state (sets_judged setting backs old.rules (settled_at old).batch acts is) (journal_of front ++ back)
  goes-judged setting old Accepted front mid acts back shown step more = goes-commit setting old front mid acts back shown step more
  goes-judged setting old (Unsound fault) front mid acts back shown step more = goes-refused setting old (Unsound fault) front mid acts back shown step more
  goes-judged setting old (OutOfBits field needed free) front mid acts back shown step more = goes-refused setting old (OutOfBits field needed free) front mid acts back shown step more
  goes-judged setting old (OutOfSlots needed free) front mid acts back shown step more = goes-refused setting old (OutOfSlots needed free) front mid acts back shown step more

  goes-committed : (in_two : Bool) (setting : Setting) (old : Progress) (front : List Effect) (mid : Progress) (acts : List Act) (back : List Write)
      → IsShown old → CommitsBy in_two setting old front mid → Later setting mid acts back
      → (backs : List Bool) × Goes old.state (sets_judged setting backs old.rules (settled_at old).batch acts (elim in_two [ true ↦ Accepted | false ↦ pending_verdict setting old ])) (journal_of front ++ back)
  goes-committed true setting old front mid acts back shown two more = goes-two setting old front mid acts back shown two more
  goes-committed false setting old front mid acts back shown step more = goes-judged setting old (pending_verdict setting old) front mid acts back shown step more

  goes-tried : (most : ℕ) (setting : Setting) (old : Progress) (is : Verdict) (front : List Effect) (mid : Progress) (acts : List Act) (back : List Write)
      → IsShown old → Judged (Tries most) setting (settled_at old) is front mid → Later setting mid acts back
      → (backs : List Bool) × Goes old.state (trial_judged setting backs old.rules (settled_at old).batch acts is) (journal_of front ++ back)
  goes-tried most setting old Accepted front mid acts back shown (inl commits) more =
      let last = goes-commit setting old front mid acts back shown commits.0 more in (false ∷ last.0, last.1)
  goes-tried most setting old Accepted front mid acts back shown (inr returns) more =
      let last = goes-return setting old most front mid acts back shown returns more in (true ∷ last.0, last.1)
  goes-tried most setting old (Unsound fault) front mid acts back shown step more = goes-refused setting old (Unsound fault) front mid acts back shown step more
  goes-tried most setting old (OutOfBits field needed free) front mid acts back shown step more = goes-refused setting old (OutOfBits field needed free) front mid acts back shown step more
  goes-tried most setting old (OutOfSlots needed free) front mid acts back shown step more = goes-refused setting old (OutOfSlots needed free) front mid acts back shown step more

  goes-crashed : (after : ℕ) (setting : Setting) (old : Progress) (is : Verdict) (front : List Effect) (mid : Progress) (acts : List Act) (back : List Write)
      → IsShown old → Judged (Crashes after) setting (settled_at old) is front mid → Later setting mid acts back
      → (backs : List Bool) × Goes old.state (sets_judged setting backs old.rules (settled_at old).batch acts is) (journal_of front ++ back)
  goes-crashed after setting old Accepted front mid acts back shown (inl commits) more = goes-commit setting old front mid acts back shown commits.0 more
  goes-crashed after setting old Accepted front mid acts back shown (inr restarts) more = goes-restarted setting old after front mid acts back shown restarts more
  goes-crashed after setting old (Unsound fault) front mid acts back shown step more = goes-refused setting old (Unsound fault) front mid acts back shown step more
  goes-crashed after setting old (OutOfBits field needed free) front mid acts back shown step more = goes-refused setting old (OutOfBits field needed free) front mid acts back shown step more
  goes-crashed after setting old (OutOfSlots needed free) front mid acts back shown step more = goes-refused setting old (OutOfSlots needed free) front mid acts back shown step more

  -- an act that does nothing to the device
  goes-still : (setting : Setting) (old : Progress) (act : Act) (front : List Effect) (mid now : Progress) (acts : List Act) (back : List Write) → journal_of front ≡ [] → mid ≡ now → IsShown now
      → (GoesOn setting now acts back → GoesOn setting old (act ∷ acts) back) → Later setting mid acts back → GoesOn setting old (act ∷ acts) (journal_of front ++ back)
  goes-still setting old act front mid now acts back none same shown goes more =
      let P : Progress → Type 0 = λ p. Later setting p acts back in
      subst (λ writes. GoesOn setting old (act ∷ acts) (writes ++ back)) (sym none) (goes (subst P same more shown))

  -- one act and those behind it
  goes-step : (setting : Setting) (old : Progress) (act : Act) (front : List Effect) (mid : Progress) (acts : List Act) (back : List Write)
      → IsShown old → StepsBy setting old act front mid → Later setting mid acts back → GoesOn setting old (act ∷ acts) (journal_of front ++ back)
  goes-step setting old (Command change) front mid acts back shown step more = goes-still setting old (Command change) front mid _ acts back (ap journal_of step.0) step.1 shown (λ goes. goes) more
  goes-step setting old (Ask request) front mid acts back shown step more = goes-still setting old (Ask request) front mid _ acts back (ap journal_of step.0) step.1 shown (λ goes. goes) more
  goes-step setting old All front mid acts back shown step more = goes-still setting old All front mid _ acts back (ap journal_of step.0) step.1 shown (λ goes. goes) more
  goes-step setting old (Probe key) front mid acts back shown step more = goes-still setting old (Probe key) front mid _ acts back (ap journal_of step.0) step.1 shown (λ goes. goes) more
  goes-step setting old (Packet key) front mid acts back shown step more =
      goes-still setting old (Packet key) front mid _ acts back (ap journal_of step.0 ∙ packet-still setting (answer old.rules key)) step.1 shown (λ goes. goes) more
  goes-step setting old Commit front mid acts back shown step more = goes-committed (parts_at setting old) setting old front mid acts back shown step more
  goes-step setting old (Trial most) front mid acts back shown step more =
      goes-tried most setting old (pending_verdict setting old) front mid acts back shown step more
  goes-step setting old (Crash after) front mid acts back shown step more =
      goes-crashed after setting old (pending_verdict setting old) front mid acts back shown step more

  -- a run, and what comes behind it
  pub goes : (setting : Setting) (old : Progress) (acts : List Act) (effects : List Effect) (new : Progress) → IsShown old → RunBy setting old acts effects new
      → (later : List Act) (tail : List Write) → Later setting new later tail → GoesOn setting old (acts ++ later) (journal_of effects ++ tail)
  goes setting old [] effects new shown run later tail more =
      let P : Progress → Type 0 = λ p. Later setting p later tail in
      subst (λ writes. GoesOn setting old later writes) (sym (ap (λ (some : List Effect). journal_of some ++ tail) run.0)) (subst P run.1 more shown)
  goes setting old (act ∷ acts) effects new shown (front, mid, back, step, rest, whole) later tail more =
      subst (λ writes. GoesOn setting old (act ∷ (acts ++ later)) writes)
      (sym (append_assoc (journal_of front) (journal_of back) tail) ∙ sym (ap (λ writes. writes ++ tail) (ap journal_of whole ∙ written-append front back)))
      (goes-step setting old act front mid (acts ++ later) (journal_of back ++ tail) shown step (λ mid_shown. goes setting mid acts back new mid_shown rest later tail more))

-- what a run over some acts shows
abbrev pub RunGoes : Setting → ℕ → List Bool → List Act → List Effect → Type 0
RunGoes setting slots backs acts effects =
    AnswersAllTheWay (blank slots) (sets_through setting backs [] [] Nothing acts) (journal_of effects) × EndsAtLast (blank slots) (sets_through setting backs [] [] Nothing acts) (journal_of effects)

-- nothing more is done
done-here : (setting : Setting) (here : Progress) → Later (Unit {0}) setting here [] []
done-here setting here shown = (
  [],
  (
    stays here.state here.rules (Stands here.rules ∷ []) refl shown,
    λ ends. record { front = []; rules = here.rules; sets_are = refl; shows = shown; in_turn = ([], [], refl, shown, tt) },
  ),
)

pub run-goes : (setting : Setting) (slots : ℕ) (acts : List Act) (effects : List Effect) (last : Progress) → RunsBy setting slots acts effects last → (backs : List Bool) × RunGoes setting slots backs acts effects
run-goes setting slots acts effects last run =
    let on = goes (Unit {0}) setting (start slots) acts effects last (blank_shows slots) run [] [] (done-here setting last) in
    let at : GoesOn (Unit {0}) setting (start slots) acts (journal_of effects) =
    subst (λ (some : List Act). GoesOn (Unit {0}) setting (start slots) some (journal_of effects)) (append-nil acts)
    (subst (λ writes. GoesOn (Unit {0}) setting (start slots) (acts ++ []) writes) (append-nil (journal_of effects)) on) in
    (at.0, (at.1.0, at.1.1 tt))

-- Where a run is cut within a commit, by what each of the writes of that leaves: the old or the new answer.
halfway : (state : State) (old new : List Rule) (sets : List Led) (writes : List Write) → slice_get sets 0 ≡ Some (Stands new)
    → ((n : ℕ) → ShowsOldOrNew (state_after state (take n writes)) old new) → AnswersAllTheWay state (Stands old ∷ sets) writes
halfway state old new sets writes first during = record {
  place = λ n. 0;
  rises = λ n m less. omega arith;
  answers = λ n. (old, new, refl, inl (ap (option_map rules_in) first), during n);
  whole = λ k n some is past. absurd (let none : k < 0 = past.0 in omega arith);
}

pub cut-within : (setting : Setting) (slots : ℕ) (done : List Act) (effects : List Effect) (before : Progress) → RunsBy setting slots done effects before → (act : Act) (later : List Act) (new : List Rule) (tail : List Write)
    → sets_through setting [] before.rules before.batch before.asked (act ∷ later) ≡ Stands before.rules ∷ sets_through setting [] new [] Nothing later
    → ((n : ℕ) → ShowsOldOrNew (state_after before.state (take n tail)) before.rules new)
    → (backs : List Bool) × AnswersAllTheWay (blank slots) (sets_through setting backs [] [] Nothing (done ++ act ∷ later)) (journal_of effects ++ tail)
cut-within setting slots done effects before run act later new tail sets during =
    let on = goes ⊥ setting (start slots) done effects before (blank_shows slots) run (act ∷ later) tail (λ shown. (
      [],
      (
        subst (λ (some : List Led). AnswersAllTheWay before.state some tail) (sym sets)
            (halfway before.state before.rules new (sets_through setting [] new [] Nothing later) tail (first-set setting [] new [] Nothing later) during),
        λ ends. absurd ends,
      ),
    )) in
    (on.0, on.1.0)

-- where a run is cut in the middle of an act, by what it would have come to
pub cut-answers : (setting : Setting) (slots : ℕ) (backs : List Bool) (done : List Act) (act : Act) (behind all : List Act) (body front back : List Effect) → all ≡ done ++ act ∷ behind
    → RunGoes setting slots backs (done ++ act ∷ []) (body ++ (front ++ back)) → AnswersAllTheWay (blank slots) (sets_through setting backs [] [] Nothing all) (journal_of (body ++ front))
cut-answers setting slots backs done act behind all body front back same goes =
    let first : List Act = done ++ act ∷ [] in
    let whole : List Effect = body ++ (front ++ back) in
    let parts : journal_of whole ≡ journal_of (body ++ front) ++ journal_of back = ap journal_of (sym (append_assoc body front back)) ∙ written-append (body ++ front) back in
    let sets : List Led = sets_through setting backs [] [] Nothing all in
    let answers : AnswersAllTheWay (blank slots) sets (journal_of whole) =
    subst (λ acts. AnswersAllTheWay (blank slots) (sets_through setting backs [] [] Nothing acts) (journal_of whole)) (sym (same ∙ sym (append_assoc done (act ∷ []) behind)))
    (wider (blank slots) (sets_through setting backs [] [] Nothing first) (sets_through setting backs [] [] Nothing (first ++ behind)) (journal_of whole) (more-sets setting backs [] [] Nothing first behind) goes.0) in
    cut (blank slots) sets (journal_of (body ++ front)) (journal_of back) (subst (λ writes. AnswersAllTheWay (blank slots) sets writes) parts answers)
