-- Where a line of each kind may stand, and what is shown there and behind it.
use Rattle.std.proofs.Common.{◌≡◌, ℕ, ◌+◌, ◌<◌, Bool, true, false, Option, Some, None, [], inl, refl, sym, subst}
use Rattle.std.specs.Prelude.{IsSome, nat_eq, nat_lt}
use Rattle.std.proofs.lemmas.Bool.{ltb-true}
use Rattle.rule_store.specs.Batch.{IsSound}
use Rattle.trace_check.specs.declared.places.Place.{Place}
use Rattle.trace_check.specs.declared.places.Place.TheVariants.{AtStart, Between, InBatch, InEvents, AtEnd}
use Rattle.trace_check.specs.Places.{Begins, Changes, Ends, Finishes, Happens, Heads, Refuses, is_slot_in_use, only_if, place_by, trace_commands}
use Rattle.driver_trace.specs.declared.Compared.{Compared}
use Rattle.driver_trace.specs.Compared.{ShowsBy, ShowsOldOrNewBy}
use Rattle.driver_trace.specs.Known.{Known, rules_ahead}
use Rattle.line_judge.specs.Tracked.{IsShownAt}

only : (test : Bool) (place next : Place) → only_if test place ≡ Some next → (next ≡ place) × (test ≡ true)
only true place next same = ((let k : Some place ≡ Some next = same in cc), refl)
only false place next same = absurd (let bad : None ≡ Some next = same in cc)

pub some_place : (o : Option Place) → IsSome o → (next : Place) × (o ≡ Some next)
some_place None is = absurd (let bad : false ≡ true = is in cc)
some_place (Some next) is = (next, refl)

-- a commit is under way: its batch is sound, and the device shows one of the sets
abbrev pub IsUnderWay : Compared → Known → Type 0
IsUnderWay by now = IsSound now.rules now.batch × ShowsOldOrNewBy by now.state now.rules (rules_ahead now)

among : (by : Compared) (now : Known) → IsSound now.rules now.batch × ShowsBy by now.state now.rules → IsUnderWay by now
among by now shown = (shown.0, λ key valid. inl (shown.1 key valid))

pub event_open : (by : Compared) (slots : ℕ) (slot : Option ℕ) (place next : Place) (now : Known) → place_by slots place (Happens slot) ≡ Some next → IsShownAt by place now → IsUnderWay by now
event_open by slots slot AtStart next now there shown = absurd (cc)
event_open by slots slot (Between m) next now there shown = absurd (cc)
event_open by slots slot (InBatch m k) next now there shown = among by now shown
event_open by slots slot (InEvents m) next now there shown = shown
event_open by slots slot AtEnd next now there shown = absurd (cc)

pub event_next : (slots : ℕ) (slot : Option ℕ) (place next : Place) → place_by slots place (Happens slot) ≡ Some next → (n : ℕ) × (next ≡ InEvents n)
event_next slots slot AtStart next there = absurd (cc)
event_next slots slot (Between m) next there = absurd (cc)
event_next slots slot (InBatch m k) next there = (m, (only (is_slot_in_use slots slot) (InEvents m) next there).0)
event_next slots slot (InEvents m) next there = (m, (only (is_slot_in_use slots slot) (InEvents m) next there).0)
event_next slots slot AtEnd next there = absurd (cc)

pub event_used : (slots at : ℕ) (place next : Place) → place_by slots place (Happens (Some at)) ≡ Some next → at < slots
event_used slots at AtStart next there = absurd (cc)
event_used slots at (Between m) next there = absurd (cc)
event_used slots at (InBatch m k) next there = ltb-true at slots (only (nat_lt at slots) (InEvents m) next there).1
event_used slots at (InEvents m) next there = ltb-true at slots (only (nat_lt at slots) (InEvents m) next there).1
event_used slots at AtEnd next there = absurd (cc)

pub finish_open : (by : Compared) (slots n : ℕ) (place next : Place) (now : Known) → place_by slots place (Finishes n) ≡ Some next → IsShownAt by place now → IsUnderWay by now
finish_open by slots n AtStart next now there shown = absurd (cc)
finish_open by slots n (Between m) next now there shown = absurd (cc)
finish_open by slots n (InBatch m k) next now there shown = among by now shown
finish_open by slots n (InEvents m) next now there shown = shown
finish_open by slots n AtEnd next now there shown = absurd (cc)

pub finish_next : (slots n : ℕ) (place next : Place) → place_by slots place (Finishes n) ≡ Some next → (m : ℕ) × (next ≡ Between m)
finish_next slots n AtStart next there = absurd (cc)
finish_next slots n (Between m) next there = absurd (cc)
finish_next slots n (InBatch m k) next there = (m, (only (nat_eq n m) (Between m) next there).0)
finish_next slots n (InEvents m) next there = (m, (only (nat_eq n m) (Between m) next there).0)
finish_next slots n AtEnd next there = absurd (cc)

pub head_next : (slots : ℕ) (place next : Place) → place_by slots place Heads ≡ Some next → next ≡ Between 0
head_next slots AtStart next there = let k : Some (Between 0) ≡ Some next = there in cc
head_next slots (Between m) next there = absurd (cc)
head_next slots (InBatch m k) next there = absurd (cc)
head_next slots (InEvents m) next there = absurd (cc)
head_next slots AtEnd next there = absurd (cc)

begun : (by : Compared) (now : Known) (n : ℕ) → (now.batch ≡ []) × ShowsBy by now.state now.rules → IsShownAt by (InBatch n 0) now
begun by now n shown = (subst (IsSound now.rules) (sym shown.0) refl, shown.1)

pub commit_shown : (by : Compared) (slots n : ℕ) (place next : Place) (now : Known) → place_by slots place (Begins n) ≡ Some next → IsShownAt by place now → IsShownAt by next now
commit_shown by slots n AtStart next now there shown = absurd (cc)
commit_shown by slots n (Between m) next now there shown =
    subst (λ p. IsShownAt by p now) (sym (only (nat_eq n (m + 1)) (InBatch n 0) next there).0) (begun by now n shown)
commit_shown by slots n (InBatch m k) next now there shown = absurd (cc)
commit_shown by slots n (InEvents m) next now there shown = absurd (cc)
commit_shown by slots n AtEnd next now there shown = absurd (cc)

pub refused_shown : (by : Compared) (slots n : ℕ) (place next : Place) (now : Known) → place_by slots place (Refuses n) ≡ Some next → IsShownAt by place now → IsShownAt by next now
refused_shown by slots n AtStart next now there shown = absurd (cc)
refused_shown by slots n (Between m) next now there shown = subst (λ p. IsShownAt by p now) (sym (only (nat_eq n (m + 1)) (Between n) next there).0) shown
refused_shown by slots n (InBatch m k) next now there shown = absurd (cc)
refused_shown by slots n (InEvents m) next now there shown = absurd (cc)
refused_shown by slots n AtEnd next now there shown = absurd (cc)

pub end_shown : (by : Compared) (slots : ℕ) (place next : Place) (now : Known) → place_by slots place Ends ≡ Some next → IsShownAt by next now
end_shown by slots AtStart next now there = absurd (cc)
end_shown by slots (Between m) next now there = let same : AtEnd ≡ next = (let k : Some AtEnd ≡ Some next = there in cc) in subst (λ p. IsShownAt by p now) same tt
end_shown by slots (InBatch m k) next now there = absurd (cc)
end_shown by slots (InEvents m) next now there = absurd (cc)
end_shown by slots AtEnd next now there = absurd (cc)

pub drain_shown : (by : Compared) (slots : ℕ) (place next : Place) (now : Known) → place_by slots place (Happens None) ≡ Some next → IsShownAt by place now → IsShownAt by next now
drain_shown by slots place next now there shown =
    let at = event_next slots None place next there in subst (λ p. IsShownAt by p now) (sym at.1) (event_open by slots None place next now there shown)

-- among the commands of a commit
pub command_at : (by : Compared) (slots : ℕ) (place next : Place) (now : Known) → place_by slots place Changes ≡ Some next → IsShownAt by place now
    → (n : ℕ) × (k : ℕ) × (next ≡ InBatch n (k + 1)) × IsShownAt by (InBatch n k) now
command_at by slots AtStart next now there shown = absurd (cc)
command_at by slots (Between m) next now there shown = absurd (cc)
command_at by slots (InBatch m k) next now there shown = (m, k, (only (nat_lt k trace_commands) (InBatch m (k + 1)) next there).0, shown)
command_at by slots (InEvents m) next now there shown = absurd (cc)
command_at by slots AtEnd next now there shown = absurd (cc)
