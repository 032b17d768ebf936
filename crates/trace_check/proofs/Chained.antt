-- The commits of a trace follow one another, and every write of it is one of theirs.
use Rattle.std.proofs.Common.{◌≡◌, ℕ, ◌+◌, Bool, true, false, List, [], ◌∷◌, ◌++◌, Option, None, Some, refl, sym, ap, ◌∙◌, subst, append_assoc}
use Rattle.std.specs.Prelude.{flat_map, nat_eq, nat_lt}
use Rattle.rule_store.specs.Batch.{set_after}
use Rattle.tcam_device.specs.declared.Write.{Write}
use Rattle.tcam_device.specs.declared.Write.TheVariants as write
use Rattle.tcam_device.specs.State.{State, apply, state_after}
use Rattle.tcam_device.proofs.Spans.{state_after-append}
use Rattle.trace_file.specs.declared.TraceLine.{TraceLine}
use Rattle.trace_file.specs.declared.TraceLine.TheVariants.{Head, Commit, Add, Set, Del, Put, Erase, Table, Drain, Done, Refused, End, Fault}
use Rattle.trace_check.specs.declared.places.Place.{Place}
use Rattle.trace_check.specs.declared.places.Place.TheVariants.{AtStart, Between, InBatch, InEvents, AtEnd}
use Rattle.trace_check.specs.Places.{Heads, Begins, Changes, Happens, Finishes, Refuses, Ends, only_if, is_slot_in_use, place_by, trace_commands}
use Rattle.trace_check.specs.Orderly.{Tracing, untraced, traced_on, Follow}
use Rattle.trace_check.specs.Hitless.{TracedCommit, commits_in, trace_writes, Chain, TracesAreCommits}

-- a place that a test allows
only : (test : Bool) (place next : Place) → only_if test place ≡ Some next → next ≡ place
only true place next same = (cc)
only false place next same = absurd (cc)

-- where a commit is under way, the state is what its writes so far lead to; before its events there are none
abbrev Stands : Place → Tracing → Type 0
Stands AtStart now = ⊥
Stands (Between n) now = Unit {0}
Stands (InBatch n k) now = (now.begun ≡ now.state) × ([] ≡ now.made)
Stands (InEvents n) now = state_after now.begun now.made ≡ now.state
Stands AtEnd now = Unit {0}

-- the state that the next finished commit began in, and the writes that it has so far
abbrev start_of : Place → Tracing → State
start_of AtStart now = now.state
start_of (Between n) now = now.state
start_of (InBatch n k) now = now.begun
start_of (InEvents n) now = now.begun
start_of AtEnd now = now.state

abbrev made_so_far : Place → Tracing → List Write
made_so_far AtStart now = []
made_so_far (Between n) now = []
made_so_far (InBatch n k) now = now.made
made_so_far (InEvents n) now = now.made
made_so_far AtEnd now = []

-- what is to be shown of the lines still to come
record Goes (place : Place) (now : Tracing) (lines : List TraceLine) : Type 0 where
  chain : Chain (start_of place now) now.rules (commits_in now lines)
  writes : flat_map (λ (commit : TracedCommit). commit.writes) (commits_in now lines) ≡ made_so_far place now ++ trace_writes lines

-- one event more
event : (now later : Tracing) (slot : Option ℕ) (place next : Place) → place_by now.slots place (Happens slot) ≡ Some next → Stands place now
    → ((n : ℕ) × (next ≡ InEvents n)) × ((state_after now.begun now.made ≡ now.state) × (start_of place now ≡ now.begun) × (made_so_far place now ≡ now.made))
event now later slot AtStart next there stands = absurd stands
event now later slot (Between n) next there stands = absurd (cc)
event now later slot (InBatch n k) next there stands =
    ((n, only (is_slot_in_use now.slots slot) (InEvents n) next there), (subst (λ made. state_after now.begun made ≡ now.state) stands.1 stands.0, refl, refl))
event now later slot (InEvents n) next there stands = ((n, only (is_slot_in_use now.slots slot) (InEvents n) next there), (stands, refl, refl))
event now later slot AtEnd next there stands = absurd (cc)

-- behind an event that is a write
written : (now : Tracing) (one : Write) (place next : Place) (lines more : List TraceLine) (later : Tracing) → later.begun ≡ now.begun → later.made ≡ now.made ++ one ∷ [] → later.rules ≡ now.rules
    → start_of place now ≡ now.begun → made_so_far place now ≡ now.made → ((n : ℕ) × (next ≡ InEvents n)) → commits_in now more ≡ commits_in later lines → trace_writes more ≡ one ∷ trace_writes lines
    → Goes next later lines → Goes place now more
written now one place next lines more later begun made rules start so_far is commits writes goes =
    let g = subst (λ p. Goes p later lines) is.1 goes in
    record {
      chain = subst (λ cs. Chain (start_of place now) now.rules cs) (sym commits) (subst (λ s. Chain s now.rules (commits_in later lines)) (begun ∙ sym start) (subst (λ r. Chain later.begun r (commits_in later lines)) rules g.chain));
      writes = ap (flat_map (λ (commit : TracedCommit). commit.writes)) commits ∙ (g.writes ∙ (ap (λ m. m ++ trace_writes lines) made ∙ (append_assoc now.made (one ∷ []) (trace_writes lines)
          ∙ (ap (λ m. m ++ one ∷ trace_writes lines) (sym so_far) ∙ ap (λ w. made_so_far place now ++ w) (sym writes)))));
    }

begins : (slots n : ℕ) (place next : Place) (now : Tracing) → place_by slots place (Begins n) ≡ Some next → Stands place now
    → (next ≡ InBatch n 0) × (start_of place now ≡ now.state) × (made_so_far place now ≡ [])
begins slots n AtStart next now there stands = absurd stands
begins slots n (Between m) next now there stands = (only (nat_eq n (m + 1)) (InBatch n 0) next there, refl, refl)
begins slots n (InBatch m k) next now there stands = absurd (cc)
begins slots n (InEvents m) next now there stands = absurd (cc)
begins slots n AtEnd next now there stands = absurd (cc)

-- a command
record IsCommand (place next : Place) (now : Tracing) : Type 0 where
  commit : ℕ
  count : ℕ
  place_is : place ≡ InBatch commit count
  next_is : next ≡ InBatch commit (count + 1)

commands : (slots : ℕ) (place next : Place) (now : Tracing) → place_by slots place Changes ≡ Some next → Stands place now → IsCommand place next now
commands slots AtStart next now there stands = absurd stands
commands slots (Between m) next now there stands = absurd (cc)
commands slots (InBatch m k) next now there stands = record { commit = m; count = k; place_is = refl; next_is = only (nat_lt k trace_commands) (InBatch m (k + 1)) next there }
commands slots (InEvents m) next now there stands = absurd (cc)
commands slots AtEnd next now there stands = absurd (cc)

finishes : (now : Tracing) (n : ℕ) (place next : Place) → place_by now.slots place (Finishes n) ≡ Some next → Stands place now
    → ((m : ℕ) × (next ≡ Between m)) × ((state_after now.begun now.made ≡ now.state) × (start_of place now ≡ now.begun) × (made_so_far place now ≡ now.made))
finishes now n AtStart next there stands = absurd stands
finishes now n (Between m) next there stands = absurd (cc)
finishes now n (InBatch m k) next there stands =
    ((m, only (nat_eq n m) (Between m) next there), (subst (λ made. state_after now.begun made ≡ now.state) stands.1 stands.0, refl, refl))
finishes now n (InEvents m) next there stands = ((m, only (nat_eq n m) (Between m) next there), (stands, refl, refl))
finishes now n AtEnd next there stands = absurd (cc)

-- between commits, or at the end
record IsIdle (place next : Place) (now : Tracing) : Type 0 where
  stands : Stands next now
  start : start_of next now ≡ start_of place now
  made : made_so_far next now ≡ made_so_far place now

refuses : (slots n : ℕ) (place next : Place) (now : Tracing) → place_by slots place (Refuses n) ≡ Some next → Stands place now → IsIdle place next now
refuses slots n AtStart next now there stands = absurd stands
refuses slots n (Between m) next now there stands = subst (λ p. IsIdle (Between m) p now) (sym (only (nat_eq n (m + 1)) (Between n) next there)) (record { stands = tt; start = refl; made = refl })
refuses slots n (InBatch m k) next now there stands = absurd (cc)
refuses slots n (InEvents m) next now there stands = absurd (cc)
refuses slots n AtEnd next now there stands = absurd (cc)

ends : (slots : ℕ) (place next : Place) (now : Tracing) → place_by slots place Ends ≡ Some next → Stands place now → IsIdle place next now
ends slots AtStart next now there stands = absurd stands
ends slots (Between m) next now there stands = subst (λ p. IsIdle (Between m) p now) (let e : AtEnd ≡ next = cc in e) (record { stands = tt; start = refl; made = refl })
ends slots (InBatch m k) next now there stands = absurd (cc)
ends slots (InEvents m) next now there stands = absurd (cc)
ends slots AtEnd next now there stands = absurd (cc)

idle : (place next : Place) (now : Tracing) (lines more : List TraceLine) → IsIdle place next now → commits_in now more ≡ commits_in now lines → trace_writes more ≡ trace_writes lines → Goes next now lines → Goes place now more
idle place next now lines more is commits writes goes = record {
  chain = subst (λ cs. Chain (start_of place now) now.rules cs) (sym commits) (subst (λ s. Chain s now.rules (commits_in now lines)) is.start goes.chain);
  writes = ap (flat_map (λ (commit : TracedCommit). commit.writes)) commits ∙ (goes.writes ∙ (ap (λ m. m ++ trace_writes lines) is.made ∙ ap (λ w. made_so_far place now ++ w) (sym writes)));
}

command : (now later : Tracing) (place next : Place) (lines more : List TraceLine) → IsCommand place next now → later.begun ≡ now.begun → later.made ≡ now.made → later.rules ≡ now.rules
    → commits_in now more ≡ commits_in later lines → trace_writes more ≡ trace_writes lines → Goes next later lines → Goes place now more
command now later place next lines more is begun made rules commits writes goes =
    let g = subst (λ p. Goes p later lines) is.next_is goes in
    subst (λ p. Goes p now more) (sym is.place_is) (record {
      chain = subst (λ cs. Chain now.begun now.rules cs) (sym commits) (subst (λ s. Chain s now.rules (commits_in later lines)) begun (subst (λ r. Chain later.begun r (commits_in later lines)) rules g.chain));
      writes = ap (flat_map (λ (commit : TracedCommit). commit.writes)) commits ∙ (g.writes ∙ (ap (λ m. m ++ trace_writes lines) made ∙ ap (λ w. now.made ++ w) (sym writes)));
    })

batched : (now later : Tracing) (place next : Place) → IsCommand place next now → later.begun ≡ now.begun → later.state ≡ now.state → later.made ≡ now.made → Stands place now → Stands next later
batched now later place next is begun state made stands =
    let s = subst (λ p. Stands p now) is.place_is stands in
    subst (λ p. Stands p later) (sym is.next_is) (begun ∙ (s.0 ∙ sym state), s.1 ∙ sym made)

goes_on : (lines : List TraceLine) (now : Tracing) (place : Place) → Follow now place lines AtEnd → Stands place now → Goes place now lines
goes_on [] now place follow stands = subst (λ p. Goes p now []) (sym follow) (record { chain = tt; writes = refl })
goes_on (Head version acl bits slots ∷ lines) now place follow stands = absurd (no_head place stands follow.1)
  where
    no_head : (p : Place) → Stands p now → place_by now.slots p Heads ≡ Some follow.0 → ⊥
    no_head AtStart stands there = stands
    no_head (Between n) stands there = (cc)
    no_head (InBatch n k) stands there = (cc)
    no_head (InEvents n) stands there = (cc)
    no_head AtEnd stands there = (cc)
goes_on (Commit n ∷ lines) now place follow stands =
    let b = begins now.slots n place follow.0 now follow.1 stands in
    let later = traced_on now (Commit n) in
    let g = subst (λ p. Goes p later lines) b.0 (goes_on lines later follow.0 follow.2 (subst (λ p. Stands p later) (sym b.0) (refl, refl))) in
    record {
      chain = subst (λ s. Chain s now.rules (commits_in later lines)) (sym b.1) g.chain;
      writes = g.writes ∙ ap (λ m. m ++ trace_writes lines) (sym b.2);
    }
goes_on (Add rule ∷ lines) now place follow stands =
    let is = commands now.slots place follow.0 now follow.1 stands in let later = traced_on now (Add rule) in
    command now later place follow.0 lines _ is refl refl refl refl refl (goes_on lines later follow.0 follow.2 (batched now later place follow.0 is refl refl refl stands))
goes_on (Set priority answer ∷ lines) now place follow stands =
    let is = commands now.slots place follow.0 now follow.1 stands in let later = traced_on now (Set priority answer) in
    command now later place follow.0 lines _ is refl refl refl refl refl (goes_on lines later follow.0 follow.2 (batched now later place follow.0 is refl refl refl stands))
goes_on (Del priority ∷ lines) now place follow stands =
    let is = commands now.slots place follow.0 now follow.1 stands in let later = traced_on now (Del priority) in
    command now later place follow.0 lines _ is refl refl refl refl refl (goes_on lines later follow.0 follow.2 (batched now later place follow.0 is refl refl refl stands))
goes_on (Put slot entry ∷ lines) now place follow stands =
    let later = traced_on now (Put slot entry) in
    let e = event now later (Some slot) place follow.0 follow.1 stands in
    let one = write.Slot slot (Some entry) in
    written now one place follow.0 lines (Put slot entry ∷ lines) later refl refl refl e.1.1 e.1.2 e.0 refl refl
    (goes_on lines later follow.0 follow.2 (subst (λ p. Stands p later) (sym e.0.1) (state_after-append now.begun now.made (one ∷ []) ∙ ap (λ s. apply s one) e.1.0)))
goes_on (Erase slot ∷ lines) now place follow stands =
    let later = traced_on now (Erase slot) in
    let e = event now later (Some slot) place follow.0 follow.1 stands in
    let one = write.Slot slot None in
    written now one place follow.0 lines (Erase slot ∷ lines) later refl refl refl e.1.1 e.1.2 e.0 refl refl
    (goes_on lines later follow.0 follow.2 (subst (λ p. Stands p later) (sym e.0.1) (state_after-append now.begun now.made (one ∷ []) ∙ ap (λ s. apply s one) e.1.0)))
goes_on (Table field port word ∷ lines) now place follow stands =
    let later = traced_on now (Table field port word) in
    let e = event now later None place follow.0 follow.1 stands in
    let one = write.Table field port word in
    written now one place follow.0 lines (Table field port word ∷ lines) later refl refl refl e.1.1 e.1.2 e.0 refl refl
    (goes_on lines later follow.0 follow.2 (subst (λ p. Stands p later) (sym e.0.1) (state_after-append now.begun now.made (one ∷ []) ∙ ap (λ s. apply s one) e.1.0)))
goes_on (Drain ∷ lines) now place follow stands =
    let later = traced_on now Drain in
    let e = event now later None place follow.0 follow.1 stands in
    let g = subst (λ p. Goes p later lines) e.0.1 (goes_on lines later follow.0 follow.2 (subst (λ p. Stands p later) (sym e.0.1) e.1.0)) in
    record {
      chain = subst (λ s. Chain s now.rules (commits_in later lines)) (sym e.1.1) g.chain;
      writes = g.writes ∙ ap (λ m. m ++ trace_writes lines) (sym e.1.2);
    }
goes_on (Done n ∷ lines) now place follow stands =
    let later = traced_on now (Done n) in
    let e = finishes now n place follow.0 follow.1 stands in
    let g = subst (λ p. Goes p later lines) e.0.1 (goes_on lines later follow.0 follow.2 (subst (λ p. Stands p later) (sym e.0.1) tt)) in
    record {
      chain = (sym e.1.1, refl, subst (λ s. Chain s (set_after now.rules now.batch) (commits_in later lines)) (sym e.1.0) g.chain);
      writes = ap (λ w. now.made ++ w) g.writes ∙ ap (λ m. m ++ trace_writes lines) (sym e.1.2);
    }
goes_on (Refused n ∷ lines) now place follow stands =
    let is = refuses now.slots n place follow.0 now follow.1 stands in
    idle place follow.0 now lines (Refused n ∷ lines) is refl refl (goes_on lines now follow.0 follow.2 is.stands)
goes_on (End writes ∷ lines) now place follow stands =
    let is = ends now.slots place follow.0 now follow.1 stands in
    idle place follow.0 now lines (End writes ∷ lines) is refl refl (goes_on lines now follow.0 follow.2 is.stands)
goes_on (Fault line ∷ lines) now place follow stands =
    let is = ends now.slots place follow.0 now follow.1 stands in
    idle place follow.0 now lines (Fault line ∷ lines) is refl refl (goes_on lines now follow.0 follow.2 is.stands)

pub traces_are_commits : TracesAreCommits
traces_are_commits version acl bits slots lines trace =
    let later = traced_on untraced (Head version acl bits slots) in
    let is : trace.0 ≡ Between 0 = (let e = trace.1 in cc) in
    let g = goes_on lines later (Between 0) (subst (λ p. Follow later p lines AtEnd) is trace.2) tt in
    record { chain = g.chain; writes = g.writes }
