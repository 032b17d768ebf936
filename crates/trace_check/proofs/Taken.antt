-- Lines that a checker takes are an orderly trace, and none of an orderly trace is refused.
use Rattle.std.proofs.Common.{◌≡◌, ◌+◌, List, [], ◌∷◌, ◌++◌, length, Some, None, refl, sym, ◌∙◌, subst, ap, arith}
use Rattle.trace_file.specs.declared.TraceLine.{TraceLine}
use Rattle.trace_file.specs.declared.TraceLine.TheVariants.{Head, Commit, Add, Set, Del, Put, Erase, Table, Drain, Done, Refused, End, Fault}
use Rattle.trace_check.specs.declared.CheckFault.{CheckFault}
use Rattle.trace_check.specs.declared.CheckFault.TheVariants.{Misplaced, Unordered, Memory}
use Rattle.trace_check.specs.declared.places.Place.{Place}
use Rattle.trace_check.specs.declared.places.Place.TheVariants.{AtStart, AtEnd}
use Rattle.trace_check.specs.Places.{kind_of, place_after}
use Rattle.trace_check.specs.Orderly.{Tracing, untraced, traced_on, Keeps, AllKeepOrder, Follow, IsTrace}
use Rattle.trace_check.specs.Hitless.{commits_in, trace_writes}
use Rattle.trace_check.specs.Checked.{Checked, without_made, nothing_checked, RefusesLine, TakesAll, TakenTracesAreHitless, OrderlyTracesAreTaken}
use Rattle.trace_check.proofs.AnyMode.{orderly_hitless}
use Rattle.trace_check.proofs.Yes.{IsCounted, counted, more_on}

-- a line is judged by what is known without the writes of the commit under way
pub keeps_on : (now : Tracing) (line : TraceLine) → Keeps (without_made now) line → Keeps now line
keeps_on now (Head version acl bits slots) k = tt
keeps_on now (Commit n) k = tt
keeps_on now (Add rule) k = tt
keeps_on now (Set priority answer) k = tt
keeps_on now (Del priority) k = tt
keeps_on now (Put slot entry) k = (record { taken = k.0.taken; stage = k.0.stage }, k.1)
keeps_on now (Erase slot) k = record { taken = k.taken; stage = k.stage }
keeps_on now (Table field port word) k = (record { taken = k.0.taken; stage = k.0.stage }, k.1)
keeps_on now Drain k = record { taken = k.taken; stage = k.stage }
keeps_on now (Done n) k = (record { taken = k.0.taken; stage = k.0.stage }, record { done = k.1.done; ended = k.1.ended; alone = k.1.alone })
keeps_on now (Refused n) k = tt
keeps_on now (End writes) k = k
keeps_on now (Fault line) k = tt

pub keeps_back : (now : Tracing) (line : TraceLine) → Keeps now line → Keeps (without_made now) line
keeps_back now (Head version acl bits slots) k = tt
keeps_back now (Commit n) k = tt
keeps_back now (Add rule) k = tt
keeps_back now (Set priority answer) k = tt
keeps_back now (Del priority) k = tt
keeps_back now (Put slot entry) k = (record { taken = k.0.taken; stage = k.0.stage }, k.1)
keeps_back now (Erase slot) k = record { taken = k.taken; stage = k.stage }
keeps_back now (Table field port word) k = (record { taken = k.0.taken; stage = k.0.stage }, k.1)
keeps_back now Drain k = record { taken = k.taken; stage = k.stage }
keeps_back now (Done n) k = (record { taken = k.0.taken; stage = k.0.stage }, record { done = k.1.done; ended = k.1.ended; alone = k.1.alone })
keeps_back now (Refused n) k = tt
keeps_back now (End writes) k = k
keeps_back now (Fault line) k = tt

-- and so is the next one
pub same_on : (now : Tracing) (line : TraceLine) → without_made (traced_on (without_made now) line) ≡ without_made (traced_on now line)
same_on now (Head version acl bits slots) = refl
same_on now (Commit n) = refl
same_on now (Add rule) = refl
same_on now (Set priority answer) = refl
same_on now (Del priority) = refl
same_on now (Put slot entry) = refl
same_on now (Erase slot) = refl
same_on now (Table field port word) = refl
same_on now Drain = refl
same_on now (Done n) = refl
same_on now (Refused n) = refl
same_on now (End writes) = refl
same_on now (Fault line) = refl

-- what was taken from a place on
record WereTaken (place : Place) (now : Tracing) (lines : List TraceLine) (end : Checked) : Type 0 where
  follow : Follow now place lines end.place
  keeps : AllKeepOrder now lines
  commits : end.now.accepted ≡ now.accepted + length (commits_in now lines)
  writes : end.now.writes ≡ now.writes + length (trace_writes lines)

taken : (lines : List TraceLine) (check : Checked) (now : Tracing) (end : Checked) → check.now ≡ without_made now → IsCounted check.place now → TakesAll check lines end → WereTaken check.place now lines end
taken [] check now end same start all = record {
  follow = ap (λ (c : Checked). c.place) all;
  keeps = tt;
  commits = (let e = ap (λ (c : Checked). c.now.accepted) (sym all) ∙ ap (λ (t : Tracing). t.accepted) same in omega arith);
  writes = (let e = ap (λ (c : Checked). c.now.writes) (sym all) ∙ ap (λ (t : Tracing). t.writes) same in omega arith);
}
taken (line ∷ lines) check now end same start (next, takes, all) =
    let there : place_after now.slots check.place line ≡ Some next.place = subst (λ (t : Tracing). place_after t.slots check.place line ≡ Some next.place) same takes.may_stand in
    let kept : Keeps now line = keeps_on now line (subst (λ (t : Tracing). Keeps t line) same takes.keeps) in
    let later : next.now ≡ without_made (traced_on now line) = takes.knows ∙ (ap (λ (t : Tracing). without_made (traced_on t line)) same ∙ same_on now line) in
    let rest = taken lines next (traced_on now line) end later (counted now.slots (kind_of line) check.place next.place (traced_on now line) there) all in
    let more = more_on now line lines check.place next.place start there in
    let commits_more = more.commits_more in
    let writes_more = more.writes_more in
    let c = rest.commits in
    let w = rest.writes in
    record { follow = (next.place, there, rest.follow); keeps = (kept, rest.keeps); commits = omega arith; writes = omega arith }

pub taken_traces_are_hitless : TakenTracesAreHitless
taken_traces_are_hitless lines end are all last =
    let t = taken lines nothing_checked untraced end refl (refl, refl) all in
    let follow : IsTrace lines = subst (Follow untraced AtStart lines) last t.follow in
    record {
      trace = follow;
      orderly = t.keeps;
      hitless = orderly_hitless lines are follow t.keeps;
      commits = t.commits ∙ (let e : 0 + length (commits_in untraced lines) ≡ length (commits_in untraced lines) = omega arith in e);
      writes = t.writes ∙ (let e : 0 + length (trace_writes lines) ≡ length (trace_writes lines) = omega arith in e);
    }

-- the next line of an orderly trace may stand and keeps the order
next_line : (lines : List TraceLine) (line : TraceLine) (later : List TraceLine) (check : Checked) (now : Tracing) (end : Checked) (fault : CheckFault) (last : Place)
    → check.now ≡ without_made now → TakesAll check lines end → Follow now check.place (lines ++ line ∷ later) last → AllKeepOrder now (lines ++ line ∷ later)
    → RefusesLine end line fault → fault ≡ Memory
next_line [] line later check now end fault last same all follow keeps refused =
    refused_for fault (subst (λ (c : Checked). RefusesLine c line fault) (sym all) refused)
  where
    there : place_after check.now.slots check.place line ≡ Some follow.0
    there = subst (λ (t : Tracing). place_after t.slots check.place line ≡ Some follow.0) (sym same) follow.1

    refused_for : (fault : CheckFault) → RefusesLine check line fault → fault ≡ Memory
    refused_for Misplaced none = absurd (let bad : Some follow.0 ≡ None = sym there ∙ none in cc)
    refused_for Unordered broken = absurd (broken.1 (subst (λ (t : Tracing). Keeps t line) (sym same) (keeps_back now line keeps.0)))
    refused_for Memory tt = refl
next_line (first ∷ lines) line later check now end fault last same (next, takes, all) follow keeps refused =
    let there : place_after now.slots check.place first ≡ Some next.place = subst (λ (t : Tracing). place_after t.slots check.place first ≡ Some next.place) same takes.may_stand in
    let place : follow.0 ≡ next.place = (let e : Some follow.0 ≡ Some next.place = sym follow.1 ∙ there in cc) in
    next_line lines line later next (traced_on now first) end fault last
    (takes.knows ∙ (ap (λ (t : Tracing). without_made (traced_on t first)) same ∙ same_on now first)) all
    (subst (λ p. Follow (traced_on now first) p (lines ++ line ∷ later) last) place follow.2) keeps.1 refused

pub orderly_traces_are_taken : OrderlyTracesAreTaken
orderly_traces_are_taken lines line later check fault all trace orderly refused =
    next_line lines line later nothing_checked untraced check fault AtEnd refl all trace orderly refused
