-- What is known behind the lines of a commit.
use Rattle.std.proofs.Common.{◌≡◌, ℕ, suc, ◌+◌, List, [], ◌∷◌, ◌++◌, length, map, Some, None, refl, sym, ap, ◌∙◌, arith, append_assoc, append-nil}
use Rattle.std.proofs.lemmas.Bool.{lt-ltb}
use Rattle.std.specs.List.{AllByRecursion}
use Rattle.rule_store.specs.declared.Command.{Command as Change}
use Rattle.rule_store.specs.declared.Command.TheVariants as change
use Rattle.tcam_device.specs.declared.Write.TheVariants as write
use Rattle.tcam_device.specs.declared.Action.{Action}
use Rattle.tcam_device.specs.declared.Action.TheVariants.{Written, Drained}
use Rattle.tcam_device.specs.Flight.{writes_in}
use Rattle.tcam_device.specs.State.{State, IsInUse, apply, state_after}
use Rattle.trace_file.specs.declared.TraceLine.{TraceLine}
use Rattle.trace_file.specs.declared.TraceLine.TheVariants as line
use Rattle.trace_check.specs.Hitless.{commits_in, trace_writes}
use Rattle.trace_check.specs.Orderly.{Tracing, traced_on, AllKeepOrder}
use Rattle.trace_check.specs.Places.{Changes, IsEvent, kind_of}
use Rattle.trace_check.specs.Segments.{action_line}
use Rattle.replay.specs.JsonLines.{change_line}

-- what is known behind some lines
abbrev pub traced_through : Tracing → List TraceLine → Tracing
traced_through now [] = now
traced_through now (first ∷ lines) = traced_through (traced_on now first) lines

pub keeps_append : (xs ys : List TraceLine) (now : Tracing) → AllKeepOrder now xs → AllKeepOrder (traced_through now xs) ys → AllKeepOrder now (xs ++ ys)
keeps_append [] ys now first second = second
keeps_append (x ∷ xs) ys now first second = (first.0, keeps_append xs ys (traced_on now x) first.1 second)

pub through_append : (xs ys : List TraceLine) (now : Tracing) → traced_through now (xs ++ ys) ≡ traced_through (traced_through now xs) ys
through_append [] ys now = refl
through_append (x ∷ xs) ys now = through_append xs ys (traced_on now x)

-- ---- the commands of a commit

pub keeps_commands : (batch : List Change) (now : Tracing) → AllKeepOrder now (map change_line batch)
keeps_commands [] now = tt
keeps_commands (change.Add rule ∷ batch) now = (tt, keeps_commands batch (traced_on now (line.Add rule)))
keeps_commands (change.Set priority answer ∷ batch) now = (tt, keeps_commands batch (traced_on now (line.Set priority answer)))
keeps_commands (change.Del priority ∷ batch) now = (tt, keeps_commands batch (traced_on now (line.Del priority)))

-- one command, and those behind it
onto_batch : (now : Tracing) (one : Change) (batch : List Change)
    → ◌≡◌ {A = Tracing} (record now { batch = (now.batch ++ one ∷ []) ++ batch }) (record now { batch = now.batch ++ one ∷ batch })
onto_batch now one batch = ap (λ (some : List Change). record now { batch = some }) (append_assoc now.batch (one ∷ []) batch)

pub through_commands : (batch : List Change) (now : Tracing) → traced_through now (map change_line batch) ≡ record now { batch = now.batch ++ batch }
through_commands [] now = ap (λ (some : List Change). record now { batch = some }) (sym (append-nil now.batch))
through_commands (change.Add rule ∷ batch) now = through_commands batch (traced_on now (line.Add rule)) ∙ onto_batch now (change.Add rule) batch
through_commands (change.Set priority answer ∷ batch) now = through_commands batch (traced_on now (line.Set priority answer)) ∙ onto_batch now (change.Set priority answer) batch
through_commands (change.Del priority ∷ batch) now = through_commands batch (traced_on now (line.Del priority)) ∙ onto_batch now (change.Del priority) batch

pub are_commands : (batch : List Change) → AllByRecursion (λ one. kind_of one ≡ Changes) (map change_line batch)
are_commands [] = tt
are_commands (change.Add rule ∷ batch) = (refl, are_commands batch)
are_commands (change.Set priority answer ∷ batch) = (refl, are_commands batch)
are_commands (change.Del priority ∷ batch) = (refl, are_commands batch)

pub command_count : (batch : List Change) → length (map change_line batch) ≡ length batch
command_count [] = refl
command_count (one ∷ batch) = ap suc (command_count batch)

-- ---- its events

pub are_events : (slots : ℕ) (actions : List Action) → AllByRecursion (IsInUse slots) (writes_in actions) → AllByRecursion (IsEvent slots) (map action_line actions)
are_events slots [] used = tt
are_events slots (Written (write.Slot at (Some entry)) ∷ actions) used = ((Some at, refl, lt-ltb at slots used.0), are_events slots actions used.1)
are_events slots (Written (write.Slot at None) ∷ actions) used = ((Some at, refl, lt-ltb at slots used.0), are_events slots actions used.1)
are_events slots (Written (write.Table field port word) ∷ actions) used = ((None, refl, refl), are_events slots actions used.1)
are_events slots (Drained ∷ actions) used = ((None, refl, refl), are_events slots actions used)

-- all but the device and the number of writes is as before, or stands in another trace
abbrev pub with_made : Tracing → State → ℕ → Tracing → Tracing
with_made now state writes rest =
    record rest {
      slots = now.slots;
      mode = now.mode;
      rules = now.rules;
      bits = now.bits;
      batch = now.batch;
      state = state;
      writes = writes;
    }

pub through_events : (actions : List Action) (now : Tracing)
    → (rest : Tracing) × (traced_through now (map action_line actions) ≡ with_made now (state_after now.state (writes_in actions)) (now.writes + length (writes_in actions)) rest)
through_events [] now = let none : now.writes ≡ now.writes + 0 = omega arith in (now, ap (λ (n : ℕ). record now { writes = n }) none)
through_events (Written (write.Slot at (Some entry)) ∷ actions) now =
    let later = through_events actions (traced_on now (line.Put at entry)) in
    let one : (now.writes + 1) + length (writes_in actions) ≡ now.writes + length (write.Slot at (Some entry) ∷ writes_in actions) = omega arith in
    (later.0, later.1 ∙ ap (λ (n : ℕ). with_made now (state_after (apply now.state (write.Slot at (Some entry))) (writes_in actions)) n later.0) one)
through_events (Written (write.Slot at None) ∷ actions) now =
    let later = through_events actions (traced_on now (line.Erase at)) in
    let one : (now.writes + 1) + length (writes_in actions) ≡ now.writes + length (write.Slot at None ∷ writes_in actions) = omega arith in
    (later.0, later.1 ∙ ap (λ (n : ℕ). with_made now (state_after (apply now.state (write.Slot at None)) (writes_in actions)) n later.0) one)
through_events (Written (write.Table field port word) ∷ actions) now =
    let later = through_events actions (traced_on now (line.Table field port word)) in
    let one : (now.writes + 1) + length (writes_in actions) ≡ now.writes + length (write.Table field port word ∷ writes_in actions) = omega arith in
    (later.0, later.1 ∙ ap (λ (n : ℕ). with_made now (state_after (apply now.state (write.Table field port word)) (writes_in actions)) n later.0) one)
through_events (Drained ∷ actions) now =
    let later = through_events actions (traced_on now line.Drain) in (later.0, later.1)

-- ---- the writes of some lines

pub writes-append : (xs ys : List TraceLine) → trace_writes (xs ++ ys) ≡ trace_writes xs ++ trace_writes ys
writes-append [] ys = refl
writes-append (line.Put slot entry ∷ xs) ys = ap (λ more. write.Slot slot (Some entry) ∷ more) (writes-append xs ys)
writes-append (line.Erase slot ∷ xs) ys = ap (λ more. write.Slot slot None ∷ more) (writes-append xs ys)
writes-append (line.Table field port word ∷ xs) ys = ap (λ more. write.Table field port word ∷ more) (writes-append xs ys)
writes-append (other ∷ xs) ys = writes-append xs ys

pub command_writes : (batch : List Change) → trace_writes (map change_line batch) ≡ []
command_writes [] = refl
command_writes (change.Add rule ∷ batch) = command_writes batch
command_writes (change.Set priority answer ∷ batch) = command_writes batch
command_writes (change.Del priority ∷ batch) = command_writes batch

pub event_writes : (actions : List Action) → trace_writes (map action_line actions) ≡ writes_in actions
event_writes [] = refl
event_writes (Written (write.Slot at (Some entry)) ∷ actions) = ap (λ more. write.Slot at (Some entry) ∷ more) (event_writes actions)
event_writes (Written (write.Slot at None) ∷ actions) = ap (λ more. write.Slot at None ∷ more) (event_writes actions)
event_writes (Written (write.Table field port word) ∷ actions) = ap (λ more. write.Table field port word ∷ more) (event_writes actions)
event_writes (Drained ∷ actions) = event_writes actions

-- ---- the commits that some lines finish

abbrev pub done_count : List TraceLine → ℕ
done_count [] = 0
done_count (line.Done n ∷ lines) = suc (done_count lines)
done_count (other ∷ lines) = done_count lines

pub commits-counted : (lines : List TraceLine) (now : Tracing) → length (commits_in now lines) ≡ done_count lines
commits-counted [] now = refl
commits-counted (line.Done n ∷ lines) now = ap suc (commits-counted lines (traced_on now (line.Done n)))
commits-counted (other ∷ lines) now = commits-counted lines (traced_on now other)

pub done-append : (xs ys : List TraceLine) → done_count (xs ++ ys) ≡ done_count xs + done_count ys
done-append [] ys = let none : done_count ys ≡ 0 + done_count ys = omega arith in none
done-append (line.Done n ∷ xs) ys = let later = done-append xs ys in let one : suc (done_count (xs ++ ys)) ≡ suc (done_count xs) + done_count ys = omega arith in one
done-append (other ∷ xs) ys = done-append xs ys

done-commands : (batch : List Change) → done_count (map change_line batch) ≡ 0
done-commands [] = refl
done-commands (change.Add rule ∷ batch) = done-commands batch
done-commands (change.Set priority answer ∷ batch) = done-commands batch
done-commands (change.Del priority ∷ batch) = done-commands batch

done-events : (actions : List Action) → done_count (map action_line actions) ≡ 0
done-events [] = refl
done-events (Written (write.Slot at (Some entry)) ∷ actions) = done-events actions
done-events (Written (write.Slot at None) ∷ actions) = done-events actions
done-events (Written (write.Table field port word) ∷ actions) = done-events actions
done-events (Drained ∷ actions) = done-events actions

-- a commit finishes one
pub done-commit : (batch : List Change) (actions : List Action) (number : ℕ) → done_count (map change_line batch ++ (map action_line actions ++ line.Done number ∷ [])) ≡ 1
done-commit batch actions number =
    let first = done-append (map change_line batch) (map action_line actions ++ line.Done number ∷ []) in
    let second = done-append (map action_line actions) (line.Done number ∷ []) in
    let none = done-commands batch in
    let events = done-events actions in
    let one : done_count (line.Done number ∷ []) ≡ 1 = refl in
    omega arith
