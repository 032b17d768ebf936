-- What a commit writes, behind all that it tells.
use Rattle.std.proofs.Common.{◌≡◌, ℕ, List, [], ◌∷◌, ◌++◌, length, map, take, ap, ◌∙◌, append-nil}
use Rattle.tcam_device.specs.declared.Write.{Write}
use Rattle.tcam_device.specs.declared.Action.{Action}
use Rattle.tcam_device.specs.declared.Action.TheVariants.{Written}
use Rattle.tcam_device.specs.Flight.{writes_in}
use Rattle.tcam_device.specs.State.{state_after}
use Rattle.commit_writes.specs.Actions.{have_bits, up_to_writes, with_drain}
use Rattle.commit_writes.specs.Undo.{undo_writes}
use Rattle.commit_writes.specs.Bits.{bits_with, new_bits}
use Rattle.commit_writes.proofs.WritesIn.{writes_of_commit, writes_of_map, writes_in-append}
use Rattle.replay.specs.Effects.{Setting, Prints, events_in, journal_of, flushed, probes_told, waiting_after}
use Rattle.readback.specs.Going.{needs_drain}
use Rattle.replay.specs.Run.{Progress, actions_back, actions_before, actions_for, actions_over, carried, carried_so_far, crash_state}
use Rattle.replay.proofs.course.Returning.{writes-up_to}
use Rattle.replay.proofs.lines.Effects.{events-append, events-flushed}
use Rattle.replay.proofs.lines.Opened.{events-so_far}

-- all that a commit does to the device are its actions
pub events-carried : (setting : Setting) (old : Progress) (actions : List Action) (line : List ℕ) → events_in (carried setting old actions ++ Prints line ∷ []) ≡ actions
events-carried setting old actions line =
    let front = carried_so_far setting old actions in
    let keys = probes_told setting.json old.probes in
    let number = length (writes_in actions) in
    let state = state_after old.state (writes_in actions) in
    let waiting = waiting_after setting.depth 0 actions in
    events-append (carried setting old actions) (Prints line ∷ []) ∙ append-nil (events_in (carried setting old actions))
    ∙ events-append front (flushed setting.family keys number state waiting)
    ∙ ap (λ more. events_in front ++ more) (events-flushed setting.family keys number state waiting)
    ∙ append-nil (events_in front) ∙ events-so_far setting old actions

-- so it writes its segment
pub written-segment : (setting : Setting) (old : Progress) (made : List Write) (line : List ℕ) → journal_of (carried setting old (actions_for setting old made) ++ Prints line ∷ []) ≡ made
written-segment setting old made line =
    ap writes_in (events-carried setting old (actions_for setting old made) line)
    ∙ writes_of_commit (have_bits (new_bits old.bits (bits_with setting.mode old.rules old.batch old.bits))) made

-- and one that is taken back its first writes, and those that undo them
pub written-return : (setting : Setting) (old : Progress) (most : ℕ) (made : List Write) (line : List ℕ)
    → journal_of (carried setting old (actions_back setting old most made) ++ Prints line ∷ []) ≡ take most made ++ undo_writes old.state (take most made)
written-return setting old most made line =
    let actions = actions_for setting old made in
    let front = up_to_writes most actions in
    let first : writes_in front ≡ take most made =
    writes-up_to most actions ∙ ap (take most) (writes_of_commit (have_bits (new_bits old.bits (bits_with setting.mode old.rules old.batch old.bits))) made) in
    ap writes_in (events-carried setting old (actions_back setting old most made) line)
    ∙ writes_in-append front (map Written (undo_writes old.state (writes_in front)))
    ∙ ap (λ writes. writes_in front ++ writes) (writes_of_map (undo_writes old.state (writes_in front)))
    ∙ ap (λ writes. writes ++ undo_writes old.state writes) first

-- and one that crashed those up to the crash, and then those of the plan that goes on
pub written-crash : (setting : Setting) (old : Progress) (after : ℕ) (made rest : List Write) (line : List ℕ)
    → journal_of (carried setting old (actions_over setting old after made rest) ++ Prints line ∷ []) ≡ take after made ++ rest
written-crash setting old after made rest line =
    let actions = actions_for setting old made in
    let front = actions_before setting old after made in
    let drains = needs_drain setting.mode old.bits old.rules old.batch (crash_state old after made) in
    let first : writes_in front ≡ take after made =
    writes-up_to after actions ∙ ap (take after) (writes_of_commit (have_bits (new_bits old.bits (bits_with setting.mode old.rules old.batch old.bits))) made) in
    ap writes_in (events-carried setting old (actions_over setting old after made rest) line)
    ∙ writes_in-append front (with_drain drains rest)
    ∙ ap (λ writes. writes_in front ++ writes) (writes_of_commit drains rest)
    ∙ ap (λ writes. writes ++ rest) first
