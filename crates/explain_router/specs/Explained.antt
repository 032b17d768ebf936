-- What an explanation of a router's script finds, by the script that its bytes are to a run.
use Rattle.std.specs.Prelude.{◌≡◌, ◌≢◌, ◌≤◌, ◌+◌, ℕ, Bool, true, false, Result, Ok, Err, Option, Some, None, IfNone, IfSome, List, []}
use Rattle.script_lines.specs.Given.{HasEnd, MayGive}
use Rattle.script_lines.specs.Reader.{HeldBytes}
use Rattle.script_lines.specs.declared.Over.TheVariants as over
use Rattle.script_runs.specs.declared.Status.{Status}
use Rattle.script_runs.specs.declared.Status.TheVariants as status
use Rattle.script_runs.specs.Script.{NumberedAct, Script, Whole, script_of}
use Rattle.script_runs.specs.Rounds.{IsReadSoFar}
use Rattle.slot_order.specs.Order.{most_slots}
use Rattle.report_lines.specs.Sizes.{sizes_by}
use Rattle.router.specs.declared.RouterAct.{RouterAct}
use Rattle.router.specs.Script.{Pending, limit_fault}
use Rattle.router_reader.specs.Readings.{router_reading}
use Rattle.router_runs.specs.Scripts.{both_pending_after, router_scripts}
use Rattle.explain_router.specs.declared.Counts.{Counts}
use Rattle.explain_router.specs.declared.RouterWanted.{RouterWanted}

-- the script that some bytes are to a router
abbrev pub script_for : RouterWanted → List ℕ → Script RouterAct
script_for wanted bytes = script_of (router_scripts (sizes_by wanted.large) (router_reading wanted.version)) bytes

-- A status is right of a source that had these bytes to give and has those left: Done where no line is at fault, and then the
-- input was read to its end; Script where one is.
abbrev pub IsRightOf : RouterWanted → List ℕ → List ℕ → Status → Type 0
IsRightOf wanted bytes after status.Done = (after ≡ []) × ((script_for wanted bytes).last ≡ Whole)
IsRightOf wanted bytes after status.Script = (script_for wanted bytes).last ≢ Whole
IsRightOf wanted bytes after status.ReadFault = Unit {0}
IsRightOf wanted bytes after status.WriteFault = Unit {0}
IsRightOf wanted bytes after status.Memory = Unit {0}
IsRightOf wanted bytes after status.Refused = ⊥
IsRightOf wanted bytes after status.DeviceFault = ⊥
IsRightOf wanted bytes after status.Usage = ⊥

-- what is counted of the changes so far
abbrev pub pending_in : Counts → Pending
pending_in counts = record { listed = counts.listed; routed = counts.routed }

-- no more changes than any batch has room for
abbrev pub AreFew : Counts → Type 0
AreFew counts = (counts.listed ≤ most_slots) × (counts.routed ≤ most_slots)

-- behind a line at fault
abbrev pub faulted : Counts → Counts
faulted counts = record counts { wrong = true }

-- how many changes of a table are pending behind one more, and whether something is wrong, by the fault of one for which there is
-- no room
abbrev pub behind_change : Option (List ℕ) → ℕ → Bool → ℕ × Bool
behind_change (Some text) pending wrong = (pending, true)
behind_change None pending wrong = (pending + 1, wrong)

-- behind an act, by the fault of one for which there is no room
abbrev pub behind_act : Counts → RouterAct → Option (List ℕ) → Counts
behind_act counts act (Some text) = faulted counts
behind_act counts act None =
    let pending = both_pending_after act (pending_in counts) in
    record counts { listed = pending.listed; routed = pending.routed }

-- behind a line, by what it reads as, where so many changes may wait; behind a line at fault nothing is counted
abbrev pub behind_line_by : ℕ → Bool → Result (Option RouterAct) (List ℕ) → Counts → Counts
behind_line_by most wrong (Err text) counts = faulted counts
behind_line_by most wrong (Ok None) counts = counts
behind_line_by most true (Ok (Some act)) counts = counts
behind_line_by most false (Ok (Some act)) counts = behind_act counts act (limit_fault most act (pending_in counts))

-- Behind a line, by what it reads as.
abbrev pub behind_line : ℕ → Result (Option RouterAct) (List ℕ) → Counts → Counts
behind_line most read counts = behind_line_by most counts.wrong read counts

-- the acts so far, of which none is at fault, and what is read of the script
pub record IsFaultless (wanted : RouterWanted) (bytes : List ℕ) (held : HeldBytes) (left : List ℕ) (counts : Counts) : Type 0 where
  pub acts : List (NumberedAct RouterAct)
  pub read : IsReadSoFar held.over (router_scripts (sizes_by wanted.large) (router_reading wanted.version)) bytes held left acts (pending_in counts)

-- where an explanation stands in a script, by whether a line is at fault
abbrev pub IsStandingBy : Bool → RouterWanted → List ℕ → HeldBytes → List ℕ → Counts → Type 0
IsStandingBy false wanted bytes held left counts = IsFaultless wanted bytes held left counts
IsStandingBy true wanted bytes held left counts = (script_for wanted bytes).last ≢ Whole

abbrev pub IsStanding : RouterWanted → List ℕ → HeldBytes → List ℕ → Counts → Type 0
IsStanding wanted bytes held left counts = IsStandingBy counts.wrong wanted bytes held left counts

-- What a round comes to whose source gave these pieces.
pub record RoundsBy (wanted : RouterWanted) (old : HeldBytes) (before : Counts) (pieces : List (List ℕ)) (result : Option Status) (new : HeldBytes) (after : Counts) : Type 0 where
  pub goes : IfNone result ((bytes left now : List ℕ) → MayGive left pieces now → IsStanding wanted bytes old left before → IsStanding wanted bytes new now after)
  pub ends : IfSome result (λ status. (bytes left now : List ℕ) → MayGive left pieces now → IsStanding wanted bytes old left before → IsRightOf wanted bytes now status)
  pub ended : HasEnd pieces → IfNone result (new.over ≡ over.Ended)
  pub rests : old.over ≢ over.Going → pieces ≡ []
