-- The words in flight that a call leaves, by its answer.
use Rattle.std.proofs.Common.{Bool, true, false, ◌≡◌, ◌⊎◌, inl, inr, ℕ, ◌+◌, ◌≤◌, min, List, [], ◌∷◌, Option, Some, None, IsSome, Result, Ok, Err, refl, sym, ap, ◌∙◌, subst, arith}
use Rattle.std.specs.Prelude.{◌||◌}
use Rattle.rule_model.specs.declared.Key.{Key}
use Rattle.tcam_device.specs.declared.Action.{Action}
use Rattle.tcam_device.specs.declared.Action.TheVariants.{Written, Drained}
use Rattle.tcam_device.specs.Flight.{Flight}
use Rattle.batch_order.specs.Managed.{HeldCommit, Managed}
use Rattle.replay.specs.declared.watch.Count.{Count}
use Rattle.replay.specs.declared.fate.Fate.{Fate}
use Rattle.replay.specs.declared.ActFault.{ActFault}
use Rattle.replay.specs.declared.ActFault.TheVariants.{BatchFull, ChangesPending, ProbesFull, Held, Stopped}
use Rattle.replay.specs.declared.RunFault.{RunFault}
use Rattle.replay.specs.declared.RunFault.TheVariants as fault
use Rattle.replay.specs.declared.fate.Fate.TheVariants as fates
use Rattle.replay.specs.declared.fate.Then.{Then}
use Rattle.replay.specs.Crashing.{IsTurned}
use Rattle.replay.specs.Effects.{waiting_after, probes_told}
use Rattle.replay.specs.InFlight.{AreOf}
use Rattle.replay.specs.Running.{Running, IsHalfway, IsRun, AreLeft, LeavesWords, sink_failed}

-- no more words wait than a depth of writes has
pub waiting-most : (depth waiting : ℕ) (actions : List Action) → waiting ≤ depth → waiting_after depth waiting actions ≤ depth
waiting-most depth waiting [] fate = fate
waiting-most depth waiting (Written write ∷ actions) most = waiting-most depth (min (waiting + 1) depth) actions (omega arith)
waiting-most depth waiting (Drained ∷ actions) most = waiting-most depth 0 actions (omega arith)

pub few-waiting : (run : Running) → IsHalfway run → run.waiting ≤ run.depth
few-waiting run half =
    let most = waiting-most run.depth 0 half.some.made (omega arith) in
    subst (λ waiting. waiting ≤ run.depth) (sym half.waiting) most

-- the words that a run left, by the commit that it holds
abbrev pub IsLeft : Option HeldCommit → List Key → ℕ → Flight → Type 0
IsLeft held probes waiting flight = elim held [ None ↦ flight ≡ [] | Some one ↦ AreOf probes waiting flight ]

-- while a commit is unfinished they are those of its last writes
left-by : (held : Option HeldCommit) (probes : List Key) (waiting : ℕ) (flight : Flight) → IsSome held
    → IsLeft held probes waiting flight → AreOf probes waiting flight
left-by None probes waiting flight some left = absurd (cc)
left-by (Some one) probes waiting flight some left = left

pub are-of-left : (run : Running) (flight : Flight) → IsSome run.manager.held → AreLeft run flight → AreOf (probes_told run.json run.probes) run.waiting flight
are-of-left run flight some left = left-by run.manager.held (probes_told run.json run.probes) run.waiting flight some left

left-from : (held : Option HeldCommit) (probes : List Key) (waiting : ℕ) (flight : Flight) → IsSome held → AreOf probes waiting flight
    → IsLeft held probes waiting flight
left-from None probes waiting flight some are = absurd (cc)
left-from (Some one) probes waiting flight some are = are

pub left-of : (run : Running) (flight : Flight) → IsSome run.manager.held → AreOf (probes_told run.json run.probes) run.waiting flight → AreLeft run flight
left-of run flight some are = left-from run.manager.held (probes_told run.json run.probes) run.waiting flight some are

-- and there is none where none of them waits
none-by : (held : Option HeldCommit) (probes : List Key) (waiting : ℕ) (flight : Flight) → waiting ≡ 0 → flight ≡ []
    → IsLeft held probes waiting flight
none-by None probes waiting flight zero none = none
none-by (Some one) probes waiting flight zero none = subst (λ n. AreOf probes n flight) (sym zero) (subst (AreOf probes 0) (sym none) refl)

pub left-none : (run : Running) (flight : Flight) → run.waiting ≡ 0 → flight ≡ [] → AreLeft run flight
left-none run flight zero none = none-by run.manager.held (probes_told run.json run.probes) run.waiting flight zero none

none-left : (held : Option HeldCommit) (probes : List Key) (waiting : ℕ) (flight : Flight) → held ≡ None
    → IsLeft held probes waiting flight → flight ≡ []
none-left None probes waiting flight idle left = left
none-left (Some one) probes waiting flight idle left = absurd (cc)

pub none-of-left : (run : Running) (flight : Flight) → run.manager.held ≡ None → AreLeft run flight → flight ≡ []
none-of-left run flight idle left = none-left run.manager.held (probes_told run.json run.probes) run.waiting flight idle left

-- a call that touched none, and didn't fail by a write
pub words-kept : (new : Running) (result : Result (Unit {0}) ActFault) (flight_old flight_new : Flight) → flight_new ≡ flight_old → flight_old ≡ [] → (result ≡ Err (Stopped fault.Device) → ⊥)
    → LeavesWords new result flight_old flight_new
words-kept new (Ok done) flight_old flight_new same none never = same ∙ none
words-kept new (Err (Stopped fault.Sink)) flight_old flight_new same none never = tt
words-kept new (Err (Stopped fault.Device)) flight_old flight_new same none never = absurd (never refl)
words-kept new (Err (Stopped fault.Memory)) flight_old flight_new same none never = λ whole. same
words-kept new (Err BatchFull) flight_old flight_new same none never = same
words-kept new (Err ChangesPending) flight_old flight_new same none never = same
words-kept new (Err ProbesFull) flight_old flight_new same none never = same
words-kept new (Err (Held left)) flight_old flight_new same none never = same

unbroken : (broken : Bool) → (broken || false) ≡ false → broken ≡ false
unbroken true none = absurd (cc)
unbroken false none = refl

-- whether the sink failed makes no difference
pub words-marked : (mid new : Running) (result : Result (Unit {0}) ActFault) (flight_old flight_new : Flight) → new ≡ record mid { broken = mid.broken || sink_failed result } → LeavesWords mid result flight_old flight_new
    → LeavesWords new result flight_old flight_new
words-marked mid new (Ok done) flight_old flight_new is left = left
words-marked mid new (Err (Stopped fault.Sink)) flight_old flight_new is left = tt
words-marked mid new (Err (Stopped fault.Device)) flight_old flight_new is left = subst (λ (run : Running). AreLeft run flight_new) (sym is) left
words-marked mid new (Err (Stopped fault.Memory)) flight_old flight_new is left = λ whole. left (unbroken mid.broken (sym (ap (λ (run : Running). run.broken) is) ∙ whole))
words-marked mid new (Err BatchFull) flight_old flight_new is left = left
words-marked mid new (Err ChangesPending) flight_old flight_new is left = left
words-marked mid new (Err ProbesFull) flight_old flight_new is left = left
words-marked mid new (Err (Held left_number)) flight_old flight_new is left = left

-- a commit that was cut
pub words-cut : (new : Running) (why : RunFault) (flight_old flight_new : Flight) → ((why ≡ fault.Sink) ⊎ (why ≡ fault.Device)) → (why ≡ fault.Device → AreLeft new flight_new)
    → LeavesWords new (Err (Stopped why)) flight_old flight_new
words-cut new why flight_old flight_new (inl sink) left = subst (λ one. LeavesWords new (Err (Stopped one)) flight_old flight_new) (sym sink) tt
words-cut new why flight_old flight_new (inr device) left = subst (λ one. LeavesWords new (Err (Stopped one)) flight_old flight_new) (sym device) (left device)

-- a commit of which some is left, and the words of the last writes
pub words-stopped : (new : Running) (why : RunFault) (flight_old flight_new : Flight) → ((why ≡ fault.Sink) ⊎ (why ≡ fault.Device)) → IsSome new.manager.held
    → (why ≡ fault.Device → AreOf (probes_told new.json new.probes) new.waiting flight_new) → LeavesWords new (Err (Stopped why)) flight_old flight_new
words-stopped new why flight_old flight_new kind held are = words-cut new why flight_old flight_new kind (λ device. left-of new flight_new held (are device))

-- the same by what the run held before
pub words-cut_run : (inside : Running) (now : Managed) (count : Count) (why : RunFault) (flight_old flight_new : Flight) → IsRun inside → ((why ≡ fault.Sink) ⊎ (why ≡ fault.Device)) → IsSome now.held
    → (why ≡ fault.Device → AreOf (probes_told inside.json inside.probes) count.waiting flight_new) → LeavesWords (record inside { manager = now; told = count.told; waiting = count.waiting }) (Err (Stopped why)) flight_old flight_new
words-cut_run inside now count why flight_old flight_new is kind held are =
    words-stopped (record inside { manager = now; told = count.told; waiting = count.waiting }) why flight_old flight_new kind held are

-- none is in flight as a commit is taken
pub left-taken : (inside : Running) (manager : Managed) (fate : Fate) (flight : Flight) → IsRun inside → inside.manager.held ≡ None → flight ≡ [] → AreLeft (record inside { manager = manager; fate = fate }) flight
left-taken inside manager fate flight is idle none = left-none (record inside { manager = manager; fate = fate }) flight (is.idle idle).1 none

-- whoever goes on with a commit has the words that were in flight
pub left-gone : (after : ℕ) (then : Then) (old new : Running) (flight flight_new : Flight) → IsTurned after then old new → IsSome old.manager.held → AreLeft old flight → flight_new ≡ flight → AreLeft new flight_new
left-gone after then old new flight flight_new gone held left kept =
    subst (AreLeft new) (sym kept)
    (subst (λ (run : Running). AreLeft run flight) (sym gone.2)
    (left-of (record old { manager = gone.0; fate = fates.Turned after then }) flight gone.1 (are-of-left old flight held left)))

-- whatever was in flight before, where it was left to the call
pub words-from : (new : Running) (result : Result (Unit {0}) ActFault) (flight flight_old flight_new : Flight) → flight ≡ flight_old → LeavesWords new result flight flight_new → LeavesWords new result flight_old flight_new
words-from new result flight flight_old flight_new same left = subst (λ before. LeavesWords new result before flight_new) same left
