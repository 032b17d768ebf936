-- What is left in flight behind an act, by its answer.
use Rattle.std.proofs.Common.{Bool, ◌≡◌, ◌≢◌, ℕ, true, false, List, [], Option, Some, None, Result, Ok, Err, OnOk, refl, sym, ◌∙◌}
use Rattle.tcam_device.specs.declared.Action.{Action}
use Rattle.tcam_device.specs.Flight.{Flight}
use Rattle.batch_order.specs.Managed.{HeldCommit}
use Rattle.replay.specs.declared.Act.{Act}
use Rattle.replay.specs.declared.Act.TheVariants.{Command, Ask, All, Probe, Packet, Commit, Trial, Crash}
use Rattle.replay.specs.declared.ActFault.{ActFault}
use Rattle.replay.specs.declared.ActFault.TheVariants.{BatchFull, ChangesPending, ProbesFull, Held, Stopped}
use Rattle.replay.specs.declared.RunFault.TheVariants.{Sink, Device, Memory}
use Rattle.replay.specs.Fates.{AnswersBroken}
use Rattle.rule_model.specs.declared.IpVersion.{IpVersion}
use Rattle.replay.specs.Running.{Running, AreLeft, ComesTo, IsToldIn, NothingIsDone, LeavesWords}

-- none, where no commit is unfinished
none-left : (new : Running) (flight : Flight) (held : Option HeldCommit) → new.manager.held ≡ held → held ≡ None → flight ≡ [] → AreLeft new flight
none-left new flight None is none gone = rw is gone
none-left new flight (Some one) is none gone = absurd (cc)

-- those that the run left, also where it wasn't touched
same-left : (old new : Running) (flight_old flight_new : Flight) → new ≡ old → flight_new ≡ flight_old → AreLeft old flight_old → AreLeft new flight_new
same-left old new flight_old flight_new run flight left = rw (run, flight) left

pub words_left : (slots : ℕ) (old new : Running) (act : Act) (result : Result (Unit {0}) ActFault) (events_old events_new : List Action) (taken_old taken_new : Option (List ℕ))
    (flight_old flight_new : Flight) → result ≢ Err (Stopped Sink) → result ≢ Err (Stopped Memory) → ComesTo slots old act new result events_old events_new taken_old taken_new
    → OnOk result (new.manager.held ≡ None) → LeavesWords new result flight_old flight_new → AreLeft old flight_old → AreLeft new flight_new
words_left slots old new act (Ok done) events_old events_new taken_old taken_new flight_old flight_new sound kept comes idle leaves left =
    none-left new flight_new new.manager.held refl idle leaves
words_left slots old new act (Err (Stopped Sink)) events_old events_new taken_old taken_new flight_old flight_new sound kept comes idle leaves left = absurd (sound refl)
words_left slots old new act (Err (Stopped Device)) events_old events_new taken_old taken_new flight_old flight_new sound kept comes idle leaves left = leaves
words_left slots old new act (Err (Stopped Memory)) events_old events_new taken_old taken_new flight_old flight_new sound kept comes idle leaves left = absurd (kept refl)
words_left slots old new act (Err BatchFull) events_old events_new taken_old taken_new flight_old flight_new sound kept comes idle leaves left =
    same-left old new flight_old flight_new comes.run leaves left
words_left slots old new act (Err ChangesPending) events_old events_new taken_old taken_new flight_old flight_new sound kept comes idle leaves left =
    same-left old new flight_old flight_new comes.run leaves left
words_left slots old new act (Err ProbesFull) events_old events_new taken_old taken_new flight_old flight_new sound kept comes idle leaves left =
    same-left old new flight_old flight_new comes.run leaves left
words_left slots old new act (Err (Held more)) events_old events_new taken_old taken_new flight_old flight_new sound kept comes idle leaves left =
    same-left old new flight_old flight_new comes.run leaves left

-- no call may follow a failure of the sink, or want of memory at a crash
pub whole_left : (act : Act) (result : Result (Unit {0}) ActFault) (broken : Bool) → AnswersBroken act result broken → result ≢ Err (Stopped Sink) → result ≢ Err (Stopped Memory) → broken ≡ false
whole_left act (Ok done) broken broke sound kept = broke
whole_left act (Err (Stopped Sink)) broken broke sound kept = absurd (sound refl)
whole_left act (Err (Stopped Device)) broken broke sound kept = broke
whole_left act (Err (Stopped Memory)) broken broke sound kept = absurd (kept refl)
whole_left act (Err BatchFull) broken broke sound kept = broke
whole_left act (Err ChangesPending) broken broke sound kept = broke
whole_left act (Err ProbesFull) broken broke sound kept = broke
whole_left act (Err (Held more)) broken broke sound kept = broke

-- what comes of want of memory, by whether the manager was lost
abbrev WantsBy : Bool → Type 0 → Type 0 → Type 0
WantsBy broken Whole Lost = elim broken [ false ↦ Whole | true ↦ Lost ]

lost-where : (A B C : Type 0) (broken : Bool) → WantsBy broken (A × B) C → (B → ⊥) → broken ≡ true
lost-where A B C true wants never = refl
lost-where A B C false wants never = absurd (never wants.1)

-- it was, where something was done
pub lost_behind : (slots : ℕ) (old new : Running) (act : Act) (result : Result (Unit {0}) ActFault) (events_old events_new : List Action) (taken_old taken_new : Option (List ℕ))
    → result ≡ Err (Stopped Memory) → ComesTo slots old act new result events_old events_new taken_old taken_new → events_new ≢ events_old → new.broken ≡ true
lost_behind slots old new act result events_old events_new taken_old taken_new wants comes done =
    lost-where _ _ _ new.broken (rw wants at comes) (λ (same : NothingIsDone old new events_old events_new taken_old taken_new). done same.events)

-- a run whose report is in words takes any act
pub told_words : (json : Bool) (version : IpVersion) (act : Act) → json ≡ false → IsToldIn json version act
told_words json version (Command change) words = λ is. let bad : true ≡ false = sym is ∙ words in absurd (cc)
told_words json version (Ask request) words = λ is. let bad : true ≡ false = sym is ∙ words in absurd (cc)
told_words json version All words = tt
told_words json version (Probe key) words = tt
told_words json version (Packet key) words = tt
told_words json version Commit words = tt
told_words json version (Trial most) words = words
told_words json version (Crash after) words = words
