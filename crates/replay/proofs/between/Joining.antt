-- What a change leaves that joins what is pending, or doesn't.
use Rattle.std.proofs.Common.{◌≡◌, None, List, [], Result, Ok, Err, OnOk, OnErr, ap, sym, ◌∙◌, subst}
use Rattle.rule_store.specs.declared.Command.{Command as Change}
use Rattle.rule_store.specs.declared.PushFault.{PushFault}
use Rattle.settled_changes.specs.declared.Request.{Request}
use Rattle.settled_changes.specs.declared.requested.Requested.{Requested}
use Rattle.settled_changes.specs.declared.requested.Requested.TheVariants.{Whole}
use Rattle.settled_changes.specs.Requested.{asked_behind, asked_with, batch_behind, batch_with, strict_form}
use Rattle.replay.specs.Running.{IsChangeOf, IsRun, Running}
use Rattle.replay.proofs.between.Runs.{asked-run, joined-run, pushed-run}

-- whether it joined or not the run is one
by-answer : (result : Result (Unit {0}) PushFault) (run : Running) (pending : List Change) (asked : Requested) (pending_new : List Change) (asked_new : Requested) → IsRun run
    → IsRun (record run { pending = pending; asked = asked }) → OnOk result ((pending_new ≡ pending) × (asked_new ≡ asked)) → OnErr result ((pending_new ≡ run.pending) × (asked_new ≡ run.asked))
    → IsRun (record run { pending = pending_new; asked = asked_new })
by-answer (Ok done) run pending asked pending_new asked_new before is joined same =
    subst (λ (some : List Change). IsRun (record run { pending = some; asked = asked_new })) (sym joined.0)
    (subst (λ (some : Requested). IsRun (record run { pending = pending; asked = some })) (sym joined.1) is)
by-answer (Err why) run pending asked pending_new asked_new before is joined same =
    subst (λ (some : List Change). IsRun (record run { pending = some; asked = asked_new })) (sym same.0)
    (subst (λ (some : Requested). IsRun (record run { asked = some })) (sym same.1) before)

pub run-pushed : (result : Result (Unit {0}) PushFault) (run : Running) (change : Change) (pending_new : List Change) (asked_new : Requested) → IsRun run → run.manager.held ≡ None → IsChangeOf run.family change
    → OnOk result ((pending_new ≡ batch_with run.pending run.asked change) × (asked_new ≡ asked_with run.asked change)) → OnErr result ((pending_new ≡ run.pending) × (asked_new ≡ run.asked))
    → IsRun (record run { pending = pending_new; asked = asked_new })
run-pushed result run change pending_new asked_new is none change_is joined same =
    by-answer result run (batch_with run.pending run.asked change) (asked_with run.asked change) pending_new asked_new is (pushed-run run change is none change_is) joined same

pub run-asked : (result : Result (Unit {0}) PushFault) (run : Running) (request : Request) (pending_new : List Change) (asked_new : Requested) → IsRun run → run.manager.held ≡ None → IsChangeOf run.family (strict_form request)
    → OnOk result ((pending_new ≡ batch_behind run.pending run.asked) × (asked_new ≡ asked_behind run.pending run.asked request)) → OnErr result ((pending_new ≡ run.pending) × (asked_new ≡ run.asked))
    → IsRun (record run { pending = pending_new; asked = asked_new })
run-asked result run request pending_new asked_new is none change_is joined same =
    by-answer result run (batch_behind run.pending run.asked) (asked_behind run.pending run.asked request) pending_new asked_new is (asked-run run request is none change_is) joined same

-- a whole new set that is begun
pub run-whole : (run : Running) (pending_new : List Change) (asked_new : Requested) → IsRun run → run.manager.held ≡ None → pending_new ≡ [] → asked_new ≡ Whole []
    → IsRun (record run { pending = pending_new; asked = asked_new })
run-whole run pending_new asked_new is none pending_is asked_is =
    subst (λ (some : List Change). IsRun (record run { pending = some; asked = asked_new })) (sym pending_is)
    (subst (λ (some : Requested). IsRun (record run { pending = []; asked = some })) (sym asked_is) (joined-run run [] (Whole []) is none (λ version route. (tt, tt))))

-- the run that is seen
pub joined-is : {inside run : Running} (pending : Running → List Change) (asked : Running → Requested) (pending_new : List Change) (asked_new : Requested) → inside ≡ run
    → pending_new ≡ pending inside → asked_new ≡ asked inside → record inside { pending = pending_new; asked = asked_new } ≡ record run { pending = pending run; asked = asked run }
joined-is {inside = inside} pending asked pending_new asked_new inside_is pending_is asked_is =
    subst (λ (r : Running). record inside { pending = pending_new; asked = asked_new } ≡ record r { pending = pending r; asked = asked r }) inside_is
    (ap (λ (some : List Change). record inside { pending = some; asked = asked_new }) pending_is ∙ ap (λ (some : Requested). record inside { pending = pending inside; asked = some }) asked_is)
