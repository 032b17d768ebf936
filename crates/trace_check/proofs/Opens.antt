-- The commit under way, as it is handed out.
use Rattle.std.proofs.Common.{◌≡◌, Option, Some, None, Result, Ok, Err, IfOk, IsFalse, Contains, inl, inr, sym, ◌∙◌, subst}
use Rattle.std.specs.List.{AllByRecursion}
use Rattle.rule_store.specs.Batch.{ChangesRules}
use Rattle.rule_store.specs.Verdict.{Accepted, verdict}
use Rattle.readback.specs.Tasks.{CommitPieces}
use Rattle.trace_check.specs.declared.CheckFault.{CheckFault}
use Rattle.trace_check.specs.declared.commit.Commit.{Commit}
use Rattle.trace_check.specs.declared.trace.Trace.{Trace}
use Rattle.trace_check.specs.Kept.{IsCommitOf, IsJustBegun, MayJudge, device_state}
use Rattle.trace_check.specs.Traced.{IsOpen, IsOpened, IsTraceSized, Rests}
use Rattle.trace_check.proofs.BegunKept.{kept_begun, none_put}
use Rattle.trace_check.proofs.PlacedEntries.{entries_size}
use Rattle.trace_check.proofs.SlotsBegun.{may_judge}

-- one that was judged is what is kept,
pub opened_held : (trace : Trace) (commit : Commit) (rest : Option Commit) → trace.commit ≡ Some commit → IsOpen trace → IsOpened (record trace { commit = rest }) commit
opened_held trace commit rest is (inl none) = absurd (let bad : None ≡ Some commit = sym none.0 ∙ is in cc)
opened_held trace commit rest is (inr held) =
    let one : held.0 ≡ commit = (let k : Some held.0 ≡ Some commit = sym held.1 ∙ is in cc) in
    subst (IsOpened (record trace { commit = rest })) one (record { kept = held.2.kept; unmoved = held.2.unmoved })

-- and before it is judged the set is at rest
pub rests_of : (trace : Trace) → trace.commit ≡ None → IsOpen trace → Rests trace × IsFalse trace.moved
rests_of trace none (inl running) = (running.1, running.2)
rests_of trace none (inr held) = absurd (let bad : None ≡ Some held.0 = sym none ∙ held.1 in cc)

pub judged : (trace : Trace) → trace.commit ≡ None → IsOpen trace → AllByRecursion ChangesRules trace.batch → verdict trace.slots trace.mode trace.rules.rules trace.batch ≡ Accepted
    → MayJudge trace.mode trace.bits trace.rules.rules trace.batch
judged trace none running changes accepted =
    may_judge trace.slots trace.mode trace.bits trace.rules.rules trace.batch (device_state trace.device) (rests_of trace none running).0.at_rest changes accepted

-- so a commit that begins is right
pub begun_opens : (trace : Trace) (rest : Option Commit) (result : Result Commit CheckFault) → IsTraceSized trace → trace.commit ≡ None → IsOpen trace
    → IfOk result (λ (commit : Commit). verdict trace.slots trace.mode trace.rules.rules trace.batch ≡ Accepted) → IfOk result (λ (commit : Commit). IsCommitOf trace.mode trace.bits trace.rules.rules trace.batch commit)
    → IfOk result IsJustBegun → IfOk result (IsOpened (record trace { commit = rest }))
begun_opens trace rest (Err fault) sized none running accepted is untouched = tt
begun_opens trace rest (Ok commit) sized none running accepted is untouched =
    let rests = (rests_of trace none running).0 in
    let size = sym (entries_size trace.device.places) ∙ sized.size in
    record {
      kept = kept_begun trace.slots trace.mode trace.bits trace.rules.rules trace.batch trace.device commit size rests.at_rest rests.alone rests.placed accepted is untouched.done untouched.pair untouched.served;
      unmoved = λ _. record {
        unserved = untouched.served;
        none_put = λ x member stands. none_put trace.slots trace.mode trace.bits trace.rules.rules trace.batch trace.device commit size rests.at_rest rests.alone rests.placed accepted is
            untouched.done untouched.pair untouched.served x (subst (λ (q : CommitPieces). Contains q.inserted x) is.pieces member) stands;
      };
    }
