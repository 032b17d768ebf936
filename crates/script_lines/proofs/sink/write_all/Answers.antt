use Rattle.std.specs.Io.KnownBytes.{Appends}
use Rattle.std.proofs.Common.{ℕ, List, Some, ◌≤◌, length, take, subst, ◌∙◌, arith}
use Rattle.std.proofs.lemmas.List.{take_rest}
use Rattle.script_lines.proofs.Told.{each-telling, take-all, Appends-more, Appends-part}
use Rattle.script_lines.proofs.sink.write_all.Goals as goal

pub returns-in-Err-clause-part : goal.returns-in-Err-clause-part
returns-in-Err-clause-part g c = λ which.
    let bytes : List ℕ = c.args.bytes.now in
    let added = rw take_rest at c.in-Err.ensures.part in
    let i = c.loop-done.invariant in
    each-telling (λ a b. (n : ℕ) × (n ≤ length bytes) × Appends a b (take n bytes)) which _ _ _ _
    (Appends-part _ _ _ _ _ i.within i.taken added)
    (c.loop-done.done, i.within, c.in-Err.ensures.accepted ∙ i.accepted)

-- both are written whole
pub returns-clause-whole : goal.returns-clause-whole
returns-clause-whole g c = λ which.
    let bytes : List ℕ = c.args.bytes.now in
    let i = c.loop-done.invariant in
    let long : length bytes ≤ c.loop-done.done = omega (arith, c.loop-done-test.false) in
    each-telling (λ a b. Appends a b bytes) which _ _ _ _
    (subst (Appends (g.K.Sink.taken c.args.sink.now) (g.K.Sink.taken c.loop-done.sink)) (take-all c.loop-done.done bytes long) i.taken)
    (subst (Appends (Some (g.K.Sink.accepted c.args.sink.now)) (Some (g.K.Sink.accepted c.loop-done.sink))) (take-all c.loop-done.done bytes long) i.accepted)

pub loop-done-preserved : goal.loop-done-preserved
loop-done-preserved g c =
    let added = rw take_rest at c.in-Ok.ensures.bytes in
    let more = rw take_rest at c.in-Ok.ensures.accepted in
    record { accepted = Appends-more (Some _) (Some _) (Some _) _ _ _ c.loop-done.invariant.accepted more; taken = Appends-more _ _ _ _ _ _ c.loop-done.invariant.taken added; within = omega (arith, c.in-Ok.ensures.count); faults = c.in-Ok.ensures.cause.stayed ∙ c.loop-done.invariant.faults }
