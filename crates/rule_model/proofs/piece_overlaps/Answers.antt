-- The tests are tried one after the other, and each tells exactly whether its condition is met.
use Rattle.std.proofs.Common.{IsTrue, ◌↔◌, refl}
use Rattle.std.proofs.lemmas.Bool.Decides.{Decides-like}
use Rattle.rule_model.specs.PortRange.{RangesOverlap}
use Rattle.rule_model.proofs.CommonKeys.{MeetInAddresses, MeetInProtos, MeetInSources, and_then, and_else, overlap-is}
use Rattle.rule_model.proofs.piece_overlaps.Goals as goal
use Rattle.rule_model.proofs.piece_overlaps.Goals.{then-meets, else-meets, then-meets-2, else-meets-2, then-protos_meet, else-protos_meet}

pub returns-then-meets-3-clause-exact : goal.returns-then-meets-3-clause-exact
returns-then-meets-3-clause-exact c =
    let one : IsTrue c.if-meets.value ↔ MeetInAddresses c.args.a.now c.args.b.now =
    elim c.if-meets.branch [
      | then-meets w ↦ and_then _ _ _ c.meets.ensures.exact w.if-meets.true w.meets-then-meets.ensures.exact w.value-is
      | else-meets w ↦ and_else _ _ c.meets.ensures.exact w.if-meets.false w.value-is
    ]
    in
    let two : IsTrue c.if-meets-2.value ↔ MeetInProtos c.args.a.now c.args.b.now =
    elim c.if-meets-2.branch [
      | then-meets-2 w ↦ and_then _ _ _ one w.if-meets-2.true w.protos_meet.ensures.exact w.value-is
      | else-meets-2 w ↦ and_else _ _ one w.if-meets-2.false w.value-is
    ]
    in
    let three : IsTrue c.if-protos_meet.value ↔ MeetInSources c.args.a.now c.args.b.now =
    elim c.if-protos_meet.branch [
      | then-protos_meet w ↦ and_then _ _ _ two w.if-protos_meet.true w.meets-then-protos_meet.ensures.exact w.value-is
      | else-protos_meet w ↦ and_else _ _ two w.if-protos_meet.false w.value-is
    ]
    in
    let whole = overlap-is c.args.a.now c.args.b.now in
    let four = and_then _ _ _ three c.if-meets-3.true c.meets-then-meets-3.ensures.exact refl in
    Decides-like _ whole.0 whole.1 four

pub returns-else-meets-3-clause-exact : goal.returns-else-meets-3-clause-exact
returns-else-meets-3-clause-exact c =
    let one : IsTrue c.if-meets.value ↔ MeetInAddresses c.args.a.now c.args.b.now =
    elim c.if-meets.branch [
      | then-meets w ↦ and_then _ _ _ c.meets.ensures.exact w.if-meets.true w.meets-then-meets.ensures.exact w.value-is
      | else-meets w ↦ and_else _ _ c.meets.ensures.exact w.if-meets.false w.value-is
    ]
    in
    let two : IsTrue c.if-meets-2.value ↔ MeetInProtos c.args.a.now c.args.b.now =
    elim c.if-meets-2.branch [
      | then-meets-2 w ↦ and_then _ _ _ one w.if-meets-2.true w.protos_meet.ensures.exact w.value-is
      | else-meets-2 w ↦ and_else _ _ one w.if-meets-2.false w.value-is
    ]
    in
    let three : IsTrue c.if-protos_meet.value ↔ MeetInSources c.args.a.now c.args.b.now =
    elim c.if-protos_meet.branch [
      | then-protos_meet w ↦ and_then _ _ _ two w.if-protos_meet.true w.meets-then-protos_meet.ensures.exact w.value-is
      | else-protos_meet w ↦ and_else _ _ two w.if-protos_meet.false w.value-is
    ]
    in
    let whole = overlap-is c.args.a.now c.args.b.now in
    let four : IsTrue c.if-protos_meet.value ↔ (MeetInSources c.args.a.now c.args.b.now × RangesOverlap c.args.a.now.dport c.args.b.now.dport) = and_else _ _ three c.if-meets-3.false refl in
    Decides-like _ whole.0 whole.1 four
