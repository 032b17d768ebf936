use Rattle.script_lines.specs.Lines.{numbered}
use Rattle.driver_verify.proofs.Rounds.{rounds-read, rounds-too-long, rounds-bad-byte, rounds-end, rounds-line, line-anew, end-counted, line-counted}
use Rattle.trace_verify.proofs.Rounds.{no-script-end}
use Rattle.trace_verify.proofs.Whole.{none-counted}
use Rattle.driver_verify.proofs.check.round.Goals as goal

pub returns-in-Err-Read-clause-gives : goal.returns-in-Err-Read-clause-gives
returns-in-Err-Read-clause-gives g c =
    let h = c.in-Err-Read in
    let by = rw h.field-0-is at h.ensures.gives.2 in
    (h.ensures.gives.0, h.ensures.gives.1, rounds-read _ _ _ _ _ c.requires _ by)

pub unreachable-requires : goal.unreachable-requires
unreachable-requires g c =
    let h = c.in-Err-ScriptTooLong in
    let by = rw h.field-0-is at h.ensures.gives.2 in
    let again = rw h.field-0-is at h.ensures.again in
    no-script-end _ _ _ _ c.requires by again

pub returns-in-Err-TooLong-clause-gives : goal.returns-in-Err-TooLong-clause-gives
returns-in-Err-TooLong-clause-gives g c =
    let h = c.in-Err-TooLong in
    let by = rw h.field-0-is at h.ensures.gives.2 in
    let again = rw h.field-0-is at h.ensures.again in
    (h.ensures.gives.0, h.ensures.gives.1, rounds-too-long _ _ _ _ _ c.requires _ _ by again)

pub returns-in-Err-BadByte-clause-gives : goal.returns-in-Err-BadByte-clause-gives
returns-in-Err-BadByte-clause-gives g c =
    let h = c.in-Err-BadByte in
    let by = rw h.field-0-is at h.ensures.gives.2 in
    let again = rw h.field-0-is at h.ensures.again in
    (h.ensures.gives.0, h.ensures.gives.1, rounds-bad-byte _ _ _ _ _ c.requires _ _ by again)

pub returns-in-Ok-None-clause-gives : goal.returns-in-Ok-None-clause-gives
returns-in-Ok-None-clause-gives g c =
    let h = c.in-Ok-None in
    let by = rw h.field-0-is at h.ensures.gives.2 in
    (h.ensures.gives.0, h.ensures.gives.1, rounds-end _ _ _ _ _ c.requires _ _ by c.at_end.ensures)

pub returns-clause-gives : goal.returns-clause-gives
returns-clause-gives g c =
    let h = c.in-Ok-Some in
    let by = rw h.field-0-is at h.ensures.gives.2 in
    let again = rw h.field-0-is at h.ensures.again in
    (h.ensures.gives.0, h.ensures.gives.1, rounds-line _ _ _ _ _ c.requires _ _ _ c.begin_anew.ensures by again c.judge_line.ensures.passed c.judge_line.ensures.ended)

pub returns-in-Err-TooLong-clause-read : goal.returns-in-Err-TooLong-clause-read
returns-in-Err-TooLong-clause-read g c =
    let h = c.in-Err-TooLong in
    let counted = rw h.field-0-is at h.ensures.cause in
    none-counted _ _ _ (λ e. cc) (counted.stayed (λ e. cc))

pub returns-in-Err-BadByte-clause-read : goal.returns-in-Err-BadByte-clause-read
returns-in-Err-BadByte-clause-read g c =
    let h = c.in-Err-BadByte in
    let counted = rw h.field-0-is at h.ensures.cause in
    none-counted _ _ _ (λ e. cc) (counted.stayed (λ e. cc))

pub returns-in-Ok-None-clause-read : goal.returns-in-Ok-None-clause-read
returns-in-Ok-None-clause-read g c = end-counted c.args.number c.args.judge _ _ _ _ c.at_end.ensures (rw c.in-Ok-None.field-0-is at c.in-Ok-None.ensures.cause)

pub returns-clause-read : goal.returns-clause-read
returns-clause-read g c = line-counted c.args.number c.args.judge (numbered c.in-Ok-Some.line).text c.judge_line.result _ _ _ c.judge_line.ensures.ended (rw c.in-Ok-Some.field-0-is at c.in-Ok-Some.ensures.cause)

pub returns-clause-anew : goal.returns-clause-anew
returns-clause-anew g c = line-anew c.next.new.self _ c.in-Ok-Some.line c.judge_line.result c.begin_anew.ensures (rw c.in-Ok-Some.field-0-is at c.in-Ok-Some.ensures.stays)
