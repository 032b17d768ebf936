use Rattle.std.proofs.Common.{◌≡◌, ◌<◌, ◌≤◌, ◌+◌, length, take, arith, length-take}
use Rattle.script_lines.proofs.Scans.{scan-front, scan-other, scan-within}
use Rattle.script_lines.proofs.scan.scan.Goals as goal

pub overflow_add-result : goal.overflow_add-result
overflow_add-result c =
    let n : length (take c.args.scanned c.args.held.now) ≡ c.args.scanned = simp length-take (omega arith) in
    let from : c.args.scanned ≤ c.min-most.result = omega arith in
    let to : c.args.scanned + c.of_line.result ≤ c.min-most.result = rw c.of_line.ensures (scan-within c.args.held.now c.args.scanned c.min-most.result from) in
    omega arith

pub returns-clause-scan : goal.returns-clause-scan
returns-clause-scan c =
    let n : length (take c.args.scanned c.args.held.now) ≡ c.args.scanned = simp length-take (omega arith) in
    let from : c.args.scanned ≤ c.min-most.result = omega arith in
    let there : c.min-most.result ≤ length c.args.held.now = omega arith in
    let short : c.min-most.result ≤ 512 = omega arith in
    let within : c.args.before + c.min-most.result ≤ 268435456 = omega arith in
    rw c.of_line.ensures (scan-front c.args.held.now c.args.scanned c.min-most.result c.args.before c.requires from there short within)

pub returns-clause-other : goal.returns-clause-other
returns-clause-other c = λ there short room.
    let n : length (take c.args.scanned c.args.held.now) ≡ c.args.scanned = simp length-take (omega arith) in
    let from : c.args.scanned ≤ c.min-most.result = omega arith in
    let within : c.min-most.result ≤ length c.args.held.now = omega arith in
    let less : c.args.scanned + c.of_line.result < c.min-most.result = omega arith in
    rw c.of_line.ensures (scan-other c.args.held.now c.args.scanned c.min-most.result from within (rw c.of_line.ensures at less))
