use Rattle.std.proofs.Common.{arith}
use Rattle.line_words.proofs.Groups.{digits-fit}
use Rattle.line_words.proofs.ipv6.group_value.Goals as goal

pub overflow_mul-value : goal.overflow_mul-value
overflow_mul-value c =
    let room = digits-fit c.loop-digit.digit-index (omega arith) in
    let small = c.loop-digit.invariant.small in
    record { fits = omega arith }

pub overflow_add-value : goal.overflow_add-value
overflow_add-value c =
    let room = digits-fit c.loop-digit.digit-index (omega arith) in
    let small = c.loop-digit.invariant.small in
    let digit = c.in_ok-hex_digit.ensures.small in
    record { fits = omega arith }

pub overflow_cast-result : goal.overflow_cast-result
overflow_cast-result c =
    let room = digits-fit c.loop-digit.digit-index (omega arith) in
    let small = c.loop-digit.invariant.small in
    record { fits = omega arith }

pub returns-clause-small : goal.returns-clause-small
returns-clause-small c =
    let room = digits-fit c.loop-digit.digit-index (omega arith) in
    let small = c.loop-digit.invariant.small in
    omega arith
