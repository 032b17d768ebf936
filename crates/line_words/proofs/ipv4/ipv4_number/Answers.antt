use Rattle.std.proofs.Common.{sym, ap, Some}
use Rattle.line_words.proofs.Separators.{bad-fourth, four-numbers}
use Rattle.line_words.proofs.ipv4.ipv4_number.Goals as goal

pub returns-in_err-fourth : goal.returns-in_err-fourth
returns-in_err-fourth c =
    let parts = c.in_ok-first.ensures in
    rw (c.from_residual-in_err-fourth.ensures, parts)
    (sym
    (bad-fourth c.in_ok-first.first.now c.in_ok-first.second.now c.in_ok-first.third.now c.in_ok-first.fourth.now
    (sym c.in_err-fourth.ensures)))

pub returns : goal.returns
returns c =
    let parts = c.in_ok-first.ensures in
    let number =
    four-numbers c.in_ok-first.first.now c.in_ok-first.second.now c.in_ok-first.third.now c.in_ok-first.fourth.now
    c.in_ok-first-2.first c.in_ok-second.second c.in_ok-third.third c.in_ok-fourth.fourth
    (sym c.in_ok-first-2.ensures) (sym c.in_ok-second.ensures) (sym c.in_ok-third.ensures) (sym c.in_ok-fourth.ensures) in
    let bytes = c.from_be_bytes.ensures in
    rw (parts, number) (ap Some bytes)
