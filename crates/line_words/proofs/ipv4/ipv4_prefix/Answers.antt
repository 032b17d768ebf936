use Rattle.std.proofs.Common.{sym, ◌∙◌}
use Rattle.std.proofs.lemmas.Result.{err_from_is_err_and}
use Rattle.line_words.proofs.HostBits.{bad-length, good-prefix}
use Rattle.line_words.proofs.ipv4.ipv4_prefix.Goals as goal

pub returns-in_err-len : goal.returns-in_err-len
returns-in_err-len c =
    let parts = rw c.in_ok-address.ensures.ok_part at c.split_once.ensures in
    let number = sym c.ipv4_number.ensures ∙ c.in_ok-number.ensures.ok_part in
    let none = sym c.number_up_to.ensures.value ∙ c.in_err-len.ensures.ok_part in
    let fault = bad-length c.in_ok-address.address.now c.in_ok-address.len.now c.in_ok-number.number number none in
    let out = err_from_is_err_and c.from_residual-in_err-len.result c.from_residual-in_err-len.ensures.1 in
    let named = rw c.in_err-len.ensures.ok_part at c.in_err-len.ensures.value in
    rw (out.1, out.2, parts, fault) (cc named)

pub returns : goal.returns
returns c =
    let parts = rw c.in_ok-address.ensures.ok_part at c.split_once.ensures in
    let number = sym c.ipv4_number.ensures ∙ c.in_ok-number.ensures.ok_part in
    let bits = sym c.number_up_to.ensures.value ∙ c.in_ok-len.ensures.ok_part in
    let block = good-prefix c.in_ok-address.address.now c.in_ok-address.len.now c.in_ok-number.number c.in_ok-len.len number bits in
    rw parts (c.block_of.ensures ∙ sym block)
