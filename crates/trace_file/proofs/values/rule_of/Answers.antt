use Rattle.std.proofs.Common.{◌≡◌, length, rules, sym}
use Rattle.trace_file.proofs.Views.{eleven-values, rule_in-other}
use Rattle.trace_file.proofs.values.rule_of.Goals as goal
use Rattle.trace_file.proofs.values.rule_of.Goals.{in_default-via-then-as_slice-lt11, in_default-via-else-as_slice-lt11+else-this-lt12}

pub returns-in_err-protocol_of-in-len11 : goal.returns-in_err-protocol_of-in-len11
returns-in_err-protocol_of-in-len11 c =
    let values = eleven-values _ _ _ c.in_ok-as_array.ensures c.as_slice.ensures.value c.in-len11.len_at_least c.in-len11.len_below
    c.rank-item.is c.src-item.is c.src_len-item.is c.dst-item.is c.dst_len-item.is c.proto-item.is c.sport_lo-item.is c.sport_hi-item.is c.dport_lo-item.is c.dport_hi-item.is c.answer-item.is in
    rw values (search rules)

pub returns-in_err-ports_of-in-len11 : goal.returns-in_err-ports_of-in-len11
returns-in_err-ports_of-in-len11 c =
    let values = eleven-values _ _ _ c.in_ok-as_array.ensures c.as_slice.ensures.value c.in-len11.len_at_least c.in-len11.len_below
    c.rank-item.is c.src-item.is c.src_len-item.is c.dst-item.is c.dst_len-item.is c.proto-item.is c.sport_lo-item.is c.sport_hi-item.is c.dport_lo-item.is c.dport_hi-item.is c.answer-item.is in
    rw values (search rules)

pub returns-in_err-ports_of-in-len11-2 : goal.returns-in_err-ports_of-in-len11-2
returns-in_err-ports_of-in-len11-2 c =
    let values = eleven-values _ _ _ c.in_ok-as_array.ensures c.as_slice.ensures.value c.in-len11.len_at_least c.in-len11.len_below
    c.rank-item.is c.src-item.is c.src_len-item.is c.dst-item.is c.dst_len-item.is c.proto-item.is c.sport_lo-item.is c.sport_hi-item.is c.dport_lo-item.is c.dport_hi-item.is c.answer-item.is in
    rw values (search rules)

pub returns-in_err-number_of_32_bits-in-len11 : goal.returns-in_err-number_of_32_bits-in-len11
returns-in_err-number_of_32_bits-in-len11 c =
    let values = eleven-values _ _ _ c.in_ok-as_array.ensures c.as_slice.ensures.value c.in-len11.len_at_least c.in-len11.len_below
    c.rank-item.is c.src-item.is c.src_len-item.is c.dst-item.is c.dst_len-item.is c.proto-item.is c.sport_lo-item.is c.sport_hi-item.is c.dport_lo-item.is c.dport_hi-item.is c.answer-item.is in
    rw values (search rules)

pub returns-in_ok-number_of_32_bits-in-len11 : goal.returns-in_ok-number_of_32_bits-in-len11
returns-in_ok-number_of_32_bits-in-len11 c =
    let values = eleven-values _ _ _ c.in_ok-as_array.ensures c.as_slice.ensures.value c.in-len11.len_at_least c.in-len11.len_below
    c.rank-item.is c.src-item.is c.src_len-item.is c.dst-item.is c.dst_len-item.is c.proto-item.is c.sport_lo-item.is c.sport_hi-item.is c.dport_lo-item.is c.dport_hi-item.is c.answer-item.is in
    rw values (search rules)

pub returns-in_default : goal.returns-in_default
returns-in_default c =
    let other : length c.as_slice.result.now ≡ 11 → ⊥ = λ same. elim c.in_default.branch [ in_default-via-then-as_slice-lt11 w ↦ search rules | in_default-via-else-as_slice-lt11+else-this-lt12 w ↦ search rules ] in
    sym (rule_in-other _ _ _ c.in_ok-as_array.ensures c.as_slice.ensures.value other)
