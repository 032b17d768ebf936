use Rattle.std.proofs.Common.{◌≡◌, length, rules, sym}
use Rattle.trace_file.proofs.Views.{twelve-values, entry_in-other}
use Rattle.trace_file.proofs.values.entry_of.Goals as goal
use Rattle.trace_file.proofs.values.entry_of.Goals.{in_default-via-then-as_slice-lt12, in_default-via-else-as_slice-lt12+else-this-lt13}

pub returns-in_err-word_of-in-len12-2 : goal.returns-in_err-word_of-in-len12-2
returns-in_err-word_of-in-len12-2 c =
    let values = twelve-values _ _ _ c.in_ok-as_array.ensures c.as_slice.ensures.value c.in-len12.len_at_least c.in-len12.len_below
    c.src-item.is c.dst-item.is c.ports-item.is c.proto-item.is c.bits-item.is c.src_mask-item.is c.dst_mask-item.is c.ports_mask-item.is c.proto_mask-item.is c.bits_mask-item.is c.tag-item.is c.answer-item.is in
    rw values (search rules)

pub returns-in_err-rank_of-in-len12 : goal.returns-in_err-rank_of-in-len12
returns-in_err-rank_of-in-len12 c =
    let values = twelve-values _ _ _ c.in_ok-as_array.ensures c.as_slice.ensures.value c.in-len12.len_at_least c.in-len12.len_below
    c.src-item.is c.dst-item.is c.ports-item.is c.proto-item.is c.bits-item.is c.src_mask-item.is c.dst_mask-item.is c.ports_mask-item.is c.proto_mask-item.is c.bits_mask-item.is c.tag-item.is c.answer-item.is in
    rw values (search rules)

pub returns-in_err-number_of_32_bits-in-len12 : goal.returns-in_err-number_of_32_bits-in-len12
returns-in_err-number_of_32_bits-in-len12 c =
    let values = twelve-values _ _ _ c.in_ok-as_array.ensures c.as_slice.ensures.value c.in-len12.len_at_least c.in-len12.len_below
    c.src-item.is c.dst-item.is c.ports-item.is c.proto-item.is c.bits-item.is c.src_mask-item.is c.dst_mask-item.is c.ports_mask-item.is c.proto_mask-item.is c.bits_mask-item.is c.tag-item.is c.answer-item.is in
    rw values (search rules)

pub returns-in_ok-number_of_32_bits-in-len12 : goal.returns-in_ok-number_of_32_bits-in-len12
returns-in_ok-number_of_32_bits-in-len12 c =
    let values = twelve-values _ _ _ c.in_ok-as_array.ensures c.as_slice.ensures.value c.in-len12.len_at_least c.in-len12.len_below
    c.src-item.is c.dst-item.is c.ports-item.is c.proto-item.is c.bits-item.is c.src_mask-item.is c.dst_mask-item.is c.ports_mask-item.is c.proto_mask-item.is c.bits_mask-item.is c.tag-item.is c.answer-item.is in
    rw values (search rules)

pub returns-in_default : goal.returns-in_default
returns-in_default c =
    let other : length c.as_slice.result.now ≡ 12 → ⊥ = λ same. elim c.in_default.branch [ in_default-via-then-as_slice-lt12 w ↦ search rules | in_default-via-else-as_slice-lt12+else-this-lt13 w ↦ search rules ] in
    sym (entry_in-other _ _ _ c.in_ok-as_array.ensures c.as_slice.ensures.value other)
