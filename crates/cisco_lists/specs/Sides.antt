-- The sides of an entry: any address, one, a prefix, or an address and a wildcard mask that a prefix leaves.
use Rattle.std.specs.Prelude.{ℕ, ◌+◌, ◌-◌, ◌/◌, ◌^◌, ◌==◌, count_ones, Result, Ok, Err, Option, Some, None, List, codes, if◌then◌else◌}
use Rattle.std.specs.Str.{bytes_eq}
use Rattle.rule_model.specs.AddressBlock.{AddressBlock, any_address}
use Rattle.line_words.specs.declared.WordFault.{WordFault}
use Rattle.line_words.specs.Kinds.{address_of, block_of, ipv4_notation}
use Rattle.cisco_lists.specs.declared.why.Why.{Why}
use Rattle.cisco_lists.specs.declared.why.Why.TheVariants as why
use Rattle.cisco_lists.specs.Words.{is_group}
use Rattle.cisco_lists.specs.Walk.{WordsAt, Taken, taken, first_of, behind_word, failed}

-- no side, for this reason
abbrev pub no_side : Why → WordsAt → Taken AddressBlock
no_side why at = taken any_address (failed why at)

-- a block, where none of its bits past the length is set
abbrev pub block_or : Result AddressBlock WordFault → WordsAt → Taken AddressBlock
block_or (Ok block) at = taken block at
block_or (Err fault) at = no_side why.Address at

abbrev pub checked_block : AddressBlock → WordsAt → Taken AddressBlock
checked_block block at = block_or (block_of block) at

-- one address, the next word
abbrev pub host_by : Result ℕ WordFault → WordsAt → Taken AddressBlock
host_by (Ok address) at = checked_block (record { addr = address; len = 32 }) at
host_by (Err fault) at = no_side why.Address at

abbrev pub host_at : WordsAt → Taken AddressBlock
host_at at = host_by (address_of ipv4_notation (first_of at.words)) (behind_word at)

-- the length of the prefix that a wildcard mask leaves: one more than the mask is the power of two of as many bits as it has
abbrev pub wild_length : ℕ → Option ℕ
wild_length wild = if 2 ^ count_ones wild == wild + 1 then Some (32 - count_ones wild) else None

-- an address, and the wildcard mask that is the next word
abbrev pub with_length : ℕ → Option ℕ → WordsAt → Taken AddressBlock
with_length address (Some len) at = checked_block (record { addr = address; len = len }) at
with_length address None at = no_side why.Wildcard at

abbrev pub masked_by : ℕ → Result ℕ WordFault → WordsAt → Taken AddressBlock
masked_by address (Ok wild) at = with_length address (wild_length (wild / 2 ^ 96)) at
masked_by address (Err fault) at = no_side why.Wildcard at

abbrev pub masked_at : ℕ → WordsAt → Taken AddressBlock
masked_at address at = masked_by address (address_of ipv4_notation (first_of at.words)) (behind_word at)

abbrev pub wild_by : Result ℕ WordFault → WordsAt → Taken AddressBlock
wild_by (Ok address) at = masked_at address at
wild_by (Err fault) at = no_side why.Address at

abbrev pub wild_at : List ℕ → WordsAt → Taken AddressBlock
wild_at word at = wild_by (address_of ipv4_notation word) at

-- a prefix, or else an address and a mask
abbrev pub prefix_or : List ℕ → Result AddressBlock WordFault → WordsAt → Taken AddressBlock
prefix_or word (Ok block) at = taken block at
prefix_or word (Err fault) at = wild_at word at

-- The side that begins with this word.
abbrev pub side_by : List ℕ → WordsAt → Taken AddressBlock
side_by word at =
    if bytes_eq word (codes "any") then taken any_address at
    else if bytes_eq word (codes "host") then host_at at
    else if is_group word then no_side why.Group at
    else prefix_or word (ipv4_notation.block word) at

abbrev pub side_at : WordsAt → Taken AddressBlock
side_at at = side_by (first_of at.words) (behind_word at)
