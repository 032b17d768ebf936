-- Blocks of addresses, as in RFC 4632. A Prefix is seen as one.
use Rattle.std.specs.Prelude.{◌≡◌, ℕ, ◌-◌, ◌*◌, ◌/◌, ◌%◌, ◌^◌, ◌<◌, ◌≤◌, Bool, ◌==◌, ◌&&◌, IsTrue}

-- the addresses of 128 bits that share the leading bits of addr, len of them
pub record AddressBlock : Type 0 where
  pub addr : ℕ
  pub len : ℕ

-- the length fits an address, and no bit past it is set
pub record IsAddressBlock (block : AddressBlock) : Type 0 where
  pub fits : block.addr < 2 ^ 128
  pub length : block.len ≤ 128
  pub no_host_bits : block.addr % 2 ^ (128 - block.len) ≡ 0

-- the address has the block's leading bits
abbrev pub block_holds : AddressBlock → ℕ → Bool
block_holds block address =
    address / 2 ^ (128 - block.len) == block.addr / 2 ^ (128 - block.len)

-- some address is in both blocks
abbrev pub BlocksOverlap : AddressBlock → AddressBlock → Type 0
BlocksOverlap a b = (address : ℕ) × (address < 2 ^ 128) × IsTrue (block_holds a address) × IsTrue (block_holds b address)

-- the same address and length
abbrev pub same_block : AddressBlock → AddressBlock → Bool
same_block a b = (a.addr == b.addr) && (a.len == b.len)

-- every address
abbrev pub any_address : AddressBlock
any_address = record { addr = 0; len = 0 }

-- an IPv4 address (RFC 791, section 3.1), which stands in the upper 32 bits
abbrev pub ipv4_address : ℕ → ℕ
ipv4_address address = address * 2 ^ 96

-- the block of an IPv4 address and a length up to 32
abbrev pub ipv4_block : ℕ → ℕ → AddressBlock
ipv4_block address len = record { addr = ipv4_address address; len = len }

-- the lengths and addresses that IPv4 has
pub record IsIpv4Block (block : AddressBlock) : Type 0 where
  pub length : block.len ≤ 32
  pub upper : block.addr % 2 ^ 96 ≡ 0
