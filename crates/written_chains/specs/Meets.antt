-- Tests on a packet's key, and those that hold where two of them do.
use Rattle.std.specs.Prelude.{ℕ, Bool, ◌==◌, nat_le, Option, Some, None, if◌then◌else◌}
use Rattle.rule_model.specs.declared.Key.{Key}
use Rattle.rule_model.specs.AddressBlock.{AddressBlock}
use Rattle.rule_model.specs.PortRange.{PortRange}
use Rattle.rule_model.specs.Rule.{conditions_hold, blocks_meet}
use Rattle.written_chains.specs.declared.meets.Tests.{Tests}

-- the tests hold a packet's key
abbrev pub tests_hold : Tests → Key → Bool
tests_hold tests key = conditions_hold tests.src tests.dst tests.proto tests.sport tests.dport key

-- the second step, if the first gave a value
infixl 10 ◌>>=◌
abbrev pub ◌>>=◌ : {A B : Type 0} → Option A → (A → Option B) → Option B
Some x >>= f = f x
None >>= f = None

-- of two blocks with an address in common the longer lies in the other
abbrev pub narrower : AddressBlock → AddressBlock → AddressBlock
narrower a b = if nat_le a.len b.len then b else a

abbrev pub meet_blocks : AddressBlock → AddressBlock → Option AddressBlock
meet_blocks a b = if blocks_meet a b then Some (narrower a b) else None

abbrev pub meet_protos : Option ℕ → Option ℕ → Option (Option ℕ)
meet_protos None other = Some other
meet_protos (Some proto) None = Some (Some proto)
meet_protos (Some proto) (Some other) = if proto == other then Some (Some proto) else None

abbrev pub greater : ℕ → ℕ → ℕ
greater a b = if nat_le a b then b else a

abbrev pub lesser : ℕ → ℕ → ℕ
lesser a b = if nat_le a b then a else b

abbrev pub ports_from : ℕ → ℕ → Option PortRange
ports_from lo hi = if nat_le lo hi then Some (record { lo = lo; hi = hi }) else None

abbrev pub meet_ports : PortRange → PortRange → Option PortRange
meet_ports a b = ports_from (greater a.lo b.lo) (lesser a.hi b.hi)

-- the tests that hold where both do
abbrev pub meet : Tests → Tests → Option Tests
meet a b = do
  from ← meet_blocks a.src b.src
  to ← meet_blocks a.dst b.dst
  protocol ← meet_protos a.proto b.proto
  source ← meet_ports a.sport b.sport
  destination ← meet_ports a.dport b.dport
  Some (record { src = from; dst = to; proto = protocol; sport = source; dport = destination })
