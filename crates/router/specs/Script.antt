-- How many changes may be pending.
use Rattle.std.specs.Prelude.{ℕ, nat_le, true, false, Option, Some, None, List, codes}
use Rattle.router.specs.declared.Side.TheVariants as side
use Rattle.router.specs.declared.RouterAct.{RouterAct}
use Rattle.router.specs.declared.RouterAct.TheVariants.{Change, Packet, Commit}

-- how many changes of each table stand since the last commit
pub record Pending : Type 0 where
  pub listed : ℕ
  pub routed : ℕ

-- the fault of a change for which its table's batch has no room, where so many may wait at most
abbrev pub full_fault : ℕ → ℕ → Option (List ℕ)
full_fault most pending = elim (nat_le most pending) [ true ↦ Some (codes "batch full") | false ↦ None ]

-- the fault of an act for which there is no room; each table counts by itself
abbrev pub limit_fault : ℕ → RouterAct → Pending → Option (List ℕ)
limit_fault most (Change side.List command) pending = full_fault most pending.listed
limit_fault most (Change side.Routes command) pending = full_fault most pending.routed
limit_fault most (Packet key) pending = None
limit_fault most Commit pending = None
