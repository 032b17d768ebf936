-- What the handle owns.
use Rattle.std.specs.Prelude.{Option, None, Some}
use base.Fml.{Fml, ftrue}
use denote.RawPtr.{Ptr}
use Rattle.std.specs.Box.Ownership.{box_owns}
use Rattle.std.specs.contracts.impls.GlobalAllocator.TheImpl.{ghosts}
use Rattle.tcam_c.specs.declared.session.Session.{Session}
use Rattle.tcam_c.specs.contracts.session.Session.{the_row}

-- nothing, or the session behind the pointer with the right to free its block
abbrev pub held_owns : Ptr → Option Session → Fml
held_owns p None = ftrue
held_owns p (Some s) = box_owns (ghosts.dealloc_token (record { memory = record { seal = tt } })) the_row p s
