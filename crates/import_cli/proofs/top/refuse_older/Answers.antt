use Rattle.std.proofs.Common.{inr, refl}
use Rattle.std.proofs.KnownBytes.{Appends-nil}
use Rattle.import_cli.proofs.Carried.{last-unread, named-older}
use Rattle.import_cli.proofs.top.refuse_older.Goals as goal

pub returns-in-Ok-clause-names : goal.returns-in-Ok-clause-names
returns-in-Ok-clause-names g c = λ which. named-older _ _ _ _ _ _ c.in-Ok.ensures c.as_slice.ensures.value (c.write_last.ensures.closes which)

pub returns-in-Ok-clause-kind : goal.returns-in-Ok-clause-kind
returns-in-Ok-clause-kind g c = last-unread _ _ c.write_last.ensures.kind (λ e. cc)

pub returns-in-Ok-clause-written : goal.returns-in-Ok-clause-written
returns-in-Ok-clause-written g c = c.write_last.ensures.written (λ e. cc)

pub returns-in-Err-clause-names : goal.returns-in-Err-clause-names
returns-in-Err-clause-names g c = λ which. inr (refl, Appends-nil _)
