use Rattle.std.proofs.Common.{refl}
use Rattle.tcam_cli.proofs.own_texts.help_of.Goals as goal

pub returns-in-None : goal.returns-in-None
returns-in-None c = rw c.in-None.is refl

pub returns-in-Route : goal.returns-in-Route
returns-in-Route c = rw c.in-Some.is (rw c.in-Route.is refl)

pub returns-in-Acl : goal.returns-in-Acl
returns-in-Acl c = rw c.in-Some.is (rw c.in-Acl.is refl)

pub returns-in-Route6 : goal.returns-in-Route6
returns-in-Route6 c = rw c.in-Some.is (rw c.in-Route6.is refl)

pub returns-in-Acl6 : goal.returns-in-Acl6
returns-in-Acl6 c = rw c.in-Some.is (rw c.in-Acl6.is refl)

pub returns-in-Gen : goal.returns-in-Gen
returns-in-Gen c = rw c.in-Some.is (rw c.in-Gen.is refl)

pub returns-in-Verify : goal.returns-in-Verify
returns-in-Verify c = rw c.in-Some.is (rw c.in-Verify.is refl)
