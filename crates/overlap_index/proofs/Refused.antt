-- What holds anyway holds after a refusal.
use Rattle.std.proofs.Common.{Result, Ok, Err, OnErr}

pub on_err_from : {X Y P : Type 0} (r : Result X Y) → P → OnErr r P
on_err_from (Ok x) p = tt
on_err_from (Err y) p = p
