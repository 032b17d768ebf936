-- What holds of a call's outcome, from what held before.
use Rattle.std.specs.Prelude.{Result, Ok, Err, IfOk, OnOk, OnErr}

pub on_ok_both : {T E : Type 0} (P Q R : Type 0) (outcome : Result T E) → (P → Q → R) → OnOk outcome P → OnOk outcome Q → OnOk outcome R
on_ok_both P Q R (Ok x) f g h = f g h
on_ok_both P Q R (Err e) f g h = tt

pub on_err : {T E : Type 0} (P : Type 0) (outcome : Result T E) → P → OnErr outcome P
on_err P (Ok x) h = tt
on_err P (Err e) h = h

pub if_ok : {T E : Type 0} (P Q : T → Type 0) (outcome : Result T E) → ((x : T) → P x → Q x) → IfOk outcome P → IfOk outcome Q
if_ok P Q (Ok x) f h = f x h
if_ok P Q (Err e) f h = tt
