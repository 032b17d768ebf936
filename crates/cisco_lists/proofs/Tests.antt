-- Tests one after the other.
use Rattle.std.proofs.Common.{◌≡◌, Bool, true, false, cond, sym, ap, ◌∙◌}

pub pick : {A : Type 0} → (b : Bool) (x y : A) → b ≡ true → x ≡ cond b x y
pick b x y so = ap (λ c. cond c x y) (sym so)

pub skip : {A : Type 0} → (b : Bool) (x y z : A) → b ≡ false → z ≡ y → z ≡ cond b x y
skip b x y z unlike is = is ∙ ap (λ c. cond c x y) (sym unlike)
