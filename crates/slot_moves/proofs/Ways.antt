-- What comes before what on a way.
use Rattle.std.proofs.Common.{◌≡◌, ◌≢◌, ℕ, List, Option, Some, length, set, arith, ◌⊎◌, le_refl, ◌<◌}
use Rattle.slot_order.specs.Order.{slot, Ordered}
use Rattle.slot_moves.specs.Moves.{Way, Downwards, Upwards, IsBefore, IsNoLater}
use Rattle.slot_order.proofs.Writes.{put_keeps, HasCopy}

pub no_later_self : (way : Way) (i : ℕ) → IsNoLater way i i
no_later_self Downwards i = le_refl i
no_later_self Upwards i = le_refl i

pub no_later : (way : Way) (i j : ℕ) → IsBefore way i j → IsNoLater way i j
no_later Downwards i j l = omega arith
no_later Upwards i j l = omega arith

pub before_all : (way : Way) (i j k : ℕ) → IsNoLater way i j → IsBefore way j k → IsBefore way i k
before_all Downwards i j k l m = omega arith
before_all Upwards i j k l m = omega arith

pub before_then : (way : Way) (i j k : ℕ) → IsBefore way i j → IsNoLater way j k → IsBefore way i k
before_then Downwards i j k l m = omega arith
before_then Upwards i j k l m = omega arith

pub no_later_all : (way : Way) (i j k : ℕ) → IsNoLater way i j → IsNoLater way j k → IsNoLater way i k
no_later_all Downwards i j k l m = omega arith
no_later_all Upwards i j k l m = omega arith

pub clash : (way : Way) (i j : ℕ) → IsBefore way i j → IsNoLater way j i → ⊥
clash Downwards i j l m = omega arith
clash Upwards i j l m = omega arith

pub not_before : (way : Way) (i j : ℕ) → (IsBefore way i j → ⊥) → IsNoLater way j i
not_before Downwards i j n = omega arith
not_before Upwards i j n = omega arith

pub apart : (way : Way) (i j : ℕ) → IsBefore way i j → i ≢ j
apart Downwards i j l k = omega arith
apart Upwards i j l k = omega arith

-- the order, seen along a way
pub sorted_on : (way : Way) {E : Type 0} (over : E → E → Type 0) (tag : E → ℕ) (P : E → Type 0) (d : List (Option E)) (i j : ℕ) (first second : E)
    → ((x y : E) → over x y → over y x) → Ordered over tag P d → IsBefore way i j → slot d i ≡ Some first → slot d j ≡ Some second → over first second
    → IsNoLater way (tag second) (tag first)
sorted_on Downwards over tag P d i j first second mirror o l a b v = o.sorted i j first second l a b v
sorted_on Upwards over tag P d i j first second mirror o l a b v = o.sorted j i second first l b a (mirror first second v)

-- an entry is put where those before it and those behind it on a way may stand
pub put_on : (way : Way) {E : Type 0} (over : E → E → Type 0) (tag : E → ℕ) (P Q : E → Type 0) (d : List (Option E)) (t : ℕ) (e : E)
    → ((x y : E) → over x y → over y x) → Ordered over tag P d → ((g : E) → P g → Q g) → Q e → ((g : E) → Q g → P g ⊎ (e ≡ g)) → t < length d → HasCopy d t
    → ((j : ℕ) (g : E) → IsBefore way j t → slot d j ≡ Some g → over e g → IsNoLater way (tag e) (tag g))
    → ((j : ℕ) (g : E) → IsBefore way t j → slot d j ≡ Some g → over e g → IsNoLater way (tag g) (tag e))
    → Ordered over tag Q (set d t (Some e))
put_on Downwards over tag P Q d t e mirror o more here only room copy near far =
    put_keeps over tag P Q d t e o more here only room copy (λ j g l a v. near j g l a (mirror g e v)) far
put_on Upwards over tag P Q d t e mirror o more here only room copy near far =
    put_keeps over tag P Q d t e o more here only room copy (λ j g l a v. far j g l a (mirror g e v)) near
