-- What is told of the bytes of a source or a sink, over several calls.
use Rattle.std.proofs.Common.{Bool, true, false, ◌≡◌, ◌≤◌, ◌+◌, ℕ, List, length, take, drop, Option, Some, arith, length-drop, subst, sym}
use Rattle.std.specs.Io.KnownBytes.{Appends}
use Rattle.script_lines.specs.Given.{counted}
use Rattle.std.proofs.KnownBytes.{Appends-trans}
use Rattle.std.proofs.Math.Seq.{take-add}
use Rattle.std.proofs.lemmas.List.{take_all}

-- a piece is taken in two parts
pub Appends-more : (a b c : Option (List ℕ)) (piece : List ℕ) (done n : ℕ) → Appends a b (take done piece) → Appends b c (take n (drop done piece)) → Appends a c (take (done + n) piece)
Appends-more a b c piece done n x y = let whole = Appends-trans a b c _ _ x y in subst (λ p. Appends a c p) (sym (take-add done n piece)) whole

-- a part of a piece is taken, and then a part of the rest
pub Appends-part : (a b c : Option (List ℕ)) (piece : List ℕ) (done : ℕ) → done ≤ length piece → Appends a b (take done piece)
    → (n : ℕ) × (n ≤ length (drop done piece)) × Appends b c (take n (drop done piece)) → (n : ℕ) × (n ≤ length piece) × Appends a c (take n piece)
Appends-part a b c piece done le x y =
    let fits = simp length-drop at y.1 in
    (done + y.0, omega (arith, fits), Appends-more a b c piece done y.0 x y.2)

-- a front at least as long as the whole
pub take-all : (n : ℕ) (xs : List ℕ) → length xs ≤ n → take n xs ≡ xs
take-all n xs le = take_all n xs le

-- what is so of both tellings
pub each-telling : (P : Option (List ℕ) → Option (List ℕ) → Type 0) (which : Bool) (a b : Option (List ℕ)) (x y : List ℕ) → P a b → P (Some x) (Some y) → P (counted which a x) (counted which b y)
each-telling P true a b x y told noted = told
each-telling P false a b x y told noted = noted
