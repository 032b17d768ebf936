use Rattle.std.proofs.Common.{◌≡◌, ℕ, List, length, replicate, get_or, ltb, eqb, cond, w32, arith, ◌∙◌, sym, ap, ap₂, inl, inr, le-leb}
use Rattle.std.specs.Prelude.{nat_le}
use lib.Lanes.{zip2, sel_l}
use Rattle.std.proofs.lemmas.Bool.{cases_lt, lt-ltb, lt-leb, le-ltb}
use Rattle.std.proofs.lemmas.Simd.{length-zip2, length-sel_l, get_or-sel_l, get_or-zip2, get_or-replicate, tops_compared}
use Rattle.block_windows.proofs.above.Goals as goal

-- 0 stands where the first isn't above the second
not_above : (x y : ℕ) → eqb (cond (ltb y x) 1 0) 0 ≡ nat_le x y
not_above x y = elim (cases_lt y x) [
  | inl above ↦ ap (λ b. eqb (cond b 1 0) 0) (lt-ltb y x above) ∙ sym (lt-leb _ _ above)
  | inr below ↦ ap (λ b. eqb (cond b 1 0) 0) (le-ltb y x below) ∙ sym (le-leb _ _ below)
]

pub returns-clause-len : goal.returns-clause-len
returns-clause-len c =
    let ones : List ℕ = replicate 8 1 in
    let none : List ℕ = replicate 8 0 in
    let len : length (zip2 ltb c.args.b c.args.a) ≡ 8 = length-zip2 ltb c.args.b c.args.a (omega arith) ∙ c.requires.1 in
    ap (λ ms. length (sel_l ms ones none)) (tops_compared w32 ltb c.args.b c.args.a)
    ∙ length-sel_l (zip2 ltb c.args.b c.args.a) ones none len len ∙ len

pub returns-clause-lanes : goal.returns-clause-lanes
returns-clause-lanes c k l =
    let ones : List ℕ = replicate 8 1 in
    let none : List ℕ = replicate 8 0 in
    let ms = zip2 ltb c.args.b c.args.a in
    let len : length ms ≡ 8 = length-zip2 ltb c.args.b c.args.a (omega arith) ∙ c.requires.1 in
    ap (λ ms. eqb (get_or (sel_l ms ones none) k 0) 0) (tops_compared w32 ltb c.args.b c.args.a)
    ∙ ap (λ n. eqb n 0) (get_or-sel_l ms ones none k 0 (omega arith) l l)
    ∙ ap (λ n. eqb n 0) (ap (λ b. cond b (get_or ones k 0) (get_or none k 0)) (get_or-zip2 ltb c.args.b c.args.a k 0 0 _ (omega arith) (omega arith))
    ∙ ap₂ (λ x y. cond (ltb (get_or c.args.b k 0) (get_or c.args.a k 0)) x y) (get_or-replicate 8 k 1 0 l) (get_or-replicate 8 k 0 0 l))
    ∙ not_above (get_or c.args.a k 0) (get_or c.args.b k 0)
