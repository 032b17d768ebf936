use Rattle.std.proofs.Common.{◌≡◌, eqb, false, arith, ◌∙◌, sym, ap, w32, eq-eqb, ne_eqb}
use Rattle.std.proofs.lemmas.Bool.{cond-true, cond-false}
use lib.Count.{count_trailing_zeros}
use lib.Lanes.{mask_l}
use mathlib.Core.List.{map}
use Rattle.std.proofs.lemmas.Simd.{bitmask_splat}
use Rattle.eight_lanes.proofs.Zeros.{first_zero_is}
use Rattle.eight_lanes.proofs.first_zero.Goals as goal

pub returns-then-zeros-eq0 : goal.returns-then-zeros-eq0
returns-then-zeros-eq0 c =
    let a = c.args.a in
    let m = mask_l (map (λ x. eqb x 0) a) in
    let is = bitmask_splat w32 eqb a 8 0 c.requires (omega arith) in
    let z : m ≡ 0 = sym is ∙ c.if-zeros-eq0.true in
    let f = first_zero_is a 8 c.requires (sym (cond-true _ _ _ (eq-eqb _ _ z))) in
    record { bound = f.bound; before = f.before; at = f.at }

pub returns-else-zeros-eq0 : goal.returns-else-zeros-eq0
returns-else-zeros-eq0 c =
    let a = c.args.a in
    let m = mask_l (map (λ x. eqb x 0) a) in
    let is = bitmask_splat w32 eqb a 8 0 c.requires (omega arith) in
    let z : eqb m 0 ≡ false = ne_eqb _ _ (λ e. c.if-zeros-eq0.false (is ∙ e)) in
    let f = first_zero_is a _ c.requires (ap (count_trailing_zeros 64) is ∙ sym (cond-false _ _ _ z)) in
    record { bound = f.bound; before = f.before; at = f.at }
