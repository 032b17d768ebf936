-- The generator from a later state on.
use Rattle.std.proofs.Common.{◌≡◌, ℕ, zero, suc, ◌+◌, ◌*◌, ◌/◌, ◌%◌, ◌^◌, refl, sym, ◌∙◌, ap, add-suc}
use Rattle.std.proofs.Math.Nat.{add-zero}
use Rattle.rule_model.specs.declared.Rule.{Rule}
use Rattle.rule_model.specs.PortRange.{any_port}
use Rattle.rule_model.specs.Rank.{list_rank}
use Rattle.rule_gen.specs.Made.{draw_state, draw, network, made_address, made_source, made_proto, made_ports, rule_from}

-- so many draws, and then so many
pub state_after-add : (seed n k : ℕ) → draw_state (draw_state seed n) k ≡ draw_state seed (n + k)
state_after-add seed n zero = ap (draw_state seed) (sym (add-zero n))
state_after-add seed n (suc k) =
    ap (λ z. (z * 1103515245 + 12345) % 2 ^ 31) (state_after-add seed n k) ∙ ap (draw_state seed) (sym (add-suc n k))

draw-add : (seed n k : ℕ) → draw (draw_state seed n) k ≡ draw seed (n + k)
draw-add seed n k = ap (λ z. z / 65536) (state_after-add seed n k)

-- the rule that six numbers make
abbrev pub rule_of : ℕ → ℕ → ℕ → ℕ → ℕ → ℕ → ℕ → Rule
rule_of d1 d2 d3 d4 d5 d6 sequence =
    record {
      priority = list_rank sequence;
      src = made_source (d3 % 3);
      dst = network (made_address d2) (8 * (1 + d1 % 4));
      proto = made_proto (d4 % 3);
      sport = any_port;
      dport = made_ports (d5 % 5);
      result = d6 % 2;
    }

rule_of-equal : (d1 d2 d3 d4 d5 d6 e1 e2 e3 e4 e5 e6 sequence : ℕ) → d1 ≡ e1 → d2 ≡ e2 → d3 ≡ e3 → d4 ≡ e4 → d5 ≡ e5 → d6 ≡ e6
    → rule_of d1 d2 d3 d4 d5 d6 sequence ≡ rule_of e1 e2 e3 e4 e5 e6 sequence
rule_of-equal d1 d2 d3 d4 d5 d6 e1 e2 e3 e4 e5 e6 sequence p1 p2 p3 p4 p5 p6 = cc

-- a rule doesn't depend on what was drawn before, but for the state
pub rule_from-add : (seed n sequence : ℕ) → rule_from (draw_state seed n) 0 sequence ≡ rule_from seed n sequence
rule_from-add seed n sequence =
    rule_of-equal _ _ _ _ _ _ _ _ _ _ _ _ sequence (draw-add seed n 1) (draw-add seed n 2) (draw-add seed n 3) (draw-add seed n 4)
    (draw-add seed n 5) (draw-add seed n 6)

-- one draw after another
pub record IsDrawn (from to number : ℕ) : Type 0 where
  pub state : to ≡ draw_state from 1
  pub number_is : number ≡ draw from 1

-- the state and the number of the draw after so many
later_state : (seed from to number k : ℕ) → from ≡ draw_state seed k → IsDrawn from to number → to ≡ draw_state seed (k + 1)
later_state seed from to number k e d = d.state ∙ ap (λ z. draw_state z 1) e ∙ state_after-add seed k 1

later_draw : (seed from to number k : ℕ) → from ≡ draw_state seed k → IsDrawn from to number → number ≡ draw seed (k + 1)
later_draw seed from to number k e d = d.number_is ∙ ap (λ z. draw z 1) e ∙ draw-add seed k 1

-- six draws make the rule
pub rule_of-drawn : (s0 s1 s2 s3 s4 s5 s6 d1 d2 d3 d4 d5 d6 sequence : ℕ) → IsDrawn s0 s1 d1 → IsDrawn s1 s2 d2 → IsDrawn s2 s3 d3 → IsDrawn s3 s4 d4
    → IsDrawn s4 s5 d5 → IsDrawn s5 s6 d6 → rule_of d1 d2 d3 d4 d5 d6 sequence ≡ rule_from s0 0 sequence
rule_of-drawn s0 s1 s2 s3 s4 s5 s6 d1 d2 d3 d4 d5 d6 sequence p1 p2 p3 p4 p5 p6 =
    let t1 = later_state s0 s0 s1 d1 0 refl p1 in
    let t2 = later_state s0 s1 s2 d2 1 t1 p2 in
    let t3 = later_state s0 s2 s3 d3 2 t2 p3 in
    let t4 = later_state s0 s3 s4 d4 3 t3 p4 in
    let t5 = later_state s0 s4 s5 d5 4 t4 p5 in
    rule_of-equal d1 d2 d3 d4 d5 d6 _ _ _ _ _ _ sequence (later_draw s0 s0 s1 d1 0 refl p1) (later_draw s0 s1 s2 d2 1 t1 p2)
    (later_draw s0 s2 s3 d3 2 t2 p3) (later_draw s0 s3 s4 d4 3 t3 p4) (later_draw s0 s4 s5 d5 4 t4 p5) (later_draw s0 s5 s6 d6 5 t5 p6)
