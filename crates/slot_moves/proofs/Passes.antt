-- The turns that take all past a boundary: as many as entries stand on its wrong side, of at most m writes each.
use Rattle.std.proofs.Common.{◌≡◌, ℕ, ◌<◌, ◌+◌, ◌*◌, ◌≤◌, Bool, List, [], ◌∷◌, ◌++◌, length, Option, None, refl, arith, inl, inr, ◌⊎◌, sym, ◌∙◌, subst, ap, length-append, mul-suc, Contains}
use Rattle.slot_order.specs.Order.{Ordered}
use Rattle.slot_order.specs.Chains.{applied, Along, IsChain, BoundsMemberChains}
use Rattle.slot_moves.specs.Moves.{chain_moves, Turn, Down, Up, turn_moves, turns_moves}
use Rattle.std.specs.Prelude.{count_by, is_none}
use Rattle.slot_moves.specs.Cuts.{early, late, wrong_side, free_before, free_behind, HasRoom}
use Rattle.slot_moves.proofs.Tally.{count_both}
use Rattle.slot_moves.proofs.Count.{chain_members, length-chain_moves, up_chain_bound}
use Rattle.slot_order.proofs.Lists.{contains_head, contains_tail, contains_cases}
use Rattle.slot_order.proofs.Walks.{Along_append, applied_append}
use Rattle.slot_moves.proofs.Once.{AllOnce}
use Rattle.slot_moves.proofs.Passing.{IsPass, ArePasses, HasSides, GoesDown, GoesUp, pass_keeps, goes_down, goes_up}

-- a chain goes on where another one begins
chain_join : {E : Type 0} (over : E → E → Type 0) (tag : E → ℕ) (path : List E) (x : E) (rest : List E) → IsChain over tag (path ++ x ∷ []) → IsChain over tag (x ∷ rest) → IsChain over tag (path ++ x ∷ rest)
chain_join over tag [] x rest a b = b
chain_join over tag (p ∷ []) x rest a b = (a.0, a.1, b)
chain_join over tag (p ∷ q ∷ path) x rest a b = (a.0, a.1, chain_join over tag (q ∷ path) x rest a.2 b)

contains_joined : {E : Type 0} (path rest : List E) (Q : E → Type 0) → ((y : E) → Contains path y → Q y) → ((y : E) → Contains rest y → Q y) → (y : E) → Contains (path ++ rest) y → Q y
contains_joined [] rest Q a b y c = b y c
contains_joined (p ∷ path) rest Q a b y c = elim (contains_cases p y (path ++ rest) c) [
  | inl k ↦ a y (subst (λ z. Contains (p ∷ path) z) k (contains_head p path))
  | inr n ↦ contains_joined path rest Q (λ z i. a z (contains_tail p z path i)) b y n
]

-- a turn has at most m writes
pub pass_bound : {E : Type 0} (over : E → E → Type 0) (tag : E → ℕ) (P Q : E → Type 0) (behind before : E → Bool) (cut : ℕ) (d : List (Option E)) (m : ℕ) (t : Turn)
    → HasSides over tag P Q behind before → Ordered over tag P d → IsPass over tag behind before cut d t → BoundsMemberChains over tag Q m → length (turn_moves d t) ≤ m
pass_bound over tag P Q behind before cut d m (Down f s rest) w o is bound =
    let x = is.4.0 in
    let p = w.leads_down x (o.within s x is.4.1) is.4.2 in
    let h = chain_members over tag P d f s rest x o is.4.1 is.5 in
    let b : length (p.path ++ x ∷ h.rest) ≤ m = bound (p.path ++ x ∷ h.rest)
    (contains_joined p.path (x ∷ h.rest) Q p.known (λ y i. w.known y (h.inside y i))) (chain_join over tag p.path x h.rest p.chain h.chain) in
    let some = p.some in
    let k : length h.rest ≡ length rest = h.many in
    let n = length-append p.path (x ∷ h.rest) in
    let c = length-chain_moves d f s rest in
    let a = length-append (chain_moves d f s rest) ((s, None) ∷ []) in omega arith
pass_bound over tag P Q behind before cut d m (Up f s rest) w o is bound =
    let x = is.4.0 in
    let known : Q x = w.known x (o.within s x is.4.1) in
    let p = w.leads_on x (o.within s x is.4.1) is.4.2 in
    let b : length rest + length (x ∷ p.path) ≤ m =
    up_chain_bound over tag P Q d f s m rest x p.path w.mirror o is.4.1 is.5 p.chain
    (λ y i. elim (contains_cases x y p.path i) [ inl k ↦ subst Q k known | inr n ↦ p.known y n ]) w.known bound in
    let some = p.some in
    let c = length-chain_moves d f s rest in
    let a = length-append (chain_moves d f s rest) ((s, None) ∷ []) in omega arith

-- one fewer stands on the wrong side
pub pass_fewer : {E : Type 0} (over : E → E → Type 0) (tag : E → ℕ) (P Q : E → Type 0) (behind before : E → Bool) (cut : ℕ) (d : List (Option E)) (t : Turn)
    → HasSides over tag P Q behind before → Ordered over tag P d → cut ≤ length d → IsPass over tag behind before cut d t
    → wrong_side behind before cut d ≡ wrong_side behind before cut (applied d (turn_moves d t)) + 1
pass_fewer over tag P Q behind before cut d (Down f s rest) w o inside is =
    let g = goes_down over tag P Q behind before cut d f s rest w o inside is in
    let a = g.early_is in let b = g.late_is in omega arith
pass_fewer over tag P Q behind before cut d (Up f s rest) w o inside is =
    let g = goes_up over tag P Q behind before cut d f s rest w o inside is in
    let a = g.early_is in let b = g.late_is in omega arith

-- what all of them leave
pub record AllPassed {E : Type 0} (over : E → E → Type 0) (tag : E → ℕ) (P Q : E → Type 0) (behind before : E → Bool) (cut : ℕ) (d : List (Option E)) (ts : List Turn) : Type 0 where
  pub along : Along (Ordered over tag P) d (turns_moves d ts)
  pub ordered : Ordered over tag P (applied d (turns_moves d ts))
  pub once : AllOnce d → AllOnce (applied d (turns_moves d ts))
  pub size : length (applied d (turns_moves d ts)) ≡ length d
  pub count : wrong_side behind before cut d ≡ length ts + wrong_side behind before cut (applied d (turns_moves d ts))
  pub few : (m : ℕ) → BoundsMemberChains over tag Q m → length (turns_moves d ts) ≤ m * length ts

pub passes_keep : {E : Type 0} (over : E → E → Type 0) (tag : E → ℕ) (P Q : E → Type 0) (behind before : E → Bool) (cut : ℕ) (d : List (Option E)) (ts : List Turn)
    → HasSides over tag P Q behind before → Ordered over tag P d → cut ≤ length d → ArePasses over tag behind before cut d ts
    → AllPassed over tag P Q behind before cut d ts
passes_keep over tag P Q behind before cut d [] w o inside are = record {
  along = o;
  ordered = o;
  once = λ once. once;
  size = refl;
  count = omega arith;
  few = λ m bound. omega arith;
}
passes_keep over tag P Q behind before cut d (t ∷ ts) w o inside are =
    let k = pass_keeps over tag P Q behind before cut d t w o are.0 in
    let b = applied d (turn_moves d t) in
    let size = k.size in
    let h = passes_keep over tag P Q behind before cut b ts w k.ordered (omega arith) are.1 in
    let after = applied_append d (turn_moves d t) (turns_moves b ts) in
    let fewer = pass_fewer over tag P Q behind before cut d t w o inside are.0 in
    let count = h.count in
    record {
      along = Along_append (Ordered over tag P) d (turn_moves d t) (turns_moves b ts) k.along h.along;
      ordered = subst (Ordered over tag P) (sym after) h.ordered;
      once = λ once. subst AllOnce (sym after) (h.once (k.once once));
      size = ap length after ∙ (h.size ∙ k.size);
      count =
          let e : wrong_side behind before cut (applied d (turns_moves d (t ∷ ts))) ≡ wrong_side behind before cut (applied b (turns_moves b ts)) = ap (wrong_side behind before cut) after in omega arith;
      few = λ m bound.
          let x = pass_bound over tag P Q behind before cut d m t w o are.0 bound in
          let y = h.few m bound in
          let a = length-append (turn_moves d t) (turns_moves b ts) in
          let z = mul-suc m (length ts) in omega arith;
    }

-- room is kept, and while any stands on the wrong side some turn has an empty slot to go to
pub room_down : {E : Type 0} (behind before : E → Bool) (cut : ℕ) (d c : List (Option E)) → HasRoom behind before cut d → GoesDown behind before cut d c → HasRoom behind before cut c
room_down behind before cut d c r g =
    let a = g.early_is in let b = g.late_is in let x = g.before_is in let y = g.behind_is in
    let p = r.room_behind in let q = r.room_before in
    record { room_behind = omega arith; room_before = omega arith }

pub room_up : {E : Type 0} (behind before : E → Bool) (cut : ℕ) (d c : List (Option E)) → HasRoom behind before cut d → GoesUp behind before cut d c → HasRoom behind before cut c
room_up behind before cut d c r g =
    let a = g.early_is in let b = g.late_is in let x = g.before_is in let y = g.behind_is in
    let p = r.room_behind in let q = r.room_before in
    record { room_behind = omega arith; room_before = omega arith }

pub can_pass : {E : Type 0} (behind before : E → Bool) (cut : ℕ) (d : List (Option E)) → HasRoom behind before cut d → 0 < count_by (λ (held : Option E). is_none held) d
    → (early behind cut d ≡ 0) ⊎ (free_behind cut d ≡ 0) → (late before cut d ≡ 0) ⊎ (free_before cut d ≡ 0) → wrong_side behind before cut d ≡ 0
can_pass {E} behind before cut d r some a b =
    let p = r.room_behind in let q = r.room_before in
    let k = count_both (λ (h : Option E). is_none h) d cut in
    elim a [
      | inl x ↦ elim b [ inl y ↦ omega arith | inr y ↦ omega arith ]
      | inr x ↦ elim b [ inl y ↦ omega arith | inr y ↦ absurd (omega arith) ]
    ]
