-- A turn that takes an entry past a boundary: each of its writes keeps the order, each entry stands in one slot after it,
-- one fewer stands on the wrong side, and it has no more writes than a chain with the new entry has members.
use Rattle.std.proofs.Common.{◌≡◌, ℕ, ◌+◌, ◌<◌, ◌≤◌, Bool, true, false, Option, None, Some, List, [], ◌∷◌, ◌++◌, length, set, Contains, refl, arith, sym, ◌∙◌, subst, ap, length-set}
use Rattle.std.specs.Prelude.{is_none}
use Rattle.slot_order.specs.Order.{slot, Ordered}
use Rattle.slot_order.specs.Chains.{applied, Along, IsChain}
use Rattle.slot_moves.specs.Moves.{Way, Downwards, Upwards, IsBefore, IsMoveChain, chain_moves, Turn, Down, Up, turn_moves}
use Rattle.slot_moves.specs.Cuts.{holds, early, late, free_before, free_behind}
use Rattle.slot_order.proofs.Writes.{slot_inside, erase_copy_keeps}
use Rattle.slot_moves.proofs.Chains.{Along_push, applied_push, chain_keeps}
use Rattle.slot_moves.proofs.Ways.{no_later, no_later_self, before_all, apart}
use Rattle.slot_moves.proofs.Tally.{Moved, moved_counts, moved_back, same_counts}
use Rattle.slot_moves.proofs.Shown.{Each, IsAlike, turn_moves_one, turn_frees_one, turn_keeps_others}
use Rattle.slot_moves.proofs.Once.{AllOnce, moved_clears}

-- a turn that takes an entry past the boundary to its side: one that must stand behind it, or one that must stand before it
abbrev pub IsPass : {E : Type 0} → (E → E → Type 0) → (E → ℕ) → (E → Bool) → (E → Bool) → ℕ → List (Option E) → Turn → Type 0
IsPass {E} over tag behind before cut slots (Down free first rest) =
    (first < cut) × (cut ≤ free) × (free < length slots) × (slot slots free ≡ None)
    × ((entry : E) × (slot slots first ≡ Some entry) × (behind entry ≡ true)) × IsMoveChain Downwards over tag slots free first rest
IsPass {E} over tag behind before cut slots (Up free first rest) =
    (cut ≤ first) × (free < cut) × (free < length slots) × (slot slots free ≡ None)
    × ((entry : E) × (slot slots first ≡ Some entry) × (before entry ≡ true)) × IsMoveChain Upwards over tag slots free first rest

-- such turns, one after the other
abbrev pub ArePasses : {E : Type 0} → (E → E → Type 0) → (E → ℕ) → (E → Bool) → (E → Bool) → ℕ → List (Option E) → List Turn → Type 0
ArePasses over tag behind before cut slots [] = Unit {0}
ArePasses over tag behind before cut slots (turn ∷ turns) =
    IsPass over tag behind before cut slots turn × ArePasses over tag behind before cut (applied slots (turn_moves slots turn)) turns

-- entries of falling tags lead from one entry to another, which isn't among them
pub record LeadsDown {E : Type 0} (over : E → E → Type 0) (tag : E → ℕ) (Q : E → Type 0) (x : E) : Type 0 where
  pub path : List E
  pub chain : IsChain over tag (path ++ x ∷ [])
  pub some : 0 < length path
  pub known : (y : E) → Contains path y → Q y

-- and from an entry on to another one
pub record LeadsOn {E : Type 0} (over : E → E → Type 0) (tag : E → ℕ) (Q : E → Type 0) (x : E) : Type 0 where
  pub path : List E
  pub chain : IsChain over tag (x ∷ path)
  pub some : 0 < length path
  pub known : (y : E) → Contains path y → Q y

-- which entries must stand behind a new one, and which before it
pub record HasSides {E : Type 0} (over : E → E → Type 0) (tag : E → ℕ) (P Q : E → Type 0) (behind before : E → Bool) : Type 0 where
  pub mirror : (x y : E) → over x y → over y x
  pub down : (a b : E) → P a → P b → behind a ≡ true → over a b → tag b < tag a → behind b ≡ true
  pub up : (a b : E) → P a → P b → before a ≡ true → over a b → tag a < tag b → before b ≡ true
  pub apart : (a : E) → P a → behind a ≡ true → before a ≡ false
  pub apart' : (a : E) → P a → before a ≡ true → behind a ≡ false
  pub leads_down : (a : E) → P a → behind a ≡ true → LeadsDown over tag Q a
  pub leads_on : (a : E) → P a → before a ≡ true → LeadsOn over tag Q a
  pub known : (a : E) → P a → Q a

-- what it leaves
pub record Passed {E : Type 0} (over : E → E → Type 0) (tag : E → ℕ) (P : E → Type 0) (behind before : E → Bool) (cut : ℕ) (d : List (Option E)) (t : Turn) : Type 0 where
  pub along : Along (Ordered over tag P) d (turn_moves d t)
  pub ordered : Ordered over tag P (applied d (turn_moves d t))
  pub once : AllOnce d → AllOnce (applied d (turn_moves d t))
  pub size : length (applied d (turn_moves d t)) ≡ length d

-- where the entries of a test lead on to such entries, all entries of a chain that begins with one pass it
alike : {E : Type 0} (way : Way) (over : E → E → Type 0) (tag : E → ℕ) (P : E → Type 0) (side : E → Bool) (p : Option E → Bool) (v : Bool) (d : List (Option E)) (f s : ℕ) (rest : List ℕ) (x : E)
    → ((a b : E) → P a → P b → side a ≡ true → over a b → IsBefore way (tag b) (tag a) → side b ≡ true) → Ordered over tag P d → slot d s ≡ Some x → side x ≡ true
    → IsMoveChain way over tag d f s rest → ((y : E) → P y → side y ≡ true → p (Some y) ≡ v) → Each (IsAlike p v d f) s rest
alike way over tag P side p v d f s [] x on o stands is c says = record {
  apart = apart way s f c.2;
  inside = slot_inside d s x stands;
  says = ap p stands ∙ says x (o.within s x stands) is;
}
alike way over tag P side p v d f s (t ∷ rest) x on o stands is c says =
    let a = c.0 in let g = a.4.0 in
    let same : a.0 ≡ x = let k : Some a.0 ≡ Some x = sym a.1 ∙ stands in cc in
    let is' : side g ≡ true = on x g (o.within s x stands) (o.within t g a.4.1) is (subst (λ z. over z g) same a.4.2) (subst (λ z. IsBefore way (tag g) (tag z)) same a.4.3) in (
      record {
        apart = apart way s f (before_all way s t f (no_later way s t a.2) (starts_before over tag d t rest c.1));
        inside = slot_inside d s x stands;
        says = ap p stands ∙ says x (o.within s x stands) is;
      },
      alike way over tag P side p v d f t rest g on o a.4.1 is' c.1 says,
    )
  where
    starts_before : {E : Type 0} (over : E → E → Type 0) (tag : E → ℕ) (d : List (Option E)) (s : ℕ) (rest : List ℕ) → IsMoveChain way over tag d f s rest → IsBefore way s f
    starts_before over tag d s [] c = c.2
    starts_before over tag d s (t ∷ rest) c = before_all way s t f (no_later way s t c.0.2) (starts_before over tag d t rest c.1)

-- the order, and one slot each
moved_keeps : {E : Type 0} (way : Way) (over : E → E → Type 0) (tag : E → ℕ) (P : E → Type 0) (behind before : E → Bool) (cut : ℕ) (d : List (Option E)) (f s : ℕ) (rest : List ℕ) (x : E) (t : Turn)
    → turn_moves d t ≡ chain_moves d f s rest ++ (s, None) ∷ []
    → ((x y : E) → over x y → over y x) → Ordered over tag P d → f < length d → slot d f ≡ None → slot d s ≡ Some x → IsMoveChain way over tag d f s rest
    → Passed over tag P behind before cut d t
moved_keeps {E} way over tag P behind before cut d f s rest x t made mirror o room free stands chain =
    let c = chain_keeps way over tag P d f s rest x mirror o room free stands chain in
    let b = applied d (chain_moves d f s rest) in
    let m = c.1 in
    let still : slot b s ≡ Some x = m.before s (no_later_self way s) ∙ m.stood in
    let k : Ordered over tag P (set b s None) = erase_copy_keeps over tag P b s m.ordered (slot_inside b s x still)
    (λ g y. (m.copy.0, (λ k. apart way s m.copy.0 m.copy.1 (sym k)), m.copy.2 ∙ (sym still ∙ y))) in
    let same : applied d (turn_moves d t) ≡ set b s None = ap (applied d) made ∙ applied_push d (chain_moves d f s rest) (s, None) in
    record {
      along = subst (Along (Ordered over tag P) d) (sym made) (Along_push (Ordered over tag P) d (chain_moves d f s rest) (s, None) c.0 k);
      ordered = subst (Ordered over tag P) (sym same) k;
      once = λ once. subst AllOnce (sym same) (moved_clears way over tag P d f s rest x mirror o once room free stands chain);
      size = ap length same ∙ (length-set b s None ∙ m.size);
    }

pub pass_keeps : {E : Type 0} (over : E → E → Type 0) (tag : E → ℕ) (P Q : E → Type 0) (behind before : E → Bool) (cut : ℕ) (d : List (Option E)) (t : Turn)
    → HasSides over tag P Q behind before → Ordered over tag P d → IsPass over tag behind before cut d t → Passed over tag P behind before cut d t
pass_keeps over tag P Q behind before cut d (Down f s rest) w o is =
    moved_keeps Downwards over tag P behind before cut d f s rest is.4.0 (Down f s rest) refl w.mirror o is.2 is.3 is.4.1 is.5
pass_keeps over tag P Q behind before cut d (Up f s rest) w o is =
    moved_keeps Upwards over tag P behind before cut d f s rest is.4.0 (Up f s rest) refl w.mirror o is.2 is.3 is.4.1 is.5

-- how the numbers change: one fewer stands on the wrong side, and an empty slot stands on the other
pub record GoesDown {E : Type 0} (behind before : E → Bool) (cut : ℕ) (d c : List (Option E)) : Type 0 where
  pub early_is : early behind cut d ≡ early behind cut c + 1
  pub late_is : late before cut c ≡ late before cut d
  pub before_is : free_before cut c ≡ free_before cut d + 1
  pub behind_is : free_behind cut d ≡ free_behind cut c + 1

pub record GoesUp {E : Type 0} (behind before : E → Bool) (cut : ℕ) (d c : List (Option E)) : Type 0 where
  pub early_is : early behind cut c ≡ early behind cut d
  pub late_is : late before cut d ≡ late before cut c + 1
  pub before_is : free_before cut d ≡ free_before cut c + 1
  pub behind_is : free_behind cut c ≡ free_behind cut d + 1

-- what the two tests say of the slots after a turn: that of the entries that it takes past the boundary, and the other one
pub record Shows {E : Type 0} (mine other : E → Bool) (d c : List (Option E)) (f s : ℕ) : Type 0 where
  pub moved : Moved (λ (h : Option E). holds mine h) d c s f
  pub kept : (i : ℕ) → holds other (slot d i) ≡ holds other (slot c i)
  pub freed : Moved (λ (h : Option E). is_none h) c d s f

shows : {E : Type 0} (way : Way) (over : E → E → Type 0) (tag : E → ℕ) (P : E → Type 0) (mine other : E → Bool) (d : List (Option E)) (f s : ℕ) (rest : List ℕ) (x : E)
    → ((a b : E) → P a → P b → mine a ≡ true → over a b → IsBefore way (tag b) (tag a) → mine b ≡ true) → ((a : E) → P a → mine a ≡ true → other a ≡ false) → Ordered over tag P d
    → f < length d → slot d f ≡ None → slot d s ≡ Some x → mine x ≡ true → IsMoveChain way over tag d f s rest → Shows mine other d (applied d (chain_moves d f s rest ++ (s, None) ∷ [])) f s
shows {E} way over tag P mine other d f s rest x on differ o room free stands is chain =
    let alike_mine = alike way over tag P mine (λ (h : Option E). holds mine h) true d f s rest x on o stands is chain (λ y p e. e) in
    let alike_other = alike way over tag P mine (λ (h : Option E). holds other h) false d f s rest x on o stands is chain differ in
    let alike_none = alike way over tag P mine (λ (h : Option E). is_none h) false d f s rest x on o stands is chain (λ y p e. refl) in
    subst (λ z. Shows mine other d z f s) (sym (applied_push d (chain_moves d f s rest) (s, None))) record {
      moved = turn_moves_one (λ (h : Option E). holds mine h) d f s rest room free refl alike_mine;
      kept = turn_keeps_others (λ (h : Option E). holds other h) d f s rest room free refl alike_other;
      freed = turn_frees_one (λ (h : Option E). is_none h) d f s rest room free refl alike_none;
    }

pub shows_down : {E : Type 0} (over : E → E → Type 0) (tag : E → ℕ) (P Q : E → Type 0) (behind before : E → Bool) (cut : ℕ) (d : List (Option E)) (f s : ℕ) (rest : List ℕ)
    → HasSides over tag P Q behind before → Ordered over tag P d → IsPass over tag behind before cut d (Down f s rest)
    → Shows behind before d (applied d (turn_moves d (Down f s rest))) f s
shows_down over tag P Q behind before cut d f s rest w o is =
    shows Downwards over tag P behind before d f s rest is.4.0 w.down w.apart o is.2 is.3 is.4.1 is.4.2 is.5

pub shows_up : {E : Type 0} (over : E → E → Type 0) (tag : E → ℕ) (P Q : E → Type 0) (behind before : E → Bool) (cut : ℕ) (d : List (Option E)) (f s : ℕ) (rest : List ℕ)
    → HasSides over tag P Q behind before → Ordered over tag P d → IsPass over tag behind before cut d (Up f s rest)
    → Shows before behind d (applied d (turn_moves d (Up f s rest))) f s
shows_up over tag P Q behind before cut d f s rest w o is =
    shows Upwards over tag P before behind d f s rest is.4.0 w.up w.apart' o is.2 is.3 is.4.1 is.4.2 is.5

pub goes_down : {E : Type 0} (over : E → E → Type 0) (tag : E → ℕ) (P Q : E → Type 0) (behind before : E → Bool) (cut : ℕ) (d : List (Option E)) (f s : ℕ) (rest : List ℕ)
    → HasSides over tag P Q behind before → Ordered over tag P d → cut ≤ length d → IsPass over tag behind before cut d (Down f s rest)
    → GoesDown behind before cut d (applied d (turn_moves d (Down f s rest)))
goes_down {E} over tag P Q behind before cut d f s rest w o inside is =
    let c = applied d (turn_moves d (Down f s rest)) in
    let k = shows_down over tag P Q behind before cut d f s rest w o is in
    let size = k.moved.size in
    let far = is.2 in
    let a = moved_counts (λ (h : Option E). holds behind h) d c s f cut k.moved is.0 is.1 is.2 in
    let b = same_counts (λ (h : Option E). holds before h) d c cut k.moved.size k.kept inside in
    let e = moved_counts (λ (h : Option E). is_none h) c d s f cut k.freed is.0 is.1 (omega arith) in
    record { early_is = a.0; late_is = b.1; before_is = e.0; behind_is = e.1 }

pub goes_up : {E : Type 0} (over : E → E → Type 0) (tag : E → ℕ) (P Q : E → Type 0) (behind before : E → Bool) (cut : ℕ) (d : List (Option E)) (f s : ℕ) (rest : List ℕ)
    → HasSides over tag P Q behind before → Ordered over tag P d → cut ≤ length d → IsPass over tag behind before cut d (Up f s rest)
    → GoesUp behind before cut d (applied d (turn_moves d (Up f s rest)))
goes_up {E} over tag P Q behind before cut d f s rest w o inside is =
    let c = applied d (turn_moves d (Up f s rest)) in
    let k = shows_up over tag P Q behind before cut d f s rest w o is in
    let size = k.moved.size in
    let s_in : s < length d = slot_inside d s is.4.0 is.4.1 in
    let back : Moved (λ (h : Option E). holds before h) c d f s = moved_back (λ (h : Option E). holds before h) d c s f k.moved in
    let free : Moved (λ (h : Option E). is_none h) d c f s = moved_back (λ (h : Option E). is_none h) c d s f k.freed in
    let a = moved_counts (λ (h : Option E). holds before h) c d f s cut back is.1 is.0 (omega arith) in
    let b = same_counts (λ (h : Option E). holds behind h) d c cut k.moved.size k.kept inside in
    let e = moved_counts (λ (h : Option E). is_none h) d c f s cut free is.1 is.0 s_in in
    record { early_is = sym b.0; late_is = a.1; before_is = e.0; behind_is = e.1 }
