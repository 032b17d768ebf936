-- Doubly linked lists of places, by their links alone.
use Rattle.std.specs.Prelude.{◌≡◌, ◌≢◌, ◌<◌, ℕ, List, [], ◌∷◌, Contains, length, slice_index_or}
use Rattle.order_chains.specs.Chains.{nil}

-- from the place h on, with `before` behind it, the places xs follow one another
abbrev pub Seg : (ℕ → ℕ) → (ℕ → ℕ) → ℕ → ℕ → List ℕ → Type 0
Seg next back before h [] = h ≡ nil
Seg next back before h (x ∷ xs) = (h ≡ x) × (x ≢ nil) × (back x ≡ before) × Seg next back x (next x) xs

-- no place twice
abbrev pub Apart : List ℕ → Type 0
Apart [] = Unit {0}
Apart (x ∷ xs) = (Contains xs x → ⊥) × Apart xs

-- each id below the number of heads has a list, from its head on: the places below `len` of which it is the owner
pub record AreLists (next back owner : ℕ → ℕ) (heads : List ℕ) (len : ℕ) : Type 0 where
  pub lists : ℕ → List ℕ
  pub linked : (id : ℕ) → id < length heads → Seg next back nil (slice_index_or heads id nil) (lists id)
  pub apart : (id : ℕ) → id < length heads → Apart (lists id)
  pub inside : (id p : ℕ) → id < length heads → Contains (lists id) p → (p < len) × (owner p ≡ id)
  pub each : (p : ℕ) → p < len → owner p < length heads → Contains (lists (owner p)) p
