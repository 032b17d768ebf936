-- Runs of acts, one after the other.
use Rattle.std.specs.Prelude.{◌≡◌, List, [], ◌∷◌, ◌++◌}

-- the acts one after the other, by what one of them does from where a run stands, with its effects
abbrev pub Run : {A P E : Type 0} → (P → A → List E → P → Type 0) → P → List A → List E → P → Type 0
Run Step old [] effects new = (effects ≡ []) × (new ≡ old)
Run {P = P} {E = E} Step old (act ∷ acts) effects new =
    (front : List E) × (mid : P) × (back : List E) × Step old act front mid × Run Step mid acts back new × (effects ≡ front ++ back)
