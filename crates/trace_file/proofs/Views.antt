-- What the code's views are in the words of a line.
use Rattle.std.proofs.Common.{◌≡◌, ◌<◌, ◌≤◌, List, [], ◌∷◌, length, get_or, Some, None, refl, sym, ap, ◌∙◌, arith}
use Rattle.std.specs.Prelude.{map}
use Rattle.std.proofs.lemmas.List.{length-map}
use Rattle.serde_json.specs.Data.{Data}
use Rattle.serde_json.specs.Find.{as_array}
use Rattle.serde_json.specs.View.{view, items_of, items_view}
use Rattle.serde_json.specs.declared.value.Value.{Value}
use Rattle.trace_file.specs.Values.{listed, values_in, rule_in, entry_in}
use Rattle.trace_file.specs.Lines.{change_in}

listed-items_of : (ds : List Data) → listed (items_of ds) ≡ ds
listed-items_of [] = refl
listed-items_of (d ∷ ds) = ap (λ more. d ∷ more) (listed-items_of ds)

-- the values of an array,
pub array-values : (value : Data) (xs items : List Value) → Some (items_view items) ≡ as_array value → xs ≡ items → values_in value ≡ map view xs
array-values value xs items is same = rw (← is, same) (listed-items_of (map view items))

-- of eleven items
pub eleven-values : {a b c d e f g h i j k : Value} (value : Data) (xs items : List Value) → Some (items_view items) ≡ as_array value → xs ≡ items → 11 ≤ length xs → length xs < 12
    → a ≡ get_or xs 0 a → b ≡ get_or xs 1 b → c ≡ get_or xs 2 c → d ≡ get_or xs 3 d → e ≡ get_or xs 4 e → f ≡ get_or xs 5 f → g ≡ get_or xs 6 g → h ≡ get_or xs 7 h → i ≡ get_or xs 8 i → j ≡ get_or xs 9 j → k ≡ get_or xs 10 k
    → values_in value ≡ view a ∷ view b ∷ view c ∷ view d ∷ view e ∷ view f ∷ view g ∷ view h ∷ view i ∷ view j ∷ view k ∷ []
eleven-values {a = a} {b = b} {c = c} {d = d} {e = e} {f = f} {g = g} {h = h} {i = i} {j = j} {k = k} value (x0 ∷ x1 ∷ x2 ∷ x3 ∷ x4 ∷ x5 ∷ x6 ∷ x7 ∷ x8 ∷ x9 ∷ x10 ∷ []) items is same least below e0 e1 e2 e3 e4 e5 e6 e7 e8 e9 e10 =
    let s0 : a ≡ x0 = e0 in
    let s1 : b ≡ x1 = e1 in
    let s2 : c ≡ x2 = e2 in
    let s3 : d ≡ x3 = e3 in
    let s4 : e ≡ x4 = e4 in
    let s5 : f ≡ x5 = e5 in
    let s6 : g ≡ x6 = e6 in
    let s7 : h ≡ x7 = e7 in
    let s8 : i ≡ x8 = e8 in
    let s9 : j ≡ x9 = e9 in
    let s10 : k ≡ x10 = e10 in
    rw (array-values value _ items is same, s0, s1, s2, s3, s4, s5, s6, s7, s8, s9, s10) refl
eleven-values value xs items is same least below e0 e1 e2 e3 e4 e5 e6 e7 e8 e9 e10 = absurd (omega arith)

-- of twelve items
pub twelve-values : {a b c d e f g h i j k l : Value} (value : Data) (xs items : List Value) → Some (items_view items) ≡ as_array value → xs ≡ items → 12 ≤ length xs → length xs < 13
    → a ≡ get_or xs 0 a → b ≡ get_or xs 1 b → c ≡ get_or xs 2 c → d ≡ get_or xs 3 d → e ≡ get_or xs 4 e → f ≡ get_or xs 5 f → g ≡ get_or xs 6 g → h ≡ get_or xs 7 h → i ≡ get_or xs 8 i → j ≡ get_or xs 9 j → k ≡ get_or xs 10 k → l ≡ get_or xs 11 l
    → values_in value ≡ view a ∷ view b ∷ view c ∷ view d ∷ view e ∷ view f ∷ view g ∷ view h ∷ view i ∷ view j ∷ view k ∷ view l ∷ []
twelve-values {a = a} {b = b} {c = c} {d = d} {e = e} {f = f} {g = g} {h = h} {i = i} {j = j} {k = k} {l = l} value (x0 ∷ x1 ∷ x2 ∷ x3 ∷ x4 ∷ x5 ∷ x6 ∷ x7 ∷ x8 ∷ x9 ∷ x10 ∷ x11 ∷ []) items is same least below e0 e1 e2 e3 e4 e5 e6 e7 e8 e9 e10 e11 =
    let s0 : a ≡ x0 = e0 in
    let s1 : b ≡ x1 = e1 in
    let s2 : c ≡ x2 = e2 in
    let s3 : d ≡ x3 = e3 in
    let s4 : e ≡ x4 = e4 in
    let s5 : f ≡ x5 = e5 in
    let s6 : g ≡ x6 = e6 in
    let s7 : h ≡ x7 = e7 in
    let s8 : i ≡ x8 = e8 in
    let s9 : j ≡ x9 = e9 in
    let s10 : k ≡ x10 = e10 in
    let s11 : l ≡ x11 = e11 in
    rw (array-values value _ items is same, s0, s1, s2, s3, s4, s5, s6, s7, s8, s9, s10, s11) refl
twelve-values value xs items is same least below e0 e1 e2 e3 e4 e5 e6 e7 e8 e9 e10 e11 = absurd (omega arith)

-- no rule has another number of values
pub rule_in-other : (value : Data) (xs items : List Value) → Some (items_view items) ≡ as_array value → xs ≡ items → (length xs ≡ 11 → ⊥) → rule_in (values_in value) ≡ None
rule_in-other value xs items is same other = rw (array-values value xs items is same) (rule_in-none (map view xs) (λ e. other (sym (length-map xs view) ∙ e)))
  where
    rule_in-none : (values : List Data) → (length values ≡ 11 → ⊥) → rule_in values ≡ None
    rule_in-none (a ∷ b ∷ c ∷ d ∷ e ∷ f ∷ g ∷ h ∷ i ∷ j ∷ k ∷ []) other = absurd (other refl)
    rule_in-none values other = refl

-- no entry has another number of values
pub entry_in-other : (value : Data) (xs items : List Value) → Some (items_view items) ≡ as_array value → xs ≡ items → (length xs ≡ 12 → ⊥) → entry_in (values_in value) ≡ None
entry_in-other value xs items is same other = rw (array-values value xs items is same) (entry_in-none (map view xs) (λ e. other (sym (length-map xs view) ∙ e)))
  where
    entry_in-none : (values : List Data) → (length values ≡ 12 → ⊥) → entry_in values ≡ None
    entry_in-none (a ∷ b ∷ c ∷ d ∷ e ∷ f ∷ g ∷ h ∷ i ∷ j ∷ k ∷ l ∷ []) other = absurd (other refl)
    entry_in-none values other = refl

-- no change of a result has another number of values
pub change_in-other : (value : Data) (xs items : List Value) → Some (items_view items) ≡ as_array value → xs ≡ items → (length xs ≡ 2 → ⊥) → change_in (values_in value) ≡ None
change_in-other value xs items is same other = rw (array-values value xs items is same) (change_in-none (map view xs) (λ e. other (sym (length-map xs view) ∙ e)))
  where
    change_in-none : (values : List Data) → (length values ≡ 2 → ⊥) → change_in values ≡ None
    change_in-none (a ∷ b ∷ []) other = absurd (other refl)
    change_in-none values other = refl
