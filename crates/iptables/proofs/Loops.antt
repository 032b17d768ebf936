-- The items that loops put, one after the other.
use Rattle.std.proofs.Common.{◌≡◌, ◌<◌, ◌≤◌, ◌+◌, ℕ, List, [], ◌∷◌, ◌++◌, length, drop, get_or, sym, ap, ◌∙◌, append-nil, append_assoc}
use Rattle.std.proofs.lemmas.List.{at_drop_more, at_drop_all}

-- a part is put, and the rest is to come
pub part-next : {B : Type 0} → (into new part rest : List B) → new ≡ into ++ part → new ++ rest ≡ into ++ (part ++ rest)
part-next into new part rest put = ap (λ l. l ++ rest) put ∙ append_assoc into part rest

pub each-next : {A B : Type 0} → (all : List A → List B) (one : A → List B) → ((item : A) (items : List A) → all (item ∷ items) ≡ one item ++ all items)
    → (items : List A) (into new : List B) (place : ℕ) (item unused : A) → place < length items → item ≡ get_or items place unused → new ≡ into ++ one item
    → new ++ all (drop (place + 1) items) ≡ into ++ all (drop place items)
each-next all one each items into new place item unused below is put =
    part-next into new (one item) (all (drop (place + 1) items)) put
    ∙ ap (λ i. into ++ (one i ++ all (drop (place + 1) items))) is
    ∙ ap (λ l. into ++ l) (sym (each (get_or items place unused) (drop (place + 1) items)))
    ∙ sym (ap (λ l. into ++ l) (at_drop_more all items place unused below))

pub each-end : {A B : Type 0} → (all : List A → List B) → all [] ≡ [] → (items : List A) (into : List B) (place : ℕ) → length items ≤ place → into ++ all (drop place items) ≡ into
each-end all none items into place past = ap (λ l. into ++ l) (at_drop_all all items place past ∙ none) ∙ append-nil into
