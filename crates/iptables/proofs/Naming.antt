-- The numbers of chains.
use Rattle.std.proofs.Common.{◌≡◌, ◌+◌, ℕ, Bool, true, false, cond, ◌||◌, Option, Some, None, Result, OnOk, List, [], ◌∷◌, ◌++◌, position, refl, sym, ap, ◌∙◌, subst}
use Rattle.std.specs.Prelude.{Vec, map}
use Rattle.std.specs.List.{list_any, position_from}
use Rattle.std.proofs.lemmas.List.{map-append}
use Rattle.std.proofs.lemmas.Iterator.Adapters.{position_from-zero}
use Rattle.indexmap.specs.IndexSet.{insert_key}
use Rattle.std.specs.Str.{bytes_eq}
use Rattle.iptables.specs.Names.{number_from, name_number, names_by, names_with}

-- the one at a place, where the words of several are told by this
number-at : {K : Type 0} → (words : K → List ℕ) (name : List ℕ) (names : List K) (place : ℕ)
    → position_from (λ k. bytes_eq name (words k)) place names ≡ number_from place (map words names) name
number-at words name [] place = refl
number-at words name (first ∷ names) place = ap (λ o. cond (bytes_eq name (words first)) (Some place) o) (number-at words name names (place + 1))

-- one that has none is put behind the others
none-among : {K : Type 0} → (words : K → List ℕ) (name : List ℕ) (names : List K) (number : ℕ) → number_from number (map words names) name ≡ None → list_any (λ k. bytes_eq name (words k)) names ≡ false
none-among words name [] number none = refl
none-among words name (first ∷ names) number none = by (bytes_eq name (words first)) none (none-among words name names (number + 1))
  where
    by : (b : Bool) → cond b (Some number) (number_from (number + 1) (map words names) name) ≡ None → (number_from (number + 1) (map words names) name ≡ None → list_any (λ k. bytes_eq name (words k)) names ≡ false)
        → (b || list_any (λ k. bytes_eq name (words k)) names) ≡ false
    by true some behind = absurd (cc)
    by false behind_none behind = behind behind_none

added-last : {K : Type 0} → (words : K → List ℕ) (name : List ℕ) (names new : List K) (key : K) → name_number (map words names) name ≡ None → words key ≡ name
    → new ≡ insert_key (λ a b. bytes_eq (words a) (words b)) names key → map words new ≡ map words names ++ name ∷ []
added-last words name names new key none key_is is =
    ap (λ l. map words l) (is ∙ ap (λ b. cond b names (names ++ key ∷ [])) (ap (λ w. list_any (λ k. bytes_eq w (words k)) names) key_is ∙ none-among words name names 0 none))
    ∙ map-append words names (key ∷ []) ∙ ap (λ w. map words names ++ w ∷ []) key_is

-- the names of the table
pub name-place : {Z : Type 0} → (name : List ℕ) (keys : List (Vec ℕ Z)) (names : List (List ℕ)) (found : Option ℕ) → map (λ (w : Vec ℕ Z). w.items) keys ≡ names
    → found ≡ position (λ (k : Vec ℕ Z). bytes_eq name k.items) keys → found ≡ name_number names name
name-place {Z} name keys names found view_is is =
    is ∙ position_from-zero (λ (k : Vec ℕ Z). bytes_eq name k.items) keys ∙ number-at (λ (w : Vec ℕ Z). w.items) name keys 0 ∙ ap (λ n. name_number n name) view_is

pub name-added : {Z : Type 0} → (name : List ℕ) (keys new : List (Vec ℕ Z)) (names : List (List ℕ)) (key : Vec ℕ Z) → map (λ (w : Vec ℕ Z). w.items) keys ≡ names → None ≡ name_number names name → key.items ≡ name
    → new ≡ insert_key (λ (a : Vec ℕ Z) (b : Vec ℕ Z). bytes_eq a.items b.items) keys key → map (λ (w : Vec ℕ Z). w.items) new ≡ names ++ name ∷ []
name-added {Z} name keys new names key view_is none key_is is =
    added-last (λ (w : Vec ℕ Z). w.items) name keys new key (ap (λ n. name_number n name) view_is ∙ sym none) key_is is ∙ ap (λ n. n ++ name ∷ []) view_is

-- it has one, or none
pub names-found : (names : List (List ℕ)) (name : List ℕ) (number : ℕ) → Some number ≡ name_number names name → names ≡ names_with names name
names-found names name number is = ap (λ o. names_by names name o) is

pub names-none : {E : Type 0} → (names new : List (List ℕ)) (name : List ℕ) (r : Result (Unit {0}) E) → None ≡ name_number names name → OnOk r (new ≡ names ++ name ∷ []) → OnOk r (new ≡ names_with names name)
names-none names new name r none is = subst (λ o. OnOk r (new ≡ names_by names name o)) none is
