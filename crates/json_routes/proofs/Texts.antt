-- What a text comes to, and an import, by what their calls answer.
use Rattle.std.proofs.Common.{◌≡◌, ◌≢◌, ◌≤◌, ℕ, Bool, false, inl, inr, Option, Some, None, List, [], ◌∷◌, ◌++◌, length, take, refl, sym, ap, ◌∙◌, subst, append-nil, append_assoc}
use Rattle.std.specs.Prelude.{IfOk, Ok, Err, Result, is_ok, if◌then◌else◌}
use Rattle.std.specs.Result.{is_err}
use Rattle.std.specs.List.{concat}
use Rattle.std.specs.Str.{IsUtf8}
use Rattle.std.specs.Io.KnownBytes.{Consumes, IsAtEnd}
use Rattle.std.proofs.KnownBytes.{Consumes-trans}
use Rattle.std.proofs.lemmas.List.{length-take-le}
use Rattle.json.specs.Json.{Json, Items, null, boolean, number, string, array, object, document}
use Rattle.json.specs.Find.{as_array}
use Rattle.script_lines.specs.Given.{GivesPieces, HasEnd}
use Rattle.script_lines.proofs.Pieces.{concat-one, end-either, end-one, end-right, end-still}
use Rattle.script_lines.proofs.Turns.{gives-none}
use Rattle.script_runs.specs.declared.Status.{Status}
use Rattle.script_runs.specs.declared.Status.TheVariants as status
use Rattle.import_lines.specs.Writes.{ClosesBy}
use Rattle.ip_routes.specs.Telling.{Known}
use Rattle.json_routes.specs.Items.{items_script}
use Rattle.json_routes.specs.Texts.{IsScriptOf, JsonBy, Told, TextTold, ByItems, NoArray, no_array}

-- a value that has items
is-array : (value : Json) (items : Items) → as_array value ≡ Some items → value ≡ array items
is-array value items is = by value is
  where
    by : (v : Json) → as_array v ≡ Some items → v ≡ array items
    by null e = absurd (cc)
    by (boolean b) e = absurd (cc)
    by (number s) e = absurd (cc)
    by (string s) e = absurd (cc)
    by (object ms) e = absurd (cc)
    by (array js) e = ap array (some-same e)
      where
        some-same : Some js ≡ Some items → js ≡ items
        some-same e = cc

pub by-items : (leave_out : Bool) (known : Known) (text written : List ℕ) (answer : Status) (value : Json) (items : Items) → IsUtf8 text → document text ≡ Some value → as_array value ≡ Some items
    → IsScriptOf (items_script leave_out known 1 0 items) written answer → TextTold leave_out known text written answer
by-items leave_out known text written answer value items utf is has script =
    ByItems items (utf, is ∙ ap Some (is-array value items has)) script

pub items-told : {E : Type 0} → (r : Result Status E) (leave_out : Bool) (known : Known) (text written : List ℕ) (value : Json) (items : Items) → IsUtf8 text → document text ≡ Some value → as_array value ≡ Some items
    → IfOk r (λ answer. IsScriptOf (items_script leave_out known 1 0 items) written answer) → IfOk r (λ answer. TextTold leave_out known text written answer)
items-told (Ok answer) leave_out known text written value items utf is has script = by-items leave_out known text written answer value items utf is has script
items-told (Err e) leave_out known text written value items utf is has script = tt

-- one that has none
pub no-items : (leave_out : Bool) (known : Known) (text written : List ℕ) (answer : Status) (value : Json) → document text ≡ Some value → as_array value ≡ None
    → written ≡ no_array → answer ≡ status.Script → TextTold leave_out known text written answer
no-items leave_out known text written answer value is has put ends = NoArray (λ items both. absurd (clash items both.1)) put ends
  where
    clash : (items : Items) → document text ≡ Some (array items) → ⊥
    clash items other =
        let same : Some value ≡ Some (array items) = sym is ∙ other in
        let value_is : value ≡ array items = cc in
        let bad : None ≡ Some items = sym has ∙ ap as_array value_is in
        absurd (cc)

-- no JSON
pub no-json : (leave_out : Bool) (known : Known) (text written : List ℕ) (answer : Status) → (IsUtf8 text → document text ≡ None)
    → written ≡ no_array → answer ≡ status.Script → TextTold leave_out known text written answer
no-json leave_out known text written answer none put ends = NoArray (λ items both. clash items both.0 both.1) put ends
  where
    clash : (items : Items) → IsUtf8 text → document text ≡ Some (array items) → ⊥
    clash items utf other =
        let bad : None ≡ Some (array items) = sym (none utf) ∙ other in
        absurd (cc)

-- ---- an import

pub tells-whole : (leave_out : Bool) (known : Known) (pieces : List (List ℕ)) (answer last : Status) (old new : Option (List ℕ)) (text bytes written given : List ℕ) → HasEnd pieces × (text ≡ concat pieces)
    → bytes ≡ text → TextTold leave_out known bytes written last → given ≡ written → ClosesBy given last answer old new → JsonBy leave_out known pieces answer old new
tells-whole leave_out known pieces answer last old new text bytes written given whole same told handed closes = Told (record {
  ended = whole.0;
  written = written;
  last = last;
  told = subst (λ t. TextTold leave_out known t written last) (same ∙ whole.1) told;
  writes = subst (λ w. ClosesBy w last answer old new) handed closes;
})

-- ---- reading

-- a piece that isn't the end
pub record HasRead (given_old given_new : List (List ℕ)) (left_old left_new : Option (List ℕ)) (text : List ℕ) : Type 0 where
  pub pieces : List (List ℕ)
  pub gives : GivesPieces given_old given_new left_old left_new pieces
  pub whole : text ≡ concat pieces
  pub goes_on : HasEnd pieces → ⊥

pub read-none : (given : List (List ℕ)) (left : Option (List ℕ)) → HasRead given given left left []
read-none given left = record { pieces = []; gives = gives-none given left; whole = refl; goes_on = λ e. e }

gives-more : (given0 given1 given2 : List (List ℕ)) (a b c : Option (List ℕ)) (pieces : List (List ℕ)) (piece : List ℕ) → GivesPieces given0 given1 a b pieces → (HasEnd pieces → ⊥)
    → given2 ≡ given1 ++ piece ∷ [] → Consumes b c piece → (piece ≡ [] → IsAtEnd c) → GivesPieces given0 given2 a c (pieces ++ piece ∷ [])
gives-more given0 given1 given2 a b c pieces piece is goes_on given taken end = record {
  given = given ∙ ap (λ l. l ++ piece ∷ []) is.given ∙ append_assoc given0 pieces (piece ∷ []);
  taken = subst (λ bytes. Consumes a c bytes) (sym (concat-one pieces piece)) (Consumes-trans a b c (concat pieces) piece is.taken taken);
  end = λ e. elim (end-either pieces (piece ∷ []) e) [ inl l ↦ absurd (goes_on l) | inr r ↦ end (end-one piece r) ];
}

pub read-more : (given0 given1 given2 : List (List ℕ)) (a b c : Option (List ℕ)) (text new into : List ℕ) (n : ℕ) → HasRead given0 given1 a b text → n ≤ length into → n ≢ 0
    → given2 ≡ given1 ++ take n into ∷ [] → Consumes b c (take n into) → new ≡ text ++ take n into → HasRead given0 given2 a c new
read-more given0 given1 given2 a b c text new into n is count some given taken put =
    let size : length (take n into) ≡ n = length-take-le n into count in
    record {
      pieces = is.pieces ++ take n into ∷ [];
      gives = gives-more given0 given1 given2 a b c is.pieces (take n into) is.gives is.goes_on given taken (λ e. absurd (some (sym size ∙ ap length e)));
      whole = put ∙ ap (λ l. l ++ take n into) is.whole ∙ sym (concat-one is.pieces (take n into));
      goes_on = end-still is.pieces (take n into) n size some is.goes_on;
    }

-- the end
pub read-whole : (given0 given1 given2 : List (List ℕ)) (a b c : Option (List ℕ)) (text into : List ℕ) (n : ℕ) (is : HasRead given0 given1 a b text) → n ≡ 0
    → given2 ≡ given1 ++ take n into ∷ [] → Consumes b c (take n into) → IsAtEnd c
    → GivesPieces given0 given2 a c (is.pieces ++ take n into ∷ []) × (HasEnd (is.pieces ++ take n into ∷ []) × (text ≡ concat (is.pieces ++ take n into ∷ [])))
read-whole given0 given1 given2 a b c text into n is none given taken end =
    let nothing : take n into ≡ [] = ap (λ k. take k into) none in (
      gives-more given0 given1 given2 a b c is.pieces (take n into) is.gives is.goes_on given taken (λ e. end),
      (
        end-right is.pieces (take n into ∷ []) (inl nothing),
        is.whole ∙ sym (append-nil (concat is.pieces)) ∙ ap (λ l. concat is.pieces ++ l) (sym nothing) ∙ sym (concat-one is.pieces (take n into)),
      ),
    )

-- bytes that were put
pub put-ok : {E : Type 0} → (r : Result (Unit {0}) E) (new old other : List ℕ) → new ≡ (if is_ok r then old ++ other else old) → is_err r ≡ false → new ≡ old ++ other
put-ok (Ok done) new old other put is = put
put-ok (Err e) new old other put is = absurd (cc)
