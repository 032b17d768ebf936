-- The row of an argument that takes a number, where clap finds no fault: what uses and defaults make of it.
use Rattle.std.proofs.Common.{◌≡◌, ◌∙◌, ◌&&◌, ◌||◌, ℕ, suc, Bool, cond, true, false, not, refl, sym, subst, ap, List, [], ◌∷◌, ◌++◌, length, codes, Option, Some, None}
use Rattle.std.specs.Prelude.{⊤, ◌+◌, min, slice_get, unwrap_or, find, option_and_then}
use Rattle.std.specs.Option.{option_map_or}
use Rattle.std.specs.Str.{bytes_eq}
use Rattle.std.proofs.lemmas.Slice.Eq.{bytes_eq-Decides}
use Rattle.slot_order.specs.Order.{script_slots}
use Rattle.clap.specs.ValueTests.{is_unsigned_in}
use Rattle.clap.specs.Facts.{explicit_source}
use Rattle.clap.specs.Walk.{Row, Rule, Text, action_of, at_row, default_rows, has_row, more_values, new_count, reading_by, stronger, used, used_as, values_or_missing, with_default, with_values, with_count, without, count_of}
use Rattle.clap.specs.Matches.{count_text}
use Rattle.clap.specs.Simple.{filled, new_rule, with_index}
use Rattle.clap.specs.Kinds.{Kinds, or_else, range_kinds, values_kinds}
use Rattle.clap.specs.Faults.{repeat_fault, use_fault}
use Rattle.clap.specs.declared.builder.value_parser.Reading.{Reading}
use Rattle.clap.specs.declared.builder.value_parser.ValueParser.TheVariants.{Unsigned}
use Rattle.clap.specs.declared.builder.action.ArgAction.{ArgAction}
use Rattle.clap.specs.declared.builder.action.ArgAction.TheVariants as action
use Rattle.clap.specs.declared.error.kind.ErrorKind.{ErrorKind}
use Rattle.clap.specs.declared.error.kind.ErrorKind.TheVariants as kind
use Rattle.clap.specs.declared.parser.matches.ValueSource.{ValueSource}
use Rattle.clap.specs.declared.parser.matches.ValueSource.TheVariants.{CommandLine, DefaultValue}
use Rattle.option_words.specs.Options.{number_position, slots_option, text_of}

-- the first row of an argument, if there is one
abbrev pub row_of : Text → List Row → Option Row
row_of id rows = find (λ r. bytes_eq r.id id) rows

-- the text that a row begins with
abbrev pub first_text : Option Row → Text
first_text row = unwrap_or (option_and_then (λ r. slice_get r.values 0) row) []

-- it begins with a number in the range, if it is there
abbrev pub GoodIn : ℕ → ℕ → Option Row → Type 0
GoodIn low high None = ⊤
GoodIn low high (Some r) = is_unsigned_in low high (unwrap_or (slice_get r.values 0) []) ≡ true

abbrev pub Good : Text → ℕ → ℕ → List Row → Type 0
Good id low high rows = GoodIn low high (row_of id rows)

-- the argument has a number in the range
abbrev pub HasNumber : Text → ℕ → ℕ → List Row → Type 0
HasNumber id low high rows = is_unsigned_in low high (text_of id rows) ≡ true

-- ---- small parts

pub or_nil : (a b : Kinds) → or_else a b ≡ [] → (a ≡ []) × (b ≡ [])
or_nil [] b e = (refl, e)
or_nil (k ∷ ks) b e = cc

some_kind : (k : ErrorKind) (ks : Kinds) → (k ∷ ks) ≡ [] → ⊥
some_kind k ks e = cc

else_nil : (t : Bool) (k : ErrorKind) → cond t [] (k ∷ []) ≡ [] → t ≡ true
else_nil true k e = refl
else_nil false k e = absurd (some_kind k [] e)

then_nil : (t : Bool) (k : ErrorKind) → cond (t && not false) (k ∷ []) [] ≡ [] → t ≡ false
then_nil true k e = absurd (some_kind k [] e)
then_nil false k e = refl

pub or_no : (a b : Bool) → (a || b) ≡ false → (a ≡ false) × (b ≡ false)
or_no false b e = (refl, e)
or_no true b e = cc

-- ---- the rows of another argument

module _ (id : Text) where
  module _ (other : Text) (apart : bytes_eq other id ≡ false) where
    other_row : (r : Row) → bytes_eq r.id other ≡ true → bytes_eq r.id id ≡ false
    other_row r is = ap (λ name. bytes_eq name id) ((bytes_eq-Decides r.id other).0 is) ∙ apart

    none_here : (r : Row) (behind : List Row) → bytes_eq r.id id ≡ false → row_of id (r ∷ behind) ≡ row_of id behind
    none_here r behind is = ap (λ here. cond here (Some r) (row_of id behind)) is

    elsewhere : (change : Row → List Row) (missing : List Row) → ((r : Row) (behind : List Row) → bytes_eq r.id other ≡ true → row_of id (change r ++ behind) ≡ row_of id behind)
        → row_of id missing ≡ None → (rows : List Row) → row_of id (at_row other change missing rows) ≡ row_of id rows
    elsewhere change missing kept none [] = none
    elsewhere change missing kept none (r ∷ rs) = go (bytes_eq r.id other) refl (elsewhere change missing kept none rs)
      where
        go : (b : Bool) → bytes_eq r.id other ≡ b → row_of id (at_row other change missing rs) ≡ row_of id rs
            → row_of id (cond b (change r ++ rs) (r ∷ at_row other change missing rs)) ≡ row_of id (r ∷ rs)
        go true is more = kept r rs is ∙ sym (none_here r rs (other_row r is))
        go false is more = ap (λ rest. cond (bytes_eq r.id id) (Some r) rest) more

    values_apart : (how : Reading) (source : ValueSource) (values : List Text) (rows : List Row) → row_of id (with_values other how source values rows) ≡ row_of id rows
    values_apart how source values rows =
        elsewhere (more_values source values) _ (λ r behind is. none_here (record r { values = r.values ++ values; source = Some (stronger r.source source) }) behind (other_row r is))
        (none_here (record { id = other; values = values; count = None; source = Some source; reading = how }) [] apart) rows

    count_apart : (how : Reading) (source : ValueSource) (n : ℕ) (rows : List Row) → row_of id (with_count other how source n rows) ≡ row_of id rows
    count_apart how source n rows =
        elsewhere (new_count source n) _ (λ r behind is. none_here (record r { values = r.values ++ count_text n ∷ []; count = Some n; source = Some (stronger r.source source) }) behind (other_row r is))
        (none_here (record { id = other; values = count_text n ∷ []; count = Some n; source = Some source; reading = how }) [] apart) rows

    without_apart : (rows : List Row) → row_of id (without other rows) ≡ row_of id rows
    without_apart rows = elsewhere (λ _. []) [] (λ r behind is. refl) refl rows

    used_as-apart : (x : ArgAction) (how : Reading) (values : List Text) (rows : List Row) → row_of id (used_as x other how values rows) ≡ row_of id rows
    used_as-apart action.Set how values rows = values_apart how CommandLine values (without other rows) ∙ without_apart rows
    used_as-apart action.SetTrue how values rows = values_apart how CommandLine values (without other rows) ∙ without_apart rows
    used_as-apart action.SetFalse how values rows = values_apart how CommandLine values (without other rows) ∙ without_apart rows
    used_as-apart action.Append how values rows = values_apart how CommandLine values rows
    used_as-apart action.Count how [] rows = count_apart how CommandLine (min (count_of other rows + 1) 255) (without other rows) ∙ without_apart rows
    used_as-apart action.Count how (v ∷ vs) rows = values_apart how CommandLine (v ∷ vs) (without other rows) ∙ without_apart rows
    used_as-apart action.Help how values rows = refl
    used_as-apart action.HelpShort how values rows = refl
    used_as-apart action.HelpLong how values rows = refl
    used_as-apart action.Version how values rows = refl

    default_rows-apart : (how : Reading) (values : List Text) (rows : List Row) → row_of id (default_rows other how values rows) ≡ row_of id rows
    default_rows-apart how [] rows = refl
    default_rows-apart how (v ∷ vs) rows = values_apart how DefaultValue (v ∷ vs) rows

  -- a use of another argument, and its default
  pub used-apart : (a : Rule) → bytes_eq a.id id ≡ false → (values : List Text) (rows : List Row) → row_of id (used a values rows) ≡ row_of id rows
  used-apart a apart values rows = used_as-apart a.id apart (action_of a) (reading_by a) (values_or_missing a values) rows

  pub default-apart : (a : Rule) → bytes_eq a.id id ≡ false → (rows : List Row) → row_of id (with_default rows a) ≡ row_of id rows
  default-apart a apart rows = go (has_row a.id rows)
    where
      go : (b : Bool) → row_of id (cond b rows (default_rows a.id (reading_by a) a.defaults rows)) ≡ row_of id rows
      go true = refl
      go false = default_rows-apart a.id apart (reading_by a) a.defaults rows

  -- ---- its own row

  same_id : bytes_eq id id ≡ true
  same_id = (bytes_eq-Decides id id).1 refl

  -- a row that joins where there was none is the one found
  fresh : (change : Row → List Row) (new : Row) → new.id ≡ id → (rows : List Row) → has_row id rows ≡ false → row_of id (at_row id change (new ∷ []) rows) ≡ Some new
  fresh change new is [] none = ap (λ here. cond here (Some new) None) (ap (λ name. bytes_eq name id) is ∙ same_id)
  fresh change new is (r ∷ rs) none =
      let parts = or_no (bytes_eq r.id id) (has_row id rs) none in
      rw parts.0 (rw parts.0 (fresh change new is rs parts.1))

  unchanged : (rows : List Row) → has_row id rows ≡ false → without id rows ≡ rows
  unchanged [] none = refl
  unchanged (r ∷ rs) none =
      let parts = or_no (bytes_eq r.id id) (has_row id rs) none in
      rw parts.0 (ap (λ xs. r ∷ xs) (unchanged rs parts.1))

  module _ (low high : ℕ) where
    number-used : (ignore_case : Bool) (how : Reading) (v : Text) (vs : List Text) (rows : List Row)
        → or_else (range_kinds 1 1 (suc (length vs))) (or_else (repeat_fault false id rows) (values_kinds ignore_case (Unsigned low high) (v ∷ vs))) ≡ []
        → Good id low high (used_as action.Set id how (v ∷ vs) rows)
    number-used ignore_case how v vs rows none =
        let parts = or_nil (repeat_fault false id rows) _ (or_nil (range_kinds 1 1 (suc (length vs))) _ none).1 in
        let new = then_nil (has_row id rows) kind.ArgumentConflict parts.0 in
        let first = else_nil (is_unsigned_in low high v) kind.ValueValidation (or_nil _ (values_kinds ignore_case (Unsigned low high) vs) parts.1).0 in
        let row : Row = record { id = id; values = v ∷ vs; count = None; source = Some CommandLine; reading = how } in
        subst (GoodIn low high) (sym (ap (λ rs. row_of id (at_row id (more_values CommandLine (v ∷ vs)) (row ∷ []) rs)) (unchanged rows new) ∙ fresh (more_values CommandLine (v ∷ vs)) row refl rows new)) first

    -- what is there has the number
    read-here : (row : Option Row) → option_map_or (λ r. explicit_source r.source) row false ≡ true → GoodIn low high row → is_unsigned_in low high (first_text row) ≡ true
    read-here None given good = cc
    read-here (Some r) given good = good

    pub number-given : (rows : List Row) → option_map_or (λ r. explicit_source r.source) (row_of id rows) false ≡ true → Good id low high rows → HasNumber id low high rows
    number-given rows given good = read-here (row_of id rows) given good

    -- defaults of other arguments leave it
    pub has-apart : (a : Rule) → bytes_eq a.id id ≡ false → (rows : List Row) → HasNumber id low high rows → HasNumber id low high (with_default rows a)
    has-apart a apart rows has = ap (λ row. is_unsigned_in low high (first_text row)) (default-apart a apart rows) ∙ has

-- a row that is there has the number
pub row-there : (id : Text) (low high : ℕ) (rows : List Row) → has_row id rows ≡ true → Good id low high rows → HasNumber id low high rows
row-there id low high [] has good = cc
row-there id low high (r ∷ rs) has good = go (bytes_eq r.id id) has good (row-there id low high rs)
  where
    go : (b : Bool) → (b || has_row id rs) ≡ true → GoodIn low high (cond b (Some r) (row_of id rs)) → (has_row id rs ≡ true → Good id low high rs → HasNumber id low high rs)
        → is_unsigned_in low high (first_text (cond b (Some r) (row_of id rs))) ≡ true
    go true has good rest = good
    go false has good rest = rest has good

-- ---- what each argument keeps

-- uses of an argument keep what holds of the rows, and so does its default
pub record Keeps (P : List Row → Type 0) (a : Rule) : Type 0 where
  pub in_use : (again : Bool) → again ≡ false → (values : List Text) (rows : List Row) → use_fault again a values rows ≡ [] → P rows → P (used a values rows)
  pub by_default : (rows : List Row) → P rows → P (with_default rows a)

abbrev pub AllKeep : (List Row → Type 0) → List Rule → Type 0
AllKeep P [] = ⊤
AllKeep P (a ∷ rest) = Keeps P a × AllKeep P rest

abbrev pub FoundKeeps : (List Row → Type 0) → Option Rule → Type 0
FoundKeeps P None = ⊤
FoundKeeps P (Some a) = Keeps P a

pub found : (P : List Row → Type 0) (p : Rule → Bool) (xs : List Rule) → AllKeep P xs → FoundKeeps P (find p xs)
found P p [] all = tt
found P p (x ∷ xs) all = go (p x) (found P p xs all.1)
  where
    go : (b : Bool) → FoundKeeps P (find p xs) → FoundKeeps P (cond b (Some x) (find p xs))
    go true rest = all.0
    go false rest = rest

pub apart-keeps : (id : Text) (low high : ℕ) (a : Rule) → bytes_eq a.id id ≡ false → Keeps (Good id low high) a
apart-keeps id low high a apart = record {
  in_use = λ again once values rows none good. subst (GoodIn low high) (sym (used-apart id a apart values rows)) good;
  by_default = λ rows good. subst (GoodIn low high) (sym (default-apart id a apart rows)) good;
}

-- a required number
abbrev pub position : ℕ → Text → ℕ → ℕ → Rule
position place id low high = with_index place (filled (number_position id low high))

position-default : (place : ℕ) (id : Text) (low high : ℕ) (b : Bool) (rows : List Row) → cond b rows rows ≡ rows
position-default place id low high true rows = refl
position-default place id low high false rows = refl

pub position-keeps : (place : ℕ) (id : Text) (low high : ℕ) → Keeps (Good id low high) (position place id low high)
unfolding number_position
position-keeps place id low high = record {
  in_use = λ again once values rows none good. uses values rows (subst (λ (b : Bool). use_fault b (position place id low high) values rows ≡ []) once none);
  by_default = λ rows good. subst (Good id low high) (sym (position-default place id low high (has_row id rows) rows)) good;
}
  where
    uses : (values : List Text) (rows : List Row) → use_fault false (position place id low high) values rows ≡ [] → Good id low high (used (position place id low high) values rows)
    uses [] rows none = absurd (some_kind _ _ none)
    uses (v ∷ vs) rows none = number-used id low high false _ v vs rows none

-- an option with a number, which has a default
abbrev pub numbered : Text → ℕ → ℕ → Text → Rule
numbered id low high text = record (new_rule id) { long = Some id; action = Some action.Set; parser = Some (Unsigned low high); defaults = text ∷ [] }

module _ (id : Text) (low high : ℕ) (text : Text) (fits : is_unsigned_in low high text ≡ true) where
  pub numbered-default : (rows : List Row) → Good id low high rows → HasNumber id low high (with_default rows (filled (numbered id low high text))) × Good id low high (with_default rows (filled (numbered id low high text)))
  numbered-default rows good = go (has_row id rows) refl
    where
      go : (b : Bool) → has_row id rows ≡ b
          → HasNumber id low high (cond b rows (default_rows id (reading_by (filled (numbered id low high text))) (filled (numbered id low high text)).defaults rows))
          × Good id low high (cond b rows (default_rows id (reading_by (filled (numbered id low high text))) (filled (numbered id low high text)).defaults rows))
      go true is = (row-there id low high rows is good, good)
      go false is =
          let new = fresh id (more_values DefaultValue (text ∷ [])) (record { id = id; values = text ∷ []; count = None; source = Some DefaultValue; reading = reading_by (filled (numbered id low high text)) }) refl rows is in
          (subst (λ (row : Option Row). is_unsigned_in low high (first_text row) ≡ true) (sym new) fits, subst (GoodIn low high) (sym new) fits)

  pub numbered-keep : Keeps (Good id low high) (filled (numbered id low high text))
  numbered-keep = record {
    in_use = λ again once values rows none good. uses values rows (subst (λ (b : Bool). use_fault b (filled (numbered id low high text)) values rows ≡ []) once none);
    by_default = λ rows good. (numbered-default rows good).1;
  }
    where
      uses : (values : List Text) (rows : List Row) → use_fault false (filled (numbered id low high text)) values rows ≡ [] → Good id low high (used (filled (numbered id low high text)) values rows)
      uses [] rows none = absurd (some_kind _ _ none)
      uses (v ∷ vs) rows none = number-used id low high false _ v vs rows none

abbrev pub slots_id : Text
slots_id = codes "slots"

-- the number of slots
pub slots-default : (rows : List Row) → Good slots_id 1 script_slots rows → HasNumber slots_id 1 script_slots (with_default rows (filled (slots_option script_slots))) × Good slots_id 1 script_slots (with_default rows (filled (slots_option script_slots)))
unfolding slots_option
slots-default = numbered-default slots_id 1 script_slots (codes "4096") refl

pub slots-keep : Keeps (Good slots_id 1 script_slots) (filled (slots_option script_slots))
unfolding slots_option
slots-keep = numbered-keep slots_id 1 script_slots (codes "4096") refl
