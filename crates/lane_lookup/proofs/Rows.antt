-- A slot's row in the columns hits exactly where the slot does, and writes of a slot keep the rows.
use Rattle.std.proofs.Common.{◌≡◌, ◌≢◌, ℕ, ◌<◌, List, [], ◌∷◌, Option, Some, None, length, set, refl, sym, ◌∙◌, subst, arith, inl, inr, length-set}
use Rattle.std.specs.Prelude.{◌&&◌, ◌==◌, slice_index}
use Rattle.std.specs.List.{AllByRecursion}
use Rattle.std.proofs.lemmas.Bool.{cases_eq}
use Rattle.std.proofs.lemmas.List.{get_or-set_same, get_or-set_other}
use Rattle.slot_order.specs.Order.{slot}
use Rattle.slot_order.proofs.Writes.{slot_same, slot_other}
use Rattle.rule_model.specs.declared.words.Word.{Word}
use Rattle.rule_model.specs.declared.words.Entry.{Entry}
use Rattle.rule_model.specs.Entry.{slot_hits, lanes_match}
use Rattle.lane_lookup.specs.Columns.{Lane, lanes_agree, row_hits, HasSize, HasPlace, with_row, HoldRow, IsRow, AreColumns}

-- lanes that hold an entry's row agree with the words that the entry hits
agree-is : (lanes : List Lane) (words values masks : List ℕ) (place : ℕ) → HoldRow lanes values masks place → lanes_agree lanes words place ≡ lanes_match words values masks
agree-is [] [] [] [] place held = refl
agree-is [] (word ∷ words) [] [] place held = refl
agree-is [] [] (value ∷ values) masks place held = absurd held
agree-is [] (word ∷ words) (value ∷ values) masks place held = absurd held
agree-is [] [] [] (mask ∷ masks) place held = absurd held
agree-is [] (word ∷ words) [] (mask ∷ masks) place held = absurd held
agree-is (lane ∷ lanes) words [] masks place held = absurd held
agree-is (lane ∷ lanes) words (value ∷ values) [] place held = absurd held
agree-is (lane ∷ lanes) [] (value ∷ values) (mask ∷ masks) place held = refl
agree-is (lane ∷ lanes) (word ∷ words) (value ∷ values) (mask ∷ masks) place held =
    let rest = agree-is lanes words values masks place held.2 in
    rw (held.0, held.1, rest) refl

pub row-is : (lanes : List Lane) (vacancy : ℕ) (word : Word) (place : ℕ) (here : Option Entry) → IsRow lanes vacancy place here
    → ((vacancy == 0) && lanes_agree lanes word.lane place) ≡ slot_hits word here
row-is lanes vacancy word place None is = rw is refl
row-is lanes vacancy word place (Some entry) is = rw is.0 (agree-is lanes word.lane entry.value.lane entry.mask.lane place is.1)

-- a slot hits where its row does
pub rows_hit : (slots : List (Option Entry)) (lanes : List Lane) (vacant : List ℕ) (word : Word) (place : ℕ) → AreColumns slots lanes vacant → place < length slots
    → row_hits lanes vacant word place ≡ slot_hits word (slot slots place)
rows_hit slots lanes vacant word place are below = row-is lanes (slice_index vacant place) word place (slot slots place) (are.rows place below)

pub places_of_sizes : (size place : ℕ) (lanes : List Lane) → place < size → AllByRecursion (HasSize size) lanes → AllByRecursion (HasPlace place) lanes
places_of_sizes size place [] below all = tt
places_of_sizes size place (lane ∷ lanes) below all = ((let a = all.0.0 in omega arith, let b = all.0.1 in omega arith), places_of_sizes size place lanes below all.1)

-- a row put keeps the sizes
sizes_put : (size place : ℕ) (lanes : List Lane) (values masks : List ℕ) → AllByRecursion (HasSize size) lanes → AllByRecursion (HasSize size) (with_row lanes values masks place)
sizes_put size place [] values masks all = tt
sizes_put size place (lane ∷ lanes) [] masks all = all
sizes_put size place (lane ∷ lanes) (value ∷ values) [] all = all
sizes_put size place (lane ∷ lanes) (value ∷ values) (mask ∷ masks) all =
    ((length-set lane.values place value ∙ all.0.0, length-set lane.masks place mask ∙ all.0.1), sizes_put size place lanes values masks all.1)

pub count_put : (place : ℕ) (lanes : List Lane) (values masks : List ℕ) → length (with_row lanes values masks place) ≡ length lanes
count_put place [] values masks = refl
count_put place (lane ∷ lanes) [] masks = refl
count_put place (lane ∷ lanes) (value ∷ values) [] = refl
count_put place (lane ∷ lanes) (value ∷ values) (mask ∷ masks) = let rest = count_put place lanes values masks in cc

-- the row that was put is held
held_put : (place : ℕ) (lanes : List Lane) (values masks : List ℕ) → AllByRecursion (HasPlace place) lanes → length values ≡ length lanes → length masks ≡ length lanes
    → HoldRow (with_row lanes values masks place) values masks place
held_put place [] [] [] all v m = tt
held_put place [] (value ∷ values) masks all v m = absurd (omega arith)
held_put place [] [] (mask ∷ masks) all v m = absurd (omega arith)
held_put place (lane ∷ lanes) [] masks all v m = absurd (omega arith)
held_put place (lane ∷ lanes) (value ∷ values) [] all v m = absurd (omega arith)
held_put place (lane ∷ lanes) (value ∷ values) (mask ∷ masks) all v m = (
  get_or-set_same lane.values place value 0 all.0.0,
  get_or-set_same lane.masks place mask 0 all.0.1,
  held_put place lanes values masks all.1 (omega arith) (omega arith),
)

-- and other rows stay
held_other : (place other : ℕ) (lanes : List Lane) (values masks us ns : List ℕ) → other ≢ place → HoldRow lanes us ns other → HoldRow (with_row lanes values masks place) us ns other
held_other place other [] values masks us ns apart held = held
held_other place other (lane ∷ lanes) [] masks us ns apart held = held
held_other place other (lane ∷ lanes) (value ∷ values) [] us ns apart held = held
held_other place other (lane ∷ lanes) (value ∷ values) (mask ∷ masks) [] ns apart held = held
held_other place other (lane ∷ lanes) (value ∷ values) (mask ∷ masks) (u ∷ us) [] apart held = held
held_other place other (lane ∷ lanes) (value ∷ values) (mask ∷ masks) (u ∷ us) (n ∷ ns) apart held = (
  get_or-set_other lane.values place other value 0 apart ∙ held.0,
  get_or-set_other lane.masks place other mask 0 apart ∙ held.1,
  held_other place other lanes values masks us ns apart held.2,
)

row_other : (place other : ℕ) (lanes : List Lane) (vacancy : ℕ) (values masks : List ℕ) (here : Option Entry) → other ≢ place
    → IsRow lanes vacancy other here → IsRow (with_row lanes values masks place) vacancy other here
row_other place other lanes vacancy values masks None apart is = is
row_other place other lanes vacancy values masks (Some entry) apart is = (is.0, held_other place other lanes values masks entry.value.lane entry.mask.lane apart is.1)

pub columns_put : (slots : List (Option Entry)) (lanes : List Lane) (vacant : List ℕ) (place : ℕ) (entry : Entry) → AreColumns slots lanes vacant → place < length slots
    → length entry.value.lane ≡ 11 → length entry.mask.lane ≡ 11
    → AreColumns (set slots place (Some entry)) (with_row lanes entry.value.lane entry.mask.lane place) (set vacant place 0)
columns_put slots lanes vacant place entry are below v m =
    let size = length-set slots place (Some entry) in
    let row = with_row lanes entry.value.lane entry.mask.lane place in
    let count = are.count in record {
      most = let m = are.most in omega arith;
      count = count_put place lanes entry.value.lane entry.mask.lane ∙ are.count;
      vacant_size = length-set vacant place 0 ∙ are.vacant_size ∙ sym size;
      sizes = sizes_put _ place lanes entry.value.lane entry.mask.lane (subst (λ n. AllByRecursion (HasSize n) lanes) (sym size) are.sizes);
      rows = λ other inside. elim (cases_eq other place) [
        | inl same ↦ subst (λ p. IsRow row (slice_index (set vacant place 0) p) p (slot (set slots place (Some entry)) p)) (sym same)
            (subst (λ here. IsRow row (slice_index (set vacant place 0) place) place here) (sym (slot_same slots place (Some entry) below)) (
              get_or-set_same vacant place 0 0 (let v = are.vacant_size in omega arith),
              held_put place lanes entry.value.lane entry.mask.lane (places_of_sizes (length slots) place lanes below are.sizes) (v ∙ sym count) (m ∙ sym count),
            ))
        | inr apart ↦ subst (λ here. IsRow row (slice_index (set vacant place 0) other) other here) (sym (slot_other slots place (Some entry) other apart))
            (subst (λ vacancy. IsRow row vacancy other (slot slots other)) (sym (get_or-set_other vacant place other 0 0 apart))
            (row_other place other lanes (slice_index vacant other) entry.value.lane entry.mask.lane (slot slots other) apart (are.rows other (omega arith))))
      ];
    }
