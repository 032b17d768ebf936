-- One step of each loop over the lanes.
use Rattle.std.proofs.Common.{◌≡◌, ℕ, zero, suc, ◌+◌, ◌<◌, List, [], ◌∷◌, ◌++◌, length, set, get_or, take, drop, refl, sym, ◌∙◌, ap, subst, arith, add-one, length-set}
use Rattle.std.specs.List.{AllByRecursion}
use Rattle.std.proofs.lemmas.List.Elements.{All-from_recursion, All-set, recursion_from_All}
use Rattle.lane_lookup.specs.Columns.{Lane, HasPlace, with_cell, with_row}

row_suc : (lanes : List Lane) (values masks : List ℕ) (place j : ℕ) (d : Lane) → j < length lanes → j < length values → j < length masks
    → take j lanes ++ with_row (drop j lanes) (drop j values) (drop j masks) place
    ≡ take (suc j) (set lanes j (with_cell (get_or lanes j d) (get_or values j 0) (get_or masks j 0) place))
    ++ with_row (drop (suc j) (set lanes j (with_cell (get_or lanes j d) (get_or values j 0) (get_or masks j 0) place))) (drop (suc j) values) (drop (suc j) masks) place
row_suc [] values masks place j d a b c = absurd (omega arith)
row_suc (lane ∷ lanes) [] masks place j d a b c = absurd (omega arith)
row_suc (lane ∷ lanes) (value ∷ values) [] place j d a b c = absurd (omega arith)
row_suc (lane ∷ lanes) (value ∷ values) (mask ∷ masks) place zero d a b c = refl
row_suc (lane ∷ lanes) (value ∷ values) (mask ∷ masks) place (suc j) d a b c =
    ap (λ rest. lane ∷ rest) (row_suc lanes values masks place j d (omega arith) (omega arith) (omega arith))

-- one lane's cell put
pub row_step : (lanes : List Lane) (values masks : List ℕ) (place j : ℕ) (lane cell : Lane) (value mask : ℕ) → j < length lanes → j < length values → j < length masks
    → lane ≡ get_or lanes j lane → value ≡ get_or values j 0 → mask ≡ get_or masks j 0 → cell ≡ with_cell lane value mask place
    → take j lanes ++ with_row (drop j lanes) (drop j values) (drop j masks) place
    ≡ take (j + 1) (set lanes j cell) ++ with_row (drop (j + 1) (set lanes j cell)) (drop (j + 1) values) (drop (j + 1) masks) place
row_step lanes values masks place j lane cell value mask a b c is_lane is_value is_mask is =
    let same : cell ≡ with_cell (get_or lanes j lane) (get_or values j 0) (get_or masks j 0) place =
    is ∙ ap (λ x. with_cell x value mask place) is_lane ∙ ap (λ x. with_cell (get_or lanes j lane) x mask place) is_value
    ∙ ap (λ x. with_cell (get_or lanes j lane) (get_or values j 0) x place) is_mask in
    rw (add-one, same) (row_suc lanes values masks place j lane a b c)

-- and the lanes keep the slot
pub places_step : (lanes : List Lane) (place j : ℕ) (lane cell : Lane) (value mask : ℕ) → AllByRecursion (HasPlace place) lanes → j < length lanes
    → lane ≡ get_or lanes j lane → cell ≡ with_cell lane value mask place → AllByRecursion (HasPlace place) (set lanes j cell)
places_step lanes place j lane cell value mask all below is_lane is =
    let here : HasPlace place lane = subst (HasPlace place) (sym is_lane) (All-from_recursion (HasPlace place) lanes all j lane below) in
    let values = length-set lane.values place value in
    let masks = length-set lane.masks place mask in
    let within = here.0 in
    let masked = here.1 in
    let has : HasPlace place cell = subst (HasPlace place) (sym is) (omega arith, omega arith) in
    recursion_from_All (HasPlace place) (set lanes j cell) (All-set (HasPlace place) lanes j cell has (All-from_recursion (HasPlace place) lanes all))
