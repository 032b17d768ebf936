-- The bits of a field that are looked at one after the other, and freed where no rule has their range.
use Rattle.std.proofs.Common.{◌≡◌, ℕ, ◌+◌, ◌<◌, Option, None, List, [], ◌∷◌, ◌++◌, length, take, drop, set, ap, sym, ◌∙◌, arith, length-take, length-drop, length-append, append_assoc}
use Rattle.std.proofs.lemmas.List.{take_more, drop_more, set_at, get_or_at, length-map, map-append, set-get_or}
use Rattle.rule_model.specs.PortRange.{PortRange}
use Rattle.range_bits.specs.LiveRanges.{LiveRanges, range_at, kept, kept_ranges}

-- the bits below one are done
abbrev pub kept_below : LiveRanges → List PortRange → ℕ → LiveRanges
kept_below first ranges bit = kept_ranges (take bit first) ranges ++ drop bit first

pub length-kept_below : (first : LiveRanges) (ranges : List PortRange) (bit : ℕ) → length (kept_below first ranges bit) ≡ length first
length-kept_below first ranges bit =
    let whole = length-append (kept_ranges (take bit first) ranges) (drop bit first) in
    let front = length-map (take bit first) (kept ranges) in
    let taken = length-take bit first in
    let left = length-drop bit first in
    omega arith

-- the next one is looked at
pub kept_more : (first now : LiveRanges) (ranges : List PortRange) (bit : ℕ) → bit < length first → now ≡ kept_below first ranges bit
    → set now bit (kept ranges (range_at now bit)) ≡ kept_below first ranges (bit + 1)
kept_more first now ranges bit inside is =
    ap (λ (l : LiveRanges). set l bit (kept ranges (range_at l bit))) split
    ∙ ap (λ (h : Option PortRange). set (front ++ range_at first bit ∷ back) bit (kept ranges h)) (get_or_at front (range_at first bit) back None bit size)
    ∙ set_at front (range_at first bit) back (kept ranges (range_at first bit)) bit size
    ∙ sym (append_assoc front (kept ranges (range_at first bit) ∷ []) back)
    ∙ ap (λ (l : LiveRanges). l ++ back) (sym (ap (λ (l : LiveRanges). kept_ranges l ranges) (take_more first bit None inside) ∙ map-append (kept ranges) (take bit first) (range_at first bit ∷ [])))
  where
    front : LiveRanges
    front = kept_ranges (take bit first) ranges

    back : LiveRanges
    back = drop (bit + 1) first

    size : length front ≡ bit
    size = let mapped = length-map (take bit first) (kept ranges) in let taken = length-take bit first in omega arith

    split : now ≡ front ++ range_at first bit ∷ back
    split = is ∙ ap (λ (l : LiveRanges). front ++ l) (drop_more first bit None inside)

-- a bit that is free or whose range stays is as before
pub kept_same : (first now : LiveRanges) (ranges : List PortRange) (bit : ℕ) → bit < length first → now ≡ kept_below first ranges bit
    → kept ranges (range_at now bit) ≡ range_at now bit → now ≡ kept_below first ranges (bit + 1)
kept_same first now ranges bit inside is same =
    sym (ap (λ (h : Option PortRange). set now bit h) same ∙ set-get_or now bit None) ∙ kept_more first now ranges bit inside is
