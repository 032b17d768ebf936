-- Ranges that are told of bits which have one port until then.
use Rattle.std.proofs.Common.{◌≡◌, ◌≢◌, ℕ, zero, suc, ◌+◌, ◌<◌, true, false, Option, Some, None, IsSome, [], ◌∷◌, length, set, replicate, is_none, is_some, IfSome, inl, inr, refl, ap, sym, subst, ◌∙◌, arith}
use Rattle.std.proofs.lemmas.List.{get_or-set_same, get_or-set_other, set-set}
use Rattle.std.proofs.lemmas.Bool.{cases_eq}
use Rattle.rule_model.specs.PortRange.{PortRange}
use Rattle.range_bits.specs.LiveRanges.{LiveRanges, range_at, assigned, bit_of, free_bit, if_new, newly_live, no_ranges, with_ranges}
use Rattle.range_bits.specs.FieldMap.{IsFieldMap, live_count}
use Rattle.range_bits.proofs.FieldMaps.{bit_of-none, is_full, least_free, live_count-given}
use Rattle.range_bits.proofs.Newer.{newly_live-parts, range_at-newly_live}
use Rattle.range_bits.proofs.Places.{all_from_count}
use Rattle.tcam_c.specs.Told.{HavePlaces, MayHaveBit, Places}

-- the bits below a number have one port each, below it
pub record IsFilled (live : LiveRanges) (ports : ℕ) : Type 0 where
  pub map : IsFieldMap live
  pub count : live_count live ≡ ports
  pub port : (bit : ℕ) (range : PortRange) → range_at live bit ≡ Some range → (range.lo ≡ range.hi) × (range.hi < ports)

-- of a map whose bits all have a range none is free
pub taken_at : (live : LiveRanges) (bit : ℕ) → IsFieldMap live → live_count live ≡ 16 → bit < 16 → range_at live bit ≢ None
taken_at live bit is full below none =
    let places = is.places in
    let some = all_from_count live (full ∙ sym is.places) bit (omega arith) in
    let both : true ≡ false = sym (ap is_none none) ∙ some in cc

-- what was there before isn't new
none_new : (live : LiveRanges) → ((k : ℕ) → k < length live → range_at live k ≢ None) → newly_live live live ≡ replicate (length live) None
none_new [] all = refl
none_new (None ∷ live) all = absurd (all 0 (omega arith) refl)
none_new (Some range ∷ live) all = ap (λ (rest : LiveRanges). None ∷ rest) (none_new live (λ k inside. all (suc k) (omega arith)))

pub nothing_new : (live : LiveRanges) → IsFieldMap live → live_count live ≡ 16 → newly_live live live ≡ no_ranges
nothing_new live is full =
    none_new live (λ k inside. let places = is.places in taken_at live k is full (omega arith))
    ∙ ap (λ (n : ℕ). replicate {A = Option PortRange} n None) is.places

-- a bit that is given in the one map and freed in the other is new
newly-set : (untold given : LiveRanges) (bit : ℕ) (range : PortRange) → length untold ≡ length given → bit < length untold
    → newly_live (set untold bit None) (set given bit (Some range)) ≡ set (newly_live untold given) bit (Some range)
newly-set [] given bit range same inside = absurd (omega arith)
newly-set (was ∷ untold) [] bit range same inside = absurd (omega arith)
newly-set (was ∷ untold) (now ∷ given) zero range same inside = refl
newly-set (was ∷ untold) (now ∷ given) (suc bit) range same inside =
    ap (λ (rest : LiveRanges). if_new was now ∷ rest) (newly-set untold given bit range (omega arith) (omega arith))

if_new-some : (was now : Option PortRange) → IsSome was → if_new was now ≡ None
if_new-some None now some = absurd (cc)
if_new-some (Some range) now some = refl

-- so a range that has no bit is told of one
pub placed_put : (untold given given' : LiveRanges) (bit : ℕ) (range : PortRange) → IsFieldMap untold → IsFieldMap given → HavePlaces untold given → bit < 16 → IsSome (range_at untold bit)
    → ((other : ℕ) → range_at given other ≢ Some range) → range.lo ≢ range.hi → given' ≡ set given bit (Some range) → live_count given' ≡ 16
    → HavePlaces (set untold bit None) given' × Places bit range true (newly_live untold given) (newly_live (set untold bit None) given')
placed_put untold given given' bit range untold_is given_is placed below some apart ports now full =
    (record { full = full; port = port }, (may, ap (λ (live : LiveRanges). newly_live (set untold bit None) live) now ∙ newly-set untold given bit range same inside))
  where
    same : length untold ≡ length given
    same = untold_is.places ∙ sym given_is.places

    inside : bit < length untold
    inside = let places = untold_is.places in omega arith

    may : MayHaveBit (newly_live untold given) bit range
    may =
        record {
          free = range_at-newly_live untold given bit same ∙ if_new-some (range_at untold bit) (range_at given bit) some;
          apart = λ other held. apart other ((newly_live-parts untold given other range same).0 held).1;
          ports = ports;
        }

    port : (b : ℕ) (r : PortRange) → range_at (set untold bit None) b ≡ Some r → (range_at given' b ≡ Some r) × (r.lo ≡ r.hi)
    port b r held =
        let other : b ≢ bit = λ e. (let was : range_at (set untold bit None) bit ≡ Some r = subst (λ (k : ℕ). range_at (set untold bit None) k ≡ Some r) e held in
        let none = get_or-set_same untold bit None None inside in let both = sym none ∙ was in absurd (cc)) in
        let before : range_at untold b ≡ Some r = sym (get_or-set_other untold bit b None None other) ∙ held in
        let was = placed.port b r before in
        (ap (λ (live : LiveRanges). range_at live b) now ∙ get_or-set_other given bit b (Some range) None other ∙ was.0, was.1)

-- With all other bits taken the next range gets the one that was freed.
assigned_here : (given freed next : LiveRanges) (bit : ℕ) (range : PortRange) → IsFieldMap given → IsFieldMap freed → live_count given ≡ 16 → bit < 16
    → freed ≡ set given bit None → live_count freed + 1 ≡ live_count given → next ≡ with_ranges freed (range ∷ []) → next ≡ set given bit (Some range)
assigned_here given freed next bit range given_is freed_is full below change fewer is = is ∙ go (free_bit freed) refl
  where
    go : (free : Option ℕ) → free_bit freed ≡ free → with_ranges freed (range ∷ []) ≡ set given bit (Some range)
    go None e = let count = is_full freed freed_is (sym e) in absurd (omega arith)
    go (Some b) e =
        let least = least_free freed b freed_is (sym e) in
        let here : b ≡ bit = elim (cases_eq b bit) [
          | inl same ↦ same
          | inr other ↦ absurd (taken_at given b given_is full least.small (sym (get_or-set_other given bit b None None other) ∙ ap (λ (live : LiveRanges). range_at live b) (sym change) ∙ least.free))
        ] in
        ap (assigned freed range) e ∙ ap (λ (k : ℕ). set freed k (Some range)) here ∙ ap (λ (live : LiveRanges). set live bit (Some range)) change ∙ set-set given bit None (Some range)

-- and has none before
pub unassigned : (given freed : LiveRanges) (bit : ℕ) (range : PortRange) → IsFieldMap given → bit < 16 → freed ≡ set given bit None
    → ((other : ℕ) → range_at given other ≢ Some range) → bit_of freed range ≡ None
unassigned given freed bit range given_is below change apart = bit_of-none freed range at
  where
    inside : bit < length given
    inside = let places = given_is.places in omega arith

    at : (other : ℕ) → range_at freed other ≢ Some range
    at other held =
        let now : range_at (set given bit None) other ≡ Some range = ap (λ (live : LiveRanges). range_at live other) (sym change) ∙ held in
        elim (cases_eq other bit) [
          | inl same ↦ (let none = get_or-set_same given bit None None inside in
              let was : range_at (set given bit None) bit ≡ Some range = subst (λ (k : ℕ). range_at (set given bit None) k ≡ Some range) same now in
              let both = sym none ∙ was in absurd (cc))
          | inr other_is ↦ apart other (sym (get_or-set_other given bit other None None other_is) ∙ now)
        ]

pub put_told : (untold given freed next untold' : LiveRanges) (bit : ℕ) (range : PortRange) → IsFieldMap untold → IsFieldMap given → IsFieldMap freed → HavePlaces untold given → bit < 16
    → IsSome (range_at untold bit) → ((other : ℕ) → range_at given other ≢ Some range) → range.lo ≢ range.hi
    → freed ≡ set given bit None → live_count freed + 1 ≡ live_count given → next ≡ with_ranges freed (range ∷ []) → untold' ≡ set untold bit None
    → HavePlaces untold' next × Places bit range true (newly_live untold given) (newly_live untold' next)
put_told untold given freed next untold' bit range untold_is given_is freed_is placed below some apart ports change fewer is untold_change =
    let now = assigned_here given freed next bit range given_is freed_is placed.full below change fewer is in
    let freed_at : range_at freed bit ≡ None = ap (λ (live : LiveRanges). range_at live bit) change ∙ get_or-set_same given bit None None (let places = given_is.places in omega arith) in
    let more = live_count-given freed bit range freed_at (let places = freed_is.places in omega arith) in
    let same : next ≡ set freed bit (Some range) = now ∙ sym (set-set given bit None (Some range)) ∙ ap (λ (live : LiveRanges). set live bit (Some range)) (sym change) in
    let full = placed.full in
    let count : live_count next ≡ 16 = ap live_count same ∙ (let both = more in omega arith) in
    subst (λ (live : LiveRanges). HavePlaces live next × Places bit range true (newly_live untold given) (newly_live live next)) (sym untold_change)
    (placed_put untold given next bit range untold_is given_is placed below some apart ports now count)

pub none_is : {X : Type 0} (found : Option X) → is_some found ≡ false → found ≡ None
none_is None e = refl
none_is (Some x) e = absurd (cc)

pub some_is : {X : Type 0} (found : Option X) → is_some found ≡ true → IsSome found
some_is None e = absurd (cc)
some_is (Some x) e = refl

-- one that has a bit already, of none
pub not_apart : (untold given : LiveRanges) (bit other : ℕ) (range : PortRange) → IsFieldMap untold → IsFieldMap given → HavePlaces untold given → range.lo ≢ range.hi
    → range_at given other ≡ Some range → ¬ MayHaveBit (newly_live untold given) bit range
not_apart untold given bit other range untold_is given_is placed ports held may =
    may.apart other ((newly_live-parts untold given other range (untold_is.places ∙ sym given_is.places)).1 (go (range_at untold other) refl, held))
  where
    go : (found : Option PortRange) → range_at untold other ≡ found → range_at untold other ≡ None
    go None e = e
    go (Some r) e =
        let was = placed.port other r e in
        let both : Some r ≡ Some range = sym was.0 ∙ held in
        let same : r ≡ range = cc in
        absurd (ports (subst (λ (one : PortRange). one.lo ≡ one.hi) same was.1))

pub found_apart : (untold given : LiveRanges) (bit : ℕ) (range : PortRange) (found : Option ℕ) → IsFieldMap untold → IsFieldMap given → HavePlaces untold given → range.lo ≢ range.hi
    → IfSome found (λ other. range_at given other ≡ Some range) → is_some found ≡ true → ¬ MayHaveBit (newly_live untold given) bit range
found_apart untold given bit range None untold_is given_is placed ports held some = absurd (cc)
found_apart untold given bit range (Some other) untold_is given_is placed ports held some = not_apart untold given bit other range untold_is given_is placed ports held

-- and none of a bit of which one was told
pub not_free : (untold given : LiveRanges) (bit : ℕ) (range : PortRange) → IsFieldMap untold → IsFieldMap given → HavePlaces untold given → bit < 16
    → range_at untold bit ≡ None → ¬ MayHaveBit (newly_live untold given) bit range
not_free untold given bit range untold_is given_is placed below none may =
    let at = range_at-newly_live untold given bit (untold_is.places ∙ sym given_is.places) in
    let here : if_new (range_at untold bit) (range_at given bit) ≡ range_at given bit = ap (λ (was : Option PortRange). if_new was (range_at given bit)) none in
    taken_at given bit given_is placed.full below (sym here ∙ sym at ∙ may.free)

pub not_ports : (live : LiveRanges) (bit : ℕ) (range : PortRange) → range.lo ≡ range.hi → ¬ MayHaveBit live bit range
not_ports live bit range same may = may.ports same
