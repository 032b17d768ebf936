-- Live pieces in any order, and the place of each at its id.
use Rattle.std.proofs.Common.{◌≡◌, ◌≢◌, ℕ, ◌+◌, ◌-◌, ◌<◌, ◌≤◌, true, false, List, [], ◌∷◌, ◌++◌, length, map, filter, set, get_or, None, Contains, inl, inr, ◌⊎◌, sym, ◌∙◌, ap, ap₂, subst, arith, eq-eqb, get_or-set_same, get_or-set_other}
use Rattle.std.specs.Prelude.{◌==◌, nat_eq, not}
use Rattle.std.proofs.lemmas.Bool.{both_ways, cases_lt, cases_eq, eqb-true, ne_eqb, not-true, false_from_ne_true}
use Rattle.std.proofs.lemmas.List.{length-map, length-set, length_push, get_or_default, get_or-map, get_or_append_left, get_or_push}
use Rattle.std.proofs.lemmas.List.Elements.{Contains-push, Contains-push_cases, Contains-append_left, recursion_from_All}
use Rattle.std.proofs.lemmas.Map.Keys.{IsDistinct-from_apart}
use Rattle.slot_order.proofs.Lists.{AllByRecursion-member, in_map, map_in, in_filter, filter_in}
use Rattle.rule_model.specs.AddressBlock.{any_address}
use Rattle.rule_model.specs.PortRange.{any_port}
use Rattle.rule_model.specs.declared.Piece.{Piece}
use Rattle.overlap_index.specs.declared.scan.Side.{Side}
use Rattle.placement.specs.declared.LivePiece.{LivePiece}
use Rattle.placement.specs.Live.{AreApart, is_live, without_id}
use Rattle.overlap_index.specs.Sides.{is_on, ids_on}
use Rattle.overlap_index.specs.Linked.{ArePlaced}
use Rattle.placement.proofs.Above.{live_is, is_live_from}

-- what is read past the end of a list
none : LivePiece
none = record {
  id = 0;
  piece = record { src = any_address; dst = any_address; proto = None; sport = any_port; dport = any_port; srcbit = None; dstbit = None };
  rank = 0;
}

-- a live id stands at its place
pub record StandsAt (live pieces : List LivePiece) (places : List ℕ) (id : ℕ) : Type 0 where
  pub one : LivePiece
  pub has : Contains live one
  pub named : one.id ≡ id
  pub inside : get_or places id 0 < length pieces
  pub here : get_or pieces (get_or places id 0) one ≡ one

pub stands_at : (slots id : ℕ) (live pieces : List LivePiece) (places : List ℕ) → ArePlaced slots live pieces places → is_live live id ≡ true → StandsAt live pieces places id
stands_at slots id live pieces places table is =
    let w = live_is live id is in
    let c = (table.same w.0).1 w.1 in
    let at : get_or places id 0 ≡ c.0 = subst (λ z. get_or places z 0 ≡ c.0) w.2 (table.placed c.0 w.0 c.1 c.2) in
    record { one = w.0; has = w.1; named = w.2; inside = subst (λ n. n < length pieces) (sym at) c.1; here = subst (λ n. get_or pieces n w.0 ≡ w.0) (sym at) c.2 }

-- what was read at a live id is its place
pub record Reads (pieces : List LivePiece) (places : List ℕ) (id place : ℕ) : Type 0 where
  pub is : place ≡ get_or places id 0
  pub inside : place < length pieces

pub reads_place : (slots id place : ℕ) (live pieces : List LivePiece) (places : List ℕ) → AreApart slots live → ArePlaced slots live pieces places → is_live live id ≡ true
    → place ≡ get_or places id place → Reads pieces places id place
reads_place slots id place live pieces places apart table is read =
    let here = stands_at slots id live pieces places table is in
    let small : id < length places =
    subst (λ n. id < n) (sym table.many) (subst (λ n. n < slots) here.named (AllByRecursion-member (λ (x : LivePiece). x.id < slots) live here.one apart.small here.has)) in
    let at : place ≡ get_or places id 0 = read ∙ get_or_default places id place 0 small in
    record { is = at; inside = subst (λ n. n < length pieces) (sym at) here.inside }

-- what was read there is the live piece of the id
pub record FoundAt (live : List LivePiece) (id : ℕ) (one : LivePiece) : Type 0 where
  pub has : Contains live one
  pub named : one.id ≡ id

pub found_at : (slots id place : ℕ) (live pieces : List LivePiece) (places : List ℕ) (one : LivePiece) → AreApart slots live → ArePlaced slots live pieces places → is_live live id ≡ true
    → place ≡ get_or places id place → one ≡ get_or pieces place one → FoundAt live id one
found_at slots id place live pieces places one apart table is read found =
    let here = stands_at slots id live pieces places table is in
    let at = reads_place slots id place live pieces places apart table is read in
    let same : here.one ≡ one =
    sym here.here ∙ ap (λ n. get_or pieces n here.one) (sym at.is) ∙ get_or_default pieces place here.one one at.inside ∙ sym found in
    record { has = subst (Contains live) same here.has; named = sym (ap (λ (x : LivePiece). x.id) same) ∙ here.named }

-- and so is what stands at the place of one
pub found_there : (slots id : ℕ) (live pieces : List LivePiece) (places : List ℕ) (one : LivePiece) → ArePlaced slots live pieces places → is_live live id ≡ true → one ≡ get_or pieces (get_or places id 0) one
    → FoundAt live id one
found_there slots id live pieces places one table is found =
    let here = stands_at slots id live pieces places table is in
    let same : here.one ≡ one = sym here.here ∙ (get_or_default pieces (get_or places id 0) here.one one here.inside ∙ sym found) in
    record { has = subst (Contains live) same here.has; named = sym (ap (λ (x : LivePiece). x.id) same) ∙ here.named }

-- the last piece is live
pub last_small : (slots : ℕ) (live pieces : List LivePiece) (places : List ℕ) (last : LivePiece) → AreApart slots live → ArePlaced slots live pieces places → 1 ≤ length pieces
    → last ≡ get_or pieces (length pieces - 1) last → last.id < slots
last_small slots live pieces places last apart table some is =
    AllByRecursion-member (λ (x : LivePiece). x.id < slots) live last apart.small ((table.same last).0 (length pieces - 1, omega arith, sym is))

-- nothing is live
pub placed_none : (slots : ℕ) (places : List ℕ) → length places ≡ slots → ArePlaced slots [] [] places
placed_none slots places many = record { same = λ one. (λ c. c, λ c. c); many = many; placed = λ k one inside at. absurd (omega arith) }

-- one more is, at the end
pub placed_more : (slots : ℕ) (one : LivePiece) (live pieces : List LivePiece) (places : List ℕ) → one.id < slots → is_live live one.id ≡ false → ArePlaced slots live pieces places
    → ArePlaced slots (live ++ one ∷ []) (pieces ++ one ∷ []) (set places one.id (length pieces))
placed_more slots one live pieces places small absent old = record {
  same = λ other. (λ c. to other (Contains-push_cases pieces one other c), λ c. from other (Contains-push_cases live one other c));
  many = length-set places one.id (length pieces) ∙ old.many;
  placed = placed;
}
  where
    to : (other : LivePiece) → Contains pieces other ⊎ (one ≡ other) → Contains (live ++ one ∷ []) other
    to other (inl c) = Contains-append_left live (one ∷ []) other ((old.same other).0 c)
    to other (inr e) = subst (Contains (live ++ one ∷ [])) e (Contains-push live one)

    from : (other : LivePiece) → Contains live other ⊎ (one ≡ other) → Contains (pieces ++ one ∷ []) other
    from other (inl c) = Contains-append_left pieces (one ∷ []) other ((old.same other).1 c)
    from other (inr e) = subst (Contains (pieces ++ one ∷ [])) e (Contains-push pieces one)

    placed : (k : ℕ) (other : LivePiece) → k < length (pieces ++ one ∷ []) → get_or (pieces ++ one ∷ []) k other ≡ other → get_or (set places one.id (length pieces)) other.id 0 ≡ k
    placed k other inside at = elim (cases_lt k (length pieces)) [
      | inl before ↦
          let there : get_or pieces k other ≡ other = sym (get_or_append_left pieces (one ∷ []) other k before) ∙ at in
          get_or-set_other places one.id other.id (length pieces) 0 (λ same.
          both_ways (is_live live one.id) absent (subst (λ id. is_live live id ≡ true) same (is_live_from live other ((old.same other).0 (k, before, there)))))
          ∙ old.placed k other before there
      | inr past ↦
          let size = length_push pieces one in
          let last : length pieces ≡ k = omega arith in
          subst (λ (x : LivePiece). get_or (set places one.id (length pieces)) x.id 0 ≡ k) (sym (get_or_push pieces one other k last) ∙ at)
          (get_or-set_same places one.id (length pieces) 0 (subst (λ n. one.id < n) (sym old.many) small) ∙ last)
    ]

-- where one goes, the last takes its place
pub record Closes (old new : List LivePiece) (place : ℕ) : Type 0 where
  pub size : length new + 1 ≡ length old
  pub filled : (d : LivePiece) → place + 1 < length old → get_or new place d ≡ get_or old (length old - 1) d
  pub others : (k : ℕ) (d : LivePiece) → k ≢ place → k + 1 < length old → get_or new k d ≡ get_or old k d

-- where a piece that is left stood before
record StoodAt (old : List LivePiece) (one : LivePiece) (place k : ℕ) : Type 0 where
  before : ℕ
  inside : before < length old
  at : get_or old before one ≡ one
  other : before ≢ place
  moved : ((k ≢ place) × (before ≡ k)) ⊎ ((k ≡ place) × (before ≡ length old - 1))

stood_at : (old new : List LivePiece) (place k : ℕ) (one : LivePiece) → Closes old new place → k < length new → get_or new k one ≡ one → StoodAt old one place k
stood_at old new place k one closes inside at =
    let size = closes.size in
    elim (cases_eq k place) [
      | inl same ↦ record {
        before = length old - 1;
        inside = omega arith;
        at = sym (closes.filled one (omega arith)) ∙ ap (λ n. get_or new n one) (sym same) ∙ at;
        other = λ e. omega arith;
        moved = inr (same, omega arith);
      }
      | inr apart ↦ record {
        before = k;
        inside = omega arith;
        at = sym (closes.others k one apart (omega arith)) ∙ at;
        other = apart;
        moved = inl (apart, omega arith);
      }
    ]

-- one goes, and the last takes its place
pub placed_less : (slots id : ℕ) (live pieces new : List LivePiece) (places : List ℕ) (last : LivePiece) → AreApart slots live → ArePlaced slots live pieces places → is_live live id ≡ true
    → get_or pieces (length pieces - 1) last ≡ last → Closes pieces new (get_or places id 0) → ArePlaced slots (without_id live id) new (set places last.id (get_or places id 0))
placed_less slots id live pieces new places last apart old is end closes = record {
  same = λ one. (to one, from one);
  many = length-set places last.id place ∙ old.many;
  placed = placed;
}
  where
    place : ℕ
    place = get_or places id 0

    gone : StandsAt live pieces places id
    gone = stands_at slots id live pieces places old is

    end_inside : length pieces - 1 < length pieces
    end_inside = let inside = gone.inside in omega arith

    to : (one : LivePiece) → Contains new one → Contains (without_id live id) one
    to one c =
        let s = stood_at pieces new place c.0 one closes c.1 c.2 in
        let there : Contains pieces one = (s.before, s.inside, s.at) in
        filter_in (λ x. not (x.id == id)) live one ((old.same one).0 there) (ap not (ne_eqb one.id id (λ e.
        s.other (sym (old.placed s.before one s.inside s.at) ∙ ap (λ z. get_or places z 0) e))))

    from : (one : LivePiece) → Contains (without_id live id) one → Contains new one
    from one c =
        let f = in_filter (λ (x : LivePiece). not (x.id == id)) live one c in
        let at = (old.same one).1 f.0 in
        let size = closes.size in
        let other : at.0 ≢ place = λ e.
        let same : one ≡ gone.one = sym (subst (λ n. get_or pieces n one ≡ one) e at.2) ∙ get_or_default pieces place one gone.one gone.inside ∙ gone.here in
        both_ways (one.id == id) (not-true _ f.1) (eq-eqb one.id id (ap (λ (x : LivePiece). x.id) same ∙ gone.named)) in
        let within = gone.inside in
        let bound = at.1 in
        elim (cases_eq at.0 (length pieces - 1)) [
          | inl e ↦
              let inside : place + 1 < length pieces = elim (cases_eq place (length pieces - 1)) [ inl p ↦ absurd (other (e ∙ sym p)) | inr p ↦ elim (cases_lt (place + 1) (length pieces)) [ inl l ↦ l | inr l ↦ absurd (p (omega arith)) ] ] in
              (place, omega arith, closes.filled one inside ∙ subst (λ n. get_or pieces n one ≡ one) e at.2)
          | inr n ↦
              let inside : at.0 + 1 < length pieces = elim (cases_lt (at.0 + 1) (length pieces)) [ inl l ↦ l | inr l ↦ absurd (n (omega arith)) ] in
              (at.0, omega arith, closes.others at.0 one other inside ∙ at.2)
        ]

    end_small : last.id < slots
    end_small = AllByRecursion-member (λ (x : LivePiece). x.id < slots) live last apart.small ((old.same last).0 (length pieces - 1, end_inside, end))

    placed : (k : ℕ) (one : LivePiece) → k < length new → get_or new k one ≡ one → get_or (set places last.id place) one.id 0 ≡ k
    placed k one inside at =
        let s = stood_at pieces new place k one closes inside at in
        let size = closes.size in
        let was = old.placed s.before one s.inside s.at in
        elim s.moved [
          | inr m ↦
              let same : last ≡ one = sym end ∙ get_or_default pieces (length pieces - 1) last one end_inside ∙ subst (λ n. get_or pieces n one ≡ one) m.1 s.at in
              subst (λ (x : LivePiece). get_or (set places last.id place) x.id 0 ≡ k) same
              (get_or-set_same places last.id place 0 (subst (λ n. last.id < n) (sym old.many) end_small) ∙ sym m.0)
          | inl m ↦
              get_or-set_other places last.id one.id place 0 (λ e.
              let at_end = old.placed (length pieces - 1) last end_inside end in
              let far : length pieces - 1 ≡ k = sym at_end ∙ ap (λ z. get_or places z 0) (sym e) ∙ was ∙ m.1 in
              absurd (omega arith))
              ∙ was ∙ m.1
        ]

-- the ids of live pieces that have a place each are distinct
pub apart_standing : (slots : ℕ) (live pieces : List LivePiece) (places : List ℕ) → AreApart slots live → ((one : LivePiece) → Contains pieces one → Contains live one)
    → ((k : ℕ) (one : LivePiece) → k < length pieces → get_or pieces k one ≡ one → get_or places one.id 0 ≡ k) → AreApart slots pieces
apart_standing slots live pieces places apart standing placed = record {
  small = recursion_from_All (λ one. one.id < slots) pieces (λ k d inside.
      AllByRecursion-member (λ (x : LivePiece). x.id < slots) live (get_or pieces k d) apart.small (standing (get_or pieces k d) (k, inside, here k d inside)));
  once = IsDistinct-from_apart nat_eq ids (λ i j d less inside. false_from_ne_true _ (λ e.
      let size = length-map pieces (λ (one : LivePiece). one.id) in
      let first : i < length pieces = omega arith in
      let second : j < length pieces = omega arith in
      let same : (get_or pieces i none).id ≡ (get_or pieces j none).id =
      sym (get_or-map (λ (one : LivePiece). one.id) pieces i none d first) ∙ eqb-true (get_or ids i d) (get_or ids j d) e ∙ get_or-map (λ (one : LivePiece). one.id) pieces j none d second in
      let meet : i ≡ j =
      sym (placed i (get_or pieces i none) first (here i none first)) ∙ ap (λ z. get_or places z 0) same ∙ placed j (get_or pieces j none) second (here j none second) in
      absurd (omega arith)));
}
  where
    ids : List ℕ
    ids = map (λ (one : LivePiece). one.id) pieces

    here : (k : ℕ) (d : LivePiece) → k < length pieces → get_or pieces k (get_or pieces k d) ≡ get_or pieces k d
    here k d inside = get_or_default pieces k (get_or pieces k d) d inside

pub apart_placed : (slots : ℕ) (live pieces : List LivePiece) (places : List ℕ) → AreApart slots live → ArePlaced slots live pieces places → AreApart slots pieces
apart_placed slots live pieces places apart table = apart_standing slots live pieces places apart (λ one. (table.same one).0) table.placed

-- what stands on one side of a piece among some, stands there among others that have them all
pub on_more : (side : Side) (of : LivePiece) (some all : List LivePiece) → ((one : LivePiece) → Contains some one → Contains all one) → (id : ℕ) → Contains (ids_on side of some) id
    → Contains (ids_on side of all) id
on_more side of some all more id c =
    let m = in_map (λ (one : LivePiece). one.id) (filter (λ other. is_on side other of) some) id c in
    let f = in_filter (λ other. is_on side other of) some m.0 m.1 in
    subst (Contains (ids_on side of all)) m.2 (map_in (λ (one : LivePiece). one.id) (filter (λ other. is_on side other of) all) m.0
    (filter_in (λ other. is_on side other of) all m.0 (more m.0 f.0) f.1))

-- a live piece, by what it has
pub is_just : (one : LivePiece) (id : ℕ) (piece : Piece) (rank : ℕ) → one.id ≡ id → one.piece ≡ piece → one.rank ≡ rank → one ≡ record { id = id; piece = piece; rank = rank }
is_just one id piece rank named same ranked =
    ap (λ n. record { id = n; piece = one.piece; rank = one.rank }) named
    ∙ ap₂ (λ p r. record { id = id; piece = p; rank = r }) same ranked

-- what stands at a place is live, and an id that isn't there isn't live
pub live_at : (slots : ℕ) (live pieces : List LivePiece) (places : List ℕ) (place : ℕ) (one : LivePiece) → ArePlaced slots live pieces places → place < length pieces → get_or pieces place one ≡ one
    → is_live live one.id ≡ true
live_at slots live pieces places place one table inside at = is_live_from live one ((table.same one).0 (place, inside, at))

pub dead_at : (slots id : ℕ) (live pieces : List LivePiece) (places : List ℕ) (one : LivePiece) → ArePlaced slots live pieces places → get_or pieces (get_or places id 0) one ≡ one → one.id ≢ id
    → is_live live id ≡ false
dead_at slots id live pieces places one table at other = false_from_ne_true (is_live live id) (λ is.
    let s = stands_at slots id live pieces places table is in
    let same : s.one ≡ one = sym s.here ∙ get_or_default pieces (get_or places id 0) s.one one s.inside ∙ at in
    other (sym (ap (λ (x : LivePiece). x.id) same) ∙ s.named))

pub dead_past : (slots id : ℕ) (live pieces : List LivePiece) (places : List ℕ) → ArePlaced slots live pieces places → length pieces ≤ get_or places id 0 → is_live live id ≡ false
dead_past slots id live pieces places table past = false_from_ne_true (is_live live id) (λ is.
    let s = stands_at slots id live pieces places table is in
    let inside = s.inside in
    omega arith)

pub dead_far : (slots id : ℕ) (live : List LivePiece) → AreApart slots live → slots ≤ id → is_live live id ≡ false
dead_far slots id live apart far = false_from_ne_true (is_live live id) (λ is.
    let w = live_is live id is in
    let small : id < slots = subst (λ n. n < slots) w.2 (AllByRecursion-member (λ (x : LivePiece). x.id < slots) live w.0 apart.small w.1) in
    omega arith)
