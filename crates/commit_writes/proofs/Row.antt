-- Insertions that were planned one after the other, made one after the other.
use Rattle.std.proofs.Common.{◌≡◌, ℕ, zero, suc, ◌+◌, ◌-◌, ◌*◌, ◌<◌, ◌≤◌, true, false, Some, List, [], ◌∷◌, ◌++◌, length, map, take, slice_get, Contains, arith, inl, inr, refl, sym, ◌∙◌, subst, ap, append_assoc, append-nil, lt-ltb, le-ltb}
use Rattle.std.specs.Prelude.{◌↔◌, if◌then◌else◌, nat_lt}
use Rattle.std.specs.List.{AllZip}
use Rattle.std.proofs.lemmas.Bool.{cases_lt}
use Rattle.std.proofs.lemmas.Option.{none-some, same_Some}
use Rattle.std.proofs.lemmas.List.{take-append-le, length-map}
use Rattle.std.proofs.Math.Seq.{take-append-add}
use Rattle.std.proofs.lemmas.List.Elements.{Contains-append_left, Contains-append_right, Contains-append_cases}
use Rattle.slot_order.specs.Order.{slot, Ordered}
use Rattle.slot_order.specs.Chains.{BoundsMemberChains}
use Rattle.slot_order.proofs.Images.{entries}
use Rattle.slot_moves.proofs.Once.{AllOnce}
use Rattle.slot_order.proofs.Lists.{contains_head, contains_tail, contains_cases, contains_none}
use Rattle.slot_moves.proofs.Sets.{Ordered_same}
use Rattle.slot_moves.proofs.Turns.{Plus}
use Rattle.slot_order.proofs.Writes.{slot_inside}
use Rattle.slot_pool.specs.Arrangement.{Slots}
use Rattle.rule_model.specs.Entry.{RankedPiece}
use Rattle.placement.specs.declared.LivePiece.{LivePiece}
use Rattle.placement.specs.Live.{is_above}
use Rattle.placement.proofs.Above.{live_is, is_live_from}
use Rattle.placement.specs.Placement.{Above, after_moves, gap_start, gap_end, span_of}
use Rattle.placement.specs.Insertion.{IsLive}
use Rattle.placement.proofs.Chain.{Reads, AllKnown, floor_is, ceiling_is}
use Rattle.tcam_device.specs.declared.Write.{Write}
use Rattle.tcam_device.specs.State.{State, state_after}
use Rattle.tcam_device.specs.Order.{IsOrdered, StandsOnce, HasOneTwin}
use Rattle.tcam_device.specs.Insertion.{Insertion, insertions, IsCrossingSpan}
use Rattle.tcam_device.proofs.Lookups.{HitAsPieces}
use Rattle.tcam_device.proofs.Spans.{Makes, Makes-append, state_after-append}
use Rattle.commit_writes.specs.Planned.{IdEntries, Planned, ArePlanned, write_for, planned_writes, live_after, slots_after}
use Rattle.commit_writes.proofs.Mirror.{Pieces, entry_by, over, rank, MatchApart, ordered_state, stands_once, After, hits_after}
use Rattle.commit_writes.proofs.Bridge.{HaveEntries, IsBridged, bridge}
use Rattle.commit_writes.proofs.Twins.{mirrors_few}

-- what is known of all ids: how they are told apart, their entries, and what the index says of any of them
pub record AreReadable (held : IdEntries) (piece : ℕ → RankedPiece) (all : List LivePiece) : Type 0 where
  pub apart : MatchApart piece (IsLive all)
  pub have : HaveEntries held piece (IsLive all)
  pub reads : (live : List LivePiece) → ((one : LivePiece) → Contains live one → Contains all one) → Reads (over piece) (rank piece) (IsLive live) (is_above live)

-- of two ids that overlap a third, one higher and one lower, the first overlaps the second
abbrev pub AreNestedIds : (ℕ → RankedPiece) → List LivePiece → Type 0
AreNestedIds piece all =
    (upper id lower : ℕ) → IsLive all upper → IsLive all id → IsLive all lower → over piece id upper → over piece id lower
    → rank piece id < rank piece upper → rank piece lower < rank piece id → over piece lower upper

-- live pieces are live among more
pub live_up : (live all : List LivePiece) → ((one : LivePiece) → Contains live one → Contains all one) → (id : ℕ) → IsLive live id → IsLive all id
live_up live all up id is = let w = live_is live id is in subst (IsLive all) w.2 (is_live_from all w.0 (up w.0 w.1))

-- with one more piece its id is live too
pub live_more : (live : List LivePiece) (one : LivePiece) (id : ℕ) → Plus (IsLive live) one.id id ↔ IsLive (live ++ one ∷ []) id
live_more live one id = (to, from)
  where
    to : Plus (IsLive live) one.id id → IsLive (live ++ one ∷ []) id
    to (inl old) = live_up live (live ++ one ∷ []) (λ other member. Contains-append_left live (one ∷ []) other member) id old
    to (inr same) = subst (IsLive (live ++ one ∷ [])) same (is_live_from (live ++ one ∷ []) one (Contains-append_right live (one ∷ []) one (contains_head one [])))

    from : IsLive (live ++ one ∷ []) id → Plus (IsLive live) one.id id
    from is = let w = live_is (live ++ one ∷ []) id is in elim (Contains-append_cases live (one ∷ []) w.0 w.1) [
      | inl old ↦ inl (subst (IsLive live) w.2 (is_live_from live w.0 old))
      | inr new ↦ elim (contains_cases one w.0 [] new) [
        | inl same ↦ inr (ap (λ x. x.id) same ∙ w.2)
        | inr none ↦ absurd (contains_none w.0 none)
      ]
    ]

-- where what overlaps is nested, nothing is crossed
pub span_none : (piece : ℕ → RankedPiece) (P Known : ℕ → Type 0) (above : Above) (d : Slots) (id : ℕ)
    → Reads (over piece) (rank piece) Known above → ((a : ℕ) → P a → Known a) → Known id → Ordered (over piece) (rank piece) P d
    → ((upper lower : ℕ) → Known upper → Known lower → over piece id upper → over piece id lower → rank piece id < rank piece upper → rank piece lower < rank piece id → over piece lower upper)
    → span_of above d id ≡ 0
span_none piece P Known above d id reads up known o nested = elim (cases_lt (gap_end above d id + 1) (gap_start above d id)) [
  | inr near ↦ omega arith
  | inl crossed ↦
      let last = gap_start above d id - 1 in
      let u = (floor_is (over piece) (rank piece) Known above d id reads all known).met last (omega arith) in
      elim ((ceiling_is (over piece) (rank piece) Known above d id reads all known).met) [
        | inl past ↦ absurd (let inside = slot_inside d last u.0 u.1 in omega arith)
        | inr l ↦ absurd (
            let v = nested u.0 l.0 (all last u.0 u.1) (all (gap_end above d id) l.0 l.1) u.2 l.2 u.3 l.3 in
            let wrong : rank piece u.0 ≤ rank piece l.0 = o.sorted (gap_end above d id) last l.0 u.0 (omega arith) l.1 u.1 v in
            let more : rank piece id < rank piece u.0 = u.3 in
            let less : rank piece l.0 < rank piece id = l.3 in
            omega arith)
      ]
]
  where
    all : AllKnown Known d
    all place a s = up a (o.within place a s)

-- what planned insertions make, from a state on
abbrev pub made_by : IdEntries → (ℕ → RankedPiece) → State → List Planned → List Insertion
made_by held piece state [] = []
made_by held piece state (planned ∷ rest) =
    record { before = state; writes = map (write_for held) planned.moves; entry = entry_by piece planned.one.id }
    ∷ made_by held piece (state_after state (map (write_for held) planned.moves)) rest

-- an insertion is as it was planned
pub record IsAsPlanned (piece : ℕ → RankedPiece) (all : List LivePiece) (planned : Planned) (insertion : Insertion) : Type 0 where
  pub span : IsCrossingSpan insertion.before insertion.entry planned.span
  pub size : length insertion.writes ≡ length planned.moves
  pub few : (m : ℕ) → BoundsMemberChains (over piece) (rank piece) (IsLive all) m → length insertion.writes ≤ m * (1 + planned.span)
  pub uncrossed : AreNestedIds piece all → planned.span ≡ 0

-- how many of planned insertions are whole after so many of their writes
abbrev pub whole_insertions : List Planned → ℕ → ℕ
whole_insertions [] n = 0
whole_insertions (planned ∷ rest) n = if nat_lt n (length planned.moves) then 0 else suc (whole_insertions rest (n - length planned.moves))

first_short : (planned : Planned) (rest : List Planned) (n : ℕ) → n < length planned.moves → whole_insertions (planned ∷ rest) n ≡ 0
first_short planned rest n short = ap (λ b. if b then 0 else suc (whole_insertions rest (n - length planned.moves))) (lt-ltb n (length planned.moves) short)

first_whole : (planned : Planned) (rest : List Planned) (n : ℕ) → length planned.moves ≤ n
    → whole_insertions (planned ∷ rest) n ≡ suc (whole_insertions rest (n - length planned.moves))
first_whole planned rest n long = ap (λ b. if b then 0 else suc (whole_insertions rest (n - length planned.moves))) (le-ltb n (length planned.moves) long)

-- with more writes no fewer
pub whole_insertions-rise : (planned : List Planned) (n m : ℕ) → n ≤ m → whole_insertions planned n ≤ whole_insertions planned m
whole_insertions-rise [] n m more = omega arith
whole_insertions-rise (planned ∷ rest) n m more = elim (cases_lt n (length planned.moves)) [
  | inl short ↦ let none = first_short planned rest n short in omega arith
  | inr long ↦
      let first = first_whole planned rest n long in
      let last = first_whole planned rest m (omega arith) in
      let up = whole_insertions-rise rest (n - length planned.moves) (m - length planned.moves) (omega arith) in
      omega arith
]

-- what planned insertions do to the device
pub record AreDone (held : IdEntries) (piece : ℕ → RankedPiece) (all live : List LivePiece) (slots : Slots) (state : State) (planned : List Planned) : Type 0 where
  pub during : (n : ℕ) → IsOrdered (state_after state (take n (planned_writes held planned))) (Pieces piece (IsLive (live_after live (take (whole_insertions planned n) planned))))
  pub copies : (n : ℕ) → HasOneTwin (state_after state (take n (planned_writes held planned))).slots
  pub last : IsOrdered (state_after state (planned_writes held planned)) (Pieces piece (IsLive (live_after live planned)))
  pub changed : After piece (slots_after slots planned) state (state_after state (planned_writes held planned))
  pub within : AllKnown (IsLive (live_after live planned)) (slots_after slots planned)
  pub placed : (id : ℕ) → IsLive (live_after live planned) id → (at : ℕ) × (slot (slots_after slots planned) at ≡ Some id)
  pub alone : AllOnce (slots_after slots planned)
  pub made : Makes state (planned_writes held planned) (made_by held piece state planned)
  pub as_planned : AllZip (IsAsPlanned piece all) planned (made_by held piece state planned)
  pub between : (k : ℕ) (insertion : Insertion) → slice_get (made_by held piece state planned) k ≡ Some insertion
      → StandsOnce insertion.before (Pieces piece (IsLive (live_after live (take k planned))))

none_taken : (n : ℕ) → take {A = Write} n [] ≡ []
none_taken zero = refl
none_taken (suc n) = refl

-- nothing more is planned
done_none : (held : IdEntries) (piece : ℕ → RankedPiece) (all live : List LivePiece) (slots : Slots) (state : State) → AreReadable held piece all
    → ((one : LivePiece) → Contains live one → Contains all one) → state.slots ≡ entries (entry_by piece) slots → Ordered (over piece) (rank piece) (IsLive live) slots → AllOnce slots
    → AreDone held piece all live slots state []
done_none held piece all live slots state readable up same o alone =
    let now = ordered_state piece (IsLive live) (IsLive all) slots state readable.apart (live_up live all up) same o in
    let now' = subst (λ some. IsOrdered state (Pieces piece (IsLive some))) (sym (append-nil live)) now in
    record {
      during = λ n. subst (λ ws. IsOrdered (state_after state ws) (Pieces piece (IsLive (live ++ [])))) (sym (none_taken n)) now';
      copies = λ n. subst (λ (ws : List Write). HasOneTwin (state_after state ws).slots) (sym (none_taken n))
          (mirrors_few piece (IsLive all) slots state.slots readable.apart (λ place id s. live_up live all up id (o.within place id s)) same (inl alone));
      last = now';
      changed = record { slots = same; src = refl; dst = refl };
      within = subst (λ some. AllKnown (IsLive some) slots) (sym (append-nil live)) o.within;
      placed = subst (λ some. (id : ℕ) → IsLive some id → (at : ℕ) × (slot slots at ≡ Some id)) (sym (append-nil live)) o.placed;
      alone = alone;
      made = λ more. refl;
      as_planned = tt;
      between = λ k insertion none. absurd (none-some insertion none);
    }

-- one more in front
done_more : (held : IdEntries) (piece : ℕ → RankedPiece) (all live : List LivePiece) (slots : Slots) (state : State) (planned : Planned) (rest : List Planned) → AreReadable held piece all
    → ((one : LivePiece) → Contains (live ++ planned.one ∷ []) one → Contains all one) → Ordered (over piece) (rank piece) (IsLive live) slots
    → StandsOnce state (Pieces piece (IsLive live))
    → planned.span ≡ span_of (is_above (live ++ planned.one ∷ [])) slots planned.one.id
    → IsBridged held piece (IsLive live) (IsLive (live ++ planned.one ∷ [])) (is_above (live ++ planned.one ∷ [])) slots state planned.one.id planned.moves
    → AreDone held piece all (live ++ planned.one ∷ []) (after_moves slots planned.moves) (state_after state (map (write_for held) planned.moves)) rest
    → AreDone held piece all live slots state (planned ∷ rest)
done_more held piece all live slots state planned rest readable up o single span b h = record {
  during = during;
  copies = copies;
  last = subst (λ some. IsOrdered (state_after state (ours ++ theirs)) (Pieces piece (IsLive some))) (regroup rest)
      (subst (λ s. IsOrdered s (Pieces piece (IsLive (live_after more rest)))) (sym (state_after-append state ours theirs)) h.last);
  changed = subst (After piece (slots_after slots (planned ∷ rest)) state) (sym (state_after-append state ours theirs))
      record { slots = h.changed.slots; src = h.changed.src ∙ changed.src; dst = h.changed.dst ∙ changed.dst };
  within = subst (λ some. AllKnown (IsLive some) (slots_after slots (planned ∷ rest))) (regroup rest) h.within;
  placed = subst (λ some. (id : ℕ) → IsLive some id → (at : ℕ) × (slot (slots_after slots (planned ∷ rest)) at ≡ Some id)) (regroup rest) h.placed;
  alone = h.alone;
  made = Makes-append state ours theirs (insertion ∷ []) (made_by held piece next rest) first h.made;
  as_planned = (
    record {
      span = subst (IsCrossingSpan state (entry_by piece planned.one.id)) (sym span) b.span;
      size = length-map planned.moves (write_for held);
      few = λ m bound. subst (λ s. length ours ≤ m * (1 + s)) (sym span)
          (subst (λ ws. length ws ≤ m * (1 + span_of (is_above more) slots planned.one.id)) (sym b.same_writes)
          (b.few m (λ chain each c. bound chain (λ x i. live_up more all up x (each x i)) c)));
      uncrossed = λ nested. span ∙ span_none piece (IsLive live) (IsLive more) (is_above more) slots planned.one.id (readable.reads more up) (λ id is. (live_more live planned.one id).0 (inl is)) here o
          (λ upper lower known_upper known_lower. nested upper planned.one.id lower (live_up more all up upper known_upper) (live_up more all up planned.one.id here) (live_up more all up lower known_lower));
    },
    h.as_planned,
  );
  between = between;
}
  where
    more : List LivePiece
    more = live ++ planned.one ∷ []

    ours : List Write
    ours = map (write_for held) planned.moves

    theirs : List Write
    theirs = planned_writes held rest

    next : State
    next = state_after state ours

    insertion : Insertion
    insertion = record { before = state; writes = ours; entry = entry_by piece planned.one.id }

    here : IsLive more planned.one.id
    here = (live_more live planned.one planned.one.id).0 (inr refl)

    regroup : (some : List Planned) → live_after more some ≡ live_after live (planned ∷ some)
    regroup some = append_assoc live (planned.one ∷ []) (map (λ insertion. insertion.one) some)

    changed : After piece (after_moves slots planned.moves) state next
    changed = subst (λ ws. After piece (after_moves slots planned.moves) state (state_after state ws)) (sym b.same_writes) b.changed

    first : Makes state ours (insertion ∷ [])
    first more = subst (λ ws. insertions state (ws ++ more) ≡ record { before = state; writes = ws; entry = entry_by piece planned.one.id } ∷ insertions (state_after state ws) more) (sym b.same_writes) (b.first more)

    between : (k : ℕ) (begun : Insertion) → slice_get (insertion ∷ made_by held piece next rest) k ≡ Some begun
        → StandsOnce begun.before (Pieces piece (IsLive (live_after live (take k (planned ∷ rest)))))
    between zero begun read =
        subst (λ (s : State). StandsOnce s (Pieces piece (IsLive (live ++ [])))) (ap (λ (i : Insertion). i.before) (same_Some insertion begun read))
        (subst (λ some. StandsOnce state (Pieces piece (IsLive some))) (sym (append-nil live)) single)
    between (suc k) begun read = subst (λ some. StandsOnce begun.before (Pieces piece (IsLive some))) (regroup (take k rest)) (h.between k begun read)

    size : length ours ≡ length planned.moves
    size = length-map planned.moves (write_for held)

    during : (n : ℕ) → IsOrdered (state_after state (take n (ours ++ theirs))) (Pieces piece (IsLive (live_after live (take (whole_insertions (planned ∷ rest) n) (planned ∷ rest)))))
    during n = elim (cases_lt n (length planned.moves)) [
      | inl short ↦
          subst (λ k. IsOrdered (state_after state (take n (ours ++ theirs))) (Pieces piece (IsLive (live_after live (take k (planned ∷ rest)))))) (sym (first_short planned rest n short))
          (subst (λ ws. IsOrdered (state_after state ws) (Pieces piece (IsLive (live ++ [])))) (sym (take-append-le n ours theirs (omega (arith, size))))
          (subst (λ some. IsOrdered (state_after state (take n ours)) (Pieces piece (IsLive some))) (sym (append-nil live))
          (subst (λ ws. IsOrdered (state_after state (take n ws)) (Pieces piece (IsLive live))) (sym b.same_writes) (b.during n (omega arith)))))
      | inr long ↦
          let later = n - length planned.moves in
          let split : take n (ours ++ theirs) ≡ ours ++ take later theirs =
          ap (λ m. take m (ours ++ theirs)) (let e : n ≡ length ours + later = omega (arith, size) in e) ∙ take-append-add ours theirs later in
          let some = take (whole_insertions rest later) rest in
          subst (λ k. IsOrdered (state_after state (take n (ours ++ theirs))) (Pieces piece (IsLive (live_after live (take k (planned ∷ rest)))))) (sym (first_whole planned rest n long))
          (subst (λ ones. IsOrdered (state_after state (take n (ours ++ theirs))) (Pieces piece (IsLive ones))) (regroup some)
          (subst (λ ws. IsOrdered (state_after state ws) (Pieces piece (IsLive (live_after more some)))) (sym split)
          (subst (λ s. IsOrdered s (Pieces piece (IsLive (live_after more some)))) (sym (state_after-append state ours (take later theirs))) (h.during later))))
    ]

    copies : (n : ℕ) → HasOneTwin (state_after state (take n (ours ++ theirs))).slots
    copies n = elim (cases_lt n (length ours)) [
      | inl short ↦ subst (λ (ws : List Write). HasOneTwin (state_after state ws).slots) (sym (take-append-le n ours theirs (omega arith)))
          (subst (λ (ws : List Write). HasOneTwin (state_after state (take n ws)).slots) (sym b.same_writes) (b.copies n))
      | inr long ↦
          let later = n - length ours in
          let split : take n (ours ++ theirs) ≡ ours ++ take later theirs =
          ap (λ m. take m (ours ++ theirs)) (let e : n ≡ length ours + later = omega arith in e) ∙ take-append-add ours theirs later in
          subst (λ (ws : List Write). HasOneTwin (state_after state ws).slots) (sym split)
          (subst (λ (s : State). HasOneTwin s.slots) (sym (state_after-append state ours (take later theirs))) (h.copies later))
    ]

pub done_all : (held : IdEntries) (piece : ℕ → RankedPiece) (all live : List LivePiece) (slots : Slots) (state : State) (planned : List Planned) → AreReadable held piece all
    → ((one : LivePiece) → Contains live one → Contains all one) → ((insertion : Planned) → Contains planned insertion → Contains all insertion.one)
    → state.slots ≡ entries (entry_by piece) slots → Ordered (over piece) (rank piece) (IsLive live) slots → AllOnce slots
    → HitAsPieces state (Pieces piece (IsLive all)) → ArePlanned live slots planned → AreDone held piece all live slots state planned
done_all held piece all live slots state [] readable up ones same o once hits are = done_none held piece all live slots state readable up same o once
done_all held piece all live slots state (planned ∷ rest) readable up ones same o once hits are =
    let changed = subst (λ ws. After piece (after_moves slots planned.moves) state (state_after state ws)) (sym b.same_writes) b.changed in
    done_more held piece all live slots state planned rest readable up' o single are.2 b
    (done_all held piece all more (after_moves slots planned.moves) (state_after state (map (write_for held) planned.moves)) rest readable up' (λ other member. ones other (contains_tail planned other rest member)) changed.slots
    (Ordered_same (over piece) (rank piece) (Plus (IsLive live) planned.one.id) (IsLive more) (after_moves slots planned.moves) (live_more live planned.one) b.ids) b.once_ids
    (hits_after (Pieces piece (IsLive all)) state (state_after state (map (write_for held) planned.moves)) hits changed.src changed.dst) are.3)
  where
    more : List LivePiece
    more = live ++ planned.one ∷ []

    up' : (one : LivePiece) → Contains more one → Contains all one
    up' one member = elim (Contains-append_cases live (planned.one ∷ []) one member) [
      | inl old ↦ up one old
      | inr new ↦ elim (contains_cases planned.one one [] new) [ inl same ↦ subst (Contains all) same (ones planned (contains_head planned rest)) | inr none ↦ absurd (contains_none one none) ]
    ]

    single : StandsOnce state (Pieces piece (IsLive live))
    single = stands_once piece (IsLive live) (IsLive all) slots state readable.apart (live_up live all up) (λ place id s. live_up live all up id (o.within place id s)) same once
        (ordered_state piece (IsLive live) (IsLive all) slots state readable.apart (live_up live all up) same o)

    known : (id : ℕ) → IsLive more id → IsLive all id
    known id is = live_up more all up' id is

    b : IsBridged held piece (IsLive live) (IsLive more) (is_above more) slots state planned.one.id planned.moves
    b = bridge held piece (IsLive live) (IsLive more) (is_above more) slots state planned.one.id planned.moves (readable.reads more up')
        (λ x y kx ky. readable.apart x y (known x kx) (known y ky)) (λ id is. readable.have id (known id is)) (λ id is. (live_more live planned.one id).0 (inl is))
        ((live_more live planned.one planned.one.id).0 (inr refl)) (λ is. let wrong : true ≡ false = sym is ∙ are.0 in cc) same o once
        (λ ranked key m valid. hits ranked key (m.0, known m.0 m.1, m.2) valid) are.1
