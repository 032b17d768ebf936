-- How many writes by parts the insertions of a planned row take exactly.
use Rattle.std.proofs.Common.{◌≡◌, ℕ, suc, ◌+◌, ◌*◌, Bool, true, false, Option, None, Some, List, [], ◌∷◌, ◌++◌, length, map, set, Contains, arith, inl, inr, refl, sym, ◌∙◌, subst, ap, length-append, length-set}
use Rattle.std.specs.Prelude.{option_map, if◌then◌else◌}
use Rattle.std.specs.List.{AllByRecursion}
use Rattle.std.proofs.lemmas.Bool.{cases_Bool}
use Rattle.std.proofs.lemmas.List.{map-set}
use Rattle.std.proofs.lemmas.List.Elements.{Contains-append_cases}
use Rattle.slot_order.specs.Order.{slot, Ordered}
use Rattle.slot_moves.proofs.Whole.{IsWhole}
use Rattle.slot_order.proofs.Images.{entries, slot_entries}
use Rattle.slot_order.proofs.Inside.{AllInside}
use Rattle.slot_moves.proofs.InsideMoves.{whole_inside}
use Rattle.slot_moves.proofs.Once.{AllOnce}
use Rattle.slot_order.proofs.Lists.{contains_head, contains_tail, contains_cases, contains_none}
use Rattle.slot_moves.proofs.Sets.{Ordered_same}
use Rattle.slot_moves.proofs.Turns.{Plus}
use Rattle.slot_pool.specs.Arrangement.{Slots}
use Rattle.rule_model.specs.declared.words.Entry.{Entry}
use Rattle.rule_model.specs.Entry.{RankedPiece, same_match}
use Rattle.placement.specs.declared.LivePiece.{LivePiece}
use Rattle.placement.specs.Live.{is_above}
use Rattle.placement.specs.Placement.{after_moves}
use Rattle.placement.specs.Insertion.{IsLive}
use Rattle.placement.proofs.Chain.{Reads, write_of}
use Rattle.placement.proofs.Planned.{plan}
use Rattle.tcam_device.specs.declared.Write.{Write}
use Rattle.tcam_device.specs.declared.Write.TheVariants as whole
use Rattle.tcam_device.specs.State.{State, apply, state_after}
use Rattle.tcam_device.specs.Insertion.{Insertion}
use Rattle.tcam_device.proofs.Lookups.{HitAsPieces}
use Rattle.tcam_device.proofs.One.{slot_write}
use Rattle.tcam_device.proofs.Wider.{padded, slot-padded, apply-padded}
use Rattle.tcam_device.proofs.WiderInsertions.{widened}
use Rattle.commit_writes.specs.Planned.{IdEntries, Planned, ArePlanned, write_for}
use Rattle.commit_writes.proofs.Mirror.{Pieces, entry_by, over, rank, After, hits_after}
use Rattle.commit_writes.proofs.Bridge.{IsBridged, bridge, device_writes}
use Rattle.commit_writes.proofs.Row.{AreReadable, live_up, live_more, made_by}
use Rattle.split_writes.specs.Insertion.{put_writes}
use Rattle.split_writes.specs.Parts.{parts_over, write_parts, parts_of_writes}
use Rattle.split_writes.proofs.Exact.{IsPutCost, exact_cost, puts, whole_exact}
use Rattle.split_writes.proofs.Undivided.{match_parts}

-- the parts of an entry that is put where this stands
abbrev put_length : Option Entry → Entry → ℕ
put_length None entry = 2
put_length (Some standing) entry = if same_match entry standing then 1 else 3

over_length : (held : Option Entry) (at : ℕ) (entry : Entry) → length (parts_over held at entry) ≡ put_length held entry
over_length None at entry = refl
over_length (Some standing) at entry = by (same_match entry standing) refl
  where
    by : (same : Bool) → same_match entry standing ≡ same → length (parts_over (Some standing) at entry) ≡ put_length (Some standing) entry
    by true e = rw e refl
    by false e = rw e refl

-- and by ids
abbrev ids_cost : (ℕ → Entry) → Option ℕ → ℕ → ℕ
ids_cost f held id = put_length (option_map f held) (f id)

ids_are_cost : (piece : ℕ → RankedPiece) → IsPutCost (rank piece) (ids_cost (entry_by piece))
ids_are_cost piece = record {
  empty = λ id. refl;
  other = λ standing id differ. elim (cases_Bool (same_match (entry_by piece id) (entry_by piece standing))) [
    | inl same ↦ absurd (differ (sym (match_parts (entry_by piece id) (entry_by piece standing) same).2))
    | inr not ↦ ap (λ (b : Bool). if b then 1 else 3) not
  ];
}

-- what a device that mirrors an arrangement takes by parts, with more empty slots or without
parts_exact : (f : ℕ → Entry) (more : ℕ) (d : Slots) (state : State) (ws : List (ℕ × Option ℕ)) → state.slots ≡ entries f d → AllInside (length state.slots) ws
    → length (parts_of_writes (padded more state) (map (slot_write f) ws)) ≡ exact_cost (ids_cost f) d ws
parts_exact f more d state [] same inside = refl
parts_exact f more d state ((at, None) ∷ ws) same inside =
    let write = whole.Slot at None in
    let h = parts_exact f more (set d at None) (apply state write) ws (ap (λ xs. set xs at None) same ∙ sym (map-set (option_map f) d at None))
    (subst (λ n. AllInside n ws) (sym (length-set state.slots at None)) inside.1) in
    let e : length (parts_of_writes (apply (padded more state) write) (map (slot_write f) ws)) ≡ length (parts_of_writes (padded more (apply state write)) (map (slot_write f) ws)) =
    ap (λ (s : State). length (parts_of_writes s (map (slot_write f) ws))) (apply-padded more state write inside.0) in
    let a = length-append (write_parts (padded more state) write) (parts_of_writes (apply (padded more state) write) (map (slot_write f) ws)) in
    omega arith
parts_exact f more d state ((at, Some one) ∷ ws) same inside =
    let write = whole.Slot at (Some (f one)) in
    let h = parts_exact f more (set d at (Some one)) (apply state write) ws (ap (λ xs. set xs at (Some (f one))) same ∙ sym (map-set (option_map f) d at (Some one)))
    (subst (λ n. AllInside n ws) (sym (length-set state.slots at (Some (f one)))) inside.1) in
    let e : length (parts_of_writes (apply (padded more state) write) (map (slot_write f) ws)) ≡ length (parts_of_writes (padded more (apply state write)) (map (slot_write f) ws)) =
    ap (λ (s : State). length (parts_of_writes s (map (slot_write f) ws))) (apply-padded more state write inside.0) in
    let a = length-append (parts_over (slot (padded more state).slots at) at (f one)) (parts_of_writes (apply (padded more state) write) (map (slot_write f) ws)) in
    let held : length (parts_over (slot (padded more state).slots at) at (f one)) ≡ ids_cost f (slot d at) one =
    over_length (slot (padded more state).slots at) at (f one)
    ∙ ap (λ some. put_length some (f one)) (slot-padded state.slots more at ∙ (ap (λ xs. slot xs at) same ∙ slot_entries f d at)) in
    omega arith

-- how many of them put an entry
puts_counted : (f : ℕ → Entry) (ws : List (ℕ × Option ℕ)) → puts ws ≡ put_writes (map (slot_write f) ws)
puts_counted f [] = refl
puts_counted f ((at, None) ∷ ws) = puts_counted f ws
puts_counted f ((at, Some id) ∷ ws) = ap suc (puts_counted f ws)

-- an insertion that puts so many entries takes three of each, but one,
abbrev pub IsExactly : Insertion → Type 0
IsExactly insertion = length (parts_of_writes insertion.before insertion.writes) + 1 ≡ 3 * put_writes insertion.writes

-- with so many empty slots more
abbrev pub IsExact : ℕ → Insertion → Type 0
IsExact more insertion = IsExactly (widened more insertion)

pub row_exact : (held : IdEntries) (piece : ℕ → RankedPiece) (all live : List LivePiece) (more : ℕ) (slots : Slots) (state : State) (planned : List Planned) → AreReadable held piece all
    → ((one : LivePiece) → Contains live one → Contains all one) → ((insertion : Planned) → Contains planned insertion → Contains all insertion.one)
    → state.slots ≡ entries (entry_by piece) slots → length state.slots ≡ length slots → Ordered (over piece) (rank piece) (IsLive live) slots → AllOnce slots
    → HitAsPieces state (Pieces piece (IsLive all)) → ArePlanned live slots planned
    → AllByRecursion (IsExact more) (made_by held piece state planned)
row_exact held piece all live more slots state [] readable up ones same size o once hits are = tt
row_exact held piece all live more slots state (planned ∷ rest) readable up ones same size o once hits are = (
  few,
  row_exact held piece all grown more (after_moves slots planned.moves) next rest readable up' (λ other member. ones other (contains_tail planned other rest member))
      changed.slots (ap (λ (xs : List (Option Entry)). length xs) changed.slots ∙ mapped_length (after_moves slots planned.moves))
      (Ordered_same (over piece) (rank piece) (Plus (IsLive live) planned.one.id) (IsLive grown) (after_moves slots planned.moves) (live_more live planned.one) b.ids) b.once_ids
      (hits_after (Pieces piece (IsLive all)) state next hits changed.src changed.dst) are.3,
)
  where
    grown : List LivePiece
    grown = live ++ planned.one ∷ []

    ours : List Write
    ours = map (write_for held) planned.moves

    next : State
    next = state_after state ours

    mapped_length : (d : Slots) → length (entries (entry_by piece) d) ≡ length d
    mapped_length [] = refl
    mapped_length (x ∷ d) = ap suc (mapped_length d)

    up' : (one : LivePiece) → Contains grown one → Contains all one
    up' one member = elim (Contains-append_cases live (planned.one ∷ []) one member) [
      | inl old ↦ up one old
      | inr new ↦ elim (contains_cases planned.one one [] new) [ inl is ↦ subst (Contains all) is (ones planned (contains_head planned rest)) | inr none ↦ absurd (contains_none one none) ]
    ]

    known : (id : ℕ) → IsLive grown id → IsLive all id
    known id is = live_up grown all up' id is

    grows : (id : ℕ) → IsLive live id → IsLive grown id
    grows id is = (live_more live planned.one id).0 (inl is)

    here : IsLive grown planned.one.id
    here = (live_more live planned.one planned.one.id).0 (inr refl)

    reads : Reads (over piece) (rank piece) (IsLive grown) (is_above grown)
    reads = readable.reads grown up'

    b : IsBridged held piece (IsLive live) (IsLive grown) (is_above grown) slots state planned.one.id planned.moves
    b = bridge held piece (IsLive live) (IsLive grown) (is_above grown) slots state planned.one.id planned.moves reads
        (λ x y kx ky. readable.apart x y (known x kx) (known y ky)) (λ id is. readable.have id (known id is)) grows here (λ is. let wrong : true ≡ false = sym is ∙ are.0 in cc) same o once
        (λ ranked key m valid. hits ranked key (m.0, known m.0 m.1, m.2) valid) are.1

    changed : After piece (after_moves slots planned.moves) state next
    changed = subst (λ ws. After piece (after_moves slots planned.moves) state (state_after state ws)) (sym b.same_writes) b.changed

    whole_one : IsWhole (over piece) (rank piece) (IsLive live) (IsLive grown) slots planned.one.id (map write_of planned.moves)
    whole_one = plan (over piece) (rank piece) (IsLive live) (IsLive grown) (is_above grown) planned.one.id slots planned.moves reads grows here o are.1

    inside : AllInside (length state.slots) (map write_of planned.moves)
    inside = subst (λ n. AllInside n (map write_of planned.moves)) (sym size) (whole_inside (over piece) (rank piece) (IsLive live) (IsLive grown) slots planned.one.id (map write_of planned.moves) whole_one)

    few : IsExact more (record { before = state; writes = ours; entry = entry_by piece planned.one.id })
    few =
        let all = whole_exact (over piece) (rank piece) (ids_cost (entry_by piece)) (ids_are_cost piece) (IsLive live) (IsLive grown) slots planned.one.id (map write_of planned.moves) reads.mirror o whole_one in
        let parts = parts_exact (entry_by piece) more slots state (map write_of planned.moves) same inside in
        let count = puts_counted (entry_by piece) (map write_of planned.moves) in
        let exact : length (parts_of_writes (padded more state) (device_writes piece planned.moves)) + 1 ≡ 3 * put_writes (device_writes piece planned.moves) = omega (arith, parts, all, count) in
        subst (λ ws. length (parts_of_writes (padded more state) ws) + 1 ≡ 3 * put_writes ws) (sym b.same_writes) exact
