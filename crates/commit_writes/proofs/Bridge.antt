-- One planned insertion of ids is one insertion of the device.
use Rattle.std.proofs.Common.{◌≡◌, ℕ, ◌+◌, ◌*◌, ◌<◌, ◌≤◌, Option, None, Some, List, [], ◌∷◌, ◌++◌, length, map, take, arith, inl, inr, refl, sym, ◌∙◌, subst, ap, ap₂, length-append, length-set, set}
use Rattle.std.specs.List.{AllByRecursion}
use Rattle.std.proofs.lemmas.Bool.{false_from_ne_true}
use Rattle.std.proofs.lemmas.List.{take-map, take-append-le, length-map}
use Rattle.slot_order.specs.Order.{slot, Ordered}
use Rattle.slot_order.specs.Chains.{applied, Along, BoundsMemberChains}
use Rattle.slot_moves.proofs.Chains.{Along_push}
use Rattle.slot_moves.proofs.Copies.{AtMostOneTwice, whole_copies}
use Rattle.slot_moves.proofs.Whole.{IsWhole, WholeKeeps, whole_keeps, whole_once}
use Rattle.slot_order.proofs.Images.{entries}
use Rattle.slot_order.proofs.Lists.{all_append}
use Rattle.slot_order.proofs.Inside.{AllInside}
use Rattle.slot_moves.proofs.InsideMoves.{whole_inside}
use Rattle.slot_moves.proofs.Once.{AllOnce}
use Rattle.slot_moves.proofs.Turns.{Plus}
use Rattle.slot_order.proofs.Walks.{Along_prefix, Along_weaker, applied_append}
use Rattle.slot_order.proofs.Writes.{slot_same}
use Rattle.slot_pool.specs.Arrangement.{Slots}
use Rattle.rule_model.specs.declared.words.Entry.{Entry}
use Rattle.rule_model.specs.Entry.{RankedPiece, same_match}
use Rattle.tcam_device.specs.declared.Write.{Write}
use Rattle.tcam_device.specs.declared.Write.TheVariants.{Slot}
use Rattle.tcam_device.specs.State.{State, state_after}
use Rattle.tcam_device.specs.Order.{IsOrdered, HasOneTwin}
use Rattle.tcam_device.specs.Insertion.{insertions, IsCrossingSpan}
use Rattle.tcam_device.proofs.Lookups.{HitAsPieces}
use Rattle.tcam_device.proofs.One.{slot_write, one_run}
use Rattle.placement.specs.declared.Move.{Move}
use Rattle.placement.specs.declared.Move.TheVariants.{Put, Erase}
use Rattle.placement.specs.Placement.{Above, Aiming, after_moves, gap_start, gap_end, span_of, IsPlacement}
use Rattle.placement.proofs.Chain.{write_of, after_moves-applied, Reads, AllKnown, floor_is, ceiling_is}
use Rattle.placement.proofs.Planned.{plan}
use Rattle.commit_writes.specs.Planned.{IdEntries, entry_at, write_for}
use Rattle.commit_writes.proofs.Mirror.{Pieces, entry_by, over, rank, MatchApart, ordered_state, After, state_applied}
use Rattle.commit_writes.proofs.Crossing.{span_is}
use Rattle.commit_writes.proofs.Twins.{mirrors_few}

-- the device writes of some moves
abbrev pub device_writes : (ℕ → RankedPiece) → List Move → List Write
device_writes piece moves = map (slot_write (entry_by piece)) (map write_of moves)

-- each known id has its piece's entry
abbrev pub HaveEntries : IdEntries → (ℕ → RankedPiece) → (ℕ → Type 0) → Type 0
HaveEntries held piece Known = (id : ℕ) → Known id → entry_at held id ≡ Some (entry_by piece id)

-- the id that is put, if one is, is known
abbrev PutsKnown : (ℕ → Type 0) → ℕ × Option ℕ → Type 0
PutsKnown Known (at, None) = Unit {0}
PutsKnown Known (at, Some id) = Known id

-- writes after each of which only known ids stand put known ones
puts_known : (Known : ℕ → Type 0) (d : Slots) (n : ℕ) (ws : List (ℕ × Option ℕ)) → length d ≡ n → AllInside n ws → Along (AllKnown Known) d ws → AllByRecursion (PutsKnown Known) ws
puts_known Known d n [] size inside along = tt
puts_known Known d n ((at, None) ∷ ws) size inside along = (tt, puts_known Known (set d at None) n ws (length-set d at None ∙ size) inside.1 along.1)
puts_known Known d n ((at, Some id) ∷ ws) size inside along = (
  head (set d at (Some id)) ws along.1 at id (slot_same d at (Some id) (subst (λ m. at < m) (sym size) inside.0)),
  puts_known Known (set d at (Some id)) n ws (length-set d at (Some id) ∙ size) inside.1 along.1,
)
  where
    head : (s : Slots) (ws : List (ℕ × Option ℕ)) → Along (AllKnown Known) s ws → AllKnown Known s
    head s [] w = w
    head s (x ∷ xs) w = w.0

-- moves that put known ids are the same writes by their entries
pub writes_same : (held : IdEntries) (piece : ℕ → RankedPiece) (Known : ℕ → Type 0) (moves : List Move) → HaveEntries held piece Known
    → AllByRecursion (PutsKnown Known) (map write_of moves) → map (write_for held) moves ≡ device_writes piece moves
writes_same held piece Known [] have known = refl
writes_same held piece Known (Put at id ∷ moves) have known = ap₂ (λ entry rest. Slot at entry ∷ rest) (have id known.0) (writes_same held piece Known moves have known.1)
writes_same held piece Known (Erase at ∷ moves) have known = ap (λ rest. Slot at None ∷ rest) (writes_same held piece Known moves have known.1)

-- what one planned insertion does to the device
pub record IsBridged (held : IdEntries) (piece : ℕ → RankedPiece) (P Known : ℕ → Type 0) (above : Above) (d : Slots) (state : State) (id : ℕ) (moves : List Move) : Type 0 where
  pub during : (n : ℕ) → n < length moves → IsOrdered (state_after state (take n (device_writes piece moves))) (Pieces piece P)
  pub copies : (n : ℕ) → HasOneTwin (state_after state (take n (device_writes piece moves))).slots
  -- in front of whatever comes next, one insertion
  pub first : (more : List Write) → insertions state (device_writes piece moves ++ more)
      ≡ record { before = state; writes = device_writes piece moves; entry = entry_by piece id } ∷ insertions (state_after state (device_writes piece moves)) more
  pub span : IsCrossingSpan state (entry_by piece id) (span_of above d id)
  pub few : (m : ℕ) → BoundsMemberChains (over piece) (rank piece) Known m → length (device_writes piece moves) ≤ m * (1 + span_of above d id)
  -- and the arrangement after it
  pub ids : Ordered (over piece) (rank piece) (Plus P id) (after_moves d moves)
  pub once_ids : AllOnce (after_moves d moves)
  pub changed : After piece (after_moves d moves) state (state_after state (device_writes piece moves))
  pub same_writes : map (write_for held) moves ≡ device_writes piece moves

pub bridge : (held : IdEntries) (piece : ℕ → RankedPiece) (P Known : ℕ → Type 0) (above : Above) {priority : ℕ → ℕ} {aiming : Aiming} (d : Slots) (state : State) (id : ℕ) (moves : List Move)
    → Reads (over piece) (rank piece) Known above → MatchApart piece Known → HaveEntries held piece Known → ((a : ℕ) → P a → Known a) → Known id → (P id → ⊥)
    → state.slots ≡ entries (entry_by piece) d → Ordered (over piece) (rank piece) P d → AllOnce d
    → HitAsPieces state (Pieces piece Known)
    → IsPlacement above priority aiming id d moves → IsBridged held piece P Known above d state id moves
bridge held piece P Known above d state id moves reads apart have up known new same o alone hits placement = record {
  during = during;
  copies = copies;
  first = first;
  span = span_is piece Known above d state id reads all known same hits;
  few = λ m bound. let k = w.few (gap_start above d id) (gap_end above d id) m (floor_is (over piece) (rank piece) Known above d id reads all known) (ceiling_is (over piece) (rank piece) Known above d id reads all known) bound in
      let e : length (device_writes piece moves) ≡ length (map write_of moves) = length-map (map write_of moves) (slot_write (entry_by piece)) in
      subst (λ n. n ≤ m * (1 + span_of above d id)) (sym e) k;
  ids = subst (Ordered (over piece) (rank piece) (Plus P id)) (sym (after_moves-applied d moves)) ids;
  once_ids = subst AllOnce (sym (after_moves-applied d moves)) alone_after;
  changed = subst (λ z. After piece z state (state_after state (device_writes piece moves))) (sym (after_moves-applied d moves)) last;
  same_writes = writes_same held piece Known moves have (subst (AllByRecursion (PutsKnown Known)) (sym w.parts)
      (all_append (PutsKnown Known) w.before ((w.place, Some id) ∷ []) (puts_known Known d (length d) w.before refl front_inside
      (Along_weaker (Ordered (over piece) (rank piece) P) (AllKnown Known) d w.before (λ s g at a t. up a (g.within at a t)) w.along)) (known, tt)));
}
  where
    f : ℕ → Entry
    f = entry_by piece

    all : AllKnown Known d
    all place a s = up a (o.within place a s)

    whole : IsWhole (over piece) (rank piece) P Known d id (map write_of moves)
    whole = plan (over piece) (rank piece) P Known above id d moves reads up known o placement

    w : WholeKeeps (over piece) (rank piece) P Known d id (map write_of moves)
    w = whole_keeps (over piece) (rank piece) P Known d id (map write_of moves) reads.mirror o up known whole

    size : length (device_writes piece moves) ≡ length moves
    size = length-map (map write_of moves) (slot_write f) ∙ length-map moves write_of

    last : After piece (applied d (map write_of moves)) state (state_after state (device_writes piece moves))
    last = state_applied piece d state (map write_of moves) same

    ids : Ordered (over piece) (rank piece) (Plus P id) (applied d (map write_of moves))
    ids = subst (Ordered (over piece) (rank piece) (Plus P id)) (sym (ap (applied d) w.parts ∙ applied_append d w.before ((w.place, Some id) ∷ []))) w.done

    alone_after : AllOnce (applied d (map write_of moves))
    alone_after = whole_once (over piece) (rank piece) P Known d id (map write_of moves) reads.mirror o alone new whole

    during : (n : ℕ) → n < length moves → IsOrdered (state_after state (take n (device_writes piece moves))) (Pieces piece P)
    during n l =
        let a : length (map write_of moves) ≡ length moves = length-map moves write_of in
        let b : length (map write_of moves) ≡ length (w.before ++ (w.place, Some id) ∷ []) = ap length w.parts in
        let c = length-append w.before ((w.place, Some id) ∷ []) in
        let short : n ≤ length w.before = omega arith in
        let e : take n (map write_of moves) ≡ take n w.before = ap (take n) w.parts ∙ take-append-le n w.before ((w.place, Some id) ∷ []) short in
        let g : Ordered (over piece) (rank piece) P (applied d (take n (map write_of moves))) = subst (λ xs. Ordered (over piece) (rank piece) P (applied d xs)) (sym e) (Along_prefix (Ordered (over piece) (rank piece) P) d w.before n w.along) in
        let s = state_applied piece d state (take n (map write_of moves)) same in
        subst (λ xs. IsOrdered (state_after state xs) (Pieces piece P)) (sym (take-map (slot_write f) n (map write_of moves)))
        (ordered_state piece P Known (applied d (take n (map write_of moves))) (state_after state (map (slot_write f) (take n (map write_of moves)))) apart up s.slots g)

    -- known ids alone stand meanwhile, at most one of them in two slots
    stand : Along (AllKnown Known) d (map write_of moves)
    stand = subst (Along (AllKnown Known) d) (sym w.parts)
        (Along_push (AllKnown Known) d w.before (w.place, Some id)
        (Along_weaker (Ordered (over piece) (rank piece) P) (AllKnown Known) d w.before (λ s g at a t. up a (g.within at a t)) w.along)
        (λ at a t. plus a (w.done.within at a t)))
      where
        plus : (a : ℕ) → Plus P id a → Known a
        plus a (inl was) = up a was
        plus a (inr is) = subst Known is known

    copies : (n : ℕ) → HasOneTwin (state_after state (take n (device_writes piece moves))).slots
    copies n =
        let s = state_applied piece d state (take n (map write_of moves)) same in
        subst (λ (xs : List Write). HasOneTwin (state_after state xs).slots) (sym (take-map (slot_write f) n (map write_of moves)))
        (mirrors_few piece Known (applied d (take n (map write_of moves))) (state_after state (map (slot_write f) (take n (map write_of moves)))).slots apart
        (Along_prefix (AllKnown Known) d (map write_of moves) n stand) s.slots
        (Along_prefix AtMostOneTwice d (map write_of moves) n (whole_copies (over piece) (rank piece) P Known d id (map write_of moves) reads.mirror o alone new whole)))

    front_inside : AllInside (length d) w.before
    front_inside = all_front w.before (subst (AllInside (length d)) w.parts (whole_inside (over piece) (rank piece) P Known d id (map write_of moves) whole))
      where
        all_front : (ms : List (ℕ × Option ℕ)) → AllInside (length d) (ms ++ (w.place, Some id) ∷ []) → AllInside (length d) ms
        all_front [] i = tt
        all_front (m ∷ ms) i = (i.0, all_front ms i.1)

    first : (more : List Write) → insertions state (device_writes piece moves ++ more)
        ≡ record { before = state; writes = device_writes piece moves; entry = entry_by piece id } ∷ insertions (state_after state (device_writes piece moves)) more
    first more =
        subst (λ ms. insertions state (map (slot_write f) ms ++ more) ≡ record { before = state; writes = map (slot_write f) ms; entry = f id } ∷ insertions (state_after state (map (slot_write f) ms)) more) (sym w.parts)
        (one_run f P d state [] state w.before w.place id more same front_inside
        (Along_weaker (Ordered (over piece) (rank piece) P) (λ s. (a : ℕ) → P a → (at : ℕ) × (slot s at ≡ Some a)) d w.before (λ s g. g.placed) w.along)
        (Along_weaker (Ordered (over piece) (rank piece) P) (λ s. (at a : ℕ) → slot s at ≡ Some a → P a) d w.before (λ s g. g.within) w.along)
        (λ a p. false_from_ne_true (same_match (f id) (f a)) (λ e. new (subst P (sym (apart id a known (up a p) e)) p))))
