-- What the placement refuses: an insertion with a write more. The first rule of a set takes one write for its one piece.
use Rattle.std.proofs.Common.{◌≡◌, ℕ, Bool, true, Option, Some, None, ◌+◌, List, [], ◌∷◌, fold, length, map, refl, sym, ap, ◌∙◌, arith}
use Rattle.std.proofs.lemmas.List.{append-nil, length-map}
use Rattle.std.specs.List.{AllByRecursion, AllZip, enumerate_from, filter_map}
use Rattle.std.proofs.lemmas.Bool.{eq-eqb}
use Rattle.slot_order.specs.Order.{slot}
use Rattle.slot_order.proofs.Lists.{contains_none}
use Rattle.slot_pool.specs.Arrangement.{Slots, passes}
use Rattle.slot_pool.proofs.Places.{first_slot_is}
use Rattle.slot_pool.proofs.Scan.{last_slot_is}
use Rattle.rule_model.specs.declared.Field.{Field}
use Rattle.rule_model.specs.declared.Field.TheVariants.{Src, Dst}
use Rattle.rule_model.specs.AddressBlock.{any_address}
use Rattle.rule_model.specs.Rule.{route_rule}
use Rattle.rule_store.specs.declared.Mode.{Mode}
use Rattle.rule_store.specs.declared.Mode.TheVariants.{Cover, Bits}
use Rattle.rule_store.specs.declared.Command.{Command}
use Rattle.rule_store.specs.declared.Command.TheVariants.{Add}
use Rattle.range_bits.specs.LiveRanges.{LiveRanges, bit_for, word_for, newly_live}
use Rattle.rule_model.specs.declared.words.Entry.{Entry}
use Rattle.placement.specs.declared.LivePiece.{LivePiece}
use Rattle.placement.proofs.Above.{live_is}
use Rattle.placement.specs.declared.Move.{Move}
use Rattle.placement.specs.Placement.{Above, Aiming, first_lower, last_upper, next_slot, gap_start, IsPlacement, straight_in, uncross, into_gap, push_down, push_up}
use Rattle.tcam_device.specs.declared.Write.{Write}
use Rattle.tcam_device.specs.declared.Write.TheVariants.{Slot}
use Rattle.tcam_device.specs.State.{State}
use Rattle.commit_writes.specs.Bits.{FieldBits, bits_with, new_bits}
use Rattle.commit_writes.specs.Shape.{word_write, bit_writes, inserted_pieces, rewritten_pieces, fresh_writes}
use Rattle.commit_writes.specs.Planned.{IdEntries, Planned, ArePlanned, ranked_of, planned_writes, write_for}
use Rattle.commit_writes.specs.PlannedBatch.{IsIdOf, IsRewriteOf}
use Rattle.batch_order.specs.declared.Placement.{Placement}
use Rattle.batch_order.specs.Placing.{IsPlacedBy}

-- the addition of a rule that every packet matches
abbrev addition : List Command
addition = Add (route_rule 0 any_address 7) ∷ []

-- no id stands anywhere
abbrev IsEmpty : Slots → Type 0
IsEmpty slots = (at id : ℕ) → slot slots at ≡ Some id → ⊥

held-by : (test : ℕ → Bool) (held : Option ℕ) → passes test held ≡ true → (id : ℕ) × (held ≡ Some id)
held-by test None passing = absurd (cc)
held-by test (Some id) passing = (id, refl)

no-lower : (above : Above) (id : ℕ) (slots : Slots) (lower : ℕ) → IsEmpty slots → first_lower above slots id ≡ Some lower → ⊥
no-lower above id slots lower empty is =
    let first = first_slot_is (λ other. above id other) slots lower is in
    let held = held-by (λ other. above id other) (slot slots lower) first.passing in
    empty lower held.0 held.1

no-upper : (above : Above) (id : ℕ) (slots : Slots) (upper : ℕ) → IsEmpty slots → last_upper above slots id ≡ Some upper → ⊥
no-upper above id slots upper empty is =
    let last = last_slot_is (λ other. above other id) slots upper is in
    let held = held-by (λ other. above other id) (slot slots upper) last.passing in
    empty upper held.0 held.1

-- among empty slots the moves of a placement are one
one-move : (above : Above) {priority : ℕ → ℕ} {aiming : Aiming} (id : ℕ) (slots : Slots) (moves : List Move) → IsPlacement above priority aiming id slots moves → IsEmpty slots → length moves ≡ 1
one-move above id slots moves (straight_in (into_gap at low found)) empty = refl
one-move above id slots moves (straight_in (push_down lower low none is down shorter)) empty = absurd (no-lower above id slots lower empty is)
one-move above id slots moves (straight_in (push_up upper low none is up shorter)) empty = absurd (no-upper above id slots upper empty is)
one-move above id slots moves (uncross behind before cut crossed sides best pass placing) empty = absurd (no-crossing (last_upper above slots id) refl)
  where
    no-crossing : (found : Option ℕ) → last_upper above slots id ≡ found → ⊥
    no-crossing (Some upper) is = no-upper above id slots upper empty is
    no-crossing None is = let start : gap_start above slots id ≡ 0 = ap next_slot is in omega (arith, crossed, start)

one-insertion : (entries : IdEntries) (live : List LivePiece) (slots : Slots) (planned : List Planned) → length planned ≡ 1 → ArePlanned live slots planned → IsEmpty slots → length (planned_writes entries planned) ≡ 1
one-insertion entries live slots [] count are empty = absurd (cc)
one-insertion entries live slots (insertion ∷ []) count are empty =
    ap length (append-nil (map (write_for entries) insertion.moves)) ∙ (length-map insertion.moves (write_for entries) ∙ one-move _ insertion.one.id slots insertion.moves are.1 empty)
one-insertion entries live slots (first ∷ second ∷ rest) count are empty = absurd (omega arith)

none-zipped : {X Y : Type 0} (R : X → Y → Type 0) (ys : List Y) → AllZip R [] ys → ys ≡ []
none-zipped R [] all = refl
none-zipped R (y ∷ ys) all = absurd all

none-new : (live : LiveRanges) → AllByRecursion (λ held. held ≡ None) (newly_live live live)
none-new [] = tt
none-new (None ∷ live) = (refl, none-new live)
none-new (Some range ∷ live) = (refl, none-new live)

word-kept : (live : LiveRanges) (port first word : ℕ) → AllByRecursion (λ held. held ≡ None) live → fold (bit_for port) word (enumerate_from first live) ≡ word
word-kept [] port first word none = refl
word-kept (None ∷ live) port first word none = word-kept live port (first + 1) word none.1
word-kept (Some range ∷ live) port first word none = absurd (let here = none.0 in cc)

no-words : (field : Field) (live : LiveRanges) (first : ℕ) (table : List ℕ) → AllByRecursion (λ held. held ≡ None) live → filter_map (word_write field live) (enumerate_from first table) ≡ []
no-words field live first [] none = refl
no-words field live first (word ∷ table) none = rw (eq-eqb (word_for live first word) word (word-kept live first 0 word none)) (no-words field live (first + 1) table none)

-- where no range is new no word of a table is written
unwritten : (bits : FieldBits) (state : State) → bit_writes state (new_bits bits bits) ≡ []
unwritten bits state =
    rw (no-words Src (newly_live bits.src bits.src) 0 state.src (none-new bits.src), no-words Dst (newly_live bits.dst bits.dst) 0 state.dst (none-new bits.dst)) refl

-- a batch that inserts one piece into an empty set, with no new range, makes one write
pub one-write : (placement : Placement) (mode : Mode) (bits : FieldBits) (batch : List Command) (state : State) (made : List Write) → bits_with mode [] batch bits ≡ bits
    → length (inserted_pieces mode (bits_with mode [] batch bits) [] batch) ≡ 1 → rewritten_pieces mode (bits_with mode [] batch bits) [] batch ≡ []
    → IsPlacedBy placement mode bits [] batch state made → length made ≡ 1
one-write placement mode bits batch state made old one none placed =
    let commit = placed.plan in
    let empty : IsEmpty placed.arrangement = λ at id is.
    let live = live_is placed.live id (commit.arranged.standing.within at id is) in
    let piece = commit.entries_are.of_piece live.0 live.1 in
    contains_none piece.0 piece.1 in
    let count : length placed.parts.planned ≡ 1 = sym (length-map placed.parts.planned ranked_of) ∙ (ap length commit.inserted ∙ one) in
    let inserted : length (planned_writes placed.entries placed.parts.planned) ≡ 1 = one-insertion placed.entries placed.live placed.arrangement placed.parts.planned count commit.are_planned empty in
    let rewritten : placed.parts.rewrites ≡ [] = none-zipped (IsRewriteOf placed.live) placed.parts.rewrites (rw none at commit.rewrites_are) in
    let erased : placed.parts.erased ≡ [] = none-zipped (IsIdOf placed.live) placed.parts.erased commit.erased_are in
    let words : fresh_writes mode bits [] batch state ≡ [] = ap (λ during. bit_writes state (new_bits bits during)) old ∙ unwritten bits state in
    let whole = ap length placed.writes_are in
    rw (words, rewritten, erased, append-nil) at whole ∙ inserted

-- the entry is put into one slot, and moved once more
padded : (placement : Placement) (mode : Mode) (bits : FieldBits) (state : State) (entry : Entry)
    → IsPlacedBy placement mode bits [] addition state (Slot 2 (Some entry) ∷ Slot 3 (Some entry) ∷ Slot 2 None ∷ []) → ⊥
padded placement Cover bits state entry placed = let one = one-write placement Cover bits addition state _ refl refl refl placed in omega (arith, one)
padded placement Bits bits state entry placed = let one = one-write placement Bits bits addition state _ refl refl refl placed in omega (arith, one)
