-- The parts of the longest insertion of a plan, counted by its moves, are those of the longest one that its writes make.
use Rattle.std.proofs.Common.{◌≡◌, ℕ, suc, true, false, Option, List, [], ◌∷◌, ◌++◌, map, fold, max, Contains, inl, inr, refl, sym, ◌∙◌, subst, ap, ap₂}
use Rattle.std.specs.List.{AllByRecursion}
use Rattle.std.proofs.lemmas.List.Elements.{Contains-append_cases, Contains-append_left, Contains-append_right}
use Rattle.slot_order.specs.Order.{Ordered}
use Rattle.slot_order.proofs.Images.{entries as images}
use Rattle.slot_order.proofs.Lists.{contains_cases, contains_head, contains_none, contains_tail, map_in}
use Rattle.slot_moves.proofs.Once.{AllOnce}
use Rattle.slot_moves.proofs.Sets.{Ordered_same}
use Rattle.slot_moves.proofs.Turns.{Plus}
use Rattle.slot_pool.specs.Arrangement.{Slots}
use Rattle.rule_model.specs.declared.Rule.{Rule}
use Rattle.rule_model.specs.Entry.{RankedPiece}
use Rattle.rule_store.specs.declared.Mode.{Mode}
use Rattle.rule_store.specs.declared.Command.{Command}
use Rattle.rule_store.specs.Store.{StoredRules}
use Rattle.placement.specs.declared.LivePiece.{LivePiece}
use Rattle.placement.specs.declared.Move.{Move}
use Rattle.placement.specs.declared.Move.TheVariants.{Put, Erase}
use Rattle.placement.specs.Live.{is_above}
use Rattle.placement.specs.Placement.{after_moves}
use Rattle.placement.specs.Insertion.{IsLive}
use Rattle.tcam_device.specs.declared.Write.{Write}
use Rattle.tcam_device.specs.State.{State, state_after}
use Rattle.tcam_device.specs.Insertion.{Insertion}
use Rattle.tcam_device.proofs.Lookups.{HitAsPieces}
use Rattle.commit_writes.specs.Proposal.{proposal}
use Rattle.commit_writes.specs.declared.Done.{Done}
use Rattle.commit_writes.specs.declared.Rewrite.{Rewrite}
use Rattle.commit_writes.specs.Bits.{FieldBits}
use Rattle.commit_writes.specs.Planned.{IdEntries, Planned, ArePlanned, IsPlannedRow, IsServedBy, live_after, write_for}
use Rattle.commit_writes.specs.PlannedBatch.{IsPlannedBatch, batch_writes}
use Rattle.commit_writes.specs.Shape.{inserted_pieces, set_pieces}
use Rattle.commit_writes.proofs.BatchRow.{row_of}
use Rattle.commit_writes.proofs.BatchStands.{batch_insertions}
use Rattle.commit_writes.proofs.Bridge.{IsBridged, bridge, device_writes}
use Rattle.commit_writes.proofs.Front.{front_insertions}
use Rattle.commit_writes.proofs.Ids.{AreOfPieces, known_member}
use Rattle.commit_writes.proofs.Members.{of_row}
use Rattle.commit_writes.proofs.Mirror.{After, Pieces, entry_by, hits_after, over, rank, served_hits}
use Rattle.commit_writes.proofs.Row.{AreReadable, live_more, live_up, made_by}
use Rattle.commit_writes.proofs.Start.{arranged_ordered, commit_makes, commit_piece, commit_readable, contents_are, old_live}
use Rattle.batch_order.specs.declared.Placement.{Placement}
use Rattle.batch_order.specs.declared.translation.Translation.{Translation}
use Rattle.batch_order.specs.ByParts.{insertion_parts, longest_parts, longest_planned_parts, moves_put, writes_put}
use Rattle.batch_order.specs.Entries.{Entries}
use Rattle.batch_order.specs.Kept.{bits_of, mode_of, settled_state}
use Rattle.batch_order.proofs.planning.Taken.{IsPlanOf, behind_by, during_by}

-- the writes of an insertion put as many entries as its moves
abbrev PutsAsMany : IdEntries → Planned → Type 0
PutsAsMany held planned = writes_put (map (write_for held) planned.moves) ≡ moves_put planned.moves

device_puts : (piece : ℕ → RankedPiece) (moves : List Move) → writes_put (device_writes piece moves) ≡ moves_put moves
device_puts piece [] = refl
device_puts piece (Put at id ∷ moves) = ap suc (device_puts piece moves)
device_puts piece (Erase at ∷ moves) = device_puts piece moves

-- since each id that is put has its entry
row_puts : (held : IdEntries) (piece : ℕ → RankedPiece) (all live : List LivePiece) (slots : Slots) (state : State) (planned : List Planned) → AreReadable held piece all
    → ((one : LivePiece) → Contains live one → Contains all one) → ((insertion : Planned) → Contains planned insertion → Contains all insertion.one)
    → state.slots ≡ images (entry_by piece) slots → Ordered (over piece) (rank piece) (IsLive live) slots → AllOnce slots
    → HitAsPieces state (Pieces piece (IsLive all)) → ArePlanned live slots planned
    → AllByRecursion (PutsAsMany held) planned
row_puts held piece all live slots state [] readable up ones same o once hits are = tt
row_puts held piece all live slots state (planned ∷ rest) readable up ones same o once hits are = (
  ap writes_put b.same_writes ∙ device_puts piece planned.moves,
  row_puts held piece all grown (after_moves slots planned.moves) next rest readable up' (λ other member. ones other (contains_tail planned other rest member))
      changed.slots (Ordered_same (over piece) (rank piece) (Plus (IsLive live) planned.one.id) (IsLive grown) (after_moves slots planned.moves) (live_more live planned.one) b.ids) b.once_ids
      (hits_after (Pieces piece (IsLive all)) state next hits changed.src changed.dst) are.3,
)
  where
    grown : List LivePiece
    grown = live ++ planned.one ∷ []

    next : State
    next = state_after state (map (write_for held) planned.moves)

    up' : (one : LivePiece) → Contains grown one → Contains all one
    up' one member = elim (Contains-append_cases live (planned.one ∷ []) one member) [
      | inl old ↦ up one old
      | inr new ↦ elim (contains_cases planned.one one [] new) [ inl is ↦ subst (Contains all) is (ones planned (contains_head planned rest)) | inr none ↦ absurd (contains_none one none) ]
    ]

    known : (id : ℕ) → IsLive grown id → IsLive all id
    known id is = live_up grown all up' id is

    grows : (id : ℕ) → IsLive live id → IsLive grown id
    grows id is = (live_more live planned.one id).0 (inl is)

    here : IsLive grown planned.one.id
    here = (live_more live planned.one planned.one.id).0 (inr refl)

    b : IsBridged held piece (IsLive live) (IsLive grown) (is_above grown) slots state planned.one.id planned.moves
    b = bridge held piece (IsLive live) (IsLive grown) (is_above grown) slots state planned.one.id planned.moves (readable.reads grown up')
        (λ x y kx ky. readable.apart x y (known x kx) (known y ky)) (λ id is. readable.have id (known id is)) grows here (λ is. let wrong : true ≡ false = sym is ∙ are.0 in cc) same o once
        (λ ranked key m valid. hits ranked key (m.0, known m.0 m.1, m.2) valid) are.1

    changed : After piece (after_moves slots planned.moves) state next
    changed = subst (λ ws. After piece (after_moves slots planned.moves) state (state_after state ws)) (sym b.same_writes) b.changed

-- so the parts of each are counted by its moves
parts_each : (held : IdEntries) (piece : ℕ → RankedPiece) (state : State) (planned : List Planned) → AllByRecursion (PutsAsMany held) planned
    → map (λ (insertion : Insertion). insertion_parts (writes_put insertion.writes)) (made_by held piece state planned) ≡ map (λ (insertion : Planned). insertion_parts (moves_put insertion.moves)) planned
parts_each held piece state [] all = refl
parts_each held piece state (planned ∷ rest) all =
    ap₂ (λ (first : ℕ) (behind : List ℕ). first ∷ behind) (ap insertion_parts all.0) (parts_each held piece (state_after state (map (write_for held) planned.moves)) rest all.1)

module _ (mode : Mode) (bits : FieldBits) (start : State) (rules : List Rule) (batch : List Command) (live : List LivePiece) (slots : Slots) (held : IdEntries) (planned : List Planned) (rewrites : List Rewrite) (erased : List ℕ)
    (plan : IsPlannedBatch (proposal mode bits rules batch) start live slots held planned rewrites erased) where
  abbrev old : List RankedPiece
  old = set_pieces mode bits rules

  abbrev added : List RankedPiece
  added = inserted_pieces mode bits rules batch

  abbrev piece : ℕ → RankedPiece
  piece = commit_piece live held planned

  abbrev all : List LivePiece
  all = live_after live planned

  row : IsPlannedRow start old added live slots held planned
  row = row_of mode bits start rules batch live slots held planned rewrites erased plan

  of : AreOfPieces start (old ++ added) all held
  of = of_row start old added live slots held planned row

  mirrored : start.slots ≡ images (entry_by piece) slots
  mirrored =
      row.mirrors ∙ contents_are held piece (IsLive all) slots (commit_readable start old added live slots held planned row).have
      (λ at id s. old_live live planned id (row.arranged.standing.within at id s))

  up : (one : LivePiece) → Contains live one → Contains all one
  up one member = Contains-append_left live (map (λ (insertion : Planned). insertion.one) planned) one member

  begins : Ordered (over piece) (rank piece) (IsLive live) slots
  begins = arranged_ordered piece live slots ((commit_readable start old added live slots held planned row).reads live up) row.arranged

  hits : HitAsPieces start (Pieces piece (IsLive all))
  hits = served_hits start (Pieces piece (IsLive all)) row.is_state (λ ranked m.
      subst (IsServedBy start) m.2 (of.served (piece m.0) (known_member start (old ++ added) all held m.0 of m.1)))

  puts : AllByRecursion (PutsAsMany held) planned
  puts =
      row_puts held piece all live slots start planned (commit_readable start old added live slots held planned row) up
      (λ p member. Contains-append_right live (map (λ (insertion : Planned). insertion.one) planned) p.one (map_in (λ (insertion : Planned). insertion.one) planned p member))
      mirrored begins (λ i j id a b. row.arranged.standing.once i j id a b) hits row.are_planned

  -- the longest insertion of a planned batch
  pub batch_longest : longest_parts start (batch_writes held slots planned rewrites erased) ≡ longest_planned_parts planned
  batch_longest =
      ap (λ (made : List Insertion). fold max 0 (map (λ (insertion : Insertion). insertion_parts (writes_put insertion.writes)) made))
      (batch_insertions mode bits start rules batch live slots held planned rewrites erased plan ∙ commit_makes start old added live slots held planned row)
      ∙ ap (fold max 0) (parts_each held piece start planned puts)

-- and of a plan, whose words of the tables are part of none
pub plan_longest : (placement : Placement) (translation : Option Translation) (rules : StoredRules) (old new : Entries) (slots middle : Slots) (batch : List Command) (rewrites : List Rewrite) (erased : List ℕ) (writes : List Write) (counts : Done)
    (plan : IsPlanOf placement translation rules old new slots middle batch rewrites erased writes counts)
    → longest_planned_parts plan.planned ≡ longest_parts (settled_state translation old.entries slots) writes
plan_longest placement translation rules old new slots middle batch rewrites erased writes counts plan =
    sym (batch_longest (mode_of translation) (during_by translation rules batch) (behind_by translation rules old slots batch) rules.rules batch old.live slots new.entries plan.planned rewrites erased plan.commit)
    ∙ (ap (λ (made : List Insertion). fold max 0 (map (λ (insertion : Insertion). insertion_parts (writes_put insertion.writes)) made))
    (sym (front_insertions (mode_of translation) (bits_of translation) rules.rules batch (settled_state translation old.entries slots) (batch_writes new.entries slots plan.planned rewrites erased)))
    ∙ ap (longest_parts (settled_state translation old.entries slots)) (sym plan.writes_are))
