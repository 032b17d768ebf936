-- A device that mirrors an arrangement of ids: what the arrangement says is what the device says.
use Rattle.std.proofs.Common.{◌≡◌, ℕ, ◌≤◌, true, Option, Some, option_map, List, [], ◌∷◌, map, refl, sym, ◌∙◌, subst, ap, set}
use Rattle.std.specs.Prelude.{length, slice_index, ◌↔◌}
use Rattle.std.proofs.lemmas.List.{map-set}
use Rattle.slot_order.specs.Order.{slot, Ordered}
use Rattle.slot_order.specs.Chains.{applied}
use Rattle.slot_order.proofs.Images.{entries, slot_entries, stands_for}
use Rattle.slot_moves.proofs.Once.{AllOnce}
use Rattle.slot_pool.specs.Arrangement.{Slots}
use Rattle.rule_model.specs.Piece.{PiecesOverlap, piece_matches}
use Rattle.rule_model.specs.declared.words.Entry.{Entry}
use Rattle.rule_model.specs.Entry.{RankedPiece, entry_for, same_match, hits}
use Rattle.rule_model.specs.Word.{word_of}
use Rattle.rule_model.proofs.Exact.{hits-entry_of}
use Rattle.tcam_device.specs.State.{State, IsState, apply, state_after}
use Rattle.tcam_device.specs.Order.{IsOrdered, StandsAt, StandsOnce}
use Rattle.tcam_device.proofs.Lookups.{HitAsPieces}
use Rattle.tcam_device.proofs.Shown.{hit_as_pieces}
use Rattle.tcam_device.proofs.One.{slot_write, same_match-same}
use Rattle.placement.proofs.Chain.{AllKnown}
use Rattle.commit_writes.specs.Planned.{IsServedBy}

-- the pieces of some ids
abbrev pub Pieces : (ℕ → RankedPiece) → (ℕ → Type 0) → RankedPiece → Type 0
Pieces piece P ranked = (id : ℕ) × P id × (piece id ≡ ranked)

abbrev pub entry_by : (ℕ → RankedPiece) → ℕ → Entry
entry_by piece id = entry_for (piece id)

-- the pieces of two ids overlap
abbrev pub over : (ℕ → RankedPiece) → ℕ → ℕ → Type 0
over piece a b = PiecesOverlap (piece a).piece (piece b).piece

abbrev pub rank : (ℕ → RankedPiece) → ℕ → ℕ
rank piece id = (piece id).rank

-- distinct ids have distinct matches
abbrev pub MatchApart : (ℕ → RankedPiece) → (ℕ → Type 0) → Type 0
MatchApart piece Known = (a b : ℕ) → Known a → Known b → same_match (entry_by piece a) (entry_by piece b) ≡ true → a ≡ b

-- the id that stands where the entry of another's piece does is that one
same_id : (piece : ℕ → RankedPiece) (Known : ℕ → Type 0) (d : Slots) (state : State) (at id : ℕ)
    → MatchApart piece Known → AllKnown Known d → Known id → state.slots ≡ entries (entry_by piece) d
    → slot state.slots at ≡ Some (entry_by piece id) → slot d at ≡ Some id
same_id piece Known d state at id apart all known same s =
    let w = stands_for (entry_by piece) (slot d at) (entry_by piece id) (sym (slot_entries (entry_by piece) d at) ∙ (ap (λ xs. slot xs at) (sym same) ∙ s)) in
    let k : w.id ≡ id = apart w.id id (all at w.id w.is) known (subst (λ e. same_match (entry_by piece w.id) e ≡ true) w.same (same_match-same (entry_by piece w.id))) in
    w.is ∙ ap Some k

-- ids in order are pieces in order
pub ordered_state : (piece : ℕ → RankedPiece) (P Known : ℕ → Type 0) (d : Slots) (state : State)
    → MatchApart piece Known → ((a : ℕ) → P a → Known a) → state.slots ≡ entries (entry_by piece) d → Ordered (over piece) (rank piece) P d
    → IsOrdered state (Pieces piece P)
ordered_state piece P Known d state apart up same o = record {
  known = λ at e s.
      let w = stands_for (entry_by piece) (slot d at) e (sym (slot_entries (entry_by piece) d at) ∙ (ap (λ xs. slot xs at) (sym same) ∙ s)) in
      (piece w.id, (w.id, o.within at w.id w.is, refl), w.same);
  complete = λ ranked m. let w = o.placed m.0 m.1 in
      (w.0, ap (λ xs. slot xs w.0) same ∙ (slot_entries (entry_by piece) d w.0 ∙ (ap (option_map (entry_by piece)) w.1 ∙ ap (λ r. Some (entry_for r)) m.2)));
  order = λ i j first second l a b here there v.
      let x = at i first a here in let y = at j second b there in
      let meet : over piece a.0 b.0 = subst (λ r. PiecesOverlap (piece a.0).piece r.piece) (sym b.2) (subst (λ r. PiecesOverlap r.piece second.piece) (sym a.2) v) in
      let k : rank piece b.0 ≤ rank piece a.0 = o.sorted i j a.0 b.0 l x y meet in
      subst (λ r. second.rank ≤ r.rank) a.2 (subst (λ r. r.rank ≤ rank piece a.0) b.2 k);
}
  where
    all : AllKnown Known d
    all place id s = up id (o.within place id s)

    at : (place : ℕ) (ranked : RankedPiece) → (m : Pieces piece P ranked) → StandsAt state place ranked → slot d place ≡ Some m.0
    at place ranked m s = same_id piece Known d state place m.0 apart all (up m.0 m.1) same (s ∙ ap (λ r. Some (entry_for r)) (sym m.2))

-- ids that stand once are pieces that do
pub stands_once : (piece : ℕ → RankedPiece) (P Known : ℕ → Type 0) (d : Slots) (state : State)
    → MatchApart piece Known → ((a : ℕ) → P a → Known a) → AllKnown Known d → state.slots ≡ entries (entry_by piece) d → AllOnce d
    → IsOrdered state (Pieces piece P) → StandsOnce state (Pieces piece P)
stands_once piece P Known d state apart up all same once o ranked m = let w = o.complete ranked m in (w.0, w.1, λ other s. once other w.0 m.0 (at other s) (at w.0 w.1))
  where
    at : (place : ℕ) → StandsAt state place ranked → slot d place ≡ Some m.0
    at place s = same_id piece Known d state place m.0 apart all (up m.0 m.1) same (s ∙ ap (λ r. Some (entry_for r)) (sym m.2))

-- and the other way round
pub ordered_ids : (piece : ℕ → RankedPiece) (P : ℕ → Type 0) (d : Slots) (state : State) → MatchApart piece P → AllKnown P d → state.slots ≡ entries (entry_by piece) d
    → IsOrdered state (Pieces piece P) → Ordered (over piece) (rank piece) P d
ordered_ids piece P d state apart all same o = record {
  within = all;
  placed = λ id is. let w = o.complete (piece id) (id, is, refl) in (w.0, same_id piece P d state w.0 id apart all is same w.1);
  sorted = λ i j a b l s t v. o.order i j (piece a) (piece b) l (a, all i a s, refl) (b, all j b t, refl) (here i a s) (here j b t) v;
}
  where
    here : (at id : ℕ) → slot d at ≡ Some id → StandsAt state at (piece id)
    here at id s = ap (λ xs. slot xs at) same ∙ (slot_entries (entry_by piece) d at ∙ ap (option_map (entry_by piece)) s)

-- an order speaks of its members, by whatever name
pub IsOrdered_same : (state : State) (P Q : RankedPiece → Type 0) → ((ranked : RankedPiece) → P ranked ↔ Q ranked) → IsOrdered state P → IsOrdered state Q
IsOrdered_same state P Q same o = record {
  known = λ at e s. let w = o.known at e s in (w.0, (same w.0).0 w.1, w.2);
  complete = λ ranked q. o.complete ranked ((same ranked).1 q);
  order = λ i j first second l a b. o.order i j first second l ((same first).1 a) ((same second).1 b);
}

pub StandsOnce_same : (state : State) (P Q : RankedPiece → Type 0) → ((ranked : RankedPiece) → P ranked ↔ Q ranked) → StandsOnce state P → StandsOnce state Q
StandsOnce_same state P Q same once ranked q = once ranked ((same ranked).1 q)

-- what a device that mirrors an arrangement has after some writes of it
pub record After (piece : ℕ → RankedPiece) (d : Slots) (state after : State) : Type 0 where
  pub slots : after.slots ≡ entries (entry_by piece) d
  pub src : after.src ≡ state.src
  pub dst : after.dst ≡ state.dst

-- a device that mirrors an arrangement mirrors it after the same writes
pub state_applied : (piece : ℕ → RankedPiece) (d : Slots) (state : State) (ws : List (ℕ × Option ℕ)) → state.slots ≡ entries (entry_by piece) d
    → After piece (applied d ws) state (state_after state (map (slot_write (entry_by piece)) ws))
state_applied piece d state [] same = record { slots = same; src = refl; dst = refl }
state_applied piece d state (w ∷ ws) same =
    let h = state_applied piece (set d w.0 w.1) (apply state (slot_write (entry_by piece) w)) ws
    (ap (λ xs. set xs w.0 (option_map (entry_by piece) w.1)) same ∙ sym (map-set (option_map (entry_by piece)) d w.0 w.1)) in
    record { slots = h.slots; src = h.src; dst = h.dst }

-- where the tables are left, entries hit what they did
pub hits_after : (Member : RankedPiece → Type 0) (state after : State) → HitAsPieces state Member → after.src ≡ state.src → after.dst ≡ state.dst → HitAsPieces after Member
hits_after Member state after h src dst ranked key m valid =
    subst (λ t. hits (entry_for ranked) (word_of key (slice_index t key.sport) (slice_index after.dst key.dport)) ≡ piece_matches ranked.piece key) (sym src)
    (subst (λ t. hits (entry_for ranked) (word_of key (slice_index state.src key.sport) (slice_index t key.dport)) ≡ piece_matches ranked.piece key) (sym dst) (h ranked key m valid))

-- and under tables that serve them entries hit what their pieces match
pub served_hits : (state : State) (Member : RankedPiece → Type 0) → IsState (length state.slots) state → ((ranked : RankedPiece) → Member ranked → IsServedBy state ranked) → HitAsPieces state Member
served_hits state Member is served = hit_as_pieces (length state.slots) state Member is
    (λ ranked m. let s = served ranked m in hits-entry_of ranked.piece ranked.rank ranked.result s.right s.encodable)
    record { srcbits = λ ranked bit m. (served ranked m).srcbits bit; dstbits = λ ranked bit m. (served ranked m).dstbits bit }
