-- The commit of one route into a blank device of eight slots: one write, of slot 3; and writes that are no commit's.
use Rattle.std.proofs.Common.{◌≡◌, ◌<◌, ℕ, List, [], ◌∷◌, ◌++◌, take, None, Some, Contains, inl, inr, replicate, arith, refl, sym, ap, subst}
use Rattle.std.proofs.lemmas.List.Elements.{Contains-append_cases}
use Rattle.slot_order.specs.Order.{slot}
use Rattle.slot_order.proofs.Lists.{contains_take, AllByRecursion-member}
use Rattle.rule_model.specs.declared.Rule.{Rule}
use Rattle.rule_model.specs.AddressBlock.{ipv4_block}
use Rattle.rule_model.specs.Rank.{ipv4_route_rank}
use Rattle.rule_model.specs.Rule.{route_rule}
use Rattle.rule_model.specs.Piece.{whole_piece}
use Rattle.rule_store.specs.declared.Mode.TheVariants.{Cover}
use Rattle.rule_store.specs.declared.Command.{Command}
use Rattle.rule_store.specs.declared.Command.TheVariants.{Add, Set}
use Rattle.rule_model.specs.declared.words.Entry.{Entry}
use Rattle.rule_model.specs.Entry.{RankedPiece, entry_of, entry_for}
use Rattle.tcam_device.specs.declared.Write.{Write}
use Rattle.tcam_device.specs.declared.Write.TheVariants.{Slot}
use Rattle.tcam_device.specs.State.{State, blank, state_after}
use Rattle.tcam_device.specs.Insertion.{Insertion}
use Rattle.tcam_device.proofs.Wider.{empty_slot}
use Rattle.commit_writes.specs.Bits.{no_bits}
use Rattle.commit_writes.specs.Shape.{set_pieces, inserted_pieces, fresh_writes, due_of, HasShape}
use Rattle.commit_writes.specs.Commit.{KeepsOrder}
use Rattle.commit_writes.proofs.NoBits.{bit_writes-none}

-- the route 10.0.0.0/8
abbrev ten : Rule
ten = route_rule (ipv4_route_rank (ipv4_block 0x0a000000 8)) (ipv4_block 0x0a000000 8) 7

abbrev made : List Write
made = Slot 3 (Some (entry_of (whole_piece ten) ten.priority ten.result)) ∷ []

shape : HasShape (fresh_writes Cover no_bits [] (Add ten ∷ []) (blank 8)) (due_of Cover no_bits [] (Add ten ∷ [])) (blank 8) made
shape =
    subst (λ front. HasShape front (due_of Cover no_bits [] (Add ten ∷ [])) (blank 8) made) (sym (bit_writes-none (blank 8))) record {
      inserted = made;
      rewritten = [];
      erased = [];
      parts = refl;
      whole = refl;
      entries = refl;
      results = tt;
      erases = tt;
    }

abbrev piece : RankedPiece
piece = record { piece = whole_piece ten; rank = ten.priority; result = ten.result }

-- a second copy that is left isn't a commit's,
abbrev twice : List Write
twice = Slot 3 (Some (entry_for piece)) ∷ Slot 5 (Some (entry_for piece)) ∷ []

leak_refused : KeepsOrder Cover no_bits [] (Add ten ∷ []) (blank 8) twice → ⊥
leak_refused keeps =
    let stands = keeps.once piece (0, omega arith, refl) in
    let third : 3 ≡ stands.0 = stands.2 3 refl in
    let fifth : 5 ≡ stands.0 = stands.2 5 refl in
    omega arith

-- nor is the erase of an entry that stays
loss_refused : KeepsOrder Cover no_bits (ten ∷ []) [] (state_after (blank 8) made) (Slot 3 None ∷ []) → ⊥
loss_refused keeps = let stands = keeps.after.ordered.complete piece (0, omega arith, refl) in empty_is stands.0 stands.1
  where
    empty_is : (at : ℕ) → slot {E = Entry} (replicate 8 None) at ≡ Some (entry_for piece) → ⊥
    empty_is at held = let none = empty_slot {E = Entry} 8 at in cc

-- nor is a second copy that one insertion leaves and the next erases
abbrev eleven : Rule
eleven = route_rule (ipv4_route_rank (ipv4_block 0x0b000000 8)) (ipv4_block 0x0b000000 8) 8

abbrev twelve : Rule
twelve = route_rule (ipv4_route_rank (ipv4_block 0x0c000000 8)) (ipv4_block 0x0c000000 8) 9

abbrev one-stands : State
one-stands = state_after (blank 8) made

abbrev leaves : List Write
leaves = Slot 5 (Some (entry_for piece)) ∷ Slot 2 (Some (entry_of (whole_piece eleven) eleven.priority eleven.result)) ∷ []

abbrev clears : List Write
clears = Slot 5 None ∷ Slot 6 (Some (entry_of (whole_piece twelve) twelve.priority twelve.result)) ∷ []

leak_between_refused : KeepsOrder Cover no_bits (ten ∷ []) (Add eleven ∷ Add twelve ∷ []) one-stands (leaves ++ clears) → ⊥
leak_between_refused keeps =
    let second : Insertion = record { before = state_after one-stands leaves; writes = clears; entry = entry_of (whole_piece twelve) twelve.priority twelve.result } in
    let stands = keeps.between 1 second refl piece (0, omega arith, refl) in
    let third : 3 ≡ stands.0 = stands.2 3 refl in
    let fifth : 5 ≡ stands.0 = stands.2 5 refl in
    omega arith

-- nor is a result that is given before the insertions are made: 10.1.0.0/16 gets one, 10.0.0.0/8 is new
abbrev sixteen : Rule
sixteen = route_rule (ipv4_route_rank (ipv4_block 0x0a010000 16)) (ipv4_block 0x0a010000 16) 7

abbrev eight : Rule
eight = route_rule (ipv4_route_rank (ipv4_block 0x0a000000 8)) (ipv4_block 0x0a000000 8) 5

abbrev changes : List Command
changes = Set sixteen.priority 9 ∷ Add eight ∷ []

abbrev sixteen-stands : State
sixteen-stands = state_after (blank 2) (Slot 1 (Some (entry_of (whole_piece sixteen) sixteen.priority sixteen.result)) ∷ [])

abbrev told : Entry
told = entry_of (whole_piece sixteen) sixteen.priority 9

abbrev early : List Write
early = Slot 0 (Some told) ∷ Slot 1 (Some (entry_of (whole_piece eight) eight.priority eight.result)) ∷ Slot 0 (Some told) ∷ []

early_result_refused : KeepsOrder Cover no_bits (sixteen ∷ []) changes sixteen-stands early → ⊥
early_result_refused keeps =
    let w = keeps.inserting 1 (omega arith) in
    let held = w.1.ordered.known 0 told refl in
    let result : held.0.result ≡ 9 = ap (λ (entry : Entry). entry.result) held.2 in
    let other = known_result w.0 held.0 held.1 in
    omega arith
  where
    old : List RankedPiece
    old = set_pieces Cover no_bits (sixteen ∷ [])

    inserted : List RankedPiece
    inserted = inserted_pieces Cover no_bits (sixteen ∷ []) changes

    known_result : (k : ℕ) (ranked : RankedPiece) → Contains (old ++ take k inserted) ranked → ranked.result < 9
    known_result k ranked member = elim (Contains-append_cases old (take k inserted) ranked member) [
      | inl stood ↦ AllByRecursion-member (λ (r : RankedPiece). r.result < 9) old ranked (omega arith, tt) stood
      | inr put ↦ let at = contains_take k inserted ranked put in AllByRecursion-member (λ (r : RankedPiece). r.result < 9) inserted ranked (omega arith, tt) (at.0, at.2, at.3)
    ]
