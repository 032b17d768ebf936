-- The trace of one route: the state behind its put is a stage, all of its commit is done there, and none of it before.
use Rattle.std.proofs.Common.{◌≡◌, ℕ, List, [], ◌∷◌, ◌++◌, None, Some, replicate, inl, inr, refl, sym, ap, ◌∙◌, subst, arith, lit<}
use Rattle.std.proofs.lemmas.Bool.{cases_eq}
use Rattle.std.proofs.lemmas.List.{get_or_past}
use Rattle.slot_order.specs.Order.{slot}
use Rattle.slot_order.proofs.Lists.{contains_none}
use Rattle.slot_order.proofs.Writes.{slot_same, slot_other}
use Rattle.rule_model.specs.AddressBlock.{AddressBlock, ipv4_block}
use Rattle.rule_model.specs.PortRange.{PortRange}
use Rattle.rule_model.specs.Rank.{ipv4_route_rank}
use Rattle.rule_model.specs.declared.Rule.{Rule}
use Rattle.rule_model.specs.Rule.{route_rule}
use Rattle.rule_model.specs.Piece.{whole_piece}
use Rattle.rule_store.specs.declared.Mode.TheVariants.{Cover}
use Rattle.rule_store.specs.declared.Command.TheVariants.{Add}
use Rattle.rule_model.specs.declared.words.Entry.{Entry}
use Rattle.rule_model.specs.Entry.{RankedPiece, entry_for}
use Rattle.range_bits.specs.LiveRanges.{no_ranges, range_at}
use Rattle.tcam_device.specs.declared.Write.TheVariants.{Slot}
use Rattle.tcam_device.specs.State.{State, blank, apply}
use Rattle.tcam_device.specs.Order.{AreAlike}
use Rattle.tcam_device.proofs.One.{same_match-same}
use Rattle.tcam_device.proofs.Wider.{empty_slot}
use Rattle.commit_writes.specs.Bits.{no_bits}
use Rattle.commit_writes.specs.Serving.{AreTranslated}
use Rattle.readback.specs.Tasks.{Task, Insert, IsStanding, IsDone}
use Rattle.readback.specs.Stage.{IsCommitAt, IsStage, IsTwinSlot}

abbrev pub block : AddressBlock
block = ipv4_block 0x0a010000 16

-- 10.1.0.0/16 with result 7
abbrev pub route : Rule
route = route_rule (ipv4_route_rank block) block 7

abbrev pub piece : RankedPiece
piece = record { piece = whole_piece route; rank = route.priority; result = 7 }

abbrev pub put : State
put = apply (blank 8) (Slot 3 (Some (entry_for piece)))

-- the entry stands in slot 3 and nowhere else
in_three : (at : ℕ) (found : Entry) → slot put.slots at ≡ Some found → (at ≡ 3) × (entry_for piece ≡ found)
in_three at found is =
    elim (cases_eq at 3) [
      | inl same ↦ (same, let it : Some (entry_for piece) ≡ Some found = sym (slot_same (replicate 8 None) 3 (Some (entry_for piece)) (lit< tt)) ∙ (ap (slot put.slots) (sym same) ∙ is) in cc)
      | inr other ↦ absurd (let there : None ≡ Some found = sym (empty_slot {E = Entry} 8 at) ∙ (sym (slot_other (replicate 8 None) 3 (Some (entry_for piece)) at other) ∙ is) in cc)
    ]

no_range : (bit : ℕ) (range : PortRange) → range_at no_ranges bit ≡ Some range → ⊥
no_range bit range there = let none = empty_slot {E = PortRange} 16 bit in cc

no_twins : (i j : ℕ) → AreAlike put.slots i j → ⊥
no_twins i j twins =
    let first : i ≡ 3 = (in_three i twins.first twins.here).0 in
    let second : j ≡ 3 = (in_three j twins.second twins.there).0 in
    let less = twins.less in
    omega arith

no_words : (state : State) → AreTranslated state no_bits
no_words state = record { src = λ bit range there. absurd (no_range bit range there); dst = λ bit range there. absurd (no_range bit range there) }

stands : IsStanding put piece
stands = (3, (entry_for piece, refl, same_match-same (entry_for piece)))

pub route_ended : IsCommitAt 8 Cover no_bits [] (Add route ∷ []) put (Insert piece ∷ []) []
route_ended = record {
  unused = λ at past. get_or_past put.slots at None past;
  known = λ at entry there. (piece, (0, omega arith, refl), (in_three at entry there).1);
  old_words = no_words put;
  new_words = λ ranked come there. no_words put;
  order = λ i j first second less is_first is_second here there meet. absurd (
      let a : i ≡ 3 = (in_three i (entry_for first) here).0 in let b : j ≡ 3 = (in_three j (entry_for second) there).0 in omega arith);
  twins = record { one = λ a b twin other. absurd (no_twins twin.0 a twin.1); equal = λ i j twins. absurd (no_twins i j twins) };
  stays = λ ranked old. absurd (contains_none ranked old);
  parts = refl;
  are_done = (stands, tt);
  are_left = tt;
}

pub route_stage : IsStage 8 Cover no_bits [] (Add route ∷ []) put
route_stage = (Insert piece ∷ [], [], route_ended)

pub route_alone : IsTwinSlot put.slots None
route_alone at twin = no_twins twin.0 at twin.1

-- without its put the commit hasn't arrived
pub not_arrived : (done : List Task) → IsCommitAt 8 Cover no_bits [] (Add route ∷ []) (blank 8) done [] → ⊥
not_arrived [] ended = let bad : Insert piece ∷ [] ≡ [] = ended.parts in cc
not_arrived (task ∷ rest) ended =
    let same : Insert piece ∷ [] ≡ task ∷ (rest ++ []) = ended.parts in
    let first : Insert piece ≡ task = cc in
    missing (subst (IsDone (blank 8)) (sym first) ended.are_done.0)
  where
    missing : IsStanding (blank 8) piece → ⊥
    missing (at, held) = let none : None ≡ Some held.0 = sym (empty_slot {E = Entry} 8 at) ∙ held.1 in cc
