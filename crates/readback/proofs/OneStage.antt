-- A whole stage: the rule 10.0.0.0/8 and an empty batch, its entry in slots 0 and 1 of 8.
use Rattle.std.proofs.Common.{◌≡◌, ℕ, zero, suc, true, ◌≤◌, Option, None, Some, [], ◌∷◌, replicate, Contains, refl, sym, ◌∙◌, ap, subst, arith, inl, inr, le_refl}
use Rattle.slot_order.specs.Order.{slot}
use Rattle.slot_order.proofs.Lists.{contains_cases, contains_none}
use Rattle.rule_model.specs.declared.Rule.{Rule}
use Rattle.rule_model.specs.AddressBlock.{AddressBlock, ipv4_block}
use Rattle.rule_model.specs.Rank.{ipv4_route_rank}
use Rattle.rule_model.specs.Rule.{route_rule}
use Rattle.rule_model.specs.Piece.{whole_piece}
use Rattle.rule_store.specs.declared.Mode.TheVariants.{Cover}
use Rattle.range_bits.specs.LiveRanges.{no_ranges, range_at}
use Rattle.range_bits.proofs.FieldMaps.{no_range}
use Rattle.rule_model.specs.declared.words.Entry.{Entry}
use Rattle.rule_model.specs.Entry.{RankedPiece, entry_for, same_match}
use Rattle.tcam_device.specs.State.{State}
use Rattle.commit_writes.specs.Bits.{no_bits}
use Rattle.readback.specs.Tasks.{CommitPieces, commit_pieces, tasks_of}
use Rattle.tcam_device.specs.Order.{IsTwin}
use Rattle.readback.specs.Stage.{IsCommitAt, Finds}
use Rattle.commit_writes.specs.Serving.{AreTranslated}

-- no bit is live where none was given
no_bits_right : (state : State) → AreTranslated state no_bits
no_bits_right state = record {
  src = λ bit range live. absurd (let none : range_at no_ranges bit ≡ None = no_range bit in cc);
  dst = λ bit range live. absurd (let none : range_at no_ranges bit ≡ None = no_range bit in cc);
}

none_at : {E : Type 0} (n at : ℕ) → slot (replicate {A = Option E} n None) at ≡ None
none_at zero at = refl
none_at (suc n) zero = refl
none_at (suc n) (suc at) = none_at n at

abbrev block : AddressBlock
block = ipv4_block 167772160 8

abbrev eight : Rule
eight = route_rule (ipv4_route_rank block) block 7

abbrev ranked : RankedPiece
ranked = record { piece = whole_piece eight; rank = eight.priority; result = eight.result }

abbrev entry : Entry
entry = entry_for ranked

abbrev state : State
state = record { slots = Some entry ∷ Some entry ∷ replicate 6 None; src = []; dst = [] }

abbrev pieces : CommitPieces
pieces = commit_pieces Cover no_bits (eight ∷ []) []

its_pieces : pieces ≡ record { old = ranked ∷ []; inserted = []; rewritten = []; erased = [] }
its_pieces = refl

no_tasks : tasks_of pieces ≡ []
no_tasks = refl

-- the entry stands in slots 0 and 1, and nowhere else
held : (at : ℕ) (e : Entry) → slot state.slots at ≡ Some e → (at ≤ 1) × (entry ≡ e)
held zero e s = (omega arith, (let z : Some entry ≡ Some e = s in cc))
held (suc zero) e s = (omega arith, (let z : Some entry ≡ Some e = s in cc))
held (suc (suc at)) e s = absurd (let none : slot (replicate {A = Option Entry} 6 None) at ≡ None = none_at 6 at in let z : slot (replicate {A = Option Entry} 6 None) at ≡ Some e = s in cc)

only : (x : RankedPiece) → Contains (ranked ∷ []) x → ranked ≡ x
only x member = elim (contains_cases ranked x [] member) [ inl same ↦ same | inr none ↦ absurd (contains_none x none) ]

twin : IsTwin state.slots 1
twin = (0, record { less = omega arith; first = entry; second = entry; here = refl; there = refl; same = refl })

second : (at : ℕ) → IsTwin state.slots at → at ≡ 1
second at (lesser, w) = let low = w.less in let high = (held at w.second w.there).0 in omega arith

stage : IsCommitAt 8 Cover no_bits (eight ∷ []) [] state [] []
stage = record {
  unused = λ at past. none at past;
  known = λ at e s. (ranked, (0, omega arith, refl), (held at e s).1);
  old_words = no_bits_right state;
  new_words = λ x member stands. no_bits_right state;
  order = λ i j first second less a b here there over.
      subst (λ (x : RankedPiece). x.rank ≤ first.rank) (only second b) (subst (λ (x : RankedPiece). ranked.rank ≤ x.rank) (only first a) (le_refl ranked.rank));
  twins = record {
    one = λ a b is_a is_b. second a is_a ∙ sym (second b is_b);
    equal = λ lesser at w. ap (λ (e : Entry). e.result) (sym (held lesser w.first w.here).1 ∙ (held at w.second w.there).1);
  };
  stays = λ x member kept. (0, (entry, refl, subst (λ (y : RankedPiece). same_match (entry_for y) entry ≡ true) (only x member) refl));
  parts = refl;
  are_done = tt;
  are_left = tt;
}
  where
    none : (at : ℕ) → 8 ≤ at → slot state.slots at ≡ None
    none zero past = absurd (omega arith)
    none (suc zero) past = absurd (omega arith)
    none (suc (suc at)) past = none_at 6 at

-- so a stage is found, with no task done and none left, and slot 1 as the twin
found : Finds 8 Cover no_bits (eight ∷ []) [] state (record { done = 0; left = 0; twin = Some 1 })
found = record { done = []; left = []; stage = stage; done_number = refl; left_number = refl; twin = twin }
