-- The table of a field serves the new ranges of a batch once it has their words, and those that were live before all the while.
use Rattle.std.proofs.Common.{◌≡◌, ℕ, ◌+◌, ◌≤◌, ◌^◌, Option, None, Some, IsSome, List, length, Contains, ◌⊎◌, inl, inr, refl, ap, sym, ◌∙◌, subst, arith}
use Rattle.std.specs.Prelude.{slice_index}
use Rattle.std.specs.List.{AllByRecursion}
use Rattle.std.proofs.lemmas.Option.{same_Some}
use Rattle.rule_model.specs.declared.Rule.{Rule}
use Rattle.rule_model.specs.declared.Field.{Field}
use Rattle.rule_model.specs.Rule.{HasConditions}
use Rattle.rule_model.specs.PortRange.{PortRange, is_bit_set, range_holds}
use Rattle.rule_store.specs.declared.Command.{Command}
use Rattle.rule_store.specs.Batch.{additions}
use Rattle.rule_store.specs.Verdict.{coded_ranges, new_ranges, field_bits}
use Rattle.range_bits.specs.LiveRanges.{LiveRanges, range_at, bit_of, if_new, with_ranges, kept_ranges, newly_live, word_for}
use Rattle.range_bits.specs.FieldMap.{IsFieldMap}
use Rattle.range_bits.proofs.FieldMaps.{bit_of-none, live_count-within}
use Rattle.range_bits.proofs.Changes.{IsFieldMap-kept_ranges}
use Rattle.range_bits.proofs.Given.{AreGiven, are_given, some_value, bit_of-is, bit_of-at, kept_ranges-parts}
use Rattle.range_bits.proofs.Newer.{range_at-newly_live}
use Rattle.range_bits.proofs.Words.{word_for-live, word_for-other}
use Rattle.tcam_device.specs.Order.{IsTranslated}
use Rattle.commit_writes.specs.Serving.{ServesRanges, AreRangesOf}
use Rattle.commit_writes.proofs.CodedRanges.{new_not_coded, new_right, new_apart}
use Rattle.commit_writes.proofs.Filters.{all_from}
use Rattle.commit_writes.proofs.WordWrites.{IsMixed, AreWritten}

-- a range that has a bit is live
is_live : (live : LiveRanges) (range : PortRange) (bit : ℕ) → IsFieldMap live → range_at live bit ≡ Some range → IsSome (bit_of live range)
is_live live range bit is held = subst (λ found. IsSome found) (sym (bit_of-at live range bit is held)) refl

-- no word changes a bit that was live
old_bit_kept : (live during : LiveRanges) (bit : ℕ) (range : PortRange) (port old : ℕ) → length live ≡ length during → range_at live bit ≡ Some range
    → is_bit_set (word_for (newly_live live during) port old) bit ≡ is_bit_set old bit
old_bit_kept live during bit range port old same held =
    word_for-other (newly_live live during) port old bit (range_at-newly_live live during bit same ∙ ap (λ (was : Option PortRange). if_new was (range_at during bit)) held)

translated_on : (live during : LiveRanges) (table now : List ℕ) (bit : ℕ) (range : PortRange) → length live ≡ length during → IsMixed (newly_live live during) table now
    → range_at live bit ≡ Some range → IsTranslated table bit range → IsTranslated now bit range
translated_on live during table now bit range same mixed held was port inside = elim (mixed.either port) [
  | inl old ↦ ap (λ word. is_bit_set word bit) old ∙ was port inside
  | inr new ↦ ap (λ word. is_bit_set word bit) new ∙ (old_bit_kept live during bit range port (slice_index table port) same held ∙ was port inside)
]

-- so a table that serves ranges serves them on the way
pub serves_on : (ranges : List PortRange) (live during : LiveRanges) (table now : List ℕ) → length live ≡ length during → IsMixed (newly_live live during) table now
    → ServesRanges ranges live table → ServesRanges ranges live now
serves_on ranges live during table now same mixed serves = record {
  places = serves.places;
  have_bits = serves.have_bits;
  translated = λ bit range held. translated_on live during table now bit range same mixed held (serves.translated bit range held);
}

-- the new bits fit
pub fresh_given : (field : Field) (rules : List Rule) (batch : List Command) (live : LiveRanges) (table : List ℕ) → AllByRecursion HasConditions (additions batch)
    → AreRangesOf (coded_ranges field rules) live table → length (coded_ranges field rules) + length (new_ranges field rules batch) ≤ field_bits
    → AreGiven live (new_ranges field rules batch) (with_ranges live (new_ranges field rules batch))
fresh_given field rules batch live table right are few =
    let count = live_count-within live (coded_ranges field rules) are.field_map are.needed in
    are_given live (new_ranges field rules batch) are.field_map record {
      right = new_right field rules batch right;
      not_live = all_from (λ range. bit_of live range ≡ None) (new_ranges field rules batch)
          (λ range member. bit_of-none live range (λ bit held. new_not_coded field rules batch range member (are.needed bit range held)));
      apart = new_apart field rules batch;
    } (omega arith)

module _ (ranges new : List PortRange) (live during : LiveRanges) (table now : List ℕ) (are : AreRangesOf ranges live table) (given : AreGiven live new during) (size : length table ≡ 2 ^ 16) (words : AreWritten (newly_live live during) table now) where
  same_places : length live ≡ length during
  same_places = are.field_map.places ∙ sym given.field_map.places

  -- with all words each live bit is set at its range's ports
  all_translated : (bit : ℕ) (range : PortRange) → range_at during bit ≡ Some range → IsTranslated now bit range
  all_translated bit range held port inside =
      ap (λ word. is_bit_set word bit) (words.words port (omega arith)) ∙ go (range_at live bit) refl
    where
      go : (was : Option PortRange) → range_at live bit ≡ was → is_bit_set (word_for (newly_live live during) port (slice_index table port)) bit ≡ range_holds range port
      go None free = word_for-live (newly_live live during) port (slice_index table port) bit range
          (range_at-newly_live live during bit same_places ∙ ap (λ (was : Option PortRange). if_new was (range_at during bit)) free ∙ held)
      go (Some old) was =
          let is : range ≡ old = same_Some range old (sym held ∙ given.stays bit old was) in
          old_bit_kept live during bit range port (slice_index table port) same_places (was ∙ ap Some (sym is))
          ∙ are.serves.translated bit range (was ∙ ap Some (sym is)) port inside

  old_or_new_live : (range : PortRange) → Contains ranges range ⊎ Contains new range → (bit : ℕ) × (range_at during bit ≡ Some range)
  old_or_new_live range (inl old) = let w = some_value (bit_of live range) (are.serves.have_bits range old) in (w.0, given.stays w.0 range (bit_of-is live range w.0 w.1))
  old_or_new_live range (inr fresh) = given.given range fresh

  -- then the table serves the old ranges and the new ones,
  pub serves_all : (all : List PortRange) → ((range : PortRange) → Contains all range → Contains ranges range ⊎ Contains new range) → ServesRanges all during now
  serves_all all either = record {
    places = given.field_map.places;
    have_bits = λ range member. let w = old_or_new_live range (either range member) in is_live during range w.0 given.field_map w.1;
    translated = all_translated;
  }

  -- and those of any of them once the others have given up their bits
  pub ranges_left : (left : List PortRange) → ((range : PortRange) → Contains left range → Contains ranges range ⊎ Contains new range) → AreRangesOf left (kept_ranges during left) now
  ranges_left left either = record {
    field_map = kept_map;
    needed = λ bit range held. ((kept_ranges-parts during left bit range).0 held).1;
    serves = record {
      places = kept_map.places;
      have_bits = λ range member. let w = old_or_new_live range (either range member) in is_live (kept_ranges during left) range w.0 kept_map ((kept_ranges-parts during left w.0 range).1 (w.1, member));
      translated = λ bit range held. all_translated bit range ((kept_ranges-parts during left bit range).0 held).0;
    };
  }
    where
      kept_map : IsFieldMap (kept_ranges during left)
      kept_map = IsFieldMap-kept_ranges during left given.field_map
