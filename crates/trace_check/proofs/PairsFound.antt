-- Which two slots hold one entry behind a write, by what the calls found.
use Rattle.std.proofs.Common.{◌≡◌, ◌≢◌, ℕ, ◌<◌, ◌≤◌, Option, Some, None, Result, Ok, Err, IfOk, IsNone, List, length, IsTrue, inl, inr, ◌⊎◌, refl, sym, ◌∙◌, subst, ap, arith}
use Rattle.std.specs.Prelude.{IfSome, is_some, option_map, slice_set}
use Rattle.slot_order.specs.Order.{slot}
use Rattle.rule_model.specs.declared.words.Entry.{Entry}
use Rattle.rule_model.specs.Entry.{RankedPiece, entry_for, same_match}
use Rattle.tcam_device.specs.Order.{AreAlike, HasOneTwin}
use Rattle.trace_check.specs.declared.slots.Pair.{Pair}
use Rattle.trace_check.specs.Behind.{entries_in}
use Rattle.trace_check.specs.Kept.{HasResult, IsPair}
use Rattle.trace_check.specs.Local.{IsCopied, KeepsTwins}
use Rattle.trace_check.proofs.Comes.{entry_of_place}
use Rattle.trace_check.proofs.LocalTwins.{alike_now}
use Rattle.trace_check.proofs.PairsBehind.{none_behind, keeps_copy, pair_of_copy, others_some, others_none}
use Rattle.trace_check.proofs.PlacedEntries.{entry_in, entries_size}

module _ (places : List (Option RankedPiece)) (at : ℕ) (inside : at < length places) (pair others : Option Pair)
    (some : IfSome others (λ (left : Pair). (pair ≡ Some left) × (left.lesser ≢ at) × (left.greater ≢ at)))
    (none : IsNone others → (pair ≡ None) ⊎ ((one : Pair) × (pair ≡ Some one) × ((one.lesser ≡ at) ⊎ (one.greater ≡ at)))) where
  abbrev held : List (Option Entry)
  held = entries_in places

  room : at < length (entries_in places)
  room = subst (λ n. at < n) (sym (entries_size places)) inside

  -- what comes stands nowhere else
  module _ (entry : Option Entry) (alone : IsCopied (entries_in places) at entry → ⊥) where
    pair_left : (now : Option Pair) → IfSome now (λ (left : Pair). (pair ≡ Some left) × (left.lesser ≢ at) × (left.greater ≢ at))
        → (IsNone now → (pair ≡ None) ⊎ ((one : Pair) × (pair ≡ Some one) × ((one.lesser ≡ at) ⊎ (one.greater ≡ at))))
        → HasOneTwin held → IsPair held pair → IsPair (slice_set held at entry) now
    pair_left None some none twins is = none_behind held at entry room alone (others_none held at pair twins is (none refl))
    pair_left (Some left) some none twins is = alike_now held at entry room left.lesser left.greater some.1 some.2 (subst (IsPair held) some.0 is)

    pub no_copy : HasOneTwin (entries_in places) → IsPair (entries_in places) pair → KeepsTwins (entries_in places) at entry × IsPair (slice_set (entries_in places) at entry) others
    no_copy twins is = ((λ c. absurd (alone c)), pair_left others some none twins is)

  -- none was found
  pub no_copied : (x : RankedPiece) (content : Option RankedPiece) → content ≡ Some x → (entry : Entry) → entry ≡ entry_for x
      → ((other : ℕ) (copy : RankedPiece) → other ≢ at → slot places other ≡ Some copy → IsTrue (same_match entry (entry_for copy)) → ⊥) → IsCopied (entries_in places) at (option_map entry_for content) → ⊥
  no_copied x content is entry same none copied =
      let w = entry_of_place (slot places copied.other) copied.copy (sym (entry_in places copied.other) ∙ copied.there) in
      let own : entry_for x ≡ copied.entry = (let k : Some (entry_for x) ≡ Some copied.entry = sym (ap (option_map entry_for) is) ∙ copied.here in cc) in
      none copied.other w.0 copied.apart w.1
      (subst (λ (e : Entry). IsTrue (same_match e (entry_for w.0))) (sym (same ∙ own)) (subst (λ (e : Entry). IsTrue (same_match copied.entry e)) (sym w.2) copied.same))

  -- it stands in another slot
  module _ (x : RankedPiece) (other : ℕ) (apart : other ≢ at) (copy : RankedPiece) (there : slot places other ≡ Some copy) (same : IsTrue (same_match (entry_for x) (entry_for copy))) where
    abbrev copied : IsCopied (entries_in places) at (Some (entry_for x))
    copied = record {
      other = other;
      apart = apart;
      entry = entry_for x;
      copy = entry_for copy;
      here = refl;
      there = entry_in places other ∙ ap (option_map entry_for) there;
      same = same;
    }

    equal_results : HasResult (slot places other) x.result → x.result ≡ copy.result
    equal_results has =
        let one : has.0 ≡ copy = (let k : Some has.0 ≡ Some copy = sym has.1 ∙ there in cc) in
        sym has.2 ∙ ap (λ (y : RankedPiece). y.result) one

    pub copy_kept : others ≡ None → HasResult (slot places other) x.result → (made : Pair)
        → ((made.lesser ≡ at) × (made.greater ≡ other) × (at < other)) ⊎ ((made.lesser ≡ other) × (made.greater ≡ at) × (other ≤ at))
        → HasOneTwin (entries_in places) → IsPair (entries_in places) pair
        → KeepsTwins (entries_in places) at (Some (entry_for x)) × IsPair (slice_set (entries_in places) at (Some (entry_for x))) (Some made)
    copy_kept no_others has made order twins is = (
      keeps_copy held at (Some (entry_for x)) room copied (equal_results has) (others_none held at pair twins is (none (ap is_some no_others))),
      is_pair order (pair_of_copy held at (Some (entry_for x)) room copied),
    )
      where
        is_pair : ((made.lesser ≡ at) × (made.greater ≡ other) × (at < other)) ⊎ ((made.lesser ≡ other) × (made.greater ≡ at) × (other ≤ at))
            → AreAlike (slice_set (entries_in places) at (Some (entry_for x))) other at ⊎ AreAlike (slice_set (entries_in places) at (Some (entry_for x))) at other
            → AreAlike (slice_set (entries_in places) at (Some (entry_for x))) made.lesser made.greater
        is_pair (inl order) (inl alike) = absurd (let less = alike.less in let more = order.2 in omega arith)
        is_pair (inl order) (inr alike) = subst (λ i. AreAlike (slice_set (entries_in places) at (Some (entry_for x))) i made.greater) (sym order.0) (subst (AreAlike (slice_set (entries_in places) at (Some (entry_for x))) at) (sym order.1) alike)
        is_pair (inr order) (inl alike) = subst (λ i. AreAlike (slice_set (entries_in places) at (Some (entry_for x))) i made.greater) (sym order.0) (subst (AreAlike (slice_set (entries_in places) at (Some (entry_for x))) other) (sym order.1) alike)
        is_pair (inr order) (inr alike) = absurd (let less = alike.less in let more = order.2 in omega arith)

    pub copy_broken : ((others ≡ None) × HasResult (slot places other) x.result → ⊥) → HasOneTwin (entries_in places) → IsPair (entries_in places) pair
        → KeepsTwins (entries_in places) at (Some (entry_for x)) → ⊥
    copy_broken wrong twins is keeps = go others some wrong
      where
        go : (now : Option Pair) → IfSome now (λ (left : Pair). (pair ≡ Some left) × (left.lesser ≢ at) × (left.greater ≢ at)) → ((now ≡ None) × HasResult (slot places other) x.result → ⊥) → ⊥
        go None some wrong = wrong (refl, (copy, there, sym (keeps copied).0))
        go (Some left) some wrong = (keeps copied).1 (others_some held at left (subst (IsPair held) some.0 is) some.1 some.2)

    pub copy_ok : {E : Type 0} (result : Result (Option Pair) E) (content : Option RankedPiece) (answer : ℕ) → content ≡ Some x → answer ≡ x.result
        → IfOk result (λ (after : Option Pair). (made : Pair) × (after ≡ Some made)
        × (((made.lesser ≡ at) × (made.greater ≡ other) × (at < other)) ⊎ ((made.lesser ≡ other) × (made.greater ≡ at) × (other ≤ at))))
        → IfOk result (λ (after : Option Pair). (others ≡ None) × HasResult (slot places other) answer)
        → IfOk result (λ (after : Option Pair). HasOneTwin (entries_in places) → IsPair (entries_in places) pair
        → KeepsTwins (entries_in places) at (option_map entry_for content) × IsPair (slice_set (entries_in places) at (option_map entry_for content)) after)
    copy_ok (Err fault) content answer is same made found = tt
    copy_ok (Ok after) content answer is same made found = λ twins paired.
        let k = copy_kept found.0 (found.1.0, found.1.1, found.1.2 ∙ same) made.0 made.2 twins paired in (
          subst (λ (c : Option RankedPiece). KeepsTwins (entries_in places) at (option_map entry_for c)) (sym is) k.0,
          subst (λ (c : Option RankedPiece). IsPair (slice_set (entries_in places) at (option_map entry_for c)) after) (sym is)
              (subst (IsPair (slice_set (entries_in places) at (Some (entry_for x)))) (sym made.1) k.1),
        )

    pub copy_wrong : (content : Option RankedPiece) (answer : ℕ) → content ≡ Some x → answer ≡ x.result → ((others ≡ None) × HasResult (slot places other) answer → ⊥)
        → HasOneTwin (entries_in places) → IsPair (entries_in places) pair → KeepsTwins (entries_in places) at (option_map entry_for content) → ⊥
    copy_wrong content answer is same wrong twins paired keeps =
        copy_broken (λ both. wrong (both.0, (both.1.0, both.1.1, both.1.2 ∙ sym same))) twins paired
        (subst (λ (c : Option RankedPiece). KeepsTwins (entries_in places) at (option_map entry_for c)) is keeps)
