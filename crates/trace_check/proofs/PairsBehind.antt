-- Which two slots hold one entry behind a write of a slot.
use Rattle.std.proofs.Common.{◌≡◌, ℕ, ◌<◌, Option, Some, None, List, length, IsTrue, inl, inr, ◌⊎◌, sym, ◌∙◌, subst, [], ap}
use Rattle.std.specs.Prelude.{slice_set}
use Rattle.std.proofs.lemmas.Bool.{cases_order}
use Rattle.slot_order.specs.Order.{slot}
use Rattle.rule_model.specs.declared.words.Entry.{Entry}
use Rattle.rule_model.specs.Entry.{same_match}
use Rattle.tcam_device.specs.Order.{AreAlike, HasOneTwin}
use Rattle.readback.proofs.Matches.{match_sym, match_trans}
use Rattle.readback.proofs.Stages.{one_piece_twice}
use Rattle.trace_check.specs.declared.slots.Pair.{Pair}
use Rattle.trace_check.specs.Kept.{IsPair}
use Rattle.trace_check.specs.Local.{IsCopied, HasOtherTwins, KeepsTwins}
use Rattle.trace_check.proofs.LocalTwins.{alike_now, pair_or_off, other_twins, before, behind}

module _ (held : List (Option Entry)) (at : ℕ) (content : Option Entry) (room : at < length held) where
  -- without a copy, and without another pair, no two slots hold one entry
  pub none_behind : (IsCopied held at content → ⊥) → (HasOtherTwins held at → ⊥) → IsPair (slice_set held at content) None
  none_behind copied others l g w = elim (pair_or_off held at content room l g w) [
    | inl pair ↦ copied pair.copied
    | inr off ↦ others (other_twins held at content room l g w off.0 off.1)
  ]

  -- another pair stays one
  pub pair_stays : (o : HasOtherTwins held at) → AreAlike (slice_set held at content) o.lesser o.greater
  pair_stays o = alike_now held at content room o.lesser o.greater o.lesser_apart o.greater_apart o.alike

  -- where no other two slots hold one entry all copies are one
  one_copy : (c d : IsCopied held at content) → (HasOtherTwins held at → ⊥) → c.other ≡ d.other
  one_copy c d others =
      let one : c.entry ≡ d.entry = (let k : Some c.entry ≡ Some d.entry = sym c.here ∙ d.here in cc) in
      let match : IsTrue (same_match c.copy d.copy) = match_trans c.copy c.entry d.copy (match_sym c.entry c.copy c.same) (subst (λ z. IsTrue (same_match z d.copy)) (sym one) d.same) in
      elim (cases_order c.other d.other) [
        | inl k ↦ k
        | inr o ↦ elim o [
          | inl less ↦ absurd (others (record {
            lesser = c.other;
            greater = d.other;
            alike = record { less = less; first = c.copy; second = d.copy; here = c.there; there = d.there; same = match };
            lesser_apart = c.apart;
            greater_apart = d.apart;
          }))
          | inr more ↦ absurd (others (record {
            lesser = d.other;
            greater = c.other;
            alike = record { less = more; first = d.copy; second = c.copy; here = d.there; there = c.there; same = match_sym c.copy d.copy match };
            lesser_apart = d.apart;
            greater_apart = c.apart;
          }))
        ]
      ]

  -- so one with the content's result is enough
  pub keeps_copy : (c : IsCopied held at content) → c.entry.result ≡ c.copy.result → (HasOtherTwins held at → ⊥) → KeepsTwins held at content
  keeps_copy c equal others d =
      let same = one_copy c d others in
      let entry : c.entry ≡ d.entry = (let k : Some c.entry ≡ Some d.entry = sym c.here ∙ d.here in cc) in
      let copy : c.copy ≡ d.copy = (let k : Some c.copy ≡ Some d.copy = sym c.there ∙ (subst (λ i. slot held i ≡ Some d.copy) (sym same) d.there) in cc) in
      (subst (λ (e : Entry). e.result ≡ d.copy.result) entry (subst (λ (e : Entry). c.entry.result ≡ e.result) copy equal), others)

  -- and it is the pair then, the lesser first
  pub pair_of_copy : (c : IsCopied held at content) → AreAlike (slice_set held at content) c.other at ⊎ AreAlike (slice_set held at content) at c.other
  pair_of_copy c = elim (cases_order c.other at) [
    | inl k ↦ absurd (c.apart k)
    | inr o ↦ elim o [
      | inl less ↦ inl (before held at content room c less)
      | inr more ↦ inr (behind held at content room c more)
    ]
  ]

-- another pair than one with the written slot
pub others_some : (held : List (Option Entry)) (at : ℕ) (pair : Pair) → IsPair held (Some pair) → (pair.lesser ≡ at → ⊥) → (pair.greater ≡ at → ⊥) → HasOtherTwins held at
others_some held at pair alike apart too = record { lesser = pair.lesser; greater = pair.greater; alike = alike; lesser_apart = apart; greater_apart = too }

-- or none, since two slots hold one entry and no others
pub others_none : (held : List (Option Entry)) (at : ℕ) (pair : Option Pair) → HasOneTwin held → IsPair held pair
    → (pair ≡ None) ⊎ ((one : Pair) × (pair ≡ Some one) × ((one.lesser ≡ at) ⊎ (one.greater ≡ at))) → HasOtherTwins held at → ⊥
others_none held at None twins alone why o = alone o.lesser o.greater o.alike
others_none held at (Some one) twins alike (inl none) o = let bad : Some one ≡ None = none in cc
others_none held at (Some one) twins alike (inr here) o =
    let same : one ≡ here.0 = (let k : Some one ≡ Some here.0 = here.1 in cc) in
    let w = (one_piece_twice (record { slots = held; src = []; dst = [] }) twins).1 o.lesser o.greater one.lesser one.greater o.alike alike in
    elim here.2 [
      | inl lesser ↦ o.lesser_apart (w.0 ∙ (ap (λ (pair : Pair). pair.lesser) same ∙ lesser))
      | inr greater ↦ o.greater_apart (w.1 ∙ (ap (λ (pair : Pair). pair.greater) same ∙ greater))
    ]
