-- At most one slot is a twin behind a write exactly where the content is no copy, or the only one.
use Rattle.std.proofs.Common.{◌≡◌, ◌≢◌, ℕ, ◌<◌, Some, Option, List, length, IsTrue, inl, inr, ◌⊎◌, refl, sym, ◌∙◌, subst, ap, arith}
use Rattle.std.specs.Prelude.{slice_set}
use Rattle.std.proofs.lemmas.Bool.{cases_eq, cases_order}
use Rattle.slot_order.specs.Order.{slot}
use Rattle.slot_order.proofs.Writes.{slot_same, slot_other}
use Rattle.rule_model.specs.declared.words.Entry.{Entry}
use Rattle.rule_model.specs.Entry.{same_match}
use Rattle.tcam_device.specs.Order.{AreAlike, HasOneTwin}
use Rattle.readback.proofs.Matches.{match_sym, match_trans}
use Rattle.trace_check.specs.Local.{IsCopied, HasOtherTwins, KeepsTwins}

module _ (slots : List (Option Entry)) (at : ℕ) (content : Option Entry) (room : at < length slots) where
  abbrev written : List (Option Entry)
  written = slice_set slots at content

  came : (i : ℕ) (e : Entry) → i ≡ at → slot written i ≡ Some e → content ≡ Some e
  came i e k s = sym (slot_same slots at content room) ∙ (ap (slot written) (sym k) ∙ s)

  pub comes : (e : Entry) → content ≡ Some e → slot written at ≡ Some e
  comes e s = slot_same slots at content room ∙ s

  was : (i : ℕ) (e : Entry) → i ≢ at → slot written i ≡ Some e → slot slots i ≡ Some e
  was i e n s = sym (slot_other slots at content i n) ∙ s

  pub now : (i : ℕ) (e : Entry) → i ≢ at → slot slots i ≡ Some e → slot written i ≡ Some e
  now i e n s = slot_other slots at content i n ∙ s

  -- two slots apart from the written one are alike behind it where they were
  abbrev pub alike_now : (i j : ℕ) → i ≢ at → j ≢ at → AreAlike slots i j → AreAlike written i j
  alike_now i j n m w = record { less = w.less; first = w.first; second = w.second; here = now i w.first n w.here; there = now j w.second m w.there; same = w.same }

  abbrev alike_was : (i j : ℕ) → i ≢ at → j ≢ at → AreAlike written i j → AreAlike slots i j
  alike_was i j n m w = record { less = w.less; first = w.first; second = w.second; here = was i w.first n w.here; there = was j w.second m w.there; same = w.same }

  -- a copy stands before the written slot, or behind it
  abbrev pub before : (c : IsCopied slots at content) → c.other < at → AreAlike written c.other at
  before c less = record { less = less; first = c.copy; second = c.entry; here = now c.other c.copy c.apart c.there; there = comes c.entry c.here; same = match_sym c.entry c.copy c.same }

  abbrev pub behind : (c : IsCopied slots at content) → at < c.other → AreAlike written at c.other
  behind c more = record { less = more; first = c.entry; second = c.copy; here = comes c.entry c.here; there = now c.other c.copy c.apart c.there; same = c.same }

  equal_copy : (c : IsCopied slots at content) → HasOneTwin written → c.entry.result ≡ c.copy.result
  equal_copy c later = elim (cases_order c.other at) [
    | inl k ↦ absurd (c.apart k)
    | inr o ↦ elim o [
      | inl less ↦ sym (later.equal c.other at (before c less))
      | inr more ↦ later.equal at c.other (behind c more)
    ]
  ]

  -- beside a copy behind the slot another pair would have its lesser slot alike with the written one
  third : (c : IsCopied slots at content) (o : HasOtherTwins slots at) → HasOneTwin written → c.other ≡ o.greater → at < c.other → ⊥
  third c o later same more =
      let w = o.alike in
      let one : c.copy ≡ w.second = (let k : Some c.copy ≡ Some w.second = sym c.there ∙ (ap (slot slots) same ∙ w.there) in cc) in
      let there : IsTrue (same_match c.entry w.second) = subst (λ z. IsTrue (same_match c.entry z)) one c.same in
      let match : IsTrue (same_match w.first c.entry) = match_trans w.first w.second c.entry w.same (match_sym c.entry w.second there) in
      elim (cases_order o.lesser at) [
        | inl k ↦ o.lesser_apart k
        | inr order ↦ elim order [
          | inl less ↦ o.greater_apart (sym (later.one at o.greater
              (o.lesser, record { less = less; first = w.first; second = c.entry; here = now o.lesser w.first o.lesser_apart w.here; there = comes c.entry c.here; same = match })
              (o.lesser, alike_now o.lesser o.greater o.lesser_apart o.greater_apart w)))
          | inr high ↦
              let k : o.lesser ≡ o.greater = later.one o.lesser o.greater
              (at, record { less = high; first = c.entry; second = w.first; here = comes c.entry c.here; there = now o.lesser w.first o.lesser_apart w.here; same = match_sym w.first c.entry match })
              (o.lesser, alike_now o.lesser o.greater o.lesser_apart o.greater_apart w) in
              let low = w.less in
              omega arith
        ]
      ]

  none_other : (c : IsCopied slots at content) → HasOneTwin written → HasOtherTwins slots at → ⊥
  none_other c later o = elim (cases_order c.other at) [
    | inl k ↦ c.apart k
    | inr order ↦ elim order [
      | inl less ↦ o.greater_apart (sym (later.one at o.greater (c.other, before c less) (o.lesser, alike_now o.lesser o.greater o.lesser_apart o.greater_apart o.alike)))
      | inr more ↦ third c o later
          (later.one c.other o.greater (at, behind c more) (o.lesser, alike_now o.lesser o.greater o.lesser_apart o.greater_apart o.alike)) more
    ]
  ]

  pub twins_forth : HasOneTwin written → KeepsTwins slots at content
  twins_forth later c = (equal_copy c later, none_other c later)

  -- a pair with the written slot in it gives a copy
  abbrev copy_behind : (l g : ℕ) (w : AreAlike written l g) → l ≡ at → IsCopied slots at content
  copy_behind l g w k = record {
    other = g;
    apart = λ e. let less = w.less in omega arith;
    entry = w.first;
    copy = w.second;
    here = came l w.first k w.here;
    there = was g w.second (λ e. let less = w.less in omega arith) w.there;
    same = w.same;
  }

  abbrev copy_before : (l g : ℕ) (w : AreAlike written l g) → g ≡ at → IsCopied slots at content
  copy_before l g w k = record {
    other = l;
    apart = λ e. let less = w.less in omega arith;
    entry = w.second;
    copy = w.first;
    here = came g w.second k w.there;
    there = was l w.first (λ e. let less = w.less in omega arith) w.here;
    same = match_sym w.first w.second w.same;
  }

  -- and these are its slots
  pub record IsTouching (l g : ℕ) : Type 0 where
    pub copied : IsCopied slots at content
    pub places : ((l ≡ at) × (copied.other ≡ g)) ⊎ ((g ≡ at) × (copied.other ≡ l))

  pub pair_or_off : (l g : ℕ) (w : AreAlike written l g) → IsTouching l g ⊎ ((l ≢ at) × (g ≢ at))
  pair_or_off l g w = elim (cases_eq l at) [
    | inl k ↦ inl (record { copied = copy_behind l g w k; places = inl (k, refl) })
    | inr n ↦ elim (cases_eq g at) [
      | inl k ↦ inl (record { copied = copy_before l g w k; places = inr (k, refl) })
      | inr m ↦ inr (n, m)
    ]
  ]

  pub other_twins : (l g : ℕ) (w : AreAlike written l g) → l ≢ at → g ≢ at → HasOtherTwins slots at
  other_twins l g w n m = record { lesser = l; greater = g; alike = alike_was l g n m w; lesser_apart = n; greater_apart = m }

  -- two copies are one slot, since else they would be another pair
  same_copy : (c d : IsCopied slots at content) → KeepsTwins slots at content → c.other ≡ d.other
  same_copy c d keeps =
      let one : c.entry ≡ d.entry = (let k : Some c.entry ≡ Some d.entry = sym c.here ∙ d.here in cc) in
      let match : IsTrue (same_match c.copy d.copy) = match_trans c.copy c.entry d.copy (match_sym c.entry c.copy c.same) (subst (λ z. IsTrue (same_match z d.copy)) (sym one) d.same) in
      elim (cases_order c.other d.other) [
        | inl k ↦ k
        | inr o ↦ elim o [
          | inl less ↦ absurd ((keeps c).1 (record {
            lesser = c.other;
            greater = d.other;
            alike = record { less = less; first = c.copy; second = d.copy; here = c.there; there = d.there; same = match };
            lesser_apart = c.apart;
            greater_apart = d.apart;
          }))
          | inr more ↦ absurd ((keeps c).1 (record {
            lesser = d.other;
            greater = c.other;
            alike = record { less = more; first = d.copy; second = c.copy; here = d.there; there = c.there; same = match_sym c.copy d.copy match };
            lesser_apart = d.apart;
            greater_apart = c.apart;
          }))
        ]
      ]

  one_place : (l g m h other : ℕ) → l < g → m < h → ((l ≡ at) × (other ≡ g)) ⊎ ((g ≡ at) × (other ≡ l)) → ((m ≡ at) × (other ≡ h)) ⊎ ((h ≡ at) × (other ≡ m)) → g ≡ h
  one_place l g m h other low high (inl a) (inl b) = sym a.1 ∙ b.1
  one_place l g m h other low high (inl a) (inr b) = let p = a.0 in let q = a.1 in let r = b.0 in let s = b.1 in omega arith
  one_place l g m h other low high (inr a) (inl b) = let p = a.0 in let q = a.1 in let r = b.0 in let s = b.1 in omega arith
  one_place l g m h other low high (inr a) (inr b) = a.0 ∙ sym b.0

  one_pair : (l g m h : ℕ) → KeepsTwins slots at content → l < g → m < h → IsTouching l g → IsTouching m h → g ≡ h
  one_pair l g m h keeps low high p q =
      let same = same_copy p.copied q.copied keeps in
      one_place l g m h p.copied.other low high p.places (subst (λ o. ((m ≡ at) × (o ≡ h)) ⊎ ((h ≡ at) × (o ≡ m))) (sym same) q.places)

  pub twins_back : HasOneTwin slots → KeepsTwins slots at content → HasOneTwin written
  twins_back before keeps = record { one = one; equal = equal }
    where
      one : (a b : ℕ) → (l : ℕ) × AreAlike written l a → (m : ℕ) × AreAlike written m b → a ≡ b
      one a b (l, w) (m, v) = elim (pair_or_off l a w) [
        | inl p ↦ elim (pair_or_off m b v) [
          | inl q ↦ one_pair l a m b keeps w.less v.less p q
          | inr off ↦ absurd ((keeps p.copied).1 (other_twins m b v off.0 off.1))
        ]
        | inr away ↦ elim (pair_or_off m b v) [
          | inl q ↦ absurd ((keeps q.copied).1 (other_twins l a w away.0 away.1))
          | inr off ↦ before.one a b (l, alike_was l a away.0 away.1 w) (m, alike_was m b off.0 off.1 v)
        ]
      ]

      equal : (l g : ℕ) (w : AreAlike written l g) → w.first.result ≡ w.second.result
      equal l g w = elim (cases_eq l at) [
        | inl k ↦ (keeps (copy_behind l g w k)).0
        | inr n ↦ elim (cases_eq g at) [
          | inl k ↦ sym (keeps (copy_before l g w k)).0
          | inr m ↦ before.equal l g (alike_was l g n m w)
        ]
      ]
