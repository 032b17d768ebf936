-- Marks that are pushed on: what the id leads to by rising slots, and what leads to it by falling ones.
use Rattle.std.proofs.Common.{◌≡◌, ℕ, ◌+◌, ◌-◌, ◌<◌, ◌≤◌, Bool, true, Some, List, length, inl, inr, arith, sym, ◌∙◌, subst}
use Rattle.std.proofs.lemmas.Bool.{cases_lt}
use Rattle.slot_order.specs.Order.{slot, Ordered}
use Rattle.slot_pool.specs.Arrangement.{Slots}
use Rattle.placement.specs.Live.{LivePieces, is_above, rank_in}
use Rattle.placement.specs.Placement.{Above, Leads, straight, through, gap_start, gap_end}
use Rattle.placement.specs.Insertion.{IsLive, IsOther}
use Rattle.placement.specs.Ready.{IsReady}
use Rattle.move_planner.specs.Steps.{LedTo, LeadsFrom, AreReached, AreLedTo, LeadFrom}
use Rattle.placement.proofs.Chain.{Reads, stands_before}
use Rattle.placement.proofs.Planner.{Related, ranked_reads}
use Rattle.placement.proofs.Orders.{ranked}
use Rattle.placement.proofs.Readied.{ready_ordered}
use Rattle.placement.proofs.Leading.{leads_more, leads_before}
use Rattle.placement.proofs.Cutting.{behind_from, before_to}
use Rattle.move_planner.proofs.Marks.{Hit, hit_low}

-- only what the id leads to is marked, and of that all that is right below the id or a marked entry before one slot
pub record LedSoFar (above : Above) (slots : Slots) (id start end to : ℕ) (marks : List Bool) : Type 0 where
  pub many : length marks ≡ end - start
  pub sound : (at : ℕ) → Hit marks start at → LedTo above slots id at
  pub first : (at other : ℕ) → slot slots at ≡ Some other → above id other ≡ true → start ≤ at → at < end → Hit marks start at
  pub closed : (i held at other : ℕ) → i < to → Hit marks start i → slot slots i ≡ Some held → slot slots at ≡ Some other → above held other ≡ true → start ≤ at → at < end → Hit marks start at

-- only what leads to the id is marked, and of that all that is right above the id or a marked entry from one slot on
pub record LeadSoFar (above : Above) (slots : Slots) (id start end from : ℕ) (marks : List Bool) : Type 0 where
  pub many : length marks ≡ end - start
  pub sound : (at : ℕ) → Hit marks start at → LeadsFrom above slots id at
  pub first : (at other : ℕ) → slot slots at ≡ Some other → above other id ≡ true → start ≤ at → at < end → Hit marks start at
  pub closed : (i held at other : ℕ) → from ≤ i → i < end → Hit marks start i → slot slots i ≡ Some held → slot slots at ≡ Some other → above other held ≡ true → start ≤ at → at < end → Hit marks start at

module _ (above : Above) (slots : Slots) (id start end : ℕ) where
  -- what is right below the id, or right above it
  pub led_start : (none marks : List Bool) → length none ≡ end - start → ((at : ℕ) → Hit none start at → ⊥) → AreReached (λ other. above id other) slots start none marks → LedSoFar above slots id start end start marks
  led_start none marks many clear r = record {
    many = r.many ∙ many;
    sound = λ at e. elim (r.only at e) [ inl old ↦ absurd (clear at old) | inr w ↦ (w.0, w.1, straight w.2) ];
    first = λ at other stands on low high. r.told at other stands on low (omega arith);
    closed = λ i held at other less hit here there on low high. absurd (let k = hit_low marks start i hit in omega arith);
  }

  pub lead_start : (none marks : List Bool) → length none ≡ end - start → ((at : ℕ) → Hit none start at → ⊥) → AreReached (λ other. above other id) slots start none marks → LeadSoFar above slots id start end end marks
  lead_start none marks many clear r = record {
    many = r.many ∙ many;
    sound = λ at e. elim (r.only at e) [ inl old ↦ absurd (clear at old) | inr w ↦ (w.0, w.1, straight w.2) ];
    first = λ at other stands on low high. r.told at other stands on low (omega arith);
    closed = λ i held at other from to hit here there on low high. absurd (omega arith);
  }

  -- slots with no mark
  pub led_skip : (from to : ℕ) (marks : List Bool) → ((at : ℕ) → from ≤ at → at < to → Hit marks start at → ⊥) → LedSoFar above slots id start end from marks → LedSoFar above slots id start end to marks
  led_skip from to marks clear s = record {
    many = s.many;
    sound = s.sound;
    first = s.first;
    closed = λ i held j other less hit here there on low high. elim (cases_lt i from) [
      | inl before ↦ s.closed i held j other before hit here there on low high
      | inr not ↦ absurd (clear i (omega arith) less hit)
    ];
  }

  pub lead_skip : (from to : ℕ) (marks : List Bool) → ((at : ℕ) → from ≤ at → at < to → Hit marks start at → ⊥) → LeadSoFar above slots id start end to marks → LeadSoFar above slots id start end from marks
  lead_skip from to marks clear s = record {
    many = s.many;
    sound = s.sound;
    first = s.first;
    closed = λ i held j other past less hit here there on low high. elim (cases_lt i to) [
      | inl before ↦ absurd (clear i past before hit)
      | inr not ↦ s.closed i held j other (omega arith) less hit here there on low high
    ];
  }

module _ (index : LivePieces) (id : ℕ) (slots : Slots) (ready : IsReady index id slots) (start end : ℕ) where
  reads : Reads (Related (is_above index.live)) (rank_in index.live) (IsLive index.live) (is_above index.live)
  reads = ranked_reads (is_above index.live) (rank_in index.live) (IsLive index.live) (ranked index ready.apart)

  ordered : Ordered (Related (is_above index.live)) (rank_in index.live) (IsOther index.live id) slots
  ordered = ready_ordered index id slots ready

  first_of : (i j a b : ℕ) → slot slots i ≡ Some a → slot slots j ≡ Some b → is_above index.live a b ≡ true → i < j
  first_of i j a b s t e =
      let k = ranked index ready.apart a b e in
      stands_before (Related (is_above index.live)) (rank_in index.live) (IsOther index.live id) slots i j a b ordered s t (inr e) k

  leading_first : (i j a b : ℕ) → slot slots i ≡ Some a → slot slots j ≡ Some b → Leads (is_above index.live) slots a b → i < j
  leading_first i j a b s t l =
      leads_before (Related (is_above index.live)) (rank_in index.live) (IsOther index.live id) (IsLive index.live) (is_above index.live) slots i j a b reads (λ x p. p.0) ordered s t l

  -- what is right below a marked entry
  pub led_step : (at held : ℕ) (marks marks' : List Bool) → Hit marks start at → slot slots at ≡ Some held → AreReached (λ other. is_above index.live held other) slots start marks marks'
      → LedSoFar (is_above index.live) slots id start end at marks → LedSoFar (is_above index.live) slots id start end (at + 1) marks'
  led_step at held marks marks' hit stands r s = record {
    many = r.many ∙ s.many;
    sound = λ j e. elim (r.only j e) [
      | inl old ↦ s.sound j old
      | inr w ↦ (w.0, w.1, leads_more (is_above index.live) slots id held w.0 at led stands w.2)
    ];
    first = λ j other t e low high. r.kept j (s.first j other t e low high);
    closed = closed;
  }
    where
      led : Leads (is_above index.live) slots id held
      led =
          let l = s.sound at hit in
          let k : Some l.0 ≡ Some held = sym l.1 ∙ stands in
          let same : l.0 ≡ held = cc in subst (Leads (is_above index.live) slots id) same l.2

      told : (i top j other : ℕ) → i ≡ at → slot slots i ≡ Some top → slot slots j ≡ Some other → is_above index.live top other ≡ true → start ≤ j → j < end → Hit marks' start j
      told i top j other place here there on low high =
          let k : Some top ≡ Some held = sym here ∙ (subst (λ x. slot slots x ≡ Some held) (sym place) stands) in
          let same : top ≡ held = cc in
          let many = s.many in
          r.told j other there (subst (λ x. is_above index.live x other ≡ true) same on) low (omega arith)

      closed : (i top j other : ℕ) → i < at + 1 → Hit marks' start i → slot slots i ≡ Some top → slot slots j ≡ Some other → is_above index.live top other ≡ true → start ≤ j → j < end → Hit marks' start j
      closed i top j other less new here there on low high = elim (cases_lt i at) [
        | inr not ↦ told i top j other (omega arith) here there on low high
        | inl before ↦ elim (r.only i new) [
          | inl old ↦ r.kept j (s.closed i top j other before old here there on low high)
          | inr w ↦ absurd (let k = first_of at i held w.0 stands w.1 w.2 in omega arith)
        ]
      ]

  -- what is right above a marked entry
  pub lead_step : (at held : ℕ) (marks marks' : List Bool) → Hit marks start at → slot slots at ≡ Some held → AreReached (λ other. is_above index.live other held) slots start marks marks'
      → LeadSoFar (is_above index.live) slots id start end (at + 1) marks → LeadSoFar (is_above index.live) slots id start end at marks'
  lead_step at held marks marks' hit stands r s = record {
    many = r.many ∙ s.many;
    sound = λ j e. elim (r.only j e) [
      | inl old ↦ s.sound j old
      | inr w ↦ (w.0, w.1, through at held stands w.2 leads)
    ];
    first = λ j other t e low high. r.kept j (s.first j other t e low high);
    closed = closed;
  }
    where
      leads : Leads (is_above index.live) slots held id
      leads =
          let l = s.sound at hit in
          let k : Some l.0 ≡ Some held = sym l.1 ∙ stands in
          let same : l.0 ≡ held = cc in subst (λ x. Leads (is_above index.live) slots x id) same l.2

      told : (i low_one j other : ℕ) → i ≡ at → slot slots i ≡ Some low_one → slot slots j ≡ Some other → is_above index.live other low_one ≡ true → start ≤ j → j < end → Hit marks' start j
      told i low_one j other place here there on low high =
          let k : Some low_one ≡ Some held = sym here ∙ (subst (λ x. slot slots x ≡ Some held) (sym place) stands) in
          let same : low_one ≡ held = cc in
          let many = s.many in
          r.told j other there (subst (λ x. is_above index.live other x ≡ true) same on) low (omega arith)

      closed : (i low_one j other : ℕ) → at ≤ i → i < end → Hit marks' start i → slot slots i ≡ Some low_one → slot slots j ≡ Some other → is_above index.live other low_one ≡ true → start ≤ j → j < end → Hit marks' start j
      closed i low_one j other from to new here there on low high = elim (cases_lt at i) [
        | inr not ↦ told i low_one j other (omega arith) here there on low high
        | inl past ↦ elim (r.only i new) [
          | inl old ↦ r.kept j (s.closed i low_one j other (omega arith) to old here there on low high)
          | inr w ↦ absurd (let k = first_of i at w.0 held w.1 stands w.2 in omega arith)
        ]
      ]

  -- all slots were gone over
  pub led_end : (marks : List Bool) → start ≡ gap_end (is_above index.live) slots id → LedSoFar (is_above index.live) slots id start end end marks → AreLedTo (is_above index.live) slots id start end marks
  led_end marks from s = record { many = s.many; say = λ at low high. (s.sound at, λ l. back at l.0 low high l.1 l.2) }
    where
      reach : (upper place lower at : ℕ) → slot slots place ≡ Some upper → start ≤ place → Hit marks start place → slot slots at ≡ Some lower → at < end → Leads (is_above index.live) slots upper lower → Hit marks start at
      reach upper place lower at here low hit there high (straight e) =
          let a = first_of place at upper lower here there e in
          s.closed place upper at lower (omega arith) hit here there e (omega arith) high
      reach upper place lower at here low hit there high (through middle between stands e rest) =
          let a = first_of place middle upper between here stands e in
          let b = leading_first middle at between lower stands there rest in
          let more = s.closed place upper middle between (omega arith) hit here stands e (omega arith) (omega arith) in
          reach between middle lower at stands (omega arith) more there high rest

      back : (at other : ℕ) → start ≤ at → at < end → slot slots at ≡ Some other → Leads (is_above index.live) slots id other → Hit marks start at
      back at other low high there (straight e) = s.first at other there e low high
      back at other low high there (through middle between stands e rest) =
          let a = behind_from (Related (is_above index.live)) (rank_in index.live) (IsOther index.live id) (IsLive index.live) (is_above index.live) slots id between middle
          reads (λ x p. p.0) ready.live ordered stands (straight e) in
          let b = leading_first middle at between other stands there rest in
          reach between middle other at stands (omega arith) (s.first middle between stands e (omega arith) (omega arith)) there high rest

  pub lead_end : (marks : List Bool) → end ≡ gap_start (is_above index.live) slots id → LeadSoFar (is_above index.live) slots id start end start marks → LeadFrom (is_above index.live) slots id start end marks
  lead_end marks to s = record { many = s.many; say = λ at low high. (s.sound at, λ l. back at l.0 low high l.1 l.2) }
    where
      back : (at other : ℕ) → start ≤ at → at < end → slot slots at ≡ Some other → Leads (is_above index.live) slots other id → Hit marks start at
      back at other low high there (straight e) = s.first at other there e low high
      back at other low high there (through middle between stands e rest) =
          let a = before_to (Related (is_above index.live)) (rank_in index.live) (IsOther index.live id) (IsLive index.live) (is_above index.live) slots id between middle
          reads (λ x p. p.0) ready.live ordered stands rest in
          let b = first_of at middle other between there stands e in
          s.closed middle between at other (omega arith) (omega arith) (back middle between (omega arith) (omega arith) stands rest) stands there e low high
