-- What leads to an entry, and where it leads: the two sides of a new id.
use Rattle.std.proofs.Common.{◌≡◌, ℕ, ◌<◌, Bool, true, Some, List, [], ◌∷◌, ◌++◌, arith, inl, inr, subst, length-append, Contains}
use Rattle.std.proofs.lemmas.Bool.{false_from_ne_true}
use Rattle.slot_order.specs.Order.{slot, Ordered}
use Rattle.slot_order.specs.Chains.{IsChain}
use Rattle.slot_order.proofs.Lists.{contains_head, contains_tail, contains_cases, contains_none}
use Rattle.slot_moves.proofs.Passing.{HasSides}
use Rattle.slot_pool.specs.Arrangement.{Slots}
use Rattle.placement.specs.Placement.{Above, Leads, straight, through, AreSides}
use Rattle.placement.proofs.Chain.{Reads, AllKnown, stands_before}

-- one step more at the end
pub leads_more : (above : Above) (slots : Slots) (upper middle lower at : ℕ) → Leads above slots upper middle → slot slots at ≡ Some middle → above middle lower ≡ true → Leads above slots upper lower
leads_more above slots upper middle lower at (straight e) stands on = through at middle stands e (straight on)
leads_more above slots upper middle lower at (through place between here e rest) stands on = through place between here e (leads_more above slots between middle lower at rest stands on)

-- the entries between
record IsPath (over : ℕ → ℕ → Type 0) (tag : ℕ → ℕ) (Known : ℕ → Type 0) (upper lower : ℕ) : Type 0 where
  pub between : List ℕ
  pub chain : IsChain over tag (upper ∷ between ++ lower ∷ [])
  pub known : (y : ℕ) → Contains between y → Known y
  pub falls : tag lower < tag upper

path_of : (over : ℕ → ℕ → Type 0) (tag : ℕ → ℕ) (Known : ℕ → Type 0) (above : Above) (slots : Slots) (upper lower : ℕ) → Reads over tag Known above → AllKnown Known slots
    → Known upper → Known lower → Leads above slots upper lower → IsPath over tag Known upper lower
path_of over tag Known above slots upper lower reads all ku kl (straight e) =
    let s = reads.says upper lower ku kl e in
    record { between = []; chain = (s.0, s.1, tt); known = λ y c. absurd (contains_none y c); falls = s.1 }
path_of over tag Known above slots upper lower reads all ku kl (through at between stands e rest) =
    let kb = all at between stands in
    let s = reads.says upper between ku kb e in
    let h = path_of over tag Known above slots between lower reads all kb kl rest in
    record {
      between = between ∷ h.between;
      chain = (s.0, s.1, h.chain);
      known = λ y c. elim (contains_cases between y h.between c) [ inl k ↦ subst Known k kb | inr n ↦ h.known y n ];
      falls = let a = s.1 in let b = h.falls in omega arith;
    }

-- what leads to another stands before it
pub leads_before : (over : ℕ → ℕ → Type 0) (tag : ℕ → ℕ) (P Known : ℕ → Type 0) (above : Above) (slots : Slots) (i j upper lower : ℕ) → Reads over tag Known above → ((a : ℕ) → P a → Known a)
    → Ordered over tag P slots → slot slots i ≡ Some upper → slot slots j ≡ Some lower → Leads above slots upper lower → i < j
leads_before over tag P Known above slots i j upper lower reads up o here there (straight e) =
    let s = reads.says upper lower (up upper (o.within i upper here)) (up lower (o.within j lower there)) e in
    stands_before over tag P slots i j upper lower o here there (reads.mirror upper lower s.0) s.1
leads_before over tag P Known above slots i j upper lower reads up o here there (through at between stands e rest) =
    let s = reads.says upper between (up upper (o.within i upper here)) (up between (o.within at between stands)) e in
    let a = stands_before over tag P slots i at upper between o here stands (reads.mirror upper between s.0) s.1 in
    let b = leads_before over tag P Known above slots at j between lower reads up o stands there rest in omega arith

-- the two sides, in slot_order's words
pub has_sides : (over : ℕ → ℕ → Type 0) (tag : ℕ → ℕ) (P Known : ℕ → Type 0) (above : Above) (slots : Slots) (id : ℕ) (behind before : ℕ → Bool) → Reads over tag Known above → ((a : ℕ) → P a → Known a)
    → Known id → Ordered over tag P slots → AreSides above slots id behind before → HasSides over tag P Known behind before
has_sides over tag P Known above slots id behind before reads up known o sides = record {
  mirror = reads.mirror;
  down = λ a b pa pb is v l.
      let w = o.placed a pa in let z = o.placed b pb in
      (sides.after_it z.0 b z.1).1 (leads_more above slots id a b w.0 ((sides.after_it w.0 a w.1).0 is) w.1 (reads.told a b (up a pa) (up b pb) v l));
  up = λ a b pa pb is v l.
      let w = o.placed a pa in let z = o.placed b pb in
      (sides.before_it z.0 b z.1).1 (through w.0 a w.1 (reads.told b a (up b pb) (up a pa) (reads.mirror a b v) l) ((sides.before_it w.0 a w.1).0 is));
  apart = λ a pa is. false_from_ne_true (before a) (λ also. both a pa is also);
  apart' = λ a pa is. false_from_ne_true (behind a) (λ also. both a pa also is);
  leads_down = λ a pa is.
      let w = o.placed a pa in
      let p = path_of over tag Known above slots id a reads all known (up a pa) ((sides.after_it w.0 a w.1).0 is) in
      record {
        path = id ∷ p.between;
        chain = p.chain;
        some = omega arith;
        known = λ y c. elim (contains_cases id y p.between c) [ inl k ↦ subst Known k known | inr n ↦ p.known y n ];
      };
  leads_on = λ a pa is.
      let w = o.placed a pa in
      let p = path_of over tag Known above slots a id reads all (up a pa) known ((sides.before_it w.0 a w.1).0 is) in
      record {
        path = p.between ++ id ∷ [];
        chain = p.chain;
        some = let n = length-append p.between (id ∷ []) in omega arith;
        known = last p.between p.known;
      };
  known = up;
}
  where
    all : AllKnown Known slots
    all place a t = up a (o.within place a t)

    both : (a : ℕ) → P a → behind a ≡ true → before a ≡ true → ⊥
    both a pa is also =
        let w = o.placed a pa in
        let p = path_of over tag Known above slots id a reads all known (up a pa) ((sides.after_it w.0 a w.1).0 is) in
        let q = path_of over tag Known above slots a id reads all (up a pa) known ((sides.before_it w.0 a w.1).0 also) in
        let x = p.falls in let y = q.falls in omega arith

    last : (between : List ℕ) → ((y : ℕ) → Contains between y → Known y) → (y : ℕ) → Contains (between ++ id ∷ []) y → Known y
    last [] k y c = elim (contains_cases id y [] c) [ inl same ↦ subst Known same known | inr n ↦ absurd (contains_none y n) ]
    last (x ∷ between) k y c = elim (contains_cases x y (between ++ id ∷ []) c) [
      | inl same ↦ k y (subst (λ z. Contains (x ∷ between) z) same (contains_head x between))
      | inr n ↦ last between (λ z i. k z (contains_tail x z between i)) y n
    ]
