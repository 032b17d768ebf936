-- The next erase: its write leads to a stage with one more task done.
use Rattle.std.proofs.Common.{◌≡◌, ◌≢◌, ℕ, None, Some, List, [], ◌∷◌, ◌++◌, IsTrue, Contains, inl, inr, sym, ◌∙◌, subst, ap, append_assoc}
use Rattle.std.proofs.lemmas.Bool.{cases_eq, cases_order}
use Rattle.std.proofs.lemmas.List.Elements.{Contains-append_cases}
use Rattle.slot_order.specs.Order.{slot}
use Rattle.slot_order.proofs.Lists.{contains_head, contains_tail, contains_cases, contains_none, AllByRecursion-member}
use Rattle.slot_order.proofs.Writes.{slot_same, slot_other, slot_inside}
use Rattle.rule_model.specs.declared.words.Entry.{Entry}
use Rattle.rule_model.specs.Entry.{RankedPiece, entry_for, same_match}
use Rattle.tcam_device.specs.declared.Write.TheVariants.{Slot}
use Rattle.tcam_device.specs.State.{State, apply}
use Rattle.tcam_device.specs.Order.{StandsAt, IsTwin}
use Rattle.tcam_device.proofs.One.{same_match-same}
use Rattle.commit_writes.specs.Bits.{FieldBits}
use Rattle.commit_writes.specs.Shape.{Stands}
use Rattle.commit_writes.proofs.Filters.{all_members}
use Rattle.readback.specs.Tasks.{CommitPieces, known_pieces, Task, Insert, Rewrite, Erase, IsStanding, IsDone, IsLeft}
use Rattle.readback.specs.Stage.{IsStageAt}
use Rattle.readback.proofs.Matches.{match_sym, match_trans}
use Rattle.readback.proofs.Facts.{ArePieces, IsSame, same_sym, old_known, inserted_known, rewritten_known, insert_in, rewrite_in, erase_in, done_in, left_in, done_other, left_other}
use Rattle.readback.proofs.Rewriting.{HasNoTwin}

-- two slots where one piece stands are one, where none is a twin
pub stands_once : (state : State) (x : RankedPiece) (i j : ℕ) → HasNoTwin state → Stands state i x → Stands state j x → i ≡ j
stands_once state x i j alone a b = elim (cases_order i j) [
  | inl k ↦ k
  | inr o ↦ elim o [
    | inl less ↦ absurd (alone j (i, record { less = less; first = a.0; second = b.0; here = a.1; there = b.1; same = match_trans a.0 (entry_for x) b.0 (match_sym (entry_for x) a.0 a.2) b.2 }))
    | inr more ↦ absurd (alone i (j, record { less = more; first = b.0; second = a.0; here = b.1; there = a.1; same = match_trans b.0 (entry_for x) a.0 (match_sym (entry_for x) b.0 b.2) a.2 }))
  ]
]

-- what stands in a slot that holds an entry stands there as that entry
pub entry_at : (state : State) (i : ℕ) (e : Entry) (x : RankedPiece) → slot state.slots i ≡ Some e → Stands state i x → IsTrue (same_match (entry_for x) e)
entry_at state i e x s stands = subst (λ z. IsTrue (same_match (entry_for x) z)) (let z : Some stands.0 ≡ Some e = sym stands.1 ∙ s in let y : stands.0 ≡ e = cc in y) stands.2

-- after an erase the others are where they were
pub record IsWithout (state next : State) (at : ℕ) : Type 0 where
  pub gone : slot next.slots at ≡ None
  pub off : (i : ℕ) → i ≢ at → slot next.slots i ≡ slot state.slots i

pub without : (state : State) (at : ℕ) (e : Entry) → slot state.slots at ≡ Some e → IsWithout state (apply state (Slot at None)) at
without state at e s = record { gone = slot_same state.slots at None (slot_inside state.slots at e s); off = λ i n. slot_other state.slots at None i n }

module _ (state next : State) (at : ℕ) (less : IsWithout state next at) where
  -- so each entry was there before, elsewhere
  pub was_there : (i : ℕ) (e : Entry) → slot next.slots i ≡ Some e → (i ≢ at) × (slot state.slots i ≡ Some e)
  was_there i e s = elim (cases_eq i at) [
    | inl k ↦ absurd (let z : None ≡ Some e = sym less.gone ∙ (ap (slot next.slots) (sym k) ∙ s) in cc)
    | inr n ↦ (n, sym (less.off i n) ∙ s)
  ]

  pub is_there : (i : ℕ) (e : Entry) → i ≢ at → slot state.slots i ≡ Some e → slot next.slots i ≡ Some e
  is_there i e n s = less.off i n ∙ s

  pub stood : (x : RankedPiece) (i : ℕ) → Stands next i x → (i ≢ at) × Stands state i x
  stood x i s = let b = was_there i s.0 s.1 in (b.0, (s.0, b.1, s.2))

  pub stands_on : (x : RankedPiece) (i : ℕ) → i ≢ at → Stands state i x → Stands next i x
  stands_on x i n s = (s.0, is_there i s.0 n s.1, s.2)

  pub twin_was : (i : ℕ) → IsTwin next.slots i → IsTwin state.slots i
  twin_was i (lesser, w) = (lesser, record { less = w.less; first = w.first; second = w.second; here = (was_there lesser w.first w.here).1; there = (was_there i w.second w.there).1; same = w.same })

module _ (slots : ℕ) (before during : FieldBits) (p : CommitPieces) (facts : ArePieces p) (state : State) (at : ℕ) (r : RankedPiece) (done rest : List Task) (stage : IsStageAt slots before during p state done (Erase r ∷ rest)) (alone : HasNoTwin state) (stands : Stands state at r) where
  abbrev next : State
  next = apply state (Slot at None)

  less : IsWithout state next at
  less = without state at stands.0 stands.1

  goes : Contains p.erased r
  goes = erase_in p r (left_in p done (Erase r ∷ rest) (Erase r) stage.parts (contains_head (Erase r) rest))

  r_known : Contains (known_pieces p) r
  r_known = old_known p r (facts.goes r goes)

  pub alone_still : HasNoTwin next
  alone_still i is = alone i (twin_was state next at less i is)

  -- another piece stands elsewhere
  pub elsewhere : (x : RankedPiece) (i : ℕ) → Contains (known_pieces p) x → (IsSame r x → ⊥) → Stands state i x → i ≢ at
  elsewhere x i member other s k =
      let there : IsTrue (same_match (entry_for x) stands.0) = entry_at state i stands.0 x (ap (slot state.slots) k ∙ stands.1) s in
      other (facts.apart r x r_known member (match_trans (entry_for r) stands.0 (entry_for x) stands.2 (match_sym (entry_for x) stands.0 there)))

  told_stands : (x : RankedPiece) (i : ℕ) → StandsAt state i x → Stands state i x
  told_stands x i s = (entry_for x, s, same_match-same (entry_for x))

  not_first : (task : Task) (x : RankedPiece) → (IsSame x r → ⊥) → IsSame r x → ⊥
  not_first task x other same = other (same_sym r x same)

  done_keeps : (task : Task) → Contains done task → IsDone state task → IsDone next task
  done_keeps (Insert x) member (i, s) = (
    i,
    stands_on state next at less x i (elsewhere x i
        (inserted_known p x (insert_in p x (done_in p done (Erase r ∷ rest) (Insert x) stage.parts member)))
        (not_first (Insert x) x (done_other p done rest (Erase r) (Insert x) facts stage.parts member)) s) s,
  )
  done_keeps (Rewrite x) member (i, s) = (
    i,
    is_there state next at less i (entry_for x) (elsewhere x i
        (rewritten_known p x (rewrite_in p x (done_in p done (Erase r ∷ rest) (Rewrite x) stage.parts member)))
        (not_first (Rewrite x) x (done_other p done rest (Erase r) (Rewrite x) facts stage.parts member)) (told_stands x i s)) s,
  )
  done_keeps (Erase x) member gone = λ s. gone (s.0, (stood state next at less x s.0 s.1).1)

  left_keeps : (task : Task) → Contains rest task → IsLeft state task → IsLeft next task
  left_keeps (Insert x) member out = λ s. out (s.0, (stood state next at less x s.0 s.1).1)
  left_keeps (Rewrite x) member untold = λ s. untold (s.0, (was_there state next at less s.0 (entry_for x) s.1).1)
  left_keeps (Erase x) member (i, s) = (
    i,
    stands_on state next at less x i (elsewhere x i
        (old_known p x (facts.goes x (erase_in p x (left_in p done (Erase r ∷ rest) (Erase x) stage.parts (contains_tail (Erase r) (Erase x) rest member)))))
        (left_other p done rest (Erase r) (Erase x) facts stage.parts member) s) s,
  )

  pub erasing : IsStageAt slots before during p next (done ++ Erase r ∷ []) rest
  erasing = record {
    unused = λ i past. elim (cases_eq i at) [ inl k ↦ ap (slot next.slots) k ∙ less.gone | inr n ↦ less.off i n ∙ stage.unused i past ];
    known = λ i e s. stage.known i e (was_there state next at less i e s).1;
    old_words = record { src = stage.old_words.src; dst = stage.old_words.dst };
    new_words = λ x member s. let w = stage.new_words x member (s.0, (stood state next at less x s.0 s.1).1) in record { src = w.src; dst = w.dst };
    order = λ i j first second low is_first is_second a b over. stage.order i j first second low is_first is_second
        (was_there state next at less i (entry_for first) a).1 (was_there state next at less j (entry_for second) b).1 over;
    twins = record { one = λ a b is_a is_b. absurd (alone_still a is_a); equal = λ lesser a w. absurd (alone_still a (lesser, w)) };
    stays = λ x member kept. let s = stage.stays x member kept in (
      s.0,
      stands_on state next at less x s.0
          (elsewhere x s.0 (old_known p x member) (λ same. kept (subst (Contains p.erased) (facts.old_once r x (facts.goes r goes) member same) goes)) s.1) s.1,
    );
    parts = stage.parts ∙ sym (append_assoc done (Erase r ∷ []) rest);
    are_done = all_members (IsDone next) (done ++ Erase r ∷ []) (λ task member. elim (Contains-append_cases done (Erase r ∷ []) task member) [
      | inl earlier ↦ done_keeps task earlier (AllByRecursion-member (IsDone state) done task stage.are_done earlier)
      | inr now ↦ elim (contains_cases (Erase r) task [] now) [ inl same ↦ subst (IsDone next) same no_more | inr none ↦ absurd (contains_none task none) ]
    ]);
    are_left = all_members (IsLeft next) rest (λ task member. left_keeps task member (AllByRecursion-member (IsLeft state) rest task stage.are_left.1 member));
  }
    where
      no_more : IsStanding next r → ⊥
      no_more (i, s) = let b = stood state next at less r i s in b.0 (stands_once state r i at alone b.1 stands)
