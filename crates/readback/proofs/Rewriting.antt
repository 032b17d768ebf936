-- The next new result: its write leads to a stage with one more task done.
use Rattle.std.proofs.Common.{◌≡◌, ◌≢◌, ℕ, ◌<◌, ◌≤◌, Some, List, [], ◌∷◌, ◌++◌, IsTrue, Contains, inl, inr, sym, ◌∙◌, subst, ap, append_assoc}
use Rattle.std.proofs.lemmas.Bool.{cases_eq}
use Rattle.std.proofs.lemmas.List.Elements.{Contains-append_cases}
use Rattle.slot_order.specs.Order.{slot}
use Rattle.slot_order.proofs.Lists.{contains_head, contains_tail, contains_cases, contains_none, AllByRecursion-member}
use Rattle.slot_order.proofs.Writes.{slot_same, slot_other, slot_inside}
use Rattle.rule_model.specs.Piece.{PiecesOverlap}
use Rattle.rule_model.specs.declared.words.Entry.{Entry}
use Rattle.rule_model.specs.Entry.{RankedPiece, entry_for, same_match}
use Rattle.tcam_device.specs.declared.Write.TheVariants.{Slot}
use Rattle.tcam_device.specs.State.{State, apply}
use Rattle.tcam_device.specs.Order.{StandsAt, IsTwin}
use Rattle.tcam_device.proofs.One.{same_match-same}
use Rattle.commit_writes.specs.Bits.{FieldBits}
use Rattle.commit_writes.specs.Shape.{Stands}
use Rattle.commit_writes.proofs.Filters.{all_members}
use Rattle.readback.specs.Tasks.{CommitPieces, known_pieces, Task, Insert, Rewrite, Erase, IsDone, IsLeft}
use Rattle.readback.specs.Stage.{IsStageAt}
use Rattle.readback.proofs.Matches.{match_sym, match_trans}
use Rattle.readback.proofs.Facts.{ArePieces, IsSame, same_sym, rewritten_known, rewrite_in, done_in, left_in, done_other, left_other}

-- no slot is a twin
abbrev pub HasNoTwin : State → Type 0
HasNoTwin state = (at : ℕ) → IsTwin state.slots at → ⊥

-- a slot gets another result: each slot matches what it matched
module _ (state : State) (at : ℕ) (r : RankedPiece) (stands : Stands state at r) where
  abbrev told : State
  told = apply state (Slot at (Some (entry_for r)))

  pub told_here : slot told.slots at ≡ Some (entry_for r)
  told_here = slot_same state.slots at (Some (entry_for r)) (slot_inside state.slots at stands.0 stands.1)

  pub told_off : (i : ℕ) → i ≢ at → slot told.slots i ≡ slot state.slots i
  told_off i n = slot_other state.slots at (Some (entry_for r)) i n

  pub told_back : (i : ℕ) (e : Entry) → slot told.slots i ≡ Some e → (was : Entry) × (slot state.slots i ≡ Some was) × IsTrue (same_match was e)
  told_back i e s = elim (cases_eq i at) [
    | inl k ↦
        let same : entry_for r ≡ e = (let z : Some (entry_for r) ≡ Some e = sym told_here ∙ (ap (slot told.slots) (sym k) ∙ s) in cc) in
        (stands.0, ap (slot state.slots) k ∙ stands.1, subst (λ x. IsTrue (same_match stands.0 x)) same (match_sym (entry_for r) stands.0 stands.2))
    | inr n ↦ (e, sym (told_off i n) ∙ s, same_match-same e)
  ]

  pub told_forth : (i : ℕ) (e : Entry) → slot state.slots i ≡ Some e → (now : Entry) × (slot told.slots i ≡ Some now) × IsTrue (same_match e now)
  told_forth i e s = elim (cases_eq i at) [
    | inl k ↦
        let same : stands.0 ≡ e = (let z : Some stands.0 ≡ Some e = sym stands.1 ∙ (ap (slot state.slots) (sym k) ∙ s) in cc) in
        (entry_for r, ap (slot told.slots) k ∙ told_here, subst (λ x. IsTrue (same_match x (entry_for r))) same (match_sym (entry_for r) stands.0 stands.2))
    | inr n ↦ (e, told_off i n ∙ s, same_match-same e)
  ]

  pub stands_back : (x : RankedPiece) (i : ℕ) → Stands told i x → Stands state i x
  stands_back x i s = let b = told_back i s.0 s.1 in (b.0, b.1, match_trans (entry_for x) s.0 b.0 s.2 (match_sym b.0 s.0 b.2))

  pub stands_forth : (x : RankedPiece) (i : ℕ) → Stands state i x → Stands told i x
  stands_forth x i s = let b = told_forth i s.0 s.1 in (b.0, b.1, match_trans (entry_for x) s.0 b.0 s.2 b.2)

module _ (slots : ℕ) (before during : FieldBits) (p : CommitPieces) (facts : ArePieces p) (state : State) (at : ℕ) (r : RankedPiece) (done rest : List Task) (stage : IsStageAt slots before during p state done (Rewrite r ∷ rest)) (alone : HasNoTwin state) (stands : Stands state at r) where
  abbrev next : State
  next = apply state (Slot at (Some (entry_for r)))

  is_rewritten : Contains p.rewritten r
  is_rewritten = rewrite_in p r (left_in p done (Rewrite r ∷ rest) (Rewrite r) stage.parts (contains_head (Rewrite r) rest))

  r_known : Contains (known_pieces p) r
  r_known = rewritten_known p r is_rewritten

  here : slot next.slots at ≡ Some (entry_for r)
  here = told_here state at r stands

  off : (i : ℕ) → i ≢ at → slot next.slots i ≡ slot state.slots i
  off i n = told_off state at r stands i n

  known : (i : ℕ) (e : Entry) → slot next.slots i ≡ Some e → (x : RankedPiece) × Contains (known_pieces p) x × (entry_for x ≡ e)
  known i e s = elim (cases_eq i at) [
    | inl k ↦ (r, r_known, (let z : Some (entry_for r) ≡ Some e = sym here ∙ (ap (slot next.slots) (sym k) ∙ s) in cc))
    | inr n ↦ stage.known i e (sym (off i n) ∙ s)
  ]

  -- what stood where a piece stands now
  like : (i : ℕ) (x : RankedPiece) → Contains (known_pieces p) x → StandsAt next i x → (y : RankedPiece) × Contains (known_pieces p) y × StandsAt state i y × IsSame y x
  like i x member s =
      let b = told_back state at r stands i (entry_for x) s in
      let w = stage.known i b.0 b.1 in
      (w.0, w.1, b.1 ∙ ap Some (sym w.2), facts.apart w.0 x w.1 member (subst (λ e. IsTrue (same_match e (entry_for x))) (sym w.2) b.2))

  order : (i j : ℕ) (first second : RankedPiece) → i < j → Contains (known_pieces p) first → Contains (known_pieces p) second → StandsAt next i first → StandsAt next j second
      → PiecesOverlap first.piece second.piece → second.rank ≤ first.rank
  order i j first second less is_first is_second holds_first holds_second over =
      let a = like i first is_first holds_first in
      let b = like j second is_second holds_second in
      let low = stage.order i j a.0 b.0 less a.1 b.1 a.2 b.2 (subst (λ q. PiecesOverlap q b.0.piece) (sym a.3.0) (subst (PiecesOverlap first.piece) (sym b.3.0) over)) in
      subst (λ n. n ≤ first.rank) b.3.1 (subst (λ n. b.0.rank ≤ n) a.3.1 low)

  pub still_alone : HasNoTwin next
  still_alone i (lesser, w) =
      let a = told_back state at r stands lesser w.first w.here in
      let b = told_back state at r stands i w.second w.there in
      alone i (
        lesser,
        record {
          less = w.less;
          first = a.0;
          second = b.0;
          here = a.1;
          there = b.1;
          same = match_trans a.0 w.first b.0 a.2 (match_trans w.first w.second b.0 w.same (match_sym b.0 w.second b.2));
        },
      )

  -- the entry of another piece is another one
  same_as : (x : RankedPiece) → Contains (known_pieces p) x → (e : Entry) → IsTrue (same_match (entry_for r) e) → entry_for x ≡ e → IsSame x r
  same_as x member e match is = same_sym r x (facts.apart r x r_known member (subst (λ z. IsTrue (same_match (entry_for r) z)) (sym is) match))

  done_keeps : (task : Task) → Contains done task → IsDone state task → IsDone next task
  done_keeps (Insert x) member (i, s) = (i, stands_forth state at r stands x i s)
  done_keeps (Erase x) member gone = λ s. gone (s.0, stands_back state at r stands x s.0 s.1)
  done_keeps (Rewrite x) member (i, s) = elim (cases_eq i at) [
    | inr n ↦ (i, off i n ∙ s)
    | inl k ↦ absurd (done_other p done rest (Rewrite r) (Rewrite x) facts stage.parts member
        (same_as x (rewritten_known p x (rewrite_in p x (done_in p done (Rewrite r ∷ rest) (Rewrite x) stage.parts member))) stands.0 stands.2
        (let z : Some (entry_for x) ≡ Some stands.0 = sym s ∙ (ap (slot state.slots) k ∙ stands.1) in cc)))
  ]

  left_keeps : (task : Task) → Contains rest task → IsLeft state task → IsLeft next task
  left_keeps (Insert x) member out = λ s. out (s.0, stands_back state at r stands x s.0 s.1)
  left_keeps (Erase x) member (i, s) = (i, stands_forth state at r stands x i s)
  left_keeps (Rewrite x) member untold = λ s. elim (cases_eq s.0 at) [
    | inr n ↦ untold (s.0, sym (off s.0 n) ∙ s.1)
    | inl k ↦ left_other p done rest (Rewrite r) (Rewrite x) facts stage.parts member
        (facts.apart r x r_known (rewritten_known p x (rewrite_in p x (left_in p done (Rewrite r ∷ rest) (Rewrite x) stage.parts (contains_tail (Rewrite r) (Rewrite x) rest member))))
        (let z : Some (entry_for r) ≡ Some (entry_for x) = sym here ∙ (ap (slot next.slots) (sym k) ∙ s.1) in
        subst (λ e. IsTrue (same_match (entry_for r) e)) (let y : entry_for r ≡ entry_for x = cc in y) (same_match-same (entry_for r))))
  ]

  pub rewriting : IsStageAt slots before during p next (done ++ Rewrite r ∷ []) rest
  rewriting = record {
    unused = λ i past. elim (cases_eq i at) [
      | inl k ↦ absurd (let z : slot state.slots at ≡ _ = stage.unused at (subst (λ n. slots ≤ n) k past) in let y = stands.1 in cc)
      | inr n ↦ off i n ∙ stage.unused i past
    ];
    known = known;
    old_words = record { src = stage.old_words.src; dst = stage.old_words.dst };
    new_words = λ x member s. let w = stage.new_words x member (s.0, stands_back state at r stands x s.0 s.1) in record { src = w.src; dst = w.dst };
    order = order;
    twins = record { one = λ a b is_a is_b. absurd (still_alone a is_a); equal = λ lesser a w. absurd (still_alone a (lesser, w)) };
    stays = λ x member kept. let s = stage.stays x member kept in (s.0, stands_forth state at r stands x s.0 s.1);
    parts = stage.parts ∙ sym (append_assoc done (Rewrite r ∷ []) rest);
    are_done = all_members (IsDone next) (done ++ Rewrite r ∷ []) (λ task member. elim (Contains-append_cases done (Rewrite r ∷ []) task member) [
      | inl earlier ↦ done_keeps task earlier (AllByRecursion-member (IsDone state) done task stage.are_done earlier)
      | inr now ↦ elim (contains_cases (Rewrite r) task [] now) [ inl same ↦ subst (IsDone next) same (at, here) | inr none ↦ absurd (contains_none task none) ]
    ]);
    are_left = all_members (IsLeft next) rest (λ task member. left_keeps task member (AllByRecursion-member (IsLeft state) rest task stage.are_left.1 member));
  }
