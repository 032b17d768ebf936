-- A write of a slot leads from a stage to a stage exactly where it is right at that slot.
use Rattle.std.proofs.Common.{◌≡◌, ◌≢◌, ℕ, ◌<◌, true, false, None, Some, Option, List, length, Contains, IsTrue, inl, inr, ◌⊎◌, refl, sym, ◌∙◌, subst, ap, arith}
use Rattle.std.proofs.lemmas.Bool.{cases_Bool, cases_eq}
use Rattle.std.proofs.lemmas.List.Elements.{Contains-append_left, Contains-append_right, Contains-append_cases}
use Rattle.slot_order.specs.Order.{slot}
use Rattle.slot_order.proofs.Lists.{AllByRecursion-member}
use Rattle.slot_order.proofs.Writes.{slot_same, slot_other}
use Rattle.rule_model.specs.declared.words.Entry.{Entry}
use Rattle.rule_model.specs.Entry.{RankedPiece, entry_for, same_match}
use Rattle.tcam_device.specs.declared.Write.TheVariants.{Slot}
use Rattle.tcam_device.specs.State.{State, apply}
use Rattle.tcam_device.proofs.One.{same_match-same}
use Rattle.commit_writes.specs.Bits.{FieldBits}
use Rattle.commit_writes.specs.Shape.{Stands}
use Rattle.commit_writes.proofs.Filters.{all_members}
use Rattle.readback.specs.Tasks.{CommitPieces, Task, Insert, Rewrite, Erase, tasks_of, piece_of, IsStanding, IsTold, IsDone, IsLeft}
use Rattle.readback.specs.Stage.{IsStageAt}
use Rattle.readback.proofs.Faults.{done_or_left}
use Rattle.trace_check.specs.Local.{HoldsPiece, StandsElsewhere, IsTouched, ArePartedAnew, KeepsStage, SlotWritesAreLocal}
use Rattle.trace_check.proofs.LocalTwins.{twins_forth, twins_back}

-- a content holds a piece, or doesn't
pub holds_or_not : (content : Option Entry) (x : RankedPiece) → HoldsPiece content x ⊎ (HoldsPiece content x → ⊥)
holds_or_not None x = inr (λ h. let e : None ≡ Some h.0 = h.1 in cc)
holds_or_not (Some held) x = elim (cases_Bool (same_match (entry_for x) held)) [
  | inl match ↦ inl (held, refl, match)
  | inr other ↦ inr (λ h.
      let same : held ≡ h.0 = (let e : Some held ≡ Some h.0 = h.1 in cc) in
      let match : same_match (entry_for x) held ≡ true = subst (λ z. IsTrue (same_match (entry_for x) z)) (sym same) h.2 in
      let bad : true ≡ false = sym match ∙ other in cc)
]

module _ (state : State) (at : ℕ) (content : Option Entry) (room : at < length state.slots) where
  abbrev next : State
  next = apply state (Slot at content)

  pub came : (i : ℕ) (e : Entry) → i ≡ at → slot next.slots i ≡ Some e → content ≡ Some e
  came i e k s = sym (slot_same state.slots at content room) ∙ (ap (slot next.slots) (sym k) ∙ s)

  pub comes : (e : Entry) → content ≡ Some e → slot next.slots at ≡ Some e
  comes e s = slot_same state.slots at content room ∙ s

  pub was : (i : ℕ) (e : Entry) → i ≢ at → slot next.slots i ≡ Some e → slot state.slots i ≡ Some e
  was i e n s = sym (slot_other state.slots at content i n) ∙ s

  pub now : (i : ℕ) (e : Entry) → i ≢ at → slot state.slots i ≡ Some e → slot next.slots i ≡ Some e
  now i e n s = slot_other state.slots at content i n ∙ s

  -- who stands behind the write stands here, or stood elsewhere
  pub stands_cases : (x : RankedPiece) → IsStanding next x → HoldsPiece content x ⊎ StandsElsewhere state at x
  stands_cases x (i, s) = elim (cases_eq i at) [
    | inl k ↦ inl (s.0, came i s.0 k s.1, s.2)
    | inr n ↦ inr (i, n, (s.0, was i s.0 n s.1, s.2))
  ]

  pub stands_new : (x : RankedPiece) → HoldsPiece content x → IsStanding next x
  stands_new x h = (at, (h.0, comes h.0 h.1, h.2))

  pub stands_off : (x : RankedPiece) (i : ℕ) → i ≢ at → Stands state i x → IsStanding next x
  stands_off x i n s = (i, (s.0, now i s.0 n s.1, s.2))

  -- a piece that neither stood here nor comes here stands as it stood
  module _ (x : RankedPiece) (untouched : Stands state at x ⊎ HoldsPiece content x → ⊥) where
    stands_on : IsStanding state x → IsStanding next x
    stands_on (i, s) = elim (cases_eq i at) [
      | inl k ↦ absurd (untouched (inl (subst (λ j. Stands state j x) k s)))
      | inr n ↦ stands_off x i n s
    ]

    stands_back : IsStanding next x → IsStanding state x
    stands_back s = elim (stands_cases x s) [
      | inl h ↦ absurd (untouched (inr h))
      | inr e ↦ (e.0, e.2)
    ]

    told_on : IsTold state x → IsTold next x
    told_on (i, s) = elim (cases_eq i at) [
      | inl k ↦ absurd (untouched (inl (entry_for x, ap (slot state.slots) (sym k) ∙ s, same_match-same (entry_for x))))
      | inr n ↦ (i, now i (entry_for x) n s)
    ]

    told_back : IsTold next x → IsTold state x
    told_back (i, s) = elim (cases_eq i at) [
      | inl k ↦ absurd (untouched (inr (entry_for x, came i (entry_for x) k s, same_match-same (entry_for x))))
      | inr n ↦ (i, was i (entry_for x) n s)
    ]

  -- and so its task is done or left as it was
  pub done_on : (task : Task) → (IsTouched state at content task → ⊥) → IsDone state task → IsDone next task
  done_on (Insert x) untouched done = stands_on x untouched done
  done_on (Rewrite x) untouched done = told_on x untouched done
  done_on (Erase x) untouched done = λ s. done (stands_back x untouched s)

  pub left_on : (task : Task) → (IsTouched state at content task → ⊥) → IsLeft state task → IsLeft next task
  left_on (Insert x) untouched left = λ s. left (stands_back x untouched s)
  left_on (Rewrite x) untouched left = λ s. left (told_back x untouched s)
  left_on (Erase x) untouched left = stands_on x untouched left

  pub touched_or_not : (task : Task) → IsTouched state at content task ⊎ (IsTouched state at content task → ⊥)
  touched_or_not task = elim (holds_or_not (slot state.slots at) (piece_of task)) [
    | inl stood ↦ inl (inl stood)
    | inr gone ↦ elim (holds_or_not content (piece_of task)) [
      | inl holds ↦ inl (inr holds)
      | inr other ↦ inr (λ touched. elim touched [ inl s ↦ gone s | inr h ↦ other h ])
    ]
  ]

module _ (slots : ℕ) (before during : FieldBits) (p : CommitPieces) (state : State) (done left : List Task) (at : ℕ) (content : Option Entry) (later_done later_left : List Task)
    (stage : IsStageAt slots before during p state done left) (used : at < slots) (room : at < length state.slots) where
  abbrev after : State
  after = apply state (Slot at content)

  -- an untouched task that is done behind the write was done
  pub was_done : (task : Task) → Contains (tasks_of p) task → IsDone after task → (IsTouched state at content task → ⊥) → Contains done task
  was_done task member is untouched = elim (Contains-append_cases done left task (subst (λ all. Contains all task) stage.parts member)) [
    | inl earlier ↦ earlier
    | inr later ↦ absurd (done_or_left after task is (left_on state at content room task untouched (AllByRecursion-member (IsLeft state) left task stage.are_left later)))
  ]

  pub was_left : (task : Task) → Contains (tasks_of p) task → IsLeft after task → (IsTouched state at content task → ⊥) → Contains left task
  was_left task member is untouched = elim (Contains-append_cases done left task (subst (λ all. Contains all task) stage.parts member)) [
    | inl earlier ↦ absurd (done_or_left after task (done_on state at content room task untouched (AllByRecursion-member (IsDone state) done task stage.are_done earlier)) is)
    | inr later ↦ later
  ]

  parted_forth : IsStageAt slots before during p after later_done later_left → ArePartedAnew state (tasks_of p) done left at content later_done later_left
  parted_forth later = record {
    parts = later.parts;
    are_done = λ task member.
        let is = AllByRecursion-member (IsDone after) later_done task later.are_done member in
        let among : Contains (tasks_of p) task = subst (λ all. Contains all task) (sym later.parts) (Contains-append_left later_done later_left task member) in
        (λ touched. is, λ untouched. was_done task among is untouched);
    are_left = λ task member.
        let is = AllByRecursion-member (IsLeft after) later_left task later.are_left member in
        let among : Contains (tasks_of p) task = subst (λ all. Contains all task) (sym later.parts) (Contains-append_right later_done later_left task member) in
        (λ touched. is, λ untouched. was_left task among is untouched);
  }

  forth : IsStageAt slots before during p after later_done later_left → KeepsStage during p state done left at content later_done later_left
  forth later = record {
    known = λ e s. later.known at e (comes state at content room e s);
    words = λ x member h. let w = later.new_words x member (stands_new state at content room x h) in record { src = w.src; dst = w.dst };
    ahead = λ i first second less is_first is_second a b over. later.order i at first second less is_first is_second
        (now state at content room i (entry_for first) (λ k. let l = less in omega arith) a) (comes state at content room (entry_for second) b) over;
    behind = λ j first second less is_first is_second a b over. later.order at j first second less is_first is_second
        (comes state at content room (entry_for first) a) (now state at content room j (entry_for second) (λ k. let l = less in omega arith) b) over;
    twins = twins_forth state.slots at content room later.twins;
    stays = λ x member kept stood. stands_cases state at content room x (later.stays x member kept);
    parted = parted_forth later;
  }

  module _ (keeps : KeepsStage during p state done left at content later_done later_left) where
    is_done : (task : Task) → Contains later_done task → IsDone after task
    is_done task member = let w = keeps.parted.are_done task member in
        elim (touched_or_not state at content room task) [
          | inl touched ↦ w.0 touched
          | inr untouched ↦ done_on state at content room task untouched (AllByRecursion-member (IsDone state) done task stage.are_done (w.1 untouched))
        ]

    is_left : (task : Task) → Contains later_left task → IsLeft after task
    is_left task member = let w = keeps.parted.are_left task member in
        elim (touched_or_not state at content room task) [
          | inl touched ↦ w.0 touched
          | inr untouched ↦ left_on state at content room task untouched (AllByRecursion-member (IsLeft state) left task stage.are_left (w.1 untouched))
        ]

    still_stands : (x : RankedPiece) → Contains p.old x → (Contains p.erased x → ⊥) → IsStanding after x
    still_stands x member kept =
        let s = stage.stays x member kept in
        elim (cases_eq s.0 at) [
          | inr n ↦ stands_off state at content room x s.0 n s.1
          | inl k ↦ elim (keeps.stays x member kept (subst (λ j. Stands state j x) k s.1)) [
            | inl h ↦ stands_new state at content room x h
            | inr e ↦ stands_off state at content room x e.0 e.1 e.2
          ]
        ]

    back : IsStageAt slots before during p after later_done later_left
    back = record {
      unused = λ i past. slot_other state.slots at content i (λ k. let u = used in omega arith) ∙ stage.unused i past;
      known = λ i e s. elim (cases_eq i at) [
        | inl k ↦ keeps.known e (came state at content room i e k s)
        | inr n ↦ stage.known i e (was state at content room i e n s)
      ];
      old_words = record { src = stage.old_words.src; dst = stage.old_words.dst };
      new_words = λ x member s. elim (stands_cases state at content room x s) [
        | inl h ↦ (let w = keeps.words x member h in record { src = w.src; dst = w.dst })
        | inr e ↦ (let w = stage.new_words x member (e.0, e.2) in record { src = w.src; dst = w.dst })
      ];
      order = λ i j first second less is_first is_second a b over. elim (cases_eq i at) [
        | inl k ↦ keeps.behind j first second (let l = less in omega arith) is_first is_second (came state at content room i (entry_for first) k a)
            (was state at content room j (entry_for second) (λ m. let l = less in omega arith) b) over
        | inr n ↦ elim (cases_eq j at) [
          | inl k ↦ keeps.ahead i first second (let l = less in omega arith) is_first is_second (was state at content room i (entry_for first) n a)
              (came state at content room j (entry_for second) k b) over
          | inr m ↦ stage.order i j first second less is_first is_second (was state at content room i (entry_for first) n a) (was state at content room j (entry_for second) m b) over
        ]
      ];
      twins = twins_back state.slots at content room stage.twins keeps.twins;
      stays = still_stands;
      parts = keeps.parted.parts;
      are_done = all_members (IsDone after) later_done is_done;
      are_left = all_members (IsLeft after) later_left is_left;
    }

pub slot_writes_are_local : SlotWritesAreLocal
slot_writes_are_local slots before during p state done left at content later_done later_left stage used room =
    (forth slots before during p state done left at content later_done later_left stage used room, back slots before during p state done left at content later_done later_left stage used room)
