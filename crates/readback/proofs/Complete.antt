-- Where no fault but want of memory applies, the state is a stage.
use Rattle.std.proofs.Common.{◌≡◌, ◌≢◌, ℕ, ◌≤◌, true, false, Bool, None, Some, Option, List, [], ◌∷◌, ◌++◌, Contains, inl, inr, ◌⊎◌, refl, sym, ◌∙◌, subst, ap, append_assoc}
use Rattle.std.specs.Prelude.{nat_eq, slice_index, ◌&&◌}
use Rattle.std.specs.List.{AllByRecursion}
use Rattle.std.proofs.lemmas.Bool.{cases_Bool, cases_eq, cases_lt, cases_order, and_parts, and_from, eqb-true, eq-eqb, both_ways}
use Rattle.slot_order.specs.Order.{slot}
use Rattle.slot_order.proofs.Lists.{contains_head, contains_tail, contains_cases, contains_none}
use Rattle.rule_model.specs.declared.Field.{Field}
use Rattle.rule_model.specs.declared.Field.TheVariants.{Src, Dst}
use Rattle.rule_model.specs.PortRange.{is_bit_set, range_holds}
use Rattle.rule_model.specs.declared.words.Entry.{Entry}
use Rattle.rule_model.specs.Entry.{RankedPiece, entry_for, same_match}
use Rattle.tcam_device.specs.State.{State}
use Rattle.tcam_device.proofs.One.{same_match-same}
use Rattle.commit_writes.specs.Bits.{FieldBits, bits_with}
use Rattle.readback.specs.declared.StageFault.TheVariants.{Word, Foreign, Crossed, Twin, Gap}
use Rattle.readback.specs.Tasks.{CommitPieces, Task, commit_pieces, known_pieces, tasks_of, piece_of, IsStanding, IsDone, IsLeft, stands_in, is_done}
use Rattle.readback.specs.Stage.{IsStageAt}
use Rattle.commit_writes.specs.Serving.{AreTranslated}
use Rattle.tcam_device.specs.Order.{HasOneTwin}
use Rattle.readback.specs.Fault.{HasWrongWord, IsForeign, IsCrossed, IsOneTooMany, IsMissing, IsEarly, OnlyStagesHaveNoFault}
use Rattle.readback.proofs.Matches.{match_same}
use Rattle.readback.proofs.Tests.{stands_is, stands_from, done_is, left_is}

-- two truth values are equal or not
equal_or_not : (a b : Bool) → (a ≡ b) ⊎ (a ≢ b)
equal_or_not true true = inl refl
equal_or_not false false = inl refl
equal_or_not true false = inr (λ e. cc)
equal_or_not false true = inr (λ e. cc)

-- an entry is that of one of some pieces, or of none
find_piece : (xs : List RankedPiece) (e : Entry) → ((x : RankedPiece) × Contains xs x × (entry_for x ≡ e)) ⊎ ((x : RankedPiece) → Contains xs x → entry_for x ≡ e → ⊥)
find_piece [] e = inr (λ x none is. contains_none x none)
find_piece (x ∷ xs) e = elim (cases_Bool (same_match (entry_for x) e && nat_eq x.result e.result)) [
  | inl is ↦ inl (let parts = and_parts (same_match (entry_for x) e) (nat_eq x.result e.result) is in (x, contains_head x xs, match_same (entry_for x) e parts.0 (eqb-true x.result e.result parts.1)))
  | inr fails ↦ elim (find_piece xs e) [
    | inl later ↦ inl (later.0, contains_tail x later.0 xs later.1, later.2)
    | inr none ↦ inr (λ y member same. elim (contains_cases x y xs member) [
      | inr later ↦ none y later same
      | inl here ↦
          let it : entry_for x ≡ e = ap entry_for here ∙ same in
          both_ways (same_match (entry_for x) e && nat_eq x.result e.result) fails
          (and_from (same_match (entry_for x) e) (nat_eq x.result e.result) (subst (λ z. same_match (entry_for x) z ≡ true) it (same_match-same (entry_for x))) (eq-eqb x.result e.result (ap (λ (z : Entry). z.result) it)))
    ])
  ]
]

-- tasks are parted, or one is done behind one that isn't
record ArePieced (state : State) (tasks : List Task) : Type 0 where
  done : List Task
  left : List Task
  parts : tasks ≡ done ++ left
  are_done : AllByRecursion (IsDone state) done
  are_left : AllByRecursion (IsLeft state) left

-- behind one that isn't done none is
all_left : (state : State) (first : Task) (tasks between : List Task) → ((second : Task) (some back : List Task) → between ++ tasks ≡ some ++ second ∷ back → IsDone state second → ⊥)
    → AllByRecursion (IsLeft state) tasks
all_left state first [] between never = tt
all_left state first (task ∷ tasks) between never = (
  elim (cases_Bool (is_done state.slots task)) [
    | inl is ↦ absurd (never task between tasks refl (done_is state task is))
    | inr fails ↦ left_is state task fails
  ],
  all_left state first tasks (between ++ task ∷ []) (λ second some back same. never second some back (sym (append_assoc between (task ∷ []) tasks) ∙ same)),
)

part : (state : State) (tasks front : List Task)
    → ((first second : Task) (some between back : List Task) → front ++ tasks ≡ some ++ first ∷ (between ++ second ∷ back) → IsLeft state first → IsDone state second → ⊥)
    → ArePieced state tasks
part state [] front never = record { done = []; left = []; parts = refl; are_done = tt; are_left = tt }
part state (task ∷ tasks) front never = elim (cases_Bool (is_done state.slots task)) [
  | inl is ↦
      let rest = part state tasks (front ++ task ∷ []) (λ first second some between back same. never first second some between back (sym (append_assoc front (task ∷ []) tasks) ∙ same)) in
      record { done = task ∷ rest.done; left = rest.left; parts = ap (λ more. task ∷ more) rest.parts; are_done = (done_is state task is, rest.are_done); are_left = rest.are_left }
  | inr fails ↦ record {
    done = [];
    left = task ∷ tasks;
    parts = refl;
    are_done = tt;
    are_left = (
      left_is state task fails,
      all_left state task tasks [] (λ second some back same is. never task second front some back (ap (λ more. front ++ task ∷ more) same) (left_is state task fails) is),
    );
  }
]

module _ (slots : ℕ) (before during : FieldBits) (p : CommitPieces) (state : State)
    (no_word : (field : Field) (port : ℕ) → HasWrongWord before during p state field port → ⊥) (no_foreign : (at : ℕ) → IsForeign slots p state at → ⊥)
    (no_crossed : (at : ℕ) → IsCrossed p state at → ⊥) (no_twin : (at : ℕ) → IsOneTooMany state.slots at → ⊥)
    (no_missing : (priority : ℕ) → IsMissing p state priority → ⊥) (no_early : (priority : ℕ) → IsEarly p state priority → ⊥) where
  unused : (at : ℕ) → slots ≤ at → slot state.slots at ≡ None
  unused at past = go (slot state.slots at) refl
    where
      go : (held : Option Entry) → slot state.slots at ≡ held → held ≡ None
      go None is = refl
      go (Some e) is = absurd (no_foreign at (e, is, inl past))

  known : (at : ℕ) (e : Entry) → slot state.slots at ≡ Some e → (x : RankedPiece) × Contains (known_pieces p) x × (entry_for x ≡ e)
  known at e s = elim (find_piece (known_pieces p) e) [ inl found ↦ found | inr none ↦ absurd (no_foreign at (e, s, inr none)) ]

  old_words : AreTranslated state before
  old_words = record {
    src = λ bit range live port fits. elim (equal_or_not (is_bit_set (slice_index state.src port) bit) (range_holds range port)) [ inl same ↦ same | inr differ ↦ absurd (no_word Src port (fits, inl (bit, range, live, differ))) ];
    dst = λ bit range live port fits. elim (equal_or_not (is_bit_set (slice_index state.dst port) bit) (range_holds range port)) [ inl same ↦ same | inr differ ↦ absurd (no_word Dst port (fits, inl (bit, range, live, differ))) ];
  }

  new_words : (x : RankedPiece) → Contains p.inserted x → IsStanding state x → AreTranslated state during
  new_words x member stands = record {
    src = λ bit range live port fits. elim (equal_or_not (is_bit_set (slice_index state.src port) bit) (range_holds range port)) [ inl same ↦ same | inr differ ↦ absurd (no_word Src port (fits, inr (x, member, stands, (bit, range, live, differ)))) ];
    dst = λ bit range live port fits. elim (equal_or_not (is_bit_set (slice_index state.dst port) bit) (range_holds range port)) [ inl same ↦ same | inr differ ↦ absurd (no_word Dst port (fits, inr (x, member, stands, (bit, range, live, differ)))) ];
  }

  twins : HasOneTwin state.slots
  twins = record {
    one = λ a b is_a is_b. elim (cases_order a b) [
      | inl same ↦ same
      | inr o ↦ absurd (elim o [ inl less ↦ no_twin b (inr (is_b, (a, is_a, less))) | inr more ↦ no_twin a (inr (is_a, (b, is_b, more))) ])
    ];
    equal = λ lesser at alike. elim (cases_eq alike.first.result alike.second.result) [ inl same ↦ same | inr differ ↦ absurd (no_twin at (inl (lesser, alike, differ))) ];
  }

  pieced : ArePieced state (tasks_of p)
  pieced = part state (tasks_of p) [] (λ first second some between back same not_done done.
      no_early (piece_of second).rank (record { front = some; first = first; between = between; second = second; back = back; parts = same; not_done = not_done; done = done; rank = refl }))

  pub is_stage : (done : List Task) × (left : List Task) × IsStageAt slots before during p state done left
  is_stage = (
    pieced.done,
    pieced.left,
    record {
      unused = unused;
      known = known;
      old_words = old_words;
      new_words = new_words;
      order = λ i j first second less in_first in_second here there over. elim (cases_lt first.rank second.rank) [
        | inr least ↦ least
        | inl more ↦ absurd (no_crossed j (record { lesser = i; less = less; low = first; high = second; low_known = in_first; high_known = in_second; holds_low = here; holds_high = there; overlap = over; lower = more }))
      ];
      twins = twins;
      stays = λ x member kept. elim (cases_Bool (stands_in state.slots x)) [
        | inl is ↦ stands_is state x is
        | inr fails ↦ absurd (no_missing x.rank (x, member, kept, (λ stands. both_ways (stands_in state.slots x) fails (stands_from state x stands)), refl))
      ];
      parts = pieced.parts;
      are_done = pieced.are_done;
      are_left = pieced.are_left;
    },
  )

pub only_stages : OnlyStagesHaveNoFault
only_stages slots mode bits rules batch state none =
    is_stage slots bits (bits_with mode rules batch bits) (commit_pieces mode bits rules batch) state
    (λ field port is. none (Word field port) (λ same. cc) is)
    (λ at is. none (Foreign at) (λ same. cc) is)
    (λ at is. none (Crossed at) (λ same. cc) is)
    (λ at is. none (Twin at) (λ same. cc) is)
    (λ priority is. none (Gap priority) (λ same. cc) (inl is))
    (λ priority is. none (Gap priority) (λ same. cc) (inr is))
