-- A stage answers every key as the old set or as the new one, and with no task left as the new one.
use Rattle.std.proofs.Common.{◌≡◌, ℕ, ◌≤◌, Some, List, [], ◌∷◌, ◌++◌, map, filter, IsTrue, Contains, inl, inr, ◌⊎◌, sym, ◌∙◌, subst, ap}
use Rattle.std.specs.Prelude.{AllPairs, ◌↔◌}
use Rattle.std.proofs.lemmas.Bool.{cases_order}
use Rattle.std.proofs.lemmas.List.Elements.{Contains-append_left, Contains-append_right, Contains-append_cases}
use Rattle.slot_order.specs.Order.{slot, Distinct}
use Rattle.slot_order.proofs.Lists.{contains_head, contains_tail, contains_cases, contains_none, map_in, in_filter, filter_in, AllByRecursion-member}
use Rattle.rule_model.specs.declared.Rule.{Rule}
use Rattle.rule_model.specs.declared.words.Entry.{Entry}
use Rattle.rule_model.specs.Entry.{RankedPiece, entry_of, entry_for, same_match}
use Rattle.tcam_device.specs.State.{State, Shows}
use Rattle.tcam_device.specs.Order.{IsOrdered}
use Rattle.tcam_device.specs.Hitless.{ShowsOldOrNew}
use Rattle.tcam_device.proofs.Lookups.{HitAsPieces}
use Rattle.tcam_device.proofs.One.{same_match-same}
use Rattle.tcam_device.proofs.Shown.{ArePiecesOf, ordered_shows}
use Rattle.commit_writes.specs.Bits.{FieldBits}
use Rattle.commit_writes.proofs.Members.{pairs_across}
use Rattle.commit_writes.proofs.Mirror.{IsOrdered_same}
use Rattle.commit_writes.proofs.OnTheWay.{Leads, AreOnTheWay, best_answers, found_on_the_way}
use Rattle.commit_writes.proofs.SetPieces.{HasPiece}
use Rattle.readback.specs.Tasks.{CommitPieces, known_pieces, Task, Insert, Rewrite, Erase, tasks_of, IsStanding, IsTold, IsDone, IsLeft, is_told_in}
use Rattle.readback.specs.Stage.{IsStageAt}
use Rattle.readback.proofs.Matches.{match_sym}
use Rattle.readback.proofs.Tests.{told_is, told_from}
use Rattle.readback.proofs.Facts.{ArePieces, IsSame, same_sym, same_trans, old_known, inserted_known, known_cases}

-- insertions by falling rank, then new results, then erases by rising rank
abbrev pub InOrder : Task → Task → Type 0
InOrder (Insert a) (Insert b) = b.rank ≤ a.rank
InOrder (Insert a) (Rewrite b) = Unit {0}
InOrder (Insert a) (Erase b) = Unit {0}
InOrder (Rewrite a) (Insert b) = ⊥
InOrder (Rewrite a) (Rewrite b) = Unit {0}
InOrder (Rewrite a) (Erase b) = Unit {0}
InOrder (Erase a) (Insert b) = ⊥
InOrder (Erase a) (Rewrite b) = ⊥
InOrder (Erase a) (Erase b) = a.rank ≤ b.rank

-- what a commit's pieces have to do with those of the new set
pub record LeadTo (pieces : CommitPieces) (new : List RankedPiece) : Type 0 where
  pub in_order : AllPairs InOrder (tasks_of pieces)
  pub new_once : (a b : RankedPiece) → Contains new a → Contains new b → IsSame a b → a ≡ b
  pub inserted_new : (ranked : RankedPiece) → Contains pieces.inserted ranked → Contains new ranked
  pub rewritten_new : (ranked : RankedPiece) → Contains pieces.rewritten ranked → Contains new ranked
  -- what gets a new result doesn't go
  pub kept : (now old : RankedPiece) → Contains pieces.rewritten now → Contains pieces.erased old → IsSame old now → ⊥
  -- an old piece goes, or stays as it is, or gets a new result
  pub old_cases : (ranked : RankedPiece) → Contains pieces.old ranked → Contains pieces.erased ranked
      ⊎ ((Contains pieces.erased ranked → ⊥) × (Contains new ranked ⊎ ((now : RankedPiece) × Contains pieces.rewritten now × IsSame ranked now)))
  pub new_cases : (ranked : RankedPiece) → Contains new ranked → (Contains pieces.old ranked × (Contains pieces.erased ranked → ⊥))
      ⊎ (Contains pieces.rewritten ranked ⊎ Contains pieces.inserted ranked)

-- whether a task of a list is an insertion
pub any_insert : (tasks : List Task) → ((x : RankedPiece) × Contains tasks (Insert x)) ⊎ ((x : RankedPiece) → Contains tasks (Insert x) → ⊥)
any_insert [] = inr (λ x none. contains_none (Insert x) none)
any_insert (Insert y ∷ tasks) = inl (y, contains_head (Insert y) tasks)
any_insert (Rewrite y ∷ tasks) = elim (any_insert tasks) [
  | inl found ↦ inl (found.0, contains_tail (Rewrite y) (Insert found.0) tasks found.1)
  | inr none ↦ inr (λ x member. elim (contains_cases (Rewrite y) (Insert x) tasks member) [ inl same ↦ cc | inr later ↦ none x later ])
]
any_insert (Erase y ∷ tasks) = elim (any_insert tasks) [
  | inl found ↦ inl (found.0, contains_tail (Erase y) (Insert found.0) tasks found.1)
  | inr none ↦ inr (λ x member. elim (contains_cases (Erase y) (Insert x) tasks member) [ inl same ↦ cc | inr later ↦ none x later ])
]

module _ (slots : ℕ) (before during : FieldBits) (p : CommitPieces) (new : List RankedPiece) (facts : ArePieces p) (leads : LeadTo p new) (state : State) (done left : List Task) (stage : IsStageAt slots before during p state done left) where
  -- the pieces that stand, with their results
  abbrev standing : List RankedPiece
  standing = filter (λ x. is_told_in state.slots x) (known_pieces p)

  told_in : (x : RankedPiece) → Contains (known_pieces p) x → IsTold state x → Contains standing x
  told_in x member is = filter_in (λ y. is_told_in state.slots y) (known_pieces p) x member (told_from state x is)

  is_told : (x : RankedPiece) → Contains standing x → Contains (known_pieces p) x × IsTold state x
  is_told x member = let w = in_filter (λ y. is_told_in state.slots y) (known_pieces p) x member in (w.0, told_is state x w.1)

  stands_told : (x : RankedPiece) → IsTold state x → IsStanding state x
  stands_told x (i, s) = (i, (entry_for x, s, same_match-same (entry_for x)))

  pub stage_ordered : IsOrdered state (Contains standing)
  stage_ordered = record {
    known = λ at entry s. let w = stage.known at entry s in (w.0, told_in w.0 w.1 (at, s ∙ ap Some (sym w.2)), w.2);
    complete = λ x member. (is_told x member).1;
    order = λ i j first second less a b here there over. stage.order i j first second less (is_told first a).0 (is_told second b).0 here there over;
  }

  -- a piece that stands is among them, perhaps with another result
  has_piece : (x : RankedPiece) → Contains (known_pieces p) x → IsStanding state x → HasPiece standing x
  has_piece x member (i, s) =
      let w = stage.known i s.0 s.1 in
      let same = facts.apart x w.0 member w.1 (subst (λ e. IsTrue (same_match (entry_for x) e)) (sym w.2) s.2) in
      (w.0, told_in w.0 w.1 (i, s.1 ∙ ap Some (sym w.2)), sym same.0, sym same.1)

  -- each task is done or left
  pub insert_task : (x : RankedPiece) → Contains p.inserted x → Contains done (Insert x) ⊎ Contains left (Insert x)
  insert_task x member = Contains-append_cases done left (Insert x) (subst (λ tasks. Contains tasks (Insert x)) stage.parts
      (Contains-append_left (map Insert p.inserted) (map Rewrite p.rewritten ++ map Erase p.erased) (Insert x) (map_in Insert p.inserted x member)))

  rewrite_task : (x : RankedPiece) → Contains p.rewritten x → Contains done (Rewrite x) ⊎ Contains left (Rewrite x)
  rewrite_task x member = Contains-append_cases done left (Rewrite x) (subst (λ tasks. Contains tasks (Rewrite x)) stage.parts
      (Contains-append_right (map Insert p.inserted) (map Rewrite p.rewritten ++ map Erase p.erased) (Rewrite x)
      (Contains-append_left (map Rewrite p.rewritten) (map Erase p.erased) (Rewrite x) (map_in Rewrite p.rewritten x member))))

  erase_task : (x : RankedPiece) → Contains p.erased x → Contains done (Erase x) ⊎ Contains left (Erase x)
  erase_task x member = Contains-append_cases done left (Erase x) (subst (λ tasks. Contains tasks (Erase x)) stage.parts
      (Contains-append_right (map Insert p.inserted) (map Rewrite p.rewritten ++ map Erase p.erased) (Erase x)
      (Contains-append_right (map Rewrite p.rewritten) (map Erase p.erased) (Erase x) (map_in Erase p.erased x member))))

  pub in_done : (task : Task) → Contains done task → IsDone state task
  in_done task member = AllByRecursion-member (IsDone state) done task stage.are_done member

  in_left : (task : Task) → Contains left task → IsLeft state task
  in_left task member = AllByRecursion-member (IsLeft state) left task stage.are_left member

  -- what is done comes before what is left
  before_left : (a b : Task) → Contains done a → Contains left b → InOrder a b
  before_left a b first second = pairs_across InOrder done left a b (subst (AllPairs InOrder) stage.parts leads.in_order) first second

  -- of two entries of one piece the result is the same
  one_result : (x y : RankedPiece) → IsSame x y → IsTold state x → IsTold state y → x.result ≡ y.result
  one_result x y same (i, a) (j, b) = elim (cases_order i j) [
    | inl k ↦ let z : Some (entry_for x) ≡ Some (entry_for y) = sym a ∙ (ap (slot state.slots) k ∙ b) in
        ap (λ (e : Entry). e.result) (let w : entry_for x ≡ entry_for y = cc in w)
    | inr o ↦ elim o [
      | inl less ↦ stage.twins.equal i j (record { less = less; first = entry_for x; second = entry_for y; here = a; there = b; same = match })
      | inr more ↦ sym (stage.twins.equal j i (record { less = more; first = entry_for y; second = entry_for x; here = b; there = a; same = match_sym (entry_for x) (entry_for y) match }))
    ]
  ]
    where
      alike : entry_for x ≡ entry_of y.piece y.rank x.result
      alike = ap (λ q. entry_of q x.rank x.result) same.0 ∙ ap (λ n. entry_of y.piece n x.result) same.1

      match : IsTrue (same_match (entry_for x) (entry_for y))
      match = subst (λ e. IsTrue (same_match e (entry_for y))) (sym alike) (same_match-same (entry_for y))

  -- while an erase is left, or comes after something that is, each old piece stands
  old_stands : ((x : RankedPiece) → Contains p.erased x → Contains left (Erase x)) → (x : RankedPiece) → Contains p.old x → HasPiece standing x
  old_stands erases x member = has_piece x (old_known p x member) (elim (leads.old_cases x member) [
    | inl goes ↦ in_left (Erase x) (erases x goes)
    | inr stays ↦ stage.stays x member stays.0
  ])

  all_left : (task : Task) → Contains left task → ((x : RankedPiece) → InOrder (Erase x) task → ⊥) → (x : RankedPiece) → Contains p.erased x → Contains left (Erase x)
  all_left task member never x goes = elim (erase_task x goes) [ inl is ↦ absurd (never x (before_left (Erase x) task is member)) | inr is ↦ is ]

  -- while an insertion is left, the old pieces lead the old ones and the inserted ones the new ones
  inserts_on : (first : RankedPiece) → Contains left (Insert first) → AreOnTheWay p.old new standing
  inserts_on first member = record { each = each; whole = inl all }
    where
      all : (x : RankedPiece) → Contains p.old x → HasPiece standing x
      all = old_stands (all_left (Insert first) member (λ x never. never))

      new_leads : (y : RankedPiece) → Contains p.inserted y → Contains standing y → Leads new standing y
      new_leads y put told other is = elim (leads.new_cases other is) [
        | inl old ↦ inl (all other old.0)
        | inr rest ↦ elim rest [
          | inl changed ↦ let w = facts.was other changed in let h = all w.0 w.1 in inl (h.0, h.1, h.2 ∙ w.2.0, h.3 ∙ w.2.1)
          | inr fresh ↦ elim (insert_task other fresh) [
            | inl came ↦ inl (has_piece other (inserted_known p other fresh) (in_done (Insert other) came))
            | inr later ↦ inr (elim (insert_task y put) [
              | inl came ↦ before_left (Insert y) (Insert other) came later
              | inr out ↦ absurd (in_left (Insert y) out (stands_told y (is_told y told).1))
            ])
          ]
        ]
      ]

      each : (y : RankedPiece) → Contains standing y → (Contains p.old y × Leads p.old standing y) ⊎ (Contains new y × Leads new standing y)
      each y told = elim (known_cases p y (is_told y told).0) [
        | inl old ↦ inl (old, λ other is. inl (all other is))
        | inr rest ↦ elim rest [
          | inl put ↦ inr (leads.inserted_new y put, new_leads y put told)
          | inr changed ↦ absurd (elim (rewrite_task y changed) [
            | inl came ↦ before_left (Rewrite y) (Insert first) came member
            | inr later ↦ in_left (Rewrite y) later (is_told y told).1
          ])
        ]
      ]

  -- once all are in the new pieces stand
  new_stands : ((x : RankedPiece) → Contains left (Insert x) → ⊥) → (x : RankedPiece) → Contains new x → HasPiece standing x
  new_stands none x member = elim (leads.new_cases x member) [
    | inl old ↦ has_piece x (old_known p x old.0) (stage.stays x old.0 old.1)
    | inr rest ↦ elim rest [
      | inl changed ↦
          let w = facts.was x changed in
          let h = has_piece w.0 (old_known p w.0 w.1) (stage.stays w.0 w.1 (λ goes. leads.kept x w.0 changed goes w.2)) in
          (h.0, h.1, h.2 ∙ w.2.0, h.3 ∙ w.2.1)
      | inr fresh ↦ elim (insert_task x fresh) [
        | inl came ↦ has_piece x (inserted_known p x fresh) (in_done (Insert x) came)
        | inr later ↦ absurd (none x later)
      ]
    ]
  ]

  -- a piece that shows its old result isn't rewritten yet
  still : (y : RankedPiece) → Contains p.old y → (now : RankedPiece) → Contains p.rewritten now → IsSame y now → IsTold state y → Contains left (Rewrite now)
  still y old now changed same told = elim (rewrite_task now changed) [
    | inr later ↦ later
    | inl came ↦ absurd (
        let w = facts.was now changed in
        let one : y ≡ w.0 = facts.old_once y w.0 old w.1 (same_trans y now w.0 same (same_sym w.0 now w.2)) in
        w.3 (ap (λ (z : RankedPiece). z.result) (sym one) ∙ one_result y now same told (in_done (Rewrite now) came)))
  ]

  -- and those that are still to go lead the old ones
  inserts_done : ((x : RankedPiece) → Contains left (Insert x) → ⊥) → AreOnTheWay p.old new standing
  inserts_done none = record { each = each; whole = inr (new_stands none) }
    where
      is_new : (y : RankedPiece) → Contains new y → (Contains p.old y × Leads p.old standing y) ⊎ (Contains new y × Leads new standing y)
      is_new y member = inr (member, λ other is. inl (new_stands none other is))

      goes_leads : (y : RankedPiece) → Contains p.erased y → IsTold state y → Leads p.old standing y
      goes_leads y goes told other is = elim (leads.old_cases other is) [
        | inr stays ↦ inl (has_piece other (old_known p other is) (stage.stays other is stays.0))
        | inl also ↦ elim (erase_task other also) [
          | inr later ↦ inl (has_piece other (old_known p other is) (in_left (Erase other) later))
          | inl gone ↦ elim (erase_task y goes) [
            | inl out ↦ absurd (in_done (Erase y) out (stands_told y told))
            | inr later ↦ inr (before_left (Erase other) (Erase y) gone later)
          ]
        ]
      ]

      each : (y : RankedPiece) → Contains standing y → (Contains p.old y × Leads p.old standing y) ⊎ (Contains new y × Leads new standing y)
      each y told = elim (known_cases p y (is_told y told).0) [
        | inr rest ↦ elim rest [ inl put ↦ is_new y (leads.inserted_new y put) | inr changed ↦ is_new y (leads.rewritten_new y changed) ]
        | inl old ↦ elim (leads.old_cases y old) [
          | inl goes ↦ inl (old, goes_leads y goes (is_told y told).1)
          | inr stays ↦ elim stays.1 [
            | inl as_it_is ↦ is_new y as_it_is
            | inr changes ↦ inl (old, λ other is. inl (old_stands (all_left (Rewrite changes.0) (still y old changes.0 changes.1 changes.2 (is_told y told).1) (λ x never. never)) other is))
          ]
        ]
      ]

  pub on_the_way : AreOnTheWay p.old new standing
  on_the_way = elim (any_insert left) [ inl first ↦ inserts_on first.0 first.1 | inr none ↦ inserts_done none ]

  -- where nothing is left the pieces that stand are those of the new set
  pub arrived : left ≡ [] → (x : RankedPiece) → Contains standing x ↔ Contains new x
  arrived ended x = (to x, from)
    where
      none_left : (task : Task) → Contains left task → ⊥
      none_left task member = contains_none task (subst (λ tasks. Contains tasks task) ended member)

      to : (y : RankedPiece) → Contains standing y → Contains new y
      to y told = elim (known_cases p y (is_told y told).0) [
        | inr rest ↦ elim rest [ inl put ↦ leads.inserted_new y put | inr changed ↦ leads.rewritten_new y changed ]
        | inl old ↦ elim (leads.old_cases y old) [
          | inl goes ↦ absurd (elim (erase_task y goes) [ inl out ↦ in_done (Erase y) out (stands_told y (is_told y told).1) | inr later ↦ none_left (Erase y) later ])
          | inr stays ↦ elim stays.1 [
            | inl as_it_is ↦ as_it_is
            | inr changes ↦ absurd (none_left (Rewrite changes.0) (still y old changes.0 changes.1 changes.2 (is_told y told).1))
          ]
        ]
      ]

      from : Contains new x → Contains standing x
      from member =
          let h = new_stands (λ y is. none_left (Insert y) is) x member in
          subst (Contains standing) (leads.new_once h.0 x (to h.0 h.1) member (h.2, h.3)) h.1

  -- a stage answers as the old set or as the new one,
  pub answers : (rules later : List Rule) → Distinct (λ (rule : Rule). rule.priority) rules → Distinct (λ (rule : Rule). rule.priority) later
      → ArePiecesOf rules (Contains p.old) → ArePiecesOf later (Contains new) → HitAsPieces state (Contains p.old) → HitAsPieces state (Contains new)
      → ShowsOldOrNew state rules later
  answers rules later distinct_old distinct_new of_old of_new hit_old hit_new key valid =
      let f = found_on_the_way state p.old new standing key valid hit_old hit_new on_the_way stage_ordered in
      elim f.either [
        | inl best ↦ inl (f.shows ∙ best_answers state rules p.old key valid f.found distinct_old of_old hit_old best)
        | inr best ↦ inr (f.shows ∙ best_answers state later new key valid f.found distinct_new of_new hit_new best)
      ]

  -- while an insertion is left and no inserted piece stands, the old pieces stand as they were
  module _ (first : RankedPiece) (member : Contains left (Insert first)) (none : (x : RankedPiece) → Contains p.inserted x → IsStanding state x → ⊥) where
    untold : (x : RankedPiece) → Contains p.rewritten x → IsTold state x → ⊥
    untold x changed told = elim (rewrite_task x changed) [
      | inl came ↦ before_left (Rewrite x) (Insert first) came member
      | inr later ↦ in_left (Rewrite x) later told
    ]

    old_one : (x : RankedPiece) → Contains (known_pieces p) x → IsTold state x → Contains p.old x
    old_one x known told = elim (known_cases p x known) [
      | inl old ↦ old
      | inr rest ↦ absurd (elim rest [ inl put ↦ none x put (stands_told x told) | inr changed ↦ untold x changed told ])
    ]

    complete : (x : RankedPiece) → Contains p.old x → IsTold state x
    complete x old =
        let h = old_stands (all_left (Insert first) member (λ y never. never)) x old in
        let is = is_told h.0 h.1 in
        subst (IsTold state) (facts.old_once h.0 x (old_one h.0 is.0 is.1) old (h.2, h.3)) is.1

    pub old_ordered : IsOrdered state (Contains p.old)
    old_ordered = record {
      known = λ at entry s. let w = stage.known at entry s in (w.0, old_one w.0 w.1 (at, s ∙ ap Some (sym w.2)), w.2);
      complete = complete;
      order = λ i j a b less in_a in_b here there over. stage.order i j a b less (old_known p a in_a) (old_known p b in_b) here there over;
    }

  -- and where nothing is left as the new one
  pub answers_new : (later : List Rule) → left ≡ [] → Distinct (λ (rule : Rule). rule.priority) later → ArePiecesOf later (Contains new) → HitAsPieces state (Contains new) → Shows state later
  answers_new later ended distinct_new of_new hit_new =
      ordered_shows state later (Contains new) distinct_new of_new hit_new (IsOrdered_same state (Contains standing) (Contains new) (arrived ended) stage_ordered)
