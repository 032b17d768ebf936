-- While pieces are inserted: a device in order for the old pieces and the first of the inserted ones shows a stage.
use Rattle.std.proofs.Common.{◌≡◌, ℕ, ◌≤◌, None, Some, List, ◌++◌, map, take, drop, IsTrue, Contains, inl, inr, sym, ◌∙◌, subst, ap, append_assoc}
use Rattle.std.specs.Prelude.{AllPairs}
use Rattle.std.proofs.lemmas.List.{take-append-drop, map-append}
use Rattle.std.proofs.lemmas.List.Elements.{Contains-append_left, Contains-append_right, Contains-append_cases}
use Rattle.slot_order.specs.Order.{slot}
use Rattle.slot_order.proofs.Lists.{contains_take, in_map, map_in}
use Rattle.rule_model.specs.Piece.{PiecesOverlap}
use Rattle.rule_model.specs.declared.words.Entry.{Entry}
use Rattle.rule_model.specs.Entry.{RankedPiece, entry_for, same_match}
use Rattle.tcam_device.specs.State.{State}
use Rattle.tcam_device.specs.Order.{StandsAt, IsOrdered, HasOneTwin}
use Rattle.tcam_device.proofs.One.{same_match-same}
use Rattle.commit_writes.specs.Bits.{FieldBits}
use Rattle.commit_writes.specs.Shape.{Stands}
use Rattle.commit_writes.proofs.Filters.{all_members}
use Rattle.commit_writes.proofs.Members.{pairs_across}
use Rattle.readback.specs.Tasks.{CommitPieces, known_pieces, Task, Insert, Rewrite, Erase, tasks_of, IsStanding, IsTold, IsDone, IsLeft}
use Rattle.readback.specs.Stage.{IsStageAt}
use Rattle.commit_writes.specs.Serving.{AreTranslated}
use Rattle.readback.proofs.Facts.{ArePieces, AreOthers, IsSame, same_sym, same_trans, old_known, inserted_known, rewritten_known}

-- the first tasks, and the others
abbrev pub first_inserts : CommitPieces → ℕ → List Task
first_inserts p k = map Insert (take k p.inserted)

abbrev pub other_tasks : CommitPieces → ℕ → List Task
other_tasks p k = map Insert (drop k p.inserted) ++ (map Rewrite p.rewritten ++ map Erase p.erased)

split : {X Y : Type 0} (f : X → Y) (k : ℕ) (xs : List X) → map f xs ≡ map f (take k xs) ++ map f (drop k xs)
split f k xs = ap (map f) (sym (take-append-drop k xs)) ∙ map-append f (take k xs) (drop k xs)

module _ (slots : ℕ) (before during : FieldBits) (p : CommitPieces) (facts : ArePieces p) (state : State) (k : ℕ)
    (unused : (at : ℕ) → slots ≤ at → slot state.slots at ≡ None) (old_words : AreTranslated state before)
    (new_words : (ranked : RankedPiece) → Contains p.inserted ranked → IsStanding state ranked → AreTranslated state during)
    (twins : HasOneTwin state.slots) (ordered : IsOrdered state (Contains (p.old ++ take k p.inserted))) where
  standing : List RankedPiece
  standing = p.old ++ take k p.inserted

  parts : tasks_of p ≡ first_inserts p k ++ other_tasks p k
  parts = ap (λ some. some ++ (map Rewrite p.rewritten ++ map Erase p.erased)) (split Insert k p.inserted) ∙ append_assoc (first_inserts p k) (map Insert (drop k p.inserted)) (map Rewrite p.rewritten ++ map Erase p.erased)

  taken : (x : RankedPiece) → Contains (take k p.inserted) x → Contains p.inserted x
  taken x member = let c = contains_take k p.inserted x member in (c.0, c.2, c.3)

  stands_known : (x : RankedPiece) → Contains (p.old ++ take k p.inserted) x → Contains (known_pieces p) x
  stands_known x member = elim (Contains-append_cases p.old (take k p.inserted) x member) [
    | inl old ↦ old_known p x old
    | inr put ↦ inserted_known p x (taken x put)
  ]

  -- what stands in a slot where a piece does is one of those that stand, and that piece
  found : (x : RankedPiece) → Contains (known_pieces p) x → (i : ℕ) (s : Stands state i x)
      → (y : RankedPiece) × Contains (p.old ++ take k p.inserted) y × IsSame y x × (entry_for y ≡ s.0)
  found x member i s = let w = ordered.known i s.0 s.1 in
      (w.0, w.1, same_sym x w.0 (facts.apart x w.0 member (stands_known w.0 w.1) (subst (λ e. IsTrue (same_match (entry_for x) e)) (sym w.2) s.2)), w.2)

  abbrev told : (x : RankedPiece) (i : ℕ) → StandsAt state i x → Stands state i x
  told x i s = (entry_for x, s, same_match-same (entry_for x))

  placed : (x : RankedPiece) → Contains (p.old ++ take k p.inserted) x → IsStanding state x
  placed x member = let w = ordered.complete x member in (w.0, told x w.0 w.1)

  not_later : (x : RankedPiece) → Contains (drop k p.inserted) x → (y : RankedPiece) → Contains (take k p.inserted) y → IsSame y x → ⊥
  not_later x later y earlier same =
      pairs_across AreOthers (first_inserts p k) (other_tasks p k) (Insert y) (Insert x) (subst (AllPairs AreOthers) parts facts.once)
      (map_in Insert (take k p.inserted) y earlier) (Contains-append_left (map Insert (drop k p.inserted)) (map Rewrite p.rewritten ++ map Erase p.erased) (Insert x) (map_in Insert (drop k p.inserted) x later))
      same

  dropped : (x : RankedPiece) → Contains (drop k p.inserted) x → Contains p.inserted x
  dropped x member = subst (λ some. Contains some x) (take-append-drop k p.inserted) (Contains-append_right (take k p.inserted) (drop k p.inserted) x member)

  pub insert_left : (x : RankedPiece) → Contains (drop k p.inserted) x → IsStanding state x → ⊥
  insert_left x member (i, s) =
      let w = found x (inserted_known p x (dropped x member)) i s in
      elim (Contains-append_cases p.old (take k p.inserted) w.0 w.1) [
        | inl old ↦ facts.new_apart w.0 x old (dropped x member) w.2
        | inr put ↦ not_later x member w.0 put w.2
      ]

  rewrite_left : (x : RankedPiece) → Contains p.rewritten x → IsTold state x → ⊥
  rewrite_left x member (i, s) =
      let w = found x (rewritten_known p x member) i (told x i s) in
      let old = facts.was x member in
      elim (Contains-append_cases p.old (take k p.inserted) w.0 w.1) [
        | inl stood ↦
            let same : w.0 ≡ old.0 = facts.old_once w.0 old.0 stood old.1 (same_trans w.0 x old.0 w.2 (same_sym old.0 x old.2)) in
            old.3 (ap (λ (y : RankedPiece). y.result) (sym same) ∙ ap (λ (e : Entry). e.result) w.3)
        | inr put ↦ facts.new_apart old.0 w.0 old.1 (taken w.0 put) (same_trans old.0 x w.0 old.2 (same_sym w.0 x w.2))
      ]

  left_is : (task : Task) → Contains (other_tasks p k) task → IsLeft state task
  left_is task member = elim (Contains-append_cases (map Insert (drop k p.inserted)) (map Rewrite p.rewritten ++ map Erase p.erased) task member) [
    | inl inserts ↦ let w = in_map Insert (drop k p.inserted) task inserts in subst (IsLeft state) w.2 (insert_left w.0 w.1)
    | inr later ↦ elim (Contains-append_cases (map Rewrite p.rewritten) (map Erase p.erased) task later) [
      | inl rewrites ↦ let w = in_map Rewrite p.rewritten task rewrites in subst (IsLeft state) w.2 (rewrite_left w.0 w.1)
      | inr erases ↦ let w = in_map Erase p.erased task erases in
          subst (IsLeft state) w.2 (placed w.0 (Contains-append_left p.old (take k p.inserted) w.0 (facts.goes w.0 w.1)))
    ]
  ]

  -- what stands where a piece does, as it stands
  as_standing : (x : RankedPiece) → Contains (known_pieces p) x → (i : ℕ) → StandsAt state i x
      → (y : RankedPiece) × Contains (p.old ++ take k p.inserted) y × StandsAt state i y × IsSame y x
  as_standing x member i s = let w = found x member i (told x i s) in (w.0, w.1, s ∙ ap Some (sym w.3), w.2)

  pub inserting : IsStageAt slots before during p state (first_inserts p k) (other_tasks p k)
  inserting = record {
    unused = unused;
    known = λ i e s. let w = ordered.known i e s in (w.0, stands_known w.0 w.1, w.2);
    old_words = old_words;
    new_words = new_words;
    order = λ i j first second less is_first is_second a b over.
        let y = as_standing first is_first i a in
        let z = as_standing second is_second j b in
        let low = ordered.order i j y.0 z.0 less y.1 z.1 y.2 z.2 (subst (λ q. PiecesOverlap q z.0.piece) (sym y.3.0) (subst (PiecesOverlap first.piece) (sym z.3.0) over)) in
        subst (λ n. n ≤ first.rank) z.3.1 (subst (λ n. z.0.rank ≤ n) y.3.1 low);
    twins = twins;
    stays = λ x member kept. placed x (Contains-append_left p.old (take k p.inserted) x member);
    parts = parts;
    are_done = all_members (IsDone state) (first_inserts p k) (λ task member. let w = in_map Insert (take k p.inserted) task member in
        subst (IsDone state) w.2 (placed w.0 (Contains-append_right p.old (take k p.inserted) w.0 w.1)));
    are_left = all_members (IsLeft state) (other_tasks p k) left_is;
  }
