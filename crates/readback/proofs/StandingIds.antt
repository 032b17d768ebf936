-- The pieces that stand at a stage without a twin, where each has an id: with those that are to come they are a planned row.
use Rattle.std.proofs.Common.{◌≡◌, List, [], ◌++◌, map, Contains, IsTrue, inl, inr, refl, sym, ◌∙◌, subst, ap, append-nil}
use Rattle.std.specs.Prelude.{All, AllPairs}
use Rattle.std.specs.List.{filter_map}
use Rattle.std.proofs.lemmas.List.Elements.{Contains-append_left, Contains-append_right, Contains-append_cases, filter_map-append}
use Rattle.slot_order.proofs.Lists.{AllByRecursion-member, map_in}
use Rattle.rule_model.proofs.Pairs.{pairs_append}
use Rattle.rule_model.specs.Entry.{RankedPiece, entry_of, entry_for, same_match}
use Rattle.tcam_device.specs.Order.{IsOrdered}
use Rattle.tcam_device.proofs.One.{same_match-same}
use Rattle.commit_writes.specs.Planned.{IsServedBy, IsPlannedRow}
use Rattle.commit_writes.proofs.BatchPieces.{inserted_once}
use Rattle.commit_writes.proofs.Filters.{all_members, all_from}
use Rattle.commit_writes.proofs.Members.{pairs_behind, pairs_across}
use Rattle.commit_writes.proofs.Ordered.{planned_first}
use Rattle.readback.specs.Tasks.{CommitPieces, known_pieces, Task, Insert, Rewrite, Erase, IsStanding, IsTold, IsDone, IsLeft}
use Rattle.readback.specs.Going.{inserted_by}
use Rattle.readback.proofs.Facts.{IsSame, same_sym, known_cases, old_known, inserted_known}
use Rattle.readback.proofs.Parted.{all_inserts, put_by}
use Rattle.readback.proofs.Pieces.{served}
use Rattle.readback.proofs.Shows.{InOrder}
use Rattle.readback.proofs.BegunRests.{Begun, during_of, pieces, came, coming, facts, leads}

-- two pieces of a set aren't one piece of one rank
abbrev Apart : RankedPiece → RankedPiece → Type 0
Apart a b = a.rank ≡ b.rank → a.piece ≡ b.piece → ⊥

-- entries of one piece and rank match
pub same_match_of : (a b : RankedPiece) → IsSame a b → IsTrue (same_match (entry_for a) (entry_for b))
same_match_of a b same =
    subst (λ e. IsTrue (same_match e (entry_for b))) (sym (ap (λ q. entry_of q a.rank a.result) same.0 ∙ ap (λ n. entry_of b.piece n a.result) same.1)) (same_match-same (entry_for b))

module _ (b : Begun) where
  abbrev p : CommitPieces
  p = pieces b

  abbrev standing : List RankedPiece
  standing = b.plan.stands.standing

  in_done : (task : Task) → Contains b.done task → IsDone b.start task
  in_done task member = AllByRecursion-member (IsDone b.start) b.done task b.stage.are_done member

  in_left : (task : Task) → Contains b.left task → IsLeft b.start task
  in_left task member = AllByRecursion-member (IsLeft b.start) b.left task b.stage.are_left member

  ordered_tasks : AllPairs InOrder (b.done ++ b.left)
  ordered_tasks = subst (AllPairs InOrder) b.stage.parts (leads b).in_order

  -- what is put in has come or is still to come
  pub all_come : p.inserted ≡ came b ++ coming b
  all_come = sym (all_inserts p) ∙ (ap (filter_map inserted_by) b.stage.parts ∙ filter_map-append inserted_by b.done b.left)

  pub coming_in : (x : RankedPiece) → Contains (coming b) x → Contains p.inserted x
  coming_in x member = subst (λ some. Contains some x) (sym all_come) (Contains-append_right (came b) (coming b) x member)

  pub came_in : (x : RankedPiece) → Contains (came b) x → Contains p.inserted x
  came_in x member = subst (λ some. Contains some x) (sym all_come) (Contains-append_left (came b) (coming b) x member)

  known_served : (x : RankedPiece) → Contains (known_pieces p) x → IsServedBy b.start x
  known_served x member = served b.mode b.bits b.rules b.batch b.change b.start b.serving x member

  -- the pieces that stand are in order
  base_row : IsPlannedRow b.start standing [] b.live b.slots b.entries []
  base_row = record {
    is_state = b.is_state;
    mirrors = b.plan.mirrors;
    served = all_members (IsServedBy b.start) (standing ++ []) (λ x member. known_served x (b.plan.stands.known x (subst (λ some. Contains some x) (append-nil standing) member)));
    once = subst (AllPairs Apart) (sym (append-nil standing)) b.plan.stands.once;
    arranged = b.plan.stands.arranged;
    entries_are = b.plan.stands.entries_are;
    inserted_are = refl;
    have_entries = tt;
    are_planned = tt;
  }

  ordered : IsOrdered b.start (Contains standing)
  ordered = planned_first b.start standing [] b.live b.slots b.entries [] base_row

  told : (x : RankedPiece) → Contains standing x → IsTold b.start x
  told x member = ordered.complete x member

  -- of what stands one of these is it
  found : (x : RankedPiece) → Contains (known_pieces p) x → IsStanding b.start x → (y : RankedPiece) × Contains standing y × IsSame y x
  found x member (i, s) =
      let w = ordered.known i s.0 s.1 in
      (w.0, w.1, same_sym x w.0 ((facts b).apart x w.0 member (b.plan.stands.known w.0 w.1) (subst (λ e. IsTrue (same_match (entry_for x) e)) (sym w.2) s.2)))

  -- one that has come is one of them
  pub came_stands : (x : RankedPiece) → Contains (came b) x → (y : RankedPiece) × Contains standing y × IsSame y x
  came_stands x early = found x (inserted_known p x (came_in x early)) (in_done (Insert x) (put_by b.done x early))

  -- one that is still to come isn't any of them
  not_yet : (x y : RankedPiece) → Contains standing x → Contains (coming b) y → IsSame x y → ⊥
  not_yet x y member later same =
      let w = told x member in
      in_left (Insert y) (put_by b.left y later) (w.0, (entry_for x, w.1, same_match_of y x (same_sym x y same)))

  coming_once : AllPairs Apart (coming b)
  coming_once = pairs_behind Apart (came b) (coming b) (subst (AllPairs Apart) all_come (inserted_once b.mode (during_of b) b.rules b.batch b.change))

  pub row : IsPlannedRow b.start b.plan.stands.standing (coming b) b.live b.slots b.entries b.planned
  row = record {
    is_state = b.is_state;
    mirrors = b.plan.mirrors;
    served = all_members (IsServedBy b.start) (standing ++ coming b) (λ x member. known_served x (elim (Contains-append_cases standing (coming b) x member) [
      | inl here ↦ b.plan.stands.known x here
      | inr later ↦ inserted_known p x (coming_in x later)
    ]));
    once = pairs_append Apart standing (coming b) b.plan.stands.once coming_once
        (all_from (λ a. All (λ other. Apart a other) (coming b)) standing
        (λ a here. all_from (λ other. Apart a other) (coming b) (λ other later rank piece. not_yet a other here later (piece, rank))));
    arranged = b.plan.stands.arranged;
    entries_are = b.plan.stands.entries_are;
    inserted_are = b.plan.inserted;
    have_entries = b.plan.have_entries;
    are_planned = b.plan.are_planned;
  }

  -- With an insertion left the pieces that stand are the old ones and those that have come.
  module _ (first : RankedPiece) (member : Contains b.left (Insert first)) where
    never_rewritten : (x : RankedPiece) → Contains b.done (Rewrite x) → ⊥
    never_rewritten x is = pairs_across InOrder b.done b.left (Rewrite x) (Insert first) ordered_tasks is member

    never_erased : (x : RankedPiece) → Contains b.done (Erase x) → ⊥
    never_erased x is = pairs_across InOrder b.done b.left (Erase x) (Insert first) ordered_tasks is member

    rewrite_left : (x : RankedPiece) → Contains p.rewritten x → Contains b.left (Rewrite x)
    rewrite_left x is = elim (Contains-append_cases b.done b.left (Rewrite x) (subst (λ tasks. Contains tasks (Rewrite x)) b.stage.parts
        (Contains-append_right (map Insert p.inserted) (map Rewrite p.rewritten ++ map Erase p.erased) (Rewrite x)
        (Contains-append_left (map Rewrite p.rewritten) (map Erase p.erased) (Rewrite x) (map_in Rewrite p.rewritten x is))))) [ inl early ↦ absurd (never_rewritten x early) | inr late ↦ late ]

    erase_left : (x : RankedPiece) → Contains p.erased x → Contains b.left (Erase x)
    erase_left x is = elim (Contains-append_cases b.done b.left (Erase x) (subst (λ tasks. Contains tasks (Erase x)) b.stage.parts
        (Contains-append_right (map Insert p.inserted) (map Rewrite p.rewritten ++ map Erase p.erased) (Erase x)
        (Contains-append_right (map Rewrite p.rewritten) (map Erase p.erased) (Erase x) (map_in Erase p.erased x is))))) [ inl early ↦ absurd (never_erased x early) | inr late ↦ late ]

    old_stands : (y : RankedPiece) → Contains p.old y → IsStanding b.start y
    old_stands y old = elim ((leads b).old_cases y old) [ inl goes ↦ in_left (Erase y) (erase_left y goes) | inr stays ↦ b.stage.stays y old stays.0 ]

    pub to_old : (x : RankedPiece) → Contains b.plan.stands.standing x → Contains (p.old ++ came b) x
    to_old x here = elim (known_cases p x (b.plan.stands.known x here)) [
      | inl old ↦ Contains-append_left p.old (came b) x old
      | inr rest ↦ elim rest [
        | inr changed ↦ absurd (in_left (Rewrite x) (rewrite_left x changed) (told x here))
        | inl put ↦ elim (Contains-append_cases (came b) (coming b) x (subst (λ some. Contains some x) all_come put)) [
          | inl early ↦ Contains-append_right p.old (came b) x early
          | inr late ↦ absurd (not_yet x x here late (refl, refl))
        ]
      ]
    ]

    pub from_old : (x : RankedPiece) → Contains (p.old ++ came b) x → Contains b.plan.stands.standing x
    from_old x is = elim (Contains-append_cases p.old (came b) x is) [
      | inl old ↦
          let f = found x (old_known p x old) (old_stands x old) in
          elim (Contains-append_cases p.old (came b) f.0 (to_old f.0 f.1)) [
            | inl stood ↦ subst (Contains standing) ((facts b).old_once f.0 x stood old f.2) f.1
            | inr put ↦ absurd ((facts b).new_apart x f.0 old (came_in f.0 put) (same_sym f.0 x f.2))
          ]
      | inr early ↦
          let f = came_stands x early in
          elim (Contains-append_cases p.old (came b) f.0 (to_old f.0 f.1)) [
            | inl stood ↦ absurd ((facts b).new_apart f.0 x stood (came_in x early) f.2)
            | inr put ↦ subst (Contains standing) ((leads b).new_once f.0 x ((leads b).inserted_new f.0 (came_in f.0 put)) ((leads b).inserted_new x (came_in x early)) f.2) f.1
          ]
    ]
