-- What is known of the pieces of a commit, and of its tasks.
use Rattle.std.proofs.Common.{◌≡◌, ◌≢◌, List, ◌∷◌, ◌++◌, map, IsTrue, Contains, inl, inr, ◌⊎◌, sym, ◌∙◌, subst}
use Rattle.std.specs.Prelude.{AllPairs}
use Rattle.std.proofs.lemmas.List.Elements.{All-contains, Contains-append_left, Contains-append_right, Contains-append_cases}
use Rattle.slot_order.proofs.Lists.{in_map, contains_head}
use Rattle.rule_model.specs.Entry.{RankedPiece, entry_for, same_match}
use Rattle.rule_model.proofs.Pairs.{pairs_head}
use Rattle.commit_writes.proofs.Members.{pairs_behind, pairs_across}
use Rattle.readback.specs.Tasks.{CommitPieces, known_pieces, Task, Insert, Rewrite, Erase, piece_of, tasks_of}

-- the same piece and rank, perhaps with another result
abbrev pub IsSame : RankedPiece → RankedPiece → Type 0
IsSame a b = (a.piece ≡ b.piece) × (a.rank ≡ b.rank)

abbrev pub AreOthers : Task → Task → Type 0
AreOthers a b = IsSame (piece_of a) (piece_of b) → ⊥

-- entries tell pieces, no piece has two tasks, and each list has the pieces that it is to have
pub record ArePieces (pieces : CommitPieces) : Type 0 where
  pub apart : (a b : RankedPiece) → Contains (known_pieces pieces) a → Contains (known_pieces pieces) b → IsTrue (same_match (entry_for a) (entry_for b)) → IsSame a b
  pub once : AllPairs AreOthers (tasks_of pieces)
  pub old_once : (a b : RankedPiece) → Contains pieces.old a → Contains pieces.old b → IsSame a b → a ≡ b
  pub new_apart : (a b : RankedPiece) → Contains pieces.old a → Contains pieces.inserted b → IsSame a b → ⊥
  pub was : (ranked : RankedPiece) → Contains pieces.rewritten ranked → (old : RankedPiece) × Contains pieces.old old × IsSame old ranked × (old.result ≢ ranked.result)
  pub goes : (ranked : RankedPiece) → Contains pieces.erased ranked → Contains pieces.old ranked

pub same_sym : (a b : RankedPiece) → IsSame a b → IsSame b a
same_sym a b same = (sym same.0, sym same.1)

pub same_trans : (a b c : RankedPiece) → IsSame a b → IsSame b c → IsSame a c
same_trans a b c first second = (first.0 ∙ second.0, first.1 ∙ second.1)

-- what may stand
pub old_known : (p : CommitPieces) (x : RankedPiece) → Contains p.old x → Contains (known_pieces p) x
old_known p x member = Contains-append_left p.old (p.inserted ++ p.rewritten) x member

pub inserted_known : (p : CommitPieces) (x : RankedPiece) → Contains p.inserted x → Contains (known_pieces p) x
inserted_known p x member = Contains-append_right p.old (p.inserted ++ p.rewritten) x (Contains-append_left p.inserted p.rewritten x member)

pub rewritten_known : (p : CommitPieces) (x : RankedPiece) → Contains p.rewritten x → Contains (known_pieces p) x
rewritten_known p x member = Contains-append_right p.old (p.inserted ++ p.rewritten) x (Contains-append_right p.inserted p.rewritten x member)

pub known_cases : (p : CommitPieces) (x : RankedPiece) → Contains (known_pieces p) x → Contains p.old x ⊎ (Contains p.inserted x ⊎ Contains p.rewritten x)
known_cases p x member = elim (Contains-append_cases p.old (p.inserted ++ p.rewritten) x member) [
  | inl old ↦ inl old
  | inr new ↦ inr (Contains-append_cases p.inserted p.rewritten x new)
]

-- whose tasks they are
pub insert_in : (p : CommitPieces) (x : RankedPiece) → Contains (tasks_of p) (Insert x) → Contains p.inserted x
insert_in p x member = elim (Contains-append_cases (map Insert p.inserted) (map Rewrite p.rewritten ++ map Erase p.erased) (Insert x) member) [
  | inl here ↦ let w = in_map Insert p.inserted (Insert x) here in subst (Contains p.inserted) (let e : Insert w.0 ≡ Insert x = w.2 in cc) w.1
  | inr later ↦ elim (Contains-append_cases (map Rewrite p.rewritten) (map Erase p.erased) (Insert x) later) [
    | inl other ↦ absurd (let w = in_map Rewrite p.rewritten (Insert x) other in let e : Rewrite w.0 ≡ Insert x = w.2 in cc)
    | inr other ↦ absurd (let w = in_map Erase p.erased (Insert x) other in let e : Erase w.0 ≡ Insert x = w.2 in cc)
  ]
]

pub rewrite_in : (p : CommitPieces) (x : RankedPiece) → Contains (tasks_of p) (Rewrite x) → Contains p.rewritten x
rewrite_in p x member = elim (Contains-append_cases (map Insert p.inserted) (map Rewrite p.rewritten ++ map Erase p.erased) (Rewrite x) member) [
  | inl other ↦ absurd (let w = in_map Insert p.inserted (Rewrite x) other in let e : Insert w.0 ≡ Rewrite x = w.2 in cc)
  | inr later ↦ elim (Contains-append_cases (map Rewrite p.rewritten) (map Erase p.erased) (Rewrite x) later) [
    | inl here ↦ let w = in_map Rewrite p.rewritten (Rewrite x) here in subst (Contains p.rewritten) (let e : Rewrite w.0 ≡ Rewrite x = w.2 in cc) w.1
    | inr other ↦ absurd (let w = in_map Erase p.erased (Rewrite x) other in let e : Erase w.0 ≡ Rewrite x = w.2 in cc)
  ]
]

pub erase_in : (p : CommitPieces) (x : RankedPiece) → Contains (tasks_of p) (Erase x) → Contains p.erased x
erase_in p x member = elim (Contains-append_cases (map Insert p.inserted) (map Rewrite p.rewritten ++ map Erase p.erased) (Erase x) member) [
  | inl other ↦ absurd (let w = in_map Insert p.inserted (Erase x) other in let e : Insert w.0 ≡ Erase x = w.2 in cc)
  | inr later ↦ elim (Contains-append_cases (map Rewrite p.rewritten) (map Erase p.erased) (Erase x) later) [
    | inl other ↦ absurd (let w = in_map Rewrite p.rewritten (Erase x) other in let e : Rewrite w.0 ≡ Erase x = w.2 in cc)
    | inr here ↦ let w = in_map Erase p.erased (Erase x) here in subst (Contains p.erased) (let e : Erase w.0 ≡ Erase x = w.2 in cc) w.1
  ]
]

-- a task that is done, and one that is left, is another than the next one
pub done_other : (p : CommitPieces) (done rest : List Task) (next task : Task) → ArePieces p → tasks_of p ≡ done ++ next ∷ rest → Contains done task → AreOthers task next
done_other p done rest next task facts parts member =
    pairs_across AreOthers done (next ∷ rest) task next (subst (AllPairs AreOthers) parts facts.once) member (contains_head next rest)

pub left_other : (p : CommitPieces) (done rest : List Task) (next task : Task) → ArePieces p → tasks_of p ≡ done ++ next ∷ rest → Contains rest task → AreOthers next task
left_other p done rest next task facts parts member =
    All-contains (AreOthers next) rest task (pairs_head AreOthers next rest (pairs_behind AreOthers done (next ∷ rest) (subst (AllPairs AreOthers) parts facts.once))) member

-- each task of either part is one of all
pub done_in : (p : CommitPieces) (done left : List Task) (task : Task) → tasks_of p ≡ done ++ left → Contains done task → Contains (tasks_of p) task
done_in p done left task parts member = subst (λ tasks. Contains tasks task) (sym parts) (Contains-append_left done left task member)

pub left_in : (p : CommitPieces) (done left : List Task) (task : Task) → tasks_of p ≡ done ++ left → Contains left task → Contains (tasks_of p) task
left_in p done left task parts member = subst (λ tasks. Contains tasks task) (sym parts) (Contains-append_right done left task member)
