-- Groups as they are printed, one behind the other.
use Rattle.std.proofs.Common.{◌≡◌, ℕ, ◌+◌, ◌≤◌, List, [], ◌∷◌, ◌++◌, take, drop, sym, ap, append_assoc, append-nil, le-ltb}
use Rattle.line_words.specs.declared.printed.ZeroRun.{ZeroRun}
use Rattle.line_words.specs.Shown.{group_text, joined_text, shortened_text}

-- groups, each behind a colon
abbrev pub behind_colons : List ℕ → List ℕ
behind_colons [] = []
behind_colons (group ∷ groups) = 58 ∷ group_text group ++ behind_colons groups

-- the first group, and the others behind colons
pub joined_text-cons : (group : ℕ) (groups : List ℕ) → joined_text (group ∷ groups) ≡ group_text group ++ behind_colons groups
joined_text-cons group [] = sym (append-nil (group_text group))
joined_text-cons group (next ∷ groups) = ap (λ text. group_text group ++ 58 ∷ text) (joined_text-cons next groups)

-- the groups before a run and behind it, and two colons between them
pub shortened-made : (groups : List ℕ) (run : ZeroRun) → 2 ≤ run.len
    → (([] ++ joined_text (take run.before groups)) ++ 58 ∷ 58 ∷ []) ++ joined_text (drop (run.before + run.len) groups) ≡ shortened_text groups run
shortened-made groups run long =
    rw (le-ltb run.len 2 long) (append_assoc (joined_text (take run.before groups)) (58 ∷ 58 ∷ []) (joined_text (drop (run.before + run.len) groups)))
