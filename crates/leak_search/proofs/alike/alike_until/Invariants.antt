use Rattle.std.proofs.Common.{◌≡◌, ℕ, ◌<◌, Some}
use Rattle.std.specs.Prelude.{slice_get}
use Rattle.rule_model.specs.declared.words.Entry.{Entry}
use Rattle.leak_search.specs.Found.{AreAlike}
use Rattle.leak_search.proofs.alike.alike_until.Given as goal

-- the first entries are alike
abbrev pub invariant-loop-i : goal.invariant-loop-i
invariant-loop-i l = (i : ℕ) (one other : Entry) → i < l.i → slice_get l.a i ≡ Some one → slice_get l.b i ≡ Some other → AreAlike l.by one other
