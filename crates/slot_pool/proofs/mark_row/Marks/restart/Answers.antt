use Rattle.std.proofs.Common.{◌≡◌, ◌∙◌, ℕ, zero, suc, ◌-◌, List, [], ◌++◌, replicate, take, refl, ap, ap₂}
use Rattle.word_tree.specs.Marks.{marks_of}
use Rattle.word_tree.proofs.Rows.{none_marked}
use Rattle.slot_pool.proofs.mark_row.Marks.restart.Goals as goal

nothing : (n : ℕ) → ◌≡◌ {A = List ℕ} (take n []) []
nothing zero = refl
nothing (suc n) = refl

-- the words are made anew behind none
pub returns-clause-unmarked : goal.returns-clause-unmarked
returns-clause-unmarked c =
    let n = c.div_ceil.result in
    let zeros : c.resize.new.self.items ≡ replicate (n - 0) 0 =
    c.in_ok-resize.ensures.items ∙ ap₂ (λ front len. take n front ++ replicate (n - len) 0) c.clear.ensures.items c.clear.ensures.len
    ∙ ap (λ front. front ++ replicate (n - 0) 0) (nothing n) in
    ap (λ words. marks_of words 0 c.args.places) zeros ∙ none_marked (n - 0) 0 c.args.places
