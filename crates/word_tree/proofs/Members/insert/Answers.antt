use Rattle.std.proofs.Common.{◌≡◌, ◌+◌, true, false, length, arith, sym, ◌∙◌, subst, ap}
use Rattle.std.specs.Prelude.{slice_set, slice_index_or}
use Rattle.std.specs.List.{count_by}
use Rattle.std.proofs.lemmas.List.{with_items_is}
use Rattle.word_tree.specs.Marks.{marks_of}
use Rattle.word_tree.specs.Tree.{bit_of, IsRow}
use Rattle.word_tree.proofs.Rows.{many_marks, marked, few_counted, one_more, place_of, kept}
use Rattle.word_tree.proofs.Members.insert.Goals as goal

pub overflow_add-self-inside : goal.overflow_add-self-inside
overflow_add-self-inside c = let few = (place_of c.self.invariant.0 c.self.view_is c.requires).few in omega arith

pub set-requires-clause-leaf : goal.set-requires-clause-leaf
set-requires-clause-leaf c = (place_of c.self.invariant.0 c.self.view_is c.requires).leaf

pub set-requires-clause-room : goal.set-requires-clause-room
set-requires-clause-room c =
    let room = (place_of c.self.invariant.0 c.self.view_is c.requires).room in
    let lent = ap length c.deref_mut.ensures.value in
    omega arith

pub overflow_add-self : goal.overflow_add-self
overflow_add-self c =
    let many = many_marks c.self.inside.words.items c.self.inside.base c.self.inside.places in
    let counted = few_counted (marks_of c.self.inside.words.items c.self.inside.base c.self.inside.places) in
    let few = c.self.invariant.0.few in
    let count = c.self.invariant.1 in
    omega arith

pub invariant_of-self : goal.invariant_of-self
invariant_of-self c =
    let words = c.self.inside.words.items in
    let base = c.self.inside.base in
    let places = c.self.inside.places in
    let after = c.set.new.words in
    let begins = c.self.invariant.0.low in
    let lent = ap length c.deref_mut.ensures.value in
    let long = c.set.ensures.len in
    let all = with_items_is c.self.inside.words after (omega (arith, c.self.inside.words.ok.0)) in
    let row : marks_of after base places ≡ slice_set (marks_of words base places) c.args.at true =
    marked words after base places c.args.at (place_of c.self.invariant.0 c.self.view_is c.requires).inside c.set.ensures.bit
    (λ k low other. c.set.ensures.others k (omega arith) other ∙ ap (λ lent. bit_of lent k) c.deref_mut.ensures.value) in
    let held : slice_index_or (marks_of words base places) c.args.at false ≡ false = ap (λ marks. slice_index_or marks c.args.at false) c.self.view_is ∙ (sym c.contains.ensures ∙ c.if-not-contains.true) in
    let same = ap length c.self.view_is in
    let change = one_more (marks_of words base places) c.args.at (omega arith) held in
    let counted = c.self.invariant.1 in
    let now : c.self.inside.count + 1 ≡ count_by (λ mark. mark) (slice_set (marks_of words base places) c.args.at true) = omega arith in (
      subst (λ items. IsRow items c.self.inside.depth base places) (sym all) (kept c.self.invariant.0 (omega arith) c.set.ensures.tree),
      now ∙ (ap (λ marks. count_by (λ mark. mark) marks) (sym row) ∙ ap (λ items. count_by (λ mark. mark) (marks_of items base places)) (sym all)),
    )

pub returns-then-not-contains : goal.returns-then-not-contains
returns-then-not-contains c =
    let words = c.self.inside.words.items in
    let base = c.self.inside.base in
    let places = c.self.inside.places in
    let after = c.set.new.words in
    let begins = c.self.invariant.0.low in
    let lent = ap length c.deref_mut.ensures.value in
    let long = c.set.ensures.len in
    ap (λ items. marks_of items base places) (with_items_is c.self.inside.words after (omega (arith, c.self.inside.words.ok.0)))
    ∙ (marked words after base places c.args.at (place_of c.self.invariant.0 c.self.view_is c.requires).inside c.set.ensures.bit
    (λ k low other. c.set.ensures.others k (omega arith) other ∙ ap (λ lent. bit_of lent k) c.deref_mut.ensures.value)
    ∙ ap (λ marks. slice_set marks c.args.at true) c.self.view_is)
