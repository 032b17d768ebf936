use Rattle.std.proofs.Common.{◌≡◌, true, false, None, Some, le_refl, sym, ◌∙◌, refl, subst}
use Rattle.std.specs.Prelude.{IsSome}
use Rattle.tcam_c.specs.Split.{part_due, parts_left}
use Rattle.tcam_c.proofs.Parts.{keeps_same, none_held, settled_end, settled_same, some_left}
use Rattle.tcam_c.proofs.part_steps.settle.Goals as goal

pub returns-in-None : goal.returns-in-None
returns-in-None c =
    let old = c.args.manager.now in
    let new = c.advance.new.manager in
    let none : part_due old ≡ None = sym (c.next_action.ensures old.whole.slots (le_refl _)) ∙ c.in-None.is in
    let ended = settled_end old new none c.advance.ensures.passed in
    record {
      settled = ended.0;
      keeps = ended.1;
      driven =
          record {
            unsettled = c.advance.ensures.driven;
            due = λ some. absurd (let no : false ≡ true = subst IsSome (none_held old new none c.advance.ensures.passed) some in cc);
          };
      serves = c.advance.ensures.serves;
    }

pub returns-in-Some : goal.returns-in-Some
returns-in-Some c =
    let old = c.args.manager.now in
    let due = sym (c.next_action.ensures old.whole.slots (le_refl _)) ∙ c.in-Some.is in
    let some : ¬ (part_due old ≡ None) = λ is. let clash : None ≡ Some _ = sym is ∙ due in cc in
    record {
      settled = settled_same old some;
      keeps = keeps_same old old refl;
      driven = record { unsettled = c.requires; due = λ held. some_left (parts_left old) some };
      serves = c.serving.ensures.serves old.whole.slots (le_refl _);
    }
