use Rattle.std.proofs.Common.{◌≡◌, ◌∙◌, IsTrue, Result, Ok, Err, OnOk, ap, subst}
use Rattle.std.specs.List.{AllByRecursion}
use Rattle.tcam_device.specs.Insertion.{is_table_write}
use Rattle.tcam_device.specs.declared.Write.{Write}
use Rattle.commit_writes.specs.Undo.{restorings}
use Rattle.move_planner.proofs.Outcomes.{on_ok_both}
use Rattle.batch_order.specs.Kept.{tables_of}
use Rattle.batch_order.proofs.writes.plan_behind.Goals as goal

-- what holds in any case
at_ok : {A B : Type 0} (result : Result A B) (P : Type 0) → P → OnOk result P
at_ok (Ok value) P holds = holds
at_ok (Err fault) P holds = tt

pub note_words-requires : goal.note_words-requires
note_words-requires c = record {
  covers = λ cover. rw c.deref.ensures.value (c.plan_changes.ensures.others.words ∙ c.requires.covers cover);
  empty = c.plan_changes.ensures.others.undo_words ∙ c.requires.unnoted;
}

pub returns-clause-changed : goal.returns-clause-changed
returns-clause-changed c =
    let did = c.in_ok-plan_changes.ensures in
    at_ok c.note_words.result _ record {
      within = did.within;
      writes = did.writes;
      words = did.words;
      most = did.most;
      span = did.span;
      most_parts = did.most_parts;
      few = did.few;
      at_home = did.at_home;
      noted = did.noted;
      same_words = c.plan_changes.ensures.others.words;
      same_moves = c.plan_changes.ensures.others.moves;
    }

pub returns-clause-noted : goal.returns-clause-noted
returns-clause-noted c =
    let words : c.deref.result.now ≡ c.args.plan.now.writes.words.items = c.deref.ensures.value ∙ c.plan_changes.ensures.others.words in
    on_ok_both _ _ _ c.note_words.result (λ noted tables.
    (noted ∙ ap (restorings (tables_of c.args.translation.now)) words, subst (AllByRecursion (λ (write : Write). IsTrue (is_table_write write))) words tables))
    c.note_words.ensures.noted c.note_words.ensures.to_tables

pub returns-clause-moves : goal.returns-clause-moves
returns-clause-moves c = c.plan_changes.ensures.others.undo_moves

pub returns-in_err-plan_changes-clause-moves : goal.returns-in_err-plan_changes-clause-moves
returns-in_err-plan_changes-clause-moves c = c.plan_changes.ensures.others.undo_moves
