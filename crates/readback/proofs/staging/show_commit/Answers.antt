use Rattle.std.proofs.Common.{◌∙◌}
use Rattle.std.proofs.lemmas.Result.{err_from_is_err_and}
use Rattle.readback.proofs.StageFound.{old_by, inserted_by, rewritten_by, erased_by, new_word_found, shown_tell, shown_are, all_encodable, can_be_made, is_a_state}
use Rattle.readback.proofs.staging.show_commit.Goals as goal

pub commit_of-requires : goal.commit_of-requires
commit_of-requires g c =
    let read = c.in_ok-live.ensures.read in
    record {
      is_set = read.can.is_set;
      sound = read.can.sound;
      old = old_by _ _ _ _ _ _ _ read;
      inserted = inserted_by _ _ _ _ _ _ _ read;
      rewritten = rewritten_by _ _ _ _ _ _ _ read;
      erased = erased_by _ _ _ _ _ _ _ read;
    }

pub returns-in_err-check_new_words-clause-stage : goal.returns-in_err-check_new_words-clause-stage
returns-in_err-check_new_words-clause-stage g c =
    let p = err_from_is_err_and c.from_residual-in_err-check_new_words.result c.from_residual-in_err-check_new_words.ensures.1 in
    rw (p.1, p.2) (new_word_found _ _ _ _ _ _ _ c.in_ok-live.ensures.read c.in-Ok.commit c.deref.result.now c.in-Ok.ensures (c.deref.ensures.value ∙ c.in-Ok-read_slots.ensures.slots)
    c.args.slots c.in_err-check_new_words.field-0.0 c.in_err-check_new_words.ensures.wrong)

pub returns-clause-stage : goal.returns-clause-stage
returns-clause-stage g c =
    shown_tell _ _ _ _ _ _ _ c.in_ok-live.ensures.read c.in-Ok.commit c.in-Ok-read_slots.held.items c.in-Ok.ensures c.in-Ok-read_slots.ensures.slots c.args.slots c.show_in.result
    (rw c.deref.ensures.value at c.in_ok-check_new_words.ensures.right) (rw c.deref-2.ensures.value at c.show_in.ensures.found) (rw c.deref-2.ensures.value at c.show_in.ensures.fault)

pub returns-clause-shown : goal.returns-clause-shown
returns-clause-shown g c =
    shown_are _ _ _ _ _ _ _ c.in_ok-live.ensures.read c.in-Ok.commit c.in-Ok-read_slots.held.items c.in-Ok.ensures c.in-Ok-read_slots.ensures.slots c.show_in.result
    (rw c.deref-2.ensures.value at c.show_in.ensures.shown)

pub returns-clause-encodable : goal.returns-clause-encodable
returns-clause-encodable g c = all_encodable _ _ _ _ _ _ _ c.in_ok-live.ensures.read c.show_in.result

pub returns-clause-can : goal.returns-clause-can
returns-clause-can g c = can_be_made _ _ _ _ _ _ _ c.in_ok-live.ensures.read c.show_in.result

pub returns-clause-is_state : goal.returns-clause-is_state
returns-clause-is_state g c = is_a_state _ _ _ _ _ _ _ c.in_ok-live.ensures.read c.show_in.result
