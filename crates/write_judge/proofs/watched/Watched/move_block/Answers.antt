use Rattle.std.proofs.Common.{List, Option, ap}
use Rattle.std.proofs.lemmas.Result.{on_err_weaker, on_ok_weaker}
use Rattle.rule_model.specs.declared.words.Entry.{Entry}
use Rattle.tcam_device.specs.State.{State}
use Rattle.write_judge.proofs.watched.Watched.move_block.Goals as goal

pub move_slots-requires-clause-from : goal.move_slots-requires-clause-from
move_slots-requires-clause-from c = rw (← c.self.view_is) at c.requires.from

pub move_slots-requires-clause-to : goal.move_slots-requires-clause-to
move_slots-requires-clause-to c = rw (← c.self.view_is) at c.requires.to

pub returns-clause-moved : goal.returns-clause-moved
returns-clause-moved c =
    rw (← c.self.view_is) (on_ok_weaker c.move_slots.result
    (λ moved. ap (λ (slots : List (Option Entry)). let made : State = record { slots = slots; src = c.self.inside.tables.src; dst = c.self.inside.tables.dst } in made) moved) c.move_slots.ensures.moved)

pub returns-clause-same : goal.returns-clause-same
returns-clause-same c =
    rw (← c.self.view_is) (on_err_weaker c.move_slots.result
    (λ same. ap (λ (slots : List (Option Entry)). let made : State = record { slots = slots; src = c.self.inside.tables.src; dst = c.self.inside.tables.dst } in made) same) c.move_slots.ensures.same)
