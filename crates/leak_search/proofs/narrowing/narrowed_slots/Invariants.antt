use Rattle.std.proofs.Common.{◌≡◌, drop}
use Rattle.std.specs.Prelude.{IsTrue}
use Rattle.slot_order.specs.Order.{first_hit}
use Rattle.rule_model.specs.declared.words.Word.{Word}
use Rattle.rule_model.specs.Entry.{hits}
use Rattle.word_cubes.specs.Cube.{IsWord, cube_holds}
use Rattle.leak_search.proofs.Finding.{by_slots}
use Rattle.leak_search.proofs.narrowing.narrowed_slots.Given as goal

-- those that are in, and the rest of the slots, answer as all do
abbrev pub invariant-loop-slot : goal.invariant-loop-slot
invariant-loop-slot l =
    (word : Word) → IsWord word → IsTrue (cube_holds l.cube word) → first_hit hits l.slots word ≡ by_slots word l.some.items (drop l.slot-index l.slots)
