-- Which cubes of words settle that a line is hitless: those of the entries that go or come, of a port, of changed rules.
use Rattle.std.specs.Prelude.{◌≡◌, ◌⊎◌, ℕ, IsTrue, Option, Some, None, List, Contains}
use Rattle.slot_order.specs.Order.{slot, Distinct}
use Rattle.rule_model.specs.declared.Field.{Field}
use Rattle.rule_model.specs.declared.Key.{Key}
use Rattle.rule_model.specs.declared.Rule.{Rule}
use Rattle.rule_model.specs.declared.words.Word.{Word}
use Rattle.rule_model.specs.declared.words.Entry.{Entry}
use Rattle.rule_model.specs.Key.{IsKey}
use Rattle.rule_model.specs.Rule.{rule_matches}
use Rattle.rule_model.specs.Entry.{hits}
use Rattle.tcam_device.specs.declared.Write.TheVariants.{Table}
use Rattle.tcam_device.specs.State.{State, apply, search_word}
use Rattle.any_order.specs.Touched.{key_port}
use Rattle.word_cubes.specs.declared.Cube.{Cube}
use Rattle.word_cubes.specs.Cube.{cube_holds}
use Rattle.driver_trace.specs.declared.Compared.{Compared}
use Rattle.driver_trace.specs.declared.Asked.TheVariants.{OldOrNew, New}
use Rattle.driver_trace.specs.Compared.{ShowsBy, ShowsOldOrNewBy}
use Rattle.write_judge.specs.Judging.{IsRightIn}

-- some of these cubes holds each word that a slot's entry hits
abbrev pub IsInCubes : List Cube → Option Entry → Type 0
IsInCubes cubes None = Unit {0}
IsInCubes cubes (Some entry) = (word : Word) → IsTrue (hits entry word) → (cube : Cube) × Contains cubes cube × IsTrue (cube_holds cube word)

-- where slots differ what goes and what comes is covered
abbrev pub CoversChanges : List Cube → List (Option Entry) → List (Option Entry) → Type 0
CoversChanges cubes before after =
    (at : ℕ) → (slot after at ≡ slot before at) ⊎ (IsInCubes cubes (slot before at) × IsInCubes cubes (slot after at))

-- each of some cubes is right, by what is asked
abbrev pub AreRightIn : Compared → State → List Rule → List Rule → List Cube → Type 0
AreRightIn by state old new cubes =
    (cube : Cube) → Contains cubes cube → IsRightIn by OldOrNew (record { state = state; old = old; new = new }) cube

-- Where every key had the old or the new answer, and slots are changed in whatever way, by a write or by a block move: every
-- key has it still, where those in the cubes of the entries that go or come do.
abbrev pub SlotsAreJudgedByCubes : Type 0
SlotsAreJudgedByCubes =
    (by : Compared) (state : State) (slots : List (Option Entry)) (old new : List Rule) (cubes : List Cube) → ShowsOldOrNewBy by state old new
    → CoversChanges cubes state.slots slots → AreRightIn by (record state { slots = slots }) old new cubes
    → ShowsOldOrNewBy by (record state { slots = slots }) old new

-- And so behind a write of a table's word, where those in a cube that holds all words of its port do.
abbrev pub TablesAreJudgedByCubes : Type 0
TablesAreJudgedByCubes =
    (by : Compared) (state : State) (field : Field) (port word : ℕ) (old new : List Rule) (cube : Cube) → ShowsOldOrNewBy by state old new
    → ((key : Key) → IsKey key → key_port field key ≡ port → IsTrue (cube_holds cube (search_word (apply state (Table field port word)) key)))
    → IsRightIn by OldOrNew (record { state = apply state (Table field port word); old = old; new = new }) cube
    → ShowsOldOrNewBy by (apply state (Table field port word)) old new

-- At the end of a commit every key has the new answer, where those do that some cube of a changed rule holds.
abbrev pub EndsAreJudgedByCubes : Type 0
EndsAreJudgedByCubes =
    (by : Compared) (state : State) (old new changed : List Rule) (cubes : List Cube) → Distinct (λ (rule : Rule). rule.priority) old
    → Distinct (λ (rule : Rule). rule.priority) new
    → ((rule : Rule) → Contains old rule → Contains new rule ⊎ Contains changed rule)
    → ((rule : Rule) → Contains new rule → Contains old rule ⊎ Contains changed rule)
    → ((key : Key) (rule : Rule) → IsKey key → Contains changed rule → IsTrue (rule_matches rule key)
    → (cube : Cube) × Contains cubes cube × IsTrue (cube_holds cube (search_word state key)))
    → ShowsOldOrNewBy by state old new
    → ((cube : Cube) → Contains cubes cube → IsRightIn by New (record { state = state; old = old; new = new }) cube)
    → ShowsBy by state new
