use Rattle.std.proofs.Common.{rules, ◌≡◌, ◌+◌, ◌*◌, ◌^◌, ◌≤◌, ◌++◌, Some, None, Option, List, [], length, map, refl, sym, ap, arith, ◌∙◌}
use Rattle.rule_store.specs.declared.Command.{Command}
use Rattle.rule_store.specs.declared.Mode.TheVariants.{Cover, Bits}
use Rattle.commit_writes.specs.Bits.{new_bits}
use Rattle.commit_writes.specs.Shape.{bit_writes}
use Rattle.commit_writes.proofs.NoBits.{bit_writes-none}
use Rattle.placement.specs.declared.Move.{Move}
use Rattle.tcam_device.specs.declared.Write.{Write}
use Rattle.batch_order.specs.declared.planned_writes.PlannedWrite.{PlannedWrite}
use Rattle.batch_order.specs.declared.planned_writes.PlannedWrite.TheVariants.{Tabled, Moved}
use Rattle.batch_order.proofs.Listed.{count_words, none_of, only_words}
use Rattle.batch_order.specs.declared.translation.Translation.{Translation}
use Rattle.batch_order.specs.Kept.{bits_of, mode_of, needed_by, tables_of}
use Rattle.batch_order.proofs.translation.plan_words.Goals as goal

-- by covers no word is written
no_words : (translation : Option Translation) (batch : List Command) → ((kept : Translation) → translation ≡ Some kept → ⊥)
    → bit_writes (tables_of translation) (new_bits (bits_of translation) (needed_by translation batch)) ≡ []
no_words None batch none = bit_writes-none (tables_of None)
no_words (Some kept) batch none = absurd (none kept refl)

pub returns-in_default-clause-writes : goal.returns-in_default-clause-writes
returns-in_default-clause-writes c =
    c.requires.empty ∙ sym (ap (map Tabled) (no_words c.args.translation.now c.args.batch.now (λ kept is. c.in_default.not-Some kept is)))

-- how many words there are
few_words : (words words' : List Write) (moves : List Move) (changes : List PlannedWrite) → map Tabled words ++ (map Moved moves ++ changes) ≡ [] → length words' ≤ length words + 2 * 2 ^ 16
    → length words' ≤ 2 * 2 ^ 16
few_words words words' moves changes empty most =
    let none : length words ≡ 0 = ap length (none_of words moves changes empty).words_are in
    omega arith

pub overflow_cast-plan : goal.overflow_cast-plan
overflow_cast-plan c =
    let old = c.args.plan.now.writes in
    let few = few_words old.words.items c.plan_words.new.words.items old.moves old.changes.items c.requires.empty c.in_ok-plan_words.ensures.most in
    omega arith

pub returns-clause-writes : goal.returns-clause-writes
returns-clause-writes c =
    let old = c.args.plan.now.writes in
    let more = bit_writes (tables_of c.args.translation.now) (new_bits (bits_of c.args.translation.now) (needed_by c.args.translation.now c.args.batch.now)) in
    let grown : c.plan_words.new.words.items ≡ old.words.items ++ more = search rules in
    only_words old.words.items c.plan_words.new.words.items more old.moves old.changes.items c.requires.empty grown

pub returns-clause-words : goal.returns-clause-words
returns-clause-words c =
    let old = c.args.plan.now.writes in
    let count = count_words old.words.items c.plan_words.new.words.items old.moves old.changes.items c.requires.empty in
    omega arith

pub returns-clause-few : goal.returns-clause-few
returns-clause-few c =
    let old = c.args.plan.now.writes in
    let few = few_words old.words.items c.plan_words.new.words.items old.moves old.changes.items c.requires.empty c.in_ok-plan_words.ensures.most in
    let count = count_words old.words.items c.plan_words.new.words.items old.moves old.changes.items c.requires.empty in
    omega arith

pub returns-in_default-clause-begins : goal.returns-in_default-clause-begins
returns-in_default-clause-begins c =
    let old = c.args.plan.now.writes in
    let none = none_of old.words.items old.moves old.changes.items c.requires.empty in
    record { covers = λ cover. none.words_are; no_moves = none.moves_are; unnoted = c.requires.unnoted }

pub returns-clause-begins : goal.returns-clause-begins
returns-clause-begins c =
    let old = c.args.plan.now.writes in
    let none = none_of old.words.items old.moves old.changes.items c.requires.empty in
    record {
      covers = λ cover. absurd (let bits : Cover ≡ Bits = sym cover ∙ ap mode_of c.in-Some.is in cc);
      no_moves = none.moves_are;
      unnoted = c.requires.unnoted;
    }
