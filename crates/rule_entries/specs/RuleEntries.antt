-- The entries of a set of rules by prefix covers, in the order of which the first that hits a key's word answers as the set.
use Rattle.std.specs.Prelude.{◌≡◌, ℕ, ◌<◌, ◌^◌, List, map}
use Rattle.std.specs.List.{AllByRecursion}
use Rattle.rule_model.specs.declared.Key.{Key}
use Rattle.rule_model.specs.declared.Rule.{Rule}
use Rattle.rule_model.specs.Key.{IsKey}
use Rattle.rule_model.specs.Rule.{HasConditions}
use Rattle.rule_model.specs.RuleSet.{IsRuleSet, answer}
use Rattle.rule_model.specs.Word.{word_of}
use Rattle.rule_model.specs.declared.words.Entry.{Entry}
use Rattle.rule_model.specs.Entry.{entry_for}
use Rattle.rule_store.specs.declared.Mode.TheVariants.{Cover}
use Rattle.commit_writes.specs.Bits.{no_bits}
use Rattle.commit_writes.specs.Shape.{set_pieces}
use Rattle.leak_search.specs.Found.{found_in}

-- the entries of a set's pieces, by falling priority
abbrev pub rule_entries : List Rule → List Entry
rule_entries rules = map entry_for (set_pieces Cover no_bits rules)

-- The first of them that hits a key's word answers as the set, whatever words the tables have.
abbrev pub RuleEntriesAnswer : Type 0
RuleEntriesAnswer =
    (rules : List Rule) (key : Key) (src dst : ℕ) → IsRuleSet rules → AllByRecursion HasConditions rules → IsKey key → src < 2 ^ 16 → dst < 2 ^ 16
    → found_in (rule_entries rules) (word_of key src dst) ≡ answer rules key
