-- A list that comes again, by its own script.
use Rattle.std.specs.Prelude.{◌≡◌, ℕ, ◌≤◌, Bool, Ok, List, [], ◌∷◌, ◌++◌, codes, length}
use Rattle.rule_model.specs.declared.IpVersion.{IpVersion}
use Rattle.rule_model.specs.Rule.{AreConditions}
use Rattle.written_chains.specs.declared.meets.Tests.{Tests}
use Rattle.written_chains.specs.declared.writing.Line.{Line}
use Rattle.kept_numbers.specs.declared.words.OlderLine.{OlderLine}
use Rattle.kept_numbers.specs.Laws.{HaveNumbers}
use Rattle.kept_numbers.specs.Numbered.{numbers_for}
use Rattle.kept_numbers.specs.Older.{older_lines}
use Rattle.kept_numbers.specs.Written.{AreComments, comments_text, numbered_text}
use Rattle.iptables.specs.Telling.{list_text, list_words}

-- the blocks, the protocol and the ranges are right
abbrev pub AreRight : Tests → Type 0
AreRight tests = AreConditions tests.src tests.dst tests.proto tests.sport tests.dport

abbrev pub AllRight : List Line → Type 0
AllRight [] = Unit {0}
AllRight (line ∷ lines) = AreRight line.tests × AllRight lines

-- the script of a list, with comments before it and behind it
abbrev pub whole_script : List (List ℕ) → List ℕ → List (List ℕ) → List ℕ
whole_script before list behind = comments_text before ++ (list ++ (comments_text behind ++ codes "commit\n"))

-- The script of a list is one of an older list, by which the same list is the same commands again, without the comment that they are new.
abbrev pub ListsComeAgain : Type 0
ListsComeAgain = (version : IpVersion) (policy : Bool) (last : Tests) (older : List OlderLine) (lines : List Line) (before behind : List (List ℕ))
    → HaveNumbers older → length lines ≤ 4095 → AreRight last → AllRight lines → AreComments before → AreComments behind
    → (again : List OlderLine) × (older_lines (whole_script before (list_text version policy last older lines) behind) ≡ Ok again)
    × (list_text version policy last again lines ≡ numbered_text (numbers_for older (list_words version policy last lines)).1 (list_words version policy last lines))
