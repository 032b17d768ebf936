-- What a report tells of each act, in words or in JSON.
use Rattle.std.specs.Prelude.{ℕ, ◌+◌, ◌==◌, Bool, true, false, Option, Some, None, List, [], ◌∷◌, map}
use Rattle.rule_model.specs.RuleSet.{Answer}
use Rattle.rule_store.specs.declared.Command.{Command as Change}
use Rattle.rule_store.specs.Verdict.{Verdict}
use Rattle.commit_writes.specs.declared.Done.{Done}
use Rattle.trace_file.specs.declared.TraceLine.{TraceLine}
use Rattle.trace_file.specs.declared.TraceLine.TheVariants as line
use Rattle.json_text.specs.JsonText.{json_line}
use Rattle.replay.specs.Effects.{Setting, Effect, Prints}
use Rattle.replay.specs.JsonLines.{behind, change_line, head_line, shared_line}
use Rattle.report_lines.specs.Text.{fault_line, family_version}
use Rattle.replay.specs.Text.{accepted_line, early_line, end_line, packet_line, refused_line}

-- The head of a report in JSON is due with the first line: that is the first commit's, or the last one.
abbrev pub head_due : Setting → ℕ → Option TraceLine
head_due setting commits = elim (commits == 0) [ true ↦ Some (head_line setting.family setting.mode setting.slots) | false ↦ None ]

-- a packet's answer; in JSON nothing
abbrev pub packet_told : Setting → Answer → List Effect
packet_told setting found = elim setting.json [ true ↦ [] | false ↦ Prints (packet_line setting.family found) ∷ [] ]

-- what is told of an accepted commit before its first write: in JSON its number and its commands, and else nothing
abbrev pub opened : Setting → ℕ → List Change → List Effect
opened setting commits batch =
    elim setting.json [
      | true ↦
          Prints (behind (head_due setting commits) (shared_line [] (line.Commit (commits + 1))))
          ∷ map (λ change. Prints (json_line (family_version setting.family) [] (change_line change))) batch
      | false ↦ []
    ]

-- the line in words of a commit that finished: its numbers, where it was one of removals that go first, or any other
abbrev pub numbers_line : Bool → ℕ → Done → List ℕ
numbers_line true commit counts = early_line commit counts
numbers_line false commit counts = accepted_line commit counts

-- the last line of a commit that finished: its numbers, or in JSON that it is done
abbrev pub done_line : Bool → Bool → ℕ → Done → List ℕ
done_line json early commit counts = elim json [ true ↦ shared_line [] (line.Done commit) | false ↦ numbers_line early commit counts ]

-- the line of a refused commit: the reason, and in JSON its number alone
abbrev pub refusal_line : Setting → ℕ → Verdict → List ℕ
refusal_line setting commits reason =
    elim setting.json [
      | true ↦ behind (head_due setting commits) (shared_line [] (line.Refused (commits + 1)))
      | false ↦ refused_line setting.family (commits + 1) reason
    ]

-- the last line of a run that came to the end of its acts, after so many commits: rules, entries, device writes and
-- pending commands, and in JSON the writes alone
abbrev pub end_told : Setting → ℕ → ℕ → ℕ → ℕ → ℕ → List ℕ
end_told setting commits rules entries writes pending =
    elim setting.json [
      | true ↦ behind (head_due setting commits) (shared_line [] (line.End writes))
      | false ↦ end_line rules entries writes pending
    ]

-- the last line of a run that came to the fault of a line
abbrev pub fault_told : Setting → ℕ → ℕ → List ℕ → List ℕ
fault_told setting commits number text =
    elim setting.json [
      | true ↦ behind (head_due setting commits) (shared_line text (line.Fault number))
      | false ↦ fault_line number text
    ]
