-- The lines of a report.
use Rattle.std.specs.Prelude.{ℕ, List, [], ◌∷◌, codes, decimal}
use Rattle.rule_model.specs.RuleSet.{Answer}
use Rattle.rule_store.specs.Verdict.{Verdict}
use Rattle.tcam_device.specs.declared.Write.{Write}
use Rattle.batch_order.specs.declared.Done.{Done}
use Rattle.report_lines.specs.Text.{line_text, answer_words, write_words, reason_words}
use Rattle.report_lines.specs.declared.Family.{Family}
use Rattle.report_lines.specs.declared.deed.Deed.{Deed}
use Rattle.report_lines.specs.Named.{deed_words}
pub use Rattle.report_lines.specs.Text.{fault_line, usage_line}

-- what the set answers a packet
abbrev pub packet_line : Family → Answer → List ℕ
packet_line family found = line_text (codes "packet" ∷ answer_words family found)

-- a probe's answer after a write of the commit
abbrev pub probe_line : Family → ℕ → ℕ → Answer → List ℕ
probe_line family write probe found =
    line_text (codes "w" ∷ decimal write ∷ codes "p" ∷ decimal probe ∷ answer_words family found)

-- one write of a commit, by its number
abbrev pub write_line : Family → ℕ → Write → List ℕ
write_line family write made = line_text (codes "w" ∷ decimal write ∷ write_words family made)

-- the same by names: what it does
abbrev pub named_line : Family → ℕ → Deed → List ℕ
named_line family write deed = line_text (codes "w" ∷ decimal write ∷ deed_words family deed)

-- a drain, after so many writes of the commit
abbrev pub drain_line : ℕ → List ℕ
drain_line write = line_text (codes "w" ∷ decimal write ∷ codes "drain" ∷ [])

-- an accepted commit, by its number and its counts
abbrev pub accepted_line : ℕ → Done → List ℕ
accepted_line commit counts =
    line_text
    (codes "commit" ∷ decimal commit ∷ codes "ok" ∷ codes "writes" ∷ decimal counts.writes ∷ codes "words"
    ∷ decimal counts.words ∷ codes "most" ∷ decimal counts.most ∷ codes "span" ∷ decimal counts.span ∷ [])

-- the same of removals that went before the rest
abbrev pub early_line : ℕ → Done → List ℕ
early_line commit counts =
    line_text (codes "commit" ∷ decimal commit ∷ codes "early" ∷ codes "writes" ∷ decimal counts.writes ∷ [])

-- a commit that was taken back, by its number and its writes both ways
abbrev pub aborted_line : ℕ → ℕ → List ℕ
aborted_line commit writes =
    line_text (codes "commit" ∷ decimal commit ∷ codes "aborted" ∷ codes "writes" ∷ decimal writes ∷ [])

-- a commit that another manager went on with, by its number, the writes before the crash, and all of its writes
abbrev pub restarted_line : ℕ → ℕ → ℕ → List ℕ
restarted_line commit after writes =
    line_text
    (codes "commit" ∷ decimal commit ∷ codes "restarted" ∷ codes "after" ∷ decimal after ∷ codes "writes" ∷ decimal writes ∷ [])

-- a refused commit, by its number and the reason
abbrev pub refused_line : Family → ℕ → Verdict → List ℕ
refused_line family commit reason =
    line_text (codes "commit" ∷ decimal commit ∷ codes "refused" ∷ reason_words family reason)

-- rules of the set, their entries, the device writes of the run, and the commands that are pending
abbrev pub end_line : ℕ → ℕ → ℕ → ℕ → List ℕ
end_line rules entries writes pending =
    line_text
    (codes "end" ∷ codes "rules" ∷ decimal rules ∷ codes "entries" ∷ decimal entries ∷ codes "writes" ∷ decimal writes
    ∷ codes "pending" ∷ decimal pending ∷ [])

-- what is told of a trace that is orderly: its accepted commits and its device writes
abbrev pub yes_line : ℕ → ℕ → List ℕ
yes_line commits writes = line_text (codes "yes" ∷ codes "commits" ∷ decimal commits ∷ codes "writes" ∷ decimal writes ∷ [])

-- and of one that isn't, by its first line that breaks the order
abbrev pub no_line : ℕ → List ℕ
no_line line = line_text (codes "no" ∷ codes "line" ∷ decimal line ∷ [])
