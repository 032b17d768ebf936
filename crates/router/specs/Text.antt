-- The lines of a router's report.
use Rattle.std.specs.Prelude.{ℕ, ◌+◌, Some, None, List, [], ◌∷◌, ◌++◌, codes, decimal}
use Rattle.rule_model.specs.RuleSet.{Answer}
use Rattle.rule_model.specs.declared.IpVersion.{IpVersion}
use Rattle.rule_model.specs.declared.IpVersion.TheVariants.{V4, V6}
use Rattle.rule_store.specs.Verdict.{Verdict}
use Rattle.split_device.specs.declared.SplitWrite.{SplitWrite}
use Rattle.split_device.specs.declared.SplitWrite.TheVariants.{Slot, Result, Table}
use Rattle.split_device.specs.declared.SplitAction.{SplitAction}
use Rattle.split_device.specs.declared.SplitAction.TheVariants.{Written, Drained}
use Rattle.report_lines.specs.declared.Family.{Family}
use Rattle.report_lines.specs.declared.Family.TheVariants.{Route, Acl, Route6, Acl6}
use Rattle.report_lines.specs.Text.{line_text, answer_words, family_version, field_text, reason_words, tag_text, word_text}
use Rattle.router.specs.declared.Side.{Side}
use Rattle.router.specs.declared.Side.TheVariants as side

-- how the rules of a table are named, of a router of this version of IP
abbrev pub family_of : IpVersion → Side → Family
family_of V4 side.List = Acl
family_of V4 side.Routes = Route
family_of V6 side.List = Acl6
family_of V6 side.Routes = Route6

-- the name of a table, of which a refusal speaks
abbrev pub side_word : Side → List ℕ
side_word side.List = codes "list"
side_word side.Routes = codes "route"

-- what both tables answer a packet
abbrev pub packet_line : IpVersion → Answer → Answer → List ℕ
packet_line version listed routed =
    line_text
    (codes "packet" ∷ codes "list" ∷ answer_words (family_of version side.List) listed ++ codes "route"
    ∷ answer_words (family_of version side.Routes) routed)

-- a commit that was made, by its number, the writes of each table and the drains of both
abbrev pub accepted_line : ℕ → ℕ → ℕ → ℕ → List ℕ
accepted_line commit listed routed drains =
    line_text
    (codes "commit" ∷ decimal commit ∷ codes "ok" ∷ codes "list" ∷ codes "writes" ∷ decimal listed ∷ codes "route"
    ∷ codes "writes" ∷ decimal routed ∷ codes "drains" ∷ decimal drains ∷ [])

-- a refused commit, by its number, the table whose batch is refused, and the reason
abbrev pub refused_line : IpVersion → Side → ℕ → Verdict → List ℕ
refused_line version which commit reason =
    line_text
    (codes "commit" ∷ decimal commit ∷ codes "refused" ∷ side_word which ∷ reason_words (family_of version which) reason)

-- the rules of each table, the device writes of all commits, and the commands that are pending
abbrev pub end_line : ℕ → ℕ → ℕ → ℕ → List ℕ
end_line listed routed writes pending =
    line_text
    (codes "end" ∷ codes "list" ∷ decimal listed ∷ codes "route" ∷ decimal routed ∷ codes "writes" ∷ decimal writes
    ∷ codes "pending" ∷ decimal pending ∷ [])

-- A part of a write, as words: a value and a mask that are put into a slot, a slot that is emptied, a result word, or a
-- table's word.
abbrev pub part_words : Family → SplitWrite → List (List ℕ)
part_words family (Slot slot (Some (value, mask))) =
    codes "slot" ∷ decimal slot ∷ codes "set" ∷ word_text (family_version family) value ∷ word_text (family_version family) mask ∷ []
part_words family (Slot slot None) = codes "slot" ∷ decimal slot ∷ codes "erase" ∷ []
part_words family (Result slot tag answer) = codes "result" ∷ decimal slot ∷ tag_text family tag ∷ decimal answer ∷ []
part_words family (Table field port word) = codes "table" ∷ field_text field ∷ decimal port ∷ decimal word ∷ []

-- the words of a part or a drain
abbrev pub action_words : Family → SplitAction → List (List ℕ)
action_words family (Written part) = part_words family part
action_words family Drained = codes "drain" ∷ []

-- how many parts of a table were made, behind so many, once this was made
abbrev pub parts_behind : ℕ → SplitAction → ℕ
parts_behind parts (Written part) = parts + 1
parts_behind parts Drained = parts

-- The line of a trace: of a part by its number among the parts of its table in the commit, from 1, and of a drain by how
-- many parts come before it.
abbrev pub action_line : IpVersion → Side → ℕ → SplitAction → List ℕ
action_line version which number action =
    line_text (codes "w" ∷ decimal number ∷ side_word which ∷ action_words (family_of version which) action)
