-- What `tcam explain` answers, by what the words of the explained command line ask for.
use Rattle.std.specs.Prelude.{◌≡◌, ◌⊎◌, ◌||◌, ℕ, Option, Some, None, List, ◌++◌, codes, drop, take, slice_get, if◌then◌else◌}
use Rattle.std.specs.Str.{bytes_eq}
use Rattle.script_runs.specs.declared.Status.{Status}
use Rattle.script_runs.specs.declared.Status.TheVariants as status
use Rattle.replay.specs.Effects.{Setting}
use Rattle.tcam_cli.specs.Headline.{Job, NoJob, Tells, Reads, Makes, Verifies}
use Rattle.explain.specs.declared.explainer.Wanted.{Wanted}
use Rattle.explain.specs.Explained.{IsRightOf}
use Rattle.explain_cli.specs.declared.top.Reader.{Reader}
use Rattle.explain_cli.specs.declared.top.Reader.TheVariants as reader
use Rattle.explain_cli.specs.declared.top.Words.{Words}
use Rattle.explain_cli.specs.declared.top.Words.TheVariants as read_as

-- the words of the explained command line: the program's name, and those behind the word that follows it, `explain`
abbrev pub explained_words : List (List ℕ) → List (List ℕ)
explained_words words = take 1 words ++ drop 2 words

-- who reads words that begin with this one, behind the program's name
abbrev pub reader_named : List ℕ → Reader
reader_named word =
    if bytes_eq word (codes "--help") || bytes_eq word (codes "-h") then reader.Help
    else if bytes_eq word (codes "router") || bytes_eq word (codes "router6") then reader.Router
    else if bytes_eq word (codes "draw") then reader.Draw
    else if bytes_eq word (codes "import") then reader.Import
    else if bytes_eq word (codes "judge") then reader.Judge
    else reader.Table

-- the same, if there is such a word
abbrev pub reader_of : Option (List ℕ) → Reader
reader_of None = reader.Table
reader_of (Some word) = reader_named word

-- the words are those of a command over one table, whose command line is that of `tcam_cli`
abbrev pub IsOfTable : List (List ℕ) → Type 0
IsOfTable words = reader_of (slice_get words 1) ≡ reader.Table

-- what a script is explained for whose run has this setting
abbrev pub wanted_of : Setting → Wanted
wanted_of setting = record { family = setting.family; slots = setting.slots; mode = setting.mode; json = setting.json; parts = setting.parts; large = setting.large }

-- this status, but where the sink failed or memory was wanting
abbrev pub EndsWith : Status → Status → Type 0
EndsWith last told = (told ≡ last) ⊎ ((told ≡ status.WriteFault) ⊎ (told ≡ status.Memory))

-- What is answered of words that ask for this, over a source that had these bytes to give and has those left: words that are
-- no command line are wrong, of a script what is found in it, and of other command lines nothing is.
abbrev pub IsAnswerOf : Job → List ℕ → List ℕ → Status → Type 0
IsAnswerOf NoJob bytes after told = EndsWith status.Script told
IsAnswerOf (Tells own) bytes after told = EndsWith status.Done told
IsAnswerOf (Reads setting) bytes after told = IsRightOf (wanted_of setting) bytes after told
IsAnswerOf (Makes setting seed rules batches) bytes after told = EndsWith status.Done told
IsAnswerOf Verifies bytes after told = EndsWith status.Done told

-- what the words of a command over one table are read as, by what they ask for
abbrev pub IsReadAs : Job → Words → Type 0
IsReadAs NoJob kind = kind ≡ read_as.Wrong
IsReadAs (Tells own) kind = kind ≡ read_as.Other
IsReadAs (Reads setting) kind = kind ≡ read_as.Script (wanted_of setting)
IsReadAs (Makes setting seed rules batches) kind = kind ≡ read_as.Other
IsReadAs Verifies kind = kind ≡ read_as.Other
