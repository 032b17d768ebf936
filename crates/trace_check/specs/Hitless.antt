-- What an orderly trace says: every write of it is hitless, commit by commit.
use Rattle.std.specs.Prelude.{◌≡◌, ℕ, Bool, Some, None, List, [], ◌∷◌, flat_map}
use Rattle.std.specs.List.{AllByRecursion}
use Rattle.rule_model.specs.declared.IpVersion.{IpVersion}
use Rattle.rule_model.specs.declared.Rule.{Rule}
use Rattle.rule_store.specs.declared.Command.{Command}
use Rattle.rule_store.specs.Batch.{set_after}
use Rattle.tcam_device.specs.declared.Write.{Write}
use Rattle.tcam_device.specs.declared.Write.TheVariants as write
use Rattle.tcam_device.specs.State.{State, blank, state_after}
use Rattle.tcam_device.specs.Hitless.{IsHitless}
use Rattle.trace_file.specs.declared.TraceLine.{TraceLine}
use Rattle.trace_file.specs.declared.TraceLine.TheVariants.{Head, Put, Erase, Table, Done}
use Rattle.trace_check.specs.Orderly.{Tracing, untraced, traced_on, IsTrace, IsOrderly}
use Rattle.trace_file.specs.Forms.{IsTraceLine}

-- a commit of a trace: the set before it, its commands, the state that it began in, and its writes
pub record TracedCommit : Type 0 where
  pub rules : List Rule
  pub batch : List Command
  pub before : State
  pub writes : List Write

-- the finished commits of some lines, by what is known before them
abbrev pub commits_in : Tracing → List TraceLine → List TracedCommit
commits_in now [] = []
commits_in now (Done n ∷ lines) =
    record { rules = now.rules; batch = now.batch; before = now.begun; writes = now.made } ∷ commits_in (traced_on now (Done n)) lines
commits_in now (line ∷ lines) = commits_in (traced_on now line) lines

-- the finished commits of a trace
abbrev pub commits_of : List TraceLine → List TracedCommit
commits_of lines = commits_in untraced lines

-- the device writes of some lines
abbrev pub trace_writes : List TraceLine → List Write
trace_writes [] = []
trace_writes (Put slot entry ∷ lines) = write.Slot slot (Some entry) ∷ trace_writes lines
trace_writes (Erase slot ∷ lines) = write.Slot slot None ∷ trace_writes lines
trace_writes (Table field port word ∷ lines) = write.Table field port word ∷ trace_writes lines
trace_writes (line ∷ lines) = trace_writes lines

-- each commit's writes lead from its set to the set after it, and every key has the old or the new answer after each
abbrev pub AreHitless : List TracedCommit → Type 0
AreHitless commits = AllByRecursion (λ commit. IsHitless commit.rules (set_after commit.rules commit.batch) commit.before commit.writes) commits

-- commits one after the other: each begins in the state and with the set that the one before left
abbrev pub Chain : State → List Rule → List TracedCommit → Type 0
Chain state rules [] = Unit {0}
Chain state rules (commit ∷ commits) =
    (commit.before ≡ state) × (commit.rules ≡ rules) × Chain (state_after commit.before commit.writes) (set_after commit.rules commit.batch) commits

-- the commits of a trace follow one another from a blank device without rules on, and have all its writes
pub record AreCommitsOf (slots : ℕ) (lines : List TraceLine) : Type 0 where
  pub chain : Chain (blank slots) [] (commits_of lines)
  pub writes : flat_map (λ commit. commit.writes) (commits_of lines) ≡ trace_writes lines

-- of each whole trace
abbrev pub TracesAreCommits : Type 0
TracesAreCommits =
    (version : IpVersion) (acl bits : Bool) (slots : ℕ) (lines : List TraceLine) → IsTrace (Head version acl bits slots ∷ lines)
    → AreCommitsOf slots (Head version acl bits slots ∷ lines)

-- Whole traces, by covers and by bits: where every line keeps the order, each commit is hitless.
abbrev pub OrderlyTracesAreHitless : Type 0
OrderlyTracesAreHitless =
    (lines : List TraceLine) → AllByRecursion IsTraceLine lines → IsTrace lines → IsOrderly lines
    → AreHitless (commits_of lines)
