use Rattle.std.proofs.Common.{◌≡◌, ◌+◌, ◌-◌, ◌++◌, List, ℕ, length, min}
use Rattle.std.specs.Io.KnownBytes.{Consumes}
use Rattle.script_lines.specs.Scan.{IsScanned, Gathers}
use Rattle.script_lines.specs.Given.{HasEnd}
use Rattle.script_lines.specs.Reader.{IsOpenLine}
use Rattle.script_lines.proofs.scan.gather.Given as goal

abbrev pub invariant-reads : goal.invariant-reads
invariant-reads g l = record {
  scan : IsScanned l.buffer l.scanned l.before;
  grown : (got : List ℕ) × (l.buffer ≡ l.fn.buffer ++ got) × Consumes (g.S.Source.left l.fn.source) (g.S.Source.left l.source) got;
  gives : (pieces : List (List ℕ)) × Gathers l.before l.fn.buffer l.buffer (g.S.Source.left l.fn.source) (g.S.Source.left l.source) (g.S.Source.given l.fn.source) (g.S.Source.given l.source) pieces
      × (HasEnd pieces → ⊥);
  unread : (IsOpenLine l.before l.fn.buffer → ⊥) → (l.buffer ≡ l.fn.buffer) × (l.source ≡ l.fn.source);
  faults : g.S.Source.faults l.source ≡ g.S.Source.faults l.fn.source;
}

abbrev pub decreases-reads : goal.decreases-reads
decreases-reads g l = 1025 - (l.scanned + min (length l.buffer) 513)
