-- Without new bits no table is written.
use Rattle.std.proofs.Common.{◌≡◌, ℕ, ◌+◌, List, [], ◌∷◌, refl}
use Rattle.std.proofs.lemmas.Bool.{eq-eqb}
use Rattle.std.specs.List.{filter_map, enumerate_from}
use Rattle.rule_model.specs.declared.Field.{Field}
use Rattle.rule_model.specs.declared.Field.TheVariants.{Src, Dst}
use Rattle.range_bits.specs.LiveRanges.{no_ranges}
use Rattle.tcam_device.specs.State.{State}
use Rattle.commit_writes.specs.Bits.{no_bits}
use Rattle.commit_writes.specs.Shape.{word_write, bit_writes}

pub no_word_writes : (field : Field) (port : ℕ) (table : List ℕ) → filter_map (word_write field no_ranges) (enumerate_from port table) ≡ []
no_word_writes field port [] = refl
no_word_writes field port (word ∷ words) = rw (eq-eqb word word refl) (no_word_writes field (port + 1) words)

pub bit_writes-none : (state : State) → bit_writes state no_bits ≡ []
bit_writes-none state = rw (no_word_writes Src 0 state.src, no_word_writes Dst 0 state.dst) refl
