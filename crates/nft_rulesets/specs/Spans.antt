-- Numbers from a first to a last one: those outside of some spans, and the blocks that a span is.
use Rattle.std.specs.Prelude.{ℕ, zero, suc, ◌+◌, ◌-◌, ◌%◌, ◌^◌, Bool, ◌==◌, ◌&&◌, ◌||◌, nat_le, nat_lt, Option, Some, None, List, [], ◌∷◌, ◌++◌, if◌then◌else◌}
use Rattle.rule_model.specs.AddressBlock.{AddressBlock}
use Rattle.written_chains.specs.Meets.{greater, lesser}
use Rattle.nft_rulesets.specs.declared.spans.Span.{Span}

-- what of a span is below another one, and what is above it
abbrev pub below : Span → Span → List Span
below cut span = if nat_lt span.lo cut.lo then record { lo = span.lo; hi = lesser span.hi (cut.lo - 1) } ∷ [] else []

abbrev pub above : Span → Span → List Span
above cut span = if nat_lt cut.hi span.hi then record { lo = greater span.lo (cut.hi + 1); hi = span.hi } ∷ [] else []

-- what of some spans is outside of one
abbrev pub without : Span → List Span → List Span
without cut [] = []
without cut (span ∷ spans) = below cut span ++ (above cut span ++ without cut spans)

-- and outside of several
abbrev pub outside : List Span → List Span → List Span
outside [] spans = spans
outside (cut ∷ cuts) spans = outside cuts (without cut spans)

-- the numbers up to a most one outside of some spans
abbrev pub outside_up_to : ℕ → List Span → List Span
outside_up_to most cuts = outside cuts (record { lo = 0; hi = most } ∷ [])

-- ---- addresses

-- the addresses of a block, if no bit past its length is set
abbrev pub block_span : ℕ → ℕ → Option Span
block_span addr len =
    if addr % 2 ^ (128 - len) == 0 then Some (record { lo = addr; hi = addr + (2 ^ (128 - len) - 1) }) else None

-- the block of 2 ^ past addresses from this one on has none of a span, or it has no others
abbrev pub misses : ℕ → ℕ → Span → Bool
misses past addr span = nat_lt (addr + (2 ^ past - 1)) span.lo || nat_lt span.hi addr

abbrev pub is_inside : ℕ → ℕ → Span → Bool
is_inside past addr span = nat_le span.lo addr && nat_le (addr + (2 ^ past - 1)) span.hi

abbrev pub block_or : ℕ → ℕ → Span → List AddressBlock → List AddressBlock
block_or past addr span halves =
    if misses past addr span then []
    else if is_inside past addr span then record { addr = addr; len = 128 - past } ∷ []
    else halves

-- The blocks of those of 2 ^ past addresses that are in a span: all, or those of both halves.
unfoldable pub blocks : ℕ → ℕ → Span → List AddressBlock
blocks zero addr span = block_or zero addr span []
blocks (suc past) addr span = block_or (suc past) addr span (blocks past addr span ++ blocks past (addr + 2 ^ past) span)
