-- What a row of places owns, and what a `&` to it lends: the same formula of each place, which its number finds.
use Rattle.std.specs.Prelude.{ℕ, suc, ◌+◌, ◌*◌, ◌^◌, List, [], ◌∷◌, length, Option, Some, None}
use base.Fraction.{full_share}
use base.Fml.{Lft, Fml, ftrue, fsep, flt, froom}
use mir.Syntax.{Ty, ty_array}
use mir.Raw.{raw}
use denote.Memory.{lone, part_at, shared_of}
use denote.RawPtr.{Ptr, block_of, count_of, in_block}
use Rattle.order_chains.specs.declared.node.Node.{Node}
use Rattle.order_chains.specs.contracts.node.Node.{the_row}

-- the bytes of a node
abbrev pub node_size : ℕ
node_size = 24

abbrev pub node_layout : Ty
node_layout = lone the_row.mir

abbrev pub row_of : ℕ → Ty
row_of len = raw (ty_array node_layout len)

-- where the places of a row begin that lies `start` bytes into its block
abbrev pub from : ℕ → ℕ → ℕ
from start i = i * node_size + start

-- a place that begins `at i` bytes into the block: room, or a node
abbrev pub owned : ℕ → (ℕ → ℕ) → ℕ → Option Node → Fml
owned block at i None = froom node_layout block (at i)
owned block at i (Some node) = part_at the_row full_share node block (at i)

-- nobody reads an empty place
abbrev pub lent : Lft → ℕ → (ℕ → ℕ) → ℕ → Option Node → Fml
lent κ block at i None = ftrue
lent κ block at i (Some node) = shared_of the_row node block (at i) κ

-- a formula of each place
abbrev pub all_places : (ℕ → Option Node → Fml) → List (Option Node) → Fml
all_places place [] = ftrue
all_places place (first ∷ others) = fsep (place 0 first) (all_places (λ i. place (suc i)) others)

-- the row at a pointer: in a block, of fewer than 2 ^ 63 bytes
abbrev pub whole_row : (ℕ → (ℕ → ℕ) → ℕ → Option Node → Fml) → Ptr → List (Option Node) → Fml
whole_row place p nodes = fsep (in_block p ftrue) (fsep (flt (length nodes * node_size) (2 ^ 63)) (all_places (place (block_of p) (from (count_of p))) nodes))

abbrev pub places_owned : Ptr → List (Option Node) → Fml
places_owned = whole_row owned

abbrev pub places_lent : Ptr → List (Option Node) → Lft → Fml
places_lent p nodes κ = whole_row (lent κ) p nodes
