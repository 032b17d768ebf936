-- A node with one child at most.
use Rattle.std.proofs.Common.{◌≡◌, ℕ, Bool, true, false, Option, Some, None, refl}
use Rattle.std.specs.Prelude.{is_some}
use Rattle.prefix_trie.specs.declared.node.Node.{Node}
use Rattle.prefix_trie.specs.Nodes.{child_of}
use Rattle.prefix_trie.specs.Trie.{HasOnly}

pub not_some : (o : Option ℕ) → is_some o ≡ false → o ≡ None
not_some None is = refl
not_some (Some x) is = absurd (cc)

pub only_one : (node : Node) → node.id ≡ None → node.zero ≡ None → HasOnly node node.one
only_one node no_id no_zero = record { no_id = no_id; down = down; on = λ place is. (true, is) }
  where
    down : (side : Bool) (place : ℕ) → child_of node side ≡ Some place → node.one ≡ Some place
    down false place is = absurd (cc (no_zero, is))
    down true place is = is

pub only_zero : (node : Node) → node.id ≡ None → node.one ≡ None → HasOnly node node.zero
only_zero node no_id no_one = record { no_id = no_id; down = down; on = λ place is. (false, is) }
  where
    down : (side : Bool) (place : ℕ) → child_of node side ≡ Some place → node.zero ≡ Some place
    down false place is = is
    down true place is = absurd (cc (no_one, is))
