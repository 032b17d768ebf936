-- What a cell holds, and that no prefix is refused that is one.
use Rattle.std.proofs.Common.{◌≡◌, ◌≢◌, ◌<◌, ◌≤◌, ◌-◌, ◌%◌, ◌^◌, ◌==◌, ◌↔◌, ℕ, Bool, true, false, Some, None, arith, ◌∙◌, ap}
use Rattle.std.specs.Prelude.{Result, Err}
use Rattle.std.proofs.lemmas.Bool.Decides.{nat_tests}
use Rattle.rule_model.specs.AddressBlock.{AddressBlock}
use Rattle.rule_model.specs.declared.PrefixFault.{PrefixFault}
use Rattle.rule_model.specs.declared.PrefixFault.TheVariants.{Length, HostBits}
use Rattle.prefix_trie.specs.declared.node.Node.{Node}
use Rattle.prefix_trie.specs.Cells.{node_if, held_in}

pub no_fault : (r : Result AddressBlock PrefixFault) (addr len : ℕ) (e : PrefixFault) → len ≤ 128 → addr % 2 ^ (128 - len) ≡ 0
    → ((r ≡ Err Length) ↔ (128 < len)) → ((r ≡ Err HostBits) ↔ ((len ≤ 128) × (addr % 2 ^ (128 - len) ≢ 0))) → r ≡ Err e → ⊥
no_fault r addr len Length fits clear of_length of_bits is = let past = of_length.0 is in omega arith
no_fault r addr len HostBits fits clear of_length of_bits is = (of_bits.0 is).1 clear

pub held-none : (len : ℕ) (node : Node) → (len == 255) ≡ true → held_in len node ≡ None
held-none len node mark = ap (λ (test : Bool). node_if test node) mark

pub held-some : (len : ℕ) (node : Node) → (len == 255) ≡ false → held_in len node ≡ Some node
held-some len node mark = ap (λ (test : Bool). node_if test node) mark

pub no_mark : (len : ℕ) → len ≤ 128 → (len == 255) ≡ false
no_mark len fits = grind (arith, nat_tests)

abbrev pub celled : ℕ → ℕ → Node → Node
celled addr len node = record { prefix = record { addr = addr; len = len }; parent = node.parent; zero = node.zero; one = node.one; id = node.id; slot = node.slot; top = node.top }

-- a node in a cell is the node
pub cell-of : (node : Node) (addr len : ℕ) → addr ≡ node.prefix.addr → len ≡ node.prefix.len → len ≤ 128 → held_in len (celled addr len node) ≡ Some node
cell-of node addr len addr_is len_is fits =
    held-some len (celled addr len node) (no_mark len fits)
    ∙ (ap (λ (a : ℕ). Some (celled a len node)) addr_is ∙ ap (λ (l : ℕ). Some (celled node.prefix.addr l node)) len_is)
