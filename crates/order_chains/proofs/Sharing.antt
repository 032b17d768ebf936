-- A `&` to the places is made where one to each node is. Assumes `Logic`.
use Rattle.std.specs.Prelude.{ℕ, suc, ◌*◌, ◌^◌, List, [], ◌∷◌, length, Option, Some, None}
use seplogic.Ra.Ura.{Ura}
use base.Fml.{Lft, Fml, ftrue, fsep, flt}
use contract.BorrowLft.{⊑_static}
use types.Logic.{Logic}
use denote.Pure.{Pure}
use denote.RawPtr.{Ptr, block_of, count_of, in_block}
use denote.Sharing.{ShrLaws, nothing, said, beside}
use denote.SharingLaws.{beside_shr_laws, nothing_shr_laws, said_shr_laws}
use denote.Shares.{Shares-less}
use denote.Struct.Lending.{Lends, Lends-both, Lends-nothing, Lends-said, in_block_pure}
use Rattle.order_chains.specs.declared.node.Node.{Node}
use Rattle.order_chains.specs.contracts.node.Node.{the_row as N}
use Rattle.order_chains.proofs.node.Node.TheLaws.{the_row_laws as node_laws}
use Rattle.order_chains.specs.Ownership.{node_size, from, owned, lent, all_places, places_owned, places_lent}

-- what is owned can be lent as `lent`, and that be had twice and for less long
abbrev pub CanLend : Fml → (Lft → Fml) → Type 2
CanLend own lend = ShrLaws lend × ((M : Type 1) (𝓤 : Ura M) (𝓛 : Logic 𝓤) (l : Lft) → Lends 𝓛 own lend l)

lends_none : (own : Fml) → CanLend own nothing
lends_none own = (nothing_shr_laws, λ M 𝓤 𝓛. Lends-nothing 𝓛 own)

lends_two : (F G : Fml) (s t : Lft → Fml) → CanLend F s → CanLend G t → CanLend (fsep F G) (beside s t)
lends_two F G s t one two = (beside_shr_laws s t one.0 two.0, λ M 𝓤 𝓛 l. Lends-both 𝓛 F G s t l (one.1 M 𝓤 𝓛 l) (two.1 M 𝓤 𝓛 l))

lends_pure : (own : Fml) → Pure own → CanLend own (said own)
lends_pure own pure = (said_shr_laws own pure, λ M 𝓤 𝓛. Lends-said 𝓛 own pure)

lends_node : (block : ℕ) (at : ℕ → ℕ) (i : ℕ) (held : Option Node) → CanLend (owned block at i held) (λ κ. lent κ block at i held)
lends_node block at i None = lends_none (owned block at i None)
lends_node block at i (Some node) = (node_laws.shr_laws node block (at i), λ M 𝓤 𝓛 l κ ts. Shares-less 𝓛 N N.lives l (⊑_static l) (node_laws.shares 𝓛) node κ ts block (at i))

lends_each : (block : ℕ) (at : ℕ → ℕ) (nodes : List (Option Node)) → CanLend (all_places (owned block at) nodes) (λ κ. all_places (lent κ block at) nodes)
lends_each block at [] = lends_none ftrue
lends_each block at (first ∷ others) = let next : ℕ → ℕ = λ i. at (suc i) in
    lends_two (owned block at 0 first) (all_places (owned block next) others) (λ κ. lent κ block at 0 first) (λ κ. all_places (lent κ block next) others)
    (lends_node block at 0 first) (lends_each block next others)

pub lends_places : (p : Ptr) (nodes : List (Option Node)) → CanLend (places_owned p nodes) (places_lent p nodes)
lends_places p nodes =
    let small : Fml = flt (length nodes * node_size) (2 ^ 63) in let each : Fml = all_places (owned (block_of p) (from (count_of p))) nodes in
    let seen : Lft → Fml = λ κ. all_places (lent κ (block_of p) (from (count_of p))) nodes in
    lends_two (in_block p ftrue) (fsep small each) (said (in_block p ftrue)) (beside (said small) seen) (lends_pure (in_block p ftrue) (in_block_pure p))
    (lends_two small each (said small) seen (lends_pure small tt) (lends_each (block_of p) (from (count_of p)) nodes))
