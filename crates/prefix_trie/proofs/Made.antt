-- A node is made where a prefix has none.
use Rattle.std.proofs.Common.{◌≡◌, ◌≢◌, ℕ, ◌<◌, ◌≤◌, Bool, List, Option, Some, None, length, inl, inr, refl, arith, sym, ◌∙◌, ap, subst}
use Rattle.std.proofs.lemmas.Bool.{cases_lt}
use Rattle.rule_model.specs.AddressBlock.{AddressBlock, IsAddressBlock}
use Rattle.prefix_trie.specs.declared.node.Node.{Node}
use Rattle.prefix_trie.specs.Blocks.{Covers, InHalf, IsInside, IsMeet, bit_at}
use Rattle.prefix_trie.specs.Nodes.{node_at, child_of, turned, top_at}
use Rattle.prefix_trie.specs.Trie.{IsTrie, HaveTops, IsDeepest, HasGap, IsFresh, IsBetween, IsAttached, AreEntries, IsRoom, IsMade}
use Rattle.prefix_trie.proofs.Halves.{covers-one, half_of, meet-half, meet-apart}
use Rattle.prefix_trie.proofs.Ways.{one_node}
use Rattle.prefix_trie.proofs.Likes.{within}
use Rattle.prefix_trie.proofs.Attach.{trie-attached}
use Rattle.prefix_trie.proofs.Between.{between-attached, entries-attached}
use Rattle.prefix_trie.proofs.Kept.{tops-attached}
use Rattle.prefix_trie.proofs.Writes.{written, read_last, read_first, read_child, read_else}

-- what a new node leaves
pub record IsGrown (old new : List (Option Node)) (at place : ℕ) (bit : Bool) (block : AddressBlock) (here : Node) : Type 0 where
  pub trie : IsTrie new
  pub tops : HaveTops new
  pub entries : AreEntries old new
  pub attached : IsAttached old new at place bit block here

-- the three writes put it between
grown_between : (old new : List (Option Node)) (at place : ℕ) (bit : Bool) (block : AddressBlock) (here fresh : Node) → IsTrie old → IsRoom old 0 place → node_at old at ≡ Some here
    → new ≡ written old (child_of here bit) place at (Some (turned here bit (Some place))) place (Some fresh) → IsBetween old new at place bit here fresh
grown_between old new at place bit block here fresh trie room here_is new_is =
    subst (λ (ns : List (Option Node)). IsBetween old ns at place bit here fresh) (sym new_is) (record {
      none = room.none;
      here_is = here_is;
      fresh_is = read_last old (child_of here bit) place at (Some (turned here bit (Some place))) place (Some fresh) room.fits;
      now_is = read_first old (child_of here bit) place at (Some (turned here bit (Some place))) place (Some fresh) (within old at here here_is) (off_place at here here_is);
      off = off;
      below = λ child link.
          let below = trie.children at child bit here here_is link in (
            below.node,
            below.is,
            below.back,
            read_child old (child_of here bit) place at (Some (turned here bit (Some place))) place (Some fresh) child below.node link below.is (off child link) (off_place child below.node below.is),
          );
      same = λ other ne_place ne_at no_child. read_else old (child_of here bit) place at (Some (turned here bit (Some place))) place (Some fresh) other ne_at ne_place no_child;
    })
  where
    off_place : (other : ℕ) (node : Node) → node_at old other ≡ Some node → other ≢ place
    off_place other node node_is same =
        let there : node_at old place ≡ Some node = rw same at node_is in
        let none = room.none in
        cc

    off : (child : ℕ) → child_of here bit ≡ Some child → child ≢ at
    off child link same =
        let below = trie.children at child bit here here_is link in
        let there : node_at old at ≡ Some below.node = sym (ap (node_at old) same) ∙ below.is in
        let lens = ap (λ (n : Node). n.prefix.len) (one_node old at below.node here there here_is) in
        let longer = below.half.longer in
        absurd (omega arith)

pub grown : (old new : List (Option Node)) (at place : ℕ) (bit : Bool) (block : AddressBlock) (here fresh : Node) → IsTrie old → HaveTops old → IsAddressBlock block → IsRoom old 0 place → HasGap old at bit block → node_at old at ≡ Some here
    → new ≡ written old (child_of here bit) place at (Some (turned here bit (Some place))) place (Some fresh) → IsFresh old block at (child_of here bit) fresh → fresh.top ≡ top_at old (child_of here bit)
    → IsGrown old new at place bit block here
grown old new at place bit block here fresh trie tops right room gap here_is new_is is_fresh top_is =
    let between = grown_between old new at place bit block here fresh trie room here_is new_is in
    let attached = between-attached old new at place bit block here fresh between is_fresh in
    let same = one_node old at here gap.node here_is gap.is in
    let attached_gap : IsAttached old new at place bit block gap.node = subst (IsAttached old new at place bit block) same attached in
    let fresh_same = one_node new place fresh attached_gap.fresh between.fresh_is attached_gap.fresh_is in
    let other = room.other in
    record {
      trie = trie-attached old new at place bit block trie right gap attached_gap (λ same_place. other (sym same_place));
      tops = tops-attached old new at place bit block trie right gap attached_gap tops (sym (ap (λ (n : Node). n.top) fresh_same) ∙ (top_is ∙ ap (λ (n : Node). top_at old (child_of n bit)) same));
      entries = entries-attached old new at place bit block here attached;
      attached = attached;
    }

pub entries-trans : (a b c : List (Option Node)) → AreEntries a b → AreEntries b c → AreEntries a c
entries-trans a b c ab bc = record {
  to = λ at id node is has.
      let mid = ab.to at id node is has in
      let end = bc.to at id mid.found mid.is (ap (λ (n : Node). n.id) mid.like ∙ has) in
      record { found = end.found; is = end.is; like = end.like ∙ mid.like };
  from = λ at id node is has.
      let mid = bc.from at id node is has in
      let end = ab.from at id mid.found mid.is (ap (λ (n : Node). n.id) mid.like ∙ has) in
      record { found = end.found; is = end.is; like = end.like ∙ mid.like };
  bare = λ bares. bc.bare (ab.bare bares);
}

pub entries-self : (a : List (Option Node)) → AreEntries a a
entries-self a = record {
  to = λ at id node is has. record { found = node; is = is; like = refl };
  from = λ at id node is has. record { found = node; is = is; like = refl };
  bare = λ bares. bares;
}

-- where the fork is as long as the block it is the block
pub made_fork : (old new : List (Option Node)) (at place : ℕ) (bit : Bool) (block other fork : AddressBlock) (here : Node) → IsAttached old new at place bit fork here → IsMeet block other fork → IsAddressBlock block → fork.len ≡ block.len → IsMade new block place
made_fork old new at place bit block other fork here is meet right same =
    record { node = is.fresh; is = is.fresh_is; block_is = is.block_is ∙ covers-one fork block meet.right right meet.first (omega arith) }

shorter : (a b : ℕ) → a ≤ b → a ≢ b → a < b
shorter a b le ne = elim (cases_lt a b) [
  | inl less ↦ less
  | inr ge ↦ let same : a ≡ b = omega arith in absurd (ne same)
]

-- the deepest node that covers a prefix and is as long is its node
pub made_here : (nodes : List (Option Node)) (at : ℕ) (here : Node) (block : AddressBlock) → IsTrie nodes → IsDeepest nodes block at → node_at nodes at ≡ Some here → IsAddressBlock block → here.prefix.len ≡ block.len → IsMade nodes block at
made_here nodes at here block trie deep here_is right len_is =
    let same = one_node nodes at deep.node here deep.is here_is in
    let cov : Covers here.prefix block = rw same at deep.covers in
    record { node = here; is = here_is; block_is = covers-one here.prefix block (trie.blocks at here here_is) right cov (omega arith) }

pub made_there : (old new : List (Option Node)) (at place : ℕ) (bit : Bool) (block : AddressBlock) (here : Node) → IsAttached old new at place bit block here → IsMade new block place
made_there old new at place bit block here is = record { node = is.fresh; is = is.fresh_is; block_is = is.block_is }

module _ (nodes : List (Option Node)) (at : ℕ) (here : Node) (block : AddressBlock) (trie : IsTrie nodes) (deep : IsDeepest nodes block at) (here_is : node_at nodes at ≡ Some here) (longer : here.prefix.len ≢ block.len) where
  same : deep.node ≡ here
  same = one_node nodes at deep.node here deep.is here_is

  covered : Covers here.prefix block
  covered = subst (λ (n : Node). Covers n.prefix block) same deep.covers

  half : InHalf here.prefix (bit_at block.addr here.prefix.len) block
  half = let order = covered.order in half_of here.prefix block covered (shorter here.prefix.len block.len order longer)

  -- where no child is a leaf has room
  pub gap_leaf : child_of here (bit_at block.addr here.prefix.len) ≡ None → HasGap nodes at (bit_at block.addr here.prefix.len) block
  gap_leaf none = record { node = here; is = here_is; half = half; inner = λ child below link below_is. absurd (cc (link, none)) }

  -- and what the block and the child have in common has room, where a child is
  pub gap_fork : (child : ℕ) (below : Node) (fork : AddressBlock) → IsAddressBlock block → child_of here (bit_at block.addr here.prefix.len) ≡ Some child → node_at nodes child ≡ Some below → IsMeet block below.prefix fork
      → HasGap nodes at (bit_at block.addr here.prefix.len) fork
  gap_fork child below fork right link below_is meet =
      let under = trie.children at child (bit_at block.addr here.prefix.len) here here_is link in
      let one = one_node nodes child under.node below under.is below_is in
      let below_half : InHalf here.prefix (bit_at block.addr here.prefix.len) below.prefix = subst (λ (n : Node). InHalf here.prefix (bit_at block.addr here.prefix.len) n.prefix) one under.half in
      let below_right = trie.blocks child below below_is in
      let below_longer = below_half.longer in
      let fork_longer : fork.len < below.prefix.len = elim (cases_lt fork.len below.prefix.len) [
        | inl less ↦ less
        | inr le ↦
            let fork_below = covers-one fork below.prefix meet.right below_right meet.second le in
            let all : Covers below.prefix block = subst (λ (b : AddressBlock). Covers b block) fork_below meet.first in
            let up = deep.deepest child below below_is all in
            let order = up.order in
            let lens = ap (λ (n : Node). n.prefix.len) same in
            absurd (omega arith)
      ] in
      record {
        node = here;
        is = here_is;
        half = meet-half here.prefix block below.prefix fork (bit_at block.addr here.prefix.len) right.length meet half below_half;
        inner = λ other held other_link held_is.
            let place : other ≡ child = cc (other_link, link) in
            let there : node_at nodes child ≡ Some held = rw place at held_is in
            let held_below = one_node nodes child below held below_is there in
            subst (λ (n : Node). IsInside fork n.prefix) held_below (record { covers = meet.second; longer = fork_longer });
      }

-- behind the fork the block has room on the side where the child isn't
pub gap_second : (old new : List (Option Node)) (at place child : ℕ) (bit : Bool) (block fork : AddressBlock) (here below : Node) → IsAddressBlock block → IsAttached old new at place bit fork here → child_of here bit ≡ Some child → node_at old child ≡ Some below
    → IsMeet block below.prefix fork → IsInside fork below.prefix → fork.len ≢ block.len → HasGap new place (bit_at block.addr fork.len) block
gap_second old new at place child bit block fork here below right is link below_is meet inner ne =
    let order = meet.first.order in
    let half = half_of fork block meet.first (shorter fork.len block.len order ne) in
    record {
      node = is.fresh;
      is = is.fresh_is;
      half = subst (λ (b : AddressBlock). InHalf b (bit_at block.addr fork.len) block) (sym is.block_is) half;
      inner = λ other held other_link held_is.
          let side : bit_at block.addr is.fresh.prefix.len ≡ bit_at block.addr fork.len = ap (λ (b : AddressBlock). bit_at block.addr b.len) is.block_is in
          let was = is.down (bit_at block.addr fork.len) other other_link in
          let place_is : other ≡ child = cc (was, link) in
          let on : child_of is.fresh (bit_at block.addr fork.len) ≡ Some child = other_link ∙ ap (λ (n : ℕ). Some n) place_is in
          let on_side = is.sides (bit_at block.addr fork.len) child below on below_is in
          absurd (meet-apart block below.prefix fork (bit_at block.addr fork.len) right.length meet half (record { covers = meet.second; longer = inner.longer; side = on_side }));
    }

-- an empty place stays so, but that of the new node
pub room_second : (old new : List (Option Node)) (at first second : ℕ) (bit : Bool) (block : AddressBlock) (here : Node) → IsTrie new → IsAttached old new at first bit block here → IsRoom old first second → length new ≡ length old → IsRoom new 0 second
room_second old new at first second bit block here trie is room many =
    let fits = room.fits in
    record { fits = omega arith; none = none (node_at new second) refl; other = other }
  where
    none : (found : Option Node) → node_at new second ≡ found → node_at new second ≡ None
    none None empty = empty
    none (Some now) now_is =
        let kept = is.from second now now_is room.other in
        absurd (cc (kept.is, room.none))

    other : second ≢ 0
    other same = absurd (cc (trie.root, sym (ap (node_at new) same), none (node_at new second) refl))
