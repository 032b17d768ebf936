-- A node that has no id and at most one child goes.
use Rattle.std.proofs.Common.{◌≡◌, ◌≢◌, ℕ, ◌<◌, Bool, List, Option, Some, None, refl, arith, sym, ◌∙◌, ap, subst}
use Rattle.prefix_trie.specs.declared.node.Node.{Node}
use Rattle.prefix_trie.specs.Blocks.{InHalf, bit_at}
use Rattle.prefix_trie.specs.Nodes.{node_at, child_of, turned, with_parent}
use Rattle.prefix_trie.specs.Trie.{IsTrie, HaveTops, HaveBare, HasOnly, IsFresh, IsBetween, IsAttached, AreEntries, IsChild}
use Rattle.prefix_trie.proofs.Ways.{one_node}
use Rattle.prefix_trie.proofs.Likes.{within}
use Rattle.prefix_trie.proofs.Between.{between-attached, entries-detached}
use Rattle.prefix_trie.proofs.Kept.{tops-detached}
use Rattle.prefix_trie.proofs.Detach.{IsEnd, trie-detached}
use Rattle.prefix_trie.proofs.Writes.{written, read_last, read_first, read_child, read_else, child-turned, turned-back}

-- what is left
pub record IsPruned (old new : List (Option Node)) (parent : ℕ) (up : Node) : Type 0 where
  pub trie : IsTrie new
  pub tops : HaveTops new
  pub entries : AreEntries old new
  pub above : node_at new parent ≡ Some up

-- the child that stays
record Lower (old new : List (Option Node)) (at parent : ℕ) (node : Node) (place : ℕ) : Type 0 where
  pub side : Bool
  pub link : child_of node side ≡ Some place
  pub below : Node
  pub is : node_at old place ≡ Some below
  pub back : below.parent ≡ Some at
  pub half : InHalf node.prefix side below.prefix
  pub off_at : place ≢ at
  pub off_parent : place ≢ parent
  pub now : node_at new place ≡ Some (with_parent below (Some parent))

module _ (old new : List (Option Node)) (at parent : ℕ) (bit : Bool) (child : Option ℕ) (node up : Node) (trie : IsTrie old) (node_is : node_at old at ≡ Some node) (up_is : node_at old parent ≡ Some up)
    (parent_is : node.parent ≡ Some parent) (bit_is : bit ≡ bit_at node.prefix.addr up.prefix.len) (only : HasOnly node child)
    (new_is : new ≡ written old child parent parent (Some (turned up bit child)) at None) where
  above : IsChild old parent up.prefix bit at
  above =
      let link = trie.parents at parent node node_is parent_is in
      let same = one_node old parent link.node up link.is up_is in
      let half : InHalf up.prefix link.bit node.prefix = subst (λ (n : Node). InHalf n.prefix link.bit node.prefix) same link.half in
      let on : child_of up link.bit ≡ Some at = ap (λ (n : Node). child_of n link.bit) (sym same) ∙ link.link in
      trie.children parent at bit up up_is (ap (child_of up) (bit_is ∙ half.side) ∙ on)

  linked : child_of up bit ≡ Some at
  linked =
      let link = trie.parents at parent node node_is parent_is in
      let same = one_node old parent link.node up link.is up_is in
      let half : InHalf up.prefix link.bit node.prefix = subst (λ (n : Node). InHalf n.prefix link.bit node.prefix) same link.half in
      ap (child_of up) (bit_is ∙ half.side) ∙ (ap (λ (n : Node). child_of n link.bit) (sym same) ∙ link.link)

  shorter : up.prefix.len < node.prefix.len
  shorter =
      let one = one_node old at above.node node above.is node_is in
      let lens = ap (λ (n : Node). n.prefix.len) one in
      let longer = above.half.longer in
      omega arith

  -- what a longer node's place isn't
  apart : (a b : ℕ) (one other : Node) → node_at old a ≡ Some one → node_at old b ≡ Some other → one.prefix.len < other.prefix.len → a ≢ b
  apart a b one other one_is other_is less same =
      let there : node_at old b ≡ Some one = sym (ap (node_at old) same) ∙ one_is in
      let lens = ap (λ (n : Node). n.prefix.len) (one_node old b one other there other_is) in
      absurd (omega arith)

  lower : (place : ℕ) → child ≡ Some place → Lower old new at parent node place
  lower place some =
      let on = only.on place some in
      let below = trie.children at place on.0 node node_is on.1 in
      let longer = below.half.longer in
      let off_at : place ≢ at = (λ (same : place ≡ at). apart at place node below.node node_is below.is longer (sym same)) in
      let less = shorter in
      let off_parent : place ≢ parent = (λ (same : place ≡ parent). apart parent place up below.node up_is below.is (omega arith) (sym same)) in
      record {
        side = on.0;
        link = on.1;
        below = below.node;
        is = below.is;
        back = below.back;
        half = below.half;
        off_at = off_at;
        off_parent = off_parent;
        now = ap (λ (ns : List (Option Node)). node_at ns place) new_is ∙ read_child old child parent parent (Some (turned up bit child)) at None place below.node some below.is off_parent off_at;
      }

  here_now : node_at new parent ≡ Some (turned up bit child)
  here_now = ap (λ (ns : List (Option Node)). node_at ns parent) new_is
      ∙ read_first old child parent parent (Some (turned up bit child)) at None (within old parent up up_is) (apart parent at up node up_is node_is shorter)

  held_child : (place : ℕ) → child_of (turned up bit child) bit ≡ Some place → child ≡ Some place
  held_child place link = sym (child-turned up bit child) ∙ link

  between : IsBetween new old parent at bit (turned up bit child) node
  between = record {
    none = ap (λ (ns : List (Option Node)). node_at ns at) new_is ∙ read_last old child parent parent (Some (turned up bit child)) at None (within old at node node_is);
    here_is = here_now;
    fresh_is = node_is;
    now_is = up_is ∙ ap (λ (n : Node). Some n) (sym (ap (turned (turned up bit child) bit) (sym linked) ∙ turned-back up bit child));
    off = λ place link. (lower place (held_child place link)).off_parent;
    below = λ place link.
        let low = lower place (held_child place link) in
        (with_parent low.below (Some parent), low.now, refl, low.is ∙ ap (λ (p : Option ℕ). Some (with_parent low.below p)) low.back);
    same = λ other off_at off_parent off.
        sym (ap (λ (ns : List (Option Node)). node_at ns other) new_is
        ∙ read_else old child parent parent (Some (turned up bit child)) at None other off_parent off_at (λ on. off (child-turned up bit child ∙ on)));
  }

  fresh : HaveBare old → IsFresh new node.prefix parent (child_of (turned up bit child) bit) node
  fresh bare = record {
    block_is = refl;
    up = parent_is;
    no_id = only.no_id;
    no_slot = bare at node node_is only.no_id;
    down = λ side place link. child-turned up bit child ∙ only.down side place link;
    sides = λ side place below link below_is.
        let low = lower place (only.down side place link) in
        let was = trie.children at place side node node_is link in
        let one = one_node old place was.node low.below was.is low.is in
        let now = one_node new place (with_parent low.below (Some parent)) below low.now below_is in
        ap (λ (n : Node). bit_at n.prefix.addr node.prefix.len) (sym now) ∙ (ap (λ (n : Node). bit_at n.prefix.addr node.prefix.len) (sym one) ∙ was.half.side);
    has_down = λ place below on below_is.
        let low = lower place (held_child place on) in
        let now = one_node new place (with_parent low.below (Some parent)) below low.now below_is in
        ap (child_of node) (ap (λ (n : Node). bit_at n.prefix.addr node.prefix.len) (sym now) ∙ low.half.side) ∙ low.link;
  }

  ends : (place : ℕ) → child_of (turned up bit child) bit ≡ Some place → IsEnd new parent place
  ends place link = let low = lower place (held_child place link) in record { node = with_parent low.below (Some parent); is = low.now; back = refl }

  pub pruned : HaveTops old → HaveBare old → IsPruned old new parent (turned up bit child)
  pruned tops bare =
      let attached : IsAttached new old parent at bit node.prefix (turned up bit child) = between-attached new old parent at bit node.prefix (turned up bit child) node between (fresh bare) in
      record {
        trie = trie-detached new old parent at bit node.prefix (turned up bit child) trie here_now attached ends;
        tops = tops-detached new old parent at bit node.prefix (turned up bit child) attached tops;
        entries = entries-detached new old parent at bit node.prefix (turned up bit child) attached;
        above = here_now;
      }
