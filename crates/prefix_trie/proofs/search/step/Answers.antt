use Rattle.std.proofs.Common.{◌≡◌, arith, sym, ◌∙◌, ap}
use Rattle.std.specs.Prelude.{is_some}
use Rattle.prefix_trie.specs.Blocks.{Covers, bit_at}
use Rattle.prefix_trie.specs.Nodes.{child_of}
use Rattle.prefix_trie.proofs.Halves.{covers-parts, covers-test}
use Rattle.prefix_trie.proofs.Ways.{one_node, no_step, no_deeper}
use Rattle.prefix_trie.proofs.search.step.Goals as goal

pub len_at-requires : goal.len_at-requires
len_at-requires c = ap is_some c.requires.here.is

pub returns-then-len_at-len : goal.returns-then-len_at-len
returns-then-len_at-len c x x_is other held held_is ch =
    let over = c.requires.here in
    let same = one_node c.args.nodes.now c.args.at over.node x over.is x_is in
    let cn : Covers x.prefix c.args.block.now = rw same at over.covers in
    let read = c.len_at.ensures x x_is in
    let long = c.if-len_at-len.true in
    let len_b = c.len.ensures.value in
    no_deeper x.prefix c.args.block.now held.prefix cn (omega arith) ch

pub toward-requires : goal.toward-requires
toward-requires c =
    let over = c.requires.here in
    let read = c.len_at.ensures over.node over.is in
    let short = c.if-len_at-len.false in
    let len_b = c.len.ensures.value in
    (over.node, over.is, omega arith)

pub returns-in-None : goal.returns-in-None
returns-in-None c x x_is other held held_is ch =
    let over = c.requires.here in
    let same = one_node c.args.nodes.now c.args.at over.node x over.is x_is in
    let cn : Covers x.prefix c.args.block.now = rw same at over.covers in
    let child : c.toward.result ≡ child_of x (bit_at c.args.block.now.addr x.prefix.len) = c.toward.ensures x x_is in
    no_step c.args.nodes.now c.requires.trie c.args.at x c.args.block.now x_is cn (λ place below link is cb. absurd (cc (child, link, c.get.ensures, c.in-None.is))) other held held_is ch

pub covers_at-requires : goal.covers_at-requires
covers_at-requires c =
    let over = c.requires.here in
    let below = c.requires.trie.children c.args.at c.in-Some.child (bit_at c.args.block.now.addr over.node.prefix.len) over.node over.is (sym (c.toward.ensures over.node over.is) ∙ (sym c.get.ensures ∙ c.in-Some.is)) in
    ap is_some below.is

pub returns-then-covers_at : goal.returns-then-covers_at
returns-then-covers_at c x x_is =
    let below = c.requires.trie.children c.args.at c.in-Some.child (bit_at c.args.block.now.addr x.prefix.len) x x_is (sym (c.toward.ensures x x_is) ∙ (sym c.get.ensures ∙ c.in-Some.is)) in
    record {
      below = below.node;
      is = below.is;
      longer = below.half.longer;
      covers = covers-parts below.node.prefix c.args.block.now (sym (c.covers_at.ensures below.node below.is) ∙ c.if-covers_at.true);
    }

pub returns-else-covers_at : goal.returns-else-covers_at
returns-else-covers_at c x x_is other held held_is ch =
    let over = c.requires.here in
    let same = one_node c.args.nodes.now c.args.at over.node x over.is x_is in
    let cn : Covers x.prefix c.args.block.now = rw same at over.covers in
    let child : c.toward.result ≡ child_of x (bit_at c.args.block.now.addr x.prefix.len) = c.toward.ensures x x_is in
    no_step c.args.nodes.now c.requires.trie c.args.at x c.args.block.now x_is cn
    (λ place below link is cb.
    let there : place ≡ c.in-Some.child = cc (child, link, c.get.ensures, c.in-Some.is) in
    let found = rw there at is in
    absurd (cc (covers-test below.prefix c.args.block.now cb, c.covers_at.ensures below found, c.if-covers_at.false)))
    other held held_is ch
