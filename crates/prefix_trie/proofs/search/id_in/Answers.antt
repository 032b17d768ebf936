use Rattle.std.proofs.Common.{◌≤◌, arith, sym, ap, ◌∙◌}
use Rattle.std.specs.Prelude.{is_some}
use Rattle.prefix_trie.proofs.Walked.{deep_named, deep_unnamed}
use Rattle.prefix_trie.proofs.search.id_in.Goals as goal

pub len_at-requires : goal.len_at-requires
len_at-requires c = ap is_some c.requires.deep.is

pub returns-then-len_at-len : goal.returns-then-len_at-len
returns-then-len_at-len c =
    let deep = c.requires.deep in
    let len_a = c.len_at.ensures deep.node deep.is in
    let len_b = c.len.ensures.value in
    let less = c.if-len_at-len.true in
    deep_unnamed c.args.nodes.now c.args.block.now c.args.at deep.node deep deep.is (omega arith)

pub id_at-requires : goal.id_at-requires
id_at-requires c = ap is_some c.requires.deep.is

pub returns-else-len_at-len : goal.returns-else-len_at-len
returns-else-len_at-len c =
    let deep = c.requires.deep in
    let len_a = c.len_at.ensures deep.node deep.is in
    let len_b = c.len.ensures.value in
    let more = c.if-len_at-len.false in
    let le : c.args.block.now.len ≤ deep.node.prefix.len = omega arith in
    deep_named c.args.nodes.now c.requires.trie c.args.block.now c.args.at deep.node c.addr-addr.ensures.block deep deep.is le c.get.result (sym (c.id_at.ensures deep.node deep.is) ∙ sym c.get.ensures)
