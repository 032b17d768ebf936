use Rattle.std.proofs.Common.{◌≡◌, ◌+◌, Contains, take}
use Rattle.order_chains.specs.Pairs.{spare_of}
use Rattle.overlap_index.specs.Linked.{HaveMore}
use Rattle.overlap_index.proofs.links.link_below.Given as goal

-- those so far are linked, and each took room for one
abbrev pub invariant-loop-lower : goal.invariant-loop-lower
invariant-loop-lower l = record {
  linked : HaveMore l.fn.edges l.edges (λ upper lower. (upper ≡ l.id) × Contains (take l.lower-index l.below) lower);
  room : spare_of l.edges + l.lower-index ≡ spare_of l.fn.edges;
  ids : l.edges.ids ≡ l.fn.edges.ids;
}
