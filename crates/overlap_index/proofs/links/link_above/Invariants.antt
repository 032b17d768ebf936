use Rattle.std.proofs.Common.{◌≡◌, ◌+◌, Contains, take}
use Rattle.order_chains.specs.Pairs.{spare_of}
use Rattle.overlap_index.specs.Linked.{HaveMore}
use Rattle.overlap_index.proofs.links.link_above.Given as goal

-- those so far are linked, and each took room for one
abbrev pub invariant-loop-upper : goal.invariant-loop-upper
invariant-loop-upper l = record {
  linked : HaveMore l.fn.edges l.edges (λ upper lower. Contains (take l.upper-index l.above) upper × (lower ≡ l.id));
  room : spare_of l.edges + l.upper-index ≡ spare_of l.fn.edges;
  ids : l.edges.ids ≡ l.fn.edges.ids;
}
