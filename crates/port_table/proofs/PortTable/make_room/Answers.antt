use Rattle.std.proofs.Common.{ℕ, List, cond, ap, ◌∙◌, arith}
use Rattle.port_table.specs.Table.{RoomyTable, words_by}
use Rattle.port_table.proofs.PortTable.make_room.Goals as goal

-- there is no memory,
pub invariant_of-self : goal.invariant_of-self
invariant_of-self c = record {
  size = c.self.invariant.size;
  enough = λ kept.
      let before = c.self.invariant.enough kept in
      let capacity = c.reserve.ensures.capacity in
      let len = c.reserve.ensures.len in
      omega arith;
}

-- and there is
pub invariant_of-self-2 : goal.invariant_of-self-2
invariant_of-self-2 c = record {
  size = c.self.invariant.size;
  enough = λ kept.
      let before = c.self.invariant.enough kept in
      let more = c.words_more-more.ensures ∙ ap (λ whole. cond whole 0 c.args.n) kept in
      let enough = c.in_ok-reserve.ensures.ok in
      let capacity = c.reserve.ensures.capacity in
      let len = c.reserve.ensures.len in
      let greater = c.max-self-inside.ensures in
      omega arith;
}

pub returns-clause-words : goal.returns-clause-words
returns-clause-words c =
    ap (λ (written : List (ℕ × ℕ)). words_by c.self.inside.is_whole c.self.inside.words.items written) c.reserve.ensures.items
    ∙ ap (λ (table : RoomyTable). table.words) c.self.view_is
