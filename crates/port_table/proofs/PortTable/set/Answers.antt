use Rattle.std.proofs.Common.{◌<◌, set, ap, sym, ◌∙◌, arith, length-set}
use Rattle.tcam_device.specs.State.{blank_table}
use Rattle.port_table.specs.Table.{RoomyTable, after_words, words_by}
use Rattle.port_table.proofs.Written.{after-push}
use Rattle.port_table.proofs.PortTable.set.Goals as goal

-- a whole table
pub invariant_of-self : goal.invariant_of-self
invariant_of-self c = record {
  size = λ whole. length-set _ _ _ ∙ c.self.invariant.size whole;
  enough = λ kept. let before = c.self.invariant.enough kept in omega arith;
}

pub returns-then-self-clause-words : goal.returns-then-self-clause-words
returns-then-self-clause-words c =
    let i = c.self.inside in
    ap (λ whole. words_by whole (set i.words.items c.args.port c.args.word) i.written.items) c.if-self.true
    ∙ ap (λ whole. set (words_by whole i.words.items i.written.items) c.args.port c.args.word) (sym c.if-self.true)
    ∙ ap (λ (table : RoomyTable). set table.words c.args.port c.args.word) c.self.view_is

-- and one that isn't
pub push_reserved-requires : goal.push_reserved-requires
push_reserved-requires c =
    let some : 0 < c.self.inside.room = rw (← c.self.view_is) at c.requires in
    let room = c.self.invariant.enough c.if-self.false in
    omega arith

pub invariant_of-self-2 : goal.invariant_of-self-2
invariant_of-self-2 c = record {
  size = c.self.invariant.size;
  enough = λ kept.
      let before = c.self.invariant.enough kept in
      let len = c.push_reserved.ensures.len in
      let capacity = c.push_reserved.ensures.capacity in
      omega arith;
}

pub returns-clause-words : goal.returns-clause-words
returns-clause-words c =
    let i = c.self.inside in
    ap (λ whole. words_by whole i.words.items c.push_reserved.new.self.items) c.if-self.false
    ∙ ap (after_words blank_table) c.push_reserved.ensures.items ∙ after-push blank_table i.written.items (c.args.port, c.args.word)
    ∙ ap (λ whole. set (words_by whole i.words.items i.written.items) c.args.port c.args.word) (sym c.if-self.false)
    ∙ ap (λ (table : RoomyTable). set table.words c.args.port c.args.word) c.self.view_is
