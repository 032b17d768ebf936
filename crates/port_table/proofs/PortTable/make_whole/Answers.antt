use Rattle.std.proofs.Common.{◌≡◌, ℕ, List, true, false, length, ap, sym, ◌∙◌, arith}
use Rattle.std.proofs.lemmas.List.{length-replicate, with_items_is}
use Rattle.tcam_device.specs.State.{blank_table}
use Rattle.tcam_device.proofs.Kept.{blank_table-is}
use Rattle.port_table.specs.Table.{RoomyTable, after_words, words_by}
use Rattle.port_table.proofs.Written.{length-after, blank-size}
use Rattle.port_table.proofs.PortTable.make_whole.Goals as goal
use Rattle.port_table.proofs.PortTable.make_whole.Goals.{After-put_all}

-- the new words before any is put there
zeros : (c : After-put_all) → c.deref_mut.result.now ≡ blank_table
zeros c = c.deref_mut.ensures.value ∙ c.in_ok-words.ensures.items_if_clones_equal (λ y h. h) ∙ sym blank_table-is

-- and behind them
whole : (c : After-put_all) → c.put_all.new.words ≡ after_words blank_table c.self.inside.written.items
whole c = c.put_all.ensures ∙ ap (λ (start : List ℕ). after_words start c.deref.result.now) (zeros c) ∙ ap (after_words blank_table) c.deref.ensures.value

pub put_all-requires : goal.put_all-requires
put_all-requires c =
    let made = ap length (c.in_ok-words.ensures.items_if_clones_equal (λ y h. h)) in
    let size = length-replicate {A = ℕ} 65536 0 in
    let lent = ap length c.deref_mut.ensures.value in
    omega arith

pub invariant_of-self : goal.invariant_of-self
invariant_of-self c =
    let size = ap length (whole (goal.at.invariant_of-self c).After-put_all) in
    let kept = length-after blank_table c.self.inside.written.items in
    let blank = blank-size in
    let len : length c.put_all.new.words ≡ c.in_ok-words.words.len = omega (arith, c.in_ok-words.words.ok.0) in
    record {
      size = λ is. ap length (with_items_is c.in_ok-words.words c.put_all.new.words len) ∙ (size ∙ (kept ∙ blank));
      enough = λ kept. absurd (let wrong : true ≡ false = kept in cc);
    }

pub returns-clause-words : goal.returns-clause-words
returns-clause-words c =
    let i = c.self.inside in
    let same = whole (goal.at.returns-clause-words c).After-put_all in
    let size = ap length same in
    let kept = length-after blank_table i.written.items in
    let blank = blank-size in
    let len : length c.put_all.new.words ≡ c.in_ok-words.words.len = omega (arith, c.in_ok-words.words.ok.0) in
    with_items_is c.in_ok-words.words c.put_all.new.words len ∙ same
    ∙ ap (λ is. words_by is i.words.items i.written.items) (sym c.if-self.false) ∙ ap (λ (table : RoomyTable). table.words) c.self.view_is
