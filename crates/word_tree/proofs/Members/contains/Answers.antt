use Rattle.std.proofs.Common.{◌+◌, ◌∙◌, false, arith, sym, ap}
use Rattle.std.specs.Prelude.{nat_eq, slice_index_or}
use Rattle.word_tree.proofs.Rows.{mark_is, bit_read, place_of}
use Rattle.word_tree.proofs.Members.contains.Goals as goal

pub overflow_add-bit : goal.overflow_add-bit
overflow_add-bit c = let few = (place_of c.self.invariant.0 c.self.view_is c.requires).few in omega arith

pub index-requires : goal.index-requires
index-requires c = let room = (place_of c.self.invariant.0 c.self.view_is c.requires).room in omega (arith, c.self.inside.words.ok.0)

pub returns : goal.returns
returns c =
    let words = c.self.inside.words.items in
    let base = c.self.inside.base in
    let here = place_of c.self.invariant.0 c.self.view_is c.requires in
    ap (λ bit. nat_eq bit 1) (bit_read words (base + c.args.at) c.index.result.now here.room c.index.ensures)
    ∙ (sym (mark_is words base c.self.inside.places c.args.at here.inside) ∙ ap (λ marks. slice_index_or marks c.args.at false) c.self.view_is)
