use Rattle.std.proofs.Common.{◌≡◌, ℕ, List, length, replicate, bit_and, bit_xor, arith, ◌∙◌, sym, ap₂}
use lib.Lanes.{zip2}
use Rattle.std.proofs.lemmas.Simd.{length-zip2, get_or-zip2, get_or-replicate}
use Rattle.std.proofs.lemmas.List.{length-replicate}
use Rattle.lane_lookup.proofs.column.off_eight.Goals as goal

length-differ : (word : ℕ) (values : List ℕ) → length values ≡ 8 → length (zip2 bit_xor (replicate 8 word) values) ≡ 8
length-differ word values len =
    let words : length (replicate 8 word) ≡ 8 = length-replicate 8 word in
    length-zip2 bit_xor (replicate 8 word) values (words ∙ sym len) ∙ words

pub returns-clause-len : goal.returns-clause-len
returns-clause-len c =
    let len = length-differ c.args.word c.eight.result c.eight.ensures.len in
    length-zip2 bit_and (zip2 bit_xor (replicate 8 c.args.word) c.eight.result) c.eight-2.result (len ∙ sym c.eight-2.ensures.len) ∙ len

pub returns-clause-lanes : goal.returns-clause-lanes
returns-clause-lanes c k l =
    let len = length-differ c.args.word c.eight.result c.eight.ensures.len in
    let words : length (replicate 8 c.args.word) ≡ 8 = length-replicate 8 c.args.word in
    get_or-zip2 bit_and (zip2 bit_xor (replicate 8 c.args.word) c.eight.result) c.eight-2.result k 0 0 0 (omega arith) (omega arith)
    ∙ ap₂ bit_and (get_or-zip2 bit_xor (replicate 8 c.args.word) c.eight.result k 0 0 0 (omega arith) (omega arith)
    ∙ ap₂ bit_xor (get_or-replicate 8 k c.args.word 0 l) (c.eight.ensures.lanes k l))
    (c.eight-2.ensures.lanes k l)
