-- Blocks of slots that are written over.
use Rattle.std.proofs.Common.{◌≡◌, ℕ, ◌+◌, ◌-◌, List, ◌++◌, length, take, drop, ◌≤◌, sym, ◌∙◌, ap, arith, length-drop}
use Rattle.std.proofs.lemmas.List.{drop-drop, length-take-le}
use borrow.Rule.Slice.PartMut.{put_mid, same_len_mid}
use Rattle.rule_model.specs.declared.words.Entry.{Entry}
use Rattle.std.proofs.Common.{Option}
use Rattle.driver_trace.specs.Known.{with_block}

-- what a write of a part leaves is the slots with the block
pub put_is : (slots block : List (Option Entry)) (at size : ℕ) (part : List (Option Entry)) → part ≡ block → size ≡ length block → put_mid at size slots part ≡ with_block slots at block
put_is slots block at size part is level =
    ap (λ (some : List (Option Entry)). take at slots ++ (some ++ drop size (drop at slots))) is
    ∙ ap (λ rest. take at slots ++ (block ++ rest)) (ap (λ n. drop n (drop at slots)) level ∙ drop-drop (length block) at slots)

-- and as many as before
pub size_is : (slots block : List (Option Entry)) (at size : ℕ) (part : List (Option Entry)) → part ≡ block → size ≡ length block → at + length block ≤ length slots
    → length (put_mid at size slots part) ≡ length slots
size_is slots block at size part is level within =
    let rest = length-drop at slots in
    let fits : size ≤ length (drop at slots) = omega arith in
    same_len_mid at size slots part (ap length is ∙ sym level ∙ sym (length-take-le size (drop at slots) fits))

-- a part by its ends is so many slots from one on
pub part_is : (slots : List (Option Entry)) (from count past : ℕ) → past ≡ from + count → take (past - from) (drop from slots) ≡ take count (drop from slots)
part_is slots from count past is = ap (λ n. take n (drop from slots)) (rest from count past is)
  where
    rest : (from count past : ℕ) → past ≡ from + count → past - from ≡ count
    rest from count past is = omega arith
