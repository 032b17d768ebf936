-- A part of an array, after bytes are let go of or read behind it.
use Rattle.std.proofs.Common.{◌≡◌, ◌≤◌, ◌+◌, ℕ, List, ◌++◌, length, take, drop, ap, sym, ◌∙◌, arith, length-take, drop-drop}
use Rattle.std.specs.List.{slice_range}
use Rattle.std.proofs.Math.Seq.{take-append-add}
use Rattle.std.proofs.lemmas.List.{drop-append-le, take-append-le}
use Rattle.std.proofs.lemmas.Slice.{between_is, take-put_mid_below}
use borrow.Rule.Slice.PartMut.{put_mid, post_of}

pub range-skip : (array : List ℕ) (start end n : ℕ) → slice_range array (start + n) end ≡ drop n (slice_range array start end)
range-skip array start end n = between_is array (start + n) end ∙ sym (drop-drop n start (take end array)) ∙ ap (drop n) (sym (between_is array start end))

-- what is read behind the part, and not taken, doesn't change it
pub range-same : (array read : List ℕ) (start end room : ℕ) → end ≤ length array → slice_range (put_mid end room array read) start end ≡ slice_range array start end
range-same array read start end room le =
    let front : take end (put_mid end room array read) ≡ take end array = take-put_mid_below end room array read end (omega arith) le in
    between_is (put_mid end room array read) start end ∙ ap (drop start) front ∙ sym (between_is array start end)

-- the part grows by what is read behind it
pub range-read : (array read held : List ℕ) (start end room n : ℕ) → start ≤ end → end ≤ length array → n ≤ length read → slice_range array start end ≡ held
    → slice_range (put_mid end room array read) start (end + n) ≡ held ++ take n read
range-read array read held start end room n order le fits same =
    let front = take end array in
    let post = post_of end room array in
    let long : length front ≡ end = simp length-take (omega arith) in
    let there : start ≤ length front = omega arith in
    let all : take (end + n) (put_mid end room array read) ≡ front ++ take n read = ap (λ k. take (k + n) (front ++ (read ++ post))) (sym long)
    ∙ take-append-add front (read ++ post) n ∙ ap (λ r. front ++ r) (take-append-le n read post fits) in
    between_is (put_mid end room array read) start (end + n) ∙ ap (drop start) all ∙ drop-append-le start front (take n read) there
    ∙ ap (λ l. l ++ take n read) (sym (between_is array start end) ∙ same)
