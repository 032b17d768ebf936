use Rattle.std.proofs.Common.{◌≡◌, ◌<◌, ◌≤◌, true, false, nat_lt, is_some, cond, Some, None, [], ◌∷◌, inl, inr, refl, sym, ◌∙◌, arith}
use Rattle.std.specs.List.{list_any}
use Rattle.std.proofs.lemmas.Bool.{cases_lt, le-ltb, lt-ltb}
use Rattle.std.proofs.lemmas.List.Sums.{sum_by-cons}
use Rattle.range_bits.specs.LiveRanges.{LiveRanges}
use Rattle.range_bits.specs.FieldMap.{live_count}
use Rattle.commit_writes.proofs.translation.ranges.FieldBits.any.Goals as goal

-- where ranges are live one is found,
some_live : (live : LiveRanges) → 0 < live_count live → list_any (λ range. is_some range) live ≡ true
some_live [] more = absurd (let none : live_count [] ≡ 0 = refl in omega arith)
some_live (None ∷ live) more = let step = sum_by-cons (λ held. cond (is_some held) 1 0) None live in some_live live (omega arith)
some_live (Some range ∷ live) more = refl

-- and where none is, none
none_live : (live : LiveRanges) → live_count live ≤ 0 → list_any (λ range. is_some range) live ≡ false
none_live [] none = refl
none_live (None ∷ live) none = let step = sum_by-cons (λ held. cond (is_some held) 1 0) None live in none_live live (omega arith)
none_live (Some range ∷ live) none = absurd (let step = sum_by-cons (λ held. cond (is_some held) 1 0) (Some range) live in omega arith)

pub returns-then-live-gt0 : goal.returns-then-live-gt0
returns-then-live-gt0 c =
    let i = c.self.inside in
    let more : 0 < c.live.result = c.if-live-gt0.true in
    let count = c.live.ensures.number in
    let src : list_any (λ range. is_some range) i.src ≡ true = some_live i.src (omega arith) in
    rw (← c.self.view_is, lt-ltb 0 c.live.result more, src) refl

pub returns-else-live-gt0 : goal.returns-else-live-gt0
returns-else-live-gt0 c =
    let i = c.self.inside in
    let none : c.live.result ≤ 0 = c.if-live-gt0.false in
    let count = c.live.ensures.number in
    let count2 = c.live-else-live-gt0.ensures.number in
    let src : list_any (λ range. is_some range) i.src ≡ false = none_live i.src (omega arith) in
    let dst : nat_lt 0 c.live-else-live-gt0.result ≡ list_any (λ range. is_some range) i.dst = elim (cases_lt 0 c.live-else-live-gt0.result) [
      | inl more ↦ lt-ltb 0 c.live-else-live-gt0.result more ∙ sym (some_live i.dst (omega arith))
      | inr none ↦ le-ltb 0 c.live-else-live-gt0.result none ∙ sym (none_live i.dst (omega arith))
    ] in
    rw (← c.self.view_is, src) dst
