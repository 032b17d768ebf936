use Rattle.std.proofs.Common.{◌≡◌, ◌≢◌, ◌+◌, ◌∷◌, Result, Ok, Err, IsErr, refl, ℕ, drop, None, Some, is_none, not, true, false, Bool, subst, ap, sym, ◌∙◌, arith}
use Rattle.std.proofs.lemmas.List.{drop_more}
use Rattle.std.proofs.lemmas.Grind.{common_steps}
use Rattle.std.proofs.lemmas.Result.{IfOk-at_ok}
use Rattle.range_bits.specs.FieldMap.{live_count}
use Rattle.rule_store.specs.declared.Command.{Command}
use Rattle.rule_store.proofs.Sums.{slice_get-within, slice_get-read}
use Rattle.range_bits.specs.LiveRanges.{LiveRanges, range_at, bit_of}
use Rattle.commit_writes.specs.Needed.{coded_range}
use Rattle.commit_writes.proofs.NewRanges.{IsOnTheWay, IsGivenBit, on_none, on_live, on_new, new_room}
use Rattle.commit_writes.proofs.translation.ranges.with_new_ranges.Goals as goal
use Rattle.commit_writes.proofs.translation.ranges.with_new_ranges.Goals.{in-Some+then-is_none, in-Some+else-is_none, in_default}

is_ok : {X E : Type 0} (answer : Result X E) → (IsErr answer → ⊥) → (value : X) × (answer ≡ Ok value)
is_ok (Ok value) not-err = (value, refl)
is_ok (Err fault) not-err = absurd (not-err refl)

pub loop-place-preserved : goal.loop-place-preserved
loop-place-preserved c =
    let inside = slice_get-within c.args.batch.now c.loop-place.place c.at.result c.at.ensures in
    let later = drop (c.loop-place.place + 1) c.args.batch.now in
    let split : drop c.loop-place.place c.args.batch.now ≡ c.at.result ∷ later =
    drop_more c.args.batch.now c.loop-place.place c.at.result inside ∙ ap (λ (one : Command). one ∷ later) (slice_get-read c.args.batch.now c.loop-place.place c.at.result c.at.ensures) in
    let here : IsOnTheWay c.args.live c.loop-place.live c.args.field c.args.batch.now (c.at.result ∷ later) =
    subst (IsOnTheWay c.args.live c.loop-place.live c.args.field c.args.batch.now) split c.loop-place.invariant in
    elim c.match-coded_range.branch [
      | in-Some+then-is_none w ↦
          let free : is_none (bit_of c.loop-place.live w.in-Some.range) ≡ true = ap is_none (sym w.bit_of.ensures.bit) ∙ ap not w.is_none.ensures ∙ ap (λ (t : Bool). not (not t)) w.if-is_none.true in
          let room = new_room c.args.live c.loop-place.live c.args.field c.args.batch.now c.at.result later w.in-Some.range (sym w.in-Some.ensures) free here in
          let assigned = w.assign-bit.ensures in
          let ok = is_ok w.assign-bit.result (λ fault. let full = assigned.full.0 fault in omega arith) in
          let gives : IsGivenBit c.loop-place.live w.assign-bit.new.self ok.0 w.in-Some.range =
          record {
            free = IfOk-at_ok (λ bit. range_at c.loop-place.live bit ≡ None) ok.1 assigned.free;
            now = IfOk-at_ok (λ bit. range_at w.assign-bit.new.self bit ≡ Some w.in-Some.range) ok.1 assigned.live;
            others = IfOk-at_ok (λ bit. (other : ℕ) → other ≢ bit → range_at w.assign-bit.new.self other ≡ range_at c.loop-place.live other) ok.1 assigned.others;
          } in
          let more = IfOk-at_ok (λ bit. live_count w.assign-bit.new.self ≡ live_count c.loop-place.live + 1) ok.1 assigned.more in
          subst (λ (l : LiveRanges). IsOnTheWay c.args.live l c.args.field c.args.batch.now later) (sym w.live-is)
          (on_new c.args.live c.loop-place.live w.assign-bit.new.self ok.0 c.args.field c.args.batch.now c.at.result later w.in-Some.range (sym w.in-Some.ensures) free gives assigned.next more here)
      | in-Some+else-is_none w ↦
          let has : is_none (bit_of c.loop-place.live w.in-Some.range) ≡ false = ap is_none (sym w.bit_of.ensures.bit) ∙ ap not w.is_none.ensures ∙ ap (λ (t : Bool). not (not t)) w.if-is_none.false in
          subst (λ (l : LiveRanges). IsOnTheWay c.args.live l c.args.field c.args.batch.now later) (sym w.live-is)
          (on_live c.args.live c.loop-place.live c.args.field c.args.batch.now c.at.result later w.in-Some.range (sym w.in-Some.ensures) has here)
      | in_default w ↦
          let none : coded_range c.args.field c.at.result ≡ None = grind (arith, common_steps) in
          subst (λ (l : LiveRanges). IsOnTheWay c.args.live l c.args.field c.args.batch.now later) (sym w.live-is)
          (on_none c.args.live c.loop-place.live c.args.field c.args.batch.now c.at.result later none here)
    ]
