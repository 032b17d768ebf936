use Rattle.std.proofs.Common.{sym, inl, inr}
use Rattle.std.specs.Prelude.{◌≡◌}
use Rattle.rule_model.specs.Entry.{RankedPiece, entry_for}
use Rattle.trace_check.specs.Coming.{IsFamiliar}
use Rattle.trace_check.proofs.ComesFound.{entry_comes, strange, crosses, too_early, some_of, none_of}
use Rattle.trace_check.proofs.commit.Commit.coming_entry.Goals as goal

pub returns-in_default-clause-wrong : goal.returns-in_default-clause-wrong
returns-in_default-clause-wrong c _ =
    strange c.args.self.now c.args.entry.now c.args.device.now c.args.at (c.in_ok-known.ensures.none (none_of c.in_ok-known.known c.in_default.not-Some))

pub returns-then-is_behind_lower-clause-wrong : goal.returns-then-is_behind_lower-clause-wrong
returns-then-is_behind_lower-clause-wrong c _ =
    let found = some_of (λ (ranked : RankedPiece). (entry_for ranked ≡ c.args.entry.now) × IsFamiliar c.args.self.now c.args.device.now.places ranked) c.in_ok-known.known c.in-Some.ranked c.in-Some.is c.in_ok-known.ensures.found in
    let low = c.is_behind_lower.ensures.some in
    crosses c.args.self.now c.args.entry.now c.args.device.now c.args.at c.in-Some.ranked found.0 found.1 (inl (low c.if-is_behind_lower.true))

pub returns-then-is_before_higher-clause-wrong : goal.returns-then-is_before_higher-clause-wrong
returns-then-is_before_higher-clause-wrong c _ =
    let found = some_of (λ (ranked : RankedPiece). (entry_for ranked ≡ c.args.entry.now) × IsFamiliar c.args.self.now c.args.device.now.places ranked) c.in_ok-known.known c.in-Some.ranked c.in-Some.is c.in_ok-known.ensures.found in
    let high = c.is_before_higher.ensures.some in
    crosses c.args.self.now c.args.entry.now c.args.device.now c.args.at c.in-Some.ranked found.0 found.1 (inr (high c.if-is_before_higher.true))

pub returns-then-not-serves-clause-wrong : goal.returns-then-not-serves-clause-wrong
returns-then-not-serves-clause-wrong c _ =
    let early = c.serves.ensures.wrong c.if-not-serves.true in
    too_early c.args.self.now c.args.entry.now c.args.device.now c.args.at c.any_matches-puts.result (rw c.deref.ensures.value at c.any_matches-puts.ensures) early.0 early.1 early.2

pub invariant_of-content : goal.invariant_of-content
invariant_of-content c = let found = some_of (λ (ranked : RankedPiece). (entry_for ranked ≡ c.args.entry.now) × IsFamiliar c.args.self.now c.args.device.now.places ranked) c.in_ok-known.known c.in-Some.ranked c.in-Some.is c.in_ok-known.ensures.found in sym found.0

pub returns-clause-right : goal.returns-clause-right
returns-clause-right c =
    let found = some_of (λ (ranked : RankedPiece). (entry_for ranked ≡ c.args.entry.now) × IsFamiliar c.args.self.now c.args.device.now.places ranked) c.in_ok-known.known c.in-Some.ranked c.in-Some.is c.in_ok-known.ensures.found in
    let ahead = c.is_behind_lower.ensures.none in
    let behind = c.is_before_higher.ensures.none in
    entry_comes c.args.self.now c.args.entry.now c.args.device.now c.args.at c.in-Some.ranked c.any_matches-puts.result found.0 found.1 (ahead c.if-is_behind_lower.false) (behind c.if-is_before_higher.false)
    (rw c.deref.ensures.value at c.any_matches-puts.ensures) (c.serves.ensures.right c.if-not-serves.false)
