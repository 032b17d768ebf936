use Rattle.std.proofs.Common.{rules, ◌≡◌, [], ◌∷◌, ◌<◌, List, ℕ, length, refl, subst, sym, arith}
use Rattle.commit_writes.proofs.Named.{AreDone, done_none, done_within, done_more, done_all}
use Rattle.commit_writes.proofs.batch.changes.changes_of.Goals as goal

pub loop-place-init : goal.loop-place-init
loop-place-init c = subst (AreDone c.args.rules.now.rules c.args.batch.now c.in_ok-last.last.entries) (sym c.new-changes.ensures.items) (done_none c.args.rules.now.rules c.args.batch.now c.in_ok-last.last c.in_ok-last.ensures)

pub at-requires : goal.at-requires
at-requires c =
    done_within c.args.rules.now.rules c.args.batch.now c.loop-place.last.entries c.pop_last.new.self.entries (c.in-Some.field-0-0, c.in-Some.place) c.loop-place.changes.items c.in-Some.ensures.removal c.loop-place.invariant

pub loop-place-preserved : goal.loop-place-preserved
loop-place-preserved c =
    done_more c.args.rules.now.rules c.args.batch.now c.loop-place.last.entries c.pop_last.new.self.entries (c.in-Some.field-0-0, c.in-Some.place) c.loop-place.changes.items c.push.new.self.items c.at.result
    c.requires.is_set c.requires.sound c.in-Some.ensures.removal c.loop-place.invariant c.at.ensures (search rules)

pub returns : goal.returns
returns c = done_all c.args.rules.now.rules c.args.batch.now c.loop-place.last.entries c.loop-place.changes.items (none_left c.loop-place.last.entries (λ some. let wrong = c.in_default.ensures.variant.1 some in cc)) c.loop-place.invariant
  where
    none_left : (left : List (ℕ × ℕ)) → (0 < length left → ⊥) → left ≡ []
    none_left [] none = refl
    none_left (entry ∷ left) none = absurd (none (omega arith))
