use Rattle.std.proofs.Common.{◌≡◌, ◌-◌, ◌∷◌, ℕ, List, length, arith, refl, ap, ◌∙◌}
use Rattle.std.specs.Prelude.{slice_index_or}
use Rattle.placement.specs.Live.{is_above, rank_in}
use Rattle.placement.specs.Placement.{last_of, landing_down, landing_up}
use Rattle.move_planner.proofs.Landings.{last_at}
use Rattle.move_planner.proofs.landing.landed.Goals.{then-last-chain, else-last-chain}
use Rattle.move_planner.proofs.landing.landed.Goals as goal

-- the slot of the last member
ends_with : (from : ℕ) (rest members : List ℕ) (free : ℕ) → members ≡ from ∷ rest → slice_index_or members (length members - 1) free ≡ last_of from rest
ends_with from rest members free is =
    ap (λ (m : List ℕ). slice_index_or m (length m - 1) free) is ∙ last_at from rest free (length (from ∷ rest) - 1) (omega arith)

pub returns : goal.returns
returns c = record {
  same = refl;
  down = λ from rest is less.
      let last : c.last-last.result ≡ last_of from rest = c.last-last.ensures ∙ ends_with from rest c.args.chain.members.items c.args.chain.free is in
      elim c.if-last-chain.branch [
        | then-last-chain w ↦ w.free-is ∙ (w.landing_down-free.ensures
            ∙ ap (landing_down (is_above c.args.index.now.live) (rank_in c.args.index.now.live) (record { aim = c.args.aim; coming = c.args.coming.now }) c.args.slots.now c.args.chain.free) last)
        | else-last-chain w ↦ absurd (let past = w.if-last-chain.false in omega arith)
      ];
  up = λ from rest is less.
      let last : c.last-last.result ≡ last_of from rest = c.last-last.ensures ∙ ends_with from rest c.args.chain.members.items c.args.chain.free is in
      elim c.if-last-chain.branch [
        | then-last-chain w ↦ absurd (let past = w.if-last-chain.true in omega arith)
        | else-last-chain w ↦ w.free-is ∙ (w.landing_up-free.ensures
            ∙ ap (landing_up (is_above c.args.index.now.live) (rank_in c.args.index.now.live) (record { aim = c.args.aim; coming = c.args.coming.now }) c.args.slots.now c.args.chain.free) last)
      ];
}
