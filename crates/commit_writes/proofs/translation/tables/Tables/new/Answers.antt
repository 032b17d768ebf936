use Rattle.std.proofs.Common.{◌≡◌, ℕ, List, [], ap, sym, ◌∙◌, subst, replicate}
use Rattle.tcam_device.specs.State.{State, IsState, blank, blank_table}
use Rattle.tcam_device.proofs.Kept.{blank_table-is}
use Rattle.tcam_device.proofs.States.{IsState-blank}
use Rattle.commit_writes.proofs.translation.tables.Tables.new.Goals as goal

blank-is : (src dst : List ℕ) → src ≡ replicate 65536 0 → dst ≡ replicate 65536 0 → ◌≡◌ {A = State} (record { slots = []; src = src; dst = dst }) (blank 0)
blank-is src dst s d =
    ap (λ (l : List ℕ). let state : State = record { slots = []; src = l; dst = dst } in state) (s ∙ sym blank_table-is)
    ∙ ap (λ (l : List ℕ). let state : State = record { slots = []; src = blank_table; dst = l } in state) (d ∙ sym blank_table-is)

pub returns : goal.returns
returns c = blank-is c.in_ok-src.src.items c.in_ok-dst.dst.items (c.in_ok-src.ensures.items_if_clones_equal (λ y h. h)) (c.in_ok-dst.ensures.items_if_clones_equal (λ y h. h))

pub invariant_of-result : goal.invariant_of-result
invariant_of-result c = subst (IsState 0) (sym (returns c)) (IsState-blank 0)
