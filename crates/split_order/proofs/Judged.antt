-- What a manager answers to a batch, by what its planner does.
use Rattle.std.proofs.Common.{◌≡◌, ℕ, Bool, true, Option, None, Some, Err, List, length, refl, sym, ◌∙◌, ap}
use Rattle.std.specs.Prelude.{◌&&◌, not, is_some, option_map}
use Rattle.rule_store.specs.declared.Command.{Command}
use Rattle.batch_order.specs.declared.Refusal.TheVariants as refusal
use Rattle.batch_order.specs.Managed.{HeldCommit, Managed}
use Rattle.split_device.specs.Flight.{written}
use Rattle.split_writes.specs.declared.SplitDone.{SplitDone}
use Rattle.split_order.specs.Left.{left_of}
use Rattle.split_order.specs.Managed.{SplitManaged, at_rest}
use Rattle.split_order.specs.Prepared.{HoldsSplit, JudgesSplit}
use Rattle.split_order.specs.Steps.{dropped, is_untouched}

-- busy with the parts that are left
pub busy_judged : (slots : ℕ) (m : SplitManaged) (held : Option HeldCommit) (batch : List Command) (left : ℕ) → Some left ≡ option_map (λ (one : HeldCommit). length (written (left_of slots m))) held
    → JudgesSplit slots m held batch (Err (refusal.Busy left))
busy_judged slots m None batch left told = absurd (cc)
busy_judged slots m (Some held) batch left told = let same : left ≡ length (written (left_of slots m)) = cc in ap (λ n. Err (refusal.Busy n)) same

pub none_left : (m : SplitManaged) (told : Option ℕ) (count : HeldCommit → ℕ) → told ≡ option_map count m.whole.held → ((n : ℕ) → told ≡ Some n → ⊥) → m.whole.held ≡ None
none_left m told count is none = go m.whole.held is
  where
    go : (held : Option HeldCommit) → told ≡ option_map count held → held ≡ None
    go None same = refl
    go (Some held) same = absurd (none (count held) same)

-- a plan that is dropped leaves the manager as it was
pub dropped_back : (old new last : SplitManaged) (batch : List Command) (counts : SplitDone) (did : Bool) → HoldsSplit old batch counts new → old.whole.held ≡ None → old ≡ at_rest old.whole old.events → did ≡ is_untouched new
    → last ≡ dropped did new → last ≡ old
dropped_back old new last batch counts did holds idle rest is gone =
    let whole = holds.whole.1.new_is in
    let untouched : is_untouched new ≡ true = ap (λ (b : Bool). not b && is_some new.whole.held) holds.begun ∙ ap (λ (w : Managed). is_some w.held) whole in
    let back : record new.whole { held = None } ≡ old.whole = ap (λ (w : Managed). record w { held = None }) whole ∙ ap (λ (h : Option HeldCommit). record old.whole { held = h }) (sym idle) in
    gone ∙ (ap (λ (b : Bool). dropped b new) (is ∙ untouched)
    ∙ (ap (λ (w : Managed). at_rest w new.events) back ∙ (ap (at_rest old.whole) holds.events ∙ sym rest)))
