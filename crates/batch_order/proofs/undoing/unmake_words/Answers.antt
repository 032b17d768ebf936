use Rattle.std.proofs.Common.{◌≡◌, ℕ, ◌+◌, ◌-◌, ◌∷◌, drop, length, ap, ap₂, sym, arith, ◌∙◌}
use Rattle.std.proofs.lemmas.List.{drop_all, drop_more}
use Rattle.tcam_device.specs.declared.Write.{Write}
use Rattle.tcam_device.specs.State.{apply}
use Rattle.batch_order.specs.Undoing.{unmade}
use Rattle.batch_order.proofs.undoing.unmake_words.Goals as goal

pub loop-place-init : goal.loop-place-init
loop-place-init c = ap (unmade c.args.tables.now) (sym (drop_all (length c.args.undo.now) c.args.undo.now (omega arith)))

pub loop-place-preserved : goal.loop-place-preserved
loop-place-preserved c =
    let undo = c.args.undo.now in
    let place = c.loop-place.place - 1 in
    let one : Write = c.index-undo-place.result in
    let next : place + 1 ≡ c.loop-place.place = omega arith in
    let rest : drop place undo ≡ one ∷ drop c.loop-place.place undo =
    drop_more undo place one (omega arith) ∙ ap₂ (λ (word : Write) (n : ℕ). word ∷ drop n undo) (sym c.index-undo-place.is) next in
    c.set.ensures ∙ (ap (λ now. apply now one) c.loop-place.invariant ∙ ap (unmade c.args.tables.now) (sym rest))

pub returns : goal.returns
returns c =
    let none : c.loop-place.place ≡ 0 = omega arith in
    c.loop-place.invariant ∙ ap (λ (n : ℕ). unmade c.args.tables.now (drop n c.args.undo.now)) none
