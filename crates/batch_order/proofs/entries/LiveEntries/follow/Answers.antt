use Rattle.std.proofs.Common.{◌≡◌, ◌+◌, ◌⊎◌, ◌∷◌, List, drop, arith, subst, sym, ap, ◌∙◌}
use Rattle.std.proofs.lemmas.List.{drop_all, drop_more}
use Rattle.placement.specs.declared.Move.{Move}
use Rattle.placement.specs.Ready.{AreToldBut}
use Rattle.move_planner.specs.Noted.{IsNamed}
use Rattle.batch_order.specs.Entries.{Entries}
use Rattle.batch_order.proofs.Told.{followed_put, told_all, told_over}
use Rattle.batch_order.proofs.entries.LiveEntries.follow.Goals.{in-Put, in_default}
use Rattle.batch_order.proofs.entries.LiveEntries.follow.Goals as goal

pub loop-place-preserved : goal.loop-place-preserved
loop-place-preserved c =
    let moves = c.args.moves.now in
    let was = c.loop-place.invariant in
    let rest : drop c.loop-place.place moves ≡ c.at.result ∷ drop (c.loop-place.place + 1) moves =
    drop_more moves c.loop-place.place c.at.result (omega arith) ∙ ap (λ (step : Move). step ∷ drop (c.loop-place.place + 1) moves) (sym c.at.ensures) in
    elim c.match-at.branch [
      | in-Put w ↦ record {
        live = ap (λ (e : Entries). e.live) w.self-is ∙ (w.tell.ensures.live ∙ was.live);
        entries = ap (λ (e : Entries). e.entries) w.self-is ∙ (w.tell.ensures.entries ∙ was.entries);
        slots = ap (λ (e : Entries). e.slots) w.self-is ∙ (w.tell.ensures.slots ∙ was.slots);
        told = λ others are.
            subst (λ (e : Entries). AreToldBut (λ id. IsNamed others id ⊎ IsNamed (drop (c.loop-place.place + 1) moves) id) e.live e.told c.args.arrangement.now) (sym w.self-is)
            (followed_put others (drop (c.loop-place.place + 1) moves) w.in-Put.field-0 w.in-Put.id c.loop-place.self w.tell.new.self c.args.arrangement.now w.tell.ensures.live w.tell.ensures.told w.tell.ensures.same
            (subst (λ (some : List Move). AreToldBut (λ id. IsNamed others id ⊎ IsNamed some id) c.loop-place.self.live c.loop-place.self.told c.args.arrangement.now)
            (rest ∙ ap (λ (step : Move). step ∷ drop (c.loop-place.place + 1) moves) w.in-Put.is) (was.told others are)));
      }
      | in_default w ↦ record {
        live = ap (λ (e : Entries). e.live) w.self-is ∙ was.live;
        entries = ap (λ (e : Entries). e.entries) w.self-is ∙ was.entries;
        slots = ap (λ (e : Entries). e.slots) w.self-is ∙ was.slots;
        told = λ others are.
            subst (λ (e : Entries). AreToldBut (λ id. IsNamed others id ⊎ IsNamed (drop (c.loop-place.place + 1) moves) id) e.live e.told c.args.arrangement.now) (sym w.self-is)
            (told_over others (drop (c.loop-place.place + 1) moves) c.at.result c.loop-place.self.live c.loop-place.self.told c.args.arrangement.now w.in_default.not-Put
            (subst (λ (some : List Move). AreToldBut (λ id. IsNamed others id ⊎ IsNamed some id) c.loop-place.self.live c.loop-place.self.told c.args.arrangement.now) rest (was.told others are)));
      }
    ]

pub returns-clause-told : goal.returns-clause-told
returns-clause-told c others are =
    told_all others c.loop-place.self.live c.loop-place.self.told c.args.arrangement.now
    (subst (λ (moves : List Move). AreToldBut (λ id. IsNamed others id ⊎ IsNamed moves id) c.loop-place.self.live c.loop-place.self.told c.args.arrangement.now)
    (drop_all c.loop-place.place c.args.moves.now (omega arith)) (c.loop-place.invariant.told others are))
