use Rattle.std.proofs.Common.{◌≡◌, ◌≤◌, ◌∙◌, sym, ap, length, sum, List, ℕ, ◌++◌, ◌∷◌, [], arith}
use Rattle.tcam_device.specs.declared.Write.{Write}
use Rattle.tcam_device.specs.declared.Action.{Action}
use Rattle.tcam_device.specs.declared.Action.TheVariants.{Written}
use Rattle.tcam_device.specs.Flight.{writes_in}
use Rattle.memory_tcam.specs.Tcam.{Logged, events_of}
use Rattle.memory_tcam.proofs.Logged.{writes_in-events_of, events_of-write}
use Rattle.memory_tcam.proofs.log.Log.write.Goals as goal
use Rattle.memory_tcam.proofs.log.Log.write.Goals.{in-Slot, in-Table}

logged : (old new : List Write) (gaps : List ℕ) (apart write : Write) (events : List Action) → apart ≡ write → new ≡ old ++ apart ∷ [] → sum gaps ≤ length old → events_of old gaps ≡ events
    → events_of new gaps ≡ events ++ Written write ∷ []
logged old new gaps apart write events same more inside is =
    ap (λ js. events_of js gaps) (more ∙ ap (λ (w : Write). old ++ w ∷ []) same) ∙ events_of-write old gaps write inside ∙ ap (λ xs. xs ++ Written write ∷ []) is

journalled : (old new : List Write) (gaps : List ℕ) (apart write : Write) (events : List Action) → apart ≡ write → new ≡ old ++ apart ∷ [] → events_of old gaps ≡ events
    → writes_in (events_of new gaps) ≡ writes_in events ++ write ∷ []
journalled old new gaps apart write events same more is =
    writes_in-events_of new gaps ∙ more ∙ ap (λ (w : Write). old ++ w ∷ []) same ∙ ap (λ js. js ++ write ∷ []) (sym (writes_in-events_of old gaps) ∙ ap writes_in is)

pub returns-clause-logged : goal.returns-clause-logged
returns-clause-logged c =
    let log = c.self.invariant in
    let before = log.before in
    let inside = log.inside in
    let room : sum c.self.inside.gaps.items ≤ length c.self.inside.journal.items = omega arith in
    let same : c.match-write.apart ≡ c.args.write.now = elim c.match-write.branch [ in-Slot w ↦ w.apart-is ∙ sym w.in-Slot.is | in-Table w ↦ w.apart-is ∙ sym w.in-Table.is ] in
    logged c.self.inside.journal.items c.push_reserved.new.self.items c.self.inside.gaps.items c.match-write.apart c.args.write.now c.args.self.now.events
    same c.push_reserved.ensures.items room (ap (λ (l : Logged). l.events) c.self.view_is)

pub returns-clause-journal : goal.returns-clause-journal
returns-clause-journal c =
    let same : c.match-write.apart ≡ c.args.write.now = elim c.match-write.branch [ in-Slot w ↦ w.apart-is ∙ sym w.in-Slot.is | in-Table w ↦ w.apart-is ∙ sym w.in-Table.is ] in
    journalled c.self.inside.journal.items c.push_reserved.new.self.items c.self.inside.gaps.items c.match-write.apart c.args.write.now c.args.self.now.events
    same c.push_reserved.ensures.items (ap (λ (l : Logged). l.events) c.self.view_is)
