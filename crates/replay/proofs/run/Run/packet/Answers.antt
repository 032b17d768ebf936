-- The device answers as the set, and the line is written, or a part of it.
use Rattle.std.proofs.Common.{◌≡◌, false, ap, sym, subst, ◌∙◌}
use Rattle.replay.specs.Running.{Running, ShowsRules}
use Rattle.replay.proofs.between.Acts.{packet-carries, packet-cuts}
use Rattle.replay.proofs.run.Run.packet.Goals as goal

pub returns-in-Ok-clause-acts : goal.returns-in-Ok-clause-acts
returns-in-Ok-clause-acts g c = λ which.
    let shows = subst (λ (run : Running). ShowsRules run.manager) c.self.view_is c.self.invariant.shows in
    let words : c.args.self.now.json ≡ false = ap (λ (run : Running). run.json) (sym c.self.view_is) ∙ sym c.is_json.ensures ∙ c.if-is_json.false in
    packet-carries _ c.args.self.now _ c.args.key.now _ c.look.result _ _ shows c.requires.idle c.requires.slots c.key_fields.ensures (c.look.ensures)
    (c.family.ensures ∙ ap (λ (run : Running). run.family) c.self.view_is) words (c.in-Ok.ensures.whole which)

pub returns-in-Err-clause-acts : goal.returns-in-Err-clause-acts
returns-in-Err-clause-acts g c = λ which.
    let shows = subst (λ (run : Running). ShowsRules run.manager) c.self.view_is c.self.invariant.shows in
    let words : c.args.self.now.json ≡ false = ap (λ (run : Running). run.json) (sym c.self.view_is) ∙ sym c.is_json.ensures ∙ c.if-is_json.false in
    packet-cuts _ c.args.self.now _ c.args.key.now _ c.look.result _ _ shows c.requires.idle c.requires.slots c.key_fields.ensures (c.look.ensures)
    (c.family.ensures ∙ ap (λ (run : Running). run.family) c.self.view_is) words (c.in-Err.ensures.part which)
