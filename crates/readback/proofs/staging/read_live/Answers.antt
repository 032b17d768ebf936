use Rattle.std.proofs.Common.{sym, subst}
use Rattle.std.proofs.lemmas.Result.{err_from_is_err_and}
use Rattle.readback.specs.Fault.{AreSetBits}
use Rattle.readback.proofs.StageFound.{differ_answers, maps_are, is_read}
use Rattle.readback.proofs.staging.read_live.Goals as goal
use Rattle.tcam_device.specs.View.{journal}

pub returns-in_err-check_maps-clause-wrong : goal.returns-in_err-check_maps-clause-wrong
returns-in_err-check_maps-clause-wrong g c =
    let p = err_from_is_err_and c.from_residual.result c.from_residual.ensures.1 in
    rw (p.1, p.2) (differ_answers _ _ _ _ _ _ _ c.in_err-check_maps.ensures.differ)

pub live_meanwhile-live-requires-clause-are : goal.live_meanwhile-live-requires-clause-are
live_meanwhile-live-requires-clause-are g c =
    subst (AreSetBits c.args.mode c.args.parts.now.rules.rules) (sym (maps_are c.of_maps-bits.result c.args.parts.now.src c.args.parts.now.dst c.of_maps-bits.ensures.src c.of_maps-bits.ensures.dst)) c.in_ok-check_maps.ensures.are

pub returns-clause-read : goal.returns-clause-read
returns-clause-read g c =
    let maps = c.in_ok-check_maps.ensures in
    let words = c.in_ok-check_words.ensures in
    let live = c.live_meanwhile-live in
    is_read c.args.slots c.args.mode c.args.parts.now.src c.args.parts.now.dst c.args.parts.now.rules.rules c.args.batch.now (g.D.Writable.view c.args.device.now).slots (journal (g.D.Writable.view c.args.device.now))
    live.result c.of_maps-bits.result c.requires.accepted c.right_rules.ensures.is_set c.right_rules.ensures.right c.changes_rules.ensures maps.src maps.dst maps.are
    c.of_maps-bits.ensures.src c.of_maps-bits.ensures.dst words.right words.short live.ensures.coded live.ensures.during
