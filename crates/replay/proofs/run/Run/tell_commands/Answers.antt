-- One line more is told, or cut.
use Rattle.std.proofs.Common.{rules, ◌≡◌, ◌<◌, ◌∙◌, length, Some, ap, arith}
use Rattle.std.specs.Prelude.{slice_get}
use Rattle.replay.specs.Running.{Running, setting_of}
use Rattle.report_lines.specs.Text.{family_version}
use Rattle.replay.proofs.lines.Opened.{of_commands, opening-cut, opening-more}
use Rattle.replay.proofs.lines.Telling.{line-cut}
use Rattle.replay.proofs.run.Run.tell_commands.Goals as goal

pub returns-in_err-write_behind : goal.returns-in_err-write_behind
returns-in_err-write_behind g c =
    let commits : c.self.inside.commits ≡ c.args.self.now.commits = ap (λ (run : Running). run.commits) c.self.view_is in
    rw c.requires.json (line-cut g.K.Sink.taken g.K.Sink.accepted g.K.Sink.faults _ (of_commands (family_version c.args.self.now.family) c.args.self.now.pending) c.from_residual.result _ _ _ c.from_residual.ensures.0
    (rw (c.head_due.ensures, commits) at c.in_err-write_behind.ensures))

pub returns-in_err-write_json : goal.returns-in_err-write_json
returns-in_err-write_json g c =
    let i = c.loop-place.invariant in
    let same = ap (λ (run : Running). run.pending) c.self.view_is in
    let is : slice_get c.args.self.now.pending c.loop-place.place ≡ Some c.at.result = rw same at c.at.ensures in
    let family = ap (λ (run : Running). run.family) c.self.view_is in
    let line = rw (c.change_line.ensures, c.version-version.ensures, c.family.ensures, family) at c.in_err-write_json.ensures in
    record {
      whole = λ which. search rules;
      part = λ which. opening-cut (setting_of c.args.self.now) c.args.self.now.commits c.args.self.now.pending _ _ _ c.loop-place.place c.at.result is (i.told which) c.requires.json c.from_residual-in_err-write_json.result (line.part which);
      told = λ some. line.told (i.stays some);
      cause = search rules;
    }

pub loop-place-preserved : goal.loop-place-preserved
loop-place-preserved g c =
    let i = c.loop-place.invariant in
    let same = ap (λ (run : Running). run.pending) c.self.view_is in
    let is : slice_get c.args.self.now.pending c.loop-place.place ≡ Some c.at.result = rw same at c.at.ensures in
    let family = ap (λ (run : Running). run.family) c.self.view_is in
    let line = rw (c.change_line.ensures, c.version-version.ensures, c.family.ensures, family) at c.in_ok-write_json.ensures in
    let within : c.loop-place.place < length c.args.self.now.pending = search rules in
    record {
      told = λ which. opening-more (setting_of c.args.self.now) c.args.self.now.commits c.args.self.now.pending _ _ _ c.loop-place.place c.at.result is (i.told which) (line.whole which);
      within = omega (arith, within);
      stays = λ some. line.told (i.stays some);
      faults = line.cause.stayed ∙ i.faults;
    }
