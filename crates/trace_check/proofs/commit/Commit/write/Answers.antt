use Rattle.std.proofs.Common.{refl, sym, ap, subst}
use Rattle.std.specs.Prelude.{option_copied}
use Rattle.trace_check.specs.declared.commit.Coming.{Coming}
use Rattle.trace_check.specs.declared.commit.Commit.{Commit}
use Rattle.trace_check.specs.Behind.{entries_in}
use Rattle.trace_check.specs.Coming.{ComesRight}
use Rattle.trace_check.specs.Kept.{pieces_kept}
use Rattle.trace_check.specs.Local.{KeepsTwins}
use Rattle.trace_check.proofs.ComesFound.{none_of, some_of}
use Rattle.trace_check.proofs.RefusedWrites.{not_coming, not_going, not_twins}
use Rattle.trace_check.proofs.WritesFound.{early_found, counted_found, kept_behind}
use Rattle.trace_check.proofs.commit.Commit.write.Goals as goal

pub returns-in_default-clause-refused : goal.returns-in_default-clause-refused
returns-in_default-clause-refused c _ slots mode bits rules batch used kept later = not_coming slots mode bits rules batch c.args.device.now c.args.self.now kept c.args.at used c.requires.inside (option_copied c.args.entry) later (c.in_ok-came.ensures.wrong (none_of c.in_ok-came.came c.in_default.not-Some))

pub returns-then-not-may_go-clause-refused : goal.returns-then-not-may_go-clause-refused
returns-then-not-may_go-clause-refused c _ slots mode bits rules batch used kept later =
    let right = some_of (λ (coming : Coming). ComesRight c.args.self.now c.args.device.now c.args.at (option_copied c.args.entry) coming.content coming.puts) c.in_ok-came.came c.in-Some.field-0 c.in-Some.is c.in_ok-came.ensures.right in
    let stuck = c.may_go.ensures.wrong in
    let w = stuck c.if-not-may_go.true in
    not_going slots mode bits rules batch c.args.device.now c.args.self.now kept c.args.at used c.requires.inside (option_copied c.args.entry) later c.in-Some.field-0.content right.is w.0 w.1 w.2

pub returns-in_default-pair_behind-clause-refused : goal.returns-in_default-pair_behind-clause-refused
returns-in_default-pair_behind-clause-refused c _ slots mode bits rules batch used kept later =
    let right = some_of (λ (coming : Coming). ComesRight c.args.self.now c.args.device.now c.args.at (option_copied c.args.entry) coming.content coming.puts) c.in_ok-came.came c.in-Some.field-0 c.in-Some.is c.in_ok-came.ensures.right in
    let broken = c.in_default-pair_behind.ensures.broken in
    not_twins slots mode bits rules batch c.args.device.now c.args.self.now kept c.args.at used c.requires.inside (option_copied c.args.entry) later (λ keeps. broken kept.stage.twins kept.pair (subst (KeepsTwins (entries_in c.args.device.now.places) c.args.at) (sym right.is) keeps))

pub returns-in_default-count_tasks-clause-refused : goal.returns-in_default-count_tasks-clause-refused
returns-in_default-count_tasks-clause-refused c _ slots mode bits rules batch used kept later =
    let right = some_of (λ (coming : Coming). ComesRight c.args.self.now c.args.device.now c.args.at (option_copied c.args.entry) coming.content coming.puts) c.in_ok-came.came c.in-Some.field-0 c.in-Some.is c.in_ok-came.ensures.right in
    early_found slots mode bits rules batch c.args.device.now c.args.self.now kept c.args.at used c.requires.inside c.in-Some.field-0.content (option_copied c.args.entry) right.is c.set.new.self c.in_ok-before.before
    c.in_ok-before.ensures.placed
    c.in_ok-before.ensures.stood later
    (c.in_default-count_tasks.ensures.early refl)

pub returns-clause-taken : goal.returns-clause-taken
returns-clause-taken c _ slots mode bits rules batch used kept =
    let right = some_of (λ (coming : Coming). ComesRight c.args.self.now c.args.device.now c.args.at (option_copied c.args.entry) coming.content coming.puts) c.in_ok-came.came c.in-Some.field-0 c.in-Some.is c.in_ok-came.ensures.right in
    let goes = c.may_go.ensures.right in
    let paired = c.in-Ok.ensures.kept in
    let e = c.come_to.ensures.others in
    kept_behind slots mode bits rules batch c.args.device.now c.args.self.now kept c.args.at used c.requires.inside c.in-Some.field-0.content (option_copied c.args.entry) right.is c.in-Some.field-0.puts right (goes c.if-not-may_go.false) c.in-Ok.pair paired c.in-Some-count_tasks.done
    (counted_found slots mode bits rules batch c.args.device.now c.args.self.now kept c.args.at used c.requires.inside c.in-Some.field-0.content (option_copied c.args.entry) right.is c.set.new.self c.in_ok-before.before c.in-Some-count_tasks.done
    c.in_ok-before.ensures.placed
    c.in_ok-before.ensures.stood
    c.in-Some-count_tasks.ensures.parted)
    _ c.come_to.new.self c.in_ok-before.ensures.placed refl refl
    (ap pieces_kept e) (ap (λ (k : Commit). k.live) e) (ap (λ (k : Commit). k.gives_bit) e) (ap (λ (k : Commit). k.done) e) (ap (λ (k : Commit). k.pair) e) c.come_to.ensures.served
