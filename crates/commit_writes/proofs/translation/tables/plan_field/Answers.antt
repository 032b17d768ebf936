use Rattle.std.proofs.Common.{◌++◌, List, sym, ap, ◌∙◌}
use Rattle.std.proofs.lemmas.List.{append-nil}
use Rattle.tcam_device.specs.declared.Write.{Write}
use Rattle.commit_writes.proofs.NoWords.{no_writes}
use Rattle.commit_writes.proofs.translation.tables.plan_field.Goals as goal

pub returns-then-live-eq0 : goal.returns-then-live-eq0
returns-then-live-eq0 c =
    let none = no_writes c.args.field c.args.new.now c.args.words.now c.live.ensures.map cc in
    sym (ap (λ (l : List Write). c.args.writes.now.items ++ l) none ∙ append-nil c.args.writes.now.items)
